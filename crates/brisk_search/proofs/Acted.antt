-- What comes of a thread's turn that stays: what is told of it holds, and a compound head has a try.
use Rattle.std.proofs.Common.{◌≡◌, ℕ, zero, suc, Bool, true, false, List, [], ◌∷◌, Option, Some, None, refl, sym, ap, ◌∙◌, subst, true≢false}
use Rattle.std.specs.Prelude.{map, ◌||◌, Ok, Err, ◌&&◌, nat_lt, if◌then◌else◌, is_some, filter, cond}
use Rattle.brisk_values.specs.declared.value.Value.{Value}
use Rattle.brisk_values.specs.declared.value.Value.TheVariants as value
use Rattle.brisk_values.specs.Names.{Name, same_name}
use Rattle.brisk_values.proofs.Changes.{name_laws, exact_name}
use Rattle.brisk_syntax.specs.declared.program.Program.{Program}
use Rattle.brisk_syntax.specs.declared.tree.Who.TheVariants as who
use Rattle.brisk_syntax.specs.Substitution.{code_with}
use Rattle.brisk_syntax.specs.Syntax.{Assign, Send, Recv, RecvAny, If, IfElse, While, For, Repeat, Code, done, ◌⨾◌, ◌then◌}
use Rattle.brisk_syntax.specs.Typing.{is_among}
use Rattle.brisk_facts.specs.Facts.{is_known}
use Rattle.brisk_facts.specs.Learning.{folded}
use Rattle.brisk_state.specs.declared.thread.Mode.{Mode}
use Rattle.brisk_state.specs.declared.thread.Mode.TheVariants.{One, At, Each}
use Rattle.brisk_state.specs.declared.thread.Thread.{Thread}
use Rattle.brisk_state.specs.Symbolic.{Symbolic, thread_named, active_code, is_active, code_at}
use Rattle.brisk_basic.specs.declared.rule.RuleFault.{RuleFault}
use Rattle.brisk_basic.specs.Basic.{Applied, at_thread, known, decided}
use Rattle.brisk_basic.specs.Outcomes.{when, and_then}
use Rattle.brisk_derivation.specs.declared.fault.SideFault.TheVariants as side
use Rattle.brisk_derivation.specs.declared.steps.BasicStep.{BasicStep}
use Rattle.brisk_derivation.specs.declared.steps.BasicStep.TheVariants as basic
use Rattle.brisk_derivation.specs.declared.steps.Fact.{Fact}
use Rattle.brisk_derivation.specs.Reports.{Try, Tried, TryEnd}
use Rattle.brisk_derivation.specs.Steps.{Step}
use Rattle.brisk_derivation.specs.Steps as step
use Rattle.brisk_rules.specs.declared.why.Why.TheVariants.{Rule as BasicFault, Side}
use Rattle.brisk_rules.specs.Derives.{apply_quietly, rule_of}
use Rattle.brisk_rules.specs.Heads.{Loop, fork_of, while_of, repeat_of, for_of, any_of}
use Rattle.brisk_rules.specs.Rules.{loops_of, is_nonempty, Outcome, Entered, Parted, at_head, mode_of, not_focused, can_focus, code_in, enter_while, enter_for, enter_repeat, enter_pick, enter_branch}
use Rattle.brisk_rules.specs.Standing.{stands_at, is_movable, thread_names, movable, thread_of, least_free}
use Rattle.brisk_rules.specs.Reports.{is_compound, is_over_a_set, is_for, try_holds, after_head}
use Rattle.brisk_rules.specs.Following.{Follow}
use Rattle.brisk_sound.proofs.Strict.{quietly}
use Rattle.brisk_search.specs.Turns.{RulesLeft, Failures, Turn, Goes, Stays, Attempt, stay, where_it_stays, ◌otherwise◌, due}
use Rattle.brisk_search.specs.Turns as turn
use Rattle.brisk_search.specs.Drives.{Driver, side_of}
use Rattle.brisk_search.specs.Tries.{Rule, while_rule, for_rule, repeat_rule, gather_rule, pick_rule, nine_tries, branch}
use Rattle.brisk_search.specs.Advance.{Around, applied, basically, filled, threads_at, several, acts}
use Rattle.brisk_search.specs.Passes.{last_try}
use Rattle.brisk_search.proofs.Heads.{IsRule, is_while, is_for as is_for_rule, is_repeat, is_gather, is_pick}
use Rattle.brisk_search.proofs.Pushing.{WhereStays, Pushes, Parts, BelowTells, SidesTell, LastCloses, nine_push, branch_pushes}
use Rattle.brisk_search.proofs.Pushing as push

-- goes on where a turn stays
pub then_on : (A B : Failures → Type 0) (next : Attempt) (t : Turn) → WhereStays A t → ((gs : Failures) (left : RulesLeft) → A gs → WhereStays B (next gs left)) → WhereStays B (where_it_stays next t)
then_on A B next (Goes step items S left) g h = tt
then_on A B next (Stays gs left) g h = h gs left g
then_on A B next turn.Spent g h = tt

pub weaker : (A B : Failures → Type 0) (t : Turn) → ((gs : Failures) → A gs → B gs) → WhereStays A t → WhereStays B t
weaker A B (Goes step items S left) h g = tt
weaker A B (Stays gs left) h g = h gs g
weaker A B turn.Spent h g = tt

-- a basic rule tells nothing
told_nothing : (b : BasicStep) (o : Outcome Applied) (fs : Failures) (left : RulesLeft) → WhereStays (λ gs. gs ≡ fs) (applied b o fs left)
told_nothing b (Ok r) fs None = tt
told_nothing b (Ok r) fs (Some zero) = tt
told_nothing b (Ok r) fs (Some (suc n)) = tt
told_nothing b (Err why) fs left = refl

pub basic_tells_nothing : (around : Around) (S : Symbolic) (b : BasicStep) (fs : Failures) (left : RulesLeft) → WhereStays (λ gs. gs ≡ fs) (basically around S b fs left)
basic_tells_nothing around S b = told_nothing b (apply_quietly around.program around.follows S (rule_of b))

-- a name among others that pass a test
pub among_those : (test : Name → Bool) (t : Name) (ts : List Name) → is_among ts t ≡ true → test t ≡ true → is_among (filter test ts) t ≡ true
among_those test t [] e h = absurd (true≢false (sym e))
among_those test t (u ∷ us) e h = one_of (same_name t u) refl e (λ f. among_those test t us f h) (test u) refl
  where
    one_of : (same : Bool) → same_name t u ≡ same → (same || is_among us t) ≡ true → (is_among us t ≡ true → is_among (filter test us) t ≡ true) → (passes : Bool) → test u ≡ passes →
        is_among (cond passes (u ∷ filter test us) (filter test us)) t ≡ true
    one_of true q e more true p = rw q refl
    one_of true q e more false p = absurd (true≢false (sym h ∙ ap test (exact_name t u q) ∙ p))
    one_of false q e more true p = rw q (more e)
    one_of false q e more false p = more e

-- a thread is among the threads
pub named : (t : Name) (ts : List Thread) (u : Thread) → thread_named ts t ≡ Some u → is_among (map (λ u. u.name) ts) t ≡ true
named t [] u e = cc
named t (v ∷ vs) u e = one_of (same_name t v.name) refl e (named t vs u)
  where
    one_of : (same : Bool) → same_name t v.name ≡ same → (if same then Some v else thread_named vs t) ≡ Some u → (thread_named vs t ≡ Some u → is_among (map (λ u. u.name) vs) t ≡ true) →
        (same_name t v.name || is_among (map (λ u. u.name) vs) t) ≡ true
    one_of true q e more = rw q refl
    one_of false q e more = rw q (more e)

-- a thread that rules move
pub among_movable : (S : Symbolic) (t : Name) (code : Code) → code_at S t ≡ Some code → is_among (movable S) t ≡ true
among_movable S t code e = among_those (is_movable S) t (thread_names S) (go (thread_named S.threads t) refl e) (ap is_some e)
  where
    go : (o : Option Thread) → thread_named S.threads t ≡ o → active_code o ≡ Some code → is_among (thread_names S) t ≡ true
    go None q h = cc
    go (Some u) q h = named t S.threads u q

-- it stands at its code
pub stands : (S : Symbolic) (t : Name) (code : Code) → code_at S t ≡ Some code → stands_at S t ≡ code
stands S t code e = go (thread_named S.threads t) e
  where
    moved : (m : Bool) (c : Code) → (if m then Some c else None) ≡ Some code → c ≡ code
    moved true c h = cc
    moved false c h = cc

    go : (o : Option Thread) → active_code o ≡ Some code → code_in o ≡ code
    go None h = cc
    go (Some u) h = moved (is_active u.mode) u.code h

-- the head is there
at_this : {A H : Type 0} (S : Symbolic) (t : Name) (code : Code) (head : Code → Option H) (go : H → Outcome A) (h : H) → code_at S t ≡ Some code → head code ≡ Some h → at_head S t head go ≡ go h
at_this S t code head go h e f = rw e (rw f refl)

not_refused : {A : Type 0} (o : Outcome A) (a : A) (why : RuleFault) → o ≡ Ok a → o ≡ Err (BasicFault why) → ⊥
not_refused {A = A} o a why e f = let g : ◌≡◌ {A = Outcome A} (Ok a) (Err (BasicFault why)) = sym e ∙ f in cc

module _ (P : Program) (deep : ℕ) (F : Follow) where
  -- what is told of each of these holds
  abbrev pub AllHold : Symbolic → Failures → Type 0
  AllHold S [] = Unit {0}
  AllHold S (f ∷ fs) = (try_holds P deep F S f.1 ≡ true) × AllHold S fs

  -- what is told at a thread's head: it holds, and other threads' tries are as before
  pub record TellsAt (S : Symbolic) (t : Name) (fs gs : Failures) : Type 0 where
    pub hold : AllHold S fs → AllHold S gs
    pub others : (u : Name) → same_name u t ≡ false → last_try gs u ≡ last_try fs u
    pub grows : (u : Name) → is_some (last_try fs u) ≡ true → is_some (last_try gs u) ≡ true

  -- the last try at the thread's head is by a rule that passes the test
  pub record LastBy (test : Step → Bool) (t : Name) (gs : Failures) : Type 0 where
    pub rule : Step
    pub end : TryEnd
    pub is : last_try gs t ≡ Some (Tried rule end)
    pub by : test rule ≡ true

  -- a turn: where a compound rule begins at the head, the last try is by a rule for it
  pub record Acted (S : Symbolic) (t : Name) (code : Code) (fs gs : Failures) : Type 0 where
    pub tells : TellsAt S t fs gs
    pub tried : is_compound S code ≡ true → LastBy (is_for t code) t gs

  nothing_told : (S : Symbolic) (t : Name) (fs : Failures) → TellsAt S t fs fs
  nothing_told S t fs = record { hold = λ h. h; others = λ u d. refl; grows = λ u h. h }

  nothing_at : (S : Symbolic) (t : Name) (fs gs : Failures) → gs ≡ fs → TellsAt S t fs gs
  nothing_at S t fs gs e = subst (λ hs. TellsAt S t fs hs) (sym e) (nothing_told S t fs)

  pub first_then : (S : Symbolic) (t : Name) (fs gs hs : Failures) → TellsAt S t fs gs → TellsAt S t gs hs → TellsAt S t fs hs
  first_then S t fs gs hs a b = record { hold = λ h. b.hold (a.hold h); others = λ u d. b.others u d ∙ a.others u d; grows = λ u h. b.grows u (a.grows u h) }

  one_more : (fs : Failures) (t u : Name) (a : Try) → is_some (last_try fs u) ≡ true → (same : Bool) → is_some (if same then Some a else last_try fs u) ≡ true
  one_more fs t u a h true = refl
  one_more fs t u a h false = h

  pub told_at : (S : Symbolic) (t : Name) (a : Try) (fs : Failures) → try_holds P deep F S a ≡ true → TellsAt S t fs ((t, a) ∷ fs)
  told_at S t a fs h = record {
    hold = λ g. (h, g);
    others = λ u d. rw d refl;
    grows = λ u g. one_more fs t u a g (same_name u t);
  }

  pub last_is : (t : Name) (rule : Step) (end : TryEnd) (fs : Failures) (test : Step → Bool) → test rule ≡ true → LastBy test t ((t, Tried rule end) ∷ fs)
  last_is t rule end fs test h = record { rule = rule; end = end; is = rw (name_laws.refl t) refl; by = h }

  -- the rule is told, or refused
  pub rule_tells : (S : Symbolic) (rule : Rule) (fs gs : Failures) → Pushes P deep F S rule fs gs → TellsAt S rule.at fs gs
  rule_tells S rule fs _ (push.pushes drops a end h) = told_at S rule.at (Tried (rule.step drops a) end) fs h
  rule_tells S rule fs _ (push.refuses drops why e) = nothing_told S rule.at fs

  rule_last : (S : Symbolic) (rule : Rule) (fs gs : Failures) (test : Step → Bool) → ((drops : List Fact) (a : _) → test (rule.step drops a) ≡ true) → ((drops : List Fact) (why : _) → rule.enter drops ≡ Err (BasicFault why) → ⊥) →
      Pushes P deep F S rule fs gs → LastBy test rule.at gs
  rule_last S rule fs _ test h never (push.pushes drops a end k) = last_is rule.at (rule.step drops a) end fs test (h drops a)
  rule_last S rule fs _ test h never (push.refuses drops why e) = absurd (never drops why e)

  -- what drives the premises of rules in this state, and the sides of branches, tells what holds
  pub record Ready (below : Option Driver) (S : Symbolic) : Type 0 where
    pub premises : (rule : Rule) → IsRule P F S rule → (drops : List Fact) (r : Entered) → rule.enter drops ≡ Ok r → BelowTells P deep F below (rule.follows r) r
    pub sides : (t : Name) (p : Parted) → enter_branch S t ≡ Ok p → SidesTell P deep F below t (after_head (stands_at S t)) p.first × SidesTell P deep F below t (after_head (stands_at S t)) p.second
    pub last : (rule : Rule) → IsRule P F S rule → LastCloses P deep F S rule below

  module _ (below : Option Driver) (fits : nat_lt deep 256 ≡ is_some below) (S : Symbolic) (ready : Ready below S) where
    abbrev pub around : Around
    around = record { program = P; below = below; side = side_of; follows = F }

    pub nine_tell : (rule : Rule) → IsRule P F S rule → (fs : Failures) (left : RulesLeft) → WhereStays (Pushes P deep F S rule fs) (nine_tries P below S rule fs left)
    nine_tell rule is = nine_push P deep F S rule is below (ready.premises rule is) fits (ready.last rule is)

    module _ (t : Name) where
      idle : (code : Code) (fs gs : Failures) → is_compound S code ≡ false → gs ≡ fs → Acted S t code fs gs
      idle code fs gs plain e = record { tells = nothing_at S t fs gs e; tried = λ yes. absurd (true≢false (sym yes ∙ plain)) }

      by_basic : (code : Code) (b : BasicStep) → is_compound S code ≡ false → (fs : Failures) (left : RulesLeft) → WhereStays (Acted S t code fs) (basically around S b fs left)
      by_basic code b plain fs left = weaker (λ gs. gs ≡ fs) (Acted S t code fs) (basically around S b fs left) (λ gs e. idle code fs gs plain e) (basic_tells_nothing around S b fs left)

      fills : (code : Code) (u c : Name) (n : Option ℕ) → is_compound S code ≡ false → (fs : Failures) (left : RulesLeft) → WhereStays (Acted S t code fs) (filled around S t u c n fs left)
      fills code u c None plain fs left = idle code fs fs plain refl
      fills code u c (Some n) plain fs left = by_basic code (basic.Fill t u c n) plain fs left

      -- a basic rule, and then the rest of the turn
      after_basic : (A : Failures → Failures → Type 0) (b : BasicStep) (next : Attempt) (fs : Failures) (left : RulesLeft) → ((left : RulesLeft) → WhereStays (A fs) (next fs left)) → WhereStays (A fs) ((basically around S b otherwise next) fs left)
      after_basic A b next fs left h =
          then_on (λ gs. gs ≡ fs) (A fs) next (basically around S b fs left) (basic_tells_nothing around S b fs left) (λ gs l e. subst (λ z. WhereStays (A fs) (next z l)) (sym e) (h l))

      -- a basic rule at the end of the turn
      before_basic : (A : Failures → Type 0) (attempt : Attempt) (b : BasicStep) (fs : Failures) (left : RulesLeft) → WhereStays A (attempt fs left) → WhereStays A ((attempt otherwise basically around S b) fs left)
      before_basic A attempt b fs left h =
          then_on A A (basically around S b) (attempt fs left) h (λ gs l a. weaker (λ hs. hs ≡ gs) A (basically around S b gs l) (λ hs e. subst A (sym e) a) (basic_tells_nothing around S b gs l))

      module _ (there : code_at S t ≡ Some (stands_at S t)) where
        -- no rule with one owner is refused at its head
        while_there : (e : _) (b rest : Code) → stands_at S t ≡ While e b ⨾ rest → (drops : List Fact) (why : _) → enter_while S t drops ≡ Err (BasicFault why) → ⊥
        while_there e b rest is drops why f = not_refused _ _ why (at_this S t (stands_at S t) while_of _ _ there (ap while_of is)) f

        repeat_there : (s : Name) (b rest : Code) → stands_at S t ≡ Repeat s zero b ⨾ rest → (drops : List Fact) (why : _) → enter_repeat S t drops ≡ Err (BasicFault why) → ⊥
        repeat_there s b rest is drops why f = not_refused _ _ why (at_this S t (stands_at S t) repeat_of _ _ there (ap repeat_of is)) f

        never_focused : {A : Type 0} (m : Option Mode) (o : Outcome A) (why : _) → (o ≡ Err (BasicFault why) → ⊥) → not_focused m o ≡ Err (BasicFault why) → ⊥
        never_focused (Some At) o why h f = cc
        never_focused (Some One) o why h f = h f
        never_focused (Some Each) o why h f = h f
        never_focused None o why h f = h f

        never_empty : {A : Type 0} (b : Bool) (o : Outcome A) (why : _) → (o ≡ Err (BasicFault why) → ⊥) → when b (Side side.MayBeEmpty) o ≡ Err (BasicFault why) → ⊥
        never_empty true o why h f = h f
        never_empty false o why h f = cc

        pick_there : (c : Name) (xs : List Name) (v s : Name) (b rest : Code) → stands_at S t ≡ RecvAny c xs v s b ⨾ rest → (drops : List Fact) (why : _) → enter_pick P S t drops ≡ Err (BasicFault why) → ⊥
        pick_there c xs v s b rest is drops why f =
            never_focused (mode_of (thread_named S.threads s)) _ why (λ g. never_empty (is_nonempty P s) _ why (λ h. cc) g) (sym (at_this S t (stands_at S t) any_of _ _ there (ap any_of is)) ∙ f)

        branch_there : (o : _) → fork_of (stands_at S t) ≡ Some o → (why : _) → enter_branch S t ≡ Err (BasicFault why) → ⊥
        branch_there o is why f = not_refused _ _ why (at_this S t (stands_at S t) fork_of _ _ there is) f

        set_there : {A : Type 0} (m : Option Mode) (o : Outcome A) (why : _) → is_over_a_set m ≡ true → (o ≡ Err (BasicFault why) → ⊥) → can_focus m o ≡ Err (BasicFault why) → ⊥
        set_there (Some At) o why set h f = cc
        set_there (Some Each) o why set h f = h f
        set_there (Some One) o why set h f = absurd (true≢false (sym set))
        set_there None o why set h f = absurd (true≢false (sym set))

        goes_on : {X A : Type 0} (o : Outcome X) (x : X) (go : X → Outcome A) (why : _) → o ≡ Ok x → ((y : X) → go y ≡ Err (BasicFault why) → ⊥) → and_then o go ≡ Err (BasicFault why) → ⊥
        goes_on (Ok y) x go why e h f = h y f
        goes_on (Err w) x go why e h f = cc

        for_head : (v s : Name) (b rest : Code) → for_of s (For v s zero b ⨾ rest) ≡ Some record { set = s; body = code_with v (who.At s) b; rest = rest }
        for_head v s b rest = rw (name_laws.refl s) refl

        loop_there : (v s : Name) (b rest : Code) → stands_at S t ≡ For v s zero b ⨾ rest → (l : Loop) × (for_of s (stands_at S t) ≡ Some l)
        loop_there v s b rest is = (record { set = s; body = code_with v (who.At s) b; rest = rest }, ap (for_of s) is ∙ for_head v s b rest)

        for_there : (v s : Name) (b rest : Code) → stands_at S t ≡ For v s zero b ⨾ rest → is_over_a_set (mode_of (thread_named S.threads s)) ≡ true → (drops : List Fact) (why : _) →
            enter_for S s (t ∷ []) drops ≡ Err (BasicFault why) → ⊥
        for_there v s b rest is set drops why f =
            let (l, there_is) = loop_there v s b rest is in
            let loops : loops_of S s [] (t ∷ []) ≡ Ok (l ∷ []) = at_this S t (stands_at S t) (for_of s) _ l there there_is in
            set_there (mode_of (thread_named S.threads s)) _ why set (λ g. goes_on (loops_of S s [] (t ∷ [])) (l ∷ []) _ why loops (λ y k. cc) g) f

        -- the rule is for the thread
        for_itself : (b : Bool) → b ≡ true → (same_name t t && b) ≡ true
        for_itself b e i = name_laws.refl t i && e i

        parted : (code : Code) → stands_at S t ≡ code → (o : _) → fork_of code ≡ Some o → (fs gs : Failures) → Parts P deep F S t fs gs → Acted S t code fs gs
        parted code is o fork fs _ (push.pushes a b end h) = record {
          tells = told_at S t (Tried (step.Branch t a b) end) fs h;
          tried = λ yes. last_is t (step.Branch t a b) end fs (is_for t code) (for_itself (is_some (fork_of code)) (ap is_some fork));
        }
        parted code is o fork fs _ (push.refuses why e) = absurd (branch_there o (ap fork_of is ∙ fork) why e)

        forks : (code rest : Code) → stands_at S t ≡ code → after_head code ≡ rest → (o : _) → fork_of code ≡ Some o → (fs : Failures) (left : RulesLeft) →
            WhereStays (Acted S t code fs) ((basically around S (basic.Known t) otherwise branch below F (side_of t rest) S t) fs left)
        forks code rest is r o fork fs left =
            after_basic (Acted S t code) (basic.Known t) (branch below F (side_of t rest) S t) fs left (λ l.
            weaker (Parts P deep F S t fs) (Acted S t code fs) (branch below F (side_of t rest) S t fs l) (λ gs. parted code is o fork fs gs) (
            subst (λ z. WhereStays (Parts P deep F S t fs) (branch below F (side_of t z) S t fs l)) (ap after_head is ∙ r) (branch_pushes P deep F S t below fits (ready.sides t) fs l)))

        -- a rule with one owner, at its head
        rule_acted : (code : Code) (rule : Rule) → rule.at ≡ t → ((drops : List Fact) (a : _) → is_for t code (rule.step drops a) ≡ true) → ((drops : List Fact) (why : _) → rule.enter drops ≡ Err (BasicFault why) → ⊥) →
            (fs gs : Failures) → Pushes P deep F S rule fs gs → Acted S t code fs gs
        rule_acted code rule at h never fs gs p = record {
          tells = subst (λ z. TellsAt S z fs gs) at (rule_tells S rule fs gs p);
          tried = λ yes. subst (λ z. LastBy (is_for t code) z gs) at (rule_last S rule fs gs (is_for t code) h never p);
        }

        whiles : (e : _) (b rest : Code) → stands_at S t ≡ While e b ⨾ rest → (fs : Failures) (left : RulesLeft) →
            WhereStays (λ gs. Acted S t (While e b ⨾ rest) fs gs) (nine_tries P below S (while_rule F S t) fs left)
        whiles e b rest is fs left =
            weaker (Pushes P deep F S (while_rule F S t) fs) (Acted S t (While e b ⨾ rest) fs) (nine_tries P below S (while_rule F S t) fs left)
            (rule_acted (While e b ⨾ rest) (while_rule F S t) refl (λ drops a. for_itself true refl) (while_there e b rest is) fs)
            (nine_tell (while_rule F S t) (is_while t) fs left)

        goes : (A : Failures → Type 0) (b : BasicStep) (r : Applied) (o : Outcome Applied) → o ≡ Ok r → (fs : Failures) (left : RulesLeft) → WhereStays A (applied b o fs left)
        goes A b r (Ok x) e fs None = tt
        goes A b r (Ok x) e fs (Some zero) = tt
        goes A b r (Ok x) e fs (Some (suc n)) = tt
        goes A b r (Err why) e fs left = cc

        known_applies : (e : _) (b rest : Code) → stands_at S t ≡ While e b ⨾ rest → (o : Option Value) → folded S.facts t e ≡ o → is_known o (value.Bool false) ≡ true →
            (r : Applied) × (apply_quietly P F S (rule_of (basic.Known t)) ≡ Ok r)
        known_applies e b rest is None f h = absurd (true≢false (sym h))
        known_applies e b rest is (Some v) f h = (_, quietly P F S (rule_of (basic.Known t)) _ refl (ap (λ o. at_thread o (known S t)) (there ∙ ap Some is) ∙ ap (λ o. decided S t o (b then (While e b ⨾ rest)) rest) f))

        known_or_not : (e : _) (b rest : Code) → stands_at S t ≡ While e b ⨾ rest → (folds : Bool) → is_known (folded S.facts t e) (value.Bool false) ≡ folds → (fs : Failures) (left : RulesLeft) →
            WhereStays (Acted S t (While e b ⨾ rest) fs) ((if folds then basically around S (basic.Known t) else (nine_tries P below S (while_rule F S t) otherwise basically around S (basic.Known t))) fs left)
        known_or_not e b rest is true h fs left = let (r, g) = known_applies e b rest is (folded S.facts t e) refl h in goes (Acted S t (While e b ⨾ rest) fs) (basic.Known t) r (apply_quietly P F S (rule_of (basic.Known t))) g fs left
        known_or_not e b rest is false h fs left =
            before_basic (Acted S t (While e b ⨾ rest) fs) (nine_tries P below S (while_rule F S t)) (basic.Known t) fs left (whiles e b rest is fs left)

        -- two rules one after the other: the second is for the head, where one begins there
        rule_twice : (code : Code) (one other : Rule) → one.at ≡ t → other.at ≡ t → IsRule P F S one → IsRule P F S other →
            (is_compound S code ≡ true → (drops : List Fact) (a : _) → is_for t code (other.step drops a) ≡ true) → (is_compound S code ≡ true → (drops : List Fact) (why : _) → other.enter drops ≡ Err (BasicFault why) → ⊥) →
            (fs : Failures) (left : RulesLeft) → WhereStays (Acted S t code fs) ((nine_tries P below S one otherwise nine_tries P below S other) fs left)
        rule_twice code one other at1 at2 is1 is2 h never fs left =
            then_on (Pushes P deep F S one fs) (Acted S t code fs) (nine_tries P below S other) (nine_tries P below S one fs left) (nine_tell one is1 fs left) (λ gs l p.
            weaker (Pushes P deep F S other gs) (Acted S t code fs) (nine_tries P below S other gs l) (λ hs q. record {
              tells = first_then S t fs gs hs (subst (λ z. TellsAt S z fs gs) at1 (rule_tells S one fs gs p)) (subst (λ z. TellsAt S z gs hs) at2 (rule_tells S other gs hs q));
              tried = λ yes. subst (λ z. LastBy (is_for t code) z hs) at2 (rule_last S other gs hs (is_for t code) (h yes) (never yes) q);
            }) (nine_tell other is2 gs l))

        -- a `for` of several owners after that of one
        record Joined (code : Code) (fs gs : Failures) : Type 0 where
          tells : TellsAt S t fs gs
          tried : is_compound S code ≡ true → LastBy (is_for t code) t fs → LastBy (is_for t code) t gs

        joined_rule : (code : Code) (s : Name) (ts : List Name) → (is_compound S code ≡ true → (is_among ts t && is_some (for_of s code)) ≡ true) → (fs gs : Failures) → Pushes P deep F S (for_rule F S t s ts) fs gs → Joined code fs gs
        joined_rule code s ts h fs gs p = record { tells = rule_tells S (for_rule F S t s ts) fs gs p; tried = λ yes l. go gs p (h yes) l }
          where
            go : (gs : Failures) → Pushes P deep F S (for_rule F S t s ts) fs gs → (is_among ts t && is_some (for_of s code)) ≡ true → LastBy (is_for t code) t fs → LastBy (is_for t code) t gs
            go _ (push.pushes drops a end k) e l = last_is t (step.For s ts drops a) end fs (is_for t code) e
            go _ (push.refuses drops why k) e l = l

        not_joined : (code : Code) (fs : Failures) → Joined code fs fs
        not_joined code fs = record { tells = nothing_told S t fs; tried = λ yes l. l }

        severals : (code : Code) (s : Name) (ts : List Name) → (is_compound S code ≡ true → (is_among ts t && is_some (for_of s code)) ≡ true) → (fs : Failures) (left : RulesLeft) →
            WhereStays (Joined code fs) (several (λ us. nine_tries P below S (for_rule F S t s us)) ts fs left)
        severals code s [] h fs left = not_joined code fs
        severals code s (u ∷ []) h fs left = not_joined code fs
        severals code s (u ∷ w ∷ us) h fs left =
            weaker (Pushes P deep F S (for_rule F S t s (u ∷ w ∷ us)) fs) (Joined code fs) (nine_tries P below S (for_rule F S t s (u ∷ w ∷ us)) fs left) (joined_rule code s (u ∷ w ∷ us) h fs)
            (nine_tell (for_rule F S t s (u ∷ w ∷ us)) (is_for_rule t s (u ∷ w ∷ us) tt) fs left)

        fors : (v s : Name) (k : ℕ) (b rest : Code) → stands_at S t ≡ For v s k b ⨾ rest →
            (is_compound S (For v s k b ⨾ rest) ≡ true → (drops : List Fact) (why : _) → enter_for S s (t ∷ []) drops ≡ Err (BasicFault why) → ⊥) →
            (is_compound S (For v s k b ⨾ rest) ≡ true → is_some (for_of s (For v s k b ⨾ rest)) ≡ true) →
            (fs : Failures) (left : RulesLeft) →
            WhereStays (Acted S t (For v s k b ⨾ rest) fs) ((nine_tries P below S (for_rule F S t s (t ∷ [])) otherwise several (λ us. nine_tries P below S (for_rule F S t s us)) (threads_at S s)) fs left)
        fors v s k b rest is never some fs left =
            then_on (Pushes P deep F S (for_rule F S t s (t ∷ [])) fs) (Acted S t (For v s k b ⨾ rest) fs) (several (λ us. nine_tries P below S (for_rule F S t s us)) (threads_at S s)) (nine_tries P below S (for_rule F S t s (t ∷ [])) fs left)
            (nine_tell (for_rule F S t s (t ∷ [])) (is_for_rule t s (t ∷ []) tt) fs left) (λ gs l p.
            weaker (Joined (For v s k b ⨾ rest) gs) (Acted S t (For v s k b ⨾ rest) fs) (several (λ us. nine_tries P below S (for_rule F S t s us)) (threads_at S s) gs l) (λ hs j. record {
              tells = first_then S t fs gs hs (rule_tells S (for_rule F S t s (t ∷ [])) fs gs p) j.tells;
              tried = λ yes. j.tried yes (rule_last S (for_rule F S t s (t ∷ [])) fs gs (is_for t (For v s k b ⨾ rest)) (λ drops a i. (name_laws.refl t i || false) && some yes i) (never yes) p);
            }) (severals (For v s k b ⨾ rest) s (threads_at S s) (λ yes i. among_those (λ u. is_some (for_of s (stands_at S u))) t (movable S) (among_movable S t (stands_at S t) there) (ap (λ c. is_some (for_of s c)) is ∙ some yes) i && some yes i) gs l))

        -- the turn of the thread at its head
        pub acting_tells : (code : Code) → stands_at S t ≡ code → (fs : Failures) (left : RulesLeft) → WhereStays (Acted S t code fs) (acts around S t code fs left)
        acting_tells done is fs left = idle done fs fs refl refl
        acting_tells (Assign x e ⨾ rest) is fs left = by_basic (Assign x e ⨾ rest) (basic.Assign t) refl fs left
        acting_tells (Send c es u ⨾ rest) is fs left =
            after_basic (Acted S t (Send c es u ⨾ rest)) (basic.Pass t (thread_of u) c) (filled around S t (thread_of u) c (least_free S.pending)) fs left (fills (Send c es u ⨾ rest) (thread_of u) c (least_free S.pending) refl fs)
        acting_tells (Recv c xs u ⨾ rest) is fs left = by_basic (Recv c xs u ⨾ rest) (basic.Take (thread_of u) t c) refl fs left
        acting_tells (If e a ⨾ rest) is fs left = forks (If e a ⨾ rest) rest is refl _ refl fs left
        acting_tells (IfElse e a b ⨾ rest) is fs left = forks (IfElse e a b ⨾ rest) rest is refl _ refl fs left
        acting_tells (While e b ⨾ rest) is fs left = known_or_not e b rest is (is_known (folded S.facts t e) (value.Bool false)) refl fs left
        acting_tells (For v s zero b ⨾ rest) is fs left = fors v s zero b rest is (for_there v s b rest is) (λ yes. ap is_some (for_head v s b rest)) fs left
        acting_tells (For v s (suc k) b ⨾ rest) is fs left = fors v s (suc k) b rest is (λ yes. absurd (true≢false (sym yes))) (λ yes. absurd (true≢false (sym yes))) fs left
        acting_tells (Repeat s zero b ⨾ rest) is fs left =
            rule_twice (Repeat s zero b ⨾ rest) (gather_rule F S t) (repeat_rule F S t) refl refl (is_gather t) (is_repeat t) (λ yes drops a. for_itself true refl) (λ yes. repeat_there s b rest is) fs left
        acting_tells (Repeat s (suc k) b ⨾ rest) is fs left =
            rule_twice (Repeat s (suc k) b ⨾ rest) (gather_rule F S t) (repeat_rule F S t) refl refl (is_gather t) (is_repeat t) (λ yes. absurd (true≢false (sym yes))) (λ yes. absurd (true≢false (sym yes))) fs left
        acting_tells (RecvAny c xs v s b ⨾ rest) is fs left =
            weaker (Pushes P deep F S (pick_rule P F S t) fs) (Acted S t (RecvAny c xs v s b ⨾ rest) fs) (nine_tries P below S (pick_rule P F S t) fs left)
            (rule_acted (RecvAny c xs v s b ⨾ rest) (pick_rule P F S t) refl (λ drops a. for_itself true refl) (pick_there c xs v s b rest is) fs)
            (nine_tell (pick_rule P F S t) (is_pick t) fs left)
