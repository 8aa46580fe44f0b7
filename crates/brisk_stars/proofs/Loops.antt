-- Branches, and the entry and the close of a loop of the centre, keep to what serving comes.
use Rattle.std.proofs.Common.{◌≡◌, ◌≢◌, ℕ, zero, suc, ◌≤◌, true, false, List, [], ◌∷◌, ◌++◌, map, Option, Some, None, refl, sym, ap, ◌∙◌, arith, nat_eq}
use Rattle.std.specs.Prelude.{◌&&◌, not, if◌then◌else◌, Ok, nat_lt, option_map, ◌-◌}
use Rattle.std.proofs.lemmas.Bool.{ltb-true, not-true}
use Rattle.brisk_values.specs.declared.value.Pid.{Pid}
use Rattle.brisk_values.specs.Functions.{changed}
use Rattle.brisk_values.specs.Names.{Name, same_name, single}
use Rattle.brisk_values.proofs.Changes.{both_true, exact_name, name_laws, apart_symm, changed-same, both_hold}
use Rattle.brisk_syntax.specs.Classes.{every, is_local, all_local, is_named, talks_to}
use Rattle.brisk_syntax.specs.Syntax.{Statement, Assign, Send, Recv, RecvAny, If, IfElse, For, Repeat, Code, done, ◌⨾◌, ◌then◌}
use Rattle.brisk_syntax.specs.Typing.{are_distinct}
use Rattle.brisk_syntax.specs.WellTyped.{all_unbegun, is_unbegun}
use Rattle.brisk_state.specs.declared.thread.Mode.{Mode}
use Rattle.brisk_state.specs.declared.thread.Mode.TheVariants.{One, At, Each}
use Rattle.brisk_state.specs.declared.thread.Thread.{Thread}
use Rattle.brisk_state.specs.Symbolic.{Symbolic, with_code, with_mode, numbers_at, thread_named}
use Rattle.brisk_derivation.specs.declared.fault.SideFault.{SideFault}
use Rattle.brisk_rules.specs.Rules as rules
use Rattle.brisk_rules.specs.Rules.{Entered, Owner, mode_of, Outcome, can_focus, not_focused, loops_of, at_bodies, with_rests, at_rests, unfocused, first_fault, unfinished, gather_tests, enter_for, enter_gather}
use Rattle.brisk_derivation.specs.declared.steps.Fact.{Fact}
use Rattle.brisk_rules.specs.Heads.{Loop, for_of, gather_of, from_focus}
use Rattle.brisk_rules.proofs.Fulfilled.{and_then_ok, at_head_ok, same_ok}
use Rattle.brisk_async.specs.Laws.{AnyReceive}
use Rattle.brisk_syntax.specs.declared.tree.Who.{Who}
use Rattle.brisk_syntax.specs.declared.tree.Who.TheVariants as who
use Rattle.brisk_syntax.specs.Substitution.{code_map, code_with, statement_map, who_with}
use Rattle.std.proofs.lemmas.List.{append-nil}
use Rattle.std.proofs.lemmas.Option.{same_Some}
use Rattle.brisk_sound.proofs.Closing.{closed, finished, first_none}
use Rattle.brisk_rules.proofs.Threads.{names, modes, codes, names_with_code, modes_with_code, codes_with_code, names_with_mode, codes_with_mode, modes_with_mode, thread_after}
use Rattle.brisk_stars.specs.Serving.{Served, Word, hears, followed, settled, messages, serve}
use Rattle.brisk_stars.specs.Threads.{at_in, members_by, served_by, served_at, IsStarThreads, IsCentresLoop, LocalStepsKeepServing, ForsAreEntered, GathersAreEntered, PremisesSayATurn, ClosesKeepServing}
use Rattle.brisk_stars.specs.Words.{in_turns, is_focus, is_other, runs_as_centre, serves, words, words_to}
use Rattle.brisk_stars.proofs.Basics.{to_code, unbegun_one}
use Rattle.brisk_stars.proofs.Mapped.{for_fewer, for_shallow, gather_fewer, gather_shallow}
use Rattle.brisk_stars.proofs.Keeping.{messages_then}
use Rattle.brisk_stars.proofs.Running.{local_then, local_mapped, named_with, body_says, body_runs, serves_parts}
use Rattle.brisk_stars.proofs.Serving.{served_alike, serving_appends, settled_once}
use Rattle.brisk_stars.proofs.Threaded.{members_same}
use Rattle.brisk_syntax.proofs.Codes.{then-done}

-- what is behind local code is code of the same kind
pub runs_behind : (sizes : Name → ℕ) (M : Name) (a rest : Code) → all_local a ≡ true → runs_as_centre sizes M (a then rest) ≡ true → runs_as_centre sizes M rest ≡ true
runs_behind sizes M done rest l h = h
runs_behind sizes M (s ⨾ a) rest l h = let k = both_true (is_local s) (all_local a) l in runs_behind sizes M a rest k.1 (one s k.0 h)
  where
    one : (s : Statement) → is_local s ≡ true → runs_as_centre sizes M (s ⨾ (a then rest)) ≡ true → runs_as_centre sizes M (a then rest) ≡ true
    one (Assign x e) l h = h
    one (If e b) l h = (both_true (all_local b) (runs_as_centre sizes M (a then rest)) h).1
    one (IfElse e b c) l h = (both_true (all_local b && all_local c) (runs_as_centre sizes M (a then rest)) h).1
    one s l h = cc

pub unbegun_behind : (a rest : Code) → all_unbegun (a then rest) ≡ true → all_unbegun rest ≡ true
unbegun_behind done rest h = h
unbegun_behind (s ⨾ a) rest h = unbegun_behind a rest (both_true (is_unbegun s) (all_unbegun (a then rest)) h).1

pub every_behind : (test : _) (a rest : Code) → every test (a then rest) ≡ true → every test rest ≡ true
every_behind test done rest h = h
every_behind test (s ⨾ a) rest h = every_behind test a rest (both_true (test s) (every test (a then rest)) h).1

pub local_steps_keep_serving : LocalStepsKeepServing
local_steps_keep_serving sizes M S E t a rest st l here moves =
    to_code sizes M S st E t (a then rest) rest here moves.threads moves.pending (sym (local_then sizes a rest l)) (sym (messages_then a rest l))
    (runs_behind sizes M a rest l) (unbegun_behind a rest) (every_behind (talks_to (is_named M)) a rest)

-- the modes of other threads, and of one that is there
module _ (s : Name) (m : Mode) where
  abbrev set : Thread → Thread
  set u = record u { mode = m }

  pub other_mode : (ts : List Thread) (u : Name) → same_name s u ≡ false → modes (with_mode s m ts) u ≡ modes ts u
  other_mode ts u apart = ap mode_of (thread_after s set (λ x. refl) u ts) ∙ ap (λ b. mode_of (option_map (λ (x : Thread). if b then set x else x) (thread_named ts u))) apart ∙ same (thread_named ts u)
    where
      same : (o : Option Thread) → mode_of (option_map (λ (x : Thread). x) o) ≡ mode_of o
      same None = refl
      same (Some x) = refl

  pub its_mode : (n : Mode) → (m ≡ n → ⊥) → (ts : List Thread) (u : Name) → same_name s u ≡ true → modes (with_mode s m ts) u ≢ Some n
  its_mode n differ ts u same e = by (thread_named ts u) (sym (ap mode_of (thread_after s set (λ x. refl) u ts) ∙ ap (λ b. mode_of (option_map (λ (x : Thread). if b then set x else x) (thread_named ts u))) same) ∙ e)
    where
      by : (o : Option Thread) → mode_of (option_map set o) ≡ Some n → ⊥
      by None g = cc
      by (Some x) g = differ (cc)

at_one : At ≡ One → ⊥
at_one e = cc

each_one : Each ≡ One → ⊥
each_one e = cc

module _ (sizes : Name → ℕ) (M s : Name) (other : same_name M s ≡ false) (S : Symbolic) (st : IsStarThreads sizes M S) (m : Mode) (several : m ≡ One → ⊥) (k : Code) (runs : runs_as_centre sizes M k ≡ true) (fresh : all_unbegun k ≡ true) where
  abbrev changed_threads : List Thread
  changed_threads = with_code M k (with_mode s m S.threads)

  centre_mode : modes (with_mode s m S.threads) M ≡ Some One
  centre_mode = other_mode s m S.threads M (apart_symm name_laws M s other) ∙ st.one

  pub all_codes : codes changed_threads ≡ changed same_name (at_in S) M k
  all_codes = codes_with_code M k (with_mode s m S.threads) One centre_mode ∙ ap (λ f. changed same_name f M k) (codes_with_mode s m S.threads)

  -- where the centre goes on, and the mode of a set is another
  pub goes_over : (E : Symbolic) → E.threads ≡ changed_threads → IsStarThreads sizes M E
  goes_over E threads =
      let code = ap codes threads ∙ all_codes in
      let mode = ap modes threads ∙ modes_with_code M k (with_mode s m S.threads) in
      record {
        apart = ap are_distinct (ap names threads ∙ names_with_code M k (with_mode s m S.threads) ∙ names_with_mode s m S.threads) ∙ st.apart;
        centre = ap (λ (f : Name → Code). runs_as_centre sizes M (f M)) code ∙ ap (runs_as_centre sizes M) (changed-same name_laws (at_in S) M k) ∙ runs;
        unbegun = ap (λ (f : Name → Code). all_unbegun (f M)) code ∙ ap all_unbegun (changed-same name_laws (at_in S) M k) ∙ fresh;
        one = ap (λ (f : Name → Option Mode). f M) mode ∙ centre_mode;
        talk = λ u apart. ap (λ (f : Name → Code). every (talks_to (is_named M)) (f u)) code ∙ ap (λ b. every (talks_to (is_named M)) (if b then k else at_in S u)) apart ∙ st.talk u apart;
        several = λ u apart e. elim (same_name s u) as (λ b. same_name s u ≡ b → ⊥) [
          | true ↦ λ same. its_mode s m One several S.threads u same (sym (ap (λ (f : Name → Option Mode). f u) mode) ∙ e)
          | false ↦ λ far. st.several u apart (sym (other_mode s m S.threads u far) ∙ sym (ap (λ (f : Name → Option Mode). f u) mode) ∙ e)
        ] refl;
        size = st.size;
        there = λ u h. let t = st.there u h in elim (same_name s u) as (λ b. same_name s u ≡ b → (z : Mode) × (modes E.threads u ≡ Some z)) [
          | true ↦ λ same. (m, ap (λ (f : Name → Option Mode). f u) (mode ∙ modes_with_mode s m S.threads t.0 (ap (modes S.threads) (exact_name s u same) ∙ t.1)) ∙ ap (λ b. if b then Some m else modes S.threads u) same)
          | false ↦ λ far. (t.0, ap (λ (f : Name → Option Mode). f u) mode ∙ other_mode s m S.threads u far ∙ t.1)
        ] refl;
      }

-- to what the premise's start is served
pub turn_is : (sizes : Name → ℕ) (M s : Name) (S : Symbolic) (r : Entered) → IsStarThreads sizes M S → (l : IsCentresLoop sizes M s S r) → served_at sizes M r.start ≡ serve (words sizes l.body) (members_by M (at_in S) (numbers_at S.pending))
turn_is sizes M s S r st l =
    let code = ap codes l.threads ∙ all_codes sizes M s l.other S st At at_one l.body l.runs l.fresh in
    (λ i. served_by sizes M (code i) (numbers_at (l.pending i)))
    ∙ ap (λ c. serve (words sizes c) (members_by M (changed same_name (at_in S) M l.body) (numbers_at S.pending))) (changed-same name_laws (at_in S) M l.body)
    ∙ ap (serve (words sizes l.body)) (λ i p. members_same sizes M (at_in S) (numbers_at S.pending) l.body p i)

pub premises_say_a_turn : PremisesSayATurn
premises_say_a_turn sizes M s S r st l =
    let body = l.body in let rest = l.rest in let other = l.other in
    let code = ap codes l.threads ∙ all_codes sizes M s other S st At at_one body l.runs l.fresh in
    let turn : served_at sizes M r.start ≡ serve (words sizes body) (members_by M (at_in S) (numbers_at S.pending)) =
    (λ i. served_by sizes M (code i) (numbers_at (l.pending i)))
    ∙ ap (λ c. serve (words sizes c) (members_by M (changed same_name (at_in S) M body) (numbers_at S.pending))) (changed-same name_laws (at_in S) M body)
    ∙ ap (serve (words sizes body)) (λ i p. members_same sizes M (at_in S) (numbers_at S.pending) body p i) in (
      goes_over sizes M s other S st At at_one body l.runs l.fresh r.start l.threads,
      ap (λ ws. serve ws (members_by M (at_in S) (numbers_at S.pending))) l.says
          ∙ serving_appends (words sizes body) (words sizes rest) (members_by M (at_in S) (numbers_at S.pending))
          ∙ ap (λ (t : Served). followed t.left (words sizes rest) t.members) (sym turn),
    )

pub closes_keep_serving : ClosesKeepServing
closes_keep_serving sizes M s S E next r st l st' same closes =
    let rest = l.rest in let other = l.other in
    let c = closed r E next closes in
    let split = premises_say_a_turn sizes M s S r st l in
    let ended : codes E.threads M ≡ done = finished E record { name = M; rest = rest } (first_none _ _ (ap (λ os. first_of os) (sym l.owners) ∙ c.finished)).0 in
    let threads : next.threads ≡ with_code M rest (with_mode s Each E.threads) = ap (λ (z : Symbolic). z.threads) (sym c.next) ∙ (λ i. at_rests (l.owners i) (unfocused (l.looks i) E.threads)) in
    let pending : next.pending ≡ E.pending = ap (λ (z : Symbolic). z.pending) (sym c.next) in
    let code = ap codes threads ∙ all_codes sizes M s other E st' Each each_one rest l.runs_on l.fresh_on in
    let members = members_by M (at_in E) (numbers_at E.pending) in
    let at_end : served_at sizes M E ≡ record { left = []; members = λ k. settled (members k) } = ap (λ k. serve (words sizes k) members) ended in (
      goes_over sizes M s other E st' Each each_one rest l.runs_on l.fresh_on next threads,
      (λ i. served_by sizes M (code i) (numbers_at (pending i)))
          ∙ ap (λ k. serve (words sizes k) (members_by M (changed same_name (at_in E) M rest) (numbers_at E.pending))) (changed-same name_laws (at_in E) M rest)
          ∙ ap (serve (words sizes rest)) (λ i p. members_same sizes M (at_in E) (numbers_at E.pending) rest p i)
          ∙ sym (served_alike (words sizes rest) (λ k. settled (members k)) members (λ k. let p = members k in settled_once p.left p.up p.down))
          ∙ ap (λ (t : Served). followed t.left (words sizes rest) t.members) (sym at_end ∙ same)
          ∙ sym split.1,
    )
  where
    first_of : List Owner → Option SideFault
    first_of os = first_fault (map (unfinished E) os)

focus_ok : {A : Type 0} (m : Option Mode) (more : Outcome A) (a : A) → can_focus m more ≡ Ok a → more ≡ Ok a
focus_ok None more a e = cc
focus_ok (Some One) more a e = cc
focus_ok (Some At) more a e = cc
focus_ok (Some Each) more a e = e

pub unfocused_ok : {A : Type 0} (m : Option Mode) (more : Outcome A) (a : A) → not_focused m more ≡ Ok a → more ≡ Ok a
unfocused_ok None more a e = e
unfocused_ok (Some One) more a e = e
unfocused_ok (Some At) more a e = cc
unfocused_ok (Some Each) more a e = e

-- the body of a loop has no loop that has begun
pub body_unbegun : (v : Name) (x : Who) (b : Code) → every (talks_to (is_named v)) b ≡ true → all_unbegun (code_with v x b) ≡ true
body_unbegun v x done h = refl
body_unbegun v x (s ⨾ b) h = let k = both_true (talks_to (is_named v) s) (every (talks_to (is_named v)) b) h in both_hold (is_unbegun (statement_map (who_with v x) s)) (all_unbegun (code_with v x b)) (one s k.0) (body_unbegun v x b k.1)
  where
    one : (s : Statement) → talks_to (is_named v) s ≡ true → is_unbegun (statement_map (who_with v x) s) ≡ true
    one (Send c es u) t = refl
    one (Recv c xs u) t = refl
    one (Assign y e) t = refl
    one (If e a) t = unbegun_one (If e (code_map (who_with v x) a)) (local_mapped (who_with v x) (If e a) t)
    one (IfElse e a b) t = unbegun_one (IfElse e (code_map (who_with v x) a) (code_map (who_with v x) b)) (local_mapped (who_with v x) (IfElse e a b) t)
    one s t = cc

-- at the member in focus a body talks to it
pub body_focused : (v s : Name) (b : Code) → every (talks_to (is_named v)) b ≡ true → every (talks_to (is_focus s)) (code_with v (who.At s) b) ≡ true
body_focused v s done h = refl
body_focused v s (x ⨾ b) h = let k = both_true (talks_to (is_named v) x) (every (talks_to (is_named v)) b) h in both_hold (talks_to (is_focus s) (statement_map (who_with v (who.At s)) x)) (every (talks_to (is_focus s)) (code_with v (who.At s) b)) (one x k.0) (body_focused v s b k.1)
  where
    one : (x : Statement) → talks_to (is_named v) x ≡ true → talks_to (is_focus s) (statement_map (who_with v (who.At s)) x) ≡ true
    one (Send c es u) t = ap (is_focus s) (named_with v (who.At s) u t) ∙ name_laws.refl s
    one (Recv c xs u) t = ap (is_focus s) (named_with v (who.At s) u t) ∙ name_laws.refl s
    one (Assign y e) t = refl
    one (If e a) t = local_mapped (who_with v (who.At s)) (If e a) t
    one (IfElse e a b) t = local_mapped (who_with v (who.At s)) (IfElse e a b) t
    one x t = cc

-- a body that talks to its loop's member alone, at the member in focus
module _ (sizes : Name → ℕ) (M v s : Name) (b : Code) (few : sizes s ≤ 1) (h : serves sizes M v s b ≡ true) where
  abbrev parts : (not (same_name M s) ≡ true) × (every (talks_to (is_named v)) b ≡ true)
  parts = serves_parts sizes M v s b h

  apart : same_name M s ≡ false
  apart = not-true (same_name M s) parts.0

  some : nat_lt 0 (sizes s) ≡ true
  some = let k = both_true (not (same_name M s)) (nat_lt 0 (sizes s) && every (talks_to (is_named v)) b) h in (both_true (nat_lt 0 (sizes s)) (every (talks_to (is_named v)) b) k.1).0

  one_turn : sizes s ≡ 1
  one_turn = let k = both_true (not (same_name M s)) (nat_lt 0 (sizes s) && every (talks_to (is_named v)) b) h in let less = ltb-true 0 (sizes s) (both_true (nat_lt 0 (sizes s)) (every (talks_to (is_named v)) b) k.1).0 in omega (arith, less, few)

  abbrev focused : Code
  focused = code_with v (who.At s) b

  pub focused_says : words sizes focused ≡ words_to (single s) (messages b)
  focused_says = ap (words sizes) (sym (then-done focused)) ∙ body_says sizes v (who.At s) b done parts.1 ∙ append-nil (words_to (single s) (messages b))

  pub focused_runs : runs_as_centre sizes M focused ≡ true
  focused_runs = ap (runs_as_centre sizes M) (sym (then-done focused)) ∙ body_runs sizes M v (who.At s) b done parts.0 parts.1 refl

  -- the words of the one turn of a loop over the set
  turn_says : (first : Pid → List Word) (rest : List Word) → in_turns s (sizes s - 0) 0 first ++ rest ≡ first (single s) ++ rest
  turn_says first rest = ap (λ n. in_turns s (n - 0) 0 first ++ rest) one_turn ∙ ap (λ ws. ws ++ rest) (append-nil (first (single s)))

-- what stands at a `for`, and at a gather
for_is : (s : Name) (c : Code) (l : Loop) → for_of s c ≡ Some l → (v : Name) × (b : Code) × (c ≡ For v s 0 b ⨾ l.rest) × (l.body ≡ code_with v (who.At s) b)
for_is s (For v r zero b ⨾ rest) l h =
    elim (same_name s r) as (λ t. same_name s r ≡ t → (if t then Some record { set = s; body = code_with v (who.At s) b; rest = rest } else None) ≡ Some l →
    (w : Name) × (d : Code) × (For v r zero b ⨾ rest ≡ For w s 0 d ⨾ l.rest) × (l.body ≡ code_with w (who.At s) d)) [
      | true ↦ λ same g.
          let is : record { set = s; body = code_with v (who.At s) b; rest = rest } ≡ l = same_Some _ l g in
          let name = exact_name s r same in
          (v, b, (λ i. For v (sym name i) 0 b ⨾ (is i).rest), ap (λ (z : Loop). z.body) (sym is))
      | false ↦ λ same g. cc
    ] refl h
for_is s (For v r (suc k) b ⨾ rest) l h = cc
for_is s c l h = cc

gather_is : (c : Code) (a : AnyReceive) → gather_of c ≡ Some a → c ≡ Repeat a.set 0 (RecvAny a.channel a.variables a.binder a.set a.body ⨾ done) ⨾ a.rest
gather_is (Repeat s zero (RecvAny d xs v r b ⨾ done) ⨾ rest) a h =
    elim (same_name s r) as (λ t. same_name s r ≡ t → (if t then Some record { channel = d; variables = xs; binder = v; set = s; body = b; rest = rest } else None) ≡ Some a →
    Repeat s zero (RecvAny d xs v r b ⨾ done) ⨾ rest ≡ Repeat a.set 0 (RecvAny a.channel a.variables a.binder a.set a.body ⨾ done) ⨾ a.rest) [
      | true ↦ λ same g.
          let name = exact_name s r same in
          let is : record { channel = d; variables = xs; binder = v; set = s; body = b; rest = rest } ≡ a = same_Some _ a g in
          (λ i. Repeat s zero (RecvAny d xs v (sym name i) b ⨾ done) ⨾ rest)
          ∙ ap (λ (z : AnyReceive). Repeat z.set 0 (RecvAny z.channel z.variables z.binder z.set z.body ⨾ done) ⨾ z.rest) is
      | false ↦ λ same g. cc
    ] refl h
gather_is c a h = cc

pub fors_are_entered : ForsAreEntered
fors_are_entered sizes M s S r drops st e =
    let x = and_then_ok (loops_of S s [] (M ∷ [])) _ r (focus_ok (mode_of (thread_named S.threads s)) _ r e) in
    let y = at_head_ok S M (for_of s) _ x.0 x.1 in
    let f = for_is s y.1 y.0 y.3 in
    let ls : y.0 ∷ [] ≡ x.0 = same_ok _ x.0 y.4 in
    let is : _ ≡ r = same_ok _ r x.2 in
    let v = f.0 in let b = f.1 in
    let code : at_in S M ≡ For v s 0 b ⨾ y.0.rest = y.2.stands ∙ f.2 in
    let runs = both_true (serves sizes M v s b) (runs_as_centre sizes M y.0.rest) (ap (runs_as_centre sizes M) (sym code) ∙ st.centre) in
    let fresh = both_true (nat_eq 0 0 && all_unbegun b) (all_unbegun y.0.rest) (ap all_unbegun (sym code) ∙ st.unbegun) in
    record {
      body = code_with v (who.At s) b;
      rest = y.0.rest;
      behind = (For v s 0 b, code);
      fewer = for_fewer (at_in S M) v s b y.0.rest code;
      shallow = for_shallow (at_in S M) v s b y.0.rest code;
      owners = ap (λ (z : Entered). z.owners) (sym is) ∙ ap (with_rests (M ∷ [])) (sym ls);
      looks = ap (λ (z : Entered). (rules.looks z.kind)) (sym is);
      threads = ap (λ (z : Entered). z.start.threads) (sym is) ∙ ap (λ l. at_bodies (M ∷ []) l (with_mode s At S.threads)) (sym ls) ∙ ap (λ k. with_code M k (with_mode s At S.threads)) f.3;
      pending = ap (λ (z : Entered). z.start.pending) (sym is);
      other = apart sizes M v s b (st.size s) runs.0;
      members = some sizes M v s b (st.size s) runs.0;
      says = ap (words sizes) code ∙ turn_says sizes M v s b (st.size s) runs.0 (λ w. words_to w (messages b)) (words sizes y.0.rest) ∙ ap (λ ws. ws ++ words sizes y.0.rest) (sym (focused_says sizes M v s b (st.size s) runs.0));
      runs = focused_runs sizes M v s b (st.size s) runs.0;
      fresh = body_unbegun v (who.At s) b (serves_parts sizes M v s b runs.0).1;
      talks = body_focused v s b (serves_parts sizes M v s b runs.0).1;
      runs_on = runs.1;
      fresh_on = fresh.1;
    }

-- a gather of the centre that was entered
pub record GatherParts (sizes : Name → ℕ) (M : Name) (S : Symbolic) (r : Entered) : Type 0 where
  pub gather : AnyReceive
  pub loop : IsCentresLoop sizes M gather.set S r
  pub head : at_in S M ≡ Repeat gather.set 0 (RecvAny gather.channel gather.variables gather.binder gather.set gather.body ⨾ done) ⨾ gather.rest
  pub tests : (E : Symbolic) → rules.last_tests r.kind E ≡ gather_tests M gather.set gather.channel E
  pub turn : words sizes loop.body ≡ hears (single gather.set) gather.channel ∷ words_to (single gather.set) (messages gather.body)

pub gather_parts : (sizes : Name → ℕ) (M : Name) (S : Symbolic) (r : Entered) (drops : List Fact) → IsStarThreads sizes M S → enter_gather S M drops ≡ Ok r → GatherParts sizes M S r
gather_parts sizes M S r drops st e =
    let y = at_head_ok S M gather_of _ r e in
    let a = y.0 in
    let s = a.set in
    let is : _ ≡ r = same_ok _ r (unfocused_ok (mode_of (thread_named S.threads s)) _ r y.4) in
    let code : at_in S M ≡ Repeat s 0 (RecvAny a.channel a.variables a.binder s a.body ⨾ done) ⨾ a.rest = y.2.stands ∙ gather_is y.1 a y.3 in
    let runs = both_true (same_name s s && serves sizes M a.binder s a.body) (runs_as_centre sizes M a.rest) (ap (runs_as_centre sizes M) (sym code) ∙ st.centre) in
    let serving = (both_true (same_name s s) (serves sizes M a.binder s a.body) runs.0).1 in
    let fresh = both_true (nat_eq 0 0 && (all_unbegun a.body && true)) (all_unbegun a.rest) (ap all_unbegun (sym code) ∙ st.unbegun) in
    record {
      gather = a;
      head = code;
      tests = λ E. ap (λ (z : Entered). rules.last_tests z.kind E) (sym is);
      turn = ap (λ ws. hears (single s) a.channel ∷ ws) (focused_says sizes M a.binder s a.body (st.size s) serving);
      loop = record {
        body = from_focus a;
        rest = a.rest;
        behind = (Repeat s 0 (RecvAny a.channel a.variables a.binder s a.body ⨾ done), code);
        fewer = gather_fewer (at_in S M) a code;
        shallow = gather_shallow (at_in S M) a code;
        owners = ap (λ (z : Entered). z.owners) (sym is);
        looks = ap (λ (z : Entered). (rules.looks z.kind)) (sym is);
        threads = ap (λ (z : Entered). z.start.threads) (sym is);
        pending = ap (λ (z : Entered). z.start.pending) (sym is);
        other = apart sizes M a.binder s a.body (st.size s) serving;
        members = some sizes M a.binder s a.body (st.size s) serving;
        says = ap (words sizes) code ∙ turn_says sizes M a.binder s a.body (st.size s) serving (λ w. hears w a.channel ∷ words_to w (messages a.body)) (words sizes a.rest)
            ∙ ap (λ ws. hears (single s) a.channel ∷ (ws ++ words sizes a.rest)) (sym (focused_says sizes M a.binder s a.body (st.size s) serving));
        runs = both_hold (is_other M (who.At s)) (runs_as_centre sizes M (code_with a.binder (who.At s) a.body)) (ap not (apart sizes M a.binder s a.body (st.size s) serving)) (focused_runs sizes M a.binder s a.body (st.size s) serving);
        fresh = body_unbegun a.binder (who.At s) a.body (serves_parts sizes M a.binder s a.body serving).1;
        talks = both_hold (same_name s s) (every (talks_to (is_focus s)) (code_with a.binder (who.At s) a.body)) (name_laws.refl s) (body_focused a.binder s a.body (serves_parts sizes M a.binder s a.body serving).1);
        runs_on = runs.1;
        fresh_on = fresh.1;
      };
    }

pub gathers_are_entered : GathersAreEntered
gathers_are_entered sizes M S r drops st e = let g = gather_parts sizes M S r drops st e in (g.gather.set, g.loop)

-- a `for` has no last tests
pub for_tests : (S : Symbolic) (M s : Name) (r : Entered) (drops : List Fact) → enter_for S s (M ∷ []) drops ≡ Ok r → (E : Symbolic) → (rules.last_tests r.kind E) ≡ []
for_tests S M s r drops e E =
    let x = and_then_ok (loops_of S s [] (M ∷ [])) _ r (focus_ok (mode_of (thread_named S.threads s)) _ r e) in
    let is : _ ≡ r = same_ok _ r x.2 in
    ap (λ (z : Entered). (rules.last_tests z.kind E)) (sym is)
