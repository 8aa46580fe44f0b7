-- Where no code has a `while` and rules aren't counted, a drive has enough rounds, and no search is spent.
use Rattle.std.proofs.Common.{◌≡◌, ℕ, zero, suc, ◌+◌, ◌≤◌, ◌<◌, Bool, true, false, List, [], ◌∷◌, Option, Some, None, refl, sym, ap, ◌∙◌, subst, true≢false, arith}
use Rattle.std.specs.Prelude.{Ok, Err, ◌||◌, not, is_none, fold, sum_by, if◌then◌else◌}
use Rattle.std.proofs.lemmas.Bool.{lt-ltb, not-false}
use Rattle.brisk_values.specs.Names.{Name, same_name}
use Rattle.brisk_values.proofs.Changes.{both_true, exact_name}
use Rattle.brisk_syntax.specs.declared.program.Program.{Program}
use Rattle.brisk_syntax.specs.Counts.{statements}
use Rattle.brisk_syntax.specs.Syntax.{Code, done, ◌⨾◌}
use Rattle.brisk_syntax.specs.Typing.{is_among}
use Rattle.brisk_seq.specs.Items.{Items, nothing, ◌⨟◌}
use Rattle.brisk_state.specs.declared.thread.Mode.TheVariants.{At, Each}
use Rattle.brisk_state.specs.declared.thread.Thread.{Thread}
use Rattle.brisk_state.specs.Same.{same_code}
use Rattle.brisk_state.specs.Symbolic.{Symbolic, thread_named, with_mode}
use Rattle.brisk_state.proofs.Threads.{exact_code}
use Rattle.brisk_basic.specs.declared.rule.Basic.{Basic}
use Rattle.brisk_basic.specs.Basic.{Applied}
use Rattle.brisk_derivation.specs.declared.steps.BasicStep.{BasicStep}
use Rattle.brisk_derivation.specs.declared.steps.Fact.{Fact}
use Rattle.brisk_derivation.specs.Steps.{Step, Branch, Steps}
use Rattle.brisk_derivation.specs.Steps as step
use Rattle.brisk_rules.specs.declared.why.Why.{Why}
use Rattle.brisk_rules.specs.declared.why.Why.TheVariants.{Rule as BasicFault, Side}
use Rattle.brisk_rules.specs.Derives.{apply_quietly, rule_of}
use Rattle.brisk_rules.specs.Heads.{while_of}
use Rattle.brisk_rules.specs.Rules.{Outcome, For, Entered, around, Parted, mode_of, code_in, without_drops, close, enter_for, enter_branch, join}
use Rattle.brisk_sound.proofs.Applied.{Applies, assigns, fills, takes, passes, knows_if, knows_while}
use Rattle.brisk_sound.proofs.Closing.{closed}
use Rattle.brisk_sound.proofs.Derives.{Takes_step, by_rule, by_branch, by_while, by_repeat, by_for, by_gather, by_pick}
use Rattle.brisk_sound.proofs.Entered.{repeat_opens, branch_parts}
use Rattle.brisk_rules.proofs.Fulfilled.{same_ok, at_head_ok, while_is}
use Rattle.brisk_sound.proofs.Kept.{Tidy, tidy_kept}
use Rattle.brisk_sound.proofs.Opened.{for_opens}
use Rattle.brisk_sound.proofs.Outcomes.{step_comes}
use Rattle.brisk_rules.proofs.Readings.{reading, is_active}
use Rattle.brisk_sound.proofs.Received.{gather_opens, pick_opens}
use Rattle.brisk_rules.proofs.Threads.{names, modes, codes, codes_with_mode}
use Rattle.brisk_rules.specs.Standing.{fault_aside, has_code, stands_at}
use Rattle.brisk_rules.specs.Following.{Follow}
use Rattle.brisk_search.specs.Turns.{RulesLeft, Failures, Turn, Goes, Stays, Attempt, stay, where_it_stays, ◌otherwise◌, due}
use Rattle.brisk_search.specs.Turns as turn
use Rattle.brisk_search.specs.Drives.{Drive, Way, Driven, Reached, Stuck, Driver, premise_of}
use Rattle.brisk_search.specs.Drives as drive
use Rattle.brisk_search.specs.Tries.{Rule, entered, refused, closed as closes_with, driven, once, tries, at_risk, with_lost, joined, second_driven, first_driven, branch}
use Rattle.brisk_search.specs.Advance.{Around, applied}
use Rattle.brisk_search.specs.Passes.{Sides, driver, rounds, round, after_round, after_step, enough, here}
use Rattle.brisk_search.proofs.Heads.{IsRule, is_while, is_for, is_repeat, is_gather, is_pick, Holds, in_round}
use Rattle.brisk_search.proofs.Shorter.{NoWhiles, NoLonger, OwnsBasic, Owns, Shrinks, positive, step_shrinks}
use Rattle.brisk_search.proofs.Starts.{focused_more, repeat_starts, gather_starts, pick_starts, for_starts, branch_starts}
use Rattle.brisk_search.proofs.Trying.{BelowLeads}
use Rattle.brisk_search.proofs.Valid.{all_lead, driver_leads}
use Rattle.brisk_search.proofs.Ways.{Leads, TurnLeads, AttemptLeads}

-- a step by a `for` without owners brings its set to the end
abbrev pub Busy : Symbolic → Step → Symbolic → Type 0
Busy S (step.For s [] drops a) next = (has_code S s ≡ true) × (stands_at next s ≡ done)
Busy S (step.For s (t ∷ ts) drops a) next = Unit {0}
Busy S rule next = Unit {0}

module _ (P : Program) where
  -- a tidy state in which no code has a `while`
  pub record Fit (S : Symbolic) : Type 0 where
    pub tidy : Tidy P (reading S)
    pub free : NoWhiles (reading S).code

  abbrev pub GoesOn : Symbolic → Turn → Type 0
  GoesOn S (Goes step items next left) = (left ≡ None) × Busy S step next
  GoesOn S (Stays failures left) = left ≡ None
  GoesOn S turn.Spent = ⊥

  abbrev pub AttemptGoesOn : Symbolic → Attempt → Type 0
  AttemptGoesOn S attempt = Fit S → (failures : Failures) → GoesOn S (attempt failures None)

  abbrev pub DriveGoesOn : Drive → Driven → Type 0
  DriveGoesOn d (Reached w left) = (left ≡ None) × (d.goal w.end ≡ true)
  DriveGoesOn d (Stuck w tries left) = left ≡ None
  DriveGoesOn d drive.Spent = ⊥

  abbrev pub DriverGoesOn : Driver → Type 0
  DriverGoesOn driver = (F : Follow) (d : Drive) (S : Symbolic) → Fit S → DriveGoesOn d (driver F d S None)

  abbrev pub BelowGoesOn : Option Driver → Type 0
  BelowGoesOn None = Unit {0}
  BelowGoesOn (Some driver) = DriverGoesOn driver

  then_next : (S : Symbolic) (next : Attempt) → AttemptGoesOn S next → Fit S → (t : Turn) → GoesOn S t → GoesOn S (where_it_stays next t)
  then_next S next h fit (Goes step items S' left) g = g
  then_next S next h fit (Stays failures left) g = subst (λ z. GoesOn S (next failures z)) (sym g) (h fit failures)
  then_next S next h fit turn.Spent g = g

  applies : (S : Symbolic) (b : BasicStep) (o : Outcome Applied) (failures : Failures) → GoesOn S (applied b o failures None)
  applies S b (Ok r) failures = (refl, tt)
  applies S b (Err why) failures = refl

  refuses : (S : Symbolic) (t : Name) (step : Step) (why : Why) (failures : Failures) → GoesOn S (refused t step why failures None)
  refuses S t step (Side why) failures = refl
  refuses S t step (BasicFault why) failures = refl

  -- a rule whose premise starts fit, and that doesn't idle
  pub record FitsRule (S : Symbolic) (rule : Rule) : Type 0 where
    pub starts : (drops : List Fact) (r : Entered) → rule.enter drops ≡ Ok r → Fit S → Fit r.start
    pub busy : (drops : List Fact) (r : Entered) → rule.enter drops ≡ Ok r → (a : Steps) (E S' : Symbolic) → (premise_of r).goal E ≡ true → close r E ≡ Ok S' → Busy S (rule.step drops a) S'

  closing : (S : Symbolic) (again : Attempt) → AttemptGoesOn S again → Fit S → (step : Step) (items : Items) (o : Outcome Symbolic) → ((S' : Symbolic) → o ≡ Ok S' → Busy S step S') → (failures : Failures) →
      GoesOn S (closes_with again step items o failures None)
  closing S again h fit step items (Ok S') g failures = (refl, g S' refl)
  closing S again h fit step items (Err why) g failures = h fit failures

  driving : (S : Symbolic) (rule : Rule) → FitsRule S rule → Fit S → (again : Entered → Symbolic → Attempt) → ((r : Entered) (E : Symbolic) → AttemptGoesOn S (again r E)) → (drops : List Fact) (r : Entered) →
      rule.enter drops ≡ Ok r → (o : Driven) → DriveGoesOn (premise_of r) o → (failures : Failures) → GoesOn S (driven again rule drops r o failures)
  driving S rule is fit again h drops r e (Reached w left) (none, goal) failures =
      subst (λ z. GoesOn S (driven again rule drops r (Reached w z) failures)) (sym none)
      (closing S (again r w.end) (h r w.end) fit (rule.step drops w.steps) (around r.kind w.items ⨟ nothing) (close r w.end) (λ S' c. is.busy drops r e w.steps w.end S' goal c) failures)
  driving S rule is fit again h drops r e (Stuck w tries left) none failures = none
  driving S rule is fit again h drops r e drive.Spent none failures = none

  once_goes_on : (S : Symbolic) (rule : Rule) → FitsRule S rule → (below : Option Driver) → BelowGoesOn below → (again : Entered → Symbolic → Attempt) → ((r : Entered) (E : Symbolic) → AttemptGoesOn S (again r E)) →
      (drops : List Fact) → AttemptGoesOn S (once below again rule drops)
  once_goes_on S rule is None b again h drops fit failures = refl
  once_goes_on S rule is (Some driver) b again h drops fit failures = go (rule.enter drops) refl
    where
      go : (entry : Outcome Entered) → rule.enter drops ≡ entry →
          GoesOn S (entered (Some driver) entry (λ why. refused rule.at (rule.step drops Steps.no_steps) why failures None) (λ below r. driven again rule drops r (below (rule.follows r) (premise_of r) r.start None) failures))
      go (Ok r) e = driving S rule is fit again h drops r e (driver (rule.follows r) (premise_of r) r.start None) (b (rule.follows r) (premise_of r) r.start (is.starts drops r e fit)) failures
      go (Err why) e = refuses S rule.at (rule.step drops Steps.no_steps) why failures

  tries_go_on : (S : Symbolic) (rule : Rule) → FitsRule S rule → (below : Option Driver) → BelowGoesOn below → (n : ℕ) (drops : List Fact) → AttemptGoesOn S (tries P below S rule n drops)
  tries_go_on S rule is below b zero drops = once_goes_on S rule is below b (λ r E. stay) (λ r E fit failures. refl) (at_risk P S)
  tries_go_on S rule is below b (suc n) drops =
      once_goes_on S rule is below b (λ r E. tries P below S rule n (with_lost P r E drops)) (λ r E. tries_go_on S rule is below b n (with_lost P r E drops)) drops

  or_false : (b : Bool) → not (b || false) ≡ true → b ≡ false
  or_false true e = absurd (true≢false (sym e))
  or_false false e = refl

  -- a `for` without owners
  abbrev idle : Symbolic → Name → List Fact → Entered
  idle S s drops = record {
    start = record S { threads = with_mode s At S.threads; facts = without_drops drops S.facts };
    known = without_drops drops S.facts;
    owners = [];
    kind = For s;
  }

  -- it brings its set to the end
  idle_ends : (S : Symbolic) (s : Name) (drops : List Fact) (E S' : Symbolic) → (premise_of (idle S s drops)).goal E ≡ true → close (idle S s drops) E ≡ Ok S' → stands_at S' s ≡ done
  idle_ends S s drops E S' goal c =
      let g = both_true (not (has_code E s || false)) (is_none (fault_aside (idle S s drops) E)) goal in
      let same = not-false (same_code (stands_at E s) done) (or_false (has_code E s) g.0) in
      let k = closed (idle S s drops) E S' c in
      ap (λ (z : Symbolic). stands_at z s) (sym k.next) ∙ ap (λ (f : Name → Code). f s) (codes_with_mode s Each E.threads) ∙ exact_code (stands_at E s) done same

  set_ends : (S : Symbolic) (s : Name) (drops : List Fact) (r : Entered) → enter_for S s [] drops ≡ Ok r → (E S' : Symbolic) → (premise_of r).goal E ≡ true → close r E ≡ Ok S' → stands_at S' s ≡ done
  set_ends S s drops r e E S' goal c =
      let is : idle S s drops ≡ r = same_ok _ r (focused_more (mode_of (thread_named S.threads s)) _ r e) in
      let h = subst (λ (z : Entered). ((premise_of z).goal E ≡ true) × (close z E ≡ Ok S')) (sym is) (goal, c) in
      idle_ends S s drops E S' h.0 h.1

  pub fits_rule : (F : Follow) (S : Symbolic) (rule : Rule) → IsRule P F S rule → FitsRule S rule
  fits_rule F S _ (is_while t) = record {
    starts = λ drops r e fit. let h = at_head_ok S t while_of _ r e in absurd (subst (λ c. Rattle.brisk_search.proofs.Shorter.NoWhile c) (h.2.stands ∙ while_is h.1 h.0 h.3) (fit.free t)).0;
    busy = λ drops r e a E S' goal c. tt;
  }
  fits_rule F S _ (is_repeat t) = record {
    starts = λ drops r e fit. record { tidy = (repeat_opens P S t drops r e).1.tidy fit.tidy; free = repeat_starts S fit.free t drops r e };
    busy = λ drops r e a E S' goal c. tt;
  }
  fits_rule F S _ (is_gather t) = record {
    starts = λ drops r e fit. record { tidy = (gather_opens P S t drops r e).1.tidy fit.tidy; free = gather_starts S fit.free t drops r e };
    busy = λ drops r e a E S' goal c. tt;
  }
  fits_rule F S _ (is_pick t) = record {
    starts = λ drops r e fit. record { tidy = (pick_opens P S t drops r e).2.tidy fit.tidy; free = pick_starts S fit.free P t drops r e };
    busy = λ drops r e a E S' goal c. tt;
  }
  fits_rule F S _ (is_for t s [] has) = record {
    starts = λ drops r e fit. record { tidy = (for_opens P S s [] drops r e).tidy fit.tidy; free = for_starts S fit.free s [] drops r e };
    busy = λ drops r e a E S' goal c. (has, set_ends S s drops r e E S' goal c);
  }
  fits_rule F S _ (is_for t s (u ∷ us) has) = record {
    starts = λ drops r e fit. record { tidy = (for_opens P S s (u ∷ us) drops r e).tidy fit.tidy; free = for_starts S fit.free s (u ∷ us) drops r e };
    busy = λ drops r e a E S' goal c. tt;
  }

  joining : (S : Symbolic) (t : Name) (p : Parted) (a c : Way) (o : Outcome Symbolic) (failures : Failures) → GoesOn S (joined t p a c o failures None)
  joining S t p a c (Ok S') failures = (refl, tt)
  joining S t p a c (Err why) failures = refuses S t (Branch t a.steps c.steps) why failures

  second_goes_on : (S : Symbolic) (d : Drive) (t : Name) (p : Parted) (a : Way) (o : Driven) → DriveGoesOn d o → (failures : Failures) → GoesOn S (second_driven t p a o failures)
  second_goes_on S d t p a (Reached c left) (none, goal) failures =
      subst (λ z. GoesOn S (second_driven t p a (Reached c z) failures)) (sym none) (joining S t p a c (join a.end c.end) failures)
  second_goes_on S d t p a (Stuck c tries left) none failures = none
  second_goes_on S d t p a drive.Spent none failures = none

  first_goes_on : (S : Symbolic) (driver : Driver) → DriverGoesOn driver → (F : Follow) (d : Drive) (t : Name) (p : Parted) → Fit p.second → (o : Driven) → DriveGoesOn d o → (failures : Failures) →
      GoesOn S (first_driven driver F d t p o failures)
  first_goes_on S driver b F d t p fit (Reached a left) (none, goal) failures =
      subst (λ z. GoesOn S (first_driven driver F d t p (Reached a z) failures)) (sym none) (second_goes_on S d t p a (driver F d p.second None) (b F d p.second fit) failures)
  first_goes_on S driver b F d t p fit (Stuck a tries left) none failures = none
  first_goes_on S driver b F d t p fit drive.Spent none failures = none

  branch_goes_on : (S : Symbolic) (t : Name) (F : Follow) (d : Drive) (below : Option Driver) → BelowGoesOn below → AttemptGoesOn S (branch below F d S t)
  branch_goes_on S t F d None b fit failures = refl
  branch_goes_on S t F d (Some driver) b fit failures = go (enter_branch S t) refl
    where
      go : (entry : Outcome Parted) → enter_branch S t ≡ entry →
          GoesOn S (entered (Some driver) entry (λ why. refused t (Branch t Steps.no_steps Steps.no_steps) why failures None) (λ below p. first_driven below F d t p (below F d p.first None) failures))
      go (Ok p) e =
          let o = branch_parts P S t p e in let f = branch_starts S fit.free t p e in
          first_goes_on S driver b F d t p (record { tidy = o.1.tidy_second fit.tidy; free = f.1 }) (driver F d p.first None) (b F d p.first (record { tidy = o.1.tidy fit.tidy; free = f.0 })) failures
      go (Err why) e = refuses S t (Branch t Steps.no_steps Steps.no_steps) why failures

-- no attempt is spent
pub all_go_on : (around : Around) → BelowGoesOn around.program around.below → Holds around (AttemptGoesOn around.program)
all_go_on around b = record {
  staying = λ S fit failures. refl;
  either = λ S attempt next g h fit failures. then_next around.program S next h fit (attempt failures None) (g fit failures);
  basic = λ S a fit failures. applies around.program S a (apply_quietly around.program around.follows S (rule_of a)) failures;
  nine = λ S rule is. tries_go_on around.program S rule (fits_rule around.program around.follows S rule is) around.below b 8 [];
  branch = λ S t d. branch_goes_on around.program S t around.follows d around.below b;
}

-- sums over names, from a sum so far
module _ (f g : Name → Code) (h : (u : Name) → statements (g u) ≤ statements (f u)) where
  sum_less : (ns : List Name) (a b : ℕ) → a ≤ b → fold (λ n u. n + statements (g u)) a ns ≤ fold (λ n u. n + statements (f u)) b ns
  sum_less [] a b le = le
  sum_less (n ∷ ns) a b le = sum_less ns (a + statements (g n)) (b + statements (f n)) (let x = h n in omega (arith, le, x))

  sum_least : (ns : List Name) (a b : ℕ) → a < b → fold (λ n u. n + statements (g u)) a ns < fold (λ n u. n + statements (f u)) b ns
  sum_least [] a b lt = lt
  sum_least (n ∷ ns) a b lt = sum_least ns (a + statements (g n)) (b + statements (f n)) (let x = h n in omega (arith, lt, x))

  sum_shorter : (t : Name) → statements (g t) < statements (f t) → (ns : List Name) (a b : ℕ) → is_among ns t ≡ true → a ≤ b → fold (λ n u. n + statements (g u)) a ns < fold (λ n u. n + statements (f u)) b ns
  sum_shorter t less [] a b among le = absurd (true≢false (sym among))
  sum_shorter t less (n ∷ ns) a b among le = go (same_name t n) refl among (λ m l. sum_shorter t less ns (a + statements (g n)) (b + statements (f n)) m l)
    where
      go : (c : Bool) → same_name t n ≡ c → (c || is_among ns t) ≡ true →
          (is_among ns t ≡ true → a + statements (g n) ≤ b + statements (f n) → fold (λ n u. n + statements (g u)) (a + statements (g n)) ns < fold (λ n u. n + statements (f u)) (b + statements (f n)) ns) →
          fold (λ n u. n + statements (g u)) (a + statements (g n)) ns < fold (λ n u. n + statements (f u)) (b + statements (f n)) ns
      go true e m more =
          let y : statements (g n) < statements (f n) = subst (λ z. statements (g z) < statements (f z)) (exact_name t n e) less in
          sum_least ns (a + statements (g n)) (b + statements (f n)) (omega (arith, le, y))
      go false e m more = more m (let x = h n in omega (arith, le, x))

-- the statements of all threads
abbrev pub weight : Symbolic → ℕ
weight S = sum_by (λ t. statements (stands_at S t)) (names S.threads)

-- a thread that rules move is there, and so is one with code
active_among : (ts : List Thread) (t : Name) → is_active (modes ts t) ≡ true → is_among (names ts) t ≡ true
active_among [] t e = absurd (true≢false (sym e))
active_among (x ∷ xs) t e = go (same_name t x.name) e (active_among xs t)
  where
    go : (b : Bool) → is_active (mode_of (if b then Some x else thread_named xs t)) ≡ true → (is_active (modes xs t) ≡ true → is_among (names xs) t ≡ true) → (b || is_among (names xs) t) ≡ true
    go true e more = refl
    go false e more = more e

code_among : (ts : List Thread) (t : Name) → not (same_code (codes ts t) done) ≡ true → is_among (names ts) t ≡ true
code_among [] t e = absurd (true≢false (sym e))
code_among (x ∷ xs) t e = go (same_name t x.name) e (code_among xs t)
  where
    go : (b : Bool) → not (same_code (code_in (if b then Some x else thread_named xs t)) done) ≡ true → (not (same_code (codes xs t) done) ≡ true → is_among (names xs) t ≡ true) → (b || is_among (names xs) t) ≡ true
    go true e more = refl
    go false e more = more e

-- a thread with code has a statement
some_statement : (c : Code) → not (same_code c done) ≡ true → 0 < statements c
some_statement done e = absurd (true≢false (sym e))
some_statement (s ⨾ c) e = let x = positive s in omega (arith, x)

-- the owner of a basic rule that applies is moved
basic_owner : (S : Symbolic) (r : Applied) (b : Basic) → Applies S r b → (t : Name) × OwnsBasic b t × (is_active ((reading S).mode t) ≡ true)
basic_owner S r _ (assigns t x e k act is q n named) = (t, refl, act)
basic_owner S r _ (fills t u C n es w k act is stands unused q m named) = (t, refl, act)
basic_owner S r _ (takes t u C n ns xs w k act is stands pends q m named) = (u, refl, act)
basic_owner S r _ (passes t u C es w k xs w' k' act act' is stands is' stands' empty q n named) = (t, refl, act)
basic_owner S r _ (knows_if t s e a b rest v act is two f q n named) = (t, refl, act)
basic_owner S r _ (knows_while t e b rest v act is f q n named) = (t, refl, act)

-- a thread that is there and whose code has become shorter
abbrev Shorter : Symbolic → Symbolic → Type 0
Shorter S S' = (t : Name) × (is_among (names S.threads) t ≡ true) × (statements (stands_at S' t) < statements (stands_at S t))

owner_shorter : (A : Step) (S S' : Symbolic) → Shrinks (Owns A) (reading S).code (reading S').code → (t : Name) → Owns A t → is_active ((reading S).mode t) ≡ true → Shorter S S'
owner_shorter A S S' h t o act = (t, active_among S.threads t act, h.shorter t o)

step_shorter : (P : Program) (F : Follow) (A : Step) (S : Symbolic) (X : Items) (S' : Symbolic) → Takes_step P F A S X S' → Shrinks (Owns A) (reading S).code (reading S').code → Busy S A S' → Shorter S S'
step_shorter P _ _ S X S' (by_rule F b _ r h quiet) shr busy = let o = basic_owner S r (rule_of b) h in owner_shorter (step.Basic b) S S' shr o.0 o.1 o.2
step_shorter P _ _ S X S' (by_branch V t A B _ start start' E F _ Y Z guard br ta tb) shr busy = owner_shorter (step.Branch t A B) S S' shr t refl br.active
step_shorter P _ _ S X S' (by_while F F' t drops A _ start E _ Y guard w ta puts) shr busy = owner_shorter (step.While t drops A) S S' shr t refl (subst (λ m. is_active (m t) ≡ true) w.weaker.mode w.active)
step_shorter P _ _ S X S' (by_repeat F F' t drops A _ start E _ Y s r ta puts) shr busy = owner_shorter (step.Repeat t drops A) S S' shr t refl (subst (λ m. is_active (m t) ≡ true) r.weaker.mode r.active)
step_shorter P _ _ S X S' (by_for F F' s [] drops A _ start E _ Y f ta puts) shr busy =
    (s, code_among S.threads s busy.0, rw busy.1 (some_statement (stands_at S s) busy.0))
step_shorter P _ _ S X S' (by_for F F' s (t ∷ ts) drops A _ start E _ Y f ta puts) shr busy =
    owner_shorter (step.For s (t ∷ ts) drops A) S S' shr t f.entry.once.2 (subst (λ m. is_active (m t) ≡ true) f.weaker.mode f.entry.once.0)
step_shorter P _ _ S X S' (by_gather F F' t drops A _ start E _ Y a g ta puts) shr busy = owner_shorter (step.Gather t drops A) S S' shr t refl (subst (λ m. is_active (m t) ≡ true) g.weaker.mode g.entry.active)
step_shorter P _ _ S X S' (by_pick F F' t drops A _ start E _ Y a n p ta puts) shr busy = owner_shorter (step.Pick t drops A) S S' shr t refl (subst (λ m. is_active (m t) ≡ true) p.weaker.mode p.entry.active)

-- after a step of a derivation that doesn't idle all is fit again, and there is less code
pub stepped : (P : Program) (deep : ℕ) (F : Follow) (A : Step) (S : Symbolic) (X : Items) (S' : Symbolic) → Leads P deep F S A X S' → Busy S A S' → Fit P S → Fit P S' × (weight S' < weight S)
stepped P deep F A S X S' leads busy fit =
    let l = leads 0 in
    let c = step_comes P deep F A 0 S record { items = X; state = S'; line = l.0 } fit.tidy l.1 in
    let shr = step_shrinks P F A S X S' fit.free c.takes in
    let m = step_shorter P F A S X S' c.takes shr busy in (
      record { tidy = tidy_kept P (reading S) (reading S') c.kept fit.tidy; free = shr.free },
      subst (λ ns. sum_by (λ t. statements (stands_at S' t)) ns < weight S) (sym c.named) (sum_shorter (stands_at S) (stands_at S') shr.less m.0 m.2 (names S.threads) 0 0 m.1 (omega arith)),
    )

module _ (deep : ℕ) (around : Around) (leads : BelowLeads around.program deep around.below) (b : BelowGoesOn around.program around.below) (d : Drive) where
  after_it : (f : ℕ) → ((S : Symbolic) → Fit around.program S → weight S < f → DriveGoesOn around.program d (rounds around d f S None)) → (S : Symbolic) → Fit around.program S → weight S < suc f → (t : Turn) →
      TurnLeads around.program deep around.follows S t → GoesOn around.program S t → DriveGoesOn around.program d (after_round (rounds around d f) S t)
  after_it f h S fit less (Goes step items next left) led (none, busy) =
      let x = stepped around.program deep around.follows step S items next led busy fit in
      subst (λ z. DriveGoesOn around.program d (after_step step items (rounds around d f next z))) (sym none) (longer (rounds around d f next None) (h next x.0 (let y = x.1 in omega (arith, less, y))))
    where
      longer : (o : Driven) → DriveGoesOn around.program d o → DriveGoesOn around.program d (after_step step items o)
      longer (Reached w l) g = g
      longer (Stuck w ts l) g = g
      longer drive.Spent g = g
  after_it f h S fit less (Stays failures left) led none = none
  after_it f h S fit less turn.Spent led none = none

  a_round : (f : ℕ) → ((S : Symbolic) → Fit around.program S → weight S < f → DriveGoesOn around.program d (rounds around d f S None)) → (S : Symbolic) → Fit around.program S → weight S < suc f →
      (goal : Bool) → d.goal S ≡ goal → DriveGoesOn around.program d (if goal then Reached (here S) None else after_round (rounds around d f) S (round around d S [] None))
  a_round f h S fit less true e = (refl, e)
  a_round f h S fit less false e =
      after_it f h S fit less (round around d S [] None) (in_round around (AttemptLeads around.program deep around.follows) (all_lead deep around leads) d S [] None)
      (in_round around (AttemptGoesOn around.program) (all_go_on around b) d S fit [])

  rounds_go_on : (f : ℕ) (S : Symbolic) → Fit around.program S → weight S < f → DriveGoesOn around.program d (rounds around d f S None)
  rounds_go_on zero S fit less = absurd (omega (arith, less))
  rounds_go_on (suc f) S fit less = a_round f (rounds_go_on f) S fit less (d.goal S) refl

-- no drive is spent
pub drivers_go_on : (P : Program) (sides : Sides) (n deep : ℕ) → n + deep ≡ 256 → DriverGoesOn P (driver P sides n)
drivers_go_on P sides zero deep e F d S fit = rounds_go_on deep record { program = P; below = None; side = sides d; follows = F } tt tt d (enough None S) S fit (omega arith)
drivers_go_on P sides (suc n) deep e F d S fit =
    rounds_go_on deep record { program = P; below = Some (driver P sides n); side = sides d; follows = F } (lt-ltb deep 256 (omega (arith, e)), driver_leads P sides n (deep + 1) (omega (arith, e)))
    (drivers_go_on P sides n (deep + 1) (omega (arith, e))) d (enough None S) S fit (omega arith)
