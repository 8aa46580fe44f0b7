-- With more rules left all comes out the same, and as many more are left after it, unless they were spent.
use Rattle.std.proofs.Common.{◌≡◌, ℕ, zero, suc, ◌+◌, ◌<◌, Bool, true, false, List, [], Option, Some, None, refl, sym, ap, subst, arith}
use Rattle.std.specs.Prelude.{◌≢◌, Ok, Err, if◌then◌else◌}
use Rattle.brisk_values.specs.Names.{Name}
use Rattle.brisk_syntax.specs.declared.program.Program.{Program}
use Rattle.brisk_seq.specs.Items.{Items, nothing, ◌⨟◌}
use Rattle.brisk_state.specs.Symbolic.{Symbolic, initial}
use Rattle.brisk_basic.specs.Basic.{Applied}
use Rattle.brisk_derivation.specs.declared.steps.BasicStep.{BasicStep}
use Rattle.brisk_derivation.specs.declared.steps.Fact.{Fact}
use Rattle.brisk_derivation.specs.Reports.{Tries}
use Rattle.brisk_derivation.specs.Steps.{Step, Basic, Branch, Steps}
use Rattle.brisk_rules.specs.declared.why.Why.{Why}
use Rattle.brisk_rules.specs.declared.why.Why.TheVariants.{Rule as BasicFault, Side}
use Rattle.brisk_rules.specs.Derives.{apply_quietly, rule_of, items_in}
use Rattle.brisk_rules.specs.Rules.{Outcome, Entered, around, Parted, around_sides, close, enter_branch, join}
use Rattle.brisk_rules.specs.Following.{Follow, nothing_follows}
use Rattle.brisk_search.specs.Turns.{Failures, Turn, Goes, Stays, Attempt, stay, where_it_stays, ◌otherwise◌, due}
use Rattle.brisk_search.specs.Turns as turn
use Rattle.brisk_search.specs.Drives.{Drive, Way, Driven, Reached, Stuck, Driver, premise_of, top, side_of}
use Rattle.brisk_search.specs.Drives as drive
use Rattle.brisk_search.specs.Tries.{Rule, entered, refused, closed, driven, once, tries, at_risk, with_lost, joined, second_driven, first_driven, branch}
use Rattle.brisk_search.specs.Advance.{Around, applied}
use Rattle.brisk_search.specs.Passes.{Sides, driver, rounds, round, after_round, after_step, here, first_pass, second_pass}
use Rattle.brisk_search.specs.Searched as found
use Rattle.brisk_search.specs.Searched.{Searched, is_simple, after_second, after_first, passes, answer, searched}
use Rattle.brisk_search.proofs.Counting.{BelowCounts, TurnCounts, round_counts, driver_counts}
use Rattle.brisk_search.proofs.Heads.{Holds, in_round}

module _ (k : ℕ) where
  -- the same turn, with k more left
  abbrev pub SameTurn : Turn → Turn → Type 0
  SameTurn (Goes step items next None) t = ⊥
  SameTurn (Goes step items next (Some n)) t = t ≡ Goes step items next (Some (n + k))
  SameTurn (Stays failures None) t = ⊥
  SameTurn (Stays failures (Some n)) t = t ≡ Stays failures (Some (n + k))
  SameTurn turn.Spent t = Unit {0}

  abbrev pub SameAttempt : Attempt → Type 0
  SameAttempt attempt = (failures : Failures) (n : ℕ) → SameTurn (attempt failures (Some n)) (attempt failures (Some (n + k)))

  abbrev pub SameDriven : Driven → Driven → Type 0
  SameDriven (Reached w None) o = ⊥
  SameDriven (Reached w (Some n)) o = o ≡ Reached w (Some (n + k))
  SameDriven (Stuck w tries None) o = ⊥
  SameDriven (Stuck w tries (Some n)) o = o ≡ Stuck w tries (Some (n + k))
  SameDriven drive.Spent o = Unit {0}

  abbrev pub SameDriver : Driver → Type 0
  SameDriver driver = (F : Follow) (d : Drive) (S : Symbolic) (n : ℕ) → SameDriven (driver F d S (Some n)) (driver F d S (Some (n + k)))

  abbrev pub SameBelow : Option Driver → Type 0
  SameBelow None = Unit {0}
  SameBelow (Some driver) = SameDriver driver

  pub then_next : (next : Attempt) → SameAttempt next → (t t' : Turn) → SameTurn t t' → SameTurn (where_it_stays next t) (where_it_stays next t')
  then_next next h (Goes step items S None) t' e = e
  then_next next h (Goes step items S (Some n)) t' e = ap (where_it_stays next) e
  then_next next h (Stays failures None) t' e = absurd e
  then_next next h (Stays failures (Some n)) t' e = subst (λ z. SameTurn (next failures (Some n)) (where_it_stays next z)) (sym e) (h failures n)
  then_next next h turn.Spent t' e = tt

  pub dues : (step : Step) (items : Items) (next : Symbolic) (n : ℕ) → SameTurn (due (Some n) (Goes step items next)) (due (Some (n + k)) (Goes step items next))
  dues step items next zero = tt
  dues step items next (suc n) = let e : suc n + k ≡ suc (n + k) = omega arith in ap (λ m. due (Some m) (Goes step items next)) e

  pub applies : (b : BasicStep) (o : Outcome Applied) → SameAttempt (applied b o)
  applies b (Ok r) failures n = dues (Basic b) (items_in r.statement) r.next n
  applies b (Err why) failures n = refl

  pub refuses : (t : Name) (step : Step) (why : Why) → SameAttempt (refused t step why)
  refuses t step (Side why) failures n = refl
  refuses t step (BasicFault why) failures n = refl

  pub closes : (again : Attempt) → SameAttempt again → (step : Step) (items : Items) (o : Outcome Symbolic) → SameAttempt (closed again step items o)
  closes again h step items (Ok S) failures n = dues step items S n
  closes again h step items (Err why) failures n = h failures n

  pub drives : (again : Entered → Symbolic → Attempt) → ((r : Entered) (E : Symbolic) → SameAttempt (again r E)) → (rule : Rule) (drops : List Fact) (r : Entered) (failures : Failures) (o o' : Driven) → SameDriven o o' →
      SameTurn (driven again rule drops r o failures) (driven again rule drops r o' failures)
  drives again h rule drops r failures (Reached w None) o' e = absurd e
  drives again h rule drops r failures (Reached w (Some n)) o' e =
      subst (λ z. SameTurn (driven again rule drops r (Reached w (Some n)) failures) (driven again rule drops r z failures)) (sym e)
      (closes (again r w.end) (h r w.end) (rule.step drops w.steps) (around r.kind w.items ⨟ nothing) (close r w.end) failures n)
  drives again h rule drops r failures (Stuck w ts None) o' e = e
  drives again h rule drops r failures (Stuck w ts (Some n)) o' e = ap (λ z. driven again rule drops r z failures) e
  drives again h rule drops r failures drive.Spent o' e = tt

  pub once_same : (below : Option Driver) → SameBelow below → (again : Entered → Symbolic → Attempt) → ((r : Entered) (E : Symbolic) → SameAttempt (again r E)) → (rule : Rule) (drops : List Fact) →
      SameAttempt (once below again rule drops)
  once_same None b again h rule drops failures n = refl
  once_same (Some driver) b again h rule drops failures n = go (rule.enter drops)
    where
      to : ℕ → Outcome Entered → Turn
      to m entry = entered (Some driver) entry (λ why. refused rule.at (rule.step drops Steps.no_steps) why failures (Some m)) (λ below r. driven again rule drops r (below (rule.follows r) (premise_of r) r.start (Some m)) failures)

      go : (entry : Outcome Entered) → SameTurn (to n entry) (to (n + k) entry)
      go (Ok r) = drives again h rule drops r failures (driver (rule.follows r) (premise_of r) r.start (Some n)) (driver (rule.follows r) (premise_of r) r.start (Some (n + k))) (b (rule.follows r) (premise_of r) r.start n)
      go (Err why) = refuses rule.at (rule.step drops Steps.no_steps) why failures n

  pub tries_same : (P : Program) (below : Option Driver) → SameBelow below → (S : Symbolic) (rule : Rule) (m : ℕ) (drops : List Fact) → SameAttempt (tries P below S rule m drops)
  tries_same P below b S rule zero drops = once_same below b (λ r E. stay) (λ r E failures n. refl) rule (at_risk P S)
  tries_same P below b S rule (suc m) drops =
      once_same below b (λ r E. tries P below S rule m (with_lost P r E drops)) (λ r E. tries_same P below b S rule m (with_lost P r E drops)) rule drops

  pub joins : (t : Name) (p : Parted) (a c : Way) (o : Outcome Symbolic) → SameAttempt (joined t p a c o)
  joins t p a c (Ok S) failures n = dues (Branch t a.steps c.steps) (around_sides p a.items c.items ⨟ nothing) S n
  joins t p a c (Err why) failures n = refuses t (Branch t a.steps c.steps) why failures n

  pub seconds : (t : Name) (p : Parted) (a : Way) (failures : Failures) (o o' : Driven) → SameDriven o o' → SameTurn (second_driven t p a o failures) (second_driven t p a o' failures)
  seconds t p a failures (Reached c None) o' e = absurd e
  seconds t p a failures (Reached c (Some n)) o' e =
      subst (λ z. SameTurn (second_driven t p a (Reached c (Some n)) failures) (second_driven t p a z failures)) (sym e) (joins t p a c (join a.end c.end) failures n)
  seconds t p a failures (Stuck c ts None) o' e = e
  seconds t p a failures (Stuck c ts (Some n)) o' e = ap (λ z. second_driven t p a z failures) e
  seconds t p a failures drive.Spent o' e = tt

  pub firsts : (driver : Driver) → SameDriver driver → (F : Follow) (d : Drive) (t : Name) (p : Parted) (failures : Failures) (o o' : Driven) → SameDriven o o' →
      SameTurn (first_driven driver F d t p o failures) (first_driven driver F d t p o' failures)
  firsts driver b F d t p failures (Reached a None) o' e = absurd e
  firsts driver b F d t p failures (Reached a (Some n)) o' e =
      subst (λ z. SameTurn (first_driven driver F d t p (Reached a (Some n)) failures) (first_driven driver F d t p z failures)) (sym e)
      (seconds t p a failures (driver F d p.second (Some n)) (driver F d p.second (Some (n + k))) (b F d p.second n))
  firsts driver b F d t p failures (Stuck a ts None) o' e = e
  firsts driver b F d t p failures (Stuck a ts (Some n)) o' e = ap (λ z. first_driven driver F d t p z failures) e
  firsts driver b F d t p failures drive.Spent o' e = tt

  pub branch_same : (below : Option Driver) → SameBelow below → (F : Follow) (d : Drive) (S : Symbolic) (t : Name) → SameAttempt (branch below F d S t)
  branch_same None b F d S t failures n = refl
  branch_same (Some driver) b F d S t failures n = go (enter_branch S t)
    where
      to : ℕ → Outcome Parted → Turn
      to m entry = entered (Some driver) entry (λ why. refused t (Branch t Steps.no_steps Steps.no_steps) why failures (Some m)) (λ below p. first_driven below F d t p (below F d p.first (Some m)) failures)

      go : (entry : Outcome Parted) → SameTurn (to n entry) (to (n + k) entry)
      go (Ok p) = firsts driver b F d t p failures (driver F d p.first (Some n)) (driver F d p.first (Some (n + k))) (b F d p.first n)
      go (Err why) = refuses t (Branch t Steps.no_steps Steps.no_steps) why failures n

  pub all_same : (around : Around) → SameBelow around.below → Holds around (λ S. SameAttempt)
  all_same around b = record {
    staying = λ S failures n. refl;
    either = λ S attempt next g h failures n. then_next next h (attempt failures (Some n)) (attempt failures (Some (n + k))) (g failures n);
    basic = λ S a. applies a (apply_quietly around.program around.follows S (rule_of a));
    nine = λ S rule is. tries_same around.program around.below b S rule 8 [];
    branch = λ S t d. branch_same around.below b around.follows d S t;
  }

  pub longer : (step : Step) (items : Items) (o o' : Driven) → SameDriven o o' → SameDriven (after_step step items o) (after_step step items o')
  longer step items (Reached w None) o' e = e
  longer step items (Reached w (Some n)) o' e = ap (after_step step items) e
  longer step items (Stuck w ts None) o' e = e
  longer step items (Stuck w ts (Some n)) o' e = ap (after_step step items) e
  longer step items drive.Spent o' e = tt

  module _ (around : Around) (counts : BelowCounts around.below) (b : SameBelow around.below) (d : Drive) where
    after_it : (f g : ℕ) (n : ℕ) (S : Symbolic) → ((S : Symbolic) (m : ℕ) → m < n → SameDriven (rounds around d f S (Some m)) (rounds around d g S (Some (m + k)))) → (t t' : Turn) → TurnCounts n t → SameTurn t t' →
        SameDriven (after_round (rounds around d f) S t) (after_round (rounds around d g) S t')
    after_it f g n S h (Goes step items next None) t' c e = absurd e
    after_it f g n S h (Goes step items next (Some m)) t' c e =
        subst (λ z. SameDriven (after_round (rounds around d f) S (Goes step items next (Some m))) (after_round (rounds around d g) S z)) (sym e)
        (longer step items (rounds around d f next (Some m)) (rounds around d g next (Some (m + k))) (h next m c))
    after_it f g n S h (Stays failures None) t' c e = absurd e
    after_it f g n S h (Stays failures (Some m)) t' c e = ap (after_round (rounds around d g) S) e
    after_it f g n S h turn.Spent t' c e = tt

    pub rounds_same : (f g : ℕ) (n : ℕ) (S : Symbolic) → n < f → n + k < g → SameDriven (rounds around d f S (Some n)) (rounds around d g S (Some (n + k)))
    rounds_same zero g n S x y = absurd (omega (arith, x))
    rounds_same (suc f) zero n S x y = absurd (omega (arith, y))
    rounds_same (suc f) (suc g) n S x y =
        go (d.goal S) (after_it f g n S (λ E m l. rounds_same f g m E (omega (arith, x, l)) (omega (arith, y, l))) (round around d S [] (Some n)) (round around d S [] (Some (n + k)))
        (round_counts around counts d S [] n) (in_round around (λ E. SameAttempt) (all_same around b) d S [] n))
      where
        go : (goal : Bool) → SameDriven (after_round (rounds around d f) S (round around d S [] (Some n))) (after_round (rounds around d g) S (round around d S [] (Some (n + k)))) →
            SameDriven (if goal then Reached (here S) (Some n) else after_round (rounds around d f) S (round around d S [] (Some n)))
            (if goal then Reached (here S) (Some (n + k)) else after_round (rounds around d g) S (round around d S [] (Some (n + k))))
        go true h = refl
        go false h = h

  pub drivers_same : (P : Program) (sides : Sides) (j : ℕ) → SameDriver (driver P sides j)
  drivers_same P sides zero F d S n = rounds_same record { program = P; below = None; side = sides d; follows = F } tt tt d (suc n) (suc (n + k)) n S (omega arith) (omega arith)
  drivers_same P sides (suc j) F d S n =
      rounds_same record { program = P; below = Some (driver P sides j); side = sides d; follows = F } (driver_counts P sides j) (drivers_same P sides j) d (suc n) (suc (n + k)) n S (omega arith) (omega arith)

  -- the same answer, unless there was none
  SameAnswer : Program → Driven → Driven → Type 0
  SameAnswer P o o' = answer P o ≢ found.Spent → answer P o' ≡ answer P o

  second_same : (P : Program) (w : Way) (ts : Tries) (o o' : Driven) → SameDriven o o' → SameAnswer P (after_second w ts o) (after_second w ts o')
  unfolding SameAnswer
  second_same P w ts (Reached v None) o' e = absurd e
  second_same P w ts (Reached v (Some n)) o' e = λ h. ap (λ z. answer P (after_second w ts z)) e
  second_same P w ts (Stuck v more None) o' e = absurd e
  second_same P w ts (Stuck v more (Some n)) o' e = λ h. ap (λ z. answer P (after_second w ts z)) e
  second_same P w ts drive.Spent o' e = λ h. absurd (h refl)

  first_same : (P : Program) (o o' : Driven) → SameDriven o o' → SameAnswer P (after_first P o) (after_first P o')
  unfolding SameAnswer second_same
  first_same P (Reached w None) o' e = absurd e
  first_same P (Reached w (Some n)) o' e = λ h. ap (λ z. answer P (after_first P z)) e
  first_same P (Stuck w ts None) o' e = absurd e
  first_same P (Stuck w ts (Some n)) o' e =
      subst (λ z. SameAnswer P (after_first P (Stuck w ts (Some n))) (after_first P z)) (sym e)
      (second_same P w ts (second_pass P (Some n)) (second_pass P (Some (n + k))) (drivers_same P (λ around t rest. around) 256 nothing_follows top (initial P) n))
  first_same P drive.Spent o' e = λ h. absurd (h refl)

  passes_same : (P : Program) (simple : Bool) (budget : ℕ) → SameAnswer P (passes simple P budget) (passes simple P (budget + k))
  unfolding SameAnswer
  passes_same P true budget = λ h. refl
  passes_same P false budget = first_same P (first_pass P (Some budget)) (first_pass P (Some (budget + k))) (drivers_same P (λ around t rest. side_of t rest) 256 nothing_follows top (initial P) budget)

-- a larger budget gives the same answer
pub larger_budget : (P : Program) (budget more : ℕ) → searched P budget ≢ found.Spent → searched P (budget + more) ≡ searched P budget
unfolding SameAnswer
larger_budget P budget more h = passes_same more P (is_simple P) budget h
