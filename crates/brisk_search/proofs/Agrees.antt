-- Where no code has a `while`, all comes out the same with rules that are counted as without, unless they were spent.
use Rattle.std.proofs.Common.{◌≡◌, ℕ, zero, suc, ◌+◌, ◌<◌, Bool, true, false, List, [], Option, Some, None, refl, sym, ap, subst, arith}
use Rattle.std.specs.Prelude.{◌≢◌, Ok, Err, if◌then◌else◌}
use Rattle.std.proofs.lemmas.Bool.{lt-ltb}
use Rattle.brisk_values.specs.Names.{Name}
use Rattle.brisk_syntax.specs.WellTyped.{IsProgramWellTyped}
use Rattle.brisk_sound.proofs.Entered.{branch_parts}
use Rattle.brisk_syntax.specs.declared.program.Program.{Program}
use Rattle.brisk_seq.specs.Items.{Items, nothing, ◌⨟◌}
use Rattle.brisk_state.specs.Symbolic.{Symbolic, initial}
use Rattle.brisk_basic.specs.Basic.{Applied}
use Rattle.brisk_derivation.specs.declared.steps.BasicStep.{BasicStep}
use Rattle.brisk_derivation.specs.declared.steps.Fact.{Fact}
use Rattle.brisk_derivation.specs.Steps.{Step, Basic, Branch, Steps}
use Rattle.brisk_rules.specs.declared.why.Why.{Why}
use Rattle.brisk_rules.specs.declared.why.Why.TheVariants.{Rule as BasicFault, Side}
use Rattle.brisk_rules.specs.Derives.{apply_quietly, rule_of, items_in}
use Rattle.brisk_rules.specs.Rules.{Outcome, Entered, around, Parted, around_sides, close, enter_branch, join}
use Rattle.brisk_rules.specs.Following.{Follow, nothing_follows}
use Rattle.brisk_search.specs.Turns.{RulesLeft, Failures, Turn, Goes, Stays, Attempt, stay, where_it_stays, ◌otherwise◌, due}
use Rattle.brisk_search.specs.Turns as turn
use Rattle.brisk_search.specs.Drives.{Drive, Way, Driven, Reached, Stuck, Driver, premise_of, top, side_of}
use Rattle.brisk_search.specs.Drives as drive
use Rattle.brisk_search.specs.Tries.{Rule, entered, refused, closed, driven, once, tries, at_risk, with_lost, joined, second_driven, first_driven, branch}
use Rattle.brisk_search.specs.Advance.{Around, applied}
use Rattle.brisk_search.specs.Passes.{Sides, driver, rounds, round, after_round, after_step, enough, here, first_pass}
use Rattle.brisk_search.specs.Searched as found
use Rattle.brisk_search.specs.Searched.{Searched, is_simple, after_second, after_first, passes, answer, searched}
use Rattle.brisk_search.proofs.Counting.{BelowCounts, TurnCounts, round_counts, driver_counts}
use Rattle.brisk_search.proofs.Simple.{fit_at_first}
use Rattle.brisk_search.proofs.Starts.{branch_starts}
use Rattle.brisk_search.proofs.Trying.{BelowLeads}
use Rattle.brisk_search.proofs.Uncounted.{Fit, FitsRule, GoesOn, AttemptGoesOn, BelowGoesOn, fits_rule, all_go_on, weight, stepped, drivers_go_on}
use Rattle.brisk_search.proofs.Valid.{all_lead, driver_leads}
use Rattle.brisk_search.proofs.Ways.{TurnLeads, AttemptLeads}
use Rattle.brisk_search.proofs.Heads.{Holds, in_round}

module _ (P : Program) where
  -- the same turn, without counting
  abbrev pub SameTurn : Turn → Turn → Type 0
  SameTurn (Goes step items next None) t = ⊥
  SameTurn (Goes step items next (Some n)) t = t ≡ Goes step items next None
  SameTurn (Stays failures None) t = ⊥
  SameTurn (Stays failures (Some n)) t = t ≡ Stays failures None
  SameTurn turn.Spent t = Unit {0}

  abbrev pub SameAttempt : Symbolic → Attempt → Type 0
  SameAttempt S attempt = Fit P S → (failures : Failures) (n : ℕ) → SameTurn (attempt failures (Some n)) (attempt failures None)

  abbrev pub SameDriven : Driven → Driven → Type 0
  SameDriven (Reached w None) o = ⊥
  SameDriven (Reached w (Some n)) o = o ≡ Reached w None
  SameDriven (Stuck w tries None) o = ⊥
  SameDriven (Stuck w tries (Some n)) o = o ≡ Stuck w tries None
  SameDriven drive.Spent o = Unit {0}

  abbrev pub SameDriver : Driver → Type 0
  SameDriver driver = (F : Follow) (d : Drive) (S : Symbolic) → Fit P S → (n : ℕ) → SameDriven (driver F d S (Some n)) (driver F d S None)

  abbrev pub SameBelow : Option Driver → Type 0
  SameBelow None = Unit {0}
  SameBelow (Some driver) = SameDriver driver

  then_next : (S : Symbolic) (next : Attempt) → SameAttempt S next → Fit P S → (t t' : Turn) → SameTurn t t' → SameTurn (where_it_stays next t) (where_it_stays next t')
  then_next S next h fit (Goes step items S' None) t' e = e
  then_next S next h fit (Goes step items S' (Some n)) t' e = ap (where_it_stays next) e
  then_next S next h fit (Stays failures None) t' e = absurd e
  then_next S next h fit (Stays failures (Some n)) t' e = subst (λ z. SameTurn (next failures (Some n)) (where_it_stays next z)) (sym e) (h fit failures n)
  then_next S next h fit turn.Spent t' e = tt

  dues : (step : Step) (items : Items) (next : Symbolic) (n : ℕ) → SameTurn (due (Some n) (Goes step items next)) (due None (Goes step items next))
  dues step items next zero = tt
  dues step items next (suc n) = refl

  applies : (b : BasicStep) (o : Outcome Applied) (failures : Failures) (n : ℕ) → SameTurn (applied b o failures (Some n)) (applied b o failures None)
  applies b (Ok r) failures n = dues (Basic b) (items_in r.statement) r.next n
  applies b (Err why) failures n = refl

  refuses : (t : Name) (step : Step) (why : Why) (failures : Failures) (n : ℕ) → SameTurn (refused t step why failures (Some n)) (refused t step why failures None)
  refuses t step (Side why) failures n = refl
  refuses t step (BasicFault why) failures n = refl

  closes : (S : Symbolic) (again : Attempt) → SameAttempt S again → Fit P S → (step : Step) (items : Items) (o : Outcome Symbolic) (failures : Failures) (n : ℕ) →
      SameTurn (closed again step items o failures (Some n)) (closed again step items o failures None)
  closes S again h fit step items (Ok S') failures n = dues step items S' n
  closes S again h fit step items (Err why) failures n = h fit failures n

  drives : (S : Symbolic) → Fit P S → (again : Entered → Symbolic → Attempt) → ((r : Entered) (E : Symbolic) → SameAttempt S (again r E)) → (rule : Rule) (drops : List Fact) (r : Entered) (failures : Failures) (o o' : Driven) →
      SameDriven o o' → SameTurn (driven again rule drops r o failures) (driven again rule drops r o' failures)
  drives S fit again h rule drops r failures (Reached w None) o' e = absurd e
  drives S fit again h rule drops r failures (Reached w (Some n)) o' e =
      subst (λ z. SameTurn (driven again rule drops r (Reached w (Some n)) failures) (driven again rule drops r z failures)) (sym e)
      (closes S (again r w.end) (h r w.end) fit (rule.step drops w.steps) (around r.kind w.items ⨟ nothing) (close r w.end) failures n)
  drives S fit again h rule drops r failures (Stuck w ts None) o' e = absurd e
  drives S fit again h rule drops r failures (Stuck w ts (Some n)) o' e = ap (λ z. driven again rule drops r z failures) e
  drives S fit again h rule drops r failures drive.Spent o' e = tt

  once_same : (S : Symbolic) (rule : Rule) → FitsRule P S rule → (below : Option Driver) → SameBelow below → (again : Entered → Symbolic → Attempt) → ((r : Entered) (E : Symbolic) → SameAttempt S (again r E)) →
      (drops : List Fact) → SameAttempt S (once below again rule drops)
  once_same S rule is None b again h drops fit failures n = refl
  once_same S rule is (Some driver) b again h drops fit failures n = go (rule.enter drops) refl
    where
      to : RulesLeft → Outcome Entered → Turn
      to left entry = entered (Some driver) entry (λ why. refused rule.at (rule.step drops Steps.no_steps) why failures left) (λ below r. driven again rule drops r (below (rule.follows r) (premise_of r) r.start left) failures)

      go : (entry : Outcome Entered) → rule.enter drops ≡ entry → SameTurn (to (Some n) entry) (to None entry)
      go (Ok r) e = drives S fit again h rule drops r failures (driver (rule.follows r) (premise_of r) r.start (Some n)) (driver (rule.follows r) (premise_of r) r.start None) (b (rule.follows r) (premise_of r) r.start (is.starts drops r e fit) n)
      go (Err why) e = refuses rule.at (rule.step drops Steps.no_steps) why failures n

  tries_same : (S : Symbolic) (rule : Rule) → FitsRule P S rule → (below : Option Driver) → SameBelow below → (m : ℕ) (drops : List Fact) → SameAttempt S (tries P below S rule m drops)
  tries_same S rule is below b zero drops = once_same S rule is below b (λ r E. stay) (λ r E fit failures n. refl) (at_risk P S)
  tries_same S rule is below b (suc m) drops =
      once_same S rule is below b (λ r E. tries P below S rule m (with_lost P r E drops)) (λ r E. tries_same S rule is below b m (with_lost P r E drops)) drops

  joins : (t : Name) (p : Parted) (a c : Way) (o : Outcome Symbolic) (failures : Failures) (n : ℕ) → SameTurn (joined t p a c o failures (Some n)) (joined t p a c o failures None)
  joins t p a c (Ok S) failures n = dues (Branch t a.steps c.steps) (around_sides p a.items c.items ⨟ nothing) S n
  joins t p a c (Err why) failures n = refuses t (Branch t a.steps c.steps) why failures n

  seconds : (t : Name) (p : Parted) (a : Way) (failures : Failures) (o o' : Driven) → SameDriven o o' → SameTurn (second_driven t p a o failures) (second_driven t p a o' failures)
  seconds t p a failures (Reached c None) o' e = absurd e
  seconds t p a failures (Reached c (Some n)) o' e =
      subst (λ z. SameTurn (second_driven t p a (Reached c (Some n)) failures) (second_driven t p a z failures)) (sym e) (joins t p a c (join a.end c.end) failures n)
  seconds t p a failures (Stuck c ts None) o' e = absurd e
  seconds t p a failures (Stuck c ts (Some n)) o' e = ap (λ z. second_driven t p a z failures) e
  seconds t p a failures drive.Spent o' e = tt

  firsts : (driver : Driver) → SameDriver driver → (F : Follow) (d : Drive) (t : Name) (p : Parted) → Fit P p.second → (failures : Failures) (o o' : Driven) → SameDriven o o' →
      SameTurn (first_driven driver F d t p o failures) (first_driven driver F d t p o' failures)
  firsts driver b F d t p fit failures (Reached a None) o' e = absurd e
  firsts driver b F d t p fit failures (Reached a (Some n)) o' e =
      subst (λ z. SameTurn (first_driven driver F d t p (Reached a (Some n)) failures) (first_driven driver F d t p z failures)) (sym e)
      (seconds t p a failures (driver F d p.second (Some n)) (driver F d p.second None) (b F d p.second fit n))
  firsts driver b F d t p fit failures (Stuck a ts None) o' e = absurd e
  firsts driver b F d t p fit failures (Stuck a ts (Some n)) o' e = ap (λ z. first_driven driver F d t p z failures) e
  firsts driver b F d t p fit failures drive.Spent o' e = tt

  branch_same : (S : Symbolic) (t : Name) (F : Follow) (d : Drive) (below : Option Driver) → SameBelow below → SameAttempt S (branch below F d S t)
  branch_same S t F d None b fit failures n = refl
  branch_same S t F d (Some driver) b fit failures n = go (enter_branch S t) refl
    where
      to : RulesLeft → Outcome Parted → Turn
      to left entry = entered (Some driver) entry (λ why. refused t (Branch t Steps.no_steps Steps.no_steps) why failures left) (λ below p. first_driven below F d t p (below F d p.first left) failures)

      go : (entry : Outcome Parted) → enter_branch S t ≡ entry → SameTurn (to (Some n) entry) (to None entry)
      go (Ok p) e =
          let o = branch_parts P S t p e in let f = branch_starts S fit.free t p e in
          firsts driver b F d t p (record { tidy = o.1.tidy_second fit.tidy; free = f.1 }) failures (driver F d p.first (Some n)) (driver F d p.first None) (b F d p.first (record { tidy = o.1.tidy fit.tidy; free = f.0 }) n)
      go (Err why) e = refuses t (Branch t Steps.no_steps Steps.no_steps) why failures n

  longer : (step : Step) (items : Items) (o o' : Driven) → SameDriven o o' → SameDriven (after_step step items o) (after_step step items o')
  longer step items (Reached w None) o' e = absurd e
  longer step items (Reached w (Some n)) o' e = ap (after_step step items) e
  longer step items (Stuck w ts None) o' e = absurd e
  longer step items (Stuck w ts (Some n)) o' e = ap (after_step step items) e
  longer step items drive.Spent o' e = tt

pub all_same : (around : Around) → SameBelow around.program around.below → Holds around (SameAttempt around.program)
all_same around b = record {
  staying = λ S fit failures n. refl;
  either = λ S attempt next g h fit failures n. then_next around.program S next h fit (attempt failures (Some n)) (attempt failures None) (g fit failures n);
  basic = λ S a fit failures n. applies around.program a (apply_quietly around.program around.follows S (rule_of a)) failures n;
  nine = λ S rule is. tries_same around.program S rule (fits_rule around.program around.follows S rule is) around.below b 8 [];
  branch = λ S t d. branch_same around.program S t around.follows d around.below b;
}

module _ (deep : ℕ) (around : Around) (leads : BelowLeads around.program deep around.below) (on : BelowGoesOn around.program around.below) (counts : BelowCounts around.below)
    (b : SameBelow around.program around.below) (d : Drive) where
  after_it : (f g : ℕ) (n : ℕ) (S : Symbolic) → Fit around.program S → weight S < suc g →
      ((E : Symbolic) (m : ℕ) → Fit around.program E → m < n → weight E < g → SameDriven around.program (rounds around d f E (Some m)) (rounds around d g E None)) →
      (t t' : Turn) → TurnCounts n t → TurnLeads around.program deep around.follows S t → GoesOn around.program S t' → SameTurn around.program t t' →
      SameDriven around.program (after_round (rounds around d f) S t) (after_round (rounds around d g) S t')
  after_it f g n S fit less h (Goes step items next None) t' c l o e = absurd e
  after_it f g n S fit less h (Goes step items next (Some m)) t' c l o e =
      let busy = (subst (GoesOn around.program S) e o).1 in
      let x = stepped around.program deep around.follows step S items next l busy fit in
      subst (λ z. SameDriven around.program (after_round (rounds around d f) S (Goes step items next (Some m))) (after_round (rounds around d g) S z)) (sym e)
      (longer around.program step items (rounds around d f next (Some m)) (rounds around d g next None) (h next m x.0 c (let y = x.1 in omega (arith, less, y))))
  after_it f g n S fit less h (Stays failures None) t' c l o e = absurd e
  after_it f g n S fit less h (Stays failures (Some m)) t' c l o e = ap (after_round (rounds around d g) S) e
  after_it f g n S fit less h turn.Spent t' c l o e = tt

  rounds_same : (f g : ℕ) (n : ℕ) (S : Symbolic) → Fit around.program S → n < f → weight S < g → SameDriven around.program (rounds around d f S (Some n)) (rounds around d g S None)
  rounds_same zero g n S fit x y = absurd (omega (arith, x))
  rounds_same (suc f) zero n S fit x y = absurd (omega (arith, y))
  rounds_same (suc f) (suc g) n S fit x y =
      go (d.goal S) (after_it f g n S fit y (λ E m z l w. rounds_same f g m E z (omega (arith, x, l)) w) (round around d S [] (Some n)) (round around d S [] None)
      (round_counts around counts d S [] n) (in_round around (AttemptLeads around.program deep around.follows) (all_lead deep around leads) d S [] (Some n))
      (in_round around (AttemptGoesOn around.program) (all_go_on around on) d S fit []) (in_round around (SameAttempt around.program) (all_same around b) d S fit [] n))
    where
      go : (goal : Bool) → SameDriven around.program (after_round (rounds around d f) S (round around d S [] (Some n))) (after_round (rounds around d g) S (round around d S [] None)) →
          SameDriven around.program (if goal then Reached (here S) (Some n) else after_round (rounds around d f) S (round around d S [] (Some n)))
          (if goal then Reached (here S) None else after_round (rounds around d g) S (round around d S [] None))
      go true h = refl
      go false h = h

pub drivers_same : (P : Program) (sides : Sides) (j deep : ℕ) → j + deep ≡ 256 → SameDriver P (driver P sides j)
drivers_same P sides zero deep e F d S fit n = rounds_same deep record { program = P; below = None; side = sides d; follows = F } tt tt tt tt d (suc n) (enough None S) n S fit (omega arith) (omega arith)
drivers_same P sides (suc j) deep e F d S fit n =
    rounds_same deep record { program = P; below = Some (driver P sides j); side = sides d; follows = F } (lt-ltb deep 256 (omega (arith, e)), driver_leads P sides j (deep + 1) (omega (arith, e)))
    (drivers_go_on P sides j (deep + 1) (omega (arith, e))) (driver_counts P sides j) (drivers_same P sides j (deep + 1) (omega (arith, e))) d (suc n) (enough None S) n S fit (omega arith) (omega arith)

same_answer : (P : Program) (o o' : Driven) → SameDriven P o o' → answer P o ≢ found.Spent → answer P o' ≡ answer P o
same_answer P (Reached w None) o' e h = absurd e
same_answer P (Reached w (Some n)) o' e h = ap (answer P) e
same_answer P (Stuck w ts None) o' e h = absurd e
same_answer P (Stuck w ts (Some n)) o' e h = ap (answer P) e
same_answer P drive.Spent o' e h = absurd (h refl)

-- a straight program or a star is answered as with each budget that isn't spent
pub counting_agrees : (P : Program) (budget any : ℕ) → IsProgramWellTyped P → is_simple P ≡ true → answer P (first_pass P (Some budget)) ≢ found.Spent → searched P any ≡ answer P (first_pass P (Some budget))
counting_agrees P budget any typed simple h =
    subst (λ b. answer P (passes b P any) ≡ answer P (first_pass P (Some budget))) (sym simple)
    (same_answer P (first_pass P (Some budget)) (first_pass P None) (drivers_same P (λ around t rest. side_of t rest) 256 0 refl nothing_follows top (initial P) (fit_at_first P typed simple) budget) h)
