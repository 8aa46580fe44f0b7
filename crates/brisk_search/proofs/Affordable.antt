-- Where no code has a `while`, some number of rules is enough.
use Rattle.std.proofs.Common.{◌≡◌, ℕ, zero, suc, ◌+◌, ◌<◌, Bool, true, false, List, [], Option, Some, None, refl, sym, ap, subst, true≢false, arith}
use Rattle.std.specs.Prelude.{◌≢◌, Ok, Err, if◌then◌else◌}
use Rattle.std.proofs.lemmas.Bool.{lt-ltb}
use Rattle.brisk_values.specs.Names.{Name}
use Rattle.brisk_syntax.specs.WellTyped.{IsProgramWellTyped}
use Rattle.brisk_sound.proofs.Entered.{branch_parts}
use Rattle.brisk_syntax.specs.declared.program.Program.{Program}
use Rattle.brisk_seq.specs.Items.{Items, nothing, ◌⨟◌}
use Rattle.brisk_state.specs.Symbolic.{Symbolic, initial}
use Rattle.brisk_basic.specs.Basic.{Applied}
use Rattle.brisk_derivation.specs.declared.steps.BasicStep.{BasicStep}
use Rattle.brisk_derivation.specs.declared.steps.Fact.{Fact}
use Rattle.brisk_derivation.specs.Steps.{Step, Branch, Steps}
use Rattle.brisk_rules.specs.declared.why.Why.{Why}
use Rattle.brisk_rules.specs.declared.why.Why.TheVariants.{Rule as BasicFault, Side}
use Rattle.brisk_rules.specs.Derives.{apply_quietly, rule_of}
use Rattle.brisk_rules.specs.Rules.{Outcome, Entered, around, Parted, close, enter_branch, join}
use Rattle.brisk_rules.specs.Following.{Follow, nothing_follows}
use Rattle.brisk_search.specs.Turns.{RulesLeft, Failures, Turn, Goes, Stays, Attempt, stay, where_it_stays, ◌otherwise◌, due}
use Rattle.brisk_search.specs.Turns as turn
use Rattle.brisk_search.specs.Drives.{Drive, Way, Driven, Reached, Stuck, Driver, premise_of, top, side_of}
use Rattle.brisk_search.specs.Drives as drive
use Rattle.brisk_search.specs.Tries.{Rule, entered, refused, closed, driven, once, tries, at_risk, with_lost, joined, second_driven, first_driven, branch}
use Rattle.brisk_search.specs.Advance.{Around, applied}
use Rattle.brisk_search.specs.Passes.{Sides, driver, rounds, round, after_round, after_step, enough, here, first_pass}
use Rattle.brisk_search.specs.Searched as found
use Rattle.brisk_search.specs.Searched.{Searched, is_simple, after_second, after_first, passes, answer, searched}
use Rattle.brisk_search.proofs.Counting.{BelowCounts, TurnCounts, round_counts, driver_counts}
use Rattle.brisk_search.proofs.Simple.{fit_at_first}
use Rattle.brisk_search.proofs.Starts.{branch_starts}
use Rattle.brisk_search.proofs.Trying.{BelowLeads}
use Rattle.brisk_search.proofs.Uncounted.{Fit, FitsRule, GoesOn, AttemptGoesOn, BelowGoesOn, fits_rule, all_go_on, weight, stepped, drivers_go_on}
use Rattle.brisk_search.proofs.Valid.{all_lead, driver_leads}
use Rattle.brisk_search.proofs.Ways.{TurnLeads, AttemptLeads}
use Rattle.brisk_search.proofs.Agrees as agrees
use Rattle.brisk_search.proofs.Larger as larger
use Rattle.brisk_search.proofs.Heads.{Holds, in_round}

-- a turn, or a drive, isn't spent
abbrev pub Lasts : Turn → Type 0
Lasts (Goes step items next left) = Unit {0}
Lasts (Stays failures left) = Unit {0}
Lasts turn.Spent = ⊥

abbrev pub DrivenLasts : Driven → Type 0
DrivenLasts (Reached w left) = Unit {0}
DrivenLasts (Stuck w tries left) = Unit {0}
DrivenLasts drive.Spent = ⊥

-- it lasts with more rules as well
with_more : (k : ℕ) (t t' : Turn) → larger.SameTurn k t t' → Lasts t → Lasts t'
with_more k (Goes step items next None) t' e h = absurd e
with_more k (Goes step items next (Some n)) t' e h = subst Lasts (sym e) tt
with_more k (Stays failures None) t' e h = absurd e
with_more k (Stays failures (Some n)) t' e h = subst Lasts (sym e) tt
with_more k turn.Spent t' e h = absurd h

driven_with_more : (k : ℕ) (o o' : Driven) → larger.SameDriven k o o' → DrivenLasts o → DrivenLasts o'
driven_with_more k (Reached w None) o' e h = absurd e
driven_with_more k (Reached w (Some n)) o' e h = subst DrivenLasts (sym e) tt
driven_with_more k (Stuck w ts None) o' e h = absurd e
driven_with_more k (Stuck w ts (Some n)) o' e h = subst DrivenLasts (sym e) tt
driven_with_more k drive.Spent o' e h = absurd h

-- an attempt that lasts with c rules does with what is left of some and c more
later : (attempt : Attempt) → ((k : ℕ) → larger.SameAttempt k attempt) → (failures : Failures) (c l : ℕ) → Lasts (attempt failures (Some c)) → Lasts (attempt failures (Some (l + c)))
later attempt same failures c l h =
    let e : c + l ≡ l + c = omega arith in
    subst (λ m. Lasts (attempt failures (Some m))) e (with_more l (attempt failures (Some c)) (attempt failures (Some (c + l))) (same l failures c) h)

module _ (P : Program) where
  -- an attempt goes alike with more rules, and in a fit state some number of rules is enough
  pub record Affordable (S : Symbolic) (attempt : Attempt) : Type 0 where
    pub same : (k : ℕ) → larger.SameAttempt k attempt
    pub cost : Fit P S → (failures : Failures) → (c : ℕ) × Lasts (attempt failures (Some c))

  abbrev pub DriverAffordable : Driver → Type 0
  DriverAffordable driver = (F : Follow) (d : Drive) (S : Symbolic) → Fit P S → (c : ℕ) × DrivenLasts (driver F d S (Some c))

  abbrev pub BelowAffordable : Option Driver → Type 0
  BelowAffordable None = Unit {0}
  BelowAffordable (Some driver) = DriverAffordable driver

  -- one attempt and then another
  then_next : (S : Symbolic) (attempt next : Attempt) → ((k : ℕ) → larger.SameAttempt k attempt) → Affordable S next → Fit P S → (failures : Failures) (c : ℕ) (t : Turn) → attempt failures (Some c) ≡ t → Lasts t →
      (m : ℕ) × Lasts ((attempt otherwise next) failures (Some m))
  then_next S attempt next same h fit failures c (Goes step items S' left) e l = (c, subst (λ z. Lasts (where_it_stays next z)) (sym e) tt)
  then_next S attempt next same h fit failures c (Stays more None) e l = absurd (subst (λ z. larger.SameTurn 0 z (attempt failures (Some (c + 0)))) e (same 0 failures c))
  then_next S attempt next same h fit failures c (Stays more (Some n)) e l =
      let x = h.cost fit more in
      let y = subst (λ z. larger.SameTurn x.0 z (attempt failures (Some (c + x.0)))) e (same x.0 failures c) in
      (c + x.0, subst (λ z. Lasts (where_it_stays next z)) (sym y) (later next h.same more x.0 n x.1))
  then_next S attempt next same h fit failures c turn.Spent e l = absurd l

  applied_costs : (b : BasicStep) (o : Outcome Applied) (failures : Failures) → (c : ℕ) × Lasts (applied b o failures (Some c))
  applied_costs b (Ok r) failures = (1, tt)
  applied_costs b (Err why) failures = (0, tt)

  refused_costs : (t : Name) (step : Step) (why : Why) (failures : Failures) → (c : ℕ) × Lasts (refused t step why failures (Some c))
  refused_costs t step (Side why) failures = (0, tt)
  refused_costs t step (BasicFault why) failures = (0, tt)

  closed_costs : (S : Symbolic) (again : Attempt) → Affordable S again → Fit P S → (step : Step) (items : Items) (o : Outcome Symbolic) (failures : Failures) → (c : ℕ) × Lasts (closed again step items o failures (Some c))
  closed_costs S again h fit step items (Ok S') failures = (1, tt)
  closed_costs S again h fit step items (Err why) failures = h.cost fit failures

  -- one try, of which the premise was driven with c rules
  driven_costs : (S : Symbolic) (again : Entered → Symbolic → Attempt) → ((r : Entered) (E : Symbolic) → Affordable S (again r E)) → Fit P S → (rule : Rule) (drops : List Fact) (r : Entered) (failures : Failures) (run : ℕ → Driven) →
      ((k n : ℕ) → larger.SameDriven k (run n) (run (n + k))) → (c : ℕ) (o : Driven) → run c ≡ o → DrivenLasts o → (m : ℕ) × Lasts (driven again rule drops r (run m) failures)
  driven_costs S again h fit rule drops r failures run same c (Reached w None) e l = absurd (subst (λ z. larger.SameDriven 0 z (run (c + 0))) e (same 0 c))
  driven_costs S again h fit rule drops r failures run same c (Reached w (Some n)) e l =
      let goes : Attempt = closed (again r w.end) (rule.step drops w.steps) (around r.kind w.items ⨟ nothing) (close r w.end) in
      let x = closed_costs S (again r w.end) (h r w.end) fit (rule.step drops w.steps) (around r.kind w.items ⨟ nothing) (close r w.end) failures in
      let y = subst (λ z. larger.SameDriven x.0 z (run (c + x.0))) e (same x.0 c) in (
        c + x.0,
        subst (λ z. Lasts (driven again rule drops r z failures)) (sym y)
            (later goes (λ k. larger.closes k (again r w.end) ((h r w.end).same k) (rule.step drops w.steps) (around r.kind w.items ⨟ nothing) (close r w.end)) failures x.0 n x.1),
      )
  driven_costs S again h fit rule drops r failures run same c (Stuck w ts left) e l = (c, subst (λ z. Lasts (driven again rule drops r z failures)) (sym e) tt)
  driven_costs S again h fit rule drops r failures run same c drive.Spent e l = absurd l

  once_costs : (S : Symbolic) (rule : Rule) → FitsRule P S rule → (below : Option Driver) → ((k : ℕ) → larger.SameBelow k below) → BelowAffordable below → (again : Entered → Symbolic → Attempt) →
      ((r : Entered) (E : Symbolic) → Affordable S (again r E)) → (drops : List Fact) → Affordable S (once below again rule drops)
  once_costs S rule is below same b again h drops = record { same = λ k. larger.once_same k below (same k) again (λ r E. (h r E).same k) rule drops; cost = cost below same b }
    where
      cost : (below : Option Driver) → ((k : ℕ) → larger.SameBelow k below) → BelowAffordable below → Fit P S → (failures : Failures) → (c : ℕ) × Lasts (once below again rule drops failures (Some c))
      cost None same b fit failures = (0, tt)
      cost (Some driver) same b fit failures = go (rule.enter drops) refl
        where
          to : ℕ → Outcome Entered → Turn
          to m entry = entered (Some driver) entry (λ why. refused rule.at (rule.step drops Steps.no_steps) why failures (Some m)) (λ below r. driven again rule drops r (below (rule.follows r) (premise_of r) r.start (Some m)) failures)

          go : (entry : Outcome Entered) → rule.enter drops ≡ entry → (c : ℕ) × Lasts (to c entry)
          go (Ok r) e =
              let x = b (rule.follows r) (premise_of r) r.start (is.starts drops r e fit) in
              driven_costs S again h fit rule drops r failures (λ m. driver (rule.follows r) (premise_of r) r.start (Some m)) (λ k n. same k (rule.follows r) (premise_of r) r.start n) x.0 (driver (rule.follows r) (premise_of r) r.start (Some x.0)) refl x.1
          go (Err why) e = refused_costs rule.at (rule.step drops Steps.no_steps) why failures

  tries_cost : (S : Symbolic) (rule : Rule) → FitsRule P S rule → (below : Option Driver) → ((k : ℕ) → larger.SameBelow k below) → BelowAffordable below → (m : ℕ) (drops : List Fact) → Affordable S (tries P below S rule m drops)
  tries_cost S rule is below same b zero drops =
      once_costs S rule is below same b (λ r E. stay) (λ r E. record { same = λ k failures n. refl; cost = λ fit failures. (0, tt) }) (at_risk P S)
  tries_cost S rule is below same b (suc m) drops =
      once_costs S rule is below same b (λ r E. tries P below S rule m (with_lost P r E drops)) (λ r E. tries_cost S rule is below same b m (with_lost P r E drops)) drops

  joined_costs : (t : Name) (p : Parted) (a c : Way) (o : Outcome Symbolic) (failures : Failures) → (m : ℕ) × Lasts (joined t p a c o failures (Some m))
  joined_costs t p a c (Ok S) failures = (1, tt)
  joined_costs t p a c (Err why) failures = refused_costs t (Branch t a.steps c.steps) why failures

  second_costs : (t : Name) (p : Parted) (a : Way) (failures : Failures) (run : ℕ → Driven) → ((k n : ℕ) → larger.SameDriven k (run n) (run (n + k))) → (c : ℕ) (o : Driven) → run c ≡ o → DrivenLasts o →
      (m : ℕ) × Lasts (second_driven t p a (run m) failures)
  second_costs t p a failures run same c (Reached b None) e l = absurd (subst (λ z. larger.SameDriven 0 z (run (c + 0))) e (same 0 c))
  second_costs t p a failures run same c (Reached b (Some n)) e l =
      let x = joined_costs t p a b (join a.end b.end) failures in
      let y = subst (λ z. larger.SameDriven x.0 z (run (c + x.0))) e (same x.0 c) in
      (c + x.0, subst (λ z. Lasts (second_driven t p a z failures)) (sym y) (later (joined t p a b (join a.end b.end)) (λ k. larger.joins k t p a b (join a.end b.end)) failures x.0 n x.1))
  second_costs t p a failures run same c (Stuck b ts left) e l = (c, subst (λ z. Lasts (second_driven t p a z failures)) (sym e) tt)
  second_costs t p a failures run same c drive.Spent e l = absurd l

  first_costs : (driver : Driver) → ((k : ℕ) → larger.SameDriver k driver) → DriverAffordable driver → (F : Follow) (d : Drive) (t : Name) (p : Parted) → Fit P p.second → (failures : Failures) (c : ℕ) (o : Driven) → driver F d p.first (Some c) ≡ o → DrivenLasts o →
      (m : ℕ) × Lasts (first_driven driver F d t p (driver F d p.first (Some m)) failures)
  first_costs driver same b F d t p fit failures c (Reached a None) e l = absurd (subst (λ z. larger.SameDriven 0 z (driver F d p.first (Some (c + 0)))) e (same 0 F d p.first c))
  first_costs driver same b F d t p fit failures c (Reached a (Some n)) e l =
      let s = b F d p.second fit in
      let x = second_costs t p a failures (λ m. driver F d p.second (Some m)) (λ k n. same k F d p.second n) s.0 (driver F d p.second (Some s.0)) refl s.1 in
      let y = subst (λ z. larger.SameDriven x.0 z (driver F d p.first (Some (c + x.0)))) e (same x.0 F d p.first c) in
      let z : x.0 + n ≡ n + x.0 = omega arith in (
        c + x.0,
        subst (λ z. Lasts (first_driven driver F d t p z failures)) (sym y) (subst (λ m. Lasts (second_driven t p a (driver F d p.second (Some m)) failures)) z
            (with_more n (second_driven t p a (driver F d p.second (Some x.0)) failures) (second_driven t p a (driver F d p.second (Some (x.0 + n))) failures)
            (larger.seconds n t p a failures (driver F d p.second (Some x.0)) (driver F d p.second (Some (x.0 + n))) (same n F d p.second x.0)) x.1)),
      )
  first_costs driver same b F d t p fit failures c (Stuck a ts left) e l = (c, subst (λ z. Lasts (first_driven driver F d t p z failures)) (sym e) tt)
  first_costs driver same b F d t p fit failures c drive.Spent e l = absurd l

  branch_costs : (S : Symbolic) (t : Name) (F : Follow) (d : Drive) (below : Option Driver) → ((k : ℕ) → larger.SameBelow k below) → BelowAffordable below → Affordable S (branch below F d S t)
  branch_costs S t F d below same b = record { same = λ k. larger.branch_same k below (same k) F d S t; cost = cost below same b }
    where
      cost : (below : Option Driver) → ((k : ℕ) → larger.SameBelow k below) → BelowAffordable below → Fit P S → (failures : Failures) → (c : ℕ) × Lasts (branch below F d S t failures (Some c))
      cost None same b fit failures = (0, tt)
      cost (Some driver) same b fit failures = go (enter_branch S t) refl
        where
          to : ℕ → Outcome Parted → Turn
          to m entry = entered (Some driver) entry (λ why. refused t (Branch t Steps.no_steps Steps.no_steps) why failures (Some m)) (λ below p. first_driven below F d t p (below F d p.first (Some m)) failures)

          go : (entry : Outcome Parted) → enter_branch S t ≡ entry → (c : ℕ) × Lasts (to c entry)
          go (Ok p) e =
              let o = branch_parts P S t p e in let f = branch_starts S fit.free t p e in
              let x = b F d p.first (record { tidy = o.1.tidy fit.tidy; free = f.0 }) in
              first_costs driver same b F d t p (record { tidy = o.1.tidy_second fit.tidy; free = f.1 }) failures x.0 (driver F d p.first (Some x.0)) refl x.1
          go (Err why) e = refused_costs t (Branch t Steps.no_steps Steps.no_steps) why failures

all_cost : (around : Around) → ((k : ℕ) → larger.SameBelow k around.below) → BelowAffordable around.program around.below → Holds around (Affordable around.program)
all_cost around same b = record {
  staying = λ S. record { same = λ k failures n. refl; cost = λ fit failures. (0, tt) };
  either = λ S attempt next g h. record {
    same = λ k. (larger.all_same k around (same k)).either S attempt next (g.same k) (h.same k);
    cost = λ fit failures. let x = g.cost fit failures in then_next around.program S attempt next g.same h fit failures x.0 (attempt failures (Some x.0)) refl x.1;
  };
  basic = λ S a. record { same = λ k. (larger.all_same k around (same k)).basic S a; cost = λ fit failures. applied_costs around.program a (apply_quietly around.program around.follows S (rule_of a)) failures };
  nine = λ S rule is. tries_cost around.program S rule (fits_rule around.program around.follows S rule is) around.below same b 8 [];
  branch = λ S t d. branch_costs around.program S t around.follows d around.below same b;
}

module _ (deep : ℕ) (around : Around) (leads : BelowLeads around.program deep around.below) (on : BelowGoesOn around.program around.below) (counts : BelowCounts around.below) (unbound : agrees.SameBelow around.program around.below)
    (same : (k : ℕ) → larger.SameBelow k around.below) (b : BelowAffordable around.program around.below) (d : Drive) where
  longer_lasts : (step : Step) (items : Items) (o : Driven) → DrivenLasts o → DrivenLasts (after_step step items o)
  longer_lasts step items (Reached w left) h = tt
  longer_lasts step items (Stuck w ts left) h = tt
  longer_lasts step items drive.Spent h = h

  -- from a round that lasts with c rules on
  after_it : (g : ℕ) (S : Symbolic) → Fit around.program S → weight S < suc g → ((E : Symbolic) → Fit around.program E → weight E < g → (m : ℕ) × DrivenLasts (rounds around d (suc m) E (Some m))) →
      (c : ℕ) (t : Turn) → round around d S [] (Some c) ≡ t → Lasts t → TurnCounts c t → TurnLeads around.program deep around.follows S t → agrees.SameTurn around.program t (round around d S [] None) →
      (m : ℕ) × DrivenLasts (after_round (rounds around d m) S (round around d S [] (Some m)))
  after_it g S fit less h c (Goes step items next None) e l n led o = absurd n
  after_it g S fit less h c (Goes step items next (Some i)) e l n led o =
      let busy = (subst (GoesOn around.program S) o (in_round around (AttemptGoesOn around.program) (all_go_on around on) d S fit [])).1 in
      let x = stepped around.program deep around.follows step S items next led busy fit in
      let m = h next x.0 (let y = x.1 in omega (arith, less, y)) in
      let a = in_round around (Affordable around.program) (all_cost around same b) d S in
      let z = subst (λ z. larger.SameTurn m.0 z (round around d S [] (Some (c + m.0)))) e (a.same m.0 [] c) in
      let q : m.0 + i ≡ i + m.0 = omega arith in (
        c + m.0,
        subst (λ z. DrivenLasts (after_round (rounds around d (c + m.0)) S z)) (sym z)
            (longer_lasts step items (rounds around d (c + m.0) next (Some (i + m.0))) (subst (λ j. DrivenLasts (rounds around d (c + m.0) next (Some j))) q
            (driven_with_more i (rounds around d (suc m.0) next (Some m.0)) (rounds around d (c + m.0) next (Some (m.0 + i)))
            (larger.rounds_same i around counts (same i) d (suc m.0) (c + m.0) m.0 next (omega arith) (omega (arith, n))) m.1))),
      )
  after_it g S fit less h c (Stays failures left) e l n led o = (c, subst (λ z. DrivenLasts (after_round (rounds around d c) S z)) (sym e) tt)
  after_it g S fit less h c turn.Spent e l n led o = absurd l

  rounds_cost : (g : ℕ) (S : Symbolic) → Fit around.program S → weight S < g → (m : ℕ) × DrivenLasts (rounds around d (suc m) S (Some m))
  rounds_cost zero S fit less = absurd (omega (arith, less))
  rounds_cost (suc g) S fit less =
      let a = in_round around (Affordable around.program) (all_cost around same b) d S in
      let x = a.cost fit [] in
      go (d.goal S) (after_it g S fit less (λ E z w. rounds_cost g E z w) x.0 (round around d S [] (Some x.0)) refl x.1 (round_counts around counts d S [] x.0)
      (in_round around (AttemptLeads around.program deep around.follows) (all_lead deep around leads) d S [] (Some x.0)) (in_round around (agrees.SameAttempt around.program) (agrees.all_same around unbound) d S fit [] x.0))
    where
      go : (goal : Bool) → (m : ℕ) × DrivenLasts (after_round (rounds around d m) S (round around d S [] (Some m))) →
          (m : ℕ) × DrivenLasts (if goal then Reached (here S) (Some m) else after_round (rounds around d m) S (round around d S [] (Some m)))
      go true h = (0, tt)
      go false h = h

drivers_cost : (P : Program) (sides : Sides) (j deep : ℕ) → j + deep ≡ 256 → DriverAffordable P (driver P sides j)
drivers_cost P sides zero deep e F d S fit = rounds_cost deep record { program = P; below = None; side = sides d; follows = F } tt tt tt tt (λ k. tt) tt d (enough None S) S fit (omega arith)
drivers_cost P sides (suc j) deep e F d S fit =
    rounds_cost deep record { program = P; below = Some (driver P sides j); side = sides d; follows = F } (lt-ltb deep 256 (omega (arith, e)), driver_leads P sides j (deep + 1) (omega (arith, e)))
    (drivers_go_on P sides j (deep + 1) (omega (arith, e))) (driver_counts P sides j) (agrees.drivers_same P sides j (deep + 1) (omega (arith, e))) (λ k. larger.drivers_same k P sides j)
    (drivers_cost P sides j (deep + 1) (omega (arith, e))) d (enough None S) S fit (omega arith)

is_spent : Searched → Bool
is_spent found.Spent = true
is_spent o = false

not_spent : (P : Program) (o : Driven) → DrivenLasts o → answer P o ≢ found.Spent
unfolding is_spent
not_spent P (Reached w left) h e = true≢false (sym (ap is_spent e))
not_spent P (Stuck w ts left) h e = true≢false (sym (ap is_spent e))
not_spent P drive.Spent h e = h

-- some budget is enough for a straight program or a star, and with it and each larger one it is answered as without
pub enough_budget : (P : Program) → IsProgramWellTyped P → is_simple P ≡ true → (least : ℕ) × ((more any : ℕ) → searched P any ≡ answer P (first_pass P (Some (least + more))))
enough_budget P typed simple =
    let x = drivers_cost P (λ around t rest. side_of t rest) 256 0 refl nothing_follows top (initial P) (fit_at_first P typed simple) in (
      x.0,
      λ more any. agrees.counting_agrees P (x.0 + more) any typed simple (not_spent P (first_pass P (Some (x.0 + more)))
          (driven_with_more more (first_pass P (Some x.0)) (first_pass P (Some (x.0 + more))) (larger.drivers_same more P (λ around t rest. side_of t rest) 256 nothing_follows top (initial P) x.0) x.1)),
    )
