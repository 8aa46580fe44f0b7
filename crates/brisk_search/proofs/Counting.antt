-- The rules that are left fall with each step; so a drive has enough rounds where rules are counted.
use Rattle.std.proofs.Common.{◌≡◌, ℕ, zero, suc, ◌≤◌, ◌<◌, Bool, true, false, List, [], Option, Some, None, refl, arith}
use Rattle.std.specs.Prelude.{Ok, Err, if◌then◌else◌}
use Rattle.brisk_values.specs.Names.{Name}
use Rattle.brisk_syntax.specs.declared.program.Program.{Program}
use Rattle.brisk_seq.specs.Items.{Items, nothing, ◌⨟◌}
use Rattle.brisk_state.specs.Symbolic.{Symbolic}
use Rattle.brisk_basic.specs.Basic.{Applied}
use Rattle.brisk_derivation.specs.declared.steps.BasicStep.{BasicStep}
use Rattle.brisk_derivation.specs.declared.steps.Fact.{Fact}
use Rattle.brisk_derivation.specs.Steps.{Step, Basic, Branch, Steps}
use Rattle.brisk_rules.specs.declared.why.Why.{Why}
use Rattle.brisk_rules.specs.declared.why.Why.TheVariants.{Rule as BasicFault, Side}
use Rattle.brisk_rules.specs.Derives.{apply_quietly, rule_of, items_in}
use Rattle.brisk_rules.specs.Rules.{Outcome, Entered, around, Parted, around_sides, close, enter_branch, join}
use Rattle.brisk_rules.specs.Following.{Follow}
use Rattle.brisk_search.specs.Turns.{RulesLeft, Failures, Turn, Goes, Stays, Attempt, stay, where_it_stays, ◌otherwise◌, due}
use Rattle.brisk_search.specs.Turns as turn
use Rattle.brisk_search.specs.Drives.{Drive, Way, Driven, Reached, Stuck, Driver, premise_of}
use Rattle.brisk_search.specs.Drives as drive
use Rattle.brisk_search.specs.Tries.{Rule, entered, refused, closed, driven, once, tries, at_risk, with_lost, joined, second_driven, first_driven, branch}
use Rattle.brisk_search.specs.Advance.{Around, applied}
use Rattle.brisk_search.specs.Passes.{Sides, driver, rounds, round, after_round, after_step, enough, here}
use Rattle.brisk_search.proofs.Heads.{Holds, in_round}

-- at most n rules are left
abbrev pub AtMost : ℕ → RulesLeft → Type 0
AtMost n None = ⊥
AtMost n (Some m) = m ≤ n

-- fewer than n rules are left
abbrev pub Fewer : ℕ → RulesLeft → Type 0
Fewer n None = ⊥
Fewer n (Some m) = m < n

-- what comes of a turn with n rules left
abbrev pub TurnCounts : ℕ → Turn → Type 0
TurnCounts n (Goes step items next left) = Fewer n left
TurnCounts n (Stays failures left) = AtMost n left
TurnCounts n turn.Spent = Unit {0}

abbrev pub AttemptCounts : Attempt → Type 0
AttemptCounts attempt = (failures : Failures) (n : ℕ) → TurnCounts n (attempt failures (Some n))

abbrev pub DriveCounts : ℕ → Driven → Type 0
DriveCounts n (Reached w left) = AtMost n left
DriveCounts n (Stuck w tries left) = AtMost n left
DriveCounts n drive.Spent = Unit {0}

abbrev pub DriverCounts : Driver → Type 0
DriverCounts driver = (F : Follow) (d : Drive) (S : Symbolic) (n : ℕ) → DriveCounts n (driver F d S (Some n))

-- more were left before
sooner : (m n : ℕ) (t : Turn) → m ≤ n → TurnCounts m t → TurnCounts n t
sooner m n (Goes step items next (Some l)) h g = omega (arith, h, g)
sooner m n (Goes step items next None) h g = g
sooner m n (Stays failures (Some l)) h g = omega (arith, h, g)
sooner m n (Stays failures None) h g = g
sooner m n turn.Spent h g = tt

-- an attempt that is made with what is left of n rules
with_left : (attempt : Attempt) → AttemptCounts attempt → (failures : Failures) (n : ℕ) (left : RulesLeft) → AtMost n left → TurnCounts n (attempt failures left)
with_left attempt h failures n None g = absurd g
with_left attempt h failures n (Some m) g = sooner m n (attempt failures (Some m)) g (h failures m)

same : (n : ℕ) → n ≤ n
same n = omega arith

stays : AttemptCounts stay
stays failures n = same n

then_next : (next : Attempt) → AttemptCounts next → (n : ℕ) (t : Turn) → TurnCounts n t → TurnCounts n (where_it_stays next t)
then_next next h n (Goes step items S left) g = g
then_next next h n (Stays failures left) g = with_left next h failures n left g
then_next next h n turn.Spent g = tt

one_or_other : (attempt next : Attempt) → AttemptCounts attempt → AttemptCounts next → AttemptCounts (attempt otherwise next)
one_or_other attempt next g h failures n = then_next next h n (attempt failures (Some n)) (g failures n)

dues : (step : Step) (items : Items) (next : Symbolic) (n : ℕ) → TurnCounts n (due (Some n) (Goes step items next))
dues step items next zero = tt
dues step items next (suc n) = omega arith

-- a rule that is due, with what is left of n rules
dues_left : (step : Step) (items : Items) (next : Symbolic) (n : ℕ) (left : RulesLeft) → AtMost n left → TurnCounts n (due left (Goes step items next))
dues_left step items next n None g = absurd g
dues_left step items next n (Some m) g = sooner m n (due (Some m) (Goes step items next)) g (dues step items next m)

applies : (b : BasicStep) (o : Outcome Applied) → AttemptCounts (applied b o)
applies b (Ok r) failures n = dues (Basic b) (items_in r.statement) r.next n
applies b (Err why) failures n = same n

refuses : (t : Name) (step : Step) (why : Why) (failures : Failures) (n : ℕ) (left : RulesLeft) → AtMost n left → TurnCounts n (refused t step why failures left)
refuses t step (Side why) failures n left g = g
refuses t step (BasicFault why) failures n left g = g

abbrev pub BelowCounts : Option Driver → Type 0
BelowCounts None = Unit {0}
BelowCounts (Some driver) = DriverCounts driver

closes : (again : Attempt) → AttemptCounts again → (step : Step) (items : Items) (o : Outcome Symbolic) (failures : Failures) (n : ℕ) (left : RulesLeft) → AtMost n left →
    TurnCounts n (closed again step items o failures left)
closes again h step items (Ok S) failures n left g = dues_left step items S n left g
closes again h step items (Err why) failures n left g = with_left again h failures n left g

drives : (again : Entered → Symbolic → Attempt) → ((r : Entered) (E : Symbolic) → AttemptCounts (again r E)) → (rule : Rule) (drops : List Fact) (r : Entered) (n : ℕ) (o : Driven) → DriveCounts n o →
    (failures : Failures) → TurnCounts n (driven again rule drops r o failures)
drives again h rule drops r n (Reached w left) g failures =
    closes (again r w.end) (h r w.end) (rule.step drops w.steps) (around r.kind w.items ⨟ nothing) (close r w.end) failures n left g
drives again h rule drops r n (Stuck w tries left) g failures = g
drives again h rule drops r n drive.Spent g failures = tt

once_counts : (below : Option Driver) → BelowCounts below → (again : Entered → Symbolic → Attempt) → ((r : Entered) (E : Symbolic) → AttemptCounts (again r E)) → (rule : Rule) (drops : List Fact) →
    AttemptCounts (once below again rule drops)
once_counts None b again h rule drops failures n = same n
once_counts (Some driver) b again h rule drops failures n = go (rule.enter drops)
  where
    go : (entry : Outcome Entered) →
        TurnCounts n (entered (Some driver) entry (λ why. refused rule.at (rule.step drops Steps.no_steps) why failures (Some n)) (λ below r. driven again rule drops r (below (rule.follows r) (premise_of r) r.start (Some n)) failures))
    go (Ok r) = drives again h rule drops r n (driver (rule.follows r) (premise_of r) r.start (Some n)) (b (rule.follows r) (premise_of r) r.start n) failures
    go (Err why) = refuses rule.at (rule.step drops Steps.no_steps) why failures n (Some n) (same n)

tries_count : (P : Program) (below : Option Driver) → BelowCounts below → (S : Symbolic) (rule : Rule) (k : ℕ) (drops : List Fact) → AttemptCounts (tries P below S rule k drops)
tries_count P below b S rule zero drops = once_counts below b (λ r E. stay) (λ r E. stays) rule (at_risk P S)
tries_count P below b S rule (suc k) drops =
    once_counts below b (λ r E. tries P below S rule k (with_lost P r E drops)) (λ r E. tries_count P below b S rule k (with_lost P r E drops)) rule drops

joins : (t : Name) (p : Parted) (a c : Way) (o : Outcome Symbolic) (failures : Failures) (n : ℕ) (left : RulesLeft) → AtMost n left → TurnCounts n (joined t p a c o failures left)
joins t p a c (Ok S) failures n left g = dues_left (Branch t a.steps c.steps) (around_sides p a.items c.items ⨟ nothing) S n left g
joins t p a c (Err why) failures n left g = refuses t (Branch t a.steps c.steps) why failures n left g

less : (m n : ℕ) (o : Driven) → m ≤ n → DriveCounts m o → DriveCounts n o
less m n (Reached w (Some l)) h g = omega (arith, h, g)
less m n (Reached w None) h g = g
less m n (Stuck w tries (Some l)) h g = omega (arith, h, g)
less m n (Stuck w tries None) h g = g
less m n drive.Spent h g = tt

driver_with_left : (driver : Driver) → DriverCounts driver → (F : Follow) (d : Drive) (S : Symbolic) (n : ℕ) (left : RulesLeft) → AtMost n left → DriveCounts n (driver F d S left)
driver_with_left driver h F d S n None g = absurd g
driver_with_left driver h F d S n (Some m) g = less m n (driver F d S (Some m)) g (h F d S m)

second_counts : (t : Name) (p : Parted) (a : Way) (n : ℕ) (o : Driven) → DriveCounts n o → (failures : Failures) → TurnCounts n (second_driven t p a o failures)
second_counts t p a n (Reached c left) g failures = joins t p a c (join a.end c.end) failures n left g
second_counts t p a n (Stuck c tries left) g failures = g
second_counts t p a n drive.Spent g failures = tt

first_counts : (driver : Driver) → DriverCounts driver → (F : Follow) (d : Drive) (t : Name) (p : Parted) (n : ℕ) (o : Driven) → DriveCounts n o → (failures : Failures) → TurnCounts n (first_driven driver F d t p o failures)
first_counts driver h F d t p n (Reached a left) g failures = second_counts t p a n (driver F d p.second left) (driver_with_left driver h F d p.second n left g) failures
first_counts driver h F d t p n (Stuck a tries left) g failures = g
first_counts driver h F d t p n drive.Spent g failures = tt

branch_counts : (below : Option Driver) → BelowCounts below → (F : Follow) (d : Drive) (S : Symbolic) (t : Name) → AttemptCounts (branch below F d S t)
branch_counts None b F d S t failures n = same n
branch_counts (Some driver) b F d S t failures n = go (enter_branch S t)
  where
    go : (entry : Outcome Parted) →
        TurnCounts n (entered (Some driver) entry (λ why. refused t (Branch t Steps.no_steps Steps.no_steps) why failures (Some n)) (λ below p. first_driven below F d t p (below F d p.first (Some n)) failures))
    go (Ok p) = first_counts driver b F d t p n (driver F d p.first (Some n)) (b F d p.first n) failures
    go (Err why) = refuses t (Branch t Steps.no_steps Steps.no_steps) why failures n (Some n) (same n)

all_count : (around : Around) → BelowCounts around.below → Holds around (λ S. AttemptCounts)
all_count around b = record {
  staying = λ S. stays;
  either = λ S. one_or_other;
  basic = λ S a. applies a (apply_quietly around.program around.follows S (rule_of a));
  nine = λ S rule is. tries_count around.program around.below b S rule 8 [];
  branch = λ S t d. branch_counts around.below b around.follows d S t;
}

pub round_counts : (around : Around) → BelowCounts around.below → (d : Drive) (S : Symbolic) → AttemptCounts (round around d S)
round_counts around b = in_round around (λ S. AttemptCounts) (all_count around b)

after_a_step : (step : Step) (items : Items) (n : ℕ) (o : Driven) → DriveCounts n o → DriveCounts n (after_step step items o)
after_a_step step items n (Reached w left) h = h
after_a_step step items n (Stuck w tries left) h = h
after_a_step step items n drive.Spent h = tt

module _ (around : Around) (b : BelowCounts around.below) (d : Drive) where
  after_a_round : (go : Symbolic → RulesLeft → Driven) → ((S : Symbolic) (n : ℕ) → DriveCounts n (go S (Some n))) → (S : Symbolic) (n : ℕ) (t : Turn) → TurnCounts n t → DriveCounts n (after_round go S t)
  after_a_round go h S n (Goes step items next None) g = absurd g
  after_a_round go h S n (Goes step items next (Some m)) g = after_a_step step items n (go next (Some m)) (less m n (go next (Some m)) (omega (arith, g)) (h next m))
  after_a_round go h S n (Stays failures left) g = g
  after_a_round go h S n turn.Spent g = tt

  a_round : (go : Symbolic → RulesLeft → Driven) → ((S : Symbolic) (n : ℕ) → DriveCounts n (go S (Some n))) → (S : Symbolic) (n : ℕ) (goal : Bool) →
      DriveCounts n (if goal then Reached (here S) (Some n) else after_round go S (round around d S [] (Some n)))
  a_round go h S n true = same n
  a_round go h S n false = after_a_round go h S n (round around d S [] (Some n)) (round_counts around b d S [] n)

  rounds_count : (k : ℕ) (S : Symbolic) (n : ℕ) → DriveCounts n (rounds around d k S (Some n))
  rounds_count zero S n = tt
  rounds_count (suc k) S n = a_round (rounds around d k) (rounds_count k) S n (d.goal S)

  -- where as many rounds as rules are enough, two numbers of rounds give the same
  alike_after : (f g : ℕ) (n : ℕ) (S : Symbolic) → ((S : Symbolic) (m : ℕ) → m < n → rounds around d f S (Some m) ≡ rounds around d g S (Some m)) →
      (t : Turn) → TurnCounts n t → after_round (rounds around d f) S t ≡ after_round (rounds around d g) S t
  alike_after f g n S h (Goes step items next None) c = absurd c
  alike_after f g n S h (Goes step items next (Some m)) c = λ i. after_step step items (h next m c i)
  alike_after f g n S h (Stays failures left) c = refl
  alike_after f g n S h turn.Spent c = refl

  -- more rounds than rules are left make no difference
  pub rounds_are_enough : (f g : ℕ) (n : ℕ) (S : Symbolic) → n < f → n < g → rounds around d f S (Some n) ≡ rounds around d g S (Some n)
  rounds_are_enough zero g n S h k = absurd (omega (arith, h))
  rounds_are_enough (suc f) zero n S h k = absurd (omega (arith, k))
  rounds_are_enough (suc f) (suc g) n S h k = λ i.
      if d.goal S then Reached (here S) (Some n)
      else (alike_after f g n S (λ E m l. rounds_are_enough f g m E (omega (arith, h, l)) (omega (arith, k, l))) (round around d S [] (Some n)) (round_counts around b d S [] n) i)

-- rules that were applied are never given back
pub driver_counts : (P : Program) (sides : Sides) (k : ℕ) → DriverCounts (driver P sides k)
driver_counts P sides zero F d S n = rounds_count record { program = P; below = None; side = sides d; follows = F } tt d (enough (Some n) S) S n
driver_counts P sides (suc k) F d S n = rounds_count record { program = P; below = Some (driver P sides k); side = sides d; follows = F } (driver_counts P sides k) d (enough (Some n) S) S n

-- a drive has enough rounds
pub enough_rounds : (P : Program) (sides : Sides) (k : ℕ) (F : Follow) (d : Drive) (S : Symbolic) (n m : ℕ) → n < m →
    rounds record { program = P; below = Some (driver P sides k); side = sides d; follows = F } d m S (Some n) ≡ driver P sides (suc k) F d S (Some n)
enough_rounds P sides k F d S n m h =
    rounds_are_enough record { program = P; below = Some (driver P sides k); side = sides d; follows = F } (driver_counts P sides k) d m (suc n) n S h (same (suc n))
