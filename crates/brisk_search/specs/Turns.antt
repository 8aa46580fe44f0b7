-- What comes of a turn: a step is made, or none is; and how attempts follow one another.
use Rattle.std.specs.Prelude.{ℕ, zero, suc, List, [], ◌∷◌, Option, Some, None}
use Rattle.brisk_values.specs.Names.{Name}
use Rattle.brisk_seq.specs.Items.{Items}
use Rattle.brisk_state.specs.Symbolic.{Symbolic}
use Rattle.brisk_derivation.specs.Reports.{Try, Tried, TryEnd}
use Rattle.brisk_derivation.specs.Steps.{Step}

-- how many rules may still be applied, where they are counted
abbrev pub RulesLeft : Type 0
RulesLeft = Option ℕ

-- the tries of a round that failed, each under the thread at whose head it was made, the latest first
abbrev pub Failures : Type 0
Failures = List (Name × Try)

-- A turn goes by a step, which gives these items and leads to this state; or it stays; or a rule is due and none is left.
pub data Turn : Type 0 where
  Goes : (step : Step) (items : Items) (next : Symbolic) (left : RulesLeft) → Turn
  Stays : (failures : Failures) (left : RulesLeft) → Turn
  Spent : Turn

-- what comes of a turn after these failures and with so many rules left
abbrev pub Attempt : Type 0
Attempt = Failures → RulesLeft → Turn

-- nothing is tried
abbrev pub stay : Attempt
stay failures left = Stays failures left

-- the next attempt is made where the turn stays
abbrev pub where_it_stays : Attempt → Turn → Turn
where_it_stays next (Goes step items S left) = Goes step items S left
where_it_stays next (Stays failures left) = next failures left
where_it_stays next Spent = Spent

infixr 4 ◌otherwise◌
-- one attempt, and another where the first stays
abbrev pub ◌otherwise◌ : Attempt → Attempt → Attempt
(attempt otherwise next) failures left = where_it_stays next (attempt failures left)

-- the first attempt that goes
abbrev pub first_of : {A : Type 0} → (A → Attempt) → List A → Attempt
first_of attempt [] = stay
first_of attempt (a ∷ more) = attempt a otherwise first_of attempt more

-- a rule is due
abbrev pub due : RulesLeft → (RulesLeft → Turn) → Turn
due None apply = apply None
due (Some zero) apply = Spent
due (Some (suc n)) apply = apply (Some n)

-- a try at this thread's head has failed
abbrev pub failed : Name → Step → TryEnd → Attempt
failed t rule end failures left = Stays ((t, Tried rule end) ∷ failures) left
