-- What the search does on a star, and how it ends.
use Rattle.std.specs.Prelude.{◌≡◌, ◌⊎◌, ◌↔◌, ℕ, ◌+◌, ◌≤◌, ◌<◌, true, false, List, [], length, Some, None, is_none}
use Rattle.std.specs.List.{AllByRecursion}
use Rattle.brisk_values.specs.Names.{Name, same_name}
use Rattle.brisk_syntax.specs.declared.program.Program.{Program}
use Rattle.brisk_syntax.specs.Depths.{code_depth}
use Rattle.brisk_syntax.specs.Syntax.{Code, done}
use Rattle.brisk_state.specs.declared.thread.Thread.{Thread}
use Rattle.brisk_straight.proofs.States.{left_in}
use Rattle.brisk_state.specs.Symbolic.{Symbolic, code_at, is_in_use}
use Rattle.brisk_derivation.specs.Reports.{Tries}
use Rattle.brisk_rules.specs.Following.{Follow}
use Rattle.brisk_sound.proofs.Strict.{IsStrict}
use Rattle.brisk_rules.specs.Rules as rules
use Rattle.brisk_rules.specs.Rules.{Entered, first_fault}
use Rattle.brisk_rules.proofs.Readings.{has}
use Rattle.brisk_search.specs.Drives.{Way, Reached, Stuck, premise_of}
use Rattle.brisk_search.specs.Passes.{driver}
use Rattle.brisk_answered.proofs.Sides.{own_sides}
use Rattle.brisk_stars.specs.Threads.{IsCentresLoop, IsStarThreads, at_in, served_at}

-- few boxes are in use, and few statements left; and no code nests deep
pub record IsRoomy (S : Symbolic) : Type 0 where
  pub used : List ℕ
  pub uses : (m : ℕ) → is_in_use S.pending m ≡ true → has m used ≡ true
  pub few : length used + left_in S.threads < 1000000
  pub shallow : AllByRecursion (λ (u : Thread). code_depth u.code ≤ 65) S.threads

-- no thread but the centre's is moved
abbrev pub IsAlone : Name → Symbolic → Type 0
IsAlone M S = (u : Name) (c : Code) → same_name M u ≡ false → code_at S u ≡ Some c → ⊥

-- How the drive of a premise ends: the centre's body is at its end, or it isn't, as the turn is served. Either way the way there keeps to
-- what serving comes.
pub record PremiseEnds (P : Program) (sizes : Name → ℕ) (M : Name) (n : ℕ) (F : Follow) (r : Entered) : Type 0 where
  pub way : Way
  pub tries : Tries
  pub is : let o = driver P own_sides n F (premise_of r) r.start None in (o ≡ Reached way None) ⊎ ((o ≡ Stuck way tries None) × ((premise_of r).goal way.end ≡ false))
  pub threads : IsStarThreads sizes M way.end
  pub served : served_at sizes M way.end ≡ served_at sizes M r.start
  pub body : (at_in way.end M ≡ done) ↔ ((served_at sizes M r.start).left ≡ [])
  pub goal : at_in way.end M ≡ done → (premise_of r).goal way.end ≡ is_none (first_fault ((rules.last_tests r.kind way.end)))

-- So ends each premise of a `for` or gather of the centre at the top.
abbrev pub PremisesEnd : Type 0
PremisesEnd =
    (P : Program) → IsStrict P → (F : Follow) (sizes : Name → ℕ) (M s : Name) (S : Symbolic) (r : Entered) → IsStarThreads sizes M S → IsAlone M S → IsCentresLoop sizes M s S r → IsRoomy r.start → PremiseEnds P sizes M 255 F r
