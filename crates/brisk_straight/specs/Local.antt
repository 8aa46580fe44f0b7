-- Local code: the steps by which a thread goes through it, and that they never fail.
use Rattle.std.specs.Prelude.{◌≡◌, ℕ, ◌+◌, ◌≤◌, Bool, true, false, ◌&&◌, map, Some, Ok}
use Rattle.brisk_values.specs.Names.{Name, same_name}
use Rattle.brisk_syntax.specs.declared.program.Program.{Program}
use Rattle.brisk_syntax.specs.Classes.{all_local}
use Rattle.brisk_syntax.specs.Depths.{code_depth}
use Rattle.brisk_syntax.specs.Syntax.{Statement, If, IfElse, Code, done, ◌⨾◌, ◌then◌}
use Rattle.brisk_syntax.specs.Typing.{are_distinct}
use Rattle.brisk_derivation.specs.declared.steps.BasicStep.TheVariants.{Assign, Known}
use Rattle.brisk_derivation.specs.Steps.{Step, Basic, Branch, Steps, no_steps, ◌▷◌}
use Rattle.brisk_state.specs.Symbolic.{Symbolic, code_at, with_code}
use Rattle.brisk_rules.specs.Following.{Follow}
use Rattle.brisk_rules.specs.Derives.{Derived, derive_all}
use Rattle.brisk_rules.specs.Rules.{Parted, enter_branch, join}

-- the steps by which t goes through local code: it assigns, and at each choice it branches
abbrev mutual
  pub local_step : Name → Statement → Step
  local_step t (If e a) = Branch t (local_steps t a) no_steps
  local_step t (IfElse e a b) = Branch t (local_steps t a) (local_steps t b)
  local_step t s = Basic (Assign t)

  pub local_steps : Name → Code → Steps
  local_steps t done = no_steps
  local_steps t (s ⨾ c) = local_step t s ▷ local_steps t c

-- the threads have different names
abbrev pub AreApart : Symbolic → Type 0
AreApart S = are_distinct (map (λ u. u.name) S.threads) ≡ true

-- the state E is S, but t stands at this code, and other facts may be known
pub record Moves (S : Symbolic) (t : Name) (code : Code) (E : Symbolic) : Type 0 where
  pub threads : E.threads ≡ with_code t code S.threads
  pub pending : E.pending ≡ S.pending

-- Whatever is known, a thread at local code goes through it by these steps, within the nesting of rules, and nothing else
-- than its place and the facts changes. So a branch whose sides are local always joins.
abbrev pub LocalCodeIsPassed : Type 0
LocalCodeIsPassed =
    (P : Program) (F : Follow) (deep line : ℕ) (S : Symbolic) (t : Name) (a rest : Code) → AreApart S → all_local a ≡ true → deep + code_depth a ≤ 256 → code_at S t ≡ Some (a then rest) →
    (d : Derived) × (derive_all P deep F (local_steps t a) line S ≡ Ok d) × Moves S t rest d.state

-- the steps move t alone: it assigns, goes on by a guard that is known, or branches into such steps
abbrev mutual
  pub moves_alone : Name → Step → Bool
  moves_alone t (Basic (Assign u)) = same_name t u
  moves_alone t (Basic (Known u)) = same_name t u
  moves_alone t (Branch u a b) = same_name t u && all_move_alone t a && all_move_alone t b
  moves_alone t s = false

  pub all_move_alone : Name → Steps → Bool
  all_move_alone t no_steps = true
  all_move_alone t (s ▷ rest) = moves_alone t s && all_move_alone t rest

-- steps that move t alone change nothing but its place and the facts
abbrev pub AloneIsAlone : Type 0
AloneIsAlone =
    (P : Program) (F : Follow) (deep line : ℕ) (S : Symbolic) (t : Name) (D : Steps) (d : Derived) (rest : Code) → AreApart S → all_move_alone t D ≡ true →
    derive_all P deep F D line S ≡ Ok d → code_at d.state t ≡ Some rest → Moves S t rest d.state

-- So where such steps lead both sides of a branch to where t stands at the same code, the branch joins.
abbrev pub AloneSidesJoin : Type 0
AloneSidesJoin =
    (P : Program) (F : Follow) (deep line other_line : ℕ) (S : Symbolic) (t : Name) (r : Parted) (A B : Steps) (d e : Derived) (rest : Code) → AreApart S → enter_branch S t ≡ Ok r →
    all_move_alone t A ≡ true → all_move_alone t B ≡ true → derive_all P deep F A line r.first ≡ Ok d → derive_all P deep F B other_line r.second ≡ Ok e →
    code_at d.state t ≡ Some rest → code_at e.state t ≡ Some rest → (E : Symbolic) × (join d.state e.state ≡ Ok E) × Moves S t rest E
