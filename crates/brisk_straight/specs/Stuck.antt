-- Symbolic states in which a straight program is stuck, and what the plain run then is.
use Rattle.std.specs.Prelude.{◌≡◌, ◌<◌, true, List, [], Some, Ok, ◌⊎◌, ◌+◌, ◌≤◌, ℕ}
use Rattle.brisk_values.specs.Names.{Name}
use Rattle.brisk_syntax.specs.declared.program.Program.{Program}
use Rattle.brisk_syntax.specs.declared.tree.Who.TheVariants as who
use Rattle.brisk_syntax.specs.Classes.{is_straight}
use Rattle.brisk_syntax.specs.Counts.{program_statements}
use Rattle.brisk_syntax.specs.Instance.{Instance, Fits}
use Rattle.brisk_syntax.specs.Syntax.{Statement, Recv, Code, done, ◌⨾◌}
use Rattle.brisk_syntax.specs.Typing.{each_has_tag}
use Rattle.brisk_syntax.specs.WellTyped.{IsProgramWellTyped}
use Rattle.brisk_async.specs.declared.event.Event.{Event}
use Rattle.brisk_async.specs.Machine.{State, start, run, IsTerminal, IsDeadlocked}
use Rattle.brisk_async.specs.PlainRuns.{Deadlocks, plain_instance, plain_schedule}
use Rattle.brisk_derivation.specs.Steps.{Steps, no_steps, ◌▷◌}
use Rattle.brisk_seq.specs.declared.tree.SeqProgram.{SeqProgram}
use Rattle.brisk_state.specs.Symbolic.{Symbolic, key, code_at, numbers_at, initial}
use Rattle.brisk_basic.specs.declared.rule.Basic.{Basic}
use Rattle.brisk_basic.specs.Basic.{Applied, apply}
use Rattle.brisk_rules.specs.Following.{nothing_follows}
use Rattle.brisk_rules.specs.Derives.{Derived, derive_all, Valid}
use Rattle.brisk_rules.specs.Rules.{Parted, enter_branch}
use Rattle.brisk_straight.specs.Sources.{IsStraightSource}

-- t has nothing left to do, or it is at a receive for which no message pends
abbrev pub Waits : Symbolic → Name → Code → Type 0
Waits S t done = Unit {0}
Waits S t (Recv c xs (who.Name u) ⨾ rest) = numbers_at S.pending (key u t c) ≡ []
Waits S t code = ⊥

-- each thread that rules move waits so
abbrev pub IsStuck : Symbolic → Type 0
IsStuck S = (t : Name) (code : Code) → code_at S t ≡ Some code → Waits S t code

-- a thread that rules move has code left
abbrev pub HasCode : Symbolic → Type 0
HasCode S = (t : Name) × (s : Statement) × (rest : Code) × (code_at S t ≡ Some (s ⨾ rest))

-- the steps lead from the program's initial state to this one
abbrev pub LeadTo : Program → Steps → Symbolic → Type 0
LeadTo P D S = (d : Derived) × (derive_all P 0 nothing_follows D 2 (initial P) ≡ Ok d) × (d.state ≡ S)

-- no basic rule applies, and no thread stands at an if
pub record IsAtRest (S : Symbolic) : Type 0 where
  pub no_basic : (b : Basic) (r : Applied) → apply S b ≡ Ok r → ⊥
  pub no_branch : (t : Name) (r : Parted) → enter_branch S t ≡ Ok r → ⊥

-- A state of a straight program at which steps come to rest is stuck: each head that is no receive has a rule, and a send finds
-- a box, since fewer were filled than there are.
abbrev pub RestIsStuck : Type 0
RestIsStuck = (P : Program) (D : Steps) (S : Symbolic) → IsStraightSource P → LeadTo P D S → IsAtRest S → IsStuck S

-- Where steps lead to a stuck state in which code is left, each terminal state that a schedule of any instance reaches is
-- deadlocked.
abbrev pub StuckIsDeadlock : Type 0
StuckIsDeadlock =
    (P : Program) (D : Steps) (S : Symbolic) (i : Instance) (es : List Event) (t : State) → IsProgramWellTyped P → is_straight P ≡ true → Fits P i →
    LeadTo P D S → IsStuck S → HasCode S → run (start P i) es ≡ Some t → IsTerminal t → IsDeadlocked t

-- So the plain run at size one ends in a deadlocked state, and its schedule shows it.
abbrev pub StuckIsTold : Type 0
StuckIsTold =
    (P : Program) (D : Steps) (S : Symbolic) → IsProgramWellTyped P → each_has_tag P.enums ≡ true → is_straight P ≡ true → program_statements P < 100000 →
    LeadTo P D S → IsStuck S → HasCode S → Deadlocks P (plain_instance P 1) (plain_schedule P 1)

-- So wherever the steps of a straight program come to rest, they are a valid derivation, or the plain run shows a deadlock,
-- whatever chose them.
abbrev pub RestIsTold : Type 0
RestIsTold =
    (P : Program) (D : Steps) (S : Symbolic) → IsStraightSource P → LeadTo P D S → IsAtRest S →
    ((Q : SeqProgram) × Valid P D Q) ⊎ Deadlocks P (plain_instance P 1) (plain_schedule P 1)

-- how many steps follow one another, where a branch is one with its sides
abbrev pub length_of : Steps → ℕ
length_of no_steps = 0
length_of (s ▷ rest) = 1 + length_of rest

-- And they do come to rest: no more steps follow one another than the program has statements.
abbrev pub FewSteps : Type 0
FewSteps = (P : Program) (D : Steps) (S : Symbolic) → IsStraightSource P → LeadTo P D S → length_of D ≤ program_statements P
