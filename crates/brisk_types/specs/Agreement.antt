-- No rule fails exactly where a program is well typed, and each fails at a token of it.
use Rattle.std.specs.Prelude.{ℕ, ◌<◌, ◌↔◌}
use Rattle.brisk_syntax.specs.declared.program.Program.{Program}
use Rattle.brisk_syntax.specs.Tokens.{program_tokens}
use Rattle.brisk_syntax.specs.WellTyped.{IsProgramWellTyped}
use Rattle.brisk_seq.specs.declared.tree.SeqProgram.{SeqProgram}
use Rattle.brisk_seq.specs.Tokens.{seq_tokens}
use Rattle.brisk_seq.specs.WellTyped.{IsSeqWellTyped}
use Rattle.brisk_types.specs.declared.fault.Rule.{Rule}
use Rattle.brisk_types.specs.Declarations.{failures}
use Rattle.brisk_types.specs.Failures.{Fails, NoneFails}
use Rattle.brisk_types.specs.Sequences.{seq_failures}

-- the failures with their places, and the typing rules without, say the same of programs
abbrev pub TypingAgrees : Type 0
TypingAgrees = (P : Program) → NoneFails (failures P) ↔ IsProgramWellTyped P

-- and of sequential programs
abbrev pub SeqTypingAgrees : Type 0
SeqTypingAgrees = (Q : SeqProgram) → NoneFails (seq_failures Q) ↔ IsSeqWellTyped Q

-- each failure is at a token of the program's spelling
abbrev pub FailuresAreWithin : Type 0
FailuresAreWithin = (P : Program) (r : Rule) (i : ℕ) → Fails (failures P) r i → i < program_tokens P

-- and of a sequential program's
abbrev pub SeqFailuresAreWithin : Type 0
SeqFailuresAreWithin = (Q : SeqProgram) (r : Rule) (i : ℕ) → Fails (seq_failures Q) r i → i < seq_tokens Q
