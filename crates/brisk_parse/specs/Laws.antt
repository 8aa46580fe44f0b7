-- What holds of the limits.
use Rattle.std.specs.Prelude.{◌≡◌, ◌↔◌}
use Rattle.brisk_syntax.specs.declared.program.Program.{Program}
use Rattle.brisk_seq.specs.declared.tree.SeqProgram.{SeqProgram}
use Rattle.brisk_parse.specs.Levelled.{LevelledProgram}
use Rattle.brisk_parse.specs.Limits.{source, sequence}
use Rattle.brisk_parse.specs.Passing as passing
use Rattle.brisk_parse.specs.Passing.{Nowhere}
use Rattle.brisk_parse.specs.SequencePassing as sequence_passing
use Rattle.brisk_parse.specs.SequenceSpelling.{LevelledSequence, SequenceWithin}
use Rattle.brisk_parse.specs.Within.{Within}

-- a levelled program is within the limits exactly where it passes none
abbrev pub ProgramsPassNone : Type 0
ProgramsPassNone = (P : Program) → LevelledProgram P → (Within source P ↔ (passing.program source P ≡ Nowhere))

-- a levelled sequential program is within the limits exactly where it passes none
abbrev pub SequencesPassNone : Type 0
SequencesPassNone = (P : SeqProgram) → LevelledSequence P → (SequenceWithin sequence P ↔ (sequence_passing.sequence sequence P ≡ Nowhere))
