use Rattle.std.proofs.Common.{◌≡◌, ◌-◌, map}
use Rattle.brisk_syntax.specs.Texts.{text_of}
use Rattle.brisk_parse.specs.Declarations.{begins_role}
use Rattle.brisk_parse.specs.Limits.{sequence}
use Rattle.brisk_parse.specs.Reading.{list_of}
use Rattle.brisk_parse.specs.Sequences as spec
use Rattle.brisk_parse.proofs.Repetitions.{with_front}
use Rattle.brisk_parse.proofs.sequences.roles.Given as goal

abbrev pub invariant-loop-turn : goal.invariant-loop-turn
invariant-loop-turn l =
    list_of begins_role (spec.role sequence) 256 l.fn.reader ≡ with_front (map text_of l.roles.items) (list_of begins_role (spec.role sequence) (256 - l._turn) l.reader)
