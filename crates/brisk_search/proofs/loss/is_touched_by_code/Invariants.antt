use Rattle.std.proofs.Common.{◌≡◌, ◌-◌}
use Rattle.brisk_syntax.specs.Segments.{code_from_place, code_length}
use Rattle.brisk_syntax.specs.Typing.{is_among}
use Rattle.brisk_search.specs.Tries.{touched_in}
use Rattle.brisk_search.proofs.loss.is_touched_by_code.Given as goal

abbrev pub invariant-loop-statement : goal.invariant-loop-statement
invariant-loop-statement l = is_among (touched_in l.code) l.variable ≡ is_among (touched_in (code_from_place l.place l.code)) l.variable

abbrev pub decreases-loop-statement : goal.decreases-loop-statement
decreases-loop-statement l = code_length l.code - l.place
