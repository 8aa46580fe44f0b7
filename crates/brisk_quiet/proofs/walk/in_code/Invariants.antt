use Rattle.std.proofs.Common.{◌≡◌, ◌-◌}
use Rattle.brisk_syntax.specs.Segments.{code_from_place, code_length}
use Rattle.brisk_quiet.specs.Left.{left_after}
use Rattle.brisk_quiet.specs.Quiet.{walk}
use Rattle.brisk_quiet.proofs.walk.in_code.Given as goal

abbrev pub invariant-loop-statement : goal.invariant-loop-statement
invariant-loop-statement l =
    walk l.receiver l.asked.channel (code_from_place l.place l.code) (left_after l.asked l.taken) ≡ walk l.receiver l.asked.channel l.code (left_after l.asked l.initial.taken)

abbrev pub decreases-loop-statement : goal.decreases-loop-statement
decreases-loop-statement l = code_length l.code - l.place
