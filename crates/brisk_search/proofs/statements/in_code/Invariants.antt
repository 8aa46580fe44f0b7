use Rattle.std.proofs.Common.{◌≤◌, ◌+◌}
use Rattle.brisk_syntax.specs.Counts.{statements}
use Rattle.brisk_syntax.specs.Segments.{code_from_place}
use Rattle.brisk_search.proofs.statements.in_code.Given as goal

-- what is counted, and what is left
abbrev pub invariant-loop-place : goal.invariant-loop-place
invariant-loop-place l = l.count + statements (code_from_place l.place l.code) ≤ statements l.code
