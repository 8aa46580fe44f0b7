use Rattle.std.proofs.Common.{◌≡◌, ◌++◌, map, drop}
use Rattle.brisk_schedule.specs.Texts.{size_line, text_of_lines}
use Rattle.brisk_schedule.proofs.writing.put_sizes.Given as goal

-- what is written, and what is left to go
abbrev pub invariant-loop-size : goal.invariant-loop-size
invariant-loop-size l = l.out.items ++ text_of_lines (map size_line (drop l.size-index l.size-items)) ≡ l.initial.out.items ++ text_of_lines (map size_line l.sizes)
