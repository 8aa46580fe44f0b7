use Rattle.std.proofs.Common.{◌≡◌, ◌++◌, map, drop}
use Rattle.brisk_schedule.specs.Texts.{input_line, text_of_lines}
use Rattle.brisk_schedule.proofs.writing.put_inputs.Given as goal

-- what is written, and what is left to go
abbrev pub invariant-loop-input : goal.invariant-loop-input
invariant-loop-input l = l.out.items ++ text_of_lines (map (input_line l.sizes) (drop l.input-index l.input-items)) ≡ l.initial.out.items ++ text_of_lines (map (input_line l.sizes) l.inputs)
