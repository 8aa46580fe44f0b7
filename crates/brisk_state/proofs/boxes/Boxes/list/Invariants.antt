use Rattle.std.proofs.Common.{◌≡◌, ◌++◌}
use Rattle.brisk_state.specs.Pending.{messages}
use Rattle.brisk_state.proofs.boxes.Boxes.list.Given as goal

abbrev pub invariant-loop-key : goal.invariant-loop-key
invariant-loop-key l = l.list.items ++ messages l.key-iterator ≡ messages l.initial.key-iterator
