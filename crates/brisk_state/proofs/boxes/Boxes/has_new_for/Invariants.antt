use Rattle.std.proofs.Common.{◌≡◌}
use Rattle.brisk_state.specs.Pending.{has_new_for}
use Rattle.brisk_state.proofs.boxes.Boxes.has_new_for.Given as goal

abbrev pub invariant-loop-key : goal.invariant-loop-key
invariant-loop-key l = has_new_for l.others l.key-iterator l.to ≡ has_new_for l.others l.initial.key-iterator l.to
