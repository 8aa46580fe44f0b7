use Rattle.std.proofs.Common.{◌≡◌, drop}
use Rattle.std.specs.FinMap.{empty}
use Rattle.brisk_instance.specs.Given.{with_inputs}
use Rattle.brisk_instance.proofs.start.given_values.Given as goal

abbrev pub invariant-loop-input : goal.invariant-loop-input
invariant-loop-input l = with_inputs (drop l.input-index l.input-items) l.store ≡ with_inputs l.inputs empty
