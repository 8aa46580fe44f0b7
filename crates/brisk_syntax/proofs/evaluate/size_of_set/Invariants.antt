use Rattle.std.proofs.Common.{◌≡◌, drop}
use Rattle.brisk_syntax.specs.Value.{size_in}
use Rattle.brisk_syntax.proofs.evaluate.size_of_set.Given as goal

abbrev pub invariant-loop-name : goal.invariant-loop-name
invariant-loop-name l = size_in l.sizes l.set ≡ size_in (drop l.name-index l.name-items) l.set
