use Rattle.std.proofs.Common.{ℕ, ◌<◌, [], get_or, IsSome}
use Rattle.std.specs.FinMap.{get}
use Rattle.brisk_syntax.proofs.stores.are_there.Given as goal

abbrev pub invariant-loop-i : goal.invariant-loop-i
invariant-loop-i l = (k : ℕ) → k < l.i → IsSome (get l.store (l.process, get_or l.xs k []))
