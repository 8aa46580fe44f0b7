use Rattle.std.proofs.Common.{◌≡◌, ◌++◌, map}
use Rattle.std.specs.VecDeque.Iter.{deque_iter_rest}
use Rattle.brisk_state.specs.Pending.{message}
use Rattle.brisk_state.proofs.pending.Numbers.add_to.Given as goal

abbrev pub invariant-loop-number : goal.invariant-loop-number
invariant-loop-number l =
    l.list.items ++ map (message l.key) (deque_iter_rest l.number-iterator) ≡ l.initial.list.items ++ map (message l.key) (deque_iter_rest l.initial.number-iterator)
