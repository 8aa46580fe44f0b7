use Rattle.std.proofs.Common.{◌≡◌, nat_eq}
use Rattle.std.specs.List.{list_any}
use Rattle.std.specs.VecDeque.Iter.{deque_iter_rest}
use Rattle.brisk_state.proofs.pending.Numbers.has.Given as goal

abbrev pub invariant-loop-other : goal.invariant-loop-other
invariant-loop-other l = list_any (nat_eq l.number) (deque_iter_rest l.other-iterator) ≡ list_any (nat_eq l.number) (deque_iter_rest l.initial.other-iterator)
