use Rattle.std.proofs.Common.{◌≡◌, nat_eq}
use Rattle.std.specs.Prelude.{not}
use Rattle.std.specs.List.{list_any}
use Rattle.std.specs.VecDeque.Iter.{deque_iter_rest}
use Rattle.brisk_state.proofs.pending.Numbers.has_other.Given as goal

abbrev pub invariant-loop-number : goal.invariant-loop-number
invariant-loop-number l =
    list_any (λ n. not (list_any (nat_eq n) l.others)) (deque_iter_rest l.number-iterator) ≡ list_any (λ n. not (list_any (nat_eq n) l.others)) (deque_iter_rest l.initial.number-iterator)
