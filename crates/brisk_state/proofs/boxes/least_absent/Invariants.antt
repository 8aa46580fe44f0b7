use Rattle.std.proofs.Common.{◌≡◌, ℕ, ◌<◌, ◌≤◌, true}
use Rattle.std.specs.BTreeSet.{contains}
use Rattle.std.specs.List.{list_any}
use Rattle.std.specs.List.Sorted.{IsStrictlySortedBy}
use Rattle.std.specs.BTreeMap.{is_at}
use Rattle.std.specs.Ordering.{nat_cmp}
use Rattle.brisk_state.proofs.boxes.least_absent.Given as goal

abbrev pub invariant-loop-number : goal.invariant-loop-number
invariant-loop-number l = record {
  positive : 1 ≤ l.least;
  bounded : l.least ≤ 1000000;
  sorted : IsStrictlySortedBy nat_cmp l.number-iterator;
  ahead : (q : ℕ) → l.least ≤ q → contains nat_cmp l.used q ≡ list_any (is_at (nat_cmp q)) l.number-iterator;
  behind : (q : ℕ) → 1 ≤ q → q < l.least → contains nat_cmp l.used q ≡ true;
}
