-- How pending boxes are kept: queues by key, and the set of all numbers.
use Rattle.std.specs.Prelude.{◌≡◌, ℕ, ◌+◌, Bool, false, true, List, [], ◌∷◌, if◌then◌else◌, nat_eq}
use Rattle.std.specs.List.{AllByRecursion}
use Rattle.std.specs.Ordering.{nat_cmp}
use Rattle.std.specs.BTreeMap as tree
use Rattle.std.specs.BTreeMap.{BTreeMap}
use Rattle.std.specs.BTreeSet.{BTreeSet, contains}
use Rattle.brisk_state.specs.Symbolic.{Key, key_cmp, Pending}

-- how often the number stands in the list
abbrev pub times_in : ℕ → List ℕ → ℕ
times_in n [] = 0
times_in n (m ∷ ms) = (if nat_eq n m then 1 else 0) + times_in n ms

-- how often it stands in the queues
abbrev pub times : ℕ → Pending → ℕ
times n [] = 0
times n (e ∷ es) = times_in n e.1 + times n es

-- a number is there
abbrev pub has_numbers : List ℕ → Bool
has_numbers [] = false
has_numbers (n ∷ ns) = true

-- the keys are in order, no queue is empty, and the set is the numbers of the queues, of which each stands once
pub record AreKept (queues : BTreeMap Key (List ℕ)) (used : BTreeSet ℕ) : Type 0 where
  pub ordered : tree.IsOrdered key_cmp queues
  pub filled : AllByRecursion (λ e. has_numbers e.1 ≡ true) queues.entries
  pub exact : (n : ℕ) → times n queues.entries ≡ (if contains nat_cmp used n then 1 else 0)
