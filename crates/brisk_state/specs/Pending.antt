-- What is asked of pending boxes: their list, and the least number that is free.
use Rattle.std.specs.Prelude.{◌≡◌, ℕ, ◌<◌, ◌≤◌, ◌&&◌, not, nat_eq, Bool, true, false, List, [], ◌∷◌, ◌++◌, drop, map, Option, Some, None}
use Rattle.std.specs.List.{list_any}
use Rattle.brisk_values.specs.Names.{Name, same_name}
use Rattle.brisk_state.specs.declared.pending.Pending.{Pending as Message}
use Rattle.brisk_state.specs.Symbolic.{Key, Pending, is_in_use, key, numbers_at, with_numbers}

-- the message with this number under a key
abbrev pub message : Key → ℕ → Message
message k n = record { from = k.from; to = k.to; channel = k.channel; number = n }

-- the messages that pend, in the order of their keys, and under each key in the order of filling
abbrev pub messages : Pending → List Message
messages [] = []
messages (e ∷ es) = map (message e.0) e.1 ++ messages es

-- among the boxes after, one pends for the thread that doesn't pend under its key among those before
abbrev pub has_new_for : Pending → Pending → Name → Bool
has_new_for before after u = list_any (λ e. same_name u e.0.to && list_any (λ n. not (list_any (nat_eq n) (numbers_at before e.0))) e.1) after

-- it is the least number from 1 to 1,000,000 that fails the test; there is none where each passes
abbrev pub IsLeastAbsent : (ℕ → Bool) → Option ℕ → Type 0
IsLeastAbsent test None = (n : ℕ) → 1 ≤ n → n ≤ 1000000 → test n ≡ true
IsLeastAbsent test (Some n) = (1 ≤ n) × (n ≤ 1000000) × (test n ≡ false) × ((m : ℕ) → 1 ≤ m → m < n → test m ≡ true)

-- it is the least number from 1 to 1,000,000 that pends nowhere; there is none where each pends
abbrev pub IsLeastFree : Pending → Option ℕ → Type 0
IsLeastFree pending = IsLeastAbsent (is_in_use pending)

-- the pending boxes with one more message, which is the last under its key
abbrev pub with_message : Message → Pending → Pending
with_message m pending =
    let k = key m.from m.to m.channel in with_numbers k (numbers_at pending k ++ m.number ∷ []) pending

-- the pending boxes without the oldest one of a key
abbrev pub without_oldest : Key → Pending → Pending
without_oldest k pending = with_numbers k (drop 1 (numbers_at pending k)) pending
