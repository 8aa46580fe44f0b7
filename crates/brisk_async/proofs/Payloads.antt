-- Payloads at places of a queue, and a queue without one.
use Rattle.std.proofs.Common.{◌≡◌, ℕ, zero, suc, ◌<◌, ◌≤◌, List, [], ◌∷◌, length, get_or, Bool, true, false, Some, None, refl, sym, ap, ◌∙◌, arith}
use Rattle.std.specs.Prelude.{if◌then◌else◌}
use Rattle.std.specs.List.{remove}
use Rattle.brisk_values.specs.Functions.{changed}
use Rattle.brisk_async.specs.Machine.{Mail, Payload, Queue, payload_at, same_queue, without}
use Rattle.brisk_async.proofs.Queues.{exact_queue}

pub payload_read : (ms : List Payload) (k : ℕ) (m : Payload) → k < length ms → m ≡ get_or ms k m → Some m ≡ payload_at ms k
payload_read [] k m h e = absurd (omega arith)
payload_read (x ∷ ms) zero m h e = ap Some e
payload_read (x ∷ ms) (suc k) m h e = payload_read ms k m (omega arith) e

pub payload_past : (ms : List Payload) (k : ℕ) → length ms ≤ k → None ≡ payload_at ms k
payload_past [] k h = refl
payload_past (x ∷ ms) zero h = absurd (omega arith)
payload_past (x ∷ ms) (suc k) h = payload_past ms k (omega arith)

pub without_removed : (ms : List Payload) (k : ℕ) → remove ms k ≡ without ms k
without_removed [] zero = refl
without_removed [] (suc k) = refl
without_removed (m ∷ ms) zero = refl
without_removed (m ∷ ms) (suc k) = ap (λ l. m ∷ l) (without_removed ms k)

pub without_past : (ms : List Payload) (k : ℕ) → length ms ≤ k → ms ≡ without ms k
without_past [] k h = refl
without_past (m ∷ ms) zero h = absurd (omega arith)
without_past (m ∷ ms) (suc k) h = ap (λ l. m ∷ l) (without_past ms k (omega arith))

-- a change to what is there is none
pub change_none : (mail : Mail) (q : Queue) (ms : List Payload) → mail q ≡ ms → mail ≡ changed same_queue mail q ms
change_none mail q ms e = λ i r. at r (same_queue q r) refl i
  where
    at : (r : Queue) (b : Bool) → same_queue q r ≡ b → mail r ≡ (if b then ms else mail r)
    at r true s = ap mail (sym (exact_queue q r s)) ∙ e
    at r false s = refl
