-- Queues told apart, and payloads taken from a list that grows.
use Rattle.std.proofs.Common.{◌≡◌, ℕ, zero, suc, List, [], ◌∷◌, ◌++◌, Some, refl, ap}
use Rattle.std.specs.Prelude.{◌&&◌, true}
use Rattle.std.specs.Cmp.{IsEquivalence}
use Rattle.std.proofs.lemmas.Cmp.{on_equiv, and_equiv}
use Rattle.brisk_values.specs.Names.{same_name, same_process}
use Rattle.brisk_values.proofs.Changes.{name_laws, process_laws, both_true, exact_name, exact_process}
use Rattle.brisk_async.specs.Machine.{Queue, same_queue, Payload, payload_at, without}

pub queue_laws : IsEquivalence same_queue
queue_laws = and_equiv (and_equiv (on_equiv (λ (q : Queue). q.from) process_laws) (on_equiv (λ (q : Queue). q.to) process_laws)) (on_equiv (λ (q : Queue). q.channel) name_laws)

pub exact_queue : (a b : Queue) → same_queue a b ≡ true → a ≡ b
exact_queue a b e =
    let h = both_true (same_process a.from b.from && same_process a.to b.to) (same_name a.channel b.channel) e in
    let g = both_true (same_process a.from b.from) (same_process a.to b.to) h.0 in
    λ i. record { from = exact_process a.from b.from g.0 i; to = exact_process a.to b.to g.1 i; channel = exact_name a.channel b.channel h.1 i }

-- a payload stays at its place when another comes last
pub payload_at-append : (ms : List Payload) (k : ℕ) (x m : Payload) → payload_at ms k ≡ Some m → payload_at (ms ++ x ∷ []) k ≡ Some m
payload_at-append [] k x m e = cc
payload_at-append (y ∷ ms) zero x m e = e
payload_at-append (y ∷ ms) (suc k) x m e = payload_at-append ms k x m e

-- it may be taken before the other comes, or after
pub without-append : (ms : List Payload) (k : ℕ) (x m : Payload) → payload_at ms k ≡ Some m → without (ms ++ x ∷ []) k ≡ without ms k ++ x ∷ []
without-append [] k x m e = cc
without-append (y ∷ ms) zero x m e = refl
without-append (y ∷ ms) (suc k) x m e = ap (λ l. y ∷ l) (without-append ms k x m e)
