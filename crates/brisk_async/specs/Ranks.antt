-- Numbers of messages by the ranks of their queues.
use Rattle.std.specs.Prelude.{◌≡◌, ℕ, ◌<◌, length, Some, IsSome}
use Rattle.std.specs.BTreeMap.{BTreeMap, get}
use Rattle.brisk_syntax.specs.declared.program.Program.{Program}
use Rattle.brisk_async.specs.declared.queue.Queue.{Queue as Counted}
use Rattle.brisk_async.specs.declared.queue.Rank.{Rank}
use Rattle.brisk_async.specs.InOrder.{rank, rank_cmp}
use Rattle.brisk_async.specs.Keys.{queue_of}
use Rattle.brisk_async.specs.Machine.{Mail, Queue}

-- n messages wait in the queue of this rank, and it isn't empty
pub record Waits (P : Program) (mail : Mail) (r : Rank) (n : ℕ) : Type 0 where
  pub ranked : r ≡ rank P (queue_of r.key)
  pub some : 0 < n
  pub number : n ≡ length (mail (queue_of r.key))

-- the map has the number of messages of each queue that isn't empty, under its rank, and nothing else
pub record AreNumbers (P : Program) (mail : Mail) (numbers : BTreeMap Rank ℕ) : Type 0 where
  pub right : (r : Rank) (n : ℕ) → get rank_cmp numbers r ≡ Some n → Waits P mail r n
  pub whole : (q : Queue) → 0 < length (mail q) → IsSome (get rank_cmp numbers (rank P q))

-- an entry of such a map, as it is told
abbrev pub told_by : Rank × ℕ → Counted
told_by e = record { from = e.0.key.from; to = e.0.key.to; channel = e.0.key.channel; length = e.1 }
