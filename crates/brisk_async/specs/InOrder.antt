-- The queues that aren't empty, in the order in which the program declares its roles and channels.
use Rattle.std.specs.Prelude.{◌≡◌, ◌↔◌, ℕ, ◌<◌, List, length}
use Rattle.std.specs.declared.cmp.Ordering.{Ordering}
use Rattle.std.specs.Ordering.{nat_cmp, ordering_then}
use Rattle.std.specs.List.{Contains, position_or_len}
use Rattle.std.specs.List.Sorted.{IsStrictlySortedBy}
use Rattle.brisk_values.specs.declared.value.Pid.{Pid}
use Rattle.brisk_values.specs.Names.{Name, same_name}
use Rattle.brisk_syntax.specs.declared.program.Program.{Program}
use Rattle.brisk_async.specs.declared.queue.Queue.{Queue as Counted}
use Rattle.brisk_async.specs.declared.queue.Rank.{Rank}
use Rattle.brisk_async.specs.Keys.{key_cmp, key_of}
use Rattle.brisk_async.specs.Machine.{Mail, Queue, queue}

-- the place of a process: that of its role among the roles, or behind them where it isn't declared, and its number
abbrev pub process_place : Program → Pid → ℕ × ℕ
process_place P p = (position_or_len (λ r. same_name p.role r.name) P.roles, p.member)

-- the place of a channel among the channels, or behind them where it isn't declared
abbrev pub channel_place : Program → Name → ℕ
channel_place P c = position_or_len (λ d. same_name c d.name) P.channels

-- what a queue is ordered by: the places of its sender, its receiver and its channel, and last what it is
abbrev pub rank : Program → Queue → Rank
rank P q = record {
  from = process_place P q.from;
  to = process_place P q.to;
  channel = channel_place P q.channel;
  key = key_of q;
}

-- first by role, then by number
abbrev pub place_cmp : ℕ × ℕ → ℕ × ℕ → Ordering
place_cmp a b = ordering_then (nat_cmp a.0 b.0) (nat_cmp a.1 b.1)

-- by sender, then by receiver, then by channel; queues of names that aren't declared, which have equal places, in the
-- order of their bytes
abbrev pub rank_cmp : Rank → Rank → Ordering
rank_cmp a b = ordering_then (place_cmp a.from b.from) (ordering_then (place_cmp a.to b.to) (ordering_then (nat_cmp a.channel b.channel) (key_cmp a.key b.key)))

-- the queue of which the number of messages is told
abbrev pub queue_told : Counted → Queue
queue_told q = queue q.from q.to q.channel

-- The list tells of each queue that isn't empty how many messages it has, and of no others, and its ranks rise.
pub record AreQueues (P : Program) (mail : Mail) (qs : List Counted) : Type 0 where
  pub told : (q : Counted) → Contains qs q ↔ ((0 < q.length) × (q.length ≡ length (mail (queue_told q))))
  pub rising : IsStrictlySortedBy (λ a b. rank_cmp (rank P (queue_told a)) (rank P (queue_told b))) qs
