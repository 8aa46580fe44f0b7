use Rattle.std.proofs.Common.{◌≡◌, ◌<◌, ℕ, []}
use Rattle.brisk_values.specs.Names.{member as member_of}
use Rattle.brisk_async.specs.Keys.{mail_in}
use Rattle.brisk_async.specs.Machine.{queue}
use Rattle.brisk_async.proofs.blocked.none_waits.Given as goal

abbrev pub invariant-loop-member : goal.invariant-loop-member
invariant-loop-member l = (k : ℕ) → k < l.member → mail_in l.mail (queue (member_of l.set k) l.process l.channel) ≡ []
