use Rattle.std.proofs.Common.{◌≡◌, None, drop}
use Rattle.brisk_search.proofs.Latest.{last_in}
use Rattle.brisk_search.proofs.failing.take_last.Given as goal

-- no failure from here on was at the thread's head
abbrev pub invariant-loop-place : goal.invariant-loop-place
invariant-loop-place l = (l.failures.items ≡ l.fn.failures.items) × (last_in (drop l.place l.failures.items) l.name ≡ None)
