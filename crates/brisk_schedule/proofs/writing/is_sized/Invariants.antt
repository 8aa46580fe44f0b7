use Rattle.std.proofs.Common.{◌≡◌, drop}
use Rattle.brisk_schedule.specs.Texts.{is_sized}
use Rattle.brisk_schedule.proofs.writing.is_sized.Given as goal

-- the answer lies in what is left to go
abbrev pub invariant-loop-size : goal.invariant-loop-size
invariant-loop-size l = is_sized (drop l.size-index l.size-items) l.role ≡ is_sized l.sizes l.role
