use Rattle.std.proofs.Common.{◌≡◌}
use Rattle.brisk_async.specs.Begun.{with_code}
use Rattle.brisk_async.proofs.start.add_codes.Given as goal

abbrev pub invariant-loop-member : goal.invariant-loop-member
invariant-loop-member l = l.codes ≡ with_code l.role.name l.role.code.value l.member l.initial.codes
