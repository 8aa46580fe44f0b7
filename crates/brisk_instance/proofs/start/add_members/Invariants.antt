use Rattle.std.proofs.Common.{◌≡◌}
use Rattle.brisk_instance.specs.Begun.{with_members}
use Rattle.brisk_instance.proofs.start.add_members.Given as goal

abbrev pub invariant-loop-member : goal.invariant-loop-member
invariant-loop-member l = l.store ≡ with_members l.given l.role.name l.role.decls l.member l.initial.store
