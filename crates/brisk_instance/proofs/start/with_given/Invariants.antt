use Rattle.std.proofs.Common.{◌≡◌, drop, map}
use Rattle.std.specs.FinMap.{empty}
use Rattle.brisk_syntax.specs.Texts.{text_of}
use Rattle.brisk_syntax.specs.Value.{size_in}
use Rattle.brisk_instance.specs.Begun.{with_roles}
use Rattle.brisk_instance.proofs.start.with_given.Given as goal

abbrev pub invariant-loop-role : goal.invariant-loop-role
invariant-loop-role l = with_roles l.given (size_in l.sizes) (map text_of (drop l.role-index l.role-items)) l.store ≡ with_roles l.given (size_in l.sizes) l.roles empty
