use Rattle.std.proofs.Common.{◌≡◌, drop, map}
use Rattle.brisk_syntax.specs.Texts.{text_of}
use Rattle.brisk_syntax.specs.Typing.{is_set}
use Rattle.brisk_schedule.proofs.printed.is_set.Given as goal

-- what is left decides
abbrev pub invariant-loop-role : goal.invariant-loop-role
invariant-loop-role l = is_set (map text_of (drop l.role-index l.role-items)) l.name ≡ is_set l.roles l.name
