use Rattle.std.proofs.Common.{◌≡◌, ◌++◌, drop, map}
use Rattle.brisk_syntax.specs.Texts.{text_of}
use Rattle.brisk_trace.specs.Plain.{set_members}
use Rattle.brisk_trace.proofs.plain.add_sets.Given as goal

-- the members so far and those of the roles that are left
abbrev pub invariant-loop-role : goal.invariant-loop-role
invariant-loop-role l =
    l.order.items ++ set_members (map text_of (drop l.role-index l.role-items)) l.size ≡ l.initial.order.items ++ set_members l.roles l.size
