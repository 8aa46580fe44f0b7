use Rattle.std.proofs.Common.{◌≡◌, ◌++◌, drop, map}
use Rattle.brisk_syntax.specs.Texts.{text_of}
use Rattle.brisk_trace.specs.Plain.{singles}
use Rattle.brisk_trace.proofs.plain.add_singles.Given as goal

-- the single roles so far and those that are left
abbrev pub invariant-loop-role : goal.invariant-loop-role
invariant-loop-role l =
    l.order.items ++ singles (map text_of (drop l.role-index l.role-items)) ≡ l.initial.order.items ++ singles l.roles
