use Rattle.std.proofs.Common.{◌≡◌, ◌-◌, ◌≤◌, map}
use Rattle.brisk_instance.specs.Given.{place_of}
use Rattle.brisk_instance.specs.Walks.{inputs_of, rest_after, same_input}
use Rattle.brisk_instance.proofs.fit.behind_members.Given as goal

-- the same stands behind what is left to go
abbrev pub invariant-loop-member : goal.invariant-loop-member
invariant-loop-member l =
    (l.member ≤ l.members)
    × (rest_after same_input (inputs_of l.role.name l.role.decls l.member (l.members - l.member)) (map place_of l.rest) ≡ rest_after same_input (inputs_of l.role.name l.role.decls 0 l.members) (map place_of l.inputs))
