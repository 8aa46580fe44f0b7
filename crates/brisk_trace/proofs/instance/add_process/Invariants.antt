use Rattle.std.proofs.Common.{◌≡◌, ◌++◌, drop, map}
use Rattle.std.specs.List.{AllByRecursion}
use Rattle.brisk_syntax.specs.Typing.{IsDeclWellTyped}
use Rattle.brisk_instance.specs.Ordered.{slots_at}
use Rattle.brisk_trace.specs.Plain.{plain_input}
use Rattle.brisk_trace.proofs.instance.add_process.Given as goal

-- the inputs so far and those of the declarations that are left
abbrev pub invariant-loop-decl : goal.invariant-loop-decl
invariant-loop-decl l = let left = drop l.decl-index l.decl-items in
    (l.inputs.items ++ map (plain_input l.enums) (slots_at l.process left) ≡ l.initial.inputs.items ++ map (plain_input l.enums) (slots_at l.process l.decls))
    × AllByRecursion (IsDeclWellTyped l.enums) left
