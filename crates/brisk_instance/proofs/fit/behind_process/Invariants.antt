use Rattle.std.proofs.Common.{◌≡◌, drop, map}
use Rattle.brisk_instance.specs.Given.{inputs_at, place_of}
use Rattle.brisk_instance.specs.Walks.{rest_after, same_input}
use Rattle.brisk_instance.proofs.fit.behind_process.Given as goal

-- the same stands behind what is left to go
abbrev pub invariant-loop-decl : goal.invariant-loop-decl
invariant-loop-decl l =
    rest_after same_input (inputs_at l.process (drop l.decl-index l.decl-items)) (map place_of l.rest) ≡ rest_after same_input (inputs_at l.process l.decls) (map place_of l.inputs)
