use Rattle.std.proofs.Common.{drop}
use Rattle.brisk_instance.specs.Ordered.{slots_at}
use Rattle.brisk_schedule.proofs.Goes.{InputsGo}
use Rattle.brisk_schedule.proofs.instance.read_process.Given as goal

-- the inputs that are left
abbrev pub invariant-loop-decl : goal.invariant-loop-decl
invariant-loop-decl l = InputsGo l.enums l.sizes (slots_at l.process l.decls) (slots_at l.process (drop l.decl-index l.decl-items)) l.fn.lines l.lines l.fn.inputs.items l.inputs.items
