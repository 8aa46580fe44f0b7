use Rattle.std.proofs.Common.{ap, ◌∙◌}
use Rattle.brisk_syntax.specs.Typing.{are_distinct}
use Rattle.brisk_state.specs.Places.{names}
use Rattle.brisk_state.proofs.First.{first_names_differ}
use Rattle.brisk_state.proofs.state.State.initial.Goals as goal

pub invariant_of-result : goal.invariant_of-result
invariant_of-result c = ap (λ ts. are_distinct (names ts)) c.in_ok-first_threads.ensures ∙ first_names_differ c.args.program.now c.requires
