use Rattle.brisk_trace.proofs.Instances.{decls_typed, is_plain}
use Rattle.brisk_trace.proofs.instance.plain_instance.Goals as goal

pub plain_inputs-requires-clause-declared : goal.plain_inputs-requires-clause-declared
plain_inputs-requires-clause-declared c = decls_typed c.args.program.now c.args.program.now.roles c.requires.typed.roles

pub returns : goal.returns
returns c =
    is_plain c.args.program.now c.args.size record { sizes = c.in_ok-sizes.sizes; inputs = c.in_ok-inputs.inputs } c.requires.typed c.requires.tagged c.requires.some
    c.in_ok-sizes.ensures c.in_ok-inputs.ensures
