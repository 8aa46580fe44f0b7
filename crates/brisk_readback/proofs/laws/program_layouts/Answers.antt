use Rattle.brisk_readback.proofs.ReadPrograms.{layout_is_spelled}
use Rattle.brisk_readback.proofs.Denoted.{layout_denotes, layouts_differ}
use Rattle.brisk_readback.proofs.laws.program_layouts.Goals as goal

pub returns-clause-spelled : goal.returns-clause-spelled
returns-clause-spelled c = layout_is_spelled

pub returns-clause-denotes : goal.returns-clause-denotes
returns-clause-denotes c = layout_denotes

pub returns-clause-differ : goal.returns-clause-differ
returns-clause-differ c = layouts_differ
