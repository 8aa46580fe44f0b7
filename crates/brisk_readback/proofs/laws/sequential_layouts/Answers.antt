use Rattle.brisk_readback.proofs.ReadSequential.{sequential_is_spelled}
use Rattle.brisk_readback.proofs.Denoted.{sequence_layout_denotes, sequence_layouts_differ}
use Rattle.brisk_readback.proofs.laws.sequential_layouts.Goals as goal

pub returns-clause-spelled : goal.returns-clause-spelled
returns-clause-spelled c = sequential_is_spelled

pub returns-clause-denotes : goal.returns-clause-denotes
returns-clause-denotes c = sequence_layout_denotes

pub returns-clause-differ : goal.returns-clause-differ
returns-clause-differ c = sequence_layouts_differ
