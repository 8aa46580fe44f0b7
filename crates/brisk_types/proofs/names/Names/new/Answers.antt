use Rattle.brisk_types.specs.Indexes.{key}
use Rattle.brisk_types.specs.Names.{global_meaning}
use Rattle.brisk_types.proofs.names.Names.new.Goals as goal

pub returns : goal.returns
returns c = λ i. record (global_meaning c.args.globals.now c.args.own) { kind_of_variable = λ x. c.new.ensures (key x) i }
