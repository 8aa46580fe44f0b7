use Rattle.std.proofs.Common.{◌∙◌, cond, Some, None}
use Rattle.std.specs.Option.{option_or}
use Rattle.brisk_values.specs.Names.{same_name}
use Rattle.brisk_types.specs.Indexes.{key}
use Rattle.brisk_types.specs.Names.{meaning_of}
use Rattle.brisk_types.proofs.names.Names.add.Goals as goal

pub returns : goal.returns
returns c =
    let m = meaning_of c.args.self.now in
    (λ i. record m { kind_of_variable = λ x. c.in_ok-add.ensures (key x) i })
    ∙ (λ i. record m { kind_of_variable = λ x. option_or (m.kind_of_variable x) (cond (same_name x (c.variable_of.ensures i)) (Some (c.kind_in.ensures i)) None) })
