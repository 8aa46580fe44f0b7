use Rattle.std.proofs.Common.{◌∙◌, ap, sym, arith}
use Rattle.std.specs.Option.{is_some}
use Rattle.brisk_values.specs.Names.{same_name}
use Rattle.brisk_types.specs.Indexes.{found, key, same_key}
use Rattle.brisk_types.proofs.Indexes.{found_more, any_item}
use Rattle.brisk_types.proofs.globals.enum_index.Goals as goal

pub loop-e-init : goal.loop-e-init
loop-e-init c = λ e. ap is_some (c.new-index.ensures (key e))

pub loop-e-preserved : goal.loop-e-preserved
loop-e-preserved c = λ e.
    found_more (found same_key c.loop-e.index (key e)) _ _ _ _ (c.in_ok-add.ensures (key e)) (c.loop-e.invariant e)
    ∙ sym (any_item (λ n. same_name e n.name) c.deref-e-items.result.now c.loop-e.e-index c.e-item.result (omega arith) c.e-item.is)
