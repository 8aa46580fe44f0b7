use Rattle.std.proofs.Common.{◌∙◌, ap, sym, ◌||◌, ◌&&◌, arith}
use Rattle.std.specs.Option.{is_some}
use Rattle.brisk_values.specs.Names.{same_name}
use Rattle.brisk_types.specs.Indexes.{tag_key}
use Rattle.brisk_syntax.specs.Typing.{is_among}
use Rattle.brisk_types.proofs.Indexes.{any_item}
use Rattle.brisk_types.proofs.globals.tag_index.Goals as goal

pub loop-e-init : goal.loop-e-init
loop-e-init c = λ e t. ap is_some (c.new-index.ensures (tag_key e t))

pub loop-e-preserved : goal.loop-e-preserved
loop-e-preserved c = λ e t.
    c.in_ok-add_tags.ensures e t
    ∙ ap (λ b. b || (same_name e c.e-item.result.name && is_among c.e-item.result.tags t)) (c.loop-e.invariant e t)
    ∙ sym (any_item (λ n. same_name e n.name && is_among n.tags t) c.deref-e-items.result.now c.loop-e.e-index c.e-item.result (omega arith) c.e-item.is)
