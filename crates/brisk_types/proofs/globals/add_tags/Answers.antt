use Rattle.std.proofs.Common.{◌∙◌, ap, sym, ◌||◌, ◌&&◌, take, arith}
use Rattle.std.specs.Option.{is_some}
use Rattle.brisk_values.specs.Names.{same_name}
use Rattle.brisk_types.specs.Indexes.{found, same_tag, tag_key}
use Rattle.brisk_syntax.specs.Typing.{is_among}
use Rattle.brisk_types.proofs.Indexes.{found_more, any_item, one_tag}
use Rattle.brisk_types.proofs.globals.add_tags.Goals as goal

pub loop-tag-preserved : goal.loop-tag-preserved
loop-tag-preserved c = λ e t.
    let ts = c.deref-tag-items.result.now in
    found_more (found same_tag c.loop-tag.index (tag_key e t)) _ _ _ _ (c.in_ok-add.ensures (tag_key e t)) (c.loop-tag.invariant e t)
    ∙ one_tag (is_some (found same_tag c.args.index.now (tag_key e t))) (same_name e c.args.of) (is_among (take c.loop-tag.tag-index ts) t) (same_name t c.tag-item.result)
    ∙ ap (λ b. is_some (found same_tag c.args.index.now (tag_key e t)) || (same_name e c.args.of && b)) (sym (any_item (same_name t) ts c.loop-tag.tag-index c.tag-item.result (omega arith) c.tag-item.is))
