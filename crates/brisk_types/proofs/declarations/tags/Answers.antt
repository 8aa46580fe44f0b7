use Rattle.std.proofs.Common.{◌∙◌, ap, sym, arith}
use Rattle.std.specs.Option.{is_some}
use Rattle.brisk_values.specs.Names.{same_name}
use Rattle.brisk_types.specs.Indexes.{found, key, same_key}
use Rattle.brisk_types.proofs.Indexes.{found_more, any_item, tags_item}
use Rattle.std.proofs.Common.{rules, ◌<◌, length}
use Rattle.std.proofs.lemmas.Grind.{common_steps}
use Rattle.brisk_types.proofs.Lists.{names_is}
use Rattle.brisk_types.proofs.declarations.tags.Goals as goal

pub loop-name-init : goal.loop-name-init
loop-name-init c = record {
  seen = λ n. ap is_some (c.new-seen.ensures (key n));
  noted = search rules;
  room = grind (arith, names_is);
}

pub loop-name-preserved : goal.loop-name-preserved
loop-name-preserved c =
    let ts = c.deref-name-items.result.now in
    let lt : c.loop-name.name-index < length ts = omega arith in
    record {
      seen = λ n. found_more (found same_key c.loop-name.seen (key n)) _ _ _ _ (c.in_ok-add.ensures (key n)) (c.loop-name.invariant.seen n)
          ∙ sym (any_item (same_name n) ts c.loop-name.name-index c.name-item.result lt c.name-item.is);
      noted = tags_item c.loop-name.first.failure _ _ ts c.loop-name.name-index c.name-item.result c.loop-name.at _ lt c.name-item.is
          (c.is_some.ensures ∙ ap is_some c.get.ensures ∙ c.loop-name.invariant.seen c.name-item.result) c.note_if.ensures c.loop-name.invariant.noted;
      room = grind (arith, common_steps);
    }
