use Rattle.std.proofs.Common.{◌∙◌, ap, sym, cond, Some, None, arith}
use Rattle.std.specs.Prelude.{option_map}
use Rattle.std.specs.Option.{option_or}
use Rattle.brisk_values.specs.Names.{same_name}
use Rattle.brisk_types.specs.Indexes.{found, key, same_key}
use Rattle.brisk_types.proofs.Indexes.{seen_or, kinds_item}
use Rattle.brisk_types.proofs.globals.channel_index.Goals as goal

pub loop-channel-init : goal.loop-channel-init
loop-channel-init c = λ n. ap (option_map (λ k. k.now)) (c.new-index.ensures (key n))

pub loop-channel-preserved : goal.loop-channel-preserved
loop-channel-preserved c = λ n.
    ap (option_map (λ k. k.now)) (c.in_ok-add.ensures (key n))
    ∙ seen_or (λ k. k.now) (found same_key c.loop-channel.index (key n)) (same_name n c.channel-item.result.name) _
    ∙ ap (λ o. option_or o (cond (same_name n c.channel-item.result.name) (Some c.channel-item.result.kinds) None)) (c.loop-channel.invariant n)
    ∙ sym (kinds_item c.deref-channel-items.result.now c.loop-channel.channel-index c.channel-item.result n (omega arith) c.channel-item.is)
