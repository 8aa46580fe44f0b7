use Rattle.std.proofs.Common.{◌≡◌, ◌<◌, true, length, get_or, arith, ap, sym, subst, ◌∙◌}
use Rattle.std.specs.List.{position_or_len}
use Rattle.std.proofs.lemmas.List.Sums.{position_or_len_is}
use Rattle.brisk_values.specs.Names.{same_name}
use Rattle.brisk_syntax.specs.declared.program.Channel.{Channel}
use Rattle.brisk_async.proofs.Places.{place_behind}
use Rattle.brisk_async.proofs.queue.channel_place.Goals as goal

pub returns-then-eq : goal.returns-then-eq
returns-then-eq c =
    let d = c.channel-item.result in let n = c.args.name.now in let items = c.deref-channel-items.result.now in
    let here : same_name n (get_or items c.loop-k.k d).name ≡ true = ap (λ (r : Channel). same_name n r.name) (sym c.channel-item.is) ∙ sym c.eq.ensures ∙ c.if-eq.true in
    sym (position_or_len_is (λ (r : Channel). same_name n r.name) items c.loop-k.k d c.loop-k.auto.k-end (λ j h. c.loop-k.invariant j d h) (λ _. here))
    ∙ ap (position_or_len (λ (r : Channel). same_name n r.name)) (c.deref-channel-items.ensures.value ∙ c.channels.view_is)

pub returns : goal.returns
returns c =
    let n = c.args.name.now in let items = c.deref-channel-items.result.now in
    let all : c.loop-k.k ≡ length items = omega arith in
    let place = place_behind (λ (r : Channel). same_name n r.name) items (λ j d h. c.loop-k.invariant j d (subst (λ k. j < k) (sym all) h)) in
    c.len.ensures ∙ sym c.deref-channel-items.ensures.len ∙ sym place
    ∙ ap (position_or_len (λ (r : Channel). same_name n r.name)) (c.deref-channel-items.ensures.value ∙ c.channels.view_is)
