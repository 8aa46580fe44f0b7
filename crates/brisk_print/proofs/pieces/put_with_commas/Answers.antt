use Rattle.std.proofs.Common.{◌≡◌, ◌∷◌, ◌++◌, rules, ◌∙◌}
use Rattle.brisk_print.proofs.Written.{piece_more, pieces_all}
use Rattle.brisk_print.proofs.pieces.put_with_commas.Goals as goal

pub loop-item-preserved : goal.loop-item-preserved
loop-item-preserved g c =
    piece_more g.T.Piece.text c.in-Some.others.now c.loop-item.item-index c.item-item.result c.loop-item.out.items _ _ c.loop-item-test.true
    (c.in_ok-write-2.ensures ∙ (λ i. c.in_ok-put.ensures i ++ g.T.Piece.text (c.item-item.is i))) c.loop-item.invariant

pub returns : goal.returns
returns g c =
    let whole : c.args.items.now ≡ c.in-Some.first.now ∷ c.in-Some.others.now = search rules in
    pieces_all g.T.Piece.text c.in-Some.first.now c.in-Some.others.now c.args.items.now c.loop-item.item-index c.args.out.now.items c.loop-item.out.items c.write.new.out.items c.loop-item-test.false whole c.in_ok-write.ensures c.loop-item.invariant
