use Rattle.std.proofs.Common.{◌++◌, ap, ◌∙◌}
use Rattle.brisk_print.proofs.Written.{joined_more, joined_all}
use Rattle.brisk_print.proofs.pieces.put_all.Goals as goal

pub loop-item-preserved : goal.loop-item-preserved
loop-item-preserved g c =
    joined_more g.T.Piece.text c.args.items.now c.loop-item.item-index c.item-item.result c.loop-item.out.items _ _ c.loop-item-test.true
    (c.in_ok-write.ensures ∙ ap (λ x. c.loop-item.out.items ++ g.T.Piece.text x) c.item-item.is) c.loop-item.invariant

pub returns : goal.returns
returns g c = joined_all g.T.Piece.text c.args.items.now c.loop-item.item-index c.loop-item.out.items _ c.loop-item-test.false c.loop-item.invariant
