use Rattle.std.proofs.Common.{◌+◌, ◌∷◌, drop, sym, ap, ◌∙◌, arith}
use Rattle.std.proofs.lemmas.List.{at_drop_more, at_drop_all}
use Rattle.brisk_quiet.specs.Left.{came, left_after}
use Rattle.brisk_quiet.specs.Quiet.{on_end}
use Rattle.brisk_quiet.specs.Sender.{walk_pieces}
use Rattle.brisk_quiet.proofs.LeftOut.{stops_there}
use Rattle.brisk_quiet.proofs.sender.in_pieces.Goals as goal

pub returns-in_default : goal.returns-in_default
returns-in_default c =
    let p = c.args.receiver.now in let r = c.args.asked.now.receiver in let ch = c.args.asked.now.channel in let ps = c.args.pieces.now in let k = c.loop-piece.piece-index in
    let left = left_after c.args.asked.now c.loop-piece.taken in
    stops_there c.in_ok-stillness.stillness (left_after c.args.asked.now c.in_piece.new.taken) _ (walk_pieces p r ch (drop (k + 1) ps)) c.in_default.not-Ends c.in_ok-stillness.ensures
    ∙ ap (λ q. walk_pieces p r ch (q ∷ drop (k + 1) ps) left) c.piece-item.is
    ∙ sym (at_drop_more (λ xs. walk_pieces p r ch xs left) ps k c.piece-item.result (omega arith))
    ∙ c.loop-piece.invariant

pub loop-piece-preserved : goal.loop-piece-preserved
loop-piece-preserved c =
    let p = c.args.receiver.now in let r = c.args.asked.now.receiver in let ch = c.args.asked.now.channel in let ps = c.args.pieces.now in let k = c.loop-piece.piece-index in
    let left = left_after c.args.asked.now c.loop-piece.taken in let more = left_after c.args.asked.now c.in_piece.new.taken in
    ap (λ w. on_end w (walk_pieces p r ch (drop (k + 1) ps))) (ap (λ s. came s more) (sym c.in-Ends.is) ∙ c.in_ok-stillness.ensures)
    ∙ ap (λ q. walk_pieces p r ch (q ∷ drop (k + 1) ps) left) c.piece-item.is
    ∙ sym (at_drop_more (λ xs. walk_pieces p r ch xs left) ps k c.piece-item.result (omega arith))
    ∙ c.loop-piece.invariant

pub returns : goal.returns
returns c =
    let p = c.args.receiver.now in let r = c.args.asked.now.receiver in let ch = c.args.asked.now.channel in
    sym (at_drop_all (λ xs. walk_pieces p r ch xs (left_after c.args.asked.now c.loop-piece.taken)) c.args.pieces.now c.loop-piece.piece-index (omega arith)) ∙ c.loop-piece.invariant
