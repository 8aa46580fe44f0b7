use Rattle.std.proofs.Common.{[], ◌∷◌, ◌++◌, take, sym, ap, subst, ◌∙◌, arith}
use Rattle.std.proofs.lemmas.List.{take_more}
use Rattle.brisk_derivation.specs.Seen.{step_of}
use Rattle.brisk_loops.specs.PiecesSeen.{before}
use Rattle.brisk_loops.specs.Walk.{entry, follows}
use Rattle.brisk_loops.specs.WalkSeen.{IsEntered, opened_by}
use Rattle.brisk_loops.specs.declared.rule.Rule.{Rule}
use Rattle.brisk_loops.proofs.Placed.{entered_at, one_rule}
use Rattle.brisk_loops.proofs.pieces.pieces.Goals as goal

pub loop-rule-preserved : goal.loop-rule-preserved
loop-rule-preserved c P h =
    let rs = c.args.rules.now in let k = c.loop-rule.rule-index in let r = c.rule-item.result in let u = c.args.name in
    let piece = c.in_ok-piece.ensures P (subst (λ (z : Rule). IsEntered (entry P z.state (step_of z.step)) z.side) (sym c.rule-item.is) (entered_at P rs k r (omega arith) h)) in
    let so_far = c.loop-rule.invariant P h in
    c.in_ok-add.ensures ∙ (λ i. before (piece i) (so_far i))
    ∙ sym (ap (λ xs. follows (opened_by P xs) u) (take_more rs k r (omega arith)) ∙ ap (λ x. follows (opened_by P (take k rs ++ x ∷ [])) u) (sym c.rule-item.is) ∙ one_rule P (take k rs) r u)
