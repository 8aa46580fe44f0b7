use Rattle.std.proofs.Common.{Option, sym, ap, subst, ◌∙◌}
use Rattle.std.specs.Prelude.{IfSome}
use Rattle.brisk_derivation.specs.Seen.{step_of}
use Rattle.brisk_rules.specs.Following.{is_owner}
use Rattle.brisk_loops.specs.LeaveSeen.{Closes}
use Rattle.brisk_loops.specs.Walk.{entry}
use Rattle.brisk_loops.specs.declared.leave.Closing.{Closing}
use Rattle.brisk_loops.proofs.Ending.{entered_loop}
use Rattle.brisk_loops.proofs.Placed.{in_its_premise, its_piece, none_of_others}
use Rattle.brisk_loops.proofs.pieces.piece.Goals as goal

pub returns-then-not-is_owner : goal.returns-then-not-is_owner
returns-then-not-is_owner c P h =
    let r = c.args.rule.now in let S = r.state in
    let g = entered_loop P S r.step r.side c.in_default.not-Branch h in
    none_of_others S c.args.name g.0 c.in-Some.closing _ (in_its_premise (entry P S (step_of r.step)) r.side S g.0 g.1)
    (subst (λ (z : Option Closing). IfSome z (λ k. Closes k g.0)) c.in-Some.is (c.in_ok-closing-in_default.ensures P g.0 g.1))
    (ap (λ os. is_owner os c.args.name) (sym c.deref.ensures.value) ∙ sym c.is_owner.ensures ∙ c.if-not-is_owner.true)

pub returns-in_ok-piece-in_default : goal.returns-in_ok-piece-in_default
returns-in_ok-piece-in_default c P h =
    let r = c.args.rule.now in let S = r.state in
    let g = entered_loop P S r.step r.side c.in_default.not-Branch h in
    its_piece S c.args.name g.0 c.in-Some.closing _ c.in_ok-piece-in_default.piece (in_its_premise (entry P S (step_of r.step)) r.side S g.0 g.1)
    (subst (λ (z : Option Closing). IfSome z (λ k. Closes k g.0)) c.in-Some.is (c.in_ok-closing-in_default.ensures P g.0 g.1))
    (ap (λ os. is_owner os c.args.name) (sym c.deref.ensures.value) ∙ sym c.is_owner.ensures ∙ c.if-not-is_owner.false) c.in_ok-piece-in_default.ensures
