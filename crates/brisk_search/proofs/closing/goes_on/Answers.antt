use Rattle.std.proofs.Common.{sym, ap, ◌∙◌}
use Rattle.std.specs.Prelude.{◌&&◌}
use Rattle.std.proofs.Math.Bool.{and-false, and-true}
use Rattle.brisk_state.specs.Pending.{has_new_for}
use Rattle.brisk_state.specs.Symbolic.{Symbolic}
use Rattle.brisk_rules.specs.Rules.{looks}
use Rattle.brisk_rules.specs.Standing.{focus_of, is_moved}
use Rattle.brisk_syntax.specs.Typing.{is_among}
use Rattle.brisk_search.proofs.Candidates.{among_focus, before_it, goes_by_focus, new_since}
use Rattle.brisk_search.proofs.closing.goes_on.Goals as goal

pub returns-then-may_send : goal.returns-then-may_send
returns-then-may_send c = λ r there may before.
    let E = c.args.walk.now.state in let u = c.args.name in
    let (closes, pending, stands) = before_it r c.args.premise.now c.args.walk.now.entered c.args.before.now there before in
    let new = new_since r c.args.before.now E u pending ∙ ap (λ (S : Symbolic). has_new_for c.args.before.now.pending S.pending u) (sym c.state-state.ensures) ∙ sym c.has_new_for.ensures ∙ c.if-has_new_for.false in
    let moved = ap (λ (T : Symbolic). is_moved r T u) (sym c.state-state.ensures) ∙ sym (c.has_moved.ensures r closes stands) ∙ c.if-has_moved.false in
    let focus = c.eq.ensures ∙ among_focus c.focus_of.result u ∙ ap (λ ns. is_among ns u) (c.focus_of.ensures ∙ ap (λ k. focus_of (looks k)) closes.1) in
    sym (and-true c.eq.result) ∙ (λ i. focus i && (sym c.if-may_send.true ∙ may) i) ∙ sym (goes_by_focus r E u new moved)

pub returns-else-may_send : goal.returns-else-may_send
returns-else-may_send c = λ r there may before.
    let E = c.args.walk.now.state in let u = c.args.name in
    let (closes, pending, stands) = before_it r c.args.premise.now c.args.walk.now.entered c.args.before.now there before in
    let new = new_since r c.args.before.now E u pending ∙ ap (λ (S : Symbolic). has_new_for c.args.before.now.pending S.pending u) (sym c.state-state.ensures) ∙ sym c.has_new_for.ensures ∙ c.if-has_new_for.false in
    let moved = ap (λ (T : Symbolic). is_moved r T u) (sym c.state-state.ensures) ∙ sym (c.has_moved.ensures r closes stands) ∙ c.if-has_moved.false in
    c.if-may_send.false ∙ sym (and-false (is_among (focus_of (looks r.kind)) u)) ∙ (λ i. is_among (focus_of (looks r.kind)) u && (sym c.if-may_send.false ∙ may) i) ∙ sym (goes_by_focus r E u new moved)
