use Rattle.std.proofs.Common.{◌≡◌, ap, sym, ◌∙◌, arith, length}
use Rattle.brisk_syntax.specs.Segments.{backwards, code_length, statement_at}
use Rattle.brisk_syntax.proofs.Places.{at-then_behind, at-then_front, at_code, backwards_push, length_code}
use Rattle.brisk_syntax.proofs.segments.Code.at.Goals as goal

pub returns-then-left-statements : goal.returns-then-left-statements
returns-then-left-statements c =
    let segment = c.in-Some.segment.now in let behind = c.in-Some.behind.now in let k = c.loop-segment.left in
    let long : length c.statements-statements.result.now ≡ code_length segment = sym (length_code c.statements-statements.result.now) ∙ ap code_length c.statements-statements.ensures.all in
    at_code c.statements-statements.result.now k c.index-statements-left.result (omega arith) c.index-statements-left.is ∙ ap (λ d. statement_at d k) c.statements-statements.ensures.all
    ∙ sym (at-then_front segment (backwards behind) k (omega (arith, long)))
    ∙ ap (λ d. statement_at d k) (sym (backwards_push behind segment) ∙ ap backwards (sym c.in-Some.ensures.cases.0))
    ∙ c.loop-segment.invariant
    ∙ ap (λ xs. statement_at (backwards xs) c.args.place) c.as_slice-segments.ensures.value ∙ ap (λ d. statement_at d c.args.place) c.self.view_is

pub loop-segment-preserved : goal.loop-segment-preserved
loop-segment-preserved c =
    let segment = c.in-Some.segment.now in let behind = c.in-Some.behind.now in let k = c.loop-segment.left in
    let long : length c.statements-statements.result.now ≡ code_length segment = sym (length_code c.statements-statements.result.now) ∙ ap code_length c.statements-statements.ensures.all in
    sym (at-then_behind segment (backwards behind) k _ (omega (arith, long)))
    ∙ ap (λ d. statement_at d k) (sym (backwards_push behind segment) ∙ ap backwards (sym c.in-Some.ensures.cases.0))
    ∙ c.loop-segment.invariant
