use Rattle.std.proofs.Common.{◌≤◌, min, length, map, arith, ap, sym, ◌∙◌}
use Rattle.brisk_syntax.specs.Expressions.{expression_of}
use Rattle.brisk_facts.specs.Facts.{with_values}
use Rattle.brisk_facts.specs.Learning.{folded}
use Rattle.brisk_basic.proofs.Passed.{values_end}
use Rattle.brisk_basic.proofs.values.passed.Goals as goal

pub returns : goal.returns
returns c =
    let f = folded c.args.facts.now c.args.from in let xs = c.as_slice-vars.result.now in let es = c.as_slice-exprs.result.now in let i = c.loop-i.i in
    let far : min (length xs) (length es) ≤ i = omega arith in
    sym (values_end f expression_of c.args.to i xs es c.loop-i.known far)
    ∙ c.loop-i.invariant
    ∙ (λ j. with_values c.args.to ((c.as_slice-vars.ensures.value ∙ c.vars.view_is) j) (map f ((ap (map expression_of) c.as_slice-exprs.ensures.value ∙ c.exprs.view_is) j)) c.args.facts.now)
