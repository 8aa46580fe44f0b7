use Rattle.std.proofs.Common.{◌++◌, sym, ap, ◌∙◌}
use Rattle.std.proofs.lemmas.Result.{on_ok_weaker}
use Rattle.brisk_report.proofs.Cut.{cut, long_enough}
use Rattle.brisk_report.proofs.tries.put_steps.Goals as goal

pub slice_bounds-put-count : goal.slice_bounds-put-count
slice_bounds-put-count c = long_enough c.args.steps.now c.deref.result.now c.len.result (c.deref.ensures.value ∙ c.in_ok-text.ensures) (c.len.ensures ∙ sym c.deref.ensures.len)

pub slice_bounds-put-start : goal.slice_bounds-put-start
slice_bounds-put-start c = long_enough c.args.steps.now c.deref.result.now c.len.result (c.deref.ensures.value ∙ c.in_ok-text.ensures) (c.len.ensures ∙ sym c.deref.ensures.len)

pub returns : goal.returns
returns c =
    on_ok_weaker c.put.result (λ e. e ∙ ap (λ z. c.args.out.now.items ++ z) (cut c.args.steps.now c.deref.result.now c.len.result (c.deref.ensures.value ∙ c.in_ok-text.ensures) (c.len.ensures ∙ sym c.deref.ensures.len)))
    c.put.ensures
