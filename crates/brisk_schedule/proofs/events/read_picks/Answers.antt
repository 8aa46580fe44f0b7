use Rattle.std.proofs.Common.{◌∙◌}
use Rattle.brisk_lines.specs.declared.line.Line.TheVariants.{Choose}
use Rattle.brisk_schedule.specs.Taking.{LacksEnd}
use Rattle.brisk_schedule.specs.Texts.{Sizes}
use Rattle.brisk_schedule.proofs.Takes.{free_choice, one_so_far, passed_on, past_end, to_end, unwanted_so_far}
use Rattle.brisk_schedule.proofs.events.read_picks.Goals as goal

pub loop-items-preserved : goal.loop-items-preserved
loop-items-preserved c =
    let more = one_so_far Choose (λ k. Unit {0}) _ _ _ _ _ c.in_ok-add_choice.field-0 c.loop-items.invariant.so_far c.if-branch.true c.in_ok-add_choice.ensures.ok in
    record { so_far = more.0; format = more.1 ∙ c.loop-items.invariant.format }

pub returns-in_err-add_choice-clause-err : goal.returns-in_err-add_choice-clause-err
returns-in_err-add_choice-clause-err c = passed_on (λ g. (sizes : Sizes) → LacksEnd sizes c.args.lines.now g) c.from_residual.result c.in_err-add_choice.field-0.0 c.from_residual.ensures.1 (λ sizes. unwanted_so_far Choose (λ k. Unit {0}) sizes _ _ _ c.in_err-add_choice.field-0.0 (free_choice sizes) c.loop-items.invariant.so_far (c.in_err-add_choice.ensures.err sizes))

pub returns-in_err-finish-clause-err : goal.returns-in_err-finish-clause-err
returns-in_err-finish-clause-err c = passed_on (λ g. (sizes : Sizes) → LacksEnd sizes c.args.lines.now g) c.from_residual-in_err-finish.result c.in_err-finish.field-0.0 c.from_residual-in_err-finish.ensures.1 (λ sizes. past_end Choose (λ k. Unit {0}) sizes _ _ _ _ _ c.in_err-finish.field-0.0 c.in_ok-add_choice.field-0 (free_choice sizes) c.loop-items.invariant.so_far c.if-branch.false c.in_ok-add_choice.ensures.ok c.in_err-finish.ensures.err)

pub returns-clause-ok : goal.returns-clause-ok
returns-clause-ok c = (to_end Choose (λ k. Unit {0}) _ _ _ _ _ c.in_ok-add_choice.field-0 c.loop-items.invariant.so_far c.if-branch.false c.in_ok-add_choice.ensures.ok c.in_ok-finish.ensures.ok).0
