use Rattle.std.proofs.Common.{arith}
use Rattle.brisk_schedule.specs.Reading.{Fails}
use Rattle.brisk_schedule.proofs.Instances.{head_wrong, inputs_wrong, sizes_wrong, taken_whole, too_heavy}
use Rattle.brisk_schedule.proofs.Takes.{passed_on}
use Rattle.brisk_schedule.proofs.instance.read_instance.Goals as goal

pub returns-in_err-read_head-clause-err : goal.returns-in_err-read_head-clause-err
returns-in_err-read_head-clause-err c = passed_on (Fails c.args.format c.args.enums.now c.args.roles.now c.args.lines.now.rest) c.from_residual.result c.in_err-read_head.field-0.0 c.from_residual.ensures.1
    (head_wrong c.args.format c.args.enums.now c.args.roles.now c.args.lines.now c.requires.start c.requires.format c.in_err-read_head.field-0.0 c.in_err-read_head.ensures.err)

pub returns-in_err-sizes-clause-err : goal.returns-in_err-sizes-clause-err
returns-in_err-sizes-clause-err c = passed_on (Fails c.args.format c.args.enums.now c.args.roles.now c.args.lines.now.rest) c.from_residual-in_err-sizes.result c.in_err-sizes.field-0.0 c.from_residual-in_err-sizes.ensures.1
    (sizes_wrong c.args.format c.args.enums.now c.args.roles.now c.args.lines.now c.requires.start c.requires.format c.read_head.new.lines c.in_ok-read_head.ensures.ok c.in_err-sizes.field-0.0 c.in_err-sizes.ensures.err)

pub returns-then-weight-gt-MOST_WEIGHT-clause-err : goal.returns-then-weight-gt-MOST_WEIGHT-clause-err
returns-then-weight-gt-MOST_WEIGHT-clause-err c =
    too_heavy c.args.format c.args.enums.now c.args.roles.now c.args.lines.now c.requires.start c.requires.format c.read_head.new.lines c.in_ok-read_head.ensures.ok c.read_sizes.new.lines c.in_ok-sizes.sizes c.in_ok-sizes.ensures.ok c.taken.result c.taken.ensures (omega (arith, c.weight.ensures, c.if-weight-gt-MOST_WEIGHT.true))

pub returns-in_err-inputs-clause-err : goal.returns-in_err-inputs-clause-err
returns-in_err-inputs-clause-err c = passed_on (Fails c.args.format c.args.enums.now c.args.roles.now c.args.lines.now.rest) c.from_residual-in_err-inputs.result c.in_err-inputs.field-0.0 c.from_residual-in_err-inputs.ensures.1
    (inputs_wrong c.args.format c.args.enums.now c.args.roles.now c.args.lines.now c.requires.start c.requires.format c.read_head.new.lines c.in_ok-read_head.ensures.ok c.read_sizes.new.lines c.in_ok-sizes.sizes c.in_ok-sizes.ensures.ok (omega (arith, c.weight.ensures, c.if-weight-gt-MOST_WEIGHT.false)) c.in_err-inputs.field-0.0 c.in_err-inputs.ensures.err)

pub returns-clause-ok : goal.returns-clause-ok
returns-clause-ok c =
    taken_whole c.args.format c.args.enums.now c.args.roles.now c.args.lines.now c.requires.start c.requires.format c.read_head.new.lines c.in_ok-read_head.ensures.ok c.read_sizes.new.lines c.in_ok-sizes.sizes c.in_ok-sizes.ensures.ok (omega (arith, c.weight.ensures, c.if-weight-gt-MOST_WEIGHT.false)) c.read_inputs.new.lines c.in_ok-inputs.inputs c.in_ok-inputs.ensures.ok
