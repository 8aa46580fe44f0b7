use Rattle.std.proofs.Common.{ap, ◌∙◌}
use Rattle.brisk_syntax.specs.Expressions.{expression_of}
use Rattle.brisk_rules.specs.Rules as rules
use Rattle.brisk_loops.proofs.Leaving.{while_closes}
use Rattle.brisk_loops.proofs.leave.closing_while.Goals as goal

pub returns : goal.returns
returns c drops r enters =
    let h = while_closes c.args.before.now c.args.owner drops c.in-Some.code.now (expression_of c.in-Some-while_at.guard.now) c.in-Some-while_at.field-0-1.now.value r c.in-Some.ensures c.in-Some-while_at.ensures enters in
    (c.in_ok-closing.ensures.0 ∙ h.0, c.in_ok-closing.ensures.1 ∙ ap (rules.While c.args.owner) c.in_ok-copy.ensures ∙ h.1)
