use Rattle.std.proofs.Common.{ap, ◌∙◌}
use Rattle.brisk_syntax.specs.Statements.{code_of}
use Rattle.brisk_syntax.specs.Syntax.{◌then◌}
use Rattle.brisk_syntax.proofs.Codes.{then-done}
use Rattle.brisk_loops.proofs.enter.shared.Goals as goal

pub returns : goal.returns
returns c = c.in_ok-put_before.ensures.ok ∙ ap (λ k. c.args.body.now.value then k) (c.in_ok-code.ensures ∙ ap code_of c.new.ensures.items) ∙ then-done c.args.body.now.value
