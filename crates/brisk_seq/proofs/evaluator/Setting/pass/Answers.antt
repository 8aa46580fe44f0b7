use Rattle.std.proofs.Common.{ap, ◌∙◌}
use Rattle.brisk_values.specs.Places.{value_in}
use Rattle.brisk_syntax.specs.Stores.{stored}
use Rattle.brisk_seq.specs.Running.{focus_on, given_in, run_of}
use Rattle.brisk_seq.specs.Sequential.{values_at}
use Rattle.brisk_seq.proofs.Moving.{passes}
use Rattle.brisk_seq.proofs.evaluator.Setting.pass.Goals as goal

pub returns : goal.returns
returns c =
    let who = focus_on c.args.focus.now in let pass = c.args.pass.now in let old = c.args.run.now in
    passes c.args.self.now.choices.now old c.saturating_add-run.result c.saturating_add-run.ensures (who pass.to) pass.vars
    (λ r. values_at (given_in c.args.self.now) r (who pass.from) pass.exprs) c.in_ok-values.values c.store_all.new.store
    (λ n. c.in_ok-values.ensures ∙ ap (λ p. values_at (given_in c.args.self.now) (run_of c.args.self.now.choices.now n old) p pass.exprs) c.process-from.ensures)
    (c.in_ok-store_all.ensures.ok ∙ ap (λ p. stored (value_in old.store) p pass.vars c.in_ok-values.values) c.process-to.ensures)
