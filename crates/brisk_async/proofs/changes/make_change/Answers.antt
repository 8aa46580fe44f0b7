use Rattle.std.proofs.Common.{ap, sym, ◌∙◌}
use Rattle.brisk_values.specs.Places.{value_in}
use Rattle.brisk_values.proofs.Stores.{one_variable}
use Rattle.brisk_syntax.specs.Stores.{stored}
use Rattle.brisk_syntax.specs.Syntax.{done}
use Rattle.brisk_async.specs.Acts.{effect_with}
use Rattle.brisk_async.proofs.changes.make_change.Goals as goal

pub returns-in_ok-set-in-Stores-clause-stored : goal.returns-in_ok-set-in-Stores-clause-stored
returns-in_ok-set-in-Stores-clause-stored c =
    ap value_in c.in_ok-set-in-Stores.ensures.ok ∙ one_variable c.args.store.now c.args.process.now c.in-Stores.x c.in-Stores.v
    ∙ ap (λ ch. stored (value_in c.args.store.now) c.args.process.now (effect_with done ch).variables (effect_with done ch).values) (sym c.in-Stores.is)
