use Rattle.std.proofs.Common.{ap, ◌∙◌}
use Rattle.std.specs.FinMap as map
use Rattle.std.proofs.lemmas.Result.{IfOk-weaker}
use Rattle.brisk_values.specs.Places.{Entries, value_in}
use Rattle.brisk_syntax.specs.Value.{size_in}
use Rattle.brisk_instance.specs.Begun.{with_roles}
use Rattle.brisk_instance.specs.Given.{with_inputs}
use Rattle.brisk_instance.proofs.Started.{started_store}
use Rattle.brisk_instance.proofs.start.start_store.Goals as goal

pub returns : goal.returns
returns c =
    let g = c.args.instance.now in let roles = c.args.roles.now in
    IfOk-weaker c.with_given.result _ _ (λ s h p x.
    ap (λ (m : Entries). value_in m p x) h
    ∙ ap (λ (m : Entries). value_in (with_roles m (size_in g.sizes) roles map.empty) p x) c.in_ok-given.ensures
    ∙ started_store (size_in g.sizes) (with_inputs g.inputs map.empty) roles c.requires p x) c.with_given.ensures
