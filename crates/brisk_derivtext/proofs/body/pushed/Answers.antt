use Rattle.std.proofs.Common.{ap, ◌∙◌}
use Rattle.brisk_derivation.specs.Seen.{step_of, steps_of}
use Rattle.brisk_derivation.specs.Steps.{no_steps, ◌▷◌}
use Rattle.brisk_derivtext.specs.Reading.{◌then◌}
use Rattle.brisk_derivtext.proofs.Pushed.{steps_pushed}
use Rattle.brisk_derivtext.proofs.body.pushed.Goals as goal

pub returns : goal.returns
returns c =
    ap steps_of c.in_ok-push.ensures.items
    ∙ steps_pushed c.steps.inside.items.items c.args.step
    ∙ ap (λ z. z then (step_of c.args.step ▷ no_steps)) c.steps.view_is
