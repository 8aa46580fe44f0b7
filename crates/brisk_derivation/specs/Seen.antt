-- How steps are seen.
use Rattle.std.specs.Prelude.{List, [], ◌∷◌}
use Rattle.brisk_derivation.specs.Steps as tree
use Rattle.brisk_derivation.specs.Steps.{Steps, no_steps, ◌▷◌}
use Rattle.brisk_derivation.specs.declared.steps.Step.{Step}
use Rattle.brisk_derivation.specs.declared.steps.Step.TheVariants.{Basic, Branch, While, For, Repeat, Gather, Pick}

-- the step without the places of its parts in memory
abbrev pub step_of : Step → tree.Step
step_of (Basic b) = tree.Basic b
step_of (Branch t a b) = tree.Branch t a b
step_of (While t drops a) = tree.While t drops a
step_of (For s ts drops a) = tree.For s ts drops a
step_of (Repeat t drops a) = tree.Repeat t drops a
step_of (Gather t drops a) = tree.Gather t drops a
step_of (Pick t drops a) = tree.Pick t drops a

-- the steps one after another
abbrev pub steps_of : List Step → Steps
steps_of [] = no_steps
steps_of (s ∷ ss) = step_of s ▷ steps_of ss
