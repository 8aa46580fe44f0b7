-- Each premise is smaller than the steps that hold it.
use Rattle.std.specs.Prelude.{◌≤◌, max, List, [], ◌∷◌}
use Rattle.std.proofs.Common.{arith}
use denote.Param.Weighed.{most}
use Rattle.brisk_derivation.specs.Depths.{steps_depth, step_depth}
use Rattle.brisk_derivation.specs.Seen.{steps_of, step_of}
use Rattle.brisk_derivation.specs.declared.steps.Step.{Step}
use Rattle.brisk_derivation.specs.declared.steps.Step.TheVariants.{Basic, Branch, While, For, Repeat, Gather, Pick}
use Rattle.brisk_derivation.specs.declared.steps.Steps.TheDeep.{deep-Step}

pub deep_le-step_depth : (s : Step) → deep-Step s ≤ step_depth (step_of s)
deep_le-step_depth (Basic b) = omega arith
deep_le-step_depth (Branch t a b) = omega arith
deep_le-step_depth (While t drops a) = omega arith
deep_le-step_depth (For s ts drops a) = omega arith
deep_le-step_depth (Repeat t drops a) = omega arith
deep_le-step_depth (Gather t drops a) = omega arith
deep_le-step_depth (Pick t drops a) = omega arith

pub deep_le-steps_depth : (ss : List Step) → max (most deep-Step ss) 0 ≤ steps_depth (steps_of ss)
deep_le-steps_depth [] = omega arith
deep_le-steps_depth (s ∷ ss) = omega (arith, deep_le-step_depth s, deep_le-steps_depth ss)
