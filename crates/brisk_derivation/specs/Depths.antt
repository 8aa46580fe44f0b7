-- How deep steps nest.
use Rattle.std.specs.Prelude.{ℕ, ◌+◌, max}
use Rattle.brisk_derivation.specs.Steps.{Step, Basic, Branch, While, For, Repeat, Gather, Pick, Steps, no_steps, ◌▷◌}

-- how many premises stand one in another
abbrev mutual
  pub steps_depth : Steps → ℕ
  steps_depth no_steps = 0
  steps_depth (s ▷ rest) = max (step_depth s) (steps_depth rest)

  pub step_depth : Step → ℕ
  step_depth (Basic b) = 0
  step_depth (Branch t a b) = max (steps_depth a) (steps_depth b) + 1
  step_depth (While t drops a) = steps_depth a + 1
  step_depth (For s ts drops a) = steps_depth a + 1
  step_depth (Repeat t drops a) = steps_depth a + 1
  step_depth (Gather t drops a) = steps_depth a + 1
  step_depth (Pick t drops a) = steps_depth a + 1
