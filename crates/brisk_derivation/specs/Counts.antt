-- How many steps a derivation has.
use Rattle.std.specs.Prelude.{ℕ, ◌+◌}
use Rattle.brisk_derivation.specs.Steps.{Step, Basic, Branch, While, For, Repeat, Gather, Pick, Steps, no_steps, ◌▷◌}

-- the number of steps in a step, itself counted, and among steps
abbrev mutual
  pub steps_in : Step → ℕ
  steps_in (Basic b) = 1
  steps_in (Branch t a b) = 1 + steps_among a + steps_among b
  steps_in (While t drops a) = 1 + steps_among a
  steps_in (For s ts drops a) = 1 + steps_among a
  steps_in (Repeat t drops a) = 1 + steps_among a
  steps_in (Gather t drops a) = 1 + steps_among a
  steps_in (Pick t drops a) = 1 + steps_among a

  pub steps_among : Steps → ℕ
  steps_among no_steps = 0
  steps_among (s ▷ rest) = steps_in s + steps_among rest
