-- When two steps are the same.
use Rattle.std.specs.Prelude.{Bool, true, false, ◌&&◌, nat_eq}
use lib.Pointwise.{pointwise}
use Rattle.brisk_values.specs.Names.{same_name}
use Rattle.brisk_derivation.specs.declared.steps.BasicStep.{BasicStep}
use Rattle.brisk_derivation.specs.declared.steps.BasicStep.TheVariants as basic
use Rattle.brisk_derivation.specs.declared.steps.Fact.{Fact}
use Rattle.brisk_derivation.specs.Steps.{Step, Basic, Branch, While, For, Repeat, Gather, Pick, Steps, no_steps, ◌▷◌}

-- the two facts are the same
abbrev pub same_fact : Fact → Fact → Bool
same_fact f g = same_name f.at g.at && same_name f.variable g.variable

-- the two steps by basic rules are the same
abbrev pub same_basic : BasicStep → BasicStep → Bool
same_basic (basic.Assign t) (basic.Assign u) = same_name t u
same_basic (basic.Fill t u c n) (basic.Fill v w d m) = same_name t v && (same_name u w && (same_name c d && nat_eq n m))
same_basic (basic.Pass t u c) (basic.Pass v w d) = same_name t v && (same_name u w && same_name c d)
same_basic (basic.Take t u c) (basic.Take v w d) = same_name t v && (same_name u w && same_name c d)
same_basic (basic.Known t) (basic.Known u) = same_name t u
same_basic x y = false

-- the two steps are the same, and so are steps one after another
abbrev mutual
  pub same_step : Step → Step → Bool
  same_step (Basic b) (Basic c) = same_basic b c
  same_step (Branch t a b) (Branch u c d) = same_name t u && (same_steps a c && same_steps b d)
  same_step (While t f a) (While u g b) = same_name t u && (pointwise same_fact f g && same_steps a b)
  same_step (For s ts f a) (For r us g b) = same_name s r && (pointwise same_name ts us && (pointwise same_fact f g && same_steps a b))
  same_step (Repeat t f a) (Repeat u g b) = same_name t u && (pointwise same_fact f g && same_steps a b)
  same_step (Gather t f a) (Gather u g b) = same_name t u && (pointwise same_fact f g && same_steps a b)
  same_step (Pick t f a) (Pick u g b) = same_name t u && (pointwise same_fact f g && same_steps a b)
  same_step x y = false

  pub same_steps : Steps → Steps → Bool
  same_steps no_steps no_steps = true
  same_steps (s ▷ a) (r ▷ b) = same_step s r && same_steps a b
  same_steps a b = false
