-- Derivations as plain data.
use Rattle.std.specs.Prelude.{List}
use Rattle.brisk_values.specs.Names.{Name}
use Rattle.brisk_derivation.specs.declared.steps.BasicStep.{BasicStep}
use Rattle.brisk_derivation.specs.declared.steps.Fact.{Fact}

infixr 6 ◌▷◌
-- a step, and steps one after another
mutual
  pub data Step : Type 0 where
    Basic : (b : BasicStep) → Step
    Branch : (t : Name) (first second : Steps) → Step
    While : (t : Name) (drops : List Fact) (premise : Steps) → Step
    For : (s : Name) (ts : List Name) (drops : List Fact) (premise : Steps) → Step
    Repeat : (t : Name) (drops : List Fact) (premise : Steps) → Step
    Gather : (t : Name) (drops : List Fact) (premise : Steps) → Step
    Pick : (t : Name) (drops : List Fact) (premise : Steps) → Step

  pub data Steps : Type 0 where
    no_steps : Steps
    ◌▷◌ : (s : Step) (rest : Steps) → Steps
