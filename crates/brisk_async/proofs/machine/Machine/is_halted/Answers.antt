use Rattle.std.proofs.Common.{ap, sym, ◌∙◌}
use Rattle.brisk_async.specs.Keys.{code_in_map}
use Rattle.brisk_async.specs.States.{Kept}
use Rattle.brisk_async.proofs.machine.Machine.is_halted.Goals as goal

pub returns : goal.returns
returns c = (
  λ t p. ap (λ (k : Kept). code_in_map k.codes p) (sym c.self.view_is) ∙ c.are_done.ensures.0 t p,
  λ h. c.are_done.ensures.1 (λ p. ap (λ (k : Kept). code_in_map k.codes p) c.self.view_is ∙ h p),
)
