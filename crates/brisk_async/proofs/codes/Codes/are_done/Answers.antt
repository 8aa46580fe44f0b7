use Rattle.std.proofs.Common.{ap, sym, ◌∙◌}
use Rattle.brisk_async.specs.Keys.{code_in_map}
use Rattle.brisk_async.proofs.Maps.{all_done, each_done}
use Rattle.brisk_async.proofs.codes.Codes.are_done.Goals as goal

pub returns : goal.returns
returns c =
    let es = c.self.inside.codes.entries in (
      λ t p. ap (λ m. code_in_map m p) (sym c.self.view_is) ∙ each_done es (c.all_done.ensures.done.0 t) p,
      λ h. c.all_done.ensures.done.1 (all_done es c.all_done.ensures.ordered (λ p. ap (λ m. code_in_map m p) c.self.view_is ∙ h p)),
    )
