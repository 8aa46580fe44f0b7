use Rattle.std.proofs.Common.{ap, sym, ◌∙◌}
use Rattle.std.specs.Prelude.{is_some}
use Rattle.std.specs.FinMap as map
use Rattle.brisk_seq.proofs.Filling.{cell_total, get_listed}
use Rattle.brisk_seq.proofs.boxes.Boxes.is_full.Goals as goal

pub returns : goal.returns
returns c = c.contains_key.ensures ∙ ap is_some (sym (get_listed cell_total c.self.inside.full.entries c.args.cell.now) ∙ ap (λ m. map.get m c.args.cell.now) c.self.view_is)
