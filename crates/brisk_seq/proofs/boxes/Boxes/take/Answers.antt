use Rattle.std.proofs.Common.{ap, sym, ◌∙◌}
use Rattle.std.specs.FinMap as map
use Rattle.brisk_seq.specs.Cells.{without_full}
use Rattle.brisk_seq.proofs.Filling.{cell_total, exact_cells, get_listed, one_remove}
use Rattle.brisk_seq.proofs.boxes.Boxes.take.Goals as goal

pub returns-clause-values : goal.returns-clause-values
returns-clause-values c = c.remove.ensures.value ∙ sym (get_listed cell_total c.self.inside.full.entries c.args.cell.now) ∙ ap (λ m. map.get m c.args.cell.now) c.self.view_is

pub returns-clause-empty : goal.returns-clause-empty
returns-clause-empty c =
    one_remove cell_total exact_cells c.self.inside.full.entries c.remove.new.self.entries c.args.cell.now c.remove.ensures.updates.0
    ∙ ap (without_full c.args.cell.now) c.self.view_is
