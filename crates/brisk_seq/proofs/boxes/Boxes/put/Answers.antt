use Rattle.std.proofs.Common.{ap, ◌∙◌}
use Rattle.brisk_seq.specs.Cells.{with_full}
use Rattle.brisk_seq.proofs.Filling.{cell_total, exact_cells, one_insert}
use Rattle.brisk_seq.proofs.boxes.Boxes.put.Goals as goal

pub returns : goal.returns
returns c =
    one_insert cell_total exact_cells c.self.inside.full.entries c.insert.new.self.entries c.args.cell c.args.values c.in_ok-insert.ensures.updates.0
    ∙ ap (with_full c.args.cell c.args.values) c.self.view_is
