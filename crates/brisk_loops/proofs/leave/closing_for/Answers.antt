use Rattle.std.proofs.Common.{map, ap, ◌∙◌}
use Rattle.brisk_loops.specs.LeaveSeen.{owner_by}
use Rattle.brisk_loops.proofs.Owners.{for_closes}
use Rattle.brisk_loops.proofs.leave.closing_for.Goals as goal

pub returns : goal.returns
returns c drops r e =
    let h = for_closes c.args.before.now c.args.set c.args.owners.now drops r e in
    (c.in_ok-owners.ensures ∙ ap (map (owner_by c.args.before.now)) (c.deref.ensures.value ∙ c.owners.view_is) ∙ h.0, h.1)
