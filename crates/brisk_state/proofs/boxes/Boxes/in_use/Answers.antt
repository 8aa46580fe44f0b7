use Rattle.std.proofs.Common.{ap, sym, ◌∙◌}
use Rattle.std.specs.BTreeSet.{contains}
use Rattle.std.specs.Ordering.{nat_cmp}
use Rattle.brisk_state.specs.Symbolic.{is_in_use}
use Rattle.brisk_state.proofs.Numbers.{in_use_kept}
use Rattle.brisk_state.proofs.boxes.Boxes.in_use.Goals as goal

pub returns : goal.returns
returns c =
    let n = c.args.number in
    c.contains.ensures
    ∙ sym (in_use_kept n c.self.inside.queues.entries (contains nat_cmp c.self.inside.used n) (c.self.invariant.exact n))
    ∙ ap (λ es. is_in_use es n) c.self.view_is
