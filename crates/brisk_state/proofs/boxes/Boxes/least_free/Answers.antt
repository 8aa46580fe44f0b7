use Rattle.std.proofs.Common.{◌≡◌, ℕ, Bool, ap, sym, subst, ◌∙◌}
use Rattle.std.specs.BTreeSet.{contains}
use Rattle.std.specs.Ordering.{nat_cmp}
use Rattle.brisk_state.specs.Pending.{IsLeastAbsent}
use Rattle.brisk_state.specs.Symbolic.{is_in_use}
use Rattle.brisk_state.proofs.Numbers.{in_use_kept}
use Rattle.brisk_state.proofs.boxes.Boxes.least_free.Goals as goal

pub returns : goal.returns
returns c =
    let es = c.self.inside.queues.entries in let used = c.self.inside.used in
    let same : contains nat_cmp used ≡ is_in_use c.args.self.now =
    λ i n. (sym (in_use_kept n es (contains nat_cmp used n) (c.self.invariant.exact n)) ∙ ap (λ b. is_in_use b n) c.self.view_is) i in
    let P : (ℕ → Bool) → Type 0 = λ test. IsLeastAbsent test c.least_absent.result in
    subst P same c.least_absent.ensures
