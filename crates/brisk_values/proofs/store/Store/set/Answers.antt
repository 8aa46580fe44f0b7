use Rattle.std.proofs.Common.{◌≡◌, None, ap, sym, ◌∙◌}
use Rattle.std.specs.FinMap as map
use Rattle.brisk_values.proofs.Entries.{get_place, one_set}
use Rattle.brisk_values.proofs.store.Store.set.Goals as goal

pub returns-in_err-insert-clause-there : goal.returns-in_err-insert-clause-there
returns-in_err-insert-clause-there c there =
    let none : map.get c.args.self.now (c.args.process, c.args.variable) ≡ None =
    sym (ap (λ m. map.get m (c.args.process, c.args.variable)) c.self.view_is) ∙ get_place c.self.inside.entries.entries (c.args.process, c.args.variable) ∙ c.in_err-insert.ensures.absent in
    let h = rw none at there in cc

pub returns-clause-ok : goal.returns-clause-ok
returns-clause-ok c =
    one_set c.self.inside.entries.entries c.insert.new.self.entries (c.args.process, c.args.variable) c.args.value c.in_ok-insert.ensures.updates.0
    ∙ ap (λ m. map.insert m (c.args.process, c.args.variable) c.args.value) c.self.view_is
