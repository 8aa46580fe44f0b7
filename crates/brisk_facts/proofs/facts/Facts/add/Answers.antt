use Rattle.std.proofs.Common.{◌≡◌, None, ap, sym, ◌∙◌}
use Rattle.brisk_facts.specs.Facts.{fact, with_fact}
use Rattle.brisk_facts.proofs.Places.{find_entry, put_entry}
use Rattle.brisk_facts.proofs.facts.Facts.add.Goals as goal

pub returns-in_err-insert-clause-there : goal.returns-in_err-insert-clause-there
returns-in_err-insert-clause-there c there =
    let none : fact c.args.self.now c.args.at c.args.variable ≡ None =
    ap (λ f. fact f c.args.at c.args.variable) (sym c.self.view_is) ∙ sym (find_entry (c.args.at, c.args.variable) c.self.inside.entries.entries) ∙ c.in_err-insert.ensures.absent in
    let h = rw none at there in cc

pub returns-clause-ok : goal.returns-clause-ok
returns-clause-ok c =
    c.in_ok-insert.ensures.entries ∙ put_entry (c.args.at, c.args.variable) c.args.value c.self.inside.entries.entries
    ∙ ap (with_fact c.args.at c.args.variable c.args.value) c.self.view_is
