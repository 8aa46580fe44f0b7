use Rattle.std.proofs.Common.{length, ap, ◌∙◌}
use Rattle.brisk_state.specs.Symbolic.{key_cmp, numbers_at, or_none}
use Rattle.brisk_state.proofs.Entries.{find_entry}
use Rattle.brisk_state.proofs.boxes.Boxes.count.Goals as goal

pub returns-in-None : goal.returns-in-None
returns-in-None c =
    ap (λ o. length (or_none o)) (c.in-None.ensures.value ∙ find_entry key_cmp c.args.key.now c.self.inside.queues.entries)
    ∙ ap (λ es. length (numbers_at es c.args.key.now)) c.self.view_is

pub returns-in-Some : goal.returns-in-Some
returns-in-Some c =
    c.count.ensures
    ∙ ap (λ o. length (or_none o)) (c.in-Some.ensures.value ∙ find_entry key_cmp c.args.key.now c.self.inside.queues.entries)
    ∙ ap (λ es. length (numbers_at es c.args.key.now)) c.self.view_is
