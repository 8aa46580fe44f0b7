use Rattle.std.proofs.Common.{ap, ◌∙◌}
use Rattle.std.specs.Prelude.{slice_get}
use Rattle.brisk_state.specs.Symbolic.{key_cmp, or_none}
use Rattle.brisk_state.proofs.Entries.{find_entry}
use Rattle.brisk_state.proofs.boxes.oldest.Goals as goal

pub returns-in-None : goal.returns-in-None
returns-in-None c =
    ap (λ o. slice_get (or_none o) 0) (c.in-None.ensures.value ∙ find_entry key_cmp c.args.key.now c.args.queues.now.entries)

pub returns-in-Some : goal.returns-in-Some
returns-in-Some c =
    c.oldest.ensures ∙ ap (λ o. slice_get (or_none o) 0) (c.in-Some.ensures.value ∙ find_entry key_cmp c.args.key.now c.args.queues.now.entries)
