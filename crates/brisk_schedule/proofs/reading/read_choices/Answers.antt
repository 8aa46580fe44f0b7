use Rattle.std.proofs.Common.{List, ℕ, ap, subst, sym, ◌∙◌}
use Rattle.brisk_seq.proofs.Outcomes.{seq_apart}
use Rattle.brisk_schedule.specs.declared.format.Format.TheVariants.{Choices as AsChoices}
use Rattle.brisk_schedule.specs.declared.schedule.Choices.{Choices}
use Rattle.brisk_schedule.specs.Reading.{Fails}
use Rattle.brisk_schedule.specs.Taking.{Left}
use Rattle.brisk_schedule.proofs.Ends.{choices_lack, choices_whole, turns_lack}
use Rattle.brisk_schedule.proofs.Takes.{passed_on}
use Rattle.brisk_schedule.proofs.reading.read_choices.Goals as goal

pub returns-in_err-turns-clause-err : goal.returns-in_err-turns-clause-err
returns-in_err-turns-clause-err c =
    let Q = c.args.program.now in
    passed_on (Fails AsChoices Q.enums Q.roles c.args.text.now) c.from_residual-in_err-turns.result c.in_err-turns.field-0.0 c.from_residual-in_err-turns.ensures.1
    (subst (λ (b : List ℕ). Fails AsChoices Q.enums Q.roles b c.in_err-turns.field-0.0) (ap (λ (s : Left). s.rest) c.new-lines.ensures)
    (turns_lack Q.enums Q.roles c.new-lines.result c.read_instance.new.lines c.in_ok-instance.instance (ap (λ (s : Left). s.number) c.new-lines.ensures) c.in_err-turns.field-0.0 (ap (λ (s : Left). s.format) c.new-lines.ensures) c.in_ok-instance.ensures.ok c.in_err-turns.ensures.err))

pub returns-in_err-picks-clause-err : goal.returns-in_err-picks-clause-err
returns-in_err-picks-clause-err c =
    let Q = c.args.program.now in
    passed_on (Fails AsChoices Q.enums Q.roles c.args.text.now) c.from_residual-in_err-picks.result c.in_err-picks.field-0.0 c.from_residual-in_err-picks.ensures.1
    (subst (λ (b : List ℕ). Fails AsChoices Q.enums Q.roles b c.in_err-picks.field-0.0) (ap (λ (s : Left). s.rest) c.new-lines.ensures)
    (choices_lack Q.enums Q.roles c.new-lines.result c.read_instance.new.lines c.in_ok-instance.instance (ap (λ (s : Left). s.number) c.new-lines.ensures) c.in_ok-turns.turns c.read_turns.new.lines c.in_err-picks.field-0.0 (ap (λ (s : Left). s.format) c.new-lines.ensures) c.in_ok-instance.ensures.ok c.in_ok-turns.ensures.ok (c.in_err-picks.ensures.err c.in_ok-instance.instance.sizes)))

pub returns-clause-ok : goal.returns-clause-ok
returns-clause-ok c =
    let Q = c.args.program.now in
    let t : Choices = record { instance = c.in_ok-instance.instance; turns = c.in_ok-turns.turns; picks = c.in_ok-picks.picks } in
    (choices_whole Q.enums Q.roles c.new-lines.result c.read_instance.new.lines c.read_turns.new.lines t (seq_apart Q c.requires) (ap (λ (x : Left). x.format) c.new-lines.ensures) c.in_ok-instance.ensures.ok c.in_ok-turns.ensures.ok c.in_ok-picks.ensures.ok).0

pub returns-clause-text : goal.returns-clause-text
returns-clause-text c =
    let Q = c.args.program.now in
    let t : Choices = record { instance = c.in_ok-instance.instance; turns = c.in_ok-turns.turns; picks = c.in_ok-picks.picks } in
    sym (ap (λ (x : Left). x.rest) c.new-lines.ensures)
    ∙ (choices_whole Q.enums Q.roles c.new-lines.result c.read_instance.new.lines c.read_turns.new.lines t (seq_apart Q c.requires) (ap (λ (x : Left). x.format) c.new-lines.ensures) c.in_ok-instance.ensures.ok c.in_ok-turns.ensures.ok c.in_ok-picks.ensures.ok).1
