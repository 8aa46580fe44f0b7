use Rattle.std.proofs.Common.{◌∷◌, List, ℕ, ap, subst, sym, ◌∙◌}
use Rattle.brisk_instance.proofs.Apart.{program_apart}
use Rattle.brisk_schedule.specs.declared.format.Format.TheVariants.{Schedule as AsSchedule}
use Rattle.brisk_schedule.specs.declared.schedule.Schedule.{Schedule}
use Rattle.brisk_schedule.specs.Reading.{Fails, head_line}
use Rattle.brisk_schedule.specs.Taking.{Left}
use Rattle.brisk_schedule.specs.Texts.{instance_lines}
use Rattle.brisk_schedule.proofs.Ends.{events_lack, schedule_whole}
use Rattle.brisk_schedule.proofs.Takes.{passed_on, takes_format}
use Rattle.brisk_schedule.proofs.reading.read.Goals as goal

pub read_events-requires : goal.read_events-requires
read_events-requires c =
    let old = c.new-lines.result in
    takes_format old (head_line old.format ∷ instance_lines c.in_ok-instance.instance) c.read_instance.new.lines c.in_ok-instance.ensures.ok.takes ∙ ap (λ (s : Left). s.format) c.new-lines.ensures

pub returns-in_err-events-clause-err : goal.returns-in_err-events-clause-err
returns-in_err-events-clause-err c =
    let P = c.args.program.now in
    passed_on (Fails AsSchedule P.enums P.roles c.args.text.now) c.from_residual-in_err-events.result c.in_err-events.field-0.0 c.from_residual-in_err-events.ensures.1
    (subst (λ (b : List ℕ). Fails AsSchedule P.enums P.roles b c.in_err-events.field-0.0) (ap (λ (s : Left). s.rest) c.new-lines.ensures)
    (events_lack P.enums P.roles c.new-lines.result c.read_instance.new.lines c.in_ok-instance.instance (ap (λ (s : Left). s.number) c.new-lines.ensures) c.in_err-events.field-0.0 (ap (λ (s : Left). s.format) c.new-lines.ensures) c.in_ok-instance.ensures.ok c.in_err-events.ensures.err))

pub returns-clause-ok : goal.returns-clause-ok
returns-clause-ok c =
    let P = c.args.program.now in
    let s : Schedule = record { instance = c.in_ok-instance.instance; events = c.in_ok-events.events } in
    (schedule_whole P.enums P.roles c.new-lines.result c.read_instance.new.lines s (program_apart P c.requires) (ap (λ (x : Left). x.format) c.new-lines.ensures) c.in_ok-instance.ensures.ok c.in_ok-events.ensures.ok c.in_ok-events.ensures.told).0

pub returns-clause-text : goal.returns-clause-text
returns-clause-text c =
    let P = c.args.program.now in
    let s : Schedule = record { instance = c.in_ok-instance.instance; events = c.in_ok-events.events } in
    sym (ap (λ (x : Left). x.rest) c.new-lines.ensures)
    ∙ (schedule_whole P.enums P.roles c.new-lines.result c.read_instance.new.lines s (program_apart P c.requires) (ap (λ (x : Left). x.format) c.new-lines.ensures) c.in_ok-instance.ensures.ok c.in_ok-events.ensures.ok c.in_ok-events.ensures.told).1
