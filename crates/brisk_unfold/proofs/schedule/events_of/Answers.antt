use Rattle.brisk_seq.specs.Answers.{Causes}
use Rattle.brisk_seq.proofs.Evaluating.{if_err, if_ok}
use Rattle.brisk_seq.proofs.Outcomes.{seq_apart}
use Rattle.brisk_unfold.specs.Answers.{IsSchedule}
use Rattle.brisk_unfold.proofs.Canonical.{is_cause, is_schedule, typed_too}
use Rattle.brisk_unfold.proofs.schedule.events_of.Goals as goal

pub start_store-requires : goal.start_store-requires
start_store-requires c = seq_apart c.args.sequential.now (typed_too c.args.program.now c.args.derivation.now c.args.sequential.now c.args.instance.now c.requires.typed c.requires.valid)

pub returns-clause-ok : goal.returns-clause-ok
returns-clause-ok c =
    let P = c.args.program.now in let D = c.args.derivation.now in let Q = c.args.sequential.now in let g = c.args.instance.now in
    if_ok c.events_from.result _ (IsSchedule P D g c.args.choices.now c.args.turns Q)
    (is_schedule P D Q g c.requires.typed c.requires.valid c.args.choices.now c.args.turns c.in_ok-judge.ensures.ok c.in_ok-store.store c.in_ok-store.ensures) c.events_from.ensures.ok

pub returns-clause-err : goal.returns-clause-err
returns-clause-err c =
    let P = c.args.program.now in let D = c.args.derivation.now in let Q = c.args.sequential.now in let g = c.args.instance.now in
    if_err c.events_from.result _ (Causes Q g c.args.choices.now c.args.turns)
    (is_cause P D Q g c.requires.typed c.requires.valid c.args.choices.now c.args.turns c.in_ok-judge.ensures.ok c.in_ok-store.store c.in_ok-store.ensures) c.events_from.ensures.err
