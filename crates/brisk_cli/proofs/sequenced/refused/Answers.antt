use Rattle.std.proofs.Common.{Option, inl, inr, subst}
use Rattle.std.specs.Prelude.{MatchOption}
use Rattle.brisk_instance.specs.Given.{instance_of}
use Rattle.brisk_async.specs.PlainRuns.{Deadlocks}
use Rattle.brisk_schedule.specs.declared.schedule.Schedule.{Schedule}
use Rattle.brisk_trace.specs.Plain.{IsPlainSchedule}
use Rattle.brisk_cli.specs.Rewriting.{NeverDeadlocks}
use Rattle.brisk_cli.proofs.sequenced.refused.Goals as goal

pub returns-in_ok-answer-in-Some : goal.returns-in_ok-answer-in-Some
returns-in_ok-answer-in-Some c =
    let P = c.args.program.now in let a = c.in_ok-answer-in-Some.ensures in
    let h = subst (λ (o : Option Schedule). MatchOption o (NeverDeadlocks P) (λ s. IsPlainSchedule P 1 s × Deadlocks P (instance_of s.instance) s.events)) c.in-Some.is c.in_ok-schedule.ensures in
    (a.0, inl record { schedule = c.in-Some.schedule; is_plain = h.0; deadlocks = h.1; is_text = a.1 })

pub returns-in_ok-answer-in-None : goal.returns-in_ok-answer-in-None
returns-in_ok-answer-in-None c =
    let P = c.args.program.now in let a = c.in_ok-answer-in-None.ensures in
    let h = subst (λ (o : Option Schedule). MatchOption o (NeverDeadlocks P) (λ s. IsPlainSchedule P 1 s × Deadlocks P (instance_of s.instance) s.events)) c.in-None.is c.in_ok-schedule.ensures in
    (a.0, inr (h, a.1))
