use Rattle.std.proofs.Common.{Some, refl, ap, subst}
use Rattle.std.proofs.lemmas.Result.{IfOk-weaker}
use Rattle.brisk_loops.specs.Walk.{Walked}
use Rattle.brisk_search.specs.declared.drive.Drive.TheVariants.{Top}
use Rattle.brisk_search.specs.declared.limits.Pass.TheVariants.{First}
use Rattle.brisk_search.specs.declared.turn.Driven.{Driven as Came}
use Rattle.brisk_search.specs.Met.{MeetsDrive, drive_at, way}
use Rattle.brisk_search.specs.Searched.{after_first}
use Rattle.brisk_search.proofs.Passing.{answers_reached, answers_spent, goes_on_second}
use Rattle.brisk_search.proofs.searching.search_counted.Goals as goal

pub returns-in-Reached : goal.returns-in-Reached
returns-in-Reached c =
    let w = c.args.begun in let v = c.drive.new.walk in let budget = c.args.budget in
    IfOk-weaker c.finishes.result _ _
    (λ o a. answers_reached (Some budget) First w c.requires v (after_first w.program) (λ r l. refl) c.in-Reached.steps o (subst (λ (d : Came). MeetsDrive (Some budget) (drive_at (Some budget) First 256 Top w) d w v) c.in-Reached.is c.in_ok-steps.ensures) a) c.finishes.ensures

pub returns-in-Spent : goal.returns-in-Spent
returns-in-Spent c =
    let w = c.args.begun in let v = c.drive.new.walk in let budget = c.args.budget in
    answers_spent (Some budget) First w c.requires v (after_first w.program) refl (subst (λ (d : Came). MeetsDrive (Some budget) (drive_at (Some budget) First 256 Top w) d w v) c.in-Spent.is c.in_ok-steps.ensures)

pub returns-in_ok-rewind-in-Stuck : goal.returns-in_ok-rewind-in-Stuck
returns-in_ok-rewind-in-Stuck c =
    let w = c.args.begun in let v = c.drive.new.walk in let b = c.rewind.new.self in let budget = c.args.budget in
    let m = subst (λ (d : Came). MeetsDrive (Some budget) (drive_at (Some budget) First 256 Top w) d w v) c.in-Stuck.is c.in_ok-steps.ensures in
    IfOk-weaker c.second_pass.result _ _
    (λ o a. goes_on_second budget w v b c.requires c.in-Stuck.steps c.in-Stuck.tries o m (ap (λ (z : Walked). z.program) c.in_ok-rewind-in-Stuck.ensures.ok) (ap (λ (z : Walked). z.applied) c.in_ok-rewind-in-Stuck.ensures.ok) a)
    (c.second_pass.ensures (way c.in-Stuck.steps m.0 v.state) refl)
