use Rattle.std.proofs.Common.{None, refl, ap, subst}
use Rattle.std.proofs.lemmas.Result.{IfOk-weaker}
use Rattle.brisk_search.specs.declared.drive.Drive.TheVariants.{Top}
use Rattle.brisk_search.specs.declared.limits.Pass.TheVariants.{First}
use Rattle.brisk_search.specs.declared.turn.Driven.{Driven as Came}
use Rattle.brisk_search.specs.Met.{MeetsDrive, drive_at}
use Rattle.brisk_search.specs.Searched.{answer}
use Rattle.brisk_search.proofs.Passing.{answers_reached, stuck_so}
use Rattle.brisk_search.proofs.searching.search_uncounted.Goals as goal

pub returns-in-Reached : goal.returns-in-Reached
returns-in-Reached c =
    let w = c.args.begun in let v = c.drive.new.walk in
    IfOk-weaker c.finishes.result _ _
    (λ o a. answers_reached None First w c.requires v (λ d. d) (λ r l. refl) c.in-Reached.steps o (subst (λ (d : Came). MeetsDrive None (drive_at None First 256 Top w) d w v) c.in-Reached.is c.in_ok-steps.ensures) a) c.finishes.ensures

pub returns-in-Stuck : goal.returns-in-Stuck
returns-in-Stuck c =
    let w = c.args.begun in let v = c.drive.new.walk in
    ap (answer w.program) (stuck_so None First w c.requires v c.in-Stuck.steps c.in-Stuck.tries (subst (λ (d : Came). MeetsDrive None (drive_at None First 256 Top w) d w v) c.in-Stuck.is c.in_ok-steps.ensures))
