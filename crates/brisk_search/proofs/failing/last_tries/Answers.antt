use Rattle.std.proofs.Common.{◌≡◌, true, sym, ap, ◌∙◌, arith}
use Rattle.std.proofs.lemmas.List.{at_drop_all}
use Rattle.brisk_state.specs.Places.{names}
use Rattle.brisk_syntax.specs.Typing.{are_distinct}
use Rattle.brisk_search.specs.Passes.{last_tries}
use Rattle.brisk_search.specs.Views.{failures_of}
use Rattle.brisk_search.proofs.Latest.{ahead, ahead_none, kept_later, pushed, told_here}
use Rattle.brisk_search.proofs.failing.last_tries.Goals as goal
use Rattle.brisk_search.proofs.failing.last_tries.Goals.{in-Some+in_ok-push, in_default}

pub loop-thread-preserved : goal.loop-thread-preserved
loop-thread-preserved c =
    let ts = c.threads-thread-items.result.now in let k = c.loop-thread.thread-index in let t = c.thread-item.result in
    let all = c.args.failures.items in let left = c.loop-thread.left.items in let more = c.take_last.new.failures.items in let xs = c.loop-thread.items.items in
    let distinct : are_distinct (names ts) ≡ true = ap (λ us. are_distinct (names us)) c.threads-thread-items.ensures.threads ∙ c.threads-thread-items.ensures.differ in (
      kept_later all left ts k t distinct c.loop-thread-test.true c.thread-item.is more c.loop-thread.invariant.0 c.take_last.ensures.1,
      told_here all left ts k t distinct c.loop-thread-test.true c.thread-item.is xs c.match-take_last.items.items c.take_last.result c.loop-thread.invariant.0 c.take_last.ensures.0
          (elim c.match-take_last.branch [
            | in-Some+in_ok-push w ↦ ap (λ v. v.items) w.items-is ∙ w.in_ok-push.ensures.items ∙ ap (λ o. pushed o xs) (sym w.in-Some.is)
            | in_default w ↦ ap (λ v. v.items) w.items-is ∙ ap (λ o. pushed o xs) (sym w.in_default.is)
          ]) ∙ c.loop-thread.invariant.1,
    )

pub returns : goal.returns
returns c =
    let ts = c.threads-thread-items.result.now in let all = c.args.failures.items in
    sym (ahead_none c.loop-thread.items.items) ∙ sym (at_drop_all (λ us. ahead c.loop-thread.items.items (last_tries (failures_of all) us)) ts c.loop-thread.thread-index (omega arith)) ∙ c.loop-thread.invariant.1 ∙ ap (last_tries (failures_of all)) c.threads-thread-items.ensures.threads
