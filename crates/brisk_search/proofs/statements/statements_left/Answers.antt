use Rattle.std.proofs.Common.{◌+◌, drop, ap, arith}
use Rattle.std.specs.Prelude.{fold, sum_by}
use Rattle.std.proofs.lemmas.List.{at_drop_all}
use Rattle.brisk_syntax.specs.Counts.{statements}
use Rattle.brisk_state.specs.declared.thread.Thread.{Thread}
use Rattle.brisk_search.proofs.Threads.{fold_less, next_of, statements_are}
use Rattle.brisk_search.proofs.statements.statements_left.Goals as goal

pub loop-thread-preserved : goal.loop-thread-preserved
loop-thread-preserved c =
    let ts = c.threads-thread-items.result.now in let i = c.loop-thread.thread-index in let u = c.thread-item.result in
    let step = next_of (fold (λ n (v : Thread). n + statements v.code) c.loop-thread.count) ts i u c.loop-thread-test.true c.thread-item.is in
    let less = fold_less (drop (i + 1) ts) c.saturating_add-count.result (c.loop-thread.count + statements u.code) (omega (arith, c.saturating_add-count.ensures, c.in_code.ensures)) in
    omega (arith, less, step, c.loop-thread.invariant)

pub returns : goal.returns
returns c =
    let ts = c.threads-thread-items.result.now in
    let none = at_drop_all (fold (λ n (v : Thread). n + statements v.code) c.loop-thread.count) ts c.loop-thread.thread-index (omega arith) in
    let all = statements_are c.args.state.now c.threads-thread-items.ensures.differ in
    let same = ap (sum_by (λ (u : Thread). statements u.code)) c.threads-thread-items.ensures.threads in
    omega (arith, none, all, same, c.loop-thread.invariant)
