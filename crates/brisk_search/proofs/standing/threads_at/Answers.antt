use Rattle.std.proofs.Common.{Bool, sym, ap, ◌∙◌, arith}
use Rattle.std.specs.Prelude.{◌&&◌, is_some}
use Rattle.brisk_rules.specs.Heads.{for_of}
use Rattle.brisk_state.specs.Symbolic.{is_active}
use Rattle.brisk_state.specs.declared.thread.Thread.{Thread}
use Rattle.brisk_search.proofs.Threads.{none_left, passing, threads_are}
use Rattle.brisk_search.proofs.standing.threads_at.Goals as goal

pub returns : goal.returns
returns c =
    let ts = c.threads-thread-items.result.now in
    let p : Thread → Bool = λ u. is_active u.mode && is_some (for_of c.args.set u.code) in
    none_left p (passing p ts) c.loop-thread.found.items ts c.loop-thread.thread-index (omega arith) c.loop-thread.invariant
    ∙ ap (passing p) c.threads-thread-items.ensures.threads ∙ sym (threads_are c.args.state.now c.threads-thread-items.ensures.differ c.args.set)
