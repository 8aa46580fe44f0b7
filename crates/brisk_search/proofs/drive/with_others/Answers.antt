use Rattle.std.proofs.Common.{Bool, ◌++◌, sym, ap, ◌∙◌, arith}
use Rattle.std.specs.Prelude.{◌&&◌, not}
use Rattle.brisk_syntax.specs.Typing.{is_among}
use Rattle.brisk_state.specs.Symbolic.{is_active}
use Rattle.brisk_state.specs.declared.thread.Thread.{Thread}
use Rattle.brisk_search.proofs.Threads.{none_left, others_are, passing}
use Rattle.brisk_search.proofs.drive.with_others.Goals as goal

pub returns : goal.returns
returns c =
    let ts = c.threads-thread-items.result.now in let these = c.args.these.now in
    let p : Thread → Bool = λ u. is_active u.mode && not (is_among these u.name) in
    none_left p (these ++ passing p ts) c.loop-thread.names.items ts c.loop-thread.thread-index (omega arith) c.loop-thread.invariant
    ∙ ap (λ us. these ++ passing p us) c.threads-thread-items.ensures.threads ∙ ap (λ ns. these ++ ns) (sym (others_are c.args.state.now c.threads-thread-items.ensures.differ these))
