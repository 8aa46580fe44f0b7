use Rattle.std.proofs.Common.{List, ◌++◌, map, sym, ap, ◌∙◌, arith}
use Rattle.std.proofs.lemmas.List.{append-nil, at_drop_all}
use Rattle.std.specs.Prelude.{◌&&◌, not}
use Rattle.brisk_syntax.specs.Syntax.{done}
use Rattle.brisk_state.specs.Same.{same_code}
use Rattle.brisk_state.specs.Symbolic.{is_active}
use Rattle.brisk_search.specs.declared.drive.Comer.{Comer}
use Rattle.brisk_search.specs.declared.drive.Comer.TheVariants.{Set}
use Rattle.brisk_state.specs.declared.thread.Thread.{Thread}
use Rattle.brisk_search.proofs.Threads.{passing, resting_are}
use Rattle.brisk_search.proofs.drive.add_sets.Goals as goal

pub returns : goal.returns
returns c =
    let ts = c.threads-thread-items.result.now in let S = c.args.state.now in
    let sets : List Thread → List Comer = λ us. map (λ s. Set s) (passing (λ u. not (is_active u.mode) && not (same_code u.code done)) us) in
    sym (append-nil c.loop-thread.comers.items) ∙ sym (at_drop_all (λ us. c.loop-thread.comers.items ++ sets us) ts c.loop-thread.thread-index (omega arith)) ∙ c.loop-thread.invariant
    ∙ ap (λ us. c.args.comers.now.items ++ sets us) c.threads-thread-items.ensures.threads
    ∙ ap (λ ns. c.args.comers.now.items ++ map (λ s. Set s) ns) (sym (resting_are S c.threads-thread-items.ensures.differ))
