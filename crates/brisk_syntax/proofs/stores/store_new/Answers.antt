use Rattle.std.proofs.Common.{◌+◌, drop, arith, ap, sym, ◌∙◌}
use Rattle.brisk_values.specs.Places.{value_in}
use Rattle.brisk_syntax.specs.Stores.{stored}
use Rattle.brisk_syntax.proofs.Storing.{stored_past, stored_step}
use Rattle.brisk_syntax.proofs.stores.store_new.Goals as goal

pub loop-i-preserved : goal.loop-i-preserved
loop-i-preserved c =
    let p = c.args.process.now in let xs = c.as_slice-xs.result.now in let vs = c.as_slice-vs.result.now in let i = c.loop-i.i in
    ap (λ m. stored (value_in m) p (drop (i + 1) xs) (drop (i + 1) vs)) c.in_ok-set.ensures.ok
    ∙ stored_step c.loop-i.next p xs vs i c.index-xs-i.result c.index-vs-i.result (omega arith) (omega arith) c.index-xs-i.is c.index-vs-i.is
    ∙ c.loop-i.invariant

pub returns-clause-ok : goal.returns-clause-ok
returns-clause-ok c =
    let p = c.args.process.now in let xs = c.as_slice-xs.result.now in let vs = c.as_slice-vs.result.now in let i = c.loop-i.i in
    sym (stored_past (value_in c.loop-i.next) p xs vs i (omega arith))
    ∙ c.loop-i.invariant
    ∙ ap (λ m. stored (value_in m) p xs vs) c.in_ok-next.ensures
    ∙ (λ j. stored (value_in c.args.store.now) p ((c.as_slice-xs.ensures.value ∙ c.vars.view_is) j) ((c.as_slice-vs.ensures.value ∙ c.values.view_is) j))
