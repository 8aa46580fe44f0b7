use Rattle.std.proofs.Common.{◌+◌, List, ◌∷◌, drop, map, sym, ap, subst, ◌∙◌, arith}
use Rattle.std.proofs.lemmas.List.{drop_more}
use Rattle.brisk_values.specs.declared.value.Pid.{Pid}
use Rattle.brisk_values.specs.Names.{Name}
use Rattle.brisk_seq.specs.Running.{focus_on}
use Rattle.brisk_rules.specs.Unfolding.{all_move, moves}
use Rattle.brisk_unfold.specs.Going.{Marks, shown}
use Rattle.brisk_unfold.proofs.unfolder.Unfolder.step_each.Goals as goal

pub loop-owner-preserved : goal.loop-owner-preserved
loop-owner-preserved c =
    let who = focus_on c.args.focus.now in let ns = c.deref-owner-items.result.now in let i = c.loop-owner.owner-index in let n = c.owner-item.result in
    let m : Marks c.loop-owner.progress c.step.new.self (moves (who n)) = subst (λ (p : Pid). Marks c.loop-owner.progress c.step.new.self (moves p)) c.process.ensures c.in_ok-step.ensures in
    record {
      run = m.run ∙ c.loop-owner.invariant.run;
      differs = λ r.
          ap (all_move (map who (drop (i + 1) ns))) (m.differs r)
          ∙ ap (λ (xs : List Name). all_move (map who xs) (shown c.loop-owner.progress r)) (sym (drop_more ns i n (omega arith) ∙ ap (λ (x : Name). x ∷ drop (i + 1) ns) (sym c.owner-item.is)))
          ∙ c.loop-owner.invariant.differs r;
    }
