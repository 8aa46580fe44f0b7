use Rattle.std.proofs.Common.{◌≡◌, ◌++◌, ◌∷◌, [], Bool, true, ◌+◌, drop, sym, ap, ◌∙◌, subst, arith}
use Rattle.std.specs.Option.{option_copied}
use Rattle.std.specs.Prelude.{◌&&◌, not, option_map, if◌then◌else◌}
use Rattle.std.proofs.lemmas.Option.{same_Some}
use Rattle.brisk_syntax.specs.Typing.{are_distinct, is_among}
use Rattle.brisk_state.specs.declared.thread.Thread.{Thread}
use Rattle.brisk_state.specs.Places.{names}
use Rattle.brisk_state.specs.Symbolic.{Symbolic, is_active}
use Rattle.brisk_loops.specs.Walk.{Open}
use Rattle.brisk_rules.specs.Standing.{is_candidate, is_not_quiet}
use Rattle.brisk_search.proofs.Premises.{premise_is}
use Rattle.brisk_search.proofs.Threads.{candidates_are, next_of, none_left, one_more, passing}
use Rattle.brisk_search.proofs.drive.with_candidates.Goals as goal
use Rattle.brisk_search.proofs.drive.with_candidates.Goals.{then-comes+in_ok-push, else-comes}

pub loop-thread-preserved : goal.loop-thread-preserved
loop-thread-preserved c = λ r there.
    let ts = c.threads-thread-items.result.now in let i = c.loop-thread.thread-index in let u = c.thread-item.result in
    let p : Thread → Bool = λ v. is_active v.mode && not (is_among c.args.owners.now v.name) && is_candidate r c.args.walk.now.state v.name in
    let before = same_Some there.0.state c.in-Some.before.now (ap (option_map (λ (o : Open). o.state)) (sym there.1) ∙ sym c.before-2.ensures ∙ ap option_copied c.in-Some.is) in
    one_more p c.loop-thread.names.items c.if-comes.names.items u (drop (i + 1) ts) c.comes.result (c.comes.ensures r there (c.is_not_quiet-may_send.ensures ∙ ap is_not_quiet (c.in_ok-fault.ensures r (premise_is c.args.premise.now c.args.walk.now.entered r there) there.3)) (there.0, there.1, before))
    (elim c.if-comes.branch [
      | then-comes+in_ok-push w ↦ ap (λ v. v.items) w.names-is ∙ w.in_ok-push.ensures.items ∙ ap (λ b. if b then c.loop-thread.names.items ++ u.name ∷ [] else c.loop-thread.names.items) (sym w.if-comes.true)
      | else-comes w ↦ ap (λ v. v.items) w.names-is ∙ ap (λ b. if b then c.loop-thread.names.items ++ u.name ∷ [] else c.loop-thread.names.items) (sym w.if-comes.false)
    ])
    ∙ sym (next_of (λ us. c.loop-thread.names.items ++ passing p us) ts i u c.loop-thread-test.true c.thread-item.is) ∙ c.loop-thread.invariant r there

pub returns : goal.returns
returns c = λ r there.
    let ts = c.threads-thread-items.result.now in let S = c.args.walk.now.state in let owners = c.args.owners.now in
    let p : Thread → Bool = λ u. is_active u.mode && not (is_among owners u.name) && is_candidate r S u.name in
    none_left p (owners ++ passing p ts) c.loop-thread.names.items ts c.loop-thread.thread-index (omega arith) (c.loop-thread.invariant r there)
    ∙ ap (λ us. owners ++ passing p us) (c.threads-thread-items.ensures.threads ∙ ap (λ (T : Symbolic). T.threads) c.state.ensures) ∙ ap (λ ns. owners ++ ns) (sym (candidates_are S (subst (λ (T : Symbolic). are_distinct (names T.threads) ≡ true) c.state.ensures c.threads-thread-items.ensures.differ) owners (is_candidate r S)))
