use Rattle.std.proofs.Common.{◌≡◌, ◌++◌, length, map, sym, ap, ◌∙◌}
use Rattle.std.specs.Prelude.{filter}
use Rattle.std.specs.List.{list_any}
use Rattle.std.specs.Vec.{vec_len}
use Rattle.std.proofs.lemmas.Bool.{eqb-false}
use Rattle.std.proofs.lemmas.Result.{IfOk-weaker}
use Rattle.brisk_state.specs.Symbolic.{Symbolic}
use Rattle.brisk_rules.specs.Rules.{Owner}
use Rattle.brisk_rules.specs.Standing.{has_code, is_candidate}
use Rattle.brisk_search.specs.Drives.{in_turn, others, premise_of}
use Rattle.brisk_search.proofs.Candidates.{all_in_turn, owners_pass, some_in_turn}
use Rattle.brisk_search.proofs.drive.in_turn_inside.Goals as goal

pub returns-then-is_at_work : goal.returns-then-is_at_work
returns-then-is_at_work c = λ r (o, at, inside, closes, starts, stands).
    let S = c.args.walk.now.state in let names = c.in_ok-owners.owners.items in
    let names_so = c.in_ok-owners.ensures ∙ ap (map (λ (q : Owner). q.name)) (c.deref.ensures.value ∙ closes.0) in
    let work = ap (list_any (has_code S)) (ap (map (λ (q : Owner). q.name)) (sym closes.0)) ∙ sym (owners_pass (has_code S) c.args.premise.now.closing.owners.items) ∙ ap (λ (T : Symbolic). list_any (λ q. has_code T q.name) c.args.premise.now.closing.owners.items) (sym c.state-2.ensures) ∙ sym c.is_at_work.ensures ∙ c.if-is_at_work.true in
    IfOk-weaker c.with_others-then-is_at_work.result _ (λ v. v.items ≡ in_turn (premise_of r) S)
    (λ v e. e ∙ (λ i. c.deref-then-is_at_work.ensures.value i ++ others (c.deref-then-is_at_work.ensures.value i) (c.state-then-is_at_work.ensures i)) ∙ all_in_turn r S names names_so work) c.with_others-then-is_at_work.ensures

pub returns : goal.returns
returns c = λ r there.
    let (o, at, inside, closes, starts, stands) = there in
    let S = c.args.walk.now.state in let names = c.in_ok-owners.owners.items in
    let names_so = c.in_ok-owners.ensures ∙ ap (map (λ (q : Owner). q.name)) (c.deref.ensures.value ∙ closes.0) in
    let work = ap (list_any (has_code S)) (ap (map (λ (q : Owner). q.name)) (sym closes.0)) ∙ sym (owners_pass (has_code S) c.args.premise.now.closing.owners.items) ∙ ap (λ (T : Symbolic). list_any (λ q. has_code T q.name) c.args.premise.now.closing.owners.items) (sym c.state-2.ensures) ∙ sym c.is_at_work.ensures ∙ c.if-is_at_work.false in
    let some : length r.owners ≡ 0 → ⊥ = λ none. eqb-false (vec_len c.args.premise.now.closing.owners) 0 (sym c.is_empty.ensures ∙ c.if-is_empty.false) (c.args.premise.now.closing.owners.ok.0 ∙ ap length closes.0 ∙ none) in
    IfOk-weaker c.with_candidates.result _ (λ v. v.items ≡ in_turn (premise_of r) S)
    (λ v e. e ∙ (λ i. c.deref-else-is_at_work.ensures.value i ++ filter (is_candidate r S) (others (c.deref-else-is_at_work.ensures.value i) S)) ∙ some_in_turn r S names names_so some work) (c.with_candidates.ensures r there)
