use Rattle.std.proofs.Common.{◌≡◌, ◌++◌, ◌∷◌, [], refl, ap, ◌∙◌}
use Rattle.std.specs.Prelude.{IsSome}
use Rattle.std.proofs.lemmas.Result.{on_ok_weaker, on_err_weaker}
use Rattle.std.specs.BTreeMap as tree
use Rattle.std.specs.BTreeMap.{is_at, insert_entry}
use Rattle.std.specs.FinMap.{find}
use Rattle.std.specs.Map.{set_value}
use Rattle.brisk_state.specs.Kept.{has_numbers}
use Rattle.brisk_state.specs.Symbolic.{key_cmp, or_none, with_numbers}
use Rattle.brisk_state.proofs.Entries.{find_entry, put_entry, set_again}
use Rattle.brisk_state.proofs.Numbers.{changed_entry, one_more_is_there}
use Rattle.brisk_state.proofs.boxes.fill.Goals as goal

pub returns-in-Some-clause-ok : goal.returns-in-Some-clause-ok
returns-in-Some-clause-ok c =
    let k = c.args.key.now in let es = c.args.queues.now.entries in let n = c.args.number in
    let some : IsSome (tree.get key_cmp c.args.queues.now k) = rw (← c.in-Some.ensures.value) refl in
    let there : c.in-Some.numbers.now ≡ or_none (find key_cmp k es) = ap or_none (c.in-Some.ensures.value ∙ find_entry key_cmp k es) in
    on_ok_weaker c.push.result (λ pushed.
    (c.get_mut.follows.holds c.push.new.self).0
    ∙ changed_entry k c.push.new.self es c.get_mut.ensures.ordered some (ap has_numbers pushed ∙ one_more_is_there c.in-Some.numbers.now n)
    ∙ ap (λ ns. with_numbers k ns es) (pushed ∙ ap (λ ns. ns ++ n ∷ []) there)) c.push.ensures.ok

pub returns-in-Some-clause-err : goal.returns-in-Some-clause-err
returns-in-Some-clause-err c =
    let k = c.args.key.now in let es = c.args.queues.now.entries in
    on_err_weaker c.push.result (λ same.
    (c.get_mut.follows.holds c.push.new.self).0
    ∙ ap (set_value (is_at (key_cmp k)) es) same
    ∙ set_again (is_at (key_cmp k)) c.in-Some.numbers.now es c.in-Some.ensures.value) c.push.ensures.err

pub returns-clause-ok : goal.returns-clause-ok
returns-clause-ok c =
    let k = c.args.key.now in let es = c.args.queues.now.entries in let n = c.args.number in
    let none : [] ≡ or_none (find key_cmp k es) = ap or_none (c.in_default.ensures.value ∙ find_entry key_cmp k es) in
    let one : c.push-2.new.self ≡ n ∷ [] = c.in_ok-push.ensures.ok ∙ ap (λ ns. ns ++ n ∷ []) c.new-numbers.ensures in
    c.in_ok-insert.ensures.entries
    ∙ (λ i. insert_entry key_cmp (ap (λ m. m.entries) c.get_mut.follows.holds-at-none i) k (one i))
    ∙ put_entry key_cmp k (n ∷ []) es
    ∙ ap (λ ns. with_numbers k (ns ++ n ∷ []) es) none
