use Rattle.std.proofs.Common.{◌≡◌, ◌<◌, ◌≤◌, drop, length, refl, ap, sym, ◌∙◌}
use Rattle.std.specs.Prelude.{IsSome, nat_lt}
use Rattle.std.proofs.lemmas.Bool.{ltb-false, ltb-true}
use Rattle.std.specs.BTreeMap as tree
use Rattle.brisk_state.specs.Kept.{has_numbers}
use Rattle.brisk_state.specs.Symbolic.{key_cmp, numbers_at, or_none, with_numbers}
use Rattle.brisk_state.proofs.Entries.{find_entry}
use Rattle.brisk_state.proofs.Numbers.{changed_entry, none_left, one_less_is_there, taken_out}
use Rattle.brisk_state.proofs.boxes.empty.Goals as goal

pub returns-then-not-has_more-clause-emptied : goal.returns-then-not-has_more-clause-emptied
returns-then-not-has_more-clause-emptied c =
    let k = c.args.key.now in let es = c.args.queues.now.entries in
    let few : length (numbers_at es k) ≤ 1 = ltb-false 1 (length (numbers_at es k)) (sym c.has_more.ensures.more ∙ c.if-not-has_more.true) in
    c.remove.ensures.entries
    ∙ taken_out k es c.has_more.ensures.ordered
    ∙ ap (λ ns. with_numbers k ns es) (sym (none_left (numbers_at es k) few))

pub returns-in-Some-clause-emptied : goal.returns-in-Some-clause-emptied
returns-in-Some-clause-emptied c =
    let k = c.args.key.now in let es = c.args.queues.now.entries in
    let some : IsSome (tree.get key_cmp c.args.queues.now k) = rw (← c.in-Some.ensures.value) refl in
    let there : c.in-Some.numbers.now ≡ numbers_at es k = ap or_none (c.in-Some.ensures.value ∙ find_entry key_cmp k es) in
    let many : 1 < length c.in-Some.numbers.now = ltb-true 1 (length c.in-Some.numbers.now) (ap (λ ns. nat_lt 1 (length ns)) there ∙ sym c.has_more.ensures.more ∙ c.if-not-has_more.false) in
    (c.get_mut.follows.holds c.pop.new.self).0
    ∙ changed_entry k c.pop.new.self es c.get_mut.ensures.ordered some (ap has_numbers c.pop.ensures ∙ one_less_is_there c.in-Some.numbers.now many)
    ∙ ap (λ ns. with_numbers k ns es) (c.pop.ensures ∙ ap (drop 1) there)
