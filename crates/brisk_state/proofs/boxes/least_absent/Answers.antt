use Rattle.std.proofs.Common.{◌≡◌, ◌≤◌, ◌∷◌, arith, below_more, true, ap, subst, ◌∙◌}
use Rattle.std.specs.BTreeMap.{is_at}
use Rattle.std.specs.BTreeSet.{contains}
use Rattle.std.specs.List.{list_any}
use Rattle.std.specs.List.Sorted.{IsStrictlySortedBy}
use Rattle.std.specs.Ordering.{nat_cmp}
use Rattle.std.proofs.lemmas.Map.Keys.{sorted_tail}
use Rattle.brisk_state.proofs.Absent.{first_ahead, later_ahead, none_ahead}
use Rattle.brisk_state.proofs.boxes.least_absent.Goals as goal

pub returns-then-number-least : goal.returns-then-number-least
returns-then-number-least c =
    let i = c.loop-number.invariant in let n = c.loop-number.least in let x = c.in-Some.number.now in let ks = c.next.new.self in
    let s : IsStrictlySortedBy nat_cmp (x ∷ ks) = subst (IsStrictlySortedBy nat_cmp) c.in-Some.ensures.steps i.sorted in (
      i.positive,
      i.bounded,
      i.ahead n (omega arith) ∙ ap (list_any (is_at (nat_cmp n))) c.in-Some.ensures.steps ∙ none_ahead n x ks (omega arith) s,
      i.behind,
    )

pub loop-number-preserved-then-number-least-2 : goal.loop-number-preserved-then-number-least-2
loop-number-preserved-then-number-least-2 c =
    let i = c.loop-number.invariant in let n = c.loop-number.least in let x = c.in-Some.number.now in let ks = c.next.new.self in
    record {
      positive = omega arith;
      bounded = omega arith;
      sorted = sorted_tail nat_cmp x ks (subst (IsStrictlySortedBy nat_cmp) c.in-Some.ensures.steps i.sorted);
      ahead = λ q h. i.ahead q (omega arith) ∙ ap (list_any (is_at (nat_cmp q))) c.in-Some.ensures.steps ∙ later_ahead q x ks (omega arith);
      behind = λ q p h. below_more (λ k. 1 ≤ k → contains nat_cmp c.args.used.now k ≡ true) n (λ k l p. i.behind k p l)
          (λ p. i.ahead n (omega arith) ∙ ap (list_any (is_at (nat_cmp n))) c.in-Some.ensures.steps ∙ first_ahead n x ks c.if-number-least-2.true) q h p;
    }

pub loop-number-preserved : goal.loop-number-preserved
loop-number-preserved c =
    let i = c.loop-number.invariant in let n = c.loop-number.least in let x = c.in-Some.number.now in let ks = c.next.new.self in
    record {
      positive = i.positive;
      bounded = i.bounded;
      sorted = sorted_tail nat_cmp x ks (subst (IsStrictlySortedBy nat_cmp) c.in-Some.ensures.steps i.sorted);
      ahead = λ q h. i.ahead q h ∙ ap (list_any (is_at (nat_cmp q))) c.in-Some.ensures.steps ∙ later_ahead q x ks (omega arith);
      behind = i.behind;
    }
