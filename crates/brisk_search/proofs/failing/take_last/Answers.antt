use Rattle.std.proofs.Common.{◌≡◌, ◌++◌, true, suc, take, drop, ◌-◌, ◌+◌, ◌<◌, length, refl, sym, ap, ◌∙◌, arith}
use Rattle.std.proofs.lemmas.List.{at_drop_all}
use Rattle.brisk_values.specs.Names.{same_name}
use Rattle.brisk_values.proofs.Changes.{exact_name, name_laws}
use Rattle.brisk_search.specs.Passes.{last_try}
use Rattle.brisk_search.specs.Views.{failures_of}
use Rattle.brisk_search.specs.declared.turn.Failed.{Failed}
use Rattle.brisk_search.proofs.Latest.{any_default, last_elsewhere, last_found, last_in, last_is, not_there}
use Rattle.brisk_search.proofs.failing.take_last.Goals as goal

pub loop-place-init : goal.loop-place-init
loop-place-init c = (refl, at_drop_all (λ fs. last_in fs c.args.name) c.args.failures.now.items c.len-place.result (omega (arith, c.len-place.ensures, c.args.failures.now.ok.0)))

pub loop-place-preserved : goal.loop-place-preserved
loop-place-preserved c =
    let fs = c.loop-place.failures.items in let k = c.loop-place.place - 1 in
    let next : k + 1 ≡ c.loop-place.place = omega (arith, c.loop-place-test.true) in
    let same = ap length c.loop-place.invariant.0 in
    let within : k < length fs = omega (arith, same, next, c.loop-place.auto.place, c.len-place.ensures, c.args.failures.now.ok.0) in
    (c.loop-place.invariant.0, not_there fs k c.index.result.now c.args.name within c.index.ensures (name_laws.symm c.args.name c.index.result.now.at ∙ sym c.eq.ensures ∙ c.if-eq.false) (ap (λ n. last_in (drop n fs) c.args.name) next ∙ c.loop-place.invariant.1))

pub returns-then-eq : goal.returns-then-eq
returns-then-eq c =
    let fs = c.loop-place.failures.items in let k = c.loop-place.place - 1 in let f = c.remove.result in let t = c.args.name in
    let next : k + 1 ≡ c.loop-place.place = omega (arith, c.loop-place-test.true) in
    let length_same = ap length c.loop-place.invariant.0 in
    let within : k < length fs = omega (arith, length_same, next, c.loop-place.auto.place, c.len-place.ensures, c.args.failures.now.ok.0) in
    let same = c.index.ensures ∙ any_default fs k c.index.result.now f within ∙ sym c.remove.ensures.value in
    let named : same_name f.at t ≡ true = ap (λ (g : Failed). same_name g.at t) (sym same) ∙ sym c.eq.ensures ∙ c.if-eq.true in
    let behind : suc k ≡ k + 1 = omega arith in (
      last_found fs k f t within c.remove.ensures.value (name_laws.symm t f.at ∙ named) (ap (λ n. last_in (drop n fs) t) next ∙ c.loop-place.invariant.1) ∙ ap (λ gs. last_try (failures_of gs) t) c.loop-place.invariant.0,
      λ u e. ap (λ gs. last_try (failures_of gs) u) (c.remove.ensures.items ∙ ap (λ n. take k fs ++ drop n fs) behind) ∙ last_elsewhere fs k f u within c.remove.ensures.value (ap (same_name u) (exact_name f.at t named) ∙ e) ∙ ap (λ gs. last_try (failures_of gs) u) c.loop-place.invariant.0,
    )

pub returns : goal.returns
returns c =
    let fs = c.loop-place.failures.items in
    let zero : 0 ≡ c.loop-place.place = omega (arith, c.loop-place-test.false) in
    (sym (ap (λ gs. last_try (failures_of gs) c.args.name) (sym c.loop-place.invariant.0) ∙ last_is fs c.args.name ∙ ap (λ n. last_in (drop n fs) c.args.name) zero ∙ c.loop-place.invariant.1), λ u e. ap (λ gs. last_try (failures_of gs) u) c.loop-place.invariant.0)
