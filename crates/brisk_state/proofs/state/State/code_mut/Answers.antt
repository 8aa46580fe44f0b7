use Rattle.std.proofs.Common.{◌≡◌, Some, refl, ap, sym, ◌∙◌}
use Rattle.std.specs.Prelude.{slice_get, slice_set}
use Rattle.std.proofs.lemmas.Option.{get_or_from_slice_get}
use Rattle.brisk_syntax.specs.Syntax.{Code}
use Rattle.brisk_state.specs.Focus.{code_of}
use Rattle.brisk_state.specs.Symbolic.{Symbolic, thread_named, with_code}
use Rattle.brisk_state.specs.declared.thread.Thread.{Thread}
use Rattle.brisk_state.proofs.Places.{codes_differ, named_at, with_at}
use Rattle.brisk_state.proofs.state.State.code_mut.Goals as goal

pub invariant_of-self-lent : goal.invariant_of-self-lent
invariant_of-self-lent c w =
    let ts = c.self.inside.threads.items in let n = c.args.name in let i = c.in_ok-place.place in let u = c.in_ok-place.ensures.0 in
    let there : slice_get ts i ≡ Some u = ap (λ us. slice_get us i) (sym c.deref.ensures.value) ∙ c.in_ok-place.ensures.1 in
    codes_differ n w ts _
    (ap (λ (v : Thread). slice_set ts i (record v { code = w })) (c.in_ok-thread.ensures.value ∙ get_or_from_slice_get ts i u _ there)
    ∙ with_at n (λ v. record v { code = w }) ts c.self.invariant i u there c.in_ok-place.ensures.2)
    c.self.invariant

pub returns : goal.returns
returns c =
    let ts = c.self.inside.threads.items in let n = c.args.name in let i = c.in_ok-place.place in let u = c.in_ok-place.ensures.0 in
    let there : slice_get ts i ≡ Some u = ap (λ us. slice_get us i) (sym c.deref.ensures.value) ∙ c.in_ok-place.ensures.1 in
    let same : c.in_ok-thread.thread.now ≡ u = c.in_ok-thread.ensures.value ∙ get_or_from_slice_get ts i u _ there in
    let changed : (w : Code) → slice_set ts i (record c.in_ok-thread.thread.now { code = w }) ≡ with_code n w ts =
    λ w. ap (λ (v : Thread). slice_set ts i (record v { code = w })) same ∙ with_at n (λ v. record v { code = w }) ts c.self.invariant i u there c.in_ok-place.ensures.2 in (
      (
        refl,
        λ w j. record {
          threads = (changed w ∙ ap (λ (s : Symbolic). with_code n w s.threads) c.self.view_is) j;
          pending = ap (λ (s : Symbolic). s.pending) c.self.view_is j;
          facts = ap (λ (s : Symbolic). s.facts) c.self.view_is j;
        },
        refl,
      ),
      record {
        lends = tt;
        code = ap (λ (v : Thread). Some v.code) same ∙ ap code_of (sym (named_at ts c.self.invariant n i u there c.in_ok-place.ensures.2))
            ∙ ap (λ (s : Symbolic). code_of (thread_named s.threads n)) c.self.view_is;
      },
    )
