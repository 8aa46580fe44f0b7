use Rattle.std.proofs.Common.{◌≡◌, Option, Some, None, refl, sym, ◌∙◌}
use Rattle.brisk_state.specs.Focus.{code_of}
use Rattle.brisk_state.specs.declared.thread.Thread.{Thread}
use Rattle.brisk_state.specs.Symbolic.{thread_named}
use Rattle.brisk_state.proofs.Places.{none_there}
use Rattle.brisk_basic.proofs.Lent.{on_one}
use Rattle.brisk_basic.proofs.heads.put_code.Goals as goal

no_thread : (o : Option Thread) → None ≡ code_of o → o ≡ None
no_thread None e = refl
no_thread (Some u) e = cc

pub returns-in-Some : goal.returns-in-Some
returns-in-Some c = on_one c.code_mut.result c.in-Some.old c.in-Some.is (c.code_mut.follows.holds c.args.code)

pub returns-in_default : goal.returns-in_default
returns-in_default c =
    let S = c.args.state.now in let n = c.args.name in
    let none : thread_named S.threads n ≡ None = no_thread (thread_named S.threads n) c.in_default.ensures.code in
    c.code_mut.follows.holds-at-none
    ∙ (λ i. record S { threads = sym (none_there n (λ u. record u { code = c.args.code }) S.threads none) i })
