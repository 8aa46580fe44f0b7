use Rattle.std.proofs.Common.{◌≡◌, Some, None, ap, sym, ◌∙◌}
use Rattle.std.specs.Prelude.{slice_get, slice_set}
use Rattle.std.proofs.lemmas.Option.{get_or_from_slice_get}
use Rattle.brisk_state.specs.Symbolic.{thread_named}
use Rattle.brisk_state.specs.declared.thread.Thread.{Thread}
use Rattle.brisk_state.proofs.Places.{none_there, with_at}
use Rattle.brisk_state.proofs.thread.put_mode.Goals as goal

pub returns-in-Some : goal.returns-in-Some
returns-in-Some c =
    let ts = c.args.threads.now.items in let i = c.in-Some.i in let u = c.in-Some.ensures.0 in
    let there : slice_get ts i ≡ Some u = ap (λ us. slice_get us i) (sym c.deref.ensures.value) ∙ c.in-Some.ensures.1 in
    ap (λ (v : Thread). slice_set ts i (record v { mode = c.args.mode })) (c.index_mut.ensures.value ∙ get_or_from_slice_get ts i u _ there)
    ∙ with_at c.args.name.now (λ v. record v { mode = c.args.mode }) ts c.requires i u there c.in-Some.ensures.2

pub returns-in_default : goal.returns-in_default
returns-in_default c =
    let n = c.args.name.now in let ts = c.args.threads.now.items in
    let none : thread_named ts n ≡ None = ap (λ us. thread_named us n) (sym c.deref.ensures.value) ∙ c.in_default.ensures in
    sym (none_there n (λ v. record v { mode = c.args.mode }) ts none)
