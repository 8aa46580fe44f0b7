use Rattle.std.proofs.Common.{ap, ◌∙◌, sym, subst, ◌≡◌, []}
use Rattle.std.specs.Prelude.{IfOk}
use Rattle.brisk_loops.specs.CloseSeen.{kind_of}
use Rattle.brisk_loops.proofs.Leaving.{aside_like}
use Rattle.brisk_loops.proofs.leave.fault_aside.Goals as goal

pub returns : goal.returns
returns c r drops like closes =
    subst (λ f. IfOk c.aside.result (λ o. o ≡ f)) (aside_like r drops c.args.before.now c.args.end.now c.deref.result.now (kind_of c.args.closing.now.kind) like (c.deref.ensures.value ∙ closes.0) closes.1) c.aside.ensures
