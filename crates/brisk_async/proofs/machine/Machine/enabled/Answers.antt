use Rattle.std.proofs.Common.{◌≡◌, refl, subst, Bool, true, false, Option, Some, None}
use Rattle.std.specs.Prelude.{is_none, is_some, not, IsSome, IsTrue, ◌↔◌}
use Rattle.brisk_async.specs.Machine.{step}
use Rattle.brisk_async.specs.States.{state_of}
use Rattle.brisk_async.proofs.machine.Machine.enabled.Goals as goal

none_not : {X : Type 0} (o : Option X) (b : Bool) → is_some o ≡ not b → is_none o ≡ b
none_not None true e = refl
none_not None false e = cc
none_not (Some x) true e = cc
none_not (Some x) false e = refl

pub returns : goal.returns
returns c =
    subst (λ (b : Bool). IsTrue b ↔ IsSome (step (state_of c.args.self.now) c.args.event.now)) (none_not c.refusal.result c.is_none.result c.is_none.ensures) c.refusal.ensures.some
