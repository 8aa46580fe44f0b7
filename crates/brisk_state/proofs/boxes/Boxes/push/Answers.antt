use Rattle.std.proofs.Common.{◌≡◌, false, true, Result, Ok, Err, ap, sym, ◌∙◌}
use Rattle.std.specs.Prelude.{is_err, OnErr, OnOk}
use Rattle.brisk_state.specs.Symbolic.{is_in_use}
use Rattle.brisk_state.proofs.Kept.{kept_back, kept_pushed}
use Rattle.brisk_state.proofs.boxes.Boxes.push.Goals as goal

ok_there : {T E P : Type 0} (r : Result T E) → is_err r ≡ false → OnOk r P → P
ok_there (Ok x) h p = p
ok_there (Err e) h p = cc

err_there : {T E P : Type 0} (r : Result T E) → is_err r ≡ true → OnErr r P → P
err_there (Ok x) h p = cc
err_there (Err e) h p = p

pub invariant_of-self-then-is_err : goal.invariant_of-self-then-is_err
invariant_of-self-then-is_err c =
    kept_back c.args.key.now c.args.number c.self.inside.queues c.fill-filled.new.queues c.self.inside.used c.insert.new.self c.self.invariant
    (ap (λ es. is_in_use es c.args.number) c.self.view_is ∙ c.requires) c.fill-filled.ensures.ordered
    (err_there c.fill-filled.result (sym c.is_err.ensures.value ∙ c.if-is_err.true) c.fill-filled.ensures.err) c.remove.new.self c.in_ok-insert.ensures.updates c.remove.ensures.updates

pub invariant_of-self-else-is_err : goal.invariant_of-self-else-is_err
invariant_of-self-else-is_err c =
    kept_pushed c.args.key.now c.args.number c.self.inside.queues c.fill-filled.new.queues c.self.inside.used c.insert.new.self c.self.invariant
    (ap (λ es. is_in_use es c.args.number) c.self.view_is ∙ c.requires) c.fill-filled.ensures.ordered
    (ok_there c.fill-filled.result (sym c.is_err.ensures.value ∙ c.if-is_err.false) c.fill-filled.ensures.ok) c.in_ok-insert.ensures.updates
