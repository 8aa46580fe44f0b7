use Rattle.std.proofs.Common.{◌+◌, sym, ap}
use Rattle.std.proofs.lemmas.List.{length-map}
use Rattle.std.proofs.lemmas.Result.{on_ok_weaker}
use Rattle.brisk_derivation.specs.Seen.{step_of}
use Rattle.brisk_derivtext.specs.SharedKept.{steps_at}
use Rattle.brisk_derivtext.proofs.Shares.{part_written}
use Rattle.brisk_derivtext.proofs.sharing.put_part.Goals as goal

pub returns : goal.returns
returns c =
    on_ok_weaker c.put.result (part_written (steps_at c.args.before.now) (step_of c.args.step.now) _ _ _ _ _ (ap (λ z. z + 1) (sym (length-map c.args.before.now _))) c.in_ok-put_part_name.ensures c.in_ok-put_opened.ensures) c.put.ensures
