use Rattle.std.proofs.Common.{arith, ap, ◌∙◌}
use Rattle.brisk_async.specs.Machine.{payload_at}
use Rattle.brisk_async.proofs.Payloads.{payload_past, payload_read}
use Rattle.brisk_async.proofs.mail.Waiting.payload.Goals as goal

pub returns-then-place-len : goal.returns-then-place-len
returns-then-place-len c =
    payload_read c.self.inside.payloads.items c.args.place c.index.result.now (omega arith) c.index.ensures ∙ ap (λ ms. payload_at ms c.args.place) c.self.view_is

pub returns-else-place-len : goal.returns-else-place-len
returns-else-place-len c = payload_past c.self.inside.payloads.items c.args.place (omega arith) ∙ ap (λ ms. payload_at ms c.args.place) c.self.view_is
