use Rattle.std.proofs.Common.{ap, sym, ◌∙◌}
use Rattle.std.specs.FinMap as map
use Rattle.brisk_async.specs.Keys.{or_nil}
use Rattle.brisk_async.specs.Machine.{payload_at}
use Rattle.brisk_async.proofs.Maps.{get_listed, key_total}
use Rattle.brisk_async.proofs.mail.Mail.payload.Goals as goal

pub returns-in-None : goal.returns-in-None
returns-in-None c =
    ap (λ o. payload_at (or_nil o) c.args.place)
    (c.in-None.ensures.value ∙ sym (get_listed key_total c.self.inside.queues.entries c.args.key.now) ∙ ap (λ m. map.get m c.args.key.now) c.self.view_is)

pub returns-in-Some : goal.returns-in-Some
returns-in-Some c =
    c.payload.ensures
    ∙ ap (λ o. payload_at (or_nil o) c.args.place)
    (c.in-Some.ensures.value ∙ sym (get_listed key_total c.self.inside.queues.entries c.args.key.now) ∙ ap (λ m. map.get m c.args.key.now) c.self.view_is)
