use Rattle.std.proofs.Common.{◌≡◌, Option, Some, None, Bor, refl, ◌∙◌}
use Rattle.std.specs.Prelude.{is_some}
use Rattle.std.specs.Option.{option_copied}
use Rattle.brisk_async.specs.Keys.{mail_in, queue_of}
use Rattle.brisk_async.proofs.Events.{empty_iff}
use Rattle.brisk_async.proofs.mail.Mail.is_empty.Goals as goal

copied : {X : Type 0} (o : Option (Bor X)) → is_some (option_copied o) ≡ is_some o
copied None = refl
copied (Some x) = refl

pub returns : goal.returns
returns c = empty_iff (mail_in c.args.self.now (queue_of c.args.key.now)) (option_copied c.payload.result) c.is_none.result c.payload.ensures (copied c.payload.result ∙ c.is_none.ensures)
