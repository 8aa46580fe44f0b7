use Rattle.std.proofs.Common.{ap, ◌∙◌}
use Rattle.std.specs.BTreeMap.{is_at}
use Rattle.std.specs.Map.{lookup}
use Rattle.brisk_async.specs.Keys.{key_cmp, key_of, or_nil}
use Rattle.brisk_async.proofs.Maps.{get_listed, key_total}
use Rattle.brisk_async.proofs.mail.Mail.new.Goals as goal

pub returns : goal.returns
returns c = λ i q. ap or_nil (get_listed key_total c.new.result.entries (key_of q) ∙ ap (lookup (is_at (key_cmp (key_of q)))) c.new.ensures.empty) i
