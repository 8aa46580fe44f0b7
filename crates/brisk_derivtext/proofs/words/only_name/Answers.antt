use Rattle.std.proofs.Common.{sym}
use Rattle.brisk_derivtext.proofs.Fronts.{only, no_bytes}
use Rattle.brisk_derivtext.proofs.words.only_name.Goals as goal

pub returns-then-not-is_empty : goal.returns-then-not-is_empty
returns-then-not-is_empty c = only c.in_ok-name.ensures (no_bytes c.in_ok-name.rest.now (sym c.if-not-is_empty.ensures))
