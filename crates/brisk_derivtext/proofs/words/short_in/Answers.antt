use Rattle.brisk_lines.proofs.Decimals.{short_read}
use Rattle.brisk_derivtext.proofs.words.short_in.Goals as goal

pub returns : goal.returns
returns c = short_read c.args.bytes.now c.in_ok-number.number c.ok.result c.try_from.result c.in_ok-number.ensures.1 c.in_ok-number.ensures.0 c.ok.ensures.value c.try_from.ensures
