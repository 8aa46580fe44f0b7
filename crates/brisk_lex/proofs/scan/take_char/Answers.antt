use Rattle.std.proofs.Common.{◌≡◌, ◌++◌, rules}
use Rattle.std.specs.Char.{encode_utf8}
use Rattle.std.proofs.lemmas.Str.{chars_past_char}
use Rattle.brisk_lex.proofs.scan.take_char.Goals as goal

pub returns : goal.returns
returns c =
    let e : c.args.text.now ≡ encode_utf8 c.in_ok-c.c ++ c.as_str.result.now = search rules in
    (chars_past_char _ _ _ c.utf8.text e, e)
