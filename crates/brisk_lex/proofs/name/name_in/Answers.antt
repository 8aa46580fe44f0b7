use Rattle.std.proofs.Common.{rules, ◌≡◌, None}
use Rattle.brisk_lex.specs.Vocabulary.{word}
use Rattle.brisk_lex.proofs.NamedText.{name_of}
use Rattle.brisk_lex.proofs.name.name_in.Goals as goal

pub returns : goal.returns
returns c =
    let free : word c.args.bytes.now ≡ None = search rules in
    name_of c.args.bytes.now c.new.result (search rules) (search rules) free c.new.ensures
