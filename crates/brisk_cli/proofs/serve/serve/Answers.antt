use Rattle.std.proofs.Common.{map}
use Rattle.std.specs.String.{string_bytes}
use Rattle.brisk_cli.proofs.Decided.{straights_are_decided}
use Rattle.brisk_cli.proofs.Headline.{headline}
use Rattle.brisk_cli.proofs.serve.serve.Goals as goal

pub returns-clause-faithful : goal.returns-clause-faithful
returns-clause-faithful g c =
    headline (map string_bytes c.args.words.now) (g.F.Folder.files c.args.folder.now) (g.F.Folder.faults c.args.folder.now) (g.F.Folder.faults c.answer_words.new.folder) (g.O.Sink.written c.args.out.now) (g.O.Sink.written c.answer_words.new.out) c.answer_words.result c.answer_words.ensures.answered

pub returns-clause-decided : goal.returns-clause-decided
returns-clause-decided g c =
    straights_are_decided (map string_bytes c.args.words.now) (g.F.Folder.files c.args.folder.now) (g.F.Folder.faults c.args.folder.now) (g.F.Folder.faults c.answer_words.new.folder) (g.O.Sink.written c.args.out.now) (g.O.Sink.written c.answer_words.new.out) c.answer_words.result c.answer_words.ensures.answered
