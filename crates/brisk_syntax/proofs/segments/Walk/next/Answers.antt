use Rattle.std.proofs.Common.{ap}
use Rattle.std.proofs.lemmas.List.{nil_from_length}
use Rattle.brisk_syntax.specs.Segments.{head_of, rest_of}
use Rattle.brisk_syntax.proofs.Places.{next_whole}
use Rattle.brisk_syntax.proofs.segments.Walk.next.Goals as goal

pub returns-in-Some-split_first-clause-head : goal.returns-in-Some-split_first-clause-head
returns-in-Some-split_first-clause-head c =
    ap head_of (next_whole c.self.inside.ahead.now c.self.inside.behind.now c.in-Some-split_last.behind.now c.in-Some-split_last.segment.now c.statements.result.now
    c.in-Some-split_first.statement.now c.in-Some-split_first.ahead.now c.args.self.now
    (nil_from_length _ c.in_default.ensures.cases) c.in-Some-split_last.ensures.cases.0 c.statements.ensures.all c.in-Some-split_first.ensures.cases.0 c.self.view_is)

pub returns-in-Some-split_first-clause-rest : goal.returns-in-Some-split_first-clause-rest
returns-in-Some-split_first-clause-rest c =
    ap rest_of (next_whole c.self.inside.ahead.now c.self.inside.behind.now c.in-Some-split_last.behind.now c.in-Some-split_last.segment.now c.statements.result.now
    c.in-Some-split_first.statement.now c.in-Some-split_first.ahead.now c.args.self.now
    (nil_from_length _ c.in_default.ensures.cases) c.in-Some-split_last.ensures.cases.0 c.statements.ensures.all c.in-Some-split_first.ensures.cases.0 c.self.view_is)
