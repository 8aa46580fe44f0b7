use Rattle.std.proofs.Common.{map, rules}
use Rattle.std.proofs.lemmas.Result.{err_from_is_err_and}
use Rattle.std.proofs.lemmas.List.{map-append}
use Rattle.brisk_parse.proofs.Repetitions.{many_stop, many_more, many_fails, many_full}
use Rattle.brisk_parse.proofs.lists.list_of.Goals as goal

pub returns-then-not-begins : goal.returns-then-not-begins
returns-then-not-begins g c =
    many_stop g.T.Item.is_first g.T.Item.one c.args.most c.loop-turn._turn (map g.T.Item.seen c.loop-turn.items.items) c.loop-turn.reader _ c.loop-turn.invariant (search rules)

pub returns-in_err-read : goal.returns-in_err-read
returns-in_err-read g c =
    let p = err_from_is_err_and c.from_residual.result c.from_residual.ensures.1 in
    rw (p.1, p.2) (many_fails g.T.Item.is_first g.T.Item.one c.args.most c.loop-turn._turn (map g.T.Item.seen c.loop-turn.items.items) c.loop-turn.reader _ c.loop-turn.invariant c.in_err-read.field-0.0 c.loop-turn-test.true (search rules) c.in_err-read.ensures)

pub loop-turn-preserved : goal.loop-turn-preserved
loop-turn-preserved g c =
    let one = many_more g.T.Item.is_first g.T.Item.one c.args.most c.loop-turn._turn (map g.T.Item.seen c.loop-turn.items.items) c.loop-turn.reader _ c.loop-turn.invariant (g.T.Item.seen c.in_ok-read.field-0) c.read.new.reader c.loop-turn-test.true (search rules) c.in_ok-read.ensures in
    rw (c.in_ok-push.ensures.items, map-append) one

pub returns-then-begins : goal.returns-then-begins
returns-then-begins g c =
    rw c.left.ensures (many_full g.T.Item.is_first g.T.Item.one c.args.most c.loop-turn._turn (map g.T.Item.seen c.loop-turn.items.items) c.loop-turn.reader _ c.loop-turn.invariant c.loop-turn-test.false (search rules))

pub returns : goal.returns
returns g c =
    many_stop g.T.Item.is_first g.T.Item.one c.args.most c.loop-turn._turn (map g.T.Item.seen c.loop-turn.items.items) c.loop-turn.reader _ c.loop-turn.invariant (search rules)
