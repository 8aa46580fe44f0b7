use Rattle.std.proofs.Common.{◌≡◌, ◌-◌, map}
use Rattle.brisk_parse.specs.Reading as spec
use Rattle.brisk_parse.proofs.Repetitions.{with_front}
use Rattle.brisk_parse.proofs.lists.separated.Given as goal

abbrev pub invariant-loop-turn : goal.invariant-loop-turn
invariant-loop-turn g l =
    spec.separated g.T.Item.is_first g.T.Item.one l.more l.fn.reader ≡ with_front (map g.T.Item.seen l.items.items) (spec.others g.T.Item.is_first g.T.Item.one (l.more - l._turn) l.reader)
