use Rattle.std.proofs.Common.{◌≡◌, ◌-◌, map}
use Rattle.brisk_parse.specs.Reading as spec
use Rattle.brisk_parse.proofs.Repetitions.{with_front}
use Rattle.brisk_parse.proofs.lists.list_of.Given as goal

abbrev pub invariant-loop-turn : goal.invariant-loop-turn
invariant-loop-turn g l =
    spec.list_of g.T.Item.is_first g.T.Item.one l.most l.fn.reader ≡ with_front (map g.T.Item.seen l.items.items) (spec.list_of g.T.Item.is_first g.T.Item.one (l.most - l._turn) l.reader)
