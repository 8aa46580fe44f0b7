use Rattle.std.proofs.Common.{◌≡◌, ◌+◌, ◌-◌, ◌*◌}
use Rattle.brisk_seq.specs.Items.{nothing, ◌⨟◌}
use Rattle.brisk_seq.specs.Seen.{items_of}
use Rattle.brisk_parse.specs.Limits.{sequence}
use Rattle.brisk_parse.specs.Reading.{many}
use Rattle.brisk_parse.specs.Sequences as spec
use Rattle.brisk_parse.proofs.ItemLists.{with_items}
use Rattle.brisk_parse.proofs.sequences.+item.Given as goal

abbrev pub decreases-block : goal.decreases-block
decreases-block l = 4 * l.depth

abbrev pub decreases-choice : goal.decreases-choice
decreases-choice l = 4 * l.depth + 1

abbrev pub decreases-while_loop : goal.decreases-while_loop
decreases-while_loop l = 4 * l.depth + 1

abbrev pub decreases-for_loop : goal.decreases-for_loop
decreases-for_loop l = 4 * l.depth + 1

abbrev pub decreases-pick : goal.decreases-pick
decreases-pick l = 4 * l.depth + 1

abbrev pub decreases-repeat_loop : goal.decreases-repeat_loop
decreases-repeat_loop l = 4 * l.depth + 1

abbrev pub decreases-item : goal.decreases-item
decreases-item l = 4 * l.depth + 2

abbrev pub decreases-items : goal.decreases-items
decreases-items l = 4 * l.depth + 3

abbrev pub invariant-items-loop-turn : goal.invariant-items-loop-turn
invariant-items-loop-turn l =
    spec.items sequence (spec.block sequence l.depth) l.fn.reader
    ≡ with_items (items_of l.items.items) (many spec.begins_item (spec.item sequence (spec.block sequence l.depth)) nothing (λ q qs. q ⨟ qs) (2000000 - l._turn) l.reader)
