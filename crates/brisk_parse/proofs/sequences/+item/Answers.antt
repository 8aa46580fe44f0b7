use Rattle.std.proofs.Common.{rules}
use Rattle.std.proofs.lemmas.Result.{err_from_is_err_and}
use Rattle.brisk_seq.specs.Seen.{item_of, items_of}
use Rattle.brisk_parse.specs.Limits.{sequence}
use Rattle.brisk_parse.specs.Sequences as spec
use Rattle.brisk_parse.proofs.ItemLists.{items_stop, items_more, items_fails, items_full, items_of-append}
use Rattle.brisk_parse.proofs.sequences.+item.Goals as goal

pub items-returns-then-not-begins_item : goal.items-returns-then-not-begins_item
items-returns-then-not-begins_item t c =
    items_stop spec.begins_item (spec.item sequence (spec.block sequence c.args.depth)) 2000000 c.loop-turn._turn (items_of c.loop-turn.items.items) c.loop-turn.reader _ c.loop-turn.invariant (search rules)

pub items-returns-in_err-item : goal.items-returns-in_err-item
items-returns-in_err-item t c =
    let p = err_from_is_err_and c.from_residual.result c.from_residual.ensures.1 in
    rw (p.1, p.2) (items_fails spec.begins_item (spec.item sequence (spec.block sequence c.args.depth)) 2000000 c.loop-turn._turn (items_of c.loop-turn.items.items) c.loop-turn.reader _ c.loop-turn.invariant c.in_err-item.field-0.0 c.loop-turn-test.true (search rules) c.in_err-item.ensures)

pub items-loop-turn-preserved : goal.items-loop-turn-preserved
items-loop-turn-preserved t c =
    let one = items_more spec.begins_item (spec.item sequence (spec.block sequence c.args.depth)) 2000000 c.loop-turn._turn (items_of c.loop-turn.items.items) c.loop-turn.reader _ c.loop-turn.invariant (item_of c.in_ok-item.field-0) c.item.new.reader c.loop-turn-test.true (search rules) c.in_ok-item.ensures in
    rw (c.in_ok-push.ensures.items, items_of-append) one

pub items-returns-then-begins_item : goal.items-returns-then-begins_item
items-returns-then-begins_item t c =
    rw c.left.ensures (items_full spec.begins_item (spec.item sequence (spec.block sequence c.args.depth)) 2000000 c.loop-turn._turn (items_of c.loop-turn.items.items) c.loop-turn.reader _ c.loop-turn.invariant c.loop-turn-test.false (search rules))

pub items-returns : goal.items-returns
items-returns t c =
    items_stop spec.begins_item (spec.item sequence (spec.block sequence c.args.depth)) 2000000 c.loop-turn._turn (items_of c.loop-turn.items.items) c.loop-turn.reader _ c.loop-turn.invariant (search rules)
