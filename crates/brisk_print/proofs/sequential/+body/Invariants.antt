use Rattle.std.proofs.Common.{◌≡◌, ◌++◌, drop}
use Rattle.brisk_seq.specs.Seen.{items_of}
use Rattle.brisk_print.specs.Layout.{body}
use Rattle.brisk_print.proofs.sequential.+body.Given as goal

-- what is written, and then what is left
abbrev pub invariant-put_items-loop-item : goal.invariant-put_items-loop-item
invariant-put_items-loop-item l = l.out.items ++ body l.margin (items_of (drop l.item-index l.items)) ≡ l.fn.out.items ++ body l.margin (items_of l.items)
