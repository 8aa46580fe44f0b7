-- The boxes that are full, and how they are kept.
use Rattle.std.specs.Prelude.{List}
use Rattle.std.specs.declared.cmp.Ordering.{Ordering}
use Rattle.std.specs.Ordering.{nat_cmp, ordering_then}
use Rattle.std.specs.Coded.{Coded, coded_list}
use Rattle.std.specs.FinMap.{FinMap, code, get, insert, remove}
use Rattle.brisk_values.specs.declared.value.Value.{Value}
use Rattle.brisk_values.specs.Places.{process_cmp, coded_value}
use Rattle.brisk_seq.specs.declared.boxes.Cell.{Cell}
use Rattle.brisk_seq.specs.contracts.boxes.Cell as cell
use Rattle.brisk_seq.specs.Sequential.{Boxes}

-- by number, then by sender, and then by receiver
abbrev pub cell_cmp : Cell → Cell → Ordering
cell_cmp a b = ordering_then (nat_cmp a.number b.number) (ordering_then (process_cmp a.from b.from) (process_cmp a.to b.to))

-- the values of the boxes that are full
abbrev pub Full : Type 0
Full = FinMap cell_cmp (List Value)

abbrev pub coded_full : Coded Full
coded_full = code cell.the_row.coded (coded_list coded_value)

-- the boxes, of which these are full
abbrev pub box_in : Full → Boxes
box_in m n p q = get m (record { number = n; from = p; to = q })

-- the full boxes, and this one with these values
abbrev pub with_full : Cell → List Value → Full → Full
with_full k vs m = insert m k vs

-- the full boxes but this one
abbrev pub without_full : Cell → Full → Full
without_full k m = remove m k
