-- Each body is smaller than the list that holds it.
use Rattle.std.specs.Prelude.{◌≤◌, max, List, [], ◌∷◌}
use Rattle.std.proofs.Common.{arith}
use denote.Param.Weighed.{most}
use Rattle.brisk_seq.specs.Depths.{items_depth, item_depth}
use Rattle.brisk_seq.specs.Seen.{items_of, item_of}
use Rattle.brisk_seq.specs.declared.tree.Seq.{Seq}
use Rattle.brisk_seq.specs.declared.tree.Seq.TheVariants.{Pass, Fill, Take, If, While, For, ForAny, Pick, Repeat}
use Rattle.brisk_seq.specs.declared.tree.Body.TheDeep.{deep-Seq}

pub deep_le-item_depth : (q : Seq) → deep-Seq q ≤ item_depth (item_of q)
deep_le-item_depth (Pass p) = omega arith
deep_le-item_depth (Fill f) = omega arith
deep_le-item_depth (Take t) = omega arith
deep_le-item_depth (If p e a b) = omega arith
deep_le-item_depth (While p e b) = omega arith
deep_le-item_depth (For s b) = omega arith
deep_le-item_depth (ForAny s b) = omega arith
deep_le-item_depth (Pick s b) = omega arith
deep_le-item_depth (Repeat s b) = omega arith

pub deep_le-items_depth : (qs : List Seq) → max (most deep-Seq qs) 0 ≤ items_depth (items_of qs)
deep_le-items_depth [] = omega arith
deep_le-items_depth (q ∷ qs) = omega (arith, deep_le-item_depth q, deep_le-items_depth qs)
