-- How items are seen.
use Rattle.std.specs.Prelude.{List, [], ◌∷◌}
use Rattle.brisk_syntax.specs.Expressions.{expression_of}
use Rattle.brisk_seq.specs.Items as tree
use Rattle.brisk_seq.specs.Items.{Items, nothing, ◌⨟◌}
use Rattle.brisk_seq.specs.declared.tree.Seq.{Seq}
use Rattle.brisk_seq.specs.declared.tree.Seq.TheVariants.{Pass, Fill, Take, If, While, For, ForAny, Pick, Repeat}

-- the item without the places of its parts in memory
abbrev pub item_of : Seq → tree.Item
item_of (Pass p) = tree.Pass p.to p.vars p.from p.exprs
item_of (Fill f) = tree.Fill f.number f.from f.to f.exprs
item_of (Take t) = tree.Take t.to t.vars t.number t.from
item_of (If p e a b) = tree.If p (expression_of e) a b
item_of (While p e b) = tree.While p (expression_of e) b
item_of (For s b) = tree.For s b
item_of (ForAny s b) = tree.ForAny s b
item_of (Pick s b) = tree.Pick s b
item_of (Repeat s b) = tree.Repeat s b

-- the items of a body
abbrev pub items_of : List Seq → Items
items_of [] = nothing
items_of (q ∷ qs) = item_of q ⨟ items_of qs
