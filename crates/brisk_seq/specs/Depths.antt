-- How deep bodies nest.
use Rattle.std.specs.Prelude.{ℕ, ◌+◌, max}
use Rattle.brisk_seq.specs.Items.{Item, Pass, Fill, Take, If, While, For, ForAny, Pick, Repeat, Items, nothing, ◌⨟◌}

-- how many bodies stand one in another
abbrev mutual
  pub items_depth : Items → ℕ
  items_depth nothing = 0
  items_depth (q ⨟ b) = max (item_depth q) (items_depth b)

  pub item_depth : Item → ℕ
  item_depth (Pass to xs from es) = 0
  item_depth (Fill n from to es) = 0
  item_depth (Take to xs n from) = 0
  item_depth (If p e a b) = max (items_depth a) (items_depth b) + 1
  item_depth (While p e b) = items_depth b + 1
  item_depth (For s b) = items_depth b + 1
  item_depth (ForAny s b) = items_depth b + 1
  item_depth (Pick s b) = items_depth b + 1
  item_depth (Repeat s b) = items_depth b + 1
