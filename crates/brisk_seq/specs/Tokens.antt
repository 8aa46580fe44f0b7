-- The number of tokens of sequential trees.
use Rattle.std.specs.Prelude.{ℕ, ◌+◌, sum_by}
use Rattle.brisk_syntax.specs.Tokens.{expression_tokens, list_tokens, name_tokens, enum_tokens, role_tokens}
use Rattle.brisk_seq.specs.declared.tree.SeqProgram.{SeqProgram}
use Rattle.brisk_seq.specs.Items.{Item, Pass, Fill, Take, If, While, For, ForAny, Pick, Repeat, Items, nothing, ◌⨟◌}

-- the tokens of an item, and of items
abbrev mutual
  pub item_tokens : Item → ℕ
  item_tokens (Pass to xs from es) = 10 + name_tokens xs + list_tokens es
  item_tokens (Fill n from to es) = 13 + list_tokens es
  item_tokens (Take to xs n from) = 13 + name_tokens xs
  item_tokens (If p e a b) = 10 + expression_tokens e + items_tokens a + items_tokens b
  item_tokens (While p e b) = 7 + expression_tokens e + items_tokens b
  item_tokens (For s b) = 4 + items_tokens b
  item_tokens (ForAny s b) = 5 + items_tokens b
  item_tokens (Pick s b) = 4 + items_tokens b
  item_tokens (Repeat s b) = 4 + items_tokens b

  pub items_tokens : Items → ℕ
  items_tokens nothing = 0
  items_tokens (q ⨟ b) = item_tokens q + items_tokens b

-- the tokens of a sequential program
abbrev pub seq_tokens : SeqProgram → ℕ
seq_tokens Q = sum_by enum_tokens Q.enums + sum_by role_tokens Q.roles + 2 + items_tokens Q.body
