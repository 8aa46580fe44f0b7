-- Sequential programs as plain data.
use Rattle.std.specs.Prelude.{ℕ, List}
use Rattle.brisk_values.specs.Names.{Name}
use Rattle.brisk_syntax.specs.Syntax.{Expression}

infixr 6 ◌⨟◌
-- an item, and a list of items
mutual
  pub data Item : Type 0 where
    Pass : (to : Name) (xs : List Name) (from : Name) (es : List Expression) → Item
    Fill : (n : ℕ) (from to : Name) (es : List Expression) → Item
    Take : (to : Name) (xs : List Name) (n : ℕ) (from : Name) → Item
    If : (p : Name) (e : Expression) (a b : Items) → Item
    While : (p : Name) (e : Expression) (b : Items) → Item
    For : (s : Name) (b : Items) → Item
    ForAny : (s : Name) (b : Items) → Item
    Pick : (s : Name) (b : Items) → Item
    Repeat : (s : Name) (b : Items) → Item

  pub data Items : Type 0 where
    nothing : Items
    ◌⨟◌ : (q : Item) (rest : Items) → Items

infixr 6 ◌followed_by◌
-- one list of items after another
abbrev pub ◌followed_by◌ : Items → Items → Items
nothing followed_by b = b
(q ⨟ a) followed_by b = q ⨟ (a followed_by b)
