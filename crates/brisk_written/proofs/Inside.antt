-- What is inside code and items: names, expressions, and numbers of boxes.
use Rattle.std.proofs.Common.{◌≡◌, ℕ, Bool, true, false, List, [], ◌∷◌, Some, refl, subst}
use Rattle.std.specs.Prelude.{if◌then◌else◌}
use Rattle.std.specs.List.{AllByRecursion}
use Rattle.brisk_values.specs.Names.{Name}
use Rattle.brisk_syntax.specs.declared.tree.Who.{Who}
use Rattle.brisk_syntax.specs.Substitution.{statement_map, code_map}
use Rattle.brisk_syntax.specs.Syntax.{Expression, Statement, Assign, Send, Recv, RecvAny, If, IfElse, While, For, Repeat, Code, done, ◌⨾◌, ◌then◌}
use Rattle.brisk_seq.specs.Items.{Item, Items, nothing, ◌⨟◌, ◌followed_by◌}
use Rattle.brisk_seq.specs.Items as item
use Rattle.brisk_sound.proofs.Branch.{parts}
use Rattle.brisk_sound.proofs.Control.{sides}

-- what is asked of names of variables and sets, of expressions, and of numbers of boxes
pub record Asked : Type 1 where
  pub name : Name → Type 0
  pub value : Expression → Type 0
  pub number : ℕ → Type 0

module _ (A : Asked) where
  -- what is inside a statement and inside code is as asked
  abbrev mutual
    pub InStatement : Statement → Type 0
    InStatement (Assign x e) = A.name x × A.value e
    InStatement (Send c es u) = AllByRecursion A.value es
    InStatement (Recv c xs u) = AllByRecursion A.name xs
    InStatement (RecvAny c xs v s b) = AllByRecursion A.name xs × InCode b
    InStatement (If e a) = A.value e × InCode a
    InStatement (IfElse e a b) = A.value e × InCode a × InCode b
    InStatement (While e b) = A.value e × InCode b
    InStatement (For v s k b) = InCode b
    InStatement (Repeat s k b) = A.name s × InCode b

    pub InCode : Code → Type 0
    InCode done = Unit {0}
    InCode (s ⨾ c) = InStatement s × InCode c

  -- so it is with items
  abbrev mutual
    pub InItem : Item → Type 0
    InItem (item.Pass q xs p es) = A.name q × AllByRecursion A.name xs × A.name p × AllByRecursion A.value es
    InItem (item.Fill n p q es) = A.number n × A.name p × A.name q × AllByRecursion A.value es
    InItem (item.Take q xs n p) = A.name q × AllByRecursion A.name xs × A.number n × A.name p
    InItem (item.If p e a b) = A.name p × A.value e × InItems a × InItems b
    InItem (item.While p e b) = A.name p × A.value e × InItems b
    InItem (item.For s b) = A.name s × InItems b
    InItem (item.ForAny s b) = A.name s × InItems b
    InItem (item.Pick s b) = A.name s × InItems b
    InItem (item.Repeat s b) = A.name s × InItems b

    pub InItems : Items → Type 0
    InItems nothing = Unit {0}
    InItems (q ⨟ b) = InItem q × InItems b

  pub in_then : (a b : Code) → InCode a → InCode b → InCode (a then b)
  in_then done b f g = g
  in_then (s ⨾ a) b f g = (f.0, in_then a b f.1 g)

  pub in_followed : (X Y : Items) → InItems X → InItems Y → InItems (X followed_by Y)
  in_followed nothing Y x y = y
  in_followed (q ⨟ X) Y x y = (x.0, in_followed X Y x.1 y)

  mutual
    in_statement_map : (h : Who → Who) (s : Statement) → InStatement s → InStatement (statement_map h s)
    in_statement_map h (Assign x e) f = f
    in_statement_map h (Send c es u) f = f
    in_statement_map h (Recv c xs u) f = f
    in_statement_map h (RecvAny c xs v s b) f = (f.0, in_map h b f.1)
    in_statement_map h (If e a) f = (f.0, in_map h a f.1)
    in_statement_map h (IfElse e a b) f = (f.0, in_map h a f.1, in_map h b f.2)
    in_statement_map h (While e b) f = (f.0, in_map h b f.1)
    in_statement_map h (For v s k b) f = in_map h b f
    in_statement_map h (Repeat s k b) f = (f.0, in_map h b f.1)

    -- other partners change nothing
    pub in_map : (h : Who → Who) (c : Code) → InCode c → InCode (code_map h c)
    in_map h done f = tt
    in_map h (s ⨾ c) f = (in_statement_map h s f.0, in_map h c f.1)

  -- the guard and the two ways of an if
  pub in_sides : (s : Statement) (e : Expression) (a b : Code) → sides s ≡ Some (e, a, b) → InStatement s → A.value e × InCode a × InCode b
  in_sides (If e' a') e a b h f = let p = parts (e', a', done) (e, a, b) h in (subst A.value p.0 f.0, subst InCode p.1 f.1, subst InCode p.2 tt)
  in_sides (IfElse e' a' b') e a b h f = let p = parts (e', a', b') (e, a, b) h in (subst A.value p.0 f.0, subst InCode p.1 f.1, subst InCode p.2 f.2)
  in_sides s e a b h f = cc

  pub in_either : (b : Bool) (x y : Code) → InCode x → InCode y → InCode (if b then x else y)
  in_either true x y f g = f
  in_either false x y f g = g
