-- The tokens of a sequential program, and which programs its limits and the grammar allow.
use Rattle.std.specs.Prelude.{◌≡◌, ℕ, ◌+◌, ◌≤◌, false, List, [], ◌∷◌, ◌++◌, length}
use Rattle.std.specs.List.{AllByRecursion}
use Rattle.brisk_values.specs.Names.{Name}
use Rattle.brisk_lex.specs.declared.token.Mark.TheVariants as m
use Rattle.brisk_lex.specs.declared.token.Placed.{Placed}
use Rattle.brisk_lex.specs.declared.token.Token.{Token}
use Rattle.brisk_lex.specs.declared.token.Token.TheVariants as t
use Rattle.brisk_lex.specs.declared.token.Word.TheVariants as w
use Rattle.brisk_seq.specs.Depths.{items_depth}
use Rattle.brisk_seq.specs.Items.{Item, Pass, Fill, Take, If, While, For, ForAny, Pick, Repeat, Items, nothing, ◌⨟◌}
use Rattle.brisk_seq.specs.declared.tree.SeqProgram.{SeqProgram}
use Rattle.brisk_syntax.specs.Roles.{RoleText}
use Rattle.brisk_syntax.specs.Syntax.{done}
use Rattle.brisk_parse.specs.Input.{tokens_of}
use Rattle.brisk_parse.specs.Levelled.{Levelled, HasTags}
use Rattle.brisk_parse.specs.Limits.{Limits, sequence, most_box}
use Rattle.brisk_parse.specs.Spelling.{mark, word, name, names, expression, expressions, braced, all_of, enumeration, role}
use Rattle.brisk_parse.specs.Within.{Short, EnumWithin}

-- ---- spelling

-- a process, and in brackets what belongs to it
abbrev pub at_process : Name → List Token → List Token
at_process p ts = name p ++ mark m.Dot ++ mark m.LParen ++ ts ++ mark m.RParen

-- a box from one process to another
abbrev pub box : ℕ → Name → Name → List Token
box n p q = word w.KwBox ++ t.Num n ∷ [] ++ mark m.LParen ++ name p ++ word w.KwTo ++ name q ++ mark m.RParen

abbrev mutual
  pub item : Item → List Token
  item (Pass q xs p es) = at_process q (names xs) ++ mark m.Assign ++ at_process p (expressions es) ++ mark m.Semi
  item (Fill n p q es) = box n p q ++ mark m.Assign ++ at_process p (expressions es) ++ mark m.Semi
  item (Take q xs n p) = at_process q (names xs) ++ mark m.Assign ++ box n p q ++ mark m.Semi
  item (If p e a b) = word w.KwIf ++ at_process p (expression e) ++ braced (items a) ++ word w.KwElse ++ braced (items b)
  item (While p e b) = word w.KwWhile ++ at_process p (expression e) ++ braced (items b)
  item (For s b) = word w.KwFor ++ name s ++ braced (items b)
  item (ForAny s b) = word w.KwFor ++ word w.KwAny ++ name s ++ braced (items b)
  item (Pick s b) = word w.KwPick ++ name s ++ braced (items b)
  item (Repeat s b) = word w.KwRepeat ++ name s ++ braced (items b)

  pub items : Items → List Token
  items nothing = []
  items (q ⨟ b) = item q ++ items b

-- the tokens of a sequential program
abbrev pub sequence_spelling : SeqProgram → List Token
sequence_spelling P = all_of enumeration P.enums ++ all_of role P.roles ++ word w.KwBegin ++ items P.body ++ word w.KwEnd

-- ---- levelled

-- all expressions are levelled, and no number of a box is too large
abbrev mutual
  pub LevelledItem : Item → Type 0
  LevelledItem (Pass q xs p es) = AllByRecursion Levelled es
  LevelledItem (Fill n p q es) = (n ≤ most_box) × AllByRecursion Levelled es
  LevelledItem (Take q xs n p) = n ≤ most_box
  LevelledItem (If p e a b) = Levelled e × LevelledItems a × LevelledItems b
  LevelledItem (While p e b) = Levelled e × LevelledItems b
  LevelledItem (For s b) = LevelledItems b
  LevelledItem (ForAny s b) = LevelledItems b
  LevelledItem (Pick s b) = LevelledItems b
  LevelledItem (Repeat s b) = LevelledItems b

  pub LevelledItems : Items → Type 0
  LevelledItems nothing = Unit {0}
  LevelledItems (q ⨟ b) = LevelledItem q × LevelledItems b

-- a single role isn't marked nonempty, and a role has no code
abbrev pub LevelledOutline : RoleText → Type 0
LevelledOutline r = (r.many ≡ false → r.nonempty ≡ false) × (r.code ≡ done)

pub record LevelledSequence (P : SeqProgram) : Type 0 where
  pub enums : AllByRecursion HasTags P.enums
  pub roles : AllByRecursion LevelledOutline P.roles
  pub body : LevelledItems P.body

-- ---- within limits

-- the number of items in an item, itself counted, and in a list
abbrev mutual
  pub items_in : Item → ℕ
  items_in (Pass q xs p es) = 1
  items_in (Fill n p q es) = 1
  items_in (Take q xs n p) = 1
  items_in (If p e a b) = 1 + count_items a + count_items b
  items_in (While p e b) = 1 + count_items b
  items_in (For s b) = 1 + count_items b
  items_in (ForAny s b) = 1 + count_items b
  items_in (Pick s b) = 1 + count_items b
  items_in (Repeat s b) = 1 + count_items b

  pub count_items : Items → ℕ
  count_items nothing = 0
  count_items (q ⨟ b) = items_in q + count_items b

-- each expression is short, and no list has too many places
abbrev mutual
  pub ItemWithin : Limits → Item → Type 0
  ItemWithin l (Pass q xs p es) = (length xs ≤ 1 + l.places) × (length es ≤ 1 + l.places) × AllByRecursion (Short l) es
  ItemWithin l (Fill n p q es) = (length es ≤ 1 + l.places) × AllByRecursion (Short l) es
  ItemWithin l (Take q xs n p) = length xs ≤ 1 + l.places
  ItemWithin l (If p e a b) = Short l e × ItemsWithin l a × ItemsWithin l b
  ItemWithin l (While p e b) = Short l e × ItemsWithin l b
  ItemWithin l (For s b) = ItemsWithin l b
  ItemWithin l (ForAny s b) = ItemsWithin l b
  ItemWithin l (Pick s b) = ItemsWithin l b
  ItemWithin l (Repeat s b) = ItemsWithin l b

  pub ItemsWithin : Limits → Items → Type 0
  ItemsWithin l nothing = Unit {0}
  ItemsWithin l (q ⨟ b) = ItemWithin l q × ItemsWithin l b

-- the sequential program passes no limit
pub record SequenceWithin (l : Limits) (P : SeqProgram) : Type 0 where
  pub enums : length P.enums ≤ l.enums
  pub each_enum : AllByRecursion (EnumWithin l) P.enums
  pub roles : length P.roles ≤ l.roles
  pub each_role : AllByRecursion (λ r. length r.decls ≤ l.declarations) P.roles
  pub body : ItemsWithin l P.body
  pub nesting : items_depth P.body ≤ l.nesting
  pub statements : count_items P.body ≤ l.statements

-- the tokens are the spelling of the levelled sequential program, which is within the limits of a sequential text
pub record DenotesSequence (tokens : List Placed) (P : SeqProgram) : Type 0 where
  pub spelled : tokens_of tokens ≡ sequence_spelling P
  pub levelled : LevelledSequence P
  pub within : SequenceWithin sequence P
