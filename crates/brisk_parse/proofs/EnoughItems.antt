-- Each sequential program is within limits that are great enough.
use Rattle.std.proofs.Common.{◌+◌, ◌≤◌, List, length, arith}
use Rattle.std.specs.List.{AllByRecursion}
use Rattle.brisk_seq.specs.Depths.{items_depth}
use Rattle.brisk_seq.specs.Items.{Item, Pass, Fill, Take, If, While, For, ForAny, Pick, Repeat, Items, nothing, ◌⨟◌}
use Rattle.brisk_seq.specs.declared.tree.SeqProgram.{SeqProgram}
use Rattle.brisk_syntax.specs.Roles.{RoleText}
use Rattle.brisk_syntax.specs.Syntax.{Expression}
use Rattle.brisk_parse.specs.Limits.{Limits}
use Rattle.brisk_parse.specs.SequenceSpelling.{count_items, ItemWithin, ItemsWithin, SequenceWithin}
use Rattle.brisk_parse.specs.Within.{Short, EnumWithin}
use Rattle.brisk_parse.proofs.Enough.{Enough, smaller, both, all, short, Places, placed, enum_enough}

abbrev AllShort : List Expression → Limits → Type 0
AllShort es l = AllByRecursion (Short l) es

mutual
  item_enough : (q : Item) → Enough (λ l. ItemWithin l q)
  item_enough (Pass q xs p es) =
      let values = both (Places (length es)) (AllShort es) (placed (length es)) (all Short short es) in
      let parts = both (Places (length xs)) (λ l. Places (length es) l × AllShort es l) (placed (length xs)) values in
      record { bound = parts.bound; holds = λ l h. let r = parts.holds l h in (r.0, r.1.0, r.1.1) }
  item_enough (Fill n p q es) = both (Places (length es)) (AllShort es) (placed (length es)) (all Short short es)
  item_enough (Take q xs n p) = placed (length xs)
  item_enough (If p e a b) =
      let two = both (λ l. ItemsWithin l a) (λ l. ItemsWithin l b) (items_enough a) (items_enough b) in
      let parts = both (λ l. Short l e) (λ l. ItemsWithin l a × ItemsWithin l b) (short e) two in
      record { bound = parts.bound; holds = λ l h. let r = parts.holds l h in (r.0, r.1.0, r.1.1) }
  item_enough (While p e b) = both (λ l. Short l e) (λ l. ItemsWithin l b) (short e) (items_enough b)
  item_enough (For s b) = items_enough b
  item_enough (ForAny s b) = items_enough b
  item_enough (Pick s b) = items_enough b
  item_enough (Repeat s b) = items_enough b

  items_enough : (b : Items) → Enough (λ l. ItemsWithin l b)
  items_enough nothing = record { bound = 0; holds = λ l h. tt }
  items_enough (q ⨟ b) = both (λ l. ItemWithin l q) (λ l. ItemsWithin l b) (item_enough q) (items_enough b)

abbrev OutlineWithin : Limits → RoleText → Type 0
OutlineWithin l r = length r.decls ≤ l.declarations

pub sequence_enough : (P : SeqProgram) → Enough (λ l. SequenceWithin l P)
sequence_enough P =
    let enums = all EnumWithin enum_enough P.enums in
    let roles = all OutlineWithin (λ r. record { bound = length r.decls; holds = λ l h. h.declarations }) P.roles in
    let body = items_enough P.body in
    let lists = length P.enums + length P.roles + items_depth P.body + count_items P.body in
    let n = lists + enums.bound + roles.bound + body.bound in
    record {
      bound = n;
      holds = λ l h. record {
        enums = omega (arith, h.enums);
        each_enum = enums.holds l (smaller n enums.bound l (omega arith) h);
        roles = omega (arith, h.roles);
        each_role = roles.holds l (smaller n roles.bound l (omega arith) h);
        body = body.holds l (smaller n body.bound l (omega arith) h);
        nesting = omega (arith, h.nesting);
        statements = omega (arith, h.statements);
      };
    }
