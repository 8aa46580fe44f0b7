-- A sequential program within the limits passes none.
use Rattle.std.proofs.Common.{◌≡◌, ℕ, ◌+◌, ◌-◌, ◌≤◌, length, refl, arith}
use Rattle.brisk_lex.specs.declared.token.Word.TheVariants as w
use Rattle.brisk_seq.specs.Depths.{items_depth, item_depth}
use Rattle.brisk_seq.specs.Items.{Item, Pass, Fill, Take, If, While, For, ForAny, Pick, Repeat, Items, nothing, ◌⨟◌}
use Rattle.brisk_seq.specs.declared.tree.SeqProgram.{SeqProgram}
use Rattle.brisk_syntax.specs.Roles.{RoleText}
use Rattle.brisk_parse.specs.Limits.{Limits}
use Rattle.brisk_parse.specs.Passing.{Passing, Nowhere}
use Rattle.brisk_parse.specs.SequencePassing as passing
use Rattle.brisk_parse.specs.SequenceSpelling.{items_in, count_items, ItemWithin, ItemsWithin, SequenceWithin}
use Rattle.brisk_parse.specs.SequenceSpelling as spell_item
use Rattle.brisk_parse.specs.Spelling as spell
use Rattle.brisk_parse.proofs.FoundStatements.{none_used}
use Rattle.brisk_parse.proofs.ItemParts.{counted}
use Rattle.brisk_parse.proofs.NothingPassed.{not_behind, neither, all_free, block_free, counted_free, expression_free, expressions_free, variables_free, enumerations_free, declarations_free}

module _ (l : Limits) where
  abbrev body : ℕ → Items → ℕ → Passing
  body n b d = passing.items l d n b

  mutual
    item_free : (d n : ℕ) (q : Item) → ItemWithin l q → item_depth q ≤ d → items_in q ≤ 1 + n → passing.item l d n q ≡ Nowhere
    item_free d n (Pass q xs p es) h depth few = rw (variables_free l xs h.0, expressions_free l es h.1 h.2) refl
    item_free d n (Fill x p q es) h depth few = rw (expressions_free l es h.0 h.1) refl
    item_free d n (Take q xs x p) h depth few = rw (variables_free l xs h) refl
    item_free d n (If p e a b) h depth few =
        let one = block_free d (body n a) (omega (arith, depth)) (items_free (d - 1) n a h.1 (omega (arith, depth)) (omega (arith, few))) in
        let two = block_free d (body (n - count_items a) b) (omega (arith, depth)) (items_free (d - 1) (n - count_items a) b h.2 (omega (arith, depth)) (omega (arith, few))) in
        rw (expression_free l e h.0, one, two) refl
    item_free d n (While p e b) h depth few = rw (expression_free l e h.0, block_free d (body n b) (omega (arith, depth)) (items_free (d - 1) n b h.1 (omega (arith, depth)) (omega (arith, few)))) refl
    item_free d n (For s b) h depth few = rw (block_free d (body n b) (omega (arith, depth)) (items_free (d - 1) n b h (omega (arith, depth)) (omega (arith, few)))) refl
    item_free d n (ForAny s b) h depth few = rw (block_free d (body n b) (omega (arith, depth)) (items_free (d - 1) n b h (omega (arith, depth)) (omega (arith, few)))) refl
    item_free d n (Pick s b) h depth few = rw (block_free d (body n b) (omega (arith, depth)) (items_free (d - 1) n b h (omega (arith, depth)) (omega (arith, few)))) refl
    item_free d n (Repeat s b) h depth few = rw (block_free d (body n b) (omega (arith, depth)) (items_free (d - 1) n b h (omega (arith, depth)) (omega (arith, few)))) refl

    items_free : (d n : ℕ) (b : Items) → ItemsWithin l b → items_depth b ≤ d → count_items b ≤ n → passing.items l d n b ≡ Nowhere
    items_free d n nothing h depth few = refl
    items_free d n (q ⨟ b) h depth few =
        neither (spell_item.item q) (counted_free n (λ n. passing.item l d n q) (omega (arith, few, counted q)) (item_free d (n - 1) q h.0 (omega (arith, depth)) (omega (arith, few, counted q))))
        (items_free d (n - items_in q) b h.1 (omega (arith, depth)) (omega (arith, few)))

  outline_free : (r : RoleText) → length r.decls ≤ l.declarations → passing.outline l r ≡ Nowhere
  outline_free r h = rw (declarations_free l r h) refl

  pub sequence_free : (P : SeqProgram) → SequenceWithin l P → passing.sequence l P ≡ Nowhere
  sequence_free P h =
      neither (spell.all_of spell.enumeration P.enums) (enumerations_free l P.enums h.each_enum h.enums)
      (neither (spell.all_of spell.role P.roles) (all_free (λ _ r. passing.outline l r) (λ _. 0) spell.role (λ r. length r.decls ≤ l.declarations) (λ n r h few. outline_free r h) l.roles 0 P.roles h.each_role h.roles (omega (arith, none_used P.roles)))
      (not_behind (spell.word w.KwBegin) (items_free l.nesting l.statements P.body h.body h.nesting h.statements)))
