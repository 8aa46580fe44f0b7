-- What is read as an item or a sequential program is spelled.
use Rattle.std.proofs.Common.{◌≡◌, ℕ, zero, suc, ◌+◌, ◌≤◌, Bool, true, false, nat_le, List, [], ◌∷◌, ◌++◌, length, drop, Some, Ok, refl, sym, ap, ◌∙◌, append_assoc, append-nil, arith}
use Rattle.std.specs.List.{AllByRecursion}
use Rattle.std.proofs.lemmas.Bool.{leb-true}
use Rattle.brisk_values.specs.Names.{Name}
use Rattle.brisk_lex.specs.declared.token.Mark.TheVariants as m
use Rattle.brisk_lex.specs.declared.token.Placed.{Placed}
use Rattle.brisk_lex.specs.declared.token.Word.TheVariants as w
use Rattle.brisk_lex.specs.declared.token.Token.{Token}
use Rattle.brisk_lex.specs.declared.token.Token.TheVariants as t
use Rattle.brisk_seq.specs.Depths.{items_depth, item_depth}
use Rattle.brisk_seq.specs.Items.{Item, Pass, Fill, Take, If, While, For, ForAny, Pick, Repeat, Items, nothing, ◌⨟◌}
use Rattle.brisk_seq.specs.declared.tree.SeqProgram.{SeqProgram}
use Rattle.brisk_syntax.specs.Roles.{RoleText}
use Rattle.brisk_syntax.specs.Syntax.{done}
use Rattle.brisk_parse.specs.Declarations.{begins_declaration, declaration, begins_enumeration, enumeration, flag, begins_role}
use Rattle.brisk_parse.specs.Expressions.{expression}
use Rattle.brisk_parse.specs.Input.{Input, at, after, sees, start}
use Rattle.brisk_parse.specs.Levelled.{Levelled, HasTags}
use Rattle.brisk_parse.specs.Limits.{Limits, sequence, most_box}
use Rattle.brisk_parse.specs.Outcomes.{Parser, and_then}
use Rattle.brisk_parse.specs.Reading.{expect, name, count, list_of}
use Rattle.brisk_parse.specs.Sequences.{box_number, variables, values, guard, fill, take, pass, stored, choice, while_loop, over, for_loop, begins_item, item_by, item, items, block, outline, single_role, set_role, role, whole, sequential}
use Rattle.brisk_parse.specs.SequenceSpelling.{LevelledItem, LevelledItems, LevelledOutline, LevelledSequence, items_in, count_items, ItemWithin, ItemsWithin, SequenceWithin, DenotesSequence, sequence_spelling}
use Rattle.brisk_parse.specs.SequenceSpelling as spell_item
use Rattle.brisk_parse.specs.Spelling as spell
use Rattle.brisk_parse.specs.Statements.{names, expressions}
use Rattle.brisk_parse.specs.Within.{Short, EnumWithin}
use Rattle.brisk_parse.proofs.Found.{Found, found_then, found_ok, found_err, found_if, found_so, found_after, Spelled, Plain, Any, expect_found, name_found, count_found, many_found, list_found, Joins, parts3, parts5}
use Rattle.brisk_parse.proofs.FoundExpressions as found
use Rattle.brisk_parse.proofs.FoundExpressions.{expression_found}
use Rattle.brisk_parse.proofs.FoundStatements.{all_so, plain, names_found, expressions_found}
use Rattle.brisk_parse.proofs.FoundPrograms.{declaration_at, enumeration_found, EnumFits, flag_found, ended_is}

-- ---- parts of items

box_at : (rest : List Token) (r c : ℕ) → Found (box_number (at rest r c)) (Plain (λ n. t.Num n ∷ []) (λ n. n ≤ most_box) (at rest r c))
unfolding box_number
box_at [] r c = found_err _ _
box_at (t.Num n ∷ rest) r c =
    found_if _ (nat_le n most_box) _ _
    (λ h. found_ok _ n (at rest r c) (record { spelled = refl; room = refl; statements = omega arith; good = leb-true n most_box h }))
    (λ _. found_err _ _)
box_at (_ ∷ rest) r c = found_err _ _

box_found : (i : Input) → Found (box_number i) (Plain (λ n. t.Num n ∷ []) (λ n. n ≤ most_box) i)
box_found i = box_at i.rest i.room i.statements

pub sequence_parts : (a b c k : List Token) → a ++ (b ++ (t.Word w.KwBegin ∷ (c ++ (t.Word w.KwEnd ∷ k)))) ≡ a ++ b ++ spell.word w.KwBegin ++ c ++ spell.word w.KwEnd ++ k
sequence_parts a b c k = simp append_assoc refl

-- what belongs to a process, in brackets
abbrev bracketed : List Token → List Token
bracketed ts = t.Mark m.Dot ∷ t.Mark m.LParen ∷ (ts ++ (t.Mark m.RParen ∷ []))

in_brackets : {A : Type 0} (spelling : A → List Token) (Good : A → Type 0) (p : Parser A) → ((i : Input) → Found (p i) (Plain spelling Good i)) → (i : Input)
    → Found (and_then (expect (t.Mark m.Dot) i) (λ _ i. and_then (expect (t.Mark m.LParen) i) (λ _ i. and_then (p i) (λ x i. and_then (expect (t.Mark m.RParen) i) (λ _ i. Ok (x, i)))))) (Plain (λ x. bracketed (spelling x)) Good i)
in_brackets spelling Good p p_found i =
    found_then _ _ (expect (t.Mark m.Dot) i) _ (expect_found (t.Mark m.Dot) i) (λ _ j1 a1.
    found_then _ _ (expect (t.Mark m.LParen) j1) _ (expect_found (t.Mark m.LParen) j1) (λ _ j2 a2.
    found_then _ _ (p j2) _ (p_found j2) (λ x j3 a3.
    found_then _ _ (expect (t.Mark m.RParen) j3) _ (expect_found (t.Mark m.RParen) j3) (λ _ j4 a4.
    found_ok _ x j4 (record {
      spelled = simp (a1.spelled, a2.spelled, a3.spelled, a4.spelled) (ap (λ l. t.Mark m.Dot ∷ t.Mark m.LParen ∷ l) (sym (append_assoc (spelling x) (t.Mark m.RParen ∷ []) j4.rest)));
      room = a4.room ∙ a3.room ∙ a2.room ∙ a1.room;
      statements = omega (arith, a1.statements, a2.statements, a3.statements, a4.statements);
      good = a3.good;
    })))))

module _ (l : Limits) where
  variables_found : (i : Input) → Found (variables l i) (Plain (λ xs. bracketed (spell.names xs)) (λ xs. length xs ≤ 1 + l.places) i)
  unfolding variables
  variables_found i = in_brackets spell.names (λ xs. length xs ≤ 1 + l.places) (names l) (names_found l) i

  values_found : (i : Input) → Found (values l i) (Plain (λ es. bracketed (spell.expressions es)) (λ es. AllByRecursion (found.Short l.tokens) es × (length es ≤ 1 + l.places)) i)
  unfolding values
  values_found i = in_brackets spell.expressions (λ es. AllByRecursion (found.Short l.tokens) es × (length es ≤ 1 + l.places)) (expressions l) (expressions_found l) i

  guard_found : (i : Input) → Found (guard l i) (Plain (λ e. bracketed (spell.expression e)) (found.Short l.tokens) i)
  unfolding guard
  guard_found i = in_brackets spell.expression (found.Short l.tokens) (expression l.tokens) (expression_found l.tokens) i

  -- ---- what fits

  record Fits (d : ℕ) (q : Item) : Type 0 where
    levelled : LevelledItem q
    within : ItemWithin l q
    depth : item_depth q ≤ d

  record ItemsFit (d : ℕ) (b : Items) : Type 0 where
    levelled : LevelledItems b
    within : ItemsWithin l b
    depth : items_depth b ≤ d

  record BlockFits (d : ℕ) (b : Items) : Type 0 where
    levelled : LevelledItems b
    within : ItemsWithin l b
    depth : items_depth b + 1 ≤ d

  abbrev braced : Items → List Token
  braced b = spell.braced (spell_item.items b)

  abbrev Blocks : ℕ → Parser Items → Type 0
  Blocks d p = (i : Input) → Found (p i) (Spelled braced count_items (BlockFits d) i)

  abbrev begun : Token → Input → Input
  begun k i = at (k ∷ i.rest) i.room (1 + i.statements)

  abbrev IsItem : ℕ → Token → Input → Item → Input → Type 0
  IsItem d k i = Spelled spell_item.item items_in (Fits d) (begun k i)

  -- ---- items without blocks

  stored_pass : (xs es k : List Token) (p : Name) → bracketed xs ++ (t.Mark m.Assign ∷ t.Name p ∷ (bracketed es ++ (t.Mark m.Semi ∷ k))) ≡ t.Mark m.Dot ∷ t.Mark m.LParen ∷ (xs ++ spell.mark m.RParen ++ spell.mark m.Assign ++ spell_item.at_process p es ++ spell.mark m.Semi ++ k)
  stored_pass xs es k p = simp append_assoc refl

  stored_take : (xs k : List Token) (n : ℕ) (p q : Name) → bracketed xs ++ (t.Mark m.Assign ∷ t.Word w.KwBox ∷ t.Num n ∷ t.Mark m.LParen ∷ t.Name p ∷ t.Word w.KwTo ∷ t.Name q ∷ t.Mark m.RParen ∷ t.Mark m.Semi ∷ k) ≡ t.Mark m.Dot ∷ t.Mark m.LParen ∷ (xs ++ spell.mark m.RParen ++ spell.mark m.Assign ++ spell_item.box n p q ++ spell.mark m.Semi ++ k)
  stored_take xs k n p q = simp append_assoc refl

  filled : (es k : List Token) → bracketed es ++ (t.Mark m.Semi ∷ k) ≡ t.Mark m.Dot ∷ t.Mark m.LParen ∷ (es ++ spell.mark m.RParen ++ spell.mark m.Semi ++ k)
  filled es k = simp append_assoc refl

  fill_found : (d : ℕ) (i : Input) → Found (fill l i) (IsItem d (t.Word w.KwBox) i)
  unfolding fill
  fill_found d i =
      found_then _ _ (box_number i) _ (box_found i) (λ n j1 a1.
      found_then _ _ (expect (t.Mark m.LParen) j1) _ (expect_found (t.Mark m.LParen) j1) (λ _ j2 a2.
      found_then _ _ (name j2) _ (name_found j2) (λ p j3 a3.
      found_then _ _ (expect (t.Word w.KwTo) j3) _ (expect_found (t.Word w.KwTo) j3) (λ _ j4 a4.
      found_then _ _ (name j4) _ (name_found j4) (λ q j5 a5.
      found_then _ _ (expect (t.Mark m.RParen) j5) _ (expect_found (t.Mark m.RParen) j5) (λ _ j6 a6.
      found_then _ _ (expect (t.Mark m.Assign) j6) _ (expect_found (t.Mark m.Assign) j6) (λ _ j7 a7.
      found_then _ _ (expect (t.Name p) j7) _ (expect_found (t.Name p) j7) (λ _ j8 a8.
      found_then _ _ (values l j8) _ (values_found j8) (λ es j9 a9.
      found_then _ _ (expect (t.Mark m.Semi) j9) _ (expect_found (t.Mark m.Semi) j9) (λ _ j10 a10.
      found_ok _ (Fill n p q es) j10 (record {
        spelled = simp (a1.spelled, a2.spelled, a3.spelled, a4.spelled, a5.spelled, a6.spelled, a7.spelled, a8.spelled, a9.spelled, a10.spelled) (ap (λ z. t.Word w.KwBox ∷ t.Num n ∷ t.Mark m.LParen ∷ t.Name p ∷ t.Word w.KwTo ∷ t.Name q ∷ t.Mark m.RParen ∷ t.Mark m.Assign ∷ t.Name p ∷ z) (filled (spell.expressions es) j10.rest));
        room = a10.room ∙ a9.room ∙ a8.room ∙ a7.room ∙ a6.room ∙ a5.room ∙ a4.room ∙ a3.room ∙ a2.room ∙ a1.room;
        statements = omega (arith, a1.statements, a2.statements, a3.statements, a4.statements, a5.statements, a6.statements, a7.statements, a8.statements, a9.statements, a10.statements);
        good = record { levelled = (a1.good, all_so _ Levelled (λ e h. h.0) es a9.good.0); within = (a9.good.1, all_so _ (Short l) (λ e h. h.1) es a9.good.0); depth = omega arith };
      })))))))))))

  stored_found : (d : ℕ) (q : Name) (i : Input) → Found (stored l q i) (IsItem d (t.Name q) i)
  unfolding stored take pass
  stored_found d q i =
      found_then _ _ (variables l i) _ (variables_found i) (λ xs j1 a1.
      found_then _ _ (expect (t.Mark m.Assign) j1) _ (expect_found (t.Mark m.Assign) j1) (λ _ j2 a2.
      found_if _ (sees (t.Word w.KwBox) j2) _ _
      (λ h. found_after _ (t.Word w.KwBox) j2 (take q xs) h (λ j3 a3.
      found_then _ _ (box_number j3) _ (box_found j3) (λ n j4 a4.
      found_then _ _ (expect (t.Mark m.LParen) j4) _ (expect_found (t.Mark m.LParen) j4) (λ _ j5 a5.
      found_then _ _ (name j5) _ (name_found j5) (λ p j6 a6.
      found_then _ _ (expect (t.Word w.KwTo) j6) _ (expect_found (t.Word w.KwTo) j6) (λ _ j7 a7.
      found_then _ _ (expect (t.Name q) j7) _ (expect_found (t.Name q) j7) (λ _ j8 a8.
      found_then _ _ (expect (t.Mark m.RParen) j8) _ (expect_found (t.Mark m.RParen) j8) (λ _ j9 a9.
      found_then _ _ (expect (t.Mark m.Semi) j9) _ (expect_found (t.Mark m.Semi) j9) (λ _ j10 a10.
      found_ok _ (Take q xs n p) j10 (record {
        spelled = simp (a1.spelled, a2.spelled, a3.spelled, a4.spelled, a5.spelled, a6.spelled, a7.spelled, a8.spelled, a9.spelled, a10.spelled) (ap (λ z. t.Name q ∷ z) (stored_take (spell.names xs) j10.rest n p q));
        room = a10.room ∙ a9.room ∙ a8.room ∙ a7.room ∙ a6.room ∙ a5.room ∙ a4.room ∙ a3.room ∙ a2.room ∙ a1.room;
        statements = omega (arith, a1.statements, a2.statements, a3.statements, a4.statements, a5.statements, a6.statements, a7.statements, a8.statements, a9.statements, a10.statements);
        good = record { levelled = a4.good; within = a1.good; depth = omega arith };
      }))))))))))
      (λ _.
      found_then _ _ (name j2) _ (name_found j2) (λ p j3 a3.
      found_then _ _ (values l j3) _ (values_found j3) (λ es j4 a4.
      found_then _ _ (expect (t.Mark m.Semi) j4) _ (expect_found (t.Mark m.Semi) j4) (λ _ j5 a5.
      found_ok _ (Pass q xs p es) j5 (record {
        spelled = simp (a1.spelled, a2.spelled, a3.spelled, a4.spelled, a5.spelled) (ap (λ z. t.Name q ∷ z) (stored_pass (spell.names xs) (spell.expressions es) j5.rest p));
        room = a5.room ∙ a4.room ∙ a3.room ∙ a2.room ∙ a1.room;
        statements = omega (arith, a1.statements, a2.statements, a3.statements, a4.statements, a5.statements);
        good = record { levelled = all_so _ Levelled (λ e h. h.0) es a4.good.0; within = (a1.good, a4.good.1, all_so _ (Short l) (λ e h. h.1) es a4.good.0); depth = omega arith };
      })))))))

  -- ---- items with blocks

  guarded_block : (e b k : List Token) → bracketed e ++ (b ++ k) ≡ t.Mark m.Dot ∷ t.Mark m.LParen ∷ (e ++ spell.mark m.RParen ++ b ++ k)
  guarded_block e b k = simp append_assoc refl

  guarded_blocks : (e a b k : List Token) → bracketed e ++ (a ++ (t.Word w.KwElse ∷ (b ++ k))) ≡ t.Mark m.Dot ∷ t.Mark m.LParen ∷ (e ++ spell.mark m.RParen ++ a ++ spell.word w.KwElse ++ b ++ k)
  guarded_blocks e a b k = simp append_assoc refl

  module _ (d : ℕ) (body : Parser Items) (block_found : Blocks d body) where
    choice_found : (i : Input) → Found (choice l body i) (IsItem d (t.Word w.KwIf) i)
    unfolding choice
    choice_found i =
        found_then _ _ (name i) _ (name_found i) (λ p j1 a1.
        found_then _ _ (guard l j1) _ (guard_found j1) (λ e j2 a2.
        found_then _ _ (body j2) _ (block_found j2) (λ a j3 a3.
        found_then _ _ (expect (t.Word w.KwElse) j3) _ (expect_found (t.Word w.KwElse) j3) (λ _ j4 a4.
        found_then _ _ (body j4) _ (block_found j4) (λ b j5 a5.
        found_ok _ (If p e a b) j5 (record {
          spelled = simp (a1.spelled, a2.spelled, a3.spelled, a4.spelled, a5.spelled) (ap (λ z. t.Word w.KwIf ∷ t.Name p ∷ z) (guarded_blocks (spell.expression e) (braced a) (braced b) j5.rest));
          room = a5.room ∙ a4.room ∙ a3.room ∙ a2.room ∙ a1.room;
          statements = omega (arith, a1.statements, a2.statements, a3.statements, a4.statements, a5.statements);
          good = record { levelled = (a2.good.0, a3.good.levelled, a5.good.levelled); within = (a2.good.1, a3.good.within, a5.good.within); depth = omega (arith, a3.good.depth, a5.good.depth) };
        }))))))

    while_found : (i : Input) → Found (while_loop l body i) (IsItem d (t.Word w.KwWhile) i)
    unfolding while_loop
    while_found i =
        found_then _ _ (name i) _ (name_found i) (λ p j1 a1.
        found_then _ _ (guard l j1) _ (guard_found j1) (λ e j2 a2.
        found_then _ _ (body j2) _ (block_found j2) (λ b j3 a3.
        found_ok _ (While p e b) j3 (record {
          spelled = simp (a1.spelled, a2.spelled, a3.spelled) (ap (λ z. t.Word w.KwWhile ∷ t.Name p ∷ z) (guarded_block (spell.expression e) (braced b) j3.rest));
          room = a3.room ∙ a2.room ∙ a1.room;
          statements = omega (arith, a1.statements, a2.statements, a3.statements);
          good = record { levelled = (a2.good.0, a3.good.levelled); within = (a2.good.1, a3.good.within); depth = a3.good.depth };
        }))))

    -- a loop over a set, as it is spelled behind its first word
    over_found : (loop : Name → Items → Item) (k : Token) (i : Input) → ((s : Name) (b : Items) (z : List Token) → spell_item.item (loop s b) ++ z ≡ k ∷ t.Name s ∷ (braced b ++ z)) → ((s : Name) (b : Items) → items_in (loop s b) ≡ 1 + count_items b) → ((s : Name) (b : Items) → BlockFits d b → Fits d (loop s b))
        → Found (over loop body i) (IsItem d k i)
    unfolding over
    over_found loop k i spells counts fits =
        found_then _ _ (name i) _ (name_found i) (λ s j1 a1.
        found_then _ _ (body j1) _ (block_found j1) (λ b j2 a2.
        found_ok _ (loop s b) j2 (record {
          spelled = simp (a1.spelled, a2.spelled) (sym (spells s b j2.rest));
          room = a2.room ∙ a1.room;
          statements = omega (arith, a1.statements, a2.statements, counts s b);
          good = fits s b a2.good;
        })))

    any_found : (i : Input) → Found (over ForAny body i) (Spelled spell_item.item items_in (Fits d) (at (t.Word w.KwFor ∷ t.Word w.KwAny ∷ i.rest) i.room (1 + i.statements)))
    unfolding over
    any_found i =
        found_then _ _ (name i) _ (name_found i) (λ s j1 a1.
        found_then _ _ (body j1) _ (block_found j1) (λ b j2 a2.
        found_ok _ (ForAny s b) j2 (record {
          spelled = simp (a1.spelled, a2.spelled) refl;
          room = a2.room ∙ a1.room;
          statements = omega (arith, a1.statements, a2.statements);
          good = record { levelled = a2.good.levelled; within = a2.good.within; depth = a2.good.depth };
        })))

    for_found : (i : Input) → Found (for_loop body i) (IsItem d (t.Word w.KwFor) i)
    unfolding for_loop
    for_found i =
        found_if _ (sees (t.Word w.KwAny) i) _ _
        (λ h. found_after _ (t.Word w.KwAny) i (over ForAny body) h (λ j a.
        found_so _ _ (over ForAny body j) (λ q j2 b. record {
          spelled = ap (λ z. t.Word w.KwFor ∷ z) a.spelled ∙ b.spelled;
          room = b.room ∙ a.room;
          statements = omega (arith, a.statements, b.statements);
          good = b.good;
        }) (any_found j)))
        (λ _. over_found For (t.Word w.KwFor) i (λ s b z. refl) (λ s b. refl) (λ s b h. record { levelled = h.levelled; within = h.within; depth = h.depth }))

    by_found : (k : Token) (i : Input) → Found (item_by l body (Some k) i) (IsItem d k i)
    by_found (t.Name q) i = stored_found d q i
    by_found (t.Word w.KwBox) i = fill_found d i
    by_found (t.Word w.KwIf) i = choice_found i
    by_found (t.Word w.KwWhile) i = while_found i
    by_found (t.Word w.KwFor) i = for_found i
    by_found (t.Word w.KwPick) i = over_found Pick (t.Word w.KwPick) i (λ s b z. refl) (λ s b. refl) (λ s b h. record { levelled = h.levelled; within = h.within; depth = h.depth })
    by_found (t.Word w.KwRepeat) i = over_found Repeat (t.Word w.KwRepeat) i (λ s b z. refl) (λ s b. refl) (λ s b h. record { levelled = h.levelled; within = h.within; depth = h.depth })
    by_found _ i = found_err _ _

    item_at : (rest : List Token) (r n : ℕ) → Found (item l body (at rest r n)) (Spelled spell_item.item items_in (Fits d) (at rest r n))
    unfolding item
    item_at [] r n = found_err _ _
    item_at (k ∷ rest) r n =
        found_if _ (begins_item (Some k)) _ _
        (λ _. found_then _ _ (count (at (k ∷ rest) r n)) _ (count_found (at (k ∷ rest) r n)) (λ _ j a.
        found_so _ _ (item_by l body (Some k) (after j)) (λ s j2 b. record {
          spelled = ap (λ l. k ∷ drop 1 l) (sym a.0) ∙ b.spelled;
          room = b.room ∙ a.1;
          statements = a.2 ∙ b.statements;
          good = b.good;
        }) (by_found k (after j))))
        (λ _. found_err _ _)

    item_found : (i : Input) → Found (item l body i) (Spelled spell_item.item items_in (Fits d) i)
    item_found i = item_at i.rest i.room i.statements

    items_found : (i : Input) → Found (items l body i) (Spelled spell_item.items count_items (ItemsFit d) i)
    items_found i =
        let joins : Joins spell_item.item items_in (Fits d) begins_item (item l body) item_found nothing (λ q b. q ⨟ b) spell_item.items count_items (λ _. ItemsFit d) = record {
          spelled_end = refl;
          spelled_joint = λ q b. refl;
          used_end = refl;
          used_joint = λ q b. refl;
          good_end = λ n. record { levelled = tt; within = tt; depth = omega arith };
          good_joint = λ n q b x y. record { levelled = (x.levelled, y.levelled); within = (x.within, y.within); depth = omega (arith, x.depth, y.depth) };
        } in
        many_found spell_item.item items_in (Fits d) begins_item (item l body) item_found nothing (λ q b. q ⨟ b) spell_item.items count_items (λ _. ItemsFit d) joins l.statements i

  block_of_items_found : (d : ℕ) → Blocks d (block l d)
  unfolding block
  block_of_items_found zero i = found_if _ (sees (t.Mark m.LBrace) i) _ _ (λ _. found_err _ _) (λ _. found_err _ _)
  block_of_items_found (suc d) i =
      found_then _ _ (expect (t.Mark m.LBrace) i) _ (expect_found (t.Mark m.LBrace) i) (λ _ j1 a1.
      found_then _ _ (items l (block l d) j1) _ (items_found d (block l d) (block_of_items_found d) j1) (λ c j2 a2.
      found_then _ _ (expect (t.Mark m.RBrace) j2) _ (expect_found (t.Mark m.RBrace) j2) (λ _ j3 a3.
      found_ok _ c j3 (record {
        spelled = simp (a1.spelled, a2.spelled, a3.spelled, append_assoc) refl;
        room = a3.room ∙ a2.room ∙ a1.room;
        statements = omega (arith, a1.statements, a2.statements, a3.statements);
        good = record { levelled = a2.good.levelled; within = a2.good.within; depth = omega (arith, a2.good.depth) };
      }))))

  -- ---- roles and programs

  abbrev OutlineFits : RoleText → Type 0
  OutlineFits r = LevelledOutline r × (length r.decls ≤ l.declarations)

  -- the role has this head, and no code
  record IsOutline (x : Name) (is_many is_nonempty : Bool) (r : RoleText) : Type 0 where
    name : r.name ≡ x
    many : r.many ≡ is_many
    nonempty : r.nonempty ≡ is_nonempty
    code : r.code ≡ done
    decls : length r.decls ≤ l.declarations

  abbrev with : Token → Input → Input
  with k i = at (k ∷ i.rest) i.room i.statements

  abbrev spelled_block : RoleText → List Token
  spelled_block r = spell.mark m.LBrace ++ spell.all_of spell.declaration r.decls ++ spell.code r.code ++ spell.mark m.RBrace

  outline_found : (x : Name) (is_many is_nonempty : Bool) (i : Input) → Found (outline l x is_many is_nonempty i) (Plain spelled_block (IsOutline x is_many is_nonempty) i)
  unfolding outline
  outline_found x is_many is_nonempty i =
      found_then _ _ (expect (t.Mark m.LBrace) i) _ (expect_found (t.Mark m.LBrace) i) (λ _ j1 a1.
      found_then _ _ (list_of begins_declaration declaration l.declarations j1) _ (plain (spell.all_of spell.declaration) _ _ (list_of begins_declaration declaration l.declarations j1) j1 (λ ds h. h.1) (list_found spell.declaration (λ _. 0) Any begins_declaration declaration (λ i. declaration_at i.rest i.room i.statements) l.declarations j1)) (λ ds j2 a2.
      found_then _ _ (expect (t.Mark m.RBrace) j2) _ (expect_found (t.Mark m.RBrace) j2) (λ _ j3 a3.
      found_ok _ _ j3 (record {
        spelled = simp (a1.spelled, a2.spelled, a3.spelled) (ap (λ z. t.Mark m.LBrace ∷ z) (parts3 (spell.all_of spell.declaration ds) [] (spell.mark m.RBrace) j3.rest));
        room = a3.room ∙ a2.room ∙ a1.room;
        statements = omega (arith, a1.statements, a2.statements, a3.statements);
        good = record { name = refl; many = refl; nonempty = refl; code = refl; decls = a2.good };
      }))))

  absurd_many : (r : RoleText) → r.many ≡ true → r.many ≡ false → ⊥
  absurd_many r h g = cc

  single_found : (i : Input) → Found (single_role l i) (Plain spell.role OutlineFits (with (t.Word w.KwOne) i))
  unfolding single_role
  single_found i =
      found_then _ _ (name i) _ (name_found i) (λ x j1 a1.
      found_so _ _ (outline l x false false j1) (λ r j2 a2. record {
        spelled = simp (a1.spelled, a2.spelled, a2.good.name, a2.good.many) refl;
        room = a2.room ∙ a1.room;
        statements = omega (arith, a1.statements, a2.statements);
        good = ((λ _. a2.good.nonempty, a2.good.code), a2.good.decls);
      }) (outline_found x false false j1))

  set_found : (i : Input) → Found (set_role l i) (Plain spell.role OutlineFits (with (t.Word w.KwMany) i))
  unfolding set_role
  set_found i =
      found_then _ _ (name i) _ (name_found i) (λ x j1 a1.
      found_then _ _ (flag (t.Word w.KwNonempty) j1) _ (flag_found w.KwNonempty j1) (λ is_nonempty j2 a2.
      found_so _ _ (outline l x true is_nonempty j2) (λ r j3 a3. record {
        spelled = simp (a1.spelled, a2.spelled, a3.spelled, a3.good.name, a3.good.many, a3.good.nonempty) (ap (λ l. t.Word w.KwMany ∷ t.Name x ∷ l) (parts5 (spell.flag w.KwNonempty is_nonempty) (spell.mark m.LBrace) (spell.all_of spell.declaration r.decls) (spell.code r.code) (spell.mark m.RBrace) j3.rest));
        room = a3.room ∙ a2.room ∙ a1.room;
        statements = omega (arith, a1.statements, a2.statements, a3.statements);
        good = ((λ h. absurd (absurd_many r a3.good.many h), a3.good.code), a3.good.decls);
      }) (outline_found x true is_nonempty j2)))

  role_at : (rest : List Token) (r n : ℕ) → Found (role l (at rest r n)) (Plain spell.role OutlineFits (at rest r n))
  unfolding role
  role_at [] r n = found_err _ _
  role_at (t.Word w.KwOne ∷ rest) r n = single_found (at rest r n)
  role_at (t.Word w.KwMany ∷ rest) r n = set_found (at rest r n)
  role_at (_ ∷ rest) r n = found_err _ _

  -- all but the number of items
  pub record ProgramFits (P : SeqProgram) : Type 0 where
    pub levelled : LevelledSequence P
    pub enums : length P.enums ≤ l.enums
    pub each_enum : AllByRecursion (EnumWithin l) P.enums
    pub roles : length P.roles ≤ l.roles
    pub each_role : AllByRecursion (λ r. length r.decls ≤ l.declarations) P.roles
    pub body : ItemsWithin l P.body
    pub nesting : items_depth P.body ≤ l.nesting

  abbrev pub body_items : SeqProgram → ℕ
  body_items P = count_items P.body

  pub whole_found : (i : Input) → Found (whole l i) (Spelled sequence_spelling body_items ProgramFits i)
  unfolding whole
  whole_found i =
      found_then _ _ (list_of begins_enumeration (enumeration l) l.enums i) _ (plain (spell.all_of spell.enumeration) _ _ (list_of begins_enumeration (enumeration l) l.enums i) i (λ es h. h) (list_found spell.enumeration (λ _. 0) (EnumFits l) begins_enumeration (enumeration l) (enumeration_found l) l.enums i)) (λ es j1 a1.
      found_then _ _ (list_of begins_role (role l) l.roles j1) _ (plain (spell.all_of spell.role) _ _ (list_of begins_role (role l) l.roles j1) j1 (λ rs h. h) (list_found spell.role (λ _. 0) OutlineFits begins_role (role l) (λ i. role_at i.rest i.room i.statements) l.roles j1)) (λ rs j2 a2.
      found_then _ _ (expect (t.Word w.KwBegin) j2) _ (expect_found (t.Word w.KwBegin) j2) (λ _ j3 a3.
      found_then _ _ (items l (block l l.nesting) j3) _ (items_found l.nesting (block l l.nesting) (block_of_items_found l.nesting) j3) (λ b j4 a4.
      found_then _ _ (expect (t.Word w.KwEnd) j4) _ (expect_found (t.Word w.KwEnd) j4) (λ _ j5 a5.
      found_ok _ _ j5 (record {
        spelled = simp (a1.spelled, a2.spelled, a3.spelled, a4.spelled, a5.spelled) (sequence_parts (spell.all_of spell.enumeration es) (spell.all_of spell.role rs) (spell_item.items b) j5.rest);
        room = a5.room ∙ a4.room ∙ a3.room ∙ a2.room ∙ a1.room;
        statements = omega (arith, a1.statements, a2.statements, a3.statements, a4.statements, a5.statements);
        good = record {
          levelled = record { enums = all_so _ HasTags (λ e h. h.0) es a1.good.0; roles = all_so _ LevelledOutline (λ r h. h.0) rs a2.good.0; body = a4.good.levelled };
          enums = a1.good.1;
          each_enum = all_so _ (EnumWithin l) (λ e h. h.1) es a1.good.0;
          roles = a2.good.1;
          each_role = all_so _ _ (λ r h. h.1) rs a2.good.0;
          body = a4.good.within;
          nesting = a4.good.depth;
        };
      }))))))

-- what is read is within the limits
pub whole_within : (l : Limits) (i : Input) (P : SeqProgram) (j : Input) → i.statements ≤ l.statements → whole l i ≡ Ok (P, j) → SequenceWithin l P
whole_within l i P j le h =
    let a = (whole_found l i).holds P j h in
    record {
      enums = a.good.enums;
      each_enum = a.good.each_enum;
      roles = a.good.roles;
      each_role = a.good.each_role;
      body = a.good.body;
      nesting = a.good.nesting;
      statements = omega (arith, a.statements, le);
    }

-- what is read of a sequential text's tokens is what they denote
pub sequential_found : (tokens : List Placed) (P : SeqProgram) → sequential sequence tokens ≡ Ok P → DenotesSequence tokens P
unfolding sequential
sequential_found tokens P h =
    let e = ended_is (whole sequence (start tokens sequence.statements)) P h in
    let a = (whole_found sequence (start tokens sequence.statements)).holds P e.0 e.1 in
    record {
      spelled = a.spelled ∙ ap (λ l. sequence_spelling P ++ l) e.2 ∙ append-nil (sequence_spelling P);
      levelled = a.good.levelled;
      within = whole_within sequence (start tokens sequence.statements) P e.0 (omega arith) e.1;
    }
