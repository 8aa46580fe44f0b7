-- An item, or items, are read, or stop where they pass a limit first.
use Rattle.std.proofs.Common.{◌≡◌, ℕ, zero, suc, ◌+◌, ◌-◌, ◌≤◌, false, List, [], ◌∷◌, ◌++◌, drop, Ok, Err, refl, sym, ap, subst, ◌∙◌, append_assoc, arith}
use Rattle.std.specs.List.{AllByRecursion}
use Rattle.brisk_values.specs.Names.{Name}
use Rattle.brisk_values.proofs.Changes.{name_laws}
use Rattle.brisk_lex.specs.declared.token.Mark.TheVariants as mk
use Rattle.brisk_lex.specs.declared.token.Word.TheVariants as w
use Rattle.brisk_lex.specs.declared.token.Token.{Token}
use Rattle.brisk_lex.specs.declared.token.Token.TheVariants as t
use Rattle.brisk_seq.specs.Items.{Item, Pass, Fill, Take, If, While, For, ForAny, Pick, Repeat, Items, nothing, ◌⨟◌}
use Rattle.brisk_syntax.specs.Syntax.{Expression}
use Rattle.brisk_parse.specs.declared.fault.Stop.TheVariants.{TooDeep, TooMany}
use Rattle.brisk_parse.specs.Input.{at, first}
use Rattle.brisk_parse.specs.Limits.{Limits}
use Rattle.brisk_parse.specs.Outcomes.{Outcome, and_then}
use Rattle.brisk_parse.specs.Reading.{expect, name, count, many}
use Rattle.brisk_parse.specs.Sequences.{variables, values, guard, fill, take, pass, stored, choice, while_loop, over, for_loop, begins_item, item_by, item, items, block}
use Rattle.brisk_parse.specs.Levelled.{Levelled}
use Rattle.brisk_parse.specs.Passing.{Passing, behind, or_behind, counted}
use Rattle.brisk_parse.specs.Passing as passing
use Rattle.brisk_parse.specs.SequencePassing as pass_item
use Rattle.brisk_parse.specs.SequencePassing.{opened}
use Rattle.brisk_parse.specs.SequenceSpelling.{LevelledItem, LevelledItems, items_in, count_items}
use Rattle.brisk_parse.specs.SequenceSpelling as spell_item
use Rattle.brisk_parse.specs.Spelling as spell
use Rattle.brisk_parse.proofs.Judged.{judged, judged_behind, judged_then, judged_last, one_less, less_in, less_both, less_then, at_once}
use Rattle.brisk_parse.proofs.JudgedExpressions.{expression_judged}
use Rattle.brisk_parse.proofs.JudgedStatements.{names_judged, expressions_judged}
use Rattle.brisk_parse.proofs.OnlyTokens.{count_only}
use Rattle.brisk_parse.proofs.ItemParts as only
use Rattle.brisk_parse.proofs.ItemParts.{box_only, pass_parts, fill_parts, take_parts, while_parts, if_parts, bracketed, braced, item_begins, items_end}

module _ (l : Limits) where
  -- ---- what belongs to a process

  abbrev close : List Token → List Token
  close k = t.Mark mk.RParen ∷ k

  variables_judged : (xs : List Name) (k : List Token) (r n : ℕ) → variables l (at (bracketed (spell.names xs) k) r n) ≡ judged (passing.variables l xs) (spell.names xs ++ close k) (Ok (xs, at k r n))
  unfolding variables expect
  variables_judged xs k r n = rw (names_judged l xs k r n) (judged_last (passing.variables l xs) (spell.names xs ++ close k) xs (at (close k) r n) _ (Ok (xs, at k r n)) refl)

  values_judged : (es : List Expression) (k : List Token) (r n : ℕ) → AllByRecursion Levelled es → values l (at (bracketed (spell.expressions es) k) r n) ≡ judged (passing.expressions l es) (spell.expressions es ++ close k) (Ok (es, at k r n))
  unfolding values expect
  values_judged es k r n good = rw (expressions_judged l es k r n good) (judged_last (passing.expressions l es) (spell.expressions es ++ close k) es (at (close k) r n) _ (Ok (es, at k r n)) refl)

  guard_judged : (e : Expression) (k : List Token) (r n : ℕ) → Levelled e → guard l (at (bracketed (spell.expression e) k) r n) ≡ judged (passing.expression l e) (spell.expression e ++ close k) (Ok (e, at k r n))
  unfolding guard expect
  guard_judged e k r n levelled = rw (expression_judged l.tokens e (close k) r n levelled refl) (judged_last (passing.expression l e) (spell.expression e ++ close k) e (at (close k) r n) _ (Ok (e, at k r n)) refl)

  -- ---- blocks

  -- the items are read as far as they pass no limit, where d blocks may nest
  abbrev ItemsJudged : ℕ → Items → Type 0
  ItemsJudged d b = (k : List Token) (r n : ℕ) → begins_item (first k) ≡ false → n ≤ l.statements → items l (block l d) (at (spell_item.items b ++ k) r n) ≡ judged (pass_item.items l d n b) (spell_item.items b ++ k) (Ok (b, at k r (n - count_items b)))

  abbrev inner : ℕ → ℕ → Items → Passing
  inner d n b = passing.block d (pass_item.items l (d - 1) n b)

  abbrev in_braces : Items → List Token
  in_braces b = spell.braced (spell_item.items b)

  block_judged : (d : ℕ) (b : Items) → ((d : ℕ) → ItemsJudged d b) → (k : List Token) (r n : ℕ) → n ≤ l.statements → block l d (at (braced b k) r n) ≡ judged (inner d n b) (braced b k) (Ok (b, at k r (n - count_items b)))
  unfolding block expect
  block_judged zero b read k r n le = ap (λ n. Err (TooDeep n)) (at_once (braced b k))
  block_judged (suc d) b read k r n le =
      let less : suc d - 1 ≡ d = omega arith in
      let next = t.Mark mk.RBrace ∷ k in
      rw (less, read d next r n refl le)
      (judged_last (pass_item.items l d n b) (spell_item.items b ++ next) b (at next r (n - count_items b)) (λ b i. and_then (expect (t.Mark mk.RBrace) i) (λ _ i. Ok (b, i))) (Ok (b, at k r (n - count_items b))) refl
      ∙ judged_behind (pass_item.items l d n b) (spell.mark mk.LBrace) (spell_item.items b ++ next) (Ok (b, at k r (n - count_items b))))

  cut : (b : Items) (k : List Token) → braced b k ≡ in_braces b ++ k
  cut b k = ap (λ z. t.Mark mk.LBrace ∷ z) (sym (append_assoc (spell_item.items b) (spell.mark mk.RBrace) k))

  -- a block, and then the item that it ends
  ends_item : (d n : ℕ) (b : Items) (q : Items → Item) (k : List Token) (r m : ℕ) (o : Outcome Items) → o ≡ judged (inner d n b) (braced b k) (Ok (b, at k r m)) → and_then o (λ b i. Ok (q b, i)) ≡ judged (inner d n b) (braced b k) (Ok (q b, at k r m))
  ends_item d n b q k r m o h = ap (λ o. and_then o (λ b i. Ok (q b, i))) h ∙ judged_last (inner d n b) (braced b k) b (at k r m) (λ b i. Ok (q b, i)) (Ok (q b, at k r m)) refl

  -- ---- items

  abbrev Inside : ℕ → Item → Type 0
  Inside d q = (k : List Token) (r n : ℕ) → suc n ≤ l.statements
      → item_by l (block l d) (first (spell_item.item q ++ k)) (at (drop 1 (spell_item.item q ++ k)) r n) ≡ judged (pass_item.item l d n q) (spell_item.item q ++ k) (Ok (q, at k r (suc n - items_in q)))

  item_from : (d : ℕ) (q : Item) → Inside d q → (k : List Token) (r n : ℕ) → n ≤ l.statements → item l (block l d) (at (spell_item.item q ++ k) r n) ≡ judged (counted n (λ n. pass_item.item l d n q)) (spell_item.item q ++ k) (Ok (q, at k r (n - items_in q)))
  unfolding item count
  item_from d q inside k r zero le = rw (item_begins q k) (ap (λ n. Err (TooMany n)) (at_once (spell_item.item q ++ k)))
  item_from d q inside k r (suc n) le = rw (item_begins q k, count_only (spell_item.item q ++ k) r (suc n) n (omega arith)) (inside k r n le)

  -- the same of the same tokens, grouped otherwise
  regrouped : (d : ℕ) (q : Item) (k z : List Token) (r n : ℕ) → spell_item.item q ++ k ≡ z
      → item_by l (block l d) (first z) (at (drop 1 z) r n) ≡ judged (pass_item.item l d n q) z (Ok (q, at k r (suc n - items_in q)))
      → item_by l (block l d) (first (spell_item.item q ++ k)) (at (drop 1 (spell_item.item q ++ k)) r n) ≡ judged (pass_item.item l d n q) (spell_item.item q ++ k) (Ok (q, at k r (suc n - items_in q)))
  regrouped d q k z r n e h = subst (λ z. item_by l (block l d) (first z) (at (drop 1 z) r n) ≡ judged (pass_item.item l d n q) z (Ok (q, at k r (suc n - items_in q)))) (sym e) h

  -- an item where none may begin
  items_full : (d : ℕ) (q : Item) (b : Items) (k : List Token) (r n : ℕ) → n ≤ 0
      → many begins_item (item l (block l d)) nothing (λ q b. q ⨟ b) zero (at (spell_item.items (q ⨟ b) ++ k) r n) ≡ judged (pass_item.items l d n (q ⨟ b)) (spell_item.items (q ⨟ b) ++ k) (Ok (q ⨟ b, at k r (n - count_items (q ⨟ b))))
  unfolding many
  items_full d q b k r zero le = rw (append_assoc (spell_item.item q) (spell_item.items b) k, item_begins q (spell_item.items b ++ k)) (ap (λ n. Err (TooMany n)) (at_once (spell_item.item q ++ (spell_item.items b ++ k))))
  items_full d q b k r (suc n) le = absurd (omega (arith, le))

  -- an item where one may begin
  items_step : (d m : ℕ) (q : Item) (b : Items) (k : List Token) (r n : ℕ)
      → many begins_item (item l (block l d)) nothing (λ q b. q ⨟ b) (suc m) (at (spell_item.items (q ⨟ b) ++ k) r n)
      ≡ and_then (item l (block l d) (at (spell_item.item q ++ (spell_item.items b ++ k)) r n)) (λ q i. and_then (many begins_item (item l (block l d)) nothing (λ q b. q ⨟ b) m i) (λ b i. Ok (q ⨟ b, i)))
  unfolding many
  items_step d m q b k r n = rw (append_assoc (spell_item.item q) (spell_item.items b) k, item_begins q (spell_item.items b ++ k)) refl

  mutual
    unfolding stored take pass fill choice while_loop over for_loop expect name

    inside_judged : (d : ℕ) (q : Item) → LevelledItem q → Inside d q
    inside_judged d (Pass q xs p es) levelled k r n le =
        let last = t.Mark mk.Semi ∷ k in
        let fixed = t.Mark mk.RParen ∷ t.Mark mk.Assign ∷ t.Name p ∷ t.Mark mk.Dot ∷ t.Mark mk.LParen ∷ [] in
        let second = spell.expressions es ++ close last in
        let next = t.Mark mk.Assign ∷ t.Name p ∷ bracketed (spell.expressions es) last in
        let more = behind fixed (passing.expressions l es) in
        regrouped d (Pass q xs p es) k _ r n (pass_parts (spell.names xs) (spell.expressions es) k q p)
        (rw (variables_judged xs next r n) (judged_then (passing.variables l xs) more (spell.names xs) (fixed ++ second) xs (at next r n) _ (Ok (Pass q xs p es, at k r (suc n - 1)))
        (ap (λ o. and_then o (λ es i. and_then (expect (t.Mark mk.Semi) i) (λ _ i. Ok (Pass q xs p es, i)))) (values_judged es last r n levelled)
        ∙ judged_last (passing.expressions l es) second es (at last r n) (λ es i. and_then (expect (t.Mark mk.Semi) i) (λ _ i. Ok (Pass q xs p es, i))) _ (ap (λ n. Ok (Pass q xs p es, at k r n)) (one_less n))
        ∙ judged_behind (passing.expressions l es) fixed second _)
        ∙ judged_behind (or_behind (passing.variables l xs) (spell.names xs) more) (spell.name q ++ opened) (spell.names xs ++ (fixed ++ second)) _))
    inside_judged d (Fill x p q es) levelled k r n le =
        let last = t.Mark mk.Semi ∷ k in
        let text = spell.expressions es ++ close last in
        regrouped d (Fill x p q es) k _ r n (fill_parts (spell.expressions es) k x p q)
        (rw (box_only x (t.Mark mk.LParen ∷ t.Name p ∷ t.Word w.KwTo ∷ t.Name q ∷ t.Mark mk.RParen ∷ t.Mark mk.Assign ∷ t.Name p ∷ bracketed (spell.expressions es) last) r n levelled.0, name_laws.refl p, values_judged es last r n levelled.1)
        (judged_last (passing.expressions l es) text es (at last r n) _ (Ok (Fill x p q es, at k r (suc n - 1))) (ap (λ n. Ok (Fill x p q es, at k r n)) (one_less n))
        ∙ judged_behind (passing.expressions l es) (spell_item.box x p q ++ spell.mark mk.Assign ++ spell.name p ++ opened) text _))
    inside_judged d (Take q xs x p) levelled k r n le =
        let boxed = t.Num x ∷ t.Mark mk.LParen ∷ t.Name p ∷ t.Word w.KwTo ∷ t.Name q ∷ t.Mark mk.RParen ∷ t.Mark mk.Semi ∷ k in
        let next = t.Mark mk.Assign ∷ t.Word w.KwBox ∷ boxed in
        regrouped d (Take q xs x p) k _ r n (take_parts (spell.names xs) k x q p)
        (rw (variables_judged xs next r n) (judged_last (passing.variables l xs) (spell.names xs ++ close next) xs (at next r n) _ (Ok (Take q xs x p, at k r (suc n - 1))) (rw (box_only x (drop 1 boxed) r n levelled, name_laws.refl q) (ap (λ n. Ok (Take q xs x p, at k r n)) (one_less n)))
        ∙ judged_behind (passing.variables l xs) (spell.name q ++ opened) (spell.names xs ++ close next) _))
    inside_judged d (If p e a b) levelled k r n le =
        let middle = n - count_items a in
        let last = t.Word w.KwElse ∷ braced b k in
        let one = block_judged d a (λ d k r n h le. items_judged d l.statements a k r n levelled.1 h (omega (arith, le)) le) last r n (omega (arith, le)) in
        let two = block_judged d b (λ d k r n h le. items_judged d l.statements b k r n levelled.2 h (omega (arith, le)) le) k r middle (omega (arith, le)) in
        let second = behind (spell.word w.KwElse) (inner d middle b) in
        let blocks = or_behind (inner d n a) (in_braces a) second in
        let more = behind (spell.mark mk.RParen) blocks in
        regrouped d (If p e a b) k _ r n (if_parts (spell.expression e) (spell_item.items a) (spell_item.items b) k p)
        (rw (guard_judged e (braced a last) r n levelled.0) (judged_then (passing.expression l e) more (spell.expression e) (close (braced a last)) e (at (braced a last) r n) _ (Ok (If p e a b, at k r (suc n - (1 + count_items a + count_items b))))
        (ap (λ o. and_then o (λ a i. and_then (expect (t.Word w.KwElse) i) (λ _ i. and_then (block l d i) (λ b i. Ok (If p e a b, i))))) (one ∙ ap (λ z. judged (inner d n a) z (Ok (a, at last r middle))) (cut a last))
        ∙ judged_then (inner d n a) second (in_braces a) last a (at last r middle) (λ a i. and_then (expect (t.Word w.KwElse) i) (λ _ i. and_then (block l d i) (λ b i. Ok (If p e a b, i)))) (Ok (If p e a b, at k r (suc n - (1 + count_items a + count_items b))))
        (ends_item d middle b (λ b. If p e a b) k r (middle - count_items b) (block l d (at (braced b k) r middle)) two
        ∙ ap (λ n. judged (inner d middle b) (braced b k) (Ok (If p e a b, at k r n))) (less_both n (count_items a) (count_items b))
        ∙ judged_behind (inner d middle b) (spell.word w.KwElse) (braced b k) _)
        ∙ ap (λ z. judged blocks z (Ok (If p e a b, at k r (suc n - (1 + count_items a + count_items b))))) (sym (cut a last))
        ∙ judged_behind blocks (spell.mark mk.RParen) (braced a last) _)
        ∙ judged_behind (or_behind (passing.expression l e) (spell.expression e) more) (spell.word w.KwIf ++ spell.name p ++ opened) (spell.expression e ++ close (braced a last)) _))
    inside_judged d (While p e b) levelled k r n le =
        let read = block_judged d b (λ d k r n h le. items_judged d l.statements b k r n levelled.1 h (omega (arith, le)) le) k r n (omega (arith, le)) in
        let more = behind (spell.mark mk.RParen) (inner d n b) in
        regrouped d (While p e b) k _ r n (while_parts (spell.expression e) (spell_item.items b) k p)
        (rw (guard_judged e (braced b k) r n levelled.0) (judged_then (passing.expression l e) more (spell.expression e) (close (braced b k)) e (at (braced b k) r n) _ (Ok (While p e b, at k r (suc n - (1 + count_items b))))
        (ends_item d n b (λ b. While p e b) k r (n - count_items b) (block l d (at (braced b k) r n)) read
        ∙ ap (λ n'. judged (inner d n b) (braced b k) (Ok (While p e b, at k r n'))) (less_in n (count_items b))
        ∙ judged_behind (inner d n b) (spell.mark mk.RParen) (braced b k) _)
        ∙ judged_behind (or_behind (passing.expression l e) (spell.expression e) more) (spell.word w.KwWhile ++ spell.name p ++ opened) (spell.expression e ++ close (braced b k)) _))
    inside_judged d (For s b) levelled k r n le =
        let read = block_judged d b (λ d k r n h le. items_judged d l.statements b k r n levelled h (omega (arith, le)) le) k r n (omega (arith, le)) in
        rw (append_assoc (spell_item.items b) (spell.mark mk.RBrace) k)
        (ends_item d n b (λ b. For s b) k r (n - count_items b) (block l d (at (braced b k) r n)) read
        ∙ ap (λ n'. judged (inner d n b) (braced b k) (Ok (For s b, at k r n'))) (less_in n (count_items b))
        ∙ judged_behind (inner d n b) (spell.word w.KwFor ++ spell.name s) (braced b k) _)
    inside_judged d (ForAny s b) levelled k r n le =
        let read = block_judged d b (λ d k r n h le. items_judged d l.statements b k r n levelled h (omega (arith, le)) le) k r n (omega (arith, le)) in
        rw (append_assoc (spell_item.items b) (spell.mark mk.RBrace) k)
        (ends_item d n b (λ b. ForAny s b) k r (n - count_items b) (block l d (at (braced b k) r n)) read
        ∙ ap (λ n'. judged (inner d n b) (braced b k) (Ok (ForAny s b, at k r n'))) (less_in n (count_items b))
        ∙ judged_behind (inner d n b) (spell.word w.KwFor ++ spell.word w.KwAny ++ spell.name s) (braced b k) _)
    inside_judged d (Pick s b) levelled k r n le =
        let read = block_judged d b (λ d k r n h le. items_judged d l.statements b k r n levelled h (omega (arith, le)) le) k r n (omega (arith, le)) in
        rw (append_assoc (spell_item.items b) (spell.mark mk.RBrace) k)
        (ends_item d n b (λ b. Pick s b) k r (n - count_items b) (block l d (at (braced b k) r n)) read
        ∙ ap (λ n'. judged (inner d n b) (braced b k) (Ok (Pick s b, at k r n'))) (less_in n (count_items b))
        ∙ judged_behind (inner d n b) (spell.word w.KwPick ++ spell.name s) (braced b k) _)
    inside_judged d (Repeat s b) levelled k r n le =
        let read = block_judged d b (λ d k r n h le. items_judged d l.statements b k r n levelled h (omega (arith, le)) le) k r n (omega (arith, le)) in
        rw (append_assoc (spell_item.items b) (spell.mark mk.RBrace) k)
        (ends_item d n b (λ b. Repeat s b) k r (n - count_items b) (block l d (at (braced b k) r n)) read
        ∙ ap (λ n'. judged (inner d n b) (braced b k) (Ok (Repeat s b, at k r n'))) (less_in n (count_items b))
        ∙ judged_behind (inner d n b) (spell.word w.KwRepeat ++ spell.name s) (braced b k) _)

    -- where at most m turns are left, and no more items may begin
    pub items_judged : (d m : ℕ) (b : Items) (k : List Token) (r n : ℕ) → LevelledItems b → begins_item (first k) ≡ false → n ≤ m → n ≤ l.statements
        → many begins_item (item l (block l d)) nothing (λ q b. q ⨟ b) m (at (spell_item.items b ++ k) r n) ≡ judged (pass_item.items l d n b) (spell_item.items b ++ k) (Ok (b, at k r (n - count_items b)))
    items_judged d m nothing k r n levelled h less le = items_end (item l (block l d)) m k r n h ∙ ap (λ n. Ok (nothing, at k r n)) (omega arith)
    items_judged d zero (q ⨟ b) k r n levelled h less le = items_full d q b k r n less
    items_judged d (suc m) (q ⨟ b) k r n levelled h less le =
        let one = item_from d q (inside_judged d q levelled.0) (spell_item.items b ++ k) r n le in
        let left = n - items_in q in
        let more = items_judged d m b k r left levelled.1 h (omega (arith, less, only.counted q)) (omega (arith, le)) in
        items_step d m q b k r n ∙ ap (λ o. and_then o (λ q i. and_then (many begins_item (item l (block l d)) nothing (λ q b. q ⨟ b) m i) (λ b i. Ok (q ⨟ b, i)))) one
        ∙ judged_then (counted n (λ n. pass_item.item l d n q)) (pass_item.items l d left b) (spell_item.item q) (spell_item.items b ++ k) q (at (spell_item.items b ++ k) r left) _ (Ok (q ⨟ b, at k r (n - count_items (q ⨟ b))))
        (ap (λ o. and_then o (λ b i. Ok (q ⨟ b, i))) more
        ∙ judged_last (pass_item.items l d left b) (spell_item.items b ++ k) b (at k r (left - count_items b)) (λ b i. Ok (q ⨟ b, i)) _ (ap (λ n. Ok (q ⨟ b, at k r n)) (less_then n (items_in q) (count_items b))))
        ∙ ap (λ z. judged (pass_item.items l d n (q ⨟ b)) z (Ok (q ⨟ b, at k r (n - count_items (q ⨟ b))))) (sym (append_assoc (spell_item.item q) (spell_item.items b) k))
