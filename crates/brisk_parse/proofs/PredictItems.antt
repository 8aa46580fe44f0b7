-- Items and their blocks predict.
use Rattle.std.proofs.Common.{◌≡◌, ℕ, zero, suc, true, false, nat_le, List, [], ◌∷◌, length, if◌then◌else◌, Some, Ok, Err, refl}
use Rattle.brisk_values.specs.Names.{Name}
use Rattle.brisk_lex.specs.declared.token.Mark.TheVariants as mk
use Rattle.brisk_lex.specs.declared.token.Word.TheVariants as w
use Rattle.brisk_lex.specs.declared.token.Token.{Token}
use Rattle.brisk_lex.specs.declared.token.Token.TheVariants as t
use Rattle.brisk_seq.specs.Items.{Item as SeqItem, Pass, Fill, Take, If, While, For, ForAny, Pick, Repeat, Items, nothing, ◌⨟◌}
use Rattle.brisk_parse.specs.declared.fault.Stop.TheVariants.{Syntax}
use Rattle.brisk_parse.specs.Input.{Input, at, first, after, is_token, sees}
use Rattle.brisk_parse.specs.Limits.{Limits, most_box}
use Rattle.brisk_parse.specs.Outcomes.{Parser, and_then}
use Rattle.brisk_parse.specs.Reading.{expect, name, count, many}
use Rattle.brisk_parse.specs.Sequences.{box_number, variables, values, guard, fill, take, pass, stored, choice, while_loop, over, for_loop, begins_item, item_by, item, items, block}
use Rattle.brisk_parse.proofs.Predictive.{Follow, any, plus, Family, Rule, joined, then_rule, value_rule, Entry, Item, item_rule, item_of}
use Rattle.brisk_parse.proofs.PredictLists.{free, free_gate, counting, count_gate, token_entry, expect_rule, name_rule, many_rule}
use Rattle.brisk_parse.proofs.PredictBlocks as blocks_predict
use Rattle.brisk_parse.proofs.PredictBlocks.{left_brace, right_brace}
use Rattle.brisk_parse.proofs.PredictExpressions.{ends}
use Rattle.brisk_parse.proofs.PredictStatements.{slack, right_paren, only, expression_rule, names_rule, expressions_rule}

-- ---- the number of a box

abbrev is_box : Follow
is_box (Some (t.Num n)) = nat_le n most_box
is_box _ = false

box_refuses : (r n : ℕ) (k : List Token) → is_box (first k) ≡ false → box_number (at k r n) ≡ Err (Syntax (length k))
unfolding box_number
box_refuses r n [] h = refl
box_refuses r n (t.Num x ∷ k) h = rw h refl
box_refuses r n (_ ∷ k) h = refl

box_entry : (u : Token) → is_box (Some u) ≡ true → Entry (λ m. box_number) any u
unfolding box_number
box_entry (t.Num x) h = token_entry (λ m. box_number) (t.Num x) x (λ m r n k. rw h refl)
box_entry _ h = absurd cc

box_rule : Rule any (λ m. box_number) any
box_rule = item_rule is_box (λ m. box_number) any (item_of is_box (λ m. box_number) any box_entry refl (λ m r n k h. box_refuses r n k h) (t.Num 0) refl) any (t.Num 0) refl refl

module _ (l : Limits) where
  -- ---- what belongs to a process

  variables_rule : Rule any (λ m. variables (slack l m)) any
  unfolding variables
  variables_rule =
      then_rule (expect_rule any (t.Mark mk.Dot) refl) (λ _. then_rule (expect_rule any (t.Mark mk.LParen) refl) (λ _. then_rule (names_rule l) (λ xs. then_rule (expect_rule (is_token right_paren) right_paren refl) (λ _. value_rule any xs))))

  values_rule : Rule any (λ m. values (slack l m)) any
  unfolding values
  values_rule =
      then_rule (expect_rule any (t.Mark mk.Dot) refl) (λ _. then_rule (expect_rule any (t.Mark mk.LParen) refl) (λ _. then_rule (expressions_rule l) (λ es. then_rule (expect_rule (is_token right_paren) right_paren refl) (λ _. value_rule any es))))

  guard_rule : Rule any (λ m. guard (slack l m)) any
  unfolding guard
  guard_rule =
      then_rule (expect_rule any (t.Mark mk.Dot) refl) (λ _. then_rule (expect_rule any (t.Mark mk.LParen) refl) (λ _. then_rule (expression_rule l) (λ e. then_rule (expect_rule ends right_paren refl) (λ _. value_rule any e))))

  -- ---- items without blocks

  fill_rule : Rule any (λ m. fill (slack l m)) any
  unfolding fill
  fill_rule =
      then_rule box_rule (λ n. then_rule (expect_rule any (t.Mark mk.LParen) refl) (λ _. then_rule name_rule (λ p. then_rule (expect_rule any (t.Word w.KwTo) refl) (λ _. then_rule name_rule (λ q.
      then_rule (expect_rule any right_paren refl) (λ _. then_rule (expect_rule any (t.Mark mk.Assign) refl) (λ _. then_rule (expect_rule any (t.Name p) refl) (λ _.
      then_rule values_rule (λ es. then_rule (expect_rule any (t.Mark mk.Semi) refl) (λ _. value_rule any (Fill n p q es)))))))))))

  take_rule : (q : Name) (xs : List Name) → Rule any (λ m. take q xs) any
  unfolding take
  take_rule q xs =
      then_rule box_rule (λ n. then_rule (expect_rule any (t.Mark mk.LParen) refl) (λ _. then_rule name_rule (λ p. then_rule (expect_rule any (t.Word w.KwTo) refl) (λ _.
      then_rule (expect_rule any (t.Name q) refl) (λ _. then_rule (expect_rule any right_paren refl) (λ _. then_rule (expect_rule any (t.Mark mk.Semi) refl) (λ _. value_rule any (Take q xs n p))))))))

  -- what a process stores
  abbrev sources : Name → List Name → Family SeqItem
  sources q xs m i = if sees (t.Word w.KwBox) i then take q xs (after i) else pass (slack l m) q xs i

  abbrev begins_source : Follow
  begins_source (Some (t.Word w.KwBox)) = true
  begins_source (Some (t.Name x)) = true
  begins_source _ = false

  source_entry : (q : Name) (xs : List Name) (u : Token) → begins_source (Some u) ≡ true → Entry (sources q xs) any u
  unfolding pass name
  source_entry q xs (t.Word w.KwBox) h = record { gate = free; is_gate = free_gate (t.Word w.KwBox); more = λ m. take q xs; rule = take_rule q xs; is = λ m r n k. refl }
  source_entry q xs (t.Name p) h = record {
    gate = free;
    is_gate = free_gate (t.Name p);
    more = joined (λ m. values (slack l m)) (λ es. joined (λ m. expect (t.Mark mk.Semi)) (λ _ m i. Ok (Pass q xs p es, i)));
    rule = then_rule values_rule (λ es. then_rule (expect_rule any (t.Mark mk.Semi) refl) (λ _. value_rule any (Pass q xs p es)));
    is = λ m r n k. refl;
  }
  source_entry q xs _ h = absurd cc

  source_refuses : (q : Name) (xs : List Name) (m r n : ℕ) (k : List Token) → begins_source (first k) ≡ false → sources q xs m (at k r n) ≡ Err (Syntax (length k))
  unfolding pass name
  source_refuses q xs m r n [] h = refl
  source_refuses q xs m r n (t.Word w.KwBox ∷ k) h = absurd cc
  source_refuses q xs m r n (t.Name x ∷ k) h = absurd cc
  source_refuses q xs m r n (_ ∷ k) h = refl

  source_rule : (q : Name) (xs : List Name) → Rule any (sources q xs) any
  source_rule q xs = item_rule begins_source (sources q xs) any (item_of begins_source (sources q xs) any (source_entry q xs) refl (source_refuses q xs) (t.Name []) refl) any (t.Name []) refl refl

  stored_rule : (q : Name) → Rule any (λ m. stored (slack l m) q) any
  unfolding stored
  stored_rule q = then_rule variables_rule (λ xs. then_rule (expect_rule any (t.Mark mk.Assign) refl) (λ _. source_rule q xs))

  -- ---- items with blocks

  abbrev blocks : ℕ → Family Items
  blocks d m = block (slack l m) (plus d m)

  module _ (d : ℕ) (inner : Item (is_token left_brace) (blocks d) any) where
    block_rule : Rule any (blocks d) any
    block_rule = item_rule (is_token left_brace) (blocks d) any inner any left_brace refl refl

    choice_item : Rule any (λ m. choice (slack l m) (blocks d m)) any
    unfolding choice
    choice_item = then_rule name_rule (λ p. then_rule guard_rule (λ e. then_rule block_rule (λ a. then_rule (expect_rule any (t.Word w.KwElse) refl) (λ _. then_rule block_rule (λ b. value_rule any (If p e a b))))))

    while_item : Rule any (λ m. while_loop (slack l m) (blocks d m)) any
    unfolding while_loop
    while_item = then_rule name_rule (λ p. then_rule guard_rule (λ e. then_rule block_rule (λ b. value_rule any (While p e b))))

    over_rule : (loop : Name → Items → SeqItem) → Rule any (λ m. over loop (blocks d m)) any
    unfolding over
    over_rule loop = then_rule name_rule (λ s. then_rule block_rule (λ b. value_rule any (loop s b)))

    abbrev loops : Family SeqItem
    loops m = for_loop (blocks d m)

    abbrev begins_loop : Follow
    begins_loop (Some (t.Word w.KwAny)) = true
    begins_loop (Some (t.Name x)) = true
    begins_loop _ = false

    loop_entry : (u : Token) → begins_loop (Some u) ≡ true → Entry loops any u
    unfolding for_loop over name
    loop_entry (t.Word w.KwAny) h = record { gate = free; is_gate = free_gate (t.Word w.KwAny); more = λ m. over ForAny (blocks d m); rule = over_rule ForAny; is = λ m r n k. refl }
    loop_entry (t.Name s) h = record {
      gate = free;
      is_gate = free_gate (t.Name s);
      more = joined (blocks d) (λ b m i. Ok (For s b, i));
      rule = then_rule block_rule (λ b. value_rule any (For s b));
      is = λ m r n k. refl;
    }
    loop_entry _ h = absurd cc

    loop_refuses : (m r n : ℕ) (k : List Token) → begins_loop (first k) ≡ false → loops m (at k r n) ≡ Err (Syntax (length k))
    unfolding for_loop over name
    loop_refuses m r n [] h = refl
    loop_refuses m r n (t.Word w.KwAny ∷ k) h = absurd cc
    loop_refuses m r n (t.Name x ∷ k) h = absurd cc
    loop_refuses m r n (_ ∷ k) h = refl

    loop_rule : Rule any loops any
    loop_rule = item_rule begins_loop loops any (item_of begins_loop loops any loop_entry refl loop_refuses (t.Name []) refl) any (t.Name []) refl refl

    abbrev ones : Family SeqItem
    ones m = item (slack l m) (blocks d m)

    counted_first : (i : Input) (p : Parser SeqItem) → and_then (count i) (λ _ j. p (after j)) ≡ and_then (counting 0 i) (λ _. p)
    counted_first i p = elim (count i) as (λ o. and_then o (λ _ j. p (after j)) ≡ and_then (and_then o (λ _ j. Ok (tt, after j))) (λ _. p)) [ Ok x ↦ refl | Err e ↦ refl ]

    entry_of : (u : Token) → begins_item (Some u) ≡ true → Rule any (λ m. item_by (slack l m) (blocks d m) (Some u)) any → Entry ones any u
    unfolding item
    entry_of u b rule = record {
      gate = counting;
      is_gate = count_gate u;
      more = λ m. item_by (slack l m) (blocks d m) (Some u);
      rule = rule;
      is = λ m r n k. rw b (counted_first (at (u ∷ k) r n) (item_by (slack l m) (blocks d m) (Some u)));
    }

    item_entry : (u : Token) → begins_item (Some u) ≡ true → Entry ones any u
    item_entry (t.Name q) h = entry_of (t.Name q) refl (stored_rule q)
    item_entry (t.Word w.KwBox) h = entry_of (t.Word w.KwBox) refl fill_rule
    item_entry (t.Word w.KwIf) h = entry_of (t.Word w.KwIf) refl choice_item
    item_entry (t.Word w.KwWhile) h = entry_of (t.Word w.KwWhile) refl while_item
    item_entry (t.Word w.KwFor) h = entry_of (t.Word w.KwFor) refl loop_rule
    item_entry (t.Word w.KwPick) h = entry_of (t.Word w.KwPick) refl (over_rule Pick)
    item_entry (t.Word w.KwRepeat) h = entry_of (t.Word w.KwRepeat) refl (over_rule Repeat)
    item_entry _ h = absurd cc

    item_refuses : (m r n : ℕ) (k : List Token) → begins_item (first k) ≡ false → ones m (at k r n) ≡ Err (Syntax (length k))
    unfolding item
    item_refuses m r n k h = rw h refl

    item_item : Item begins_item ones any
    item_item = item_of begins_item ones any item_entry refl item_refuses (t.Name []) refl

    -- items as long as one begins, and then the token u
    pub items_rule : (u : Token) → begins_item (Some u) ≡ false → Rule any (λ m. items (slack l m) (blocks d m)) (is_token u)
    items_rule u h = many_rule begins_item ones any item_item (is_token u) nothing (λ q qs. q ⨟ qs) (only u begins_item false h) (λ o g. refl) refl any (λ o g. refl) l.statements

  -- ---- blocks

  items_empty : (m : ℕ) (p : Parser Items) (r n : ℕ) (k : List Token) → items (slack l m) p (at (right_brace ∷ k) r n) ≡ Ok (nothing, at (right_brace ∷ k) r n)
  unfolding many
  items_empty m p r n k = elim (plus l.statements m) as (λ f. many begins_item (item (slack l m) p) nothing (λ q b. q ⨟ b) f (at (right_brace ∷ k) r n) ≡ Ok (nothing, at (right_brace ∷ k) r n)) [ zero ↦ refl | suc f ↦ refl ]

  pub block_item : (d : ℕ) → Item (is_token left_brace) (blocks d) any
  unfolding block
  block_item d = blocks_predict.block_item nothing (λ m. block (slack l m)) (λ m. items (slack l m)) (λ m i. refl) (λ m d i. refl) items_empty (λ d item. items_rule d item right_brace refl) d
