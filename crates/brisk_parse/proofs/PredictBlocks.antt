-- Blocks predict, whatever stands between their braces.
use Rattle.std.proofs.Common.{◌≡◌, inl, ℕ, zero, suc, ◌≤◌, true, false, if◌then◌else◌, List, [], ◌∷◌, length, drop, Option, Some, None, Ok, Err, refl, sym, ap, subst, ◌∙◌, arith}
use Rattle.brisk_lex.specs.declared.token.Mark.TheVariants as mk
use Rattle.brisk_lex.specs.declared.token.Token.{Token}
use Rattle.brisk_lex.specs.declared.token.Token.TheVariants as t
use Rattle.brisk_parse.specs.declared.fault.Stop.TheVariants.{Syntax, TooDeep}
use Rattle.brisk_parse.specs.Input.{Input, at, first, is_token, sees}
use Rattle.brisk_parse.specs.Outcomes.{Parser, and_then, refuse}
use Rattle.brisk_parse.specs.Reading.{expect}
use Rattle.brisk_parse.proofs.Predictive.{any, none, Fits, plus, Family, Completes, Shape, Rule, joined, then_rule, value_rule, first_is, Entry, Item, item_of, plus_more}
use Rattle.brisk_parse.proofs.PredictLists.{seen, free, free_gate, expect_rule}

abbrev pub left_brace : Token
left_brace = t.Mark mk.LBrace

abbrev pub right_brace : Token
right_brace = t.Mark mk.RBrace

-- under limits that are greater by m, a block in which d others may nest less one, and what stands in it
module _ {B : Type 0} (end : B) (block : ℕ → ℕ → Parser B) (inside : ℕ → Parser B → Parser B)
    (zero_is : (m : ℕ) (i : Input) → block m zero i ≡ (if sees left_brace i then Err (TooDeep (length i.rest)) else refuse i))
    (suc_is : (m d : ℕ) (i : Input) → block m (suc d) i ≡ and_then (expect left_brace i) (λ _ i. and_then (inside m (block m d) i) (λ c i. and_then (expect right_brace i) (λ _ i. Ok (c, i)))))
    (empty : (m : ℕ) (p : Parser B) (r n : ℕ) (k : List Token) → inside m p (at (right_brace ∷ k) r n) ≡ Ok (end, at (right_brace ∷ k) r n)) where
  abbrev pub blocks : ℕ → Family B
  blocks d m = block m (plus d m)

  block_empty : (m p r n : ℕ) (k : List Token) → 1 ≤ p → block m p (at (left_brace ∷ right_brace ∷ k) r n) ≡ Ok (end, at k r n)
  unfolding expect
  block_empty m zero r n k le = absurd (omega (arith, le))
  block_empty m (suc p) r n k le =
      suc_is m p (at (left_brace ∷ right_brace ∷ k) r n) ∙ ap (λ o. and_then o (λ c i. and_then (expect right_brace i) (λ _ i. Ok (c, i)))) (empty m (block m p) r n k)

  block_passes : (m r n : ℕ) (k : List Token) → is_token left_brace (first k) ≡ true → block m zero (at k r n) ≡ Err (TooDeep (length k))
  block_passes m r n k h = zero_is m (at k r n) ∙ rw h refl

  block_refuses : (m p r n : ℕ) (k : List Token) → is_token left_brace (first k) ≡ false → block m p (at k r n) ≡ Err (Syntax (length k))
  unfolding expect
  block_refuses m zero r n k h = zero_is m (at k r n) ∙ rw h refl
  block_refuses m (suc p) r n k h = suc_is m p (at k r n) ∙ rw h refl

  empty_lives : (d : ℕ) (G : List Token → Type 0) → ((k : List Token) → G (left_brace ∷ k)) → Completes G (blocks d) any (left_brace ∷ [])
  empty_lives d G g = record {
    more = right_brace ∷ [];
    value = end;
    bound = 1;
    enters = λ k h. g (right_brace ∷ k);
    reads = λ m r n k le room count h. record { room = r; statements = n; has_room = omega arith; has_statements = omega arith; is = block_empty m (plus d m) r n k (omega (arith, le, plus_more d m)) };
  }

  empty_completes : (d : ℕ) (u : Token) → is_token left_brace (Some u) ≡ true → Completes (λ l. first l ≡ Some u) (blocks d) any (u ∷ [])
  empty_completes d u h = let e = seen left_brace (Some u) h in subst (λ (o : Option Token). Completes (λ l. first l ≡ o) (blocks d) any (elim o [ None ↦ [] | Some v ↦ v ∷ [] ])) (sym e) (empty_lives d (λ l. first l ≡ Some left_brace) (λ k. refl))

  block_zero : (i : Input) → is_token left_brace (first i.rest) ≡ true → Shape none (blocks zero) any i (block 0 zero i)
  block_zero i h =
      let e = seen left_brace (first i.rest) h in
      rw (block_passes 0 i.room i.statements i.rest h) (record {
        before = [];
        token = left_brace;
        rest = drop 1 i.rest;
        parts = first_is left_brace i.rest e;
        place = ap length (first_is left_brace i.rest e);
        again = λ k f. block_passes 0 i.room i.statements k (ap (is_token left_brace) f);
        viable = empty_lives zero (λ l. Fits none i.rest l) (λ k. inl (sym e));
      })

  module _ (inside_rule : (d : ℕ) → Item (is_token left_brace) (blocks d) any → Rule any (λ m. inside m (blocks d m)) (is_token right_brace)) where
    block_entry : (d : ℕ) → Item (is_token left_brace) (blocks d) any → (u : Token) → is_token left_brace (Some u) ≡ true → Entry (blocks (suc d)) any u
    unfolding expect
    block_entry d item u h = record {
      gate = free;
      is_gate = free_gate u;
      more = joined (λ m. inside m (blocks d m)) (λ c. joined (λ m. expect right_brace) (λ _ m i. Ok (c, i)));
      rule = then_rule (inside_rule d item) (λ c. then_rule (expect_rule (is_token right_brace) right_brace refl) (λ _. value_rule any c));
      is = λ m r n k. suc_is m (plus d m) (at (u ∷ k) r n) ∙ rw h refl;
    }

    pub block_item : (d : ℕ) → Item (is_token left_brace) (blocks d) any
    block_item zero = record { begun = block_zero; refuses = λ m r n k h. block_refuses m m r n k h; completes = empty_completes zero; token = left_brace; begins_token = refl }
    block_item (suc d) = item_of (is_token left_brace) (blocks (suc d)) any (block_entry d (block_item d)) refl (λ m r n k h. block_refuses m (suc (plus d m)) r n k h) left_brace refl
