-- Statements and blocks predict.
use Rattle.std.proofs.Common.{◌≡◌, ℕ, zero, suc, Bool, true, false, List, [], ◌∷◌, length, if◌then◌else◌, Option, Some, Ok, Err, refl, ap, ◌∙◌}
use Rattle.brisk_values.specs.Names.{Name}
use Rattle.brisk_lex.specs.declared.token.Mark.TheVariants as mk
use Rattle.brisk_lex.specs.declared.token.Word.TheVariants as w
use Rattle.brisk_lex.specs.declared.token.Token.{Token}
use Rattle.brisk_lex.specs.declared.token.Token.TheVariants as t
use Rattle.brisk_syntax.specs.declared.tree.Who.TheVariants as who
use Rattle.brisk_syntax.specs.Syntax.{Expression, Statement, Assign, Send, Recv, RecvAny, If, IfElse, While, For, Repeat, Code, done, ◌⨾◌}
use Rattle.brisk_parse.specs.declared.fault.Stop.TheVariants.{Syntax}
use Rattle.brisk_parse.specs.Input.{Input, at, first, after, is_token, sees}
use Rattle.brisk_parse.specs.Limits.{Limits}
use Rattle.brisk_parse.specs.Outcomes.{Parser, and_then}
use Rattle.brisk_parse.specs.Reading.{expect, name, count, many, begins_name}
use Rattle.brisk_parse.specs.Expressions.{begins_expression}
use Rattle.brisk_parse.specs.Statements.{names, expressions, begins_statement, assign, send, receive_any, receive_named, receive, otherwise, choice, while_loop, for_loop, repeat_loop, statement_by, statement, statements, block}
use Rattle.brisk_parse.proofs.Predictive.{Follow, any, none, plus, Family, Rule, joined, join_shape, then_rule, pure_rule, moves_to, choice_rule, Entry, Item, item_rule, item_of}
use Rattle.brisk_parse.proofs.PredictLists.{seen, free, free_gate, counting, count_gate, expect_rule, name_item, name_rule, comma, listed_rule, many_rule}
use Rattle.brisk_parse.proofs.PredictBlocks as blocks_predict
use Rattle.brisk_parse.proofs.PredictBlocks.{left_brace, right_brace}
use Rattle.brisk_parse.proofs.PredictExpressions.{ends, wholes, expression_item}

-- limits that are greater by m
abbrev pub slack : Limits → ℕ → Limits
slack l m = record {
  tokens = plus l.tokens m;
  places = plus l.places m;
  kinds = plus l.kinds m;
  tags = plus l.tags m;
  declarations = plus l.declarations m;
  enums = plus l.enums m;
  channels = plus l.channels m;
  roles = plus l.roles m;
  statements = plus l.statements m;
  nesting = plus l.nesting m;
}

abbrev pub right_paren : Token
right_paren = t.Mark mk.RParen

-- what may follow a statement, whichever it is
abbrev pub after_statement : Follow
after_statement (Some (t.Word w.KwElse)) = false
after_statement _ = true

no_else : (o : Option Token) → after_statement o ≡ true → is_token (t.Word w.KwElse) o ≡ false
no_else (Some (t.Word w.KwElse)) h = absurd cc
no_else _ h = refl

abbrev pub to_any : (S : Follow) (o : Option Token) → S o ≡ true → any o ≡ true
to_any S o h = refl

-- what holds of the one token that may follow
pub only : (u : Token) (f : Follow) (v : Bool) → f (Some u) ≡ v → (o : Option Token) → is_token u o ≡ true → f o ≡ v
only u f v e o h = ap f (seen u o h) ∙ e

module _ (l : Limits) where
  abbrev pub whole_expression : Family Expression
  whole_expression = wholes l.tokens

  pub expression_rule : Rule any whole_expression ends
  expression_rule = item_rule begins_expression whole_expression ends (expression_item l.tokens) any (t.Num 0) refl refl

  pub names_rule : Rule any (λ m. names (slack l m)) (is_token right_paren)
  names_rule =
      listed_rule begins_name (λ m. name) any name_item (is_token right_paren) (only right_paren (is_token comma) false refl) (to_any (is_token right_paren)) refl refl any l.places (only right_paren begins_name false refl) (to_any (is_token right_paren))

  pub expressions_rule : Rule any (λ m. expressions (slack l m)) (is_token right_paren)
  expressions_rule =
      listed_rule begins_expression whole_expression ends (expression_item l.tokens) (is_token right_paren) (only right_paren (is_token comma) false refl) (only right_paren ends true refl) refl refl any l.places (only right_paren begins_expression false refl) (to_any (is_token right_paren))

  -- ---- statements without blocks

  abbrev statement_value : (s : Statement) → Rule any (λ m i. Ok (s, i)) after_statement
  statement_value s = pure_rule any after_statement s (to_any after_statement)

  assign_rule : (x : Name) → Rule any (λ m. assign (slack l m) x) after_statement
  unfolding assign
  assign_rule x = then_rule (expect_rule any (t.Mark mk.Assign) refl) (λ _. then_rule expression_rule (λ e. then_rule (expect_rule ends (t.Mark mk.Semi) refl) (λ _. statement_value (Assign x e))))

  send_rule : Rule any (λ m. send (slack l m)) after_statement
  unfolding send
  send_rule =
      then_rule name_rule (λ c. then_rule (expect_rule any (t.Mark mk.LParen) refl) (λ _. then_rule expressions_rule (λ es.
      then_rule (expect_rule (is_token right_paren) right_paren refl) (λ _. then_rule (expect_rule any (t.Word w.KwTo) refl) (λ _.
      then_rule name_rule (λ u. then_rule (expect_rule any (t.Mark mk.Semi) refl) (λ _. statement_value (Send c es (who.Name u)))))))))

  -- ---- statements with blocks

  abbrev blocks : ℕ → Family Code
  blocks d m = block (slack l m) (plus d m)

  module _ (d : ℕ) (item : Item (is_token left_brace) (blocks d) any) where
    block_rule : (E : Follow) → E (Some left_brace) ≡ true → Rule E (blocks d) any
    block_rule E h = item_rule (is_token left_brace) (blocks d) any item E left_brace refl h

    any_rule : (c : Name) (xs : List Name) → Rule any (λ m. receive_any (blocks d m) c xs) after_statement
    unfolding receive_any
    any_rule c xs = then_rule name_rule (λ v. then_rule (expect_rule any (t.Word w.KwIn) refl) (λ _. then_rule name_rule (λ s. then_rule (block_rule any refl) (λ b. statement_value (RecvAny c xs v s b)))))

    -- from whom something is received
    abbrev froms : Name → List Name → Family Statement
    froms c xs m i = if sees (t.Word w.KwAny) i then receive_any (blocks d m) c xs (after i) else receive_named c xs i

    abbrev begins_from : Follow
    begins_from (Some (t.Word w.KwAny)) = true
    begins_from (Some (t.Name x)) = true
    begins_from _ = false

    from_entry : (c : Name) (xs : List Name) (u : Token) → begins_from (Some u) ≡ true → Entry (froms c xs) after_statement u
    unfolding receive_named name
    from_entry c xs (t.Word w.KwAny) h = record { gate = free; is_gate = free_gate (t.Word w.KwAny); more = λ m. receive_any (blocks d m) c xs; rule = any_rule c xs; is = λ m r n k. refl }
    from_entry c xs (t.Name x) h = record {
      gate = free;
      is_gate = free_gate (t.Name x);
      more = joined (λ m. expect (t.Mark mk.Semi)) (λ _ m i. Ok (Recv c xs (who.Name x), i));
      rule = then_rule (expect_rule any (t.Mark mk.Semi) refl) (λ _. statement_value (Recv c xs (who.Name x)));
      is = λ m r n k. refl;
    }
    from_entry c xs _ h = absurd cc

    from_refuses : (c : Name) (xs : List Name) (m r n : ℕ) (k : List Token) → begins_from (first k) ≡ false → froms c xs m (at k r n) ≡ Err (Syntax (length k))
    unfolding receive_named name
    from_refuses c xs m r n [] h = refl
    from_refuses c xs m r n (t.Word w.KwAny ∷ k) h = absurd cc
    from_refuses c xs m r n (t.Name x ∷ k) h = absurd cc
    from_refuses c xs m r n (_ ∷ k) h = refl

    from_rule : (c : Name) (xs : List Name) → Rule any (froms c xs) after_statement
    from_rule c xs = item_rule begins_from (froms c xs) after_statement (item_of begins_from (froms c xs) after_statement (from_entry c xs) refl (from_refuses c xs) (t.Name []) refl) any (t.Name []) refl refl

    receive_rule : Rule any (λ m. receive (slack l m) (blocks d m)) after_statement
    unfolding receive
    receive_rule =
        then_rule name_rule (λ c. then_rule (expect_rule any (t.Mark mk.LParen) refl) (λ _. then_rule names_rule (λ xs.
        then_rule (expect_rule (is_token right_paren) right_paren refl) (λ _. then_rule (expect_rule any (t.Word w.KwFrom) refl) (λ _. from_rule c xs)))))

    otherwise_rule : (e : Expression) (a : Code) → Rule any (λ m. otherwise (blocks d m) e a) after_statement
    unfolding otherwise
    otherwise_rule e a =
        let more : Family Statement = joined (blocks d) (λ b m i. Ok (IfElse e a b, i)) in
        choice_rule any after_statement (is_token (t.Word w.KwElse)) (λ m. otherwise (blocks d m) e a) (If e a) (λ m r n k h. rw h refl) no_else (to_any after_statement)
        (λ i h. moves_to none (joined free (λ _. more)) (λ m. otherwise (blocks d m) e a) after_statement i (λ m r n z g. let is = ap (is_token (t.Word w.KwElse)) g ∙ h in rw is refl)
        (join_shape none any after_statement free (λ _. more) i (free 0 i) ((free_gate (t.Word w.KwElse)).opens i (seen (t.Word w.KwElse) (first i.rest) h)) (λ _. then_rule (block_rule any refl) (λ b. statement_value (IfElse e a b)))))

    choice_statement : Rule any (λ m. choice (slack l m) (blocks d m)) after_statement
    unfolding choice
    choice_statement = then_rule expression_rule (λ e. then_rule (block_rule ends refl) (λ a. otherwise_rule e a))

    while_statement : Rule any (λ m. while_loop (slack l m) (blocks d m)) after_statement
    unfolding while_loop
    while_statement = then_rule expression_rule (λ e. then_rule (block_rule ends refl) (λ b. statement_value (While e b)))

    for_statement : Rule any (λ m. for_loop (blocks d m)) after_statement
    unfolding for_loop
    for_statement = then_rule name_rule (λ v. then_rule (expect_rule any (t.Word w.KwIn) refl) (λ _. then_rule name_rule (λ s. then_rule (block_rule any refl) (λ b. statement_value (For v s 0 b)))))

    repeat_statement : Rule any (λ m. repeat_loop (blocks d m)) after_statement
    unfolding repeat_loop
    repeat_statement = then_rule name_rule (λ s. then_rule (block_rule any refl) (λ b. statement_value (Repeat s 0 b)))

    abbrev ones : Family Statement
    ones m = statement (slack l m) (blocks d m)

    counted_first : (i : Input) (p : Parser Statement) → and_then (count i) (λ _ j. p (after j)) ≡ and_then (counting 0 i) (λ _. p)
    counted_first i p = elim (count i) as (λ o. and_then o (λ _ j. p (after j)) ≡ and_then (and_then o (λ _ j. Ok (tt, after j))) (λ _. p)) [ Ok x ↦ refl | Err e ↦ refl ]

    statement_entry_of : (u : Token) → begins_statement (Some u) ≡ true → Rule any (λ m. statement_by (slack l m) (blocks d m) (Some u)) after_statement → Entry ones after_statement u
    unfolding statement
    statement_entry_of u b rule = record {
      gate = counting;
      is_gate = count_gate u;
      more = λ m. statement_by (slack l m) (blocks d m) (Some u);
      rule = rule;
      is = λ m r n k. rw b (counted_first (at (u ∷ k) r n) (statement_by (slack l m) (blocks d m) (Some u)));
    }

    statement_entry : (u : Token) → begins_statement (Some u) ≡ true → Entry ones after_statement u
    statement_entry (t.Name x) h = statement_entry_of (t.Name x) refl (assign_rule x)
    statement_entry (t.Word w.KwSend) h = statement_entry_of (t.Word w.KwSend) refl send_rule
    statement_entry (t.Word w.KwRecv) h = statement_entry_of (t.Word w.KwRecv) refl receive_rule
    statement_entry (t.Word w.KwIf) h = statement_entry_of (t.Word w.KwIf) refl choice_statement
    statement_entry (t.Word w.KwWhile) h = statement_entry_of (t.Word w.KwWhile) refl while_statement
    statement_entry (t.Word w.KwFor) h = statement_entry_of (t.Word w.KwFor) refl for_statement
    statement_entry (t.Word w.KwRepeat) h = statement_entry_of (t.Word w.KwRepeat) refl repeat_statement
    statement_entry _ h = absurd cc

    statement_refuses : (m r n : ℕ) (k : List Token) → begins_statement (first k) ≡ false → ones m (at k r n) ≡ Err (Syntax (length k))
    unfolding statement
    statement_refuses m r n k h = rw h refl

    statement_item : Item begins_statement ones after_statement
    statement_item = item_of begins_statement ones after_statement statement_entry refl statement_refuses (t.Name []) refl

    pub code_rule : (E : Follow) → E (Some right_brace) ≡ true → Rule E (λ m. statements (slack l m) (blocks d m)) (is_token right_brace)
    code_rule E h =
        many_rule begins_statement ones after_statement statement_item (is_token right_brace) done (λ s c. s ⨾ c) (only right_brace begins_statement false refl) (only right_brace after_statement true refl) refl E (only right_brace E true h) l.statements

  -- ---- blocks

  code_empty : (m : ℕ) (p : Parser Code) (r n : ℕ) (k : List Token) → statements (slack l m) p (at (right_brace ∷ k) r n) ≡ Ok (done, at (right_brace ∷ k) r n)
  unfolding many
  code_empty m p r n k = elim (plus l.statements m) as (λ f. many begins_statement (statement (slack l m) p) done (λ s c. s ⨾ c) f (at (right_brace ∷ k) r n) ≡ Ok (done, at (right_brace ∷ k) r n)) [ zero ↦ refl | suc f ↦ refl ]

  pub block_item : (d : ℕ) → Item (is_token left_brace) (blocks d) any
  unfolding block
  block_item d = blocks_predict.block_item done (λ m. block (slack l m)) (λ m. statements (slack l m)) (λ m i. refl) (λ m d i. refl) code_empty (λ d item. code_rule d item any refl) d
