-- A statement or code is read, or stops where it passes a limit first.
use Rattle.std.proofs.Common.{◌≡◌, ℕ, zero, suc, ◌-◌, ◌≤◌, true, false, List, [], ◌∷◌, ◌++◌, drop, Ok, Err, refl, sym, ap, ◌∙◌, append_assoc, arith}
use Rattle.std.specs.List.{AllByRecursion}
use Rattle.brisk_values.specs.Names.{Name}
use Rattle.brisk_lex.specs.declared.token.Mark.TheVariants as mk
use Rattle.brisk_lex.specs.declared.token.Word.TheVariants as w
use Rattle.brisk_lex.specs.declared.token.Token.{Token}
use Rattle.brisk_lex.specs.declared.token.Token.TheVariants as t
use Rattle.brisk_syntax.specs.declared.tree.Who.TheVariants as who
use Rattle.brisk_syntax.specs.Counts as counts
use Rattle.brisk_syntax.specs.Syntax.{Expression, Statement, Assign, Send, Recv, RecvAny, If, IfElse, While, For, Repeat, Code, done, ◌⨾◌}
use Rattle.brisk_parse.specs.declared.fault.Stop.TheVariants.{TooDeep, TooMany}
use Rattle.brisk_parse.specs.Input.{at, first, is_token}
use Rattle.brisk_parse.specs.Limits.{Limits}
use Rattle.brisk_parse.specs.Outcomes.{and_then}
use Rattle.brisk_parse.specs.Reading.{expect, name, count, many, begins_name}
use Rattle.brisk_parse.specs.Expressions.{begins_expression, expression}
use Rattle.brisk_parse.specs.Statements.{names, expressions, begins_statement, assign, send, receive_any, receive_named, receive, otherwise, choice, while_loop, for_loop, repeat_loop, statement_by, statement, statements, block}
use Rattle.brisk_parse.specs.Levelled.{Levelled, LevelledStatement, LevelledCode}
use Rattle.brisk_parse.specs.Passing.{Passing, Nowhere, behind, or_behind, counted}
use Rattle.brisk_parse.specs.Passing as passing
use Rattle.brisk_parse.specs.Spelling as spell
use Rattle.brisk_parse.proofs.FoundStatements.{braced, from_any}
use Rattle.brisk_parse.proofs.Judged.{judged, judged_behind, judged_then, judged_last, one_less, less_in, less_both, less_then, at_once, listed_judged}
use Rattle.brisk_parse.proofs.JudgedExpressions.{expression_judged}
use Rattle.brisk_parse.proofs.OnlyTokens.{count_only}
use Rattle.brisk_parse.proofs.StatementParts as only
use Rattle.brisk_parse.proofs.StatementParts.{name_only, all_any, NoElse, statement_begins, code_first, not_else, code_end, expression_begins, to_partner, from_partner, if_else}
use Rattle.brisk_parse.proofs.PredictExpressions.{ends}

-- ---- lists in statements

module _ (l : Limits) where
  pub names_judged : (xs : List Name) (k : List Token) (r n : ℕ) → names l (at (spell.names xs ++ (t.Mark mk.RParen ∷ k)) r n) ≡ judged (passing.variables l xs) (spell.names xs ++ (t.Mark mk.RParen ∷ k)) (Ok (xs, at (t.Mark mk.RParen ∷ k) r n))
  names_judged xs k r n =
      listed_judged (λ _. Nowhere) spell.name (λ _. Unit {0}) (λ _. Unit {0}) begins_name name (λ x k r n good follow. name_only x k r n n (omega arith)) (λ x k. refl) (λ k. tt) l.places xs (t.Mark mk.RParen ∷ k) r n (all_any xs) tt refl refl

  pub expressions_judged : (es : List Expression) (k : List Token) (r n : ℕ) → AllByRecursion Levelled es → expressions l (at (spell.expressions es ++ (t.Mark mk.RParen ∷ k)) r n) ≡ judged (passing.expressions l es) (spell.expressions es ++ (t.Mark mk.RParen ∷ k)) (Ok (es, at (t.Mark mk.RParen ∷ k) r n))
  expressions_judged es k r n good =
      listed_judged (passing.expression l) spell.expression Levelled (λ k. ends (first k) ≡ true) begins_expression (expression l.tokens) (λ e k r n good free. expression_judged l.tokens e k r n good free) expression_begins (λ k. refl) l.places es (t.Mark mk.RParen ∷ k) r n good refl refl refl

  -- ---- blocks

  abbrev Ending : List Token → Type 0
  Ending k = (begins_statement (first k) ≡ false) × NoElse k

  -- the code is read as far as it passes no limit, where d blocks may nest
  abbrev CodeJudged : ℕ → Code → Type 0
  CodeJudged d c = (k : List Token) (r n : ℕ) → Ending k → n ≤ l.statements → statements l (block l d) (at (spell.code c ++ k) r n) ≡ judged (passing.code l d n c) (spell.code c ++ k) (Ok (c, at k r (n - counts.statements c)))

  abbrev inner : ℕ → ℕ → Code → Passing
  inner d n c = passing.block d (passing.code l (d - 1) n c)

  block_judged : (d : ℕ) (c : Code) → ((d : ℕ) → CodeJudged d c) → (k : List Token) (r n : ℕ) → n ≤ l.statements → block l d (at (braced c ++ k) r n) ≡ judged (inner d n c) (braced c ++ k) (Ok (c, at k r (n - counts.statements c)))
  unfolding block expect
  block_judged zero c read k r n le = ap (λ n. Err (TooDeep n)) (at_once (braced c ++ k))
  block_judged (suc d) c read k r n le =
      let less : suc d - 1 ≡ d = omega arith in
      let behind_code = t.Mark mk.RBrace ∷ k in
      rw (less, append_assoc (spell.code c) (spell.mark mk.RBrace) k, read d behind_code r n (refl, refl) le)
      (judged_last (passing.code l d n c) (spell.code c ++ behind_code) c (at behind_code r (n - counts.statements c)) (λ c i. and_then (expect (t.Mark mk.RBrace) i) (λ _ i. Ok (c, i))) (Ok (c, at k r (n - counts.statements c))) refl
      ∙ judged_behind (passing.code l d n c) (spell.mark mk.LBrace) (spell.code c ++ behind_code) (Ok (c, at k r (n - counts.statements c))))

  -- ---- statements

  abbrev Inside : ℕ → Statement → Type 0
  Inside d s = (k : List Token) (r n : ℕ) → NoElse k → suc n ≤ l.statements
      → statement_by l (block l d) (first (spell.statement s ++ k)) (at (drop 1 (spell.statement s ++ k)) r n) ≡ judged (passing.statement l d n s) (spell.statement s ++ k) (Ok (s, at k r (suc n - counts.statements_in s)))

  statement_from : (d : ℕ) (s : Statement) → Inside d s → (k : List Token) (r n : ℕ) → NoElse k → n ≤ l.statements
      → statement l (block l d) (at (spell.statement s ++ k) r n) ≡ judged (counted n (λ n. passing.statement l d n s)) (spell.statement s ++ k) (Ok (s, at k r (n - counts.statements_in s)))
  unfolding statement count
  statement_from d s inside k r zero free le = rw (statement_begins s k) (ap (λ n. Err (TooMany n)) (at_once (spell.statement s ++ k)))
  statement_from d s inside k r (suc n) free le = rw (statement_begins s k, count_only (spell.statement s ++ k) r (suc n) n (omega arith)) (inside k r n free le)

  -- a statement where none may begin
  code_full : (d : ℕ) (s : Statement) (c : Code) (k : List Token) (r n : ℕ) → n ≤ 0
      → many begins_statement (statement l (block l d)) done (λ s c. s ⨾ c) zero (at (spell.code (s ⨾ c) ++ k) r n) ≡ judged (passing.code l d n (s ⨾ c)) (spell.code (s ⨾ c) ++ k) (Ok (s ⨾ c, at k r (n - counts.statements (s ⨾ c))))
  unfolding many
  code_full d s c k r zero le = rw (append_assoc (spell.statement s) (spell.code c) k, statement_begins s (spell.code c ++ k)) (ap (λ n. Err (TooMany n)) (at_once (spell.statement s ++ (spell.code c ++ k))))
  code_full d s c k r (suc n) le = absurd (omega (arith, le))

  -- a statement where one may begin
  code_step : (d m : ℕ) (s : Statement) (c : Code) (k : List Token) (r n : ℕ)
      → many begins_statement (statement l (block l d)) done (λ s c. s ⨾ c) (suc m) (at (spell.code (s ⨾ c) ++ k) r n)
      ≡ and_then (statement l (block l d) (at (spell.statement s ++ (spell.code c ++ k)) r n)) (λ s i. and_then (many begins_statement (statement l (block l d)) done (λ s c. s ⨾ c) m i) (λ c i. Ok (s ⨾ c, i)))
  unfolding many
  code_step d m s c k r n = rw (append_assoc (spell.statement s) (spell.code c) k, statement_begins s (spell.code c ++ k)) refl

  mutual
    unfolding assign send receive receive_any receive_named choice otherwise while_loop for_loop repeat_loop expect name

    inside_judged : (d : ℕ) (s : Statement) → LevelledStatement s → Inside d s
    inside_judged d (Assign x e) levelled k r n free le =
        rw (append_assoc (spell.expression e) (spell.mark mk.Semi) k, expression_judged l.tokens e (t.Mark mk.Semi ∷ k) r n levelled refl)
        (judged_last (passing.expression l e) (spell.expression e ++ (t.Mark mk.Semi ∷ k)) e (at (t.Mark mk.Semi ∷ k) r n) _ _ (ap (λ n. Ok (Assign x e, at k r n)) (one_less n))
        ∙ judged_behind (passing.expression l e) (spell.name x ++ spell.mark mk.Assign) (spell.expression e ++ (t.Mark mk.Semi ∷ k)) _)
    inside_judged d (Send c es (who.Name u)) levelled k r n free le =
        let next = t.Mark mk.RParen ∷ t.Word w.KwTo ∷ t.Name u ∷ t.Mark mk.Semi ∷ k in
        rw (to_partner (spell.expressions es) k u, expressions_judged es (t.Word w.KwTo ∷ t.Name u ∷ t.Mark mk.Semi ∷ k) r n levelled.0)
        (judged_last (passing.expressions l es) (spell.expressions es ++ next) es (at next r n) _ _ (ap (λ n. Ok (Send c es (who.Name u), at k r n)) (one_less n))
        ∙ judged_behind (passing.expressions l es) (spell.word w.KwSend ++ spell.name c ++ spell.mark mk.LParen) (spell.expressions es ++ next) _)
    inside_judged d (Send c es (who.At u)) levelled k r n free le = absurd levelled.1
    inside_judged d (Send c es (who.Pid u)) levelled k r n free le = absurd levelled.1
    inside_judged d (Recv c xs (who.Name u)) levelled k r n free le =
        let next = t.Mark mk.RParen ∷ t.Word w.KwFrom ∷ t.Name u ∷ t.Mark mk.Semi ∷ k in
        rw (from_partner (spell.names xs) k u, names_judged xs (t.Word w.KwFrom ∷ t.Name u ∷ t.Mark mk.Semi ∷ k) r n)
        (judged_last (passing.variables l xs) (spell.names xs ++ next) xs (at next r n) _ _ (ap (λ n. Ok (Recv c xs (who.Name u), at k r n)) (one_less n))
        ∙ judged_behind (passing.variables l xs) (spell.word w.KwRecv ++ spell.name c ++ spell.mark mk.LParen) (spell.names xs ++ next) _)
    inside_judged d (Recv c xs (who.At u)) levelled k r n free le = absurd levelled
    inside_judged d (Recv c xs (who.Pid u)) levelled k r n free le = absurd levelled
    inside_judged d (RecvAny c xs v s b) levelled k r n free le =
        let fixed = t.Mark mk.RParen ∷ t.Word w.KwFrom ∷ t.Word w.KwAny ∷ t.Name v ∷ t.Word w.KwIn ∷ t.Name s ∷ [] in
        let next = fixed ++ (braced b ++ k) in
        let whole = RecvAny c xs v s b in
        let read = block_judged d b (λ d k r n h le. code_judged d l.statements b k r n levelled h (omega (arith, le)) le) k r n (omega (arith, le)) in
        rw (← from_any (spell.names xs) (braced b) k v s, names_judged xs (drop 1 next) r n)
        (judged_then (passing.variables l xs) (behind fixed (inner d n b)) (spell.names xs) next xs (at next r n) _ _
        (ap (λ o. and_then o (λ b i. Ok (RecvAny c xs v s b, i))) read
        ∙ judged_last (inner d n b) (braced b ++ k) b (at k r (n - counts.statements b)) (λ b i. Ok (RecvAny c xs v s b, i)) _ (ap (λ n. Ok (whole, at k r n)) (less_in n (counts.statements b)))
        ∙ judged_behind (inner d n b) fixed (braced b ++ k) _)
        ∙ judged_behind (or_behind (passing.variables l xs) (spell.names xs) (behind fixed (inner d n b))) (spell.word w.KwRecv ++ spell.name c ++ spell.mark mk.LParen) (spell.names xs ++ next) _)
    inside_judged d (If e a) levelled k r n free le =
        let read = block_judged d a (λ d k r n h le. code_judged d l.statements a k r n levelled.1 h (omega (arith, le)) le) k r n (omega (arith, le)) in
        rw (append_assoc (spell.expression e) (braced a) k, expression_judged l.tokens e (braced a ++ k) r n levelled.0 refl)
        (judged_then (passing.expression l e) (inner d n a) (spell.expression e) (braced a ++ k) e (at (braced a ++ k) r n) _ _
        (ap (λ o. and_then o (otherwise (block l d) e)) read
        ∙ judged_last (inner d n a) (braced a ++ k) a (at k r (n - counts.statements a)) (otherwise (block l d) e) _ (rw free (ap (λ n. Ok (If e a, at k r n)) (less_in n (counts.statements a)))))
        ∙ judged_behind (or_behind (passing.expression l e) (spell.expression e) (inner d n a)) (spell.word w.KwIf) (spell.expression e ++ (braced a ++ k)) _)
    inside_judged d (IfElse e a b) levelled k r n free le =
        let one = block_judged d a (λ d k r n h le. code_judged d l.statements a k r n levelled.1 h (omega (arith, le)) le) (t.Word w.KwElse ∷ (braced b ++ k)) r n (omega (arith, le)) in
        let two = block_judged d b (λ d k r n h le. code_judged d l.statements b k r n levelled.2 h (omega (arith, le)) le) k r (n - counts.statements a) (omega (arith, le)) in
        let middle = n - counts.statements a in
        let next = braced a ++ (t.Word w.KwElse ∷ (braced b ++ k)) in
        let second = behind (spell.word w.KwElse) (inner d middle b) in
        rw (if_else (spell.expression e) (braced a) (braced b) k, expression_judged l.tokens e next r n levelled.0 refl)
        (judged_then (passing.expression l e) (or_behind (inner d n a) (braced a) second) (spell.expression e) next e (at next r n) _ _
        (ap (λ o. and_then o (otherwise (block l d) e)) one
        ∙ judged_then (inner d n a) second (braced a) (t.Word w.KwElse ∷ (braced b ++ k)) a (at (t.Word w.KwElse ∷ (braced b ++ k)) r middle) (otherwise (block l d) e) _
        (ap (λ o. and_then o (λ b i. Ok (IfElse e a b, i))) two
        ∙ judged_last (inner d middle b) (braced b ++ k) b (at k r (middle - counts.statements b)) (λ b i. Ok (IfElse e a b, i)) _ (ap (λ n. Ok (IfElse e a b, at k r n)) (less_both n (counts.statements a) (counts.statements b)))
        ∙ judged_behind (inner d middle b) (spell.word w.KwElse) (braced b ++ k) _))
        ∙ judged_behind (or_behind (passing.expression l e) (spell.expression e) (or_behind (inner d n a) (braced a) second)) (spell.word w.KwIf) (spell.expression e ++ next) _)
    inside_judged d (While e b) levelled k r n free le =
        let read = block_judged d b (λ d k r n h le. code_judged d l.statements b k r n levelled.1 h (omega (arith, le)) le) k r n (omega (arith, le)) in
        rw (append_assoc (spell.expression e) (braced b) k, expression_judged l.tokens e (braced b ++ k) r n levelled.0 refl)
        (judged_then (passing.expression l e) (inner d n b) (spell.expression e) (braced b ++ k) e (at (braced b ++ k) r n) _ _
        (ap (λ o. and_then o (λ b i. Ok (While e b, i))) read
        ∙ judged_last (inner d n b) (braced b ++ k) b (at k r (n - counts.statements b)) (λ b i. Ok (While e b, i)) _ (ap (λ n. Ok (While e b, at k r n)) (less_in n (counts.statements b))))
        ∙ judged_behind (or_behind (passing.expression l e) (spell.expression e) (inner d n b)) (spell.word w.KwWhile) (spell.expression e ++ (braced b ++ k)) _)
    inside_judged d (For v s turn b) levelled k r n free le =
        let read = block_judged d b (λ d k r n h le. code_judged d l.statements b k r n levelled.1 h (omega (arith, le)) le) k r n (omega (arith, le)) in
        rw levelled.0
        (ap (λ o. and_then o (λ b i. Ok (For v s 0 b, i))) read
        ∙ judged_last (inner d n b) (braced b ++ k) b (at k r (n - counts.statements b)) (λ b i. Ok (For v s 0 b, i)) _ (ap (λ n. Ok (For v s 0 b, at k r n)) (less_in n (counts.statements b)))
        ∙ judged_behind (inner d n b) (spell.word w.KwFor ++ spell.name v ++ spell.word w.KwIn ++ spell.name s) (braced b ++ k) _)
    inside_judged d (Repeat s turn b) levelled k r n free le =
        let read = block_judged d b (λ d k r n h le. code_judged d l.statements b k r n levelled.1 h (omega (arith, le)) le) k r n (omega (arith, le)) in
        rw levelled.0
        (ap (λ o. and_then o (λ b i. Ok (Repeat s 0 b, i))) read
        ∙ judged_last (inner d n b) (braced b ++ k) b (at k r (n - counts.statements b)) (λ b i. Ok (Repeat s 0 b, i)) _ (ap (λ n. Ok (Repeat s 0 b, at k r n)) (less_in n (counts.statements b)))
        ∙ judged_behind (inner d n b) (spell.word w.KwRepeat ++ spell.name s) (braced b ++ k) _)

    -- where at most m turns are left, and no more statements may begin
    pub code_judged : (d m : ℕ) (c : Code) (k : List Token) (r n : ℕ) → LevelledCode c → Ending k → n ≤ m → n ≤ l.statements
        → many begins_statement (statement l (block l d)) done (λ s c. s ⨾ c) m (at (spell.code c ++ k) r n) ≡ judged (passing.code l d n c) (spell.code c ++ k) (Ok (c, at k r (n - counts.statements c)))
    code_judged d m done k r n levelled h less le = code_end (statement l (block l d)) m k r n h.0 ∙ ap (λ n. Ok (done, at k r n)) (omega arith)
    code_judged d zero (s ⨾ c) k r n levelled h less le = code_full d s c k r n less
    code_judged d (suc m) (s ⨾ c) k r n levelled h less le =
        let one = statement_from d s (inside_judged d s levelled.0) (spell.code c ++ k) r n (code_first (is_token (t.Word w.KwElse)) not_else c k h.1) le in
        let left = n - counts.statements_in s in
        let more = code_judged d m c k r left levelled.1 h (omega (arith, less, only.counted s)) (omega (arith, le)) in
        code_step d m s c k r n ∙ ap (λ o. and_then o (λ s i. and_then (many begins_statement (statement l (block l d)) done (λ s c. s ⨾ c) m i) (λ c i. Ok (s ⨾ c, i)))) one
        ∙ judged_then (counted n (λ n. passing.statement l d n s)) (passing.code l d left c) (spell.statement s) (spell.code c ++ k) s (at (spell.code c ++ k) r left) _ (Ok (s ⨾ c, at k r (n - counts.statements (s ⨾ c))))
        (ap (λ o. and_then o (λ c i. Ok (s ⨾ c, i))) more
        ∙ judged_last (passing.code l d left c) (spell.code c ++ k) c (at k r (left - counts.statements c)) (λ c i. Ok (s ⨾ c, i)) _ (ap (λ n. Ok (s ⨾ c, at k r n)) (less_then n (counts.statements_in s) (counts.statements c))))
        ∙ ap (λ z. judged (passing.code l d n (s ⨾ c)) z (Ok (s ⨾ c, at k r (n - counts.statements (s ⨾ c))))) (sym (append_assoc (spell.statement s) (spell.code c) k))
