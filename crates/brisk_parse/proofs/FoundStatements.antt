-- What is read as a statement or a block is spelled.
use Rattle.std.proofs.Common.{◌≡◌, ℕ, zero, suc, ◌+◌, ◌≤◌, List, [], ◌∷◌, ◌++◌, length, drop, sum_by, Some, Ok, refl, sym, ap, ◌∙◌, append_assoc, arith}
use Rattle.std.specs.List.{AllByRecursion}
use Rattle.std.proofs.lemmas.List.Sums.{sum_by-cons}
use Rattle.brisk_values.specs.Names.{Name}
use Rattle.brisk_lex.specs.declared.token.Mark.TheVariants as m
use Rattle.brisk_lex.specs.declared.token.Word.TheVariants as w
use Rattle.brisk_lex.specs.declared.token.Token.{Token}
use Rattle.brisk_lex.specs.declared.token.Token.TheVariants as t
use Rattle.brisk_syntax.specs.declared.tree.Who.TheVariants as who
use Rattle.brisk_syntax.specs.Counts as counts
use Rattle.brisk_syntax.specs.Depths.{code_depth, statement_depth}
use Rattle.brisk_syntax.specs.Syntax.{Statement, Assign, Send, Recv, RecvAny, If, IfElse, While, For, Repeat, Code, done, ◌⨾◌}
use Rattle.brisk_parse.specs.Input.{Input, at, after, sees}
use Rattle.brisk_parse.specs.Limits.{Limits}
use Rattle.brisk_parse.specs.Outcomes.{Outcome, Parser, and_then}
use Rattle.brisk_parse.specs.Reading.{expect, name, count, begins_name}
use Rattle.brisk_parse.specs.Expressions.{begins_expression, expression}
use Rattle.brisk_parse.specs.Statements.{names, expressions, begins_statement, assign, send, receive_any, receive_named, receive, otherwise, choice, while_loop, for_loop, repeat_loop, statement_by, statement, statements, block}
use Rattle.brisk_parse.specs.Levelled.{Levelled, LevelledStatement, LevelledCode}
use Rattle.brisk_parse.specs.Within.{StatementWithin, CodeWithin}
use Rattle.brisk_parse.specs.Spelling as spell
use Rattle.brisk_parse.proofs.Found.{Found, found_then, found_ok, found_err, found_if, found_so, found_after, Spelled, Plain, Any, expect_found, name_found, count_found, listed_found, many_found, Joins}
use Rattle.brisk_parse.proofs.FoundExpressions.{Short, expression_found}

-- ---- what fits

pub record Fits (l : Limits) (d : ℕ) (s : Statement) : Type 0 where
  pub levelled : LevelledStatement s
  pub within : StatementWithin l s
  pub depth : statement_depth s ≤ d

pub record CodeFits (l : Limits) (d : ℕ) (c : Code) : Type 0 where
  pub levelled : LevelledCode c
  pub within : CodeWithin l c
  pub depth : code_depth c ≤ d

-- code in braces, among d blocks that may nest
pub record BlockFits (l : Limits) (d : ℕ) (c : Code) : Type 0 where
  pub levelled : LevelledCode c
  pub within : CodeWithin l c
  pub depth : code_depth c + 1 ≤ d

abbrev pub braced : Code → List Token
braced c = spell.braced (spell.code c)

abbrev pub Blocks : Limits → ℕ → Parser Code → Type 0
Blocks l d p = (i : Input) → Found (p i) (Spelled braced counts.statements (BlockFits l d) i)

-- the input with a statement's first token, before it is counted
abbrev pub begun : Token → Input → Input
begun k i = at (k ∷ i.rest) i.room (1 + i.statements)

abbrev IsStatement : Limits → ℕ → Token → Input → Statement → Input → Type 0
IsStatement l d k i = Spelled spell.statement counts.statements_in (Fits l d) (begun k i)

-- ---- lists in statements

pub all_so : {A : Type 0} (P Q : A → Type 0) → ((x : A) → P x → Q x) → (xs : List A) → AllByRecursion P xs → AllByRecursion Q xs
all_so P Q f [] h = tt
all_so P Q f (x ∷ xs) h = (f x h.0, all_so P Q f xs h.1)

pub none_used : {A : Type 0} (xs : List A) → sum_by (λ _. 0) xs ≡ 0
none_used [] = refl
none_used (x ∷ xs) = omega (arith, sum_by-cons (λ _. 0) x xs, none_used xs)

pub plain : {A : Type 0} (spelling : List A → List Token) (P Q : List A → Type 0) (r : Outcome (List A)) (i : Input) → ((xs : List A) → P xs → Q xs) → Found r (Spelled spelling (sum_by (λ _. 0)) P i) → Found r (Plain spelling Q i)
plain spelling P Q r i f h = found_so _ _ r (λ xs j a. record { spelled = a.spelled; room = a.room; statements = a.statements ∙ ap (λ n. n + j.statements) (none_used xs); good = f xs a.good }) h

pub names_found : (l : Limits) (i : Input) → Found (names l i) (Plain spell.names (λ xs. length xs ≤ 1 + l.places) i)
names_found l i = plain spell.names _ _ (names l i) i (λ xs h. h.1) (listed_found spell.name (λ _. 0) Any begins_name name name_found l.places i)

pub expressions_found : (l : Limits) (i : Input) → Found (expressions l i) (Plain spell.expressions (λ es. AllByRecursion (Short l.tokens) es × (length es ≤ 1 + l.places)) i)
expressions_found l i = plain spell.expressions _ _ (expressions l i) i (λ xs h. h) (listed_found spell.expression (λ _. 0) (Short l.tokens) begins_expression (expression l.tokens) (expression_found l.tokens) l.places i)

-- ---- statements

pub from_any : (xs b k : List Token) (v s : Name) → xs ++ (t.Mark m.RParen ∷ t.Word w.KwFrom ∷ t.Word w.KwAny ∷ t.Name v ∷ t.Word w.KwIn ∷ t.Name s ∷ (b ++ k)) ≡ xs ++ spell.mark m.RParen ++ spell.word w.KwFrom ++ spell.word w.KwAny ++ spell.name v ++ spell.word w.KwIn ++ spell.name s ++ b ++ k
from_any xs b k v s = simp append_assoc refl

module _ (l : Limits) (d : ℕ) where
  assign_found : (x : Name) (i : Input) → Found (assign l x i) (IsStatement l d (t.Name x) i)
  unfolding assign
  assign_found x i =
      found_then _ _ (expect (t.Mark m.Assign) i) _ (expect_found (t.Mark m.Assign) i) (λ _ j1 a1.
      found_then _ _ (expression l.tokens j1) _ (expression_found l.tokens j1) (λ e j2 a2.
      found_then _ _ (expect (t.Mark m.Semi) j2) _ (expect_found (t.Mark m.Semi) j2) (λ _ j3 a3.
      found_ok _ (Assign x e) j3 (record {
        spelled = simp (a1.spelled, a2.spelled, a3.spelled, append_assoc) refl;
        room = a3.room ∙ a2.room ∙ a1.room;
        statements = omega (arith, a1.statements, a2.statements, a3.statements);
        good = record { levelled = a2.good.0; within = a2.good.1; depth = omega arith };
      }))))

  send_found : (i : Input) → Found (send l i) (IsStatement l d (t.Word w.KwSend) i)
  unfolding send
  send_found i =
      found_then _ _ (name i) _ (name_found i) (λ c j1 a1.
      found_then _ _ (expect (t.Mark m.LParen) j1) _ (expect_found (t.Mark m.LParen) j1) (λ _ j2 a2.
      found_then _ _ (expressions l j2) _ (expressions_found l j2) (λ es j3 a3.
      found_then _ _ (expect (t.Mark m.RParen) j3) _ (expect_found (t.Mark m.RParen) j3) (λ _ j4 a4.
      found_then _ _ (expect (t.Word w.KwTo) j4) _ (expect_found (t.Word w.KwTo) j4) (λ _ j5 a5.
      found_then _ _ (name j5) _ (name_found j5) (λ u j6 a6.
      found_then _ _ (expect (t.Mark m.Semi) j6) _ (expect_found (t.Mark m.Semi) j6) (λ _ j7 a7.
      found_ok _ (Send c es (who.Name u)) j7 (record {
        spelled = simp (a1.spelled, a2.spelled, a3.spelled, a4.spelled, a5.spelled, a6.spelled, a7.spelled, append_assoc) refl;
        room = a7.room ∙ a6.room ∙ a5.room ∙ a4.room ∙ a3.room ∙ a2.room ∙ a1.room;
        statements = omega (arith, a1.statements, a2.statements, a3.statements, a4.statements, a5.statements, a6.statements, a7.statements);
        good = record {
          levelled = (all_so _ Levelled (λ e h. h.0) es a3.good.0, tt);
          within = (a3.good.1, all_so _ _ (λ e h. h.1) es a3.good.0);
          depth = omega arith;
        };
      }))))))))

  module _ (body : Parser Code) (block_found : Blocks l d body) where
    receive_found : (i : Input) → Found (receive l body i) (IsStatement l d (t.Word w.KwRecv) i)
    unfolding receive receive_any receive_named
    receive_found i =
        found_then _ _ (name i) _ (name_found i) (λ c j1 a1.
        found_then _ _ (expect (t.Mark m.LParen) j1) _ (expect_found (t.Mark m.LParen) j1) (λ _ j2 a2.
        found_then _ _ (names l j2) _ (names_found l j2) (λ xs j3 a3.
        found_then _ _ (expect (t.Mark m.RParen) j3) _ (expect_found (t.Mark m.RParen) j3) (λ _ j4 a4.
        found_then _ _ (expect (t.Word w.KwFrom) j4) _ (expect_found (t.Word w.KwFrom) j4) (λ _ j5 a5.
        found_if _ (sees (t.Word w.KwAny) j5) _ _
        (λ h. found_after _ (t.Word w.KwAny) j5 (receive_any body c xs) h (λ j6 a6.
        found_then _ _ (name j6) _ (name_found j6) (λ v j7 a7.
        found_then _ _ (expect (t.Word w.KwIn) j7) _ (expect_found (t.Word w.KwIn) j7) (λ _ j8 a8.
        found_then _ _ (name j8) _ (name_found j8) (λ s j9 a9.
        found_then _ _ (body j9) _ (block_found j9) (λ b j10 a10.
        found_ok _ (RecvAny c xs v s b) j10 (record {
          spelled = simp (a1.spelled, a2.spelled, a3.spelled, a4.spelled, a5.spelled, a6.spelled, a7.spelled, a8.spelled, a9.spelled, a10.spelled) (ap (λ l. t.Word w.KwRecv ∷ t.Name c ∷ t.Mark m.LParen ∷ l) (from_any (spell.names xs) (braced b) j10.rest v s));
          room = a10.room ∙ a9.room ∙ a8.room ∙ a7.room ∙ a6.room ∙ a5.room ∙ a4.room ∙ a3.room ∙ a2.room ∙ a1.room;
          statements = omega (arith, a1.statements, a2.statements, a3.statements, a4.statements, a5.statements, a6.statements, a7.statements, a8.statements, a9.statements, a10.statements);
          good = record { levelled = a10.good.levelled; within = (a3.good, a10.good.within); depth = a10.good.depth };
        })))))))
        (λ _.
        found_then _ _ (name j5) _ (name_found j5) (λ u j6 a6.
        found_then _ _ (expect (t.Mark m.Semi) j6) _ (expect_found (t.Mark m.Semi) j6) (λ _ j7 a7.
        found_ok _ (Recv c xs (who.Name u)) j7 (record {
          spelled = simp (a1.spelled, a2.spelled, a3.spelled, a4.spelled, a5.spelled, a6.spelled, a7.spelled, append_assoc) refl;
          room = a7.room ∙ a6.room ∙ a5.room ∙ a4.room ∙ a3.room ∙ a2.room ∙ a1.room;
          statements = omega (arith, a1.statements, a2.statements, a3.statements, a4.statements, a5.statements, a6.statements, a7.statements);
          good = record { levelled = tt; within = a3.good; depth = omega arith };
        })))))))))

    choice_found : (i : Input) → Found (choice l body i) (IsStatement l d (t.Word w.KwIf) i)
    unfolding choice otherwise
    choice_found i =
        found_then _ _ (expression l.tokens i) _ (expression_found l.tokens i) (λ e j1 a1.
        found_then _ _ (body j1) _ (block_found j1) (λ a j2 a2.
        found_if _ (sees (t.Word w.KwElse) j2) _ _
        (λ h. found_after _ (t.Word w.KwElse) j2 (λ i. and_then (body i) (λ b i. Ok (IfElse e a b, i))) h (λ j3 a3.
        found_then _ _ (body j3) _ (block_found j3) (λ b j4 a4.
        found_ok _ (IfElse e a b) j4 (record {
          spelled = simp (a1.spelled, a2.spelled, a3.spelled, a4.spelled, append_assoc (spell.expression e ++ braced a ++ spell.word w.KwElse) (braced b) j4.rest, append_assoc (spell.expression e ++ braced a) (spell.word w.KwElse) (braced b ++ j4.rest), append_assoc (spell.expression e) (braced a) (spell.word w.KwElse ++ (braced b ++ j4.rest))) refl;
          room = a4.room ∙ a3.room ∙ a2.room ∙ a1.room;
          statements = omega (arith, a1.statements, a2.statements, a3.statements, a4.statements);
          good = record { levelled = (a1.good.0, a2.good.levelled, a4.good.levelled); within = (a1.good.1, a2.good.within, a4.good.within); depth = omega (arith, a2.good.depth, a4.good.depth) };
        }))))
        (λ _. found_ok _ (If e a) j2 (record {
          spelled = simp (a1.spelled, a2.spelled, append_assoc (spell.expression e) (braced a) j2.rest) refl;
          room = a2.room ∙ a1.room;
          statements = omega (arith, a1.statements, a2.statements);
          good = record { levelled = (a1.good.0, a2.good.levelled); within = (a1.good.1, a2.good.within); depth = a2.good.depth };
        }))))

    while_found : (i : Input) → Found (while_loop l body i) (IsStatement l d (t.Word w.KwWhile) i)
    unfolding while_loop
    while_found i =
        found_then _ _ (expression l.tokens i) _ (expression_found l.tokens i) (λ e j1 a1.
        found_then _ _ (body j1) _ (block_found j1) (λ b j2 a2.
        found_ok _ (While e b) j2 (record {
          spelled = simp (a1.spelled, a2.spelled, append_assoc (spell.expression e) (braced b) j2.rest) refl;
          room = a2.room ∙ a1.room;
          statements = omega (arith, a1.statements, a2.statements);
          good = record { levelled = (a1.good.0, a2.good.levelled); within = (a1.good.1, a2.good.within); depth = a2.good.depth };
        })))

    for_found : (i : Input) → Found (for_loop body i) (IsStatement l d (t.Word w.KwFor) i)
    unfolding for_loop
    for_found i =
        found_then _ _ (name i) _ (name_found i) (λ v j1 a1.
        found_then _ _ (expect (t.Word w.KwIn) j1) _ (expect_found (t.Word w.KwIn) j1) (λ _ j2 a2.
        found_then _ _ (name j2) _ (name_found j2) (λ s j3 a3.
        found_then _ _ (body j3) _ (block_found j3) (λ b j4 a4.
        found_ok _ (For v s 0 b) j4 (record {
          spelled = simp (a1.spelled, a2.spelled, a3.spelled, a4.spelled, append_assoc) refl;
          room = a4.room ∙ a3.room ∙ a2.room ∙ a1.room;
          statements = omega (arith, a1.statements, a2.statements, a3.statements, a4.statements);
          good = record { levelled = (refl, a4.good.levelled); within = a4.good.within; depth = a4.good.depth };
        })))))

    repeat_found : (i : Input) → Found (repeat_loop body i) (IsStatement l d (t.Word w.KwRepeat) i)
    unfolding repeat_loop
    repeat_found i =
        found_then _ _ (name i) _ (name_found i) (λ s j1 a1.
        found_then _ _ (body j1) _ (block_found j1) (λ b j2 a2.
        found_ok _ (Repeat s 0 b) j2 (record {
          spelled = simp (a1.spelled, a2.spelled, append_assoc) refl;
          room = a2.room ∙ a1.room;
          statements = omega (arith, a1.statements, a2.statements);
          good = record { levelled = (refl, a2.good.levelled); within = a2.good.within; depth = a2.good.depth };
        })))

    -- what follows a first token
    by_found : (k : Token) (i : Input) → Found (statement_by l body (Some k) i) (IsStatement l d k i)
    by_found (t.Name x) i = assign_found x i
    by_found (t.Word w.KwSend) i = send_found i
    by_found (t.Word w.KwRecv) i = receive_found i
    by_found (t.Word w.KwIf) i = choice_found i
    by_found (t.Word w.KwWhile) i = while_found i
    by_found (t.Word w.KwFor) i = for_found i
    by_found (t.Word w.KwRepeat) i = repeat_found i
    by_found _ i = found_err _ _

    statement_at : (rest : List Token) (r n : ℕ) → Found (statement l body (at rest r n)) (Spelled spell.statement counts.statements_in (Fits l d) (at rest r n))
    unfolding statement
    statement_at [] r n = found_err _ _
    statement_at (k ∷ rest) r n =
        found_if _ (begins_statement (Some k)) _ _
        (λ _. found_then _ _ (count (at (k ∷ rest) r n)) _ (count_found (at (k ∷ rest) r n)) (λ _ j a.
        found_so _ _ (statement_by l body (Some k) (after j)) (λ s j2 b. record {
          spelled = ap (λ l. k ∷ drop 1 l) (sym a.0) ∙ b.spelled;
          room = b.room ∙ a.1;
          statements = a.2 ∙ b.statements;
          good = b.good;
        }) (by_found k (after j))))
        (λ _. found_err _ _)

    pub statement_found : (i : Input) → Found (statement l body i) (Spelled spell.statement counts.statements_in (Fits l d) i)
    statement_found i = statement_at i.rest i.room i.statements

    pub statements_found : (i : Input) → Found (statements l body i) (Spelled spell.code counts.statements (CodeFits l d) i)
    statements_found i =
        let joins : Joins spell.statement counts.statements_in (Fits l d) begins_statement (statement l body) statement_found done (λ s c. s ⨾ c) spell.code counts.statements (λ _. CodeFits l d) = record {
          spelled_end = refl;
          spelled_joint = λ s c. refl;
          used_end = refl;
          used_joint = λ s c. refl;
          good_end = λ n. record { levelled = tt; within = tt; depth = omega arith };
          good_joint = λ n s c a b. record { levelled = (a.levelled, b.levelled); within = (a.within, b.within); depth = omega (arith, a.depth, b.depth) };
        } in
        many_found spell.statement counts.statements_in (Fits l d) begins_statement (statement l body) statement_found done (λ s c. s ⨾ c) spell.code counts.statements (λ _. CodeFits l d) joins l.statements i

pub block_found : (l : Limits) (d : ℕ) → Blocks l d (block l d)
unfolding block
block_found l zero i = found_if _ (sees (t.Mark m.LBrace) i) _ _ (λ _. found_err _ _) (λ _. found_err _ _)
block_found l (suc d) i =
    found_then _ _ (expect (t.Mark m.LBrace) i) _ (expect_found (t.Mark m.LBrace) i) (λ _ j1 a1.
    found_then _ _ (statements l (block l d) j1) _ (statements_found l d (block l d) (block_found l d) j1) (λ c j2 a2.
    found_then _ _ (expect (t.Mark m.RBrace) j2) _ (expect_found (t.Mark m.RBrace) j2) (λ _ j3 a3.
    found_ok _ c j3 (record {
      spelled = simp (a1.spelled, a2.spelled, a3.spelled, append_assoc) refl;
      room = a3.room ∙ a2.room ∙ a1.room;
      statements = omega (arith, a1.statements, a2.statements, a3.statements);
      good = record { levelled = a2.good.levelled; within = a2.good.within; depth = omega (arith, a2.good.depth) };
    }))))
