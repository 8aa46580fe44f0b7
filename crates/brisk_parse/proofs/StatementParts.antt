-- How statements begin, and how their tokens group as they are read.
use Rattle.std.proofs.Common.{◌≡◌, ℕ, zero, suc, ◌+◌, ◌≤◌, Bool, true, false, List, [], ◌∷◌, ◌++◌, Option, Some, Ok, refl, ap, ◌∙◌, append_assoc, arith}
use Rattle.std.specs.List.{AllByRecursion}
use Rattle.brisk_values.specs.Names.{Name}
use Rattle.brisk_lex.specs.declared.token.Mark.TheVariants as m
use Rattle.brisk_lex.specs.declared.token.Word.TheVariants as w
use Rattle.brisk_lex.specs.declared.token.Token.{Token}
use Rattle.brisk_lex.specs.declared.token.Token.TheVariants as t
use Rattle.brisk_syntax.specs.Counts as counts
use Rattle.brisk_syntax.specs.Syntax.{Expression, Num, Truth, Var, Tag, Size, Paren, Un, Bin, Statement, Assign, Send, Recv, RecvAny, If, IfElse, While, For, Repeat, Code, done, ◌⨾◌}
use Rattle.brisk_values.specs.declared.operation.Op1.TheVariants as op1
use Rattle.brisk_parse.specs.Input.{at, first, is_token}
use Rattle.brisk_parse.specs.Outcomes.{Parser}
use Rattle.brisk_parse.specs.Reading.{name, many}
use Rattle.brisk_parse.specs.Expressions.{begins_expression}
use Rattle.brisk_parse.specs.Statements.{begins_statement}
use Rattle.brisk_parse.specs.Spelling as spell

pub expression_begins : (e : Expression) (k : List Token) → begins_expression (first (spell.expression e ++ k)) ≡ true
expression_begins (Num n) k = refl
expression_begins (Truth true) k = refl
expression_begins (Truth false) k = refl
expression_begins (Var x) k = refl
expression_begins (Tag x y) k = refl
expression_begins (Size x) k = refl
expression_begins (Paren e) k = refl
expression_begins (Un op1.Neg e) k = refl
expression_begins (Un op1.Not e) k = refl
expression_begins (Bin op e f) k =
    ap (λ l. begins_expression (first l)) (append_assoc (spell.expression e ++ spell.mark (spell.operator2 op)) (spell.expression f) k ∙ append_assoc (spell.expression e) (spell.mark (spell.operator2 op)) (spell.expression f ++ k))
    ∙ expression_begins e (spell.mark (spell.operator2 op) ++ (spell.expression f ++ k))

pub name_only : (x : Name) (k : List Token) (r a b : ℕ) → a ≡ 0 + b → name (at (spell.name x ++ k) r a) ≡ Ok (x, at k r b)
unfolding name
name_only x k r a b e = let same : a ≡ b = omega (arith, e) in rw same refl

pub all_any : {A : Type 0} (xs : List A) → AllByRecursion (λ (x : A). Unit {0}) xs
all_any [] = tt
all_any (x ∷ xs) = (tt, all_any xs)

-- ---- what follows

-- no `else` comes
abbrev pub NoElse : List Token → Type 0
NoElse k = is_token (t.Word w.KwElse) (first k) ≡ false

pub statement_begins : (s : Statement) (k : List Token) → begins_statement (first (spell.statement s ++ k)) ≡ true
statement_begins (Assign x e) k = refl
statement_begins (Send x es u) k = refl
statement_begins (Recv x xs u) k = refl
statement_begins (RecvAny x xs v s b) k = refl
statement_begins (If e a) k = refl
statement_begins (IfElse e a b) k = refl
statement_begins (While e b) k = refl
statement_begins (For v s n b) k = refl
statement_begins (Repeat s n b) k = refl

-- what no statement begins with isn't the first of code
pub code_first : (f : Option Token → Bool) → ((o : Option Token) → begins_statement o ≡ true → f o ≡ false) → (c : Code) (k : List Token) → f (first k) ≡ false → f (first (spell.code c ++ k)) ≡ false
code_first f h done k g = g
code_first f h (s ⨾ c) k g = h (first (spell.code (s ⨾ c) ++ k)) (ap (λ l. begins_statement (first l)) (append_assoc (spell.statement s) (spell.code c) k) ∙ statement_begins s (spell.code c ++ k))

pub not_else : (o : Option Token) → begins_statement o ≡ true → is_token (t.Word w.KwElse) o ≡ false
not_else (Some (t.Word w.KwElse)) h = absurd cc
not_else _ h = refl

pub counted : (s : Statement) → 1 ≤ counts.statements_in s
counted (Assign x e) = omega arith
counted (Send x es u) = omega arith
counted (Recv x xs u) = omega arith
counted (RecvAny x xs v s b) = omega arith
counted (If e a) = omega arith
counted (IfElse e a b) = omega arith
counted (While e b) = omega arith
counted (For v s n b) = omega arith
counted (Repeat s n b) = omega arith

pub code_end : (one : Parser Statement) (n : ℕ) (k : List Token) (r a : ℕ) → begins_statement (first k) ≡ false → many begins_statement one done (λ s c. s ⨾ c) n (at k r a) ≡ Ok (done, at k r a)
unfolding many
code_end one zero k r a h = rw h refl
code_end one (suc n) k r a h = rw h refl

-- ---- parts of statements, grouped as they are read

pub to_partner : (xs k : List Token) (u : Name) → xs ++ spell.mark m.RParen ++ spell.word w.KwTo ++ spell.name u ++ spell.mark m.Semi ++ k ≡ xs ++ (t.Mark m.RParen ∷ t.Word w.KwTo ∷ t.Name u ∷ t.Mark m.Semi ∷ k)
to_partner xs k u = simp append_assoc refl

pub from_partner : (xs k : List Token) (u : Name) → xs ++ spell.mark m.RParen ++ spell.word w.KwFrom ++ spell.name u ++ spell.mark m.Semi ++ k ≡ xs ++ (t.Mark m.RParen ∷ t.Word w.KwFrom ∷ t.Name u ∷ t.Mark m.Semi ∷ k)
from_partner xs k u = simp append_assoc refl

pub if_else : (e a b k : List Token) → e ++ a ++ spell.word w.KwElse ++ b ++ k ≡ e ++ (a ++ (t.Word w.KwElse ∷ (b ++ k)))
if_else e a b k = simp append_assoc refl
