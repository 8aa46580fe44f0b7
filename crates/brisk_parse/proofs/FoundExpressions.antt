-- What is read as an expression is spelled.
use Rattle.std.proofs.Common.{◌≡◌, ℕ, zero, suc, ◌+◌, ◌≤◌, true, false, List, [], ◌∷◌, ◌++◌, length, drop, length-append, Option, Some, None, Ok, Err, refl, sym, ap, ◌∙◌, append_assoc, arith}
use Rattle.brisk_values.specs.declared.operation.Op1.TheVariants as op1
use Rattle.brisk_values.specs.declared.operation.Op2.{Op2}
use Rattle.brisk_values.specs.declared.operation.Op2.TheVariants as op2
use Rattle.brisk_lex.specs.declared.token.Mark.TheVariants as m
use Rattle.brisk_lex.specs.declared.token.Word.TheVariants as w
use Rattle.brisk_lex.specs.declared.token.Token.{Token}
use Rattle.brisk_lex.specs.declared.token.Token.TheVariants as t
use Rattle.brisk_syntax.specs.Syntax.{Expression, Num, Truth, Var, Tag, Size, Paren, Un, Bin}
use Rattle.brisk_parse.specs.declared.level.Level.{Level}
use Rattle.brisk_parse.specs.declared.level.Level.TheVariants as level
use Rattle.brisk_parse.specs.Input.{Input, at, first, head, sees, with_room}
use Rattle.brisk_parse.specs.Outcomes.{Outcome, Parser, pass_limit}
use Rattle.brisk_parse.specs.Reading.{spend}
use Rattle.brisk_parse.specs.Expressions.{take, take_name, begins_expression, operator, comparison_operator, by_operator, tail, compared, sum, comparison, disjunction, operand, chain, variable_or_tag, unary, restored, expression}
use Rattle.brisk_parse.specs.Levelled.{Levelled, operator_level, left_level, level}
use Rattle.brisk_parse.specs.Spelling as spell
use Rattle.brisk_parse.proofs.Found.{Found, found_then, found_ok, found_err, found_if, found_so, Plain, sees_is, spend_found}
use Rattle.brisk_parse.proofs.Tails.{chain_is}

-- i is the text and then j, and there was room for it
pub record Spends (i : Input) (text : List Token) (j : Input) : Type 0 where
  pub spelled : i.rest ≡ text ++ j.rest
  pub room : i.room ≡ length text + j.room
  pub statements : j.statements ≡ i.statements

pub spends_then : (i j k : Input) (a b : List Token) → Spends i a j → Spends j b k → Spends i (a ++ b) k
spends_then i j k a b one two = record {
  spelled = one.spelled ∙ ap (λ l. a ++ l) two.spelled ∙ sym (append_assoc a b k.rest);
  room = omega (arith, one.room, two.room, length-append a b);
  statements = two.statements ∙ one.statements;
}

spent : (i : Input) (k : Token) → i.rest ≡ k ∷ drop 1 i.rest → Found (spend i) (λ _. Spends i (k ∷ []))
spent i k h = found_so _ _ (spend i) (λ x j a. record { spelled = h ∙ ap (λ l. k ∷ l) (sym a.0); room = a.1; statements = a.2 }) (spend_found i)

take_found : (k : Token) (i : Input) → Found (take k i) (λ _. Spends i (k ∷ []))
unfolding take
take_found k i = found_if _ (sees k i) _ _ (λ h. spent i k (sees_is k i.rest h)) (λ h. found_err _ _)

take_name_at : (rest : List Token) (r n : ℕ) → Found (take_name (at rest r n)) (λ x. Spends (at rest r n) (spell.name x))
unfolding take_name
take_name_at [] r n = found_err _ _
take_name_at (t.Name x ∷ rest) r n = found_then _ _ (spend (at (t.Name x ∷ rest) r n)) _ (spent (at (t.Name x ∷ rest) r n) (t.Name x) refl) (λ _ j a. found_ok _ x j a)
take_name_at (_ ∷ rest) r n = found_err _ _

-- i is an expression of at least that level, and then j
record IsExpression (n : ℕ) (i : Input) (e : Expression) (j : Input) : Type 0 where
  spends : Spends i (spell.expression e) j
  levelled : Levelled e
  least : n ≤ level e

abbrev Gives : ℕ → Parser Expression → Type 0
Gives least p = (i : Input) → Found (p i) (IsExpression least i)

-- ---- operators

-- a level among those of all operators
abbrev pub number : Level → ℕ
number level.Or = 0
number level.And = 1
number level.Sum = 3
number level.Product = 4

-- the token is the operator, whose operands stand at a level and the next
pub record IsOperator (a b : ℕ) (rest : List Token) (op : Op2) : Type 0 where
  pub spelled : rest ≡ t.Mark (spell.operator2 op) ∷ drop 1 rest
  pub here : operator_level op ≡ a
  pub left : left_level op ≡ b

pub operator_found : (l : Level) (rest : List Token) (op : Op2) → operator l (first rest) ≡ Some op → IsOperator (number l) (number l) rest op
operator_found level.Or (t.Mark m.OrOr ∷ rest) op2.Or h = record { spelled = refl; here = refl; left = refl }
operator_found level.And (t.Mark m.AndAnd ∷ rest) op2.And h = record { spelled = refl; here = refl; left = refl }
operator_found level.Sum (t.Mark m.Plus ∷ rest) op2.Add h = record { spelled = refl; here = refl; left = refl }
operator_found level.Sum (t.Mark m.Minus ∷ rest) op2.Sub h = record { spelled = refl; here = refl; left = refl }
operator_found level.Product (t.Mark m.Star ∷ rest) op2.Mul h = record { spelled = refl; here = refl; left = refl }
operator_found _ _ _ h = absurd cc

pub comparison_found : (rest : List Token) (op : Op2) → comparison_operator (first rest) ≡ Some op → IsOperator 2 3 rest op
comparison_found (t.Mark m.EqEq ∷ rest) op2.Eq h = record { spelled = refl; here = refl; left = refl }
comparison_found (t.Mark m.NotEq ∷ rest) op2.Ne h = record { spelled = refl; here = refl; left = refl }
comparison_found (t.Mark m.Less ∷ rest) op2.Lt h = record { spelled = refl; here = refl; left = refl }
comparison_found (t.Mark m.LessEq ∷ rest) op2.Le h = record { spelled = refl; here = refl; left = refl }
comparison_found (t.Mark m.Greater ∷ rest) op2.Gt h = record { spelled = refl; here = refl; left = refl }
comparison_found (t.Mark m.GreaterEq ∷ rest) op2.Ge h = record { spelled = refl; here = refl; left = refl }
comparison_found _ _ h = absurd cc

found_operator : (Q : Expression → Input → Type 0) (o : Option Op2) (go : Op2 → Parser Expression) (e : Expression) (i : Input) → (o ≡ None → Q e i) → ((op : Op2) → o ≡ Some op → Found (go op i) Q) → Found (by_operator o go e i) Q
found_operator Q None go e i stop more = found_ok Q e i (stop refl)
found_operator Q (Some op) go e i stop more = more op refl

-- a further operand is joined to the expression
joined : (here left : ℕ) (start i j k : Input) (e f : Expression) (op : Op2) → IsExpression left start e i → IsOperator here left i.rest op → Spends i (t.Mark (spell.operator2 op) ∷ []) j → IsExpression (1 + here) j f k → IsExpression here start (Bin op e f) k
joined here left start i j k e f op a o s b = record {
  spends = let one = spends_then start i j (spell.expression e) (spell.mark (spell.operator2 op)) a.spends s in spends_then start j k (spell.expression e ++ spell.mark (spell.operator2 op)) (spell.expression f) one b.spends;
  levelled = (a.levelled, omega (arith, a.least, o.left), b.levelled, omega (arith, b.least, o.here));
  least = omega (arith, o.here);
}

tail_found : (l : Level) (next : Parser Expression) → Gives (1 + number l) next → (n : ℕ) (e : Expression) (start i : Input) → IsExpression (number l) start e i → Found (tail l next n e i) (IsExpression (number l) start)
unfolding tail
tail_found l next one zero e start i so_far = found_operator _ (operator l (head i)) (λ op. pass_limit) e i (λ _. so_far) (λ op _. found_err _ _)
tail_found l next one (suc n) e start i so_far =
    found_operator _ (operator l (head i)) _ e i (λ _. so_far) (λ op h.
    let o = operator_found l i.rest op h in
    found_then _ _ (spend i) _ (spent i (t.Mark (spell.operator2 op)) o.spelled) (λ _ j s.
    found_then _ _ (next j) _ (one j) (λ f k b.
    tail_found l next one n (Bin op e f) start k (joined (number l) (number l) start i j k e f op so_far o s b))))

weaken : (a b : ℕ) (i : Input) (e : Expression) (j : Input) → b ≤ a → IsExpression a i e j → IsExpression b i e j
weaken a b i e j le s = record { spends = s.spends; levelled = s.levelled; least = omega (arith, le, s.least) }

chain_found : (l : Level) (n : ℕ) (unary : Parser Expression) → Gives (1 + number l) (operand l n unary) → Gives (number l) (chain l n unary)
chain_found l n unary one i =
    let both = found_then _ (IsExpression (number l) i) (operand l n unary i) (λ e. tail l (operand l n unary) n e) (one i) (λ e j s. tail_found l (operand l n unary) one n e i j (weaken (1 + number l) (number l) i e j (omega arith) s)) in
    record { holds = λ e j h. both.holds e j (sym (chain_is l n unary i) ∙ h) }

compared_found : (n : ℕ) (unary : Parser Expression) → Gives 3 (sum n unary) → Gives 2 (comparison n unary)
unfolding comparison compared
compared_found n unary one i =
    found_then _ _ (sum n unary i) _ (one i) (λ e j a.
    found_operator _ (comparison_operator (head j)) _ e j (λ _. weaken 3 2 i e j (omega arith) a) (λ op h.
    let o = comparison_found j.rest op h in
    found_then _ _ (spend j) _ (spent j (t.Mark (spell.operator2 op)) o.spelled) (λ _ k s.
    found_then _ _ (sum n unary k) _ (one k) (λ f l b.
    found_ok _ (Bin op e f) l (joined 2 3 i j k l e f op a o s b)))))

disjunction_found : (n : ℕ) (unary : Parser Expression) → Gives 5 unary → Gives 0 (disjunction n unary)
disjunction_found n unary one =
    chain_found level.Or n unary (chain_found level.And n unary (compared_found n unary (chain_found level.Sum n unary (chain_found level.Product n unary one))))

-- ---- operands

tag_found : (x : _) (i j : Input) → Spends i (spell.name x) j → Found (variable_or_tag x j) (IsExpression 5 i)
unfolding variable_or_tag
tag_found x i j a =
    found_if _ (sees (t.Mark m.Dot) j) _ _
    (λ h. found_then _ _ (spend j) _ (spent j (t.Mark m.Dot) (sees_is (t.Mark m.Dot) j.rest h)) (λ _ k b.
    found_then _ _ (take_name k) _ (take_name_at k.rest k.room k.statements) (λ y l c.
    found_ok _ (Tag x y) l (record { spends = spends_then i k l (spell.name x ++ spell.mark m.Dot) (spell.name y) (spends_then i j k (spell.name x) (spell.mark m.Dot) a b) c; levelled = tt; least = omega arith }))))
    (λ _. found_ok _ (Var x) j (record { spends = a; levelled = tt; least = omega arith }))

unary_at : (n : ℕ) (rest : List Token) (r c : ℕ) → Found (unary n (at rest r c)) (IsExpression 5 (at rest r c))
unfolding unary
unary_at zero rest r c = found_if _ (begins_expression (first rest)) _ _ (λ _. found_err _ _) (λ _. found_err _ _)
unary_at (suc n) [] r c = found_err _ _
unary_at (suc n) (t.Num x ∷ rest) r c = let i = at (t.Num x ∷ rest) r c in found_then _ _ (spend i) _ (spent i (t.Num x) refl) (λ _ j a. found_ok _ (Num x) j (record { spends = a; levelled = tt; least = omega arith }))
unary_at (suc n) (t.Word w.KwTrue ∷ rest) r c = let i = at (t.Word w.KwTrue ∷ rest) r c in found_then _ _ (spend i) _ (spent i (t.Word w.KwTrue) refl) (λ _ j a. found_ok _ (Truth true) j (record { spends = a; levelled = tt; least = omega arith }))
unary_at (suc n) (t.Word w.KwFalse ∷ rest) r c = let i = at (t.Word w.KwFalse ∷ rest) r c in found_then _ _ (spend i) _ (spent i (t.Word w.KwFalse) refl) (λ _ j a. found_ok _ (Truth false) j (record { spends = a; levelled = tt; least = omega arith }))
unary_at (suc n) (t.Name x ∷ rest) r c = let i = at (t.Name x ∷ rest) r c in found_then _ _ (spend i) _ (spent i (t.Name x) refl) (λ _ j a. tag_found x i j a)
unary_at (suc n) (t.Mark m.Hash ∷ rest) r c =
    let i = at (t.Mark m.Hash ∷ rest) r c in
    found_then _ _ (spend i) _ (spent i (t.Mark m.Hash) refl) (λ _ j a.
    found_then _ _ (take_name j) _ (take_name_at j.rest j.room j.statements) (λ s k b.
    found_ok _ (Size s) k (record { spends = spends_then i j k (spell.mark m.Hash) (spell.name s) a b; levelled = tt; least = omega arith })))
unary_at (suc n) (t.Mark m.LParen ∷ rest) r c =
    let i = at (t.Mark m.LParen ∷ rest) r c in
    found_then _ _ (spend i) _ (spent i (t.Mark m.LParen) refl) (λ _ j a.
    found_then _ _ (disjunction n (unary n) j) _ (disjunction_found n (unary n) (λ i. unary_at n i.rest i.room i.statements) j) (λ e k b.
    found_then _ _ (take (t.Mark m.RParen) k) _ (take_found (t.Mark m.RParen) k) (λ _ l d.
    found_ok _ (Paren e) l (record { spends = spends_then i k l (spell.mark m.LParen ++ spell.expression e) (spell.mark m.RParen) (spends_then i j k (spell.mark m.LParen) (spell.expression e) a b.spends) d; levelled = b.levelled; least = omega arith }))))
unary_at (suc n) (t.Mark m.Minus ∷ rest) r c =
    let i = at (t.Mark m.Minus ∷ rest) r c in
    found_then _ _ (spend i) _ (spent i (t.Mark m.Minus) refl) (λ _ j a.
    found_then _ _ (unary n j) _ (unary_at n j.rest j.room j.statements) (λ e k b.
    found_ok _ (Un op1.Neg e) k (record { spends = spends_then i j k (spell.mark m.Minus) (spell.expression e) a b.spends; levelled = (b.levelled, b.least); least = omega arith })))
unary_at (suc n) (t.Mark m.Bang ∷ rest) r c =
    let i = at (t.Mark m.Bang ∷ rest) r c in
    found_then _ _ (spend i) _ (spent i (t.Mark m.Bang) refl) (λ _ j a.
    found_then _ _ (unary n j) _ (unary_at n j.rest j.room j.statements) (λ e k b.
    found_ok _ (Un op1.Not e) k (record { spends = spends_then i j k (spell.mark m.Bang) (spell.expression e) a b.spends; levelled = (b.levelled, b.least); least = omega arith })))
unary_at (suc n) (_ ∷ rest) r c = found_err _ _

-- the expression is levelled and has at most n tokens
abbrev pub Short : ℕ → Expression → Type 0
Short n e = Levelled e × (length (spell.expression e) ≤ n)

found_restored : (room : ℕ) (r : Outcome Expression) (P Q : Expression → Input → Type 0) → ((e : Expression) (j : Input) → P e j → Q e (with_room room j)) → Found r P → Found (restored room r) Q
found_restored room (Ok p) P Q f h = found_ok Q p.0 (with_room room p.1) (f p.0 p.1 (h.holds p.0 p.1 refl))
found_restored room (Err d) P Q f h = found_err Q d

pub expression_found : (n : ℕ) (i : Input) → Found (expression n i) (Plain spell.expression (Short n) i)
unfolding expression
expression_found n i =
    found_restored i.room (disjunction n (unary n) (with_room n i)) (IsExpression 0 (with_room n i)) _
    (λ e j a. record { spelled = a.spends.spelled; room = refl; statements = omega (arith, a.spends.statements); good = (a.levelled, omega (arith, a.spends.room)) })
    (disjunction_found n (unary n) (λ i. unary_at n i.rest i.room i.statements) (with_room n i))
