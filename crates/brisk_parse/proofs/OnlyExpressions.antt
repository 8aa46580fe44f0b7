-- What is spelled as a levelled expression is read.
use Rattle.std.proofs.Common.{◌≡◌, ℕ, zero, suc, ◌+◌, ◌-◌, ◌≤◌, inl, inr, true, false, List, ◌∷◌, ◌++◌, length, length-append, Option, Some, None, Ok, refl, ap, ◌∙◌, append_assoc, arith}
use Rattle.std.proofs.lemmas.Bool.{cases_lt}
use Rattle.brisk_values.specs.declared.operation.Op1.TheVariants as op1
use Rattle.brisk_values.specs.declared.operation.Op2.{Op2}
use Rattle.brisk_values.specs.declared.operation.Op2.TheVariants as op2
use Rattle.brisk_lex.specs.declared.token.Mark.TheVariants as m
use Rattle.brisk_lex.specs.declared.token.Word.TheVariants as w
use Rattle.brisk_lex.specs.declared.token.Token.{Token}
use Rattle.brisk_lex.specs.declared.token.Token.TheVariants as t
use Rattle.brisk_syntax.specs.Syntax.{Expression, Num, Truth, Var, Tag, Size, Paren, Un, Bin}
use Rattle.brisk_parse.specs.declared.level.Level.{Level}
use Rattle.brisk_parse.specs.declared.level.Level.TheVariants as level
use Rattle.brisk_parse.specs.Input.{at, first, is_token}
use Rattle.brisk_parse.specs.Outcomes.{Parser, and_then}
use Rattle.brisk_parse.specs.Expressions.{take, take_name, operator, comparison_operator, tail, compared, sum, comparison, operand, chain, variable_or_tag, unary, expression}
use Rattle.brisk_parse.specs.Levelled.{Levelled, operator_level, left_level, level}
use Rattle.brisk_parse.specs.Spelling as spell
use Rattle.brisk_parse.proofs.Tails.{chain_is}
use Rattle.brisk_parse.proofs.FoundExpressions.{number}
use Rattle.brisk_parse.proofs.OnlyTokens.{spend_only}

-- how tightly a token goes on with an expression before it
abbrev pub binding : Option Token → ℕ
binding (Some (t.Mark m.OrOr)) = 1
binding (Some (t.Mark m.AndAnd)) = 2
binding (Some (t.Mark m.EqEq)) = 3
binding (Some (t.Mark m.NotEq)) = 3
binding (Some (t.Mark m.Less)) = 3
binding (Some (t.Mark m.LessEq)) = 3
binding (Some (t.Mark m.Greater)) = 3
binding (Some (t.Mark m.GreaterEq)) = 3
binding (Some (t.Mark m.Plus)) = 4
binding (Some (t.Mark m.Minus)) = 4
binding (Some (t.Mark m.Star)) = 5
binding (Some (t.Mark m.Dot)) = 6
binding _ = 0

abbrev pub size : Expression → ℕ
size e = length (spell.expression e)

-- ---- operators

binding_of : (op : Op2) → binding (Some (t.Mark (spell.operator2 op))) ≡ operator_level op + 1
binding_of op2.Or = refl
binding_of op2.And = refl
binding_of op2.Eq = refl
binding_of op2.Ne = refl
binding_of op2.Lt = refl
binding_of op2.Le = refl
binding_of op2.Gt = refl
binding_of op2.Ge = refl
binding_of op2.Add = refl
binding_of op2.Sub = refl
binding_of op2.Mul = refl

pub no_operator : (l : Level) (o : Option Token) → binding o ≤ number l → operator l o ≡ None
no_operator level.Or (Some (t.Mark m.OrOr)) h = absurd (omega (arith, h))
no_operator level.And (Some (t.Mark m.AndAnd)) h = absurd (omega (arith, h))
no_operator level.Sum (Some (t.Mark m.Plus)) h = absurd (omega (arith, h))
no_operator level.Sum (Some (t.Mark m.Minus)) h = absurd (omega (arith, h))
no_operator level.Product (Some (t.Mark m.Star)) h = absurd (omega (arith, h))
no_operator _ _ h = refl

pub no_comparison : (o : Option Token) → binding o ≤ 2 → comparison_operator o ≡ None
no_comparison (Some (t.Mark m.EqEq)) h = absurd (omega (arith, h))
no_comparison (Some (t.Mark m.NotEq)) h = absurd (omega (arith, h))
no_comparison (Some (t.Mark m.Less)) h = absurd (omega (arith, h))
no_comparison (Some (t.Mark m.LessEq)) h = absurd (omega (arith, h))
no_comparison (Some (t.Mark m.Greater)) h = absurd (omega (arith, h))
no_comparison (Some (t.Mark m.GreaterEq)) h = absurd (omega (arith, h))
no_comparison _ h = refl

pub no_dot : (o : Option Token) → binding o ≤ 5 → is_token (t.Mark m.Dot) o ≡ false
no_dot (Some (t.Mark m.Dot)) h = absurd (omega (arith, h))
no_dot _ h = refl

-- the operator of a level, as it is spelled
record IsOf (l : Level) (op : Op2) : Type 0 where
  operator : operator l (Some (t.Mark (spell.operator2 op))) ≡ Some op
  left : left_level op ≡ number l

operator_of : (l : Level) (op : Op2) → number l ≡ operator_level op → IsOf l op
operator_of level.Or op2.Or h = record { operator = refl; left = refl }
operator_of level.And op2.And h = record { operator = refl; left = refl }
operator_of level.Sum op2.Add h = record { operator = refl; left = refl }
operator_of level.Sum op2.Sub h = record { operator = refl; left = refl }
operator_of level.Product op2.Mul h = record { operator = refl; left = refl }
operator_of _ _ h = absurd (omega (arith, h))

comparison_of : (op : Op2) → operator_level op ≡ 2 → (comparison_operator (Some (t.Mark (spell.operator2 op))) ≡ Some op) × (left_level op ≡ 3)
comparison_of op2.Eq h = (refl, refl)
comparison_of op2.Ne h = (refl, refl)
comparison_of op2.Lt h = (refl, refl)
comparison_of op2.Le h = (refl, refl)
comparison_of op2.Gt h = (refl, refl)
comparison_of op2.Ge h = (refl, refl)
comparison_of _ h = absurd (omega (arith, h))

small_level : (l : Level) → number l ≤ 4
small_level level.Or = omega arith
small_level level.And = omega arith
small_level level.Sum = omega arith
small_level level.Product = omega arith

small_operator : (op : Op2) → operator_level op ≤ 4
small_operator op2.Or = omega arith
small_operator op2.And = omega arith
small_operator op2.Add = omega arith
small_operator op2.Sub = omega arith
small_operator op2.Mul = omega arith
small_operator _ = omega arith

-- ---- chains

-- p reads the expression where no token of a tighter level than n follows
abbrev pub Gives : ℕ → Parser Expression → Expression → Type 0
Gives n p e = (k : List Token) (s r c : ℕ) → s ≡ size e + r → binding (first k) ≤ n → p (at (spell.expression e ++ k) s c) ≡ Ok (e, at k r c)

tail_end : (l : Level) (next : Parser Expression) (n : ℕ) (e : Expression) (k : List Token) (r c : ℕ) → binding (first k) ≤ number l → tail l next n e (at k r c) ≡ Ok (e, at k r c)
unfolding tail
tail_end l next zero e k r c h = rw (no_operator l (first k) h) refl
tail_end l next (suc n) e k r c h = rw (no_operator l (first k) h) refl

tail_on : (l : Level) (next : Parser Expression) (n : ℕ) (op : Op2) (e f : Expression) (k rest : List Token) (s r c : ℕ) → 1 ≤ n → number l ≡ operator_level op → next (at rest s c) ≡ Ok (f, at k r c)
    → tail l next n e (at (t.Mark (spell.operator2 op) ∷ rest) (1 + s) c) ≡ tail l next (n - 1) (Bin op e f) (at k r c)
unfolding tail
tail_on l next zero op e f k rest s r c le h read = absurd (omega (arith, le))
tail_on l next (suc n) op e f k rest s r c le h read =
    rw ((operator_of l op h).operator, spend_only (t.Mark (spell.operator2 op)) rest (1 + s) s c refl, read) (ap (λ n. tail l next n (Bin op e f) (at k r c)) (omega arith))

module _ (n : ℕ) where
  -- the expression is read as the first operands of a chain, and so many may follow
  pub record Run (l : Level) (e : Expression) : Type 0 where
    pub left : ℕ
    pub enough : n ≤ left + size e
    pub runs : (k : List Token) (s r c : ℕ) → s ≡ size e + r → binding (first k) ≤ 1 + number l → and_then (operand l n (unary n) (at (spell.expression e ++ k) s c)) (λ e. tail l (operand l n (unary n)) n e) ≡ tail l (operand l n (unary n)) left e (at k r c)

  -- how the expression is read at each level that it has
  pub record IsRead (e : Expression) : Type 0 where
    pub alone : 5 ≤ level e → Gives 5 (unary n) e
    pub compared : 2 ≤ level e → Gives 2 (comparison n (unary n)) e
    pub chained : (l : Level) → number l ≤ level e → Gives (number l) (chain l n (unary n)) e
    pub run : (l : Level) → number l ≤ level e → Run l e

  operand_read : (e : Expression) → IsRead e → (l : Level) → 1 + number l ≤ level e → Gives (1 + number l) (operand l n (unary n)) e
  operand_read e h level.Or le = h.chained level.And le
  operand_read e h level.And le = h.compared le
  operand_read e h level.Sum le = h.chained level.Product le
  operand_read e h level.Product le = h.alone le

  chain_read : (l : Level) (e : Expression) → Run l e → Gives (number l) (chain l n (unary n)) e
  chain_read l e h k s r c len free = chain_is l n (unary n) (at (spell.expression e ++ k) s c) ∙ h.runs k s r c len (omega (arith, free)) ∙ tail_end l (operand l n (unary n)) h.left e k r c free

  compared_read : (e : Expression) → Gives 3 (sum n (unary n)) e → Gives 2 (comparison n (unary n)) e
  unfolding comparison compared
  compared_read e h k s r c len free = rw (h k s r c len (omega (arith, free)), no_comparison (first k) free) refl

  first_run : (l : Level) (e : Expression) → Gives (1 + number l) (operand l n (unary n)) e → Run l e
  first_run l e h = record { left = n; enough = omega arith; runs = λ k s r c len free. ap (λ o. and_then o (λ e. tail l (operand l n (unary n)) n e)) (h k s r c len free) }

  -- at its own level as is given, and at looser ones as an operand
  level_run : (l : Level) (e : Expression) → (number l ≡ level e → Run l e) → (1 + number l ≤ level e → Gives (1 + number l) (operand l n (unary n)) e) → number l ≤ level e → Run l e
  level_run l e own above le = elim (cases_lt (number l) (level e)) [ inl lt ↦ first_run l e (above (omega (arith, lt))) | inr ge ↦ own (omega (arith, le, ge)) ]

  level_compared : (e : Expression) → (level e ≡ 2 → Gives 2 (comparison n (unary n)) e) → (3 ≤ level e → Gives 3 (sum n (unary n)) e) → 2 ≤ level e → Gives 2 (comparison n (unary n)) e
  level_compared e own above le = elim (cases_lt 2 (level e)) [ inl lt ↦ compared_read e (above (omega (arith, lt))) | inr ge ↦ own (omega (arith, le, ge)) ]

  is_read : (e : Expression) → (5 ≤ level e → Gives 5 (unary n) e) → (level e ≡ 2 → Gives 2 (comparison n (unary n)) e) → ((l : Level) → number l ≡ level e → Run l e) → IsRead e
  is_read e alone compared own =
      let product_run = level_run level.Product e (own level.Product) alone in
      let sum_run = level_run level.Sum e (own level.Sum) (λ le. chain_read level.Product e (product_run le)) in
      let comparison_read = level_compared e compared (λ le. chain_read level.Sum e (sum_run le)) in
      let and_run = level_run level.And e (own level.And) comparison_read in
      let or_run = level_run level.Or e (own level.Or) (λ le. chain_read level.And e (and_run le)) in
      let run : (l : Level) → number l ≤ level e → Run l e = λ l. elim l as (λ l. number l ≤ level e → Run l e) [ level.Or ↦ or_run | level.And ↦ and_run | level.Sum ↦ sum_run | level.Product ↦ product_run ] in
      record { alone = alone; compared = comparison_read; chained = λ l le. chain_read l e (run l le); run = run }

  -- an expression without operators between
  simple : (e : Expression) → level e ≡ 5 → Gives 5 (unary n) e → IsRead e
  simple e h read = is_read e (λ _. read) (λ g. absurd (omega (arith, h, g))) (λ l g. absurd (omega (arith, h, g, small_level l)))

  split_two : (op : Op2) (e f : Expression) (k : List Token) → spell.expression (Bin op e f) ++ k ≡ spell.expression e ++ (t.Mark (spell.operator2 op) ∷ (spell.expression f ++ k))
  split_two op e f k = append_assoc (spell.expression e ++ spell.mark (spell.operator2 op)) (spell.expression f) k ∙ append_assoc (spell.expression e) (spell.mark (spell.operator2 op)) (spell.expression f ++ k)

  size_two : (op : Op2) (e f : Expression) → size (Bin op e f) ≡ size e + (1 + size f)
  size_two op e f = omega (arith, length-append (spell.expression e ++ spell.mark (spell.operator2 op)) (spell.expression f), length-append (spell.expression e) (spell.mark (spell.operator2 op)))

  joined_run : (op : Op2) (e f : Expression) → size (Bin op e f) ≤ n → left_level op ≤ level e → operator_level op + 1 ≤ level f → IsRead e → IsRead f → (l : Level) → number l ≡ operator_level op → Run l (Bin op e f)
  joined_run op e f le left right one two l h =
      let so_far = one.run l (omega (arith, left, (operator_of l op h).left)) in
      let next = operand_read f two l (omega (arith, right, h)) in
      record {
        left = so_far.left - 1;
        enough = omega (arith, so_far.enough, size_two op e f, le);
        runs = λ k s r c len free.
            ap (λ z. and_then (operand l n (unary n) (at z s c)) (λ e. tail l (operand l n (unary n)) n e)) (split_two op e f k)
            ∙ so_far.runs (t.Mark (spell.operator2 op) ∷ (spell.expression f ++ k)) s (1 + (size f + r)) c (omega (arith, len, size_two op e f)) (omega (arith, binding_of op, h))
            ∙ tail_on l (operand l n (unary n)) so_far.left op e f k (spell.expression f ++ k) (size f + r) r c (omega (arith, so_far.enough, size_two op e f, le)) h (next k (size f + r) r c refl (omega (arith, free)));
      }

  joined_compared : (op : Op2) (e f : Expression) → left_level op ≤ level e → operator_level op + 1 ≤ level f → IsRead e → IsRead f → operator_level op ≡ 2 → Gives 2 (comparison n (unary n)) (Bin op e f)
  unfolding comparison compared
  joined_compared op e f left right one two h k s r c len free =
      let which = comparison_of op h in
      let here = one.chained level.Sum (omega (arith, left, which.1)) (t.Mark (spell.operator2 op) ∷ (spell.expression f ++ k)) s (1 + (size f + r)) c (omega (arith, len, size_two op e f)) (omega (arith, binding_of op, h)) in
      let more = two.chained level.Sum (omega (arith, right, h)) k (size f + r) r c refl (omega (arith, free)) in
      rw (split_two op e f k, here, which.0, spend_only (t.Mark (spell.operator2 op)) (spell.expression f ++ k) (1 + (size f + r)) (size f + r) c refl, more) refl

  joined_read : (op : Op2) (e f : Expression) → size (Bin op e f) ≤ n → left_level op ≤ level e → operator_level op + 1 ≤ level f → IsRead e → IsRead f → IsRead (Bin op e f)
  joined_read op e f le left right one two =
      is_read (Bin op e f) (λ h. absurd (omega (arith, h, small_operator op))) (λ h. joined_compared op e f left right one two h) (joined_run op e f le left right one two)

-- ---- expressions

pub reads : (n : ℕ) (e : Expression) → size e ≤ n → Levelled e → IsRead n e
unfolding unary take take_name variable_or_tag
reads zero (Num x) le l = absurd (omega (arith, le))
reads zero (Truth true) le l = absurd (omega (arith, le))
reads zero (Truth false) le l = absurd (omega (arith, le))
reads zero (Var x) le l = absurd (omega (arith, le))
reads zero (Tag x y) le l = absurd (omega (arith, le))
reads zero (Size x) le l = absurd (omega (arith, le))
reads zero (Paren e) le l = absurd (omega (arith, le))
reads zero (Un op e) le l = absurd (omega (arith, le))
reads (suc n) (Num x) le l = simple (suc n) (Num x) refl (λ k s r c len free. rw (spend_only (t.Num x) k s r c (omega (arith, len))) refl)
reads (suc n) (Truth true) le l = simple (suc n) (Truth true) refl (λ k s r c len free. rw (spend_only (t.Word w.KwTrue) k s r c (omega (arith, len))) refl)
reads (suc n) (Truth false) le l = simple (suc n) (Truth false) refl (λ k s r c len free. rw (spend_only (t.Word w.KwFalse) k s r c (omega (arith, len))) refl)
reads (suc n) (Var x) le l = simple (suc n) (Var x) refl (λ k s r c len free. rw (spend_only (t.Name x) k s r c (omega (arith, len)), no_dot (first k) free) refl)
reads (suc n) (Tag x y) le l = simple (suc n) (Tag x y) refl (λ k s r c len free.
    rw (spend_only (t.Name x) (t.Mark m.Dot ∷ t.Name y ∷ k) s (2 + r) c (omega (arith, len)), spend_only (t.Mark m.Dot) (t.Name y ∷ k) (2 + r) (1 + r) c (omega arith), spend_only (t.Name y) k (1 + r) r c (omega arith)) refl)
reads (suc n) (Size x) le l = simple (suc n) (Size x) refl (λ k s r c len free. rw (spend_only (t.Mark m.Hash) (t.Name x ∷ k) s (1 + r) c (omega (arith, len)), spend_only (t.Name x) k (1 + r) r c (omega arith)) refl)
reads (suc n) (Paren e) le l =
    let size_is : size (Paren e) ≡ 2 + size e = omega (arith, length-append (spell.expression e) (spell.mark m.RParen)) in
    let inner = reads n e (omega (arith, le, size_is)) l in
    simple (suc n) (Paren e) refl (λ k s r c len free.
    rw (append_assoc (spell.expression e) (spell.mark m.RParen) k, spend_only (t.Mark m.LParen) (spell.expression e ++ (t.Mark m.RParen ∷ k)) s (size e + (1 + r)) c (omega (arith, len, size_is)), inner.chained level.Or (omega arith) (t.Mark m.RParen ∷ k) (size e + (1 + r)) (1 + r) c refl (omega arith), spend_only (t.Mark m.RParen) k (1 + r) r c refl) refl)
reads (suc n) (Un op1.Neg e) le l =
    let inner = reads n e (omega (arith, le)) l.0 in
    simple (suc n) (Un op1.Neg e) refl (λ k s r c len free. rw (spend_only (t.Mark m.Minus) (spell.expression e ++ k) s (size e + r) c (omega (arith, len)), inner.alone l.1 k (size e + r) r c refl free) refl)
reads (suc n) (Un op1.Not e) le l =
    let inner = reads n e (omega (arith, le)) l.0 in
    simple (suc n) (Un op1.Not e) refl (λ k s r c len free. rw (spend_only (t.Mark m.Bang) (spell.expression e ++ k) s (size e + r) c (omega (arith, len)), inner.alone l.1 k (size e + r) r c refl free) refl)
reads n (Bin op e f) le l =
    joined_read n op e f le l.1 l.3 (reads n e (omega (arith, le, size_two n op e f)) l.0) (reads n f (omega (arith, le, size_two n op e f)) l.2)

pub expression_only : (n : ℕ) (e : Expression) (k : List Token) (r c : ℕ) → Levelled e → size e ≤ n → binding (first k) ≡ 0 → expression n (at (spell.expression e ++ k) r c) ≡ Ok (e, at k r c)
unfolding expression
expression_only n e k r c l le h =
    rw ((reads n e le l).chained level.Or (omega arith) k n (n - size e) c (omega (arith, le)) (omega (arith, h))) refl
