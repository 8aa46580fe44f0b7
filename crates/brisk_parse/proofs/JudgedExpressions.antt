-- An expression is read, or stops at the first token past its limit.
use Rattle.std.proofs.Common.{◌≡◌, inl, ℕ, zero, suc, ◌+◌, ◌-◌, ◌<◌, ◌≤◌, Bool, true, false, nat_le, nat_eq, if◌then◌else◌, List, [], ◌∷◌, ◌++◌, length, drop, Option, Some, None, Ok, Err, refl, sym, ap, subst, ◌∙◌, arith}
use Rattle.std.proofs.lemmas.Bool.{leb-true, eqb-true}
use Rattle.std.proofs.lemmas.Bool.Decides.{nat_tests}
use Rattle.brisk_values.specs.Names.{Name}
use Rattle.brisk_values.specs.declared.operation.Op1.TheVariants as op1
use Rattle.brisk_values.specs.declared.operation.Op2.{Op2}
use Rattle.brisk_lex.specs.declared.token.Mark.TheVariants as mk
use Rattle.brisk_lex.specs.declared.token.Word.TheVariants as w
use Rattle.brisk_lex.specs.declared.token.Token.{Token}
use Rattle.brisk_lex.specs.declared.token.Token.TheVariants as t
use Rattle.brisk_syntax.specs.Syntax.{Expression, Num, Truth, Var, Tag, Size, Paren, Un, Bin}
use Rattle.brisk_parse.specs.declared.fault.Stop.{Stop}
use Rattle.brisk_parse.specs.declared.fault.Stop.TheVariants.{Syntax, TooDeep, TooMany, NoMemory}
use Rattle.brisk_parse.specs.declared.level.Level.{Level}
use Rattle.brisk_parse.specs.declared.level.Level.TheVariants as level
use Rattle.brisk_parse.specs.Input.{Input, at, first, sees, with_room}
use Rattle.brisk_parse.specs.Outcomes.{Outcome, Parser, and_then}
use Rattle.brisk_parse.specs.Reading.{spend}
use Rattle.brisk_parse.specs.Expressions.{take, take_name, begins_expression, operator, comparison_operator, by_operator, tail, compared, sum, comparison, disjunction, operand, chain, variable_or_tag, unary, restored, expression}
use Rattle.brisk_parse.specs.Levelled.{Levelled}
use Rattle.brisk_parse.specs.Passing.{Nowhere, ManyAt}
use Rattle.brisk_parse.specs.Spelling as spell
use Rattle.brisk_parse.proofs.Tails.{chain_is}
use Rattle.brisk_parse.proofs.Found.{positive}
use Rattle.brisk_parse.proofs.FoundExpressions.{expression_found}
use Rattle.brisk_parse.proofs.Judged.{judged}
use Rattle.brisk_parse.proofs.OnlyExpressions.{size, expression_only}
use Rattle.brisk_parse.proofs.StatementParts.{expression_begins}
use Rattle.brisk_parse.proofs.Predictive.{none, plus, Shape, first_is, plus_more, plus-zero}
use Rattle.brisk_parse.proofs.PredictLists.{seen}
use Rattle.brisk_parse.proofs.PredictExpressions.{ends, ends_binding, operator_token, operator_first, comparison_first, wholes, expression_item}

-- as many tokens are read as the room gets less, and a limit is passed only where the room is used up
abbrev Uses : {A : Type 0} → ℕ → Input → Outcome A → Type 0
Uses s i (Ok p) = (p.1.room + s ≤ i.room) × (i.room + length p.1.rest ≡ p.1.room + length i.rest)
Uses s i (Err (Syntax left)) = Unit {0}
Uses s i (Err (TooMany left)) = left + i.room ≡ length i.rest
Uses s i (Err (TooDeep left)) = ⊥
Uses s i (Err NoMemory) = ⊥

uses_from : {A : Type 0} (s : ℕ) (i j : Input) (o : Outcome A) → j.room + s ≤ i.room → i.room + length j.rest ≡ j.room + length i.rest → Uses 0 j o → Uses s i o
uses_from s i j (Ok p) le e u = (omega (arith, le, u.0), omega (arith, e, u.1))
uses_from s i j (Err (Syntax left)) le e u = tt
uses_from s i j (Err (TooMany left)) le e u = omega (arith, e, u)
uses_from s i j (Err (TooDeep left)) le e u = u
uses_from s i j (Err NoMemory) le e u = u

uses_then : {A B : Type 0} (s : ℕ) (i : Input) (o : Outcome A) (f : A → Parser B) → Uses s i o → ((x : A) (j : Input) → j.room + s ≤ i.room → Uses 0 j (f x j)) → Uses s i (and_then o f)
uses_then s i (Ok p) f u g = uses_from s i p.1 (f p.0 p.1) u.0 u.1 (g p.0 p.1 u.0)
uses_then s i (Err (Syntax left)) f u g = tt
uses_then s i (Err (TooMany left)) f u g = u
uses_then s i (Err (TooDeep left)) f u g = u
uses_then s i (Err NoMemory) f u g = u

uses_ok : {A : Type 0} (x : A) (i : Input) → (let o : Outcome A = Ok (x, i) in Uses 0 i o)
uses_ok x i = (omega arith, refl)

looser : {A : Type 0} (s : ℕ) (i : Input) (o : Outcome A) → Uses s i o → Uses 0 i o
looser s i (Ok p) u = (omega (arith, u.0), u.1)
looser s i (Err (Syntax left)) u = tt
looser s i (Err (TooMany left)) u = u
looser s i (Err (TooDeep left)) u = u
looser s i (Err NoMemory) u = u

-- ---- single tokens

spend_by : (u : Token) (rest : List Token) (r c : ℕ) (b : Bool) → nat_eq r 0 ≡ b → Uses 1 (at (u ∷ rest) r c) (spend (at (u ∷ rest) r c))
unfolding spend
spend_by u rest r c true h = rw h (omega (arith, eqb-true r 0 h))
spend_by u rest r c false h = let some = positive r h in rw h (omega (arith, some), omega (arith, some))

spend_uses : (u : Token) (i : Input) → first i.rest ≡ Some u → Uses 1 i (spend i)
spend_uses u i h = subst (λ l. Uses 1 (at l i.room i.statements) (spend (at l i.room i.statements))) (sym (first_is u i.rest h)) (spend_by u (drop 1 i.rest) i.room i.statements (nat_eq i.room 0) refl)

take_by : (k : Token) (i : Input) (b : Bool) → sees k i ≡ b → Uses 0 i (take k i)
unfolding take
take_by k i true h = rw h (looser 1 i (spend i) (spend_uses k i (seen k (first i.rest) h)))
take_by k i false h = rw h tt

take_uses : (k : Token) (i : Input) → Uses 0 i (take k i)
take_uses k i = take_by k i (sees k i) refl

name_by : (rest : List Token) (r c : ℕ) → Uses 0 (at rest r c) (take_name (at rest r c))
unfolding take_name
name_by [] r c = tt
name_by (t.Name x ∷ rest) r c =
    let i = at (t.Name x ∷ rest) r c in
    uses_then 0 i (spend i) (λ _ j. Ok (x, j)) (looser 1 i (spend i) (spend_uses (t.Name x) i refl)) (λ _ j le. uses_ok x j)
name_by (_ ∷ rest) r c = tt

name_uses : (i : Input) → Uses 0 i (take_name i)
name_uses i = name_by i.rest i.room i.statements

-- a token, and what follows it
after_token : {A : Type 0} (u : Token) (i : Input) (p : Parser A) → first i.rest ≡ Some u → ((j : Input) → j.room + 1 ≤ i.room → Uses 0 j (p j)) → Uses 0 i (and_then (spend i) (λ _. p))
after_token u i p h g = looser 1 i (and_then (spend i) (λ _. p)) (uses_then 1 i (spend i) (λ _. p) (spend_uses u i h) (λ _ j le. g j le))

-- ---- operators

operator_by : (i : Input) (go : Op2 → Parser Expression) (e : Expression) (o : Option Op2) → ((op : Op2) → o ≡ Some op → Uses 0 i (go op i)) → Uses 0 i (by_operator o go e i)
operator_by i go e None g = uses_ok e i
operator_by i go e (Some op) g = g op refl

module _ (l : Level) (next : Parser Expression) (n : ℕ) (next_uses : (i : Input) → i.room ≤ n → Uses 0 i (next i)) where
  tail_uses : (m : ℕ) (e : Expression) (i : Input) → i.room ≤ m → i.room ≤ n → Uses 0 i (tail l next m e i)
  unfolding tail
  tail_uses zero e i le ln = operator_by i _ e (operator l (first i.rest)) (λ op h. omega (arith, le))
  tail_uses (suc m) e i le ln =
      operator_by i _ e (operator l (first i.rest))
      (λ op h.
      after_token (operator_token op) i _ (operator_first l i.rest op h) (λ j lj.
      uses_then 0 j (next j) _ (next_uses j (omega (arith, lj, ln))) (λ f k lk. tail_uses m (Bin op e f) k (omega (arith, lk, lj, le)) (omega (arith, lk, lj, ln)))))

module _ (n : ℕ) (unary_uses : (i : Input) → i.room ≤ n → Uses 0 i (unary n i)) where
  abbrev Fine : Parser Expression → Type 0
  Fine p = (i : Input) → i.room ≤ n → Uses 0 i (p i)

  chain_uses : (l : Level) → Fine (operand l n (unary n)) → Fine (chain l n (unary n))
  chain_uses l next i le =
      subst (λ o. Uses 0 i o) (sym (chain_is l n (unary n) i))
      (uses_then 0 i (operand l n (unary n) i) (λ e. tail l (operand l n (unary n)) n e) (next i le) (λ e j lj. tail_uses l (operand l n (unary n)) n next n e j (omega (arith, lj, le)) (omega (arith, lj, le))))

  comparison_uses : Fine (sum n (unary n)) → Fine (comparison n (unary n))
  unfolding comparison compared
  comparison_uses next i le =
      uses_then 0 i (sum n (unary n) i) _ (next i le) (λ e j lj.
      operator_by j _ e (comparison_operator (first j.rest))
      (λ op h.
      after_token (operator_token op) j _ (comparison_first j.rest op h) (λ k lk.
      uses_then 0 k (sum n (unary n) k) _ (next k (omega (arith, lk, lj, le))) (λ f z lz. uses_ok (Bin op e f) z))))

  disjunction_uses : Fine (disjunction n (unary n))
  disjunction_uses = chain_uses level.Or (chain_uses level.And (comparison_uses (chain_uses level.Sum (chain_uses level.Product unary_uses))))

tag_by : (x : Name) (i : Input) (b : Bool) → sees (t.Mark mk.Dot) i ≡ b → Uses 0 i (variable_or_tag x i)
unfolding variable_or_tag
tag_by x i true h = rw h (after_token (t.Mark mk.Dot) i _ (seen (t.Mark mk.Dot) (first i.rest) h) (λ j lj. uses_then 0 j (take_name j) _ (name_uses j) (λ y k lk. uses_ok (Tag x y) k)))
tag_by x i false h = rw h (uses_ok (Var x) i)

unary_none : (i : Input) (b : Bool) → begins_expression (first i.rest) ≡ b → i.room ≤ 0 → Uses 0 i (unary zero i)
unfolding unary
unary_none i true h le = rw h (omega (arith, le))
unary_none i false h le = rw h tt

unary_by : (n : ℕ) → ((i : Input) → i.room ≤ n → Uses 0 i (unary n i)) → (rest : List Token) (r c : ℕ) → r ≤ suc n → Uses 0 (at rest r c) (unary (suc n) (at rest r c))
unfolding unary
unary_by n inner [] r c le = tt
unary_by n inner (t.Num x ∷ rest) r c le = after_token (t.Num x) (at (t.Num x ∷ rest) r c) _ refl (λ j lj. uses_ok (Num x) j)
unary_by n inner (t.Name x ∷ rest) r c le = after_token (t.Name x) (at (t.Name x ∷ rest) r c) _ refl (λ j lj. tag_by x j (sees (t.Mark mk.Dot) j) refl)
unary_by n inner (t.Word w.KwTrue ∷ rest) r c le = after_token (t.Word w.KwTrue) (at (t.Word w.KwTrue ∷ rest) r c) _ refl (λ j lj. uses_ok (Truth true) j)
unary_by n inner (t.Word w.KwFalse ∷ rest) r c le = after_token (t.Word w.KwFalse) (at (t.Word w.KwFalse ∷ rest) r c) _ refl (λ j lj. uses_ok (Truth false) j)
unary_by n inner (t.Mark mk.Hash ∷ rest) r c le = after_token (t.Mark mk.Hash) (at (t.Mark mk.Hash ∷ rest) r c) _ refl (λ j lj. uses_then 0 j (take_name j) _ (name_uses j) (λ s k lk. uses_ok (Size s) k))
unary_by n inner (t.Mark mk.LParen ∷ rest) r c le =
    after_token (t.Mark mk.LParen) (at (t.Mark mk.LParen ∷ rest) r c) _ refl (λ j lj.
    uses_then 0 j (disjunction n (unary n) j) _ (disjunction_uses n inner j (omega (arith, lj, le))) (λ e k lk. uses_then 0 k (take (t.Mark mk.RParen) k) _ (take_uses (t.Mark mk.RParen) k) (λ _ z lz. uses_ok (Paren e) z)))
unary_by n inner (t.Mark mk.Minus ∷ rest) r c le = after_token (t.Mark mk.Minus) (at (t.Mark mk.Minus ∷ rest) r c) _ refl (λ j lj. uses_then 0 j (unary n j) _ (inner j (omega (arith, lj, le))) (λ e k lk. uses_ok (Un op1.Neg e) k))
unary_by n inner (t.Mark mk.Bang ∷ rest) r c le = after_token (t.Mark mk.Bang) (at (t.Mark mk.Bang ∷ rest) r c) _ refl (λ j lj. uses_then 0 j (unary n j) _ (inner j (omega (arith, lj, le))) (λ e k lk. uses_ok (Un op1.Not e) k))
unary_by n inner (_ ∷ rest) r c le = tt

unary_uses : (n : ℕ) (i : Input) → i.room ≤ n → Uses 0 i (unary n i)
unary_uses zero i le = unary_none i (begins_expression (first i.rest)) refl le
unary_uses (suc n) i le = unary_by n (unary_uses n) i.rest i.room i.statements le

-- ---- expressions

told_many : (s : ℕ) (i : Input) (room left : ℕ) (o : Outcome Expression) → Uses s i o → restored room o ≡ Err (TooMany left) → left + i.room ≡ length i.rest
told_many s i room left (Ok p) u h = absurd cc
told_many s i room left (Err (Syntax k)) u h = absurd cc
told_many s i room left (Err (TooMany k)) u h = let same : k ≡ left = cc in omega (arith, same, u)
told_many s i room left (Err (TooDeep k)) u h = absurd u
told_many s i room left (Err NoMemory) u h = absurd u

told_deep : (s : ℕ) (i : Input) (room left : ℕ) (o : Outcome Expression) → Uses s i o → restored room o ≡ Err (TooDeep left) → ⊥
told_deep s i room left (Ok p) u h = cc
told_deep s i room left (Err (Syntax k)) u h = cc
told_deep s i room left (Err (TooMany k)) u h = cc
told_deep s i room left (Err (TooDeep k)) u h = u
told_deep s i room left (Err NoMemory) u h = u

abbrev whole_uses : (n : ℕ) (i : Input) → Uses 0 (with_room n i) (disjunction n (unary n) (with_room n i))
whole_uses n i = disjunction_uses n (unary_uses n) (with_room n i) (omega arith)

expression_many : (n : ℕ) (i : Input) (left : ℕ) → expression n i ≡ Err (TooMany left) → left + n ≡ length i.rest
unfolding expression
expression_many n i left h = told_many 0 (with_room n i) i.room left (disjunction n (unary n) (with_room n i)) (whole_uses n i) h

expression_deep : (n : ℕ) (i : Input) (left : ℕ) → expression n i ≡ Err (TooDeep left) → ⊥
unfolding expression
expression_deep n i left h = told_deep 0 (with_room n i) i.room left (disjunction n (unary n) (with_room n i)) (whole_uses n i) h

same_pair : (p q : Expression × Input) → (let o : Outcome Expression = Ok p in o ≡ Ok q) → p ≡ q
same_pair p q h = cc

same_first_ok : (o : Outcome Expression) (x y : Expression) (j k : Input) → o ≡ Ok (x, j) → o ≡ Ok (y, k) → x ≡ y
same_first_ok o x y j k h g = ap (λ p. p.0) (same_pair (x, j) (y, k) (sym h ∙ g))

ok_err : (o : Outcome Expression) (x : Expression) (j : Input) (d : Stop) → o ≡ Ok (x, j) → o ≡ Err d → ⊥
ok_err o x j d h g = cc

module _ (n : ℕ) (e : Expression) (k : List Token) (r c : ℕ) (levelled : Levelled e) (free : ends (first k) ≡ true) (long : n < size e) where
  abbrev text : List Token
  text = spell.expression e ++ k

  -- under greater limits it is read
  read_later : wholes n (size e) (at text r c) ≡ Ok (e, at k r c)
  read_later = expression_only (plus n (size e)) e k r c levelled (plus_more n (size e)) (ends_binding (first k) free)

  long_by : (o : Outcome Expression) → expression (plus n 0) (at text r c) ≡ o → Shape none (wholes n) ends (at text r c) o → o ≡ Err (TooMany (length text - n))
  long_by (Ok p) h s =
      let good = ((expression_found (plus n 0) (at text r c)).holds p.0 p.1 h).good.1 in
      let again : wholes n (size e) (at text r c) ≡ Ok (p.0, at p.1.rest p.1.room p.1.statements) = ap (λ l. wholes n (size e) (at l r c)) s.parts ∙ s.again (size e) r p.1.room c p.1.statements p.1.rest s.rooms s.counts (omega arith) (omega arith) (inl refl) in
      let same = same_first_ok (wholes n (size e) (at text r c)) p.0 e (at p.1.rest p.1.room p.1.statements) (at k r c) again read_later in
      absurd (omega (arith, good, long, ap size same, plus-zero n))
  long_by (Err (Syntax left)) h s =
      let again : wholes n (size e) (at text r c) ≡ Err (Syntax (length s.rest)) = ap (λ l. wholes n (size e) (at l r c)) s.parts ∙ s.again (size e) r c s.rest (omega arith) (omega arith) refl in
      absurd (ok_err (wholes n (size e) (at text r c)) e (at k r c) (Syntax (length s.rest)) read_later again)
  long_by (Err (TooMany left)) h s = let exact = expression_many (plus n 0) (at text r c) left h in let same : left ≡ length text - n = omega (arith, exact, plus-zero n) in ap (λ n. Err (TooMany n)) same
  long_by (Err (TooDeep left)) h s = absurd (expression_deep (plus n 0) (at text r c) left h)
  long_by (Err NoMemory) h s = absurd s

  long_stops : expression n (at text r c) ≡ Err (TooMany (length text - n))
  long_stops = ap (λ n. expression n (at text r c)) (sym (plus-zero n)) ∙ long_by (expression (plus n 0) (at text r c)) refl ((expression_item n).begun (at text r c) (expression_begins e k))

not_le : (a b : ℕ) → nat_le a b ≡ false → b < a
not_le a b h = grind (arith, nat_tests)

judged_by : (n : ℕ) (e : Expression) (k : List Token) (r c : ℕ) (b : Bool) → nat_le (size e) n ≡ b → Levelled e → ends (first k) ≡ true → expression n (at (spell.expression e ++ k) r c) ≡ judged (if b then Nowhere else ManyAt n) (spell.expression e ++ k) (Ok (e, at k r c))
judged_by n e k r c true h levelled free = expression_only n e k r c levelled (leb-true (size e) n h) (ends_binding (first k) free)
judged_by n e k r c false h levelled free = long_stops n e k r c levelled free (not_le (size e) n h)

pub expression_judged : (n : ℕ) (e : Expression) (k : List Token) (r c : ℕ) → Levelled e → ends (first k) ≡ true → expression n (at (spell.expression e ++ k) r c) ≡ judged (if nat_le (size e) n then Nowhere else ManyAt n) (spell.expression e ++ k) (Ok (e, at k r c))
expression_judged n e k r c levelled free = judged_by n e k r c (nat_le (size e) n) refl levelled free
