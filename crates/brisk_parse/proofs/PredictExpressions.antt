-- Expressions predict.
use Rattle.std.proofs.Common.{◌≡◌, inl, ℕ, zero, suc, ◌+◌, ◌-◌, ◌≤◌, Bool, true, false, List, [], ◌∷◌, ◌++◌, length, drop, Option, Some, None, Ok, Err, refl, sym, ap, ◌∙◌, arith}
use Rattle.brisk_values.specs.Names.{Name}
use Rattle.brisk_values.specs.declared.operation.Op1.TheVariants as op1
use Rattle.brisk_values.specs.declared.operation.Op2.{Op2}
use Rattle.brisk_lex.specs.declared.token.Mark.TheVariants as mk
use Rattle.brisk_lex.specs.declared.token.Word.TheVariants as w
use Rattle.brisk_lex.specs.declared.token.Token.{Token}
use Rattle.brisk_lex.specs.declared.token.Token.TheVariants as t
use Rattle.brisk_syntax.specs.Syntax.{Expression, Num, Truth, Var, Tag, Size, Paren, Un, Bin}
use Rattle.brisk_parse.specs.declared.fault.Stop.{Stop}
use Rattle.brisk_parse.specs.declared.fault.Stop.TheVariants.{Syntax, TooDeep, TooMany, NoMemory}
use Rattle.brisk_parse.specs.declared.level.Level.{Level}
use Rattle.brisk_parse.specs.declared.level.Level.TheVariants as level
use Rattle.brisk_parse.specs.Input.{Input, at, first, is_token, with_room}
use Rattle.brisk_parse.specs.Outcomes.{Outcome, and_then}
use Rattle.brisk_parse.specs.Reading.{spend, begins_name}
use Rattle.brisk_parse.specs.Expressions.{take, take_name, begins_expression, operator, comparison_operator, by_operator, tail, compared, comparison, operand, chain, variable_or_tag, unary, restored, expression}
use Rattle.brisk_parse.specs.Levelled.{Levelled, level}
use Rattle.brisk_parse.specs.Spelling as spell
use Rattle.brisk_parse.proofs.Tails.{chain_is}
use Rattle.brisk_parse.proofs.FoundExpressions.{operator_found, comparison_found}
use Rattle.brisk_parse.proofs.OnlyTokens.{spend_only}
use Rattle.brisk_parse.proofs.OnlyExpressions.{binding, size, no_operator, no_comparison, no_dot, reads}
use Rattle.brisk_parse.proofs.Predictive.{Follow, any, none, Fits, plus, Family, Completes, Passed, Shape, Rule, joined, join_shape, then_rule, pure_rule, value_rule, first_is, moves_to, choice_rule, Entry, Item, item_rule, item_of, item_then, item_same, plus_more, plus_up}
use Rattle.brisk_parse.proofs.PredictLists.{own_token, seen, spending, spend_gate}

-- what may follow an expression
abbrev pub ends : Follow
ends (Some (t.Mark mk.Semi)) = true
ends (Some (t.Mark mk.RParen)) = true
ends (Some (t.Mark mk.LBrace)) = true
ends (Some (t.Mark mk.Comma)) = true
ends _ = false

pub ends_binding : (o : Option Token) → ends o ≡ true → binding o ≡ 0
ends_binding (Some (t.Mark mk.Semi)) h = refl
ends_binding (Some (t.Mark mk.RParen)) h = refl
ends_binding (Some (t.Mark mk.LBrace)) h = refl
ends_binding (Some (t.Mark mk.Comma)) h = refl
ends_binding _ h = absurd cc

-- ---- single tokens

spent_entry : {A : Type 0} (p : Family A) (u : Token) (x : A) → ((m r n : ℕ) (k : List Token) → p m (at (u ∷ k) r n) ≡ and_then (spend (at (u ∷ k) r n)) (λ _ i. Ok (x, i))) → Entry p any u
spent_entry p u x is = record { gate = spending; is_gate = spend_gate u; more = λ m i. Ok (x, i); rule = value_rule any x; is = is }

take_refuses : (k : Token) (r n : ℕ) (l : List Token) → is_token k (first l) ≡ false → take k (at l r n) ≡ Err (Syntax (length l))
unfolding take
take_refuses k r n l h = rw h refl

spend_unit : (i : Input) → spend i ≡ and_then (spend i) (λ _ i. Ok (tt, i))
spend_unit i = elim (spend i) as (λ o. o ≡ and_then o (λ _ i. Ok (tt, i))) [ Ok x ↦ refl | Err e ↦ refl ]

take_entry : (k u : Token) → is_token k (Some u) ≡ true → Entry (λ m. take k) any u
unfolding take
take_entry k u h = spent_entry (λ m. take k) u tt (λ m r n l. rw h (spend_unit (at (u ∷ l) r n)))

take_rule : (E : Follow) (k : Token) → E (Some k) ≡ true → Rule E (λ m. take k) any
take_rule E k h = item_rule (is_token k) (λ m. take k) any (item_of (is_token k) (λ m. take k) any (take_entry k) refl (λ m r n l h. take_refuses k r n l h) k (own_token k)) E k (own_token k) h

take_name_refuses : (r n : ℕ) (l : List Token) → begins_name (first l) ≡ false → take_name (at l r n) ≡ Err (Syntax (length l))
unfolding take_name
take_name_refuses r n [] h = refl
take_name_refuses r n (t.Name x ∷ l) h = absurd cc
take_name_refuses r n (_ ∷ l) h = refl

take_name_entry : (u : Token) → begins_name (Some u) ≡ true → Entry (λ m. take_name) any u
unfolding take_name
take_name_entry (t.Name x) h = spent_entry (λ m. take_name) (t.Name x) x (λ m r n l. refl)
take_name_entry _ h = absurd cc

take_name_rule : Rule any (λ m. take_name) any
take_name_rule = item_rule begins_name (λ m. take_name) any (item_of begins_name (λ m. take_name) any take_name_entry refl (λ m r n l h. take_name_refuses r n l h) (t.Name []) refl) any (t.Name []) refl refl

-- ---- operators

abbrev has : Option Op2 → Bool
has None = false
has (Some op) = true

has_none : (o : Option Op2) → has o ≡ false → o ≡ None
has_none None h = refl
has_none (Some op) h = absurd cc

has_some : (o : Option Op2) → has o ≡ true → (op : Op2) × (o ≡ Some op)
has_some None h = absurd cc
has_some (Some op) h = (op, refl)

abbrev pub operator_token : Op2 → Token
operator_token op = t.Mark (spell.operator2 op)

-- an operator leads on, or the expression ends
abbrev by_operators : (Option Token → Option Op2) → (Op2 → Family Expression) → Expression → Family Expression
by_operators which go e m i = by_operator (which (first i.rest)) (λ op i. and_then (spend i) (λ _. go op m)) e i

operators_rule : (which : Option Token → Option Op2) → ((l : List Token) (op : Op2) → which (first l) ≡ Some op → first l ≡ Some (operator_token op)) → ((o : Option Token) → ends o ≡ true → which o ≡ None) → (go : Op2 → Family Expression) → ((op : Op2) → Rule any (go op) ends) → (e : Expression) → Rule ends (by_operators which go e) ends
operators_rule which token free go rule e =
    choice_rule ends ends (λ o. has (which o)) (by_operators which go e) e (λ m r n k h. rw (has_none (which (first k)) h) refl) (λ o h. ap has (free o h)) (λ o h. h)
    (λ i h.
    let is = has_some (which (first i.rest)) h in
    moves_to none (joined spending (λ _. go is.0)) (by_operators which go e) ends i (λ m r n l g. let same = ap which g ∙ is.1 in rw same refl)
    (join_shape none any ends spending (λ _. go is.0) i (spend i) ((spend_gate (operator_token is.0)).opens i (token i.rest is.0 is.1)) (λ _. rule is.0)))

pub operator_first : (l : Level) (k : List Token) (op : Op2) → operator l (first k) ≡ Some op → first k ≡ Some (operator_token op)
operator_first l k op h = ap first (operator_found l k op h).spelled

-- ---- chains

module _ (l : Level) (next : Family Expression) (item : Item begins_expression next ends) where
  abbrev tails : ℕ → Expression → Family Expression
  tails n e m = tail l (next m) (plus n m) e

  tail_out : (m p r n : ℕ) (e : Expression) (k : List Token) → operator l (first k) ≡ None → tail l (next m) p e (at k r n) ≡ Ok (e, at k r n)
  unfolding tail
  tail_out m zero r n e k h = rw h refl
  tail_out m (suc p) r n e k h = rw h refl

  tail_one : (m p r r' n n' : ℕ) (op : Op2) (e f : Expression) (u : Token) (z k : List Token) → 1 ≤ p → operator l (Some u) ≡ Some op → next m (at z r n) ≡ Ok (f, at k r' n') → operator l (first k) ≡ None → tail l (next m) p e (at (u ∷ z) (1 + r) n) ≡ Ok (Bin op e f, at k r' n')
  unfolding tail
  tail_one m zero r r' n n' op e f u z k le is read h = absurd (omega (arith, le))
  tail_one m (suc p) r r' n n' op e f u z k le is read h = rw (is, spend_only u z (1 + r) r n refl, read, tail_out m p r' n' (Bin op e f) k h) refl

  free_end : (o : Option Token) → ends o ≡ true → operator l o ≡ None
  free_end o h = no_operator l o (omega (arith, ends_binding o h))

  tail_passes : (op : Op2) (r n : ℕ) (e : Expression) (k : List Token) → operator l (first k) ≡ Some op → tail l (next 0) zero e (at k r n) ≡ Err (TooMany (length k))
  unfolding tail
  tail_passes op r n e k h = rw h refl

  tail_zero : (e : Expression) (i : Input) (op : Op2) (u : Token) → first i.rest ≡ Some u → operator l (Some u) ≡ Some op → Shape none (tails zero e) ends i (tail l (next 0) zero e i)
  tail_zero e i op u h is =
      let c = item.completes item.token item.begins_token in
      rw (tail_passes op i.room i.statements e i.rest (ap (operator l) h ∙ is)) (record {
        before = [];
        token = u;
        rest = drop 1 i.rest;
        parts = first_is u i.rest h;
        place = ap length (first_is u i.rest h);
        again = λ k f. tail_passes op i.room i.statements e k (ap (operator l) f ∙ is);
        viable = record {
          more = item.token ∷ c.more;
          value = Bin op e c.value;
          bound = 1 + c.bound;
          enters = λ k f. inl (sym h);
          reads = λ m r n k le room count f.
              let one = c.reads m (r - 1) n k (omega (arith, le)) (omega (arith, room)) (omega (arith, count)) f in
              record {
                room = one.room;
                statements = one.statements;
                has_room = omega (arith, one.has_room);
                has_statements = omega (arith, one.has_statements);
                is = ap (λ r. tail l (next m) m e (at (u ∷ item.token ∷ (c.more ++ k)) r n)) (omega (arith, room)) ∙ tail_one m m (r - 1) one.room n one.statements op e c.value u (item.token ∷ (c.more ++ k)) k (omega (arith, le)) is one.is (free_end (first k) f);
              };
        };
      })

  tail_rule : (n : ℕ) (e : Expression) → Rule ends (tails n e) ends
  unfolding tail
  tail_rule zero e =
      choice_rule ends ends (λ o. has (operator l o)) (tails zero e) e (λ m r n k h. tail_out m m r n e k (has_none (operator l (first k)) h)) (λ o h. ap has (free_end o h)) (λ o h. h)
      (λ i h.
      let is = has_some (operator l (first i.rest)) h in
      let there = operator_first l i.rest is.0 is.1 in
      tail_zero e i is.0 (operator_token is.0) there (ap (operator l) (sym there) ∙ is.1))
  tail_rule (suc n) e =
      operators_rule (operator l) (operator_first l) free_end (λ op. joined next (λ f. tails n (Bin op e f)))
      (λ op. then_rule (item_rule begins_expression next ends item any item.token item.begins_token refl) (λ f. tail_rule n (Bin op e f))) e

abbrev operands : Level → ℕ → Family Expression
operands l n m = operand l (plus n m) (unary (plus n m))

abbrev chains : Level → ℕ → Family Expression
chains l n m = chain l (plus n m) (unary (plus n m))

chain_item : (l : Level) (n : ℕ) → Item begins_expression (operands l n) ends → Item begins_expression (chains l n) ends
chain_item l n item =
    item_same begins_expression (joined (operands l n) (λ e. tails l (operands l n) item n e)) (chains l n) ends (λ m i. sym (chain_is l (plus n m) (unary (plus n m)) i))
    (item_then begins_expression (operands l n) ends (λ e. tails l (operands l n) item n e) ends item (λ e. tail_rule l (operands l n) item n e))

pub comparison_first : (k : List Token) (op : Op2) → comparison_operator (first k) ≡ Some op → first k ≡ Some (operator_token op)
comparison_first k op h = ap first (comparison_found k op h).spelled

comparison_item : (n : ℕ) → Item begins_expression (chains level.Sum n) ends → Item begins_expression (operands level.And n) ends
unfolding comparison compared
comparison_item n item =
    let go : Expression → Op2 → Family Expression = λ e op. joined (chains level.Sum n) (λ f m i. Ok (Bin op e f, i)) in
    item_then begins_expression (chains level.Sum n) ends (λ e. by_operators comparison_operator (go e) e) ends item
    (λ e. operators_rule comparison_operator comparison_first (λ o h. no_comparison o (omega (arith, ends_binding o h))) (go e)
    (λ op. then_rule (item_rule begins_expression (chains level.Sum n) ends item any item.token item.begins_token refl) (λ f. value_rule ends (Bin op e f))) e)

abbrev unaries : ℕ → Family Expression
unaries n m = unary (plus n m)

disjunction_item : (n : ℕ) → Item begins_expression (unaries n) ends → Item begins_expression (chains level.Or n) ends
disjunction_item n item = chain_item level.Or n (chain_item level.And n (comparison_item n (chain_item level.Sum n (chain_item level.Product n item))))

-- ---- operands

-- the least expression that begins with the token
record Least (u : Token) : Type 0 where
  tree : Expression
  more : List Token
  spelled : spell.expression tree ≡ u ∷ more
  levelled : Levelled tree
  level : 5 ≤ level tree
  size : size tree ≤ 3

least : (u : Token) → begins_expression (Some u) ≡ true → Least u
least (t.Num x) h = record { tree = Num x; more = []; spelled = refl; levelled = tt; level = omega arith; size = omega arith }
least (t.Name x) h = record { tree = Var x; more = []; spelled = refl; levelled = tt; level = omega arith; size = omega arith }
least (t.Word w.KwTrue) h = record { tree = Truth true; more = []; spelled = refl; levelled = tt; level = omega arith; size = omega arith }
least (t.Word w.KwFalse) h = record { tree = Truth false; more = []; spelled = refl; levelled = tt; level = omega arith; size = omega arith }
least (t.Mark mk.Hash) h = record { tree = Size []; more = t.Name [] ∷ []; spelled = refl; levelled = tt; level = omega arith; size = omega arith }
least (t.Mark mk.LParen) h = record { tree = Paren (Num 0); more = t.Num 0 ∷ t.Mark mk.RParen ∷ []; spelled = refl; levelled = tt; level = omega arith; size = omega arith }
least (t.Mark mk.Minus) h = record { tree = Un op1.Neg (Num 0); more = t.Num 0 ∷ []; spelled = refl; levelled = (tt, omega arith); level = omega arith; size = omega arith }
least (t.Mark mk.Bang) h = record { tree = Un op1.Not (Num 0); more = t.Num 0 ∷ []; spelled = refl; levelled = (tt, omega arith); level = omega arith; size = omega arith }
least _ h = absurd cc

unary_completes : (n : ℕ) (u : Token) (G : List Token → Type 0) → ((k : List Token) → G (u ∷ k)) → begins_expression (Some u) ≡ true → Completes G (unaries n) ends (u ∷ [])
unary_completes n u G g h =
    let s = least u h in
    record {
      more = s.more;
      value = s.tree;
      bound = 3;
      enters = λ k f. g (s.more ++ k);
      reads = λ m r c k le room count f. record {
        room = r - size s.tree;
        statements = c;
        has_room = omega (arith, s.size);
        has_statements = omega arith;
        is = ap (λ z. unary (plus n m) (at (z ++ k) r c)) (sym s.spelled) ∙ (reads (plus n m) s.tree (omega (arith, s.size, le, plus_more n m)) s.levelled).alone s.level k r (r - size s.tree) c (omega (arith, s.size, room)) (omega (arith, ends_binding (first k) f));
      };
    }

unary_refuses : (p r n : ℕ) (k : List Token) → begins_expression (first k) ≡ false → unary p (at k r n) ≡ Err (Syntax (length k))
unfolding unary
unary_refuses zero r n k h = rw h refl
unary_refuses (suc p) r n [] h = refl
unary_refuses (suc p) r n (t.Num x ∷ k) h = absurd cc
unary_refuses (suc p) r n (t.Name x ∷ k) h = absurd cc
unary_refuses (suc p) r n (t.Word w.KwTrue ∷ k) h = absurd cc
unary_refuses (suc p) r n (t.Word w.KwFalse ∷ k) h = absurd cc
unary_refuses (suc p) r n (t.Mark mk.Hash ∷ k) h = absurd cc
unary_refuses (suc p) r n (t.Mark mk.LParen ∷ k) h = absurd cc
unary_refuses (suc p) r n (t.Mark mk.Minus ∷ k) h = absurd cc
unary_refuses (suc p) r n (t.Mark mk.Bang ∷ k) h = absurd cc
unary_refuses (suc p) r n (_ ∷ k) h = refl

unary_passes : (r n : ℕ) (k : List Token) → begins_expression (first k) ≡ true → unary zero (at k r n) ≡ Err (TooMany (length k))
unfolding unary
unary_passes r n k h = rw h refl

unary_zero : (i : Input) (o : Option Token) → first i.rest ≡ o → begins_expression o ≡ true → Shape none (unaries zero) ends i (unary zero i)
unary_zero i None h b = absurd cc
unary_zero i (Some u) h b =
    rw (unary_passes i.room i.statements i.rest (ap begins_expression h ∙ b)) (record {
      before = [];
      token = u;
      rest = drop 1 i.rest;
      parts = first_is u i.rest h;
      place = ap length (first_is u i.rest h);
      again = λ k f. unary_passes i.room i.statements k (ap begins_expression f ∙ b);
      viable = unary_completes zero u (λ l. Fits none i.rest l) (λ k. inl (sym h)) b;
    })

abbrev ends_any : (o : Option Token) → ends o ≡ true → any o ≡ true
ends_any o h = refl

tag_rule : (x : Name) → Rule any (λ m. variable_or_tag x) ends
unfolding variable_or_tag
tag_rule x =
    let more : Family Expression = joined (λ m. take_name) (λ y m i. Ok (Tag x y, i)) in
    choice_rule any ends (is_token (t.Mark mk.Dot)) (λ m. variable_or_tag x) (Var x) (λ m r n k h. rw h refl) (λ o h. no_dot o (omega (arith, ends_binding o h))) ends_any
    (λ i h. moves_to none (joined spending (λ _. more)) (λ m. variable_or_tag x) ends i (λ m r n l g. let is = ap (is_token (t.Mark mk.Dot)) g ∙ h in rw is refl)
    (join_shape none any ends spending (λ _. more) i (spend i) ((spend_gate (t.Mark mk.Dot)).opens i (seen (t.Mark mk.Dot) (first i.rest) h)) (λ _. then_rule take_name_rule (λ y. pure_rule any ends (Tag x y) ends_any))))

unary_entry : (n : ℕ) → Item begins_expression (unaries n) ends → (u : Token) → begins_expression (Some u) ≡ true → Entry (unaries (suc n)) ends u
unfolding unary
unary_entry n item (t.Num x) h = record { gate = spending; is_gate = spend_gate (t.Num x); more = λ m i. Ok (Num x, i); rule = pure_rule any ends (Num x) ends_any; is = λ m r c k. refl }
unary_entry n item (t.Word w.KwTrue) h = record { gate = spending; is_gate = spend_gate (t.Word w.KwTrue); more = λ m i. Ok (Truth true, i); rule = pure_rule any ends (Truth true) ends_any; is = λ m r c k. refl }
unary_entry n item (t.Word w.KwFalse) h = record { gate = spending; is_gate = spend_gate (t.Word w.KwFalse); more = λ m i. Ok (Truth false, i); rule = pure_rule any ends (Truth false) ends_any; is = λ m r c k. refl }
unary_entry n item (t.Name x) h = record { gate = spending; is_gate = spend_gate (t.Name x); more = λ m. variable_or_tag x; rule = tag_rule x; is = λ m r c k. refl }
unary_entry n item (t.Mark mk.Hash) h = record {
  gate = spending;
  is_gate = spend_gate (t.Mark mk.Hash);
  more = joined (λ m. take_name) (λ s m i. Ok (Size s, i));
  rule = then_rule take_name_rule (λ s. pure_rule any ends (Size s) ends_any);
  is = λ m r c k. refl;
}
unary_entry n item (t.Mark mk.LParen) h =
    let inner = disjunction_item n item in
    record {
      gate = spending;
      is_gate = spend_gate (t.Mark mk.LParen);
      more = joined (chains level.Or n) (λ e. joined (λ m. take (t.Mark mk.RParen)) (λ _ m i. Ok (Paren e, i)));
      rule = then_rule (item_rule begins_expression (chains level.Or n) ends inner any inner.token inner.begins_token refl) (λ e. then_rule (take_rule ends (t.Mark mk.RParen) refl) (λ _. pure_rule any ends (Paren e) ends_any));
      is = λ m r c k. refl;
    }
unary_entry n item (t.Mark mk.Minus) h = record {
  gate = spending;
  is_gate = spend_gate (t.Mark mk.Minus);
  more = joined (unaries n) (λ e m i. Ok (Un op1.Neg e, i));
  rule = then_rule (item_rule begins_expression (unaries n) ends item any item.token item.begins_token refl) (λ e. value_rule ends (Un op1.Neg e));
  is = λ m r c k. refl;
}
unary_entry n item (t.Mark mk.Bang) h = record {
  gate = spending;
  is_gate = spend_gate (t.Mark mk.Bang);
  more = joined (unaries n) (λ e m i. Ok (Un op1.Not e, i));
  rule = then_rule (item_rule begins_expression (unaries n) ends item any item.token item.begins_token refl) (λ e. value_rule ends (Un op1.Not e));
  is = λ m r c k. refl;
}
unary_entry n item _ h = absurd cc

unary_item : (n : ℕ) → Item begins_expression (unaries n) ends
unary_item zero = record {
  begun = λ i h. unary_zero i (first i.rest) refl h;
  refuses = λ m r c k h. unary_refuses m r c k h;
  completes = λ u h. unary_completes zero u (λ l. first l ≡ Some u) (λ k. refl) h;
  token = t.Num 0;
  begins_token = refl;
}
unary_item (suc n) = item_of begins_expression (unaries (suc n)) ends (unary_entry n (unary_item n)) refl (λ m r c k h. unary_refuses (suc (plus n m)) r c k h) (t.Num 0) refl

-- ---- the room of an expression

abbrev pub wholes : ℕ → Family Expression
wholes n m = expression (plus n m)

abbrev roomy : ℕ → Input → Input
roomy n i = with_room (plus n 0) i

restored_ok : (n m : ℕ) (r c r' c' : ℕ) (l k : List Token) (e : Expression) → chains level.Or n m (at l (plus n m) c) ≡ Ok (e, at k r' c') → wholes n m (at l r c) ≡ Ok (e, at k r c')
unfolding expression
restored_ok n m r c r' c' l k e h = rw h refl

restored_err : (n m : ℕ) (r c : ℕ) (l : List Token) (d : Stop) → chains level.Or n m (at l (plus n m) c) ≡ Err d → wholes n m (at l r c) ≡ Err d
unfolding expression
restored_err n m r c l d h = rw h refl

restored_lives : (n : ℕ) (G : List Token → Type 0) (before : List Token) → Completes G (chains level.Or n) ends before → Completes G (wholes n) ends before
restored_lives n G before s = record {
  more = s.more;
  value = s.value;
  bound = s.bound;
  enters = s.enters;
  reads = λ m r c k le room count h.
      let one = s.reads m (plus n m) c k le (omega (arith, le, plus_more n m)) count h in
      record { room = r; statements = one.statements; has_room = omega arith; has_statements = one.has_statements; is = restored_ok n m r c one.room one.statements (before ++ (s.more ++ k)) k s.value one.is };
}

restored_passed : (n : ℕ) (i : Input) (kind : ℕ → Stop) (left : ℕ) → Passed none (chains level.Or n) ends kind (roomy n i) left → Passed none (wholes n) ends kind i left
restored_passed n i kind left s = record {
  before = s.before;
  token = s.token;
  rest = s.rest;
  parts = s.parts;
  place = s.place;
  again = λ k h. restored_err n 0 i.room i.statements (s.before ++ k) (kind (length k)) (s.again k h);
  viable = restored_lives n (Fits none i.rest) (s.before ++ s.token ∷ []) s.viable;
}

restored_shape : (n : ℕ) (i : Input) (o : Outcome Expression) → Shape none (chains level.Or n) ends (roomy n i) o → Shape none (wholes n) ends i (restored i.room o)
restored_shape n i (Ok x) s = record {
  text = s.text;
  spent = 0;
  counted = s.counted;
  parts = s.parts;
  rooms = omega arith;
  counts = s.counts;
  enters = s.enters;
  again = λ m r r' c c' k e f le lf h.
      restored_ok n m r c (plus n m - s.spent) c' (s.text ++ k) k x.0 (s.again m (plus n m) (plus n m - s.spent) c c' k (omega (arith, s.rooms, plus_up n m)) f (omega (arith, s.rooms, plus_up n m)) lf h)
      ∙ ap (λ r. Ok (x.0, at k r c')) (omega (arith, e));
}
restored_shape n i (Err (Syntax left)) s = record {
  before = s.before;
  rest = s.rest;
  parts = s.parts;
  place = s.place;
  again = λ m r c k le lf h. restored_err n m r c (s.before ++ k) (Syntax (length k)) (s.again m (plus n m) c k (plus_up n m) lf h);
  viable = restored_lives n (Fits none i.rest) s.before s.viable;
}
restored_shape n i (Err (TooMany left)) s = restored_passed n i (λ l. TooMany l) left s
restored_shape n i (Err (TooDeep left)) s = restored_passed n i (λ l. TooDeep l) left s
restored_shape n i (Err NoMemory) s = s

pub expression_item : (n : ℕ) → Item begins_expression (wholes n) ends
unfolding expression
expression_item n =
    let item = disjunction_item n (unary_item n) in
    record {
      begun = λ i h. restored_shape n i (chains level.Or n 0 (roomy n i)) (item.begun (roomy n i) h);
      refuses = λ m r c k h. restored_err n m r c k (Syntax (length k)) (item.refuses m (plus n m) c k h);
      completes = λ u h. restored_lives n (λ l. first l ≡ Some u) (u ∷ []) (item.completes u h);
      token = t.Num 0;
      begins_token = refl;
    }
