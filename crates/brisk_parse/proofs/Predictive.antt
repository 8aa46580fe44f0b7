-- Parsers that decide by the next token alone, and fault at the first token that nothing can go on with.
use Rattle.std.proofs.Common.{◌≡◌, ◌⊎◌, inl, inr, ℕ, zero, suc, ◌+◌, ◌-◌, ◌≤◌, Bool, true, false, List, [], ◌∷◌, ◌++◌, length, drop, Option, Some, None, Ok, Err, refl, sym, ap, subst, ◌∙◌, append_assoc, arith}
use Rattle.brisk_lex.specs.declared.token.Token.{Token}
use Rattle.brisk_parse.specs.declared.fault.Stop.{Stop}
use Rattle.brisk_parse.specs.declared.fault.Stop.TheVariants.{Syntax, TooDeep, TooMany, NoMemory}
use Rattle.brisk_parse.specs.Input.{Input, at, first}
use Rattle.brisk_parse.specs.Outcomes.{Outcome, Parser, and_then}

-- the tokens, or the end, that may follow
abbrev pub Follow : Type 0
Follow = Option Token → Bool

abbrev pub any : Follow
any o = true

abbrev pub none : Follow
none o = false

-- k can stand where rest does: it begins alike, or as may follow
abbrev pub Fits : Follow → List Token → List Token → Type 0
Fits S rest k = (first k ≡ first rest) ⊎ (S (first k) ≡ true)

-- n more than m, which computes at n
abbrev pub plus : ℕ → ℕ → ℕ
plus zero m = m
plus (suc n) m = suc (plus n m)

-- a parser under its limits, at 0, and under limits that are greater
abbrev pub Family : Type 0 → Type 0
Family A = ℕ → Parser A

-- the tokens are read to a value and k, and no more than so much of the room and the statements is used up
pub record ReadsTo {A : Type 0} (p : Parser A) (l : List Token) (r n : ℕ) (x : A) (k : List Token) (bound : ℕ) : Type 0 where
  pub room : ℕ
  pub statements : ℕ
  pub has_room : r ≤ room + bound
  pub has_statements : n ≤ statements + bound
  pub is : p (at l r n) ≡ Ok (x, at k room statements)

-- some tokens go on after those that are done, to something that is read under great limits
pub record Completes {A : Type 0} (G : List Token → Type 0) (p : Family A) (S : Follow) (before : List Token) : Type 0 where
  pub more : List Token
  pub value : A
  pub bound : ℕ
  pub enters : (k : List Token) → S (first k) ≡ true → G (before ++ (more ++ k))
  pub reads : (m r n : ℕ) (k : List Token) → bound ≤ m → bound ≤ r → bound ≤ n → S (first k) ≡ true → ReadsTo (p m) (before ++ (more ++ k)) r n value k bound

-- what is read is read again where something else that fits follows
pub record Took {A : Type 0} (E : Follow) (p : Family A) (S : Follow) (i : Input) (x : A) (j : Input) : Type 0 where
  pub text : List Token
  pub spent : ℕ
  pub counted : ℕ
  pub parts : i.rest ≡ text ++ j.rest
  pub rooms : i.room ≡ spent + j.room
  pub counts : i.statements ≡ counted + j.statements
  pub enters : (k : List Token) → Fits S j.rest k → Fits E i.rest (text ++ k)
  pub again : (m r r' n n' : ℕ) (k : List Token) → r ≡ spent + r' → n ≡ counted + n' → j.room ≤ r' → j.statements ≤ n' → Fits S j.rest k → p m (at (text ++ k) r n) ≡ Ok (x, at k r' n')

-- nothing goes on with the token at fault, under whatever limits, and something goes on before it
pub record Refused {A : Type 0} (E : Follow) (p : Family A) (S : Follow) (i : Input) (left : ℕ) : Type 0 where
  pub before : List Token
  pub rest : List Token
  pub parts : i.rest ≡ before ++ rest
  pub place : left ≡ length rest
  pub again : (m r n : ℕ) (k : List Token) → i.room ≤ r → i.statements ≤ n → first k ≡ first rest → p m (at (before ++ k) r n) ≡ Err (Syntax (length k))
  pub viable : Completes (Fits E i.rest) p S before

-- a limit is passed at a token after which something goes on under greater limits
pub record Passed {A : Type 0} (E : Follow) (p : Family A) (S : Follow) (kind : ℕ → Stop) (i : Input) (left : ℕ) : Type 0 where
  pub before : List Token
  pub token : Token
  pub rest : List Token
  pub parts : i.rest ≡ before ++ (token ∷ rest)
  pub place : left ≡ length (token ∷ rest)
  pub again : (k : List Token) → first k ≡ Some token → p 0 (at (before ++ k) i.room i.statements) ≡ Err (kind (length k))
  pub viable : Completes (Fits E i.rest) p S (before ++ token ∷ [])

abbrev pub Failed : {A : Type 0} → Follow → Family A → Follow → Input → Stop → Type 0
Failed E p S i (Syntax k) = Refused E p S i k
Failed E p S i (TooMany k) = Passed E p S (λ l. TooMany l) i k
Failed E p S i (TooDeep k) = Passed E p S (λ l. TooDeep l) i k
Failed E p S i NoMemory = ⊥

abbrev pub Shape : {A : Type 0} → Follow → Family A → Follow → Input → Outcome A → Type 0
Shape E p S i (Ok x) = Took E p S i x.0 x.1
Shape E p S i (Err f) = Failed E p S i f

-- p may stand where one of E may follow, and one of S may follow it
pub record Rule {A : Type 0} (E : Follow) (p : Family A) (S : Follow) : Type 0 where
  pub predicts : (i : Input) → Shape E p S i (p 0 i)
  pub lives : Completes (λ l. E (first l) ≡ true) p S []

-- ---- one after the other

pub first_after : (d r s : List Token) → first r ≡ first s → first (d ++ r) ≡ first (d ++ s)
first_after [] r s e = e
first_after (t ∷ d) r s e = refl

abbrev pub joined : {A B : Type 0} → Family A → (A → Family B) → Family B
joined p q m i = and_then (p m i) (λ x. q x m)

join_complete : {A B : Type 0} (E b : Follow) (S : Follow) (p : Family A) (q : A → Family B) (i : Input) (x : A) (j : Input) (before : List Token) (t : Took E p b i x j) → Completes (Fits b j.rest) (q x) S before → Completes (Fits E i.rest) (joined p q) S (t.text ++ before)
join_complete E b S p q i x j before t done = record {
  more = done.more;
  value = done.value;
  bound = i.room + i.statements + done.bound;
  enters = λ k h. subst (λ l. Fits E i.rest l) (sym (append_assoc t.text before (done.more ++ k))) (t.enters (before ++ (done.more ++ k)) (done.enters k h));
  reads = λ m r n k le room count h.
      let next = done.reads m (r - t.spent) (n - t.counted) k (omega (arith, le)) (omega (arith, room, t.rooms)) (omega (arith, count, t.counts)) h in
      record {
        room = next.room;
        statements = next.statements;
        has_room = omega (arith, next.has_room, t.rooms);
        has_statements = omega (arith, next.has_statements, t.counts);
        is = ap (λ l. joined p q m (at l r n)) (append_assoc t.text before (done.more ++ k))
            ∙ ap (λ o. and_then o (λ x. q x m)) (t.again m r (r - t.spent) n (n - t.counted) (before ++ (done.more ++ k)) (omega (arith, room, t.rooms)) (omega (arith, count, t.counts)) (omega (arith, room, t.rooms)) (omega (arith, count, t.counts)) (done.enters k h))
            ∙ next.is;
      };
}

join_passed : {A B : Type 0} (E b : Follow) (S : Follow) (p : Family A) (q : A → Family B) (kind : ℕ → Stop) (i : Input) (x : A) (j : Input) (left : ℕ) (t : Took E p b i x j) → Passed b (q x) S kind j left → Passed E (joined p q) S kind i left
join_passed E b S p q kind i x j left t s = record {
  before = t.text ++ s.before;
  token = s.token;
  rest = s.rest;
  parts = t.parts ∙ ap (λ l. t.text ++ l) s.parts ∙ sym (append_assoc t.text s.before (s.token ∷ s.rest));
  place = s.place;
  again = λ k h.
      let same : first (s.before ++ k) ≡ first j.rest = first_after s.before k (s.token ∷ s.rest) h ∙ sym (ap first s.parts) in
      ap (λ l. joined p q 0 (at l i.room i.statements)) (append_assoc t.text s.before k)
      ∙ ap (λ o. and_then o (λ x. q x 0)) (t.again 0 i.room j.room i.statements j.statements (s.before ++ k) t.rooms t.counts (omega arith) (omega arith) (inl same))
      ∙ s.again k h;
  viable = subst (λ l. Completes (Fits E i.rest) (joined p q) S l) (sym (append_assoc t.text s.before (s.token ∷ []))) (join_complete E b S p q i x j (s.before ++ s.token ∷ []) t s.viable);
}

join_second : {A B : Type 0} (E b : Follow) (S : Follow) (p : Family A) (q : A → Family B) (i : Input) (x : A) (j : Input) (t : Took E p b i x j) (o : Outcome B) → Shape b (q x) S j o → Shape E (joined p q) S i o
join_second E b S p q i x j t (Ok y) s = record {
  text = t.text ++ s.text;
  spent = t.spent + s.spent;
  counted = t.counted + s.counted;
  parts = t.parts ∙ ap (λ l. t.text ++ l) s.parts ∙ sym (append_assoc t.text s.text y.1.rest);
  rooms = omega (arith, t.rooms, s.rooms);
  counts = omega (arith, t.counts, s.counts);
  enters = λ k h. subst (λ l. Fits E i.rest l) (sym (append_assoc t.text s.text k)) (t.enters (s.text ++ k) (s.enters k h));
  again = λ m r r' n n' k e f le lf h.
      ap (λ l. joined p q m (at l r n)) (append_assoc t.text s.text k)
      ∙ ap (λ o. and_then o (λ x. q x m)) (t.again m r (s.spent + r') n (s.counted + n') (s.text ++ k) (omega (arith, e)) (omega (arith, f)) (omega (arith, le, s.rooms)) (omega (arith, lf, s.counts)) (s.enters k h))
      ∙ s.again m (s.spent + r') r' (s.counted + n') n' k refl refl le lf h;
}
join_second E b S p q i x j t (Err (Syntax left)) s = record {
  before = t.text ++ s.before;
  rest = s.rest;
  parts = t.parts ∙ ap (λ l. t.text ++ l) s.parts ∙ sym (append_assoc t.text s.before s.rest);
  place = s.place;
  again = λ m r n k le lf h.
      let same : first (s.before ++ k) ≡ first j.rest = first_after s.before k s.rest h ∙ sym (ap first s.parts) in
      ap (λ l. joined p q m (at l r n)) (append_assoc t.text s.before k)
      ∙ ap (λ o. and_then o (λ x. q x m)) (t.again m r (r - t.spent) n (n - t.counted) (s.before ++ k) (omega (arith, le, t.rooms)) (omega (arith, lf, t.counts)) (omega (arith, le, t.rooms)) (omega (arith, lf, t.counts)) (inl same))
      ∙ s.again m (r - t.spent) (n - t.counted) k (omega (arith, le, t.rooms)) (omega (arith, lf, t.counts)) h;
  viable = join_complete E b S p q i x j s.before t s.viable;
}
join_second E b S p q i x j t (Err (TooMany left)) s = join_passed E b S p q (λ l. TooMany l) i x j left t s
join_second E b S p q i x j t (Err (TooDeep left)) s = join_passed E b S p q (λ l. TooDeep l) i x j left t s
join_second E b S p q i x j t (Err NoMemory) s = s

pub join_lives : {A B : Type 0} (G : List Token → Type 0) (b S : Follow) (p : Family A) (q : A → Family B) (before : List Token) → Completes G p b before → ((x : A) → Completes (λ l. b (first l) ≡ true) (q x) S []) → Completes G (joined p q) S before
join_lives G b S p q before s lives =
    let l = lives s.value in
    record {
      more = s.more ++ l.more;
      value = l.value;
      bound = s.bound + l.bound;
      enters = λ k h. subst (λ u. G (before ++ u)) (sym (append_assoc s.more l.more k)) (s.enters (l.more ++ k) (l.enters k h));
      reads = λ m r n k le room count h.
          let one = s.reads m r n (l.more ++ k) (omega (arith, le)) (omega (arith, room)) (omega (arith, count)) (l.enters k h) in
          let two = l.reads m one.room one.statements k (omega (arith, le)) (omega (arith, room, one.has_room)) (omega (arith, count, one.has_statements)) h in
          record {
            room = two.room;
            statements = two.statements;
            has_room = omega (arith, one.has_room, two.has_room);
            has_statements = omega (arith, one.has_statements, two.has_statements);
            is = ap (λ u. joined p q m (at (before ++ u) r n)) (append_assoc s.more l.more k) ∙ ap (λ o. and_then o (λ x. q x m)) one.is ∙ two.is;
          };
    }

pub join_shape : {A B : Type 0} (E b S : Follow) (p : Family A) (q : A → Family B) (i : Input) (o : Outcome A) → Shape E p b i o → ((x : A) → Rule b (q x) S) → Shape E (joined p q) S i (and_then o (λ x. q x 0))
join_shape E b S p q i (Ok y) s second = join_second E b S p q i y.0 y.1 s (q y.0 0 y.1) ((second y.0).predicts y.1)
join_shape E b S p q i (Err (Syntax left)) s second = record {
  before = s.before;
  rest = s.rest;
  parts = s.parts;
  place = s.place;
  again = λ m r n k le lf h. ap (λ o. and_then o (λ x. q x m)) (s.again m r n k le lf h);
  viable = join_lives (Fits E i.rest) b S p q s.before s.viable (λ x. (second x).lives);
}
join_shape E b S p q i (Err (TooMany left)) s second = record { before = s.before; token = s.token; rest = s.rest; parts = s.parts; place = s.place; again = λ k h. ap (λ o. and_then o (λ x. q x 0)) (s.again k h); viable = join_lives (Fits E i.rest) b S p q (s.before ++ s.token ∷ []) s.viable (λ x. (second x).lives) }
join_shape E b S p q i (Err (TooDeep left)) s second = record { before = s.before; token = s.token; rest = s.rest; parts = s.parts; place = s.place; again = λ k h. ap (λ o. and_then o (λ x. q x 0)) (s.again k h); viable = join_lives (Fits E i.rest) b S p q (s.before ++ s.token ∷ []) s.viable (λ x. (second x).lives) }
join_shape E b S p q i (Err NoMemory) s second = s

pub then_rule : {A B : Type 0} {E b S : Follow} {p : Family A} {q : A → Family B} → Rule E p b → ((x : A) → Rule b (q x) S) → Rule E (joined p q) S
then_rule {E = E} {b = b} {S = S} {p = p} {q = q} one two = record {
  predicts = λ i. join_shape E b S p q i (p 0 i) (one.predicts i) two;
  lives = join_lives (λ l. E (first l) ≡ true) b S p q [] one.lives (λ x. (two x).lives);
}

-- ---- nothing is read

pub same_end : {A : Type 0} (x : A) (k : List Token) (r r' n n' : ℕ) → r ≡ 0 + r' → n ≡ 0 + n' → (let o : Outcome A = Ok (x, at k r n) in o ≡ Ok (x, at k r' n'))
same_end x k r r' n n' e f = let same : r ≡ r' = omega (arith, e) in let alike : n ≡ n' = omega (arith, f) in λ i. Ok (x, at k (same i) (alike i))

pub leaves : {A : Type 0} (S : Follow) (x : A) (p : Family A) → ((m r n : ℕ) (k : List Token) → S (first k) ≡ true → p m (at k r n) ≡ Ok (x, at k r n)) → (E : Follow) → ((k : List Token) → S (first k) ≡ true → E (first k) ≡ true) → Completes (λ l. E (first l) ≡ true) p S []
leaves S x p reads E sub = record {
  more = [];
  value = x;
  bound = 0;
  enters = sub;
  reads = λ m r n k le room count h. record { room = r; statements = n; has_room = omega arith; has_statements = omega arith; is = reads m r n k h };
}

still_fits : (E S : Follow) → ((o : Option Token) → S o ≡ true → E o ≡ true) → (rest k : List Token) → Fits S rest k → Fits E rest k
still_fits E S sub rest k (inl e) = inl e
still_fits E S sub rest k (inr s) = inr (sub (first k) s)

pub pure_rule : {A : Type 0} (E S : Follow) (x : A) → ((o : Option Token) → S o ≡ true → E o ≡ true) → Rule E (λ m i. Ok (x, i)) S
pure_rule E S x sub = record {
  predicts = λ i. record {
    text = [];
    spent = 0;
    counted = 0;
    parts = refl;
    rooms = omega arith;
    counts = omega arith;
    enters = still_fits E S sub i.rest;
    again = λ m r r' n n' k e f le lf h. same_end x k r r' n n' e f;
  };
  lives = leaves S x (λ m i. Ok (x, i)) (λ m r n k h. refl) E (λ k h. sub (first k) h);
}

pub value_rule : {A : Type 0} (S : Follow) (x : A) → Rule S (λ m i. Ok (x, i)) S
value_rule S x = pure_rule S S x (λ o h. h)

-- ---- a choice by the first token

pub first_is : (u : Token) (l : List Token) → first l ≡ Some u → l ≡ u ∷ drop 1 l
first_is u [] h = absurd cc
first_is u (v ∷ l) h = let same : v ≡ u = cc in λ i. same i ∷ l

pub same_first : (rest k : List Token) → Fits none rest k → first k ≡ first rest
same_first rest k (inl h) = h
same_first rest k (inr h) = absurd cc

-- a parser that does as another where the same token comes
module _ {A : Type 0} (E : Follow) (p f : Family A) (S : Follow) (i : Input) (alike : (m r n : ℕ) (l : List Token) → first l ≡ first i.rest → f m (at l r n) ≡ p m (at l r n)) where
  moved_lives : (before : List Token) → Completes (Fits none i.rest) p S before → Completes (Fits E i.rest) f S before
  moved_lives before s = record {
    more = s.more;
    value = s.value;
    bound = s.bound;
    enters = λ k h. inl (same_first i.rest _ (s.enters k h));
    reads = λ m r n k le room count h.
        let one = s.reads m r n k le room count h in
        record { room = one.room; statements = one.statements; has_room = one.has_room; has_statements = one.has_statements; is = alike m r n (before ++ (s.more ++ k)) (same_first i.rest _ (s.enters k h)) ∙ one.is };
  }

  moved_passed : (kind : ℕ → Stop) (left : ℕ) → Passed none p S kind i left → Passed E f S kind i left
  moved_passed kind left s = record {
    before = s.before;
    token = s.token;
    rest = s.rest;
    parts = s.parts;
    place = s.place;
    again = λ k h. alike 0 i.room i.statements (s.before ++ k) (first_after s.before k (s.token ∷ s.rest) h ∙ sym (ap first s.parts)) ∙ s.again k h;
    viable = moved_lives (s.before ++ s.token ∷ []) s.viable;
  }

  pub moves : (o : Outcome A) → Shape none p S i o → Shape E f S i o
  moves (Ok y) s = record {
    text = s.text;
    spent = s.spent;
    counted = s.counted;
    parts = s.parts;
    rooms = s.rooms;
    counts = s.counts;
    enters = λ k h. inl (same_first i.rest _ (s.enters k h));
    again = λ m r r' n n' k e g le lg h. alike m r n (s.text ++ k) (same_first i.rest _ (s.enters k h)) ∙ s.again m r r' n n' k e g le lg h;
  }
  moves (Err (Syntax left)) s = record {
    before = s.before;
    rest = s.rest;
    parts = s.parts;
    place = s.place;
    again = λ m r n k le lf h. alike m r n (s.before ++ k) (first_after s.before k s.rest h ∙ sym (ap first s.parts)) ∙ s.again m r n k le lf h;
    viable = moved_lives s.before s.viable;
  }
  moves (Err (TooMany left)) s = moved_passed (λ l. TooMany l) left s
  moves (Err (TooDeep left)) s = moved_passed (λ l. TooDeep l) left s
  moves (Err NoMemory) s = s

-- the same, said of what the two answer
pub moves_to : {A : Type 0} (E : Follow) (p f : Family A) (S : Follow) (i : Input) → ((m r n : ℕ) (l : List Token) → first l ≡ first i.rest → f m (at l r n) ≡ p m (at l r n)) → Shape none p S i (p 0 i) → Shape E f S i (f 0 i)
moves_to E p f S i alike s = subst (Shape E f S i) (sym (alike 0 i.room i.statements i.rest refl)) (moves E p f S i alike (p 0 i) s)

-- with a token that passes the test something is read, and otherwise nothing
module _ {A : Type 0} (E S test : Follow) (f : Family A) (x : A)
    (out : (m r n : ℕ) (k : List Token) → test (first k) ≡ false → f m (at k r n) ≡ Ok (x, at k r n))
    (stop : (o : Option Token) → S o ≡ true → test o ≡ false)
    (sub : (o : Option Token) → S o ≡ true → E o ≡ true)
    (body : (i : Input) → test (first i.rest) ≡ true → Shape none f S i (f 0 i)) where
  left_out : (rest k : List Token) → test (first rest) ≡ false → Fits S rest k → test (first k) ≡ false
  left_out rest k h (inl e) = ap test e ∙ h
  left_out rest k h (inr s) = stop (first k) s

  nothing : (i : Input) → test (first i.rest) ≡ false → Shape E f S i (Ok (x, i))
  nothing i h = record {
    text = [];
    spent = 0;
    counted = 0;
    parts = refl;
    rooms = omega arith;
    counts = omega arith;
    enters = still_fits E S sub i.rest;
    again = λ m r r' n n' k e g le lg fits. out m r n k (left_out i.rest k h fits) ∙ same_end x k r r' n n' e g;
  }

  decide : (i : Input) (b : Bool) → test (first i.rest) ≡ b → Shape E f S i (f 0 i)
  decide i true h = moves_to E f f S i (λ m r n l e. refl) (body i h)
  decide i false h = subst (Shape E f S i) (sym (out 0 i.room i.statements i.rest h)) (nothing i h)

  pub choice_rule : Rule E f S
  choice_rule = record {
    predicts = λ i. decide i (test (first i.rest)) refl;
    lives = leaves S x f (λ m r n k h. out m r n k (stop (first k) h)) E (λ k h. sub (first k) h);
  }

-- ---- first tokens

-- what goes past a token, where it may
pub record Gate (g : Family (Unit {0})) (u : Token) : Type 0 where
  pub opens : (i : Input) → first i.rest ≡ Some u → Shape none g any i (g 0 i)
  pub lives : Completes (λ l. first l ≡ Some u) g any (u ∷ [])

-- after the token u the parser goes on by a rule
pub record Entry {A : Type 0} (p : Family A) (S : Follow) (u : Token) : Type 0 where
  pub gate : Family (Unit {0})
  pub is_gate : Gate gate u
  pub more : Family A
  pub rule : Rule any more S
  pub is : (m r n : ℕ) (k : List Token) → p m (at (u ∷ k) r n) ≡ and_then (gate m (at (u ∷ k) r n)) (λ _. more m)

-- a parser that goes on by the token with which something begins, and refuses all others
pub record Item {A : Type 0} (begins : Follow) (p : Family A) (S : Follow) : Type 0 where
  pub begun : (i : Input) → begins (first i.rest) ≡ true → Shape none p S i (p 0 i)
  pub refuses : (m r n : ℕ) (k : List Token) → begins (first k) ≡ false → p m (at k r n) ≡ Err (Syntax (length k))
  pub completes : (u : Token) → begins (Some u) ≡ true → Completes (λ l. first l ≡ Some u) p S (u ∷ [])
  pub token : Token
  pub begins_token : begins (Some token) ≡ true

pub first_lives : {A : Type 0} (E : Follow) (p : Family A) (S : Follow) (u : Token) → E (Some u) ≡ true → Completes (λ l. first l ≡ Some u) p S (u ∷ []) → Completes (λ l. E (first l) ≡ true) p S []
first_lives E p S u h s = record { more = u ∷ s.more; value = s.value; bound = s.bound; enters = λ k g. h; reads = s.reads }

module _ {A : Type 0} (begins : Follow) (p : Family A) (S : Follow) (item : Item begins p S) (E : Follow) (u : Token) (b : begins (Some u) ≡ true) (h : E (Some u) ≡ true) where
  refused : (i : Input) → begins (first i.rest) ≡ false → Shape E p S i (Err (Syntax (length i.rest)))
  refused i g =
      let lives = first_lives E p S u h (item.completes u b) in
      record {
        before = [];
        rest = i.rest;
        parts = refl;
        place = refl;
        again = λ m r n k le lf e. item.refuses m r n k (ap begins e ∙ g);
        viable = record { more = lives.more; value = lives.value; bound = lives.bound; enters = λ k h. inr (lives.enters k h); reads = lives.reads };
      }

  item_at : (i : Input) (v : Bool) → begins (first i.rest) ≡ v → Shape E p S i (p 0 i)
  item_at i true g = moves_to E p p S i (λ m r n l e. refl) (item.begun i g)
  item_at i false g = subst (Shape E p S i) (sym (item.refuses 0 i.room i.statements i.rest g)) (refused i g)

  -- where one of its first tokens may follow, the item may
  pub item_rule : Rule E p S
  item_rule = record { predicts = λ i. item_at i (begins (first i.rest)) refl; lives = first_lives E p S u h (item.completes u b) }

-- an item, from what each first token leads into
module _ {A : Type 0} (begins : Follow) (p : Family A) (S : Follow) (entry : (u : Token) → begins (Some u) ≡ true → Entry p S u) where
  entered : (u : Token) (i : Input) → begins (Some u) ≡ true → first i.rest ≡ Some u → Shape none p S i (p 0 i)
  entered u i b h =
      let e = entry u b in
      moves_to none (joined e.gate (λ _. e.more)) p S i
      (λ m r n l g. let parts = first_is u l (g ∙ h) in ap (λ z. p m (at z r n)) parts ∙ e.is m r n (drop 1 l) ∙ ap (λ z. and_then (e.gate m (at z r n)) (λ _. e.more m)) (sym parts))
      (join_shape none any S e.gate (λ _. e.more) i (e.gate 0 i) (e.is_gate.opens i h) (λ _. e.rule))

  from_first : (i : Input) (o : Option Token) → begins None ≡ false → first i.rest ≡ o → begins o ≡ true → Shape none p S i (p 0 i)
  from_first i None end h b = absurd cc
  from_first i (Some u) end h b = entered u i b h

  completed : (u : Token) → begins (Some u) ≡ true → Completes (λ l. first l ≡ Some u) p S (u ∷ [])
  completed u b =
      let e = entry u b in
      let s = join_lives (λ l. first l ≡ Some u) any S e.gate (λ _. e.more) (u ∷ []) e.is_gate.lives (λ _. e.rule.lives) in
      record {
        more = s.more;
        value = s.value;
        bound = s.bound;
        enters = s.enters;
        reads = λ m r n k le room count h.
            let one = s.reads m r n k le room count h in
            record { room = one.room; statements = one.statements; has_room = one.has_room; has_statements = one.has_statements; is = e.is m r n (s.more ++ k) ∙ one.is };
      }

  pub item_of : begins None ≡ false → ((m r n : ℕ) (k : List Token) → begins (first k) ≡ false → p m (at k r n) ≡ Err (Syntax (length k))) → (u : Token) → begins (Some u) ≡ true → Item begins p S
  item_of end refuses u b = record { begun = λ i h. from_first i (first i.rest) end refl h; refuses = refuses; completes = completed; token = u; begins_token = b }

-- what follows an item
pub item_then : {A B : Type 0} (begins : Follow) (p : Family A) (b : Follow) (q : A → Family B) (S : Follow) → Item begins p b → ((x : A) → Rule b (q x) S) → Item begins (joined p q) S
item_then begins p b q S item second = record {
  begun = λ i h. join_shape none b S p q i (p 0 i) (item.begun i h) second;
  refuses = λ m r n k h. ap (λ o. and_then o (λ x. q x m)) (item.refuses m r n k h);
  completes = λ u h. join_lives (λ l. first l ≡ Some u) b S p q (u ∷ []) (item.completes u h) (λ x. (second x).lives);
  token = item.token;
  begins_token = item.begins_token;
}

pub item_same : {A : Type 0} (begins : Follow) (p f : Family A) (S : Follow) → ((m : ℕ) (i : Input) → p m i ≡ f m i) → Item begins p S → Item begins f S
item_same begins p f S e item = subst (λ p. Item begins p S) (λ d m i. e m i d) item

pub plus_more : (n m : ℕ) → m ≤ plus n m
plus_more zero m = omega arith
plus_more (suc n) m = omega (arith, plus_more n m)

pub plus_up : (n m : ℕ) → plus n 0 ≤ plus n m
plus_up zero m = omega arith
plus_up (suc n) m = omega (arith, plus_up n m)

pub plus-zero : (n : ℕ) → plus n 0 ≡ n
plus-zero zero = refl
plus-zero (suc n) = ap suc (plus-zero n)
