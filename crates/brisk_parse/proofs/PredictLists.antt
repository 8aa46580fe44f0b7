-- Single tokens and lists predict.
use Rattle.std.proofs.Common.{◌≡◌, inl, ℕ, zero, suc, ◌+◌, ◌-◌, ◌≤◌, Bool, true, false, nat_eq, List, [], ◌∷◌, ◌++◌, length, drop, Option, Some, None, Ok, Err, refl, sym, ap, subst, ◌∙◌, arith}
use Rattle.std.proofs.lemmas.Bool.{eq-eqb}
use denote.Enum.Bare.{true_same}
use Rattle.brisk_values.proofs.Changes.{name_laws}
use Rattle.brisk_lex.specs.contracts.token.Mark as mark
use Rattle.brisk_lex.specs.contracts.token.Word as word
use Rattle.brisk_lex.specs.declared.token.Mark.TheVariants as mk
use Rattle.brisk_lex.specs.declared.token.Token.{Token}
use Rattle.brisk_lex.specs.declared.token.Token.TheVariants as t
use Rattle.brisk_parse.specs.declared.fault.Stop.TheVariants.{Syntax, TooMany}
use Rattle.brisk_parse.specs.Input.{Input, at, first, after, same_token, is_token}
use Rattle.brisk_parse.specs.Outcomes.{and_then}
use Rattle.brisk_parse.specs.Reading.{expect, name, spend, count, others, separated, listed, many, begins_name}
use Rattle.brisk_parse.proofs.Found.{is_the_token, positive}
use Rattle.brisk_parse.proofs.OnlyTokens.{spend_only, count_only}
use Rattle.brisk_parse.proofs.Predictive.{Follow, any, none, Fits, plus, Family, Completes, Shape, Rule, joined, join_shape, then_rule, same_end, value_rule, first_is, moves_to, choice_rule, Gate, Entry, Item, item_rule, item_of}

pub own_token : (k : Token) → same_token k k ≡ true
own_token (t.Mark k) = true_same mark.the_type k k refl
own_token (t.Word k) = true_same word.the_type k k refl
own_token (t.Name x) = name_laws.refl x
own_token (t.Num x) = eq-eqb x x refl

-- the token that is seen is the first one
pub seen : (k : Token) (o : Option Token) → is_token k o ≡ true → o ≡ Some k
seen k None h = absurd cc
seen k (Some u) h = ap (λ v. Some v) (is_the_token k u h)

-- ---- what goes past a token

abbrev pub free : Family (Unit {0})
free m i = Ok (tt, after i)

abbrev pub spending : Family (Unit {0})
spending m = spend

-- a statement is counted, and its first token gone past
abbrev pub counting : Family (Unit {0})
counting m i = and_then (count i) (λ _ j. Ok (tt, after j))

pub free_gate : (u : Token) → Gate free u
free_gate u = record {
  opens = λ i h. record {
    text = u ∷ [];
    spent = 0;
    counted = 0;
    parts = first_is u i.rest h;
    rooms = omega arith;
    counts = omega arith;
    enters = λ k g. inl (sym h);
    again = λ m r r' n n' k e f le lf g. same_end tt k r r' n n' e f;
  };
  lives = record { more = []; value = tt; bound = 0; enters = λ k h. refl; reads = λ m r n k le room statements h. record { room = r; statements = n; has_room = omega arith; has_statements = omega arith; is = refl } };
}

spend_lives : (u : Token) (G : List Token → Type 0) → ((k : List Token) → G (u ∷ k)) → Completes G spending any (u ∷ [])
spend_lives u G g = record { more = []; value = tt; bound = 1; enters = λ k h. g k; reads = λ m r n k le room statements h. record { room = r - 1; statements = n; has_room = omega arith; has_statements = omega arith; is = spend_only u k r (r - 1) n (omega (arith, room)) } }

spend_opens : (u : Token) (i : Input) (b : Bool) → nat_eq i.room 0 ≡ b → first i.rest ≡ Some u → Shape none spending any i (spend i)
unfolding spend
spend_opens u i true b h =
    rw b (record {
      before = [];
      token = u;
      rest = drop 1 i.rest;
      parts = first_is u i.rest h;
      place = ap length (first_is u i.rest h);
      again = λ k g. rw b refl;
      viable = spend_lives u (λ l. Fits none i.rest l) (λ k. inl (sym h));
    })
spend_opens u i false b h =
    rw b (record {
      text = u ∷ [];
      spent = 1;
      counted = 0;
      parts = first_is u i.rest h;
      rooms = positive i.room b;
      counts = omega arith;
      enters = λ k g. inl (sym h);
      again = λ m r r' n n' k e f le lf g. spend_only u k r r' n e ∙ ap (λ n. Ok (tt, at k r' n)) (omega (arith, f));
    })

pub spend_gate : (u : Token) → Gate spending u
spend_gate u = record { opens = λ i h. spend_opens u i (nat_eq i.room 0) refl h; lives = spend_lives u (λ l. first l ≡ Some u) (λ k. refl) }

count_lives : (u : Token) (G : List Token → Type 0) → ((k : List Token) → G (u ∷ k)) → Completes G counting any (u ∷ [])
count_lives u G g = record { more = []; value = tt; bound = 1; enters = λ k h. g k; reads = λ m r n k le room statements h. record { room = r; statements = n - 1; has_room = omega arith; has_statements = omega arith; is = ap (λ o. and_then o (λ _ j. Ok (tt, after j))) (count_only (u ∷ k) r n (n - 1) (omega (arith, statements))) } }

count_opens : (u : Token) (i : Input) (b : Bool) → nat_eq i.statements 0 ≡ b → first i.rest ≡ Some u → Shape none counting any i (counting 0 i)
unfolding count
count_opens u i true b h =
    rw b (record {
      before = [];
      token = u;
      rest = drop 1 i.rest;
      parts = first_is u i.rest h;
      place = ap length (first_is u i.rest h);
      again = λ k g. rw b refl;
      viable = count_lives u (λ l. Fits none i.rest l) (λ k. inl (sym h));
    })
count_opens u i false b h =
    rw b (record {
      text = u ∷ [];
      spent = 0;
      counted = 1;
      parts = first_is u i.rest h;
      rooms = omega arith;
      counts = positive i.statements b;
      enters = λ k g. inl (sym h);
      again = λ m r r' n n' k e f le lf g. ap (λ o. and_then o (λ _ j. Ok (tt, after j))) (count_only (u ∷ k) r n n' f) ∙ ap (λ r. Ok (tt, at k r n')) (omega (arith, e));
    })

pub count_gate : (u : Token) → Gate counting u
count_gate u = record { opens = λ i h. count_opens u i (nat_eq i.statements 0) refl h; lives = count_lives u (λ l. first l ≡ Some u) (λ k. refl) }

-- ---- single tokens

-- a parser that reads a token to a value
pub token_entry : {A : Type 0} (p : Family A) (u : Token) (x : A) → ((m r n : ℕ) (k : List Token) → p m (at (u ∷ k) r n) ≡ Ok (x, at k r n)) → Entry p any u
token_entry p u x is = record { gate = free; is_gate = free_gate u; more = λ m i. Ok (x, i); rule = value_rule any x; is = is }

expect_refuses : (k : Token) (r n : ℕ) (l : List Token) → is_token k (first l) ≡ false → expect k (at l r n) ≡ Err (Syntax (length l))
unfolding expect
expect_refuses k r n l h = rw h refl

expect_entry : (k u : Token) → is_token k (Some u) ≡ true → Entry (λ m. expect k) any u
unfolding expect
expect_entry k u h = token_entry (λ m. expect k) u tt (λ m r n l. rw h refl)

pub expect_item : (k : Token) → Item (is_token k) (λ m. expect k) any
expect_item k = item_of (is_token k) (λ m. expect k) any (expect_entry k) refl (λ m r n l h. expect_refuses k r n l h) k (own_token k)

pub expect_rule : (E : Follow) (k : Token) → E (Some k) ≡ true → Rule E (λ m. expect k) any
expect_rule E k h = item_rule (is_token k) (λ m. expect k) any (expect_item k) E k (own_token k) h

name_refuses : (r n : ℕ) (l : List Token) → begins_name (first l) ≡ false → name (at l r n) ≡ Err (Syntax (length l))
unfolding name
name_refuses r n [] h = refl
name_refuses r n (t.Name x ∷ l) h = absurd cc
name_refuses r n (_ ∷ l) h = refl

name_entry : (u : Token) → begins_name (Some u) ≡ true → Entry (λ m. name) any u
unfolding name
name_entry (t.Name x) h = token_entry (λ m. name) (t.Name x) x (λ m r n l. refl)
name_entry _ h = absurd cc

pub name_item : Item begins_name (λ m. name) any
name_item = item_of begins_name (λ m. name) any name_entry refl (λ m r n l h. name_refuses r n l h) (t.Name []) refl

pub name_rule : Rule any (λ m. name) any
name_rule = item_rule begins_name (λ m. name) any name_item any (t.Name []) refl refl

-- ---- lists with commas

abbrev pub comma : Token
comma = t.Mark mk.Comma

module _ {A : Type 0} (begins : Follow) (one : Family A) (F : Follow) (item : Item begins one F) (S : Follow)
    (stop : (o : Option Token) → S o ≡ true → is_token comma o ≡ false) (sub : (o : Option Token) → S o ≡ true → F o ≡ true) (goes_on : F (Some comma) ≡ true) (end : begins None ≡ false) where
  abbrev pub commas : ℕ → Family (List A)
  commas n m = others begins (one m) (plus n m)

  others_end : (m p r n : ℕ) (k : List Token) → is_token comma (first k) ≡ false → others begins (one m) p (at k r n) ≡ Ok ([], at k r n)
  unfolding others
  others_end m zero r n k h = rw h refl
  others_end m (suc p) r n k h = rw h refl

  -- one more item, where there may be one
  one_other : (m p r n r' n' : ℕ) (u : Token) (x : A) (l k : List Token) → 1 ≤ p → one m (at (u ∷ l) r n) ≡ Ok (x, at k r' n') → is_token comma (first k) ≡ false → others begins (one m) p (at (comma ∷ u ∷ l) r n) ≡ Ok (x ∷ [], at k r' n')
  unfolding others
  one_other m zero r n r' n' u x l k le read h = absurd (omega (arith, le))
  one_other m (suc p) r n r' n' u x l k le read h = rw (read, others_end m p r' n' k h) refl

  other_lives : (G : List Token → Type 0) (u : Token) → begins (Some u) ≡ true → ((k : List Token) → G (comma ∷ k)) → Completes G (commas zero) S (comma ∷ u ∷ [])
  other_lives G u b g =
      let c = item.completes u b in
      record {
        more = c.more;
        value = c.value ∷ [];
        bound = 1 + c.bound;
        enters = λ k h. g (u ∷ (c.more ++ k));
        reads = λ m r n k le room count h.
            let one_read = c.reads m r n k (omega (arith, le)) (omega (arith, room)) (omega (arith, count)) (sub (first k) h) in
            record {
              room = one_read.room;
              statements = one_read.statements;
              has_room = omega (arith, one_read.has_room);
              has_statements = omega (arith, one_read.has_statements);
              is = one_other m m r n one_read.room one_read.statements u c.value (c.more ++ k) k (omega (arith, le)) one_read.is (stop (first k) h);
            };
      }

  zero_refuses : (m p r n : ℕ) (k : List Token) → begins (first k) ≡ false → others begins (one m) p (at (comma ∷ k) r n) ≡ Err (Syntax (length k))
  unfolding others
  zero_refuses m zero r n k h = rw h refl
  zero_refuses m (suc p) r n k h = rw (item.refuses m r n k h) refl

  zero_passes : (r n : ℕ) (k : List Token) → begins (first k) ≡ true → others begins (one 0) zero (at (comma ∷ k) r n) ≡ Err (TooMany (length k))
  unfolding others
  zero_passes r n k h = rw h refl

  -- behind a comma, where there may be no more items
  zero_at : (i : Input) (l : List Token) (o : Option Token) (b : Bool) → i.rest ≡ comma ∷ l → first l ≡ o → begins o ≡ b → Shape none (commas zero) S i (others begins (one 0) zero (at (comma ∷ l) i.room i.statements))
  zero_at i l None true e h g = absurd (let f = sym end ∙ g in cc)
  zero_at i l (Some u) true e h g =
      rw (zero_passes i.room i.statements l (ap begins h ∙ g)) (record {
        before = comma ∷ [];
        token = u;
        rest = drop 1 l;
        parts = e ∙ ap (λ z. comma ∷ z) (first_is u l h);
        place = ap length (first_is u l h);
        again = λ k f. zero_passes i.room i.statements k (ap begins f ∙ g);
        viable = other_lives (λ l. Fits none i.rest l) u g (λ k. inl (sym (ap first e)));
      })
  zero_at i l o false e h g =
      let c = other_lives (λ l. Fits none i.rest l) item.token item.begins_token (λ k. inl (sym (ap first e))) in
      rw (zero_refuses 0 zero i.room i.statements l (ap begins h ∙ g)) (record {
        before = comma ∷ [];
        rest = l;
        parts = e;
        place = refl;
        again = λ m r n k le lf f. zero_refuses m m r n k (ap begins (f ∙ h) ∙ g);
        viable = record { more = item.token ∷ c.more; value = c.value; bound = c.bound; enters = c.enters; reads = c.reads };
      })

  zero_body : (i : Input) → is_token comma (first i.rest) ≡ true → Shape none (commas zero) S i (others begins (one 0) zero i)
  zero_body i h =
      let e = first_is comma i.rest (seen comma (first i.rest) h) in
      let l = drop 1 i.rest in
      subst (λ z. Shape none (commas zero) S i (others begins (one 0) zero (at z i.room i.statements))) (sym e) (zero_at i l (first l) (begins (first l)) e refl refl)

  pub others_rule : (n : ℕ) → Rule F (commas n) S
  unfolding others
  others_rule zero = choice_rule F S (is_token comma) (commas zero) [] (λ m r n k h. others_end m m r n k h) stop sub zero_body
  others_rule (suc n) =
      let more : A → Family (List A) = λ x. joined (commas n) (λ xs m i. Ok (x ∷ xs, i)) in
      let rule : Rule any (joined one more) S = then_rule (item_rule begins one F item any item.token item.begins_token refl) (λ x. then_rule (others_rule n) (λ xs. value_rule S (x ∷ xs))) in
      choice_rule F S (is_token comma) (commas (suc n)) [] (λ m r c k h. others_end m (suc (plus n m)) r c k h) stop sub
      (λ i h. moves_to none (joined free (λ _. joined one more)) (commas (suc n)) S i (λ m r c l g. let is = ap (is_token comma) g ∙ h in rw is refl)
      (join_shape none any S free (λ _. joined one more) i (free 0 i) ((free_gate comma).opens i (seen comma (first i.rest) h)) (λ _. rule)))

  pub separated_rule : (E : Follow) (n : ℕ) (u : Token) → begins (Some u) ≡ true → E (Some u) ≡ true → Rule E (λ m. separated begins (one m) (plus n m)) S
  unfolding separated
  separated_rule E n u b h = then_rule (item_rule begins one F item E u b h) (λ x. then_rule (others_rule n) (λ xs. value_rule S (x ∷ xs)))

  pub listed_rule : (E : Follow) (n : ℕ) → ((o : Option Token) → S o ≡ true → begins o ≡ false) → ((o : Option Token) → S o ≡ true → E o ≡ true) → Rule E (λ m. listed begins (one m) (plus n m)) S
  unfolding listed separated
  listed_rule E n stops subs =
      let more : A → Family (List A) = λ x. joined (commas n) (λ xs m i. Ok (x ∷ xs, i)) in
      choice_rule E S begins (λ m. listed begins (one m) (plus n m)) [] (λ m r c k h. rw h refl) stops subs
      (λ i h. moves_to none (joined one more) (λ m. listed begins (one m) (plus n m)) S i (λ m r c l g. let is = ap begins g ∙ h in rw is refl)
      (join_shape none F S one more i (one 0 i) (item.begun i h) (λ x. then_rule (others_rule n) (λ xs. value_rule S (x ∷ xs)))))

-- ---- items one after another

module _ {A B : Type 0} (begins : Follow) (one : Family A) (F : Follow) (item : Item begins one F) (S : Follow) (last : B) (joint : A → B → B)
    (stop : (o : Option Token) → S o ≡ true → begins o ≡ false) (sub : (o : Option Token) → S o ≡ true → F o ≡ true) (end : begins None ≡ false) where
  abbrev pub manies : ℕ → Family B
  manies n m = many begins (one m) last joint (plus n m)

  many_end : (m p r n : ℕ) (k : List Token) → begins (first k) ≡ false → many begins (one m) last joint p (at k r n) ≡ Ok (last, at k r n)
  unfolding many
  many_end m zero r n k h = rw h refl
  many_end m (suc p) r n k h = rw h refl

  one_many : (m p r n r' n' : ℕ) (u : Token) (x : A) (l k : List Token) → 1 ≤ p → begins (Some u) ≡ true → one m (at (u ∷ l) r n) ≡ Ok (x, at k r' n') → begins (first k) ≡ false → many begins (one m) last joint p (at (u ∷ l) r n) ≡ Ok (joint x last, at k r' n')
  unfolding many
  one_many m zero r n r' n' u x l k le b read h = absurd (omega (arith, le))
  one_many m (suc p) r n r' n' u x l k le b read h = rw (b, read, many_end m p r' n' k h) refl

  many_passes : (r n : ℕ) (k : List Token) → begins (first k) ≡ true → many begins (one 0) last joint zero (at k r n) ≡ Err (TooMany (length k))
  unfolding many
  many_passes r n k h = rw h refl

  many_zero : (i : Input) (o : Option Token) → first i.rest ≡ o → begins o ≡ true → Shape none (manies zero) S i (many begins (one 0) last joint zero i)
  many_zero i None h g = absurd (let f = sym end ∙ g in cc)
  many_zero i (Some u) h g =
      let c = item.completes u g in
      rw (many_passes i.room i.statements i.rest (ap begins h ∙ g)) (record {
        before = [];
        token = u;
        rest = drop 1 i.rest;
        parts = first_is u i.rest h;
        place = ap length (first_is u i.rest h);
        again = λ k f. many_passes i.room i.statements k (ap begins f ∙ g);
        viable = record {
          more = c.more;
          value = joint c.value last;
          bound = 1 + c.bound;
          enters = λ k f. inl (sym h);
          reads = λ m r n k le room count f.
              let one_read = c.reads m r n k (omega (arith, le)) (omega (arith, room)) (omega (arith, count)) (sub (first k) f) in
              record {
                room = one_read.room;
                statements = one_read.statements;
                has_room = omega (arith, one_read.has_room);
                has_statements = omega (arith, one_read.has_statements);
                is = one_many m m r n one_read.room one_read.statements u c.value (c.more ++ k) k (omega (arith, le)) g one_read.is (stop (first k) f);
              };
        };
      })

  pub many_rule : (E : Follow) → ((o : Option Token) → S o ≡ true → E o ≡ true) → (n : ℕ) → Rule E (manies n) S
  unfolding many
  many_rule E subs zero = choice_rule E S begins (manies zero) last (λ m r n k h. many_end m m r n k h) stop subs (λ i h. many_zero i (first i.rest) refl h)
  many_rule E subs (suc n) =
      let more : A → Family B = λ x. joined (manies n) (λ y m i. Ok (joint x y, i)) in
      choice_rule E S begins (manies (suc n)) last (λ m r c k h. many_end m (suc (plus n m)) r c k h) stop subs
      (λ i h. moves_to none (joined one more) (manies (suc n)) S i (λ m r c l g. let is = ap begins g ∙ h in rw is refl)
      (join_shape none F S one more i (one 0 i) (item.begun i h) (λ x. then_rule (many_rule F sub n) (λ y. value_rule S (joint x y)))))
