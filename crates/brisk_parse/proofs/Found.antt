-- What is read is spelled: single tokens and lists.
use Rattle.std.proofs.Common.{◌≡◌, ℕ, zero, suc, ◌+◌, ◌-◌, ◌≤◌, Bool, true, false, cond, List, [], ◌∷◌, ◌++◌, length, drop, sum_by, nat_eq, Option, Some, Ok, Err, refl, sym, ap, subst, ◌∙◌, append_assoc, arith, rules}
use Rattle.std.specs.List.{AllByRecursion}
use Rattle.std.proofs.lemmas.List.Sums.{sum_by-cons}
use Rattle.std.proofs.lemmas.Bool.{eqb-true}
use denote.Enum.Bare.{same_true}
use Rattle.brisk_values.proofs.Changes.{exact_name}
use Rattle.brisk_lex.specs.contracts.token.Mark as mark
use Rattle.brisk_lex.specs.contracts.token.Word as word
use Rattle.brisk_lex.specs.declared.token.Mark.TheVariants as m
use Rattle.brisk_lex.specs.declared.token.Token.{Token}
use Rattle.brisk_lex.specs.declared.token.Token.TheVariants as t
use Rattle.brisk_parse.specs.declared.fault.Stop.{Stop}
use Rattle.brisk_parse.specs.Input.{Input, at, first, head, after, is_token, sees}
use Rattle.brisk_parse.specs.Outcomes.{Outcome, Parser, and_then}
use Rattle.brisk_parse.specs.Reading.{expect, name, number, spend, count, others, separated, listed, many, list_of}
use Rattle.brisk_parse.specs.Spelling as spell

-- what is read, if anything, is so
pub record Found {A : Type 0} (r : Outcome A) (Q : A → Input → Type 0) : Type 0 where
  pub holds : (x : A) (j : Input) → r ≡ Ok (x, j) → Q x j

pub found_then : {A B : Type 0} (P : A → Input → Type 0) (Q : B → Input → Type 0) (r : Outcome A) (f : A → Parser B) → Found r P → ((x : A) (j : Input) → P x j → Found (f x j) Q) → Found (and_then r f) Q
found_then P Q (Ok p) f one two = two p.0 p.1 (one.holds p.0 p.1 refl)
found_then P Q (Err d) f one two = record { holds = λ x j e. absurd cc }

parts_same : {A : Type 0} (p q : A × Input) → (let r : Outcome A = Ok p in r ≡ Ok q) → p ≡ q
parts_same p q e = cc

pub found_ok : {A : Type 0} (Q : A → Input → Type 0) (x : A) (j : Input) → Q x j → Found (Ok (x, j)) Q
found_ok Q x j q = record { holds = λ y k e. subst (λ p. Q p.0 p.1) (parts_same (x, j) (y, k) e) q }

pub found_err : {A : Type 0} (Q : A → Input → Type 0) (d : Stop) → Found (Err d) Q
found_err Q d = record { holds = λ x j e. absurd cc }

pub found_if : {A : Type 0} (Q : A → Input → Type 0) (b : Bool) (r s : Outcome A) → (b ≡ true → Found r Q) → (b ≡ false → Found s Q) → Found (cond b r s) Q
found_if Q true r s there other = there refl
found_if Q false r s there other = other refl

-- what follows from what is read holds too
pub found_so : {A : Type 0} (P Q : A → Input → Type 0) (r : Outcome A) → ((x : A) (j : Input) → P x j → Q x j) → Found r P → Found r Q
found_so P Q r f h = record { holds = λ x j e. f x j (h.holds x j e) }

-- i is x and then j, so many statements are counted, and x is good
pub record Spelled {A : Type 0} (spelling : A → List Token) (used : A → ℕ) (Good : A → Type 0) (i : Input) (x : A) (j : Input) : Type 0 where
  pub spelled : i.rest ≡ spelling x ++ j.rest
  pub room : j.room ≡ i.room
  pub statements : i.statements ≡ used x + j.statements
  pub good : Good x

-- i is x and then j, and no statement begins
abbrev pub Plain : {A : Type 0} → (A → List Token) → (A → Type 0) → Input → A → Input → Type 0
Plain spelling Good = Spelled spelling (λ _. 0) Good

abbrev pub Any : {A : Type 0} → A → Type 0
Any x = Unit {0}

-- ---- lists of tokens, grouped otherwise

pub parts3 : (a b c k : List Token) → a ++ (b ++ (c ++ k)) ≡ a ++ b ++ c ++ k
parts3 a b c k = simp append_assoc refl

pub parts4 : (a b c d k : List Token) → a ++ (b ++ (c ++ (d ++ k))) ≡ a ++ b ++ c ++ d ++ k
parts4 a b c d k = simp append_assoc refl

pub parts5 : (a b c d e k : List Token) → a ++ (b ++ c ++ d ++ e ++ k) ≡ a ++ b ++ c ++ d ++ e ++ k
parts5 a b c d e k = simp append_assoc refl

-- ---- single tokens

pub is_the_token : (k u : Token) → is_token k (Some u) ≡ true → u ≡ k
is_the_token (t.Mark k) (t.Mark l) h = ap t.Mark (same_true mark.the_type (search rules) l k h)
is_the_token (t.Word k) (t.Word l) h = ap t.Word (same_true word.the_type (search rules) l k h)
is_the_token (t.Name x) (t.Name y) h = ap t.Name (exact_name y x h)
is_the_token (t.Num x) (t.Num y) h = ap t.Num (eqb-true y x h)
is_the_token _ _ h = absurd cc

pub sees_is : (k : Token) (rest : List Token) → is_token k (first rest) ≡ true → rest ≡ k ∷ drop 1 rest
sees_is k [] h = absurd cc
sees_is k (u ∷ rest) h = ap (λ v. v ∷ rest) (is_the_token k u h)

pub expect_found : (k : Token) (i : Input) → Found (expect k i) (Plain (λ _. k ∷ []) Any i)
unfolding expect
expect_found k i = found_if _ (sees k i) _ _ (λ h. found_ok _ tt (after i) (record { spelled = sees_is k i.rest h; room = refl; statements = omega arith; good = tt })) (λ h. found_err _ _)

-- a token that is seen, and what follows it
pub found_after : {A : Type 0} (Q : A → Input → Type 0) (k : Token) (i : Input) (p : Parser A) → sees k i ≡ true → ((j : Input) → Plain (λ (u : Token). u ∷ []) Any i k j → Found (p j) Q) → Found (p (after i)) Q
found_after Q k i p h rest = rest (after i) (record { spelled = sees_is k i.rest h; room = refl; statements = omega arith; good = tt })

name_found_at : (rest : List Token) (room statements : ℕ) → Found (name (at rest room statements)) (Plain spell.name Any (at rest room statements))
unfolding name
name_found_at [] r n = found_err _ _
name_found_at (t.Name x ∷ rest) r n = found_ok _ x (at rest r n) (record { spelled = refl; room = refl; statements = omega arith; good = tt })
name_found_at (_ ∷ rest) r n = found_err _ _

pub name_found : (i : Input) → Found (name i) (Plain spell.name Any i)
name_found i = name_found_at i.rest i.room i.statements

number_found_at : (rest : List Token) (room statements : ℕ) → Found (number (at rest room statements)) (Plain (λ n. t.Num n ∷ []) Any (at rest room statements))
unfolding number
number_found_at [] r n = found_err _ _
number_found_at (t.Num x ∷ rest) r n = found_ok _ x (at rest r n) (record { spelled = refl; room = refl; statements = omega arith; good = tt })
number_found_at (_ ∷ rest) r n = found_err _ _

pub number_found : (i : Input) → Found (number i) (Plain (λ n. t.Num n ∷ []) Any i)
number_found i = number_found_at i.rest i.room i.statements

pub positive : (n : ℕ) → nat_eq n 0 ≡ false → n ≡ 1 + (n - 1)
positive zero h = absurd cc
positive (suc n) h = omega arith

-- a statement is counted
pub count_found : (i : Input) → Found (count i) (λ _ j. (j.rest ≡ i.rest) × (j.room ≡ i.room) × (i.statements ≡ 1 + j.statements))
unfolding count
count_found i = found_if _ (nat_eq i.statements 0) _ _ (λ h. found_err _ _) (λ h. found_ok _ tt _ (refl, refl, positive i.statements h))

-- a token of an expression is counted
pub spend_found : (i : Input) → Found (spend i) (λ _ j. (j.rest ≡ drop 1 i.rest) × (i.room ≡ 1 + j.room) × (j.statements ≡ i.statements))
unfolding spend
spend_found i = found_if _ (nat_eq i.room 0) _ _ (λ h. found_err _ _) (λ h. found_ok _ tt _ (refl, positive i.room h, refl))

-- ---- lists

module _ {A : Type 0} (spelling : A → List Token) (used : A → ℕ) (Good : A → Type 0) (begins : Option Token → Bool) (one : Parser A) (one_found : (i : Input) → Found (one i) (Spelled spelling used Good i)) where
  -- all are good, and there are at most n
  abbrev pub Upto : ℕ → List A → Type 0
  Upto n xs = AllByRecursion Good xs × (length xs ≤ n)

  others_found : (n : ℕ) (i : Input) → Found (others begins one n i) (Spelled (spell.behind_commas spelling) (sum_by used) (Upto n) i)
  unfolding others
  others_found zero i =
      found_if _ (sees (t.Mark m.Comma) i) _ _
      (λ _. found_if _ (begins (head (after i))) _ _ (λ _. found_err _ _) (λ _. found_err _ _))
      (λ _. found_ok _ [] i (record { spelled = refl; room = refl; statements = omega arith; good = (tt, omega arith) }))
  others_found (suc n) i =
      found_if _ (sees (t.Mark m.Comma) i) _ _
      (λ h. found_then _ _ (one (after i)) _ (one_found (after i)) (λ x j a. found_then _ _ (others begins one n j) _ (others_found n j) (λ xs k b.
      found_ok _ (x ∷ xs) k (record {
        spelled = sees_is (t.Mark m.Comma) i.rest h ∙ ap (λ l. t.Mark m.Comma ∷ l) (a.spelled ∙ ap (λ l. spelling x ++ l) b.spelled ∙ sym (append_assoc (spelling x) (spell.behind_commas spelling xs) k.rest));
        room = b.room ∙ a.room;
        statements = omega (arith, a.statements, b.statements, sum_by-cons used x xs);
        good = ((a.good, b.good.0), omega (arith, b.good.1));
      }))))
      (λ _. found_ok _ [] i (record { spelled = refl; room = refl; statements = omega arith; good = (tt, omega arith) }))

  pub separated_found : (n : ℕ) (i : Input) → Found (separated begins one n i) (Spelled (spell.separated spelling) (sum_by used) (λ xs. Upto (1 + n) xs × (xs ≡ [] → ⊥)) i)
  unfolding separated
  separated_found n i =
      found_then _ _ (one i) _ (one_found i) (λ x j a. found_then _ _ (others begins one n j) _ (others_found n j) (λ xs k b.
      found_ok _ (x ∷ xs) k (record {
        spelled = a.spelled ∙ ap (λ l. spelling x ++ l) b.spelled ∙ sym (append_assoc (spelling x) (spell.behind_commas spelling xs) k.rest);
        room = b.room ∙ a.room;
        statements = omega (arith, a.statements, b.statements, sum_by-cons used x xs);
        good = (((a.good, b.good.0), omega (arith, b.good.1)), λ e. cc);
      })))

  pub listed_found : (n : ℕ) (i : Input) → Found (listed begins one n i) (Spelled (spell.separated spelling) (sum_by used) (Upto (1 + n)) i)
  unfolding listed
  listed_found n i =
      found_if _ (begins (head i)) _ _
      (λ _. found_so _ _ (separated begins one n i) (λ x j a. record { spelled = a.spelled; room = a.room; statements = a.statements; good = a.good.0 }) (separated_found n i))
      (λ _. found_ok _ [] i (record { spelled = refl; room = refl; statements = omega arith; good = (tt, omega arith) }))

  -- what items are put together to
  pub record Joins {B : Type 0} (end : B) (joint : A → B → B) (spelling_all : B → List Token) (used_all : B → ℕ) (Good_all : ℕ → B → Type 0) : Type 0 where
    pub spelled_end : spelling_all end ≡ []
    pub spelled_joint : (x : A) (y : B) → spelling_all (joint x y) ≡ spelling x ++ spelling_all y
    pub used_end : used_all end ≡ 0
    pub used_joint : (x : A) (y : B) → used_all (joint x y) ≡ used x + used_all y
    pub good_end : (n : ℕ) → Good_all n end
    pub good_joint : (n : ℕ) (x : A) (y : B) → Good x → Good_all n y → Good_all (suc n) (joint x y)

  module _ {B : Type 0} (end : B) (joint : A → B → B) (spelling_all : B → List Token) (used_all : B → ℕ) (Good_all : ℕ → B → Type 0) (joins : Joins end joint spelling_all used_all Good_all) where
    none_found : (n : ℕ) (i : Input) → Spelled spelling_all used_all (Good_all n) i end i
    none_found n i = record { spelled = ap (λ l. l ++ i.rest) (sym joins.spelled_end); room = refl; statements = omega (arith, joins.used_end); good = joins.good_end n }

    pub many_found : (n : ℕ) (i : Input) → Found (many begins one end joint n i) (Spelled spelling_all used_all (Good_all n) i)
    unfolding many
    many_found zero i = found_if _ (begins (head i)) _ _ (λ _. found_err _ _) (λ _. found_ok _ end i (none_found zero i))
    many_found (suc n) i =
        found_if _ (begins (head i)) _ _
        (λ _. found_then _ _ (one i) _ (one_found i) (λ x j a. found_then _ _ (many begins one end joint n j) _ (many_found n j) (λ y k b.
        found_ok _ (joint x y) k (record {
          spelled = a.spelled ∙ ap (λ l. spelling x ++ l) b.spelled ∙ sym (append_assoc (spelling x) (spelling_all y) k.rest) ∙ ap (λ l. l ++ k.rest) (sym (joins.spelled_joint x y));
          room = b.room ∙ a.room;
          statements = omega (arith, a.statements, b.statements, joins.used_joint x y);
          good = joins.good_joint n x y a.good b.good;
        }))))
        (λ _. found_ok _ end i (none_found (suc n) i))

  pub list_found : (n : ℕ) (i : Input) → Found (list_of begins one n i) (Spelled (spell.all_of spelling) (sum_by used) (Upto n) i)
  list_found n i =
      let joins : Joins [] (λ x xs. x ∷ xs) (spell.all_of spelling) (sum_by used) Upto = record {
        spelled_end = refl;
        spelled_joint = λ x xs. refl;
        used_end = refl;
        used_joint = λ x xs. sum_by-cons used x xs;
        good_end = λ n. (tt, omega arith);
        good_joint = λ n x xs a b. ((a, b.0), omega (arith, b.1));
      } in
      many_found [] (λ x xs. x ∷ xs) (spell.all_of spelling) (sum_by used) Upto joins n i
