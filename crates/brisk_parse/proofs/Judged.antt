-- What is spelled is read, or stops where the first limit is passed: what this says, and how it is said of lists.
use Rattle.std.proofs.Common.{◌≡◌, ℕ, zero, suc, ◌+◌, ◌-◌, ◌≤◌, Bool, true, false, List, [], ◌∷◌, ◌++◌, length, sum_by, Option, Ok, Err, refl, ap, ◌∙◌, append_assoc, length-append, arith}
use Rattle.std.specs.List.{AllByRecursion}
use Rattle.std.proofs.lemmas.List.Sums.{sum_by-cons}
use Rattle.brisk_lex.specs.declared.token.Mark.TheVariants as mk
use Rattle.brisk_lex.specs.declared.token.Token.{Token}
use Rattle.brisk_lex.specs.declared.token.Token.TheVariants as t
use Rattle.brisk_parse.specs.declared.fault.Stop.TheVariants.{TooDeep, TooMany}
use Rattle.brisk_parse.specs.Input.{Input, at, first, is_token}
use Rattle.brisk_parse.specs.Outcomes.{Outcome, Parser, and_then}
use Rattle.brisk_parse.specs.Passing.{Passing, Nowhere, DeepAt, ManyAt, behind, or_behind}
use Rattle.brisk_parse.specs.Passing as passing
use Rattle.brisk_parse.specs.Reading.{others, separated, listed, many, list_of}
use Rattle.brisk_parse.specs.Spelling as spell
use Rattle.brisk_parse.proofs.FoundStatements.{none_used}

-- the outcome, unless a limit is passed in these tokens
abbrev pub judged : {A : Type 0} → Passing → List Token → Outcome A → Outcome A
judged Nowhere i o = o
judged (DeepAt k) i o = Err (TooDeep (length i - k))
judged (ManyAt k) i o = Err (TooMany (length i - k))

later : (ts i : List Token) (k : ℕ) → length i - k ≡ length (ts ++ i) - (length ts + k)
later ts i k = omega (arith, length-append ts i)

pub judged_behind : {A : Type 0} (p : Passing) (ts i : List Token) (o : Outcome A) → judged p i o ≡ judged (behind ts p) (ts ++ i) o
judged_behind Nowhere ts i o = refl
judged_behind (DeepAt k) ts i o = ap (λ n. Err (TooDeep n)) (later ts i k)
judged_behind (ManyAt k) ts i o = ap (λ n. Err (TooMany n)) (later ts i k)

-- what is judged, and then what follows it
pub judged_then : {A B : Type 0} (p q : Passing) (ts i : List Token) (x : A) (j : Input) (f : A → Parser B) (o : Outcome B) → f x j ≡ judged q i o → and_then (judged p (ts ++ i) (Ok (x, j))) f ≡ judged (or_behind p ts q) (ts ++ i) o
judged_then Nowhere q ts i x j f o h = h ∙ judged_behind q ts i o
judged_then (DeepAt k) q ts i x j f o h = refl
judged_then (ManyAt k) q ts i x j f o h = refl

-- where no limit is passed in what follows
pub judged_last : {A B : Type 0} (p : Passing) (i : List Token) (x : A) (j : Input) (f : A → Parser B) (o : Outcome B) → f x j ≡ o → and_then (judged p i (Ok (x, j))) f ≡ judged p i o
judged_last Nowhere i x j f o h = h
judged_last (DeepAt k) i x j f o h = refl
judged_last (ManyAt k) i x j f o h = refl

-- so many may still begin
pub one_less : (n : ℕ) → n ≡ suc n - 1
one_less n = omega arith

pub less_in : (n c : ℕ) → n - c ≡ suc n - (1 + c)
less_in n c = omega arith

pub less_both : (n a b : ℕ) → n - a - b ≡ suc n - (1 + a + b)
less_both n a b = omega arith

pub less_then : (n a b : ℕ) → n - a - b ≡ n - (a + b)
less_then n a b = omega arith

pub at_once : (i : List Token) → length i ≡ length i - 0
at_once i = omega arith

-- ---- lists with commas

module _ {A : Type 0} (passes : A → Passing) (spelled : A → List Token) (Good : A → Type 0) (Follow : List Token → Type 0) (begins : Option Token → Bool) (one : Parser A)
    (one_judged : (x : A) (k : List Token) (r n : ℕ) → Good x → Follow k → one (at (spelled x ++ k) r n) ≡ judged (passes x) (spelled x ++ k) (Ok (x, at k r n)))
    (one_begins : (x : A) (k : List Token) → begins (first (spelled x ++ k)) ≡ true)
    (commas : (k : List Token) → Follow (t.Mark mk.Comma ∷ k)) where
  follows : (xs : List A) (k : List Token) → Follow k → Follow (spell.behind_commas spelled xs ++ k)
  follows [] k h = h
  follows (x ∷ xs) k h = commas (spelled x ++ spell.behind_commas spelled xs ++ k)

  others_judged : (m : ℕ) (xs : List A) (k : List Token) (r n : ℕ) → AllByRecursion Good xs → Follow k → is_token (t.Mark mk.Comma) (first k) ≡ false
      → others begins one m (at (spell.behind_commas spelled xs ++ k) r n) ≡ judged (passing.behind_commas passes spelled m xs) (spell.behind_commas spelled xs ++ k) (Ok (xs, at k r n))
  unfolding others
  others_judged zero [] k r n good f h = rw h refl
  others_judged (suc m) [] k r n good f h = rw h refl
  others_judged zero (x ∷ xs) k r n good f h =
      let rest = spell.behind_commas spelled xs ++ k in
      let next = spelled x ++ rest in
      let less : length next ≡ length (t.Mark mk.Comma ∷ next) - 1 = omega arith in
      rw (append_assoc (spelled x) (spell.behind_commas spelled xs) k, one_begins x rest) (ap (λ n. Err (TooMany n)) less)
  others_judged (suc m) (x ∷ xs) k r n good f h =
      let rest = spell.behind_commas spelled xs ++ k in
      rw (append_assoc (spelled x) (spell.behind_commas spelled xs) k, one_judged x rest r n good.0 (follows xs k f))
      (judged_then (passes x) (passing.behind_commas passes spelled m xs) (spelled x) rest x (at rest r n) _ _
      (ap (λ o. and_then o (λ ys i. Ok (x ∷ ys, i))) (others_judged m xs k r n good.1 f h) ∙ judged_last (passing.behind_commas passes spelled m xs) rest xs (at k r n) (λ ys i. Ok (x ∷ ys, i)) _ refl)
      ∙ judged_behind (or_behind (passes x) (spelled x) (passing.behind_commas passes spelled m xs)) (spell.mark mk.Comma) (spelled x ++ rest) (Ok (x ∷ xs, at k r n)))

  pub separated_judged : (m : ℕ) (x : A) (xs : List A) (k : List Token) (r n : ℕ) → Good x → AllByRecursion Good xs → Follow k → is_token (t.Mark mk.Comma) (first k) ≡ false
      → separated begins one m (at (spell.separated spelled (x ∷ xs) ++ k) r n) ≡ judged (passing.separated passes spelled m (x ∷ xs)) (spell.separated spelled (x ∷ xs) ++ k) (Ok (x ∷ xs, at k r n))
  unfolding separated
  separated_judged m x xs k r n good all f h =
      let rest = spell.behind_commas spelled xs ++ k in
      rw (append_assoc (spelled x) (spell.behind_commas spelled xs) k, one_judged x rest r n good (follows xs k f))
      (judged_then (passes x) (passing.behind_commas passes spelled m xs) (spelled x) rest x (at rest r n) _ _
      (ap (λ o. and_then o (λ ys i. Ok (x ∷ ys, i))) (others_judged m xs k r n all f h) ∙ judged_last (passing.behind_commas passes spelled m xs) rest xs (at k r n) (λ ys i. Ok (x ∷ ys, i)) _ refl))

  pub listed_judged : (m : ℕ) (xs : List A) (k : List Token) (r n : ℕ) → AllByRecursion Good xs → Follow k → is_token (t.Mark mk.Comma) (first k) ≡ false → begins (first k) ≡ false
      → listed begins one m (at (spell.separated spelled xs ++ k) r n) ≡ judged (passing.separated passes spelled m xs) (spell.separated spelled xs ++ k) (Ok (xs, at k r n))
  unfolding listed
  listed_judged m [] k r n good f h g = rw g refl
  listed_judged m (x ∷ xs) k r n good f h g =
      let start : begins (first (spell.separated spelled (x ∷ xs) ++ k)) ≡ true = ap (λ l. begins (first l)) (append_assoc (spelled x) (spell.behind_commas spelled xs) k) ∙ one_begins x (spell.behind_commas spelled xs ++ k) in
      rw start (separated_judged m x xs k r n good.0 good.1 f h)

-- ---- items one after another

module _ {A : Type 0} (most : ℕ) (passes : ℕ → A → Passing) (used : A → ℕ) (spelled : A → List Token) (Good : A → Type 0) (begins : Option Token → Bool) (one : Parser A)
    (one_judged : (x : A) (k : List Token) (r n : ℕ) → Good x → n ≤ most → one (at (spelled x ++ k) r n) ≡ judged (passes n x) (spelled x ++ k) (Ok (x, at k r (n - used x))))
    (one_begins : (x : A) (k : List Token) → begins (first (spelled x ++ k)) ≡ true) where
  less_used : (n : ℕ) (x : A) (xs : List A) → n - used x - sum_by used xs ≡ n - sum_by used (x ∷ xs)
  less_used n x xs = omega (arith, sum_by-cons used x xs)

  pub list_judged : (m : ℕ) (xs : List A) (k : List Token) (r n : ℕ) → AllByRecursion Good xs → begins (first k) ≡ false → n ≤ most
      → list_of begins one m (at (spell.all_of spelled xs ++ k) r n) ≡ judged (passing.all_of passes used spelled m n xs) (spell.all_of spelled xs ++ k) (Ok (xs, at k r (n - sum_by used xs)))
  unfolding many
  list_judged zero [] k r n good g le = let same : n ≡ n - sum_by used [] = omega arith in rw g (ap (λ n. Ok ([], at k r n)) same)
  list_judged (suc m) [] k r n good g le = let same : n ≡ n - sum_by used [] = omega arith in rw g (ap (λ n. Ok ([], at k r n)) same)
  list_judged zero (x ∷ xs) k r n good g le =
      let rest = spell.all_of spelled xs ++ k in
      rw (append_assoc (spelled x) (spell.all_of spelled xs) k, one_begins x rest) (ap (λ n. Err (TooMany n)) (at_once (spelled x ++ rest)))
  list_judged (suc m) (x ∷ xs) k r n good g le =
      let rest = spell.all_of spelled xs ++ k in
      let others = passing.all_of passes used spelled m (n - used x) xs in
      rw (append_assoc (spelled x) (spell.all_of spelled xs) k, one_begins x rest, one_judged x rest r n good.0 le)
      (judged_then (passes n x) others (spelled x) rest x (at rest r (n - used x)) _ _
      (ap (λ o. and_then o (λ ys i. Ok (x ∷ ys, i))) (list_judged m xs k r (n - used x) good.1 g (omega (arith, le)))
      ∙ judged_last others rest xs (at k r (n - used x - sum_by used xs)) (λ ys i. Ok (x ∷ ys, i)) _ (ap (λ n. Ok (x ∷ xs, at k r n)) (less_used n x xs))))

-- ---- items in which no statement begins

module _ {A : Type 0} (passes : A → Passing) (spelled : A → List Token) (Good : A → Type 0) (begins : Option Token → Bool) (one : Parser A)
    (one_judged : (x : A) (k : List Token) (r n : ℕ) → Good x → one (at (spelled x ++ k) r n) ≡ judged (passes x) (spelled x ++ k) (Ok (x, at k r n)))
    (one_begins : (x : A) (k : List Token) → begins (first (spelled x ++ k)) ≡ true) where
  -- however many statements may begin
  all_same : (m a b : ℕ) (xs : List A) → passing.all_of (λ _ x. passes x) (λ _. 0) spelled m a xs ≡ passing.all_of (λ _ x. passes x) (λ _. 0) spelled m b xs
  all_same m a b [] = refl
  all_same zero a b (x ∷ xs) = refl
  all_same (suc m) a b (x ∷ xs) = ap (or_behind (passes x) (spelled x)) (all_same m (a - 0) (b - 0) xs)

  pub plain_judged : (m : ℕ) (xs : List A) (k : List Token) (r n : ℕ) → AllByRecursion Good xs → begins (first k) ≡ false
      → list_of begins one m (at (spell.all_of spelled xs ++ k) r n) ≡ judged (passing.all_of (λ _ x. passes x) (λ _. 0) spelled m 0 xs) (spell.all_of spelled xs ++ k) (Ok (xs, at k r n))
  plain_judged m xs k r n good g =
      let same : n - sum_by (λ _. 0) xs ≡ n = omega (arith, none_used xs) in
      let text = spell.all_of spelled xs ++ k in
      list_judged n (λ _ x. passes x) (λ _. 0) spelled Good begins one
      (λ x k r n good le. one_judged x k r n good ∙ ap (λ n. judged (passes x) (spelled x ++ k) (Ok (x, at k r n))) (omega arith))
      one_begins m xs k r n good g (omega arith)
      ∙ ap (λ p. judged p text (Ok (xs, at k r (n - sum_by (λ _. 0) xs)))) (all_same m n 0 xs)
      ∙ ap (λ n. judged (passing.all_of (λ _ x. passes x) (λ _. 0) spelled m 0 xs) text (Ok (xs, at k r n))) same
