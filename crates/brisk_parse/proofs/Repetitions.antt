-- Lists that are read item by item.
use Rattle.std.proofs.Common.{◌≡◌, ℕ, zero, suc, ◌+◌, ◌-◌, ◌<◌, ◌≤◌, Bool, true, false, List, [], ◌∷◌, ◌++◌, length, Option, Ok, Err, refl, sym, ap, ◌∙◌, append_assoc, append-nil, arith}
use Rattle.brisk_lex.specs.declared.token.Mark.TheVariants as m
use Rattle.brisk_lex.specs.declared.token.Token.{Token}
use Rattle.brisk_lex.specs.declared.token.Token.TheVariants as t
use Rattle.brisk_parse.specs.declared.fault.Stop.{Stop}
use Rattle.brisk_parse.specs.declared.fault.Stop.TheVariants.{Syntax, TooDeep, TooMany, NoMemory}
use Rattle.brisk_parse.specs.Input.{Input, head, after, sees}
use Rattle.brisk_parse.specs.Outcomes.{Outcome, Parser, and_then, Stops}
use Rattle.brisk_parse.specs.Reading.{others, separated, many, list_of}
use Rattle.brisk_parse.proofs.Outcomes.{stops_then, stops_alike}

-- what is read so far, and then what is still to be read
abbrev pub with_front : {A : Type 0} → List A → Outcome (List A) → Outcome (List A)
with_front front (Ok x) = Ok (front ++ x.0, x.1)
with_front front (Err e) = Err e

one_in_front : {A : Type 0} (a : A) (r : Outcome (List A)) → and_then r (λ xs i. Ok (a ∷ xs, i)) ≡ with_front (a ∷ []) r
one_in_front a (Ok x) = refl
one_in_front a (Err e) = refl

fronts : {A : Type 0} (front : List A) (a : A) (r : Outcome (List A)) → with_front front (with_front (a ∷ []) r) ≡ with_front (front ++ a ∷ []) r
fronts {A} front a (Ok x) = ap (λ (l : List A). Ok (l, x.1)) (sym (append_assoc front (a ∷ []) x.0))
fronts front a (Err e) = refl

front_stops : {A : Type 0} (front : List A) (d : Stop) (r : Outcome (List A)) → Stops d r → Stops d (with_front front r)
front_stops front (Syntax k) r h = ap (with_front front) h
front_stops front (TooDeep k) r h = ap (with_front front) h
front_stops front (TooMany k) r h = ap (with_front front) h
front_stops front NoMemory r h = tt

module _ {A : Type 0} (begins : Option Token → Bool) (one : Parser A) where
  -- one more item in front of what is still to be read
  one_more : (front : List A) (y : A) (i j : Input) (rest : Parser (List A)) → one i ≡ Ok (y, j) → with_front front (and_then (one i) (λ x. λ k. and_then (rest k) (λ xs l. Ok (x ∷ xs, l)))) ≡ with_front (front ++ y ∷ []) (rest j)
  one_more front y i j rest read =
      ap (λ r. with_front front (and_then r (λ x. λ k. and_then (rest k) (λ xs l. Ok (x ∷ xs, l))))) read
      ∙ ap (with_front front) (one_in_front y (rest j)) ∙ fronts front y (rest j)

  pub separated_begins : (n : ℕ) (y : A) (i j : Input) → one i ≡ Ok (y, j) → separated begins one n i ≡ with_front (y ∷ []) (others begins one n j)
  unfolding separated
  separated_begins n y i j read = rw read (one_in_front y (others begins one n j))

  pub separated_stops : (n : ℕ) (d : Stop) (i : Input) → Stops d (one i) → Stops d (separated begins one n i)
  unfolding separated
  separated_stops n d i h = stops_then d (one i) (λ x j. and_then (others begins one n j) (λ xs k. Ok (x ∷ xs, k))) h

  module _ (n at : ℕ) (front : List A) (i : Input) (x : Outcome (List A)) (so_far : x ≡ with_front front (others begins one (n - at) i)) where
    others_end : (k : ℕ) → sees (t.Mark m.Comma) i ≡ false → others begins one k i ≡ Ok ([], i)
    unfolding others
    others_end zero h = rw h refl
    others_end (suc k) h = rw h refl

    pub others_stop : sees (t.Mark m.Comma) i ≡ false → x ≡ Ok (front, i)
    others_stop h = so_far ∙ ap (with_front front) (others_end (n - at) h) ∙ ap (λ (l : List A). Ok (l, i)) (append-nil front)

    others_go : at < n → sees (t.Mark m.Comma) i ≡ true → x ≡ with_front front (and_then (one (after i)) (λ y j. and_then (others begins one (n - (at + 1)) j) (λ ys k. Ok (y ∷ ys, k))))
    unfolding others
    others_go lt h = let z : n - at ≡ suc (n - (at + 1)) = omega arith in so_far ∙ rw (z, h) refl

    pub others_more : (y : A) (j : Input) → at < n → sees (t.Mark m.Comma) i ≡ true → one (after i) ≡ Ok (y, j) → x ≡ with_front (front ++ y ∷ []) (others begins one (n - (at + 1)) j)
    others_more y j lt h read = others_go lt h ∙ one_more front y (after i) j (others begins one (n - (at + 1))) read

    pub others_fails : (d : Stop) → at < n → sees (t.Mark m.Comma) i ≡ true → Stops d (one (after i)) → Stops d x
    others_fails d lt h stop =
        let more = λ (y : A) (j : Input). and_then (others begins one (n - (at + 1)) j) (λ ys k. Ok (y ∷ ys, k)) in
        stops_alike d x _ (others_go lt h) (front_stops front d (and_then (one (after i)) more) (stops_then d (one (after i)) more stop))

    pub others_full : n ≤ at → sees (t.Mark m.Comma) i ≡ true → begins (head (after i)) ≡ true → x ≡ Err (TooMany (length (after i).rest))
    unfolding others
    others_full le h b = let z : n - at ≡ 0 = omega arith in so_far ∙ rw (z, h, b) refl

    pub others_refused : n ≤ at → sees (t.Mark m.Comma) i ≡ true → begins (head (after i)) ≡ false → x ≡ Err (Syntax (length (after i).rest))
    unfolding others
    others_refused le h b = let z : n - at ≡ 0 = omega arith in so_far ∙ rw (z, h, b) refl

  module _ (n at : ℕ) (front : List A) (i : Input) (x : Outcome (List A)) (so_far : x ≡ with_front front (list_of begins one (n - at) i)) where
    many_end : (k : ℕ) → begins (head i) ≡ false → list_of begins one k i ≡ Ok ([], i)
    unfolding many
    many_end zero h = rw h refl
    many_end (suc k) h = rw h refl

    pub many_stop : begins (head i) ≡ false → x ≡ Ok (front, i)
    many_stop h = so_far ∙ ap (with_front front) (many_end (n - at) h) ∙ ap (λ (l : List A). Ok (l, i)) (append-nil front)

    many_go : at < n → begins (head i) ≡ true → x ≡ with_front front (and_then (one i) (λ y j. and_then (list_of begins one (n - (at + 1)) j) (λ ys k. Ok (y ∷ ys, k))))
    unfolding many
    many_go lt h = let z : n - at ≡ suc (n - (at + 1)) = omega arith in so_far ∙ rw (z, h) refl

    pub many_more : (y : A) (j : Input) → at < n → begins (head i) ≡ true → one i ≡ Ok (y, j) → x ≡ with_front (front ++ y ∷ []) (list_of begins one (n - (at + 1)) j)
    many_more y j lt h read = many_go lt h ∙ one_more front y i j (list_of begins one (n - (at + 1))) read

    pub many_fails : (d : Stop) → at < n → begins (head i) ≡ true → Stops d (one i) → Stops d x
    many_fails d lt h stop =
        let more = λ (y : A) (j : Input). and_then (list_of begins one (n - (at + 1)) j) (λ ys k. Ok (y ∷ ys, k)) in
        stops_alike d x _ (many_go lt h) (front_stops front d (and_then (one i) more) (stops_then d (one i) more stop))

    pub many_full : n ≤ at → begins (head i) ≡ true → x ≡ Err (TooMany (length i.rest))
    unfolding many
    many_full le h = let z : n - at ≡ 0 = omega arith in so_far ∙ rw (z, h) refl
