-- Code that is read statement by statement.
use Rattle.std.proofs.Common.{◌≡◌, ℕ, zero, suc, ◌+◌, ◌-◌, ◌<◌, ◌≤◌, Bool, true, false, length, Option, Ok, Err, refl, sym, ap, ◌∙◌, arith}
use Rattle.brisk_lex.specs.declared.token.Token.{Token}
use Rattle.brisk_syntax.specs.Syntax.{Statement, Code, done, ◌⨾◌, ◌then◌}
use Rattle.brisk_syntax.proofs.Codes.{then-done, then_assoc}
use Rattle.brisk_parse.specs.declared.fault.Stop.{Stop}
use Rattle.brisk_parse.specs.declared.fault.Stop.TheVariants.{Syntax, TooDeep, TooMany, NoMemory}
use Rattle.brisk_parse.specs.Input.{Input, head}
use Rattle.brisk_parse.specs.Outcomes.{Outcome, Parser, and_then, Stops}
use Rattle.brisk_parse.specs.Reading.{many}
use Rattle.brisk_parse.proofs.Outcomes.{stops_then, stops_alike}

-- what is read so far, and then what is still to be read
abbrev pub with_code : Code → Outcome Code → Outcome Code
with_code front (Ok x) = Ok (front then x.0, x.1)
with_code front (Err e) = Err e

one_in_front : (s : Statement) (r : Outcome Code) → and_then r (λ c i. Ok (s ⨾ c, i)) ≡ with_code (s ⨾ done) r
one_in_front s (Ok x) = refl
one_in_front s (Err e) = refl

fronts : (front : Code) (s : Statement) (r : Outcome Code) → with_code front (with_code (s ⨾ done) r) ≡ with_code (front then (s ⨾ done)) r
fronts front s (Ok x) = ap (λ (c : Code). Ok (c, x.1)) (sym (then_assoc front (s ⨾ done) x.0))
fronts front s (Err e) = refl

front_stops : (front : Code) (d : Stop) (r : Outcome Code) → Stops d r → Stops d (with_code front r)
front_stops front (Syntax k) r h = ap (with_code front) h
front_stops front (TooDeep k) r h = ap (with_code front) h
front_stops front (TooMany k) r h = ap (with_code front) h
front_stops front NoMemory r h = tt

module _ (begins : Option Token → Bool) (one : Parser Statement) where
  abbrev code_of_list : ℕ → Parser Code
  code_of_list n = many begins one done (λ s c. s ⨾ c) n

  module _ (n at : ℕ) (front : Code) (i : Input) (x : Outcome Code) (so_far : x ≡ with_code front (code_of_list (n - at) i)) where
    code_end : (k : ℕ) → begins (head i) ≡ false → code_of_list k i ≡ Ok (done, i)
    unfolding many
    code_end zero h = rw h refl
    code_end (suc k) h = rw h refl

    pub code_stop : begins (head i) ≡ false → x ≡ Ok (front, i)
    code_stop h = so_far ∙ ap (with_code front) (code_end (n - at) h) ∙ ap (λ (c : Code). Ok (c, i)) (then-done front)

    code_go : at < n → begins (head i) ≡ true → x ≡ with_code front (and_then (one i) (λ s j. and_then (code_of_list (n - (at + 1)) j) (λ c k. Ok (s ⨾ c, k))))
    unfolding many
    code_go lt h = let z : n - at ≡ suc (n - (at + 1)) = omega arith in so_far ∙ rw (z, h) refl

    pub code_more : (s : Statement) (j : Input) → at < n → begins (head i) ≡ true → one i ≡ Ok (s, j) → x ≡ with_code (front then (s ⨾ done)) (code_of_list (n - (at + 1)) j)
    code_more s j lt h read =
        code_go lt h ∙ ap (λ r. with_code front (and_then r (λ s j. and_then (code_of_list (n - (at + 1)) j) (λ c k. Ok (s ⨾ c, k))))) read
        ∙ ap (with_code front) (one_in_front s (code_of_list (n - (at + 1)) j)) ∙ fronts front s (code_of_list (n - (at + 1)) j)

    pub code_fails : (d : Stop) → at < n → begins (head i) ≡ true → Stops d (one i) → Stops d x
    code_fails d lt h stop =
        let more = λ (s : Statement) (j : Input). and_then (code_of_list (n - (at + 1)) j) (λ c k. Ok (s ⨾ c, k)) in
        stops_alike d x _ (code_go lt h) (front_stops front d (and_then (one i) more) (stops_then d (one i) more stop))

    pub code_full : n ≤ at → begins (head i) ≡ true → x ≡ Err (TooMany (length i.rest))
    unfolding many
    code_full le h = let z : n - at ≡ 0 = omega arith in so_far ∙ rw (z, h) refl
