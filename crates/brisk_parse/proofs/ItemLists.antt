-- Items that are read one by one.
use Rattle.std.proofs.Common.{◌≡◌, ℕ, zero, suc, ◌+◌, ◌-◌, ◌<◌, ◌≤◌, Bool, true, false, List, [], ◌∷◌, ◌++◌, length, Option, Ok, Err, refl, sym, ap, ◌∙◌, arith}
use Rattle.brisk_lex.specs.declared.token.Token.{Token}
use Rattle.brisk_seq.specs.Items.{Item, Items, nothing, ◌⨟◌, ◌followed_by◌}
use Rattle.brisk_seq.specs.declared.tree.Seq.{Seq}
use Rattle.brisk_seq.specs.Seen.{item_of, items_of}
use Rattle.brisk_seq.proofs.Items.{followed_by-nothing, followed_by_assoc}
use Rattle.brisk_parse.specs.declared.fault.Stop.{Stop}
use Rattle.brisk_parse.specs.declared.fault.Stop.TheVariants.{Syntax, TooDeep, TooMany, NoMemory}
use Rattle.brisk_parse.specs.Input.{Input, head}
use Rattle.brisk_parse.specs.Outcomes.{Outcome, Parser, and_then, Stops}
use Rattle.brisk_parse.specs.Reading.{many}
use Rattle.brisk_parse.proofs.Outcomes.{stops_then, stops_alike}

pub items_of-append : (a b : List Seq) → items_of (a ++ b) ≡ items_of a followed_by items_of b
items_of-append [] b = refl
items_of-append (q ∷ a) b = ap (λ d. item_of q ⨟ d) (items_of-append a b)

-- what is read so far, and then what is still to be read
abbrev pub with_items : Items → Outcome Items → Outcome Items
with_items front (Ok x) = Ok (front followed_by x.0, x.1)
with_items front (Err e) = Err e

one_in_front : (s : Item) (r : Outcome Items) → and_then r (λ c i. Ok (s ⨟ c, i)) ≡ with_items (s ⨟ nothing) r
one_in_front s (Ok x) = refl
one_in_front s (Err e) = refl

fronts : (front : Items) (s : Item) (r : Outcome Items) → with_items front (with_items (s ⨟ nothing) r) ≡ with_items (front followed_by (s ⨟ nothing)) r
fronts front s (Ok x) = ap (λ (c : Items). Ok (c, x.1)) (sym (followed_by_assoc front (s ⨟ nothing) x.0))
fronts front s (Err e) = refl

front_stops : (front : Items) (d : Stop) (r : Outcome Items) → Stops d r → Stops d (with_items front r)
front_stops front (Syntax k) r h = ap (with_items front) h
front_stops front (TooDeep k) r h = ap (with_items front) h
front_stops front (TooMany k) r h = ap (with_items front) h
front_stops front NoMemory r h = tt

module _ (begins : Option Token → Bool) (one : Parser Item) where
  abbrev items_of_list : ℕ → Parser Items
  items_of_list n = many begins one nothing (λ s c. s ⨟ c) n

  module _ (n at : ℕ) (front : Items) (i : Input) (x : Outcome Items) (so_far : x ≡ with_items front (items_of_list (n - at) i)) where
    items_end : (k : ℕ) → begins (head i) ≡ false → items_of_list k i ≡ Ok (nothing, i)
    unfolding many
    items_end zero h = rw h refl
    items_end (suc k) h = rw h refl

    pub items_stop : begins (head i) ≡ false → x ≡ Ok (front, i)
    items_stop h = so_far ∙ ap (with_items front) (items_end (n - at) h) ∙ ap (λ (c : Items). Ok (c, i)) (followed_by-nothing front)

    items_go : at < n → begins (head i) ≡ true → x ≡ with_items front (and_then (one i) (λ s j. and_then (items_of_list (n - (at + 1)) j) (λ c k. Ok (s ⨟ c, k))))
    unfolding many
    items_go lt h = let z : n - at ≡ suc (n - (at + 1)) = omega arith in so_far ∙ rw (z, h) refl

    pub items_more : (s : Item) (j : Input) → at < n → begins (head i) ≡ true → one i ≡ Ok (s, j) → x ≡ with_items (front followed_by (s ⨟ nothing)) (items_of_list (n - (at + 1)) j)
    items_more s j lt h read =
        items_go lt h ∙ ap (λ r. with_items front (and_then r (λ s j. and_then (items_of_list (n - (at + 1)) j) (λ c k. Ok (s ⨟ c, k))))) read
        ∙ ap (with_items front) (one_in_front s (items_of_list (n - (at + 1)) j)) ∙ fronts front s (items_of_list (n - (at + 1)) j)

    pub items_fails : (d : Stop) → at < n → begins (head i) ≡ true → Stops d (one i) → Stops d x
    items_fails d lt h stop =
        let more = λ (s : Item) (j : Input). and_then (items_of_list (n - (at + 1)) j) (λ c k. Ok (s ⨟ c, k)) in
        stops_alike d x _ (items_go lt h) (front_stops front d (and_then (one i) more) (stops_then d (one i) more stop))

    pub items_full : n ≤ at → begins (head i) ≡ true → x ≡ Err (TooMany (length i.rest))
    unfolding many
    items_full le h = let z : n - at ≡ 0 = omega arith in so_far ∙ rw (z, h) refl
