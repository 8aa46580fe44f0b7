-- Pieces that are written one after another.
use Rattle.std.proofs.Common.{◌≡◌, ℕ, ◌+◌, ◌<◌, ◌≤◌, List, ◌∷◌, ◌++◌, length, drop, map, get_or, sym, ap, ◌∙◌, append_assoc, append-nil}
use Rattle.std.specs.Prelude.{codes}
use Rattle.std.proofs.lemmas.List.{at_drop_more, at_drop_all}
use Rattle.brisk_text.specs.Values.{Text}
use Rattle.brisk_print.specs.Layout.{behind_commas, with_commas, joined}

module _ {T : Type 0} (text : T → Text) where
  -- one more piece
  pub piece_more : (xs : List T) (i : ℕ) (d : T) (out next all : Text) → i < length xs → next ≡ (out ++ codes ", ") ++ text (get_or xs i d) → out ++ behind_commas (map text (drop i xs)) ≡ all → next ++ behind_commas (map text (drop (i + 1) xs)) ≡ all
  piece_more xs i d out next all lt e so_far =
      let rest = behind_commas (map text (drop (i + 1) xs)) in
      ap (λ z. z ++ rest) e ∙ append_assoc (out ++ codes ", ") (text (get_or xs i d)) rest ∙ append_assoc out (codes ", ") (text (get_or xs i d) ++ rest)
      ∙ sym (ap (λ z. out ++ z) (at_drop_more (λ ys. behind_commas (map text ys)) xs i d lt ∙ append_assoc (codes ", ") (text (get_or xs i d)) rest)) ∙ so_far

  -- all pieces
  pub pieces_all : (first : T) (xs items : List T) (i : ℕ) (old out one : Text) → length xs ≤ i → items ≡ first ∷ xs → one ≡ old ++ text first → out ++ behind_commas (map text (drop i xs)) ≡ one ++ behind_commas (map text xs) → out ≡ old ++ with_commas (map text items)
  pieces_all first xs items i old out one le e begun so_far =
      sym (append-nil out) ∙ ap (λ z. out ++ z) (sym (at_drop_all (λ ys. behind_commas (map text ys)) xs i le)) ∙ so_far
      ∙ ap (λ z. z ++ behind_commas (map text xs)) begun ∙ append_assoc old (text first) (behind_commas (map text xs))
      ∙ sym (ap (λ ys. old ++ with_commas (map text ys)) e)

  -- one more piece, with nothing between
  pub joined_more : (xs : List T) (i : ℕ) (d : T) (out next all : Text) → i < length xs → next ≡ out ++ text (get_or xs i d) → out ++ joined (map text (drop i xs)) ≡ all → next ++ joined (map text (drop (i + 1) xs)) ≡ all
  joined_more xs i d out next all lt e so_far =
      let rest = joined (map text (drop (i + 1) xs)) in
      ap (λ z. z ++ rest) e ∙ append_assoc out (text (get_or xs i d)) rest ∙ sym (ap (λ z. out ++ z) (at_drop_more (λ ys. joined (map text ys)) xs i d lt)) ∙ so_far

  pub joined_all : (xs : List T) (i : ℕ) (out all : Text) → length xs ≤ i → out ++ joined (map text (drop i xs)) ≡ all → out ≡ all
  joined_all xs i out all le so_far = sym (append-nil out) ∙ ap (λ z. out ++ z) (sym (at_drop_all (λ ys. joined (map text ys)) xs i le)) ∙ so_far
