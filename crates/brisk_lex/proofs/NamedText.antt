-- When bytes are a name of the language.
use Rattle.std.proofs.Common.{◌≡◌, ◌<◌, ◌≤◌, ◌⊎◌, inl, inr, true, false, ℕ, List, [], ◌∷◌, length, IsUtf8, MatchOption, Option, Some, None, sym, arith}
use Rattle.std.specs.Str.{chars}
use Rattle.std.proofs.lemmas.Str.{encodes-chars}
use Rattle.brisk_lex.specs.Vocabulary.{word}
use Rattle.brisk_lex.specs.Spelled.{is_identifier, IsName}

some_chars : (b : List ℕ) → IsUtf8 b → is_identifier (chars b) ≡ true → length b ≡ 0 → ⊥
unfolding chars
some_chars [] u i e = let h : false ≡ true = i in cc
some_chars (x ∷ b) u i e = omega arith

-- bytes of an identifier that isn't reserved are a name exactly where they are few enough
pub name_of : (b : List ℕ) (r : Option (List ℕ)) → IsUtf8 b → is_identifier (chars b) ≡ true → word b ≡ None → MatchOption r ((length b ≡ 0) ⊎ (64 < length b)) (λ n. (n ≡ b) × (0 < length b) × (length b ≤ 64)) → MatchOption r (IsName b → ⊥) (λ x. (x ≡ b) × IsName b)
name_of b None u i w (inl e) = absurd (some_chars b u i e)
name_of b None u i w (inr l) = λ h. let few = h.1.3 in omega arith
name_of b (Some n) u i w m = (m.0, (u, (sym (encodes-chars b u), i, w, m.2)))
