-- What is cut off is the longest front that is a token.
use Rattle.std.specs.Prelude.{◌≡◌, ℕ, ◌^◌, ◌<◌, ◌≤◌, ◌⊎◌, true, false, ◌∷◌, length, take, slice_index, None}
use Rattle.std.specs.List.{list_all}
use Rattle.std.specs.Str.{encode_utf8_all}
use Rattle.brisk_lex.specs.declared.token.Mark.{Mark}
use Rattle.brisk_lex.specs.declared.token.Token.{Token}
use Rattle.brisk_lex.specs.declared.fault.Wrong.TheVariants as wrong
use Rattle.brisk_lex.specs.Vocabulary.{word}
use Rattle.brisk_lex.specs.Tokens.{Text, is_space, is_comment, not_newline, number, Cut, Blank, Takes, Fails, cut}
use Rattle.brisk_lex.specs.Spelled.{mark_text, is_identifier, is_numeral, IsSpelled}

-- the characters are the text of a token: of a name or a number however long, of a reserved word, or of a mark
abbrev pub IsTokenText : Text → Type 0
IsTokenText cs = (is_identifier cs ≡ true) ⊎ ((is_numeral cs ≡ true) ⊎ ((m : Mark) × (cs ≡ mark_text m)))

-- each spelling of a token is such a text
abbrev pub SpellingsAreTexts : Type 0
SpellingsAreTexts = (t : Token) (cs : Text) → IsSpelled t cs → IsTokenText cs

-- c and the k characters after it are the text of a token, and no longer front of c ∷ cs is one
pub record IsLongest (c : ℕ) (cs : Text) (k : ℕ) : Type 0 where
  pub within : k ≤ length cs
  pub token : IsTokenText (c ∷ take k cs)
  pub longest : (j : ℕ) → k < j → j ≤ length cs → IsTokenText (c ∷ take j cs) → ⊥

-- no front of c ∷ cs is the text of a token
abbrev pub BeginsNone : ℕ → Text → Type 0
BeginsNone c cs = (j : ℕ) → j ≤ length cs → IsTokenText (c ∷ take j cs) → ⊥

-- c and the k characters after it are a comment: from two strokes up to byte 10 or the end
pub record IsLineComment (c : ℕ) (cs : Text) (k : ℕ) : Type 0 where
  pub strokes : is_comment c cs ≡ true
  pub within : k ≤ length cs
  pub line : list_all not_newline (take k cs) ≡ true
  pub ends : k < length cs → slice_index cs k ≡ 10

-- what is cut off at c and the characters cs after it is what the language says
abbrev pub IsCutOff : ℕ → Text → Cut → Type 0
IsCutOff c cs (Blank k) = (((is_space c ≡ true) × (k ≡ 0)) ⊎ IsLineComment c cs k) × BeginsNone c cs
IsCutOff c cs (Takes t k) = IsSpelled t (c ∷ take k cs) × IsLongest c cs k
IsCutOff c cs (Fails wrong.BadChar) = (is_space c ≡ false) × (is_comment c cs ≡ false) × BeginsNone c cs
IsCutOff c cs (Fails wrong.NumberTooLarge) = (k : ℕ) × IsLongest c cs k × (is_numeral (c ∷ take k cs) ≡ true) × (2 ^ 63 < number 0 (c ∷ take k cs))
IsCutOff c cs (Fails wrong.NameTooLong) = (k : ℕ) × IsLongest c cs k × (is_identifier (c ∷ take k cs) ≡ true) × (word (encode_utf8_all (c ∷ take k cs)) ≡ None) × (64 < length (encode_utf8_all (c ∷ take k cs)))

-- so it is at each place of each text
abbrev pub LongestIsCut : Type 0
LongestIsCut = (c : ℕ) (cs : Text) → IsCutOff c cs (cut c cs)
