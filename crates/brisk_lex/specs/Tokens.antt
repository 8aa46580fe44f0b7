-- The tokens of a list of characters: each time the longest at the front is cut off.
use Rattle.std.specs.Prelude.{ℕ, zero, suc, ◌+◌, ◌-◌, ◌*◌, ◌^◌, slice_index, Bool, not, ◌&&◌, ◌||◌, ◌==◌, nat_lt, if◌then◌else◌, List, [], ◌∷◌, ◌++◌, length, take, drop, Option, Some, None, Result, Ok, Err, map}
use Rattle.std.specs.Char.{is_ascii_digit}
use Rattle.std.specs.Int.{is_in_range}
use Rattle.std.specs.List.{prefix_len}
use Rattle.std.specs.Str.{chars, encode_utf8_all}
use Rattle.std.specs.Str.Lossy.{utf8_valid_len, utf8_error_len}
use Rattle.std.specs.Option.{unwrap_or}
use Rattle.unicode_ident.specs.Ident.{is_xid_start, is_xid_continue}
use Rattle.brisk_lex.specs.declared.token.Mark.{Mark}
use Rattle.brisk_lex.specs.declared.token.Word.{Word}
use Rattle.brisk_lex.specs.declared.token.Token.{Token}
use Rattle.brisk_lex.specs.declared.token.Token.TheVariants as t
use Rattle.brisk_lex.specs.declared.token.Placed.{Placed}
use Rattle.brisk_lex.specs.declared.fault.Wrong.{Wrong}
use Rattle.brisk_lex.specs.declared.fault.Wrong.TheVariants as wrong
use Rattle.brisk_lex.specs.declared.fault.LexFault.{LexFault}
use Rattle.brisk_lex.specs.declared.fault.LexFault.TheVariants.{NotUtf8, BadChar, NumberTooLarge, NameTooLong}
use Rattle.brisk_lex.specs.Vocabulary.{word, double_mark, single_mark}

-- a list of characters
abbrev pub Text : Type 0
Text = List ℕ

-- a space, a tab, byte 10 or byte 13
abbrev pub is_space : ℕ → Bool
is_space c = c == 32 || c == 9 || c == 10 || c == 13

-- a name begins with such a character
abbrev pub starts_name : ℕ → Bool
starts_name c = is_xid_start c || c == 95

-- any character but byte 10
abbrev pub not_newline : ℕ → Bool
not_newline c = not (c == 10)

-- the first character, and 0 where there is none
abbrev pub first : Text → ℕ
first [] = 0
first (c ∷ cs) = c

-- two strokes begin a comment
abbrev pub is_comment : ℕ → Text → Bool
is_comment c cs = c == 47 && first cs == 47

-- the number of the digits at the front, after those whose number is n
abbrev pub number : ℕ → Text → ℕ
number n [] = n
number n (c ∷ cs) = if is_ascii_digit c then number (10 * n + (c - 48)) cs else n

-- ---- one token

-- what is cut off: its kind, and how many characters it has after the first
pub data Cut : Type 0 where
  Blank : (n : ℕ) → Cut
  Takes : (t : Token) (n : ℕ) → Cut
  Fails : (wrong : Wrong) → Cut

-- a token of so many characters after the first
abbrev pub token_cut : Result Token Wrong → ℕ → Cut
token_cut (Ok t) n = Takes t n
token_cut (Err w) n = Fails w

-- a reserved word, where it is one, or the name with these bytes
abbrev pub word_or_name : Option Word → List ℕ → Result Token Wrong
word_or_name (Some w) bytes = Ok (t.Word w)
word_or_name None bytes = if nat_lt 64 (length bytes) then Err wrong.NameTooLong else Ok (t.Name bytes)

-- the token of a name's bytes
unfoldable pub name_token : List ℕ → Result Token Wrong
name_token bytes = word_or_name (word bytes) bytes

-- c and the n characters that follow it are a name or a word
abbrev pub name_of : ℕ → ℕ → Text → Cut
name_of n c cs = token_cut (name_token (encode_utf8_all (c ∷ take n cs))) n

-- the longest name at c
unfoldable pub name_cut : ℕ → Text → Cut
name_cut c cs = name_of (prefix_len is_xid_continue cs) c cs

-- the longest number at c
unfoldable pub number_cut : ℕ → Text → Cut
number_cut c cs = let value = number (c - 48) cs in if nat_lt (2 ^ 63) value then Fails wrong.NumberTooLarge else Takes (t.Num value) (prefix_len is_ascii_digit cs)

-- a mark with n characters after the first, or else this
abbrev pub mark_or : Option Mark → ℕ → Cut → Cut
mark_or (Some m) n otherwise = Takes (t.Mark m) n
mark_or None n otherwise = otherwise

-- the longest mark at c
unfoldable pub mark_cut : ℕ → Text → Cut
mark_cut c cs = mark_or (double_mark c (first cs)) 1 (mark_or (single_mark c) 0 (Fails wrong.BadChar))

-- what is cut off at c and the characters cs after it
unfoldable pub cut : ℕ → Text → Cut
cut c cs =
    if is_space c then Blank 0
    else (if is_comment c cs then Blank (prefix_len not_newline cs)
    else (if is_ascii_digit c then number_cut c cs
    else (if starts_name c then name_cut c cs
    else mark_cut c cs)))

-- ---- the whole text

-- the byte where the characters cs begin, which end at the byte n
abbrev pub place : ℕ → Text → ℕ
place n cs = n - length (encode_utf8_all cs)

-- a token and the byte of its beginning
abbrev pub placed : Token → ℕ → Placed
placed t at = record { token = t; at = at }

-- the fault of what is wrong at a byte
abbrev pub fault_at : Wrong → ℕ → LexFault
fault_at wrong.BadChar at = BadChar at
fault_at wrong.NumberTooLarge at = NumberTooLarge at
fault_at wrong.NameTooLong at = NameTooLong at

-- these tokens, and then those that are read after them
abbrev pub with_front : List Placed → Result (List Placed) LexFault → Result (List Placed) LexFault
with_front front (Ok ts) = Ok (front ++ ts)
with_front front (Err e) = Err e

-- what is cut off at a byte, and what is read after so many more characters
abbrev pub goes_on : Cut → ℕ → (ℕ → Result (List Placed) LexFault) → Result (List Placed) LexFault
goes_on (Blank k) at rest = rest k
goes_on (Takes t k) at rest = with_front (placed t at ∷ []) (rest k)
goes_on (Fails w) at rest = Err (fault_at w at)

-- the tokens after the first k characters, which belong to what was cut off before; the characters end at the byte n
abbrev pub lexed : ℕ → ℕ → Text → Result (List Placed) LexFault
lexed n k [] = Ok []
lexed n (suc k) (c ∷ cs) = lexed n k cs
lexed n zero (c ∷ cs) = goes_on (cut c cs) (place n (c ∷ cs)) (λ k. lexed n k cs)

-- ---- bytes

-- How many bytes begin a character, where no whole one stands at the front. So the place of NotUtf8 below is the least k such
-- that the first k + 1 bytes begin no text, which IsBroken says without this count.
abbrev pub begun : List ℕ → ℕ
begun bytes = if is_in_range 0xC2 0xF4 (slice_index bytes 0) then unwrap_or (utf8_error_len bytes) (length bytes) else 0

-- what is read of the first n bytes, which are text, and where more bytes follow then the fault of these
abbrev pub then_broken : List ℕ → ℕ → Result (List Placed) LexFault → Result (List Placed) LexFault
then_broken bytes n (Err e) = Err e
then_broken bytes n (Ok ts) = if n == length bytes then Ok ts else Err (NotUtf8 (n + begun (drop n bytes)))

-- the tokens of the bytes, or the least byte at which reading fails
unfoldable pub tokens : List ℕ → Result (List Placed) LexFault
tokens bytes = let n = utf8_valid_len bytes in then_broken bytes n (lexed n 0 (chars (take n bytes)))

-- the tokens without their places
abbrev pub tokens_of : Result (List Placed) LexFault → Result (List Token) LexFault
tokens_of (Ok ts) = Ok (map (λ p. p.token) ts)
tokens_of (Err e) = Err e
