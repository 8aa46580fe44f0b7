-- What is printed is cut into the tokens that were printed: one token in front of other text.
use Rattle.std.proofs.Common.{◌≡◌, ◌<◌, ◌≤◌, ◌^◌, ◌%◌, ◌==◌, ◌||◌, ◌&&◌, not, Bool, true, false, nat_lt, ℕ, zero, suc, ◌+◌, ◌-◌, ◌*◌, List, [], ◌∷◌, ◌++◌, length, replicate, inl, inr, Result, Ok, Err, None, refl, sym, ap, ◌∙◌, arith}
use Rattle.std.specs.Char.{is_ascii_digit, is_ascii_alphanumeric}
use Rattle.std.specs.Fmt.{decimal}
use Rattle.std.specs.List.{prefix_len, list_all}
use Rattle.std.specs.Str.{chars, encode_utf8_all, all_scalars}
use Rattle.std.proofs.lemmas.Bool.Decides.{leb_tells, nat_tests}
use Rattle.std.proofs.lemmas.Fmt.{decimal_by_steps}
use Rattle.std.proofs.lemmas.List.{take_at, drop_at}
use Rattle.std.proofs.lemmas.Str.{encodes-chars, chars-encodes}
use Rattle.unicode_ident.specs.Ident.{is_xid_start, is_xid_continue}
use Rattle.ucd_table.specs.Rows.{in_ranges}
use Rattle.ucd_derived.specs.XidStartRanges.{xid_start_ranges}
use Rattle.ucd_derived.specs.XidContinueRanges.{xid_continue_ranges}
use lib.Utf8.{encode}
use Rattle.brisk_lex.specs.declared.token.Token.{Token}
use Rattle.brisk_lex.specs.declared.token.Token.TheVariants as t
use Rattle.brisk_lex.specs.declared.token.Mark.{Mark}
use Rattle.brisk_lex.specs.declared.token.Mark.TheVariants as m
use Rattle.brisk_lex.specs.declared.token.Word.{Word}
use Rattle.brisk_lex.specs.declared.token.Word.TheVariants as w
use Rattle.brisk_lex.specs.declared.token.Placed.{Placed}
use Rattle.brisk_lex.specs.declared.fault.LexFault.{LexFault}
use Rattle.brisk_lex.specs.Vocabulary.{word, double_mark, single_mark}
use Rattle.brisk_lex.specs.Tokens.{Text, is_space, starts_name, first, number, cut, Takes, token_cut, name_cut, name_token, number_cut, mark_cut, placed, with_front, lexed, tokens, tokens_of}
use Rattle.brisk_lex.specs.Spelled.{word_text, mark_text, is_identifier, is_numeral, IsName}
use Rattle.brisk_lex.proofs.Ascii.{negated, is_ascii_start, starts_ascii, continues_ascii}
use Rattle.brisk_lex.proofs.Steps.{skips, whole_text}
use Rattle.brisk_values.proofs.Changes.{both_true}

-- ---- reading without places

-- a token, and then those that are read after it
abbrev pub before : Token → Result (List Token) LexFault → Result (List Token) LexFault
before t (Ok ts) = Ok (t ∷ ts)
before t (Err e) = Err e

-- the tokens of the characters, which end at the byte n
abbrev pub read : ℕ → Text → Result (List Token) LexFault
read n cs = tokens_of (lexed n 0 cs)

-- the text that follows doesn't begin with such a character
abbrev pub Ends : (ℕ → Bool) → Text → Type 0
Ends p [] = Unit {0}
Ends p (c ∷ cs) = p c ≡ false

-- the tokens of bytes are those of their characters
pub tokens_read : (cs : Text) → all_scalars cs ≡ true → tokens_of (tokens (encode_utf8_all cs)) ≡ read (length (encode_utf8_all cs)) cs
tokens_read cs s = ap tokens_of (whole_text (encode_utf8_all cs) (cs, (s, refl)) ∙ ap (lexed (length (encode_utf8_all cs)) 0) (chars-encodes cs s))

one : (t : Token) (at : ℕ) (r : Result (List Placed) LexFault) → tokens_of (with_front (placed t at ∷ []) r) ≡ before t (tokens_of r)
one t at (Ok ts) = refl
one t at (Err e) = refl

-- what is cut off in front of other text is read there
pub token_read : (n c : ℕ) (cs rest : Text) (t : Token) → cut c (cs ++ rest) ≡ Takes t (length cs) → read n (c ∷ (cs ++ rest)) ≡ before t (read n rest)
token_read n c cs rest t e = rw (e, skips n (length cs) (cs ++ rest), drop_at cs rest (length cs) refl) (one t _ (lexed n 0 rest))

-- as many characters as pass
pub run : (p : ℕ → Bool) (cs rest : Text) → list_all p cs ≡ true → Ends p rest → prefix_len p (cs ++ rest) ≡ length cs
run p [] [] h e = refl
run p [] (d ∷ rest) h e = rw e refl
run p (c ∷ cs) rest h e =
    let b = both_true (p c) (list_all p cs) h in
    let k : 1 + length cs ≡ suc (length cs) = omega arith in
    rw (b.0, run p cs rest b.1 e) k

-- ---- spaces

pub blank_read : (n c : ℕ) (rest : Text) → is_space c ≡ true → read n (c ∷ rest) ≡ read n rest
unfolding cut
blank_read n c rest h = rw h refl

pub space_read : (n : ℕ) (rest : Text) → read n (32 ∷ rest) ≡ read n rest
space_read n rest = blank_read n 32 rest refl

pub newline_read : (n : ℕ) (rest : Text) → read n (10 ∷ rest) ≡ read n rest
newline_read n rest = blank_read n 10 rest refl

pub spaces_read : (n k : ℕ) (rest : Text) → read n (replicate k 32 ++ rest) ≡ read n rest
spaces_read n zero rest = refl
spaces_read n (suc k) rest = space_read n (replicate k 32 ++ rest) ∙ spaces_read n k rest

-- ---- names and words

ascii_begins : (c : ℕ) → is_ascii_start c ≡ true → (is_space c ≡ false) × ((c == 47) ≡ false) × (is_ascii_digit c ≡ false)
ascii_begins c h = (grind (arith, nat_tests), grind (arith, nat_tests), grind (arith, nat_tests))

-- what begins a name begins nothing else
pub begins_name : (c : ℕ) → starts_name c ≡ true → (is_space c ≡ false) × ((c == 47) ≡ false) × (is_ascii_digit c ≡ false)
begins_name c h =
    elim (leb_tells 128 c) as (λ _. (is_space c ≡ false) × ((c == 47) ≡ false) × (is_ascii_digit c ≡ false)) [
      | inl a ↦ (grind (arith, nat_tests, a.1), grind (arith, nat_tests, a.1), grind (arith, nat_tests, a.1))
      | inr a ↦ ascii_begins c (sym (starts_ascii c a.1) ∙ h)
    ]

identifier_cut : (c : ℕ) (cs rest : Text) → is_identifier (c ∷ cs) ≡ true → Ends is_xid_continue rest → cut c (cs ++ rest) ≡ token_cut (name_token (encode_utf8_all (c ∷ cs))) (length cs)
unfolding cut name_cut
identifier_cut c cs rest h e =
    let b = both_true (starts_name c) (list_all is_xid_continue cs) h in
    let plain = begins_name c b.0 in
    rw (plain.0, plain.1, plain.2, b.0, run is_xid_continue cs rest b.1 e, take_at cs rest (length cs) refl) refl

identifier_read : (n : ℕ) (cs rest : Text) (t : Token) → is_identifier cs ≡ true → name_token (encode_utf8_all cs) ≡ Ok t → Ends is_xid_continue rest → read n (cs ++ rest) ≡ before t (read n rest)
identifier_read n [] rest t h is e = cc
identifier_read n (c ∷ cs) rest t h is e = token_read n c cs rest t (identifier_cut c cs rest h e ∙ ap (λ r. token_cut r (length cs)) is)

free_name : (bytes : List ℕ) → word bytes ≡ None → length bytes ≤ 64 → name_token bytes ≡ Ok (t.Name bytes)
unfolding name_token
free_name bytes free short = rw free (let few : nat_lt 64 (length bytes) ≡ false = grind (arith, nat_tests) in rw few refl)

pub name_read : (n : ℕ) (bytes : List ℕ) (rest : Text) → IsName bytes → Ends is_xid_continue rest → read n (chars bytes ++ rest) ≡ before (t.Name bytes) (read n rest)
name_read n bytes rest h e = identifier_read n (chars bytes) rest (t.Name bytes) h.1.1 (ap name_token (encodes-chars bytes h.0) ∙ free_name bytes h.1.2 h.1.3) e

-- each word is an identifier, and its bytes are that word
pub word_is : (w : Word) → (is_identifier (word_text w) ≡ true) × (name_token (encode_utf8_all (word_text w)) ≡ Ok (t.Word w))
unfolding is_xid_start is_xid_continue in_ranges xid_start_ranges xid_continue_ranges name_token word encode
word_is w.KwEnum = (refl, refl)
word_is w.KwChannel = (refl, refl)
word_is w.KwOne = (refl, refl)
word_is w.KwMany = (refl, refl)
word_is w.KwNonempty = (refl, refl)
word_is w.KwVar = (refl, refl)
word_is w.KwInput = (refl, refl)
word_is w.KwInt = (refl, refl)
word_is w.KwBool = (refl, refl)
word_is w.KwTrue = (refl, refl)
word_is w.KwFalse = (refl, refl)
word_is w.KwSend = (refl, refl)
word_is w.KwTo = (refl, refl)
word_is w.KwRecv = (refl, refl)
word_is w.KwFrom = (refl, refl)
word_is w.KwAny = (refl, refl)
word_is w.KwIn = (refl, refl)
word_is w.KwIf = (refl, refl)
word_is w.KwElse = (refl, refl)
word_is w.KwWhile = (refl, refl)
word_is w.KwFor = (refl, refl)
word_is w.KwRepeat = (refl, refl)
word_is w.KwBegin = (refl, refl)
word_is w.KwEnd = (refl, refl)
word_is w.KwBox = (refl, refl)
word_is w.KwPick = (refl, refl)
word_is w.KwLoose = (refl, refl)

pub word_read : (n : ℕ) (w : Word) (rest : Text) → Ends is_xid_continue rest → read n (word_text w ++ rest) ≡ before (t.Word w) (read n rest)
word_read n w rest e = identifier_read n (word_text w) rest (t.Word w) (word_is w).0 (word_is w).1 e

-- ---- numbers

begins_number : (c : ℕ) → is_ascii_digit c ≡ true → (is_space c ≡ false) × ((c == 47) ≡ false)
begins_number c h = (grind (arith, nat_tests), grind (arith, nat_tests))

number_ends : (v : ℕ) (rest : Text) → Ends is_ascii_digit rest → number v rest ≡ v
number_ends v [] e = refl
number_ends v (c ∷ rest) e = rw e refl

pub number_in_front : (v : ℕ) (cs rest : Text) → list_all is_ascii_digit cs ≡ true → Ends is_ascii_digit rest → number v (cs ++ rest) ≡ number v cs
number_in_front v [] rest h e = number_ends v rest e
number_in_front v (c ∷ cs) rest h e =
    let b = both_true (is_ascii_digit c) (list_all is_ascii_digit cs) h in
    rw b.0 (number_in_front (10 * v + (c - 48)) cs rest b.1 e)

pub number_of : (c : ℕ) (cs : Text) → is_ascii_digit c ≡ true → number 0 (c ∷ cs) ≡ number (c - 48) cs
number_of c cs h = let k : 10 * 0 + (c - 48) ≡ c - 48 = omega arith in rw (h, k) refl

numeral_cut : (c v : ℕ) (cs rest : Text) → is_numeral (c ∷ cs) ≡ true → number 0 (c ∷ cs) ≡ v → v ≤ 2 ^ 63 → Ends is_ascii_digit rest → cut c (cs ++ rest) ≡ Takes (t.Num v) (length cs)
unfolding cut number_cut
numeral_cut c v cs rest h is fits e =
    let b = both_true (is_ascii_digit c) (list_all is_ascii_digit cs) h in
    let plain = begins_number c b.0 in
    let value : number (c - 48) (cs ++ rest) ≡ v = number_in_front (c - 48) cs rest b.1 e ∙ sym (number_of c cs b.0) ∙ is in
    let few : nat_lt (2 ^ 63) v ≡ false = grind (arith, nat_tests) in
    rw (plain.0, plain.1, b.0, value, few, run is_ascii_digit cs rest b.1 e) refl

pub numeral_read : (n v : ℕ) (cs rest : Text) → is_numeral cs ≡ true → number 0 cs ≡ v → v ≤ 2 ^ 63 → Ends is_ascii_digit rest → read n (cs ++ rest) ≡ before (t.Num v) (read n rest)
numeral_read n v [] rest h is fits e = cc
numeral_read n v (c ∷ cs) rest h is fits e = token_read n c cs rest (t.Num v) (numeral_cut c v cs rest h is fits e)

-- one more digit at the end
number_push : (v d : ℕ) (cs : Text) → list_all is_ascii_digit cs ≡ true → is_ascii_digit d ≡ true → number v (cs ++ d ∷ []) ≡ 10 * number v cs + (d - 48)
number_push v d [] h e = rw e refl
number_push v d (c ∷ cs) h e =
    let b = both_true (is_ascii_digit c) (list_all is_ascii_digit cs) h in
    rw b.0 (number_push (10 * v + (c - 48)) d cs b.1 e)

digits_push : (d : ℕ) (cs : Text) → list_all is_ascii_digit cs ≡ true → is_ascii_digit d ≡ true → list_all is_ascii_digit (cs ++ d ∷ []) ≡ true
digits_push d [] h e = rw e refl
digits_push d (c ∷ cs) h e = let b = both_true (is_ascii_digit c) (list_all is_ascii_digit cs) h in rw b.0 (digits_push d cs b.1 e)

numeral_push : (d : ℕ) (cs : Text) → is_numeral cs ≡ true → is_ascii_digit d ≡ true → is_numeral (cs ++ d ∷ []) ≡ true
numeral_push d [] h e = cc
numeral_push d (c ∷ cs) h e = digits_push d (c ∷ cs) h e

all_digits : (cs : Text) → is_numeral cs ≡ true → list_all is_ascii_digit cs ≡ true
all_digits [] h = refl
all_digits (c ∷ cs) h = h

-- what std prints of a number is a numeral of it
pub decimal_is : (v : ℕ) → v < 2 ^ 64 → (is_numeral (decimal v) ≡ true) × (number 0 (decimal v) ≡ v)
decimal_is = decimal_by_steps (λ v cs. (is_numeral cs ≡ true) × (number 0 cs ≡ v))
    (λ v h. let is : is_ascii_digit (48 + v) ≡ true = grind (arith, nat_tests) in (rw is refl, rw is (omega arith)))
    (λ v cs h p. let is : is_ascii_digit (48 + v % 10) ≡ true = grind (arith, nat_tests) in
    (numeral_push (48 + v % 10) cs p.0 is, number_push 0 (48 + v % 10) cs (all_digits cs p.0) is ∙ omega (arith, p.1)))

pub number_read : (n v : ℕ) (rest : Text) → v ≤ 2 ^ 63 → Ends is_ascii_digit rest → read n (decimal v ++ rest) ≡ before (t.Num v) (read n rest)
number_read n v rest fits e = let d = decimal_is v (omega arith) in numeral_read n v (decimal v) rest d.0 d.1 fits e

-- ---- marks

-- the text that follows doesn't go on with the mark
abbrev pub MarkEnds : Mark → Text → Type 0
MarkEnds m.Colon rest = (61 == first rest) ≡ false
MarkEnds m.Equals rest = (61 == first rest) ≡ false
MarkEnds m.Bang rest = (61 == first rest) ≡ false
MarkEnds m.Less rest = (61 == first rest) ≡ false
MarkEnds m.Greater rest = (61 == first rest) ≡ false
MarkEnds m rest = Unit {0}

pub mark_read : (n : ℕ) (m : Mark) (rest : Text) → MarkEnds m rest → read n (mark_text m ++ rest) ≡ before (t.Mark m) (read n rest)
unfolding cut mark_cut double_mark single_mark is_xid_start in_ranges xid_start_ranges
mark_read n m.LBrace rest e = token_read n 123 [] rest (t.Mark m.LBrace) refl
mark_read n m.RBrace rest e = token_read n 125 [] rest (t.Mark m.RBrace) refl
mark_read n m.LParen rest e = token_read n 40 [] rest (t.Mark m.LParen) refl
mark_read n m.RParen rest e = token_read n 41 [] rest (t.Mark m.RParen) refl
mark_read n m.Comma rest e = token_read n 44 [] rest (t.Mark m.Comma) refl
mark_read n m.Semi rest e = token_read n 59 [] rest (t.Mark m.Semi) refl
mark_read n m.Colon rest e = token_read n 58 [] rest (t.Mark m.Colon) (rw e refl)
mark_read n m.Assign rest e = token_read n 58 (61 ∷ []) rest (t.Mark m.Assign) refl
mark_read n m.Equals rest e = token_read n 61 [] rest (t.Mark m.Equals) (rw e refl)
mark_read n m.Dot rest e = token_read n 46 [] rest (t.Mark m.Dot) refl
mark_read n m.Hash rest e = token_read n 35 [] rest (t.Mark m.Hash) refl
mark_read n m.Plus rest e = token_read n 43 [] rest (t.Mark m.Plus) refl
mark_read n m.Minus rest e = token_read n 45 [] rest (t.Mark m.Minus) refl
mark_read n m.Star rest e = token_read n 42 [] rest (t.Mark m.Star) refl
mark_read n m.EqEq rest e = token_read n 61 (61 ∷ []) rest (t.Mark m.EqEq) refl
mark_read n m.NotEq rest e = token_read n 33 (61 ∷ []) rest (t.Mark m.NotEq) refl
mark_read n m.Less rest e = token_read n 60 [] rest (t.Mark m.Less) (rw e refl)
mark_read n m.LessEq rest e = token_read n 60 (61 ∷ []) rest (t.Mark m.LessEq) refl
mark_read n m.Greater rest e = token_read n 62 [] rest (t.Mark m.Greater) (rw e refl)
mark_read n m.GreaterEq rest e = token_read n 62 (61 ∷ []) rest (t.Mark m.GreaterEq) refl
mark_read n m.AndAnd rest e = token_read n 38 (38 ∷ []) rest (t.Mark m.AndAnd) refl
mark_read n m.OrOr rest e = token_read n 124 (124 ∷ []) rest (t.Mark m.OrOr) refl
mark_read n m.Bang rest e = token_read n 33 [] rest (t.Mark m.Bang) (rw e refl)

-- ---- what ends a name and a number

-- an ASCII character that is no letter, digit or underscore
abbrev pub is_plain : ℕ → Bool
is_plain c = nat_lt c 128 && not (is_ascii_alphanumeric c || c == 95)

pub plain_ends : (c : ℕ) → is_plain c ≡ true → is_xid_continue c ≡ false
plain_ends c h =
    let b = both_true (nat_lt c 128) (not (is_ascii_alphanumeric c || c == 95)) h in
    continues_ascii c (grind (arith, nat_tests, b.0)) ∙ negated (is_ascii_alphanumeric c || c == 95) b.1

-- what can't go on with a name can't go on with a number
digit_goes_on : (c : ℕ) → is_ascii_digit c ≡ true → is_xid_continue c ≡ true
digit_goes_on c h = continues_ascii c (grind (arith, nat_tests)) ∙ grind (arith, nat_tests)

no_digit_if : (c : ℕ) (b : Bool) → is_ascii_digit c ≡ b → is_xid_continue c ≡ false → is_ascii_digit c ≡ false
no_digit_if c true e h = let wrong : true ≡ false = sym (digit_goes_on c e) ∙ h in cc
no_digit_if c false e h = e

pub digits_end : (rest : Text) → Ends is_xid_continue rest → Ends is_ascii_digit rest
digits_end [] e = tt
digits_end (c ∷ rest) e = no_digit_if c (is_ascii_digit c) refl e
