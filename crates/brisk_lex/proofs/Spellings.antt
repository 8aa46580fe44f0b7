-- Marks and words by their tables and by their spellings.
use Rattle.std.proofs.Common.{◌≡◌, ◌≤◌, ◌==◌, ◌&&◌, ◌⊎◌, inl, inr, not, Bool, true, false, nat_lt, ℕ, List, [], ◌∷◌, length, take, get_or, Some, if◌then◌else◌, refl, sym, ap, ◌∙◌, arith}
use Rattle.std.specs.Char.{is_ascii_digit}
use Rattle.std.specs.List.{list_all}
use Rattle.std.specs.Str.{bytes_eq, encode_utf8_all}
use Rattle.std.proofs.lemmas.List.{length-take-le}
use Rattle.std.proofs.lemmas.Slice.Eq.{bytes_eq-Decides}
use Rattle.std.proofs.lemmas.Str.{encodes_same}
use Rattle.unicode_ident.specs.Ident.{is_xid_start}
use Rattle.ucd_table.specs.Rows.{in_ranges}
use Rattle.ucd_derived.specs.XidStartRanges.{xid_start_ranges}
use lib.Utf8.{encode}
use Rattle.brisk_lex.specs.declared.token.Mark.{Mark}
use Rattle.brisk_lex.specs.declared.token.Mark.TheVariants as m
use Rattle.brisk_lex.specs.declared.token.Word.{Word}
use Rattle.brisk_lex.specs.declared.token.Word.TheVariants as w
use Rattle.brisk_lex.specs.Vocabulary.{find, words, double_marks, single_marks, word, double_mark, single_mark}
use Rattle.brisk_lex.specs.Tokens.{Text, is_space, starts_name, first}
use Rattle.brisk_lex.specs.Spelled.{word_text, mark_text}
use Rattle.brisk_lex.proofs.Ascii.{negated}
use Rattle.brisk_values.proofs.Changes.{both_true}

-- ---- what a table has is spelled so

found_if : {A : Type 0} (f : A → Text) (s : Text) (x : A) (table : List (Text × A)) (cs : Text) (a : A) (b : Bool) → bytes_eq s cs ≡ b → s ≡ f x → (find table cs ≡ Some a → cs ≡ f a) → (if b then Some x else find table cs) ≡ Some a → cs ≡ f a
found_if f s x table cs a true e spelled rest h =
    let same : x ≡ a = cc in
    sym ((bytes_eq-Decides s cs).0 e) ∙ spelled ∙ ap f same
found_if f s x table cs a false e spelled rest h = rest h

found : {A : Type 0} (f : A → Text) (table : List (Text × A)) → list_all (λ e. bytes_eq e.0 (f e.1)) table ≡ true → (cs : Text) (a : A) → find table cs ≡ Some a → cs ≡ f a
found f [] all cs a h = absurd (let k = h in cc)
found f (e ∷ table) all cs a h =
    let b = both_true (bytes_eq e.0 (f e.1)) (list_all (λ e. bytes_eq e.0 (f e.1)) table) all in
    found_if f e.0 e.1 table cs a (bytes_eq e.0 cs) refl ((bytes_eq-Decides e.0 (f e.1)).0 b.0) (found f table b.1 cs a) h

pub double_text : (c d : ℕ) (m : Mark) → double_mark c d ≡ Some m → c ∷ d ∷ [] ≡ mark_text m
unfolding double_mark
double_text c d m h = found mark_text double_marks refl (c ∷ d ∷ []) m h

pub single_text : (c : ℕ) (m : Mark) → single_mark c ≡ Some m → c ∷ [] ≡ mark_text m
unfolding single_mark
single_text c m h = found mark_text single_marks refl (c ∷ []) m h

word_encodes : (w : Word) → encode_utf8_all (word_text w) ≡ word_text w
unfolding encode
word_encodes w.KwEnum = refl
word_encodes w.KwChannel = refl
word_encodes w.KwOne = refl
word_encodes w.KwMany = refl
word_encodes w.KwNonempty = refl
word_encodes w.KwVar = refl
word_encodes w.KwInput = refl
word_encodes w.KwInt = refl
word_encodes w.KwBool = refl
word_encodes w.KwTrue = refl
word_encodes w.KwFalse = refl
word_encodes w.KwSend = refl
word_encodes w.KwTo = refl
word_encodes w.KwRecv = refl
word_encodes w.KwFrom = refl
word_encodes w.KwAny = refl
word_encodes w.KwIn = refl
word_encodes w.KwIf = refl
word_encodes w.KwElse = refl
word_encodes w.KwWhile = refl
word_encodes w.KwFor = refl
word_encodes w.KwRepeat = refl
word_encodes w.KwBegin = refl
word_encodes w.KwEnd = refl
word_encodes w.KwBox = refl
word_encodes w.KwPick = refl
word_encodes w.KwLoose = refl

pub word_spelled : (cs : Text) (w : Word) → word (encode_utf8_all cs) ≡ Some w → cs ≡ word_text w
unfolding word
word_spelled cs w h = encodes_same cs (word_text w) (found word_text words refl (encode_utf8_all cs) w h ∙ sym (word_encodes w))

-- ---- what a mark's text begins with

abbrev is_mark_start : ℕ → Bool
is_mark_start c = not (starts_name c) && (not (is_ascii_digit c) && (not (is_space c) && not (c == 47)))

pub record BeginsMark (c : ℕ) : Type 0 where
  pub no_name : starts_name c ≡ false
  pub no_digit : is_ascii_digit c ≡ false
  pub no_space : is_space c ≡ false
  pub no_stroke : (c == 47) ≡ false

mark_start : (m : Mark) → is_mark_start (first (mark_text m)) ≡ true
unfolding is_xid_start in_ranges xid_start_ranges
mark_start m.LBrace = refl
mark_start m.RBrace = refl
mark_start m.LParen = refl
mark_start m.RParen = refl
mark_start m.Comma = refl
mark_start m.Semi = refl
mark_start m.Colon = refl
mark_start m.Assign = refl
mark_start m.Equals = refl
mark_start m.Dot = refl
mark_start m.Hash = refl
mark_start m.Plus = refl
mark_start m.Minus = refl
mark_start m.Star = refl
mark_start m.EqEq = refl
mark_start m.NotEq = refl
mark_start m.Less = refl
mark_start m.LessEq = refl
mark_start m.Greater = refl
mark_start m.GreaterEq = refl
mark_start m.AndAnd = refl
mark_start m.OrOr = refl
mark_start m.Bang = refl

pub begins_mark : (c : ℕ) (cs : Text) (m : Mark) → c ∷ cs ≡ mark_text m → BeginsMark c
begins_mark c cs m e =
    let is : is_mark_start c ≡ true = ap is_mark_start (ap first e) ∙ mark_start m in
    let a = both_true (not (starts_name c)) (not (is_ascii_digit c) && (not (is_space c) && not (c == 47))) is in
    let b = both_true (not (is_ascii_digit c)) (not (is_space c) && not (c == 47)) a.1 in
    let d = both_true (not (is_space c)) (not (c == 47)) b.1 in
    record { no_name = negated (starts_name c) a.0; no_digit = negated (is_ascii_digit c) b.0; no_space = negated (is_space c) d.0; no_stroke = negated (c == 47) d.1 }

-- no second character of a mark is 0
second_some : (m : Mark) → nat_lt 0 (get_or (mark_text m) 1 1) ≡ true
second_some m.LBrace = refl
second_some m.RBrace = refl
second_some m.LParen = refl
second_some m.RParen = refl
second_some m.Comma = refl
second_some m.Semi = refl
second_some m.Colon = refl
second_some m.Assign = refl
second_some m.Equals = refl
second_some m.Dot = refl
second_some m.Hash = refl
second_some m.Plus = refl
second_some m.Minus = refl
second_some m.Star = refl
second_some m.EqEq = refl
second_some m.NotEq = refl
second_some m.Less = refl
second_some m.LessEq = refl
second_some m.Greater = refl
second_some m.GreaterEq = refl
second_some m.AndAnd = refl
second_some m.OrOr = refl
second_some m.Bang = refl

-- a mark of two characters has no end of the text behind the first
pub double_more : (c : ℕ) (cs : Text) (m : Mark) → double_mark c (first cs) ≡ Some m → 1 ≤ length cs
double_more c [] m h =
    let e : 0 ≡ get_or (mark_text m) 1 1 = ap (λ (l : Text). get_or l 1 1) (double_text c 0 m h) in
    absurd (let k : false ≡ true = ap (nat_lt 0) e ∙ second_some m in cc)
double_more c (d ∷ cs) m h = omega arith

-- ---- which front is a mark's text

abbrev IsMarkFront : ℕ → Text → ℕ → Mark → Type 0
IsMarkFront c cs j m = ((j ≡ 0) × (single_mark c ≡ Some m)) ⊎ ((j ≡ 1) × (double_mark c (first cs) ≡ Some m))

abbrev drop_first : Text → Text
drop_first [] = []
drop_first (c ∷ cs) = cs

single_front : (c : ℕ) (cs : Text) (j : ℕ) (m : Mark) (d : ℕ) → single_mark d ≡ Some m → j ≤ length cs → c ∷ take j cs ≡ d ∷ [] → IsMarkFront c cs j m
single_front c cs j m d is l e = inl (omega (arith, ap length e, length-take-le j cs l), ap single_mark (ap first e) ∙ is)

first_taken : (cs : Text) (j : ℕ) (d : ℕ) → j ≡ 1 → take j cs ≡ d ∷ [] → first cs ≡ d
first_taken [] j d o e = ap first (rw o at e)
first_taken (c ∷ cs) j d o e = ap first (rw o at e)

double_front : (c : ℕ) (cs : Text) (j : ℕ) (m : Mark) (d e : ℕ) → double_mark d e ≡ Some m → j ≤ length cs → c ∷ take j cs ≡ d ∷ e ∷ [] → IsMarkFront c cs j m
double_front c cs j m d e is l h =
    let two : j ≡ 1 = omega (arith, ap length h, length-take-le j cs l) in
    let tail : take j cs ≡ e ∷ [] = ap (drop_first) h in
    let second : first cs ≡ e = first_taken cs j e two tail in
    inr (two, (λ i. double_mark (ap first h i) (second i)) ∙ is)

pub mark_front : (c : ℕ) (cs : Text) (j : ℕ) (m : Mark) → j ≤ length cs → c ∷ take j cs ≡ mark_text m → IsMarkFront c cs j m
unfolding single_mark double_mark
mark_front c cs j m.LBrace l e = single_front c cs j m.LBrace 123 refl l e
mark_front c cs j m.RBrace l e = single_front c cs j m.RBrace 125 refl l e
mark_front c cs j m.LParen l e = single_front c cs j m.LParen 40 refl l e
mark_front c cs j m.RParen l e = single_front c cs j m.RParen 41 refl l e
mark_front c cs j m.Comma l e = single_front c cs j m.Comma 44 refl l e
mark_front c cs j m.Semi l e = single_front c cs j m.Semi 59 refl l e
mark_front c cs j m.Colon l e = single_front c cs j m.Colon 58 refl l e
mark_front c cs j m.Assign l e = double_front c cs j m.Assign 58 61 refl l e
mark_front c cs j m.Equals l e = single_front c cs j m.Equals 61 refl l e
mark_front c cs j m.Dot l e = single_front c cs j m.Dot 46 refl l e
mark_front c cs j m.Hash l e = single_front c cs j m.Hash 35 refl l e
mark_front c cs j m.Plus l e = single_front c cs j m.Plus 43 refl l e
mark_front c cs j m.Minus l e = single_front c cs j m.Minus 45 refl l e
mark_front c cs j m.Star l e = single_front c cs j m.Star 42 refl l e
mark_front c cs j m.EqEq l e = double_front c cs j m.EqEq 61 61 refl l e
mark_front c cs j m.NotEq l e = double_front c cs j m.NotEq 33 61 refl l e
mark_front c cs j m.Less l e = single_front c cs j m.Less 60 refl l e
mark_front c cs j m.LessEq l e = double_front c cs j m.LessEq 60 61 refl l e
mark_front c cs j m.Greater l e = single_front c cs j m.Greater 62 refl l e
mark_front c cs j m.GreaterEq l e = double_front c cs j m.GreaterEq 62 61 refl l e
mark_front c cs j m.AndAnd l e = double_front c cs j m.AndAnd 38 38 refl l e
mark_front c cs j m.OrOr l e = double_front c cs j m.OrOr 124 124 refl l e
mark_front c cs j m.Bang l e = single_front c cs j m.Bang 33 refl l e
