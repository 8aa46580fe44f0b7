-- How a text reads that stands in front of other text, and how texts that stand side by side read.
use Rattle.std.proofs.Common.{◌≡◌, nat_lt, Bool, true, false, not, ◌||◌, ◌==◌, ℕ, zero, suc, List, [], ◌∷◌, ◌++◌, length, map, Result, Ok, IsUtf8, refl, sym, ap, subst, ◌∙◌, append_assoc, append-nil, arith}
use Rattle.std.specs.Prelude.{codes}
use Rattle.std.specs.Char.{is_ascii_alphanumeric}
use Rattle.std.specs.Fmt.{decimal}
use Rattle.std.specs.List.{AllByRecursion, list_all}
use Rattle.std.specs.Str.{chars, encode_utf8_all, IsAscii}
use Rattle.std.proofs.lemmas.Bool.Decides.{nat_tests}
use Rattle.std.proofs.lemmas.Fmt.{IsAscii-decimal}
use Rattle.std.proofs.lemmas.Str.{chars-append, chars-IsAscii, encodes-chars, scalars-chars, IsUtf8-append, IsUtf8-from_ascii}
use Rattle.unicode_ident.specs.Ident.{is_xid_continue}
use Rattle.brisk_lex.specs.declared.fault.LexFault.{LexFault}
use Rattle.brisk_lex.specs.declared.token.Mark.{Mark}
use Rattle.brisk_lex.specs.declared.token.Mark.TheVariants as m
use Rattle.brisk_lex.specs.declared.token.Word.{Word}
use Rattle.brisk_lex.specs.declared.token.Token.{Token}
use Rattle.brisk_lex.specs.declared.token.Token.TheVariants as t
use Rattle.brisk_lex.specs.Tokens.{Text, tokens, tokens_of}
use Rattle.brisk_lex.specs.Spelled.{mark_text, word_text}
use Rattle.brisk_lex.proofs.Printed.{read, before, Ends, MarkEnds, is_plain, plain_ends, digits_end, name_read, word_read, number_read, mark_read, tokens_read, space_read, newline_read}
use Rattle.brisk_parse.specs.Spelling as spell
use Rattle.brisk_print.specs.Layout.{behind_commas, with_commas, joined}
use Rattle.brisk_readback.specs.Legal.{AllLegal}
use Rattle.brisk_values.proofs.Changes.{both_true}

-- tokens, and then those that are read after them
abbrev pub all_before : List Token → Result (List Token) LexFault → Result (List Token) LexFault
all_before [] r = r
all_before (t ∷ ts) r = before t (all_before ts r)

-- what may follow: anything, or after an open end nothing that goes on with a name
abbrev pub MayFollow : Bool → Text → Type 0
MayFollow true rest = Ends is_xid_continue rest
MayFollow false rest = Unit {0}

-- b is text that is read as the tokens ts, in front of any text that may follow
pub record ReadAs (o : Bool) (b : List ℕ) (ts : List Token) : Type 0 where
  pub utf8 : IsUtf8 b
  pub reads : (n : ℕ) (rest : Text) → MayFollow o rest → read n (chars b ++ rest) ≡ all_before ts (read n rest)

-- it is so where the tokens are legal
abbrev pub Reads : Bool → List ℕ → List Token → Type 0
Reads o b ts = AllLegal ts → ReadAs o b ts

-- ---- constant texts

abbrev pub is_low : ℕ → Bool
is_low c = nat_lt c 128

pub all_ascii : (b : List ℕ) → list_all is_low b ≡ true → IsAscii b
all_ascii [] h zero = omega arith
all_ascii [] h (suc i) = omega arith
all_ascii (c ∷ b) h zero = let k = both_true (is_low c) (list_all is_low b) h in grind (arith, nat_tests, k.0)
all_ascii (c ∷ b) h (suc i) = let k = both_true (is_low c) (list_all is_low b) h in all_ascii b k.1 i

ascii_reads : (o : Bool) (b : List ℕ) (ts : List Token) → IsAscii b → ((n : ℕ) (rest : Text) → MayFollow o rest → read n (b ++ rest) ≡ all_before ts (read n rest)) → ReadAs o b ts
ascii_reads o b ts h r = record { utf8 = IsUtf8-from_ascii b h; reads = λ n rest f. ap (λ l. read n (l ++ rest)) (chars-IsAscii b h) ∙ r n rest f }

constant : (o : Bool) (b : List ℕ) (ts : List Token) → list_all is_low b ≡ true → ((n : ℕ) (rest : Text) → MayFollow o rest → read n (b ++ rest) ≡ all_before ts (read n rest)) → Reads o b ts
constant o b ts h r legal = ascii_reads o b ts (all_ascii b h) r

-- a mark that no character goes on with
pub solid : (k : Mark) → list_all is_low (mark_text k) ≡ true → ((rest : Text) → MarkEnds k rest) → Reads false (mark_text k) (spell.mark k)
solid k low h = constant false (mark_text k) (spell.mark k) low (λ n rest _. mark_read n k rest (h rest))

spaced_ends : (k : Mark) (rest : Text) → MarkEnds k (32 ∷ rest)
spaced_ends m.Colon rest = refl
spaced_ends m.Equals rest = refl
spaced_ends m.Bang rest = refl
spaced_ends m.Less rest = refl
spaced_ends m.Greater rest = refl
spaced_ends k rest = tt

-- a mark and a space
pub spaced : (k : Mark) → list_all is_low (mark_text k ++ codes " ") ≡ true → Reads false (mark_text k ++ codes " ") (spell.mark k)
spaced k low = constant false (mark_text k ++ codes " ") (spell.mark k) low
    (λ n rest _. ap (read n) (append_assoc (mark_text k) (codes " ") rest) ∙ mark_read n k (32 ∷ rest) (spaced_ends k rest) ∙ ap (before (t.Mark k)) (space_read n rest))

pub word : (w : Word) → list_all is_low (word_text w) ≡ true → Reads true (word_text w) (spell.word w)
word w low = constant true (word_text w) (spell.word w) low (λ n rest h. word_read n w rest h)

pub nothing : (o : Bool) → Reads o [] []
nothing o = constant o [] [] refl (λ n rest h. refl)

-- ---- names and numbers

pub name : (x : List ℕ) → Reads true x (spell.name x)
name x legal = record { utf8 = legal.0.0; reads = λ n rest h. name_read n x rest legal.0 h }

pub number : (v : ℕ) → Reads true (decimal v) (t.Num v ∷ [])
number v legal = ascii_reads true (decimal v) (t.Num v ∷ []) (IsAscii-decimal v (omega (arith, legal.0))) (λ n rest h. number_read n v rest legal.0 (digits_end rest h))

-- ---- side by side

before-append : (ts us : List Token) (r : Result (List Token) LexFault) → all_before (ts ++ us) r ≡ all_before ts (all_before us r)
before-append [] us r = refl
before-append (t ∷ ts) us r = ap (before t) (before-append ts us r)

pub legal_parts : (ts us : List Token) → AllLegal (ts ++ us) → AllLegal ts × AllLegal us
legal_parts [] us h = (tt, h)
legal_parts (t ∷ ts) us h = let k = legal_parts ts us h.1 in ((h.0, k.0), k.1)

side_by_side : (p o : Bool) (a b : List ℕ) (ts us : List Token) → ReadAs p a ts → ReadAs o b us → ((rest : Text) → MayFollow o rest → MayFollow p (chars b ++ rest)) → ReadAs o (a ++ b) (ts ++ us)
side_by_side p o a b ts us x y follows = record {
  utf8 = IsUtf8-append a b x.utf8 y.utf8;
  reads = λ n rest h.
      ap (λ l. read n (l ++ rest)) (chars-append a b x.utf8) ∙ ap (read n) (append_assoc (chars a) (chars b) rest)
      ∙ x.reads n (chars b ++ rest) (follows rest h) ∙ ap (all_before ts) (y.reads n rest h) ∙ sym (before-append ts us (read n rest));
}

infixl 65 ◌then◌
-- a closed text, and what follows it
pub ◌then◌ : {o : Bool} {a b : List ℕ} {ts us : List Token} → Reads false a ts → Reads o b us → Reads o (a ++ b) (ts ++ us)
◌then◌ {o} {a} {b} {ts} {us} x y legal =
    let parts = legal_parts ts us legal in
    side_by_side false o a b ts us (x parts.0) (y parts.1) (λ rest h. tt)

-- the text begins with a character that ends a name, or where its end is open it may be empty
abbrev pub ends_names : Bool → List ℕ → Bool
ends_names o [] = o
ends_names o (c ∷ b) = is_plain c

-- an ASCII character is the first character of its text
pub low_first : (c : ℕ) (b rest : List ℕ) → is_low c ≡ true → chars (c ∷ b) ++ rest ≡ c ∷ (chars b ++ rest)
low_first c b rest h =
    let one = all_ascii (c ∷ []) (rw h refl) in
    ap (λ l. l ++ rest) (chars-append (c ∷ []) b (IsUtf8-from_ascii (c ∷ []) one) ∙ ap (λ l. l ++ chars b) (chars-IsAscii (c ∷ []) one))

names_end : (o : Bool) (b : List ℕ) (rest : Text) → ends_names o b ≡ true → MayFollow o rest → Ends is_xid_continue (chars b ++ rest)
unfolding chars
names_end true [] rest h f = f
names_end false [] rest h f = absurd (let k = h in cc)
names_end o (c ∷ b) rest h f =
    let low = (both_true (is_low c) (not (is_ascii_alphanumeric c || c == 95)) h).0 in
    rw (low_first c b rest low) (plain_ends c h)

-- what is closed may stand where an end is open
pub loosen : {o : Bool} {b : List ℕ} {ts : List Token} → Reads false b ts → Reads o b ts
loosen x legal = record { utf8 = (x legal).utf8; reads = λ n rest h. (x legal).reads n rest tt }

pub open_end : {o : Bool} {b : List ℕ} {ts : List Token} → Reads o b ts → Reads true b ts
open_end {o = true} x = x
open_end {o = false} x = loosen x

-- a text with an open end, and what follows it
pub gap : {o : Bool} {a b : List ℕ} {ts us : List Token} → Reads true a ts → ends_names o b ≡ true → Reads o b us → Reads o (a ++ b) (ts ++ us)
gap {o} {a} {b} {ts} {us} x ends y legal =
    let parts = legal_parts ts us legal in
    side_by_side true o a b ts us (x parts.0) (y parts.1) (λ rest h. names_end o b rest ends h)

-- a closed text that ends a name before it
pub record Separates (b : List ℕ) (ts : List Token) : Type 0 where
  pub reads : Reads false b ts
  pub ends : ends_names false b ≡ true

infixl 65 ◌and◌
-- any text, and a separator after it
pub ◌and◌ : {o : Bool} {a b : List ℕ} {ts us : List Token} → Reads o a ts → Separates b us → Reads false (a ++ b) (ts ++ us)
x and s = gap (open_end x) s.ends s.reads

-- the same text, and the same tokens, written otherwise
pub same_text : {o : Bool} {a b : List ℕ} {ts : List Token} → a ≡ b → Reads o a ts → Reads o b ts
same_text {o} {a} {b} {ts} e x = subst (λ (l : List ℕ). Reads o l ts) e x

pub same_tokens : {o : Bool} {b : List ℕ} {ts us : List Token} → ts ≡ us → Reads o b ts → Reads o b us
same_tokens {o} {b} {ts} {us} e x = subst (λ (l : List Token). Reads o b l) e x

-- ---- separators

pub space : Separates (codes " ") []
space = record { reads = constant false (codes " ") [] refl (λ n rest _. space_read n rest); ends = refl }

pub newline : Separates (codes "\n") []
newline = record { reads = constant false (codes "\n") [] refl (λ n rest _. newline_read n rest); ends = refl }

ends-append : (a b : List ℕ) → ends_names false a ≡ true → ends_names false (a ++ b) ≡ true
ends-append [] b h = absurd (let k = h in cc)
ends-append (c ∷ a) b h = h

infixl 65 ◌joint◌
-- a separator goes on
pub ◌joint◌ : {a b : List ℕ} {ts us : List Token} → Separates a ts → Reads false b us → Separates (a ++ b) (ts ++ us)
◌joint◌ {a} {b} s x = record { reads = s.reads then x; ends = ends-append a b s.ends }

-- a word and a space
pub spaced_word : (w : Word) → list_all is_low (word_text w) ≡ true → Reads false (word_text w ++ codes " ") (spell.word w)
spaced_word w low = word w low and space

-- a text at the end of a line
pub ends_line : {b : List ℕ} {ts : List Token} → Reads false b ts → Reads false (b ++ codes "\n") ts
ends_line {b} {ts} x = same_tokens (append-nil ts) (x then newline.reads)

-- ---- lists

follows_commas : (bs : List (List ℕ)) → ends_names true (behind_commas bs) ≡ true
follows_commas [] = refl
follows_commas (b ∷ bs) = refl

comma : Reads false (codes ", ") (spell.mark m.Comma)
comma = spaced m.Comma refl

module _ {T : Type 0} (text : T → List ℕ) (spelled : T → List Token) where
  behind_commas_read : ((x : T) → Reads true (text x) (spelled x)) → (xs : List T) → Reads true (behind_commas (map text xs)) (spell.behind_commas spelled xs)
  behind_commas_read item [] = nothing true
  behind_commas_read item (x ∷ xs) = gap (comma then item x) (follows_commas (map text xs)) (behind_commas_read item xs)

  -- pieces with commas between
  pub with_commas_read : ((x : T) → Reads true (text x) (spelled x)) → (xs : List T) → Reads true (with_commas (map text xs)) (spell.separated spelled xs)
  with_commas_read item [] = nothing true
  with_commas_read item (x ∷ xs) = gap (item x) (follows_commas (map text xs)) (behind_commas_read item xs)

  -- pieces one after another, of which each has what its reading needs
  pub joined_read : {P : T → Type 0} → ((x : T) → P x → Reads false (text x) (spelled x)) → (xs : List T) → AllByRecursion P xs → Reads false (joined (map text xs)) (spell.all_of spelled xs)
  joined_read item [] h = nothing false
  joined_read item (x ∷ xs) h = item x h.0 then joined_read item xs h.1

-- where nothing is needed
pub any : {T : Type 0} (xs : List T) → AllByRecursion (λ _. Unit {0}) xs
any [] = tt
any (x ∷ xs) = (tt, any xs)

-- ---- whole texts

all_are_read : (ts : List Token) → all_before ts (Ok []) ≡ Ok ts
all_are_read [] = refl
all_are_read (t ∷ ts) = ap (before t) (all_are_read ts)

-- a text that is read so in front of others has these tokens
pub whole_read : (b : List ℕ) (ts : List Token) → AllLegal ts → Reads false b ts → tokens_of (tokens b) ≡ Ok ts
whole_read b ts legal x =
    let r = x legal in
    ap (λ l. tokens_of (tokens l)) (sym (encodes-chars b r.utf8)) ∙ tokens_read (chars b) (scalars-chars b r.utf8)
    ∙ ap (read (length (encode_utf8_all (chars b)))) (sym (append-nil (chars b))) ∙ r.reads (length (encode_utf8_all (chars b))) [] tt ∙ all_are_read ts
