-- The line with some bytes is found exactly where there is one.
use Rattle.std.proofs.Common.{◌≡◌, ◌<◌, ℕ, Bool, true, false, not, ◌&&◌, ◌==◌, List, [], ◌∷◌, ◌++◌, map, length, Option, Some, None, refl, sym, ap, ◌∙◌, arith}
use Rattle.std.specs.Prelude.{codes, is_none, nat_lt, if◌then◌else◌, option_map}
use Rattle.std.specs.List.{list_all, AllByRecursion}
use Rattle.std.specs.Str.{chars, encode_utf8_all, all_scalars}
use Rattle.std.proofs.lemmas.Bool.{le-ltb, ltb-false, lt-ltb, ltb-true, not-true}
use Rattle.std.proofs.lemmas.Fmt.{decimal_is_IsNumeral}
use Rattle.std.proofs.lemmas.Str.{scalars-chars}
use Rattle.brisk_lex.specs.Spelled.{IsName, is_identifier}
use Rattle.brisk_lex.specs.Vocabulary.{word}
use Rattle.brisk_lines.specs.Lines.{Reads}
use Rattle.brisk_lines.specs.Pieces.{differs, Lacks}
use Rattle.brisk_lines.proofs.Plain.{name_lacks}
use Rattle.brisk_text.specs.Values.{Text}
use Rattle.brisk_values.specs.Names.{Name, same_name}
use Rattle.brisk_values.proofs.Changes.{name_laws, exact_name, both_hold, both_true}
use Rattle.brisk_derivation.specs.declared.steps.BasicStep.TheVariants as basic
use Rattle.brisk_derivation.specs.declared.steps.Fact.{Fact}
use Rattle.brisk_derivtext.specs.declared.line.Format.TheVariants.{Format1, Format2}
use Rattle.brisk_derivtext.specs.declared.line.Loop.TheVariants.{While, For, Repeat, Gather, Pick}
use Rattle.brisk_derivtext.specs.declared.line.Line.{Line}
use Rattle.brisk_derivtext.specs.declared.line.Line.TheVariants.{Head, Plain, Fork, Enter, Else, Join, Close, End, Part, EndPart, Use}
use Rattle.brisk_derivtext.specs.Lines.{fact_text, drop_words, first_word, more_words, spaced, line_text, IsLegalFact, IsLegal}
use Rattle.brisk_derivtext.specs.Parsing.{is_name, is_legal_fact, is_legal, onto, words, dotted, one_more, facts_in, at_word, owners_in, guess, tested, line_in}
use Rattle.brisk_derivtext.proofs.Differ.{no_space, first_no_space}

-- ---- tests

no_word : {A : Type 0} (o : Option A) → is_none o ≡ true → o ≡ None
no_word None e = refl
no_word (Some x) e = absurd (let w = e in cc)

name_tells : (x : Text) → is_name x ≡ true → IsName x
name_tells x e =
    let one = both_true (all_scalars (chars x)) _ e in
    let two = both_true (same_name x (encode_utf8_all (chars x))) _ one.1 in
    let three = both_true (is_identifier (chars x)) _ two.1 in
    let four = both_true (is_none (word x)) (not (nat_lt 64 (length x))) three.1 in
    let same = exact_name x (encode_utf8_all (chars x)) two.0 in
    ((chars x, (one.0, sym same)), (same, three.0, no_word (word x) four.0, ltb-false 64 (length x) (not-true (nat_lt 64 (length x)) four.1)))

name_told : (x : Text) → IsName x → is_name x ≡ true
name_told x h =
    both_hold _ _ (scalars-chars x h.0)
    (both_hold _ _ (ap (same_name x) (sym h.1.0) ∙ name_laws.refl x)
    (both_hold _ _ h.1.1
    (both_hold _ _ (ap is_none h.1.2) (ap not (le-ltb 64 (length x) h.1.3)))))

fact_tells : (f : Fact) → is_legal_fact f ≡ true → IsLegalFact f
fact_tells f e = let t = both_true (is_name f.at) (is_name f.variable) e in (name_tells f.at t.0, name_tells f.variable t.1)

fact_told : (f : Fact) → IsLegalFact f → is_legal_fact f ≡ true
fact_told f h = both_hold _ _ (name_told f.at h.0) (name_told f.variable h.1)

module _ {A : Type 0} (test : A → Bool) (P : A → Type 0) where
  all_tell : ((x : A) → test x ≡ true → P x) → (xs : List A) → list_all test xs ≡ true → AllByRecursion P xs
  all_tell one [] e = tt
  all_tell one (x ∷ xs) e = let t = both_true (test x) (list_all test xs) e in (one x t.0, all_tell one xs t.1)

  all_told : ((x : A) → P x → test x ≡ true) → (xs : List A) → AllByRecursion P xs → list_all test xs ≡ true
  all_told one [] h = refl
  all_told one (x ∷ xs) h = both_hold _ _ (one x h.0) (all_told one xs h.1)

facts_tell : (F : List Fact) → list_all is_legal_fact F ≡ true → AllByRecursion IsLegalFact F
facts_tell = all_tell is_legal_fact IsLegalFact fact_tells

facts_told : (F : List Fact) → AllByRecursion IsLegalFact F → list_all is_legal_fact F ≡ true
facts_told = all_told is_legal_fact IsLegalFact fact_told

names_tell : (ts : List Name) → list_all is_name ts ≡ true → AllByRecursion IsName ts
names_tell = all_tell is_name IsName name_tells

names_told : (ts : List Name) → AllByRecursion IsName ts → list_all is_name ts ≡ true
names_told = all_told is_name IsName name_told

drops_tell : (t : Name) (F : List Fact) → (is_name t && list_all is_legal_fact F) ≡ true → IsName t × AllByRecursion IsLegalFact F
drops_tell t F e = let k = both_true (is_name t) (list_all is_legal_fact F) e in (name_tells t k.0, facts_tell F k.1)

drops_told : (t : Name) (F : List Fact) → IsName t × AllByRecursion IsLegalFact F → (is_name t && list_all is_legal_fact F) ≡ true
drops_told t F h = both_hold _ _ (name_told t h.0) (facts_told F h.1)

three_tell : (t u c : Name) → (is_name t && (is_name u && is_name c)) ≡ true → IsName t × IsName u × IsName c
three_tell t u c e =
    let k = both_true (is_name t) (is_name u && is_name c) e in
    let j = both_true (is_name u) (is_name c) k.1 in
    (name_tells t k.0, name_tells u j.0, name_tells c j.1)

three_told : (t u c : Name) → IsName t × IsName u × IsName c → (is_name t && (is_name u && is_name c)) ≡ true
three_told t u c h = both_hold _ _ (name_told t h.0) (both_hold _ _ (name_told u h.1) (name_told c h.2))

legal_tells : (l : Line) → is_legal l ≡ true → IsLegal l
legal_tells (Plain (basic.Assign t)) e = name_tells t e
legal_tells (Plain (basic.Known t)) e = name_tells t e
legal_tells (Plain (basic.Pass t u c)) e = three_tell t u c e
legal_tells (Plain (basic.Take t u c)) e = three_tell t u c e
legal_tells (Plain (basic.Fill t u c n)) e =
    let k = both_true (is_name t) _ e in
    let j = both_true (is_name u) _ k.1 in
    let i = both_true (is_name c) _ j.1 in
    let h = both_true (nat_lt 0 n) (not (nat_lt 1000000 n)) i.1 in
    let positive : 0 < n = ltb-true 0 n h.0 in
    (name_tells t k.0, name_tells u j.0, name_tells c i.0, omega (arith, positive), ltb-false 1000000 n (not-true (nat_lt 1000000 n) h.1))
legal_tells (Fork t) e = name_tells t e
legal_tells (Enter (While t F)) e = drops_tell t F e
legal_tells (Enter (Repeat t F)) e = drops_tell t F e
legal_tells (Enter (Gather t F)) e = drops_tell t F e
legal_tells (Enter (Pick t F)) e = drops_tell t F e
legal_tells (Enter (For s ts F)) e =
    let k = both_true (is_name s) _ e in
    let j = both_true (list_all is_name ts) (list_all is_legal_fact F) k.1 in
    (name_tells s k.0, names_tell ts j.0, facts_tell F j.1)
legal_tells (Part n) e = name_tells n e
legal_tells (Use n) e = name_tells n e
legal_tells (Head f) e = tt
legal_tells Else e = tt
legal_tells Join e = tt
legal_tells Close e = tt
legal_tells End e = tt
legal_tells EndPart e = tt

legal_told : (l : Line) → IsLegal l → is_legal l ≡ true
legal_told (Plain (basic.Assign t)) h = name_told t h
legal_told (Plain (basic.Known t)) h = name_told t h
legal_told (Plain (basic.Pass t u c)) h = three_told t u c h
legal_told (Plain (basic.Take t u c)) h = three_told t u c h
legal_told (Plain (basic.Fill t u c n)) h =
    let positive : 0 < n = (let k = h.3 in omega arith) in
    both_hold _ _ (name_told t h.0) (both_hold _ _ (name_told u h.1) (both_hold _ _ (name_told c h.2) (both_hold _ _ (lt-ltb 0 n positive) (ap not (le-ltb 1000000 n h.4)))))
legal_told (Fork t) h = name_told t h
legal_told (Enter (While t F)) h = drops_told t F h
legal_told (Enter (Repeat t F)) h = drops_told t F h
legal_told (Enter (Gather t F)) h = drops_told t F h
legal_told (Enter (Pick t F)) h = drops_told t F h
legal_told (Enter (For s ts F)) h = both_hold _ _ (name_told s h.0) (both_hold _ _ (names_told ts h.1) (facts_told F h.2))
legal_told (Part n) h = name_told n h
legal_told (Use n) h = name_told n h
legal_told (Head f) h = refl
legal_told Else h = refl
legal_told Join h = refl
legal_told Close h = refl
legal_told End h = refl
legal_told EndPart h = refl

-- ---- words

other_byte : (c x : ℕ) → differs c x ≡ true → (x == c) ≡ false
other_byte c x e = not-true (x == c) e

word_on : (w : Text) (ws : List Text) → Lacks 32 w → words (spaced ws) ≡ [] ∷ ws → words (w ++ spaced ws) ≡ w ∷ ws
word_on [] ws h e = e
word_on (x ∷ w) ws h e =
    let t = both_true (differs 32 x) (list_all (differs 32) w) h in
    ap (λ z. if z then [] ∷ words (w ++ spaced ws) else onto x (words (w ++ spaced ws))) (other_byte 32 x t.0) ∙ ap (onto x) (word_on w ws t.1 e)

words_on : (ws : List Text) → AllByRecursion (Lacks 32) ws → words (spaced ws) ≡ [] ∷ ws
words_on [] h = refl
words_on (w ∷ ws) h = ap (λ z. [] ∷ z) (word_on w ws h.0 (words_on ws h.1))

line_words : (l : Line) → IsLegal l → words (line_text l) ≡ first_word l ∷ more_words l
line_words l h = word_on (first_word l) (more_words l) (first_no_space l) (words_on (more_words l) (no_space l h))

-- ---- facts

dotted_so : (a v : Text) → Lacks 46 a → dotted (a ++ 46 ∷ v) ≡ Some (a, v)
dotted_so [] v h = refl
dotted_so (x ∷ a) v h =
    let t = both_true (differs 46 x) (list_all (differs 46) a) h in
    ap (λ z. if z then Some ([], a ++ 46 ∷ v) else option_map (λ p. (x ∷ p.0, p.1)) (dotted (a ++ 46 ∷ v))) (other_byte 46 x t.0) ∙ ap (option_map (λ p. (x ∷ p.0, p.1))) (dotted_so a v t.1)

facts_so : (F : List Fact) → AllByRecursion IsLegalFact F → facts_in (map fact_text F) ≡ Some F
facts_so [] h = refl
facts_so (f ∷ F) h =
    ap (λ z. one_more z (facts_in (map fact_text F))) (dotted_so f.at f.variable (name_lacks 46 refl (omega arith) f.at h.0.0))
    ∙ ap (one_more (Some (f.at, f.variable))) (facts_so F h.1)

no_more : (o : Option (Text × Text)) → one_more o None ≡ None
no_more None = refl
no_more (Some p) = refl

-- where the word `drop` is still to come, not all words are facts
no_facts : (ts : List Name) (F : List Fact) → facts_in (ts ++ drop_words F) ≡ None
no_facts [] F = refl
no_facts (t ∷ ts) F = ap (one_more (dotted t)) (no_facts ts F) ∙ no_more (dotted t)

not_yet : (b : Bool) (w : Text) (rest : Option (List Name × List Fact)) → at_word b None w rest ≡ option_map (λ p. (w ∷ p.0, p.1)) rest
not_yet true w rest = refl
not_yet false w rest = refl

owners_so : (ts : List Name) (F : List Fact) → AllByRecursion IsLegalFact F → owners_in (ts ++ drop_words F) ≡ Some (ts, F)
owners_so [] F h = ap (λ z. at_word true z (codes "drop") (owners_in (map fact_text F))) (facts_so F h)
owners_so (t ∷ ts) F h =
    ap (λ z. at_word (same_name t (codes "drop")) z t (owners_in (ts ++ drop_words F))) (no_facts ts F)
    ∙ not_yet (same_name t (codes "drop")) t (owners_in (ts ++ drop_words F))
    ∙ ap (option_map (λ p. (t ∷ p.0, p.1))) (owners_so ts F h)

-- ---- lines

guessed : (l : Line) → IsLegal l → guess (first_word l ∷ more_words l) ≡ Some l
guessed (Plain (basic.Assign t)) h = refl
guessed (Plain (basic.Known t)) h = refl
guessed (Plain (basic.Pass t u c)) h = refl
guessed (Plain (basic.Take t u c)) h = refl
guessed (Plain (basic.Fill t u c n)) h = ap (λ z. Some (Plain (basic.Fill t u c z))) (decimal_is_IsNumeral n (let k = h.4 in omega arith)).1
guessed (Fork t) h = refl
guessed (Enter (While t F)) h = ap (option_map (λ p. Enter (While t p.1))) (owners_so [] F h.1)
guessed (Enter (Repeat t F)) h = ap (option_map (λ p. Enter (Repeat t p.1))) (owners_so [] F h.1)
guessed (Enter (Gather t F)) h = ap (option_map (λ p. Enter (Gather t p.1))) (owners_so [] F h.1)
guessed (Enter (Pick t F)) h = ap (option_map (λ p. Enter (Pick t p.1))) (owners_so [] F h.1)
guessed (Enter (For s ts F)) h = ap (option_map (λ p. Enter (For s p.0 p.1))) (owners_so ts F h.2)
guessed (Part n) h = refl
guessed (Use n) h = refl
guessed (Head Format1) h = refl
guessed (Head Format2) h = refl
guessed Else h = refl
guessed Join h = refl
guessed Close h = refl
guessed End h = refl
guessed EndPart h = refl

found : (l : Line) → IsLegal l → line_in (line_text l) ≡ Some l
found l h =
    ap (λ z. tested (line_text l) (guess z)) (line_words l h)
    ∙ ap (tested (line_text l)) (guessed l h)
    ∙ ap (λ z. if z then Some l else None) (both_hold _ _ (name_laws.refl (line_text l)) (legal_told l h))

tests : (b : Text) (o : Option Line) → ((l : Line) → IsLegal l → b ≡ line_text l → tested b o ≡ None → ⊥) → Reads line_text IsLegal b (tested b o)
tests b None none = λ l h e. none l h e refl
tests b (Some l) none = by (same_name (line_text l) b && is_legal l) refl
  where
    by : (t : Bool) → (same_name (line_text l) b && is_legal l) ≡ t → Reads line_text IsLegal b (if t then Some l else None)
    by true k =
        let two = both_true (same_name (line_text l) b) (is_legal l) k in
        (sym (exact_name (line_text l) b two.0), legal_tells l two.1)
    by false k = λ m h e. none m h e (ap (λ z. if z then Some l else None) k)

pub lines_are_found : (b : Text) → Reads line_text IsLegal b (line_in b)
lines_are_found b = tests b (guess (words b)) (λ l h e none. (let wrong : Some l ≡ None = sym (found l h) ∙ ap line_in (sym e) ∙ none in cc))
