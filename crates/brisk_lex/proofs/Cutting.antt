-- What is cut off is the longest front that is a token.
use Rattle.std.proofs.Common.{◌≡◌, ◌<◌, ◌≤◌, ◌^◌, ◌==◌, inl, inr, Bool, true, false, nat_lt, ℕ, suc, ◌+◌, ◌-◌, [], ◌∷◌, length, take, drop, Option, Some, None, Ok, Err, if◌then◌else◌, refl, sym, ap, subst, ◌∙◌, arith}
use Rattle.std.specs.Prelude.{slice_index}
use Rattle.std.specs.Char.{is_ascii_digit}
use Rattle.std.specs.List.{prefix_len, list_all}
use Rattle.std.specs.Str.{encode_utf8_all}
use Rattle.std.proofs.lemmas.Bool.Decides.{nat_tests}
use Rattle.std.proofs.lemmas.List.{length-take-le, get_or-take, take-append-drop}
use Rattle.std.proofs.lemmas.List.Sums.{prefix_len-le-length, prefix_len_passes, prefix_len_stops, list_all-from_AllPass}
use Rattle.std.proofs.lemmas.List.Folds.{length-prefix_len, list_all_at}
use Rattle.unicode_ident.specs.Ident.{is_xid_continue}
use Rattle.brisk_lex.specs.declared.token.Mark.{Mark}
use Rattle.brisk_lex.specs.declared.token.Word.{Word}
use Rattle.brisk_lex.specs.declared.token.Token.TheVariants as t
use Rattle.brisk_lex.specs.declared.fault.Wrong.TheVariants as wrong
use Rattle.brisk_lex.specs.Vocabulary.{word, double_mark, single_mark}
use Rattle.brisk_lex.specs.Tokens.{Text, is_space, is_comment, starts_name, not_newline, first, number, Blank, Takes, Fails, token_cut, word_or_name, name_token, name_cut, number_cut, mark_or, mark_cut, cut}
use Rattle.brisk_lex.specs.Spelled.{mark_text, is_identifier, is_numeral}
use Rattle.brisk_lex.specs.Longest.{IsTokenText, SpellingsAreTexts, IsLongest, IsCutOff, LongestIsCut}
use Rattle.brisk_lex.proofs.Ascii.{starts_ascii}
use Rattle.brisk_lex.proofs.Printed.{Ends, begins_name, number_in_front, number_of, word_is}
use Rattle.brisk_lex.proofs.Spellings.{begins_mark, double_text, double_more, single_text, word_spelled, mark_front}
use Rattle.brisk_values.proofs.Changes.{both_true}

pub spellings_are_texts : SpellingsAreTexts
spellings_are_texts (t.Word w) cs e = inl (ap is_identifier e ∙ (word_is w).0)
spellings_are_texts (t.Name x) cs h = inl h.1
spellings_are_texts (t.Num n) cs h = inr (inl h.0)
spellings_are_texts (t.Mark m) cs e = inr (inr (m, e))

-- ---- runs of characters that pass

run_passes : (p : ℕ → Bool) (cs : Text) → list_all p (take (prefix_len p cs) cs) ≡ true
run_passes p cs =
    let n : ℕ = prefix_len p cs in
    list_all-from_AllPass p (take n cs) (λ k d l.
    let before : k < n = omega (arith, l, length-prefix_len p cs) in
    ap p (get_or-take n cs k d before) ∙ prefix_len_passes p cs k d before)

past_run : (p : ℕ → Bool) (cs : Text) (j : ℕ) → prefix_len p cs < j → j ≤ length cs → list_all p (take j cs) ≡ true → ⊥
past_run p cs j more l h =
    let n : ℕ = prefix_len p cs in
    let stops : p (slice_index (take j cs) n) ≡ false = ap p (get_or-take j cs n 0 more) ∙ prefix_len_stops p cs 0 (omega arith) in
    let fails : list_all p (take j cs) ≡ false = list_all_at p (take j cs) n 0 (omega (arith, length-take-le j cs l)) stops in
    let wrong : true ≡ false = sym h ∙ fails in cc

ends_if : (p : ℕ → Bool) (c : ℕ) (cs : Text) (b : Bool) → p c ≡ b → Ends p (drop (prefix_len p cs) cs) → Ends p (drop (if b then 1 + prefix_len p cs else 0) (c ∷ cs))
ends_if p c cs true e rest = let k : 1 + prefix_len p cs ≡ suc (prefix_len p cs) = omega arith in rw k rest
ends_if p c cs false e rest = e

run_ends : (p : ℕ → Bool) (cs : Text) → Ends p (drop (prefix_len p cs) cs)
run_ends p [] = tt
run_ends p (c ∷ cs) = ends_if p c cs (p c) refl (run_ends p cs)

-- ---- no front is a token

no_token : (c : ℕ) (cs : Text) → starts_name c ≡ false → is_ascii_digit c ≡ false → ((m : Mark) → c ∷ cs ≡ mark_text m → ⊥) → IsTokenText (c ∷ cs) → ⊥
no_token c cs s d none (inl h) = let b = both_true (starts_name c) (list_all is_xid_continue cs) h in let wrong : true ≡ false = sym b.0 ∙ s in cc
no_token c cs s d none (inr (inl h)) = let b = both_true (is_ascii_digit c) (list_all is_ascii_digit cs) h in let wrong : true ≡ false = sym b.0 ∙ d in cc
no_token c cs s d none (inr (inr m)) = none m.0 m.1

not_true : (b : Bool) → b ≡ true → b ≡ false → ⊥
not_true b h k = let wrong : true ≡ false = sym h ∙ k in cc

-- ---- names and words

name_is_text : (c : ℕ) (cs : Text) → starts_name c ≡ true → is_identifier (c ∷ take (prefix_len is_xid_continue cs) cs) ≡ true
name_is_text c cs starts = rw (starts, run_passes is_xid_continue cs) refl

no_longer_name : (c : ℕ) (cs : Text) → starts_name c ≡ true → (j : ℕ) → prefix_len is_xid_continue cs < j → j ≤ length cs → IsTokenText (c ∷ take j cs) → ⊥
no_longer_name c cs starts j more l (inl h) = past_run is_xid_continue cs j more l (both_true (starts_name c) (list_all is_xid_continue (take j cs)) h).1
no_longer_name c cs starts j more l (inr (inl h)) = not_true (is_ascii_digit c) (both_true (is_ascii_digit c) (list_all is_ascii_digit (take j cs)) h).0 (begins_name c starts).2
no_longer_name c cs starts j more l (inr (inr m)) = not_true (starts_name c) starts (begins_mark c (take j cs) m.0 m.1).no_name

longest_name : (c : ℕ) (cs : Text) → starts_name c ≡ true → IsLongest c cs (prefix_len is_xid_continue cs)
longest_name c cs starts = record { within = prefix_len-le-length is_xid_continue cs; token = inl (name_is_text c cs starts); longest = no_longer_name c cs starts }

sized : (c : ℕ) (cs : Text) → starts_name c ≡ true → let n = prefix_len is_xid_continue cs in let bytes = encode_utf8_all (c ∷ take n cs) in
    word bytes ≡ None → (b : Bool) → nat_lt 64 (length bytes) ≡ b → IsCutOff c cs (token_cut (if b then Err wrong.NameTooLong else Ok (t.Name bytes)) n)
sized c cs starts free true e = (prefix_len is_xid_continue cs, longest_name c cs starts, name_is_text c cs starts, free, grind (arith, nat_tests, e))
sized c cs starts free false e = ((refl, name_is_text c cs starts, free, grind (arith, nat_tests, e)), longest_name c cs starts)

named : (c : ℕ) (cs : Text) → starts_name c ≡ true → let n = prefix_len is_xid_continue cs in let bytes = encode_utf8_all (c ∷ take n cs) in
    (o : Option Word) → word bytes ≡ o → IsCutOff c cs (token_cut (word_or_name o bytes) n)
named c cs starts (Some w) e = (word_spelled (c ∷ take (prefix_len is_xid_continue cs) cs) w e, longest_name c cs starts)
named c cs starts None e = sized c cs starts e (nat_lt 64 (length (encode_utf8_all (c ∷ take (prefix_len is_xid_continue cs) cs)))) refl

name_case : (c : ℕ) (cs : Text) → starts_name c ≡ true → IsCutOff c cs (name_cut c cs)
unfolding name_cut name_token
name_case c cs starts = named c cs starts (word (encode_utf8_all (c ∷ take (prefix_len is_xid_continue cs) cs))) refl

-- ---- numbers

number_is_text : (c : ℕ) (cs : Text) → is_ascii_digit c ≡ true → is_numeral (c ∷ take (prefix_len is_ascii_digit cs) cs) ≡ true
number_is_text c cs digit = rw (digit, run_passes is_ascii_digit cs) refl

digit_begins_no_name : (c : ℕ) → is_ascii_digit c ≡ true → starts_name c ≡ false
digit_begins_no_name c h = starts_ascii c (grind (arith, nat_tests)) ∙ grind (arith, nat_tests)

no_longer_number : (c : ℕ) (cs : Text) → is_ascii_digit c ≡ true → (j : ℕ) → prefix_len is_ascii_digit cs < j → j ≤ length cs → IsTokenText (c ∷ take j cs) → ⊥
no_longer_number c cs digit j more l (inl h) = not_true (starts_name c) (both_true (starts_name c) (list_all is_xid_continue (take j cs)) h).0 (digit_begins_no_name c digit)
no_longer_number c cs digit j more l (inr (inl h)) = past_run is_ascii_digit cs j more l (both_true (is_ascii_digit c) (list_all is_ascii_digit (take j cs)) h).1
no_longer_number c cs digit j more l (inr (inr m)) = not_true (is_ascii_digit c) digit (begins_mark c (take j cs) m.0 m.1).no_digit

longest_number : (c : ℕ) (cs : Text) → is_ascii_digit c ≡ true → IsLongest c cs (prefix_len is_ascii_digit cs)
longest_number c cs digit = record { within = prefix_len-le-length is_ascii_digit cs; token = inr (inl (number_is_text c cs digit)); longest = no_longer_number c cs digit }

-- the digits that were cut off have the number of all that follows
number_cut_off : (c : ℕ) (cs : Text) → is_ascii_digit c ≡ true → number 0 (c ∷ take (prefix_len is_ascii_digit cs) cs) ≡ number (c - 48) cs
number_cut_off c cs digit =
    let n : ℕ = prefix_len is_ascii_digit cs in
    number_of c (take n cs) digit ∙ sym (number_in_front (c - 48) (take n cs) (drop n cs) (run_passes is_ascii_digit cs) (run_ends is_ascii_digit cs)) ∙ ap (number (c - 48)) (take-append-drop n cs)

valued : (c : ℕ) (cs : Text) → is_ascii_digit c ≡ true → let value = number (c - 48) cs in (b : Bool) → nat_lt (2 ^ 63) value ≡ b → IsCutOff c cs (if b then Fails wrong.NumberTooLarge else Takes (t.Num value) (prefix_len is_ascii_digit cs))
valued c cs digit true e =
    let large : 2 ^ 63 < number (c - 48) cs = grind (arith, nat_tests, e) in
    (prefix_len is_ascii_digit cs, longest_number c cs digit, number_is_text c cs digit, subst (λ v. 2 ^ 63 < v) (sym (number_cut_off c cs digit)) large)
valued c cs digit false e = ((number_is_text c cs digit, number_cut_off c cs digit, grind (arith, nat_tests, e)), longest_number c cs digit)

number_case : (c : ℕ) (cs : Text) → is_ascii_digit c ≡ true → IsCutOff c cs (number_cut c cs)
unfolding number_cut
number_case c cs digit = valued c cs digit (nat_lt (2 ^ 63) (number (c - 48) cs)) refl

-- ---- spaces and comments

spaced : (c : ℕ) (cs : Text) → is_space c ≡ true → IsCutOff c cs (Blank 0)
spaced c cs space =
    let no_name : starts_name c ≡ false = starts_ascii c (grind (arith, nat_tests)) ∙ grind (arith, nat_tests) in
    let no_digit : is_ascii_digit c ≡ false = grind (arith, nat_tests) in
    (inl (space, refl), λ j l. no_token c (take j cs) no_name no_digit (λ m e. not_true (is_space c) space (begins_mark c (take j cs) m e).no_space))

line_ends : (c : ℕ) → not_newline c ≡ false → c ≡ 10
line_ends c h = grind (arith, nat_tests)

commented : (c : ℕ) (cs : Text) → is_comment c cs ≡ true → IsCutOff c cs (Blank (prefix_len not_newline cs))
commented c cs strokes =
    let n : ℕ = prefix_len not_newline cs in
    let stroke : (c == 47) ≡ true = (both_true (c == 47) (first cs == 47) strokes).0 in
    let no_name : starts_name c ≡ false = starts_ascii c (grind (arith, nat_tests)) ∙ grind (arith, nat_tests) in
    let no_digit : is_ascii_digit c ≡ false = grind (arith, nat_tests) in (
      inr (record {
        strokes = strokes;
        within = prefix_len-le-length not_newline cs;
        line = run_passes not_newline cs;
        ends = λ h. line_ends (slice_index cs n) (prefix_len_stops not_newline cs 0 h);
      }),
      λ j l. no_token c (take j cs) no_name no_digit (λ m e. not_true (c == 47) stroke (begins_mark c (take j cs) m e).no_stroke),
    )

-- ---- marks

pair_taken : (cs : Text) → 1 ≤ length cs → take 1 cs ≡ first cs ∷ []
pair_taken [] l = absurd (omega arith)
pair_taken (d ∷ cs) l = refl

module _ (c : ℕ) (cs : Text) (no_space : is_space c ≡ false) (no_comment : is_comment c cs ≡ false) (no_digit : is_ascii_digit c ≡ false) (no_name : starts_name c ≡ false) where
  alone : double_mark c (first cs) ≡ None → (o : Option Mark) → single_mark c ≡ o → IsCutOff c cs (mark_or o 0 (Fails wrong.BadChar))
  alone none (Some m) e =
      let spelled : c ∷ [] ≡ mark_text m = single_text c m e in (
        spelled,
        record {
          within = omega arith;
          token = inr (inr (m, spelled));
          longest = λ j more l. no_token c (take j cs) no_name no_digit (λ k h.
              elim (mark_front c cs j k l h) as (λ _. ⊥) [ inl a ↦ omega (arith, more, a.0) | inr a ↦ let wrong : None ≡ Some k = sym none ∙ a.1 in cc ]);
        },
      )
  alone none None e = (
    no_space,
    no_comment,
    λ j l. no_token c (take j cs) no_name no_digit (λ k h.
        elim (mark_front c cs j k l h) as (λ _. ⊥) [
          | inl a ↦ let wrong : None ≡ Some k = sym e ∙ a.1 in cc
          | inr a ↦ let wrong : None ≡ Some k = sym none ∙ a.1 in cc
        ]),
  )

  marked : (o : Option Mark) → double_mark c (first cs) ≡ o → IsCutOff c cs (mark_or o 1 (mark_or (single_mark c) 0 (Fails wrong.BadChar)))
  marked (Some m) e =
      let some : 1 ≤ length cs = double_more c cs m e in
      let spelled : c ∷ take 1 cs ≡ mark_text m = ap (λ l. c ∷ l) (pair_taken cs some) ∙ double_text c (first cs) m e in (
        spelled,
        record {
          within = some;
          token = inr (inr (m, spelled));
          longest = λ j more l. no_token c (take j cs) no_name no_digit (λ k h.
              elim (mark_front c cs j k l h) as (λ _. ⊥) [ inl a ↦ omega (arith, more, a.0) | inr a ↦ omega (arith, more, a.0) ]);
        },
      )
  marked None e = alone e (single_mark c) refl

  mark_case : IsCutOff c cs (mark_cut c cs)
  unfolding mark_cut
  mark_case = marked (double_mark c (first cs)) refl

-- ---- all of them

cut_case : (c : ℕ) (cs : Text) (s k d n : Bool) → is_space c ≡ s → is_comment c cs ≡ k → is_ascii_digit c ≡ d → starts_name c ≡ n
    → IsCutOff c cs (if s then Blank 0 else (if k then Blank (prefix_len not_newline cs) else (if d then number_cut c cs else (if n then name_cut c cs else mark_cut c cs))))
cut_case c cs true k d n space comment digit name = spaced c cs space
cut_case c cs false true d n space comment digit name = commented c cs comment
cut_case c cs false false true n space comment digit name = number_case c cs digit
cut_case c cs false false false true space comment digit name = name_case c cs name
cut_case c cs false false false false space comment digit name = mark_case c cs space comment digit name

pub longest_is_cut : LongestIsCut
unfolding cut
longest_is_cut c cs = cut_case c cs (is_space c) (is_comment c cs) (is_ascii_digit c) (starts_name c) refl refl refl refl
