-- The names of parts are names, and differ from each other.
use Rattle.std.proofs.Common.{◌≡◌, ℕ, ◌<◌, ◌≤◌, ◌+◌, ◌%◌, ◌/◌, ◌^◌, Bool, true, false, nat_lt, nat_eq, List, [], ◌∷◌, ◌++◌, length, None, refl, sym, ap, subst, ◌∙◌, arith}
use Rattle.std.specs.Prelude.{codes}
use Rattle.std.specs.List.{list_all}
use Rattle.std.specs.Fmt.{decimal}
use Rattle.std.specs.Str.{IsAscii, chars, encode_utf8_all}
use Rattle.std.proofs.lemmas.Bool.{ne_eqb, lt-ltb, ltb-true}
use Rattle.std.proofs.lemmas.Bool.Decides.{nat_tests}
use Rattle.std.proofs.lemmas.Fmt.{decimal_by_steps, decimal_injective, length-decimal-le, IsAscii-decimal}
use Rattle.std.proofs.lemmas.List.{append_cancel_left}
use Rattle.std.proofs.lemmas.List.Folds.{list_all-append}
use Rattle.std.proofs.lemmas.Str.{IsUtf8-from_ascii, chars-IsAscii, encodes-IsAscii}
use Rattle.std.proofs.lemmas.Str.Ascii.{IsAscii-cons}
use Rattle.unicode_ident.specs.Ident.{is_xid_continue}
use Rattle.brisk_lex.specs.Spelled.{IsName, is_identifier}
use Rattle.brisk_lex.specs.Tokens.{starts_name}
use Rattle.brisk_lex.specs.Vocabulary.{word}
use Rattle.brisk_lex.proofs.Ascii.{continues_ascii, is_ascii_continue, starts_ascii}
use Rattle.brisk_values.proofs.Changes.{both_true}
use Rattle.brisk_derivtext.specs.Shared.{part_name}

-- parts of different numbers have different names
pub same_number : (m n : ℕ) → m < 2 ^ 64 → n < 2 ^ 64 → part_name m ≡ part_name n → m ≡ n
same_number m n h k e = decimal_injective m n h k (append_cancel_left (codes "p") (decimal m) (decimal n) e)

digit_goes_on : (n : ℕ) → n < 10 → is_xid_continue (48 + n) ≡ true
digit_goes_on n h = continues_ascii (48 + n) (omega arith) ∙ grind (arith, nat_tests)

digits_go_on : (n : ℕ) → n < 2 ^ 64 → list_all is_xid_continue (decimal n) ≡ true
digits_go_on = decimal_by_steps (λ n b. list_all is_xid_continue b ≡ true)
    (λ n h. rw (digit_goes_on n h) refl)
    (λ n b h k. rw (list_all-append, k, digit_goes_on (n % 10) (omega arith)) refl)

abbrev is_low : ℕ → Bool
is_low c = nat_lt c 58

digits_low : (n : ℕ) → n < 2 ^ 64 → list_all is_low (decimal n) ≡ true
digits_low = decimal_by_steps (λ n b. list_all is_low b ≡ true)
    (λ n h. rw (lt-ltb (48 + n) 58 (omega arith)) refl)
    (λ n b h k. rw (list_all-append, k, lt-ltb (48 + n % 10) 58 (omega arith)) refl)

-- no reserved word is `p` and digits
no_word : (ds : List ℕ) → list_all is_low ds ≡ true → word (112 ∷ ds) ≡ None
unfolding word
no_word [] h = refl
no_word (d ∷ ds) h =
    let low : d < 58 = ltb-true d 58 (both_true (is_low d) (list_all is_low ds) h).0 in
    rw (ne_eqb 105 d (λ e. omega (arith, e, low))) refl

pub name_legal : (m : ℕ) → m < 2 ^ 64 → IsName (part_name m)
name_legal m h =
    let x = part_name m in
    let ascii : IsAscii x = IsAscii-cons 112 (decimal m) (omega arith) (IsAscii-decimal m h) in
    let seen : chars x ≡ x = chars-IsAscii x ascii in
    let first : starts_name 112 ≡ true = starts_ascii 112 (omega arith) in
    let identifier : is_identifier x ≡ true = rw (first, digits_go_on m h) refl in
    (IsUtf8-from_ascii x ascii, (sym (ap encode_utf8_all seen ∙ encodes-IsAscii x ascii), subst (λ z. is_identifier z ≡ true) (sym seen) identifier, no_word (decimal m) (digits_low m h), omega (arith, length-decimal-le 20 m (omega arith) (omega (arith, h)) h)))
