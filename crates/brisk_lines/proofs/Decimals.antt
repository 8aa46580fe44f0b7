-- Numbers that are parsed and printed again.
use Rattle.std.proofs.Common.{◌≡◌, ◌<◌, ◌^◌, ℕ, ℤ, Option, Some, None, Result, Ok, Err, Bor, IsUtf8, FitsSigned, sym, ap, subst, ◌∙◌, arith}
use Rattle.std.specs.Prelude.{pos, negsuc}
use Rattle.std.specs.Int.{w64}
use Rattle.std.specs.Result.{MatchResult, OkIff, result_ok}
use Rattle.std.specs.Int.Signed.{mag}
use Rattle.std.specs.Fmt.{decimal, signed_decimal}
use Rattle.std.specs.Str.Parse.{digits_value}
use Rattle.std.proofs.lemmas.Fmt.{decimal_is_IsNumeral, IsAscii-decimal}
use Rattle.itoa.proofs.Decimal.{IsAscii-signed_decimal}
use Rattle.std.proofs.lemmas.Str.{IsUtf8-from_ascii}
use Rattle.brisk_text.specs.Values.{Text}
use Rattle.brisk_lines.specs.Lines.{Reads, IsShort}

-- a number is known by its decimal
pub decimal_same : (m n : ℕ) → m < 2 ^ 64 → n < 2 ^ 64 → decimal m ≡ decimal n → m ≡ n
decimal_same m n h k e = sym (decimal_is_IsNumeral m h).1 ∙ ap (digits_value 10) e ∙ (decimal_is_IsNumeral n k).1

pub utf8_decimal : (n : ℕ) (b : Text) → n < 2 ^ 64 → b ≡ decimal n → IsUtf8 b
utf8_decimal n b h e = subst IsUtf8 (sym e) (IsUtf8-from_ascii (decimal n) (IsAscii-decimal n h))

pub utf8_signed_decimal : (n : ℤ) (b : Text) → FitsSigned w64 n → b ≡ signed_decimal n → IsUtf8 b
utf8_signed_decimal n b h e = subst IsUtf8 (sym e) (IsUtf8-from_ascii (signed_decimal n) (IsAscii-signed_decimal n h))

short_cases : {E : Type 0} (b : Text) (n : ℕ) (s : Result ℕ E) → n < 2 ^ 64 → b ≡ decimal n → OkIff s (n < 2 ^ 32) n → Reads decimal IsShort b (result_ok s)
short_cases b n (Ok k) h e m = (e ∙ ap decimal (sym m.1), omega (arith, m.0, m.1))
short_cases b n (Err x) h e m = λ k l f. let s : k ≡ n = decimal_same k n (omega arith) h (sym f ∙ e) in m (omega arith)

-- ---- what a test of bytes says

pub text_is_read : {E : Type 0} (Q : E → Type 0) (b : Text) (r : Result (Bor Text) E) → MatchResult r (λ s. (s.now ≡ b) × IsUtf8 b) (λ e. (¬ IsUtf8 b) × Q e) → None ≡ result_ok r → IsUtf8 b → ⊥
text_is_read Q b (Ok s) m h u = let k = h in cc
text_is_read Q b (Err e) m h u = m.0 u

pub read_text : {E : Type 0} (Q : E → Type 0) (b : Text) (s : Bor Text) (r : Result (Bor Text) E) → MatchResult r (λ s. (s.now ≡ b) × IsUtf8 b) (λ e. (¬ IsUtf8 b) × Q e) → Some s ≡ result_ok r → s.now ≡ b
read_text Q b s (Ok t) m h = let k : s ≡ t = cc in ap (λ (x : Bor Text). x.now) k ∙ m.0
read_text Q b s (Err e) m h = absurd (let k = h in cc)

-- a number that has 32 bits, or none where a number has more
pub short_read : {E : Type 0} (b : Text) (n : ℕ) (r : Option ℕ) (s : Result ℕ E) → n < 2 ^ 64 → b ≡ decimal n → r ≡ result_ok s → OkIff s (n < 2 ^ 32) n → Reads decimal IsShort b r
short_read b n r s h e is m = subst (Reads decimal IsShort b) (sym is) (short_cases b n s h e m)

-- the magnitude of a number of 64 bits
pub short : (n : ℤ) → FitsSigned w64 n → mag n < 2 ^ 63
short (pos n) h = omega (arith, h.sfits)
short (negsuc n) h = omega (arith, h.sfits)
