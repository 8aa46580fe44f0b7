-- No name, number or process holds a space or a dot, and no name a bracket.
use Rattle.std.proofs.Common.{◌≡◌, ◌<◌, ◌≤◌, ◌^◌, ◌%◌, ◌/◌, ◌+◌, inl, inr, ℕ, true, false, not, ◌==◌, ◌||◌, nat_lt, [], ◌∷◌, ◌++◌, Option, Some, None, IfSome, refl, sym, ap, subst, ◌∙◌, arith}
use Rattle.std.specs.Prelude.{codes}
use Rattle.std.specs.List.{list_all}
use Rattle.std.specs.Char.{is_ascii_alphanumeric}
use Rattle.std.specs.Str.{chars, encode_utf8_all}
use Rattle.std.specs.Fmt.{decimal}
use Rattle.std.proofs.lemmas.Bool.{ne_eqb, le-ltb, lt-ltb}
use Rattle.std.proofs.lemmas.Bool.Decides.{leb_tells, nat_tests}
use Rattle.std.proofs.lemmas.Fmt.{decimal_by_steps}
use Rattle.std.proofs.lemmas.List.Folds.{list_all-append}
use Rattle.unicode_ident.specs.Ident.{is_xid_continue}
use lib.Utf8.{encode, next}
use Rattle.brisk_lex.specs.Tokens.{starts_name}
use Rattle.brisk_lex.specs.Spelled.{is_identifier, IsName}
use Rattle.brisk_lex.proofs.Ascii.{starts_ascii}
use Rattle.brisk_lex.proofs.Printed.{is_plain, plain_ends}
use Rattle.brisk_text.specs.Values.{Text}
use Rattle.brisk_lines.specs.declared.line.Process.{Process}
use Rattle.brisk_lines.specs.Lines.{member_text, process_text, IsShort, IsLegalProcess}
use Rattle.brisk_lines.specs.Pieces.{differs, Lacks}
use Rattle.brisk_values.proofs.Changes.{both_true}

other : (c x : ℕ) → (x ≡ c → ⊥) → differs c x ≡ true
other c x h = ap not (ne_eqb x c h)

pub both_lack : (c : ℕ) (a b : Text) → Lacks c a → Lacks c b → Lacks c (a ++ b)
both_lack c a b h k = rw (list_all-append, h, k) refl

-- ---- names

high : (c x : ℕ) → c < 128 → 128 ≤ x → differs c x ≡ true
high c x l h = other c x (λ e. omega arith)

encode_lacks : (c d : ℕ) → c < 128 → (d ≡ c → ⊥) → Lacks c (encode d)
unfolding encode
encode_lacks c d l h =
    elim (leb_tells 128 d) as (λ _. Lacks c (encode d)) [
      | inr a ↦ rw (lt-ltb d 128 a.1, other c d h) refl
      | inl a ↦ elim (leb_tells 2048 d) as (λ _. Lacks c (encode d)) [
        | inr b ↦ rw (le-ltb d 128 a.1, lt-ltb d 2048 b.1, high c (192 + d / 64) l (omega arith), high c (next d) l (omega arith)) refl
        | inl b ↦ elim (leb_tells 65536 d) as (λ _. Lacks c (encode d)) [
          | inr e ↦ rw (le-ltb d 128 a.1, le-ltb d 2048 b.1, lt-ltb d 65536 e.1, high c (224 + d / 4096) l (omega arith), high c (next (d / 64)) l (omega arith), high c (next d) l (omega arith)) refl
          | inl e ↦ rw (le-ltb d 128 a.1, le-ltb d 2048 b.1, le-ltb d 65536 e.1, high c (240 + d / 262144) l (omega arith), high c (next (d / 4096)) l (omega arith), high c (next (d / 64)) l (omega arith), high c (next d) l (omega arith)) refl
        ]
      ]
    ]

goes_on_lacks : (c : ℕ) (cs : Text) → is_plain c ≡ true → c < 128 → list_all is_xid_continue cs ≡ true → Lacks c (encode_utf8_all cs)
goes_on_lacks c [] p l h = refl
goes_on_lacks c (d ∷ cs) p l h =
    let b = both_true (is_xid_continue d) (list_all is_xid_continue cs) h in
    let ne : d ≡ c → ⊥ = λ e. (let wrong : true ≡ false = sym b.0 ∙ ap is_xid_continue e ∙ plain_ends c p in cc) in
    both_lack c (encode d) (encode_utf8_all cs) (encode_lacks c d l ne) (goes_on_lacks c cs p l b.1)

plain_starts_none : (c : ℕ) → is_plain c ≡ true → c < 128 → starts_name c ≡ false
plain_starts_none c p l = starts_ascii c l ∙ (let b = both_true (nat_lt c 128) (not (is_ascii_alphanumeric c || c == 95)) p in grind (arith, nat_tests, b.1))

identifier_lacks : (c : ℕ) (cs : Text) → is_plain c ≡ true → c < 128 → is_identifier cs ≡ true → Lacks c (encode_utf8_all cs)
identifier_lacks c [] p l h = refl
identifier_lacks c (d ∷ cs) p l h =
    let b = both_true (starts_name d) (list_all is_xid_continue cs) h in
    let ne : d ≡ c → ⊥ = λ e. (let wrong : true ≡ false = sym b.0 ∙ ap starts_name e ∙ plain_starts_none c p l in cc) in
    both_lack c (encode d) (encode_utf8_all cs) (encode_lacks c d l ne) (goes_on_lacks c cs p l b.1)

pub name_lacks : (c : ℕ) → is_plain c ≡ true → c < 128 → (x : Text) → IsName x → Lacks c x
name_lacks c p l x h = subst (Lacks c) (sym h.1.0) (identifier_lacks c (chars x) p l h.1.1)

-- ---- numbers and processes

pub decimal_lacks : (c : ℕ) → c < 48 → (n : ℕ) → n < 2 ^ 64 → Lacks c (decimal n)
decimal_lacks c l = decimal_by_steps (λ n b. Lacks c b)
    (λ n h. rw (other c (48 + n) (λ e. omega arith)) refl)
    (λ n b h k. both_lack c b ((48 + n % 10) ∷ []) k (rw (other c (48 + n % 10) (λ e. omega arith)) refl))

member_lacks : (c : ℕ) → c < 48 → (k : Option ℕ) → IfSome k IsShort → Lacks c (member_text k)
member_lacks c l None h = refl
member_lacks c l (Some k) h =
    both_lack c (codes "[" ++ decimal k) (codes "]")
    (both_lack c (codes "[") (decimal k) (rw (other c 91 (λ e. omega arith)) refl) (decimal_lacks c l k (omega arith)))
    (rw (other c 93 (λ e. omega arith)) refl)

pub process_lacks : (c : ℕ) → is_plain c ≡ true → c < 48 → (p : Process) → IsLegalProcess p → Lacks c (process_text p)
process_lacks c plain l p h = both_lack c p.role (member_text p.member) (name_lacks c plain (omega arith) p.role h.0) (member_lacks c l p.member h.1)
