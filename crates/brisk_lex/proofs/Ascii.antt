-- Which ASCII characters begin a name, and which go on with one.
use Rattle.std.proofs.Common.{if◌then◌else◌, ◌≡◌, ℕ, zero, suc, ◌<◌, inl, inr, Bool, true, false, not, ◌&&◌, ◌||◌, ◌==◌, refl, sym, ap, ◌∙◌, arith}
use Rattle.std.specs.Char.{is_ascii_alphabetic, is_ascii_alphanumeric}
use Rattle.std.proofs.lemmas.Bool.Decides.{leb_tells}
use Rattle.unicode_ident.specs.Ident.{is_xid_start, is_xid_continue}
use Rattle.ucd_table.specs.Rows.{in_ranges}
use Rattle.ucd_derived.specs.XidStartRanges.{xid_start_ranges}
use Rattle.ucd_derived.specs.XidContinueRanges.{xid_continue_ranges}
use Rattle.brisk_lex.specs.Tokens.{starts_name}
use Rattle.brisk_values.proofs.Changes.{both_true}

-- the two tests agree on each number below n
abbrev agree : (ℕ → Bool) → (ℕ → Bool) → ℕ → Bool
agree p q zero = true
agree p q (suc n) = (if p n then q n else not (q n)) && agree p q n

pub negated : (a : Bool) → not a ≡ true → a ≡ false
negated true h = sym h
negated false h = refl

same : (a b : Bool) → (if a then b else not b) ≡ true → a ≡ b
same true true h = refl
same true false h = cc
same false true h = cc
same false false h = refl

agree_at : (p q : ℕ → Bool) (n c : ℕ) → agree p q n ≡ true → c < n → p c ≡ q c
agree_at p q zero c h l = absurd (omega arith)
agree_at p q (suc n) c h l =
    let b = both_true (if p n then q n else not (q n)) (agree p q n) h in
    elim (leb_tells n c) as (λ _. p c ≡ q c) [
      | inl a ↦ let e : c ≡ n = omega (arith, a.1) in ap p e ∙ same (p n) (q n) b.0 ∙ ap q (sym e)
      | inr a ↦ agree_at p q n c b.1 a.1
    ]

abbrev pub is_ascii_start : ℕ → Bool
is_ascii_start c = is_ascii_alphabetic c || c == 95

abbrev pub is_ascii_continue : ℕ → Bool
is_ascii_continue c = is_ascii_alphanumeric c || c == 95

starts_agree : agree starts_name is_ascii_start 128 ≡ true
unfolding is_xid_start in_ranges xid_start_ranges
starts_agree = refl

continues_agree : agree is_xid_continue is_ascii_continue 128 ≡ true
unfolding is_xid_continue in_ranges xid_continue_ranges
continues_agree = refl

pub starts_ascii : (c : ℕ) → c < 128 → starts_name c ≡ is_ascii_start c
starts_ascii c l = agree_at starts_name is_ascii_start 128 c starts_agree l

pub continues_ascii : (c : ℕ) → c < 128 → is_xid_continue c ≡ is_ascii_continue c
continues_ascii c l = agree_at is_xid_continue is_ascii_continue 128 c continues_agree l
