-- How many members below a number are not served.
use Rattle.std.proofs.Common.{◌≡◌, ℕ, suc, zero, ◌+◌, ◌≤◌, ◌<◌, Bool, true, false, refl, sym, ap, ◌∙◌, nat_eq, arith}
use Rattle.std.specs.Prelude.{if◌then◌else◌}
use Rattle.std.proofs.lemmas.Bool.{eqb-true, eqb-false}
use Rattle.brisk_sound.proofs.Middle.{Served, with_member}

abbrev pub one_if_not : Bool → ℕ
one_if_not b = if b then 0 else 1

abbrev pub unserved : ℕ → Served → ℕ
unserved zero sv = 0
unserved (suc n) sv = one_if_not (sv n) + unserved n sv

pub unserved_none : (n : ℕ) → unserved n (λ j. false) ≡ n
unserved_none zero = refl
unserved_none (suc n) = let h = unserved_none n in omega (arith, h)

-- a member at or above changes nothing
unserved_above : (n m : ℕ) (sv : Served) → n ≤ m → unserved n (with_member m sv) ≡ unserved n sv
unserved_above zero m sv h = refl
unserved_above (suc n) m sv h =
    let g = unserved_above n m sv (omega (arith, h)) in
    elim (nat_eq m n) as (λ b. nat_eq m n ≡ b → one_if_not (if b then true else sv n) + unserved n (with_member m sv) ≡ one_if_not (sv n) + unserved n sv) [
      | true ↦ λ e. absurd (let s = eqb-true m n e in omega (arith, s, h))
      | false ↦ λ e. ap (λ k. one_if_not (sv n) + k) g
    ] refl

pub unserved_less : (n m : ℕ) (sv : Served) → m < n → sv m ≡ false → unserved n sv ≡ suc (unserved n (with_member m sv))
unserved_less zero m sv h e = absurd (omega (arith, h))
unserved_less (suc n) m sv h e =
    elim (nat_eq m n) as (λ b. nat_eq m n ≡ b → one_if_not (sv n) + unserved n sv ≡ suc (one_if_not (if b then true else sv n) + unserved n (with_member m sv))) [
      | true ↦ λ g.
          let s = eqb-true m n g in
          let one : one_if_not (sv n) ≡ 1 = ap one_if_not (ap sv (sym s) ∙ e) in
          let k = unserved_above n m sv (omega (arith, s)) in omega (arith, one, k)
      | false ↦ λ g. let d = eqb-false m n g in let k = unserved_less n m sv (omega (arith, h, d)) e in omega (arith, k)
    ] refl

pub none_unserved : (n j : ℕ) (sv : Served) → unserved n sv ≡ 0 → j < n → sv j ≡ true
none_unserved zero j sv h l = absurd (omega (arith, l))
none_unserved (suc n) j sv h l =
    let here : sv n ≡ true = elim (sv n) as (λ b. one_if_not b + unserved n sv ≡ 0 → b ≡ true) [ true ↦ λ e. refl | false ↦ λ e. absurd (omega (arith, e)) ] h in
    elim (nat_eq j n) as (λ b. nat_eq j n ≡ b → sv j ≡ true) [
      | true ↦ λ e. ap sv (eqb-true j n e) ∙ here
      | false ↦ λ e. none_unserved n j sv (omega (arith, h)) (let d = eqb-false j n e in omega (arith, d, l))
    ] refl

-- a member below the number that isn't served
pub record Unserved (n : ℕ) (sv : Served) : Type 0 where
  pub member : ℕ
  pub inside : member < n
  pub fresh : sv member ≡ false

pub some_unserved : (n k : ℕ) (sv : Served) → unserved n sv ≡ suc k → Unserved n sv
some_unserved zero k sv h = absurd (omega (arith, h))
some_unserved (suc n) k sv h =
    elim (sv n) as (λ b. sv n ≡ b → Unserved (suc n) sv) [
      | true ↦ λ e. (let u = some_unserved n k sv (let g = ap one_if_not e in omega (arith, g, h)) in record { member = u.member; inside = (let i = u.inside in omega (arith, i)); fresh = u.fresh })
      | false ↦ λ e. record { member = n; inside = omega arith; fresh = e }
    ] refl
