-- The numbers of drills as words, and how long the texts of drills are.
use Rattle.std.proofs.Common.{◌≡◌, ◌⊎◌, inl, inr, ℕ, zero, suc, ◌+◌, ◌*◌, ◌-◌, ◌<◌, ◌≤◌, ◌^◌, Bool, true, false, List, ◌++◌, length, Option, Some, None, refl, sym, ap, ◌∙◌, subst, arith}
use Rattle.std.specs.Prelude.{codes, if◌then◌else◌}
use Rattle.std.specs.Bool.{Decides}
use Rattle.std.specs.Fmt.{decimal}
use Rattle.std.specs.Str.{bytes_eq}
use Rattle.std.proofs.lemmas.Fmt.{decimal_injective, length-decimal-le}
use Rattle.std.proofs.lemmas.List.{length-append}
use Rattle.std.proofs.lemmas.Slice.Eq.{bytes_eq-Decides}
use Rattle.brisk_drill.specs.Drill.{asker, chain, drill, link, members, receiver, sender}
use Rattle.brisk_cli.specs.Commands.{drill_number, number_up_to}
use Rattle.brisk_cli.specs.Files.{Text}

-- ---- numbers

-- a word that writes none of the numbers
pub none_up_to : (n : ℕ) (w : Text) → ((x : ℕ) → 0 < x → x ≤ n → w ≡ decimal x → ⊥) → number_up_to n w ≡ None
none_up_to zero w h = refl
none_up_to (suc n) w h = by (bytes_eq w (decimal (suc n))) (bytes_eq-Decides w (decimal (suc n))) (none_up_to n w (λ x some few is. h x some (omega (arith, few)) is))
  where
    by : (same : Bool) → Decides same (w ≡ decimal (suc n)) → number_up_to n w ≡ None → (if same then Some (suc n) else number_up_to n w) ≡ None
    by true d e = absurd (h (suc n) (omega arith) (omega arith) (d.0 refl))
    by false d e = e

-- a number up to the next is up to this one, or is the next
up_to : (n x : ℕ) → x ≤ suc n → (x ≡ suc n) ⊎ (x ≤ n)
up_to n zero few = inr (omega arith)
up_to zero (suc zero) few = inl refl
up_to zero (suc (suc x)) few = absurd (omega (arith, few))
up_to (suc n) (suc x) few = elim (up_to n x (omega (arith, few))) [ inl is ↦ inl (ap suc is) | inr less ↦ inr (omega (arith, less)) ]

-- a word that writes one of them
pub some_up_to : (n x : ℕ) (w : Text) → n < 2 ^ 64 → 0 < x → x ≤ n → w ≡ decimal x → number_up_to n w ≡ Some x
some_up_to zero x w small some few is = absurd (omega (arith, some, few))
some_up_to (suc n) x w small some few is = by (bytes_eq w (decimal (suc n))) (bytes_eq-Decides w (decimal (suc n))) (up_to n x few) (λ less. some_up_to n x w (omega (arith, small)) some less is)
  where
    by : (same : Bool) → Decides same (w ≡ decimal (suc n)) → (x ≡ suc n) ⊎ (x ≤ n) → (x ≤ n → number_up_to n w ≡ Some x) → (if same then Some (suc n) else number_up_to n w) ≡ Some x
    by true d at so = ap (λ k. Some k) (sym (decimal_injective x (suc n) (omega (arith, small, few)) small (sym is ∙ d.0 refl)))
    by false d (inl last) so = let e = d.1 (is ∙ ap decimal last) in cc
    by false d (inr less) so = so less

-- what a word's number is: the word writes it, and it is one of a drill
pub no_drill : (w : Text) → ((x : ℕ) → x < 2 ^ 64 → w ≡ decimal x → ⊥) → drill_number w ≡ None
unfolding drill_number
no_drill w h = none_up_to 250 w (λ x some few is. h x (omega (arith, few)) is)

pub beyond_drills : (w : Text) (x : ℕ) → x < 2 ^ 64 → w ≡ decimal x → (0 < x → x ≤ 250 → ⊥) → drill_number w ≡ None
unfolding drill_number
beyond_drills w x small is out =
    none_up_to 250 w (λ y some few also. let same = decimal_injective x y small (omega (arith, few)) (sym is ∙ also) in out (omega (arith, same, some)) (omega (arith, same, few)))

pub one_drill : (w : Text) (x : ℕ) → w ≡ decimal x → 0 < x → x ≤ 250 → drill_number w ≡ Some x
unfolding drill_number
one_drill w x is some few = some_up_to 250 x w (omega arith) some few is

-- ---- texts

-- a number of a drill has few digits
few_digits : (n : ℕ) → n < 1000 → length (decimal n) ≤ 3
few_digits n small = length-decimal-le 3 n (omega arith) (omega (arith, small)) (omega (arith, small))

link_short : (n : ℕ) → n < 1000 → length (link n) ≤ 4
link_short n small = omega (arith, length-append (codes "C") (decimal n), few_digits n small)

-- a text behind another is as long as both
both : (a b : Text) (m n k : ℕ) → length a ≤ m → length b ≤ n → m + n ≤ k → length (a ++ b) ≤ k
both a b m n k h g le = omega (arith, length-append a b, h, g, le)

-- a literal text, a number's text, and a literal text
around : (a b c : Text) (m n k : ℕ) → length a ≤ m → length b ≤ 4 → length c ≤ n → m + n + 4 ≤ k → length (a ++ b ++ c) ≤ k
around a b c m n k h g f le = both (a ++ b) c (m + 4) n k (both a b m 4 (m + 4) h g (omega arith)) f (omega (arith, le))

receiver_short : (n : ℕ) → n < 999 → length (receiver n) ≤ 100
unfolding receiver
receiver_short n small =
    around (codes "one " ++ link (n + 1) ++ codes " {\n  var v : int = 0;\n  recv Step(v) from ") (link n) (codes ";\n") 60 10 100 (around (codes "one ") (link (n + 1)) (codes " {\n  var v : int = 0;\n  recv Step(v) from ") 4 50 60 (omega arith) (link_short (n + 1) (omega (arith, small))) (omega arith) (omega arith)) (link_short n (omega (arith, small))) (omega arith) (omega arith)

sender_short : (n : ℕ) → n < 1000 → length (sender n) ≤ 100
unfolding sender
sender_short n small = around (codes "  send Step(v + 1) to ") (link n) (codes ";\n}\n") 40 10 100 (omega arith) (link_short n small) (omega arith) (omega arith)

chain_short : (n : ℕ) → n < 900 → length (chain n) ≤ 200 + 200 * n
chain_short zero small = omega arith
chain_short (suc n) small =
    both (chain n ++ receiver n) (sender (n + 2)) (300 + 200 * n) 100 (200 + 200 * suc n) (both (chain n) (receiver n) (200 + 200 * n) 100 (300 + 200 * n) (chain_short n (omega (arith, small))) (receiver_short n (omega (arith, small))) (omega arith)) (sender_short (n + 2) (omega (arith, small))) (omega arith)

asker_short : (n : ℕ) → n < 900 → length (asker n) ≤ 200 + 200 * n
asker_short zero small = omega arith
asker_short (suc n) small =
    around (asker n ++ codes "  for w in Ws {\n    send Ask(") (decimal (n + 1)) (codes ") to w;\n  }\n  repeat Ws {\n    recv Reply(x) from any w in Ws {\n      s := s + x;\n    }\n  }\n") (240 + 200 * n) 150 (200 + 200 * suc n) (both (asker n) (codes "  for w in Ws {\n    send Ask(") (200 + 200 * n) 40 (240 + 200 * n) (asker_short n (omega (arith, small))) (omega arith) (omega arith)) (omega (arith, few_digits (n + 1) (omega (arith, small)))) (omega arith) (omega arith)

members_short : (n : ℕ) → length (members n) ≤ 100 + 100 * n
members_short zero = omega arith
members_short (suc n) = both (members n) (codes "  recv Ask(q) from H;\n  send Reply(q + 1) to H;\n") (100 + 100 * n) 100 (100 + 100 * suc n) (members_short n) (omega arith) (omega arith)

-- the text of a drill is no longer than a source may be
pub drill_short : (n : ℕ) → 0 < n → n ≤ 250 → length (drill n) ≤ 1048576
drill_short n some few =
    let first = both (chain (n - 1)) (receiver (n - 1)) 60000 100 60100 (omega (arith, chain_short (n - 1) (omega (arith, few)), few)) (receiver_short (n - 1) (omega (arith, few))) (omega arith) in
    let second = both (chain (n - 1) ++ receiver (n - 1)) (codes "}\n") 60100 10 60110 first (omega arith) (omega arith) in
    let third = both (chain (n - 1) ++ receiver (n - 1) ++ codes "}\n") (asker n) 60110 60000 120110 second (omega (arith, asker_short n (omega (arith, few)), few)) (omega arith) in
    let fourth = both (chain (n - 1) ++ receiver (n - 1) ++ codes "}\n" ++ asker n) (codes "}\n") 120110 10 120120 third (omega arith) (omega arith) in
    let fifth = both (chain (n - 1) ++ receiver (n - 1) ++ codes "}\n" ++ asker n ++ codes "}\n") (members n) 120120 60000 180120 fourth (omega (arith, members_short n, few)) (omega arith) in
    both (chain (n - 1) ++ receiver (n - 1) ++ codes "}\n" ++ asker n ++ codes "}\n" ++ members n) (codes "}\n") 180120 10 1048576 fifth (omega arith) (omega arith)
