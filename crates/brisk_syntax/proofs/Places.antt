-- Code from a place on, and code of several pieces.
use Rattle.std.proofs.Common.{◌≡◌, ℕ, zero, suc, ◌+◌, ◌-◌, ◌<◌, ◌≤◌, List, [], ◌∷◌, ◌++◌, length, drop, get_or, refl, sym, ap, ◌∙◌, arith, option_map, Some, add-one}
use Rattle.std.specs.Prelude.{slice_get}
use Rattle.brisk_syntax.specs.Syntax.{Code, done, ◌⨾◌, ◌then◌}
use Rattle.brisk_syntax.specs.Statements.{code_of, statement_of}
use Rattle.brisk_syntax.specs.Segments.{head_of, rest_of, code_length, statement_at, code_from_place, backwards}
use Rattle.brisk_syntax.specs.declared.tree.Stmt.{Stmt}
use Rattle.brisk_syntax.proofs.Codes.{then_assoc, then-done}

pub length_code : (xs : List Stmt) → code_length (code_of xs) ≡ length xs
length_code [] = refl
length_code (s ∷ xs) = omega (arith, length_code xs)

pub place_code : (k : ℕ) (xs : List Stmt) → code_from_place k (code_of xs) ≡ code_of (drop k xs)
place_code zero xs = refl
place_code (suc k) [] = refl
place_code (suc k) (s ∷ xs) = place_code k xs

pub head_code : (xs : List Stmt) → option_map statement_of (slice_get xs 0) ≡ head_of (code_of xs)
head_code [] = refl
head_code (s ∷ xs) = refl

pub at_code : (xs : List Stmt) (k : ℕ) (s : Stmt) → k < length xs → s ≡ get_or xs k s → Some (statement_of s) ≡ statement_at (code_of xs) k
at_code [] k s h e = absurd (omega arith)
at_code (x ∷ xs) zero s h e = ap (λ (z : Stmt). Some (statement_of z)) e
at_code (x ∷ xs) (suc k) s h e = at_code xs k s (omega arith) e

pub rest_place : (k : ℕ) (c : Code) → rest_of (code_from_place k c) ≡ code_from_place (k + 1) c
rest_place k c = rest_place_suc k c ∙ ap (λ n. code_from_place n c) (sym (add-one k))
  where
    rest_place_suc : (k : ℕ) (c : Code) → rest_of (code_from_place k c) ≡ code_from_place (suc k) c
    rest_place_suc zero done = refl
    rest_place_suc zero (s ⨾ c) = refl
    rest_place_suc (suc k) done = refl
    rest_place_suc (suc k) (s ⨾ c) = rest_place_suc k c

pub place_past : (k : ℕ) (c : Code) → code_length c ≤ k → code_from_place k c ≡ done
place_past zero done h = refl
place_past zero (s ⨾ c) h = absurd (omega arith)
place_past (suc k) done h = refl
place_past (suc k) (s ⨾ c) h = place_past k c (omega arith)

pub head-then : (c d : Code) → 0 < code_length c → head_of (c then d) ≡ head_of c
head-then done d h = absurd (omega arith)
head-then (s ⨾ c) d h = refl

pub rest-then : (c d : Code) → 0 < code_length c → rest_of (c then d) ≡ rest_of c then d
rest-then done d h = absurd (omega arith)
rest-then (s ⨾ c) d h = refl

pub at-then_front : (c d : Code) (k : ℕ) → k < code_length c → statement_at (c then d) k ≡ statement_at c k
at-then_front done d k h = absurd (omega arith)
at-then_front (s ⨾ c) d zero h = refl
at-then_front (s ⨾ c) d (suc k) h = at-then_front c d k (omega arith)

pub at-then_behind : (c d : Code) (k n : ℕ) → code_length c + n ≡ k → statement_at (c then d) k ≡ statement_at d n
at-then_behind done d k n h = ap (statement_at d) (omega arith)
at-then_behind (s ⨾ c) d zero n h = absurd (omega arith)
at-then_behind (s ⨾ c) d (suc k) n h = at-then_behind c d k n (omega arith)

pub backwards-append : (xs ys : List Code) → backwards (xs ++ ys) ≡ backwards ys then backwards xs
backwards-append [] ys = sym (then-done (backwards ys))
backwards-append (c ∷ xs) ys = ap (λ d. d then c) (backwards-append xs ys) ∙ then_assoc (backwards ys) (backwards xs) c

pub place_length : (k : ℕ) (c : Code) → code_length (code_from_place k c) ≡ code_length c - k
place_length zero c = omega arith
place_length (suc k) done = omega arith
place_length (suc k) (s ⨾ c) = place_length k c ∙ omega arith

-- a place in code is one in the list of its statements
pub place_within : (xs : List Stmt) (c : Code) (k : ℕ) → code_of xs ≡ c → k < code_length c → k < length xs
place_within xs c k e h = omega (arith, length_code xs, ap code_length e)

pub within_place : (xs : List Stmt) (c : Code) (k : ℕ) → code_of xs ≡ c → k < length xs → k < code_length c
within_place xs c k e h = omega (arith, length_code xs, ap code_length e)

-- one more code at the end of a list stands in front
pub backwards_push : (cs : List Code) (c : Code) → backwards (cs ++ c ∷ []) ≡ c then backwards cs
backwards_push cs c = backwards-append cs (c ∷ [])

pub head_backwards : (cs : List Code) (c : Code) → 0 < code_length c → head_of (backwards (cs ++ c ∷ [])) ≡ head_of c
head_backwards cs c h = ap head_of (backwards_push cs c) ∙ head-then c (backwards cs) h

pub rest_backwards : (cs : List Code) (c : Code) → 0 < code_length c → rest_of (backwards (cs ++ c ∷ [])) ≡ rest_of c then backwards cs
rest_backwards cs c h = ap rest_of (backwards_push cs c) ∙ rest-then c (backwards cs) h

-- where nothing is left of one body, the next statement is the first of the segment behind it
pub next_whole : (ahead : List Stmt) (all behind : List Code) (segment : Code) (statements : List Stmt) (s : Stmt) (more : List Stmt) (whole : Code) →
    ahead ≡ [] → all ≡ behind ++ segment ∷ [] → code_of statements ≡ segment → statements ≡ s ∷ more → code_of ahead then backwards all ≡ whole →
    statement_of s ⨾ (code_of more then backwards behind) ≡ whole
next_whole ahead all behind segment statements s more whole none parts is split e =
    ap (λ d. d then backwards behind) (ap code_of (sym split) ∙ is) ∙ sym (backwards_push behind segment) ∙ ap backwards (sym parts)
    ∙ ap (λ xs. code_of xs then backwards all) (sym none) ∙ e
