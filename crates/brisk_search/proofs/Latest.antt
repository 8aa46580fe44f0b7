-- The failures of a round, the latest first, and the last one at a thread's head.
use Rattle.std.proofs.Common.{◌≡◌, ℕ, suc, zero, ◌+◌, ◌<◌, Bool, true, false, Option, Some, None, List, [], ◌∷◌, ◌++◌, drop, take, length, map, refl, sym, ap, ◌∙◌, arith}
use Rattle.std.specs.Prelude.{◌||◌, not, option_map, if◌then◌else◌}
use Rattle.std.proofs.Math.ListN.{get_or}
use Rattle.std.proofs.lemmas.Bool.{not-true}
use Rattle.std.proofs.lemmas.List.{reverse-append}
use Rattle.std.proofs.Math.Bool.{or-true}
use Rattle.brisk_values.specs.Names.{Name, same_name}
use Rattle.brisk_values.proofs.Changes.{both_true, exact_name, name_laws}
use Rattle.brisk_syntax.specs.Typing.{are_distinct, is_among}
use Rattle.brisk_state.specs.declared.thread.Thread.{Thread}
use Rattle.brisk_state.specs.Places.{names}
use Rattle.brisk_derivation.specs.declared.report.Try.{Try as RawTry}
use Rattle.brisk_derivation.specs.Reports.{Try, Tries, no_tries, ◌▹◌}
use Rattle.brisk_derivation.specs.TriesSeen.{tries_of, try_of}
use Rattle.brisk_search.specs.declared.turn.Failed.{Failed}
use Rattle.brisk_search.specs.Passes.{last_tries, last_try, with_try}
use Rattle.brisk_search.specs.Turns.{Failures}
use Rattle.brisk_search.specs.Views.{failed_by, failures_of}
use Rattle.brisk_search.proofs.Threads.{next_of}

-- this, or else that
abbrev pub or_else : Option Try → Option Try → Option Try
or_else None o = o
or_else (Some x) o = Some x

or_none : (o : Option Try) → or_else o None ≡ o
or_none None = refl
or_none (Some x) = refl

or_three : (a b c : Option Try) → or_else (or_else a b) c ≡ or_else a (or_else b c)
or_three None b c = refl
or_three (Some x) b c = refl

-- the try of a failure, where it was made at the thread's head
abbrev pub at_head : Failed → Name → Option Try
at_head f t = if same_name t f.at then Some (try_of f.what) else None

-- the last one at the thread's head, of failures in the order of time
abbrev pub last_in : List Failed → Name → Option Try
last_in [] t = None
last_in (f ∷ fs) t = or_else (last_in fs t) (at_head f t)

last_append : (fs gs : Failures) (t : Name) → last_try (fs ++ gs) t ≡ or_else (last_try fs t) (last_try gs t)
last_append [] gs t = refl
last_append (f ∷ fs) gs t = by (last_append fs gs t) (same_name t f.0)
  where
    by : last_try (fs ++ gs) t ≡ or_else (last_try fs t) (last_try gs t) → (b : Bool) → (if b then Some f.1 else last_try (fs ++ gs) t) ≡ or_else (if b then Some f.1 else last_try fs t) (last_try gs t)
    by more true = refl
    by more false = more

pub last_is : (fs : List Failed) (t : Name) → last_try (failures_of fs) t ≡ last_in fs t
last_is [] t = refl
last_is (f ∷ fs) t =
    ap (λ gs. last_try gs t) (reverse-append (failed_by f ∷ []) (map failed_by fs)) ∙ last_append (failures_of fs) (failed_by f ∷ []) t ∙ ap (λ o. or_else o (at_head f t)) (last_is fs t)

last_in_append : (fs gs : List Failed) (t : Name) → last_in (fs ++ gs) t ≡ or_else (last_in gs t) (last_in fs t)
last_in_append [] gs t = sym (or_none (last_in gs t))
last_in_append (f ∷ fs) gs t = ap (λ o. or_else o (at_head f t)) (last_in_append fs gs t) ∙ or_three (last_in gs t) (last_in fs t) (at_head f t)

more : (k : ℕ) → suc (k + 1) ≡ suc k + 1
more k = omega arith

-- a list around a place
around_place : (fs : List Failed) (k : ℕ) (d : Failed) → k < length fs → fs ≡ take k fs ++ get_or fs k d ∷ drop (k + 1) fs
around_place [] k d h = absurd (omega arith)
around_place (f ∷ fs) zero d h = refl
around_place (f ∷ fs) (suc k) d h = ap (λ gs. f ∷ gs) (around_place fs k d (omega arith)) ∙ ap (λ n. f ∷ (take k fs ++ get_or fs k d ∷ drop n (f ∷ fs))) (more k)

split : (fs : List Failed) (k : ℕ) (f : Failed) (t : Name) → k < length fs → f ≡ get_or fs k f → last_in fs t ≡ or_else (or_else (last_in (drop (k + 1) fs) t) (at_head f t)) (last_in (take k fs) t)
split fs k f t h e = ap (λ gs. last_in gs t) (around_place fs k f h ∙ ap (λ g. take k fs ++ g ∷ drop (k + 1) fs) (sym e)) ∙ last_in_append (take k fs) (f ∷ drop (k + 1) fs) t

pub any_default : (fs : List Failed) (k : ℕ) (d e : Failed) → k < length fs → get_or fs k d ≡ get_or fs k e
any_default [] k d e h = absurd (omega arith)
any_default (f ∷ fs) zero d e h = refl
any_default (f ∷ fs) (suc k) d e h = any_default fs k d e (omega arith)

-- with one more failure in front
pub last_before : (fs : List Failed) (k : ℕ) (d : Failed) (t : Name) → k < length fs → last_in (drop k fs) t ≡ or_else (last_in (drop (k + 1) fs) t) (at_head (get_or fs k d) t)
last_before [] k d t h = absurd (omega arith)
last_before (f ∷ fs) zero d t h = refl
last_before (f ∷ fs) (suc k) d t h = last_before fs k d t (omega arith) ∙ ap (λ n. or_else (last_in (drop n (f ∷ fs)) t) (at_head (get_or fs k d) t)) (more k)

-- a failure at the thread's head, behind which there is none, is the last
pub last_found : (fs : List Failed) (k : ℕ) (f : Failed) (t : Name) → k < length fs → f ≡ get_or fs k f → same_name t f.at ≡ true → last_in (drop (k + 1) fs) t ≡ None → Some (try_of f.what) ≡ last_try (failures_of fs) t
last_found fs k f t h e same none =
    sym (last_is fs t ∙ split fs k f t h e ∙ (λ i. or_else (or_else (none i) (if same i then Some (try_of f.what) else None)) (last_in (take k fs) t)))

-- without it, the last ones at other heads are the same
pub last_elsewhere : (fs : List Failed) (k : ℕ) (f : Failed) (u : Name) → k < length fs → f ≡ get_or fs k f → same_name u f.at ≡ false → last_try (failures_of (take k fs ++ drop (k + 1) fs)) u ≡ last_try (failures_of fs) u
last_elsewhere fs k f u h e other =
    last_is (take k fs ++ drop (k + 1) fs) u ∙ last_in_append (take k fs) (drop (k + 1) fs) u ∙ ap (λ o. or_else o (last_in (take k fs) u)) (sym (or_none (last_in (drop (k + 1) fs) u)))
    ∙ ap (λ b. or_else (or_else (last_in (drop (k + 1) fs) u) (if b then Some (try_of f.what) else None)) (last_in (take k fs) u)) (sym other)
    ∙ sym (last_is fs u ∙ split fs k f u h e)

-- a failure elsewhere doesn't count
pub not_there : (fs : List Failed) (k : ℕ) (f : Failed) (t : Name) → k < length fs → f ≡ get_or fs k f → same_name t f.at ≡ false → last_in (drop (k + 1) fs) t ≡ None → last_in (drop k fs) t ≡ None
not_there fs k f t h e other none =
    last_before fs k f t h ∙ ap (λ (g : Failed). or_else (last_in (drop (k + 1) fs) t) (at_head g t)) (sym e) ∙ (λ i. or_else (none i) (if other i then Some (try_of f.what) else None))

-- ---- the tries that are told

-- these tries, and then those
abbrev pub ahead : List RawTry → Tries → Tries
ahead [] ts = ts
ahead (x ∷ xs) ts = try_of x ▹ ahead xs ts

pub ahead_none : (xs : List RawTry) → ahead xs no_tries ≡ tries_of xs
ahead_none [] = refl
ahead_none (x ∷ xs) = ap (λ ts. try_of x ▹ ts) (ahead_none xs)

pub ahead_one : (xs : List RawTry) (x : RawTry) (ts : Tries) → ahead (xs ++ x ∷ []) ts ≡ ahead xs (try_of x ▹ ts)
ahead_one [] x ts = refl
ahead_one (y ∷ xs) x ts = ap (λ us. try_of y ▹ us) (ahead_one xs x ts)

-- with one more, where there is one
abbrev pub pushed : Option RawTry → List RawTry → List RawTry
pushed None xs = xs
pushed (Some x) xs = xs ++ x ∷ []

-- the failures of the threads that are left are as they were
abbrev pub IsKept : List Failed → List Failed → List Thread → Type 0
IsKept left all ts = (u : Name) → is_among (names ts) u ≡ true → last_try (failures_of left) u ≡ last_try (failures_of all) u

apart : (ns : List Name) (u v : Name) → is_among ns v ≡ true → is_among ns u ≡ false → same_name v u ≡ false
apart ns u v a b = by (same_name v u) refl
  where
    by : (c : Bool) → same_name v u ≡ c → c ≡ false
    by true e = absurd (let k = sym a ∙ ap (is_among ns) (exact_name v u e) ∙ b in cc)
    by false e = refl

distinct_left : (ts : List Thread) (k : ℕ) → are_distinct (names ts) ≡ true → are_distinct (names (drop k ts)) ≡ true
distinct_left [] zero d = d
distinct_left [] (suc k) d = d
distinct_left (t ∷ ts) zero d = d
distinct_left (t ∷ ts) (suc k) d = distinct_left ts k (both_true (not (is_among (names ts) t.name)) (are_distinct (names ts)) d).1

-- one more thread is seen to
module _ (all left : List Failed) (ts : List Thread) (k : ℕ) (t : Thread) (distinct : are_distinct (names ts) ≡ true) (here : k < length ts) (is : t ≡ get_or ts k t) where
  at_here : drop k ts ≡ t ∷ drop (k + 1) ts
  at_here = next_of (λ us. us) ts k t here is

  none_later : is_among (names (drop (k + 1) ts)) t.name ≡ false
  none_later =
      not-true (is_among (names (drop (k + 1) ts)) t.name)
      (both_true (not (is_among (names (drop (k + 1) ts)) t.name)) (are_distinct (names (drop (k + 1) ts))) (ap (λ us. are_distinct (names us)) (sym at_here) ∙ distinct_left ts k distinct)).0

  pub kept_here : IsKept left all (drop k ts) → last_try (failures_of left) t.name ≡ last_try (failures_of all) t.name
  kept_here kept = kept t.name (ap (λ us. is_among (names us) t.name) at_here ∙ ap (λ b. b || is_among (names (drop (k + 1) ts)) t.name) (name_laws.refl t.name))

  pub kept_later : (left' : List Failed) → IsKept left all (drop k ts) → ((u : Name) → same_name u t.name ≡ false → last_try (failures_of left') u ≡ last_try (failures_of left) u) → IsKept left' all (drop (k + 1) ts)
  kept_later left' kept other = λ u a.
      other u (apart (names (drop (k + 1) ts)) t.name u a none_later) ∙ kept u (ap (λ us. is_among (names us) u) at_here ∙ (λ i. same_name u t.name || a i) ∙ or-true (same_name u t.name))

  pub told_here : (xs xs' : List RawTry) (found : Option RawTry) → IsKept left all (drop k ts) → option_map try_of found ≡ last_try (failures_of left) t.name → xs' ≡ pushed found xs →
      ahead xs' (last_tries (failures_of all) (drop (k + 1) ts)) ≡ ahead xs (last_tries (failures_of all) (drop k ts))
  told_here xs xs' found kept e f =
      ap (λ ys. ahead ys (last_tries (failures_of all) (drop (k + 1) ts))) f ∙ by found ∙ ap (λ o. ahead xs (with_try o (last_tries (failures_of all) (drop (k + 1) ts)))) (e ∙ kept_here kept)
      ∙ ap (λ us. ahead xs (last_tries (failures_of all) us)) (sym at_here)
    where
      by : (o : Option RawTry) → ahead (pushed o xs) (last_tries (failures_of all) (drop (k + 1) ts)) ≡ ahead xs (with_try (option_map try_of o) (last_tries (failures_of all) (drop (k + 1) ts)))
      by None = refl
      by (Some x) = ahead_one xs x (last_tries (failures_of all) (drop (k + 1) ts))
