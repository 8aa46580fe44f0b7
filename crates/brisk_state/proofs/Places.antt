-- The one thread of a name is changed.
use Rattle.std.proofs.Common.{◌≡◌, ℕ, zero, suc, Bool, true, false, List, [], ◌∷◌, Some, None, refl, sym, ap, ◌∙◌}
use Rattle.std.specs.Prelude.{◌||◌, not, if◌then◌else◌, slice_get, slice_set}
use Rattle.std.proofs.lemmas.Option.{same_Some}
use Rattle.brisk_values.specs.Names.{Name, same_name}
use Rattle.brisk_values.proofs.Changes.{both_true, exact_name, name_laws}
use Rattle.brisk_syntax.specs.Typing.{are_distinct, is_among}
use Rattle.brisk_syntax.specs.Syntax.{Code}
use Rattle.brisk_state.specs.declared.thread.Mode.{Mode}
use Rattle.brisk_state.specs.declared.thread.Thread.{Thread}
use Rattle.brisk_state.specs.Places.{names}
use Rattle.brisk_state.specs.Symbolic.{thread_named, with_code, with_mode, with_thread}
use Rattle.std.proofs.lemmas.Bool.{not-true, or_right}

head_apart : (t : Thread) (ts : List Thread) → are_distinct (names (t ∷ ts)) ≡ true → is_among (names ts) t.name ≡ false
head_apart t ts d = not-true _ (both_true (not (is_among (names ts) t.name)) (are_distinct (names ts)) d).0

tail_apart : (t : Thread) (ts : List Thread) → are_distinct (names (t ∷ ts)) ≡ true → are_distinct (names ts) ≡ true
tail_apart t ts d = (both_true (not (is_among (names ts) t.name)) (are_distinct (names ts)) d).1

-- a thread's name is among the names
among_at : (ts : List Thread) (i : ℕ) (u : Thread) → slice_get ts i ≡ Some u → is_among (names ts) u.name ≡ true
among_at [] i u h = cc
among_at (t ∷ ts) zero u h =
    ap (λ (v : Thread). same_name u.name v.name || is_among (names ts) u.name) (same_Some t u h)
    ∙ ap (λ b. b || is_among (names ts) u.name) (name_laws.refl u.name)
among_at (t ∷ ts) (suc i) u h = or_right (same_name u.name t.name) (is_among (names ts) u.name) (among_at ts i u h)

module _ (n : Name) (change : Thread → Thread) where
  none_changed : (ts : List Thread) → is_among (names ts) n ≡ false → with_thread n change ts ≡ ts
  none_changed [] h = refl
  none_changed (t ∷ ts) h =
      elim (same_name n t.name) as (λ b. (b || is_among (names ts) n) ≡ false → (if b then change t else t) ∷ with_thread n change ts ≡ t ∷ ts) [
        | true ↦ λ g. cc
        | false ↦ λ g. ap (λ us. t ∷ us) (none_changed ts g)
      ] h

  pub none_there : (ts : List Thread) → thread_named ts n ≡ None → with_thread n change ts ≡ ts
  none_there [] h = refl
  none_there (t ∷ ts) h =
      elim (same_name n t.name) as (λ b. (if b then Some t else thread_named ts n) ≡ None → (if b then change t else t) ∷ with_thread n change ts ≡ t ∷ ts) [
        | true ↦ λ g. cc
        | false ↦ λ g. ap (λ us. t ∷ us) (none_there ts g)
      ] h

  -- where the names differ, the change of the threads of a name is that of one thread
  pub with_at : (ts : List Thread) → are_distinct (names ts) ≡ true → (i : ℕ) (u : Thread) → slice_get ts i ≡ Some u → same_name n u.name ≡ true →
      slice_set ts i (change u) ≡ with_thread n change ts
  with_at [] d i u h e = cc
  with_at (t ∷ ts) d zero u h e =
      let same = same_Some t u h in
      let here : same_name n t.name ≡ true = ap (λ (v : Thread). same_name n v.name) same ∙ e in
      let none : is_among (names ts) n ≡ false = ap (is_among (names ts)) (exact_name n t.name here) ∙ head_apart t ts d in
      (λ j. (change (sym same j)) ∷ sym (none_changed ts none) j)
      ∙ ap (λ b. (if b then change t else t) ∷ with_thread n change ts) (sym here)
  with_at (t ∷ ts) d (suc i) u h e =
      elim (same_name n t.name) as (λ b. same_name n t.name ≡ b → t ∷ slice_set ts i (change u) ≡ (if b then change t else t) ∷ with_thread n change ts) [
        | true ↦ λ g.
            let first = head_apart t ts d in
            let later = among_at ts i u h in
            let same : t.name ≡ u.name = sym (exact_name n t.name g) ∙ exact_name n u.name e in
            let both : true ≡ false = sym later ∙ ap (is_among (names ts)) (sym same) ∙ first in
            cc
        | false ↦ λ g. ap (λ us. t ∷ us) (with_at ts (tail_apart t ts d) i u h e)
      ] refl

  -- a change that leaves names leaves the list of names
  pub names_stay : ((u : Thread) → (change u).name ≡ u.name) → (ts : List Thread) → names (with_thread n change ts) ≡ names ts
  names_stay keeps [] = refl
  names_stay keeps (t ∷ ts) = λ i. one (same_name n t.name) i ∷ names_stay keeps ts i
    where
      one : (b : Bool) → (if b then change t else t).name ≡ t.name
      one true = keeps t
      one false = refl

-- names that differ still do after a change of a mode
pub modes_differ : (n : Name) (mode : Mode) (old ts : List Thread) → ts ≡ with_mode n mode old → are_distinct (names old) ≡ true → are_distinct (names ts) ≡ true
modes_differ n mode old ts e d = ap (λ us. are_distinct (names us)) e ∙ ap are_distinct (names_stay n (λ u. record u { mode = mode }) (λ u. refl) old) ∙ d

-- the same after a change of a code
pub codes_differ : (n : Name) (code : Code) (old ts : List Thread) → ts ≡ with_code n code old → are_distinct (names old) ≡ true → are_distinct (names ts) ≡ true
codes_differ n code old ts e d = ap (λ us. are_distinct (names us)) e ∙ ap are_distinct (names_stay n (λ u. record u { code = code }) (λ u. refl) old) ∙ d

-- where the names differ, the thread at a place is the first one of its name
pub named_at : (ts : List Thread) → are_distinct (names ts) ≡ true → (n : Name) (i : ℕ) (u : Thread) → slice_get ts i ≡ Some u → same_name n u.name ≡ true →
    thread_named ts n ≡ Some u
named_at [] d n i u h e = cc
named_at (t ∷ ts) d n zero u h e = ap (λ b. if b then Some t else thread_named ts n) (ap (λ (v : Thread). same_name n v.name) (same_Some t u h) ∙ e) ∙ h
named_at (t ∷ ts) d n (suc i) u h e =
    elim (same_name n t.name) as (λ b. same_name n t.name ≡ b → (if b then Some t else thread_named ts n) ≡ Some u) [
      | true ↦ λ g.
          let first = head_apart t ts d in
          let later = among_at ts i u h in
          let same : t.name ≡ u.name = sym (exact_name n t.name g) ∙ exact_name n u.name e in
          let both : true ≡ false = sym later ∙ ap (is_among (names ts)) (sym same) ∙ first in
          cc
      | false ↦ λ g. named_at ts (tail_apart t ts d) n i u h e
    ] refl
