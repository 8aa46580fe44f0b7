-- Where a thread stands, as it is looked up and as it is read.
use Rattle.std.proofs.Common.{◌≡◌, Bool, true, false, List, [], ◌∷◌, Option, Some, None, refl, sym, ap, ◌∙◌}
use Rattle.std.specs.Prelude.{if◌then◌else◌, ◌||◌, not}
use Rattle.brisk_values.specs.Names.{Name, same_name}
use Rattle.brisk_values.proofs.Changes.{both_true, exact_name, name_laws, neither}
use Rattle.brisk_syntax.specs.Syntax.{Code}
use Rattle.brisk_syntax.specs.Typing.{is_among, are_distinct}
use Rattle.brisk_state.specs.declared.thread.Thread.{Thread}
use Rattle.brisk_state.specs.Symbolic.{thread_named, with_code, active_code}
use Rattle.brisk_state.specs.Symbolic as symbolic
use Rattle.brisk_rules.specs.Rules.{mode_of, code_in}
use Rattle.brisk_rules.proofs.Readings.{is_active}
use Rattle.brisk_rules.proofs.Threads.{names, modes, codes, modes_with_code, codes_with_code, moved}
use Rattle.std.proofs.lemmas.Bool.{not-true}

-- a thread that rules move stands at its code
pub stands_at : (ts : List Thread) (t : Name) → is_active (modes ts t) ≡ true → active_code (thread_named ts t) ≡ Some (codes ts t)
stands_at ts t a = by (thread_named ts t) a
  where
    by : (o : Option Thread) → is_active (mode_of o) ≡ true → active_code o ≡ Some (code_in o)
    by None a = cc
    by (Some u) a = ap (λ b. if b then Some u.code else None) a

-- after its code was changed it stands there
pub stands_after : (ts : List Thread) (t : Name) (c k : Code) → active_code (thread_named ts t) ≡ Some c → active_code (thread_named (with_code t k ts) t) ≡ Some k
stands_after ts t c k e =
    let m = moved ts t c e in
    stands_at (with_code t k ts) t (ap (λ f. is_active (f t)) (modes_with_code t k ts) ∙ m.active)
    ∙ ap Some (ap (λ f. f t) (codes_with_code t k ts m.mode m.there) ∙ ap (λ b. if b then k else codes ts t) (name_laws.refl t))

-- where no thread has the name, no code is changed
pub none_changed : (t : Name) (c : Code) (ts : List Thread) → is_among (names ts) t ≡ false → with_code t c ts ≡ ts
none_changed t c [] e = refl
none_changed t c (u ∷ us) e =
    let h = neither (same_name t u.name) (is_among (names us) t) e in
    λ i. ap (λ b. if b then record u { code = c } else u) h.0 i ∷ none_changed t c us h.1 i

-- to put a thread where it stands changes nothing, where names differ
pub own_code : (t : Name) (c : Code) (ts : List Thread) → are_distinct (names ts) ≡ true → active_code (thread_named ts t) ≡ Some c → with_code t c ts ≡ ts
own_code t c [] d e = refl
own_code t c (u ∷ us) d e =
    let h = both_true (not (is_among (names us) u.name)) (are_distinct (names us)) d in
    elim (same_name t u.name) as (λ b. same_name t u.name ≡ b → active_code (if b then Some u else thread_named us t) ≡ Some c → (if b then record u { code = c } else u) ∷ with_code t c us ≡ u ∷ us) [
      | true ↦ λ same here.
          let code : u.code ≡ c = active (symbolic.is_active u.mode) u.code here in
          let others = none_changed t c us (ap (is_among (names us)) (exact_name t u.name same) ∙ not-true (is_among (names us) u.name) h.0) in
          λ i. record { name = u.name; mode = u.mode; code = sym code i } ∷ others i
      | false ↦ λ other there. ap (λ us. u ∷ us) (own_code t c us h.1 there)
    ] refl e
  where
    active : (b : Bool) (k : Code) → (if b then Some k else None) ≡ Some c → k ≡ c
    active true k e = cc
    active false k e = cc
