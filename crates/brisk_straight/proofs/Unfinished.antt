-- A thread that is told as unfinished has code.
use Rattle.std.proofs.Common.{◌≡◌, ℕ, true, false, List, [], ◌∷◌, Some, None, refl, sym, ap, ◌∙◌}
use Rattle.std.specs.Prelude.{◌||◌, not, if◌then◌else◌, is_none}
use Rattle.std.specs.List.{AllByRecursion}
use Rattle.brisk_values.specs.Names.{Name, same_name}
use Rattle.brisk_values.proofs.Changes.{both_true, exact_name, name_laws}
use Rattle.brisk_syntax.specs.Syntax.{Statement, Code, done, ◌⨾◌}
use Rattle.brisk_syntax.specs.Typing.{is_among, are_distinct}
use Rattle.brisk_state.specs.declared.thread.Thread.{Thread}
use Rattle.brisk_state.specs.Same.{same_code}
use Rattle.brisk_state.specs.Symbolic.{thread_named, active_code}
use Rattle.brisk_state.specs.Symbolic as symbolic
use Rattle.brisk_state.proofs.Threads.{code_itself}
use Rattle.brisk_rules.specs.Derives.{first_unfinished}
use Rattle.brisk_rules.proofs.Threads.{names}
use Rattle.brisk_straight.proofs.States.{IsThread}
use Rattle.std.proofs.lemmas.Bool.{not-true}

module _ (ns : List Name) (depth most : ℕ) where
  in_names : (ts : List Thread) (t : Name) {c : Code} → active_code (thread_named ts t) ≡ Some c → is_among (names ts) t ≡ true
  in_names [] t e = cc
  in_names (u ∷ us) t {c = c} e = elim (same_name t u.name) as (λ b. active_code (if b then Some u else thread_named us t) ≡ Some c → (b || is_among (names us) t) ≡ true) [ true ↦ λ g. refl | false ↦ λ g. in_names us t g ] e

  abbrev pub Unfinished : List Thread → Type 0
  Unfinished ts = (t : Name) × (s : Statement) × (rest : Code) × (active_code (thread_named ts t) ≡ Some (s ⨾ rest))

  has_head : (c : Code) → same_code c done ≡ false → (s : Statement) × (rest : Code) × (c ≡ s ⨾ rest)
  has_head done e = absurd (let same = code_itself done in let both = sym same ∙ e in cc)
  has_head (s ⨾ rest) e = (s, rest, refl)

  pub unfinished_has : (ts : List Thread) → AllByRecursion (IsThread ns depth most) ts → are_distinct (names ts) ≡ true → is_none (first_unfinished ts) ≡ false → Unfinished ts
  unfinished_has [] all d e = cc
  unfinished_has (u ∷ us) all d e =
      let h = both_true (not (is_among (names us) u.name)) (are_distinct (names us)) d in
      elim (same_code u.code done) as (λ b. same_code u.code done ≡ b → is_none (if b then first_unfinished us else Some u.name) ≡ false → Unfinished (u ∷ us)) [
        | true ↦ λ finished g.
            let x = unfinished_has us all.1 h.1 g in (
              x.0,
              x.1,
              x.2,
              elim (same_name x.0 u.name) as (λ b. same_name x.0 u.name ≡ b → active_code (if b then Some u else thread_named us x.0) ≡ Some (x.1 ⨾ x.2)) [
                | true ↦ λ same. absurd (
                    let among = in_names us x.0 x.3 in
                    let none = ap (is_among (names us)) (exact_name x.0 u.name same) ∙ not-true (is_among (names us) u.name) h.0 in
                    let both = sym among ∙ none in cc)
                | false ↦ λ other. x.3
              ] refl,
            )
        | false ↦ λ more g.
            let c = has_head u.code more in (
              u.name,
              c.0,
              c.1,
              ap (λ b. active_code (if b then Some u else thread_named us u.name)) (name_laws.refl u.name)
                  ∙ ap (λ m. if symbolic.is_active m then Some u.code else None) all.0.mode
                  ∙ ap Some c.2,
            )
      ] refl e
