-- How many rounds a drive has where rules aren't counted: one more than statements are left.
use Rattle.std.proofs.Common.{◌≡◌, suc, Bool, true, false, List, [], ◌∷◌, Some, None, refl, ap, ◌∙◌, arith}
use Rattle.std.specs.Prelude.{◌||◌, not, if◌then◌else◌, sum_by}
use Rattle.std.specs.List.{AllByRecursion}
use Rattle.std.proofs.lemmas.List.Sums.{sum_by-cons}
use Rattle.brisk_values.specs.Names.{Name, same_name}
use Rattle.brisk_values.proofs.Changes.{apart_symm, both_true, name_laws, neither}
use Rattle.brisk_syntax.specs.Counts.{statements}
use Rattle.brisk_syntax.specs.Typing.{is_among, are_distinct}
use Rattle.brisk_state.specs.declared.thread.Thread.{Thread}
use Rattle.brisk_state.specs.Symbolic.{Symbolic, thread_named}
use Rattle.brisk_rules.specs.Rules.{code_in}
use Rattle.brisk_rules.proofs.Threads.{names}
use Rattle.brisk_search.specs.Passes.{enough}
use Rattle.brisk_straight.specs.Local.{AreApart}
use Rattle.brisk_straight.proofs.States.{left_in, left_cons}
use Rattle.std.proofs.lemmas.Bool.{not-true}

-- of threads with different names each is found by its name
abbrev AreFound : List Thread → List Thread → Type 0
AreFound all = AllByRecursion (λ (u : Thread). thread_named all u.name ≡ Some u)

later_found : (u : Thread) (us some : List Thread) → is_among (names some) u.name ≡ false → AreFound us some → AreFound (u ∷ us) some
later_found u us [] apart h = tt
later_found u us (v ∷ vs) apart h =
    let e = neither (same_name u.name v.name) (is_among (names vs) u.name) apart in
    (ap (λ b. if b then Some u else thread_named us v.name) (apart_symm name_laws u.name v.name e.0) ∙ h.0, later_found u us vs e.1 h.1)

are_found : (ts : List Thread) → are_distinct (names ts) ≡ true → AreFound ts ts
are_found [] d = tt
are_found (u ∷ us) d =
    let e = both_true (not (is_among (names us) u.name)) (are_distinct (names us)) d in
    (ap (λ b. if b then Some u else thread_named us u.name) (name_laws.refl u.name), later_found u us us (not-true (is_among (names us) u.name) e.0) (are_found us e.1))

-- so the statements that are left can be counted by names
counted : (all ts : List Thread) → AreFound all ts → sum_by (λ (t : Name). statements (code_in (thread_named all t))) (names ts) ≡ left_in ts
counted all [] h = refl
counted all (u ∷ us) h =
    let a = sum_by-cons (λ (t : Name). statements (code_in (thread_named all t))) u.name (names us) in
    let b = left_cons u us in
    let c : statements (code_in (thread_named all u.name)) ≡ statements u.code = ap (λ o. statements (code_in o)) h.0 in
    let d = counted all us h.1 in
    omega (arith, a, b, c, d)

pub enough_is : (S : Symbolic) → AreApart S → enough None S ≡ suc (left_in S.threads)
enough_is S apart = ap suc (counted S.threads S.threads (are_found S.threads apart))
