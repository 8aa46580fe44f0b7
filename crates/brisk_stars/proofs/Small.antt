-- At the top of a star there is room, for each premise and after it.
use Rattle.std.proofs.Common.{◌≡◌, ℕ, ◌+◌, ◌≤◌, Bool, true, false, List, [], ◌∷◌, length, Some, refl, sym, ap, ◌∙◌, subst, arith}
use Rattle.std.specs.Prelude.{if◌then◌else◌, Ok}
use Rattle.std.specs.List.{AllByRecursion}
use Rattle.brisk_values.specs.Names.{Name, same_name}
use Rattle.brisk_values.proofs.Changes.{apart_symm, name_laws}
use Rattle.brisk_syntax.specs.Counts.{statements}
use Rattle.brisk_syntax.specs.Depths.{code_depth}
use Rattle.brisk_syntax.specs.Syntax.{Code, done}
use Rattle.brisk_syntax.specs.Typing.{are_distinct}
use Rattle.brisk_state.specs.declared.thread.Mode.{Mode}
use Rattle.brisk_state.specs.declared.thread.Mode.TheVariants.{One, At, Each}
use Rattle.brisk_state.specs.declared.thread.Thread.{Thread}
use Rattle.brisk_state.specs.Symbolic.{Symbolic, active_code, code_at, is_in_use, thread_named, with_code, with_mode}
use Rattle.brisk_rules.specs.Rules.{Entered}
use Rattle.brisk_rules.proofs.Readings.{is_active}
use Rattle.brisk_rules.proofs.Threads.{modes, codes, codes_with_mode, names_with_mode}
use Rattle.brisk_straight.proofs.Places.{stands_at}
use Rattle.brisk_straight.proofs.States.{left_in, left_cons, left_with, thread_at}
use Rattle.brisk_stars.specs.Rounds.{IsSmall}
use Rattle.brisk_stars.specs.Searching.{IsRoomy}
use Rattle.brisk_stars.specs.Threads.{IsCentresLoop, IsStarThreads, at_in}
use Rattle.brisk_stars.proofs.Loops.{other_mode, premises_say_a_turn}
use Rattle.brisk_stars.proofs.Room.{HasRoom, shallow_with}

-- modes change neither how much code is left nor how deep it nests
pub left_moded : (s : Name) (m : Mode) (ts : List Thread) → left_in (with_mode s m ts) ≡ left_in ts
left_moded s m [] = refl
left_moded s m (u ∷ us) =
    left_cons (if same_name s u.name then record u { mode = m } else u) (with_mode s m us)
    ∙ (λ i. statements (code_is (same_name s u.name) i) + left_moded s m us i)
    ∙ sym (left_cons u us)
  where
    code_is : (b : Bool) → (if b then record u { mode = m } else u).code ≡ u.code
    code_is true = refl
    code_is false = refl

pub shallow_moded : (s : Name) (m : Mode) (ts : List Thread) → AllByRecursion (λ (u : Thread). code_depth u.code ≤ 64) ts → AllByRecursion (λ (u : Thread). code_depth u.code ≤ 64) (with_mode s m ts)
shallow_moded s m [] all = tt
shallow_moded s m (u ∷ us) all =
    (elim (same_name s u.name) as (λ b. code_depth (if b then record u { mode = m } else u).code ≤ 64) [ true ↦ all.0 | false ↦ all.0 ], shallow_moded s m us all.1)

less_shallow : (ts : List Thread) → AllByRecursion (λ (u : Thread). code_depth u.code ≤ 64) ts → AllByRecursion (λ (u : Thread). code_depth u.code ≤ 65) ts
less_shallow [] all = tt
less_shallow (u ∷ us) all = ((let d = all.0 in omega (arith, d)), less_shallow us all.1)

-- the centre where modes are others
pub centre_active : (sizes : Name → ℕ) (M s : Name) (E : Symbolic) → IsStarThreads sizes M E → same_name M s ≡ false → (m : Mode) → active_code (thread_named (with_mode s m E.threads) M) ≡ Some (at_in E M)
centre_active sizes M s E st other m =
    let mode : modes (with_mode s m E.threads) M ≡ Some One = other_mode s m E.threads M (apart_symm name_laws M s other) ∙ st.one in
    stands_at (with_mode s m E.threads) M (ap is_active mode) ∙ ap (λ (f : Name → Code). Some (f M)) (codes_with_mode s m E.threads)

-- the centre's code goes, and other code comes
pub left_gone : (sizes : Name → ℕ) (M s : Name) (E : Symbolic) → IsStarThreads sizes M E → same_name M s ≡ false → (m : Mode) (k : Code) →
    left_in (with_code M k (with_mode s m E.threads)) + statements (at_in E M) ≡ left_in E.threads + statements k
left_gone sizes M s E st other m k =
    left_with (with_mode s m E.threads) M (at_in E M) k (ap are_distinct (names_with_mode s m E.threads) ∙ st.apart) (centre_active sizes M s E st other m)
    ∙ ap (λ n. n + statements k) (left_moded s m E.threads)

-- the centre stands where it does
pub centre_here : (sizes : Name → ℕ) (M : Name) (S : Symbolic) → IsStarThreads sizes M S → code_at S M ≡ Some (at_in S M)
centre_here sizes M S st = stands_at S.threads M (ap is_active st.one)

pub centre_shallow : (sizes : Name → ℕ) (M : Name) (S : Symbolic) → IsStarThreads sizes M S → IsSmall S → code_depth (at_in S M) ≤ 64
centre_shallow sizes M S st small =
    let x = thread_at (λ (u : Thread). code_depth u.code ≤ 64) S.threads M (at_in S M) small.shallow (centre_here sizes M S st) in
    subst (λ (k : Code). code_depth k ≤ 64) x.2 x.1

module _ (sizes : Name → ℕ) (M s : Name) (S : Symbolic) (r : Entered) (st : IsStarThreads sizes M S) (l : IsCentresLoop sizes M s S r) (small : IsSmall S) where
  -- how many boxes and statements there are at most in the premise
  abbrev pub in_premise : ℕ
  in_premise = length small.used + left_in r.start.threads

  left_at_start : left_in r.start.threads + statements (at_in S M) ≡ left_in S.threads + statements l.body
  left_at_start = ap (λ ts. left_in ts + statements (at_in S M)) l.threads ∙ left_gone sizes M s S st l.other At l.body

  pub bounded : in_premise ≤ 20000
  bounded = let a = left_at_start in let f = small.few in let b = l.fewer in omega (arith, a, f, b)

  pub premise_room : HasRoom 64 in_premise r.start
  premise_room = record {
    apart = (premises_say_a_turn sizes M s S r st l).0.apart;
    used = small.used;
    uses = λ m u. small.uses m (ap (λ p. is_in_use p m) (sym l.pending) ∙ u);
    few = omega arith;
    shallow = subst (AllByRecursion (λ (u : Thread). code_depth u.code ≤ 64)) (sym l.threads)
        (shallow_with 64 in_premise M l.body (with_mode s At S.threads) (let d = l.shallow in let c = centre_shallow sizes M S st small in omega (arith, d, c)) (shallow_moded s At S.threads small.shallow));
  }

  pub premise_roomy : IsRoomy r.start
  premise_roomy = record {
    used = premise_room.used;
    uses = premise_room.uses;
    few = (let b = bounded in let f = premise_room.few in omega (arith, b, f));
    shallow = less_shallow r.start.threads premise_room.shallow;
  }

  -- and there is room after its close
  pub small_after : (E next : Symbolic) → IsStarThreads sizes M E → HasRoom 64 in_premise E → at_in E M ≡ done → next.threads ≡ with_code M l.rest (with_mode s Each E.threads) → next.pending ≡ E.pending → IsSmall next
  small_after E next st' room ended threads pending = record {
    used = room.used;
    uses = λ m u. room.uses m (ap (λ p. is_in_use p m) (sym pending) ∙ u);
    few =
        let a = left_at_start in
        let b = ap (λ ts. left_in ts + statements (at_in E M)) threads ∙ left_gone sizes M s E st' l.other Each l.rest in
        let c = ap statements ended in
        let d = room.few in
        let e = small.few in
        let f = l.fewer in
        omega (arith, a, b, c, d, e, f);
    shallow = subst (AllByRecursion (λ (u : Thread). code_depth u.code ≤ 64)) (sym threads)
        (shallow_with 64 in_premise M l.rest (with_mode s Each E.threads) (let d = ap code_depth l.behind.1 in let c = centre_shallow sizes M S st small in omega (arith, d, c)) (shallow_moded s Each E.threads room.shallow));
  }
