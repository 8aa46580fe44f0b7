-- A thread goes through local code whatever is known.
use Rattle.std.proofs.Common.{◌≡◌, ℕ, ◌+◌, ◌<◌, ◌≤◌, Bool, true, false, List, [], ◌∷◌, Some, None, refl, sym, ap, ◌∙◌, arith, nat_eq}
use Rattle.std.specs.Prelude.{if◌then◌else◌, ◌&&◌, Result, Ok}
use Rattle.std.proofs.lemmas.Bool.{lt-ltb}
use lib.Pointwise.{pointwise}
use Rattle.brisk_values.specs.Names.{Name, same_name}
use Rattle.brisk_values.proofs.Changes.{both_true, name_laws}
use Rattle.brisk_syntax.specs.declared.program.Program.{Program}
use Rattle.brisk_syntax.specs.Classes.{is_local, all_local}
use Rattle.brisk_syntax.specs.Depths.{code_depth, statement_depth}
use Rattle.brisk_syntax.specs.Syntax.{Expression, Statement, Assign, If, IfElse, Code, done, ◌⨾◌, ◌then◌}
use Rattle.brisk_syntax.specs.Typing.{are_distinct}
use Rattle.brisk_seq.specs.Items.{Item, Items, nothing, ◌⨟◌, ◌followed_by◌}
use Rattle.brisk_seq.specs.Items as item
use Rattle.brisk_facts.specs.Facts.{common, with_value}
use Rattle.brisk_facts.specs.Learning.{folded}
use Rattle.brisk_state.specs.declared.thread.Thread.{Thread}
use Rattle.brisk_state.specs.Symbolic.{Symbolic, Key, Pending, same_key, active_code, thread_named, code_at, with_code, same_thread, same_pending}
use Rattle.brisk_state.proofs.Threads.{thread_itself}
use Rattle.brisk_basic.specs.Basic.{assign, at_thread}
use Rattle.brisk_basic.specs.declared.rule.RuleFault.{RuleFault}
use Rattle.brisk_basic.specs.Outcomes.{when, and_then, told_as}
use Rattle.brisk_derivation.specs.declared.fault.SideFault.TheVariants.{BranchesDiffer}
use Rattle.brisk_derivation.specs.Steps.{Step, Branch, Steps, no_steps, ◌▷◌}
use Rattle.brisk_rules.specs.declared.why.Why.TheVariants.{Rule, Side}
use Rattle.brisk_rules.specs.Derives.{Derived, Failure, Premise, told_at, items_in, by_branch, derive, derive_all}
use Rattle.brisk_rules.specs.Following.{Follow}
use Rattle.brisk_rules.specs.Heads.{fork_of, Fork}
use Rattle.brisk_rules.specs.Rules.{Outcome, fault_or, Parted, around_sides, wanted, side, enter_branch, join}
use Rattle.brisk_rules.proofs.Threads.{names, names_with_code}
use Rattle.brisk_straight.specs.Local.{AreApart, local_step, local_steps, Moves, LocalCodeIsPassed}
use Rattle.brisk_straight.proofs.Places.{own_code, stands_after}

-- a later change of a thread's code hides an earlier one
pub code_twice : (t : Name) (c k : Code) (ts : List Thread) → with_code t k (with_code t c ts) ≡ with_code t k ts
code_twice t c k [] = refl
code_twice t c k (u ∷ us) = λ i. one i ∷ code_twice t c k us i
  where
    one : (if same_name t (if same_name t u.name then record u { code = c } else u).name then record (if same_name t u.name then record u { code = c } else u) { code = k } else (if same_name t u.name then record u { code = c } else u))
        ≡ (if same_name t u.name then record u { code = k } else u)
    one = elim (same_name t u.name) as (λ b. same_name t u.name ≡ b → (if same_name t (if b then record u { code = c } else u).name then record (if b then record u { code = c } else u) { code = k } else (if b then record u { code = c } else u)) ≡ (if b then record u { code = k } else u)) [
      | true ↦ λ e. ap (λ b. if b then record u { code = k } else record u { code = c }) e
      | false ↦ λ e. ap (λ b. if b then record u { code = k } else u) e
    ] refl

-- to move twice is to move to where the second one leads
pub moves_then : (S E F : Symbolic) (t : Name) (c k : Code) → Moves S t c E → Moves E t k F → Moves S t k F
moves_then S E F t c k a b = record {
  threads = b.threads ∙ ap (with_code t k) a.threads ∙ code_twice t c k S.threads;
  pending = b.pending ∙ a.pending;
}

-- the same state is the same
number_itself : (n : ℕ) → nat_eq n n ≡ true
number_itself n = grind arith

numbers_itself : (ns : List ℕ) → pointwise nat_eq ns ns ≡ true
numbers_itself [] = refl
numbers_itself (n ∷ ns) = λ i. number_itself n i && numbers_itself ns i

key_itself : (k : Key) → same_key k k ≡ true
key_itself k = λ i. name_laws.refl k.from i && name_laws.refl k.to i && name_laws.refl k.channel i

pub pending_itself : (p : Pending) → same_pending p p ≡ true
pending_itself [] = refl
pending_itself (e ∷ es) = λ i. (key_itself e.0 i && numbers_itself e.1 i) && pending_itself es i

pub threads_itself : (ts : List Thread) → pointwise same_thread ts ts ≡ true
threads_itself [] = refl
threads_itself (t ∷ ts) = λ i. thread_itself t i && threads_itself ts i

-- two states with the same threads and pending join
pub joins_same : (E F : Symbolic) → E.threads ≡ F.threads → E.pending ≡ F.pending → join E F ≡ Ok record E { facts = common E.facts F.facts }
joins_same E F threads pending =
    ap (λ b. when b (Side BranchesDiffer) (Ok record E { facts = common E.facts F.facts }))
    (λ i. both ((λ j. pointwise same_thread E.threads (sym threads j)) ∙ threads_itself E.threads) ((λ j. same_pending E.pending (sym pending j)) ∙ pending_itself E.pending) i)
  where
    both : {a b : Bool} → a ≡ true → b ≡ true → (a && b) ≡ true
    both h k = λ i. h i && k i

-- a thread at an if enters a branch there
pub branch_entered : (S : Symbolic) (t : Name) (c : Code) (f : Fork) → code_at S t ≡ Some c → fork_of c ≡ Some f →
    enter_branch S t ≡ Ok record { first = side S t f.guard true f.first; second = side S t f.guard false f.second; owner = t; guard = f.guard }
branch_entered S t c f here head = ap parts (ap (λ o. at_thread o (λ code. wanted (fork_of code))) here ∙ ap wanted head)
  where
    parts : Result Fork RuleFault → Outcome Parted
    parts x = and_then (told_as Rule x) (λ (f : Fork). Ok record { first = side S t f.guard true f.first; second = side S t f.guard false f.second; owner = t; guard = f.guard })

-- a branch whose sides come to their ends and join
pub branch_derived : (deep line : ℕ) (entry : Outcome Parted) (first second : Premise) (r : Parted) (d e : Derived) (E : Symbolic) → deep < 256 → entry ≡ Ok r →
    first (line + 1) r.first ≡ Ok d → second (d.line + 1) r.second ≡ Ok e → join d.state e.state ≡ Ok E →
    by_branch deep line entry first second ≡ Ok record { items = around_sides r d.items e.items ⨟ nothing; state = E; line = e.line + 1 }
branch_derived deep line entry first second r d e E below enters one two joins = let b = lt-ltb deep 256 below in simp (enters, b, one, two, joins)

-- a step and then the others
pub step_then : (P : Program) (F : Follow) (deep line : ℕ) (A : Step) (rest : Steps) (S : Symbolic) (d e : Derived) → derive P deep F A line S ≡ Ok d → derive_all P deep F rest d.line d.state ≡ Ok e →
    derive_all P deep F (A ▷ rest) line S ≡ Ok record e { items = d.items followed_by e.items }
step_then P F deep line A rest S d e one others = simp (one, others)

-- a thread that stays where it stands
pub in_place : (S : Symbolic) (rest : Code) → {t : Name} → AreApart S → code_at S t ≡ Some rest → Moves S t rest S
in_place S rest {t = t} apart here = record { threads = sym (own_code t rest S.threads apart here); pending = refl }

-- what comes of a thread that goes through local code
pub record Passed (S : Symbolic) (t : Name) (rest : Code) (outcome : Result Derived Failure) : Type 0 where
  pub derived : Derived
  pub derives : outcome ≡ Ok derived
  pub moves : Moves S t rest derived.state

-- the names of threads stay apart
pub apart_after : (S E : Symbolic) (t : Name) (k : Code) → AreApart S → Moves S t k E → AreApart E
apart_after S E t k apart m = ap (λ ts. are_distinct (names ts)) m.threads ∙ ap are_distinct (names_with_code t k S.threads) ∙ apart

-- a side of a branch is S, but for the place of t and the facts
pub side_moves : (S : Symbolic) (t : Name) (e : Expression) (b : Bool) (k : Code) → Moves S t k (side S t e b k)
side_moves S t e b k = record { threads = refl; pending = refl }

module _ (P : Program) (F : Follow) (t : Name) where
  apart_side : (S : Symbolic) (e : Expression) (b : Bool) (k : Code) → AreApart S → AreApart (side S t e b k)
  apart_side S e b k apart = apart_after S (side S t e b k) t k apart (side_moves S t e b k)

  -- a choice whose sides come to the rest
  choice_passed : (deep line : ℕ) (S : Symbolic) (s : Statement) (e : Expression) (m n rest : Code) (A B : Steps) → AreApart S → deep < 256 → code_at S t ≡ Some (s ⨾ rest) →
      fork_of (s ⨾ rest) ≡ Some record { guard = e; first = m; second = n } →
      (x : Passed (side S t e true m) t rest (derive_all P (deep + 1) F A (line + 1) (side S t e true m))) →
      Passed (side S t e false n) t rest (derive_all P (deep + 1) F B (x.derived.line + 1) (side S t e false n)) → Passed S t rest (derive P deep F (Branch t A B) line S)
  choice_passed deep line S s e m n rest A B apart below here fork x y =
      let f : Fork = record { guard = e; first = m; second = n } in
      let enters = branch_entered S t (s ⨾ rest) f here fork in
      let one = moves_then S (side S t e true m) x.derived.state t m rest (side_moves S t e true m) x.moves in
      let two = moves_then S (side S t e false n) y.derived.state t n rest (side_moves S t e false n) y.moves in
      let joins = joins_same x.derived.state y.derived.state (one.threads ∙ sym two.threads) (one.pending ∙ sym two.pending) in
      record {
        derived = record {
          items = item.If t e x.derived.items y.derived.items ⨟ nothing;
          state = record x.derived.state { facts = common x.derived.state.facts y.derived.state.facts };
          line = y.derived.line + 1;
        };
        derives = branch_derived deep line (enter_branch S t) (derive_all P (deep + 1) F A) (derive_all P (deep + 1) F B) _ x.derived y.derived _ below enters x.derives y.derives joins;
        moves = record { threads = one.threads; pending = one.pending };
      }

  mutual
    pub statement_passed : (deep line : ℕ) (S : Symbolic) (s : Statement) (rest : Code) → AreApart S → is_local s ≡ true → deep + statement_depth s ≤ 256 → code_at S t ≡ Some (s ⨾ rest) →
        Passed S t rest (derive P deep F (local_step t s) line S)
    statement_passed deep line S (Assign x e) rest apart l less here = record {
      derived = record {
        items = item.Pass t (x ∷ []) t (e ∷ []) ⨟ nothing;
        state = record S { threads = with_code t rest S.threads; facts = with_value t x (folded S.facts t e) S.facts };
        line = line + 1;
      };
      derives = ap (λ o. and_then (told_at line (and_then (told_as Rule (at_thread o (assign S t))) (fault_or None))) (λ r. Ok record { items = items_in r.statement; state = r.next; line = line + 1 })) here;
      moves = record { threads = refl; pending = refl };
    }
    statement_passed deep line S (If e a) rest apart l less here =
        choice_passed deep line S (If e a) e (a then rest) rest rest (local_steps t a) no_steps apart (omega (arith, less)) here refl
        (code_passed (deep + 1) (line + 1) (side S t e true (a then rest)) a rest (apart_side S e true (a then rest) apart) l (omega (arith, less)) (stands_after S.threads t (If e a ⨾ rest) (a then rest) here))
        record {
          derived = record { items = nothing; state = side S t e false rest; line = _ };
          derives = refl;
          moves = in_place (side S t e false rest) rest (apart_side S e false rest apart) (stands_after S.threads t (If e a ⨾ rest) rest here);
        }
    statement_passed deep line S (IfElse e a b) rest apart l less here =
        let k = both_true (all_local a) (all_local b) l in
        let x = code_passed (deep + 1) (line + 1) (side S t e true (a then rest)) a rest (apart_side S e true (a then rest) apart) k.0 (omega (arith, less)) (stands_after S.threads t (IfElse e a b ⨾ rest) (a then rest) here) in
        choice_passed deep line S (IfElse e a b) e (a then rest) (b then rest) rest (local_steps t a) (local_steps t b) apart (omega (arith, less)) here refl x
        (code_passed (deep + 1) (x.derived.line + 1) (side S t e false (b then rest)) b rest (apart_side S e false (b then rest) apart) k.1 (omega (arith, less)) (stands_after S.threads t (IfElse e a b ⨾ rest) (b then rest) here))
    statement_passed deep line S s rest apart l less here = cc

    pub code_passed : (deep line : ℕ) (S : Symbolic) (a rest : Code) → AreApart S → all_local a ≡ true → deep + code_depth a ≤ 256 → code_at S t ≡ Some (a then rest) →
        Passed S t rest (derive_all P deep F (local_steps t a) line S)
    code_passed deep line S done rest apart l less here = record { derived = record { items = nothing; state = S; line = line }; derives = refl; moves = in_place S rest apart here }
    code_passed deep line S (s ⨾ a) rest apart l less here =
        let k = both_true (is_local s) (all_local a) l in
        let x = statement_passed deep line S s (a then rest) apart k.0 (omega (arith, less)) here in
        let at_a : code_at x.derived.state t ≡ Some (a then rest) = ap (λ ts. active_code (thread_named ts t)) x.moves.threads ∙ stands_after S.threads t ((s ⨾ a) then rest) (a then rest) here in
        let y = code_passed deep x.derived.line x.derived.state a rest (apart_after S x.derived.state t (a then rest) apart x.moves) k.1 (omega (arith, less)) at_a in
        record {
          derived = record y.derived { items = x.derived.items followed_by y.derived.items };
          derives = step_then P F deep line (local_step t s) (local_steps t a) S x.derived y.derived x.derives y.derives;
          moves = let m = moves_then S x.derived.state y.derived.state t (a then rest) rest x.moves y.moves in record { threads = m.threads; pending = m.pending };
        }

pub local_code_is_passed : LocalCodeIsPassed
local_code_is_passed P F deep line S t a rest apart l less here = let x = code_passed P F t deep line S a rest apart l less here in (x.derived, x.derives, x.moves)
