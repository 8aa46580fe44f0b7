-- Symbolic states of straight programs: what stays so under each rule, and what each rule takes.
use Rattle.std.proofs.Common.{◌≡◌, ◌⊎◌, inl, inr, ℕ, ◌+◌, ◌≤◌, max, Bool, true, false, List, [], ◌∷◌, length, Some, None, refl, sym, ap, ◌∙◌, subst, arith, nat_eq}
use Rattle.std.specs.Prelude.{◌||◌, not, if◌then◌else◌, sum_by}
use Rattle.std.specs.List.{AllByRecursion}
use Rattle.std.proofs.lemmas.List.Sums.{sum_by-cons}
use Rattle.brisk_values.specs.Names.{Name, same_name}
use Rattle.brisk_values.proofs.Changes.{both_true, exact_name, both_hold}
use Rattle.brisk_syntax.specs.declared.tree.Who.{Who}
use Rattle.brisk_syntax.specs.declared.tree.Who.TheVariants as who
use Rattle.brisk_syntax.specs.Classes.{every, is_local, all_local, talks_to}
use Rattle.brisk_syntax.specs.Counts.{statements}
use Rattle.brisk_syntax.specs.Depths.{code_depth}
use Rattle.brisk_syntax.specs.Syntax.{Statement, Send, Recv, Code, done, ◌⨾◌, ◌then◌}
use Rattle.brisk_syntax.specs.Typing.{is_among, are_distinct}
use Rattle.brisk_state.specs.declared.thread.Mode.TheVariants.{One}
use Rattle.brisk_state.specs.declared.thread.Thread.{Thread}
use Rattle.brisk_state.specs.Symbolic.{Symbolic, Pending, key, thread_named, with_code, active_code, code_at, is_in_use, numbers_at, stands_for}
use Rattle.brisk_state.specs.Symbolic as symbolic
use Rattle.brisk_rules.proofs.Readings.{has}
use Rattle.brisk_rules.proofs.Threads.{names, names_with_code}
use Rattle.brisk_straight.proofs.Places.{none_changed}
use Rattle.std.proofs.lemmas.Bool.{not-true, or_right}

-- the partner is one of these single roles
abbrev pub one_of : List Name → Who → Bool
one_of ns (who.Name n) = is_among ns n
one_of ns u = false

local_talks : (test : Who → Bool) (s : Statement) → is_local s ≡ true → talks_to test s ≡ true
local_talks test (Send c es u) h = cc
local_talks test (Recv c xs u) h = cc
local_talks test s h = h

every_then : (test : Who → Bool) (a b : Code) → all_local a ≡ true → every (talks_to test) b ≡ true → every (talks_to test) (a then b) ≡ true
every_then test done b h k = k
every_then test (s ⨾ a) b h k =
    let e = both_true (is_local s) (all_local a) h in
    both_hold (talks_to test s) (every (talks_to test) (a then b)) (local_talks test s e.0) (every_then test a b e.1 k)

pub depth_then : (a b : Code) → code_depth (a then b) ≡ max (code_depth a) (code_depth b)
depth_then done b = omega arith
depth_then (s ⨾ a) b = let h = depth_then a b in omega (arith, h)

pub all_local_then : (a b : Code) → all_local a ≡ true → all_local b ≡ true → all_local (a then b) ≡ true
all_local_then done b h k = k
all_local_then (s ⨾ a) b h k = let e = both_true (is_local s) (all_local a) h in both_hold (is_local s) (all_local (a then b)) e.0 (all_local_then a b e.1 k)

-- the statements that are left to threads
abbrev pub left_in : List Thread → ℕ
left_in ts = sum_by (λ (t : Thread). statements t.code) ts

pub left_cons : (u : Thread) (us : List Thread) → left_in (u ∷ us) ≡ statements u.code + left_in us
left_cons u us = sum_by-cons (λ (t : Thread). statements t.code) u us

same_code : (b : Bool) (c k : Code) → (if b then Some k else None) ≡ Some c → k ≡ c
same_code true c k e = cc
same_code false c k e = cc

-- what holds of each thread holds of the one that stands there
pub thread_at : (Q : Thread → Type 0) (ts : List Thread) (t : Name) (c : Code) → AllByRecursion Q ts → active_code (thread_named ts t) ≡ Some c → (u : Thread) × Q u × (u.code ≡ c)
thread_at Q [] t c all e = cc
thread_at Q (u ∷ us) t c all e =
    elim (same_name t u.name) as (λ b. active_code (if b then Some u else thread_named us t) ≡ Some c → (v : Thread) × Q v × (v.code ≡ c)) [
      | true ↦ λ g. (u, all.0, same_code (symbolic.is_active u.mode) c u.code g)
      | false ↦ λ g. thread_at Q us t c all.1 g
    ] e

-- a name among those of threads finds one
pub record Finds (Q : Thread → Type 0) (ts : List Thread) (n : Name) : Type 0 where
  pub thread : Thread
  pub is : thread_named ts n ≡ Some thread
  pub named : same_name n thread.name ≡ true
  pub holds : Q thread

pub thread_found : (Q : Thread → Type 0) (ts : List Thread) (n : Name) → AllByRecursion Q ts → is_among (names ts) n ≡ true → Finds Q ts n
thread_found Q [] n all e = cc
thread_found Q (u ∷ us) n all e =
    elim (same_name n u.name) as (λ b. same_name n u.name ≡ b → (b || is_among (names us) n) ≡ true → Finds Q (u ∷ us) n) [
      | true ↦ λ same g. record { thread = u; is = ap (λ b. if b then Some u else thread_named us n) same; named = same; holds = all.0 }
      | false ↦ λ other g.
          let f = thread_found Q us n all.1 g in
          record { thread = f.thread; is = ap (λ b. if b then Some u else thread_named us n) other ∙ f.is; named = f.named; holds = f.holds }
    ] refl e

-- what is left after a thread's code was changed
pub left_with : (ts : List Thread) (t : Name) (c k : Code) → are_distinct (names ts) ≡ true → active_code (thread_named ts t) ≡ Some c → left_in (with_code t k ts) + statements c ≡ left_in ts + statements k
left_with [] t c k d e = cc
left_with (u ∷ us) t c k d e =
    let h = both_true (not (is_among (names us) u.name)) (are_distinct (names us)) d in
    elim (same_name t u.name) as (λ b. same_name t u.name ≡ b → active_code (if b then Some u else thread_named us t) ≡ Some c →
    left_in ((if b then record u { code = k } else u) ∷ with_code t k us) + statements c ≡ left_in (u ∷ us) + statements k) [
      | true ↦ λ same g.
          let code = ap statements (same_code (symbolic.is_active u.mode) c u.code g) in
          let others = ap left_in (none_changed t k us (ap (is_among (names us)) (exact_name t u.name same) ∙ not-true (is_among (names us) u.name) h.0)) in
          let a = left_cons record u { code = k } (with_code t k us) in let b = left_cons u us in
          omega (arith, a, b, code, others)
      | false ↦ λ other g.
          let more = left_with us t c k h.1 g in
          let a = left_cons u (with_code t k us) in let b = left_cons u us in
          omega (arith, a, b, more)
    ] refl e

-- a thread with another name stays where it stands
pub other_after : (ts : List Thread) (t n : Name) (k : Code) → same_name t n ≡ false → thread_named (with_code t k ts) n ≡ thread_named ts n
other_after [] t n k apart = refl
other_after (u ∷ us) t n k apart =
    elim (same_name n u.name) as (λ b. same_name n u.name ≡ b → thread_named (with_code t k (u ∷ us)) n ≡ (if b then Some u else thread_named us n)) [
      | true ↦ λ same.
          let is_other : same_name t u.name ≡ false = ap (same_name t) (sym (exact_name n u.name same)) ∙ apart in
          ap (λ b. if same_name n (if b then record u { code = k } else u).name then Some (if b then record u { code = k } else u) else thread_named (with_code t k us) n) is_other
          ∙ ap (λ b. if b then Some u else thread_named (with_code t k us) n) same
      | false ↦ λ other. named (same_name t u.name) ∙ ap (λ b. if b then Some (if same_name t u.name then record u { code = k } else u) else thread_named (with_code t k us) n) other ∙ other_after us t n k apart
    ] refl
  where
    named : (b : Bool) → (if same_name n (if b then record u { code = k } else u).name then Some (if b then record u { code = k } else u) else thread_named (with_code t k us) n)
        ≡ (if same_name n u.name then Some (if b then record u { code = k } else u) else thread_named (with_code t k us) n)
    named true = refl
    named false = refl

module _ (ns : List Name) (depth most : ℕ) where
  -- code whose partners are these, nested so deep at most
  pub record IsCode (c : Code) : Type 0 where
    pub straight : every (talks_to (one_of ns)) c ≡ true
    pub shallow : code_depth c ≤ depth

  -- a thread of a straight program
  pub record IsThread (u : Thread) : Type 0 where
    pub mode : u.mode ≡ One
    pub code : IsCode u.code

  -- A state of a straight program: its threads have these different names, and the boxes that pend have numbers of some list;
  -- that list and the statements that are left are few.
  pub record IsStraightly (S : Symbolic) : Type 0 where
    pub named : names S.threads ≡ ns
    pub apart : are_distinct ns ≡ true
    pub threads : AllByRecursion IsThread S.threads
    pub used : List ℕ
    pub uses : (m : ℕ) → is_in_use S.pending m ≡ true → has m used ≡ true
    pub few : length used + left_in S.threads ≤ most

  pub are_apart : (S : Symbolic) → IsStraightly S → are_distinct (names S.threads) ≡ true
  are_apart S s = ap are_distinct s.named ∙ s.apart

  -- a state of fewer statements after another
  pub record Gone (S E : Symbolic) : Type 0 where
    pub straight : IsStraightly E
    pub fewer : left_in E.threads + 1 ≤ left_in S.threads

  pub code_there : (S : Symbolic) (t : Name) (c : Code) → IsStraightly S → code_at S t ≡ Some c → IsCode c
  code_there S t c s e = let x = thread_at IsThread S.threads t c s.threads e in subst IsCode x.2 x.1.code

  pub head_talks : (x : Statement) (rest : Code) → IsCode (x ⨾ rest) → (talks_to (one_of ns) x ≡ true) × IsCode rest
  head_talks x rest c =
      let e = both_true (talks_to (one_of ns) x) (every (talks_to (one_of ns)) rest) c.straight in
      (e.0, record { straight = e.1; shallow = (let h = c.shallow in omega (arith, h)) })

  pub code_then : (a b : Code) → all_local a ≡ true → code_depth a ≤ depth → IsCode b → IsCode (a then b)
  code_then a b l less c = record {
    straight = every_then (one_of ns) a b l c.straight;
    shallow = (let h = c.shallow in let e = depth_then a b in omega (arith, h, e, less));
  }

  threads_with : (t : Name) (k : Code) (ts : List Thread) → IsCode k → AllByRecursion IsThread ts → AllByRecursion IsThread (with_code t k ts)
  threads_with t k [] c all = tt
  threads_with t k (u ∷ us) c all =
      (elim (same_name t u.name) as (λ b. IsThread (if b then record u { code = k } else u)) [ true ↦ record { mode = all.0.mode; code = c } | false ↦ all.0 ], threads_with t k us c all.1)

  -- where one thread goes on
  pub one_gone : (S E : Symbolic) (t : Name) (c k : Code) (n : ℕ) → IsStraightly S → code_at S t ≡ Some c → IsCode k → statements k + 1 ≤ statements c → E.threads ≡ with_code t k S.threads →
      ((m : ℕ) → is_in_use E.pending m ≡ true → (nat_eq m n ≡ true) ⊎ (is_in_use S.pending m ≡ true)) → Gone S E
  one_gone S E t c k n s here code less threads pending =
      let left = left_with S.threads t c k (are_apart S s) here in
      let is : left_in E.threads ≡ left_in (with_code t k S.threads) = ap left_in threads in
      record {
        straight = record {
          named = ap names threads ∙ names_with_code t k S.threads ∙ s.named;
          apart = s.apart;
          threads = subst (AllByRecursion IsThread) (sym threads) (threads_with t k S.threads code s.threads);
          used = n ∷ s.used;
          uses = λ m u. elim (pending m u) [
            | inl x ↦ ap (λ b. b || has m s.used) x
            | inr x ↦ or_right (nat_eq m n) (has m s.used) (s.uses m x)
          ];
          few = (let f = s.few in omega (arith, f, left, is, less));
        };
        fewer = omega (arith, left, is, less);
      }

  -- and the pending messages stay
  pub alone_gone : (S E : Symbolic) (t : Name) (c k : Code) → IsStraightly S → code_at S t ≡ Some c → IsCode k → statements k + 1 ≤ statements c → E.threads ≡ with_code t k S.threads → E.pending ≡ S.pending → Gone S E
  alone_gone S E t c k s here code less threads pending = one_gone S E t c k 0 s here code less threads (λ m u. inr (ap (λ p. is_in_use p m) (sym pending) ∙ u))

  pub gone_then : (S E F : Symbolic) → Gone S E → Gone E F → Gone S F
  gone_then S E F a b = record { straight = b.straight; fewer = (let g = a.fewer in let h = b.fewer in omega (arith, g, h)) }
