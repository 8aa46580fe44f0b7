-- The search at the top of a star: its states, and to what its rounds come.
use Rattle.std.specs.Prelude.{◌≡◌, ◌≢◌, ◌⊎◌, ℕ, ◌+◌, ◌≤◌, true, false, List, [], ◌∷◌, ◌++◌, length, Some, None, Ok, Err}
use Rattle.std.specs.List.{AllByRecursion}
use Rattle.brisk_values.specs.Names.{Name, single}
use Rattle.brisk_syntax.specs.declared.program.Program.{Program}
use Rattle.brisk_syntax.specs.Depths.{code_depth}
use Rattle.brisk_syntax.specs.Syntax.{Code, For, RecvAny, Repeat, done, ◌⨾◌}
use Rattle.brisk_seq.specs.Items.{Items}
use Rattle.brisk_async.specs.Laws.{AnyReceive}
use Rattle.brisk_state.specs.declared.thread.Thread.{Thread}
use Rattle.brisk_state.specs.Symbolic.{Symbolic, is_in_use, numbers_at}
use Rattle.brisk_straight.proofs.States.{left_in}
use Rattle.brisk_derivation.specs.declared.steps.Fact.{Fact}
use Rattle.brisk_derivation.specs.Steps.{Step}
use Rattle.brisk_rules.specs.Following.{Follow}
use Rattle.brisk_rules.specs.declared.why.Why.{Why}
use Rattle.brisk_rules.specs.Rules.{Entered, close}
use Rattle.brisk_rules.specs.Standing.{has_code, is_movable}
use Rattle.brisk_rules.proofs.Readings.{has}
use Rattle.brisk_sound.proofs.Strict.{IsStrict}
use Rattle.brisk_search.specs.Turns.{Failures, Goes, Turn}
use Rattle.brisk_search.specs.Drives.{Reached, Way, premise_of}
use Rattle.brisk_search.specs.Passes.{driver}
use Rattle.brisk_search.specs.Tries.{Rule, at_risk, for_rule, gather_rule, nine_tries}
use Rattle.brisk_search.proofs.Heads.{IsRule}
use Rattle.brisk_search.proofs.Lost.{Fit}
use Rattle.brisk_answered.proofs.Sides.{own_sides}
use Rattle.brisk_stars.specs.Runs.{IsUnserved}
use Rattle.brisk_stars.specs.Searching.{IsAlone, IsRoomy}
use Rattle.brisk_stars.specs.Serving.{Served, Word, serve}
use Rattle.brisk_stars.specs.Threads.{IsStarThreads, at_in, members_by, served_at}
use Rattle.brisk_stars.specs.Tops.{one_turn}
use Rattle.brisk_stars.specs.Words.{words}

-- the last try of a rule, without the facts at risk, is closed where its premise is driven to its goal
abbrev pub LastTriesClose : Type 0
LastTriesClose =
    (P : Program) (F : Follow) (S : Symbolic) (rule : Rule) (r : Entered) (w : Way) (why : Why) → IsRule P F S rule → Fit P S → rule.enter (at_risk P S) ≡ Ok r →
    driver P own_sides 255 (rule.follows r) (premise_of r) r.start None ≡ Reached w None → close r w.end ≡ Err why → ⊥

-- few boxes are in use, few statements are left, and no code nests deep
pub record IsSmall (S : Symbolic) : Type 0 where
  pub used : List ℕ
  pub uses : (m : ℕ) → is_in_use S.pending m ≡ true → has m used ≡ true
  pub few : length used + left_in S.threads ≤ 20000
  pub shallow : AllByRecursion (λ (u : Thread). code_depth u.code ≤ 64) S.threads

-- A state at the top of a star: no set is in focus, facts stand in order and codes touch what is declared, and all is small.
pub record IsAtTop (P : Program) (sizes : Name → ℕ) (M : Name) (S : Symbolic) : Type 0 where
  pub threads : IsStarThreads sizes M S
  pub alone : IsAlone M S
  pub fit : Fit P S
  pub small : IsSmall S

-- the centre stands at a loop over a set, with this code behind it, and this is the loop's rule
pub data IsLoopAt (M : Name) (F : Follow) (S : Symbolic) (rest : Code) : Rule → Type 0 where
  at_for : (v s : Name) (b : Code) → at_in S M ≡ For v s 0 b ⨾ rest → IsLoopAt M F S rest (for_rule F S M s (M ∷ []))
  at_gather : (c : Name) (xs : List Name) (v s : Name) (b : Code) → at_in S M ≡ Repeat s 0 (RecvAny c xs v s b ⨾ done) ⨾ rest → IsLoopAt M F S rest (gather_rule F S M)

-- in the premises of the centre's loops there is room
abbrev pub PremisesAreRoomy : Type 0
PremisesAreRoomy =
    (P : Program) (F : Follow) (sizes : Name → ℕ) (M : Name) (S : Symbolic) (rest : Code) (rule : Rule) (drops : List Fact) (r : Entered) → IsAtTop P sizes M S → IsLoopAt M F S rest rule →
    rule.enter drops ≡ Ok r → IsRoomy r.start

-- The turn goes to a state at the top, where the centre stands at this code. On the way the centre says words, and whatever is said after
-- them comes to what it comes to from there.
pub record GoesOnAtTop (P : Program) (sizes : Name → ℕ) (M : Name) (S : Symbolic) (rest : Code) (turn : Turn) : Type 0 where
  pub step : Step
  pub items : Items
  pub next : Symbolic
  pub is : turn ≡ Goes step items next None
  pub top : IsAtTop P sizes M next
  pub stands : at_in next M ≡ rest
  pub said : List Word
  pub says : words sizes (at_in S M) ≡ said ++ words sizes rest
  pub keeps : (more : List Word) → serve (said ++ more) (members_by M (at_in S) (numbers_at S.pending)) ≡ serve more (members_by M (at_in next) (numbers_at next.pending))

-- a word of the centre's is left unsaid; or the centre is at a gather, the words of its turn are said, and then a message is left over
pub data LeavesSome (sizes : Name → ℕ) (M : Name) (S : Symbolic) : Type 0 where
  leaves_unsaid : (served_at sizes M S).left ≢ [] → LeavesSome sizes M S
  leaves_over : (a : AnyReceive) (turn : Served) → at_in S M ≡ Repeat a.set 0 (RecvAny a.channel a.variables a.binder a.set a.body ⨾ done) ⨾ a.rest →
      serve (one_turn a) (members_by M (at_in S) (numbers_at S.pending)) ≡ turn → turn.left ≡ [] → (turn.members (single a.set)).up a.channel ≢ 0 → LeavesSome sizes M S

-- so the centre's loop goes on at the top, unless something is left
abbrev pub LoopsGoOrLeave : Type 0
LoopsGoOrLeave =
    (P : Program) → IsStrict P → (F : Follow) (sizes : Name → ℕ) (M : Name) (S : Symbolic) (rest : Code) (rule : Rule) (failures : Failures) → IsAtTop P sizes M S → IsLoopAt M F S rest rule →
    GoesOnAtTop P sizes M S rest (nine_tries P (Some (driver P own_sides 255)) S rule failures None) ⊎ LeavesSome sizes M S

-- The turn goes to a state at the top, where the centre is still at its end, and to the same serving.
pub record SetGoes (P : Program) (sizes : Name → ℕ) (M : Name) (S : Symbolic) (turn : Turn) : Type 0 where
  pub step : Step
  pub items : Items
  pub next : Symbolic
  pub is : turn ≡ Goes step items next None
  pub top : IsAtTop P sizes M next
  pub ended : at_in next M ≡ done
  pub served : served_at sizes M next ≡ served_at sizes M S

-- where the centre is at its end, a set with code goes by a `for` without owners, or its member is left with something to say
abbrev pub SetsGoOrLeave : Type 0
SetsGoOrLeave =
    (P : Program) → IsStrict P → (F : Follow) (sizes : Name → ℕ) (M s : Name) (S : Symbolic) (failures : Failures) → IsAtTop P sizes M S → at_in S M ≡ done → is_movable S s ≡ false → has_code S s ≡ true →
    SetGoes P sizes M S (nine_tries P (Some (driver P own_sides 255)) S (for_rule F S s s []) failures None) ⊎ IsUnserved (served_at sizes M S)
