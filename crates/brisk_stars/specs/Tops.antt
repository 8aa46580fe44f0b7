-- What the centre does at the top, at a loop over a set.
use Rattle.std.specs.Prelude.{◌≡◌, ◌≢◌, ◌⊎◌, ℕ, List, [], ◌∷◌, Some, None, Ok, Err}
use Rattle.brisk_values.specs.Names.{Name, single}
use Rattle.brisk_syntax.specs.declared.program.Program.{Program}
use Rattle.brisk_syntax.specs.Syntax.{Code, For, RecvAny, Repeat, done, ◌⨾◌}
use Rattle.brisk_seq.specs.Items.{Items}
use Rattle.brisk_state.specs.Symbolic.{Symbolic, numbers_at}
use Rattle.brisk_derivation.specs.declared.steps.Fact.{Fact}
use Rattle.brisk_derivation.specs.Steps.{Step}
use Rattle.brisk_rules.specs.Following.{Follow}
use Rattle.brisk_sound.proofs.Strict.{IsStrict}
use Rattle.brisk_rules.specs.declared.why.Why.{Why}
use Rattle.brisk_rules.specs.Rules.{Entered, close, enter_for, enter_gather}
use Rattle.brisk_search.specs.Turns.{Failures, Goes, Stays, Turn}
use Rattle.brisk_search.specs.Drives.{Reached, Way, premise_of}
use Rattle.brisk_search.specs.Passes.{driver}
use Rattle.brisk_search.specs.Tries.{Rule, at_risk, for_rule, gather_rule, nine_tries}
use Rattle.brisk_answered.proofs.Sides.{own_sides}
use Rattle.brisk_stars.specs.Searching.{IsAlone, IsRoomy}
use Rattle.brisk_stars.specs.Threads.{IsStarThreads, at_in, members_by, served_at}
use Rattle.brisk_async.specs.Laws.{AnyReceive}
use Rattle.brisk_stars.specs.Serving.{Served, Word, hears, messages, serve}
use Rattle.brisk_stars.specs.Words.{words_to}

-- the centre's rule at the head of a loop over a set: `for`, or gather
pub data IsLoopRule (M : Name) (F : Follow) (S : Symbolic) : Rule → Type 0 where
  a_for : (s : Name) → IsLoopRule M F S (for_rule F S M s (M ∷ []))
  a_gather : IsLoopRule M F S (gather_rule F S M)

-- the turn goes by a step that keeps to what serving comes
pub record GoesOn (sizes : Name → ℕ) (M : Name) (S : Symbolic) (turn : Turn) : Type 0 where
  pub next : Symbolic
  pub is : (step : Step) × (items : Items) × (turn ≡ Goes step items next None)
  pub threads : IsStarThreads sizes M next
  pub served : served_at sizes M next ≡ served_at sizes M S

-- the words of a gather's one turn
abbrev pub one_turn : AnyReceive → List Word
one_turn a = hears (single a.set) a.channel ∷ words_to (single a.set) (messages a.body)

-- Why it stays: the rule isn't entered; or a word is left unsaid; or the centre is at a gather, the words of its turn are said, and then a
-- message of the member is left over; or the close of the last try fails, since a fact is lost.
pub data StaysAt (P : Program) (sizes : Name → ℕ) (M : Name) (S : Symbolic) (rule : Rule) : Type 0 where
  refused : (drops : List Fact) (why : Why) → rule.enter drops ≡ Err why → StaysAt P sizes M S rule
  unserved : (served_at sizes M S).left ≢ [] → StaysAt P sizes M S rule
  left_over : (a : AnyReceive) (turn : Served) → at_in S M ≡ Repeat a.set 0 (RecvAny a.channel a.variables a.binder a.set a.body ⨾ done) ⨾ a.rest →
      serve (one_turn a) (members_by M (at_in S) (numbers_at S.pending)) ≡ turn → turn.left ≡ [] → (turn.members (single a.set)).up a.channel ≢ 0 → StaysAt P sizes M S rule
  loses : (r : Entered) (w : Way) (why : Why) → rule.enter (at_risk P S) ≡ Ok r → driver P own_sides 255 (rule.follows r) (premise_of r) r.start None ≡ Reached w None →
      close r w.end ≡ Err why → StaysAt P sizes M S rule

-- so the centre's loop goes, or stays
abbrev pub LoopsGoOrStay : Type 0
LoopsGoOrStay =
    (P : Program) → IsStrict P → (F : Follow) (sizes : Name → ℕ) (M : Name) (S : Symbolic) (rule : Rule) (failures : Failures) → IsStarThreads sizes M S → IsAlone M S → IsLoopRule M F S rule →
    ((drops : List Fact) (r : Entered) → rule.enter drops ≡ Ok r → IsRoomy r.start) →
    let turn = nine_tries P (Some (driver P own_sides 255)) S rule failures None in
    GoesOn sizes M S turn ⊎ (((more : Failures) × (turn ≡ Stays more None)) × StaysAt P sizes M S rule)

-- At the top the centre's loops are entered, whatever is dropped.
abbrev pub LoopsAreEntered : Type 0
LoopsAreEntered =
    (sizes : Name → ℕ) (M : Name) (S : Symbolic) (drops : List Fact) (rest : Code) → IsStarThreads sizes M S → IsAlone M S →
    ((v s : Name) (b : Code) → at_in S M ≡ For v s 0 b ⨾ rest → (r : Entered) × (enter_for S s (M ∷ []) drops ≡ Ok r)) ×
    ((c : Name) (xs : List Name) (v s : Name) (b : Code) → at_in S M ≡ Repeat s 0 (RecvAny c xs v s b ⨾ done) ⨾ rest → (r : Entered) × (enter_gather S M drops ≡ Ok r))
