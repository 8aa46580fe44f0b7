-- What a symbolic state of a star says: each set's thread counts as its first member.
use Rattle.std.specs.Prelude.{◌≡◌, ◌≢◌, ℕ, ◌+◌, ◌≤◌, true, false, List, [], ◌∷◌, ◌++◌, Some, Ok, length, if◌then◌else◌, nat_eq, nat_lt}
use Rattle.brisk_values.specs.declared.value.Pid.{Pid}
use Rattle.brisk_values.specs.Names.{Name, same_name}
use Rattle.brisk_syntax.specs.declared.program.Program.{Program}
use Rattle.brisk_syntax.specs.Classes.{every, all_local, is_named, talks_to}
use Rattle.brisk_syntax.specs.Roles.{RoleText}
use Rattle.brisk_syntax.specs.Counts.{statements}
use Rattle.brisk_syntax.specs.Depths.{code_depth}
use Rattle.brisk_syntax.specs.Syntax.{Statement, Code, ◌⨾◌, ◌then◌}
use Rattle.brisk_syntax.specs.WellTyped.{all_unbegun}
use Rattle.brisk_state.specs.declared.thread.Mode.{Mode}
use Rattle.brisk_state.specs.declared.thread.Mode.TheVariants.{One, At}
use Rattle.brisk_state.specs.Symbolic.{Key, Symbolic, key, numbers_at, thread_named, code_at, initial, with_code, with_mode}
use Rattle.brisk_basic.specs.declared.rule.Basic.{Basic}
use Rattle.brisk_basic.specs.Basic.{Applied, apply}
use Rattle.brisk_derivation.specs.declared.steps.Fact.{Fact}
use Rattle.brisk_rules.specs.Rules as rules
use Rattle.brisk_rules.specs.Rules.{Entered, Outside, code_in, enter_for, enter_gather, mode_of, close}
use Rattle.brisk_straight.specs.Local.{AreApart, Moves}
use Rattle.brisk_stars.specs.Runs.{nobody, served_in}
use Rattle.brisk_stars.specs.Sources.{IsCentre, IsStarSource, plain_start}
use Rattle.brisk_stars.specs.Serving.{Member, Served, followed, messages, serve}
use Rattle.brisk_stars.specs.Words.{is_focus, runs_as_centre, words}

-- where a thread stands
abbrev pub at_in : Symbolic → Name → Code
at_in S t = code_in (thread_named S.threads t)

-- the member for which a set stands, by the codes of threads and the numbers of pending boxes, for the centre M
abbrev pub member_by : Name → (Name → Code) → (Key → List ℕ) → Name → Member
member_by M code pending s = record { left = messages (code s); up = λ c. length (pending (key s M c)); down = λ c. length (pending (key M s c)) }

-- the members for which the sets stand: the first one of each
abbrev pub members_by : Name → (Name → Code) → (Key → List ℕ) → Pid → Member
members_by M code pending p = if same_name M p.role then nobody else (if nat_eq 0 p.member then member_by M code pending p.role else nobody)

-- to what serving comes
abbrev pub served_by : (Name → ℕ) → Name → (Name → Code) → (Key → List ℕ) → Served
served_by sizes M code pending = serve (words sizes (code M)) (members_by M code pending)

-- to what serving comes in a symbolic state
abbrev pub served_at : (Name → ℕ) → Name → Symbolic → Served
served_at sizes M S = served_by sizes M (at_in S) (numbers_at S.pending)

-- The threads of a star with the centre M: its thread is at a centre's code with loops at turn 0; all others are those of sets, which talk to
-- the centre alone and count for one member.
pub record IsStarThreads (sizes : Name → ℕ) (M : Name) (S : Symbolic) : Type 0 where
  pub apart : AreApart S
  pub centre : runs_as_centre sizes M (at_in S M) ≡ true
  pub unbegun : all_unbegun (at_in S M) ≡ true
  pub one : mode_of (thread_named S.threads M) ≡ Some One
  pub talk : (s : Name) → same_name M s ≡ false → every (talks_to (is_named M)) (at_in S s) ≡ true
  pub several : (s : Name) → same_name M s ≡ false → mode_of (thread_named S.threads s) ≢ Some One
  pub size : (s : Name) → sizes s ≤ 1
  pub there : (s : Name) → nat_lt 0 (sizes s) ≡ true → (m : Mode) × (mode_of (thread_named S.threads s) ≡ Some m)

-- the state in which a derivation begins is one of a star, and serving comes there to what it comes to at the start of the plain run
abbrev pub SameStart : Type 0
SameStart =
    (P : Program) (r : RoleText) → IsStarSource P → IsCentre P r →
    let s = plain_start P 1 in
    IsStarThreads s.sizes r.name (initial P) × (served_at s.sizes r.name (initial P) ≡ served_in r.name s)

-- A basic rule keeps to what serving comes. (A pass is a send and then a receive.)
abbrev pub BasicRulesKeepServing : Type 0
BasicRulesKeepServing =
    (sizes : Name → ℕ) (M : Name) (S : Symbolic) (b : Basic) (r : Applied) → IsStarThreads sizes M S → apply S b ≡ Ok r →
    IsStarThreads sizes M r.next × (served_at sizes M r.next ≡ served_at sizes M S)

-- So do steps by which a thread alone goes through local code, as those of a branch.
abbrev pub LocalStepsKeepServing : Type 0
LocalStepsKeepServing =
    (sizes : Name → ℕ) (M : Name) (S E : Symbolic) (t : Name) (a rest : Code) → IsStarThreads sizes M S → all_local a ≡ true → code_at S t ≡ Some (a then rest) →
    Moves S t rest E → IsStarThreads sizes M E × (served_at sizes M E ≡ served_at sizes M S)

-- A rule of the centre over a set was entered: its premise's start, with the centre at its body and the set in focus, and what is behind
-- it. The body's words are those of the one turn; it is no longer and nests no deeper than the loop.
pub record IsCentresLoop (sizes : Name → ℕ) (M s : Name) (S : Symbolic) (r : Entered) : Type 0 where
  pub body : Code
  pub rest : Code
  pub behind : (head : Statement) × (at_in S M ≡ head ⨾ rest)
  pub fewer : statements body + statements rest ≤ statements (at_in S M)
  pub shallow : code_depth body ≤ code_depth (at_in S M)
  pub owners : r.owners ≡ record { name = M; rest = rest } ∷ []
  pub looks : (rules.looks r.kind) ≡ Outside s
  pub threads : r.start.threads ≡ with_code M body (with_mode s At S.threads)
  pub pending : r.start.pending ≡ S.pending
  pub other : same_name M s ≡ false
  pub members : nat_lt 0 (sizes s) ≡ true
  pub says : words sizes (at_in S M) ≡ words sizes body ++ words sizes rest
  pub runs : runs_as_centre sizes M body ≡ true
  pub fresh : all_unbegun body ≡ true
  pub talks : every (talks_to (is_focus s)) body ≡ true
  pub runs_on : runs_as_centre sizes M rest ≡ true
  pub fresh_on : all_unbegun rest ≡ true

-- a `for` of the centre is so entered, and so is a gather
abbrev pub ForsAreEntered : Type 0
ForsAreEntered =
    (sizes : Name → ℕ) (M s : Name) (S : Symbolic) (r : Entered) (drops : List Fact) → IsStarThreads sizes M S → enter_for S s (M ∷ []) drops ≡ Ok r → IsCentresLoop sizes M s S r

abbrev pub GathersAreEntered : Type 0
GathersAreEntered =
    (sizes : Name → ℕ) (M : Name) (S : Symbolic) (r : Entered) (drops : List Fact) → IsStarThreads sizes M S → enter_gather S M drops ≡ Ok r → (s : Name) × IsCentresLoop sizes M s S r

-- In the premise of such a rule the words of one turn are to be said; what is behind the rule is said after them.
abbrev pub PremisesSayATurn : Type 0
PremisesSayATurn =
    (sizes : Name → ℕ) (M s : Name) (S : Symbolic) (r : Entered) → IsStarThreads sizes M S → (l : IsCentresLoop sizes M s S r) →
    let turn = served_at sizes M r.start in
    IsStarThreads sizes M r.start × (served_at sizes M S ≡ followed turn.left (words sizes l.rest) turn.members)

-- A close of such a rule keeps to what serving comes.
abbrev pub ClosesKeepServing : Type 0
ClosesKeepServing =
    (sizes : Name → ℕ) (M s : Name) (S E next : Symbolic) (r : Entered) → IsStarThreads sizes M S → IsCentresLoop sizes M s S r →
    IsStarThreads sizes M E → served_at sizes M E ≡ served_at sizes M r.start → close r E ≡ Ok next →
    IsStarThreads sizes M next × (served_at sizes M next ≡ served_at sizes M S)
