-- How the answers of the search in code are those of its definition.
use Rattle.std.specs.Prelude.{◌≡◌, ℕ, ◌+◌, ◌≤◌, true, false, [], ◌∷◌, length, List, Option, Some, None}
use Rattle.brisk_values.specs.Names.{Name}
use Rattle.brisk_syntax.specs.declared.program.Program.{Program}
use Rattle.brisk_seq.specs.Items.{Items, nothing, ◌followed_by◌}
use Rattle.brisk_state.specs.Symbolic.{Symbolic, initial}
use Rattle.brisk_derivation.specs.declared.steps.Fact.{Fact}
use Rattle.brisk_derivation.specs.Reports.{Tried as tried}
use Rattle.brisk_derivation.specs.Seen.{step_of}
use Rattle.brisk_derivation.specs.Steps.{Branch, Step, Steps}
use Rattle.brisk_derivation.specs.TriesSeen.{end_of}
use Rattle.brisk_loops.specs.Walk.{Inside, First as in_first, Second as in_second, Open, follows, Walked, Called, leave, back}
use Rattle.brisk_loops.specs.WalkSeen.{Gives, refused_by}
use Rattle.brisk_rules.specs.declared.why.Why.{Why}
use Rattle.brisk_rules.specs.Rules.{Entered, Parted, join}
use Rattle.brisk_search.specs.declared.turn.Came.{Came}
use Rattle.brisk_search.specs.declared.turn.Came.TheVariants.{To, Losing}
use Rattle.brisk_search.specs.declared.turn.Driven.{Driven}
use Rattle.brisk_search.specs.declared.turn.Driven.TheVariants as drive
use Rattle.brisk_search.specs.declared.turn.Sided.{Sided}
use Rattle.brisk_search.specs.declared.turn.Sided.TheVariants as sides
use Rattle.brisk_search.specs.declared.turn.Turn.{Turn}
use Rattle.brisk_search.specs.declared.turn.Turn.TheVariants as turn
use Rattle.brisk_search.specs.Drives as written
use Rattle.brisk_search.specs.Drives.{Drive, Driver, Way}
use Rattle.brisk_search.specs.Tries.{first_driven, joined, nine_tries, once, with_lost}
use Rattle.brisk_search.specs.Advance.{Around}
use Rattle.brisk_search.specs.Passes.{driver}
use Rattle.brisk_search.specs.Searched as written_search
use Rattle.brisk_search.specs.Searched.{answer, searched}
use Rattle.brisk_search.specs.declared.compound.Compound.{Compound}
use Rattle.brisk_search.specs.declared.drive.Drive.{Drive as Asked}
use Rattle.brisk_search.specs.declared.limits.Pass.{Pass}
use Rattle.brisk_search.specs.declared.outcome.Outcome.{Outcome}
use Rattle.brisk_search.specs.declared.outcome.Outcome.TheVariants as answers
use Rattle.brisk_search.specs.declared.outcome.Outcome.TheVariants.{Sequenced, Budget}
use Rattle.brisk_search.specs.Turns as turns
use Rattle.brisk_search.specs.Turns.{Attempt, Failures}
use Rattle.brisk_search.specs.declared.turn.Left.{Left}
use Rattle.brisk_search.specs.declared.turn.Left.TheVariants.{Closed, Refused, Due}
use Rattle.brisk_search.specs.Views.{Fits, HasRoom, IsSpent, IsWithin, around, below, drive_seen, failures_told, is_spent, left_of, rule_seen, sides_in}

-- the walk is in the same rules of the same program, and no more rules are applied than may be
abbrev pub Beside : Option ℕ → Walked → Walked → Type 0
Beside budget w v = (v.program ≡ w.program) × (v.entered ≡ w.entered) × IsWithin budget v.applied

-- it is also where it was, but for the numbers of calls and of rules applied
abbrev pub Alike : Option ℕ → Walked → Walked → Type 0
Alike budget w v = Beside budget w v × (v.state ≡ w.state) × (v.items ≡ w.items)

-- it has these items more
abbrev pub Adds : Option ℕ → Items → Walked → Walked → Type 0
Adds budget X w v = Beside budget w v × (v.items ≡ w.items followed_by X)

-- the rules are spent on the way
abbrev pub Spends : Option ℕ → Walked → Walked → Type 0
Spends budget w v = (v.program ≡ w.program) × IsSpent budget v.applied

-- the way by these steps, which give these items, to where the walk stands
abbrev pub way : Steps → Items → Symbolic → Way
way D X S = record { steps = D; items = X; end = S }

-- a turn comes out as the code says, with these failures
abbrev pub MeetsTurn : Option ℕ → turns.Turn → Turn → Failures → Walked → Walked → Type 0
MeetsTurn budget t (turn.Goes s) fs w v = (X : Items) × Adds budget X w v × (t ≡ turns.Goes (step_of s) X v.state (left_of budget v.applied))
MeetsTurn budget t turn.Stays fs w v = Alike budget w v × (t ≡ turns.Stays fs (left_of budget v.applied))
MeetsTurn budget t turn.Spent fs w v = Spends budget w v × (t ≡ turns.Spent)

-- a drive comes out as the code says
abbrev pub MeetsDrive : Option ℕ → written.Driven → Driven → Walked → Walked → Type 0
MeetsDrive budget d (drive.Reached D) w v = (X : Items) × Adds budget X w v × (d ≡ written.Reached (way D X v.state) (left_of budget v.applied))
MeetsDrive budget d (drive.Stuck D tries) w v = (X : Items) × Adds budget X w v × (d ≡ written.Stuck (way D X v.state) tries (left_of budget v.applied))
MeetsDrive budget d drive.Spent w v = Spends budget w v × (d ≡ written.Spent)

-- one try comes out as the code says, whatever follows where facts are lost; then these facts are to be dropped
abbrev pub MeetsTry : Option ℕ → Program → List Fact → ((Entered → Symbolic → Attempt) → turns.Turn) → Came → Failures → Walked → Walked → Type 0
MeetsTry budget P drops once (To t) fs w v = (again : Entered → Symbolic → Attempt) → MeetsTurn budget (once again) t fs w v
MeetsTry budget P drops once (Losing more) fs w v =
    (r : Entered) × (E : Symbolic) × Alike budget w v × (with_lost P r E drops ≡ more) × ((again : Entered → Symbolic → Attempt) → once again ≡ again r E fs (left_of budget v.applied))

-- Both sides of a branch come out as the code says, for each failures so far: they are joined from here; or they are given up;
-- or the rules are spent.
abbrev pub MeetsSides : Option ℕ → (Failures → turns.Turn) → Name → Parted → Open → List Open → Sided → Walked → Walked → Type 0
MeetsSides budget sided t p o more (sides.Both A B) w v =
    (X : Items) × (E : Symbolic) × (v.program ≡ w.program) × (v.entered ≡ record o { inside = in_second p E X } ∷ more) × IsWithin budget v.applied
    × ((fs : Failures) → sided fs ≡ joined t p (way A X E) (way B v.items v.state) (join E v.state) fs (left_of budget v.applied))
MeetsSides budget sided t p o more (sides.Stuck A B end) w v =
    (i : Inside) × (v.program ≡ w.program) × (v.entered ≡ record o { inside = i } ∷ more) × IsWithin budget v.applied
    × ((fs : Failures) → sided fs ≡ turns.Stays ((t, tried (Branch t A B) (end_of end)) ∷ fs) (left_of budget v.applied))
MeetsSides budget sided t p o more sides.Spent w v = Spends budget w v × ((fs : Failures) → sided fs ≡ turns.Spent)

-- an attempt that leaves no failures comes out as the code says
abbrev pub MeetsAttempt : Option ℕ → Attempt → Turn → Walked → Walked → Type 0
MeetsAttempt budget attempt t w v = (fs : Failures) → MeetsTurn budget (attempt fs (left_of budget w.applied)) t fs w v

-- a call is made; or it is refused so, and the walk stays
abbrev pub MadeOr : Option Why → Called → Walked → Walked → Type 0
MadeOr None call w v = Gives call v
MadeOr (Some why) call w v = (v ≡ w) × (refused_by call ≡ Some why)

-- what a close does to the walk, and whether a rule was left for it
abbrev pub LeftBy : Option ℕ → Left → Called → Walked → Walked → Type 0
LeftBy budget Closed call w v = Gives call v × (is_spent budget w.applied ≡ false) × HasRoom budget w.applied
LeftBy budget (Refused why) call w v = (v ≡ w) × (refused_by call ≡ Some why)
LeftBy budget Due call w v = (v ≡ w) × (refused_by call ≡ None) × (is_spent budget w.applied ≡ true)

-- what comes of the end of a rule with one premise: it is closed by this step; or it is due; or it is given up for lost facts
abbrev pub CameBy : Option ℕ → Entered → List Fact → Came → Step → Walked → Walked → Type 0
CameBy budget r drops (To (turn.Goes s)) A u x = (step_of s ≡ A) × LeftBy budget Closed (leave u) u x
CameBy budget r drops (To turn.Stays) A u x = ⊥
CameBy budget r drops (To turn.Spent) A u x = LeftBy budget Due (leave u) u x
CameBy budget r drops (Losing more) A u x = (why : Why) × (x ≡ back u) × (refused_by (leave u) ≡ Some why) × (more ≡ with_lost u.program r u.state drops)

-- what comes of a branch whose sides were driven
abbrev pub JoinedBy : Option ℕ → Name → Step → Turn → Failures → Failures → Walked → Walked → Type 0
JoinedBy budget t A (turn.Goes s) before after u x = (step_of s ≡ A) × (after ≡ before) × LeftBy budget Closed (leave u) u x
JoinedBy budget t A turn.Stays before after u x = (why : Why) × (x ≡ back u) × (refused_by (leave u) ≡ Some why) × (after ≡ failures_told t A why before)
JoinedBy budget t A turn.Spent before after u x = LeftBy budget Due (leave u) u x

-- the walk may go on: what is driven is there, so many rules may be entered, and no more are applied than may be
abbrev pub IsReady : Option ℕ → ℕ → Asked → Walked → Type 0
IsReady budget room asked w = Fits asked w.entered × (length w.entered + room ≤ 256) × IsWithin budget w.applied

-- the written drive from where the walk stands
abbrev pub drive_at : Option ℕ → Pass → ℕ → Asked → Walked → written.Driven
drive_at budget pass room asked w = driver w.program (sides_in pass) room (follows w.entered) (drive_seen w.entered asked) w.state (left_of budget w.applied)

-- what is around a turn there
abbrev pub around_at : Pass → ℕ → Asked → Walked → Around
around_at pass room asked w = around w.program (sides_in pass) room (follows w.entered) (drive_seen w.entered asked)

-- the nine tries of a rule there
abbrev pub tries_at : Pass → ℕ → Compound → Walked → Attempt
tries_at pass room rule w = nine_tries w.program (below w.program (sides_in pass) room) w.state (rule_seen w.program (follows w.entered) w.state rule)

-- one of them
abbrev pub try_at : Option ℕ → Pass → ℕ → Compound → List Fact → Failures → Walked → (Entered → Symbolic → Attempt) → turns.Turn
try_at budget pass room rule drops fs w again = once (Some (driver w.program (sides_in pass) room)) again (rule_seen w.program (follows w.entered) w.state rule) drops fs (left_of budget w.applied)

-- the written sides of a branch, where both are driven so
abbrev pub sides_at : Option ℕ → Pass → ℕ → Drive → Name → Parted → Walked → Failures → turns.Turn
sides_at budget pass room d t p w fs =
    let go = driver w.program (sides_in pass) room in
    first_driven go (follows w.entered) d t p (go (follows w.entered) d p.first (left_of budget w.applied)) fs

-- the walk is at the start of the first side of a branch
abbrev pub IsInFirst : Parted → Open → List Open → Walked → Type 0
IsInFirst p o more w = (w.entered ≡ o ∷ more) × (o.inside ≡ in_first p) × (w.state ≡ p.first) × (w.items ≡ nothing)

-- what the search answers is what the definition says; the walk of a spent budget has applied that many rules
abbrev pub IsSearched : Program → ℕ → Outcome → Type 0
IsSearched P budget (Sequenced D Q) = searched P budget ≡ written_search.Sequenced D Q
IsSearched P budget (answers.Stuck report) = searched P budget ≡ written_search.Stuck report
IsSearched P budget (Budget w) = (searched P budget ≡ written_search.Spent) × (w.program ≡ P) × (w.applied ≡ budget)

-- a walk that begins, but for the number of rules applied, which is no more than may be
abbrev pub IsRewound : Option ℕ → Walked → Type 0
IsRewound budget w = (w.state ≡ initial w.program) × (w.items ≡ nothing) × (w.entered ≡ []) × IsWithin budget w.applied

-- the answer is that of this outcome of the passes
abbrev pub AnswersAs : Program → Option ℕ → written.Driven → Outcome → Type 0
AnswersAs P budget d (Sequenced D Q) = answer P d ≡ written_search.Sequenced D Q
AnswersAs P budget d (answers.Stuck report) = answer P d ≡ written_search.Stuck report
AnswersAs P budget d (Budget w) = (d ≡ written.Spent) × (w.program ≡ P) × IsSpent budget w.applied
