-- How the search sees its walk: what is driven, who comes in turn, and what heads ask for.
use Rattle.std.specs.Prelude.{◌≡◌, ℕ, zero, suc, ◌-◌, ◌^◌, ◌<◌, ◌≤◌, Bool, true, false, nat_le, List, [], ◌∷◌, ◌++◌, length, map, reverse, option_map, Option, Some, None, if◌then◌else◌}
use Rattle.std.specs.List.{list_any}
use Rattle.brisk_values.specs.declared.value.Value.TheVariants as value
use Rattle.brisk_values.specs.Names.{Name, same_name}
use Rattle.brisk_syntax.specs.declared.program.Program.{Program}
use Rattle.brisk_syntax.specs.Segments.{rest_of}
use Rattle.brisk_syntax.specs.Syntax.{Assign, Send, Recv, RecvAny, If, IfElse, While, For, Repeat, Code, done, ◌⨾◌}
use Rattle.brisk_facts.specs.Facts.{Facts, is_known}
use Rattle.brisk_facts.specs.Learning.{folded}
use Rattle.brisk_state.specs.Symbolic.{Symbolic, code_at}
use Rattle.brisk_derivation.specs.declared.steps.BasicStep.TheVariants as basic
use Rattle.brisk_derivation.specs.declared.steps.Fact.{Fact}
use Rattle.brisk_derivation.specs.Steps as steps
use Rattle.brisk_derivation.specs.Steps.{Step, Basic, Branch, Gather, Pick, Steps}
use Rattle.brisk_derivation.specs.TriesSeen.{try_of}
use Rattle.brisk_derivation.specs.declared.report.Try.{Try as RawTry}
use Rattle.brisk_rules.specs.declared.why.Why.{Why}
use Rattle.brisk_rules.specs.declared.why.Why.TheVariants.{Rule as BasicFault, Side}
use Rattle.brisk_derivation.specs.Reports.{Try, Tried, Fails}
use Rattle.brisk_loops.specs.declared.leave.Closing.{Closing}
use Rattle.brisk_loops.specs.CloseSeen.{kind_of}
use Rattle.brisk_loops.specs.LeaveSeen.{Closes, StartsLike}
use Rattle.brisk_loops.specs.Walk.{Open, Premise as in_premise, Walked, follows, premise_at, rule_at}
use Rattle.brisk_rules.specs.Following.{Follow}
use Rattle.brisk_rules.specs.Rules as rules
use Rattle.brisk_rules.specs.Rules.{Entered}
use Rattle.brisk_rules.specs.Standing.{least_free, resting, stands_at, thread_of}
use Rattle.brisk_search.specs.declared.closing.Premise.{Premise}
use Rattle.brisk_search.specs.declared.compound.Compound.{Compound}
use Rattle.brisk_search.specs.declared.compound.Kind.{Kind}
use Rattle.brisk_search.specs.declared.compound.Kind.TheVariants as kind
use Rattle.brisk_search.specs.declared.drive.Comer.{Comer}
use Rattle.brisk_search.specs.declared.drive.Comer.TheVariants.{Thread, Set}
use Rattle.brisk_search.specs.declared.drive.Drive.{Drive as Asked}
use Rattle.brisk_search.specs.declared.drive.Drive.TheVariants as asked
use Rattle.brisk_search.specs.declared.limits.Pass.{Pass}
use Rattle.brisk_search.specs.declared.limits.Pass.TheVariants.{First, Second}
use Rattle.brisk_search.specs.declared.standing.Next.{Next}
use Rattle.brisk_search.specs.declared.standing.Next.TheVariants as next
use Rattle.brisk_search.specs.declared.standing.Head.{Head}
use Rattle.brisk_search.specs.declared.standing.Head.TheVariants as head
use Rattle.brisk_search.specs.declared.turn.Failed.{Failed}
use Rattle.brisk_search.specs.Advance.{Around, actor, waits_for, advance, basically, filled, threads_at}
use Rattle.brisk_search.specs.Drives.{Drive, Driver, in_turn, top, side_of, premise_of}
use Rattle.brisk_search.specs.Passes.{Sides, driver, last_try, without_owners}
use Rattle.brisk_search.specs.Tries.{Rule, branch, nine_tries, while_rule, for_rule, repeat_rule, gather_rule, pick_rule}
use Rattle.brisk_search.specs.Turns.{RulesLeft, Failures, Attempt, stay, first_of, ◌otherwise◌}

-- how many rules are left, after so many
abbrev pub left_of : Option ℕ → ℕ → RulesLeft
left_of None applied = None
left_of (Some budget) applied = Some (budget - applied)

-- no more rules are applied than may be, whose number is kept
abbrev pub IsWithin : Option ℕ → ℕ → Type 0
IsWithin None applied = Unit {0}
IsWithin (Some budget) applied = (applied ≤ budget) × (budget < 2 ^ 64)

-- rules are counted, and all are applied
abbrev pub IsSpent : Option ℕ → ℕ → Type 0
IsSpent None applied = ⊥
IsSpent (Some budget) applied = applied ≡ budget

-- no rule is left
abbrev pub is_spent : Option ℕ → ℕ → Bool
is_spent None applied = false
is_spent (Some budget) applied = nat_le budget applied

-- where rules are counted, one more may be applied, and the number is kept
abbrev pub HasRoom : Option ℕ → ℕ → Type 0
HasRoom None applied = Unit {0}
HasRoom (Some budget) applied = (applied < budget) × (budget < 2 ^ 64)

-- how the sides of branches are driven in a pass
abbrev pub sides_in : Pass → Sides
sides_in First = λ around t rest. side_of t rest
sides_in Second = λ around t rest. around

-- what drives in rules that are entered further in, where so many may be
abbrev pub below : Program → Sides → ℕ → Option Driver
below P sides zero = None
below P sides (suc n) = Some (driver P sides n)

-- what is around a turn
abbrev pub around : Program → Sides → ℕ → Follow → Drive → Around
around P sides n F d = record { program = P; below = below P sides n; side = sides d; follows = F }

-- a rule that isn't there
abbrev pub nothing_entered : Entered
nothing_entered = record { start = record { threads = []; pending = []; facts = [] }; known = []; owners = []; kind = rules.Repeat [] }

-- the rule of a premise
abbrev pub or_nothing : Option Entered → Entered
or_nothing None = nothing_entered
or_nothing (Some r) = r

-- what is driven, in these rules
abbrev pub drive_seen : List Open → Asked → Drive
drive_seen entered asked.Top = top
drive_seen entered (asked.Side t rest) = side_of t rest
drive_seen entered (asked.Premise p) = premise_of (or_nothing (premise_at entered p.around))

-- who isn't an owner stands at the premise's start as before the rule
abbrev pub StandsLike : Entered → Symbolic → Type 0
StandsLike r S = (u : Name) → list_any (λ o. same_name u o.name) r.owners ≡ false → stands_at r.start u ≡ stands_at S u

-- it is the premise of this rule, among these that were entered
abbrev pub IsPremiseOf : Entered → Premise → List Open → Type 0
IsPremiseOf r p entered = (o : Open) × (rule_at entered p.around ≡ Some o) × (o.inside ≡ in_premise r) × Closes p.closing r × StartsLike r p.drops o.state × StandsLike r o.state

-- it is the drive of the premise of this rule, where so many rules stand around it
abbrev pub IsDriveOf : ℕ → List Fact → Entered → Asked → Type 0
IsDriveOf around drops r (asked.Premise p) = (p.around ≡ around) × (p.drops ≡ drops) × Closes p.closing r
IsDriveOf around drops r d = ⊥

-- it is the state before the premise's rule
abbrev pub IsBefore : Symbolic → Premise → List Open → Type 0
IsBefore S p entered = (o : Open) × (rule_at entered p.around ≡ Some o) × (o.state ≡ S)

-- the set in focus, if there is one
abbrev pub focus_names : Option Name → List Name
focus_names None = []
focus_names (Some s) = s ∷ []

-- what is driven is there, in these rules
abbrev pub Fits : Asked → List Open → Type 0
Fits asked.Top entered = Unit {0}
Fits (asked.Side t rest) entered = Unit {0}
Fits (asked.Premise p) entered = (r : Entered) × IsPremiseOf r p entered

-- what a rule's close needs, as a rule
abbrev pub seen : Closing → Entered
seen k = record nothing_entered { owners = k.owners.items; kind = kind_of k.kind }

-- the attempt of who comes in turn
abbrev pub attempt_of : Around → Symbolic → Comer → Attempt
attempt_of around S (Thread t) = advance around S t
attempt_of around S (Set s) = without_owners around S s

-- what code asks for first
abbrev pub head_in : Facts → Name → Code → Head
head_in F t done = head.Done
head_in F t (Assign x e ⨾ c) = head.Assign
head_in F t (Send C es u ⨾ c) = head.Send (thread_of u) C
head_in F t (Recv C xs u ⨾ c) = head.Receive (thread_of u) C
head_in F t (RecvAny C xs v s b ⨾ c) = head.ReceiveAny
head_in F t (If e a ⨾ c) = head.If
head_in F t (IfElse e a b ⨾ c) = head.If
head_in F t (While e b ⨾ c) = head.While (is_known (folded F t e) (value.Bool false))
head_in F t (For v s k b ⨾ c) = head.For s
head_in F t (Repeat s k b ⨾ c) = head.Repeat

-- a rule that is tried
abbrev pub rule_by : Program → Follow → Symbolic → Name → List Name → Kind → Rule
rule_by P F S t ts kind.While = while_rule F S t
rule_by P F S t ts (kind.For s) = for_rule F S t s ts
rule_by P F S t ts kind.Repeat = repeat_rule F S t
rule_by P F S t ts kind.Gather = gather_rule F S t
rule_by P F S t ts kind.Pick = pick_rule P F S t

abbrev pub rule_seen : Program → Follow → Symbolic → Compound → Rule
rule_seen P F S c = rule_by P F S c.at c.owners.items c.kind

-- tries that failed, the latest first
abbrev pub failed_by : Failed → Name × Try
failed_by f = (f.at, try_of f.what)

abbrev pub failures_of : List Failed → Failures
failures_of fs = reverse (map failed_by fs)

-- what is around a turn, where nothing drives further in
abbrev pub at_walk : Walked → Around
at_walk w = around w.program (λ around t rest. top) 0 (follows w.entered) top

-- to whom a turn passes
abbrev pub passes_to : Option Name → Next
passes_to None = next.Itself
passes_to (Some u) = next.Sender u

abbrev pub next_by : Around → Symbolic → Name → Option Code → Next
next_by around S t None = next.Nobody
next_by around S t (Some done) = next.Nobody
next_by around S t (Some (s ⨾ c)) = passes_to (waits_for around S t (s ⨾ c))

abbrev pub next_in : Around → Symbolic → Name → Next
next_in around S t = next_by around S t (code_at S t)

-- who acts in a turn, and what its code asks for first
abbrev pub asked_by : Symbolic → Name → Option Name → Name × Head
asked_by S t None = (t, head.Done)
asked_by S t (Some u) = (u, head_in S.facts u (stands_at S u))

abbrev pub asked_in : Around → Symbolic → Comer → Name × Head
asked_in around S (Thread t) = asked_by S t (actor around (length S.threads) S [] t)
asked_in around S (Set s) = (s, head.Alone)

-- an `if`
abbrev pub is_fork : Head → Bool
is_fork head.If = true
is_fork h = false

-- the basic rule that comes first at a head
abbrev pub first_rule : Around → Symbolic → Name → Head → Attempt
first_rule around S t head.Assign = basically around S (basic.Assign t)
first_rule around S t (head.Send u c) = basically around S (basic.Pass t u c) otherwise filled around S t u c (least_free S.pending)
first_rule around S t (head.Receive u c) = basically around S (basic.Take u t c)
first_rule around S t head.If = basically around S (basic.Known t)
first_rule around S t (head.While true) = basically around S (basic.Known t)
first_rule around S t h = stay

-- the compound rules with one premise that are tried then, and their owners: another `for` where several threads stand at one
abbrev pub for_several : Program → Follow → Symbolic → Name → Name → List Name → List Rule
for_several P F S t s (u ∷ w ∷ ts) = for_rule F S t s (u ∷ w ∷ ts) ∷ []
for_several P F S t s ts = []

abbrev pub next_rules : Program → Follow → Symbolic → Name → Head → List Rule
next_rules P F S t (head.While false) = while_rule F S t ∷ []
next_rules P F S t (head.For s) = for_rule F S t s (t ∷ []) ∷ for_several P F S t s (threads_at S s)
next_rules P F S t head.Repeat = gather_rule F S t ∷ repeat_rule F S t ∷ []
next_rules P F S t head.ReceiveAny = pick_rule P F S t ∷ []
next_rules P F S t head.Alone = for_rule F S t t [] ∷ []
next_rules P F S t h = []

-- the basic rule that comes last
abbrev pub last_rule : Around → Symbolic → Name → Head → Attempt
last_rule around S t (head.While false) = basically around S (basic.Known t)
last_rule around S t h = stay

-- what is left to try at a head after the basic rule that comes first
abbrev pub later_rules : Around → Symbolic → Name → Head → Attempt
later_rules around S t h = first_of (nine_tries around.program around.below S) (next_rules around.program around.follows S t h) otherwise last_rule around S t h

-- the code behind the thread's head
abbrev pub behind_head : Symbolic → Name → Code
behind_head S t = rest_of (stands_at S t)

abbrev pub branch_at : Around → Symbolic → Name → Attempt
branch_at around S t = branch around.below around.follows (around.side t (behind_head S t)) S t

-- the step with these own steps in its premise
abbrev pub with_premise : Step → Steps → Step
with_premise (Basic b) D = Basic b
with_premise (Branch t a b) D = Branch t a b
with_premise (steps.While t drops a) D = steps.While t drops D
with_premise (steps.For s ts drops a) D = steps.For s ts drops D
with_premise (steps.Repeat t drops a) D = steps.Repeat t drops D
with_premise (Gather t drops a) D = Gather t drops D
with_premise (Pick t drops a) D = Pick t drops D

-- who comes in turn: threads, and then at the top sets
abbrev pub comers_in : Drive → Symbolic → List Comer
comers_in d S = map (λ t. Thread t) (in_turn d S) ++ (if d.sets then map (λ s. Set s) (resting S) else [])

-- the failures after a rule that was refused
abbrev pub failures_told : Name → Step → Why → Failures → Failures
failures_told t rule (Side why) fs = (t, Tried rule (Fails why)) ∷ fs
failures_told t rule (BasicFault why) fs = fs

-- the last try at the thread's head is taken out of these
abbrev pub TakesLast : Name → List Failed → List Failed → Option RawTry → Type 0
TakesLast t before after taken =
    (option_map try_of taken ≡ last_try (failures_of before) t) × ((u : Name) → same_name u t ≡ false → last_try (failures_of after) u ≡ last_try (failures_of before) u)
