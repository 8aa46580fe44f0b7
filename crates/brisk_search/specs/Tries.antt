-- The tries of compound rules.
use Rattle.std.specs.Prelude.{ℕ, zero, suc, Bool, ◌&&◌, ◌||◌, not, List, [], ◌∷◌, ◌++◌, map, filter, Option, Some, None, Ok, Err, is_some, if◌then◌else◌}
use Rattle.std.specs.List.{list_any}
use Rattle.brisk_values.specs.Names.{Name, same_name}
use Rattle.brisk_syntax.specs.declared.program.Program.{Program}
use Rattle.brisk_syntax.specs.Declarations.{variable_of}
use Rattle.brisk_syntax.specs.Roles.{RoleText}
use Rattle.brisk_syntax.specs.Syntax.{Expression, Num, Truth, Var, Tag, Size, Paren, Un, Bin, Statement, Assign, Send, Recv, RecvAny, If, IfElse, Code, done, ◌⨾◌}
use Rattle.brisk_syntax.specs.Syntax as syntax
use Rattle.brisk_syntax.specs.Typing.{is_among}
use Rattle.brisk_seq.specs.Items.{Items, nothing, ◌⨟◌}
use Rattle.brisk_facts.specs.Facts.{Facts, fact, facts_where, is_fact}
use Rattle.brisk_state.specs.Symbolic.{Symbolic}
use Rattle.brisk_derivation.specs.declared.fault.SideFault.{SideFault}
use Rattle.brisk_derivation.specs.declared.fault.SideFault.TheVariants.{TooDeep}
use Rattle.brisk_derivation.specs.declared.steps.Fact.{Fact}
use Rattle.brisk_derivation.specs.Reports.{Tries, TryEnd, Fails, StuckFirst, StuckSecond}
use Rattle.brisk_derivation.specs.Steps.{Step, Branch, While, For, Repeat, Gather, Pick, Steps, no_steps}
use Rattle.brisk_rules.specs.declared.why.Why.{Why}
use Rattle.brisk_rules.specs.declared.why.Why.TheVariants.{Rule as BasicFault, Side}
use Rattle.brisk_rules.specs.Following.{Follow, follows_in}
use Rattle.brisk_rules.specs.Rules.{Outcome, Entered, looks, around, Parted, around_sides, looks_at, close, enter_while, enter_for, enter_repeat, enter_gather, enter_pick, enter_branch, join}
use Rattle.brisk_rules.specs.Standing.{fault_aside, has_code, stands_at}
use Rattle.brisk_search.specs.Turns.{Failures, Turn, Goes, Spent, Attempt, stay, due, failed}
use Rattle.brisk_search.specs.Drives.{Drive, Way, Driven, Reached, Stuck, Driver, must_end, premise_of}
use Rattle.brisk_search.specs.Drives as drive

-- the variables of an expression
abbrev pub variables_of : Expression → List Name
variables_of (Var x) = x ∷ []
variables_of (Paren e) = variables_of e
variables_of (Un op e) = variables_of e
variables_of (Bin op e f) = variables_of e ++ variables_of f
variables_of e = []

-- the variables that a statement, or code, assigns, receives into or has in a guard
abbrev mutual
  pub touched_by : Statement → List Name
  touched_by (Assign x e) = x ∷ []
  touched_by (Send c es u) = []
  touched_by (Recv c xs u) = xs
  touched_by (RecvAny c xs v s b) = xs ++ touched_in b
  touched_by (If e a) = variables_of e ++ touched_in a
  touched_by (IfElse e a b) = variables_of e ++ touched_in a ++ touched_in b
  touched_by (syntax.While e b) = variables_of e ++ touched_in b
  touched_by (syntax.For v s k b) = touched_in b
  touched_by (syntax.Repeat s k b) = touched_in b

  pub touched_in : Code → List Name
  touched_in done = []
  touched_in (s ⨾ c) = touched_by s ++ touched_in c

-- each variable of a role, in declaration order
abbrev pub places_of : RoleText → List Fact
places_of r = map (λ d. record { at = r.name; variable = variable_of d }) r.decls

-- each variable of each role, in role and declaration order
abbrev pub places : List RoleText → List Fact
places [] = []
places (r ∷ rs) = places_of r ++ places rs

-- something is known of the variable
abbrev pub is_known : Facts → Fact → Bool
is_known facts q = is_some (fact facts q.at q.variable)

-- the place is one of these
abbrev pub is_dropped : List Fact → Fact → Bool
is_dropped drops q = list_any (λ d. same_name d.at q.at && same_name d.variable q.variable) drops

-- the facts that the close of a rule asks for and misses at the premise's end
abbrev pub lost : Entered → Symbolic → Facts
lost r E = filter (λ e. not (is_fact E.facts e)) (facts_where (λ q. looks_at (looks r.kind) q.0) r.known)

-- the facts to drop, and those that were lost
abbrev pub with_lost : Program → Entered → Symbolic → List Fact → List Fact
with_lost P r E drops = filter (λ q. is_dropped drops q || is_known (lost r E) q) (places P.roles)

-- the facts on variables that their thread's code assigns, receives into or has in a guard
abbrev pub at_risk : Program → Symbolic → List Fact
at_risk P S = filter (λ q. is_known S.facts q && is_among (touched_in (stands_at S q.at)) q.variable) (places P.roles)

-- A compound rule with one premise: the thread at whose head it is tried, or a set; its step; its entry; and what follows in
-- its premise.
pub record Rule : Type 0 where
  pub at : Name
  pub step : List Fact → Steps → Step
  pub enter : List Fact → Outcome Entered
  pub follows : Entered → Follow

abbrev pub while_rule : Follow → Symbolic → Name → Rule
while_rule F S t = record { at = t; step = While t; enter = enter_while S t; follows = λ r. follows_in S r F }

abbrev pub for_rule : Follow → Symbolic → Name → Name → List Name → Rule
for_rule F S t s ts = record { at = t; step = For s ts; enter = enter_for S s ts; follows = λ r. follows_in S r F }

abbrev pub repeat_rule : Follow → Symbolic → Name → Rule
repeat_rule F S t = record { at = t; step = Repeat t; enter = enter_repeat S t; follows = λ r. follows_in S r F }

abbrev pub gather_rule : Follow → Symbolic → Name → Rule
gather_rule F S t = record { at = t; step = Gather t; enter = enter_gather S t; follows = λ r. follows_in S r F }

abbrev pub pick_rule : Program → Follow → Symbolic → Name → Rule
pick_rule P F S t = record { at = t; step = Pick t; enter = enter_pick P S t; follows = λ r. follows_in S r F }

-- goes on in a rule that may be entered, with what drives below it; nothing drives below rules that are nested too deep
abbrev pub entered : {A : Type 0} → Option Driver → Outcome A → (Why → Turn) → (Driver → A → Turn) → Turn
entered None entry refused go = refused (Side TooDeep)
entered (Some driver) (Err why) refused go = refused why
entered (Some driver) (Ok r) refused go = go driver r

-- the rule is refused; a report names only the tests of compound rules, and no other fails at heads that have the rule
abbrev pub refused : Name → Step → Why → Attempt
refused t rule (Side why) = failed t rule (Fails why)
refused t rule (BasicFault why) = stay

-- how a try ends whose drive is stuck: by the close test that fails, facts aside, where all is at its end
abbrev pub told : Option SideFault → Tries → TryEnd
told None tries = StuckFirst tries
told (Some why) tries = Fails why

abbrev pub end_of : Entered → Symbolic → Tries → TryEnd
end_of r E tries = told (if list_any (has_code E) (must_end r) then None else fault_aside r E) tries

-- the close, which is due where its tests hold; where facts are lost, there is another try
abbrev pub closed : Attempt → Step → Items → Outcome Symbolic → Attempt
closed again step items (Ok S) failures left = due left (Goes step items S)
closed again step items (Err why) failures left = again failures left

-- one try, of which the premise was driven
abbrev pub driven : (Entered → Symbolic → Attempt) → Rule → List Fact → Entered → Driven → Failures → Turn
driven again rule drops r (Reached w left) failures = closed (again r w.end) (rule.step drops w.steps) (around r.kind w.items ⨟ nothing) (close r w.end) failures left
driven again rule drops r (Stuck w tries left) failures = failed rule.at (rule.step drops w.steps) (end_of r w.end tries) failures left
driven again rule drops r drive.Spent failures = Spent

-- one try, with these facts to drop
abbrev pub once : Option Driver → (Entered → Symbolic → Attempt) → Rule → List Fact → Attempt
once below again rule drops failures left =
    entered below (rule.enter drops) (λ why. refused rule.at (rule.step drops no_steps) why failures left) (λ driver r.
    driven again rule drops r (driver (rule.follows r) (premise_of r) r.start left) failures)

-- so many tries, each also without the facts that the one before lost, and a last one without all that may be lost
abbrev pub tries : Program → Option Driver → Symbolic → Rule → ℕ → List Fact → Attempt
tries P below S rule zero drops = once below (λ r E. stay) rule (at_risk P S)
tries P below S rule (suc n) drops = once below (λ r E. tries P below S rule n (with_lost P r E drops)) rule drops

-- the nine tries of a rule
abbrev pub nine_tries : Program → Option Driver → Symbolic → Rule → Attempt
nine_tries P below S rule = tries P below S rule 8 []

-- a branch both of whose sides were driven
abbrev pub joined : Name → Parted → Way → Way → Outcome Symbolic → Attempt
joined t p a b (Ok S) failures left = due left (Goes (Branch t a.steps b.steps) (around_sides p a.items b.items ⨟ nothing) S)
joined t p a b (Err why) failures left = refused t (Branch t a.steps b.steps) why failures left

-- a branch of which the second side was driven, and before it the first
abbrev pub second_driven : Name → Parted → Way → Driven → Failures → Turn
second_driven t p a (Reached b left) failures = joined t p a b (join a.end b.end) failures left
second_driven t p a (Stuck b tries left) failures = failed t (Branch t a.steps b.steps) (StuckSecond tries) failures left
second_driven t p a drive.Spent failures = Spent

-- a branch of which the first side was driven
abbrev pub first_driven : Driver → Follow → Drive → Name → Parted → Driven → Failures → Turn
first_driven driver F d t p (Reached a left) failures = second_driven t p a (driver F d p.second left) failures
first_driven driver F d t p (Stuck a tries left) failures = failed t (Branch t a.steps no_steps) (StuckFirst tries) failures left
first_driven driver F d t p drive.Spent failures = Spent

-- a branch, both of whose sides have this drive
abbrev pub branch : Option Driver → Follow → Drive → Symbolic → Name → Attempt
branch below F d S t failures left =
    entered below (enter_branch S t) (λ why. refused t (Branch t no_steps no_steps) why failures left) (λ driver p.
    first_driven driver F d t p (driver F d p.first left) failures)
