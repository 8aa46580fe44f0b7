-- What a thread does in its turn, by the head of its code.
use Rattle.std.specs.Prelude.{ℕ, zero, suc, false, List, [], ◌∷◌, filter, length, Option, Some, None, Ok, Err, is_some, if◌then◌else◌}
use Rattle.brisk_values.specs.declared.value.Value.TheVariants as value
use Rattle.brisk_values.specs.Names.{Name}
use Rattle.brisk_syntax.specs.declared.program.Program.{Program}
use Rattle.brisk_syntax.specs.Syntax.{Assign, Send, Recv, RecvAny, If, IfElse, While, For, Repeat, Code, done, ◌⨾◌}
use Rattle.brisk_syntax.specs.Typing.{is_among}
use Rattle.brisk_facts.specs.Facts.{is_known}
use Rattle.brisk_facts.specs.Learning.{folded}
use Rattle.brisk_state.specs.Symbolic.{Symbolic, code_at}
use Rattle.brisk_basic.specs.Basic.{Applied}
use Rattle.brisk_derivation.specs.declared.steps.BasicStep.{BasicStep}
use Rattle.brisk_derivation.specs.declared.steps.BasicStep.TheVariants as basic
use Rattle.brisk_derivation.specs.Steps.{Basic}
use Rattle.brisk_rules.specs.Derives.{apply_quietly, items_in, rule_of}
use Rattle.brisk_rules.specs.Following.{Follow}
use Rattle.brisk_rules.specs.Heads.{for_of}
use Rattle.brisk_rules.specs.Rules.{Outcome}
use Rattle.brisk_rules.specs.Standing.{movable, least_free, stands_at, thread_of}
use Rattle.brisk_search.specs.Turns.{Goes, Attempt, stay, ◌otherwise◌, due}
use Rattle.brisk_search.specs.Drives.{Drive, Driver}
use Rattle.brisk_search.specs.Tries.{while_rule, for_rule, repeat_rule, gather_rule, pick_rule, nine_tries, branch}

-- What is around a turn: the program; what drives the premises of rules, where these aren't nested too deep; the drive of a
-- branch's sides, by its owner and the code after it; and what follows the code of each thread.
pub record Around : Type 0 where
  pub program : Program
  pub below : Option Driver
  pub side : Name → Code → Drive
  pub follows : Follow

-- a basic rule, which is due where its tests hold
abbrev pub applied : BasicStep → Outcome Applied → Attempt
applied b (Ok r) failures left = due left (Goes (Basic b) (items_in r.statement) r.next)
applied b (Err why) failures left = stay failures left

abbrev pub basically : Around → Symbolic → BasicStep → Attempt
basically around S b = applied b (apply_quietly around.program around.follows S (rule_of b))

-- the send is filled, where a number is free
abbrev pub filled : Around → Symbolic → Name → Name → Name → Option ℕ → Attempt
filled around S t u c None = stay
filled around S t u c (Some n) = basically around S (basic.Fill t u c n)

-- the threads at a `for` over this set
abbrev pub threads_at : Symbolic → Name → List Name
threads_at S s = filter (λ u. is_some (for_of s (stands_at S u))) (movable S)

-- several owners
abbrev pub several : (List Name → Attempt) → List Name → Attempt
several attempt (t ∷ u ∷ ts) = attempt (t ∷ u ∷ ts)
several attempt ts = stay

-- what the thread does that stands at this code
abbrev pub acts : Around → Symbolic → Name → Code → Attempt
acts around S t done = stay
acts around S t (Assign x e ⨾ rest) = basically around S (basic.Assign t)
acts around S t (Send c es u ⨾ rest) = basically around S (basic.Pass t (thread_of u) c) otherwise filled around S t (thread_of u) c (least_free S.pending)
acts around S t (Recv c xs u ⨾ rest) = basically around S (basic.Take (thread_of u) t c)
acts around S t (If e a ⨾ rest) = basically around S (basic.Known t) otherwise branch around.below around.follows (around.side t rest) S t
acts around S t (IfElse e a b ⨾ rest) = basically around S (basic.Known t) otherwise branch around.below around.follows (around.side t rest) S t
acts around S t (While e b ⨾ rest) =
    if is_known (folded S.facts t e) (value.Bool false)
    then basically around S (basic.Known t)
    else (nine_tries around.program around.below S (while_rule around.follows S t) otherwise basically around S (basic.Known t))
acts around S t (For v s k b ⨾ rest) =
    nine_tries around.program around.below S (for_rule around.follows S t s (t ∷ []))
    otherwise several (λ ts. nine_tries around.program around.below S (for_rule around.follows S t s ts)) (threads_at S s)
acts around S t (Repeat s k b ⨾ rest) =
    nine_tries around.program around.below S (gather_rule around.follows S t) otherwise nine_tries around.program around.below S (repeat_rule around.follows S t)
acts around S t (RecvAny c xs v s b ⨾ rest) = nine_tries around.program around.below S (pick_rule around.program around.follows S t)

-- whom the thread waits for that stands at this code: the sender, at a receive that can't be taken
abbrev pub unless_taken : Name → Outcome Applied → Option Name
unless_taken u (Ok r) = None
unless_taken u (Err why) = Some u

abbrev pub waits_for : Around → Symbolic → Name → Code → Option Name
waits_for around S t (Recv c xs u ⨾ rest) = unless_taken (thread_of u) (apply_quietly around.program around.follows S (rule_of (basic.Take (thread_of u) t c)))
waits_for around S t code = None

-- the code of a thread that rules move, where it has any
abbrev pub at_code : Option Code → (Code → Option Name) → Option Name
at_code None go = None
at_code (Some done) go = None
at_code (Some (s ⨾ c)) go = go (s ⨾ c)

-- the turn is passed on to whom the thread waits for, unless that one is on the list
abbrev pub passed_on : (Name → Option Name) → List Name → Name → Option Name → Option Name
passed_on go waiting t None = Some t
passed_on go waiting t (Some u) = if is_among waiting u then None else go u

-- Who acts in the turn of a thread, with a list of those that wait for it: the thread, or who acts for the one that it waits
-- for; it is then put on the list, which has room for so many.
abbrev pub actor : Around → ℕ → Symbolic → List Name → Name → Option Name
actor around zero S waiting t = None
actor around (suc room) S waiting t = at_code (code_at S t) (λ code. passed_on (actor around room S (t ∷ waiting)) waiting t (waits_for around S t code))

-- the turn of a thread for which this one acts
abbrev pub acts_for : Around → Symbolic → Option Name → Attempt
acts_for around S None = stay
acts_for around S (Some u) = acts around S u (stands_at S u)

-- the turn of a thread
abbrev pub advance : Around → Symbolic → Name → Attempt
advance around S t = acts_for around S (actor around (length S.threads) S [] t)
