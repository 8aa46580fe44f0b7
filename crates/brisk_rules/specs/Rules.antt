-- The compound rules: where each may be entered, where its premise starts, and what its close asks and leaves.
use Rattle.std.specs.Prelude.{Bool, true, false, ◌&&◌, ◌||◌, not, List, [], ◌∷◌, map, Option, Some, None, Result, Ok, Err, if◌then◌else◌, nat_eq, length}
use Rattle.std.specs.List.{list_any, list_all}
use Rattle.brisk_values.specs.Names.{Name, same_name}
use Rattle.brisk_syntax.specs.declared.program.Program.{Program}
use Rattle.brisk_syntax.specs.Syntax.{Expression, Code, done}
use Rattle.brisk_syntax.specs.Typing.{is_among}
use Rattle.brisk_async.specs.Laws.{AnyReceive}
use Rattle.brisk_seq.specs.Items.{Item, Items}
use Rattle.brisk_seq.specs.Items as item
use Rattle.brisk_facts.specs.Facts.{Facts, facts_where, is_fact, common, joined}
use Rattle.brisk_facts.specs.Learning.{learn}
use Rattle.brisk_state.specs.declared.thread.Mode.{Mode}
use Rattle.brisk_state.specs.declared.thread.Mode.TheVariants.{At, Each}
use Rattle.brisk_state.specs.declared.thread.Thread.{Thread}
use Rattle.brisk_state.specs.Same.{same_code}
use Rattle.brisk_state.specs.Symbolic.{Key, key, Symbolic, thread_named, code_at, with_code, with_mode, numbers_at, pending_where, same_pending, same_but_facts}
use Rattle.brisk_basic.specs.declared.rule.RuleFault.{RuleFault}
use Rattle.brisk_basic.specs.declared.rule.RuleFault.TheVariants.{NoThread, WrongHead}
use Rattle.brisk_basic.specs.Basic.{at_thread}
use Rattle.brisk_basic.specs.Outcomes.{when, and_then, told_as}
use Rattle.brisk_quiet.specs.declared.stillness.Stillness.{Stillness}
use Rattle.brisk_quiet.specs.declared.stillness.Stillness.TheVariants.{Blocks, Ends, Sends}
use Rattle.brisk_quiet.specs.Quiet.{quiet}
use Rattle.brisk_derivation.specs.declared.fault.SideFault.{SideFault}
use Rattle.brisk_derivation.specs.declared.fault.SideFault.TheVariants.{SetIsFocused, MayBeEmpty, OwnerUnfinished, NotRestored, MailChanged, FactLost, MailLeft, NotQuiet, BranchesDiffer}
use Rattle.brisk_derivation.specs.declared.steps.Fact.{Fact}
use Rattle.brisk_rules.specs.declared.why.Why.{Why}
use Rattle.brisk_rules.specs.declared.why.Why.TheVariants.{Rule, Side}
use Rattle.brisk_rules.specs.Heads.{fork_of, while_of, Loop, repeat_of, for_of, any_of, gather_of, from_focus}

-- what a rule gives, or the first of its tests that fails
abbrev pub Outcome : Type 0 → Type 0
Outcome A = Result A Why

-- the head that is wanted
abbrev pub wanted : {H : Type 0} → Option H → Result H RuleFault
wanted None = Err WrongHead
wanted (Some h) = Ok h

-- goes on at the head of t, where rules move t and its code has such a head
abbrev pub at_head : {A H : Type 0} → Symbolic → Name → (Code → Option H) → (H → Outcome A) → Outcome A
at_head S t head go = and_then (told_as Rule (at_thread (code_at S t) (λ code. wanted (head code)))) go

-- the facts without those to drop
abbrev pub without_drops : List Fact → Facts → Facts
without_drops drops = facts_where (λ q. not (list_any (λ d. same_name d.at q.0 && same_name d.variable q.1) drops))

-- What a close looks at: everything; everything but the set in focus; or that set alone.
pub data Scope : Type 0 where
  Everything : Scope
  Outside : (s : Name) → Scope
  Inside : (s : Name) → Scope

-- the close looks at this role
abbrev pub looks_at : Scope → Name → Bool
looks_at Everything u = true
looks_at (Outside s) u = not (same_name s u)
looks_at (Inside s) u = same_name s u

-- the close looks at this key: outside a set at keys without the set, and inside at those with it
abbrev pub looks_at_key : Scope → Key → Bool
looks_at_key Everything k = true
looks_at_key (Outside s) k = not (same_name s k.from || same_name s k.to)
looks_at_key (Inside s) k = same_name s k.from || same_name s k.to

-- the threads, where the set that was in focus is closed
abbrev pub unfocused : Scope → List Thread → List Thread
unfocused Everything threads = threads
unfocused (Outside s) threads = with_mode s Each threads
unfocused (Inside s) threads = with_mode s Each threads

-- an owner of a rule, and the code at which it stands after the rule
pub record Owner : Type 0 where
  pub name : Name
  pub rest : Code

-- What a rule is, once it is entered, with what its close needs: a while with its owner and guard; a repeat, a for and a
-- pick with their set; and a gather with its owner, set and channel.
pub data Kind : Type 0 where
  While : (owner : Name) (guard : Expression) → Kind
  Repeat : (set : Name) → Kind
  For : (set : Name) → Kind
  Gather : (owner set channel : Name) → Kind
  Pick : (set : Name) → Kind

-- A rule that was entered: its premise's start; the facts that its close tests; its owners in the order named; and its kind.
pub record Entered : Type 0 where
  pub start : Symbolic
  pub known : Facts
  pub owners : List Owner
  pub kind : Kind

-- what its close looks at
abbrev pub looks : Kind → Scope
looks (While t e) = Everything
looks (Repeat s) = Everything
looks (For s) = Outside s
looks (Gather t s c) = Outside s
looks (Pick s) = Inside s

-- the facts, with what is learnt where its guard has this truth
abbrev pub learnt : Kind → Bool → Facts → Facts
learnt (While t e) truth facts = learn t facts e truth
learnt (Repeat s) truth facts = facts
learnt (For s) truth facts = facts
learnt (Gather t s c) truth facts = facts
learnt (Pick s) truth facts = facts

-- the loop around the premise's items
abbrev pub around : Kind → Items → Item
around (While t e) = item.While t e
around (Repeat s) = item.Repeat s
around (For s) = item.For s
around (Gather t s c) = item.ForAny s
around (Pick s) = item.Pick s

-- the fault, unless the test holds
abbrev pub unless : Bool → SideFault → Option SideFault
unless true fault = None
unless false fault = Some fault

-- the first fault, if there is one
abbrev pub first_fault : List (Option SideFault) → Option SideFault
first_fault [] = None
first_fault (Some fault ∷ more) = Some fault
first_fault (None ∷ more) = first_fault more

-- the code of a thread, and none where there is no thread
abbrev pub code_in : Option Thread → Code
code_in None = done
code_in (Some u) = u.code

-- the walk doesn't find a send
abbrev pub is_quiet : Stillness → Bool
is_quiet Blocks = true
is_quiet Ends = true
is_quiet Sends = false

-- what the close of a gather asks of the member in focus: no message of it is left, and it is quiet
abbrev pub gather_tests : Name → Name → Name → Symbolic → List (Option SideFault)
gather_tests t s c E =
    unless (nat_eq (length (numbers_at E.pending (key s t c))) 0) MailLeft
    ∷ unless (is_quiet (quiet E (code_in (thread_named E.threads s)) s t c)) NotQuiet
    ∷ []

-- the tests that a close makes last
abbrev pub last_tests : Kind → Symbolic → List (Option SideFault)
last_tests (While t e) E = []
last_tests (Repeat s) E = []
last_tests (For s) E = []
last_tests (Gather t s c) E = gather_tests t s c E
last_tests (Pick s) E = []

-- an owner has code left
abbrev pub unfinished : Symbolic → Owner → Option SideFault
unfinished E o = unless (same_code (code_in (thread_named E.threads o.name)) done) (OwnerUnfinished o.name)

-- the codes of two threads in the same place differ, where the close looks at them
abbrev pub not_restored : (Name → Bool) → List Thread → List Thread → Option SideFault
not_restored looks (t ∷ ts) (u ∷ us) =
    first_fault ((if looks t.name then unless (same_code t.code u.code) (NotRestored t.name) else None) ∷ not_restored looks ts us ∷ [])
not_restored looks ts us = None

-- the close looks at the code of this thread: owners are exempt
abbrev pub looks_at_code : Entered → Name → Bool
looks_at_code r u = looks_at (looks r.kind) u && not (list_any (λ o. same_name u o.name) r.owners)

-- the tests of a close in order, at the premise's end E
abbrev pub close_tests : Entered → Symbolic → List (Option SideFault)
close_tests r E =
    first_fault (map (unfinished E) r.owners)
    ∷ not_restored (looks_at_code r) r.start.threads E.threads
    ∷ unless (same_pending (pending_where (looks_at_key (looks r.kind)) r.start.pending) (pending_where (looks_at_key (looks r.kind)) E.pending)) MailChanged
    ∷ unless (list_all (is_fact E.facts) (facts_where (λ q. looks_at (looks r.kind) q.0) r.known)) FactLost
    ∷ last_tests r.kind E

-- the owners stand at their rests
abbrev pub at_rests : List Owner → List Thread → List Thread
at_rests [] threads = threads
at_rests (o ∷ os) threads = at_rests os (with_code o.name o.rest threads)

-- The state after a close: that of the end, but with the owners at their rests and the set closed. The facts are the tested
-- ones, those of the end where the close didn't look, and what is learnt.
abbrev pub after_close : Entered → Symbolic → Symbolic
after_close r E = record {
  threads = at_rests r.owners (unfocused (looks r.kind) E.threads);
  pending = E.pending;
  facts = learnt r.kind false (joined (facts_where (λ q. looks_at (looks r.kind) q.0) r.known) (facts_where (λ q. not (looks_at (looks r.kind) q.0)) E.facts));
}

-- the fault, or else this
abbrev pub fault_or : {A : Type 0} → Option SideFault → A → Outcome A
fault_or None a = Ok a
fault_or (Some fault) a = Err (Side fault)

-- the next state at the close, or the first test that fails
abbrev pub close : Entered → Symbolic → Outcome Symbolic
close r E = fault_or (first_fault (close_tests r E)) (after_close r E)

-- a rule with one owner and no set in focus: a while or a repeat
abbrev pub entered_alone : Symbolic → Name → Code → Code → Facts → Kind → Entered
entered_alone S t body rest known kind = record {
  start = record S { threads = with_code t body S.threads; facts = learnt kind true known };
  known = known;
  owners = record { name = t; rest = rest } ∷ [];
  kind = kind;
}

-- while t
abbrev pub enter_while : Symbolic → Name → List Fact → Outcome Entered
enter_while S t drops = at_head S t while_of (λ w. Ok (entered_alone S t w.body w.rest (without_drops drops S.facts) (While t w.guard)))

-- repeat t
abbrev pub enter_repeat : Symbolic → Name → List Fact → Outcome Entered
enter_repeat S t drops = at_head S t repeat_of (λ r. Ok (entered_alone S t r.body r.rest (without_drops drops S.facts) (Repeat r.set)))

-- the mode of a thread
abbrev pub mode_of : Option Thread → Option Mode
mode_of None = None
mode_of (Some u) = Some u.mode

-- the set isn't in focus
abbrev pub not_focused : {A : Type 0} → Option Mode → Outcome A → Outcome A
not_focused (Some At) more = Err (Side SetIsFocused)
not_focused mode more = more

-- the name is that of a set which isn't in focus
abbrev pub can_focus : {A : Type 0} → Option Mode → Outcome A → Outcome A
can_focus (Some Each) more = more
can_focus (Some At) more = Err (Side SetIsFocused)
can_focus mode more = Err (Rule NoThread)

-- the loops at which the owners of a `for` stand, and no owner is named twice
abbrev pub loops_of : Symbolic → Name → List Name → List Name → Outcome (List Loop)
loops_of S s before [] = Ok []
loops_of S s before (t ∷ ts) =
    at_head S t (for_of s) (λ l.
    when (not (is_among before t)) (Rule WrongHead) (
    and_then (loops_of S s (t ∷ before) ts) (λ ls. Ok (l ∷ ls))))

-- each owner stands at its body
abbrev pub at_bodies : List Name → List Loop → List Thread → List Thread
at_bodies (t ∷ ts) (l ∷ ls) threads = at_bodies ts ls (with_code t l.body threads)
at_bodies ts ls threads = threads

-- each owner with its rest
abbrev pub with_rests : List Name → List Loop → List Owner
with_rests (t ∷ ts) (l ∷ ls) = record { name = t; rest = l.rest } ∷ with_rests ts ls
with_rests ts ls = []

-- for s by ts
abbrev pub enter_for : Symbolic → Name → List Name → List Fact → Outcome Entered
enter_for S s ts drops =
    can_focus (mode_of (thread_named S.threads s)) (
    and_then (loops_of S s [] ts) (λ ls.
    Ok record {
      start = record S { threads = at_bodies ts ls (with_mode s At S.threads); facts = without_drops drops S.facts };
      known = without_drops drops S.facts;
      owners = with_rests ts ls;
      kind = For s;
    }))

-- a rule with one owner, at a receive from any, that brings one member into focus: a gather or a pick
abbrev pub entered_any : Symbolic → Name → AnyReceive → List Fact → Kind → Entered
entered_any S t a drops kind = record {
  start = record S { threads = with_code t (from_focus a) (with_mode a.set At S.threads); facts = without_drops drops S.facts };
  known = without_drops drops S.facts;
  owners = record { name = t; rest = a.rest } ∷ [];
  kind = kind;
}

-- gather t
abbrev pub enter_gather : Symbolic → Name → List Fact → Outcome Entered
enter_gather S t drops =
    at_head S t gather_of (λ a.
    not_focused (mode_of (thread_named S.threads a.set)) (
    Ok (entered_any S t a drops (Gather t a.set a.channel))))

-- the set is declared `nonempty`
abbrev pub is_nonempty : Program → Name → Bool
is_nonempty P s = list_any (λ r. same_name s r.name && r.many && r.nonempty) P.roles

-- pick t
abbrev pub enter_pick : Program → Symbolic → Name → List Fact → Outcome Entered
enter_pick P S t drops =
    at_head S t any_of (λ a.
    not_focused (mode_of (thread_named S.threads a.set)) (
    when (is_nonempty P a.set) (Side MayBeEmpty) (
    Ok (entered_any S t a drops (Pick a.set)))))

-- a branch that was entered: where its two sides start, its owner and its guard
pub record Parted : Type 0 where
  pub first : Symbolic
  pub second : Symbolic
  pub owner : Name
  pub guard : Expression

-- the if around the items of the two sides
abbrev pub around_sides : Parted → Items → Items → Item
around_sides r = item.If r.owner r.guard

-- one side of a branch: t stands at its code, and the guard's truth is learnt
abbrev pub side : Symbolic → Name → Expression → Bool → Code → Symbolic
side S t e truth code = record S { threads = with_code t code S.threads; facts = learn t S.facts e truth }

-- branch t
abbrev pub enter_branch : Symbolic → Name → Outcome Parted
enter_branch S t =
    at_head S t fork_of (λ f.
    Ok record { first = side S t f.guard true f.first; second = side S t f.guard false f.second; owner = t; guard = f.guard })

-- the two ends of a branch are the same in threads and pending; the facts that both have are kept
abbrev pub join : Symbolic → Symbolic → Outcome Symbolic
join E F = when (same_but_facts E F) (Side BranchesDiffer) (Ok record E { facts = common E.facts F.facts })
