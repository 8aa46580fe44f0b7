-- When a report holds of where a program stops: its steps lead to a state that is stuck, with these tries.
use Rattle.std.specs.Prelude.{◌≡◌, ℕ, zero, ◌+◌, Bool, true, false, ◌&&◌, ◌||◌, not, List, [], ◌∷◌, Option, Some, None, Result, Ok, Err, is_some, is_ok}
use Rattle.std.specs.List.{list_any, list_all}
use Rattle.brisk_values.specs.Names.{Name, same_name}
use Rattle.brisk_syntax.specs.declared.program.Program.{Program}
use Rattle.brisk_syntax.specs.Syntax.{Assign, Send, Recv, RecvAny, If, IfElse, Code, done, ◌⨾◌}
use Rattle.brisk_syntax.specs.Syntax as syntax
use Rattle.brisk_syntax.specs.Typing.{is_among}
use Rattle.brisk_state.specs.declared.thread.Mode.{Mode}
use Rattle.brisk_state.specs.declared.thread.Mode.TheVariants.{At, Each}
use Rattle.brisk_state.specs.Same.{same_code}
use Rattle.brisk_state.specs.Symbolic.{Symbolic, thread_named, same_but_facts, initial}
use Rattle.brisk_basic.specs.declared.rule.RuleFault.TheVariants.{WrongHead}
use Rattle.brisk_derivation.specs.declared.fault.SideFault.{SideFault}
use Rattle.brisk_derivation.specs.declared.fault.SideFault.TheVariants as side
use Rattle.brisk_derivation.specs.declared.report.Report.{Report}
use Rattle.brisk_derivation.specs.declared.steps.BasicStep.{BasicStep}
use Rattle.brisk_derivation.specs.declared.steps.BasicStep.TheVariants as basic
use Rattle.brisk_derivation.specs.Reports.{Try, Tried, TryEnd, Fails, StuckFirst, StuckSecond, Tries, no_tries, ◌▹◌}
use Rattle.brisk_derivation.specs.Steps.{Step, Basic, Branch, While, For, Repeat, Gather, Pick, Steps, no_steps}
use Rattle.brisk_rules.specs.declared.why.Why.{Why}
use Rattle.brisk_rules.specs.declared.why.Why.TheVariants.{Rule, Side}
use Rattle.brisk_rules.specs.Derives.{nested, rule_of, apply_quietly, derive_all, first_unfinished}
use Rattle.brisk_rules.specs.Following.{Follow, nothing_follows, follows_in}
use Rattle.brisk_rules.specs.Heads.{fork_of, while_of, repeat_of, for_of, any_of, gather_of}
use Rattle.brisk_rules.specs.Rules.{Outcome, Entered, Parted, mode_of, enter_while, enter_for, enter_repeat, enter_gather, enter_pick, enter_branch}
use Rattle.brisk_rules.specs.Standing.{stands_at, has_code, movable, resting, thread_of, least_free, owners_of, fault_aside, candidates}

-- the basic rule applies
abbrev pub applies : Program → Follow → Symbolic → BasicStep → Bool
applies P F S b = is_ok (apply_quietly P F S (rule_of b))

-- the fill of a send, where a number is free
abbrev pub fills : Name → Name → Name → Option ℕ → List BasicStep
fills t u c None = []
fills t u c (Some n) = basic.Fill t u c n ∷ []

-- the basic rules that may move a thread which stands at this code
abbrev pub basic_rules : Symbolic → Name → Code → List BasicStep
basic_rules S t (Assign x e ⨾ rest) = basic.Assign t ∷ []
basic_rules S t (Send c es u ⨾ rest) = basic.Pass t (thread_of u) c ∷ fills t (thread_of u) c (least_free S.pending)
basic_rules S t (Recv c xs u ⨾ rest) = basic.Take (thread_of u) t c ∷ basic.Pass (thread_of u) t c ∷ []
basic_rules S t (If e a ⨾ rest) = basic.Known t ∷ []
basic_rules S t (IfElse e a b ⨾ rest) = basic.Known t ∷ []
basic_rules S t (syntax.While e b ⨾ rest) = basic.Known t ∷ []
basic_rules S t code = []

-- a basic rule moves the thread
abbrev pub moves : Program → Follow → Symbolic → Name → Bool
moves P F S t = list_any (applies P F S) (basic_rules S t (stands_at S t))

-- the loop is over a set
abbrev pub is_over_a_set : Option Mode → Bool
is_over_a_set (Some At) = true
is_over_a_set (Some Each) = true
is_over_a_set mode = false

-- a compound rule begins at this head
abbrev pub is_compound : Symbolic → Code → Bool
is_compound S (If e a ⨾ rest) = true
is_compound S (IfElse e a b ⨾ rest) = true
is_compound S (syntax.While e b ⨾ rest) = true
is_compound S (syntax.For v s zero b ⨾ rest) = is_over_a_set (mode_of (thread_named S.threads s))
is_compound S (syntax.Repeat s zero b ⨾ rest) = true
is_compound S (RecvAny c xs v s b ⨾ rest) = true
is_compound S code = false

-- the rule is one for the thread t at this code
abbrev pub is_for : Name → Code → Step → Bool
is_for t code (Basic b) = false
is_for t code (Branch u a b) = same_name t u && is_some (fork_of code)
is_for t code (While u drops a) = same_name t u && is_some (while_of code)
is_for t code (For s ts drops a) = is_among ts t && is_some (for_of s code)
is_for t code (Repeat u drops a) = same_name t u && is_some (repeat_of code)
is_for t code (Gather u drops a) = same_name t u && is_some (gather_of code)
is_for t code (Pick u drops a) = same_name t u && is_some (any_of code)

-- the rule is a `for` over the set without owners
abbrev pub is_for_set : Name → Step → Bool
is_for_set s (For r [] drops a) = same_name s r
is_for_set s rule = false

-- there is a try by such a rule
abbrev pub has_try : (Step → Bool) → Tries → Bool
has_try test no_tries = false
has_try test (Tried rule end ▹ more) = test rule || has_try test more

-- nothing more can be done at the thread's head: no basic rule moves it, and what compound rules it has were tried
abbrev pub is_told : Program → Follow → Symbolic → Tries → Name → Bool
is_told P F S tries t = not (moves P F S t) && (not (is_compound S (stands_at S t)) || has_try (is_for t (stands_at S t)) tries)

-- no thread can go on, and at the outermost state no set can
abbrev pub all_told : Program → Follow → Bool → Symbolic → Tries → Bool
all_told P F outermost S tries =
    list_all (is_told P F S tries) (movable S) && (not outermost || list_all (λ s. has_try (is_for_set s) tries) (resting S))

-- the two tests are the same
abbrev pub same_fault : SideFault → SideFault → Bool
same_fault side.TooDeep side.TooDeep = true
same_fault side.SetIsFocused side.SetIsFocused = true
same_fault side.MayBeEmpty side.MayBeEmpty = true
same_fault (side.OwnerUnfinished t) (side.OwnerUnfinished u) = same_name t u
same_fault (side.NotRestored t) (side.NotRestored u) = same_name t u
same_fault side.MailChanged side.MailChanged = true
same_fault side.FactLost side.FactLost = true
same_fault side.MailLeft side.MailLeft = true
same_fault side.NotQuiet side.NotQuiet = true
same_fault side.BranchesDiffer side.BranchesDiffer = true
same_fault (side.Unfinished t) (side.Unfinished u) = same_name t u
same_fault side.ManyPending side.ManyPending = true
same_fault side.SenderNotQuiet side.SenderNotQuiet = true
same_fault a b = false

-- this failed, and it is what was told
abbrev pub is_refused : Why → SideFault → Bool
is_refused (Side why) told = same_fault why told
is_refused (Rule why) told = false

abbrev pub is_fault : Option SideFault → SideFault → Bool
is_fault None told = false
is_fault (Some why) told = same_fault why told

-- the entry of a rule with one premise
abbrev pub entry : Program → Symbolic → Step → Outcome Entered
entry P S (While t drops a) = enter_while S t drops
entry P S (For s ts drops a) = enter_for S s ts drops
entry P S (Repeat t drops a) = enter_repeat S t drops
entry P S (Gather t drops a) = enter_gather S t drops
entry P S (Pick t drops a) = enter_pick P S t drops
entry P S rule = Err (Rule WrongHead)

-- the steps of its premise
abbrev pub premise_of : Step → Steps
premise_of (While t drops a) = a
premise_of (For s ts drops a) = a
premise_of (Repeat t drops a) = a
premise_of (Gather t drops a) = a
premise_of (Pick t drops a) = a
premise_of rule = no_steps

-- the code after the head
abbrev pub after_head : Code → Code
after_head done = done
after_head (s ⨾ rest) = rest

-- the test holds of what was given
abbrev pub where_ok : {A E : Type 0} → Result A E → (A → Bool) → Bool
where_ok (Ok a) test = test a
where_ok (Err why) test = false

-- inside so many rules the steps lead from here to a state that passes the test
abbrev pub lead : Program → ℕ → Follow → Steps → Symbolic → (Symbolic → Bool) → Bool
lead P deep F steps S test = where_ok (derive_all P deep F steps 2 S) (λ d. test d.state)

-- they lead to where the thread stands at this code, and there the test holds
abbrev pub lead_on : Program → ℕ → Follow → Name → Code → Steps → Symbolic → (Symbolic → Bool) → Bool
lead_on P deep F t rest steps S test = lead P deep F steps S (λ E. same_code (stands_at E t) rest && test E)

-- the owners are at their end, this close test is the first that fails, facts aside, and no candidate goes on
abbrev pub is_failed : Program → Follow → Entered → SideFault → Symbolic → Bool
is_failed P F r told E = not (list_any (has_code E) (owners_of r)) && is_fault (fault_aside r E) told && not (list_any (moves P F E) (candidates r E))

-- each of the tries holds, in this state and inside so many rules
abbrev mutual
  pub all_hold : Program → ℕ → Follow → Symbolic → Tries → Bool
  all_hold P deep F S no_tries = true
  all_hold P deep F S (t ▹ more) = try_holds P deep F S t && all_hold P deep F S more

  pub try_holds : Program → ℕ → Follow → Symbolic → Try → Bool
  try_holds P deep F S (Tried (Branch t a b) end) = branch_holds P deep F t (after_head (stands_at S t)) (nested deep (enter_branch S t)) a b end
  try_holds P deep F S (Tried rule end) = loop_holds P deep (λ r. follows_in S r F) (nested deep (entry P S rule)) (premise_of rule) end

  -- a rule with one premise: it isn't entered; or its owners come to their end; or its premise is stuck
  pub loop_holds : Program → ℕ → (Entered → Follow) → Outcome Entered → Steps → TryEnd → Bool
  loop_holds P deep G (Err why) a (Fails told) = is_refused why told
  loop_holds P deep G (Ok r) a (Fails told) = lead P (deep + 1) (G r) a r.start (is_failed P (G r) r told)
  loop_holds P deep G (Ok r) a (StuckFirst tries) = lead P (deep + 1) (G r) a r.start (λ E. all_told P (G r) false E tries && all_hold P (deep + 1) (G r) E tries)
  loop_holds P deep G outcome a end = false

  -- a branch, of which a side is done where its owner t stands at the code after it: it isn't entered; or both sides are
  -- done, and differ; or the first is stuck; or the first is done, and the second is stuck
  pub branch_holds : Program → ℕ → Follow → Name → Code → Outcome Parted → Steps → Steps → TryEnd → Bool
  branch_holds P deep F t rest (Err why) a b (Fails told) = is_refused why told
  branch_holds P deep F t rest (Ok p) a b (Fails told) =
      same_fault side.BranchesDiffer told
      && lead_on P (deep + 1) F t rest a p.first (λ E. lead_on P (deep + 1) F t rest b p.second (λ T. not (same_but_facts E T)))
  branch_holds P deep F t rest (Ok p) a b (StuckFirst tries) = lead P (deep + 1) F a p.first (λ E. all_told P F false E tries && all_hold P (deep + 1) F E tries)
  branch_holds P deep F t rest (Ok p) a b (StuckSecond tries) =
      lead_on P (deep + 1) F t rest a p.first (λ E. lead P (deep + 1) F b p.second (λ T. all_told P F false T tries && all_hold P (deep + 1) F T tries))
  branch_holds P deep F t rest outcome a b end = false

-- the report holds: its steps lead to a state with code, where nothing goes on and each of its tries holds
abbrev pub report_holds : Program → Report → Bool
report_holds P R = lead P 0 nothing_follows R.steps (initial P) (λ S. is_some (first_unfinished S.threads) && all_told P nothing_follows true S R.tries && all_hold P 0 nothing_follows S R.tries)

abbrev pub Reports : Program → Report → Type 0
Reports P R = report_holds P R ≡ true
