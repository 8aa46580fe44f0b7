-- What a derivation derives, or the first of its tests that fails, with the line at which this is told.
use Rattle.std.specs.Prelude.{◌≡◌, ℕ, ◌+◌, List, [], ◌∷◌, map, Option, Some, None, Result, Ok, Err, if◌then◌else◌, nat_lt}
use Rattle.brisk_values.specs.Names.{Name}
use Rattle.brisk_syntax.specs.declared.program.Program.{Program}
use Rattle.brisk_syntax.specs.Roles.{RoleText}
use Rattle.brisk_syntax.specs.Syntax.{done}
use Rattle.brisk_seq.specs.declared.tree.SeqProgram.{SeqProgram}
use Rattle.brisk_seq.specs.Items.{Item, Items, nothing, ◌⨟◌, ◌followed_by◌}
use Rattle.brisk_state.specs.declared.thread.Thread.{Thread}
use Rattle.brisk_state.specs.Same.{same_code}
use Rattle.brisk_state.specs.Symbolic.{Symbolic, initial}
use Rattle.brisk_basic.specs.declared.rule.Basic.{Basic as BasicRule}
use Rattle.brisk_basic.specs.declared.rule.Basic.TheVariants as rule
use Rattle.brisk_basic.specs.Basic.{Applied, apply}
use Rattle.brisk_basic.specs.Outcomes.{when, and_then, told_as}
use Rattle.brisk_derivation.specs.declared.fault.SideFault.TheVariants.{TooDeep, Unfinished}
use Rattle.brisk_derivation.specs.declared.steps.BasicStep.{BasicStep}
use Rattle.brisk_derivation.specs.declared.steps.BasicStep.TheVariants as basic
use Rattle.brisk_derivation.specs.Steps.{Step, Basic, Branch, While, For, Repeat, Gather, Pick, Steps, no_steps, ◌▷◌}
use Rattle.brisk_rules.specs.declared.why.Why.{Why}
use Rattle.brisk_rules.specs.declared.why.Why.TheVariants.{Rule, Side}
use Rattle.brisk_rules.specs.Following.{Follow, nothing_follows, loose_fault, follows_in}
use Rattle.brisk_rules.specs.Rules.{Outcome, fault_or, Entered, around, Parted, around_sides, close, enter_while, enter_for, enter_repeat, enter_gather, enter_pick, enter_branch, join}

-- the test that fails first, and the line of the derivation's text at which this is told
pub record Failure : Type 0 where
  pub line : ℕ
  pub why : Why

-- what steps derive: the items, the state at their end, and the line that comes next
pub record Derived : Type 0 where
  pub items : Items
  pub state : Symbolic
  pub line : ℕ

-- an outcome whose failure is told at this line
abbrev pub told_at : {A : Type 0} → ℕ → Outcome A → Result A Failure
told_at line = told_as (λ why. record { line = line; why = why })

-- steps from a line and a state on
abbrev pub Premise : Type 0
Premise = ℕ → Symbolic → Result Derived Failure

-- at most 256 rules stand one in another
abbrev pub nested : {A : Type 0} → ℕ → Outcome A → Outcome A
nested deep more = when (nat_lt deep 256) (Side TooDeep) more

-- the statement of a basic rule as items
abbrev pub items_in : Option Item → Items
items_in None = nothing
items_in (Some q) = q ⨟ nothing

-- the basic rule of a step
abbrev pub rule_of : BasicStep → BasicRule
rule_of (basic.Assign t) = rule.Assign t
rule_of (basic.Fill t u c n) = rule.Fill t u c n
rule_of (basic.Pass t u c) = rule.Pass t u c
rule_of (basic.Take t u c) = rule.Take t u c
rule_of (basic.Known t) = rule.Known t

-- a basic rule, with its tests for loose channels after its own
abbrev pub apply_quietly : Program → Follow → Symbolic → BasicRule → Outcome Applied
apply_quietly P F S b = and_then (told_as Rule (apply S b)) (fault_or (loose_fault P F S b))

-- a basic step
abbrev pub by_basic : Program → Follow → ℕ → Symbolic → BasicStep → Result Derived Failure
by_basic P F line S b =
    and_then (told_at line (apply_quietly P F S (rule_of b))) (λ r.
    Ok record { items = items_in r.statement; state = r.next; line = line + 1 })

-- a rule with one premise: it is entered at its line and closed at the line after its premise
abbrev pub by_loop : ℕ → ℕ → Outcome Entered → (Entered → Premise) → Result Derived Failure
by_loop deep line entry premise =
    and_then (told_at line (nested deep entry)) (λ r.
    and_then (premise r (line + 1) r.start) (λ d.
    and_then (told_at d.line (close r d.state)) (λ S.
    Ok record { items = around r.kind d.items ⨟ nothing; state = S; line = d.line + 1 })))

-- a branch: entered at its line, with a line between its sides, and joined at the line after the second
abbrev pub by_branch : ℕ → ℕ → Outcome Parted → Premise → Premise → Result Derived Failure
by_branch deep line entry first second =
    and_then (told_at line (nested deep entry)) (λ r.
    and_then (first (line + 1) r.first) (λ d.
    and_then (second (d.line + 1) r.second) (λ e.
    and_then (told_at e.line (join d.state e.state)) (λ S.
    Ok record { items = around_sides r d.items e.items ⨟ nothing; state = S; line = e.line + 1 }))))

-- What a step derives, and what steps derive one after another, inside so many rules, where this follows, and from a line and
-- a state on.
abbrev mutual
  pub derive : Program → ℕ → Follow → Step → Premise
  derive P deep F (Basic b) line S = by_basic P F line S b
  derive P deep F (Branch t a b) line S = by_branch deep line (enter_branch S t) (derive_all P (deep + 1) F a) (derive_all P (deep + 1) F b)
  derive P deep F (While t drops a) line S = by_loop deep line (enter_while S t drops) (λ r. derive_all P (deep + 1) (follows_in S r F) a)
  derive P deep F (For s ts drops a) line S = by_loop deep line (enter_for S s ts drops) (λ r. derive_all P (deep + 1) (follows_in S r F) a)
  derive P deep F (Repeat t drops a) line S = by_loop deep line (enter_repeat S t drops) (λ r. derive_all P (deep + 1) (follows_in S r F) a)
  derive P deep F (Gather t drops a) line S = by_loop deep line (enter_gather S t drops) (λ r. derive_all P (deep + 1) (follows_in S r F) a)
  derive P deep F (Pick t drops a) line S = by_loop deep line (enter_pick P S t drops) (λ r. derive_all P (deep + 1) (follows_in S r F) a)

  pub derive_all : Program → ℕ → Follow → Steps → Premise
  derive_all P deep F no_steps line S = Ok record { items = nothing; state = S; line = line }
  derive_all P deep F (s ▷ rest) line S =
      and_then (derive P deep F s line S) (λ d.
      and_then (derive_all P deep F rest d.line d.state) (λ e.
      Ok record e { items = d.items followed_by e.items }))

-- the first thread that has code left
abbrev pub first_unfinished : List Thread → Option Name
first_unfinished [] = None
first_unfinished (t ∷ ts) = if same_code t.code done then first_unfinished ts else Some t.name

-- the role without its code
abbrev pub without_code : RoleText → RoleText
without_code r = record r { code = done }

-- the sequential program with the declarations of P and this body
abbrev pub sequential : Program → Items → SeqProgram
sequential P body = record { enums = P.enums; roles = map without_code P.roles; body = body }

-- the program, unless a thread has code left at the end, which is told at this line
abbrev pub unless_unfinished : ℕ → Option Name → SeqProgram → Result SeqProgram Failure
unless_unfinished line None Q = Ok Q
unless_unfinished line (Some t) Q = Err record { line = line; why = Side (Unfinished t) }

-- the sequential program at the end of a derivation
abbrev pub finish : Program → Derived → Result SeqProgram Failure
finish P d = unless_unfinished d.line (first_unfinished d.state.threads) (sequential P d.items)

-- the sequential program of a derivation, or the first of its tests that fails; its first step stands at line 2
abbrev pub outcome : Program → Steps → Result SeqProgram Failure
outcome P D = and_then (derive_all P 0 nothing_follows D 2 (initial P)) (finish P)

-- the derivation is valid and has this sequential program
abbrev pub Valid : Program → Steps → SeqProgram → Type 0
Valid P D Q = outcome P D ≡ Ok Q

-- the derivation isn't valid: this fails first
abbrev pub Invalid : Program → Steps → Failure → Type 0
Invalid P D failure = outcome P D ≡ Err failure

-- the sequential program has a valid derivation
abbrev pub Derivable : Program → SeqProgram → Type 0
Derivable P Q = (D : Steps) × Valid P D Q
