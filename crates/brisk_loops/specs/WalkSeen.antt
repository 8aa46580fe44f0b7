-- What contracts see of a walk: its rules, and numbers that stay at the greatest `u64` where they would pass it.
use Rattle.std.specs.Prelude.{◌≡◌, ℕ, ◌+◌, List, [], ◌∷◌, map, reverse, Option, Some, None, Result, Ok, Err}
use Rattle.brisk_syntax.specs.declared.program.Program.{Program}
use Rattle.brisk_state.specs.Symbolic.{Symbolic}
use Rattle.brisk_basic.specs.declared.rule.RuleFault.{RuleFault}
use Rattle.brisk_basic.specs.declared.rule.RuleFault.TheVariants as basic_fault
use Rattle.brisk_derivation.specs.Seen.{step_of}
use Rattle.brisk_rules.specs.declared.why.Why.{Why}
use Rattle.brisk_rules.specs.declared.why.Why.TheVariants.{Rule as of_rule, Side as of_side}
use Rattle.brisk_derivation.specs.declared.fault.SideFault.{SideFault}
use Rattle.brisk_loops.specs.declared.fault.AcceptFault.{AcceptFault}
use Rattle.brisk_loops.specs.declared.fault.AcceptFault.TheVariants.{Bad, NoMemory}
use Rattle.brisk_loops.specs.declared.rule.Rule.{Rule}
use Rattle.brisk_loops.specs.declared.rule.Side.{Side}
use Rattle.brisk_loops.specs.declared.rule.Side.TheVariants as side
use Rattle.brisk_rules.specs.Rules.{Outcome, Repeat}
use Rattle.brisk_rules.specs.Derives.{Failure}
use Rattle.brisk_loops.specs.WalkKept.{kept, capped}
use Rattle.brisk_loops.specs.Walk.{Inside, Premise, First, Second, Open, Walked, Called, entry}

-- Where a walk stands in a rule that it entered: what the step enters says it, and the side. The last clause is never met.
abbrev pub inside_of : Outcome Inside → Side → Symbolic → Inside
inside_of (Ok (First r)) (side.Second E X) S = Second r E X
inside_of (Ok i) s S = i
inside_of (Err why) s S = Premise record { start = S; known = []; owners = []; kind = Repeat [] }

-- the step enters something, and the walk stands on a side that there is
abbrev pub IsEntered : Outcome Inside → Side → Type 0
IsEntered (Ok (Premise r)) side.First = Unit {0}
IsEntered (Ok (First r)) s = Unit {0}
IsEntered x s = ⊥

abbrev pub AreEntered : Program → List Rule → Type 0
AreEntered P [] = Unit {0}
AreEntered P (r ∷ rs) = IsEntered (entry P r.state (step_of r.step)) r.side × AreEntered P rs

-- a rule that was entered
abbrev pub open_of : Program → Rule → Open
open_of P r = record {
  step = step_of r.step;
  inside = inside_of (entry P r.state (step_of r.step)) r.side r.state;
  state = r.state;
  items = r.items;
  counted = r.counted;
}

-- the rules that were entered, of which the innermost stands last
abbrev pub opened_by : Program → List Rule → List Open
opened_by P rules = reverse (map (open_of P) rules)

-- where the second side of a branch starts, in its first side
abbrev pub second_of : Inside → Option Symbolic
second_of (First r) = Some r.second
second_of i = None

-- the call gives this walk, but for numbers too great
abbrev pub Gives : Called → Walked → Type 0
Gives call v = (w : Walked) × (call ≡ Ok w) × (v ≡ capped w)

-- the call fails so, or there is no memory
abbrev pub Fails : {A : Type 0} → Result A Failure → AcceptFault → Type 0
Fails call (Bad at why) = (k : ℕ) × (call ≡ Err record { line = k; why = why }) × (at ≡ kept k)
Fails call NoMemory = Unit {0}

-- why a basic rule isn't applied, after so many counted calls
abbrev pub told_by : ℕ → RuleFault → AcceptFault
told_by counted basic_fault.NoMemory = NoMemory
told_by counted why = Bad (kept (counted + 2)) (of_rule why)

-- why a basic rule isn't applied where a test for loose channels fails: its own test is told first
abbrev pub told_first_by : ℕ → Option RuleFault → SideFault → AcceptFault
told_first_by counted (Some why) fault = told_by counted why
told_first_by counted None fault = Bad (kept (counted + 2)) (of_side fault)

-- what fails, if something does
abbrev pub fault_by : {A : Type 0} → Outcome A → Option Why
fault_by (Ok a) = None
fault_by (Err why) = Some why

-- why the call is refused, if it is
abbrev pub refused_by : Called → Option Why
refused_by (Ok w) = None
refused_by (Err failure) = Some failure.why

-- a call that tells of this failure, at the line that is told; or there is no memory
abbrev pub Tells : {A : Type 0} → Result A Failure → AcceptFault → Type 0
Tells call (Bad at why) = call ≡ Err record { line = at; why = why }
Tells call NoMemory = Unit {0}
