-- What a call that applies a rule answers, by what the rule gives.
use Rattle.std.specs.Prelude.{◌≡◌, ◌⊎◌, Bool, true, false, Option, Some, None, Result, Ok, Err, IsOk, option_map}
use Rattle.brisk_values.specs.Names.{Name}
use Rattle.brisk_syntax.specs.Segments.{rest_of}
use Rattle.brisk_syntax.specs.Syntax.{Expression, Statement, Assign, If, IfElse, While, Code, ◌⨾◌, ◌then◌}
use Rattle.brisk_seq.specs.Seen.{item_of}
use Rattle.brisk_seq.specs.declared.tree.Seq.{Seq}
use Rattle.brisk_state.specs.Symbolic.{Symbolic}
use Rattle.brisk_basic.specs.Basic.{Applied}
use Rattle.brisk_basic.specs.declared.rule.RuleFault.{RuleFault}
use Rattle.brisk_basic.specs.declared.rule.RuleFault.TheVariants.{NoMemory}

-- the rule gives this statement and this state
abbrev pub Gives : Result Applied RuleFault → Option Seq → Symbolic → Type 0
Gives outcome q S = outcome ≡ Ok record { statement = option_map item_of q; next = S }

-- the rule fails so, or it doesn't fail and there is no memory
abbrev pub Fails : Result Applied RuleFault → RuleFault → Type 0
Fails outcome why = (outcome ≡ Err why) ⊎ ((why ≡ NoMemory) × IsOk outcome)

-- the test that fails, if one does
abbrev pub fault_of : {A : Type 0} → Result A RuleFault → Option RuleFault
fault_of (Ok a) = None
fault_of (Err why) = Some why

-- the variable and the expression of an assignment
abbrev pub assignment_of : Option Statement → Option (Name × Expression)
assignment_of (Some (Assign x e)) = Some (x, e)
assignment_of s = None

-- the guard of an `if` or a `while`
abbrev pub guard_of : Option Statement → Option Expression
guard_of (Some (If e a)) = Some e
guard_of (Some (IfElse e a b)) = Some e
guard_of (Some (While e b)) = Some e
guard_of s = None

-- the code that follows one at an `if` or a `while`, by the truth of the guard
abbrev pub decided_by : Bool → Code → Code
decided_by true (If e a ⨾ rest) = a then rest
decided_by true (IfElse e a b ⨾ rest) = a then rest
decided_by false (IfElse e a b ⨾ rest) = b then rest
decided_by true (While e b ⨾ rest) = b then (While e b ⨾ rest)
decided_by truth code = rest_of code
