-- Failures of the typing rules, and the first of them.
use Rattle.std.specs.Prelude.{◌≡◌, ℕ, ◌<◌, ◌≤◌, ◌⊎◌, Bool, true, false, ◌||◌, ◌&&◌, if◌then◌else◌, nat_lt, nat_eq, Option, None, Some, Result, Ok, Err}
use Rattle.brisk_types.specs.declared.fault.Failure.{Failure}
use Rattle.brisk_types.specs.declared.fault.Rule.{Rule}
use Rattle.brisk_types.specs.declared.fault.Rule.TheVariants as rule
use Rattle.brisk_types.specs.declared.fault.TypeFault.{TypeFault}
use Rattle.brisk_types.specs.declared.fault.TypeFault.TheVariants as fault

infixr 4 ◌also◌
-- failures, in no order: a rule fails at the token of an index
pub data Failures : Type 0 where
  none : Failures
  fails : (r : Rule) (i : ℕ) → Failures
  ◌also◌ : (a b : Failures) → Failures

-- the rule fails at the token where the test is true
abbrev pub when : Bool → Rule → ℕ → Failures
when true r i = fails r i
when false r i = none

-- the rule, where there is one, fails at the token
abbrev pub broken : Option Rule → ℕ → Failures
broken None i = none
broken (Some r) i = fails r i

-- among these the rule fails at the token
abbrev pub Fails : Failures → Rule → ℕ → Type 0
Fails none r i = ⊥
Fails (fails q j) r i = (q ≡ r) × (j ≡ i)
Fails (a also b) r i = Fails a r i ⊎ Fails b r i

-- no rule fails
abbrev pub NoneFails : Failures → Type 0
NoneFails none = Unit {0}
NoneFails (fails r i) = ⊥
NoneFails (a also b) = NoneFails a × NoneFails b

-- the place of a rule among those that fail at one token
abbrev pub rank : Rule → ℕ
rank rule.Unknown = 0
rank rule.Twice = 1
rank rule.NotASet = 2
rank rule.NotSingle = 3
rank rule.SelfPartner = 4
rank rule.WrongCount = 5
rank rule.WrongKind = 6

-- the rule fails at the token, and every failure is at a later token, or there and of no earlier rule
abbrev pub FailsFirst : Failures → Rule → ℕ → Type 0
FailsFirst fs r i = Fails fs r i × ((q : Rule) (j : ℕ) → Fails fs q j → (i < j) ⊎ ((i ≡ j) × (rank r ≤ rank q)))

-- Ok exactly where no rule fails, and otherwise the first failure; or want of memory
abbrev pub IsChecked : Failures → Result (Unit {0}) TypeFault → Type 0
IsChecked fs (Ok _) = NoneFails fs
IsChecked fs (Err (fault.Unknown i)) = FailsFirst fs rule.Unknown i
IsChecked fs (Err (fault.Twice i)) = FailsFirst fs rule.Twice i
IsChecked fs (Err (fault.NotASet i)) = FailsFirst fs rule.NotASet i
IsChecked fs (Err (fault.NotSingle i)) = FailsFirst fs rule.NotSingle i
IsChecked fs (Err (fault.SelfPartner i)) = FailsFirst fs rule.SelfPartner i
IsChecked fs (Err (fault.WrongCount i)) = FailsFirst fs rule.WrongCount i
IsChecked fs (Err (fault.WrongKind i)) = FailsFirst fs rule.WrongKind i
IsChecked fs (Err fault.NoMemory) = Unit {0}

-- the token of the fault is below n
abbrev pub IsBelow : ℕ → TypeFault → Type 0
IsBelow n (fault.Unknown i) = i < n
IsBelow n (fault.Twice i) = i < n
IsBelow n (fault.NotASet i) = i < n
IsBelow n (fault.NotSingle i) = i < n
IsBelow n (fault.SelfPartner i) = i < n
IsBelow n (fault.WrongCount i) = i < n
IsBelow n (fault.WrongKind i) = i < n
IsBelow n fault.NoMemory = Unit {0}

-- the fault that a failure is answered as
abbrev pub fault_by : Rule → ℕ → TypeFault
fault_by rule.Unknown i = fault.Unknown i
fault_by rule.Twice i = fault.Twice i
fault_by rule.NotASet i = fault.NotASet i
fault_by rule.NotSingle i = fault.NotSingle i
fault_by rule.SelfPartner i = fault.SelfPartner i
fault_by rule.WrongCount i = fault.WrongCount i
fault_by rule.WrongKind i = fault.WrongKind i

abbrev pub fault_of : Failure → TypeFault
fault_of f = fault_by f.rule f.at

-- the answer for a first failure
abbrev pub answer : Option Failure → Result (Unit {0}) TypeFault
answer None = Ok tt
answer (Some f) = Err (fault_of f)

-- the first failure is at an earlier token, or at the same one and of an earlier rule
abbrev pub is_before : Failure → Failure → Bool
is_before f g = nat_lt f.at g.at || (nat_eq f.at g.at && nat_lt (rank f.rule) (rank g.rule))

-- the earlier of the failure that is noted and another
abbrev pub noted : Option Failure → Failure → Option Failure
noted None f = Some f
noted (Some g) f = if is_before f g then Some f else Some g

-- the first of the failure that is noted and these
abbrev pub note_all : Option Failure → Failures → Option Failure
note_all o none = o
note_all o (fails r i) = noted o (record { rule = r; at = i })
note_all o (a also b) = note_all (note_all o a) b
