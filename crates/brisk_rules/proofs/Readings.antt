-- A symbolic state as functions from names, and the code of a thread as that of a process.
use Rattle.std.specs.Prelude.{ℕ, Bool, true, false, ◌&&◌, not, List, [], ◌∷◌, Option, Some, None, if◌then◌else◌, nat_lt, nat_eq}
use Rattle.std.specs.List.{list_any}
use Rattle.brisk_values.specs.declared.value.Pid.{Pid}
use Rattle.brisk_values.specs.declared.value.Value.{Value}
use Rattle.brisk_values.specs.declared.operation.Op1.TheVariants.{Not}
use Rattle.brisk_values.specs.declared.operation.Op2.TheVariants.{Eq, Ne, And, Or}
use Rattle.brisk_values.specs.declared.value.Value.TheVariants as value
use Rattle.brisk_values.specs.Functions.{changed}
use Rattle.brisk_values.specs.Names.{Name, same_name, same_process}
use Rattle.brisk_syntax.specs.declared.tree.Who.{Who}
use Rattle.brisk_syntax.specs.declared.tree.Who.TheVariants as who
use Rattle.brisk_syntax.specs.Substitution.{statement_map, code_map}
use Rattle.brisk_syntax.specs.Syntax.{Expression, Var, Paren, Un, Bin, Statement, Code}
use Rattle.brisk_facts.specs.Facts.{fact}
use Rattle.brisk_facts.specs.Learning.{fold, variable_in}
use Rattle.brisk_seq.specs.Sequential.{Focus}
use Rattle.brisk_state.specs.declared.thread.Mode.{Mode}
use Rattle.brisk_state.specs.declared.thread.Mode.TheVariants.{One, At, Each}
use Rattle.brisk_state.specs.Symbolic as symbolic
use Rattle.brisk_state.specs.Symbolic.{Key, Symbolic, thread_named, numbers_at}
use Rattle.brisk_rules.specs.Rules.{mode_of, code_in}

-- what a symbolic state says of each name and key
pub record Reading : Type 0 where
  pub mode : Name → Option Mode
  pub code : Name → Code
  pub pending : Key → List ℕ
  pub facts : Name → Name → Option Value

-- the reading of a symbolic state
abbrev pub reading : Symbolic → Reading
reading S = record {
  mode = λ u. mode_of (thread_named S.threads u);
  code = λ u. code_in (thread_named S.threads u);
  pending = numbers_at S.pending;
  facts = fact S.facts;
}

-- one process stands for the thread
abbrev pub is_active : Option Mode → Bool
is_active None = false
is_active (Some mode) = symbolic.is_active mode

-- all members stand for the thread
abbrev pub is_each : Option Mode → Bool
is_each (Some Each) = true
is_each mode = false

-- the number is in the list
abbrev pub has : ℕ → List ℕ → Bool
has n = list_any (nat_eq n)

-- the process is denoted by its role's thread
abbrev pub denoted : (Name → ℕ) → Focus → Option Mode → Pid → Bool
denoted sizes φ m p = if is_active m then same_process (φ p.role) p else (is_each m && nat_lt p.member (sizes p.role))

-- code with the chosen member for each member in focus
abbrev pub who_by : Focus → Who → Who
who_by φ (who.Name n) = who.Name n
who_by φ (who.At s) = who.Pid (φ s)
who_by φ (who.Pid p) = who.Pid p

abbrev pub statement_by : Focus → Statement → Statement
statement_by φ = statement_map (who_by φ)

abbrev pub code_by : Focus → Code → Code
code_by φ = code_map (who_by φ)

-- the partner is the thread u, of this mode
abbrev pub stands_by : Option Mode → Name → Who → Bool
stands_by (Some One) u (who.Name n) = same_name u n
stands_by (Some At) u (who.At s) = same_name u s
stands_by m u w = false

-- what is known, but these values, known or not, at the variables
abbrev pub Known : Type 0
Known = Name → Option Value

abbrev pub facts_with : Known → List Name → List (Option Value) → Known
facts_with f [] vs = f
facts_with f (x ∷ xs) [] = f
facts_with f (x ∷ xs) (v ∷ vs) = facts_with (changed same_name f x v) xs vs

-- what is known, but nothing at the variables
abbrev pub forgotten : Known → List Name → Known
forgotten f [] = f
forgotten f (x ∷ xs) = forgotten (changed same_name f x None) xs

-- two sides are equal, of which each may be a variable and may have a value
abbrev pub learnt_equal : Known → Option Name → Option Value → Option Name → Option Value → Known
learnt_equal f (Some x) (Some v) y w = changed same_name f x (Some v)
learnt_equal f x v (Some y) (Some w) = changed same_name f y (Some w)
learnt_equal f x v y w = f

-- what is known, and what the truth of an expression tells
abbrev pub learnt : Known → Expression → Bool → Known
learnt f (Var x) b = changed same_name f x (Some (value.Bool b))
learnt f (Paren e) b = learnt f e b
learnt f (Un Not e) b = learnt f e (not b)
learnt f (Bin And e g) true = learnt (learnt f e true) g true
learnt f (Bin Or e g) false = learnt (learnt f e false) g false
learnt f (Bin Eq e g) true = learnt_equal f (variable_in e) (fold f g) (variable_in g) (fold f e)
learnt f (Bin Ne e g) false = learnt_equal f (variable_in e) (fold f g) (variable_in g) (fold f e)
learnt f e b = f
