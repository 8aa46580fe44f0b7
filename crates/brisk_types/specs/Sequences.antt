-- The typing rules of sequential programs, each with the token at which it fails.
use Rattle.std.specs.Prelude.{ℕ, ◌+◌, Bool, ◌||◌, not, if◌then◌else◌, nat_eq, List, [], ◌∷◌, ◌++◌, length, sum_by, Option, None, Some, option_map}
use Rattle.brisk_values.specs.declared.value.Kind.{Kind}
use Rattle.brisk_values.specs.declared.value.Kind.TheVariants as kind
use Rattle.brisk_values.specs.Names.{Name}
use Rattle.brisk_syntax.specs.declared.program.Program.{Program}
use Rattle.brisk_syntax.specs.Declarations.{role_named}
use Rattle.brisk_syntax.specs.Roles.{RoleText}
use Rattle.brisk_syntax.specs.Syntax.{Expression}
use Rattle.brisk_syntax.specs.Tokens.{expression_tokens, name_tokens, role_tokens}
use Rattle.brisk_syntax.specs.Typing.{is_among, is_set, is_single}
use Rattle.brisk_seq.specs.declared.tree.SeqProgram.{SeqProgram}
use Rattle.brisk_seq.specs.Items.{Item, Pass, Fill, Take, If, While, For, ForAny, Pick, Repeat, Items, nothing, ◌⨟◌}
use Rattle.brisk_seq.specs.Tokens.{item_tokens, items_tokens}
use Rattle.brisk_types.specs.declared.fault.Rule.{Rule}
use Rattle.brisk_types.specs.declared.fault.Rule.TheVariants.{Unknown, NotASet, WrongCount}
use Rattle.brisk_types.specs.Declarations.{program_of, placed, roles_at, heading_tokens, meaning, behind_all, apart, enumerations, declarations}
use Rattle.brisk_types.specs.Expressions.{Meaning, wanted}
use Rattle.brisk_types.specs.Failures.{Failures, none, ◌also◌, when, broken}
use Rattle.brisk_types.specs.Statements.{values, variables}

-- what names mean in the items of a sequential program
pub record Meanings : Type 0 where
  pub is_set : Name → Bool
  pub is_single : Name → Bool
  -- what names mean at a process of the role, where it is declared
  pub meaning_at : Name → Option Meaning

-- the rule of a process's name: it is a single role, or a set in focus
abbrev pub process_rule : Meanings → List Name → Name → Option Rule
process_rule m focus p = if m.is_single p || is_among focus p then None else Some Unknown

-- the rule of a set whose members take turns
abbrev pub turns_rule : Meanings → Name → Option Rule
turns_rule m s = if m.is_set s then None else if m.is_single s then Some NotASet else Some Unknown

-- the rule of a set that comes into focus: it isn't in focus yet
abbrev pub focus_rule : Meanings → List Name → Name → Option Rule
focus_rule m focus s = if is_among focus s then Some Unknown else turns_rule m s

-- what fails at a process, where its role is declared
abbrev pub at_process : Option Meaning → (Meaning → Failures) → Failures
at_process None f = none
at_process (Some m) f = f m

-- the kind of the first of the variables of a process
abbrev pub first_kind : Option Meaning → List Name → Option Kind
first_kind None xs = None
first_kind (Some m) [] = None
first_kind (Some m) (x ∷ xs) = m.kind_of_variable x

-- the variables behind the first
abbrev pub others : List Name → List Name
others [] = []
others (x ∷ xs) = xs

-- the expressions of a pass, each of the kind of its variable at the receiving process
abbrev pub passed : Meaning → Option Meaning → ℕ → List Expression → List Name → Failures
passed m to i [] xs = none
passed m to i (e ∷ es) xs = wanted m (first_kind to xs) i e also passed m to (i + expression_tokens e + 1) es (others xs)

-- a process at the token i, and the guard in its brackets
abbrev pub guard : Meanings → List Name → ℕ → Name → Expression → Failures
guard m focus i p e = broken (process_rule m focus p) i also at_process (m.meaning_at p) (λ n. wanted n (Some kind.Bool) (i + 3) e)

-- a process at the token i, and the variables in its brackets
abbrev pub stored : Meanings → List Name → ℕ → Name → List Name → Failures
stored m focus i p xs = broken (process_rule m focus p) i also at_process (m.meaning_at p) (λ n. variables n [] (i + 3) xs [])

-- the rules of an item, or of items, that begin at the token i where these sets are in focus
abbrev mutual
  pub item : Meanings → List Name → ℕ → Item → Failures
  item m focus i (Pass to xs from es) =
      when (not (nat_eq (length xs) (length es))) WrongCount i
      also stored m focus i to xs
      also broken (process_rule m focus from) (i + 3 + name_tokens xs + 2)
      also at_process (m.meaning_at from) (λ n. passed n (m.meaning_at to) (i + 3 + name_tokens xs + 5) es xs)
  item m focus i (Fill k from to es) =
      broken (process_rule m focus from) (i + 3)
      also broken (process_rule m focus to) (i + 5)
      also broken (process_rule m focus from) (i + 8)
      also at_process (m.meaning_at from) (λ n. values n (i + 11) es [])
  item m focus i (Take to xs k from) =
      stored m focus i to xs
      also broken (process_rule m focus from) (i + 3 + name_tokens xs + 5)
      also broken (process_rule m focus to) (i + 3 + name_tokens xs + 7)
  item m focus i (If p e a b) =
      guard m focus (i + 1) p e
      also items m focus (i + 4 + expression_tokens e + 2) a
      also items m focus (i + 4 + expression_tokens e + 2 + items_tokens a + 3) b
  item m focus i (While p e b) = guard m focus (i + 1) p e also items m focus (i + 4 + expression_tokens e + 2) b
  item m focus i (For s b) = broken (focus_rule m focus s) (i + 1) also items m (focus ++ s ∷ []) (i + 1 + 2) b
  item m focus i (ForAny s b) = broken (focus_rule m focus s) (i + 2) also items m (focus ++ s ∷ []) (i + 2 + 2) b
  item m focus i (Pick s b) = broken (focus_rule m focus s) (i + 1) also items m (focus ++ s ∷ []) (i + 1 + 2) b
  item m focus i (Repeat s b) = broken (turns_rule m s) (i + 1) also items m focus (i + 3) b

  pub items : Meanings → List Name → ℕ → Items → Failures
  items m focus i nothing = none
  items m focus i (q ⨟ b) = item m focus i q also items m focus (i + item_tokens q) b

-- the declarations of roles that begin at the token i, of which each has its own meaning of names
abbrev pub outlines : (Name → Meaning) → ℕ → List RoleText → Failures
outlines meaning i [] = none
outlines meaning i (r ∷ rs) = declarations (meaning r.name) (i + heading_tokens r) r.decls also outlines meaning (i + role_tokens r) rs

-- the enumerations and roles of a sequential program
abbrev pub outline : SeqProgram → Program
outline Q = program_of Q.enums [] Q.roles

-- what names mean behind the declarations of a role
abbrev pub behind_role : (Name → Meaning) → RoleText → Meaning
behind_role meaning r = behind_all (meaning r.name) r.decls

-- what names mean in the items of the sequential program
abbrev pub meanings : SeqProgram → Meanings
meanings Q = record {
  is_set = is_set Q.roles;
  is_single = is_single Q.roles;
  meaning_at = λ p. option_map (behind_role (meaning (outline Q))) (role_named Q.roles p);
}

-- the token of the first item, behind the word begin
abbrev pub items_at : SeqProgram → ℕ
items_at Q = roles_at (outline Q) + sum_by role_tokens Q.roles + 1

-- the failures of a sequential program
abbrev pub seq_failures : SeqProgram → Failures
seq_failures Q =
    apart [] (placed (outline Q))
    also enumerations 0 Q.enums
    also outlines (meaning (outline Q)) (roles_at (outline Q)) Q.roles
    also items (meanings Q) [] (items_at Q) Q.body
