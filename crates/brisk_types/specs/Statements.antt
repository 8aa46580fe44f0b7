-- The typing rules of statements, each with the token at which it fails.
use Rattle.std.specs.Prelude.{ℕ, ◌+◌, max, ◌||◌, if◌then◌else◌, nat_eq, List, [], ◌∷◌, ◌++◌, length, Option, None, Some}
use Rattle.std.specs.Option.{is_none, is_some}
use Rattle.brisk_values.specs.declared.value.Kind.{Kind}
use Rattle.brisk_values.specs.declared.value.Kind.TheVariants as kind
use Rattle.brisk_values.specs.Names.{Name, same_name}
use Rattle.brisk_syntax.specs.declared.tree.Who.{Who}
use Rattle.brisk_syntax.specs.declared.tree.Who.TheVariants as who
use Rattle.brisk_syntax.specs.Syntax.{Expression, Statement, Assign, Send, Recv, RecvAny, If, IfElse, While, For, Repeat, Code, done, ◌⨾◌}
use Rattle.brisk_syntax.specs.Tokens.{expression_tokens, list_tokens, name_tokens, statement_tokens, code_tokens}
use Rattle.brisk_syntax.specs.Typing.{is_among}
use Rattle.brisk_types.specs.declared.fault.Rule.{Rule}
use Rattle.brisk_types.specs.declared.fault.Rule.TheVariants.{Unknown, Twice, NotASet, NotSingle, SelfPartner, WrongCount}
use Rattle.brisk_types.specs.Expressions.{Meaning, wrong, wanted}
use Rattle.brisk_types.specs.Failures.{Failures, none, fails, ◌also◌, when, broken}

-- the name at the token i and that at the token of a global name, where there is one, clash at the later
abbrev pub clash : ℕ → Option ℕ → Failures
clash i None = none
clash i (Some j) = fails Twice (max i j)

-- a binder differs from the binders in scope, from the variables and from the global names
abbrev pub binder : Meaning → List Name → ℕ → Name → Failures
binder m binders i v = when (is_among binders v || is_some (m.kind_of_variable v)) Twice i also clash i (m.place v)

-- the rule of a partner: it is a binder in scope, or a single role other than the own one
abbrev pub partner_rule : Meaning → List Name → Who → Option Rule
partner_rule m binders (who.Name n) =
    if is_among binders n then None else
    if same_name n m.own then Some SelfPartner else
    if m.is_single n then None else
    if m.is_set n then Some NotSingle else Some Unknown
partner_rule m binders u = Some Unknown

-- the rule of a set that a loop goes over: it is another than the own one
abbrev pub set_rule : Meaning → Name → Option Rule
set_rule m s =
    if same_name s m.own then Some SelfPartner else
    if m.is_set s then None else
    if m.is_single s then Some NotASet else Some Unknown

-- a binder at the token i, and the set that it is a member of
abbrev pub bound : Meaning → List Name → ℕ → Name → Name → Failures
bound m binders i v s = binder m binders i v also broken (set_rule m s) (i + 2)

-- the rule of a channel that carries so many values: it is declared, with that number of kinds
abbrev pub channel_rule : Option (List Kind) → ℕ → Option Rule
channel_rule None n = Some Unknown
channel_rule (Some ks) n = if nat_eq n (length ks) then None else Some WrongCount

abbrev pub first_kind : List Kind → Option Kind
first_kind [] = None
first_kind (k ∷ ks) = Some k

abbrev pub other_kinds : List Kind → List Kind
other_kinds [] = []
other_kinds (k ∷ ks) = ks

-- the kinds that a channel wants, where it is known
abbrev pub wanted_kinds : Option (List Kind) → List Kind
wanted_kinds None = []
wanted_kinds (Some ks) = ks

-- the expressions of a message, each of its kind
abbrev pub values : Meaning → ℕ → List Expression → List Kind → Failures
values m i [] ks = none
values m i (e ∷ es) ks = wanted m (first_kind ks) i e also values m (i + expression_tokens e + 1) es (other_kinds ks)

-- the variables of a message, each declared, of its kind and other than those before it
abbrev pub variables : Meaning → List Name → ℕ → List Name → List Kind → Failures
variables m before i [] ks = none
variables m before i (x ∷ xs) ks =
    (when (is_none (m.kind_of_variable x)) Unknown i also when (is_among before x) Twice i also wrong (first_kind ks) (m.kind_of_variable x) i)
    also variables m (before ++ x ∷ []) (i + 2) xs (other_kinds ks)

-- what a receive that begins at the token i names before the word from
abbrev pub received : Meaning → ℕ → Name → List Name → Failures
received m i c xs = broken (channel_rule (m.kinds_on c) (length xs)) (i + 1) also variables m [] (i + 3) xs (wanted_kinds (m.kinds_on c))

-- the rules of a statement, or of code, that begins at the token i where these binders are in scope
abbrev mutual
  pub statement : Meaning → List Name → ℕ → Statement → Failures
  statement m binders i (Assign x e) = when (is_none (m.kind_of_variable x)) Unknown i also wanted m (m.kind_of_variable x) (i + 2) e
  statement m binders i (Send c es u) =
      broken (channel_rule (m.kinds_on c) (length es)) (i + 1)
      also values m (i + 3) es (wanted_kinds (m.kinds_on c))
      also broken (partner_rule m binders u) (i + 3 + list_tokens es + 2)
  statement m binders i (Recv c xs u) = received m i c xs also broken (partner_rule m binders u) (i + 3 + name_tokens xs + 2)
  statement m binders i (RecvAny c xs v s b) =
      received m i c xs also bound m binders (i + 3 + name_tokens xs + 3) v s also code m (binders ++ v ∷ []) (i + 3 + name_tokens xs + 3 + 4) b
  statement m binders i (If e a) = wanted m (Some kind.Bool) (i + 1) e also code m binders (i + 1 + expression_tokens e + 1) a
  statement m binders i (IfElse e a b) =
      wanted m (Some kind.Bool) (i + 1) e
      also code m binders (i + 1 + expression_tokens e + 1) a
      also code m binders (i + 1 + expression_tokens e + 1 + code_tokens a + 3) b
  statement m binders i (While e b) = wanted m (Some kind.Bool) (i + 1) e also code m binders (i + 1 + expression_tokens e + 1) b
  statement m binders i (For v s k b) = bound m binders (i + 1) v s also code m (binders ++ v ∷ []) (i + 1 + 4) b
  statement m binders i (Repeat s k b) = broken (set_rule m s) (i + 1) also code m binders (i + 3) b

  pub code : Meaning → List Name → ℕ → Code → Failures
  code m binders i done = none
  code m binders i (s ⨾ c) = statement m binders i s also code m binders (i + statement_tokens s) c
