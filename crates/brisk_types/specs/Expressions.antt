-- The typing rules of expressions, each with the token at which it fails.
use Rattle.std.specs.Prelude.{ℕ, ◌+◌, Bool, false, not, if◌then◌else◌, List, Option, None, Some}
use Rattle.std.specs.Option.{is_none}
use Rattle.brisk_values.specs.declared.operation.Op1.{Op1}
use Rattle.brisk_values.specs.declared.operation.Op1.TheVariants.{Neg, Not}
use Rattle.brisk_values.specs.declared.operation.Op2.{Op2}
use Rattle.brisk_values.specs.declared.operation.Op2.TheVariants.{Add, Sub, Mul, Eq, Ne, And, Or}
use Rattle.brisk_values.specs.declared.value.Kind.{Kind}
use Rattle.brisk_values.specs.declared.value.Kind.TheVariants as kind
use Rattle.brisk_values.specs.Names.{Name, same_name}
use Rattle.brisk_values.specs.Values.{same_kind}
use Rattle.brisk_syntax.specs.Syntax.{Expression, Num, Truth, Var, Tag, Size, Paren, Un, Bin}
use Rattle.brisk_syntax.specs.Tokens.{expression_tokens}
use Rattle.brisk_types.specs.declared.fault.Rule.{Rule}
use Rattle.brisk_types.specs.declared.fault.Rule.TheVariants.{Unknown, NotASet, SelfPartner, WrongKind}
use Rattle.brisk_types.specs.Failures.{Failures, none, ◌also◌, when, broken}

-- what names mean in the text of a role
pub record Meaning : Type 0 where
  pub is_enum : Name → Bool
  pub is_tag : Name → Name → Bool
  -- the kinds of the values in a message on a channel
  pub kinds_on : Name → Option (List Kind)
  pub is_set : Name → Bool
  pub is_single : Name → Bool
  -- the token at which an enumeration, a channel or a role is first declared by the name
  pub place : Name → Option ℕ
  -- the name of the role itself
  pub own : Name
  pub kind_of_variable : Name → Option Kind

-- a kind that is known differs from a kind that is wanted
abbrev pub differ : Option Kind → Option Kind → Bool
differ (Some j) (Some k) = not (same_kind j k)
differ j k = false

-- the kind that is wanted is another than the kind at the token
abbrev pub wrong : Option Kind → Option Kind → ℕ → Failures
wrong j k i = when (differ j k) WrongKind i

-- the kind of a tag, where it is one
abbrev pub tag_kind : Meaning → Name → Name → Option Kind
tag_kind m e t = if m.is_tag e t then Some (kind.Enum e) else None

abbrev pub unary_kind : Op1 → Kind
unary_kind Neg = kind.Int
unary_kind Not = kind.Bool

-- the kind of an operation
abbrev pub binary_kind : Op2 → Kind
binary_kind Add = kind.Int
binary_kind Sub = kind.Int
binary_kind Mul = kind.Int
binary_kind op = kind.Bool

-- the kind of an expression, by its outermost operator: a name that is unknown has none
abbrev pub kind_of : Meaning → Expression → Option Kind
kind_of m (Num n) = Some kind.Int
kind_of m (Truth b) = Some kind.Bool
kind_of m (Var x) = m.kind_of_variable x
kind_of m (Tag e t) = tag_kind m e t
kind_of m (Size s) = Some kind.Int
kind_of m (Paren e) = kind_of m e
kind_of m (Un op e) = Some (unary_kind op)
kind_of m (Bin op e f) = Some (binary_kind op)

-- the kind of both operands, but for == and !=, which take any
abbrev pub operand_kind : Op2 → Option Kind
operand_kind Eq = None
operand_kind Ne = None
operand_kind And = Some kind.Bool
operand_kind Or = Some kind.Bool
operand_kind op = Some kind.Int

-- the kind of the right operand: that of the left one at == and !=
abbrev pub right_kind : Op2 → Option Kind → Option Kind
right_kind Eq k = k
right_kind Ne k = k
right_kind op k = operand_kind op

-- the rule of the name after #: it is any set
abbrev pub size_rule : Meaning → Name → Option Rule
size_rule m s = if m.is_set s then None else if same_name s m.own then Some SelfPartner else if m.is_single s then Some NotASet else Some Unknown

-- a tag's enumeration and the tag are declared
abbrev pub tag : Meaning → ℕ → Name → Name → Failures
tag m i e t = when (not (m.is_enum e)) Unknown i also when (not (m.is_tag e t)) Unknown (i + 2)

-- the rules of an expression that begins at the token i
abbrev pub expression : Meaning → ℕ → Expression → Failures
expression m i (Num n) = none
expression m i (Truth b) = none
expression m i (Var x) = when (is_none (m.kind_of_variable x)) Unknown i
expression m i (Tag e t) = tag m i e t
expression m i (Size s) = broken (size_rule m s) (i + 1)
expression m i (Paren e) = expression m (i + 1) e
expression m i (Un op e) = wrong (Some (unary_kind op)) (kind_of m e) (i + 1) also expression m (i + 1) e
expression m i (Bin op e f) =
    (wrong (operand_kind op) (kind_of m e) i also expression m i e)
    also (wrong (right_kind op (kind_of m e)) (kind_of m f) (i + expression_tokens e + 1) also expression m (i + expression_tokens e + 1) f)

-- the rules of an expression of which a kind is wanted
abbrev pub wanted : Meaning → Option Kind → ℕ → Expression → Failures
wanted m k i e = wrong k (kind_of m e) i also expression m i e
