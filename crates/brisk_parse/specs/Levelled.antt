-- Trees that the grammar allows: each operand stands at a level that is allowed there.
use Rattle.std.specs.Prelude.{◌≡◌, ℕ, ◌+◌, ◌≤◌, false, []}
use Rattle.std.specs.List.{AllByRecursion}
use Rattle.brisk_values.specs.declared.operation.Op2.{Op2}
use Rattle.brisk_values.specs.declared.operation.Op2.TheVariants.{Add, Sub, Mul, Eq, Ne, Lt, Le, Gt, Ge, And, Or}
use Rattle.brisk_syntax.specs.declared.program.EnumDecl.{EnumDecl}
use Rattle.brisk_syntax.specs.declared.program.Program.{Program}
use Rattle.brisk_syntax.specs.declared.tree.Who.{Who}
use Rattle.brisk_syntax.specs.declared.tree.Who.TheVariants as who
use Rattle.brisk_syntax.specs.Roles.{RoleText}
use Rattle.brisk_syntax.specs.Syntax.{Expression, Num, Truth, Var, Tag, Size, Paren, Un, Bin, Statement, Assign, Send, Recv, RecvAny, If, IfElse, While, For, Repeat, Code, done, ◌⨾◌}

-- the level of an operator, the loosest 0
abbrev pub operator_level : Op2 → ℕ
operator_level Or = 0
operator_level And = 1
operator_level Eq = 2
operator_level Ne = 2
operator_level Lt = 2
operator_level Le = 2
operator_level Gt = 2
operator_level Ge = 2
operator_level Add = 3
operator_level Sub = 3
operator_level Mul = 4

-- the level at which an expression stands: that of its outermost operator, and 5 without one
abbrev pub level : Expression → ℕ
level (Bin op e f) = operator_level op
level e = 5

-- the level that the left operand needs: operators group to the left, but comparisons don't repeat
abbrev pub left_level : Op2 → ℕ
left_level Eq = 3
left_level Ne = 3
left_level Lt = 3
left_level Le = 3
left_level Gt = 3
left_level Ge = 3
left_level op = operator_level op

abbrev pub Levelled : Expression → Type 0
Levelled (Num n) = Unit {0}
Levelled (Truth b) = Unit {0}
Levelled (Var x) = Unit {0}
Levelled (Tag e x) = Unit {0}
Levelled (Size s) = Unit {0}
Levelled (Paren e) = Levelled e
Levelled (Un op e) = Levelled e × (5 ≤ level e)
Levelled (Bin op e f) = Levelled e × (left_level op ≤ level e) × Levelled f × (operator_level op + 1 ≤ level f)

-- a partner is a plain name
abbrev pub IsPlain : Who → Type 0
IsPlain (who.Name n) = Unit {0}
IsPlain (who.At s) = ⊥
IsPlain (who.Pid p) = ⊥

-- all expressions are levelled, all partners plain names, and all loops at turn 0
abbrev mutual
  pub LevelledStatement : Statement → Type 0
  LevelledStatement (Assign x e) = Levelled e
  LevelledStatement (Send c es u) = AllByRecursion Levelled es × IsPlain u
  LevelledStatement (Recv c xs u) = IsPlain u
  LevelledStatement (RecvAny c xs v s b) = LevelledCode b
  LevelledStatement (If e a) = Levelled e × LevelledCode a
  LevelledStatement (IfElse e a b) = Levelled e × LevelledCode a × LevelledCode b
  LevelledStatement (While e b) = Levelled e × LevelledCode b
  LevelledStatement (For v s k b) = (k ≡ 0) × LevelledCode b
  LevelledStatement (Repeat s k b) = (k ≡ 0) × LevelledCode b

  pub LevelledCode : Code → Type 0
  LevelledCode done = Unit {0}
  LevelledCode (s ⨾ c) = LevelledStatement s × LevelledCode c

-- there is at least one tag
abbrev pub HasTags : EnumDecl → Type 0
HasTags e = e.tags ≡ [] → ⊥

-- a single role isn't marked nonempty
abbrev pub LevelledRole : RoleText → Type 0
LevelledRole r = (r.many ≡ false → r.nonempty ≡ false) × LevelledCode r.code

pub record LevelledProgram (P : Program) : Type 0 where
  pub enums : AllByRecursion HasTags P.enums
  pub roles : AllByRecursion LevelledRole P.roles
