-- The number of tokens of each tree, and the weight of an instance.
use Rattle.std.specs.Prelude.{ℕ, ◌+◌, ◌*◌, ◌&&◌, List, [], ◌∷◌, sum_by, if◌then◌else◌}
use Rattle.brisk_values.specs.Names.{Name}
use Rattle.brisk_syntax.specs.declared.program.Channel.{Channel}
use Rattle.brisk_syntax.specs.declared.program.Const.{Const}
use Rattle.brisk_syntax.specs.declared.program.Const.TheVariants as constant
use Rattle.brisk_syntax.specs.declared.program.Decl.{Decl}
use Rattle.brisk_syntax.specs.declared.program.Decl.TheVariants as decl
use Rattle.brisk_syntax.specs.declared.program.EnumDecl.{EnumDecl}
use Rattle.brisk_syntax.specs.declared.program.Program.{Program}
use Rattle.brisk_syntax.specs.Instance.{Instance, processes}
use Rattle.brisk_syntax.specs.Roles.{RoleText}
use Rattle.brisk_syntax.specs.Syntax.{Expression, Num, Truth, Var, Tag, Size, Paren, Un, Bin, Statement, Assign, Send, Recv, RecvAny, If, IfElse, While, For, Repeat, Code, done, ◌⨾◌}

-- the tokens of the parts of a list and of the commas between them
abbrev pub separated : {X : Type 0} → (X → ℕ) → List X → ℕ
separated f [] = 0
separated f (x ∷ []) = f x
separated f (x ∷ y ∷ ys) = f x + 1 + separated f (y ∷ ys)

-- the tokens of an expression
abbrev pub expression_tokens : Expression → ℕ
expression_tokens (Num n) = 1
expression_tokens (Truth b) = 1
expression_tokens (Var x) = 1
expression_tokens (Tag e t) = 3
expression_tokens (Size s) = 2
expression_tokens (Paren e) = expression_tokens e + 2
expression_tokens (Un op e) = 1 + expression_tokens e
expression_tokens (Bin op e f) = expression_tokens e + 1 + expression_tokens f

-- the tokens of a list of expressions, with its commas
abbrev pub list_tokens : List Expression → ℕ
list_tokens = separated expression_tokens

-- the tokens of a list of names, with its commas
abbrev pub name_tokens : List Name → ℕ
name_tokens = separated (λ x. 1)

-- the tokens of a statement, and of code
abbrev mutual
  pub statement_tokens : Statement → ℕ
  statement_tokens (Assign x e) = 3 + expression_tokens e
  statement_tokens (Send c es u) = 7 + list_tokens es
  statement_tokens (Recv c xs u) = 7 + name_tokens xs
  statement_tokens (RecvAny c xs v s b) = 11 + name_tokens xs + code_tokens b
  statement_tokens (If e a) = 3 + expression_tokens e + code_tokens a
  statement_tokens (IfElse e a b) = 6 + expression_tokens e + code_tokens a + code_tokens b
  statement_tokens (While e b) = 3 + expression_tokens e + code_tokens b
  statement_tokens (For v s k b) = 6 + code_tokens b
  statement_tokens (Repeat s k b) = 4 + code_tokens b

  pub code_tokens : Code → ℕ
  code_tokens done = 0
  code_tokens (s ⨾ c) = statement_tokens s + code_tokens c

-- the tokens of a constant
abbrev pub constant_tokens : Const → ℕ
constant_tokens (constant.Num negative n) = if negative then 2 else 1
constant_tokens (constant.Bool b) = 1
constant_tokens (constant.Tag e t) = 3

-- the tokens of a declaration
abbrev pub decl_tokens : Decl → ℕ
decl_tokens (decl.Var x k c) = 6 + constant_tokens c
decl_tokens (decl.Input x k) = 5

-- the tokens of a role's text
abbrev pub role_tokens : RoleText → ℕ
role_tokens r = 4 + (if r.many && r.nonempty then 1 else 0) + sum_by decl_tokens r.decls + code_tokens r.code

-- the tokens of an enumeration
abbrev pub enum_tokens : EnumDecl → ℕ
enum_tokens e = 4 + name_tokens e.tags

-- the tokens of a channel
abbrev pub channel_tokens : Channel → ℕ
channel_tokens c = 5 + separated (λ k. 1) c.kinds + (if c.loose then 1 else 0)

-- the tokens of a program
abbrev pub program_tokens : Program → ℕ
program_tokens P = sum_by enum_tokens P.enums + sum_by channel_tokens P.channels + sum_by role_tokens P.roles

-- the weight of an instance: the sum, over its processes, of the tokens of the role's text
abbrev pub weight : List RoleText → Instance → ℕ
weight roles i = sum_by (λ r. processes i r * role_tokens r) roles
