-- Programs within limits.
use Rattle.std.specs.Prelude.{◌≡◌, ◌+◌, ◌≤◌, List, length}
use Rattle.std.specs.List.{AllByRecursion}
use Rattle.brisk_lex.specs.declared.token.Placed.{Placed}
use Rattle.brisk_syntax.specs.declared.program.EnumDecl.{EnumDecl}
use Rattle.brisk_syntax.specs.declared.program.Channel.{Channel}
use Rattle.brisk_syntax.specs.declared.program.Program.{Program}
use Rattle.brisk_syntax.specs.Counts.{program_statements}
use Rattle.brisk_syntax.specs.Depths.{code_depth}
use Rattle.brisk_syntax.specs.Roles.{RoleText}
use Rattle.brisk_syntax.specs.Syntax.{Expression, Statement, Assign, Send, Recv, RecvAny, If, IfElse, While, For, Repeat, Code, done, ◌⨾◌}
use Rattle.brisk_parse.specs.Input.{tokens_of}
use Rattle.brisk_parse.specs.Levelled.{LevelledProgram}
use Rattle.brisk_parse.specs.Limits.{Limits, source}
use Rattle.brisk_parse.specs.Spelling.{expression, spelling}

-- the expression has no more tokens than are allowed
abbrev pub Short : Limits → Expression → Type 0
Short l e = length (expression e) ≤ l.tokens

-- each expression is short, and no message has too many places
abbrev mutual
  pub StatementWithin : Limits → Statement → Type 0
  StatementWithin l (Assign x e) = Short l e
  StatementWithin l (Send c es u) = (length es ≤ 1 + l.places) × AllByRecursion (Short l) es
  StatementWithin l (Recv c xs u) = length xs ≤ 1 + l.places
  StatementWithin l (RecvAny c xs v s b) = (length xs ≤ 1 + l.places) × CodeWithin l b
  StatementWithin l (If e a) = Short l e × CodeWithin l a
  StatementWithin l (IfElse e a b) = Short l e × CodeWithin l a × CodeWithin l b
  StatementWithin l (While e b) = Short l e × CodeWithin l b
  StatementWithin l (For v s k b) = CodeWithin l b
  StatementWithin l (Repeat s k b) = CodeWithin l b

  pub CodeWithin : Limits → Code → Type 0
  CodeWithin l done = Unit {0}
  CodeWithin l (s ⨾ c) = StatementWithin l s × CodeWithin l c

abbrev pub EnumWithin : Limits → EnumDecl → Type 0
EnumWithin l e = length e.tags ≤ 1 + l.tags

abbrev pub ChannelWithin : Limits → Channel → Type 0
ChannelWithin l c = length c.kinds ≤ 1 + l.kinds

abbrev pub RoleWithin : Limits → RoleText → Type 0
RoleWithin l r = (length r.decls ≤ l.declarations) × (code_depth r.code ≤ l.nesting) × CodeWithin l r.code

-- the program passes no limit
pub record Within (l : Limits) (P : Program) : Type 0 where
  pub enums : length P.enums ≤ l.enums
  pub each_enum : AllByRecursion (EnumWithin l) P.enums
  pub channels : length P.channels ≤ l.channels
  pub each_channel : AllByRecursion (ChannelWithin l) P.channels
  pub roles : length P.roles ≤ l.roles
  pub each_role : AllByRecursion (RoleWithin l) P.roles
  pub statements : program_statements P ≤ l.statements

-- the tokens are the spelling of the levelled program, which is within the limits of a source
pub record Denotes (tokens : List Placed) (P : Program) : Type 0 where
  pub spelled : tokens_of tokens ≡ spelling P
  pub levelled : LevelledProgram P
  pub within : Within source P
