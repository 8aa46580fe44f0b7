-- Each program is within limits that are great enough.
use Rattle.std.proofs.Common.{ℕ, ◌+◌, ◌≤◌, List, [], ◌∷◌, length, arith}
use Rattle.std.specs.List.{AllByRecursion}
use Rattle.brisk_syntax.specs.declared.program.EnumDecl.{EnumDecl}
use Rattle.brisk_syntax.specs.declared.program.Program.{Program}
use Rattle.brisk_syntax.specs.Counts.{program_statements}
use Rattle.brisk_syntax.specs.Depths.{code_depth}
use Rattle.brisk_syntax.specs.Syntax.{Expression, Statement, Assign, Send, Recv, RecvAny, If, IfElse, While, For, Repeat, Code, done, ◌⨾◌}
use Rattle.brisk_parse.specs.Limits.{Limits}
use Rattle.brisk_parse.specs.Within.{Short, StatementWithin, CodeWithin, EnumWithin, ChannelWithin, RoleWithin, Within}
use Rattle.brisk_parse.proofs.OnlyExpressions.{size}

-- each limit is at least n
pub record AtLeast (n : ℕ) (l : Limits) : Type 0 where
  pub tokens : n ≤ l.tokens
  pub places : n ≤ l.places
  pub kinds : n ≤ l.kinds
  pub tags : n ≤ l.tags
  pub declarations : n ≤ l.declarations
  pub enums : n ≤ l.enums
  pub channels : n ≤ l.channels
  pub roles : n ≤ l.roles
  pub statements : n ≤ l.statements
  pub nesting : n ≤ l.nesting

-- it holds under limits that are great enough
pub record Enough (P : Limits → Type 0) : Type 0 where
  pub bound : ℕ
  pub holds : (l : Limits) → AtLeast bound l → P l

pub smaller : (a b : ℕ) (l : Limits) → b ≤ a → AtLeast a l → AtLeast b l
smaller a b l le h = record {
  tokens = omega (arith, le, h.tokens);
  places = omega (arith, le, h.places);
  kinds = omega (arith, le, h.kinds);
  tags = omega (arith, le, h.tags);
  declarations = omega (arith, le, h.declarations);
  enums = omega (arith, le, h.enums);
  channels = omega (arith, le, h.channels);
  roles = omega (arith, le, h.roles);
  statements = omega (arith, le, h.statements);
  nesting = omega (arith, le, h.nesting);
}

pub both : (P Q : Limits → Type 0) → Enough P → Enough Q → Enough (λ l. P l × Q l)
both P Q p q = record { bound = p.bound + q.bound; holds = λ l h. (p.holds l (smaller (p.bound + q.bound) p.bound l (omega arith) h), q.holds l (smaller (p.bound + q.bound) q.bound l (omega arith) h)) }

pub all : {A : Type 0} (P : Limits → A → Type 0) → ((x : A) → Enough (λ l. P l x)) → (xs : List A) → Enough (λ l. AllByRecursion (P l) xs)
all P each [] = record { bound = 0; holds = λ l h. tt }
all P each (x ∷ xs) = both (λ l. P l x) (λ l. AllByRecursion (P l) xs) (each x) (all P each xs)

pub short : (e : Expression) → Enough (λ l. Short l e)
short e = record { bound = size e; holds = λ l h. h.tokens }

abbrev pub Places : ℕ → Limits → Type 0
Places n l = n ≤ 1 + l.places

pub placed : (n : ℕ) → Enough (Places n)
placed n = record { bound = n; holds = λ l h. omega (arith, h.places) }

mutual
  statement_enough : (s : Statement) → Enough (λ l. StatementWithin l s)
  statement_enough (Assign x e) = short e
  statement_enough (Send c es u) = both (Places (length es)) (λ l. AllByRecursion (Short l) es) (placed (length es)) (all Short short es)
  statement_enough (Recv c xs u) = placed (length xs)
  statement_enough (RecvAny c xs v s b) = both (Places (length xs)) (λ l. CodeWithin l b) (placed (length xs)) (code_enough b)
  statement_enough (If e a) = both (λ l. Short l e) (λ l. CodeWithin l a) (short e) (code_enough a)
  statement_enough (IfElse e a b) =
      let two = both (λ l. CodeWithin l a) (λ l. CodeWithin l b) (code_enough a) (code_enough b) in
      let all_three = both (λ l. Short l e) (λ l. CodeWithin l a × CodeWithin l b) (short e) two in
      record { bound = all_three.bound; holds = λ l h. let r = all_three.holds l h in (r.0, r.1.0, r.1.1) }
  statement_enough (While e b) = both (λ l. Short l e) (λ l. CodeWithin l b) (short e) (code_enough b)
  statement_enough (For v s k b) = code_enough b
  statement_enough (Repeat s k b) = code_enough b

  code_enough : (c : Code) → Enough (λ l. CodeWithin l c)
  code_enough done = record { bound = 0; holds = λ l h. tt }
  code_enough (s ⨾ c) = both (λ l. StatementWithin l s) (λ l. CodeWithin l c) (statement_enough s) (code_enough c)

role_enough : (r : _) → Enough (λ l. RoleWithin l r)
role_enough r =
    let code = code_enough r.code in
    record {
      bound = length r.decls + code_depth r.code + code.bound;
      holds = λ l h. (omega (arith, h.declarations), omega (arith, h.nesting), code.holds l (smaller (length r.decls + code_depth r.code + code.bound) code.bound l (omega arith) h));
    }

pub enum_enough : (e : EnumDecl) → Enough (λ l. EnumWithin l e)
enum_enough e = record { bound = length e.tags; holds = λ l h. omega (arith, h.tags) }

pub program_enough : (P : Program) → Enough (λ l. Within l P)
program_enough P =
    let enums = all EnumWithin enum_enough P.enums in
    let channels = all ChannelWithin (λ c. record { bound = length c.kinds; holds = λ l h. omega (arith, h.kinds) }) P.channels in
    let roles = all RoleWithin role_enough P.roles in
    let lists = length P.enums + length P.channels + length P.roles + program_statements P in
    let n = lists + enums.bound + channels.bound + roles.bound in
    record {
      bound = n;
      holds = λ l h. record {
        enums = omega (arith, h.enums);
        each_enum = enums.holds l (smaller n enums.bound l (omega arith) h);
        channels = omega (arith, h.channels);
        each_channel = channels.holds l (smaller n channels.bound l (omega arith) h);
        roles = omega (arith, h.roles);
        each_role = roles.holds l (smaller n roles.bound l (omega arith) h);
        statements = omega (arith, h.statements);
      };
    }
