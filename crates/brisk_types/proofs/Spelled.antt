-- The tokens of a program are as many as are counted.
use Rattle.std.proofs.Common.{◌≡◌, ℕ, ◌+◌, ◌<◌, ◌≤◌, ◌^◌, ◌&&◌, Bool, true, false, List, [], ◌∷◌, ◌++◌, length, sum_by, if◌then◌else◌, refl, sym, ap, ◌∙◌, arith}
use Rattle.std.proofs.lemmas.List.{length-append, length-map}
use Rattle.std.proofs.lemmas.List.Sums.{sum_by-cons}
use Rattle.brisk_values.specs.declared.value.Kind.{Kind}
use Rattle.brisk_values.specs.declared.value.Kind.TheVariants as kinds
use Rattle.brisk_values.specs.Names.{Name}
use Rattle.brisk_lex.specs.declared.token.Mark.TheVariants as m
use Rattle.brisk_lex.specs.declared.token.Word.{Word}
use Rattle.brisk_lex.specs.declared.token.Word.TheVariants as w
use Rattle.brisk_lex.specs.declared.token.Placed.{Placed}
use Rattle.brisk_lex.specs.declared.token.Token.{Token}
use Rattle.brisk_syntax.specs.declared.program.Channel.{Channel}
use Rattle.brisk_syntax.specs.declared.program.Const.{Const}
use Rattle.brisk_syntax.specs.declared.program.Const.TheVariants as const
use Rattle.brisk_syntax.specs.declared.program.Decl.{Decl}
use Rattle.brisk_syntax.specs.declared.program.Decl.TheVariants as decl
use Rattle.brisk_syntax.specs.declared.program.EnumDecl.{EnumDecl}
use Rattle.brisk_syntax.specs.declared.program.Program.{Program}
use Rattle.brisk_syntax.specs.declared.tree.Who.{Who}
use Rattle.brisk_syntax.specs.declared.tree.Who.TheVariants as who
use Rattle.brisk_syntax.specs.Roles.{RoleText}
use Rattle.brisk_syntax.specs.Syntax.{Expression, Num, Truth, Var, Tag, Size, Paren, Un, Bin, Statement, Assign, Send, Recv, RecvAny, If, IfElse, While, For, Repeat, Code, done, ◌⨾◌}
use Rattle.brisk_syntax.specs.Tokens as count
use Rattle.brisk_parse.specs.Input.{tokens_of}
use Rattle.brisk_parse.specs.Spelling as spell
use Rattle.brisk_parse.specs.Within.{Denotes}

behind : {A : Type 0} (s : A → List Token) (f : A → ℕ) → ((x : A) → length (s x) ≡ f x) → (x : A) (xs : List A) → length (s x ++ spell.behind_commas s xs) ≡ count.separated f (x ∷ xs)
behind s f h x [] = omega (arith, length-append (s x) [], h x)
behind s f h x (y ∷ ys) = omega (arith, length-append (s x) (spell.behind_commas s (y ∷ ys)), h x, behind s f h y ys)

separated_length : {A : Type 0} (s : A → List Token) (f : A → ℕ) → ((x : A) → length (s x) ≡ f x) → (xs : List A) → length (spell.separated s xs) ≡ count.separated f xs
separated_length s f h [] = refl
separated_length s f h (x ∷ xs) = behind s f h x xs

pub all_length : {A : Type 0} (s : A → List Token) (f : A → ℕ) → ((x : A) → length (s x) ≡ f x) → (xs : List A) → length (spell.all_of s xs) ≡ sum_by f xs
all_length s f h [] = refl
all_length s f h (x ∷ xs) = length-append (s x) (spell.all_of s xs) ∙ (λ i. h x i + all_length s f h xs i) ∙ sym (sum_by-cons f x xs)

truth_length : (b : Bool) → length (spell.truth b) ≡ 1
truth_length true = refl
truth_length false = refl

pub expression_length : (e : Expression) → length (spell.expression e) ≡ count.expression_tokens e
expression_length (Num n) = refl
expression_length (Truth b) = truth_length b
expression_length (Var x) = refl
expression_length (Tag e t) = refl
expression_length (Size s) = refl
expression_length (Paren e) = omega (arith, length-append (spell.expression e) (spell.mark m.RParen), expression_length e)
expression_length (Un op e) = omega (arith, expression_length e)
expression_length (Bin op e f) = simp length-append (omega (arith, expression_length e, expression_length f))

pub names_length : (xs : List Name) → length (spell.names xs) ≡ count.name_tokens xs
names_length xs = separated_length spell.name (λ x. 1) (λ x. refl) xs

pub exprs_length : (es : List Expression) → length (spell.expressions es) ≡ count.list_tokens es
exprs_length es = separated_length spell.expression count.expression_tokens expression_length es

partner_length : (u : Who) → length (spell.partner u) ≡ 1
partner_length (who.Name n) = refl
partner_length (who.At n) = refl
partner_length (who.Pid n) = refl

mutual
  statement_length : (s : Statement) → length (spell.statement s) ≡ count.statement_tokens s
  statement_length (Assign x e) = simp length-append (omega (arith, expression_length e))
  statement_length (Send c es u) = simp length-append (omega (arith, exprs_length es, partner_length u))
  statement_length (Recv c xs u) = simp length-append (omega (arith, names_length xs, partner_length u))
  statement_length (RecvAny c xs v s b) = simp length-append (omega (arith, names_length xs, code_length b))
  statement_length (If e a) = simp length-append (omega (arith, expression_length e, code_length a))
  statement_length (IfElse e a b) = simp length-append (omega (arith, expression_length e, code_length a, code_length b))
  statement_length (While e b) = simp length-append (omega (arith, expression_length e, code_length b))
  statement_length (For v s k b) = simp length-append (omega (arith, code_length b))
  statement_length (Repeat s k b) = simp length-append (omega (arith, code_length b))

  code_length : (c : Code) → length (spell.code c) ≡ count.code_tokens c
  code_length done = refl
  code_length (s ⨾ c) = omega (arith, length-append (spell.statement s) (spell.code c), statement_length s, code_length c)

kind_length : (k : Kind) → length (spell.kind k) ≡ 1
kind_length kinds.Int = refl
kind_length kinds.Bool = refl
kind_length (kinds.Enum e) = refl

constant_length : (c : Const) → length (spell.constant c) ≡ count.constant_tokens c
constant_length (const.Num true n) = refl
constant_length (const.Num false n) = refl
constant_length (const.Bool b) = truth_length b
constant_length (const.Tag e x) = refl

decl_length : (d : Decl) → length (spell.declaration d) ≡ count.decl_tokens d
decl_length (decl.Var x k c) = simp length-append (omega (arith, kind_length k, constant_length c))
decl_length (decl.Input x k) = simp length-append (omega (arith, kind_length k))

pub enum_length : (e : EnumDecl) → length (spell.enumeration e) ≡ count.enum_tokens e
enum_length e = omega (arith, length-append (spell.names e.tags) (spell.mark m.RBrace), names_length e.tags)

flag_length : (k : Word) (b : Bool) → length (spell.flag k b) ≡ (if b then 1 else 0)
flag_length k true = refl
flag_length k false = refl

channel_length : (c : Channel) → length (spell.channel c) ≡ count.channel_tokens c
channel_length c = simp length-append (omega (arith, separated_length spell.kind (λ k. 1) kind_length c.kinds, flag_length w.KwLoose c.loose))

heading_length : (r : RoleText) → length (spell.heading r) ≡ 2 + (if r.many && r.nonempty then 1 else 0)
heading_length r = by r.many r.nonempty
  where
    by : (many nonempty : Bool) → length (if many then spell.word w.KwMany ++ spell.name r.name ++ spell.flag w.KwNonempty nonempty else spell.word w.KwOne ++ spell.name r.name) ≡ 2 + (if many && nonempty then 1 else 0)
    by true true = refl
    by true false = refl
    by false nonempty = refl

pub role_length : (r : RoleText) → length (spell.role r) ≡ count.role_tokens r
role_length r = simp length-append (omega (arith, heading_length r, all_length spell.declaration count.decl_tokens decl_length r.decls, code_length r.code))

-- the spelling has the tokens that are counted
pub spelling_length : (P : Program) → length (spell.spelling P) ≡ count.program_tokens P
spelling_length P = simp length-append (omega (arith, all_length spell.enumeration count.enum_tokens enum_length P.enums, all_length spell.channel count.channel_tokens channel_length P.channels, all_length spell.role count.role_tokens role_length P.roles))

-- so a program that is read from so many tokens is short
pub short : (ts : List Placed) (P : Program) → Denotes ts P → length ts ≤ 16777216 → count.program_tokens P < 2 ^ 32
short ts P read h =
    let all : length ts ≡ length (tokens_of ts) = sym (length-map ts (λ (p : Placed). p.token)) in
    let same : length (tokens_of ts) ≡ length (spell.spelling P) = ap length read.spelled in
    omega (arith, all, same, spelling_length P)
