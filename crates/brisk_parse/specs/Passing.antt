-- Where a tree passes a limit first: the index, in its spelling, of the token at which that is told.
use Rattle.std.specs.Prelude.{ℕ, zero, suc, ◌+◌, ◌-◌, nat_le, if◌then◌else◌, List, [], ◌∷◌, ◌++◌, length}
use Rattle.brisk_values.specs.Names.{Name}
use Rattle.brisk_lex.specs.declared.token.Mark.TheVariants as m
use Rattle.brisk_lex.specs.declared.token.Token.{Token}
use Rattle.brisk_lex.specs.declared.token.Word.TheVariants as w
use Rattle.brisk_syntax.specs.declared.program.EnumDecl.{EnumDecl}
use Rattle.brisk_syntax.specs.declared.program.Channel.{Channel}
use Rattle.brisk_syntax.specs.declared.program.Program.{Program}
use Rattle.brisk_syntax.specs.Counts.{statements_in, statements}
use Rattle.brisk_syntax.specs.Roles.{RoleText}
use Rattle.brisk_syntax.specs.Syntax.{Expression, Statement, Assign, Send, Recv, RecvAny, If, IfElse, While, For, Repeat, Code, done, ◌⨾◌}
use Rattle.brisk_parse.specs.Limits.{Limits}
use Rattle.brisk_parse.specs.Spelling as spell
use Rattle.brisk_parse.specs.Spelling.{mark, word, name, names, braced}

-- no limit is passed, or a block is nested too deep, or there is one thing too many
pub data Passing : Type 0 where
  Nowhere : Passing
  DeepAt : (k : ℕ) → Passing
  ManyAt : (k : ℕ) → Passing

-- so behind some tokens
abbrev pub behind : List Token → Passing → Passing
behind ts Nowhere = Nowhere
behind ts (DeepAt k) = DeepAt (length ts + k)
behind ts (ManyAt k) = ManyAt (length ts + k)

-- in what is spelled by these tokens, and otherwise behind it
abbrev pub or_behind : Passing → List Token → Passing → Passing
or_behind Nowhere ts q = behind ts q
or_behind (DeepAt k) ts q = DeepAt k
or_behind (ManyAt k) ts q = ManyAt k

-- ---- lists

-- items, each behind a comma, of which n may come
abbrev pub behind_commas : {A : Type 0} → (A → Passing) → (A → List Token) → ℕ → List A → Passing
behind_commas passes spelled n [] = Nowhere
behind_commas passes spelled zero (x ∷ xs) = ManyAt 1
behind_commas passes spelled (suc n) (x ∷ xs) = behind (mark m.Comma) (or_behind (passes x) (spelled x) (behind_commas passes spelled n xs))

-- items with commas between, of which n may come after the first
abbrev pub separated : {A : Type 0} → (A → Passing) → (A → List Token) → ℕ → List A → Passing
separated passes spelled n [] = Nowhere
separated passes spelled n (x ∷ xs) = or_behind (passes x) (spelled x) (behind_commas passes spelled n xs)

-- items one after another, of which m may come, where n statements may begin in all
abbrev pub all_of : {A : Type 0} → (ℕ → A → Passing) → (A → ℕ) → (A → List Token) → ℕ → ℕ → List A → Passing
all_of passes used spelled m n [] = Nowhere
all_of passes used spelled zero n (x ∷ xs) = ManyAt 0
all_of passes used spelled (suc m) n (x ∷ xs) = or_behind (passes n x) (spelled x) (all_of passes used spelled m (n - used x) xs)

-- ---- statements

-- an expression, which may have so many tokens
abbrev pub expression : Limits → Expression → Passing
expression l e = (if nat_le (length (spell.expression e)) l.tokens then Nowhere else ManyAt l.tokens)

-- the expressions of a message
abbrev pub expressions : Limits → List Expression → Passing
expressions l es = separated (expression l) spell.expression l.places es

-- the variables of a message
abbrev pub variables : Limits → List Name → Passing
variables l xs = separated (λ _. Nowhere) name l.places xs

-- a block, with what is passed between its braces, where d blocks may nest
abbrev pub block : ℕ → Passing → Passing
block zero inside = DeepAt 0
block (suc d) inside = behind (mark m.LBrace) inside

-- a statement, where n may begin, with what is passed in it where one fewer may begin
abbrev pub counted : ℕ → (ℕ → Passing) → Passing
counted zero inside = ManyAt 0
counted (suc n) inside = inside n

-- a statement, and code, where d blocks may nest, and n statements may begin within the statement or in the code
abbrev mutual
  pub statement : Limits → ℕ → ℕ → Statement → Passing
  statement l d n (Assign x e) = behind (name x ++ mark m.Assign) (expression l e)
  statement l d n (Send c es u) = behind (word w.KwSend ++ name c ++ mark m.LParen) (expressions l es)
  statement l d n (Recv c xs u) = behind (word w.KwRecv ++ name c ++ mark m.LParen) (variables l xs)
  statement l d n (RecvAny c xs v s b) =
      behind (word w.KwRecv ++ name c ++ mark m.LParen) (or_behind (variables l xs) (names xs) (behind (mark m.RParen ++ word w.KwFrom ++ word w.KwAny ++ name v ++ word w.KwIn ++ name s) (block d (code l (d - 1) n b))))
  statement l d n (If e a) = behind (word w.KwIf) (or_behind (expression l e) (spell.expression e) (block d (code l (d - 1) n a)))
  statement l d n (IfElse e a b) =
      behind (word w.KwIf) (or_behind (expression l e) (spell.expression e) (or_behind (block d (code l (d - 1) n a)) (braced (spell.code a)) (behind (word w.KwElse) (block d (code l (d - 1) (n - statements a) b)))))
  statement l d n (While e b) = behind (word w.KwWhile) (or_behind (expression l e) (spell.expression e) (block d (code l (d - 1) n b)))
  statement l d n (For v s k b) = behind (word w.KwFor ++ name v ++ word w.KwIn ++ name s) (block d (code l (d - 1) n b))
  statement l d n (Repeat s k b) = behind (word w.KwRepeat ++ name s) (block d (code l (d - 1) n b))

  pub code : Limits → ℕ → ℕ → Code → Passing
  code l d n done = Nowhere
  code l d n (s ⨾ c) = or_behind (counted n (λ n. statement l d n s)) (spell.statement s) (code l d (n - statements_in s) c)

-- ---- programs

-- an enumeration, which may have so many tags
abbrev pub enumeration : Limits → EnumDecl → Passing
enumeration l e = behind (word w.KwEnum ++ name e.name ++ mark m.LBrace) (separated (λ _. Nowhere) name l.tags e.tags)

-- a channel, which may have so many kinds
abbrev pub channel : Limits → Channel → Passing
channel l c = behind (word w.KwChannel ++ name c.name ++ mark m.LParen) (separated (λ _. Nowhere) spell.kind l.kinds c.kinds)

-- the declarations of a role
abbrev pub declarations : Limits → RoleText → Passing
declarations l r = all_of (λ _ _. Nowhere) (λ _. 0) spell.declaration l.declarations 0 r.decls

-- a role, where n statements may begin
abbrev pub role : Limits → ℕ → RoleText → Passing
role l n r = behind (spell.heading r ++ mark m.LBrace) (or_behind (declarations l r) (spell.all_of spell.declaration r.decls) (code l l.nesting n r.code))

-- the enumerations, and what follows them
abbrev pub enumerations : Limits → List EnumDecl → Passing → Passing
enumerations l es rest = or_behind (all_of (λ _ e. enumeration l e) (λ _. 0) spell.enumeration l.enums 0 es) (spell.all_of spell.enumeration es) rest

-- a program
abbrev pub program : Limits → Program → Passing
program l P =
    enumerations l P.enums (or_behind (all_of (λ _ c. channel l c) (λ _. 0) spell.channel l.channels 0 P.channels) (spell.all_of spell.channel P.channels)
    (all_of (role l) (λ r. statements r.code) spell.role l.roles l.statements P.roles))
