-- What is inside the program of a source: names of the language, and levelled expressions of legal tokens.
use Rattle.std.proofs.Common.{◌≡◌, ℕ, ◌≤◌, Bool, true, false, List, [], ◌∷◌, ◌++◌, map, Option, Some, None, Ok, refl, sym, ap, ◌∙◌, subst}
use Rattle.std.specs.Prelude.{if◌then◌else◌}
use Rattle.std.specs.List.{AllByRecursion}
use Rattle.brisk_lex.specs.declared.token.Mark.TheVariants as m
use Rattle.brisk_lex.specs.declared.token.Placed.{Placed}
use Rattle.brisk_lex.specs.declared.token.Token.{Token}
use Rattle.brisk_lex.specs.declared.token.Token.TheVariants as t
use Rattle.brisk_lex.specs.declared.token.Word.TheVariants as w
use Rattle.brisk_lex.specs.Spelled.{IsName, AllCanBeSpelled, CanBeSpelled}
use Rattle.brisk_lex.specs.Tokens.{tokens}
use Rattle.brisk_lex.proofs.Spellable.{name_of_spelled, number_of_spelled, tokens_can_be_spelled}
use Rattle.brisk_values.specs.Names.{Name, same_name}
use Rattle.brisk_values.proofs.Changes.{exact_name}
use Rattle.brisk_syntax.specs.declared.program.Channel.{Channel}
use Rattle.brisk_syntax.specs.declared.program.EnumDecl.{EnumDecl}
use Rattle.brisk_syntax.specs.declared.program.Program.{Program}
use Rattle.brisk_syntax.specs.declared.tree.Who.{Who}
use Rattle.brisk_syntax.specs.Declarations.{role_named}
use Rattle.brisk_syntax.specs.Declarations as declarations
use Rattle.brisk_syntax.specs.Roles.{RoleText}
use Rattle.brisk_syntax.specs.Syntax.{Expression, Statement, Assign, Send, Recv, RecvAny, If, IfElse, While, For, Repeat, Code, done, ◌⨾◌}
use Rattle.brisk_state.specs.declared.thread.Mode.{Mode}
use Rattle.brisk_state.specs.Symbolic.{initial}
use Rattle.brisk_parse.specs.Input.{tokens_of}
use Rattle.brisk_parse.specs.Levelled.{Levelled, LevelledStatement, LevelledCode, LevelledRole}
use Rattle.brisk_parse.specs.Spelling.{all_of, behind_commas, braced, channel, code, declaration, enumeration, expression, expressions, flag, heading, mark, name, names, partner, role, spelling, statement, word}
use Rattle.brisk_parse.specs.Within.{Denotes}
use Rattle.brisk_readback.specs.Legal.{AllLegal, IsLegal}
use Rattle.brisk_readback.proofs.Texts.{legal_parts}
use Rattle.brisk_rules.proofs.Readings.{Reading, reading}
use Rattle.brisk_sound.proofs.Starts.{first_code, first_mode, role_mode}
use Rattle.brisk_written.proofs.Inside.{Asked, InCode, InStatement}
use Rattle.brisk_written.proofs.Keeping.{Inside}
use Rattle.brisk_written.proofs.Numbered.{IsSmall}

-- an expression is levelled, and its tokens are legal
abbrev pub IsLegalValue : Expression → Type 0
IsLegalValue e = Levelled e × AllLegal (expression e)

-- names are names of the language, expressions levelled and legal, and numbers of boxes small
abbrev pub legal : Asked
legal = record { name = IsName; value = IsLegalValue; number = IsSmall }

-- ---- tokens that were read

legal_token : (x : Token) → CanBeSpelled x → IsLegal x
legal_token (t.Name x) h = name_of_spelled x h
legal_token (t.Num n) h = number_of_spelled n h
legal_token (t.Word k) h = tt
legal_token (t.Mark k) h = tt

all_legal : (ts : List Token) → AllCanBeSpelled ts → AllLegal ts
all_legal [] h = tt
all_legal (x ∷ ts) h = (legal_token x h.0, all_legal ts h.1)

-- the spelling of a source's program is legal
pub spelling_legal : (bytes : List ℕ) (cut : List Placed) (P : Program) → tokens bytes ≡ Ok cut → Denotes cut P → AllLegal (spelling P)
spelling_legal bytes cut P cuts holds = subst AllLegal holds.spelled (all_legal (tokens_of cut) (tokens_can_be_spelled bytes cut cuts))

-- ---- parts of what is legal

front : (ts us : List Token) → AllLegal (ts ++ us) → AllLegal ts
front ts us h = (legal_parts ts us h).0

pub back : (ts us : List Token) → AllLegal (ts ++ us) → AllLegal us
back ts us h = (legal_parts ts us h).1

-- names between commas
named_behind : (xs : List Name) → AllLegal (behind_commas name xs) → AllByRecursion IsName xs
named_behind [] h = tt
named_behind (x ∷ xs) h = (h.1.0, named_behind xs h.1.1)

all_named : (xs : List Name) → AllLegal (names xs) → AllByRecursion IsName xs
all_named [] h = tt
all_named (x ∷ xs) h = (h.0, named_behind xs h.1)

-- expressions between commas
values_behind : (es : List Expression) → AllByRecursion Levelled es → AllLegal (behind_commas expression es) → AllByRecursion IsLegalValue es
values_behind [] l h = tt
values_behind (e ∷ es) l h = let p = legal_parts (expression e) (behind_commas expression es) h.1 in ((l.0, p.0), values_behind es l.1 p.1)

all_values : (es : List Expression) → AllByRecursion Levelled es → AllLegal (expressions es) → AllByRecursion IsLegalValue es
all_values [] l h = tt
all_values (e ∷ es) l h = let p = legal_parts (expression e) (behind_commas expression es) h in ((l.0, p.0), values_behind es l.1 p.1)

-- the first of five parts
first_of : (a b c d e : List Token) → AllLegal (a ++ b ++ c ++ d ++ e) → AllLegal a
first_of a b c d e h = front a b (front (a ++ b) c (front (a ++ b ++ c) d (front (a ++ b ++ c ++ d) e h)))

mutual
  legal_statement : (s : Statement) → LevelledStatement s → AllLegal (statement s) → InStatement legal s
  legal_statement (Assign x e) l h = (h.0, (l, front (expression e) (mark m.Semi) h.1.1))
  legal_statement (Send c es u) l h = all_values es l.0 (first_of (expressions es) (mark m.RParen) (word w.KwTo) (partner u) (mark m.Semi) h.1.1.1)
  legal_statement (Recv c xs u) l h = all_named xs (first_of (names xs) (mark m.RParen) (word w.KwFrom) (partner u) (mark m.Semi) h.1.1.1)
  legal_statement (RecvAny c xs v s b) l h =
      let five = names xs ++ mark m.RParen ++ word w.KwFrom ++ word w.KwAny ++ name v in
      let p = legal_parts (five ++ word w.KwIn ++ name s) (braced (code b)) h.1.1.1 in
      (all_named xs (first_of (names xs) (mark m.RParen) (word w.KwFrom) (word w.KwAny) (name v) (front five (word w.KwIn) (front (five ++ word w.KwIn) (name s) p.0))), legal_code b l (front (code b) (mark m.RBrace) p.1.1))
  legal_statement (If e a) l h =
      let p = legal_parts (expression e) (braced (code a)) h.1 in
      ((l.0, p.0), legal_code a l.1 (front (code a) (mark m.RBrace) p.1.1))
  legal_statement (IfElse e a b) l h =
      let r = legal_parts (expression e ++ braced (code a) ++ word w.KwElse) (braced (code b)) h.1 in
      let p = legal_parts (expression e) (braced (code a)) (front (expression e ++ braced (code a)) (word w.KwElse) r.0) in
      ((l.0, p.0), legal_code a l.1 (front (code a) (mark m.RBrace) p.1.1), legal_code b l.2 (front (code b) (mark m.RBrace) r.1.1))
  legal_statement (While e b) l h =
      let p = legal_parts (expression e) (braced (code b)) h.1 in
      ((l.0, p.0), legal_code b l.1 (front (code b) (mark m.RBrace) p.1.1))
  legal_statement (For v s k b) l h = legal_code b l.1 (front (code b) (mark m.RBrace) h.1.1.1.1.1)
  legal_statement (Repeat s k b) l h = (h.1.0, legal_code b l.1 (front (code b) (mark m.RBrace) h.1.1.1))

  legal_code : (c : Code) → LevelledCode c → AllLegal (code c) → InCode legal c
  legal_code done l h = tt
  legal_code (s ⨾ c) l h = let p = legal_parts (statement s) (code c) h in (legal_statement s l.0 p.0, legal_code c l.1 p.1)

-- ---- roles

-- the heading, the declarations and the code of a role
pub record RoleParts (r : RoleText) : Type 0 where
  pub heading : AllLegal (heading r)
  pub decls : AllLegal (all_of declaration r.decls)
  pub code : AllLegal (code r.code)

pub role_parts : (r : RoleText) → AllLegal (role r) → RoleParts r
role_parts r h =
    let ahead = heading r ++ mark m.LBrace in let declared = ahead ++ all_of declaration r.decls in
    let p = legal_parts declared (code r.code) (front (declared ++ code r.code) (mark m.RBrace) h) in
    let q = legal_parts ahead (all_of declaration r.decls) p.0 in
    record { heading = front (heading r) (mark m.LBrace) q.0; decls = q.1; code = p.1 }

role_name : (r : RoleText) → AllLegal (heading r) → IsName r.name
role_name r h = by r.many h
  where
    by : (many : Bool) → AllLegal (if many then word w.KwMany ++ name r.name ++ flag w.KwNonempty r.nonempty else word w.KwOne ++ name r.name) → IsName r.name
    by true h = h.1.0
    by false h = h.1.0

pub roles_of : (P : Program) → AllLegal (spelling P) → AllLegal (all_of role P.roles)
roles_of P h = back (all_of enumeration P.enums ++ all_of channel P.channels) (all_of role P.roles) h

pub enums_of : (P : Program) → AllLegal (spelling P) → AllLegal (all_of enumeration P.enums)
enums_of P h = front (all_of enumeration P.enums) (all_of channel P.channels) (front (all_of enumeration P.enums ++ all_of channel P.channels) (all_of role P.roles) h)

-- what is so of each role
role_by : (roles : List RoleText) (n : Name) (r : RoleText) → AllLegal (all_of role roles) → AllByRecursion LevelledRole roles → role_named roles n ≡ Some r → (same_name n r.name ≡ true) × RoleParts r × LevelledRole r
role_by [] n r h l is = cc
role_by (q ∷ qs) n r h l is =
    let p = legal_parts (role q) (all_of role qs) h in
    elim (same_name n q.name) as (λ b. same_name n q.name ≡ b → (if b then Some q else role_named qs n) ≡ Some r → (same_name n r.name ≡ true) × RoleParts r × LevelledRole r) [
      | true ↦ λ e g. subst (λ (x : RoleText). (same_name n x.name ≡ true) × RoleParts x × LevelledRole x) (let k : q ≡ r = cc in k) (e, role_parts q p.0, l.0)
      | false ↦ λ e g. role_by qs n r p.1 l.1 g
    ] refl is

-- what is inside the state in which derivations start
pub first_inside : (P : Program) → AllLegal (spelling P) → AllByRecursion LevelledRole P.roles → Inside legal (reading (initial P))
first_inside P h l = record { named = named; code = code_of; pending = λ k. tt }
  where
    by_mode : (n : Name) (m : Mode) (o : Option RoleText) → role_named P.roles n ≡ o → role_mode o ≡ Some m → IsName n
    by_mode n m (Some r) is e =
        let p = role_by P.roles n r (roles_of P h) l is in
        subst IsName (sym (exact_name n r.name p.0)) (role_name r p.1.heading)
    by_mode n m None is e = cc

    named : (n : Name) (m : Mode) → (reading (initial P)).mode n ≡ Some m → IsName n
    named n m e = by_mode n m (role_named P.roles n) refl (sym (first_mode P n) ∙ e)

    by_role : (n : Name) (o : Option RoleText) → role_named P.roles n ≡ o → InCode legal (declarations.code_in o)
    by_role n (Some r) is = let p = role_by P.roles n r (roles_of P h) l is in legal_code r.code p.2.1 p.1.code
    by_role n None is = tt

    code_of : (n : Name) → InCode legal ((reading (initial P)).code n)
    code_of n = subst (InCode legal) (sym (first_code P n)) (by_role n (role_named P.roles n) refl)
