-- What is read as a declaration, a role or a program is spelled.
use Rattle.std.proofs.Common.{◌≡◌, ℕ, ◌≤◌, Bool, true, false, List, [], ◌∷◌, ◌++◌, length, Ok, Err, refl, ap, ◌∙◌, append_assoc, append-nil, arith}
use Rattle.std.specs.List.{AllByRecursion}
use Rattle.brisk_values.specs.Names.{Name}
use Rattle.brisk_values.specs.declared.value.Kind.TheVariants as kinds
use Rattle.brisk_lex.specs.declared.token.Mark.TheVariants as m
use Rattle.brisk_lex.specs.declared.token.Word.{Word}
use Rattle.brisk_lex.specs.declared.token.Word.TheVariants as w
use Rattle.brisk_lex.specs.declared.token.Token.{Token}
use Rattle.brisk_lex.specs.declared.token.Token.TheVariants as t
use Rattle.brisk_lex.specs.declared.token.Placed.{Placed}
use Rattle.brisk_syntax.specs.declared.program.Const.TheVariants as const
use Rattle.brisk_syntax.specs.declared.program.Decl.{Decl}
use Rattle.brisk_syntax.specs.declared.program.Decl.TheVariants as decl
use Rattle.brisk_syntax.specs.declared.program.EnumDecl.{EnumDecl}
use Rattle.brisk_syntax.specs.declared.program.Program.{Program}
use Rattle.brisk_syntax.specs.Counts as counts
use Rattle.brisk_syntax.specs.Roles.{RoleText}
use Rattle.brisk_syntax.specs.Syntax.{Code}
use Rattle.brisk_parse.specs.Declarations.{kind, begins_kind, tag, constant, variable, input, declaration, begins_declaration, enumeration, begins_enumeration, flag, channel, begins_channel, role_block, single_role, set_role, role, begins_role, whole, at_end, ended, program}
use Rattle.brisk_parse.specs.Input.{Input, at, sees, start}
use Rattle.brisk_parse.specs.Levelled.{HasTags, LevelledRole, LevelledProgram}
use Rattle.brisk_parse.specs.Limits.{Limits, source}
use Rattle.brisk_parse.specs.Outcomes.{Outcome}
use Rattle.brisk_parse.specs.Reading.{expect, name, number, listed, separated, list_of, begins_name}
use Rattle.brisk_parse.specs.Statements.{statements, block}
use Rattle.brisk_parse.specs.Spelling as spell
use Rattle.brisk_parse.specs.Within.{EnumWithin, ChannelWithin, RoleWithin, Within, Denotes}
use Rattle.brisk_parse.proofs.Found.{parts3, parts4, parts5, Found, found_then, found_ok, found_err, found_if, found_so, found_after, Spelled, Plain, Any, expect_found, name_found, number_found, listed_found, separated_found, list_found}
use Rattle.brisk_parse.proofs.FoundStatements.{all_so, plain, CodeFits, statements_found, block_found}

kind_at : (rest : List Token) (r n : ℕ) → Found (kind (at rest r n)) (Plain spell.kind Any (at rest r n))
unfolding kind
kind_at [] r n = found_err _ _
kind_at (t.Word w.KwInt ∷ rest) r n = found_ok _ kinds.Int (at rest r n) (record { spelled = refl; room = refl; statements = omega arith; good = tt })
kind_at (t.Word w.KwBool ∷ rest) r n = found_ok _ kinds.Bool (at rest r n) (record { spelled = refl; room = refl; statements = omega arith; good = tt })
kind_at (t.Name x ∷ rest) r n = found_ok _ (kinds.Enum x) (at rest r n) (record { spelled = refl; room = refl; statements = omega arith; good = tt })
kind_at (_ ∷ rest) r n = found_err _ _

kind_found : (i : Input) → Found (kind i) (Plain spell.kind Any i)
kind_found i = kind_at i.rest i.room i.statements

-- the input with a token that is gone past
abbrev with : Token → Input → Input
with k i = at (k ∷ i.rest) i.room i.statements

tag_found : (e : Name) (i : Input) → Found (tag e i) (Plain spell.constant Any (with (t.Name e) i))
unfolding tag
tag_found e i =
    found_then _ _ (expect (t.Mark m.Dot) i) _ (expect_found (t.Mark m.Dot) i) (λ _ j1 a1.
    found_then _ _ (name j1) _ (name_found j1) (λ x j2 a2.
    found_ok _ (const.Tag e x) j2 (record { spelled = simp (a1.spelled, a2.spelled) refl; room = a2.room ∙ a1.room; statements = omega (arith, a1.statements, a2.statements); good = tt })))

constant_at : (rest : List Token) (r n : ℕ) → Found (constant (at rest r n)) (Plain spell.constant Any (at rest r n))
unfolding constant
constant_at [] r n = found_err _ _
constant_at (t.Num x ∷ rest) r n = found_ok _ (const.Num false x) (at rest r n) (record { spelled = refl; room = refl; statements = omega arith; good = tt })
constant_at (t.Mark m.Minus ∷ rest) r n =
    found_then _ _ (number (at rest r n)) _ (number_found (at rest r n)) (λ x j a.
    found_ok _ (const.Num true x) j (record { spelled = ap (λ l. t.Mark m.Minus ∷ l) a.spelled; room = a.room; statements = a.statements; good = tt }))
constant_at (t.Word w.KwTrue ∷ rest) r n = found_ok _ (const.Bool true) (at rest r n) (record { spelled = refl; room = refl; statements = omega arith; good = tt })
constant_at (t.Word w.KwFalse ∷ rest) r n = found_ok _ (const.Bool false) (at rest r n) (record { spelled = refl; room = refl; statements = omega arith; good = tt })
constant_at (t.Name e ∷ rest) r n = tag_found e (at rest r n)
constant_at (_ ∷ rest) r n = found_err _ _

constant_found : (i : Input) → Found (constant i) (Plain spell.constant Any i)
constant_found i = constant_at i.rest i.room i.statements

variable_found : (i : Input) → Found (variable i) (Plain spell.declaration Any (with (t.Word w.KwVar) i))
unfolding variable
variable_found i =
    found_then _ _ (name i) _ (name_found i) (λ x j1 a1.
    found_then _ _ (expect (t.Mark m.Colon) j1) _ (expect_found (t.Mark m.Colon) j1) (λ _ j2 a2.
    found_then _ _ (kind j2) _ (kind_found j2) (λ k j3 a3.
    found_then _ _ (expect (t.Mark m.Equals) j3) _ (expect_found (t.Mark m.Equals) j3) (λ _ j4 a4.
    found_then _ _ (constant j4) _ (constant_found j4) (λ c j5 a5.
    found_then _ _ (expect (t.Mark m.Semi) j5) _ (expect_found (t.Mark m.Semi) j5) (λ _ j6 a6.
    found_ok _ (decl.Var x k c) j6 (record {
      spelled = simp (a1.spelled, a2.spelled, a3.spelled, a4.spelled, a5.spelled, a6.spelled) (ap (λ l. t.Word w.KwVar ∷ t.Name x ∷ t.Mark m.Colon ∷ l) (parts4 (spell.kind k) (spell.mark m.Equals) (spell.constant c) (spell.mark m.Semi) j6.rest));
      room = a6.room ∙ a5.room ∙ a4.room ∙ a3.room ∙ a2.room ∙ a1.room;
      statements = omega (arith, a1.statements, a2.statements, a3.statements, a4.statements, a5.statements, a6.statements);
      good = tt;
    })))))))

input_found : (i : Input) → Found (input i) (Plain spell.declaration Any (with (t.Word w.KwInput) i))
unfolding input
input_found i =
    found_then _ _ (name i) _ (name_found i) (λ x j1 a1.
    found_then _ _ (expect (t.Mark m.Colon) j1) _ (expect_found (t.Mark m.Colon) j1) (λ _ j2 a2.
    found_then _ _ (kind j2) _ (kind_found j2) (λ k j3 a3.
    found_then _ _ (expect (t.Mark m.Semi) j3) _ (expect_found (t.Mark m.Semi) j3) (λ _ j4 a4.
    found_ok _ (decl.Input x k) j4 (record {
      spelled = simp (a1.spelled, a2.spelled, a3.spelled, a4.spelled, append_assoc) refl;
      room = a4.room ∙ a3.room ∙ a2.room ∙ a1.room;
      statements = omega (arith, a1.statements, a2.statements, a3.statements, a4.statements);
      good = tt;
    })))))

pub declaration_at : (rest : List Token) (r n : ℕ) → Found (declaration (at rest r n)) (Plain spell.declaration Any (at rest r n))
unfolding declaration
declaration_at [] r n = found_err _ _
declaration_at (t.Word w.KwVar ∷ rest) r n = variable_found (at rest r n)
declaration_at (t.Word w.KwInput ∷ rest) r n = input_found (at rest r n)
declaration_at (_ ∷ rest) r n = found_err _ _

pub flag_found : (k : Word) (i : Input) → Found (flag (t.Word k) i) (Plain (spell.flag k) Any i)
unfolding flag
flag_found k i =
    found_if _ (sees (t.Word k) i) _ _
    (λ h. found_after _ (t.Word k) i (λ j. Ok (true, j)) h (λ j a. found_ok _ true j (record { spelled = a.spelled; room = a.room; statements = a.statements; good = tt })))
    (λ _. found_ok _ false i (record { spelled = refl; room = refl; statements = omega arith; good = tt }))

module _ (l : Limits) where
  abbrev pub EnumFits : EnumDecl → Type 0
  EnumFits e = HasTags e × EnumWithin l e

  pub enumeration_found : (i : Input) → Found (enumeration l i) (Plain spell.enumeration EnumFits i)
  unfolding enumeration
  enumeration_found i =
      found_then _ _ (expect (t.Word w.KwEnum) i) _ (expect_found (t.Word w.KwEnum) i) (λ _ j1 a1.
      found_then _ _ (name j1) _ (name_found j1) (λ e j2 a2.
      found_then _ _ (expect (t.Mark m.LBrace) j2) _ (expect_found (t.Mark m.LBrace) j2) (λ _ j3 a3.
      found_then _ _ (separated begins_name name l.tags j3) _ (plain spell.names _ _ (separated begins_name name l.tags j3) j3 (λ ts h. h) (separated_found spell.name (λ _. 0) Any begins_name name name_found l.tags j3)) (λ ts j4 a4.
      found_then _ _ (expect (t.Mark m.RBrace) j4) _ (expect_found (t.Mark m.RBrace) j4) (λ _ j5 a5.
      found_ok _ _ j5 (record {
        spelled = simp (a1.spelled, a2.spelled, a3.spelled, a4.spelled, a5.spelled, append_assoc) refl;
        room = a5.room ∙ a4.room ∙ a3.room ∙ a2.room ∙ a1.room;
        statements = omega (arith, a1.statements, a2.statements, a3.statements, a4.statements, a5.statements);
        good = (a4.good.1, a4.good.0.1);
      }))))))

  channel_found : (i : Input) → Found (channel l i) (Plain spell.channel (ChannelWithin l) i)
  unfolding channel
  channel_found i =
      found_then _ _ (expect (t.Word w.KwChannel) i) _ (expect_found (t.Word w.KwChannel) i) (λ _ j1 a1.
      found_then _ _ (name j1) _ (name_found j1) (λ c j2 a2.
      found_then _ _ (expect (t.Mark m.LParen) j2) _ (expect_found (t.Mark m.LParen) j2) (λ _ j3 a3.
      found_then _ _ (listed begins_kind kind l.kinds j3) _ (plain (spell.separated spell.kind) _ _ (listed begins_kind kind l.kinds j3) j3 (λ ks h. h.1) (listed_found spell.kind (λ _. 0) Any begins_kind kind kind_found l.kinds j3)) (λ ks j4 a4.
      found_then _ _ (expect (t.Mark m.RParen) j4) _ (expect_found (t.Mark m.RParen) j4) (λ _ j5 a5.
      found_then _ _ (flag (t.Word w.KwLoose) j5) _ (flag_found w.KwLoose j5) (λ loose j6 a6.
      found_then _ _ (expect (t.Mark m.Semi) j6) _ (expect_found (t.Mark m.Semi) j6) (λ _ j7 a7.
      found_ok _ _ j7 (record {
        spelled = simp (a1.spelled, a2.spelled, a3.spelled, a4.spelled, a5.spelled, a6.spelled, a7.spelled) (ap (λ l. t.Word w.KwChannel ∷ t.Name c ∷ t.Mark m.LParen ∷ l) (parts4 (spell.separated spell.kind ks) (spell.mark m.RParen) (spell.flag w.KwLoose loose) (spell.mark m.Semi) j7.rest));
        room = a7.room ∙ a6.room ∙ a5.room ∙ a4.room ∙ a3.room ∙ a2.room ∙ a1.room;
        statements = omega (arith, a1.statements, a2.statements, a3.statements, a4.statements, a5.statements, a6.statements, a7.statements);
        good = a4.good;
      }))))))))

  -- ---- roles

  abbrev RoleFits : RoleText → Type 0
  RoleFits r = LevelledRole r × RoleWithin l r

  abbrev role_statements : RoleText → ℕ
  role_statements r = counts.statements r.code

  abbrev text : Name → Bool → Bool → List Decl → Code → RoleText
  text x is_many is_nonempty ds c = record { name = x; many = is_many; nonempty = is_nonempty; decls = ds; code = c }

  abbrev spelled_block : RoleText → List Token
  spelled_block r = spell.mark m.LBrace ++ spell.all_of spell.declaration r.decls ++ spell.code r.code ++ spell.mark m.RBrace

  -- the role has this head
  record IsBlock (x : Name) (is_many is_nonempty : Bool) (r : RoleText) : Type 0 where
    name : r.name ≡ x
    many : r.many ≡ is_many
    nonempty : r.nonempty ≡ is_nonempty
    code : CodeFits l l.nesting r.code
    decls : length r.decls ≤ l.declarations

  block_of_role_found : (x : Name) (is_many is_nonempty : Bool) (i : Input) → Found (role_block l x is_many is_nonempty i) (Spelled spelled_block role_statements (IsBlock x is_many is_nonempty) i)
  unfolding role_block
  block_of_role_found x is_many is_nonempty i =
      found_then _ _ (expect (t.Mark m.LBrace) i) _ (expect_found (t.Mark m.LBrace) i) (λ _ j1 a1.
      found_then _ _ (list_of begins_declaration declaration l.declarations j1) _ (plain (spell.all_of spell.declaration) _ _ (list_of begins_declaration declaration l.declarations j1) j1 (λ ds h. h.1) (list_found spell.declaration (λ _. 0) Any begins_declaration declaration (λ i. declaration_at i.rest i.room i.statements) l.declarations j1)) (λ ds j2 a2.
      found_then _ _ (statements l (block l l.nesting) j2) _ (statements_found l l.nesting (block l l.nesting) (block_found l l.nesting) j2) (λ c j3 a3.
      found_then _ _ (expect (t.Mark m.RBrace) j3) _ (expect_found (t.Mark m.RBrace) j3) (λ _ j4 a4.
      found_ok _ (text x is_many is_nonempty ds c) j4 (record {
        spelled = simp (a1.spelled, a2.spelled, a3.spelled, a4.spelled) (ap (λ l. t.Mark m.LBrace ∷ l) (parts3 (spell.all_of spell.declaration ds) (spell.code c) (spell.mark m.RBrace) j4.rest));
        room = a4.room ∙ a3.room ∙ a2.room ∙ a1.room;
        statements = omega (arith, a1.statements, a2.statements, a3.statements, a4.statements);
        good = record { name = refl; many = refl; nonempty = refl; code = a3.good; decls = a2.good };
      })))))

  absurd_many : (r : RoleText) → r.many ≡ true → r.many ≡ false → ⊥
  absurd_many r h g = cc

  single_found : (i : Input) → Found (single_role l i) (Spelled spell.role role_statements RoleFits (with (t.Word w.KwOne) i))
  unfolding single_role
  single_found i =
      found_then _ _ (name i) _ (name_found i) (λ x j1 a1.
      found_so _ _ (role_block l x false false j1) (λ r j2 a2. record {
        spelled = simp (a1.spelled, a2.spelled, a2.good.name, a2.good.many) refl;
        room = a2.room ∙ a1.room;
        statements = omega (arith, a1.statements, a2.statements);
        good = ((λ _. a2.good.nonempty, a2.good.code.levelled), (a2.good.decls, a2.good.code.depth, a2.good.code.within));
      }) (block_of_role_found x false false j1))

  set_found : (i : Input) → Found (set_role l i) (Spelled spell.role role_statements RoleFits (with (t.Word w.KwMany) i))
  unfolding set_role
  set_found i =
      found_then _ _ (name i) _ (name_found i) (λ x j1 a1.
      found_then _ _ (flag (t.Word w.KwNonempty) j1) _ (flag_found w.KwNonempty j1) (λ is_nonempty j2 a2.
      found_so _ _ (role_block l x true is_nonempty j2) (λ r j3 a3. record {
        spelled = simp (a1.spelled, a2.spelled, a3.spelled, a3.good.name, a3.good.many, a3.good.nonempty) (ap (λ l. t.Word w.KwMany ∷ t.Name x ∷ l) (parts5 (spell.flag w.KwNonempty is_nonempty) (spell.mark m.LBrace) (spell.all_of spell.declaration r.decls) (spell.code r.code) (spell.mark m.RBrace) j3.rest));
        room = a3.room ∙ a2.room ∙ a1.room;
        statements = omega (arith, a1.statements, a2.statements, a3.statements);
        good = ((λ h. absurd (absurd_many r a3.good.many h), a3.good.code.levelled), (a3.good.decls, a3.good.code.depth, a3.good.code.within));
      }) (block_of_role_found x true is_nonempty j2)))

  role_at : (rest : List Token) (r n : ℕ) → Found (role l (at rest r n)) (Spelled spell.role role_statements RoleFits (at rest r n))
  unfolding role
  role_at [] r n = found_err _ _
  role_at (t.Word w.KwOne ∷ rest) r n = single_found (at rest r n)
  role_at (t.Word w.KwMany ∷ rest) r n = set_found (at rest r n)
  role_at (_ ∷ rest) r n = found_err _ _

  -- ---- programs

  -- all but the number of statements
  pub record ProgramFits (P : Program) : Type 0 where
    pub levelled : LevelledProgram P
    pub enums : length P.enums ≤ l.enums
    pub each_enum : AllByRecursion (EnumWithin l) P.enums
    pub channels : length P.channels ≤ l.channels
    pub each_channel : AllByRecursion (ChannelWithin l) P.channels
    pub roles : length P.roles ≤ l.roles
    pub each_role : AllByRecursion (RoleWithin l) P.roles

  pub whole_found : (i : Input) → Found (whole l i) (Spelled spell.spelling counts.program_statements ProgramFits i)
  unfolding whole
  whole_found i =
      found_then _ _ (list_of begins_enumeration (enumeration l) l.enums i) _ (plain (spell.all_of spell.enumeration) _ _ (list_of begins_enumeration (enumeration l) l.enums i) i (λ es h. h) (list_found spell.enumeration (λ _. 0) EnumFits begins_enumeration (enumeration l) enumeration_found l.enums i)) (λ es j1 a1.
      found_then _ _ (list_of begins_channel (channel l) l.channels j1) _ (plain (spell.all_of spell.channel) _ _ (list_of begins_channel (channel l) l.channels j1) j1 (λ cs h. h) (list_found spell.channel (λ _. 0) (ChannelWithin l) begins_channel (channel l) channel_found l.channels j1)) (λ cs j2 a2.
      found_then _ _ (list_of begins_role (role l) l.roles j2) _ (list_found spell.role role_statements RoleFits begins_role (role l) (λ i. role_at i.rest i.room i.statements) l.roles j2) (λ rs j3 a3.
      found_ok _ _ j3 (record {
        spelled = simp (a1.spelled, a2.spelled, a3.spelled) (parts3 (spell.all_of spell.enumeration es) (spell.all_of spell.channel cs) (spell.all_of spell.role rs) j3.rest);
        room = a3.room ∙ a2.room ∙ a1.room;
        statements = omega (arith, a1.statements, a2.statements, a3.statements);
        good = record {
          levelled = record { enums = all_so _ HasTags (λ e h. h.0) es a1.good.0; roles = all_so _ LevelledRole (λ r h. h.0) rs a3.good.0 };
          enums = a1.good.1;
          each_enum = all_so _ (EnumWithin l) (λ e h. h.1) es a1.good.0;
          channels = a2.good.1;
          each_channel = a2.good.0;
          roles = a3.good.1;
          each_role = all_so _ (RoleWithin l) (λ r h. h.1) rs a3.good.0;
        };
      }))))

-- what is read to the end is what is read, and nothing is left
at_end_is : {A : Type 0} (x y : A) (rest : List Token) → at_end x rest ≡ Ok y → (x ≡ y) × (rest ≡ [])
at_end_is x y [] h = (cc, refl)
at_end_is x y (k ∷ rest) h = absurd cc

pub ended_is : {A : Type 0} (r : Outcome A) (y : A) → ended r ≡ Ok y → (j : Input) × (r ≡ Ok (y, j)) × (j.rest ≡ [])
ended_is (Ok (x, j)) y h = let e = at_end_is x y j.rest h in (j, ap (λ z. Ok (z, j)) e.0, e.1)
ended_is (Err d) y h = absurd cc

-- what is read is within the limits
pub whole_within : (l : Limits) (i : Input) (P : Program) (j : Input) → i.statements ≤ l.statements → whole l i ≡ Ok (P, j) → Within l P
whole_within l i P j le h =
    let a = (whole_found l i).holds P j h in
    record {
      enums = a.good.enums;
      each_enum = a.good.each_enum;
      channels = a.good.channels;
      each_channel = a.good.each_channel;
      roles = a.good.roles;
      each_role = a.good.each_role;
      statements = omega (arith, a.statements, le);
    }

-- what is read of a source's tokens is what they denote
pub program_found : (tokens : List Placed) (P : Program) → program source tokens ≡ Ok P → Denotes tokens P
unfolding program
program_found tokens P h =
    let e = ended_is (whole source (start tokens source.statements)) P h in
    let a = (whole_found source (start tokens source.statements)).holds P e.0 e.1 in
    record {
      spelled = a.spelled ∙ ap (λ l. spell.spelling P ++ l) e.2 ∙ append-nil (spell.spelling P);
      levelled = a.good.levelled;
      within = whole_within source (start tokens source.statements) P e.0 (omega arith) e.1;
    }
