-- A program is read, or stops where it passes a limit first.
use Rattle.std.proofs.Common.{◌≡◌, ℕ, ◌-◌, ◌≤◌, Bool, true, false, List, [], ◌∷◌, ◌++◌, Ok, refl, sym, ap, ◌∙◌, append_assoc, append-nil, arith}
use Rattle.std.specs.List.{AllByRecursion}
use Rattle.brisk_values.specs.Names.{Name}
use Rattle.brisk_values.specs.declared.value.Kind.{Kind}
use Rattle.brisk_lex.specs.declared.token.Mark.TheVariants as mk
use Rattle.brisk_lex.specs.declared.token.Word.TheVariants as w
use Rattle.brisk_lex.specs.declared.token.Token.{Token}
use Rattle.brisk_lex.specs.declared.token.Token.TheVariants as t
use Rattle.brisk_syntax.specs.declared.program.Decl.{Decl}
use Rattle.brisk_syntax.specs.declared.program.EnumDecl.{EnumDecl}
use Rattle.brisk_syntax.specs.declared.program.Channel.{Channel}
use Rattle.brisk_syntax.specs.declared.program.Program.{Program}
use Rattle.brisk_syntax.specs.Counts as counts
use Rattle.brisk_syntax.specs.Roles.{RoleText}
use Rattle.brisk_syntax.specs.Syntax.{Code}
use Rattle.brisk_parse.specs.Declarations.{kind, begins_kind, declaration, begins_declaration, enumeration, begins_enumeration, flag, channel, begins_channel, role_block, single_role, set_role, role, begins_role, whole}
use Rattle.brisk_parse.specs.Input.{at, first}
use Rattle.brisk_parse.specs.Levelled.{HasTags, LevelledRole, LevelledProgram}
use Rattle.brisk_parse.specs.Limits.{Limits}
use Rattle.brisk_parse.specs.Outcomes.{and_then}
use Rattle.brisk_parse.specs.Passing.{Passing, Nowhere, behind, or_behind}
use Rattle.brisk_parse.specs.Passing as passing
use Rattle.brisk_parse.specs.Reading.{expect, name, listed, separated, list_of, begins_name}
use Rattle.brisk_parse.specs.Spelling as spell
use Rattle.brisk_parse.proofs.Found.{parts3, parts4}
use Rattle.brisk_parse.proofs.Judged.{judged, judged_behind, judged_then, judged_last, separated_judged, listed_judged, list_judged, plain_judged}
use Rattle.brisk_parse.proofs.JudgedStatements.{code_judged}
use Rattle.brisk_parse.proofs.StatementParts.{name_only, all_any, code_first}
use Rattle.brisk_parse.proofs.ProgramParts.{kind_only, kind_begins, declaration_only, declaration_begins, flag_only, not_declaration, heading_starts, roles_start, channels_start}

module _ (l : Limits) where
  -- ---- declarations

  tags_judged : (ts : List Name) (k : List Token) (r n : ℕ) → (ts ≡ [] → ⊥) → separated begins_name name l.tags (at (spell.names ts ++ (t.Mark mk.RBrace ∷ k)) r n) ≡ judged (passing.separated (λ _. Nowhere) spell.name l.tags ts) (spell.names ts ++ (t.Mark mk.RBrace ∷ k)) (Ok (ts, at (t.Mark mk.RBrace ∷ k) r n))
  tags_judged [] k r n some = absurd (some refl)
  tags_judged (x ∷ xs) k r n some =
      separated_judged (λ _. Nowhere) spell.name (λ _. Unit {0}) (λ _. Unit {0}) begins_name name (λ x k r n good follow. name_only x k r n n (omega arith)) (λ x k. refl) (λ k. tt) l.tags x xs (t.Mark mk.RBrace ∷ k) r n tt (all_any xs) tt refl

  pub enumeration_judged : (e : EnumDecl) (k : List Token) (r n : ℕ) → HasTags e → enumeration l (at (spell.enumeration e ++ k) r n) ≡ judged (passing.enumeration l e) (spell.enumeration e ++ k) (Ok (e, at k r n))
  unfolding enumeration expect name
  enumeration_judged e k r n some =
      let tags = passing.separated (λ _. Nowhere) spell.name l.tags e.tags in
      let text = spell.names e.tags ++ (t.Mark mk.RBrace ∷ k) in
      rw (append_assoc (spell.names e.tags) (spell.mark mk.RBrace) k, tags_judged e.tags k r n some)
      (judged_last tags text e.tags (at (t.Mark mk.RBrace ∷ k) r n) _ (Ok (e, at k r n)) refl ∙ judged_behind tags (spell.word w.KwEnum ++ spell.name e.name ++ spell.mark mk.LBrace) text (Ok (e, at k r n)))

  kinds_judged : (ks : List Kind) (k : List Token) (r n : ℕ) → listed begins_kind kind l.kinds (at (spell.separated spell.kind ks ++ (t.Mark mk.RParen ∷ k)) r n) ≡ judged (passing.separated (λ _. Nowhere) spell.kind l.kinds ks) (spell.separated spell.kind ks ++ (t.Mark mk.RParen ∷ k)) (Ok (ks, at (t.Mark mk.RParen ∷ k) r n))
  kinds_judged ks k r n =
      listed_judged (λ _. Nowhere) spell.kind (λ _. Unit {0}) (λ _. Unit {0}) begins_kind kind (λ x k r n good follow. kind_only x k r n) kind_begins (λ k. tt) l.kinds ks (t.Mark mk.RParen ∷ k) r n (all_any ks) tt refl refl

  channel_judged : (c : Channel) (k : List Token) (r n : ℕ) → channel l (at (spell.channel c ++ k) r n) ≡ judged (passing.channel l c) (spell.channel c ++ k) (Ok (c, at k r n))
  unfolding channel expect name
  channel_judged c k r n =
      let kinds = passing.separated (λ _. Nowhere) spell.kind l.kinds c.kinds in
      let next = spell.flag w.KwLoose c.loose ++ (t.Mark mk.Semi ∷ k) in
      let text = spell.separated spell.kind c.kinds ++ (t.Mark mk.RParen ∷ next) in
      rw (← parts4 (spell.separated spell.kind c.kinds) (spell.mark mk.RParen) (spell.flag w.KwLoose c.loose) (spell.mark mk.Semi) k, kinds_judged c.kinds next r n)
      (judged_last kinds text c.kinds (at (t.Mark mk.RParen ∷ next) r n) _ (Ok (c, at k r n)) (rw (flag_only w.KwLoose c.loose (t.Mark mk.Semi ∷ k) r n refl) refl)
      ∙ judged_behind kinds (spell.word w.KwChannel ++ spell.name c.name ++ spell.mark mk.LParen) text (Ok (c, at k r n)))

  -- ---- roles

  abbrev text : Name → Bool → Bool → List Decl → Code → RoleText
  text x is_many is_nonempty ds c = record { name = x; many = is_many; nonempty = is_nonempty; decls = ds; code = c }

  pub declarations_judged : (ds : List Decl) (k : List Token) (r n : ℕ) → begins_declaration (first k) ≡ false
      → list_of begins_declaration declaration l.declarations (at (spell.all_of spell.declaration ds ++ k) r n) ≡ judged (passing.all_of (λ _ _. Nowhere) (λ _. 0) spell.declaration l.declarations 0 ds) (spell.all_of spell.declaration ds ++ k) (Ok (ds, at k r n))
  declarations_judged ds k r n h = plain_judged (λ _. Nowhere) spell.declaration (λ _. Unit {0}) begins_declaration declaration (λ d k r n good. declaration_only d k r n) declaration_begins l.declarations ds k r n (all_any ds) h

  -- what stands behind a role's declarations
  abbrev behind_them : Code → List Token → List Token
  behind_them c k = spell.code c ++ (t.Mark mk.RBrace ∷ k)

  abbrev in_role : ℕ → RoleText → Passing
  in_role n r = or_behind (passing.declarations l r) (spell.all_of spell.declaration r.decls) (passing.code l l.nesting n r.code)

  block_of_role : (x : Name) (is_many is_nonempty : Bool) (ds : List Decl) (c : Code) (k : List Token) (r n : ℕ) → LevelledRole (text x is_many is_nonempty ds c) → n ≤ l.statements
      → role_block l x is_many is_nonempty (at (t.Mark mk.LBrace ∷ (spell.all_of spell.declaration ds ++ behind_them c k)) r n) ≡ judged (in_role n (text x is_many is_nonempty ds c)) (spell.all_of spell.declaration ds ++ behind_them c k) (Ok (text x is_many is_nonempty ds c, at k r (n - counts.statements c)))
  unfolding role_block expect
  block_of_role x is_many is_nonempty ds c k r n levelled le =
      let next = behind_them c k in
      let inside = passing.code l l.nesting n c in
      let left = n - counts.statements c in
      let read = code_judged l l.nesting l.statements c (t.Mark mk.RBrace ∷ k) r n levelled.1 (refl, refl) le le in
      rw (declarations_judged ds next r n (code_first begins_declaration not_declaration c (t.Mark mk.RBrace ∷ k) refl))
      (judged_then (passing.declarations l (text x is_many is_nonempty ds c)) inside (spell.all_of spell.declaration ds) next ds (at next r n) _ _
      (ap (λ o. and_then o (λ c i. and_then (expect (t.Mark mk.RBrace) i) (λ _ i. Ok (text x is_many is_nonempty ds c, i)))) read
      ∙ judged_last inside next c (at (t.Mark mk.RBrace ∷ k) r left) (λ c i. and_then (expect (t.Mark mk.RBrace) i) (λ _ i. Ok (text x is_many is_nonempty ds c, i))) _ refl))

  role_of : (x : Name) (is_many is_nonempty : Bool) (ds : List Decl) (c : Code) (k : List Token) (r n : ℕ) → LevelledRole (text x is_many is_nonempty ds c) → n ≤ l.statements
      → role l (at (spell.role (text x is_many is_nonempty ds c) ++ k) r n) ≡ judged (passing.role l n (text x is_many is_nonempty ds c)) (spell.role (text x is_many is_nonempty ds c) ++ k) (Ok (text x is_many is_nonempty ds c, at k r (n - counts.statements c)))
  unfolding role single_role set_role name flag
  role_of x false true ds c k r n levelled le = absurd (let h = levelled.0 refl in cc)
  role_of x false false ds c k r n levelled le =
      let whole = text x false false ds c in
      rw (← parts3 (spell.all_of spell.declaration ds) (spell.code c) (spell.mark mk.RBrace) k)
      (block_of_role x false false ds c k r n levelled le ∙ judged_behind (in_role n whole) (spell.heading whole ++ spell.mark mk.LBrace) (spell.all_of spell.declaration ds ++ behind_them c k) (Ok (whole, at k r (n - counts.statements c))))
  role_of x true false ds c k r n levelled le =
      let whole = text x true false ds c in
      rw (← parts3 (spell.all_of spell.declaration ds) (spell.code c) (spell.mark mk.RBrace) k)
      (block_of_role x true false ds c k r n levelled le ∙ judged_behind (in_role n whole) (spell.heading whole ++ spell.mark mk.LBrace) (spell.all_of spell.declaration ds ++ behind_them c k) (Ok (whole, at k r (n - counts.statements c))))
  role_of x true true ds c k r n levelled le =
      let whole = text x true true ds c in
      rw (← parts3 (spell.all_of spell.declaration ds) (spell.code c) (spell.mark mk.RBrace) k)
      (block_of_role x true true ds c k r n levelled le ∙ judged_behind (in_role n whole) (spell.heading whole ++ spell.mark mk.LBrace) (spell.all_of spell.declaration ds ++ behind_them c k) (Ok (whole, at k r (n - counts.statements c))))

  -- ---- programs

  pub enumerations_judged : (es : List EnumDecl) (k : List Token) (r n : ℕ) → AllByRecursion HasTags es → begins_enumeration (first k) ≡ false
      → list_of begins_enumeration (enumeration l) l.enums (at (spell.all_of spell.enumeration es ++ k) r n) ≡ judged (passing.all_of (λ _ e. passing.enumeration l e) (λ _. 0) spell.enumeration l.enums 0 es) (spell.all_of spell.enumeration es ++ k) (Ok (es, at k r n))
  enumerations_judged es k r n good h = plain_judged (passing.enumeration l) spell.enumeration HasTags begins_enumeration (enumeration l) enumeration_judged (λ e k. refl) l.enums es k r n good h

  pub whole_judged : (P : Program) (s : ℕ) → LevelledProgram P → whole l (at (spell.spelling P) s l.statements) ≡ judged (passing.program l P) (spell.spelling P) (Ok (P, at [] s (l.statements - counts.program_statements P)))
  unfolding whole
  whole_judged P s levelled =
      let n = l.statements in
      let left = n - counts.program_statements P in
      let es = spell.all_of spell.enumeration P.enums in
      let cs = spell.all_of spell.channel P.channels in
      let rs = spell.all_of spell.role P.roles in
      let grouped : spell.spelling P ≡ es ++ (cs ++ (rs ++ [])) = sym (append-nil (spell.spelling P)) ∙ sym (parts3 es cs rs []) in
      let in_channels = passing.all_of (λ _ c. passing.channel l c) (λ _. 0) spell.channel l.channels 0 P.channels in
      let in_roles = passing.all_of (passing.role l) (λ r. counts.statements r.code) spell.role l.roles n P.roles in
      let channels = plain_judged (passing.channel l) spell.channel (λ _. Unit {0}) begins_channel (channel l) (λ c k r n good. channel_judged c k r n) (λ c k. refl) l.channels P.channels (rs ++ []) s n (all_any P.channels) (roles_start begins_channel P.roles refl refl refl) in
      let roles = list_judged n (passing.role l) (λ r. counts.statements r.code) spell.role LevelledRole begins_role (role l) (λ x k r n good le. role_of x.name x.many x.nonempty x.decls x.code k r n good le) (λ x k. heading_starts begins_role x.name x.many x.nonempty x.decls x.code k true refl refl) l.roles P.roles [] s n levelled.roles refl (omega arith) in
      rw (grouped, enumerations_judged P.enums (cs ++ (rs ++ [])) s n levelled.enums (channels_start P.channels P.roles))
      (judged_then (passing.all_of (λ _ e. passing.enumeration l e) (λ _. 0) spell.enumeration l.enums 0 P.enums) (or_behind in_channels cs in_roles) es (cs ++ (rs ++ [])) P.enums (at (cs ++ (rs ++ [])) s n) _ (Ok (P, at [] s left))
      (ap (λ o. and_then o (λ cs i. and_then (list_of begins_role (role l) l.roles i) (λ rs i. Ok (record { enums = P.enums; channels = cs; roles = rs }, i)))) channels
      ∙ judged_then in_channels in_roles cs (rs ++ []) P.channels (at (rs ++ []) s n) (λ cs i. and_then (list_of begins_role (role l) l.roles i) (λ rs i. Ok (record { enums = P.enums; channels = cs; roles = rs }, i))) (Ok (P, at [] s left))
      (ap (λ o. and_then o (λ rs i. Ok (record { enums = P.enums; channels = P.channels; roles = rs }, i))) roles
      ∙ judged_last in_roles (rs ++ []) P.roles (at [] s left) (λ rs i. Ok (record { enums = P.enums; channels = P.channels; roles = rs }, i)) (Ok (P, at [] s left)) refl)))
