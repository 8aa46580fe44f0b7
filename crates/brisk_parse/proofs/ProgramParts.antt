-- Declarations are read as they are spelled, and how roles and channels begin.
use Rattle.std.proofs.Common.{◌≡◌, ℕ, Bool, true, false, List, [], ◌∷◌, ◌++◌, Option, Some, None, Ok, refl, ap, ◌∙◌, append_assoc}
use denote.Enum.Bare.{true_same}
use Rattle.brisk_values.specs.Names.{Name}
use Rattle.brisk_values.specs.declared.value.Kind.{Kind}
use Rattle.brisk_values.specs.declared.value.Kind.TheVariants as kinds
use Rattle.brisk_lex.specs.contracts.token.Word as word
use Rattle.brisk_lex.specs.declared.token.Mark.TheVariants as m
use Rattle.brisk_lex.specs.declared.token.Word.{Word}
use Rattle.brisk_lex.specs.declared.token.Word.TheVariants as w
use Rattle.brisk_lex.specs.declared.token.Token.{Token}
use Rattle.brisk_lex.specs.declared.token.Token.TheVariants as t
use Rattle.brisk_syntax.specs.declared.program.Const.{Const}
use Rattle.brisk_syntax.specs.declared.program.Const.TheVariants as const
use Rattle.brisk_syntax.specs.declared.program.Decl.{Decl}
use Rattle.brisk_syntax.specs.declared.program.Decl.TheVariants as decl
use Rattle.brisk_syntax.specs.declared.program.Channel.{Channel}
use Rattle.brisk_syntax.specs.Roles.{RoleText}
use Rattle.brisk_syntax.specs.Syntax.{Code}
use Rattle.brisk_parse.specs.Declarations.{kind, begins_kind, tag, constant, variable, input, declaration, begins_declaration, begins_enumeration, flag}
use Rattle.brisk_parse.specs.Input.{at, first, is_token}
use Rattle.brisk_parse.specs.Reading.{expect, name, number}
use Rattle.brisk_parse.specs.Statements.{begins_statement}
use Rattle.brisk_parse.specs.Spelling as spell
use Rattle.brisk_parse.proofs.Found.{parts4}

pub kind_only : (x : Kind) (k : List Token) (r n : ℕ) → kind (at (spell.kind x ++ k) r n) ≡ Ok (x, at k r n)
unfolding kind
kind_only kinds.Int k r n = refl
kind_only kinds.Bool k r n = refl
kind_only (kinds.Enum e) k r n = refl

pub kind_begins : (x : Kind) (k : List Token) → begins_kind (first (spell.kind x ++ k)) ≡ true
kind_begins kinds.Int k = refl
kind_begins kinds.Bool k = refl
kind_begins (kinds.Enum e) k = refl

constant_only : (c : Const) (k : List Token) (r n : ℕ) → constant (at (spell.constant c ++ k) r n) ≡ Ok (c, at k r n)
unfolding constant tag expect name number
constant_only (const.Num true x) k r n = refl
constant_only (const.Num false x) k r n = refl
constant_only (const.Bool true) k r n = refl
constant_only (const.Bool false) k r n = refl
constant_only (const.Tag e x) k r n = refl

pub declaration_only : (d : Decl) (k : List Token) (r n : ℕ) → declaration (at (spell.declaration d ++ k) r n) ≡ Ok (d, at k r n)
unfolding declaration variable input expect name
declaration_only (decl.Var x y c) k r n =
    rw (← parts4 (spell.kind y) (spell.mark m.Equals) (spell.constant c) (spell.mark m.Semi) k, kind_only y (t.Mark m.Equals ∷ (spell.constant c ++ (t.Mark m.Semi ∷ k))) r n, constant_only c (t.Mark m.Semi ∷ k) r n) refl
declaration_only (decl.Input x y) k r n = rw (append_assoc (spell.kind y) (spell.mark m.Semi) k, kind_only y (t.Mark m.Semi ∷ k) r n) refl

pub declaration_begins : (d : Decl) (k : List Token) → begins_declaration (first (spell.declaration d ++ k)) ≡ true
declaration_begins (decl.Var x y c) k = refl
declaration_begins (decl.Input x y) k = refl

pub flag_only : (y : Word) (b : Bool) (k : List Token) (r n : ℕ) → is_token (t.Word y) (first k) ≡ false → flag (t.Word y) (at (spell.flag y b ++ k) r n) ≡ Ok (b, at k r n)
unfolding flag
flag_only y true k r n h = rw (true_same word.the_type y y refl) refl
flag_only y false k r n h = rw h refl

-- ---- roles and channels

abbrev text : Name → Bool → Bool → List Decl → Code → RoleText
text x is_many is_nonempty ds c = record { name = x; many = is_many; nonempty = is_nonempty; decls = ds; code = c }

pub not_declaration : (o : Option Token) → begins_statement o ≡ true → begins_declaration o ≡ false
not_declaration (Some (t.Word w.KwVar)) h = absurd cc
not_declaration (Some (t.Word w.KwInput)) h = absurd cc
not_declaration _ h = refl

pub heading_starts : (f : Option Token → Bool) (x : Name) (is_many is_nonempty : Bool) (ds : List Decl) (c : Code) (k : List Token) (v : Bool) → f (Some (t.Word w.KwOne)) ≡ v → f (Some (t.Word w.KwMany)) ≡ v → f (first (spell.role (text x is_many is_nonempty ds c) ++ k)) ≡ v
heading_starts f x true is_nonempty ds c k v one many = many
heading_starts f x false is_nonempty ds c k v one many = one

pub roles_start : (f : Option Token → Bool) (rs : List RoleText) → f (Some (t.Word w.KwOne)) ≡ false → f (Some (t.Word w.KwMany)) ≡ false → f None ≡ false → f (first (spell.all_of spell.role rs ++ [])) ≡ false
roles_start f [] one many end = end
roles_start f (r ∷ rs) one many end = ap (λ l. f (first l)) (append_assoc (spell.role r) (spell.all_of spell.role rs) []) ∙ heading_starts f r.name r.many r.nonempty r.decls r.code (spell.all_of spell.role rs ++ []) false one many

pub channels_start : (cs : List Channel) (rs : List RoleText) → begins_enumeration (first (spell.all_of spell.channel cs ++ (spell.all_of spell.role rs ++ []))) ≡ false
channels_start [] rs = roles_start begins_enumeration rs refl refl refl
channels_start (c ∷ cs) rs = refl
