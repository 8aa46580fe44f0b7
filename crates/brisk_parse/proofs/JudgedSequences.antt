-- A sequential program is read, or stops where it passes a limit first.
use Rattle.std.proofs.Common.{◌≡◌, ℕ, ◌-◌, Bool, true, false, List, [], ◌∷◌, ◌++◌, Ok, refl, sym, ap, ◌∙◌, append-nil, arith}
use Rattle.brisk_values.specs.Names.{Name}
use Rattle.brisk_lex.specs.declared.token.Mark.TheVariants as mk
use Rattle.brisk_lex.specs.declared.token.Word.TheVariants as w
use Rattle.brisk_lex.specs.declared.token.Token.{Token}
use Rattle.brisk_lex.specs.declared.token.Token.TheVariants as t
use Rattle.brisk_seq.specs.declared.tree.SeqProgram.{SeqProgram}
use Rattle.brisk_syntax.specs.declared.program.Decl.{Decl}
use Rattle.brisk_syntax.specs.Roles.{RoleText}
use Rattle.brisk_syntax.specs.Syntax.{Code, done, ◌⨾◌}
use Rattle.brisk_parse.specs.Declarations.{flag, begins_role}
use Rattle.brisk_parse.specs.Input.{at}
use Rattle.brisk_parse.specs.Limits.{Limits}
use Rattle.brisk_parse.specs.Outcomes.{and_then}
use Rattle.brisk_parse.specs.Passing.{Passing, behind, or_behind}
use Rattle.brisk_parse.specs.Passing as passing
use Rattle.brisk_parse.specs.Reading.{expect, name}
use Rattle.brisk_parse.specs.SequencePassing as pass_item
use Rattle.brisk_parse.specs.Sequences.{items, block, outline, single_role, set_role, role, whole}
use Rattle.brisk_parse.specs.SequenceSpelling.{LevelledOutline, LevelledSequence, count_items, sequence_spelling}
use Rattle.brisk_parse.specs.SequenceSpelling as spell_item
use Rattle.brisk_parse.specs.Spelling as spell
use Rattle.brisk_parse.proofs.Found.{parts3}
use Rattle.brisk_parse.proofs.FoundSequences.{sequence_parts}
use Rattle.brisk_parse.proofs.Judged.{judged, judged_behind, judged_then, judged_last, plain_judged}
use Rattle.brisk_parse.proofs.JudgedItems.{items_judged}
use Rattle.brisk_parse.proofs.JudgedPrograms.{declarations_judged, enumerations_judged}
use Rattle.brisk_parse.proofs.ProgramParts.{heading_starts}
use Rattle.brisk_parse.proofs.ItemParts.{roles_start}

module _ (l : Limits) where
  abbrev text : Name → Bool → Bool → List Decl → Code → RoleText
  text x is_many is_nonempty ds c = record { name = x; many = is_many; nonempty = is_nonempty; decls = ds; code = c }

  -- a role's declarations, its closing brace, and k
  abbrev body : List Decl → List Token → List Token
  body ds k = spell.all_of spell.declaration ds ++ (t.Mark mk.RBrace ∷ k)

  outline_judged : (x : Name) (is_many is_nonempty : Bool) (ds : List Decl) (k : List Token) (r n : ℕ)
      → outline l x is_many is_nonempty (at (t.Mark mk.LBrace ∷ body ds k) r n) ≡ judged (passing.declarations l (text x is_many is_nonempty ds done)) (body ds k) (Ok (text x is_many is_nonempty ds done, at k r n))
  unfolding outline expect
  outline_judged x is_many is_nonempty ds k r n =
      let whole = text x is_many is_nonempty ds done in
      rw (declarations_judged l ds (t.Mark mk.RBrace ∷ k) r n refl) (judged_last (passing.declarations l whole) (body ds k) ds (at (t.Mark mk.RBrace ∷ k) r n) _ (Ok (whole, at k r n)) refl)

  role_of : (x : Name) (is_many is_nonempty : Bool) (ds : List Decl) (c : Code) (k : List Token) (r n : ℕ) → LevelledOutline (text x is_many is_nonempty ds c)
      → role l (at (spell.role (text x is_many is_nonempty ds c) ++ k) r n) ≡ judged (pass_item.outline l (text x is_many is_nonempty ds c)) (spell.role (text x is_many is_nonempty ds c) ++ k) (Ok (text x is_many is_nonempty ds c, at k r n))
  unfolding role single_role set_role name flag
  role_of x is_many is_nonempty ds (st ⨾ c) k r n levelled = absurd (let h = levelled.1 in cc)
  role_of x false true ds done k r n levelled = absurd (let h = levelled.0 refl in cc)
  role_of x false false ds done k r n levelled =
      let whole = text x false false ds done in
      rw (← parts3 (spell.all_of spell.declaration ds) [] (spell.mark mk.RBrace) k)
      (outline_judged x false false ds k r n ∙ judged_behind (passing.declarations l whole) (spell.heading whole ++ spell.mark mk.LBrace) (body ds k) (Ok (whole, at k r n)))
  role_of x true false ds done k r n levelled =
      let whole = text x true false ds done in
      rw (← parts3 (spell.all_of spell.declaration ds) [] (spell.mark mk.RBrace) k)
      (outline_judged x true false ds k r n ∙ judged_behind (passing.declarations l whole) (spell.heading whole ++ spell.mark mk.LBrace) (body ds k) (Ok (whole, at k r n)))
  role_of x true true ds done k r n levelled =
      let whole = text x true true ds done in
      rw (← parts3 (spell.all_of spell.declaration ds) [] (spell.mark mk.RBrace) k)
      (outline_judged x true true ds k r n ∙ judged_behind (passing.declarations l whole) (spell.heading whole ++ spell.mark mk.LBrace) (body ds k) (Ok (whole, at k r n)))

  pub whole_judged : (P : SeqProgram) (s : ℕ) → LevelledSequence P → whole l (at (sequence_spelling P) s l.statements) ≡ judged (pass_item.sequence l P) (sequence_spelling P) (Ok (P, at [] s (l.statements - count_items P.body)))
  unfolding whole expect
  whole_judged P s levelled =
      let n = l.statements in
      let left = n - count_items P.body in
      let es = spell.all_of spell.enumeration P.enums in
      let rs = spell.all_of spell.role P.roles in
      let b = spell_item.items P.body in
      let last = t.Word w.KwEnd ∷ [] in
      let next = t.Word w.KwBegin ∷ (b ++ last) in
      let grouped : sequence_spelling P ≡ es ++ (rs ++ next) = sym (append-nil (sequence_spelling P)) ∙ sym (sequence_parts es rs b []) in
      let in_roles = passing.all_of (λ _ r. pass_item.outline l r) (λ _. 0) spell.role l.roles 0 P.roles in
      let in_items = pass_item.items l l.nesting n P.body in
      let in_body = behind (spell.word w.KwBegin) in_items in
      let roles = plain_judged (pass_item.outline l) spell.role LevelledOutline begins_role (role l) (λ x k r n good. role_of x.name x.many x.nonempty x.decls x.code k r n good) (λ x k. heading_starts begins_role x.name x.many x.nonempty x.decls x.code k true refl refl) l.roles P.roles next s n levelled.roles refl in
      let body = items_judged l l.nesting n P.body last s n levelled.body refl (omega arith) (omega arith) in
      rw (grouped, enumerations_judged l P.enums (rs ++ next) s n levelled.enums (roles_start P.roles (b ++ last)))
      (judged_then (passing.all_of (λ _ e. passing.enumeration l e) (λ _. 0) spell.enumeration l.enums 0 P.enums) (or_behind in_roles rs in_body) es (rs ++ next) P.enums (at (rs ++ next) s n) _ (Ok (P, at [] s left))
      (ap (λ o. and_then o (λ rs i. and_then (expect (t.Word w.KwBegin) i) (λ _ i. and_then (items l (block l l.nesting) i) (λ b i. and_then (expect (t.Word w.KwEnd) i) (λ _ i. Ok (record { enums = P.enums; roles = rs; body = b }, i)))))) roles
      ∙ judged_then in_roles in_body rs next P.roles (at next s n) (λ rs i. and_then (expect (t.Word w.KwBegin) i) (λ _ i. and_then (items l (block l l.nesting) i) (λ b i. and_then (expect (t.Word w.KwEnd) i) (λ _ i. Ok (record { enums = P.enums; roles = rs; body = b }, i))))) (Ok (P, at [] s left))
      (ap (λ o. and_then o (λ b i. and_then (expect (t.Word w.KwEnd) i) (λ _ i. Ok (record { enums = P.enums; roles = P.roles; body = b }, i)))) body
      ∙ judged_last in_items (b ++ last) P.body (at last s left) (λ b i. and_then (expect (t.Word w.KwEnd) i) (λ _ i. Ok (record { enums = P.enums; roles = P.roles; body = b }, i))) (Ok (P, at [] s left)) refl
      ∙ judged_behind in_items (spell.word w.KwBegin) (b ++ last) (Ok (P, at [] s left)))))
