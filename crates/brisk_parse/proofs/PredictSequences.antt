-- Sequential programs predict.
use Rattle.std.proofs.Common.{◌≡◌, ℕ, Bool, true, false, List, [], ◌∷◌, length, Option, Some, Err, refl}
use Rattle.brisk_values.specs.Names.{Name}
use Rattle.brisk_lex.specs.declared.token.Word.TheVariants as w
use Rattle.brisk_lex.specs.declared.token.Token.{Token}
use Rattle.brisk_lex.specs.declared.token.Token.TheVariants as t
use Rattle.brisk_parse.specs.declared.fault.Stop.TheVariants.{Syntax}
use Rattle.brisk_parse.specs.Declarations.{begins_declaration, declaration, begins_enumeration, enumeration, begins_role}
use Rattle.brisk_parse.specs.Input.{at, first, is_token}
use Rattle.brisk_parse.specs.Limits.{Limits}
use Rattle.brisk_parse.specs.Sequences.{outline, single_role, set_role, role, whole}
use Rattle.brisk_parse.proofs.Predictive.{Follow, any, Rule, then_rule, pure_rule, value_rule, Entry, Item, item_of}
use Rattle.brisk_parse.proofs.PredictLists.{free, free_gate, expect_rule, name_rule, many_rule}
use Rattle.brisk_parse.proofs.PredictBlocks.{left_brace, right_brace}
use Rattle.brisk_parse.proofs.PredictStatements.{slack, only}
use Rattle.brisk_parse.proofs.PredictPrograms.{at_last, flag_rule, declaration_item, enumeration_item}
use Rattle.brisk_parse.proofs.PredictItems.{block_item, items_rule}

abbrev begin : Token
begin = t.Word w.KwBegin

abbrev end : Token
end = t.Word w.KwEnd

-- what may follow the enumerations
abbrev behind_enumerations : Follow
behind_enumerations (Some (t.Word w.KwBegin)) = true
behind_enumerations o = begins_role o

no_enumeration : (o : Option Token) → behind_enumerations o ≡ true → begins_enumeration o ≡ false
no_enumeration (Some (t.Word w.KwEnum)) h = absurd cc
no_enumeration _ h = refl

module _ (l : Limits) where
  outline_rule : (E : Follow) (x : Name) (is_many is_nonempty : Bool) → E (Some left_brace) ≡ true → Rule E (λ m. outline (slack l m) x is_many is_nonempty) any
  unfolding outline
  outline_rule E x is_many is_nonempty h =
      then_rule (expect_rule E left_brace h) (λ _.
      then_rule (many_rule begins_declaration (λ m. declaration) any declaration_item (is_token right_brace) [] (λ d ds. d ∷ ds) (only right_brace begins_declaration false refl) (λ o g. refl) refl any (λ o g. refl) l.declarations) (λ ds.
      then_rule (expect_rule (is_token right_brace) right_brace refl) (λ _. value_rule any _)))

  single_rule : Rule any (λ m. single_role (slack l m)) any
  unfolding single_role
  single_rule = then_rule name_rule (λ x. outline_rule any x false false refl)

  set_rule : Rule any (λ m. set_role (slack l m)) any
  unfolding set_role
  set_rule = then_rule name_rule (λ x. then_rule (flag_rule (t.Word w.KwNonempty) (is_token left_brace) (only left_brace (is_token (t.Word w.KwNonempty)) false refl)) (λ is_nonempty. outline_rule (is_token left_brace) x true is_nonempty refl))

  role_entry : (u : Token) → begins_role (Some u) ≡ true → Entry (λ m. role (slack l m)) any u
  unfolding role
  role_entry (t.Word w.KwOne) h = record { gate = free; is_gate = free_gate (t.Word w.KwOne); more = λ m. single_role (slack l m); rule = single_rule; is = λ m r n k. refl }
  role_entry (t.Word w.KwMany) h = record { gate = free; is_gate = free_gate (t.Word w.KwMany); more = λ m. set_role (slack l m); rule = set_rule; is = λ m r n k. refl }
  role_entry _ h = absurd cc

  role_refuses : (m r n : ℕ) (k : List Token) → begins_role (first k) ≡ false → role (slack l m) (at k r n) ≡ Err (Syntax (length k))
  unfolding role
  role_refuses m r n [] h = refl
  role_refuses m r n (t.Word w.KwOne ∷ k) h = absurd cc
  role_refuses m r n (t.Word w.KwMany ∷ k) h = absurd cc
  role_refuses m r n (_ ∷ k) h = refl

  role_item : Item begins_role (λ m. role (slack l m)) any
  role_item = item_of begins_role (λ m. role (slack l m)) any role_entry refl role_refuses (t.Word w.KwOne) refl

  pub whole_rule : Rule any (λ m. whole (slack l m)) at_last
  unfolding whole
  whole_rule =
      then_rule (many_rule begins_enumeration (λ m. enumeration (slack l m)) any (enumeration_item l) behind_enumerations [] (λ x xs. x ∷ xs) no_enumeration (λ o g. refl) refl any (λ o g. refl) l.enums) (λ es.
      then_rule (many_rule begins_role (λ m. role (slack l m)) any role_item (is_token begin) [] (λ x xs. x ∷ xs) (only begin begins_role false refl) (λ o g. refl) refl behind_enumerations (only begin behind_enumerations true refl) l.roles) (λ rs.
      then_rule (expect_rule (is_token begin) begin refl) (λ _. then_rule (items_rule l l.nesting (block_item l l.nesting) end refl) (λ b.
      then_rule (expect_rule (is_token end) end refl) (λ _. pure_rule any at_last _ (λ o g. refl))))))
