-- Declarations, roles and programs predict.
use Rattle.std.proofs.Common.{◌≡◌, ℕ, Bool, true, false, List, [], ◌∷◌, length, Option, Some, None, Ok, Err, refl, ap, ◌∙◌}
use Rattle.brisk_values.specs.Names.{Name}
use Rattle.brisk_values.specs.declared.value.Kind.TheVariants as kinds
use Rattle.brisk_lex.specs.declared.token.Mark.TheVariants as mk
use Rattle.brisk_lex.specs.declared.token.Word.TheVariants as w
use Rattle.brisk_lex.specs.declared.token.Token.{Token}
use Rattle.brisk_lex.specs.declared.token.Token.TheVariants as t
use Rattle.brisk_syntax.specs.declared.program.Const.TheVariants as const
use Rattle.brisk_syntax.specs.declared.program.Decl.TheVariants as decl
use Rattle.brisk_parse.specs.declared.fault.Stop.TheVariants.{Syntax}
use Rattle.brisk_parse.specs.Declarations.{kind, begins_kind, tag, constant, variable, input, declaration, begins_declaration, enumeration, begins_enumeration, flag, channel, begins_channel, role_block, single_role, set_role, role, begins_role, whole}
use Rattle.brisk_parse.specs.Input.{at, first, is_token}
use Rattle.brisk_parse.specs.Limits.{Limits}
use Rattle.brisk_parse.specs.Reading.{expect, name, number, listed, separated, begins_name}
use Rattle.brisk_parse.specs.Statements.{begins_statement}
use Rattle.brisk_parse.proofs.Predictive.{Follow, any, none, Rule, joined, join_shape, then_rule, pure_rule, value_rule, moves_to, choice_rule, Entry, Item, item_rule, item_of}
use Rattle.brisk_parse.proofs.PredictLists.{seen, free, free_gate, token_entry, expect_rule, name_item, name_rule, comma, separated_rule, listed_rule, many_rule}
use Rattle.brisk_parse.proofs.PredictBlocks.{left_brace, right_brace}
use Rattle.brisk_parse.proofs.PredictStatements.{slack, right_paren, to_any, only, block_item, code_rule}

abbrev semi : Token
semi = t.Mark mk.Semi

-- ---- single tokens

kind_refuses : (r n : ℕ) (k : List Token) → begins_kind (first k) ≡ false → kind (at k r n) ≡ Err (Syntax (length k))
unfolding kind
kind_refuses r n [] h = refl
kind_refuses r n (t.Word w.KwInt ∷ k) h = absurd cc
kind_refuses r n (t.Word w.KwBool ∷ k) h = absurd cc
kind_refuses r n (t.Name x ∷ k) h = absurd cc
kind_refuses r n (_ ∷ k) h = refl

kind_entry : (u : Token) → begins_kind (Some u) ≡ true → Entry (λ m. kind) any u
unfolding kind
kind_entry (t.Word w.KwInt) h = token_entry (λ m. kind) (t.Word w.KwInt) kinds.Int (λ m r n k. refl)
kind_entry (t.Word w.KwBool) h = token_entry (λ m. kind) (t.Word w.KwBool) kinds.Bool (λ m r n k. refl)
kind_entry (t.Name x) h = token_entry (λ m. kind) (t.Name x) (kinds.Enum x) (λ m r n k. refl)
kind_entry _ h = absurd cc

kind_item : Item begins_kind (λ m. kind) any
kind_item = item_of begins_kind (λ m. kind) any kind_entry refl (λ m r n k h. kind_refuses r n k h) (t.Name []) refl

kind_rule : Rule any (λ m. kind) any
kind_rule = item_rule begins_kind (λ m. kind) any kind_item any (t.Name []) refl refl

abbrev begins_number : Follow
begins_number (Some (t.Num n)) = true
begins_number _ = false

number_refuses : (r n : ℕ) (k : List Token) → begins_number (first k) ≡ false → number (at k r n) ≡ Err (Syntax (length k))
unfolding number
number_refuses r n [] h = refl
number_refuses r n (t.Num x ∷ k) h = absurd cc
number_refuses r n (_ ∷ k) h = refl

number_entry : (u : Token) → begins_number (Some u) ≡ true → Entry (λ m. number) any u
unfolding number
number_entry (t.Num x) h = token_entry (λ m. number) (t.Num x) x (λ m r n k. refl)
number_entry _ h = absurd cc

number_rule : Rule any (λ m. number) any
number_rule = item_rule begins_number (λ m. number) any (item_of begins_number (λ m. number) any number_entry refl (λ m r n k h. number_refuses r n k h) (t.Num 0) refl) any (t.Num 0) refl refl

-- a word that may be left out
pub flag_rule : (k : Token) (S : Follow) → ((o : Option Token) → S o ≡ true → is_token k o ≡ false) → Rule any (λ m. flag k) S
unfolding flag
flag_rule k S stop =
    choice_rule any S (is_token k) (λ m. flag k) false (λ m r n l h. rw h refl) stop (to_any S)
    (λ i h. moves_to none (joined free (λ _ m i. Ok (true, i))) (λ m. flag k) S i (λ m r n l g. let is = ap (is_token k) g ∙ h in rw is refl)
    (join_shape none any S free (λ _ m i. Ok (true, i)) i (free 0 i) ((free_gate k).opens i (seen k (first i.rest) h)) (λ _. pure_rule any S true (to_any S))))

-- ---- declarations

tag_rule : (e : Name) → Rule any (λ m. tag e) any
unfolding tag
tag_rule e = then_rule (expect_rule any (t.Mark mk.Dot) refl) (λ _. then_rule name_rule (λ x. value_rule any (const.Tag e x)))

abbrev begins_constant : Follow
begins_constant (Some (t.Num n)) = true
begins_constant (Some (t.Mark mk.Minus)) = true
begins_constant (Some (t.Word w.KwTrue)) = true
begins_constant (Some (t.Word w.KwFalse)) = true
begins_constant (Some (t.Name e)) = true
begins_constant _ = false

constant_refuses : (r n : ℕ) (k : List Token) → begins_constant (first k) ≡ false → constant (at k r n) ≡ Err (Syntax (length k))
unfolding constant
constant_refuses r n [] h = refl
constant_refuses r n (t.Num x ∷ k) h = absurd cc
constant_refuses r n (t.Mark mk.Minus ∷ k) h = absurd cc
constant_refuses r n (t.Word w.KwTrue ∷ k) h = absurd cc
constant_refuses r n (t.Word w.KwFalse ∷ k) h = absurd cc
constant_refuses r n (t.Name x ∷ k) h = absurd cc
constant_refuses r n (_ ∷ k) h = refl

constant_entry : (u : Token) → begins_constant (Some u) ≡ true → Entry (λ m. constant) any u
unfolding constant
constant_entry (t.Num x) h = token_entry (λ m. constant) (t.Num x) (const.Num false x) (λ m r n k. refl)
constant_entry (t.Mark mk.Minus) h = record {
  gate = free;
  is_gate = free_gate (t.Mark mk.Minus);
  more = joined (λ m. number) (λ x m i. Ok (const.Num true x, i));
  rule = then_rule number_rule (λ x. value_rule any (const.Num true x));
  is = λ m r n k. refl;
}
constant_entry (t.Word w.KwTrue) h = token_entry (λ m. constant) (t.Word w.KwTrue) (const.Bool true) (λ m r n k. refl)
constant_entry (t.Word w.KwFalse) h = token_entry (λ m. constant) (t.Word w.KwFalse) (const.Bool false) (λ m r n k. refl)
constant_entry (t.Name e) h = record { gate = free; is_gate = free_gate (t.Name e); more = λ m. tag e; rule = tag_rule e; is = λ m r n k. refl }
constant_entry _ h = absurd cc

constant_rule : Rule any (λ m. constant) any
constant_rule = item_rule begins_constant (λ m. constant) any (item_of begins_constant (λ m. constant) any constant_entry refl (λ m r n k h. constant_refuses r n k h) (t.Num 0) refl) any (t.Num 0) refl refl

variable_rule : Rule any (λ m. variable) any
unfolding variable
variable_rule =
    then_rule name_rule (λ x. then_rule (expect_rule any (t.Mark mk.Colon) refl) (λ _. then_rule kind_rule (λ y. then_rule (expect_rule any (t.Mark mk.Equals) refl) (λ _.
    then_rule constant_rule (λ c. then_rule (expect_rule any semi refl) (λ _. value_rule any (decl.Var x y c)))))))

input_rule : Rule any (λ m. input) any
unfolding input
input_rule = then_rule name_rule (λ x. then_rule (expect_rule any (t.Mark mk.Colon) refl) (λ _. then_rule kind_rule (λ y. then_rule (expect_rule any semi refl) (λ _. value_rule any (decl.Input x y)))))

declaration_refuses : (r n : ℕ) (k : List Token) → begins_declaration (first k) ≡ false → declaration (at k r n) ≡ Err (Syntax (length k))
unfolding declaration
declaration_refuses r n [] h = refl
declaration_refuses r n (t.Word w.KwVar ∷ k) h = absurd cc
declaration_refuses r n (t.Word w.KwInput ∷ k) h = absurd cc
declaration_refuses r n (_ ∷ k) h = refl

declaration_entry : (u : Token) → begins_declaration (Some u) ≡ true → Entry (λ m. declaration) any u
unfolding declaration
declaration_entry (t.Word w.KwVar) h = record { gate = free; is_gate = free_gate (t.Word w.KwVar); more = λ m. variable; rule = variable_rule; is = λ m r n k. refl }
declaration_entry (t.Word w.KwInput) h = record { gate = free; is_gate = free_gate (t.Word w.KwInput); more = λ m. input; rule = input_rule; is = λ m r n k. refl }
declaration_entry _ h = absurd cc

pub declaration_item : Item begins_declaration (λ m. declaration) any
declaration_item = item_of begins_declaration (λ m. declaration) any declaration_entry refl (λ m r n k h. declaration_refuses r n k h) (t.Word w.KwVar) refl

-- what may follow the declarations of a role
abbrev behind_declarations : Follow
behind_declarations (Some (t.Mark mk.RBrace)) = true
behind_declarations o = begins_statement o

no_declaration : (o : Option Token) → behind_declarations o ≡ true → begins_declaration o ≡ false
no_declaration (Some (t.Word w.KwVar)) h = absurd cc
no_declaration (Some (t.Word w.KwInput)) h = absurd cc
no_declaration _ h = refl

-- ---- what may follow a list of a program

abbrev pub at_last : Follow
at_last None = true
at_last _ = false

-- what may follow the channels, and what the enumerations
abbrev behind_channels : Follow
behind_channels None = true
behind_channels o = begins_role o

abbrev behind_enumerations : Follow
behind_enumerations (Some (t.Word w.KwChannel)) = true
behind_enumerations o = behind_channels o

no_enumeration : (o : Option Token) → behind_enumerations o ≡ true → begins_enumeration o ≡ false
no_enumeration (Some (t.Word w.KwEnum)) h = absurd cc
no_enumeration _ h = refl

no_channel : (o : Option Token) → behind_channels o ≡ true → begins_channel o ≡ false
no_channel (Some (t.Word w.KwChannel)) h = absurd cc
no_channel _ h = refl

then_channels : (o : Option Token) → behind_channels o ≡ true → behind_enumerations o ≡ true
then_channels (Some (t.Word w.KwChannel)) h = refl
then_channels None h = refl
then_channels (Some (t.Word w.KwOne)) h = refl
then_channels (Some (t.Word w.KwMany)) h = refl
then_channels _ h = absurd cc

no_role : (o : Option Token) → at_last o ≡ true → begins_role o ≡ false
no_role None h = refl
no_role (Some u) h = absurd cc

then_roles : (o : Option Token) → at_last o ≡ true → behind_channels o ≡ true
then_roles None h = refl
then_roles (Some u) h = absurd cc

module _ (l : Limits) where
  tags_rule : Rule any (λ m. separated begins_name name (slack l m).tags) (is_token right_brace)
  tags_rule =
      separated_rule begins_name (λ m. name) any name_item (is_token right_brace) (only right_brace (is_token comma) false refl) (to_any (is_token right_brace)) refl refl any l.tags (t.Name []) refl refl

  enumeration_entry : (u : Token) → begins_enumeration (Some u) ≡ true → Entry (λ m. enumeration (slack l m)) any u
  unfolding enumeration expect
  enumeration_entry (t.Word w.KwEnum) h = record {
    gate = free;
    is_gate = free_gate (t.Word w.KwEnum);
    more = joined (λ m. name) (λ e. joined (λ m. expect left_brace) (λ _. joined (λ m. separated begins_name name (slack l m).tags) (λ ts. joined (λ m. expect right_brace) (λ _ m i. Ok (record { name = e; tags = ts }, i)))));
    rule = then_rule name_rule (λ e. then_rule (expect_rule any left_brace refl) (λ _. then_rule tags_rule (λ ts. then_rule (expect_rule (is_token right_brace) right_brace refl) (λ _. value_rule any _))));
    is = λ m r n k. refl;
  }
  enumeration_entry _ h = absurd cc

  enumeration_refuses : (m r n : ℕ) (k : List Token) → begins_enumeration (first k) ≡ false → enumeration (slack l m) (at k r n) ≡ Err (Syntax (length k))
  unfolding enumeration expect
  enumeration_refuses m r n [] h = refl
  enumeration_refuses m r n (t.Word w.KwEnum ∷ k) h = absurd cc
  enumeration_refuses m r n (_ ∷ k) h = refl

  pub enumeration_item : Item begins_enumeration (λ m. enumeration (slack l m)) any
  enumeration_item = item_of begins_enumeration (λ m. enumeration (slack l m)) any enumeration_entry refl enumeration_refuses (t.Word w.KwEnum) refl

  kinds_rule : Rule any (λ m. listed begins_kind kind (slack l m).kinds) (is_token right_paren)
  kinds_rule =
      listed_rule begins_kind (λ m. kind) any kind_item (is_token right_paren) (only right_paren (is_token comma) false refl) (to_any (is_token right_paren)) refl refl any l.kinds (only right_paren begins_kind false refl) (to_any (is_token right_paren))

  channel_entry : (u : Token) → begins_channel (Some u) ≡ true → Entry (λ m. channel (slack l m)) any u
  unfolding channel expect
  channel_entry (t.Word w.KwChannel) h = record {
    gate = free;
    is_gate = free_gate (t.Word w.KwChannel);
    more = joined (λ m. name) (λ c. joined (λ m. expect (t.Mark mk.LParen)) (λ _. joined (λ m. listed begins_kind kind (slack l m).kinds) (λ ks. joined (λ m. expect right_paren) (λ _. joined (λ m. flag (t.Word w.KwLoose)) (λ loose. joined (λ m. expect semi) (λ _ m i. Ok (record { name = c; kinds = ks; loose = loose }, i)))))));
    rule =
        then_rule name_rule (λ c. then_rule (expect_rule any (t.Mark mk.LParen) refl) (λ _. then_rule kinds_rule (λ ks. then_rule (expect_rule (is_token right_paren) right_paren refl) (λ _.
        then_rule (flag_rule (t.Word w.KwLoose) (is_token semi) (only semi (is_token (t.Word w.KwLoose)) false refl)) (λ loose. then_rule (expect_rule (is_token semi) semi refl) (λ _. value_rule any _))))));
    is = λ m r n k. refl;
  }
  channel_entry _ h = absurd cc

  channel_refuses : (m r n : ℕ) (k : List Token) → begins_channel (first k) ≡ false → channel (slack l m) (at k r n) ≡ Err (Syntax (length k))
  unfolding channel expect
  channel_refuses m r n [] h = refl
  channel_refuses m r n (t.Word w.KwChannel ∷ k) h = absurd cc
  channel_refuses m r n (_ ∷ k) h = refl

  channel_item : Item begins_channel (λ m. channel (slack l m)) any
  channel_item = item_of begins_channel (λ m. channel (slack l m)) any channel_entry refl channel_refuses (t.Word w.KwChannel) refl

  -- ---- roles

  block_rule : (E : Follow) (x : Name) (is_many is_nonempty : Bool) → E (Some left_brace) ≡ true → Rule E (λ m. role_block (slack l m) x is_many is_nonempty) any
  unfolding role_block
  block_rule E x is_many is_nonempty h =
      then_rule (expect_rule E left_brace h) (λ _.
      then_rule (many_rule begins_declaration (λ m. declaration) any declaration_item behind_declarations [] (λ d ds. d ∷ ds) no_declaration (to_any behind_declarations) refl any (to_any behind_declarations) l.declarations) (λ ds.
      then_rule (code_rule l l.nesting (block_item l l.nesting) behind_declarations refl) (λ c.
      then_rule (expect_rule (is_token right_brace) right_brace refl) (λ _. value_rule any _))))

  single_rule : Rule any (λ m. single_role (slack l m)) any
  unfolding single_role
  single_rule = then_rule name_rule (λ x. block_rule any x false false refl)

  set_rule : Rule any (λ m. set_role (slack l m)) any
  unfolding set_role
  set_rule = then_rule name_rule (λ x. then_rule (flag_rule (t.Word w.KwNonempty) (is_token left_brace) (only left_brace (is_token (t.Word w.KwNonempty)) false refl)) (λ is_nonempty. block_rule (is_token left_brace) x true is_nonempty refl))

  role_entry : (u : Token) → begins_role (Some u) ≡ true → Entry (λ m. role (slack l m)) any u
  unfolding role
  role_entry (t.Word w.KwOne) h = record { gate = free; is_gate = free_gate (t.Word w.KwOne); more = λ m. single_role (slack l m); rule = single_rule; is = λ m r n k. refl }
  role_entry (t.Word w.KwMany) h = record { gate = free; is_gate = free_gate (t.Word w.KwMany); more = λ m. set_role (slack l m); rule = set_rule; is = λ m r n k. refl }
  role_entry _ h = absurd cc

  role_refuses : (m r n : ℕ) (k : List Token) → begins_role (first k) ≡ false → role (slack l m) (at k r n) ≡ Err (Syntax (length k))
  unfolding role
  role_refuses m r n [] h = refl
  role_refuses m r n (t.Word w.KwOne ∷ k) h = absurd cc
  role_refuses m r n (t.Word w.KwMany ∷ k) h = absurd cc
  role_refuses m r n (_ ∷ k) h = refl

  role_item : Item begins_role (λ m. role (slack l m)) any
  role_item = item_of begins_role (λ m. role (slack l m)) any role_entry refl role_refuses (t.Word w.KwOne) refl

  -- ---- programs

  pub whole_rule : Rule any (λ m. whole (slack l m)) at_last
  unfolding whole
  whole_rule =
      then_rule (many_rule begins_enumeration (λ m. enumeration (slack l m)) any enumeration_item behind_enumerations [] (λ x xs. x ∷ xs) no_enumeration (to_any behind_enumerations) refl any (to_any behind_enumerations) l.enums) (λ es.
      then_rule (many_rule begins_channel (λ m. channel (slack l m)) any channel_item behind_channels [] (λ x xs. x ∷ xs) no_channel (to_any behind_channels) refl behind_enumerations then_channels l.channels) (λ cs.
      then_rule (many_rule begins_role (λ m. role (slack l m)) any role_item at_last [] (λ x xs. x ∷ xs) no_role (to_any at_last) refl behind_channels then_roles l.roles) (λ rs. value_rule at_last _)))
