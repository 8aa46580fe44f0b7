-- How the layouts of expressions, constants and kinds read.
use Rattle.std.proofs.Common.{◌≡◌, Bool, true, false, ◌==◌, ◌<◌, ◌^◌, ℕ, List, [], ◌∷◌, ◌++◌, map-id, refl, sym, ap, ◌∙◌, append_assoc, inl, inr, arith}
use Rattle.std.specs.Prelude.{codes}
use Rattle.std.specs.Char.{is_ascii_digit}
use Rattle.std.specs.Fmt.{decimal}
use Rattle.std.specs.List.{list_all}
use Rattle.unicode_ident.specs.Ident.{is_xid_continue}
use Rattle.brisk_lex.specs.Tokens.{first, starts_name}
use Rattle.brisk_lex.specs.Spelled.{is_identifier, is_numeral, IsName}
use Rattle.brisk_lex.proofs.Ascii.{is_ascii_start, starts_ascii}
use Rattle.brisk_lex.proofs.Printed.{read, before, decimal_is, mark_read}
use Rattle.std.specs.Str.{chars, IsUtf8}
use Rattle.std.proofs.lemmas.Bool.Decides.{leb_tells, nat_tests}
use Rattle.std.proofs.lemmas.Fmt.{IsAscii-decimal}
use Rattle.std.proofs.lemmas.Str.{chars-append, chars-IsAscii, IsUtf8-append, IsUtf8-from_ascii}
use Rattle.brisk_values.specs.Names.{Name}
use Rattle.brisk_values.specs.declared.value.Kind.{Kind}
use Rattle.brisk_values.specs.declared.value.Kind.TheVariants as kinds
use Rattle.brisk_values.specs.declared.operation.Op1.TheVariants as op1
use Rattle.brisk_values.specs.declared.operation.Op2.{Op2}
use Rattle.brisk_values.specs.declared.operation.Op2.TheVariants as op2
use Rattle.brisk_lex.specs.declared.token.Mark.TheVariants as m
use Rattle.brisk_lex.specs.declared.token.Word.TheVariants as w
use Rattle.brisk_lex.specs.declared.token.Token.{Token}
use Rattle.brisk_lex.specs.declared.token.Token.TheVariants as t
use Rattle.brisk_syntax.specs.declared.program.Const.{Const}
use Rattle.brisk_syntax.specs.declared.program.Const.TheVariants as const
use Rattle.brisk_syntax.specs.Syntax.{Expression, Num, Truth, Var, Tag, Size, Paren, Un, Bin}
use Rattle.brisk_parse.specs.Spelling as spell
use Rattle.brisk_text.specs.Values as text
use Rattle.brisk_print.specs.Layout as layout
use Rattle.brisk_readback.specs.Legal.{AllLegal}
use Rattle.brisk_readback.proofs.Texts.{Reads, Separates, is_low, low_first, all_ascii, legal_parts, space, solid, spaced, word, name, number, ◌then◌, ◌and◌, ◌joint◌, loosen, same_text, with_commas_read}
use Rattle.brisk_values.proofs.Changes.{both_true}

pub dot : Separates (codes ".") (spell.mark m.Dot)
dot = record { reads = solid m.Dot refl (λ _. tt); ends = refl }

pub left : Separates (codes "(") (spell.mark m.LParen)
left = record { reads = solid m.LParen refl (λ _. tt); ends = refl }

pub right : Separates (codes ")") (spell.mark m.RParen)
right = record { reads = solid m.RParen refl (λ _. tt); ends = refl }

pub semi : Separates (codes ";") (spell.mark m.Semi)
semi = record { reads = solid m.Semi refl (λ _. tt); ends = refl }

minus : Reads false (codes "-") (spell.mark m.Minus)
minus = solid m.Minus refl (λ _. tt)

hash : Reads false (codes "#") (spell.mark m.Hash)
hash = solid m.Hash refl (λ _. tt)

truth_reads : (b : Bool) → Reads true (text.truth b) (spell.truth b)
truth_reads true = word w.KwTrue refl
truth_reads false = word w.KwFalse refl

tag_reads : (e x : Name) → Reads true (text.tag e x) (spell.name e ++ spell.mark m.Dot ++ spell.name x)
tag_reads e x = name e and dot then name x

operator_reads : (op : Op2) → Separates (layout.operator2 op) (spell.mark (spell.operator2 op))
operator_reads op2.Add = space joint spaced m.Plus refl
operator_reads op2.Sub = space joint spaced m.Minus refl
operator_reads op2.Mul = space joint spaced m.Star refl
operator_reads op2.Eq = space joint spaced m.EqEq refl
operator_reads op2.Ne = space joint spaced m.NotEq refl
operator_reads op2.Lt = space joint spaced m.Less refl
operator_reads op2.Le = space joint spaced m.LessEq refl
operator_reads op2.Gt = space joint spaced m.Greater refl
operator_reads op2.Ge = space joint spaced m.GreaterEq refl
operator_reads op2.And = space joint spaced m.AndAnd refl
operator_reads op2.Or = space joint spaced m.OrOr refl

pub constant_reads : (c : Const) → Reads true (layout.constant c) (spell.constant c)
constant_reads (const.Num true n) = minus then number n
constant_reads (const.Num false n) = number n
constant_reads (const.Bool b) = truth_reads b
constant_reads (const.Tag e x) = tag_reads e x

pub kind_reads : (k : Kind) → Reads true (layout.kind k) (spell.kind k)
kind_reads kinds.Int = word w.KwInt refl
kind_reads kinds.Bool = word w.KwBool refl
kind_reads (kinds.Enum e) = name e

pub names_read : (xs : List Name) → Reads true (layout.names xs) (spell.names xs)
names_read xs = same_text (ap layout.with_commas (map-id xs)) (with_commas_read (λ x. x) spell.name name xs)

-- ---- after a stroke of negation

-- the text doesn't begin with the mark that makes one mark of it and a stroke of negation
abbrev NoEquals : List ℕ → Type 0
NoEquals b = (rest : List ℕ) → (61 == first (chars b ++ rest)) ≡ false

front_no_equals : (a b : List ℕ) → IsUtf8 a → NoEquals a → NoEquals (a ++ b)
front_no_equals a b u h rest = ap (λ l. 61 == first l) (ap (λ l. l ++ rest) (chars-append a b u) ∙ append_assoc (chars a) (chars b) rest) ∙ h (chars b ++ rest)

low_no_equals : (c : ℕ) (b : List ℕ) → is_low c ≡ true → (61 == c) ≡ false → NoEquals (c ∷ b)
low_no_equals c b low other rest = ap (λ l. 61 == first l) (low_first c b rest low) ∙ other

numeral_no_equals : (cs : List ℕ) → is_numeral cs ≡ true → (rest : List ℕ) → (61 == first (cs ++ rest)) ≡ false
numeral_no_equals [] h rest = cc
numeral_no_equals (c ∷ cs) h rest = let k = both_true (is_ascii_digit c) (list_all is_ascii_digit cs) h in grind (arith, nat_tests, k.0)

starts_no_equals : (c : ℕ) → starts_name c ≡ true → (61 == c) ≡ false
starts_no_equals c h =
    elim (leb_tells 128 c) as (λ _. (61 == c) ≡ false) [
      | inl a ↦ grind (arith, nat_tests, a.1)
      | inr a ↦ (let k : is_ascii_start c ≡ true = sym (starts_ascii c a.1) ∙ h in grind (arith, nat_tests, k))
    ]

identifier_no_equals : (cs : List ℕ) → is_identifier cs ≡ true → (rest : List ℕ) → (61 == first (cs ++ rest)) ≡ false
identifier_no_equals [] h rest = cc
identifier_no_equals (c ∷ cs) h rest = starts_no_equals c (both_true (starts_name c) (list_all is_xid_continue cs) h).0

name_no_equals : (x : Name) → IsName x → NoEquals x
name_no_equals x h = identifier_no_equals (chars x) h.1.1

decimal_no_equals : (n : ℕ) → n < 2 ^ 64 → NoEquals (decimal n)
decimal_no_equals n h rest = ap (λ l. 61 == first (l ++ rest)) (chars-IsAscii (decimal n) (IsAscii-decimal n h)) ∙ numeral_no_equals (decimal n) (decimal_is n h).0 rest

negation_reads : {b : List ℕ} {ts : List Token} → Reads true b ts → (AllLegal ts → NoEquals b) → Reads true (codes "!" ++ b) (spell.mark m.Bang ++ ts)
negation_reads {b} {ts} x other legal =
    let y = x legal.1 in
    record {
      utf8 = IsUtf8-append (codes "!") b (IsUtf8-from_ascii (codes "!") (all_ascii (codes "!") refl)) y.utf8;
      reads = λ n rest h.
          ap (read n) (low_first 33 b rest refl) ∙ mark_read n m.Bang (chars b ++ rest) (other legal.1 rest) ∙ ap (before (t.Mark m.Bang)) (y.reads n rest h);
    }

-- ---- expressions

mutual
  expression_no_equals : (e : Expression) → AllLegal (spell.expression e) → NoEquals (layout.expression e)
  expression_no_equals (Num n) h = decimal_no_equals n (omega (arith, h.0))
  expression_no_equals (Truth true) h = low_no_equals 116 (codes "rue") refl refl
  expression_no_equals (Truth false) h = low_no_equals 102 (codes "alse") refl refl
  expression_no_equals (Var x) h = name_no_equals x h.0
  expression_no_equals (Tag e x) h = front_no_equals (e ++ codes ".") x ((name e and dot) (h.0, (h.1.0, tt))).utf8 (front_no_equals e (codes ".") h.0.0 (name_no_equals e h.0))
  expression_no_equals (Size s) h = low_no_equals 35 s refl refl
  expression_no_equals (Paren e) h = low_no_equals 40 (layout.expression e ++ codes ")") refl refl
  expression_no_equals (Un op1.Neg e) h = low_no_equals 45 (layout.expression e) refl refl
  expression_no_equals (Un op1.Not e) h = low_no_equals 33 (layout.expression e) refl refl
  expression_no_equals (Bin op e f) h =
      let front = (legal_parts (spell.expression e ++ spell.mark (spell.operator2 op)) (spell.expression f) h).0 in
      let first = (legal_parts (spell.expression e) (spell.mark (spell.operator2 op)) front).0 in
      front_no_equals (layout.expression e ++ layout.operator2 op) (layout.expression f) ((expression_reads e and operator_reads op) front).utf8
      (front_no_equals (layout.expression e) (layout.operator2 op) (expression_reads e first).utf8 (expression_no_equals e first))

  pub expression_reads : (e : Expression) → Reads true (layout.expression e) (spell.expression e)
  expression_reads (Num n) = number n
  expression_reads (Truth b) = truth_reads b
  expression_reads (Var x) = name x
  expression_reads (Tag e x) = tag_reads e x
  expression_reads (Size s) = hash then name s
  expression_reads (Paren e) = loosen (left.reads then expression_reads e and right)
  expression_reads (Un op1.Neg e) = minus then expression_reads e
  expression_reads (Un op1.Not e) = negation_reads (expression_reads e) (expression_no_equals e)
  expression_reads (Bin op e f) = expression_reads e and operator_reads op then expression_reads f

pub expressions_read : (es : List Expression) → Reads true (layout.expressions es) (spell.expressions es)
expressions_read es = with_commas_read layout.expression spell.expression expression_reads es
