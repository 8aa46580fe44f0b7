-- How programs are kept by proofs: as trees of numbers, of which each stands for one program.
use Rattle.std.specs.Prelude.{◌≡◌, List, refl}
use Rattle.std.proofs.Common.{ap}
use Rattle.std.specs.Coded.{Coded, coded_ℕ, coded_bool, coded_list}
use Rattle.brisk_values.specs.Places.{coded_name}
use base.Stored.{Gv, gnil, gnum, gcons}
use Rattle.brisk_values.specs.declared.operation.Op1.{Op1}
use Rattle.brisk_values.specs.declared.operation.Op2.{Op2}
use Rattle.brisk_syntax.specs.declared.tree.Who.{Who}
use Rattle.brisk_syntax.specs.contracts.tree.Who as who
use Rattle.brisk_values.specs.contracts.operation.Op1 as op1
use Rattle.brisk_values.specs.contracts.operation.Op2 as op2
use Rattle.brisk_values.specs.Names.{Name}
use Rattle.brisk_syntax.specs.Syntax.{Expression, Num, Truth, Var, Tag, Size, Paren, Un, Bin, Statement, Assign, Send, Recv, RecvAny, If, IfElse, While, For, Repeat, Code, done, ◌⨾◌}

abbrev pub coded_op1 : Coded Op1
coded_op1 = op1.the_row.coded

abbrev pub coded_op2 : Coded Op2
coded_op2 = op2.the_row.coded

abbrev pub coded_who : Coded Who
coded_who = who.the_row.coded

-- the two parts of a node
abbrev pub first : Gv → Gv
first gnil = gnil
first (gnum n) = gnil
first (gcons a b) = a

abbrev pub second : Gv → Gv
second gnil = gnil
second (gnum n) = gnil
second (gcons a b) = b

abbrev pub expression_stored : Expression → Gv
expression_stored (Num n) = gcons (gnum 0) (gnum n)
expression_stored (Truth b) = gcons (gnum 1) (coded_bool.code b)
expression_stored (Var x) = gcons (gnum 2) (coded_name.code x)
expression_stored (Tag e t) = gcons (gnum 3) (gcons (coded_name.code e) (coded_name.code t))
expression_stored (Size s) = gcons (gnum 4) (coded_name.code s)
expression_stored (Paren e) = gcons (gnum 5) (expression_stored e)
expression_stored (Un op e) = gcons (gnum 6) (gcons (coded_op1.code op) (expression_stored e))
expression_stored (Bin op e f) = gcons (gnum 7) (gcons (coded_op2.code op) (gcons (expression_stored e) (expression_stored f)))

pub same_expression : (x y : Expression) → expression_stored x ≡ expression_stored y → x ≡ y
same_expression (Num m) (Num n) p = ap Num (coded_ℕ.inj m n (ap second p))
same_expression (Truth a) (Truth b) p = ap Truth (coded_bool.inj a b (ap second p))
same_expression (Var x) (Var y) p = ap Var (coded_name.inj x y (ap second p))
same_expression (Tag e t) (Tag f u) p = λ i. Tag (coded_name.inj e f (ap (λ g. first (second g)) p) i) (coded_name.inj t u (ap (λ g. second (second g)) p) i)
same_expression (Size x) (Size y) p = ap Size (coded_name.inj x y (ap second p))
same_expression (Paren x) (Paren y) p = ap Paren (same_expression x y (ap second p))
same_expression (Un o x) (Un q y) p = λ i. Un (coded_op1.inj o q (ap (λ g. first (second g)) p) i) (same_expression x y (ap (λ g. second (second g)) p) i)
same_expression (Bin o x x') (Bin q y y') p = λ i. Bin (coded_op2.inj o q (ap (λ g. first (second g)) p) i) (same_expression x y (ap (λ g. first (second (second g))) p) i) (same_expression x' y' (ap (λ g. second (second (second g))) p) i)
same_expression x y p = cc

abbrev pub coded_expression : Coded Expression
coded_expression = record { code = expression_stored; inj = same_expression }

abbrev pub coded_expressions : Coded (List Expression)
coded_expressions = coded_list coded_expression

abbrev pub coded_names : Coded (List Name)
coded_names = coded_list coded_name

abbrev mutual
  pub statement_stored : Statement → Gv
  statement_stored (Assign x e) = gcons (gnum 0) (gcons (coded_name.code x) (expression_stored e))
  statement_stored (Send c es u) = gcons (gnum 1) (gcons (coded_name.code c) (gcons (coded_expressions.code es) (coded_who.code u)))
  statement_stored (Recv c xs u) = gcons (gnum 2) (gcons (coded_name.code c) (gcons (coded_names.code xs) (coded_who.code u)))
  statement_stored (RecvAny c xs v s b) = gcons (gnum 3) (gcons (coded_name.code c) (gcons (coded_names.code xs) (gcons (coded_name.code v) (gcons (coded_name.code s) (code_stored b)))))
  statement_stored (If e a) = gcons (gnum 4) (gcons (expression_stored e) (code_stored a))
  statement_stored (IfElse e a b) = gcons (gnum 5) (gcons (expression_stored e) (gcons (code_stored a) (code_stored b)))
  statement_stored (While e b) = gcons (gnum 6) (gcons (expression_stored e) (code_stored b))
  statement_stored (For v s k b) = gcons (gnum 7) (gcons (coded_name.code v) (gcons (coded_name.code s) (gcons (gnum k) (code_stored b))))
  statement_stored (Repeat s k b) = gcons (gnum 8) (gcons (coded_name.code s) (gcons (gnum k) (code_stored b)))

  pub code_stored : Code → Gv
  code_stored done = gnil
  code_stored (s ⨾ c) = gcons (statement_stored s) (code_stored c)

abbrev at1 : Gv → Gv
at1 g = first (second g)

abbrev at2 : Gv → Gv
at2 g = first (second (second g))

abbrev at3 : Gv → Gv
at3 g = first (second (second (second g)))

mutual
  pub same_statement : (x y : Statement) → statement_stored x ≡ statement_stored y → x ≡ y
  same_statement (Assign x e) (Assign y f) p = λ i. Assign (coded_name.inj x y (ap at1 p) i) (same_expression e f (ap (λ g. second (second g)) p) i)
  same_statement (Send c es u) (Send d fs v) p = λ i. Send (coded_name.inj c d (ap at1 p) i) (coded_expressions.inj es fs (ap at2 p) i) (coded_who.inj u v (ap (λ g. second (second (second g))) p) i)
  same_statement (Recv c xs u) (Recv d ys v) p = λ i. Recv (coded_name.inj c d (ap at1 p) i) (coded_names.inj xs ys (ap at2 p) i) (coded_who.inj u v (ap (λ g. second (second (second g))) p) i)
  same_statement (RecvAny c xs v s a) (RecvAny d ys w t b) p = λ i. RecvAny (coded_name.inj c d (ap at1 p) i) (coded_names.inj xs ys (ap at2 p) i) (coded_name.inj v w (ap at3 p) i) (coded_name.inj s t (ap (λ g. first (second (second (second (second g))))) p) i) (same_code a b (ap (λ g. second (second (second (second (second g))))) p) i)
  same_statement (If e a) (If f b) p = λ i. If (same_expression e f (ap at1 p) i) (same_code a b (ap (λ g. second (second g)) p) i)
  same_statement (IfElse e a c) (IfElse f b d) p = λ i. IfElse (same_expression e f (ap at1 p) i) (same_code a b (ap at2 p) i) (same_code c d (ap (λ g. second (second (second g))) p) i)
  same_statement (While e a) (While f b) p = λ i. While (same_expression e f (ap at1 p) i) (same_code a b (ap (λ g. second (second g)) p) i)
  same_statement (For v s k a) (For w t l b) p = λ i. For (coded_name.inj v w (ap at1 p) i) (coded_name.inj s t (ap at2 p) i) (coded_ℕ.inj k l (ap at3 p) i) (same_code a b (ap (λ g. second (second (second (second g)))) p) i)
  same_statement (Repeat s k a) (Repeat t l b) p = λ i. Repeat (coded_name.inj s t (ap at1 p) i) (coded_ℕ.inj k l (ap at2 p) i) (same_code a b (ap (λ g. second (second (second g))) p) i)
  same_statement x y p = cc

  pub same_code : (x y : Code) → code_stored x ≡ code_stored y → x ≡ y
  same_code done done p = refl
  same_code (s ⨾ c) (t ⨾ d) p = λ i. same_statement s t (ap first p) i ⨾ same_code c d (ap second p) i
  same_code x y p = cc

abbrev pub coded_code : Coded Code
coded_code = record { code = code_stored; inj = same_code }
