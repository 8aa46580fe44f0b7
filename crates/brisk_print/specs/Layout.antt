-- The layout of programs and of their parts, as bytes, by recursion on the tree. Two spaces of indentation stand for
-- each level, and one line for each declaration, statement, item and closing bracket.
use Rattle.std.specs.Prelude.{ℕ, Bool, true, false, ◌&&◌, List, [], ◌∷◌, ◌++◌, map, codes}
use Rattle.std.specs.Fmt.{decimal}
use Rattle.brisk_values.specs.Names.{Name}
use Rattle.brisk_values.specs.declared.value.Kind.{Kind}
use Rattle.brisk_values.specs.declared.value.Kind.TheVariants as kinds
use Rattle.brisk_values.specs.declared.operation.Op1.{Op1}
use Rattle.brisk_values.specs.declared.operation.Op1.TheVariants as op1
use Rattle.brisk_values.specs.declared.operation.Op2.{Op2}
use Rattle.brisk_values.specs.declared.operation.Op2.TheVariants as op2
use Rattle.brisk_text.specs.Values.{Text, truth, tag}
use Rattle.brisk_syntax.specs.declared.program.Const.{Const}
use Rattle.brisk_syntax.specs.declared.program.Const.TheVariants as const
use Rattle.brisk_syntax.specs.declared.program.Decl.{Decl}
use Rattle.brisk_syntax.specs.declared.program.Decl.TheVariants as decl
use Rattle.brisk_syntax.specs.declared.program.EnumDecl.{EnumDecl}
use Rattle.brisk_syntax.specs.declared.program.Channel.{Channel}
use Rattle.brisk_syntax.specs.declared.program.Program.{Program}
use Rattle.brisk_syntax.specs.declared.tree.Who.{Who}
use Rattle.brisk_syntax.specs.declared.tree.Who.TheVariants as who
use Rattle.brisk_syntax.specs.Roles.{RoleText}
use Rattle.brisk_syntax.specs.Syntax.{Expression, Num, Truth, Var, Tag, Size, Paren, Un, Bin, Statement, Assign, Send, Recv, RecvAny, If, IfElse, While, For, Repeat, Code, done, ◌⨾◌}
use Rattle.brisk_seq.specs.declared.tree.SeqProgram.{SeqProgram}
use Rattle.brisk_seq.specs.Items as items
use Rattle.brisk_seq.specs.Items.{Item, Items, nothing, ◌⨟◌}

-- each piece behind a comma and a space
abbrev pub behind_commas : List Text → Text
behind_commas [] = []
behind_commas (x ∷ xs) = codes ", " ++ x ++ behind_commas xs

-- the pieces with a comma and a space between
abbrev pub with_commas : List Text → Text
with_commas [] = []
with_commas (x ∷ xs) = x ++ behind_commas xs

-- the pieces one after another
abbrev pub joined : List Text → Text
joined [] = []
joined (x ∷ xs) = x ++ joined xs

-- one level deeper
abbrev pub deeper : Text → Text
deeper margin = margin ++ codes "  "

-- a line with its indentation
abbrev pub line : Text → Text → Text
line margin text = margin ++ text ++ codes "\n"

-- ---- expressions

abbrev pub operator1 : Op1 → Text
operator1 op1.Neg = codes "-"
operator1 op1.Not = codes "!"

abbrev pub operator2 : Op2 → Text
operator2 op2.Add = codes " + "
operator2 op2.Sub = codes " - "
operator2 op2.Mul = codes " * "
operator2 op2.Eq = codes " == "
operator2 op2.Ne = codes " != "
operator2 op2.Lt = codes " < "
operator2 op2.Le = codes " <= "
operator2 op2.Gt = codes " > "
operator2 op2.Ge = codes " >= "
operator2 op2.And = codes " && "
operator2 op2.Or = codes " || "

abbrev pub expression : Expression → Text
expression (Num n) = decimal n
expression (Truth b) = truth b
expression (Var x) = x
expression (Tag e x) = tag e x
expression (Size s) = codes "#" ++ s
expression (Paren e) = codes "(" ++ expression e ++ codes ")"
expression (Un op e) = operator1 op ++ expression e
expression (Bin op e f) = expression e ++ operator2 op ++ expression f

-- expressions, or variables, with commas between
abbrev pub expressions : List Expression → Text
expressions es = with_commas (map expression es)

abbrev pub names : List Name → Text
names xs = with_commas xs

-- ---- declarations

abbrev pub kind : Kind → Text
kind kinds.Int = codes "int"
kind kinds.Bool = codes "bool"
kind (kinds.Enum e) = e

abbrev pub sign : Bool → Text
sign true = codes "-"
sign false = []

abbrev pub constant : Const → Text
constant (const.Num negative n) = sign negative ++ decimal n
constant (const.Bool b) = truth b
constant (const.Tag e x) = tag e x

abbrev pub declaration : Decl → Text
declaration (decl.Var x k c) = codes "  var " ++ x ++ codes " : " ++ kind k ++ codes " = " ++ constant c ++ codes ";\n"
declaration (decl.Input x k) = codes "  input " ++ x ++ codes " : " ++ kind k ++ codes ";\n"

abbrev pub declarations : List Decl → Text
declarations ds = joined (map declaration ds)

abbrev pub enumeration : EnumDecl → Text
enumeration e = codes "enum " ++ e.name ++ codes " { " ++ names e.tags ++ codes " }\n"

abbrev pub enumerations : List EnumDecl → Text
enumerations es = joined (map enumeration es)

abbrev pub channel_end : Bool → Text
channel_end true = codes ") loose;\n"
channel_end false = codes ");\n"

-- a channel, with the kinds of one message
abbrev pub channel : Channel → Text
channel c = codes "channel " ++ c.name ++ codes "(" ++ with_commas (map kind c.kinds) ++ channel_end c.loose

abbrev pub channels : List Channel → Text
channels cs = joined (map channel cs)

abbrev pub role_word : Bool → Text
role_word true = codes "many "
role_word false = codes "one "

abbrev pub role_bracket : Bool → Text
role_bracket true = codes " nonempty {\n"
role_bracket false = codes " {\n"

-- the first line of a role
abbrev pub role_heading : RoleText → Text
role_heading r = role_word r.many ++ r.name ++ role_bracket (r.many && r.nonempty)

-- ---- programs

-- a partner: a member of a set that is in focus by its set's name, and a process by its number in its set
abbrev pub partner : Who → Text
partner (who.Name n) = n
partner (who.At s) = s
partner (who.Pid p) = p.role ++ codes "[" ++ decimal p.member ++ codes "]"

-- the first line of a statement
abbrev pub head : Statement → Text
head (Assign x e) = x ++ codes " := " ++ expression e ++ codes ";"
head (Send c es u) = codes "send " ++ c ++ codes "(" ++ expressions es ++ codes ") to " ++ partner u ++ codes ";"
head (Recv c xs u) = codes "recv " ++ c ++ codes "(" ++ names xs ++ codes ") from " ++ partner u ++ codes ";"
head (RecvAny c xs v s b) = codes "recv " ++ c ++ codes "(" ++ names xs ++ codes ") from any " ++ v ++ codes " in " ++ s ++ codes " {"
head (If e a) = codes "if " ++ expression e ++ codes " {"
head (IfElse e a b) = codes "if " ++ expression e ++ codes " {"
head (While e b) = codes "while " ++ expression e ++ codes " {"
head (For v s k b) = codes "for " ++ v ++ codes " in " ++ s ++ codes " {"
head (Repeat s k b) = codes "repeat " ++ s ++ codes " {"

-- statements, each with its first line and what stands below it
abbrev mutual
  pub below : Text → Statement → Text
  below margin (Assign x e) = []
  below margin (Send c es u) = []
  below margin (Recv c xs u) = []
  below margin (RecvAny c xs v s b) = code (deeper margin) b ++ line margin (codes "}")
  below margin (If e a) = code (deeper margin) a ++ line margin (codes "}")
  below margin (IfElse e a b) = code (deeper margin) a ++ line margin (codes "} else {") ++ code (deeper margin) b ++ line margin (codes "}")
  below margin (While e b) = code (deeper margin) b ++ line margin (codes "}")
  below margin (For v s k b) = code (deeper margin) b ++ line margin (codes "}")
  below margin (Repeat s k b) = code (deeper margin) b ++ line margin (codes "}")

  pub code : Text → Code → Text
  code margin done = []
  code margin (s ⨾ c) = line margin (head s) ++ below margin s ++ code margin c

-- a role with its statements
abbrev pub role : RoleText → Text
role r = role_heading r ++ declarations r.decls ++ code (codes "  ") r.code ++ codes "}\n"

abbrev pub roles : List RoleText → Text
roles rs = joined (map role rs)

-- the layout of a program
abbrev pub program : Program → Text
program P = enumerations P.enums ++ channels P.channels ++ roles P.roles

-- ---- sequential programs

-- `P.(` and what stands at the process, and `)`
abbrev pub at : Name → Text → Text
at p inside = p ++ codes ".(" ++ inside ++ codes ")"

-- a box between two processes
abbrev pub box : ℕ → Name → Name → Text
box n from to = codes "box " ++ decimal n ++ codes " (" ++ from ++ codes " to " ++ to ++ codes ")"

-- the first line of an item
abbrev pub item_head : Item → Text
item_head (items.Pass to xs from es) = at to (names xs) ++ codes " := " ++ at from (expressions es) ++ codes ";"
item_head (items.Fill n from to es) = box n from to ++ codes " := " ++ at from (expressions es) ++ codes ";"
item_head (items.Take to xs n from) = at to (names xs) ++ codes " := " ++ box n from to ++ codes ";"
item_head (items.If p e a b) = codes "if " ++ at p (expression e) ++ codes " {"
item_head (items.While p e b) = codes "while " ++ at p (expression e) ++ codes " {"
item_head (items.For s b) = codes "for " ++ s ++ codes " {"
item_head (items.ForAny s b) = codes "for any " ++ s ++ codes " {"
item_head (items.Pick s b) = codes "pick " ++ s ++ codes " {"
item_head (items.Repeat s b) = codes "repeat " ++ s ++ codes " {"

-- items, each with its first line and what stands below it
abbrev mutual
  pub item_below : Text → Item → Text
  item_below margin (items.Pass to xs from es) = []
  item_below margin (items.Fill n from to es) = []
  item_below margin (items.Take to xs n from) = []
  item_below margin (items.If p e a b) = body (deeper margin) a ++ line margin (codes "} else {") ++ body (deeper margin) b ++ line margin (codes "}")
  item_below margin (items.While p e b) = body (deeper margin) b ++ line margin (codes "}")
  item_below margin (items.For s b) = body (deeper margin) b ++ line margin (codes "}")
  item_below margin (items.ForAny s b) = body (deeper margin) b ++ line margin (codes "}")
  item_below margin (items.Pick s b) = body (deeper margin) b ++ line margin (codes "}")
  item_below margin (items.Repeat s b) = body (deeper margin) b ++ line margin (codes "}")

  pub body : Text → Items → Text
  body margin nothing = []
  body margin (q ⨟ b) = line margin (item_head q) ++ item_below margin q ++ body margin b

-- a role of a sequential program
abbrev pub declared_role : RoleText → Text
declared_role r = role_heading r ++ declarations r.decls ++ codes "}\n"

abbrev pub declared_roles : List RoleText → Text
declared_roles rs = joined (map declared_role rs)

-- the layout of a sequential program
abbrev pub sequential : SeqProgram → Text
sequential Q = enumerations Q.enums ++ declared_roles Q.roles ++ codes "begin\n" ++ body (codes "  ") Q.body ++ codes "end\n"
