-- How the layouts of declarations, statements and programs read.
use Rattle.std.proofs.Common.{◌≡◌, Bool, true, false, if◌then◌else◌, ◌&&◌, ℕ, List, [], ◌++◌, Ok, refl, append-nil, append_assoc}
use Rattle.std.specs.Prelude.{codes}
use Rattle.std.specs.List.{AllByRecursion}
use Rattle.brisk_values.specs.Names.{Name}
use Rattle.brisk_lex.specs.declared.token.Mark.TheVariants as m
use Rattle.brisk_lex.specs.declared.token.Word.TheVariants as w
use Rattle.brisk_lex.specs.declared.token.Token.{Token}
use Rattle.brisk_lex.specs.Tokens.{tokens, tokens_of}
use Rattle.brisk_syntax.specs.declared.program.Decl.{Decl}
use Rattle.brisk_syntax.specs.declared.program.Decl.TheVariants as decl
use Rattle.brisk_syntax.specs.declared.program.EnumDecl.{EnumDecl}
use Rattle.brisk_syntax.specs.declared.program.Channel.{Channel}
use Rattle.brisk_syntax.specs.declared.program.Program.{Program}
use Rattle.brisk_syntax.specs.declared.tree.Who.{Who}
use Rattle.brisk_syntax.specs.declared.tree.Who.TheVariants as who
use Rattle.brisk_syntax.specs.Roles.{RoleText}
use Rattle.brisk_syntax.specs.Syntax.{Statement, Assign, Send, Recv, RecvAny, If, IfElse, While, For, Repeat, Code, done, ◌⨾◌}
use Rattle.brisk_parse.specs.Spelling as spell
use Rattle.brisk_print.specs.Layout as layout
use Rattle.brisk_readback.specs.Legal.{IsNamed, NamesPartners, NamesAll, IsWritable}
use Rattle.brisk_readback.proofs.Texts.{Reads, Separates, whole_read, nothing, space, newline, solid, spaced, spaced_word, word, name, ◌then◌, ◌and◌, ◌joint◌, ends_line, same_tokens, with_commas_read, joined_read, any}
use Rattle.brisk_readback.proofs.ReadExpressions.{left, right, semi, expression_reads, expressions_read, names_read, constant_reads, kind_reads}

-- ---- separators

pub assign : Separates (codes " := ") (spell.mark m.Assign)
assign = space joint spaced m.Assign refl

colon : Separates (codes " : ") (spell.mark m.Colon)
colon = space joint spaced m.Colon refl

equals : Separates (codes " = ") (spell.mark m.Equals)
equals = space joint spaced m.Equals refl

line_end : Separates (codes ";\n") (spell.mark m.Semi)
line_end = semi joint newline.reads

pub brace : Reads false (codes "{") (spell.mark m.LBrace)
brace = solid m.LBrace refl (λ _. tt)

pub closing : Reads false (codes "}") (spell.mark m.RBrace)
closing = solid m.RBrace refl (λ _. tt)

pub opens : Separates (codes " {") (spell.mark m.LBrace)
opens = space joint brace

to : Separates (codes ") to ") (spell.mark m.RParen ++ spell.word w.KwTo)
to = right joint space.reads joint spaced_word w.KwTo refl

from : Separates (codes ") from ") (spell.mark m.RParen ++ spell.word w.KwFrom)
from = right joint space.reads joint spaced_word w.KwFrom refl

from_any : Separates (codes ") from any ") (spell.mark m.RParen ++ spell.word w.KwFrom ++ spell.word w.KwAny)
from_any = from joint spaced_word w.KwAny refl

in_set : Separates (codes " in ") (spell.word w.KwIn)
in_set = space joint spaced_word w.KwIn refl

pub otherwise : Reads false (codes "} else {") (spell.mark m.RBrace ++ spell.word w.KwElse ++ spell.mark m.LBrace)
otherwise = closing and space then spaced_word w.KwElse refl then brace

pub indent : Reads false (codes "  ") []
indent = space.reads then space.reads

-- ---- declarations

pub declaration_reads : (d : Decl) → Reads false (layout.declaration d) (spell.declaration d)
declaration_reads (decl.Var x k c) = indent then spaced_word w.KwVar refl then name x and colon then kind_reads k and equals then constant_reads c and line_end
declaration_reads (decl.Input x k) = indent then spaced_word w.KwInput refl then name x and colon then kind_reads k and line_end

pub declarations_read : (ds : List Decl) → Reads false (layout.declarations ds) (spell.all_of spell.declaration ds)
declarations_read ds = joined_read layout.declaration spell.declaration (λ d _. declaration_reads d) ds (any ds)

enumeration_reads : (e : EnumDecl) → Reads false (layout.enumeration e) (spell.enumeration e)
enumeration_reads e = spaced_word w.KwEnum refl then name e.name and (opens joint space.reads) then names_read e.tags and (space joint closing joint newline.reads)

pub enumerations_read : (es : List EnumDecl) → Reads false (layout.enumerations es) (spell.all_of spell.enumeration es)
enumerations_read es = joined_read layout.enumeration spell.enumeration (λ e _. enumeration_reads e) es (any es)

channel_end_reads : (loose : Bool) → Separates (layout.channel_end loose) (spell.mark m.RParen ++ spell.flag w.KwLoose loose ++ spell.mark m.Semi)
channel_end_reads true = right joint space.reads joint (word w.KwLoose refl and line_end)
channel_end_reads false = right joint line_end.reads

channel_reads : (c : Channel) → Reads false (layout.channel c) (spell.channel c)
channel_reads c = same_tokens (simp append_assoc) (spaced_word w.KwChannel refl then name c.name and left then with_commas_read layout.kind spell.kind kind_reads c.kinds and channel_end_reads c.loose)

channels_read : (cs : List Channel) → Reads false (layout.channels cs) (spell.all_of spell.channel cs)
channels_read cs = joined_read layout.channel spell.channel (λ c _. channel_reads c) cs (any cs)

heading : (n : Name) (many nonempty : Bool) → Reads false (layout.role_word many ++ n ++ layout.role_bracket (many && nonempty)) ((if many then spell.word w.KwMany ++ spell.name n ++ spell.flag w.KwNonempty nonempty else spell.word w.KwOne ++ spell.name n) ++ spell.mark m.LBrace)
heading n true true = spaced_word w.KwMany refl then name n and (space joint (word w.KwNonempty refl and opens) joint newline.reads)
heading n true false = spaced_word w.KwMany refl then name n and (opens joint newline.reads)
heading n false nonempty = spaced_word w.KwOne refl then name n and (opens joint newline.reads)

pub heading_reads : (r : RoleText) → Reads false (layout.role_heading r) (spell.heading r ++ spell.mark m.LBrace)
heading_reads r = heading r.name r.many r.nonempty

-- ---- statements

partner_reads : (u : Who) → IsNamed u → Reads true (layout.partner u) (spell.partner u)
partner_reads (who.Name n) h = name n
partner_reads (who.At s) h = name s
partner_reads (who.Pid p) h = absurd h

pub line_reads : {margin text : List ℕ} {ts : List Token} → Reads false margin [] → Reads false text ts → Reads false (layout.line margin text) ts
line_reads blank x = ends_line (blank then x)

-- a line with nothing below it
pub lone : {b : List ℕ} {ts : List Token} → Reads false b ts → Reads false (b ++ []) ts
lone {b} {ts} x = same_tokens (append-nil ts) (x then nothing false)

receive_front : (c : Name) (xs : List Name) → Reads false (codes "recv " ++ c ++ codes "(" ++ layout.names xs ++ codes ") from any ") (spell.word w.KwRecv ++ spell.name c ++ spell.mark m.LParen ++ spell.names xs ++ spell.mark m.RParen ++ spell.word w.KwFrom ++ spell.word w.KwAny)
receive_front c xs = same_tokens (simp append_assoc) (spaced_word w.KwRecv refl then name c and left then names_read xs and from_any)

module _ {margin : List ℕ} (blank : Reads false margin []) where
  -- what stands before an open bracket, a block and its closing bracket
  pub block_reads : {o : Bool} {front block : List ℕ} {ts bs : List Token} → Reads o front ts → Reads false block bs → Reads false (layout.line margin (front ++ codes " {") ++ (block ++ layout.line margin (codes "}"))) (ts ++ spell.braced bs)
  block_reads f b = same_tokens (simp append_assoc) (line_reads blank (f and opens) then (b then line_reads blank closing))

  -- and with a second block
  pub blocks_read : {o : Bool} {front one two : List ℕ} {ts bs cs : List Token} → Reads o front ts → Reads false one bs → Reads false two cs → Reads false (layout.line margin (front ++ codes " {") ++ (one ++ layout.line margin (codes "} else {") ++ two ++ layout.line margin (codes "}"))) (ts ++ spell.braced bs ++ spell.word w.KwElse ++ spell.braced cs)
  blocks_read f b c = same_tokens (simp append_assoc) (line_reads blank (f and opens) then (b then line_reads blank otherwise then c then line_reads blank closing))

mutual
  statement_reads : (margin : List ℕ) → Reads false margin [] → (s : Statement) → NamesPartners s → Reads false (layout.line margin (layout.head s) ++ layout.below margin s) (spell.statement s)
  statement_reads margin blank (Assign x e) h = lone (line_reads blank (name x and assign then expression_reads e and semi))
  statement_reads margin blank (Send c es u) h = lone (line_reads blank (same_tokens (simp append_assoc) (spaced_word w.KwSend refl then name c and left then expressions_read es and to then partner_reads u h and semi)))
  statement_reads margin blank (Recv c xs u) h = lone (line_reads blank (same_tokens (simp append_assoc) (spaced_word w.KwRecv refl then name c and left then names_read xs and from then partner_reads u h and semi)))
  statement_reads margin blank (RecvAny c xs v s b) h = block_reads blank (receive_front c xs then name v and in_set then name s) (code_reads (layout.deeper margin) (blank then indent) b h)
  statement_reads margin blank (If e a) h = block_reads blank (spaced_word w.KwIf refl then expression_reads e) (code_reads (layout.deeper margin) (blank then indent) a h)
  statement_reads margin blank (IfElse e a b) h = blocks_read blank (spaced_word w.KwIf refl then expression_reads e) (code_reads (layout.deeper margin) (blank then indent) a h.0) (code_reads (layout.deeper margin) (blank then indent) b h.1)
  statement_reads margin blank (While e b) h = block_reads blank (spaced_word w.KwWhile refl then expression_reads e) (code_reads (layout.deeper margin) (blank then indent) b h)
  statement_reads margin blank (For v s k b) h = block_reads blank (spaced_word w.KwFor refl then name v and in_set then name s) (code_reads (layout.deeper margin) (blank then indent) b h)
  statement_reads margin blank (Repeat s k b) h = block_reads blank (spaced_word w.KwRepeat refl then name s) (code_reads (layout.deeper margin) (blank then indent) b h)

  code_reads : (margin : List ℕ) → Reads false margin [] → (c : Code) → NamesAll c → Reads false (layout.code margin c) (spell.code c)
  code_reads margin blank done h = nothing false
  code_reads margin blank (s ⨾ c) h = statement_reads margin blank s h.0 then code_reads margin blank c h.1

-- ---- programs

role_reads : (r : RoleText) → NamesAll r.code → Reads false (layout.role r) (spell.role r)
role_reads r h = heading_reads r then declarations_read r.decls then code_reads (codes "  ") indent r.code h then ends_line closing

program_reads : (P : Program) → AllByRecursion (λ r. NamesAll r.code) P.roles → Reads false (layout.program P) (spell.spelling P)
program_reads P h = enumerations_read P.enums then channels_read P.channels then joined_read layout.role spell.role role_reads P.roles h

-- the tokens of a program's layout are its spelling
pub layout_is_spelled : (P : Program) → IsWritable P → tokens_of (tokens (layout.program P)) ≡ Ok (spell.spelling P)
layout_is_spelled P h = whole_read (layout.program P) (spell.spelling P) h.legal (program_reads P h.named)
