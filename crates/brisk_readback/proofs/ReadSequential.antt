-- How the layouts of sequential programs read.
use Rattle.std.proofs.Common.{◌≡◌, refl, sym, ap, Bool, false, ℕ, List, [], ◌++◌, append-nil, Ok}
use Rattle.std.specs.List.{AllByRecursion}
use Rattle.std.specs.Prelude.{codes}
use Rattle.brisk_values.specs.Names.{Name}
use Rattle.brisk_lex.specs.declared.token.Mark.TheVariants as m
use Rattle.brisk_lex.specs.declared.token.Word.TheVariants as w
use Rattle.brisk_lex.specs.declared.token.Token.{Token}
use Rattle.brisk_lex.specs.Tokens.{tokens, tokens_of}
use Rattle.brisk_syntax.specs.Roles.{RoleText}
use Rattle.brisk_syntax.specs.Syntax.{Code, done}
use Rattle.brisk_seq.specs.declared.tree.SeqProgram.{SeqProgram}
use Rattle.brisk_seq.specs.Items as items
use Rattle.brisk_seq.specs.Items.{Item, Items, nothing, ◌⨟◌}
use Rattle.brisk_parse.specs.SequenceSpelling as seq
use Rattle.brisk_parse.specs.Spelling as spell
use Rattle.brisk_print.specs.Layout as layout
use Rattle.brisk_readback.specs.Legal.{IsWritableSequence}
use Rattle.brisk_readback.proofs.Texts.{Reads, nothing as no_text, space, newline, spaced_word, word, name, number, ◌then◌, ◌and◌, ◌joint◌, ends_line, same_tokens, joined_read, whole_read}
use Rattle.brisk_readback.proofs.ReadExpressions.{dot, left, right, semi, expression_reads, expressions_read, names_read}
use Rattle.brisk_readback.proofs.ReadPrograms.{assign, closing, indent, line_reads, lone, block_reads, blocks_read, heading_reads, declarations_read, enumerations_read}

at_reads : {o : Bool} {inside : List ℕ} {ts : List Token} (p : Name) → Reads o inside ts → Reads false (layout.at p inside) (seq.at_process p ts)
at_reads p x = name p and (dot joint left.reads) then x and right

box_reads : (n : ℕ) (from to : Name) → Reads false (layout.box n from to) (seq.box n from to)
box_reads n from to = spaced_word w.KwBox refl then number n and (space joint left.reads) then name from and (space joint spaced_word w.KwTo refl) then name to and right

mutual
  item_reads : (margin : List ℕ) → Reads false margin [] → (q : Item) → Reads false (layout.line margin (layout.item_head q) ++ layout.item_below margin q) (seq.item q)
  item_reads margin blank (items.Pass to xs from es) = lone (line_reads blank (at_reads to (names_read xs) and assign then at_reads from (expressions_read es) and semi))
  item_reads margin blank (items.Fill n from to es) = lone (line_reads blank (box_reads n from to and assign then at_reads from (expressions_read es) and semi))
  item_reads margin blank (items.Take to xs n from) = lone (line_reads blank (at_reads to (names_read xs) and assign then box_reads n from to and semi))
  item_reads margin blank (items.If p e a b) = blocks_read blank (spaced_word w.KwIf refl then at_reads p (expression_reads e)) (items_read (layout.deeper margin) (blank then indent) a) (items_read (layout.deeper margin) (blank then indent) b)
  item_reads margin blank (items.While p e b) = block_reads blank (spaced_word w.KwWhile refl then at_reads p (expression_reads e)) (items_read (layout.deeper margin) (blank then indent) b)
  item_reads margin blank (items.For s b) = block_reads blank (spaced_word w.KwFor refl then name s) (items_read (layout.deeper margin) (blank then indent) b)
  item_reads margin blank (items.ForAny s b) = block_reads blank (spaced_word w.KwFor refl then spaced_word w.KwAny refl then name s) (items_read (layout.deeper margin) (blank then indent) b)
  item_reads margin blank (items.Pick s b) = block_reads blank (spaced_word w.KwPick refl then name s) (items_read (layout.deeper margin) (blank then indent) b)
  item_reads margin blank (items.Repeat s b) = block_reads blank (spaced_word w.KwRepeat refl then name s) (items_read (layout.deeper margin) (blank then indent) b)

  items_read : (margin : List ℕ) → Reads false margin [] → (b : Items) → Reads false (layout.body margin b) (seq.items b)
  items_read margin blank nothing = no_text false
  items_read margin blank (q ⨟ b) = item_reads margin blank q then items_read margin blank b

-- code that is empty has no tokens
no_code : (ts us : List Token) (c : Code) → c ≡ done → ts ++ us ≡ ts ++ spell.code c ++ us
no_code ts us c h = rw h (ap (λ z. z ++ us) (sym (append-nil ts)))

declared_role_reads : (r : RoleText) → r.code ≡ done → Reads false (layout.declared_role r) (spell.role r)
declared_role_reads r h = same_tokens (no_code (spell.heading r ++ spell.mark m.LBrace ++ spell.all_of spell.declaration r.decls) (spell.mark m.RBrace) r.code h) (heading_reads r then declarations_read r.decls then ends_line closing)

sequential_reads : (Q : SeqProgram) → AllByRecursion (λ r. r.code ≡ done) Q.roles → Reads false (layout.sequential Q) (seq.sequence_spelling Q)
sequential_reads Q h =
    enumerations_read Q.enums then joined_read layout.declared_role spell.role declared_role_reads Q.roles h
    then (word w.KwBegin refl and newline) then items_read (codes "  ") indent Q.body then (word w.KwEnd refl and newline)

-- the tokens of a sequential program's layout are its spelling
pub sequential_is_spelled : (Q : SeqProgram) → IsWritableSequence Q → tokens_of (tokens (layout.sequential Q)) ≡ Ok (seq.sequence_spelling Q)
sequential_is_spelled Q h = whole_read (layout.sequential Q) (seq.sequence_spelling Q) h.legal (sequential_reads Q h.empty)
