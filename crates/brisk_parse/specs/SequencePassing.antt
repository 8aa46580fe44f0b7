-- Where a sequential program passes a limit first.
use Rattle.std.specs.Prelude.{ℕ, ◌-◌, List, ◌++◌}
use Rattle.brisk_lex.specs.declared.token.Mark.TheVariants as m
use Rattle.brisk_lex.specs.declared.token.Token.{Token}
use Rattle.brisk_lex.specs.declared.token.Word.TheVariants as w
use Rattle.brisk_seq.specs.Items.{Item, Pass, Fill, Take, If, While, For, ForAny, Pick, Repeat, Items, nothing, ◌⨟◌}
use Rattle.brisk_seq.specs.declared.tree.SeqProgram.{SeqProgram}
use Rattle.brisk_syntax.specs.Roles.{RoleText}
use Rattle.brisk_parse.specs.Limits.{Limits}
use Rattle.brisk_parse.specs.Passing.{Passing, Nowhere, behind, or_behind, all_of, expression, expressions, variables, block, counted, declarations, enumerations}
use Rattle.brisk_parse.specs.SequenceSpelling as spell_item
use Rattle.brisk_parse.specs.SequenceSpelling.{at_process, box, items_in, count_items}
use Rattle.brisk_parse.specs.Spelling as spell
use Rattle.brisk_parse.specs.Spelling.{mark, word, name, names, braced}

-- what stands in front of a process's part in brackets
abbrev pub opened : List Token
opened = mark m.Dot ++ mark m.LParen

-- an item, and items, where d blocks may nest, and n items may begin within the item or among the items
abbrev mutual
  pub item : Limits → ℕ → ℕ → Item → Passing
  item l d n (Pass q xs p es) = behind (name q ++ opened) (or_behind (variables l xs) (names xs) (behind (mark m.RParen ++ mark m.Assign ++ name p ++ opened) (expressions l es)))
  item l d n (Fill x p q es) = behind (box x p q ++ mark m.Assign ++ name p ++ opened) (expressions l es)
  item l d n (Take q xs x p) = behind (name q ++ opened) (variables l xs)
  item l d n (If p e a b) =
      behind (word w.KwIf ++ name p ++ opened) (or_behind (expression l e) (spell.expression e) (behind (mark m.RParen)
      (or_behind (block d (items l (d - 1) n a)) (braced (spell_item.items a)) (behind (word w.KwElse) (block d (items l (d - 1) (n - count_items a) b))))))
  item l d n (While p e b) = behind (word w.KwWhile ++ name p ++ opened) (or_behind (expression l e) (spell.expression e) (behind (mark m.RParen) (block d (items l (d - 1) n b))))
  item l d n (For s b) = behind (word w.KwFor ++ name s) (block d (items l (d - 1) n b))
  item l d n (ForAny s b) = behind (word w.KwFor ++ word w.KwAny ++ name s) (block d (items l (d - 1) n b))
  item l d n (Pick s b) = behind (word w.KwPick ++ name s) (block d (items l (d - 1) n b))
  item l d n (Repeat s b) = behind (word w.KwRepeat ++ name s) (block d (items l (d - 1) n b))

  pub items : Limits → ℕ → ℕ → Items → Passing
  items l d n nothing = Nowhere
  items l d n (q ⨟ b) = or_behind (counted n (λ n. item l d n q)) (spell_item.item q) (items l d (n - items_in q) b)

-- a role, which has declarations alone
abbrev pub outline : Limits → RoleText → Passing
outline l r = behind (spell.heading r ++ mark m.LBrace) (declarations l r)

-- a sequential program
abbrev pub sequence : Limits → SeqProgram → Passing
sequence l P =
    enumerations l P.enums (or_behind (all_of (λ _ r. outline l r) (λ _. 0) spell.role l.roles 0 P.roles) (spell.all_of spell.role P.roles)
    (behind (word w.KwBegin) (items l l.nesting l.statements P.body)))
