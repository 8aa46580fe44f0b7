-- The program of a valid derivation of a source is levelled, and its layout's tokens are its spelling.
use Rattle.std.proofs.Common.{◌≡◌, ℕ, ◌≤◌, ◌^◌, Bool, true, false, List, [], ◌∷◌, ◌++◌, map, Ok, refl, subst, arith}
use Rattle.std.specs.List.{AllByRecursion}
use Rattle.brisk_lex.specs.declared.token.Mark.TheVariants as m
use Rattle.brisk_lex.specs.declared.token.Placed.{Placed}
use Rattle.brisk_lex.specs.declared.token.Token.{Token}
use Rattle.brisk_lex.specs.declared.token.Token.TheVariants as t
use Rattle.brisk_lex.specs.declared.token.Word.TheVariants as w
use Rattle.brisk_lex.specs.Spelled.{IsName}
use Rattle.brisk_lex.specs.Tokens.{tokens}
use Rattle.brisk_values.specs.Names.{Name}
use Rattle.brisk_syntax.specs.declared.program.Program.{Program}
use Rattle.brisk_syntax.specs.Roles.{RoleText}
use Rattle.brisk_syntax.specs.Syntax.{Expression, done}
use Rattle.brisk_syntax.specs.WellTyped.{IsProgramWellTyped}
use Rattle.brisk_seq.specs.declared.tree.SeqProgram.{SeqProgram}
use Rattle.brisk_seq.specs.Items.{Item, Pass, Fill, Take, If, While, For, ForAny, Pick, Repeat, Items, nothing, ◌⨟◌}
use Rattle.brisk_parse.specs.Levelled.{Levelled, LevelledRole}
use Rattle.brisk_parse.specs.SequenceSpelling as seq
use Rattle.brisk_parse.specs.SequenceSpelling.{LevelledItem, LevelledItems, LevelledOutline, LevelledSequence, at_process, box}
use Rattle.brisk_parse.specs.Spelling.{all_of, behind_commas, braced, channel, declaration, enumeration, expression, expressions, heading, mark, name, names, role, spelling, word}
use Rattle.brisk_parse.specs.Within.{Denotes}
use Rattle.brisk_print.specs.Layout as layout
use Rattle.brisk_readback.specs.Legal.{AllLegal}
use Rattle.brisk_readback.proofs.ReadSequential.{sequential_is_spelled}
use Rattle.brisk_readback.proofs.Texts.{legal_parts}
use Rattle.brisk_state.specs.Symbolic.{initial}
use Rattle.brisk_derivation.specs.Steps.{Steps}
use Rattle.brisk_rules.specs.Derives.{Valid, sequential, without_code}
use Rattle.brisk_rules.specs.Following.{nothing_follows}
use Rattle.brisk_sound.proofs.Outcomes.{steps_come}
use Rattle.brisk_sound.proofs.Starts.{first_tidy}
use Rattle.brisk_sound.proofs.Top.{valid_is}
use Rattle.brisk_written.specs.Laws.{ValidIsWritten}
use Rattle.brisk_written.specs.Written.{IsTextOf}
use Rattle.brisk_written.proofs.Inside.{InItem, InItems}
use Rattle.brisk_written.proofs.Keeping.{steps_keep}
use Rattle.brisk_written.proofs.Numbered.{steps_small}
use Rattle.brisk_written.proofs.Sources.{IsLegalValue, enums_of, first_inside, legal, role_parts, roles_of, spelling_legal}

-- ---- tokens one after another

joined : (ts us : List Token) → AllLegal ts → AllLegal us → AllLegal (ts ++ us)
joined [] us h g = g
joined (x ∷ ts) us h g = (h.0, joined ts us h.1 g)

names_behind : (xs : List Name) → AllByRecursion IsName xs → AllLegal (behind_commas name xs)
names_behind [] h = tt
names_behind (x ∷ xs) h = (tt, (h.0, names_behind xs h.1))

legal_names : (xs : List Name) → AllByRecursion IsName xs → AllLegal (names xs)
legal_names [] h = tt
legal_names (x ∷ xs) h = (h.0, names_behind xs h.1)

values_behind : (es : List Expression) → AllByRecursion IsLegalValue es → AllLegal (behind_commas expression es)
values_behind [] h = tt
values_behind (e ∷ es) h = (tt, joined (expression e) (behind_commas expression es) h.0.1 (values_behind es h.1))

legal_values : (es : List Expression) → AllByRecursion IsLegalValue es → AllLegal (expressions es)
legal_values [] h = tt
legal_values (e ∷ es) h = joined (expression e) (behind_commas expression es) h.0.1 (values_behind es h.1)

values_levelled : (es : List Expression) → AllByRecursion IsLegalValue es → AllByRecursion Levelled es
values_levelled [] h = tt
values_levelled (e ∷ es) h = (h.0.0, values_levelled es h.1)

at_legal : (p : Name) (ts : List Token) → IsName p → AllLegal ts → AllLegal (at_process p ts)
at_legal p ts n h = (n, (tt, (tt, joined ts (mark m.RParen) h (tt, tt))))

box_legal : (n : ℕ) (p q : Name) → n ≤ 1000000 → IsName p → IsName q → AllLegal (box n p q)
box_legal n p q small h g = (tt, (omega (arith, small), (tt, (h, (tt, (g, (tt, tt)))))))

block_legal : (ts : List Token) → AllLegal ts → AllLegal (braced ts)
block_legal ts h = (tt, joined ts (mark m.RBrace) h (tt, tt))

-- ---- items

-- what is given to a process or a box
given : (ts us : List Token) → AllLegal ts → AllLegal us → AllLegal (ts ++ mark m.Assign ++ us ++ mark m.Semi)
given ts us h g = joined (ts ++ mark m.Assign ++ us) (mark m.Semi) (joined (ts ++ mark m.Assign) us (joined ts (mark m.Assign) h (tt, tt)) g) (tt, tt)

mutual
  item_legal : (q : Item) → InItem legal q → AllLegal (seq.item q)
  item_legal (Pass q xs p es) h = given (at_process q (names xs)) (at_process p (expressions es)) (at_legal q (names xs) h.0 (legal_names xs h.1)) (at_legal p (expressions es) h.2 (legal_values es h.3))
  item_legal (Fill n p q es) h = given (box n p q) (at_process p (expressions es)) (box_legal n p q h.0 h.1 h.2) (at_legal p (expressions es) h.1 (legal_values es h.3))
  item_legal (Take q xs n p) h = given (at_process q (names xs)) (box n p q) (at_legal q (names xs) h.0 (legal_names xs h.1)) (box_legal n p q h.2 h.3 h.0)
  item_legal (If p e a b) h =
      let guard = word w.KwIf ++ at_process p (expression e) in let first = guard ++ braced (seq.items a) in
      joined (first ++ word w.KwElse) (braced (seq.items b))
      (joined first (word w.KwElse) (joined guard (braced (seq.items a)) (tt, at_legal p (expression e) h.0 h.1.1) (block_legal (seq.items a) (items_legal a h.2))) (tt, tt))
      (block_legal (seq.items b) (items_legal b h.3))
  item_legal (While p e b) h = joined (word w.KwWhile ++ at_process p (expression e)) (braced (seq.items b)) (tt, at_legal p (expression e) h.0 h.1.1) (block_legal (seq.items b) (items_legal b h.2))
  item_legal (For s b) h = (tt, (h.0, block_legal (seq.items b) (items_legal b h.1)))
  item_legal (ForAny s b) h = (tt, (tt, (h.0, block_legal (seq.items b) (items_legal b h.1))))
  item_legal (Pick s b) h = (tt, (h.0, block_legal (seq.items b) (items_legal b h.1)))
  item_legal (Repeat s b) h = (tt, (h.0, block_legal (seq.items b) (items_legal b h.1)))

  items_legal : (X : Items) → InItems legal X → AllLegal (seq.items X)
  items_legal nothing h = tt
  items_legal (q ⨟ X) h = joined (seq.item q) (seq.items X) (item_legal q h.0) (items_legal X h.1)

mutual
  item_levelled : (q : Item) → InItem legal q → LevelledItem q
  item_levelled (Pass q xs p es) h = values_levelled es h.3
  item_levelled (Fill n p q es) h = (omega (arith, h.0), values_levelled es h.3)
  item_levelled (Take q xs n p) h = omega (arith, h.2)
  item_levelled (If p e a b) h = (h.1.0, items_levelled a h.2, items_levelled b h.3)
  item_levelled (While p e b) h = (h.1.0, items_levelled b h.2)
  item_levelled (For s b) h = items_levelled b h.1
  item_levelled (ForAny s b) h = items_levelled b h.1
  item_levelled (Pick s b) h = items_levelled b h.1
  item_levelled (Repeat s b) h = items_levelled b h.1

  items_levelled : (X : Items) → InItems legal X → LevelledItems X
  items_levelled nothing h = tt
  items_levelled (q ⨟ X) h = (item_levelled q h.0, items_levelled X h.1)

-- ---- the program

outlines_levelled : (roles : List RoleText) → AllByRecursion LevelledRole roles → AllByRecursion LevelledOutline (map without_code roles)
outlines_levelled [] h = tt
outlines_levelled (r ∷ rs) h = ((h.0.0, refl), outlines_levelled rs h.1)

outlines_empty : (roles : List RoleText) → AllByRecursion (λ r. r.code ≡ done) (map without_code roles)
outlines_empty [] = tt
outlines_empty (r ∷ rs) = (refl, outlines_empty rs)

-- a role without its code
outline_legal : (r : RoleText) → AllLegal (role r) → AllLegal (role (without_code r))
outline_legal r h =
    let p = role_parts r h in let ahead = heading r ++ mark m.LBrace in let declared = ahead ++ all_of declaration r.decls in
    joined (declared ++ []) (mark m.RBrace) (joined declared [] (joined ahead (all_of declaration r.decls) (joined (heading r) (mark m.LBrace) p.heading (tt, tt)) p.decls) tt) (tt, tt)

outlines_legal : (roles : List RoleText) → AllLegal (all_of role roles) → AllLegal (all_of role (map without_code roles))
outlines_legal [] h = tt
outlines_legal (r ∷ rs) h =
    let p = legal_parts (role r) (all_of role rs) h in
    joined (role (without_code r)) (all_of role (map without_code rs)) (outline_legal r p.0) (outlines_legal rs p.1)

sequence_legal : (P : Program) (X : Items) → AllLegal (spelling P) → InItems legal X → AllLegal (seq.sequence_spelling (sequential P X))
sequence_legal P X h x =
    let front = all_of enumeration P.enums ++ all_of role (map without_code P.roles) in let body = front ++ word w.KwBegin ++ seq.items X in
    joined body (word w.KwEnd)
    (joined (front ++ word w.KwBegin) (seq.items X)
    (joined front (word w.KwBegin) (joined (all_of enumeration P.enums) (all_of role (map without_code P.roles)) (enums_of P h) (outlines_legal P.roles (roles_of P h))) (tt, tt))
    (items_legal X x))
    (tt, tt)

pub valid_is_written : ValidIsWritten
valid_is_written source cut P D Q cuts holds typed valid =
    let spelled = spelling_legal source cut P cuts holds in
    let v = valid_is P D Q valid in
    let come = steps_come P 0 nothing_follows D 2 (initial P) v.derived (first_tidy P typed) v.derives in
    let kept = steps_keep legal P nothing_follows D (initial P) v.derived.items v.derived.state (steps_small P 0 nothing_follows D 2 (initial P) v.derived v.derives) (first_inside P spelled holds.levelled.roles) come.takes in
    let levelled : LevelledSequence (sequential P v.derived.items) = record { enums = holds.levelled.enums; roles = outlines_levelled P.roles holds.levelled.roles; body = items_levelled v.derived.items kept.items } in
    subst (λ (R : SeqProgram). IsTextOf (layout.sequential R) R) v.program
    record { levelled = levelled; spelled = sequential_is_spelled (sequential P v.derived.items) record { legal = sequence_legal P v.derived.items spelled kept.items; empty = outlines_empty P.roles } }
