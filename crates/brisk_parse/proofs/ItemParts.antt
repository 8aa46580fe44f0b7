-- How items begin, and how their tokens group as they are read.
use Rattle.std.proofs.Common.{◌≡◌, ℕ, zero, suc, ◌≤◌, true, false, List, [], ◌∷◌, ◌++◌, Ok, refl, ap, ◌∙◌, append_assoc, arith}
use Rattle.std.proofs.lemmas.Bool.{le-leb}
use Rattle.brisk_values.specs.Names.{Name}
use Rattle.brisk_lex.specs.declared.token.Mark.TheVariants as m
use Rattle.brisk_lex.specs.declared.token.Word.TheVariants as w
use Rattle.brisk_lex.specs.declared.token.Token.{Token}
use Rattle.brisk_lex.specs.declared.token.Token.TheVariants as t
use Rattle.brisk_seq.specs.Items.{Item, Pass, Fill, Take, If, While, For, ForAny, Pick, Repeat, Items, nothing, ◌⨟◌}
use Rattle.brisk_syntax.specs.Roles.{RoleText}
use Rattle.brisk_parse.specs.Declarations.{begins_enumeration}
use Rattle.brisk_parse.specs.Input.{at, first}
use Rattle.brisk_parse.specs.Limits.{most_box}
use Rattle.brisk_parse.specs.Outcomes.{Parser}
use Rattle.brisk_parse.specs.Reading.{many}
use Rattle.brisk_parse.specs.Sequences.{box_number, begins_item}
use Rattle.brisk_parse.specs.SequenceSpelling.{LevelledItem, LevelledItems, LevelledOutline, LevelledSequence, items_in, count_items, ItemWithin, ItemsWithin, SequenceWithin, DenotesSequence, sequence_spelling}
use Rattle.brisk_parse.specs.SequenceSpelling as spell_item
use Rattle.brisk_parse.specs.Spelling as spell
use Rattle.brisk_parse.proofs.ProgramParts.{heading_starts}

pub box_only : (n : ℕ) (k : List Token) (r c : ℕ) → n ≤ most_box → box_number (at (t.Num n ∷ k) r c) ≡ Ok (n, at k r c)
unfolding box_number
box_only n k r c h = rw (le-leb n most_box h) refl

-- what belongs to a process, in brackets, and then k
abbrev pub bracketed : List Token → List Token → List Token
bracketed ts k = t.Mark m.Dot ∷ t.Mark m.LParen ∷ (ts ++ (t.Mark m.RParen ∷ k))

abbrev pub braced : Items → List Token → List Token
braced b k = t.Mark m.LBrace ∷ (spell_item.items b ++ (t.Mark m.RBrace ∷ k))

regroup2 : (a b c k : List Token) → a ++ b ++ c ++ k ≡ a ++ (b ++ (c ++ k))
regroup2 a b c k = simp append_assoc refl

regroup5 : (a b c d e k : List Token) → a ++ b ++ c ++ d ++ e ++ k ≡ a ++ (b ++ (c ++ (d ++ (e ++ k))))
regroup5 a b c d e k = simp append_assoc refl

pub pass_parts : (xs es k : List Token) (q p : Name) → spell_item.at_process q xs ++ spell.mark m.Assign ++ spell_item.at_process p es ++ spell.mark m.Semi ++ k ≡ t.Name q ∷ bracketed xs (t.Mark m.Assign ∷ t.Name p ∷ bracketed es (t.Mark m.Semi ∷ k))
pass_parts xs es k q p =
    ap (λ z. t.Name q ∷ t.Mark m.Dot ∷ t.Mark m.LParen ∷ z) (regroup5 xs (spell.mark m.RParen) (spell.mark m.Assign) (spell_item.at_process p es) (spell.mark m.Semi) k)
    ∙ ap (λ z. t.Name q ∷ bracketed xs (t.Mark m.Assign ∷ t.Name p ∷ t.Mark m.Dot ∷ t.Mark m.LParen ∷ z)) (append_assoc es (spell.mark m.RParen) (t.Mark m.Semi ∷ k))

pub fill_parts : (es k : List Token) (n : ℕ) (p q : Name) → spell_item.box n p q ++ spell.mark m.Assign ++ spell_item.at_process p es ++ spell.mark m.Semi ++ k ≡ t.Word w.KwBox ∷ t.Num n ∷ t.Mark m.LParen ∷ t.Name p ∷ t.Word w.KwTo ∷ t.Name q ∷ t.Mark m.RParen ∷ t.Mark m.Assign ∷ t.Name p ∷ bracketed es (t.Mark m.Semi ∷ k)
fill_parts es k n p q = simp append_assoc refl

pub take_parts : (xs k : List Token) (n : ℕ) (q p : Name) → spell_item.at_process q xs ++ spell.mark m.Assign ++ spell_item.box n p q ++ spell.mark m.Semi ++ k ≡ t.Name q ∷ bracketed xs (t.Mark m.Assign ∷ t.Word w.KwBox ∷ t.Num n ∷ t.Mark m.LParen ∷ t.Name p ∷ t.Word w.KwTo ∷ t.Name q ∷ t.Mark m.RParen ∷ t.Mark m.Semi ∷ k)
take_parts xs k n q p = ap (λ z. t.Name q ∷ t.Mark m.Dot ∷ t.Mark m.LParen ∷ z) (regroup5 xs (spell.mark m.RParen) (spell.mark m.Assign) (spell_item.box n p q) (spell.mark m.Semi) k)

pub while_parts : (e b k : List Token) (p : Name) → spell.word w.KwWhile ++ spell_item.at_process p e ++ spell.braced b ++ k ≡ t.Word w.KwWhile ∷ t.Name p ∷ bracketed e (t.Mark m.LBrace ∷ (b ++ (t.Mark m.RBrace ∷ k)))
while_parts e b k p =
    ap (λ z. t.Word w.KwWhile ∷ t.Name p ∷ t.Mark m.Dot ∷ t.Mark m.LParen ∷ z) (regroup2 e (spell.mark m.RParen) (spell.braced b) k)
    ∙ ap (λ z. t.Word w.KwWhile ∷ t.Name p ∷ bracketed e (t.Mark m.LBrace ∷ z)) (append_assoc b (spell.mark m.RBrace) k)

pub if_parts : (e a b k : List Token) (p : Name) → spell.word w.KwIf ++ spell_item.at_process p e ++ spell.braced a ++ spell.word w.KwElse ++ spell.braced b ++ k ≡ t.Word w.KwIf ∷ t.Name p ∷ bracketed e (t.Mark m.LBrace ∷ (a ++ (t.Mark m.RBrace ∷ t.Word w.KwElse ∷ t.Mark m.LBrace ∷ (b ++ (t.Mark m.RBrace ∷ k)))))
if_parts e a b k p =
    ap (λ z. t.Word w.KwIf ∷ t.Name p ∷ t.Mark m.Dot ∷ t.Mark m.LParen ∷ z) (regroup5 e (spell.mark m.RParen) (spell.braced a) (spell.word w.KwElse) (spell.braced b) k)
    ∙ ap (λ z. t.Word w.KwIf ∷ t.Name p ∷ bracketed e (t.Mark m.LBrace ∷ z)) (append_assoc a (spell.mark m.RBrace) (t.Word w.KwElse ∷ (spell.braced b ++ k)))
    ∙ ap (λ z. t.Word w.KwIf ∷ t.Name p ∷ bracketed e (t.Mark m.LBrace ∷ (a ++ (t.Mark m.RBrace ∷ t.Word w.KwElse ∷ t.Mark m.LBrace ∷ z)))) (append_assoc b (spell.mark m.RBrace) k)

pub counted : (q : Item) → 1 ≤ items_in q
counted (Pass q xs p es) = omega arith
counted (Fill n p q es) = omega arith
counted (Take q xs n p) = omega arith
counted (If p e a b) = omega arith
counted (While p e b) = omega arith
counted (For s b) = omega arith
counted (ForAny s b) = omega arith
counted (Pick s b) = omega arith
counted (Repeat s b) = omega arith

pub item_begins : (q : Item) (k : List Token) → begins_item (first (spell_item.item q ++ k)) ≡ true
item_begins (Pass q xs p es) k = refl
item_begins (Fill n p q es) k = refl
item_begins (Take q xs n p) k = refl
item_begins (If p e a b) k = refl
item_begins (While p e b) k = refl
item_begins (For s b) k = refl
item_begins (ForAny s b) k = refl
item_begins (Pick s b) k = refl
item_begins (Repeat s b) k = refl

pub items_end : (one : Parser Item) (n : ℕ) (k : List Token) (r a : ℕ) → begins_item (first k) ≡ false → many begins_item one nothing (λ q b. q ⨟ b) n (at k r a) ≡ Ok (nothing, at k r a)
unfolding many
items_end one zero k r a h = rw h refl
items_end one (suc n) k r a h = rw h refl

-- the roles, and then the body
pub roles_start : (rs : List RoleText) (k : List Token) → begins_enumeration (first (spell.all_of spell.role rs ++ (t.Word w.KwBegin ∷ k))) ≡ false
roles_start [] k = refl
roles_start (r ∷ rs) k = ap (λ z. begins_enumeration (first z)) (append_assoc (spell.role r) (spell.all_of spell.role rs) (t.Word w.KwBegin ∷ k)) ∙ heading_starts begins_enumeration r.name r.many r.nonempty r.decls r.code (spell.all_of spell.role rs ++ (t.Word w.KwBegin ∷ k)) false refl refl
