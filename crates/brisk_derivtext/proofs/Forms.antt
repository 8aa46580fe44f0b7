-- What stands behind the first word of a line, by this word.
use Rattle.std.proofs.Common.{◌≡◌, true, ℕ, List, ◌++◌, Option, Some, None, refl, sym, ap, ◌∙◌}
use Rattle.brisk_lines.specs.Lines.{Reads}
use Rattle.brisk_lines.specs.Pieces.{IsCut}
use Rattle.brisk_lines.proofs.Cuts.{cut_once}
use Rattle.brisk_text.specs.Values.{Text}
use Rattle.brisk_values.specs.Names.{Name}
use Rattle.brisk_derivation.specs.declared.steps.BasicStep.TheVariants as basic
use Rattle.brisk_derivation.specs.declared.steps.Fact.{Fact}
use Rattle.brisk_derivtext.specs.declared.keyword.Keyword.{Keyword}
use Rattle.brisk_derivtext.specs.declared.keyword.Keyword.TheVariants as keyword
use Rattle.brisk_derivtext.specs.declared.line.Loop.TheVariants.{While, For, Repeat, Gather, Pick}
use Rattle.brisk_derivtext.specs.declared.line.Line.{Line}
use Rattle.brisk_derivtext.specs.declared.line.Line.TheVariants.{Plain, Enter}
use Rattle.brisk_derivtext.specs.Keywords.{keyword_of, keyword_text, is_dropping, is_sent}
use Rattle.brisk_derivtext.specs.Lines.{first_word, line_text, more_words, IsLegal}
use Rattle.brisk_derivtext.specs.Pieces.{fill_text, for_text, message_text, rule_text, tail_text, IsFill, IsFor, IsMessage, IsOf, IsRule}
use Rattle.brisk_derivtext.proofs.Differ.{first_no_space, spaced_begins}
use Rattle.brisk_derivtext.proofs.Keywords.{first_is, same_keyword}

-- a legal line is behind its first word the text of something legal
abbrev HasForm : {A : Type 0} → (A → Text) → (A → Type 0) → Line → Type 0
HasForm {A} text legal l = IsLegal l → (x : A) × legal x × (tail_text l ≡ text x)

sent_form : (l : Line) → is_sent (keyword_of l) ≡ true → HasForm message_text IsMessage l
sent_form (Plain (basic.Pass t u c)) e h = ((t, u, c), h, refl)
sent_form (Plain (basic.Take t u c)) e h = ((t, u, c), h, refl)
sent_form (Plain (basic.Assign t)) e h = absurd (let w = e in cc)
sent_form (Plain (basic.Known t)) e h = absurd (let w = e in cc)
sent_form (Plain (basic.Fill t u c n)) e h = absurd (let w = e in cc)
sent_form (Enter (While t F)) e h = absurd (let w = e in cc)
sent_form (Enter (For t ts F)) e h = absurd (let w = e in cc)
sent_form (Enter (Repeat t F)) e h = absurd (let w = e in cc)
sent_form (Enter (Gather t F)) e h = absurd (let w = e in cc)
sent_form (Enter (Pick t F)) e h = absurd (let w = e in cc)
sent_form l e h = absurd (let w = e in cc)

dropping_form : (l : Line) → is_dropping (keyword_of l) ≡ true → HasForm rule_text IsRule l
dropping_form (Enter (While t F)) e h = ((t, F), h, refl)
dropping_form (Enter (Repeat t F)) e h = ((t, F), h, refl)
dropping_form (Enter (Gather t F)) e h = ((t, F), h, refl)
dropping_form (Enter (Pick t F)) e h = ((t, F), h, refl)
dropping_form (Enter (For t ts F)) e h = absurd (let w = e in cc)
dropping_form (Plain (basic.Pass t u c)) e h = absurd (let w = e in cc)
dropping_form (Plain (basic.Take t u c)) e h = absurd (let w = e in cc)
dropping_form (Plain (basic.Assign t)) e h = absurd (let w = e in cc)
dropping_form (Plain (basic.Known t)) e h = absurd (let w = e in cc)
dropping_form (Plain (basic.Fill t u c n)) e h = absurd (let w = e in cc)
dropping_form l e h = absurd (let w = e in cc)

fill_form : (l : Line) → keyword_of l ≡ keyword.Fill → HasForm fill_text IsFill l
fill_form (Plain (basic.Fill t u c n)) e h = ((t, u, c, n), h, refl)
fill_form (Plain (basic.Pass t u c)) e h = absurd (let w = e in cc)
fill_form (Plain (basic.Take t u c)) e h = absurd (let w = e in cc)
fill_form (Plain (basic.Assign t)) e h = absurd (let w = e in cc)
fill_form (Plain (basic.Known t)) e h = absurd (let w = e in cc)
fill_form (Enter (While t F)) e h = absurd (let w = e in cc)
fill_form (Enter (For t ts F)) e h = absurd (let w = e in cc)
fill_form (Enter (Repeat t F)) e h = absurd (let w = e in cc)
fill_form (Enter (Gather t F)) e h = absurd (let w = e in cc)
fill_form (Enter (Pick t F)) e h = absurd (let w = e in cc)
fill_form l e h = absurd (let w = e in cc)

for_form : (l : Line) → keyword_of l ≡ keyword.For → HasForm for_text IsFor l
for_form (Enter (For t ts F)) e h = ((t, ts, F), h, refl)
for_form (Enter (While t F)) e h = absurd (let w = e in cc)
for_form (Enter (Repeat t F)) e h = absurd (let w = e in cc)
for_form (Enter (Gather t F)) e h = absurd (let w = e in cc)
for_form (Enter (Pick t F)) e h = absurd (let w = e in cc)
for_form (Plain (basic.Pass t u c)) e h = absurd (let w = e in cc)
for_form (Plain (basic.Take t u c)) e h = absurd (let w = e in cc)
for_form (Plain (basic.Assign t)) e h = absurd (let w = e in cc)
for_form (Plain (basic.Known t)) e h = absurd (let w = e in cc)
for_form (Plain (basic.Fill t u c n)) e h = absurd (let w = e in cc)
for_form l e h = absurd (let w = e in cc)

-- where nothing legal has the bytes, no such line has them
module _ {A : Type 0} (text : A → Text) (legal : A → Type 0) (b : Text) (none : (x : A) → legal x → b ≡ text x → ⊥) where
  no_form : (l : Line) → HasForm text legal l → IsLegal l → b ≡ tail_text l → ⊥
  no_form l form h e = let x = form h in none x.0 x.1 (e ∙ x.2)

pub none_sent : (k : Keyword) (b : Text) → is_sent k ≡ true → ((x : Name × Name × Name) → IsMessage x → b ≡ message_text x → ⊥) → (l : Line) → IsOf k l → b ≡ tail_text l → ⊥
none_sent k b is none l h e = no_form message_text IsMessage b none l (sent_form l (ap is_sent h.1 ∙ is)) h.0 e

pub none_dropping : (k : Keyword) (b : Text) → is_dropping k ≡ true → ((x : Name × List Fact) → IsRule x → b ≡ rule_text x → ⊥) → (l : Line) → IsOf k l → b ≡ tail_text l → ⊥
none_dropping k b is none l h e = no_form rule_text IsRule b none l (dropping_form l (ap is_dropping h.1 ∙ is)) h.0 e

pub none_filled : (b : Text) → ((x : Name × Name × Name × ℕ) → IsFill x → b ≡ fill_text x → ⊥) → (l : Line) → IsOf keyword.Fill l → b ≡ tail_text l → ⊥
none_filled b none l h e = no_form fill_text IsFill b none l (fill_form l h.1) h.0 e

pub none_owned : (b : Text) → ((x : Name × List Name × List Fact) → IsFor x → b ≡ for_text x → ⊥) → (l : Line) → IsOf keyword.For l → b ≡ tail_text l → ⊥
none_owned b none l h e = no_form for_text IsFor b none l (for_form l h.1) h.0 e

-- ---- lines are cut at the first space

line_cut : (b word rest : Text) → IsCut 32 b word rest → (l : Line) → IsLegal l → b ≡ line_text l → (word ≡ keyword_text (keyword_of l)) × (rest ≡ tail_text l)
line_cut b word rest cut l h e =
    let r = cut_once 32 word rest (first_word l) (tail_text l) cut.front_lacks cut.rest_begins (first_no_space l) (spaced_begins (more_words l)) (sym cut.whole ∙ e) in
    (r.0 ∙ first_is l, r.1)

pub no_keyword : (b word rest : Text) → IsCut 32 b word rest → ((k : Keyword) → Unit {0} → word ≡ keyword_text k → ⊥) → (l : Line) → IsLegal l → b ≡ line_text l → ⊥
no_keyword b word rest cut none l h e = none (keyword_of l) tt (line_cut b word rest cut l h e).0

pub line_read : (b word rest : Text) (k : Keyword) (o : Option Line) → IsCut 32 b word rest → word ≡ keyword_text k → Reads tail_text (IsOf k) rest o → Reads line_text IsLegal b o
line_read b word rest k None cut w r = λ l h e.
    let two = line_cut b word rest cut l h e in
    r l (h, same_keyword (keyword_of l) k (sym two.0 ∙ w)) two.1
line_read b word rest k (Some l) cut w r =
    (cut.whole ∙ ap (λ z. z ++ rest) (w ∙ ap keyword_text (sym r.1.1) ∙ sym (first_is l)) ∙ ap (λ z. first_word l ++ z) r.0, r.1.0)
