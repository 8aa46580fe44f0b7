-- A text is read line by line.
use Rattle.std.proofs.Common.{◌≡◌, ◌+◌, ℕ, Bool, true, false, List, [], ◌∷◌, ◌++◌, length, length-append, Option, Some, None, refl, sym, ap, subst, ◌∙◌, append_assoc, append-nil, arith}
use Rattle.std.specs.Prelude.{Ok, Err, nat_lt, if◌then◌else◌}
use Rattle.std.specs.List.{AllByRecursion}
use Rattle.brisk_lines.specs.Pieces.{IsCut}
use Rattle.brisk_lines.proofs.Cuts.{cut_once}
use Rattle.brisk_text.specs.Values.{Text}
use Rattle.brisk_derivtext.specs.declared.line.Format.{Format}
use Rattle.brisk_derivtext.specs.declared.line.Line.{Line}
use Rattle.brisk_derivtext.specs.Kept.{NoLineBegins, SoFar}
use Rattle.brisk_derivtext.specs.Lines.{line_text, IsLegal, BeginsWith}
use Rattle.brisk_derivtext.specs.Reading.{Reading, start, NoLine, TooLong, next, bounded, read_line, read_all, and_then, IsRead, AtLine, Fails, lines_so_far}
use Rattle.brisk_derivtext.specs.Texts.{text_of_lines, most_bytes}
use Rattle.brisk_derivtext.proofs.Appended.{texts_append}
use Rattle.brisk_derivtext.proofs.Differ.{line_unended}
use Rattle.brisk_derivtext.proofs.Once.{same_ok, first_read}
use Rattle.brisk_derivtext.proofs.Written.{next_has, some_bounded}

-- ---- the line in front

pub no_end : (rest bytes end : Text) → IsCut 10 rest bytes end → ((more : Text) → end ≡ 10 ∷ more → ⊥) → NoLineBegins rest
no_end rest bytes end cut clash l m b =
    clash m (cut_once 10 bytes end (line_text l) (10 ∷ m) cut.front_lacks cut.rest_begins (line_unended l b.0) refl (sym cut.whole ∙ b.1)).1

-- ---- one line more

pub read_more : (ls : List Line) (l : Line) (r h v : Reading) → read_all ls r ≡ Ok h → read_line h l ≡ Ok v → read_all (ls ++ l ∷ []) r ≡ Ok v
read_more [] l r h v e p = ap (λ z. and_then (read_line z l) (read_all [])) (same_ok e) ∙ ap (λ z. and_then z (read_all [])) p
read_more (x ∷ ls) l r h v e p =
    let one = first_read (read_line r x) (read_all ls) h e in
    ap (λ z. and_then z (read_all (ls ++ l ∷ []))) one.1 ∙ read_more ls l one.0 h v one.2 p

pub legal_more : (ls : List Line) (l : Line) → AllByRecursion IsLegal ls → IsLegal l → AllByRecursion IsLegal (ls ++ l ∷ [])
legal_more [] l h k = (k, tt)
legal_more (x ∷ ls) l h k = (h.0, legal_more ls l h.1 k)

pub one_more : (before : List Line) (l : Line) (text more : Text) → text ≡ text_of_lines before ++ (line_text l ++ 10 ∷ more) → text ≡ text_of_lines (before ++ l ∷ []) ++ more
one_more before l text more e =
    e
    ∙ ap (λ z. text_of_lines before ++ z) (sym (append_assoc (line_text l) (10 ∷ []) more))
    ∙ sym (append_assoc (text_of_lines before) (line_text l ++ 10 ∷ []) more)
    ∙ ap (λ z. z ++ more) (sym (texts_append before (l ∷ [])))

pub starts : (text : Text) (r : Reading) → r ≡ start → SoFar text text r 0
starts text r e =
    let P : Reading → Type 0 = λ z. SoFar text text z 0 in
    subst P (sym e) (record { before = []; parts = refl; comes = record { legal = tt; read = refl }; lines = refl; format = λ k. absurd (let w = k in cc) })

pub stands : (text rest more : Text) (r v : Reading) (k : ℕ) (l : Line) → SoFar text rest r k → BeginsWith rest l more → read_line r l ≡ Ok v → SoFar text more v (k + 1)
stands text rest more r v k l s b p = record {
  before = s.before ++ l ∷ [];
  parts = one_more s.before l text more (s.parts ∙ ap (λ z. text_of_lines s.before ++ z) b.1);
  comes = record { legal = legal_more s.before l s.comes.legal b.0; read = read_more s.before l start r v s.comes.read p };
  lines = (let e = s.lines in let n = length-append s.before (l ∷ []) in omega arith);
  format = λ z. next_has r v l (some_bounded (next r l) v p);
}

-- ---- where it fails

pub bounded_none : (o : Option Reading) → bounded o ≡ Err NoLine → o ≡ None
bounded_none None e = refl
bounded_none (Some r) e = absurd (by (nat_lt most_bytes (length (text_of_lines (lines_so_far r.body)))) e)
  where
    by : (t : Bool) → (if t then Err TooLong else Ok r) ≡ Err NoLine → ⊥
    by true p = let w = p in cc
    by false p = let w = p in cc

pub not_nothing : (t more : Text) → t ++ 10 ∷ more ≡ [] → ⊥
not_nothing [] more e = let w = e in cc
not_nothing (x ∷ t) more e = let w = e in cc

pub fails_here : (text rest : Text) (r : Reading) (k : ℕ) → SoFar text rest r k → ((r.ended ≡ true) × (rest ≡ []) → ⊥) → ((l : Line) (m : Text) → BeginsWith rest l m → next r l ≡ None) → Fails text (AtLine (k + 1))
fails_here text rest r k s h none =
    record { before = s.before; here = r; rest = rest; parts = s.parts; comes = s.comes; fails = (ap (λ z. z + 1) s.lines, h, none) }

pub no_line_fails : (text rest : Text) (r : Reading) (k : ℕ) → SoFar text rest r k → ((r.ended ≡ true) × (rest ≡ []) → ⊥) → NoLineBegins rest → Fails text (AtLine (k + 1))
no_line_fails text rest r k s h none = fails_here text rest r k s h (λ l m b. absurd (none l m b))

-- ---- the end

pub is_read : (text rest : Text) (r : Reading) (k : ℕ) → SoFar text rest r k → r.ended ≡ true → rest ≡ [] → (f : Format) × IsRead f text r.body.steps
is_read text rest r k s e n =
    let format = s.format e in
    (format.0, record { lines = s.before; last = r; parts = s.parts ∙ ap (λ z. text_of_lines s.before ++ z) n ∙ append-nil (text_of_lines s.before); comes = s.comes; format = format.1; ended = e; steps = refl })
