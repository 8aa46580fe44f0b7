-- No line has a byte 10, so where a text begins with a line it is cut in one way.
use Rattle.std.proofs.Common.{◌≡◌, ◌<◌, ◌^◌, ℕ, ℤ, pos, negsuc, suc, true, false, [], ◌∷◌, ◌++◌, Option, Some, None, IfSome, MatchOption, FitsSigned, refl, sym, subst, ◌∙◌, append_assoc, append-nil, arith}
use Rattle.std.specs.Prelude.{codes}
use Rattle.std.specs.Int.{w64}
use Rattle.std.specs.Fmt.{decimal, signed_decimal}
use Rattle.brisk_lex.specs.Spelled.{IsName}
use Rattle.brisk_text.specs.Values.{Text, value_text}
use Rattle.brisk_values.specs.declared.value.Value.{Value}
use Rattle.brisk_values.specs.declared.value.Value.TheVariants as value
use Rattle.brisk_lines.specs.declared.line.Line.{Line}
use Rattle.brisk_lines.specs.declared.line.Line.TheVariants as line
use Rattle.brisk_lines.specs.declared.line.Process.{Process}
use Rattle.brisk_lines.specs.Laws.{LinesAreCut}
use Rattle.brisk_lines.specs.Lines.{sender_text, place_text, process_text, line_text, IsShort, IsLegalProcess, IsLegalValue, IsLegal, BeginsWith}
use Rattle.brisk_lines.specs.Pieces.{Lacks}
use Rattle.brisk_lines.proofs.Cuts.{cut_once}
use Rattle.brisk_lines.proofs.Decimals.{short}
use Rattle.brisk_lines.proofs.Differ.{lines_differ}
use Rattle.brisk_lines.proofs.Plain.{both_lack, decimal_lacks, name_lacks, process_lacks}

name_unended : (x : Text) → IsName x → Lacks 10 x
name_unended = name_lacks 10 refl (omega arith)

number_unended : (n : ℕ) → n < 2 ^ 64 → Lacks 10 (decimal n)
number_unended = decimal_lacks 10 (omega arith)

process_unended : (p : Process) → IsLegalProcess p → Lacks 10 (process_text p)
process_unended = process_lacks 10 refl (omega arith)

integer_unended : (n : ℤ) → FitsSigned w64 n → Lacks 10 (signed_decimal n)
integer_unended (pos n) h = number_unended n (let s = short (pos n) h in omega arith)
integer_unended (negsuc n) h = both_lack 10 (codes "-") (decimal (suc n)) refl (number_unended (suc n) (let s = short (negsuc n) h in omega arith))

value_unended : (v : Value) → IsLegalValue v → Lacks 10 (value_text v)
value_unended (value.Int n) h = integer_unended n h
value_unended (value.Bool true) h = refl
value_unended (value.Bool false) h = refl
value_unended (value.Tag e x) h = both_lack 10 (e ++ codes ".") x (both_lack 10 e (codes ".") (name_unended e h.0) refl) (name_unended x h.1)

sender_unended : (q : Option Process) → IfSome q IsLegalProcess → Lacks 10 (sender_text q)
sender_unended None h = refl
sender_unended (Some q) h = both_lack 10 (codes " from ") (process_text q) refl (process_unended q h)

place_unended : (k : Option ℕ) → IfSome k IsShort → Lacks 10 (place_text k)
place_unended None h = refl
place_unended (Some k) h = both_lack 10 (codes " at ") (decimal k) refl (number_unended k (omega arith))

-- no line has a byte 10
pub line_unended : (l : Line) → IsLegal l → Lacks 10 (line_text l)
line_unended line.Schedule h = refl
line_unended line.Choices h = refl
line_unended (line.Size s n) h =
    both_lack 10 (codes "size " ++ s ++ codes " ") (decimal n)
    (both_lack 10 (codes "size " ++ s) (codes " ") (both_lack 10 (codes "size ") s refl (name_unended s h.0)) refl)
    (let less = h.1 in number_unended n (omega arith))
line_unended (line.Input p x v) h =
    both_lack 10 (codes "input " ++ process_text p ++ codes "." ++ x ++ codes " = ") (value_text v)
    (both_lack 10 (codes "input " ++ process_text p ++ codes "." ++ x) (codes " = ")
    (both_lack 10 (codes "input " ++ process_text p ++ codes ".") x
    (both_lack 10 (codes "input " ++ process_text p) (codes ".") (both_lack 10 (codes "input ") (process_text p) refl (process_unended p h.0)) refl)
    (name_unended x h.1)) refl)
    (value_unended v h.2)
line_unended (line.Event p q k) h =
    both_lack 10 (codes "event " ++ process_text p ++ sender_text q) (place_text k)
    (both_lack 10 (codes "event " ++ process_text p) (sender_text q) (both_lack 10 (codes "event ") (process_text p) refl (process_unended p h.0)) (sender_unended q h.1))
    (place_unended k h.2)
line_unended (line.Turns n) h = both_lack 10 (codes "turns ") (decimal n) refl (number_unended n h)
line_unended (line.Choose n) h = both_lack 10 (codes "choose ") (decimal n) refl (number_unended n (omega arith))
line_unended line.End h = refl

-- the text of a line and what stands behind, cut once
ended : (l : Line) (more : Text) → line_text l ++ codes "\n" ++ more ≡ line_text l ++ 10 ∷ more
ended l more = append_assoc (line_text l) (codes "\n") more

pub lines_are_cut : LinesAreCut
lines_are_cut l m a b h k e =
    let s = cut_once 10 (line_text l) (10 ∷ a) (line_text m) (10 ∷ b) (line_unended l h) refl (line_unended m k) refl (sym (ended l a) ∙ e ∙ ended m b) in
    let behind : a ≡ b = (let t = s.1 in cc) in
    (lines_differ l m h k s.0, behind)

-- a text that is cut at the first byte 10 begins with no line but the one in front
pub front_line : (text front rest : Text) → Lacks 10 front → text ≡ front ++ 10 ∷ rest → (l : Line) (more : Text) → IsLegal l → text ≡ line_text l ++ codes "\n" ++ more → front ≡ line_text l
front_line text front rest lacks whole l more h e =
    (cut_once 10 front (10 ∷ rest) (line_text l) (10 ∷ more) lacks refl (line_unended l h) refl (sym whole ∙ e ∙ ended l more)).0

-- a text without byte 10 begins with no line
pub no_front : (text : Text) → Lacks 10 text → (l : Line) (more : Text) → IsLegal l → text ≡ line_text l ++ codes "\n" ++ more → ⊥
no_front text lacks l more h e =
    let s = cut_once 10 text [] (line_text l) (10 ∷ more) lacks tt (line_unended l h) refl (sym (nil text) ∙ e ∙ ended l more) in
    let t = s.1 in cc
  where
    nil : (x : Text) → x ≡ x ++ []
    nil x = sym (append-nil x)

-- where nothing is answered, the text begins with no line
pub nothing_first : {R : Type 0} (Q : R → Type 0) (text : Text) (r : Option R) → r ≡ None → ((l : Line) (more : Text) → BeginsWith text l more → ⊥) → MatchOption r ((l : Line) (more : Text) → BeginsWith text l more → ⊥) Q
nothing_first {R} Q text r e none = subst (λ (o : Option R). MatchOption o ((l : Line) (more : Text) → BeginsWith text l more → ⊥) Q) (sym e) none
