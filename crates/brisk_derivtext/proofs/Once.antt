-- A text is read in one way, or fails in one way.
use Rattle.std.proofs.Common.{◌≡◌, true, List, [], ◌∷◌, ◌++◌, Some, None, refl, sym, ap, subst, ◌∙◌, append_assoc, append-nil}
use Rattle.std.specs.Prelude.{Result, Ok, Err}
use Rattle.std.specs.List.{AllByRecursion}
use Rattle.brisk_text.specs.Values.{Text}
use Rattle.brisk_derivtext.specs.declared.line.Line.{Line}
use Rattle.brisk_derivtext.specs.Lines.{line_text, IsLegal, BeginsWith}
use Rattle.brisk_derivtext.specs.Laws.{FailsOnce, ReadOnce, ReadStands}
use Rattle.brisk_derivtext.specs.Reading.{Reading, start, next, Trouble, NoLine, TooLong, bounded, and_then, read_line, read_all, TextFault, AtLine, TooLarge, FailsBehind}
use Rattle.brisk_derivtext.specs.Texts.{text_of_lines}
use Rattle.brisk_derivtext.proofs.Differ.{lines_are_cut}

abbrev pub same_result : Result Reading Trouble → Result Reading Trouble → Type 0
same_result x y = x ≡ y

-- no line that stands next is read
abbrev pub Stops : Reading → Text → Type 0
Stops h rest = (l : Line) (more : Text) (v : Reading) → BeginsWith rest l more → read_line h l ≡ Ok v → ⊥

pub same_ok : {u v : Reading} → same_result (Ok u) (Ok v) → u ≡ v
same_ok e = let k = e in cc

pub no_ok : {v : Reading} {t : Trouble} → Err t ≡ Ok v → ⊥
no_ok e = let w = e in cc

-- what is read first
pub first_read : (x : Result Reading Trouble) (go : Reading → Result Reading Trouble) (k : Reading) → and_then x go ≡ Ok k → (v : Reading) × (x ≡ Ok v) × (go v ≡ Ok k)
first_read (Ok v) go k e = (v, refl, e)
first_read (Err t) go k e = absurd (no_ok e)

pub behind : (l : Line) (ls : List Line) (a : Text) → text_of_lines (l ∷ ls) ++ a ≡ line_text l ++ 10 ∷ (text_of_lines ls ++ a)
behind l ls a = append_assoc (line_text l) (10 ∷ text_of_lines ls) a

same_before : (ls ms : List Line) (r h k : Reading) (a b : Text) → AllByRecursion IsLegal ls → AllByRecursion IsLegal ms → text_of_lines ls ++ a ≡ text_of_lines ms ++ b → read_all ls r ≡ Ok h → read_all ms r ≡ Ok k → Stops h a → Stops k b → (ls ≡ ms) × (a ≡ b) × (h ≡ k)
same_before [] [] r h k a b f g e p q s t = (refl, e, sym (same_ok p) ∙ same_ok q)
same_before [] (m ∷ ms) r h k a b f g e p q s t =
    let one = first_read (read_line r m) (read_all ms) k q in
    absurd (s m (text_of_lines ms ++ b) one.0 (g.0, e ∙ behind m ms b) (subst (λ (z : Reading). read_line z m ≡ Ok one.0) (same_ok p) one.1))
same_before (l ∷ ls) [] r h k a b f g e p q s t =
    let one = first_read (read_line r l) (read_all ls) h p in
    absurd (t l (text_of_lines ls ++ a) one.0 (f.0, sym e ∙ behind l ls a) (subst (λ (z : Reading). read_line z l ≡ Ok one.0) (same_ok q) one.1))
same_before (l ∷ ls) (m ∷ ms) r h k a b f g e p q s t =
    let c = lines_are_cut l m (text_of_lines ls ++ a) (text_of_lines ms ++ b) f.0 g.0 (sym (behind l ls a) ∙ e ∙ behind m ms b) in
    let one = first_read (read_line r l) (read_all ls) h p in
    let two = first_read (read_line r m) (read_all ms) k q in
    let same : two.0 ≡ one.0 = same_ok (sym two.1 ∙ ap (read_line r) (sym c.0) ∙ one.1) in
    let more = same_before ls ms one.0 h k a b f.1 g.1 c.1 one.2 (subst (λ (z : Reading). read_all ms z ≡ Ok k) same two.2) s t in
    (λ i. c.0 i ∷ more.0 i, more.1, more.2)

-- ---- faults

refused_stops : (h : Reading) (l : Line) (v : Reading) → next h l ≡ None → read_line h l ≡ Ok v → ⊥
refused_stops h l v e p = no_ok (sym (ap bounded e) ∙ p)

pub same_begins : (rest : Text) (l m : Line) (a b : Text) → BeginsWith rest l a → BeginsWith rest m b → l ≡ m
same_begins rest l m a b p q = (lines_are_cut l m a b p.0 q.0 (sym p.1 ∙ q.1)).0

long_stops : (h : Reading) (rest : Text) (m : Line) (b : Text) → BeginsWith rest m b → read_line h m ≡ Err TooLong → Stops h rest
long_stops h rest m b q e l more v p r = no_ok (sym e ∙ ap (read_line h) (sym (same_begins rest l m more b p q)) ∙ r)

fault_stops : (ls : List Line) (h : Reading) (rest : Text) (f : TextFault) → FailsBehind ls h rest f → Stops h rest
fault_stops ls h rest (AtLine k) f = λ l more v p e. refused_stops h l v (f.2 l more p) e
fault_stops ls h rest (TooLarge k) f = long_stops h rest f.1 f.2 f.3 f.4

no_begin : (l : Line) (more : Text) → BeginsWith [] l more → ⊥
no_begin l more p = inner (line_text l) p.1
  where
    inner : (a : Text) → [] ≡ a ++ 10 ∷ more → ⊥
    inner [] e = let w = e in cc
    inner (x ∷ a) e = let w = e in cc

nothing_stops : (h : Reading) (rest : Text) → rest ≡ [] → Stops h rest
nothing_stops h rest e l more v p q = no_begin l more (p.0, sym e ∙ p.1)

refused_so : (h : Reading) (l : Line) → next h l ≡ None → read_line h l ≡ Err TooLong → ⊥
refused_so h l e p = let wrong : same_result (Err NoLine) (Err TooLong) = sym (ap bounded e) ∙ p in cc

same_fault : (ls : List Line) (h : Reading) (rest : Text) (e f : TextFault) → FailsBehind ls h rest e → FailsBehind ls h rest f → e ≡ f
same_fault ls h rest (AtLine j) (AtLine k) p q = ap AtLine (p.0 ∙ sym q.0)
same_fault ls h rest (TooLarge j) (TooLarge k) p q = ap TooLarge (p.0 ∙ sym q.0)
same_fault ls h rest (AtLine j) (TooLarge k) p q = absurd (refused_so h q.1 (p.2 q.1 q.2 q.3) q.4)
same_fault ls h rest (TooLarge j) (AtLine k) p q = absurd (refused_so h p.1 (q.2 p.1 p.2 p.3) p.4)

pub fails_once : FailsOnce
fails_once text e f p q =
    let s = same_before p.before q.before start p.here q.here p.rest q.rest p.comes.legal q.comes.legal (sym p.parts ∙ q.parts) p.comes.read q.comes.read (fault_stops p.before p.here p.rest e p.fails) (fault_stops q.before q.here q.rest f q.fails) in
    same_fault p.before p.here p.rest e f p.fails (moved (sym s.0) (sym s.2) (sym s.1) q.fails)
  where
    moved : {ls ms : List Line} {h k : Reading} {a b : Text} → ls ≡ ms → h ≡ k → a ≡ b → FailsBehind ls h a f → FailsBehind ms k b f
    moved {ls} {ms} {h} {k} {a} {b} x y z w = subst (λ (c : Text). FailsBehind ms k c f) z (subst (λ (j : Reading). FailsBehind ms j a f) y (subst (λ (n : List Line). FailsBehind n h a f) x w))

-- ---- texts that are read

whole : (x text : Text) → text ≡ x → x ++ [] ≡ text
whole x text e = append-nil x ∙ sym e

pub read_stands : ReadStands
read_stands text f D fault p q =
    let s = same_before p.lines q.before start p.last q.here [] q.rest p.comes.legal q.comes.legal (whole (text_of_lines p.lines) text p.parts ∙ q.parts) p.comes.read q.comes.read (nothing_stops p.last [] refl) (fault_stops q.before q.here q.rest fault q.fails) in
    falls q.before q.here q.rest fault (subst (λ (h : Reading). h.ended ≡ true) s.2 p.ended) (sym s.1) q.fails
  where
    falls : (ls : List Line) (h : Reading) (a : Text) (e : TextFault) → h.ended ≡ true → a ≡ [] → FailsBehind ls h a e → ⊥
    falls ls h a (AtLine k) t z w = w.1 (t, z)
    falls ls h a (TooLarge k) t z w = no_begin w.1 w.2 (w.3.0, sym z ∙ w.3.1)

pub same_some : {A : Type 0} {x y : A} → Some x ≡ Some y → x ≡ y
same_some e = cc

pub read_once : ReadOnce
read_once text f g D E p q =
    let s = same_before p.lines q.lines start p.last q.last [] [] p.comes.legal q.comes.legal (whole (text_of_lines p.lines) text p.parts ∙ sym (whole (text_of_lines q.lines) text q.parts)) p.comes.read q.comes.read (nothing_stops p.last [] refl) (nothing_stops q.last [] refl) in
    (same_some (sym p.format ∙ ap (λ (h : Reading). h.format) s.2 ∙ q.format), sym p.steps ∙ ap (λ (h : Reading). h.body.steps) s.2 ∙ q.steps)
