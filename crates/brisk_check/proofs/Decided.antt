-- Each text is read or fails; so what the checker tells holds.
use Rattle.std.proofs.Common.{◌≡◌, ◌≤◌, ℕ, zero, suc, ◌+◌, ◌⊎◌, inl, inr, Bool, true, false, List, [], ◌∷◌, ◌++◌, length, length-append, Option, Some, None, refl, sym, ap, subst, ◌∙◌, append-nil, arith}
use Rattle.std.specs.Prelude.{Result, Ok, Err}
use Rattle.brisk_lines.specs.Lines.{Reads}
use Rattle.brisk_lines.specs.Pieces.{Lacks}
use Rattle.brisk_lines.proofs.Cuts.{cut_once}
use Rattle.brisk_text.specs.Values.{Text}
use Rattle.brisk_derivation.specs.Steps.{Steps}
use Rattle.brisk_derivtext.specs.declared.line.Format.{Format}
use Rattle.brisk_derivtext.specs.declared.line.Line.{Line}
use Rattle.brisk_derivtext.specs.Lines.{line_text, IsLegal, BeginsWith}
use Rattle.brisk_derivtext.specs.Reading.{Reading, start, Trouble, NoLine, TooLong, next, read_line, ComesTo, IsRead, TextFault, AtLine, TooLarge, Fails}
use Rattle.brisk_derivtext.specs.Texts.{text_of_lines}
use Rattle.brisk_derivtext.proofs.Differ.{line_unended}
use Rattle.brisk_derivtext.proofs.Once.{same_begins}
use Rattle.brisk_derivtext.proofs.Onward.{bounded_none, legal_more, not_nothing, one_more, read_more}
use Rattle.brisk_derivtext.proofs.Written.{HasFormat, next_has, some_bounded}
use Rattle.brisk_check.specs.Checking.{Reader, verdict, Verdict}
use Rattle.brisk_check.specs.Laws.{IsReader, ToldFaultHolds, GivenVerdictHolds}
use Rattle.brisk_check.proofs.Fed.{first_end, verdict_is_given, fault_is_told}

-- a text that is read, or that fails
abbrev Decided : Text → Type 0
Decided text = ((f : Format) × (D : Steps) × IsRead f text D) ⊎ ((fault : TextFault) × Fails text fault)

-- the line in front, where bytes are cut at the first byte 10
front : (rest t more : Text) → Lacks 10 t → rest ≡ t ++ 10 ∷ more → (l : Line) (m : Text) → BeginsWith rest l m → t ≡ line_text l
front rest t more lacks e l m b = (cut_once 10 t (10 ∷ more) (line_text l) (10 ∷ m) lacks refl (line_unended l b.0) refl (sym e ∙ b.1)).0

no_front : (rest : Text) → Lacks 10 rest → (l : Line) (m : Text) → BeginsWith rest l m → ⊥
no_front rest lacks l m b = let wrong = (cut_once 10 rest [] (line_text l) (10 ∷ m) lacks tt (line_unended l b.0) refl (append-nil rest ∙ b.1)).1 in cc

-- texts of which so many bytes are left are decided
abbrev Decides : Text → ℕ → Type 0
Decides text n = (before : List Line) (r : Reading) (rest : Text) → length rest ≤ n → text ≡ text_of_lines before ++ rest → ComesTo before r → (r.ended ≡ true → HasFormat r) → Decided text

fails_at : (text rest : Text) (before : List Line) (r : Reading) → text ≡ text_of_lines before ++ rest → ComesTo before r → ((r.ended ≡ true) × (rest ≡ []) → ⊥) → ((l : Line) (m : Text) → BeginsWith rest l m → next r l ≡ None) → Decided text
fails_at text rest before r e c h k =
    inr (AtLine (length before + 1), record { before = before; here = r; rest = rest; parts = e; comes = c; fails = (refl, h, k) })

at_rest : (text rest : Text) (before : List Line) (r : Reading) (ended : Bool) → r.ended ≡ ended → text ≡ text_of_lines before ++ rest → ComesTo before r → (r.ended ≡ true → HasFormat r) → Lacks 10 rest → Decided text
at_rest text [] before r true d e c f lacks =
    let format = f d in
    inl (format.0, r.body.steps, record { lines = before; last = r; parts = e ∙ append-nil (text_of_lines before); comes = c; format = format.1; ended = d; steps = refl })
at_rest text [] before r false d e c f lacks = fails_at text [] before r e c (λ k. absurd (let wrong : false ≡ true = sym d ∙ k.0 in cc)) (λ l m b. absurd (no_front [] lacks l m b))
at_rest text (x ∷ rest) before r ended d e c f lacks = fails_at text (x ∷ rest) before r e c (λ k. let wrong = k.1 in cc) (λ l m b. absurd (no_front (x ∷ rest) lacks l m b))

-- a line stands next
at_line : (text : Text) (n : ℕ) → Decides text n → (before : List Line) (r : Reading) (rest more : Text) (l : Line) → length rest ≤ n + 1 → text ≡ text_of_lines before ++ rest → ComesTo before r → BeginsWith rest l more → (x : Result Reading Trouble) → read_line r l ≡ x → Decided text
at_line text n ih before r rest more l few e c b (Ok v) p =
    let shorter : length more ≤ n = (let k : length rest ≡ length (line_text l) + length (10 ∷ more) = ap length b.1 ∙ length-append (line_text l) (10 ∷ more) in omega arith) in
    ih (before ++ l ∷ []) v more shorter (one_more before l text more (e ∙ ap (λ z. text_of_lines before ++ z) b.1))
    (record { legal = legal_more before l c.legal b.0; read = read_more before l start r v c.read p })
    (λ k. next_has r v l (some_bounded (next r l) v p))
at_line text n ih before r rest more l few e c b (Err TooLong) p =
    inr (TooLarge (length before + 1), record { before = before; here = r; rest = rest; parts = e; comes = c; fails = (refl, l, more, b, p) })
at_line text n ih before r rest more l few e c b (Err NoLine) p =
    fails_at text rest before r e c
    (λ k. not_nothing (line_text l) more (sym b.1 ∙ k.1))
    (λ j m d. ap (next r) (same_begins rest j l m more d b) ∙ bounded_none (next r l) p)

at_end : (read : Reader) → (text : Text) (n : ℕ) → Decides text n → (before : List Line) (r : Reading) (rest t more : Text) → length rest ≤ n + 1 → text ≡ text_of_lines before ++ rest → ComesTo before r → Lacks 10 t → rest ≡ t ++ 10 ∷ more → (o : Option Line) → Reads line_text IsLegal t o → Decided text
at_end read text n ih before r rest t more few e c lacks d None k =
    fails_at text rest before r e c (λ x. not_nothing t more (sym d ∙ x.1)) (λ l m b. absurd (k l b.0 (front rest t more lacks d l m b)))
at_end read text n ih before r rest t more few e c lacks d (Some l) k =
    at_line text n ih before r rest more l few e c (k.1, d ∙ ap (λ z. z ++ 10 ∷ more) k.0) (read_line r l) refl

by_cut : (read : Reader) → IsReader read → (text : Text) (n : ℕ) → Decides text n → (before : List Line) (r : Reading) (rest : Text) → length rest ≤ n + 1 → text ≡ text_of_lines before ++ rest → ComesTo before r → (r.ended ≡ true → HasFormat r) → Lacks 10 rest ⊎ ((t : Text) × (more : Text) × Lacks 10 t × (rest ≡ t ++ 10 ∷ more)) → Decided text
by_cut read reader text n ih before r rest few e c f (inl lacks) = at_rest text rest before r r.ended refl e c f lacks
by_cut read reader text n ih before r rest few e c f (inr (t, more, lacks, d)) = at_end read text n ih before r rest t more few e c lacks d (read t) (reader t)

nothing_left : (rest : Text) → length rest ≤ 0 → Lacks 10 rest
nothing_left [] h = refl
nothing_left (x ∷ rest) h = absurd (omega arith)

decides : (read : Reader) → IsReader read → (text : Text) (n : ℕ) → Decides text n
decides read reader text zero before r rest few e c f = at_rest text rest before r r.ended refl e c f (nothing_left rest few)
decides read reader text (suc n) before r rest few e c f = by_cut read reader text n (decides read reader text n) before r rest (omega arith) e c f (first_end rest)

pub decided : (read : Reader) → IsReader read → (text : Text) → Decided text
decided read reader text = decides read reader text (length text) [] start text (omega arith) refl (record { legal = tt; read = refl }) (λ k. absurd (let w = k in cc))

-- ---- what is told holds

abbrev Answered : Result Verdict TextFault → Result Verdict TextFault → Type 0
Answered x y = x ≡ y

apart : (v : Verdict) (f : TextFault) → Answered (Ok v) (Err f) → ⊥
apart v f e = let w = e in cc

same_fault : (e f : TextFault) → Answered (Err e) (Err f) → e ≡ f
same_fault e f p = let w = p in cc

same_verdict : (v w : Verdict) → Answered (Ok v) (Ok w) → v ≡ w
same_verdict v w p = let q = p in cc

pub told_fault_holds : ToldFaultHolds
told_fault_holds read P text seq fault reader e = by (decided read reader text)
  where
    by : Decided text → Fails text fault
    by (inl (f, D, h)) = absurd (apart (verdict P seq D) fault (sym (verdict_is_given read P f text seq D reader h) ∙ e))
    by (inr (g, h)) = subst (Fails text) (same_fault g fault (sym (fault_is_told read P text seq g reader h) ∙ e)) h

pub given_verdict_holds : GivenVerdictHolds
given_verdict_holds read P text seq v reader e = by (decided read reader text)
  where
    by : Decided text → (f : Format) × (D : Steps) × IsRead f text D × (v ≡ verdict P seq D)
    by (inl (f, D, h)) = (f, D, h, same_verdict v (verdict P seq D) (sym e ∙ verdict_is_given read P f text seq D reader h))
    by (inr (g, h)) = absurd (apart v g (sym e ∙ fault_is_told read P text seq g reader h))
