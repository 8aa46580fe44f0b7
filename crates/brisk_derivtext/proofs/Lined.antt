-- The lines of a text, read one after another.
use Rattle.std.proofs.Common.{◌≡◌, ◌<◌, ◌≤◌, ◌+◌, ◌-◌, ◌^◌, ℕ, true, false, ◌==◌, List, [], ◌∷◌, ◌++◌, drop, length, Some, refl, suc, sym, ap, subst, ◌∙◌, append-nil, arith}
use Rattle.std.specs.Prelude.{min, Result, Ok, Err, IfOk, IfErr}
use Rattle.std.specs.List.{AllByRecursion}
use Rattle.std.proofs.Math.Seq.{drop-append-add}
use Rattle.std.proofs.lemmas.Bool.{eqb-true}
use Rattle.brisk_lines.specs.Lines.{Reads}
use Rattle.brisk_lines.specs.Pieces.{IsCut, Lacks}
use Rattle.brisk_lines.proofs.Cuts.{cut_once}
use Rattle.brisk_text.specs.Values.{Text}
use Rattle.brisk_derivation.specs.Steps.{Steps}
use Rattle.brisk_derivtext.specs.declared.fault.DerivFault.{DerivFault}
use Rattle.brisk_derivtext.specs.declared.fault.DerivFault.TheVariants as fault
use Rattle.brisk_derivtext.specs.declared.line.Format.{Format}
use Rattle.brisk_derivtext.specs.declared.line.Line.{Line}
use Rattle.brisk_derivtext.specs.declared.refusal.Refusal.{Refusal}
use Rattle.brisk_derivtext.specs.declared.refusal.Refusal.TheVariants as refusal
use Rattle.brisk_derivtext.specs.Kept.{Causes, SoFar, Stands, fault_at}
use Rattle.brisk_derivtext.specs.Lined.{Lined, unread, number_behind, Takes, TakesAll, Refuses, LinesAreTheText}
use Rattle.brisk_derivtext.specs.Lines.{line_text, IsLegal, BeginsWith}
use Rattle.brisk_derivtext.specs.Reading.{Reading, start, next, read_line, read_all, IsRead, AtLine, TooLarge, Fails}
use Rattle.brisk_derivtext.specs.Texts.{text_of_lines}
use Rattle.brisk_derivtext.proofs.Differ.{line_unended, lines_differ}
use Rattle.brisk_derivtext.proofs.Once.{behind, first_read, same_ok}
use Rattle.brisk_derivtext.proofs.Onward.{bounded_none, fails_here, is_read, no_end, no_line_fails, not_nothing, stands, starts}

-- ---- a line is refused

-- the line can't stand
pub refused_line : (u : Lined) (b : Text) (l : Line) (k : ℕ) (e : Refusal) → Reads line_text IsLegal b (Some l) → k ≡ number_behind u.count → Stands (read_line u.reading l) (Err e) → Refuses u b (fault_at e k)
refused_line u b l k refusal.NoLine r n s = (n, λ m h p. ap (next u.reading) (lines_differ m l h r.1 (sym p ∙ r.0)) ∙ bounded_none (next u.reading l) s)
refused_line u b l k refusal.TooLong r n s = (n, l, r.1, r.0, s)
refused_line u b l k refusal.NoMemory r n s = tt

-- ---- lines taken

no_more : (n : ℕ) → n ≡ n + 0
no_more n = omega arith

one_more : (n m : ℕ) → n + 1 + m ≡ n + suc m
one_more n m = omega arith

taken_so_far : (ls : List Line) (u v : Lined) (text more : Text) (k : ℕ) → TakesAll u ls v → SoFar text (text_of_lines ls ++ more) u.reading k → SoFar text more v.reading (k + length ls)
taken_so_far [] u v text more k t s = subst (λ (w : Lined). SoFar text more w.reading (k + 0)) t (subst (λ n. SoFar text more u.reading n) (no_more k) s)
taken_so_far (l ∷ ls) u v text more k (w, t, ts) s =
    let e = behind l ls more in
    let here = stands text (line_text l ++ 10 ∷ (text_of_lines ls ++ more)) (text_of_lines ls ++ more) u.reading w.reading k l (subst (λ z. SoFar text z u.reading k) e s) (t.legal, refl) t.reads in
    subst (λ n. SoFar text more v.reading n) (one_more k (length ls)) (taken_so_far ls w v text more (k + 1) ts here)

whole_so_far : (ls : List Line) (v : Lined) (more : Text) → TakesAll unread ls v → SoFar (text_of_lines ls ++ more) more v.reading (length ls)
whole_so_far ls v more t =
    let z : 0 + length ls ≡ length ls = omega arith in
    subst (λ n. SoFar (text_of_lines ls ++ more) more v.reading n) z (taken_so_far ls unread v (text_of_lines ls ++ more) more 0 t (starts (text_of_lines ls ++ more) start refl))

kept_more : (n m c : ℕ) → c ≡ min n (2 ^ 64 - 1) → m ≡ number_behind c → m ≡ min (n + 1) (2 ^ 64 - 1)
kept_more n m c e h = omega arith

counts : (ls : List Line) (u v : Lined) (k : ℕ) → TakesAll u ls v → u.count ≡ min k (2 ^ 64 - 1) → v.count ≡ min (k + length ls) (2 ^ 64 - 1)
counts [] u v k t e = subst (λ (w : Lined). w.count ≡ min (k + 0) (2 ^ 64 - 1)) t (e ∙ ap (λ n. min n (2 ^ 64 - 1)) (no_more k))
counts (l ∷ ls) u v k (w, t, ts) e =
    counts ls w v (k + 1) ts (kept_more k w.count u.count e t.count) ∙ ap (λ n. min n (2 ^ 64 - 1)) (one_more k (length ls))

number_is : (ls : List Line) (v : Lined) (k : ℕ) → TakesAll unread ls v → length ls + 1 < 2 ^ 64 → k ≡ number_behind v.count → k ≡ length ls + 1
number_is ls v k t few e =
    let c = counts ls unread v 0 t refl in
    omega arith

-- ---- the law

at_end : (ls : List Line) (v : Lined) → TakesAll unread ls v → v.reading.ended ≡ true → (f : Format) × IsRead f (text_of_lines ls) v.reading.body.steps
at_end ls v t e =
    let s = whole_so_far ls v [] t in
    let r = is_read (text_of_lines ls ++ []) [] v.reading (length ls) s e refl in
    (r.0, subst (λ z. IsRead r.0 z v.reading.body.steps) (append-nil (text_of_lines ls)) r.1)

-- lines that are read are taken
takes_read : (ls : List Line) (u : Lined) (h : Reading) → AllByRecursion IsLegal ls → read_all ls u.reading ≡ Ok h → (v : Lined) × TakesAll u ls v × (v.reading ≡ h)
takes_read [] u h k e = (u, refl, same_ok e)
takes_read (l ∷ ls) u h k e =
    let one = first_read (read_line u.reading l) (read_all ls) h e in
    let w : Lined = record { count = number_behind u.count; reading = one.0 } in
    let more = takes_read ls w h k.1 one.2 in
    (more.0, (w, record { legal = k.0; bytes_of = refl; count = refl; reads = one.1 }, more.1), more.2)

taken : (f : Format) (bytes : Text) (D : Steps) → IsRead f bytes D → (ls : List Line) × (v : Lined) × (bytes ≡ text_of_lines ls) × TakesAll unread ls v × (v.reading.ended ≡ true) × (v.reading.body.steps ≡ D)
taken f bytes D h =
    let t = takes_read h.lines unread h.last h.comes.legal h.comes.read in
    (h.lines, t.0, h.parts, t.1, ap (λ (r : Reading). r.ended) t.2 ∙ h.ended, ap (λ (r : Reading). r.body.steps) t.2 ∙ h.steps)

front : (bytes more : Text) → Lacks 10 bytes → (l : Line) (m : Text) → BeginsWith (bytes ++ 10 ∷ more) l m → bytes ≡ line_text l
front bytes more lacks l m b = (cut_once 10 bytes (10 ∷ more) (line_text l) (10 ∷ m) lacks refl (line_unended l b.0) refl b.1).0

refused_at : (text bytes more : Text) (v : Lined) (f : DerivFault) (n : ℕ) → SoFar text (bytes ++ 10 ∷ more) v.reading n → ((k : ℕ) → k ≡ number_behind v.count → k ≡ n + 1) → Lacks 10 bytes → Refuses v bytes f → Causes text f
refused_at text bytes more v (fault.Line k) n s number lacks (e, none) =
    subst (λ z. Fails text (AtLine z)) (sym (number k e))
    (fails_here text (bytes ++ 10 ∷ more) v.reading n s (λ h. not_nothing bytes more h.1) (λ l m b. none l b.0 (front bytes more lacks l m b)))
refused_at text bytes more v (fault.TooLarge k) n s number lacks (e, l, legal, is, long) =
    let fails : Fails text (TooLarge (n + 1)) = record { before = s.before; here = v.reading; rest = bytes ++ 10 ∷ more; parts = s.parts; comes = s.comes; fails = (ap (λ z. z + 1) s.lines, l, more, (legal, ap (λ z. z ++ 10 ∷ more) is), long) } in
    subst (λ z. Fails text (TooLarge z)) (sym (number k e)) fails
refused_at text bytes more v fault.NoMemory n s number lacks h = tt

refused : (ls : List Line) (v : Lined) (bytes more : Text) (f : DerivFault) → TakesAll unread ls v → length ls + 1 < 2 ^ 64 → Lacks 10 bytes → Refuses v bytes f → Causes (text_of_lines ls ++ (bytes ++ 10 ∷ more)) f
refused ls v bytes more f t few lacks h =
    refused_at (text_of_lines ls ++ (bytes ++ 10 ∷ more)) bytes more v f (length ls) (whole_so_far ls v (bytes ++ 10 ∷ more) t) (λ k e. number_is ls v k t few e) lacks h

no_front : (rest : Text) → Lacks 10 rest → (l : Line) (m : Text) → BeginsWith rest l m → ⊥
no_front rest lacks l m b = let wrong = (cut_once 10 rest [] (line_text l) (10 ∷ m) lacks tt (line_unended l b.0) refl (append-nil rest ∙ b.1)).1 in cc

early : (ls : List Line) (v : Lined) (rest : Text) → TakesAll unread ls v → Lacks 10 rest → ((v.reading.ended ≡ true) × (rest ≡ []) → ⊥) → Fails (text_of_lines ls ++ rest) (AtLine (length ls + 1))
early ls v rest t lacks h =
    fails_here (text_of_lines ls ++ rest) rest v.reading (length ls) (whole_so_far ls v rest t) h (λ l m b. absurd (no_front rest lacks l m b))

pub lines_are_the_text : LinesAreTheText
lines_are_the_text = record { steps = at_end; taken = taken; refused = refused; early = early }

-- ---- a text in pieces

is_line : (rest bytes end : Text) → IsCut 10 rest bytes end → (end ≡ [] → ⊥) → (more : Text) × (rest ≡ bytes ++ 10 ∷ more)
is_line rest bytes [] cut h = absurd (h refl)
is_line rest bytes (x ∷ more) cut h = (more, cut.whole ∙ ap (λ z. bytes ++ z ∷ more) cut.rest_begins)

one_behind : (n m : ℕ) → n + m < 2 ^ 63 → number_behind n ≡ n + 1
one_behind n m h = omega arith

-- the line in front is read
pub goes_on : (text rest bytes end : Text) (u v : Lined) (l : Line) → IsCut 10 rest bytes end → (end ≡ [] → ⊥) → u.count + length rest < 2 ^ 63 → SoFar text rest u.reading u.count → Takes u bytes l v → SoFar text (drop (length bytes + 1) rest) v.reading v.count
goes_on text rest bytes end u v l cut h few s t =
    let more = is_line rest bytes end cut h in
    let next = stands text rest more.0 u.reading v.reading u.count l s (t.legal, more.1 ∙ ap (λ z. z ++ 10 ∷ more.0) t.bytes_of) t.reads in
    let left : drop (length bytes + 1) rest ≡ more.0 = ap (drop (length bytes + 1)) more.1 ∙ drop-append-add bytes (10 ∷ more.0) 1 in
    subst (λ z. SoFar text z v.reading v.count) (sym left) (subst (λ n. SoFar text more.0 v.reading n) (sym (t.count ∙ one_behind u.count (length rest) few)) next)

-- it is refused
pub stops : (text rest bytes end : Text) (u : Lined) (f : DerivFault) → IsCut 10 rest bytes end → (end ≡ [] → ⊥) → u.count + length rest < 2 ^ 63 → SoFar text rest u.reading u.count → Refuses u bytes f → Causes text f
stops text rest bytes end u f cut h few s r =
    let more = is_line rest bytes end cut h in
    refused_at text bytes more.0 u f u.count (subst (λ z. SoFar text z u.reading u.count) more.1 s) (λ k e. e ∙ one_behind u.count (length rest) few) cut.front_lacks r

-- there is none
pub no_line : (text rest bytes end : Text) (u : Lined) → IsCut 10 rest bytes end → end ≡ [] → SoFar text rest u.reading u.count → ((u.reading.ended ≡ true) × (rest ≡ []) → ⊥) → Fails text (AtLine (u.count + 1))
no_line text rest bytes end u cut e s h = no_line_fails text rest u.reading u.count s h (no_end rest bytes end cut (λ m p. let w : [] ≡ 10 ∷ m = sym e ∙ p in cc))

-- the whole text is read
pub ends_ok : (text rest : Text) (v : Lined) (r : Result Steps DerivFault) → SoFar text rest v.reading v.count → v.reading.ended ≡ true → rest ≡ [] → IfOk r (λ a. (v.reading.ended ≡ true) × (a ≡ v.reading.body.steps)) → IfOk r (λ D. (f : Format) × IsRead f text D)
ends_ok text rest v (Ok D) s e n h =
    let r = is_read text rest v.reading v.count s e n in
    (r.0, subst (IsRead r.0 text) (sym h.1) r.1)
ends_ok text rest v (Err f) s e n h = tt

pub ends_err : (text : Text) (v : Lined) (r : Result Steps DerivFault) (P : DerivFault → Type 0) → v.reading.ended ≡ true → IfErr r (λ f. (v.reading.ended ≡ false) × P f) → IfErr r (Causes text)
ends_err text v (Ok D) P e h = tt
ends_err text v (Err f) P e h = absurd (let w : true ≡ false = sym e ∙ h.0 in cc)

pub is_nothing : (b : Text) → (length b == 0) ≡ true → b ≡ []
is_nothing [] e = refl
is_nothing (x ∷ b) e = absurd (let k : length (x ∷ b) ≡ 0 = eqb-true (length (x ∷ b)) 0 e in omega arith)

pub is_something : (b : Text) → (length b == 0) ≡ false → b ≡ [] → ⊥
is_something [] e h = let w : true ≡ false = e in cc
is_something (x ∷ b) e h = let w = h in cc

-- there are no more lines than bytes
pub still_few : (before after bytes rest left all : ℕ) → after ≡ before + 1 → (0 < bytes) × (bytes ≤ rest) → left ≡ rest - bytes → before + rest ≤ all → after + left ≤ all
still_few before after bytes rest left all e b l h =
    let some = b.0 in
    let most = b.1 in
    omega arith
