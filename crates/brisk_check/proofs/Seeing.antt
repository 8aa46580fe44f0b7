-- What is kept of checkers does what checkers do.
use Rattle.std.proofs.Common.{◌≡◌, ◌<◌, ◌≤◌, ◌+◌, ◌^◌, ℕ, Bool, true, false, not, ◌==◌, List, [], ◌∷◌, ◌++◌, drop, length, Option, Some, None, refl, sym, ap, subst, ◌∙◌, length-append, arith}
use Rattle.std.specs.Prelude.{is_none, if◌then◌else◌, Result, Ok, Err, IfOk, IfErr}
use Rattle.std.proofs.Math.Seq.{drop-append-add}
use Rattle.std.proofs.lemmas.Bool.{eqb-true}
use Rattle.brisk_lines.specs.Lines.{Reads}
use Rattle.brisk_lines.specs.Pieces.{IsCut}
use Rattle.brisk_text.specs.Values.{Text}
use Rattle.brisk_values.specs.Names.{Name}
use Rattle.brisk_basic.specs.Outcomes.{and_then}
use Rattle.brisk_loops.specs.Walk.{Walked, Called, Call, calls_of, made_all}
use Rattle.brisk_derivation.specs.Steps.{Steps}
use Rattle.brisk_loops.specs.WalkKept.{kept, kept_all}
use Rattle.brisk_loops.proofs.Numbers.{made_all_kept}
use Rattle.brisk_derivtext.specs.declared.fault.DerivFault.{DerivFault}
use Rattle.brisk_derivtext.specs.declared.fault.DerivFault.TheVariants as deriv
use Rattle.brisk_derivtext.specs.declared.line.Format.{Format}
use Rattle.brisk_derivtext.specs.declared.line.Format.TheVariants.{Format1, Format2}
use Rattle.brisk_derivtext.specs.declared.line.Line.{Line}
use Rattle.brisk_derivtext.specs.declared.line.Line.TheVariants.{Head, Plain, Fork, Enter, Else, Join, Close, End, Part, EndPart, Use}
use Rattle.brisk_derivtext.specs.Lined.{Lined, Refuses, Takes, number_behind}
use Rattle.brisk_derivtext.specs.Lines.{line_text, IsLegal}
use Rattle.brisk_derivtext.specs.Parsing.{line_in}
use Rattle.brisk_derivtext.specs.Reading.{Body, Reading, Fails, TextFault, AtLine, TooLarge, TooLong, next, bounded, read_line, with_steps, used, part_named, in_format}
use Rattle.brisk_derivtext.specs.Texts.{text_of_lines}
use Rattle.brisk_syntax.specs.declared.program.Program.{Program}
use Rattle.brisk_derivtext.proofs.Parsed.{lines_are_found}
use Rattle.brisk_derivtext.proofs.Written.{some_bounded}
use Rattle.brisk_check.specs.Checking.{called, calls_for, calls_in, stands_for, lines_if, Walking, after_calls, Checking, stood, taken, feed, judged, walk_ends, is_done, unless_undone, unless_failed, finish, after}
use Rattle.brisk_check.specs.declared.verdict.CheckFault.{CheckFault}
use Rattle.brisk_check.specs.declared.verdict.CheckFault.TheVariants as fault
use Rattle.brisk_check.specs.declared.verdict.Verdict as declared
use Rattle.brisk_check.specs.Laws.{IsAnswer}
use Rattle.brisk_check.specs.Told.{told, fault_of, Causes, Judges}
use Rattle.brisk_check.proofs.Exact.{check_is_exact}
use Rattle.brisk_check.specs.Seen.{kept_calls, Going, Checked, going_of, seen_by, seen, Ends, Faults}
use Rattle.brisk_check.specs.Working.{HasFault}
use Rattle.brisk_check.proofs.Calls.{calls_so, lines_kept}
use Rattle.brisk_check.proofs.Fed.{fault_kept, feed_rest, reads_line, told as told_fault}

-- ---- walks

thens : (cs : List Call) (x : Called) → kept_calls (and_then x (made_all cs)) ≡ and_then (kept_calls x) (kept_all cs)
thens cs (Ok w) = sym (made_all_kept cs w)
thens cs (Err f) = refl

-- calls go on with the numbers that are kept
pub calls_kept : (cs : List Call) (w : Walking) → kept_calls (called (after_calls cs w).walked (after_calls cs w).failure) ≡ and_then (kept_calls (called w.walked w.failure)) (kept_all cs)
calls_kept cs w = ap kept_calls (calls_so cs w.walked w.failure) ∙ thens cs (called w.walked w.failure)

-- ---- checkers

-- a checker that is kept so has met no fault
pub record Opened (c : Checking) (g : Going) : Type 0 where
  pub stands : c.fault ≡ None
  pub same : going_of c ≡ g

abbrev Same : Checked → Checked → Type 0
Same x y = x ≡ y

same_ok : {g h : Going} → Same (Ok g) (Ok h) → g ≡ h
same_ok e = cc

no_fault : {g : Going} {f : DerivFault} → Same (Ok g) (Err f) → ⊥
no_fault e = let w = e in cc

pub opened : (c : Checking) (g : Going) → seen c ≡ Ok g → Opened c g
opened c g e = by c.fault refl
  where
    by : (o : Option TextFault) → c.fault ≡ o → Opened c g
    by None k = record { stands = k; same = same_ok (sym (ap (seen_by c) k) ∙ e) }
    by (Some f) k = absurd (no_fault (sym e ∙ ap (seen_by c) k))

-- what has failed so goes on so
pub stays : (c : Checking) (f : DerivFault) (bs : Text) → seen c ≡ Err f → seen (feed line_in c bs) ≡ Err f
stays c f bs e = by c.fault refl
  where
    by : (o : Option TextFault) → c.fault ≡ o → seen (feed line_in c bs) ≡ Err f
    by None k = absurd (no_fault (sym (ap (seen_by c) k) ∙ e))
    by (Some g) k = ap (seen_by (feed line_in c bs)) (fault_kept line_in c g bs k) ∙ sym (ap (seen_by c) k) ∙ e

pub fault_stays : (c : Checking) (f : DerivFault) (bs : Text) → HasFault c f → HasFault (feed line_in c bs) f
fault_stays c (deriv.Line k) bs e = stays c (deriv.Line k) bs e
fault_stays c (deriv.TooLarge k) bs e = stays c (deriv.TooLarge k) bs e
fault_stays c deriv.NoMemory bs e = tt

-- ---- lines

one_behind : (n : ℕ) → number_behind (kept n) ≡ kept (n + 1)
one_behind n = omega arith

-- a line stands next
pub line_taken : (c : Checking) (g : Going) (l : Line) (h : Lined) (p : Called) → seen c ≡ Ok g → Takes g.lined g.rest l h → p ≡ and_then g.walk (kept_all (calls_for g.lined.reading l)) →
    seen (taken c None (line_in c.rest)) ≡ Ok record { rest = []; lined = h; walk = p }
line_taken c g l h p e t q =
    let o = opened c g e in
    let t2 : Takes (going_of c).lined c.rest l h = subst (λ (z : Going). Takes z.lined z.rest l h) (sym o.same) t in
    let q2 : p ≡ and_then (going_of c).walk (kept_all (calls_for c.reading l)) = q ∙ ap (λ (z : Going). and_then z.walk (kept_all (calls_for z.lined.reading l))) (sym o.same) in
    let found : line_in c.rest ≡ Some l = ap line_in t2.bytes_of ∙ reads_line line_in lines_are_found l t2.legal in
    let counted : h.count ≡ kept (c.whole + 1) = t2.count ∙ one_behind c.whole in
    let d : Checking = stood c l (Ok h.reading) in
    ap (λ z. seen (taken c None z)) found
    ∙ ap (λ z. seen (stood c l z)) t2.reads
    ∙ ap (seen_by d) o.stands
    ∙ (λ i. Ok record { rest = []; lined = record { count = sym counted i; reading = h.reading }; walk = (calls_kept (calls_for c.reading l) c.walk ∙ sym q2) i })

no_line : (c : Checking) (x : Option Line) → Reads line_text IsLegal c.rest x → ((l : Line) → IsLegal l → c.rest ≡ line_text l → next c.reading l ≡ None) → (taken c None x).fault ≡ Some (AtLine (c.whole + 1))
no_line c None r h = refl
no_line c (Some l) r h = ap (λ z. (stood c l (bounded z)).fault) (h l r.1 r.0)

too_long : (c : Checking) (l : Line) → IsLegal l → c.rest ≡ line_text l → read_line c.reading l ≡ Err TooLong → (taken c None (line_in c.rest)).fault ≡ Some (TooLarge (c.whole + 1))
too_long c l h b e = ap (λ z. (taken c None z).fault) (ap line_in b ∙ reads_line line_in lines_are_found l h) ∙ ap (λ z. (stood c l z).fault) e

-- no line stands next
pub line_refused : (c : Checking) (g : Going) (f : DerivFault) → seen c ≡ Ok g → Refuses g.lined g.rest f → HasFault (taken c None (line_in c.rest)) f
line_refused c g f e r =
    let o = opened c g e in
    by f (subst (λ (z : Going). Refuses z.lined z.rest f) (sym o.same) r)
  where
    by : (f : DerivFault) → Refuses (going_of c).lined c.rest f → HasFault (taken c None (line_in c.rest)) f
    by (deriv.Line k) (n, none) =
        ap (seen_by (taken c None (line_in c.rest))) (no_line c (line_in c.rest) (lines_are_found c.rest) none) ∙ (λ i. Err (deriv.Line (sym (n ∙ one_behind c.whole) i)))
    by (deriv.TooLarge k) (n, l, legal, b, long) =
        ap (seen_by (taken c None (line_in c.rest))) (too_long c l legal b long) ∙ (λ i. Err (deriv.TooLarge (sym (n ∙ one_behind c.whole) i)))
    by deriv.NoMemory r = tt

-- the lines for which a line stands are the same behind it
pub stands_same : (r v : Reading) (l : Line) → read_line r l ≡ Ok v → stands_for r l ≡ stands_for v l
stands_same r v (Use n) e = by r.ended (some_bounded (next r (Use n)) v e)
  where
    none : {x : Reading} → None ≡ Some x → stands_for r (Use n) ≡ stands_for v (Use n)
    none p = absurd (let w = p in cc)

    same : {x y : Reading} → Some x ≡ Some y → x ≡ y
    same p = cc

    steps : (o : Option Body) → with_steps r o ≡ Some v → stands_for r (Use n) ≡ stands_for v (Use n)
    steps None p = none p
    steps (Some b) p = ap (λ (z : Reading). lines_if (part_named n z.parts)) (same p)

    format : (o : Option Format) → in_format o r (Use n) ≡ Some v → stands_for r (Use n) ≡ stands_for v (Use n)
    format None p = none p
    format (Some Format1) p = none p
    format (Some Format2) p = steps (used r.body (part_named n r.parts)) p

    by : (t : Bool) → (if t then None else in_format r.format r (Use n)) ≡ Some v → stands_for r (Use n) ≡ stands_for v (Use n)
    by true p = none p
    by false p = format r.format p
stands_same r v (Head f) e = refl
stands_same r v (Plain s) e = refl
stands_same r v (Fork s) e = refl
stands_same r v (Enter s) e = refl
stands_same r v Else e = refl
stands_same r v Join e = refl
stands_same r v Close e = refl
stands_same r v End e = refl
stands_same r v (Part s) e = refl
stands_same r v EndPart e = refl

only_calls : (x : Called) → and_then x (kept_all []) ≡ x
only_calls (Ok w) = refl
only_calls (Err f) = refl

-- in a part no call is made, and in the main steps those of the line
pub line_calls : (r v : Reading) (l : Line) (p q : Called) (b : Bool) → b ≡ not (is_none r.part) → read_line r l ≡ Ok v → q ≡ (if b then p else and_then p (kept_all (calls_in (stands_for v l)))) → q ≡ and_then p (kept_all (calls_for r l))
line_calls r v l p q b e h k = by (is_none r.part) refl (k ∙ ap (λ t. if t then p else and_then p (kept_all (calls_in (stands_for v l)))) e)
  where
    by : (t : Bool) → is_none r.part ≡ t → q ≡ (if not (is_none r.part) then p else and_then p (kept_all (calls_in (stands_for v l)))) → q ≡ and_then p (kept_all (calls_for r l))
    by false z w =
        w
        ∙ ap (λ t. if not t then p else and_then p (kept_all (calls_in (stands_for v l)))) z
        ∙ sym (ap (λ t. and_then p (kept_all (if t then calls_in (stands_for r l) else []))) z ∙ only_calls p)
    by true z w =
        w
        ∙ ap (λ t. if not t then p else and_then p (kept_all (calls_in (stands_for v l)))) z
        ∙ ap (λ s. and_then p (kept_all (calls_in s))) (sym (stands_same r v l h))
        ∙ ap (λ t. and_then p (kept_all (if t then calls_in (stands_for r l) else []))) (sym z)

-- the calls of the use of a part are those of its steps
pub used_calls : (r : Reading) (l : Line) (n : Name) (a : Steps) (w : Walked) → l ≡ Use n → part_named n r.parts ≡ Some a → kept_all (calls_in (stands_for r l)) w ≡ kept_all (calls_of a) w
used_calls r l n a w e h = ap (λ x. kept_all (calls_in (stands_for r x)) w) e ∙ ap (λ o. kept_all (calls_in (lines_if o)) w) h ∙ lines_kept a w

-- ---- bytes

-- bytes of a line are fed
pub with_bytes : (c : Checking) (g : Going) (t : Text) → seen c ≡ Ok g → seen (record c { rest = c.rest ++ t }) ≡ Ok (record g { rest = g.rest ++ t })
with_bytes c g t e =
    let o = opened c g e in
    ap (seen_by (record c { rest = c.rest ++ t })) o.stands ∙ ap (λ (z : Going). Ok (record z { rest = z.rest ++ t })) o.same

no_more : (n : ℕ) → n ≡ n + 0
no_more n = omega arith

pub is_nothing : (b : Text) → (length b == 0) ≡ true → b ≡ []
is_nothing [] e = refl
is_nothing (x ∷ b) e = absurd (let k : length (x ∷ b) ≡ 0 = eqb-true (length (x ∷ b)) 0 e in omega arith)

pub is_something : (b : Text) → (length b == 0) ≡ false → b ≡ [] → ⊥
is_something [] e h = let w : true ≡ false = e in cc
is_something (x ∷ b) e h = let w = h in cc

pub bytes_fed : (c : Checking) (left front end : Text) → IsCut 10 left front end → end ≡ [] → feed line_in c left ≡ feed line_in (record c { rest = c.rest ++ front }) (drop (length front) left)
bytes_fed c left front end cut e =
    let whole : left ≡ front ++ [] = cut.whole ∙ ap (λ z. front ++ z) e in
    ap (feed line_in c) whole ∙ feed_rest line_in c front [] cut.front_lacks
    ∙ ap (feed line_in (record c { rest = c.rest ++ front })) (sym (ap (drop (length front)) whole ∙ ap (λ n. drop n (front ++ [])) (no_more (length front)) ∙ drop-append-add front [] 0))

-- a line is fed
pub line_fed : (c : Checking) (g : Going) (left front end : Text) → seen c ≡ Ok g → IsCut 10 left front end → (end ≡ [] → ⊥) →
    let d : Checking = record c { rest = c.rest ++ front } in
    feed line_in c left ≡ feed line_in (taken d None (line_in d.rest)) (drop (length front + 1) left)
line_fed c g left front [] e cut h = absurd (h refl)
line_fed c g left front (x ∷ more) e cut h =
    let d : Checking = record c { rest = c.rest ++ front } in
    let whole : left ≡ front ++ 10 ∷ more = cut.whole ∙ ap (λ z. front ++ z ∷ more) cut.rest_begins in
    ap (feed line_in c) whole
    ∙ feed_rest line_in c front (10 ∷ more) cut.front_lacks
    ∙ ap (λ z. feed line_in (taken d z (line_in d.rest)) more) (opened c g e).stands
    ∙ ap (feed line_in (taken d None (line_in d.rest))) (sym (ap (drop (length front + 1)) whole ∙ drop-append-add front (10 ∷ more) 1))

-- ---- the end

-- the text ends too early
pub ends_early : (g : Going) (seq : Text) (k : ℕ) → is_done g.rest g.lined.reading.ended ≡ false → k ≡ number_behind g.lined.count → Faults (Ok g) seq (fault.Deriv k)
ends_early g seq k done n c e =
    let o = opened c g (sym e) in
    let undone : is_done c.rest c.reading.ended ≡ false = ap (λ (z : Going). is_done z.rest z.lined.reading.ended) o.same ∙ done in
    let v = judged seq (walk_ends c.walk.walked c.walk.failure) in (
      c.whole + 1,
      ap (λ z. unless_failed z (unless_undone (is_done c.rest c.reading.ended) (c.whole + 1) v)) o.stands ∙ ap (λ t. unless_undone t (c.whole + 1) v) undone,
      n ∙ ap (λ (z : Going). number_behind z.lined.count) (sym o.same) ∙ one_behind c.whole,
    )

-- the fault that is kept is told
pub fault_ends : (f : DerivFault) (seq : Text) → Faults (Err f) seq (fault_of f)
fault_ends deriv.NoMemory seq = tt
fault_ends (deriv.Line k) seq = λ c e. by c c.fault refl e
  where
    line : (a b : ℕ) → Same (Err (deriv.Line a)) (Err (deriv.Line b)) → a ≡ b
    line a b p = let w = p in cc

    other : (a b : ℕ) → Same (Err (deriv.Line a)) (Err (deriv.TooLarge b)) → ⊥
    other a b p = let w = p in cc

    by : (c : Checking) (o : Option TextFault) → c.fault ≡ o → Err (deriv.Line k) ≡ seen c → (n : ℕ) × (finish c seq ≡ Err (AtLine n)) × (k ≡ kept n)
    by c None p e = absurd (no_fault (sym (e ∙ ap (seen_by c) p)))
    by c (Some (AtLine n)) p e = (n, told_fault c (AtLine n) seq p, line k (kept n) (e ∙ ap (seen_by c) p))
    by c (Some (TooLarge n)) p e = absurd (other k (kept n) (e ∙ ap (seen_by c) p))
fault_ends (deriv.TooLarge k) seq = λ c e. by c c.fault refl e
  where
    line : (a b : ℕ) → Same (Err (deriv.TooLarge a)) (Err (deriv.TooLarge b)) → a ≡ b
    line a b p = let w = p in cc

    other : (a b : ℕ) → Same (Err (deriv.TooLarge a)) (Err (deriv.Line b)) → ⊥
    other a b p = let w = p in cc

    by : (c : Checking) (o : Option TextFault) → c.fault ≡ o → Err (deriv.TooLarge k) ≡ seen c → (n : ℕ) × (finish c seq ≡ Err (TooLarge n)) × (k ≡ kept n)
    by c None p e = absurd (no_fault (sym (e ∙ ap (seen_by c) p)))
    by c (Some (TooLarge n)) p e = (n, told_fault c (TooLarge n) seq p, line k (kept n) (e ∙ ap (seen_by c) p))
    by c (Some (AtLine n)) p e = absurd (other k (kept n) (e ∙ ap (seen_by c) p))

-- ---- a whole text

-- the verdict on a text that was fed whole
pub judges : (P : Program) (bytes seq : Text) (s : Checked) (v : declared.Verdict) → s ≡ seen (after line_in P bytes) → Ends s seq v → Judges P bytes seq v
judges P bytes seq s v e h =
    let r = h (after line_in P bytes) e in
    let a : IsAnswer P bytes seq (Ok r.0) = subst (IsAnswer P bytes seq) r.1 (check_is_exact P bytes seq) in
    (a.0, a.1, a.2, r.2 ∙ ap told a.3)

pub judges_ok : (P : Program) (bytes seq : Text) (s : Checked) (r : Result declared.Verdict CheckFault) → s ≡ seen (after line_in P bytes) → IfOk r (Ends s seq) → IfOk r (Judges P bytes seq)
judges_ok P bytes seq s (Ok v) e h = judges P bytes seq s v e h
judges_ok P bytes seq s (Err f) e h = tt

lines_few : (ls : List Line) → length ls ≤ length (text_of_lines ls)
lines_few [] = omega arith
lines_few (l ∷ ls) = let h = lines_few ls in let k = length-append (line_text l) (10 ∷ text_of_lines ls) in omega arith

kept_exact : (bytes : Text) (before : List Line) (rest : Text) (n : ℕ) → length bytes < 2 ^ 63 → bytes ≡ text_of_lines before ++ rest → n ≡ length before + 1 → n ≡ kept n
kept_exact bytes before rest n few e h =
    let a = lines_few before in
    let b : length bytes ≡ length (text_of_lines before) + length rest = ap length e ∙ length-append (text_of_lines before) rest in
    omega arith

fails_at : (bytes : Text) (n : ℕ) → Fails bytes (AtLine n) → length bytes < 2 ^ 63 → n ≡ kept n
fails_at bytes n h few = kept_exact bytes h.before h.rest n few h.parts h.fails.0

large_at : (bytes : Text) (n : ℕ) → Fails bytes (TooLarge n) → length bytes < 2 ^ 63 → n ≡ kept n
large_at bytes n h few = kept_exact bytes h.before h.rest n few h.parts h.fails.0

-- a text that was fed whole fails so
pub causes : (P : Program) (bytes seq : Text) (s : Checked) (f : CheckFault) → length bytes < 2 ^ 63 → s ≡ seen (after line_in P bytes) → Faults s seq f → Causes bytes f
causes P bytes seq s (fault.Deriv k) few e h =
    let r = h (after line_in P bytes) e in
    let a : Fails bytes (AtLine r.0) = subst (IsAnswer P bytes seq) r.1 (check_is_exact P bytes seq) in
    subst (λ z. Fails bytes (AtLine z)) (fails_at bytes r.0 a few ∙ sym r.2) a
causes P bytes seq s (fault.TooLarge k) few e h =
    let r = h (after line_in P bytes) e in
    let a : Fails bytes (TooLarge r.0) = subst (IsAnswer P bytes seq) r.1 (check_is_exact P bytes seq) in
    subst (λ z. Fails bytes (TooLarge z)) (large_at bytes r.0 a few ∙ sym r.2) a
causes P bytes seq s fault.NoMemory few e h = tt

pub causes_err : (P : Program) (bytes seq : Text) (s : Checked) (r : Result declared.Verdict CheckFault) → length bytes < 2 ^ 63 → s ≡ seen (after line_in P bytes) → IfErr r (Faults s seq) → IfErr r (Causes bytes)
causes_err P bytes seq s (Ok v) few e h = tt
causes_err P bytes seq s (Err f) few e h = causes P bytes seq s f few e h
