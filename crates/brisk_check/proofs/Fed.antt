-- Lines that are fed, and the verdict at their end.
use Rattle.std.proofs.Common.{◌≡◌, ℕ, ◌+◌, ◌⊎◌, inl, inr, Bool, true, false, not, ◌&&◌, ◌==◌, List, [], ◌∷◌, ◌++◌, length, Option, Some, None, refl, sym, ap, subst, ◌∙◌, append_assoc, append-nil, arith}
use Rattle.std.specs.Prelude.{if◌then◌else◌, Ok, Err}
use Rattle.std.specs.List.{list_all, AllByRecursion}
use Rattle.std.proofs.lemmas.Bool.{eqb-true, not-true}
use Rattle.brisk_lines.specs.Lines.{Reads}
use Rattle.brisk_lines.specs.Pieces.{differs, Lacks}
use Rattle.brisk_text.specs.Values.{Text}
use Rattle.brisk_syntax.specs.declared.program.Program.{Program}
use Rattle.brisk_rules.specs.Derives.{outcome}
use Rattle.brisk_loops.specs.Walk as walk
use Rattle.brisk_derivtext.specs.declared.line.Line.{Line}
use Rattle.brisk_derivtext.specs.Lines.{line_text, IsLegal, BeginsWith}
use Rattle.brisk_derivtext.specs.Reading.{Reading, start, NoLine, TooLong, next, bounded, read_line, read_all, ComesTo, TextFault, AtLine, TooLarge, FailsBehind, lines_around, lines_so_far}
use Rattle.brisk_derivtext.specs.Texts.{text_of_lines, lines_of}
use Rattle.brisk_derivtext.proofs.Differ.{line_unended, lines_differ}
use Rattle.brisk_derivtext.proofs.Once.{first_read, behind, same_ok}
use Rattle.brisk_derivtext.proofs.Written.{some_bounded}
use Rattle.brisk_check.specs.Checking.{Reader, calls_in, calls_for, Walking, after_calls, Checking, begun, stood, taken, byte, feed, judged, walk_ends, is_done, unless_undone, unless_failed, finish}
use Rattle.brisk_check.specs.Laws.{IsReader, VerdictIsGiven, FaultIsTold}
use Rattle.brisk_check.proofs.Calls.{after_append, walk_gives}
use Rattle.brisk_check.proofs.Kept.{main_calls, Kept, kept_start, next_keeps}
use Rattle.brisk_values.proofs.Changes.{both_true}

-- ---- a line is read

pub reads_line : (read : Reader) → IsReader read → (l : Line) → IsLegal l → read (line_text l) ≡ Some l
reads_line read reader l h = by (read (line_text l)) (reader (line_text l))
  where
    by : (o : Option Line) → Reads line_text IsLegal (line_text l) o → o ≡ Some l
    by None k = absurd (k l h refl)
    by (Some m) k = ap Some (sym (lines_differ l m h k.1 k.0))

-- ---- bytes of a line

other_byte : (x : ℕ) → differs 10 x ≡ true → (x == 10) ≡ false
other_byte x e = not-true (x == 10) e

pub feed_rest : (read : Reader) (c : Checking) (t more : Text) → Lacks 10 t → feed read c (t ++ more) ≡ feed read (record c { rest = c.rest ++ t }) more
feed_rest read c [] more h = ap (λ z. feed read (record c { rest = z }) more) (sym (append-nil c.rest))
feed_rest read c (x ∷ t) more h =
    let two = both_true (differs 10 x) (list_all (differs 10) t) h in
    ap (λ z. feed read (if z then taken c c.fault (read c.rest) else record c { rest = c.rest ++ x ∷ [] }) (t ++ more)) (other_byte x two.0)
    ∙ feed_rest read (record c { rest = c.rest ++ x ∷ [] }) t more two.1
    ∙ ap (λ z. feed read (record c { rest = z }) more) (append_assoc c.rest (x ∷ []) t)

-- a checker at the beginning of a line, where nothing has failed
abbrev pub standing : ℕ → Reading → Walking → Checking
standing n r w = record { rest = []; whole = n; reading = r; fault = None; walk = w }

-- the same with bytes of a line
abbrev with_bytes : ℕ → Reading → Walking → Text → Checking
with_bytes n r w t = record { rest = t; whole = n; reading = r; fault = None; walk = w }

feed_line : (read : Reader) (n : ℕ) (r : Reading) (w : Walking) (t more : Text) → Lacks 10 t → feed read (standing n r w) (t ++ 10 ∷ more) ≡ feed read (taken (with_bytes n r w t) None (read t)) more
feed_line read n r w t more h = feed_rest read (standing n r w) t (10 ∷ more) h

-- a whole line that is one
feed_legal : (read : Reader) → IsReader read → (n : ℕ) (r : Reading) (w : Walking) (l : Line) (more : Text) → IsLegal l → feed read (standing n r w) (line_text l ++ 10 ∷ more) ≡ feed read (stood (with_bytes n r w (line_text l)) l (read_line r l)) more
feed_legal read reader n r w l more h =
    feed_line read n r w (line_text l) more (line_unended l h) ∙ ap (λ o. feed read (taken (with_bytes n r w (line_text l)) None o) more) (reads_line read reader l h)

-- ---- lines

-- the walk has made the calls of the main steps
abbrev Walks : Program → Reading → Walking → Type 0
Walks P r w = w ≡ after_calls (main_calls r) (record { walked = walk.start P; failure = None })

record FedLines (read : Reader) (P : Program) (n : ℕ) (r : Reading) (w : Walking) (text more : Text) (m : ℕ) (h : Reading) : Type 0 where
  at : Walking
  fed : feed read (standing n r w) (text ++ more) ≡ feed read (standing m h at) more
  walks : Walks P h at
  kept : Kept h

one_more : (n : ℕ) (l : Line) (ls : List Line) → n + 1 + length ls ≡ n + length (l ∷ ls)
one_more n l ls = omega arith

fed_lines : (read : Reader) (P : Program) → IsReader read → (ls : List Line) (n : ℕ) (r h : Reading) (w : Walking) (more : Text) → AllByRecursion IsLegal ls → read_all ls r ≡ Ok h → Kept r → Walks P r w → FedLines read P n r w (text_of_lines ls) more (n + length ls) h
fed_lines read P reader [] n r h w more g e k q =
    let same = same_ok e in
    record {
      at = w;
      fed = (λ i. feed read (standing (none n i) (same i) w) more);
      walks = subst (λ z. Walks P z w) same q;
      kept = subst Kept same k;
    }
  where
    none : (n : ℕ) → n ≡ n + 0
    none n = omega arith
fed_lines read P reader (l ∷ ls) n r h w more g e k q =
    let one = first_read (read_line r l) (read_all ls) h e in
    let kept = next_keeps r one.0 l k (some_bounded (next r l) one.0 one.1) in
    let w2 = after_calls (calls_for r l) w in
    let walks : Walks P one.0 w2 =
    ap (after_calls (calls_for r l)) q
    ∙ sym (after_append (main_calls r) (calls_for r l) (record { walked = walk.start P; failure = None }))
    ∙ ap (λ z. after_calls z (record { walked = walk.start P; failure = None })) (sym kept.1) in
    let rest = fed_lines read P reader ls (n + 1) one.0 h w2 more g.1 one.2 kept.0 walks in
    record {
      at = rest.at;
      fed =
          ap (feed read (standing n r w)) (behind l ls more)
          ∙ feed_legal read reader n r w l (text_of_lines ls ++ more) g.0
          ∙ ap (λ z. feed read (stood (with_bytes n r w (line_text l)) l z) (text_of_lines ls ++ more)) one.1
          ∙ rest.fed
          ∙ ap (λ z. feed read (standing z h rest.at) more) (one_more n l ls);
      walks = rest.walks;
      kept = rest.kept;
    }

-- lines from the start
from_start : (read : Reader) (P : Program) → IsReader read → (ls : List Line) (h : Reading) (more : Text) → ComesTo ls h → FedLines read P 0 start (record { walked = walk.start P; failure = None }) (text_of_lines ls) more (length ls) h
from_start read P reader ls h more e =
    subst (λ z. FedLines read P 0 start (record { walked = walk.start P; failure = None }) (text_of_lines ls) more z h) (zero_more (length ls)) (fed_lines read P reader ls 0 start h (record { walked = walk.start P; failure = None }) more e.legal e.read kept_start refl)
  where
    zero_more : (n : ℕ) → 0 + n ≡ n
    zero_more n = omega arith

-- ---- the verdict

pub verdict_is_given : VerdictIsGiven
verdict_is_given read P f text seq D reader h =
    let fed = from_start read P reader h.lines h.last [] h.comes in
    let r = h.last in
    let done = fed.kept.done h.ended in
    let whole : text ≡ text_of_lines h.lines ++ [] = h.parts ∙ sym (append-nil (text_of_lines h.lines)) in
    let calls : main_calls r ≡ calls_in (lines_of D) =
    ap (λ t. if t then calls_in (lines_so_far r.body) else []) done.0
    ∙ ap (λ z. calls_in (lines_around z ++ lines_of r.body.steps)) done.1
    ∙ ap (λ z. calls_in (lines_of z)) h.steps in
    let gives : walk_ends fed.at.walked fed.at.failure ≡ outcome P D =
    walk_gives P D fed.at (fed.walks ∙ ap (λ z. after_calls z (record { walked = walk.start P; failure = None })) calls) in
    ap (λ z. finish (feed read (begun P) z) seq) whole
    ∙ ap (λ z. finish z seq) fed.fed
    ∙ ap (λ t. unless_undone t (length h.lines + 1) (judged seq (walk_ends fed.at.walked fed.at.failure))) h.ended
    ∙ ap (λ z. Ok (judged seq z)) gives

-- ---- faults

pub fault_kept : (read : Reader) (c : Checking) (f : TextFault) (bs : Text) → c.fault ≡ Some f → (feed read c bs).fault ≡ Some f
fault_kept read c f [] e = e
fault_kept read c f (x ∷ bs) e = fault_kept read (byte read c x) f bs (by (x == 10))
  where
    taken_so : (o : Option TextFault) → o ≡ Some f → c.fault ≡ Some f → (taken c o (read c.rest)).fault ≡ Some f
    taken_so None k g = absurd (let w = k in cc)
    taken_so (Some z) k g = g

    by : (t : Bool) → (if t then taken c c.fault (read c.rest) else record c { rest = c.rest ++ x ∷ [] }).fault ≡ Some f
    by true = taken_so c.fault e e
    by false = e

pub told : (c : Checking) (f : TextFault) (seq : Text) → c.fault ≡ Some f → finish c seq ≡ Err f
told c f seq e = ap (λ z. unless_failed z (unless_undone (is_done c.rest c.reading.ended) (c.whole + 1) (judged seq (walk_ends c.walk.walked c.walk.failure)))) e

-- bytes that lack byte 10, or those of a line and those behind it
pub first_end : (b : Text) → Lacks 10 b ⊎ ((t : Text) × (more : Text) × Lacks 10 t × (b ≡ t ++ 10 ∷ more))
first_end [] = inl refl
first_end (x ∷ b) = by (x == 10) refl (first_end b)
  where
    joins : (t : Text) → (x == 10) ≡ false → Lacks 10 t → Lacks 10 (x ∷ t)
    joins t e h = ap (λ z. not z && list_all (differs 10) t) e ∙ h

    by : (t : Bool) → (x == 10) ≡ t → Lacks 10 b ⊎ ((t : Text) × (more : Text) × Lacks 10 t × (b ≡ t ++ 10 ∷ more)) → Lacks 10 (x ∷ b) ⊎ ((t : Text) × (more : Text) × Lacks 10 t × (x ∷ b ≡ t ++ 10 ∷ more))
    by true e k = inr ([], b, refl, ap (λ z. z ∷ b) (eqb-true x 10 e))
    by false e (inl k) = inl (joins b e k)
    by false e (inr k) = inr (x ∷ k.0, k.1, joins k.0 e k.2, ap (λ z. x ∷ z) k.3)

undone : (rest : Text) (ended : Bool) → ((ended ≡ true) × (rest ≡ []) → ⊥) → is_done rest ended ≡ false
undone (x ∷ rest) ended h = refl
undone [] true h = absurd (h (refl, refl))
undone [] false h = refl

refused : (r : Reading) (l : Line) → next r l ≡ None → read_line r l ≡ Err NoLine
refused r l e = ap bounded e

-- a whole line that can't stand
line_fails : (n : ℕ) (r : Reading) (w : Walking) (t more rest : Text) (o : Option Line) → Reads line_text IsLegal t o → rest ≡ t ++ 10 ∷ more → ((l : Line) (m : Text) → BeginsWith rest l m → next r l ≡ None) → (taken (with_bytes n r w t) None o).fault ≡ Some (AtLine (n + 1))
line_fails n r w t more rest None k e h = refl
line_fails n r w t more rest (Some l) k e h =
    ap (λ z. (stood (with_bytes n r w t) l z).fault) (refused r l (h l more (k.1, e ∙ ap (λ z. z ++ 10 ∷ more) k.0)))

at_line : (read : Reader) → IsReader read → (n : ℕ) (r : Reading) (w : Walking) (rest seq : Text) → ((r.ended ≡ true) × (rest ≡ []) → ⊥) → ((l : Line) (m : Text) → BeginsWith rest l m → next r l ≡ None) → Lacks 10 rest ⊎ ((t : Text) × (more : Text) × Lacks 10 t × (rest ≡ t ++ 10 ∷ more)) → finish (feed read (standing n r w) rest) seq ≡ Err (AtLine (n + 1))
at_line read reader n r w rest seq h k (inl lacks) =
    ap (λ z. finish (feed read (standing n r w) z) seq) (sym (append-nil rest))
    ∙ ap (λ z. finish z seq) (feed_rest read (standing n r w) rest [] lacks)
    ∙ ap (λ t. unless_undone t (n + 1) (judged seq (walk_ends w.walked w.failure))) (undone rest r.ended h)
at_line read reader n r w rest seq h k (inr (t, more, lacks, e)) =
    ap (λ z. finish (feed read (standing n r w) z) seq) e
    ∙ ap (λ z. finish z seq) (feed_line read n r w t more lacks)
    ∙ told (feed read (taken (with_bytes n r w t) None (read t)) more) (AtLine (n + 1)) seq (fault_kept read (taken (with_bytes n r w t) None (read t)) (AtLine (n + 1)) more (line_fails n r w t more rest (read t) (reader t) e k))

behind_fault : (read : Reader) → IsReader read → (ls : List Line) (r : Reading) (w : Walking) (rest seq : Text) (f : TextFault) → FailsBehind ls r rest f → finish (feed read (standing (length ls) r w) rest) seq ≡ Err f
behind_fault read reader ls r w rest seq (AtLine k) f = at_line read reader (length ls) r w rest seq f.1 f.2 (first_end rest) ∙ ap (λ z. Err (AtLine z)) (sym f.0)
behind_fault read reader ls r w rest seq (TooLarge k) f =
    let n = length ls in
    let l = f.1 in
    let c = stood (with_bytes n r w (line_text l)) l (Err TooLong) in
    ap (λ z. finish (feed read (standing n r w) z) seq) f.3.1
    ∙ ap (λ z. finish z seq) (feed_legal read reader n r w l f.2 f.3.0)
    ∙ ap (λ z. finish (feed read (stood (with_bytes n r w (line_text l)) l z) f.2) seq) f.4
    ∙ told (feed read c f.2) (TooLarge (n + 1)) seq (fault_kept read c (TooLarge (n + 1)) f.2 refl)
    ∙ ap (λ z. Err (TooLarge z)) (sym f.0)

pub fault_is_told : FaultIsTold
fault_is_told read P text seq fault reader h =
    let fed = from_start read P reader h.before h.here h.rest h.comes in
    ap (λ z. finish (feed read (begun P) z) seq) h.parts
    ∙ ap (λ z. finish z seq) fed.fed
    ∙ behind_fault read reader h.before h.here fed.at h.rest seq fault h.fails
