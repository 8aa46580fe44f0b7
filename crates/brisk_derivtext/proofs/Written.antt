-- What is written in format 1 is read back, and what is read in format 1 is a text of its steps.
use Rattle.std.proofs.Common.{◌≡◌, ◌≤◌, ◌+◌, Bool, true, false, not, ◌||◌, ◌&&◌, List, [], ◌∷◌, ◌++◌, length, Option, Some, None, refl, sym, ap, subst, ◌∙◌, length-append, arith}
use Rattle.std.specs.Prelude.{if◌then◌else◌, nat_lt, is_none, Ok, Err}
use Rattle.std.specs.List.{AllByRecursion}
use Rattle.std.proofs.lemmas.Bool.{le-ltb, ltb-false}
use Rattle.brisk_values.specs.Names.{Name}
use Rattle.brisk_derivation.specs.Depths.{steps_depth}
use Rattle.brisk_derivation.specs.Steps.{Steps}
use Rattle.brisk_derivtext.specs.declared.line.Format.{Format}
use Rattle.brisk_derivtext.specs.declared.line.Format.TheVariants.{Format1, Format2}
use Rattle.brisk_derivtext.specs.declared.line.Line.{Line}
use Rattle.brisk_derivtext.specs.declared.line.Line.TheVariants.{Head, Plain, Fork, Enter, Else, Join, Close, End, Part, EndPart, Use}
use Rattle.brisk_derivtext.specs.Lines.{IsLegal}
use Rattle.brisk_derivtext.specs.Laws.{WrittenIsRead, ReadIsWritten, TextsDiffer}
use Rattle.brisk_derivtext.specs.declared.open.Open.{Open}
use Rattle.brisk_derivtext.specs.Reading.{◌then◌, Body, empty, put, lines_around, lines_so_far, Ended, Reading, start, with_body, with_steps, is_empty, is_whole, part_ended, part_named, used, at_head, behind_head, in_format, next, TooLong, within_bytes, bounded, and_then, read_line, read_all, ComesTo}
use Rattle.brisk_derivtext.specs.Texts.{text_of_lines, lines_of, derivation_lines, most_bytes, most_nested, AreFew, HasText}
use Rattle.brisk_derivtext.proofs.Appended.{texts_append}
use Rattle.brisk_derivtext.proofs.Once.{first_read, no_ok, same_ok, same_some, read_once}
use Rattle.brisk_derivtext.proofs.Putting.{go_on, put_all, first_put, steps_put, all_grow, all_nested, nothing_put}

-- ---- few bytes

pub few_front : (xs ys : List Line) → AreFew (xs ++ ys) → AreFew xs
few_front xs ys h =
    let e : length (text_of_lines (xs ++ ys)) ≡ length (text_of_lines xs) + length (text_of_lines ys) = ap length (texts_append xs ys) ∙ length-append (text_of_lines xs) (text_of_lines ys) in
    omega (arith, h, e)

pub few_read : (r : Reading) → AreFew (lines_so_far r.body) → within_bytes r ≡ Ok r
few_read r h = ap (λ t. if t then Err TooLong else Ok r) (le-ltb most_bytes (length (text_of_lines (lines_so_far r.body))) h)

pub read_few : (r v : Reading) → within_bytes r ≡ Ok v → (r ≡ v) × AreFew (lines_so_far r.body)
read_few r v e = by (nat_lt most_bytes (length (text_of_lines (lines_so_far r.body)))) refl e
  where
    by : (t : Bool) → nat_lt most_bytes (length (text_of_lines (lines_so_far r.body))) ≡ t → (if t then Err TooLong else Ok r) ≡ Ok v → (r ≡ v) × AreFew (lines_so_far r.body)
    by true k p = absurd (no_ok p)
    by false k p = (same_ok p, ltb-false most_bytes (length (text_of_lines (lines_so_far r.body))) k)

-- ---- lines of steps in a text

-- a text of a format that is being read
abbrev pub reading : Format → List Ended → Option Name → Bool → Body → Reading
reading f ps p m b = record { format = Some f; parts = ps; part = p; main = m; body = b; ended = false }

behind_put : (f : Format) (r : Reading) (l : Line) (c : Body) → put l r.body ≡ Some c → behind_head f r l ≡ Some (with_body r c)
behind_put Format1 r (Plain s) c e = ap (with_steps r) e
behind_put Format1 r (Fork t) c e = ap (with_steps r) e
behind_put Format1 r (Enter t) c e = ap (with_steps r) e
behind_put Format1 r Else c e = ap (with_steps r) e
behind_put Format1 r Join c e = ap (with_steps r) e
behind_put Format1 r Close c e = ap (with_steps r) e
behind_put Format2 r (Plain s) c e = ap (with_steps r) e
behind_put Format2 r (Fork t) c e = ap (with_steps r) e
behind_put Format2 r (Enter t) c e = ap (with_steps r) e
behind_put Format2 r Else c e = ap (with_steps r) e
behind_put Format2 r Join c e = ap (with_steps r) e
behind_put Format2 r Close c e = ap (with_steps r) e
behind_put f r (Head g) c e = absurd (nothing_put e)
behind_put f r End c e = absurd (nothing_put e)
behind_put f r (Part n) c e = absurd (nothing_put e)
behind_put f r EndPart c e = absurd (nothing_put e)
behind_put f r (Use n) c e = absurd (nothing_put e)

pub read_put : (f : Format) (ps : List Ended) (p : Option Name) (m : Bool) (b c : Body) (l : Line) → put l b ≡ Some c → AreFew (lines_so_far c) → read_line (reading f ps p m b) l ≡ Ok (reading f ps p (m || is_none p) c)
read_put f ps p m b c l e h = ap bounded (behind_put f (reading f ps p m b) l c e) ∙ few_read (reading f ps p (m || is_none p) c) h

pub read_puts : (ls more : List Line) (f : Format) (ps : List Ended) (p : Option Name) (m : Bool) (b c : Body) → put_all ls b ≡ Some c → AreFew (lines_so_far c) → (n : Bool) × (read_all (ls ++ more) (reading f ps p m b) ≡ read_all more (reading f ps p n c))
read_puts [] more f ps p m b c e h = (m, ap (λ z. read_all more (reading f ps p m z)) (same_some e))
read_puts (l ∷ ls) more f ps p m b c e h =
    let one = first_put (put l b) (put_all ls) c e in
    let few : AreFew (lines_so_far one.0) = few_front (lines_so_far one.0) ls (subst AreFew (all_grow ls one.0 c one.2) h) in
    let rest = read_puts ls more f ps p (m || is_none p) one.0 c one.2 h in
    (rest.0, ap (λ z. and_then z (read_all (ls ++ more))) (read_put f ps p m b one.0 l one.1 few) ∙ rest.1)

-- ---- what is written is read

pub legal_append : (xs ys : List Line) → AllByRecursion IsLegal xs → AllByRecursion IsLegal ys → AllByRecursion IsLegal (xs ++ ys)
legal_append [] ys h k = k
legal_append (x ∷ xs) ys h k = (h.0, legal_append xs ys h.1 k)

pub legal_front : (xs ys : List Line) → AllByRecursion IsLegal (xs ++ ys) → AllByRecursion IsLegal xs
legal_front [] ys h = tt
legal_front (x ∷ xs) ys h = (h.0, legal_front xs ys h.1)

-- the body of a whole derivation
abbrev whole_of : Steps → Body
whole_of D = record { entered = []; steps = D }

-- the lines of a derivation come to it
pub record Comes (D : Steps) : Type 0 where
  pub last : Reading
  pub comes : ComesTo (derivation_lines D) last
  pub format : last.format ≡ Some Format1
  pub ended : last.ended ≡ true
  pub steps : last.body.steps ≡ D

pub derivation_comes : (D : Steps) → HasText D → Comes D
derivation_comes D h =
    let r = read_puts (lines_of D) (End ∷ []) Format1 [] None false empty (whole_of D) (steps_put D empty (let n = h.nested in omega arith)) h.few in
    let last : Reading = record (reading Format1 [] None r.0 (whole_of D)) { ended = true } in
    record {
      last = last;
      comes = record {
        legal = (tt, legal_append (lines_of D) (End ∷ []) h.legal (tt, tt));
        read = r.1 ∙ ap (λ z. and_then z (read_all [])) (few_read last h.few);
      };
      format = refl;
      ended = refl;
      steps = refl;
    }

pub written_is_read : WrittenIsRead
written_is_read text D h =
    let c = derivation_comes D h.0 in
    record { lines = derivation_lines D; last = c.last; parts = h.1; comes = c.comes; format = c.format; ended = c.ended; steps = c.steps }

pub texts_differ : TextsDiffer
texts_differ text D E h k = (read_once text Format1 Format1 D E (written_is_read text D h) (written_is_read text E k)).1

-- ---- what is read is written

-- the lines of a whole text behind its head: lines of steps that come to this body, and the end
pub record Taken (ls : List Line) (b : Body) (h : Reading) : Type 0 where
  pub inner : List Line
  pub parts : ls ≡ inner ++ End ∷ []
  pub put : put_all inner b ≡ Some h.body
  pub closed : h.body.entered ≡ []
  pub few : AreFew (lines_so_far h.body)

pub none_entered : (os : List Open) → is_empty os ≡ true → os ≡ []
none_entered [] e = refl
none_entered (o ∷ os) e = absurd (let w = e in cc)

pub no_more : (ls : List Line) (r h : Reading) → r.ended ≡ true → read_all ls r ≡ Ok h → (ls ≡ []) × (r ≡ h)
no_more [] r h e p = (refl, same_ok p)
no_more (l ∷ ls) r h e p =
    let one = first_read (read_line r l) (read_all ls) h p in
    let none : next r l ≡ None = ap (λ t. if t then None else in_format r.format r l) e in
    absurd (no_ok (sym (ap bounded none) ∙ one.1))

-- the end is read
ends : (ls : List Line) (m : Bool) (b : Body) (h : Reading) (whole : Bool) → is_empty b.entered ≡ whole → and_then (bounded (if whole then Some (record (reading Format1 [] None m b) { ended = true }) else None)) (read_all ls) ≡ Ok h → Taken (End ∷ ls) b h
ends ls m b h false k p = absurd (no_ok p)
ends ls m b h true k p =
    let r : Reading = record (reading Format1 [] None m b) { ended = true } in
    let one = first_read (within_bytes r) (read_all ls) h p in
    let here = read_few r one.0 one.1 in
    let done = no_more ls one.0 h (subst (λ (z : Reading). z.ended ≡ true) here.0 refl) one.2 in
    let same : r ≡ h = here.0 ∙ done.1 in
    record {
      inner = [];
      parts = ap (λ z. End ∷ z) done.0;
      put = ap (λ (z : Reading). Some z.body) same;
      closed = subst (λ (z : Reading). z.body.entered ≡ []) same (none_entered b.entered k);
      few = subst (λ (z : Reading). AreFew (lines_so_far z.body)) same here.1;
    }

-- a line of steps is read, and then more
steps_on : (l : Line) (ls : List Line) (m : Bool) (b : Body) (h : Reading) (o : Option Body) → put l b ≡ o → and_then (bounded (with_steps (reading Format1 [] None m b) o)) (read_all ls) ≡ Ok h → ((n : Bool) (c : Body) → read_all ls (reading Format1 [] None n c) ≡ Ok h → Taken ls c h) → Taken (l ∷ ls) b h
steps_on l ls m b h None k p more = absurd (no_ok p)
steps_on l ls m b h (Some c) k p more =
    let r : Reading = reading Format1 [] None (m || true) c in
    let one = first_read (within_bytes r) (read_all ls) h p in
    let here = read_few r one.0 one.1 in
    let t = more (m || true) c (subst (λ (z : Reading). read_all ls z ≡ Ok h) (sym here.0) one.2) in
    record {
      inner = l ∷ t.inner;
      parts = ap (λ z. l ∷ z) t.parts;
      put = ap (λ z. go_on z (put_all t.inner)) k ∙ t.put;
      closed = t.closed;
      few = t.few;
    }

pub takes : (ls : List Line) (m : Bool) (b : Body) (h : Reading) → h.ended ≡ true → read_all ls (reading Format1 [] None m b) ≡ Ok h → Taken ls b h
takes [] m b h e p = absurd (let w : false ≡ true = ap (λ (z : Reading). z.ended) (same_ok p) ∙ e in cc)
takes (End ∷ ls) m b h e p = ends ls m b h (is_empty b.entered) refl p
takes (Plain s ∷ ls) m b h e p = steps_on (Plain s) ls m b h (put (Plain s) b) refl p (λ n c q. takes ls n c h e q)
takes (Fork s ∷ ls) m b h e p = steps_on (Fork s) ls m b h (put (Fork s) b) refl p (λ n c q. takes ls n c h e q)
takes (Enter s ∷ ls) m b h e p = steps_on (Enter s) ls m b h (put (Enter s) b) refl p (λ n c q. takes ls n c h e q)
takes (Else ∷ ls) m b h e p = steps_on Else ls m b h (put Else b) refl p (λ n c q. takes ls n c h e q)
takes (Join ∷ ls) m b h e p = steps_on Join ls m b h (put Join b) refl p (λ n c q. takes ls n c h e q)
takes (Close ∷ ls) m b h e p = steps_on Close ls m b h (put Close b) refl p (λ n c q. takes ls n c h e q)
takes (Head f ∷ ls) m b h e p = absurd (no_ok p)
takes (Part f ∷ ls) m b h e p = absurd (no_ok p)
takes (EndPart ∷ ls) m b h e p = absurd (no_ok p)
takes (Use f ∷ ls) m b h e p = absurd (no_ok p)

-- the format stays
steps_keep : (r v : Reading) (o : Option Body) → with_steps r o ≡ Some v → v.format ≡ r.format
steps_keep r v None e = absurd (let w = e in cc)
steps_keep r v (Some b) e = ap (λ (z : Reading). z.format) (sym (same_some e))

if_keeps : (r v w : Reading) (t : Bool) → w.format ≡ r.format → (if t then Some w else None) ≡ Some v → v.format ≡ r.format
if_keeps r v w true k e = ap (λ (z : Reading). z.format) (sym (same_some e)) ∙ k
if_keeps r v w false k e = absurd (let x = e in cc)

part_keeps : (r v : Reading) (p : Option Name) → part_ended r p ≡ Some v → v.format ≡ r.format
part_keeps r v None e = absurd (let w = e in cc)
part_keeps r v (Some n) e = if_keeps r v _ (is_whole r.body) refl e

behind_keeps : (r v : Reading) (l : Line) → behind_head Format2 r l ≡ Some v → v.format ≡ r.format
behind_keeps r v End e = if_keeps r v _ (is_none r.part && is_whole r.body) refl e
behind_keeps r v (Part n) e = if_keeps r v _ (is_none r.part && not r.main && is_none (part_named n r.parts)) refl e
behind_keeps r v EndPart e = part_keeps r v r.part e
behind_keeps r v (Use n) e = steps_keep r v (used r.body (part_named n r.parts)) e
behind_keeps r v (Plain s) e = steps_keep r v (put (Plain s) r.body) e
behind_keeps r v (Fork s) e = steps_keep r v (put (Fork s) r.body) e
behind_keeps r v (Enter s) e = steps_keep r v (put (Enter s) r.body) e
behind_keeps r v Else e = steps_keep r v (put Else r.body) e
behind_keeps r v Join e = steps_keep r v (put Join r.body) e
behind_keeps r v Close e = steps_keep r v (put Close r.body) e
behind_keeps r v (Head f) e = absurd (let w = e in cc)

first_keeps : (r v : Reading) (l : Line) → behind_head Format1 r l ≡ Some v → v.format ≡ r.format
first_keeps r v End e = if_keeps r v _ (is_none r.part && is_whole r.body) refl e
first_keeps r v (Plain s) e = steps_keep r v (put (Plain s) r.body) e
first_keeps r v (Fork s) e = steps_keep r v (put (Fork s) r.body) e
first_keeps r v (Enter s) e = steps_keep r v (put (Enter s) r.body) e
first_keeps r v Else e = steps_keep r v (put Else r.body) e
first_keeps r v Join e = steps_keep r v (put Join r.body) e
first_keeps r v Close e = steps_keep r v (put Close r.body) e
first_keeps r v (Head f) e = absurd (let w = e in cc)
first_keeps r v (Part f) e = absurd (let w = e in cc)
first_keeps r v EndPart e = absurd (let w = e in cc)
first_keeps r v (Use f) e = absurd (let w = e in cc)

-- behind the first line there is a format
abbrev pub HasFormat : Reading → Type 0
HasFormat r = (f : Format) × (r.format ≡ Some f)

head_has : (r v : Reading) (l : Line) → at_head r l ≡ Some v → HasFormat v
head_has r v (Head f) e = (f, ap (λ (z : Reading). z.format) (sym (same_some e)))
head_has r v End e = absurd (let w = e in cc)
head_has r v (Plain s) e = absurd (let w = e in cc)
head_has r v (Fork s) e = absurd (let w = e in cc)
head_has r v (Enter s) e = absurd (let w = e in cc)
head_has r v Else e = absurd (let w = e in cc)
head_has r v Join e = absurd (let w = e in cc)
head_has r v Close e = absurd (let w = e in cc)
head_has r v (Part f) e = absurd (let w = e in cc)
head_has r v EndPart e = absurd (let w = e in cc)
head_has r v (Use f) e = absurd (let w = e in cc)

format_has : (o : Option Format) (r v : Reading) (l : Line) → r.format ≡ o → in_format o r l ≡ Some v → HasFormat v
format_has None r v l k e = head_has r v l e
format_has (Some Format1) r v l k e = (Format1, first_keeps r v l e ∙ k)
format_has (Some Format2) r v l k e = (Format2, behind_keeps r v l e ∙ k)

pub next_has : (r v : Reading) (l : Line) → next r l ≡ Some v → HasFormat v
next_has r v l e = by r.ended e
  where
    by : (t : Bool) → (if t then None else in_format r.format r l) ≡ Some v → HasFormat v
    by true p = absurd (let w = p in cc)
    by false p = format_has r.format r v l refl p

pub some_bounded : (o : Option Reading) (v : Reading) → bounded o ≡ Ok v → o ≡ Some v
some_bounded None v e = absurd (no_ok e)
some_bounded (Some r) v e = ap Some (read_few r v e).0

next_keeps : (r v : Reading) (l : Line) (t : Bool) → r.format ≡ Some Format2 → (if t then None else in_format r.format r l) ≡ Some v → v.format ≡ Some Format2
next_keeps r v l true k e = absurd (let w = e in cc)
next_keeps r v l false k e = behind_keeps r v l (sym (ap (λ z. in_format z r l) k) ∙ e) ∙ k

pub all_keep : (ls : List Line) (r h : Reading) → r.format ≡ Some Format2 → read_all ls r ≡ Ok h → h.format ≡ Some Format2
all_keep [] r h k e = ap (λ (z : Reading). z.format) (sym (same_ok e)) ∙ k
all_keep (l ∷ ls) r h k e =
    let one = first_read (read_line r l) (read_all ls) h e in
    all_keep ls one.0 h (next_keeps r one.0 l r.ended k (some_bounded (next r l) one.0 one.1)) one.2

-- behind the head of format 1
front : (ls : List Line) (h : Reading) → h.format ≡ Some Format1 → h.ended ≡ true → read_all ls start ≡ Ok h → (rest : List Line) × (ls ≡ Head Format1 ∷ rest) × Taken rest empty h
front [] h f e p = absurd (let w : false ≡ true = ap (λ (z : Reading). z.ended) (same_ok p) ∙ e in cc)
front (Head Format1 ∷ ls) h f e p = (ls, refl, takes ls false empty h e p)
front (Head Format2 ∷ ls) h f e p =
    let k = all_keep ls (reading Format2 [] None false empty) h refl p in
    absurd (let w : Some Format1 ≡ Some Format2 = sym f ∙ k in cc)
front (Plain s ∷ ls) h f e p = absurd (no_ok p)
front (Fork s ∷ ls) h f e p = absurd (no_ok p)
front (Enter s ∷ ls) h f e p = absurd (no_ok p)
front (Else ∷ ls) h f e p = absurd (no_ok p)
front (Join ∷ ls) h f e p = absurd (no_ok p)
front (Close ∷ ls) h f e p = absurd (no_ok p)
front (End ∷ ls) h f e p = absurd (no_ok p)
front (Part s ∷ ls) h f e p = absurd (no_ok p)
front (EndPart ∷ ls) h f e p = absurd (no_ok p)
front (Use s ∷ ls) h f e p = absurd (no_ok p)

pub read_is_written : ReadIsWritten
read_is_written text D h =
    let r = front h.lines h.last h.format h.ended h.comes.read in
    let t = r.2 in
    let b = h.last.body in
    let so_far : lines_so_far b ≡ lines_of b.steps = ap (λ z. lines_around z ++ lines_of b.steps) t.closed in
    let inner : t.inner ≡ lines_of D = sym (all_grow t.inner empty b t.put) ∙ so_far ∙ ap lines_of h.steps in
    let lines : h.lines ≡ derivation_lines D = r.1 ∙ ap (λ z. Head Format1 ∷ z) t.parts ∙ ap (λ z. Head Format1 ∷ (z ++ End ∷ [])) inner in
    let deep = (all_nested t.inner empty b (omega arith, tt) t.put).0 in (
      record {
        legal = legal_front (lines_of D) (End ∷ []) (subst (AllByRecursion IsLegal) lines h.comes.legal).1;
        nested = subst (λ z. steps_depth z ≤ most_nested) h.steps (omega arith);
        few = subst (λ z. AreFew (lines_of z)) h.steps (subst AreFew so_far t.few);
      },
      h.parts ∙ ap text_of_lines lines,
    )

-- a text that begins in format 1 stays in it
first_next : (r v : Reading) (l : Line) (t : Bool) → r.format ≡ Some Format1 → (if t then None else in_format r.format r l) ≡ Some v → v.format ≡ Some Format1
first_next r v l true k e = absurd (let w = e in cc)
first_next r v l false k e = first_keeps r v l (sym (ap (λ z. in_format z r l) k) ∙ e) ∙ k

pub first_keep : (ls : List Line) (r h : Reading) → r.format ≡ Some Format1 → read_all ls r ≡ Ok h → h.format ≡ Some Format1
first_keep [] r h k e = ap (λ (z : Reading). z.format) (sym (same_ok e)) ∙ k
first_keep (l ∷ ls) r h k e =
    let one = first_read (read_line r l) (read_all ls) h e in
    first_keep ls one.0 h (first_next r one.0 l r.ended k (some_bounded (next r l) one.0 one.1)) one.2
