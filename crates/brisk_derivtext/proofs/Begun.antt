-- Lines that can stand are those that begin a text.
use Rattle.std.proofs.Common.{◌≡◌, ◌≤◌, Bool, true, false, ◌||◌, List, [], ◌∷◌, ◌++◌, Option, Some, None, refl, sym, ap, subst, ◌∙◌, append_assoc, append-nil, arith}
use Rattle.std.specs.Prelude.{if◌then◌else◌, Ok}
use Rattle.std.specs.List.{AllByRecursion}
use Rattle.brisk_derivation.specs.Depths.{steps_depth}
use Rattle.brisk_derivation.specs.Steps.{Branch, Steps, no_steps, ◌▷◌}
use Rattle.brisk_derivtext.specs.declared.line.Format.TheVariants.{Format1, Format2}
use Rattle.brisk_derivtext.specs.declared.line.Line.{Line}
use Rattle.brisk_derivtext.specs.declared.line.Line.TheVariants.{Head, Plain, Fork, Enter, Else, Join, Close, End, Part, EndPart, Use}
use Rattle.brisk_derivtext.specs.Lines.{IsLegal}
use Rattle.brisk_derivtext.specs.Laws.{LinesBegin, BeginningsStand}
use Rattle.brisk_derivtext.specs.declared.open.Open.{Open}
use Rattle.brisk_derivtext.specs.declared.open.Open.TheVariants.{InLoop, InFirst, InSecond}
use Rattle.brisk_derivtext.specs.Reading.{Body, empty, put, ◌then◌, around, lines_so_far, Reading, start, with_steps, is_empty, in_format, within_bytes, bounded, and_then, read_line, read_all}
use Rattle.brisk_derivtext.specs.Texts.{lines_of, derivation_lines, most_nested}
use Rattle.brisk_derivtext.proofs.Once.{first_read, no_ok, same_ok}
use Rattle.brisk_derivtext.proofs.Putting.{go_on, put_all, grows, all_grow, IsNested, stays_nested, all_nested}
use Rattle.brisk_derivtext.proofs.Written.{reading, read_few, takes, all_keep, legal_front, legal_append, derivation_comes}

-- ---- what can stand begins a text

-- a body goes on to a whole derivation
record GoesOn (b : Body) : Type 0 where
  steps : Steps
  more : List Line
  lines : lines_so_far b ++ more ≡ lines_of steps
  legal : AllByRecursion IsLegal more
  nested : steps_depth steps ≤ most_nested

-- by one more line
by_line : (l : Line) (b c : Body) → IsLegal l → put l b ≡ Some c → GoesOn c → GoesOn b
by_line l b c h e g = record {
  steps = g.steps;
  more = l ∷ g.more;
  lines = sym (append_assoc (lines_so_far b) (l ∷ []) g.more) ∙ ap (λ z. z ++ g.more) (sym (grows l b c e)) ∙ g.lines;
  legal = (h, g.legal);
  nested = g.nested;
}

goes_on : (os : List Open) (a : Steps) → IsNested (record { entered = os; steps = a }) → GoesOn (record { entered = os; steps = a })
goes_on [] a h = record { steps = a; more = []; lines = append-nil (lines_of a); legal = tt; nested = (let k = h.0 in omega arith) }
goes_on (InLoop before r ∷ os) a h =
    let c : Body = record { entered = os; steps = before then (around r a ▷ no_steps) } in
    let b : Body = record { entered = InLoop before r ∷ os; steps = a } in
    by_line Close b c tt refl (goes_on os c.steps (stays_nested Close b c h refl))
goes_on (InSecond before t first ∷ os) a h =
    let c : Body = record { entered = os; steps = before then (Branch t first a ▷ no_steps) } in
    let b : Body = record { entered = InSecond before t first ∷ os; steps = a } in
    by_line Join b c tt refl (goes_on os c.steps (stays_nested Join b c h refl))
goes_on (InFirst before t ∷ os) a h =
    let d : Body = record { entered = os; steps = before then (Branch t a no_steps ▷ no_steps) } in
    let c : Body = record { entered = InSecond before t a ∷ os; steps = no_steps } in
    let b : Body = record { entered = InFirst before t ∷ os; steps = a } in
    let inner = stays_nested Else b c h refl in
    by_line Else b c tt refl (by_line Join c d tt refl (goes_on os d.steps (stays_nested Join c d inner refl)))

-- lines that don't end are lines of steps
steps_on : (l : Line) (ls : List Line) (m : Bool) (b : Body) (h : Reading) (o : Option Body) → put l b ≡ o → and_then (bounded (with_steps (reading Format1 [] None m b) o)) (read_all ls) ≡ Ok h → ((n : Bool) (c : Body) → read_all ls (reading Format1 [] None n c) ≡ Ok h → put_all ls c ≡ Some h.body) → put_all (l ∷ ls) b ≡ Some h.body
steps_on l ls m b h None k p more = absurd (no_ok p)
steps_on l ls m b h (Some c) k p more =
    let r : Reading = reading Format1 [] None (m || true) c in
    let one = first_read (within_bytes r) (read_all ls) h p in
    let here = read_few r one.0 one.1 in
    ap (λ z. go_on z (put_all ls)) k ∙ more (m || true) c (subst (λ (z : Reading). read_all ls z ≡ Ok h) (sym here.0) one.2)

-- once the end was read it stays so
end_stays : (ls : List Line) (r h : Reading) → r.ended ≡ true → read_all ls r ≡ Ok h → h.ended ≡ true
end_stays [] r h e p = subst (λ (z : Reading). z.ended ≡ true) (same_ok p) e
end_stays (l ∷ ls) r h e p =
    let one = first_read (read_line r l) (read_all ls) h p in
    absurd (no_ok (sym (ap (λ t. bounded (if t then None else in_format r.format r l)) e) ∙ one.1))

no_end : (ls : List Line) (r h : Reading) (t : Bool) → h.ended ≡ false → and_then (bounded (if t then Some (record r { ended = true }) else None)) (read_all ls) ≡ Ok h → ⊥
no_end ls r h false e p = no_ok p
no_end ls r h true e p =
    let r2 : Reading = record r { ended = true } in
    let one = first_read (within_bytes r2) (read_all ls) h p in
    let here = read_few r2 one.0 one.1 in
    let k = end_stays ls one.0 h (subst (λ (z : Reading). z.ended ≡ true) here.0 refl) one.2 in
    let wrong : true ≡ false = sym k ∙ e in cc

unended : (ls : List Line) (m : Bool) (b : Body) (h : Reading) → h.ended ≡ false → read_all ls (reading Format1 [] None m b) ≡ Ok h → put_all ls b ≡ Some h.body
unended [] m b h e p = ap (λ (z : Reading). Some z.body) (same_ok p)
unended (End ∷ ls) m b h e p = absurd (no_end ls (reading Format1 [] None m b) h (is_empty b.entered) e p)
unended (Plain s ∷ ls) m b h e p = steps_on (Plain s) ls m b h (put (Plain s) b) refl p (λ n c q. unended ls n c h e q)
unended (Fork s ∷ ls) m b h e p = steps_on (Fork s) ls m b h (put (Fork s) b) refl p (λ n c q. unended ls n c h e q)
unended (Enter s ∷ ls) m b h e p = steps_on (Enter s) ls m b h (put (Enter s) b) refl p (λ n c q. unended ls n c h e q)
unended (Else ∷ ls) m b h e p = steps_on Else ls m b h (put Else b) refl p (λ n c q. unended ls n c h e q)
unended (Join ∷ ls) m b h e p = steps_on Join ls m b h (put Join b) refl p (λ n c q. unended ls n c h e q)
unended (Close ∷ ls) m b h e p = steps_on Close ls m b h (put Close b) refl p (λ n c q. unended ls n c h e q)
unended (Head f ∷ ls) m b h e p = absurd (no_ok p)
unended (Part f ∷ ls) m b h e p = absurd (no_ok p)
unended (EndPart ∷ ls) m b h e p = absurd (no_ok p)
unended (Use f ∷ ls) m b h e p = absurd (no_ok p)

-- a text goes on
abbrev Whole : List Line → Type 0
Whole ls = (D : Steps) × (more : List Line) × (ls ++ more ≡ derivation_lines D) × AllByRecursion IsLegal (lines_of D) × (steps_depth D ≤ most_nested)

behind_head : (ls : List Line) (r : Reading) (ended : Bool) → r.ended ≡ ended → AllByRecursion IsLegal ls → r.format ≡ Some Format1 → read_all ls (reading Format1 [] None false empty) ≡ Ok r → Whole (Head Format1 ∷ ls)
behind_head ls r false e h f p =
    let c = unended ls false empty r e p in
    let g = goes_on r.body.entered r.body.steps (all_nested ls empty r.body (omega arith, tt) c) in
    let lines : ls ++ g.more ≡ lines_of g.steps = ap (λ z. z ++ g.more) (sym (all_grow ls empty r.body c)) ∙ g.lines in (
      g.steps,
      g.more ++ End ∷ [],
      ap (λ z. Head Format1 ∷ z) (sym (append_assoc ls g.more (End ∷ [])) ∙ ap (λ z. z ++ End ∷ []) lines),
      subst (AllByRecursion IsLegal) lines (legal_append ls g.more h g.legal),
      g.nested,
    )
behind_head ls r true e h f p =
    let t = takes ls false empty r e p in
    let deep = (all_nested t.inner empty r.body (omega arith, tt) t.put).0 in
    let inner : t.inner ≡ lines_of r.body.steps = sym (all_grow t.inner empty r.body t.put) ∙ ap (λ z. lines_so_far (record { entered = z; steps = r.body.steps })) t.closed in (
      r.body.steps,
      [],
      ap (λ z. Head Format1 ∷ z) (append-nil ls ∙ t.parts ∙ ap (λ z. z ++ End ∷ []) inner),
      subst (AllByRecursion IsLegal) inner (legal_front t.inner (End ∷ []) (subst (AllByRecursion IsLegal) t.parts h)),
      omega arith,
    )

pub lines_begin : LinesBegin
lines_begin ls r c f = by ls c.legal c.read
  where
    by : (ls : List Line) → AllByRecursion IsLegal ls → read_all ls start ≡ Ok r → Whole ls
    by [] h p = absurd (let w : None ≡ Some Format1 = ap (λ (z : Reading). z.format) (same_ok p) ∙ f in cc)
    by (Head Format1 ∷ ls) h p = behind_head ls r r.ended refl h.1 f p
    by (Head Format2 ∷ ls) h p = absurd (let w : Some Format1 ≡ Some Format2 = sym f ∙ all_keep ls (reading Format2 [] None false empty) r refl p in cc)
    by (Plain s ∷ ls) h p = absurd (no_ok p)
    by (Fork s ∷ ls) h p = absurd (no_ok p)
    by (Enter s ∷ ls) h p = absurd (no_ok p)
    by (Else ∷ ls) h p = absurd (no_ok p)
    by (Join ∷ ls) h p = absurd (no_ok p)
    by (Close ∷ ls) h p = absurd (no_ok p)
    by (End ∷ ls) h p = absurd (no_ok p)
    by (Part s ∷ ls) h p = absurd (no_ok p)
    by (EndPart ∷ ls) h p = absurd (no_ok p)
    by (Use s ∷ ls) h p = absurd (no_ok p)

-- ---- what begins a text can stand

front_read : (xs ys : List Line) (r h : Reading) → read_all (xs ++ ys) r ≡ Ok h → (v : Reading) × (read_all xs r ≡ Ok v)
front_read [] ys r h e = (r, refl)
front_read (x ∷ xs) ys r h e =
    let one = first_read (read_line r x) (read_all (xs ++ ys)) h e in
    let rest = front_read xs ys one.0 h one.2 in
    (rest.0, ap (λ z. and_then z (read_all xs)) one.1 ∙ rest.1)

pub beginnings_stand : BeginningsStand
beginnings_stand D ls more h e =
    let w = derivation_comes D h in
    let r = front_read ls more start w.last (ap (λ z. read_all z start) e ∙ w.comes.read) in
    (r.0, record { legal = legal_front ls more (subst (AllByRecursion IsLegal) (sym e) w.comes.legal); read = r.1 })
