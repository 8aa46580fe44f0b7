-- What is read in format 2 is a text by its grammar.
use Rattle.std.proofs.Common.{◌≡◌, ◌≤◌, ◌+◌, Bool, true, false, not, ◌||◌, ◌&&◌, List, [], ◌∷◌, ◌++◌, length, Option, Some, None, refl, sym, ap, subst, ◌∙◌, append_assoc, append-nil, arith}
use Rattle.std.specs.Prelude.{if◌then◌else◌, nat_lt, is_none, option_map, Ok}
use Rattle.std.specs.List.{AllByRecursion}
use Rattle.std.proofs.lemmas.Bool.{ltb-false}
use Rattle.brisk_values.specs.Names.{Name}
use Rattle.brisk_derivation.specs.Depths.{steps_depth}
use Rattle.brisk_derivation.specs.Steps.{Basic, Branch, Steps, no_steps, ◌▷◌}
use Rattle.brisk_derivtext.specs.Laws.{ReadIsGrammar}
use Rattle.brisk_derivtext.specs.declared.line.Format.TheVariants.{Format1, Format2}
use Rattle.brisk_derivtext.specs.declared.line.Line.{Line}
use Rattle.brisk_derivtext.specs.declared.line.Line.TheVariants.{Head, Plain, Fork, Enter, Else, Join, Close, End, Part, EndPart, Use}
use Rattle.brisk_derivtext.specs.Lines.{IsLegal}
use Rattle.brisk_derivtext.specs.Parts.{Place, Step, Forked, Looped, Used, Places, nowhere, ◌⊳◌, place_lines, places_lines, both_steps, forked, put_in, in_place, Written, part_lines, parts_lines, AreWithin, PartsStand}
use Rattle.brisk_derivtext.specs.declared.open.Open.{Open}
use Rattle.brisk_derivtext.specs.declared.open.Open.TheVariants.{InLoop, InFirst, InSecond}
use Rattle.brisk_derivtext.specs.Reading.{Ended, Reading, start, part_named, used, with_steps, around, ◌then◌, Body, empty, in_rule, second_side, joined, closed, is_empty, put, lines_around, lines_so_far, within_bytes, bounded, and_then, read_all}
use Rattle.brisk_derivtext.specs.Texts.{text_of_lines, lines_of, most_nested, AreFew}
use Rattle.brisk_derivtext.proofs.Once.{same_some, same_ok, no_ok, first_read}
use Rattle.brisk_derivtext.proofs.Putting.{then_nothing, then_assoc, depth_then, entered_inverse, IsNested, stays_nested, nothing_put, same_body}
use Rattle.brisk_derivtext.proofs.Written.{reading, read_few, no_more, none_entered, first_keep}

-- ---- places behind places

infixl 5 ◌then_at◌
abbrev ◌then_at◌ : Places → Place → Places
nowhere then_at x = x ⊳ nowhere
(y ⊳ rest) then_at x = y ⊳ (rest then_at x)

lines_at : (p : Places) (x : Place) → places_lines (p then_at x) ≡ places_lines p ++ place_lines x
lines_at nowhere x = append-nil (place_lines x)
lines_at (y ⊳ rest) x = ap (λ z. place_lines y ++ z) (lines_at rest x) ∙ sym (append_assoc (place_lines y) (places_lines rest) (place_lines x))

in_both : (o p : Option Steps) (a : Steps) → both_steps o p ≡ Some a → (c : Steps) × (d : Steps) × (o ≡ Some c) × (p ≡ Some d) × (c then d ≡ a)
in_both None p a e = absurd (let w = e in cc)
in_both (Some c) None a e = absurd (let w = e in cc)
in_both (Some c) (Some d) a e = (c, d, refl, refl, same_some e)

placed : (ps : List Ended) (p : Places) (x : Place) (a s : Steps) → in_place ps p ≡ Some a → put_in ps x ≡ Some s → in_place ps (p then_at x) ≡ Some (a then s)
placed ps nowhere x a s e f =
    ap (λ z. both_steps z (Some no_steps)) f ∙ ap Some (then_nothing s) ∙ ap (λ z. Some (z then s)) (same_some e)
placed ps (y ⊳ rest) x a s e f =
    let k = in_both (put_in ps y) (in_place ps rest) a e in
    ap (λ z. both_steps z (in_place ps (rest then_at x))) k.2 ∙ ap (both_steps (Some k.0)) (placed ps rest x k.1 s k.3 f)
    ∙ ap Some (sym (then_assoc k.0 k.1 s)) ∙ ap (λ z. Some (z then s)) k.4

-- ---- the lines of a body

-- the lines of open rules, and of a body, with parts used in them
abbrev Around : List Ended → List Open → List Line → Type 0
Around ps [] ls = ls ≡ []
Around ps (InLoop a r ∷ os) ls = (us : List Line) × (p : Places) × Around ps os us × (in_place ps p ≡ Some a) × (ls ≡ us ++ (places_lines p ++ Enter r ∷ []))
Around ps (InFirst a t ∷ os) ls = (us : List Line) × (p : Places) × Around ps os us × (in_place ps p ≡ Some a) × (ls ≡ us ++ (places_lines p ++ Fork t ∷ []))
Around ps (InSecond a t b ∷ os) ls = (us : List Line) × (p : Places) × (q : Places) × Around ps os us × (in_place ps p ≡ Some a) × (in_place ps q ≡ Some b) × (ls ≡ us ++ (places_lines p ++ Fork t ∷ (places_lines q ++ Else ∷ [])))

record OfBody (ps : List Ended) (b : Body) (ls : List Line) : Type 0 where
  us : List Line
  p : Places
  outer : Around ps b.entered us
  steps : in_place ps p ≡ Some b.steps
  lines : ls ≡ us ++ places_lines p

-- a place more
placed_more : (ps : List Ended) (os : List Open) (us ls more : List Line) (p : Places) (x : Place) (a s : Steps) → Around ps os us → in_place ps p ≡ Some a → put_in ps x ≡ Some s → ls ≡ us ++ (places_lines p ++ place_lines x) → OfBody ps (record { entered = os; steps = a then s }) ls
placed_more ps os us ls more p x a s h e f k =
    record { us = us; p = p then_at x; outer = h; steps = placed ps p x a s e f; lines = k ∙ ap (λ z. us ++ z) (sym (lines_at p x)) }

entered_grows : (ps : List Ended) (b : Body) (o : Open) (c : Body) (ls : List Line) → Around ps (o ∷ b.entered) ls → in_rule b o ≡ Some c → OfBody ps c ls
entered_grows ps b o c ls h e =
    let k = entered_inverse b o c (nat_lt (length b.entered) most_nested) e in
    subst (λ z. OfBody ps z ls) k.1 (record { us = ls; p = nowhere; outer = h; steps = refl; lines = sym (append-nil ls) })

else_grows : (ps : List Ended) (os : List Open) (a : Steps) (c : Body) (ls : List Line) → OfBody ps (record { entered = os; steps = a }) ls → second_side os a ≡ Some c → OfBody ps c (ls ++ Else ∷ [])
else_grows ps [] a c ls h e = absurd (nothing_put e)
else_grows ps (InLoop d r ∷ os) a c ls h e = absurd (nothing_put e)
else_grows ps (InSecond d t f ∷ os) a c ls h e = absurd (nothing_put e)
else_grows ps (InFirst d t ∷ os) a c ls h e =
    let o = h.outer in
    let lines : ls ++ Else ∷ [] ≡ o.0 ++ (places_lines o.1 ++ Fork t ∷ (places_lines h.p ++ Else ∷ [])) = ap (λ z. z ++ Else ∷ []) (h.lines ∙ ap (λ z. z ++ places_lines h.p) o.4) ∙ simp append_assoc in
    subst (λ z. OfBody ps z (ls ++ Else ∷ [])) (same_body e)
    (record { us = ls ++ Else ∷ []; p = nowhere; outer = (o.0, o.1, h.p, o.2, o.3, h.steps, lines); steps = refl; lines = sym (append-nil (ls ++ Else ∷ [])) })

join_grows : (ps : List Ended) (os : List Open) (a : Steps) (c : Body) (ls : List Line) → OfBody ps (record { entered = os; steps = a }) ls → joined os a ≡ Some c → OfBody ps c (ls ++ Join ∷ [])
join_grows ps [] a c ls h e = absurd (nothing_put e)
join_grows ps (InLoop d r ∷ os) a c ls h e = absurd (nothing_put e)
join_grows ps (InFirst d t ∷ os) a c ls h e = absurd (nothing_put e)
join_grows ps (InSecond d t f ∷ os) a c ls h e =
    let o = h.outer in
    let put : put_in ps (Forked t o.2 h.p) ≡ Some (Branch t f a ▷ no_steps) = ap (λ z. forked t z (in_place ps h.p)) o.5 ∙ ap (forked t (Some f)) h.steps in
    let lines : ls ++ Join ∷ [] ≡ o.0 ++ (places_lines o.1 ++ place_lines (Forked t o.2 h.p)) = ap (λ z. z ++ Join ∷ []) (h.lines ∙ ap (λ z. z ++ places_lines h.p) o.6) ∙ simp append_assoc in
    subst (λ z. OfBody ps z (ls ++ Join ∷ [])) (same_body e) (placed_more ps os o.0 (ls ++ Join ∷ []) [] o.1 (Forked t o.2 h.p) d (Branch t f a ▷ no_steps) o.3 o.4 put lines)

close_grows : (ps : List Ended) (os : List Open) (a : Steps) (c : Body) (ls : List Line) → OfBody ps (record { entered = os; steps = a }) ls → closed os a ≡ Some c → OfBody ps c (ls ++ Close ∷ [])
close_grows ps [] a c ls h e = absurd (nothing_put e)
close_grows ps (InSecond d t f ∷ os) a c ls h e = absurd (nothing_put e)
close_grows ps (InFirst d t ∷ os) a c ls h e = absurd (nothing_put e)
close_grows ps (InLoop d r ∷ os) a c ls h e =
    let o = h.outer in
    let put : put_in ps (Looped r h.p) ≡ Some (around r a ▷ no_steps) = ap (option_map (λ z. around r z ▷ no_steps)) h.steps in
    let lines : ls ++ Close ∷ [] ≡ o.0 ++ (places_lines o.1 ++ place_lines (Looped r h.p)) = ap (λ z. z ++ Close ∷ []) (h.lines ∙ ap (λ z. z ++ places_lines h.p) o.4) ∙ simp append_assoc in
    subst (λ z. OfBody ps z (ls ++ Close ∷ [])) (same_body e) (placed_more ps os o.0 (ls ++ Close ∷ []) [] o.1 (Looped r h.p) d (around r a ▷ no_steps) o.2 o.3 put lines)

one_more : (ps : List Ended) (b : Body) (ls : List Line) (l : Line) (h : OfBody ps b ls) → ls ++ l ∷ [] ≡ h.us ++ (places_lines h.p ++ l ∷ [])
one_more ps b ls l h = ap (λ z. z ++ l ∷ []) h.lines ∙ append_assoc h.us (places_lines h.p) (l ∷ [])

put_grows : (ps : List Ended) (l : Line) (b c : Body) (ls : List Line) → OfBody ps b ls → put l b ≡ Some c → OfBody ps c (ls ++ l ∷ [])
put_grows ps (Plain s) b c ls h e = subst (λ z. OfBody ps z (ls ++ Plain s ∷ [])) (same_body e) (placed_more ps b.entered h.us (ls ++ Plain s ∷ []) [] h.p (Step s) b.steps (Basic s ▷ no_steps) h.outer h.steps refl (one_more ps b ls (Plain s) h))
put_grows ps (Fork t) b c ls h e = entered_grows ps b (InFirst b.steps t) c (ls ++ Fork t ∷ []) (h.us, h.p, h.outer, h.steps, one_more ps b ls (Fork t) h) e
put_grows ps (Enter r) b c ls h e = entered_grows ps b (InLoop b.steps r) c (ls ++ Enter r ∷ []) (h.us, h.p, h.outer, h.steps, one_more ps b ls (Enter r) h) e
put_grows ps Else b c ls h e = else_grows ps b.entered b.steps c ls h e
put_grows ps Join b c ls h e = join_grows ps b.entered b.steps c ls h e
put_grows ps Close b c ls h e = close_grows ps b.entered b.steps c ls h e
put_grows ps (Head f) b c ls h e = absurd (nothing_put e)
put_grows ps End b c ls h e = absurd (nothing_put e)
put_grows ps (Part n) b c ls h e = absurd (nothing_put e)
put_grows ps EndPart b c ls h e = absurd (nothing_put e)
put_grows ps (Use n) b c ls h e = absurd (nothing_put e)

used_inverse : (b c : Body) (o : Option Steps) → used b o ≡ Some c → (a : Steps) × (o ≡ Some a) × (length b.entered + steps_depth a ≤ most_nested) × (record b { steps = b.steps then a } ≡ c)
used_inverse b c None e = absurd (nothing_put e)
used_inverse b c (Some a) e = by (nat_lt most_nested (length b.entered + steps_depth a)) refl e
  where
    by : (t : Bool) → nat_lt most_nested (length b.entered + steps_depth a) ≡ t → (if t then None else Some (record b { steps = b.steps then a })) ≡ Some c → (d : Steps) × (Some a ≡ Some d) × (length b.entered + steps_depth d ≤ most_nested) × (record b { steps = b.steps then d } ≡ c)
    by true k p = absurd (nothing_put p)
    by false k p = (a, refl, ltb-false most_nested (length b.entered + steps_depth a) k, same_body p)

use_grows : (ps : List Ended) (n : Name) (b c : Body) (ls : List Line) → OfBody ps b ls → used b (part_named n ps) ≡ Some c → OfBody ps c (ls ++ Use n ∷ [])
use_grows ps n b c ls h e =
    let k = used_inverse b c (part_named n ps) e in
    subst (λ z. OfBody ps z (ls ++ Use n ∷ [])) k.3 (placed_more ps b.entered h.us (ls ++ Use n ∷ []) [] h.p (Used n) b.steps k.0 h.outer h.steps k.1 (one_more ps b ls (Use n) h))

use_nested : (b c : Body) (o : Option Steps) → IsNested b → used b o ≡ Some c → IsNested c
use_nested b c o h e =
    let k = used_inverse b c o e in
    let d = depth_then b.steps k.0 in
    let here = h.0 in
    let there = k.2 in
    subst IsNested k.3 (omega arith, h.1)

-- ---- the lines of a text so far

abbrev Standing : List Ended → Option Name → Bool → Body → List Line → Type 0
Standing ps None m b sofar = (ws : List Written) × (main : List Line) × PartsStand [] ws ps × OfBody ps b main × (m ≡ false → main ≡ []) × (sofar ≡ parts_lines ws ++ main)
Standing ps (Some n) m b sofar = (ws : List Written) × (inner : List Line) × PartsStand [] ws ps × (part_named n ps ≡ None) × OfBody ps b inner × (m ≡ false) × (sofar ≡ parts_lines ws ++ Part n ∷ inner)

no_true : false ≡ true → ⊥
no_true e = let w = e in cc

or_true : (m : Bool) → (m || true) ≡ false → ⊥
or_true true f = no_true (sym f)
or_true false f = no_true (sym f)

line_stands : (ps : List Ended) (pt : Option Name) (m : Bool) (b c : Body) (sofar : List Line) (l : Line) → Standing ps pt m b sofar → ((main : List Line) → OfBody ps b main → OfBody ps c (main ++ l ∷ [])) → Standing ps pt (m || is_none pt) c (sofar ++ l ∷ [])
line_stands ps None m b c sofar l h grow = (h.0, h.1 ++ l ∷ [], h.2, grow h.1 h.3, λ e. absurd (or_true m e), ap (λ z. z ++ l ∷ []) h.5 ∙ append_assoc (parts_lines h.0) h.1 (l ∷ []))
line_stands ps (Some n) m b c sofar l h grow = (h.0, h.1 ++ l ∷ [], h.2, h.3, grow h.1 h.4, ap (λ z. z || false) h.5, ap (λ z. z ++ l ∷ []) h.6 ∙ append_assoc (parts_lines h.0) (Part n ∷ h.1) (l ∷ []))

parts_more : (ps qs : List Ended) (ws : List Written) (w : Written) (a : Steps) → PartsStand ps ws qs → part_named w.name qs ≡ None → in_place qs w.places ≡ Some a → AreWithin a → PartsStand ps (ws ++ w ∷ []) (record { name = w.name; steps = a } ∷ qs)
parts_more ps qs [] w a h new e k = (subst (λ z. part_named w.name z ≡ None) (sym h) new, a, subst (λ z. in_place z w.places ≡ Some a) (sym h) e, k, ap (λ z. record { name = w.name; steps = a } ∷ z) h)
parts_more ps qs (v ∷ vs) w a h new e k = (h.0, h.1, h.2, h.3, parts_more (record { name = v.name; steps = h.1 } ∷ ps) qs vs w a h.4 new e k)

lines_more : (ws : List Written) (w : Written) → parts_lines (ws ++ w ∷ []) ≡ parts_lines ws ++ part_lines w
lines_more [] w = append-nil (part_lines w)
lines_more (v ∷ vs) w = ap (λ z. part_lines v ++ z) (lines_more vs w) ∙ sym (append_assoc (part_lines v) (parts_lines vs) (part_lines w))

record Done (all : List Line) (h : Reading) : Type 0 where
  ws : List Written
  main : Places
  stand : PartsStand [] ws h.parts
  steps : in_place h.parts main ≡ Some h.body.steps
  within : AreWithin h.body.steps
  lines : all ≡ parts_lines ws ++ (places_lines main ++ End ∷ [])

abbrev Goes : List Line → Type 0
Goes ls = (ps : List Ended) (pt : Option Name) (m : Bool) (b : Body) (h : Reading) (sofar : List Line) → h.ended ≡ true → IsNested b → AreFew (lines_so_far b) → Standing ps pt m b sofar → read_all ls (reading Format2 ps pt m b) ≡ Ok h → Done (sofar ++ ls) h

regroup : (sofar : List Line) (l : Line) (ls : List Line) (h : Reading) → Done ((sofar ++ l ∷ []) ++ ls) h → Done (sofar ++ l ∷ ls) h
regroup sofar l ls h d = subst (λ z. Done z h) (append_assoc sofar (l ∷ []) ls) d

steps_on : (l : Line) (ls : List Line) (ps : List Ended) (pt : Option Name) (m : Bool) (b : Body) (h : Reading) (sofar : List Line) (o : Option Body) → ((c : Body) → o ≡ Some c → IsNested c) → ((c : Body) → o ≡ Some c → (main : List Line) → OfBody ps b main → OfBody ps c (main ++ l ∷ [])) → h.ended ≡ true → Standing ps pt m b sofar → and_then (bounded (with_steps (reading Format2 ps pt m b) o)) (read_all ls) ≡ Ok h → Goes ls → Done (sofar ++ l ∷ ls) h
steps_on l ls ps pt m b h sofar None nested grow e s p more = absurd (no_ok p)
steps_on l ls ps pt m b h sofar (Some c) nested grow e s p more =
    let one = first_read (within_bytes (reading Format2 ps pt (m || is_none pt) c)) (read_all ls) h p in
    let here = read_few (reading Format2 ps pt (m || is_none pt) c) one.0 one.1 in
    regroup sofar l ls h (more ps pt (m || is_none pt) c h (sofar ++ l ∷ []) e (nested c refl) here.1 (line_stands ps pt m b c sofar l s (grow c refl)) (subst (λ (z : Reading). read_all ls z ≡ Ok h) (sym here.0) one.2))

nothing_around : (ps : List Ended) (os : List Open) (us : List Line) → os ≡ [] → Around ps os us → us ≡ []
nothing_around ps os us e h = subst (λ z. Around ps z us) e h

whole_within : (b : Body) → b.entered ≡ [] → IsNested b → AreFew (lines_so_far b) → AreWithin b.steps
whole_within b e h few = (let k = h.0 in omega arith, subst AreFew (ap (λ z. lines_around z ++ lines_of b.steps) e) few)

whole_lines : (ps : List Ended) (b : Body) (ls : List Line) (h : OfBody ps b ls) → b.entered ≡ [] → ls ≡ places_lines h.p
whole_lines ps b ls h e = h.lines ∙ ap (λ z. z ++ places_lines h.p) (nothing_around ps b.entered h.us e h.outer)

ends : (ls : List Line) (ps : List Ended) (pt : Option Name) (m : Bool) (b : Body) (h : Reading) (sofar : List Line) (t : Bool) → is_empty b.entered ≡ t → IsNested b → AreFew (lines_so_far b) → Standing ps pt m b sofar → and_then (bounded (if is_none pt && t then Some (record (reading Format2 ps pt m b) { ended = true }) else None)) (read_all ls) ≡ Ok h → Done (sofar ++ End ∷ ls) h
ends ls ps (Some n) m b h sofar t k nested few s p = absurd (no_ok p)
ends ls ps None m b h sofar false k nested few s p = absurd (no_ok p)
ends ls ps None m b h sofar true k nested few s p =
    let r : Reading = record (reading Format2 ps None m b) { ended = true } in
    let one = first_read (within_bytes r) (read_all ls) h p in
    let here = read_few r one.0 one.1 in
    let done = no_more ls one.0 h (subst (λ (z : Reading). z.ended ≡ true) here.0 refl) one.2 in
    let none = none_entered b.entered k in
    subst (Done (sofar ++ End ∷ ls)) (here.0 ∙ done.1)
    (record {
      ws = s.0;
      main = s.3.p;
      stand = s.2;
      steps = s.3.steps;
      within = whole_within b none nested few;
      lines = (λ i. s.5 i ++ End ∷ done.0 i) ∙ append_assoc (parts_lines s.0) s.1 (End ∷ []) ∙ ap (λ z. parts_lines s.0 ++ (z ++ End ∷ [])) (whole_lines ps b s.1 s.3 none);
    })

empty_body : (ps : List Ended) → OfBody ps empty []
empty_body ps = record { us = []; p = nowhere; outer = refl; steps = refl; lines = refl }

begins : (n : Name) (ls : List Line) (ps : List Ended) (pt : Option Name) (m : Bool) (b : Body) (h : Reading) (sofar : List Line) (o : Option Steps) → part_named n ps ≡ o → h.ended ≡ true → Standing ps pt m b sofar → and_then (bounded (if is_none pt && not m && is_none o then Some (record (reading Format2 ps pt m b) { part = Some n; body = empty }) else None)) (read_all ls) ≡ Ok h → Goes ls → Done (sofar ++ Part n ∷ ls) h
begins n ls ps (Some k) m b h sofar o new e s p more = absurd (no_ok p)
begins n ls ps None true b h sofar o new e s p more = absurd (no_ok p)
begins n ls ps None false b h sofar (Some a) new e s p more = absurd (no_ok p)
begins n ls ps None false b h sofar None new e s p more =
    regroup sofar (Part n) ls h
    (more ps (Some n) false empty h (sofar ++ Part n ∷ []) e (omega arith, tt) (omega arith)
    (s.0, [], s.2, new, empty_body ps, refl, ap (λ z. z ++ Part n ∷ []) (s.5 ∙ ap (λ z. parts_lines s.0 ++ z) (s.4 refl) ∙ append-nil (parts_lines s.0))) p)

part_ends : (n : Name) (ls : List Line) (ps : List Ended) (m : Bool) (b : Body) (h : Reading) (sofar : List Line) (t : Bool) → is_empty b.entered ≡ t → h.ended ≡ true → IsNested b → AreFew (lines_so_far b) → Standing ps (Some n) m b sofar → and_then (bounded (if t then Some (reading Format2 (record { name = n; steps = b.steps } ∷ ps) None m empty) else None)) (read_all ls) ≡ Ok h → Goes ls → Done (sofar ++ EndPart ∷ ls) h
part_ends n ls ps m b h sofar false k e nested few s p more = absurd (no_ok p)
part_ends n ls ps m b h sofar true k e nested few s p more =
    let none = none_entered b.entered k in
    let w : Written = record { name = n; places = s.4.p } in
    let lines : sofar ++ EndPart ∷ [] ≡ parts_lines (s.0 ++ w ∷ []) ++ [] =
    ap (λ z. z ++ EndPart ∷ []) (s.6 ∙ ap (λ z. parts_lines s.0 ++ Part n ∷ z) (whole_lines ps b s.1 s.4 none))
    ∙ append_assoc (parts_lines s.0) (Part n ∷ places_lines s.4.p) (EndPart ∷ [])
    ∙ sym (lines_more s.0 w)
    ∙ sym (append-nil (parts_lines (s.0 ++ w ∷ []))) in
    regroup sofar EndPart ls h
    (more (record { name = n; steps = b.steps } ∷ ps) None m empty h (sofar ++ EndPart ∷ []) e (omega arith, tt) (omega arith)
    (s.0 ++ w ∷ [], [], parts_more [] ps s.0 w b.steps s.2 s.3 s.4.steps (whole_within b none nested few), empty_body (record { name = n; steps = b.steps } ∷ ps), λ z. refl, lines) p)

no_part : (ls : List Line) (ps : List Ended) (pt : Option Name) (m : Bool) (b : Body) (h : Reading) (sofar : List Line) → h.ended ≡ true → IsNested b → AreFew (lines_so_far b) → Standing ps pt m b sofar → read_all (EndPart ∷ ls) (reading Format2 ps pt m b) ≡ Ok h → Goes ls → Done (sofar ++ EndPart ∷ ls) h
no_part ls ps None m b h sofar e nested few s p more = absurd (no_ok p)
no_part ls ps (Some n) m b h sofar e nested few s p more = part_ends n ls ps m b h sofar (is_empty b.entered) refl e nested few s p more

goes : (ls : List Line) → Goes ls
goes [] ps pt m b h sofar e nested few s p = absurd (no_true (ap (λ (z : Reading). z.ended) (same_ok p) ∙ e))
goes (End ∷ ls) ps pt m b h sofar e nested few s p = ends ls ps pt m b h sofar (is_empty b.entered) refl nested few s p
goes (Part n ∷ ls) ps pt m b h sofar e nested few s p = begins n ls ps pt m b h sofar (part_named n ps) refl e s p (goes ls)
goes (EndPart ∷ ls) ps pt m b h sofar e nested few s p = no_part ls ps pt m b h sofar e nested few s p (goes ls)
goes (Head f ∷ ls) ps pt m b h sofar e nested few s p = absurd (no_ok p)
goes (Use n ∷ ls) ps pt m b h sofar e nested few s p = steps_on (Use n) ls ps pt m b h sofar (used b (part_named n ps)) (λ c k. use_nested b c (part_named n ps) nested k) (λ c k main g. use_grows ps n b c main g k) e s p (goes ls)
goes (Plain x ∷ ls) ps pt m b h sofar e nested few s p = steps_on (Plain x) ls ps pt m b h sofar (put (Plain x) b) (λ c k. stays_nested (Plain x) b c nested k) (λ c k main g. put_grows ps (Plain x) b c main g k) e s p (goes ls)
goes (Fork x ∷ ls) ps pt m b h sofar e nested few s p = steps_on (Fork x) ls ps pt m b h sofar (put (Fork x) b) (λ c k. stays_nested (Fork x) b c nested k) (λ c k main g. put_grows ps (Fork x) b c main g k) e s p (goes ls)
goes (Enter x ∷ ls) ps pt m b h sofar e nested few s p = steps_on (Enter x) ls ps pt m b h sofar (put (Enter x) b) (λ c k. stays_nested (Enter x) b c nested k) (λ c k main g. put_grows ps (Enter x) b c main g k) e s p (goes ls)
goes (Else ∷ ls) ps pt m b h sofar e nested few s p = steps_on Else ls ps pt m b h sofar (put Else b) (λ c k. stays_nested Else b c nested k) (λ c k main g. put_grows ps Else b c main g k) e s p (goes ls)
goes (Join ∷ ls) ps pt m b h sofar e nested few s p = steps_on Join ls ps pt m b h sofar (put Join b) (λ c k. stays_nested Join b c nested k) (λ c k main g. put_grows ps Join b c main g k) e s p (goes ls)
goes (Close ∷ ls) ps pt m b h sofar e nested few s p = steps_on Close ls ps pt m b h sofar (put Close b) (λ c k. stays_nested Close b c nested k) (λ c k main g. put_grows ps Close b c main g k) e s p (goes ls)

-- behind the head
abbrev Whole : List Line → Reading → Type 0
Whole ls h = (rest : List Line) × (ls ≡ Head Format2 ∷ rest) × Done rest h

front : (ls : List Line) (h : Reading) → h.format ≡ Some Format2 → h.ended ≡ true → read_all ls start ≡ Ok h → Whole ls h
front [] h f e p = absurd (no_true (ap (λ (z : Reading). z.ended) (same_ok p) ∙ e))
front (Head Format2 ∷ ls) h f e p = (ls, refl, goes ls [] None false empty h [] e (omega arith, tt) (omega arith) ([], [], refl, empty_body [], λ z. refl, refl) p)
front (Head Format1 ∷ ls) h f e p = absurd (let w : Some Format2 ≡ Some Format1 = sym f ∙ first_keep ls (reading Format1 [] None false empty) h refl p in cc)
front (Plain s ∷ ls) h f e p = absurd (no_ok p)
front (Fork s ∷ ls) h f e p = absurd (no_ok p)
front (Enter s ∷ ls) h f e p = absurd (no_ok p)
front (Else ∷ ls) h f e p = absurd (no_ok p)
front (Join ∷ ls) h f e p = absurd (no_ok p)
front (Close ∷ ls) h f e p = absurd (no_ok p)
front (End ∷ ls) h f e p = absurd (no_ok p)
front (Part s ∷ ls) h f e p = absurd (no_ok p)
front (EndPart ∷ ls) h f e p = absurd (no_ok p)
front (Use s ∷ ls) h f e p = absurd (no_ok p)

pub read_is_grammar : ReadIsGrammar
read_is_grammar text D h =
    let r = front h.lines h.last h.format h.ended h.comes.read in
    let d = r.2 in
    let lines : h.lines ≡ Head Format2 ∷ (parts_lines d.ws ++ (places_lines d.main ++ End ∷ [])) = r.1 ∙ ap (λ z. Head Format2 ∷ z) d.lines in
    record {
      parts = d.ws;
      main = d.main;
      ended = h.last.parts;
      stand = d.stand;
      steps = d.steps ∙ ap Some h.steps;
      within = subst AreWithin h.steps d.within;
      legal = subst (AllByRecursion IsLegal) lines h.comes.legal;
      bytes = h.parts ∙ ap text_of_lines lines;
    }
