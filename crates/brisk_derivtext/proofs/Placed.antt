-- A text of format 2 by its grammar is read as its steps.
use Rattle.std.proofs.Common.{◌≡◌, ◌≤◌, ◌<◌, ◌+◌, Bool, true, false, ◌||◌, List, [], ◌∷◌, ◌++◌, length, Option, Some, None, refl, sym, ap, subst, ◌∙◌, append_assoc, arith}
use Rattle.std.specs.Prelude.{if◌then◌else◌, is_none, option_map}
use Rattle.std.proofs.lemmas.Bool.{lt-ltb, le-ltb}
use Rattle.brisk_values.specs.Names.{Name}
use Rattle.brisk_derivation.specs.Depths.{steps_depth}
use Rattle.brisk_derivation.specs.Steps.{Basic, Branch, Steps, no_steps, ◌▷◌}
use Rattle.brisk_derivtext.specs.Laws.{GrammarIsRead}
use Rattle.brisk_derivtext.specs.declared.line.Format.TheVariants.{Format2}
use Rattle.brisk_derivtext.specs.declared.line.Loop.{Loop}
use Rattle.brisk_derivtext.specs.declared.line.Line.{Line}
use Rattle.brisk_derivtext.specs.declared.line.Line.TheVariants.{Head, Plain, Fork, Enter, Else, Join, Close, End, EndPart, Use}
use Rattle.brisk_derivtext.specs.Parts.{Place, Step, Forked, Looped, Used, Places, nowhere, ◌⊳◌, place_lines, places_lines, both_steps, forked, put_in, in_place, Written, part_lines, parts_lines, AreWithin, PartsStand}
use Rattle.brisk_derivtext.specs.declared.open.Open.{Open}
use Rattle.brisk_derivtext.specs.declared.open.Open.TheVariants.{InLoop, InFirst, InSecond}
use Rattle.brisk_derivtext.specs.Reading.{Ended, Reading, part_named, used, with_steps, around, ◌then◌, Body, empty, add, in_rule, put, lines_around, lines_so_far, bounded, and_then, read_all}
use Rattle.brisk_derivtext.specs.Texts.{lines_of, most_nested, AreFew}
use Rattle.brisk_derivtext.proofs.Once.{same_some}
use Rattle.brisk_derivtext.proofs.Putting.{behind_body, then_nothing, then_assoc, lines_then, depth_then, loop_depth, grows}
use Rattle.brisk_derivtext.proofs.Written.{reading, read_put, few_front, few_read}

-- Lines are read as these steps, wherever they stand; and in a part no main step is begun.
abbrev ReadAs : List Ended → List Line → Steps → Type 0
ReadAs ps ls a = (pt : Option Name) (m : Bool) (b : Body) (more : List Line) → length b.entered + steps_depth a ≤ most_nested → AreFew (lines_so_far (behind_body b a)) →
    (n : Bool) × (is_none pt ≡ false → m ≡ false → n ≡ false) × (read_all (ls ++ more) (reading Format2 ps pt m b) ≡ read_all more (reading Format2 ps pt n (behind_body b a)))

or_false : (m t : Bool) → t ≡ false → m ≡ false → (m || t) ≡ false
or_false m t e f = ap (λ z. z || t) f ∙ e

-- a line, and then more
one_line : (ps : List Ended) (pt : Option Name) (m : Bool) (b c : Body) (l : Line) (more : List Line) → put l b ≡ Some c → AreFew (lines_so_far c) → read_all (l ∷ more) (reading Format2 ps pt m b) ≡ read_all more (reading Format2 ps pt (m || is_none pt) c)
one_line ps pt m b c l more e h = ap (λ z. and_then z (read_all more)) (read_put Format2 ps pt m b c l e h)

so_far_then : (b : Body) (a : Steps) → lines_so_far (behind_body b a) ≡ lines_so_far b ++ lines_of a
so_far_then b a = ap (λ z. lines_around b.entered ++ z) (lines_then b.steps a) ∙ sym (append_assoc (lines_around b.entered) (lines_of b.steps) (lines_of a))

few_before : (b : Body) (a : Steps) → AreFew (lines_so_far (behind_body b a)) → AreFew (lines_so_far b)
few_before b a h = few_front (lines_so_far b) (lines_of a) (subst AreFew (so_far_then b a) h)

few_line : (l : Line) (b c : Body) → put l b ≡ Some c → AreFew (lines_so_far c) → AreFew (lines_so_far b)
few_line l b c e h = few_front (lines_so_far b) (l ∷ []) (subst AreFew (grows l b c e) h)

in_so : (b : Body) (o : Open) → length b.entered < most_nested → in_rule b o ≡ Some (record { entered = o ∷ b.entered; steps = no_steps })
in_so b o lt = ap (λ t. if t then Some (record { entered = o ∷ b.entered; steps = no_steps }) else None) (lt-ltb (length b.entered) most_nested lt)

nothing_as : (ps : List Ended) → ReadAs ps [] no_steps
nothing_as ps pt m b more h few = (m, λ k e. e, ap (λ z. read_all more (reading Format2 ps pt m (record b { steps = z }))) (sym (then_nothing b.steps)))

then_as : (ps : List Ended) (xs ys : List Line) (a c : Steps) → ReadAs ps xs a → ReadAs ps ys c → ReadAs ps (xs ++ ys) (a then c)
then_as ps xs ys a c one two pt m b more h few =
    let d = depth_then a c in
    let same : behind_body (behind_body b a) c ≡ behind_body b (a then c) = ap (λ z. record b { steps = z }) (then_assoc b.steps a c) in
    let all : AreFew (lines_so_far (behind_body (behind_body b a) c)) = subst (λ z. AreFew (lines_so_far z)) (sym same) few in
    let p = one pt m b (ys ++ more) (omega arith) (few_before (behind_body b a) c all) in
    let q = two pt p.0 (behind_body b a) more (omega arith) all in
    (q.0, λ k e. q.1 k (p.1 k e), ap (λ z. read_all z (reading Format2 ps pt m b)) (append_assoc xs ys more) ∙ p.2 ∙ q.2 ∙ ap (λ z. read_all more (reading Format2 ps pt q.0 z)) same)

plain_as : (ps : List Ended) (s : _) → ReadAs ps (Plain s ∷ []) (Basic s ▷ no_steps)
plain_as ps s pt m b more h few = (m || is_none pt, or_false m (is_none pt), one_line ps pt m b (add b (Basic s)) (Plain s) more refl few)

loop_as : (ps : List Ended) (r : Loop) (xs : List Line) (a : Steps) → ReadAs ps xs a → ReadAs ps (Enter r ∷ (xs ++ Close ∷ [])) (around r a ▷ no_steps)
loop_as ps r xs a inner pt m b more h few =
    let d = loop_depth r a in
    let inside : Body = record { entered = InLoop b.steps r ∷ b.entered; steps = no_steps } in
    let last : Body = add b (around r a) in
    let n = m || is_none pt in
    let few_inner = few_line Close (behind_body inside a) last refl few in
    let p = inner pt n inside (Close ∷ more) (omega arith) few_inner in (
      p.0 || is_none pt,
      λ k e. or_false p.0 (is_none pt) k (p.1 k (or_false m (is_none pt) k e)),
      one_line ps pt m b inside (Enter r) ((xs ++ Close ∷ []) ++ more) (in_so b (InLoop b.steps r) (omega arith)) (few_before inside a few_inner)
          ∙ ap (λ z. read_all z (reading Format2 ps pt n inside)) (append_assoc xs (Close ∷ []) more)
          ∙ p.2
          ∙ one_line ps pt p.0 (behind_body inside a) last Close more refl few,
    )

fork_as : (ps : List Ended) (t : Name) (xs ys : List Line) (a c : Steps) → ReadAs ps xs a → ReadAs ps ys c → ReadAs ps (Fork t ∷ (xs ++ Else ∷ (ys ++ Join ∷ []))) (Branch t a c ▷ no_steps)
fork_as ps t xs ys a c one two pt m b more h few =
    let inside : Body = record { entered = InFirst b.steps t ∷ b.entered; steps = no_steps } in
    let beyond : Body = record { entered = InSecond b.steps t a ∷ b.entered; steps = no_steps } in
    let last : Body = add b (Branch t a c) in
    let few2 = few_line Join (behind_body beyond c) last refl few in
    let few_beyond = few_before beyond c few2 in
    let few1 = few_line Else (behind_body inside a) beyond refl few_beyond in
    let n = m || is_none pt in
    let p = one pt n inside (Else ∷ ((ys ++ Join ∷ []) ++ more)) (omega arith) few1 in
    let q = two pt (p.0 || is_none pt) beyond (Join ∷ more) (omega arith) few2 in (
      q.0 || is_none pt,
      λ k e. or_false q.0 (is_none pt) k (q.1 k (or_false p.0 (is_none pt) k (p.1 k (or_false m (is_none pt) k e)))),
      one_line ps pt m b inside (Fork t) ((xs ++ Else ∷ (ys ++ Join ∷ [])) ++ more) (in_so b (InFirst b.steps t) (omega arith)) (few_before inside a few1)
          ∙ ap (λ z. read_all z (reading Format2 ps pt n inside)) (append_assoc xs (Else ∷ (ys ++ Join ∷ [])) more)
          ∙ p.2
          ∙ one_line ps pt p.0 (behind_body inside a) beyond Else ((ys ++ Join ∷ []) ++ more) refl few_beyond
          ∙ ap (λ z. read_all z (reading Format2 ps pt (p.0 || is_none pt) beyond)) (append_assoc ys (Join ∷ []) more)
          ∙ q.2
          ∙ one_line ps pt q.0 (behind_body beyond c) last Join more refl few,
    )

use_as : (ps : List Ended) (k : Name) (a : Steps) → part_named k ps ≡ Some a → ReadAs ps (Use k ∷ []) a
use_as ps k a e pt m b more h few =
    let r = reading Format2 ps pt m b in
    let fits : used b (Some a) ≡ Some (behind_body b a) = ap (λ t. if t then None else Some (behind_body b a)) (le-ltb most_nested (length b.entered + steps_depth a) h) in (
      m || is_none pt,
      or_false m (is_none pt),
      ap (λ z. and_then (bounded (with_steps r (used b z))) (read_all more)) e
          ∙ ap (λ z. and_then (bounded (with_steps r z)) (read_all more)) fits
          ∙ ap (λ z. and_then z (read_all more)) (few_read (reading Format2 ps pt (m || is_none pt) (behind_body b a)) few),
    )

-- ---- places

by_both : (ps : List Ended) (xs ys : List Line) (o p : Option Steps) (a : Steps) → both_steps o p ≡ Some a → ((c : Steps) → o ≡ Some c → ReadAs ps xs c) → ((c : Steps) → p ≡ Some c → ReadAs ps ys c) → ReadAs ps (xs ++ ys) a
by_both ps xs ys None p a e one two = absurd (let w = e in cc)
by_both ps xs ys (Some c) None a e one two = absurd (let w = e in cc)
by_both ps xs ys (Some c) (Some d) a e one two = subst (ReadAs ps (xs ++ ys)) (same_some e) (then_as ps xs ys c d (one c refl) (two d refl))

by_fork : (ps : List Ended) (t : Name) (xs ys : List Line) (o p : Option Steps) (a : Steps) → forked t o p ≡ Some a → ((c : Steps) → o ≡ Some c → ReadAs ps xs c) → ((c : Steps) → p ≡ Some c → ReadAs ps ys c) → ReadAs ps (Fork t ∷ (xs ++ Else ∷ (ys ++ Join ∷ []))) a
by_fork ps t xs ys None p a e one two = absurd (let w = e in cc)
by_fork ps t xs ys (Some c) None a e one two = absurd (let w = e in cc)
by_fork ps t xs ys (Some c) (Some d) a e one two = subst (ReadAs ps (Fork t ∷ (xs ++ Else ∷ (ys ++ Join ∷ [])))) (same_some e) (fork_as ps t xs ys c d (one c refl) (two d refl))

by_loop : (ps : List Ended) (r : Loop) (xs : List Line) (o : Option Steps) (a : Steps) → option_map (λ p. around r p ▷ no_steps) o ≡ Some a → ((c : Steps) → o ≡ Some c → ReadAs ps xs c) → ReadAs ps (Enter r ∷ (xs ++ Close ∷ [])) a
by_loop ps r xs None a e one = absurd (let w = e in cc)
by_loop ps r xs (Some c) a e one = subst (ReadAs ps (Enter r ∷ (xs ++ Close ∷ []))) (same_some e) (loop_as ps r xs c (one c refl))

mutual
  place_as : (ps : List Ended) (x : Place) (a : Steps) → put_in ps x ≡ Some a → ReadAs ps (place_lines x) a
  place_as ps (Step s) a e = subst (ReadAs ps (Plain s ∷ [])) (same_some e) (plain_as ps s)
  place_as ps (Forked t p q) a e = by_fork ps t (places_lines p) (places_lines q) (in_place ps p) (in_place ps q) a e (places_as ps p) (places_as ps q)
  place_as ps (Looped r p) a e = by_loop ps r (places_lines p) (in_place ps p) a e (places_as ps p)
  place_as ps (Used n) a e = use_as ps n a e

  places_as : (ps : List Ended) (xs : Places) (a : Steps) → in_place ps xs ≡ Some a → ReadAs ps (places_lines xs) a
  places_as ps nowhere a e = subst (ReadAs ps []) (same_some e) (nothing_as ps)
  places_as ps (x ⊳ rest) a e = by_both ps (place_lines x) (places_lines rest) (put_in ps x) (in_place ps rest) a e (place_as ps x) (places_as ps rest)

-- ---- parts

part_as : (ps : List Ended) (w : Written) (a : Steps) (more : List Line) → part_named w.name ps ≡ None → in_place ps w.places ≡ Some a → AreWithin a →
    read_all (part_lines w ++ more) (reading Format2 ps None false empty) ≡ read_all more (reading Format2 (record { name = w.name; steps = a } ∷ ps) None false empty)
part_as ps w a more new e h =
    let p = places_as ps w.places a e (Some w.name) false empty (EndPart ∷ more) (let k = h.0 in omega arith) h.1 in
    ap (λ z. and_then (bounded (if is_none z then Some (reading Format2 ps (Some w.name) false empty) else None)) (read_all ((places_lines w.places ++ EndPart ∷ []) ++ more))) new
    ∙ ap (λ z. read_all z (reading Format2 ps (Some w.name) false empty)) (append_assoc (places_lines w.places) (EndPart ∷ []) more)
    ∙ p.2
    ∙ ap (λ z. read_all more (reading Format2 (record { name = w.name; steps = a } ∷ ps) None z empty)) (p.1 refl refl)

parts_as : (ps qs : List Ended) (ws : List Written) (more : List Line) → PartsStand ps ws qs → read_all (parts_lines ws ++ more) (reading Format2 ps None false empty) ≡ read_all more (reading Format2 qs None false empty)
parts_as ps qs [] more h = ap (λ z. read_all more (reading Format2 z None false empty)) h
parts_as ps qs (w ∷ ws) more h =
    ap (λ z. read_all z (reading Format2 ps None false empty)) (append_assoc (part_lines w) (parts_lines ws) more)
    ∙ part_as ps w h.1 (parts_lines ws ++ more) h.0 h.2 h.3
    ∙ parts_as (record { name = w.name; steps = h.1 } ∷ ps) qs ws more h.4

pub grammar_is_read : GrammarIsRead
grammar_is_read text D h =
    let p = places_as h.ended h.main D h.steps None false empty (End ∷ []) (let k = h.within.0 in omega arith) h.within.1 in
    let last : Reading = record (reading Format2 h.ended None p.0 (record { entered = []; steps = D })) { ended = true } in
    record {
      lines = Head Format2 ∷ (parts_lines h.parts ++ (places_lines h.main ++ End ∷ []));
      last = last;
      parts = h.bytes;
      comes = record {
        legal = h.legal;
        read = parts_as [] h.ended h.parts (places_lines h.main ++ End ∷ []) h.stand ∙ p.2 ∙ ap (λ z. and_then z (read_all [])) (few_read last h.within.1);
      };
      format = refl;
      ended = refl;
      steps = refl;
    }
