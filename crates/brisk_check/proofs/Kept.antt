-- What is kept while lines are read: the walk has made the calls of the lines of format 1 of the main steps.
use Rattle.std.proofs.Common.{◌≡◌, Bool, true, false, not, ◌&&◌, ◌||◌, List, [], ◌∷◌, ◌++◌, Option, Some, None, refl, sym, ap, subst, ◌∙◌, append_assoc, append-nil}
use Rattle.std.specs.Prelude.{is_none, if◌then◌else◌, nat_lt, ◌+◌, length}
use Rattle.brisk_values.specs.Names.{Name}
use Rattle.brisk_derivation.specs.Depths.{steps_depth}
use Rattle.brisk_derivation.specs.Steps.{Steps}
use Rattle.brisk_loops.specs.Walk.{Call}
use Rattle.brisk_derivtext.specs.declared.line.Format.{Format}
use Rattle.brisk_derivtext.specs.declared.line.Format.TheVariants.{Format1, Format2}
use Rattle.brisk_derivtext.specs.declared.line.Line.{Line}
use Rattle.brisk_derivtext.specs.declared.line.Line.TheVariants.{Head, Plain, Fork, Enter, Else, Join, Close, End, Part, EndPart, Use}
use Rattle.brisk_derivtext.specs.declared.open.Open.{Open}
use Rattle.brisk_derivtext.specs.Reading.{Body, empty, put, ◌then◌, lines_around, lines_so_far, Reading, start, with_body, with_steps, part_named, used, is_empty, is_whole, part_ended, behind_head, at_head, in_format, next}
use Rattle.brisk_derivtext.specs.Texts.{lines_of, most_nested}
use Rattle.brisk_derivtext.proofs.Putting.{grows, lines_then}
use Rattle.brisk_check.specs.Checking.{calls_in, lines_if, stands_for, calls_for}
use Rattle.brisk_check.proofs.Calls.{calls_append}
use Rattle.brisk_values.proofs.Changes.{both_true}

-- the calls of the main steps so far
abbrev pub main_calls : Reading → List Call
main_calls r = if is_none r.part then calls_in (lines_so_far r.body) else []

-- before the first main step there is none; main steps stand in no part; and at the end all rules are closed
pub record Kept (r : Reading) : Type 0 where
  pub unbegun : r.main ≡ false → is_none r.part ≡ true → lines_so_far r.body ≡ []
  pub outside : is_none r.part ≡ false → r.main ≡ false
  pub done : r.ended ≡ true → (is_none r.part ≡ true) × (r.body.entered ≡ [])

pub kept_start : Kept start
kept_start = record { unbegun = λ m p. refl; outside = λ p. absurd (let w = p in cc); done = λ e. absurd (let w = e in cc) }

-- what a line keeps
abbrev Keeps : Reading → Line → Reading → Type 0
Keeps r l v = Kept v × (main_calls v ≡ main_calls r ++ calls_for r l)

no_true : false ≡ true → ⊥
no_true e = let w = e in cc

no_some : {v : Reading} → None ≡ Some v → ⊥
no_some e = let w = e in cc

the_same : {u v : Reading} → Some u ≡ Some v → u ≡ v
the_same e = cc

-- a line that makes no calls
silent : (r : Reading) (l : Line) → calls_in (stands_for r l) ≡ [] → calls_for r l ≡ []
silent r l e = by (is_none r.part)
  where
    by : (t : Bool) → (if t then calls_in (stands_for r l) else []) ≡ []
    by true = e
    by false = refl

no_more : (cs : List Call) (ds : List Call) → ds ≡ [] → cs ≡ cs ++ ds
no_more cs ds e = sym (append-nil cs) ∙ ap (λ z. cs ++ z) (sym e)

-- steps go on
grown : (r : Reading) (l : Line) (b : Body) (t : Bool) → lines_so_far b ≡ lines_so_far r.body ++ stands_for r l → (if t then calls_in (lines_so_far b) else []) ≡ (if t then calls_in (lines_so_far r.body) else []) ++ (if t then calls_in (stands_for r l) else [])
grown r l b true e = ap calls_in e ∙ calls_append (lines_so_far r.body) (stands_for r l)
grown r l b false e = refl

or_true : (m t : Bool) → t ≡ true → (m || t) ≡ false → ⊥
or_true true t e f = no_true (sym f)
or_true false t e f = no_true (sym f ∙ e)

or_false : (m t : Bool) → t ≡ false → m ≡ false → (m || t) ≡ false
or_false m t e f = ap (λ z. z || t) f ∙ e

body_keeps : (r : Reading) (l : Line) (b : Body) → r.ended ≡ false → Kept r → lines_so_far b ≡ lines_so_far r.body ++ stands_for r l → Keeps r l (with_body r b)
body_keeps r l b z h e = (
  record {
    unbegun = λ m p. absurd (or_true r.main (is_none r.part) p m);
    outside = λ p. or_false r.main (is_none r.part) p (h.outside p);
    done = λ d. absurd (no_true (sym z ∙ d));
  },
  grown r l b (is_none r.part) e,
)

steps_keep : (r v : Reading) (l : Line) (o : Option Body) → r.ended ≡ false → Kept r → ((b : Body) → o ≡ Some b → lines_so_far b ≡ lines_so_far r.body ++ stands_for r l) → with_steps r o ≡ Some v → Keeps r l v
steps_keep r v l None z h g e = absurd (no_some e)
steps_keep r v l (Some b) z h g e = subst (Keeps r l) (the_same e) (body_keeps r l b z h (g b refl))

used_grows : (b c : Body) (o : Option Steps) → used b o ≡ Some c → lines_so_far c ≡ lines_so_far b ++ lines_if o
used_grows b c None e = absurd (let w = e in cc)
used_grows b c (Some a) e = by (nat_lt most_nested (length b.entered + steps_depth a)) e
  where
    same : {x y : Body} → Some x ≡ Some y → x ≡ y
    same p = cc

    by : (t : Bool) → (if t then None else Some (record b { steps = b.steps then a })) ≡ Some c → lines_so_far c ≡ lines_so_far b ++ lines_of a
    by true p = absurd (let w = p in cc)
    by false p = ap lines_so_far (sym (same p)) ∙ ap (λ z. lines_around b.entered ++ z) (lines_then b.steps a) ∙ sym (append_assoc (lines_around b.entered) (lines_of b.steps) (lines_of a))

none_entered : (os : List Open) → is_empty os ≡ true → os ≡ []
none_entered [] e = refl
none_entered (o ∷ os) e = absurd (no_true e)

end_keeps : (r v : Reading) (t : Bool) → Kept r → (is_none r.part && is_whole r.body) ≡ t → (if t then Some (record r { ended = true }) else None) ≡ Some v → Keeps r End v
end_keeps r v false h k e = absurd (no_some e)
end_keeps r v true h k e =
    let two = both_true (is_none r.part) (is_whole r.body) k in
    subst (Keeps r End) (the_same e) (
      record { unbegun = h.unbegun; outside = h.outside; done = λ d. (two.0, none_entered r.body.entered two.1) },
      no_more (main_calls r) (calls_for r End) (silent r End refl),
    )

begun_calls : (r : Reading) → Kept r → is_none r.part ≡ true → r.main ≡ false → main_calls r ≡ []
begun_calls r h p m = ap (λ t. if t then calls_in (lines_so_far r.body) else []) p ∙ ap calls_in (h.unbegun m p)

part_keeps : (r v : Reading) (n : Name) (t : Bool) → r.ended ≡ false → Kept r → (is_none r.part && not r.main && is_none (part_named n r.parts)) ≡ t → (if t then Some (record r { part = Some n; body = empty }) else None) ≡ Some v → Keeps r (Part n) v
part_keeps r v n false z h k e = absurd (no_some e)
part_keeps r v n true z h k e =
    let three = guards (is_none r.part) r.main (is_none (part_named n r.parts)) k in
    subst (Keeps r (Part n)) (the_same e) (
      record { unbegun = λ m p. refl; outside = λ p. three.1; done = λ d. absurd (no_true (sym z ∙ d)) },
      sym (begun_calls r h three.0 three.1) ∙ no_more (main_calls r) (calls_for r (Part n)) (silent r (Part n) refl),
    )
  where
    guards : (a m c : Bool) → (a && not m && c) ≡ true → (a ≡ true) × (m ≡ false)
    guards true false c g = (refl, refl)
    guards true true c g = absurd (no_true g)
    guards false m c g = absurd (no_true g)

in_part : (r : Reading) (n : Name) → r.part ≡ Some n → main_calls r ≡ []
in_part r n e = ap (λ o. if is_none o then calls_in (lines_so_far r.body) else []) e

endpart_keeps : (r v : Reading) (o : Option Name) → r.ended ≡ false → Kept r → r.part ≡ o → part_ended r o ≡ Some v → Keeps r EndPart v
endpart_keeps r v None z h k e = absurd (no_some e)
endpart_keeps r v (Some n) z h k e = by (is_whole r.body) e
  where
    by : (t : Bool) → (if t then Some (record r { parts = record { name = n; steps = r.body.steps } ∷ r.parts; part = None; body = empty }) else None) ≡ Some v → Keeps r EndPart v
    by false p = absurd (no_some p)
    by true p = subst (Keeps r EndPart) (the_same p) (
      record { unbegun = λ m q. refl; outside = λ q. absurd (no_true (sym q)); done = λ d. absurd (no_true (sym z ∙ d)) },
      sym (in_part r n k) ∙ no_more (main_calls r) (calls_for r EndPart) (silent r EndPart refl),
    )

behind_keeps : (f : Format) (r v : Reading) (l : Line) → r.ended ≡ false → Kept r → behind_head f r l ≡ Some v → Keeps r l v
behind_keeps Format1 r v End z h e = end_keeps r v (is_none r.part && is_whole r.body) h refl e
behind_keeps Format1 r v (Plain s) z h e = steps_keep r v (Plain s) (put (Plain s) r.body) z h (λ b k. grows (Plain s) r.body b k) e
behind_keeps Format1 r v (Fork s) z h e = steps_keep r v (Fork s) (put (Fork s) r.body) z h (λ b k. grows (Fork s) r.body b k) e
behind_keeps Format1 r v (Enter s) z h e = steps_keep r v (Enter s) (put (Enter s) r.body) z h (λ b k. grows (Enter s) r.body b k) e
behind_keeps Format1 r v Else z h e = steps_keep r v Else (put Else r.body) z h (λ b k. grows Else r.body b k) e
behind_keeps Format1 r v Join z h e = steps_keep r v Join (put Join r.body) z h (λ b k. grows Join r.body b k) e
behind_keeps Format1 r v Close z h e = steps_keep r v Close (put Close r.body) z h (λ b k. grows Close r.body b k) e
behind_keeps Format1 r v (Head g) z h e = absurd (no_some e)
behind_keeps Format1 r v (Part g) z h e = absurd (no_some e)
behind_keeps Format1 r v EndPart z h e = absurd (no_some e)
behind_keeps Format1 r v (Use g) z h e = absurd (no_some e)
behind_keeps Format2 r v End z h e = end_keeps r v (is_none r.part && is_whole r.body) h refl e
behind_keeps Format2 r v (Plain s) z h e = steps_keep r v (Plain s) (put (Plain s) r.body) z h (λ b k. grows (Plain s) r.body b k) e
behind_keeps Format2 r v (Fork s) z h e = steps_keep r v (Fork s) (put (Fork s) r.body) z h (λ b k. grows (Fork s) r.body b k) e
behind_keeps Format2 r v (Enter s) z h e = steps_keep r v (Enter s) (put (Enter s) r.body) z h (λ b k. grows (Enter s) r.body b k) e
behind_keeps Format2 r v Else z h e = steps_keep r v Else (put Else r.body) z h (λ b k. grows Else r.body b k) e
behind_keeps Format2 r v Join z h e = steps_keep r v Join (put Join r.body) z h (λ b k. grows Join r.body b k) e
behind_keeps Format2 r v Close z h e = steps_keep r v Close (put Close r.body) z h (λ b k. grows Close r.body b k) e
behind_keeps Format2 r v (Head g) z h e = absurd (no_some e)
behind_keeps Format2 r v (Part n) z h e = part_keeps r v n (is_none r.part && not r.main && is_none (part_named n r.parts)) z h refl e
behind_keeps Format2 r v EndPart z h e = endpart_keeps r v r.part z h refl e
behind_keeps Format2 r v (Use n) z h e = steps_keep r v (Use n) (used r.body (part_named n r.parts)) z h (λ b k. used_grows r.body b (part_named n r.parts) k) e

head_keeps : (r v : Reading) (l : Line) → Kept r → at_head r l ≡ Some v → Keeps r l v
head_keeps r v (Head f) h e = subst (Keeps r (Head f)) (the_same e) (record { unbegun = h.unbegun; outside = h.outside; done = h.done }, no_more (main_calls r) (calls_for r (Head f)) (silent r (Head f) refl))
head_keeps r v (Plain s) h e = absurd (no_some e)
head_keeps r v (Fork s) h e = absurd (no_some e)
head_keeps r v (Enter s) h e = absurd (no_some e)
head_keeps r v Else h e = absurd (no_some e)
head_keeps r v Join h e = absurd (no_some e)
head_keeps r v Close h e = absurd (no_some e)
head_keeps r v End h e = absurd (no_some e)
head_keeps r v (Part s) h e = absurd (no_some e)
head_keeps r v EndPart h e = absurd (no_some e)
head_keeps r v (Use s) h e = absurd (no_some e)

format_keeps : (o : Option Format) (r v : Reading) (l : Line) → r.ended ≡ false → Kept r → in_format o r l ≡ Some v → Keeps r l v
format_keeps None r v l z h e = head_keeps r v l h e
format_keeps (Some f) r v l z h e = behind_keeps f r v l z h e

pub next_keeps : (r v : Reading) (l : Line) → Kept r → next r l ≡ Some v → Keeps r l v
next_keeps r v l h e = by r.ended refl e
  where
    by : (t : Bool) → r.ended ≡ t → (if t then None else in_format r.format r l) ≡ Some v → Keeps r l v
    by true k p = absurd (no_some p)
    by false k p = format_keeps r.format r v l k h p
