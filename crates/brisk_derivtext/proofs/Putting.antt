-- What lines of steps come to.
use Rattle.std.proofs.Common.{◌≡◌, ◌<◌, ◌≤◌, ◌+◌, ℕ, max, Bool, true, false, List, [], ◌∷◌, ◌++◌, length, Option, Some, None, refl, sym, ap, subst, ◌∙◌, append_assoc, append-nil, arith}
use Rattle.std.specs.Prelude.{if◌then◌else◌, nat_lt}
use Rattle.std.proofs.lemmas.Bool.{lt-ltb, ltb-true}
use Rattle.brisk_derivation.specs.Depths.{steps_depth, step_depth}
use Rattle.brisk_derivation.specs.Steps.{Step, Basic, Branch, Steps, no_steps, ◌▷◌}
use Rattle.brisk_derivation.specs.Steps as tree
use Rattle.brisk_derivtext.specs.declared.line.Loop.{Loop}
use Rattle.brisk_derivtext.specs.declared.line.Loop.TheVariants.{While, For, Repeat, Gather, Pick}
use Rattle.brisk_derivtext.specs.declared.line.Line.{Line}
use Rattle.brisk_derivtext.specs.declared.line.Line.TheVariants.{Head, Plain, Fork, Enter, Else, Join, Close, End, Part, EndPart, Use}
use Rattle.brisk_derivtext.specs.declared.open.Open.{Open}
use Rattle.brisk_derivtext.specs.declared.open.Open.TheVariants.{InLoop, InFirst, InSecond}
use Rattle.brisk_derivtext.specs.Reading.{◌then◌, around, Body, add, in_rule, second_side, joined, closed, put, lines_before, lines_around, lines_so_far}
use Rattle.brisk_derivtext.specs.Texts.{lines_in, lines_of, most_nested}

-- ---- lines one after another

abbrev pub go_on : Option Body → (Body → Option Body) → Option Body
go_on None go = None
go_on (Some b) go = go b

abbrev pub put_all : List Line → Body → Option Body
put_all [] b = Some b
put_all (l ∷ ls) b = go_on (put l b) (put_all ls)

thens : (xs ys : List Line) → ((b : Body) → put_all (xs ++ ys) b ≡ go_on (put_all xs b) (put_all ys)) → (o : Option Body) → go_on o (put_all (xs ++ ys)) ≡ go_on (go_on o (put_all xs)) (put_all ys)
thens xs ys more None = refl
thens xs ys more (Some b) = more b

put_append : (xs ys : List Line) (b : Body) → put_all (xs ++ ys) b ≡ go_on (put_all xs b) (put_all ys)
put_append [] ys b = refl
put_append (x ∷ xs) ys b = thens xs ys (put_append xs ys) (put x b)

puts : (xs ys : List Line) (b c : Body) → put_all xs b ≡ Some c → put_all (xs ++ ys) b ≡ put_all ys c
puts xs ys b c e = put_append xs ys b ∙ ap (λ (o : Option Body). go_on o (put_all ys)) e

-- what is put first
pub first_put : (o : Option Body) (go : Body → Option Body) (c : Body) → go_on o go ≡ Some c → (d : Body) × (o ≡ Some d) × (go d ≡ Some c)
first_put None go c e = absurd (let w = e in cc)
first_put (Some d) go c e = (d, refl, e)

-- ---- steps behind steps

pub then_nothing : (a : Steps) → a then no_steps ≡ a
then_nothing no_steps = refl
then_nothing (s ▷ a) = ap (λ z. s ▷ z) (then_nothing a)

pub then_assoc : (a b c : Steps) → (a then b) then c ≡ a then (b then c)
then_assoc no_steps b c = refl
then_assoc (s ▷ a) b c = ap (λ z. s ▷ z) (then_assoc a b c)

pub lines_then : (a b : Steps) → lines_of (a then b) ≡ lines_of a ++ lines_of b
lines_then no_steps b = refl
lines_then (s ▷ a) b = ap (λ z. lines_in s ++ z) (lines_then a b) ∙ sym (append_assoc (lines_in s) (lines_of a) (lines_of b))

pub depth_then : (a b : Steps) → steps_depth (a then b) ≡ max (steps_depth a) (steps_depth b)
depth_then no_steps b = omega arith
depth_then (s ▷ a) b = ap (λ z. max (step_depth s) z) (depth_then a b) ∙ omega arith

-- ---- the lines of steps come to these steps

abbrev pub behind_body : Body → Steps → Body
behind_body b a = record b { steps = b.steps then a }

-- the lines of these steps come to them
abbrev ComeTo : Steps → Type 0
ComeTo a = (b : Body) → length b.entered + steps_depth a ≤ most_nested → put_all (lines_of a) b ≡ Some (behind_body b a)

entered_more : (b : Body) (o : Open) (more : Body → Option Body) → length b.entered < most_nested → go_on (in_rule b o) more ≡ more (record { entered = o ∷ b.entered; steps = no_steps })
entered_more b o more lt = ap (λ t. go_on (if t then Some record { entered = o ∷ b.entered; steps = no_steps } else None) more) (lt-ltb (length b.entered) most_nested lt)

loop_put : (r : Loop) (a : Steps) (b : Body) → length b.entered + (steps_depth a + 1) ≤ most_nested → ComeTo a → put_all (Enter r ∷ (lines_of a ++ Close ∷ [])) b ≡ Some (add b (around r a))
loop_put r a b h ih =
    let inside : Body = record { entered = InLoop b.steps r ∷ b.entered; steps = no_steps } in
    entered_more b (InLoop b.steps r) (put_all (lines_of a ++ Close ∷ [])) (omega arith)
    ∙ puts (lines_of a) (Close ∷ []) inside (behind_body inside a) (ih inside (omega arith))

branch_put : (t : _) (a c : Steps) (b : Body) → length b.entered + (max (steps_depth a) (steps_depth c) + 1) ≤ most_nested → ComeTo a → ComeTo c → put_all (lines_in (Branch t a c)) b ≡ Some (add b (Branch t a c))
branch_put t a c b h one two =
    let inside : Body = record { entered = InFirst b.steps t ∷ b.entered; steps = no_steps } in
    let beyond : Body = record { entered = InSecond b.steps t a ∷ b.entered; steps = no_steps } in
    entered_more b (InFirst b.steps t) (put_all (lines_of a ++ Else ∷ (lines_of c ++ Join ∷ []))) (omega arith)
    ∙ puts (lines_of a) (Else ∷ (lines_of c ++ Join ∷ [])) inside (behind_body inside a) (one inside (omega arith))
    ∙ puts (lines_of c) (Join ∷ []) beyond (behind_body beyond c) (two beyond (omega arith))

mutual
  pub step_put : (s : Step) (b : Body) → length b.entered + step_depth s ≤ most_nested → put_all (lines_in s) b ≡ Some (add b s)
  step_put (Basic x) b h = refl
  step_put (Branch t a c) b h = branch_put t a c b h (steps_put a) (steps_put c)
  step_put (tree.While t drops a) b h = loop_put (While t drops) a b h (steps_put a)
  step_put (tree.For s ts drops a) b h = loop_put (For s ts drops) a b h (steps_put a)
  step_put (tree.Repeat t drops a) b h = loop_put (Repeat t drops) a b h (steps_put a)
  step_put (tree.Gather t drops a) b h = loop_put (Gather t drops) a b h (steps_put a)
  step_put (tree.Pick t drops a) b h = loop_put (Pick t drops) a b h (steps_put a)

  pub steps_put : (a : Steps) (b : Body) → length b.entered + steps_depth a ≤ most_nested → put_all (lines_of a) b ≡ Some (behind_body b a)
  steps_put no_steps b h = ap (λ z. Some (record b { steps = z })) (sym (then_nothing b.steps))
  steps_put (s ▷ a) b h =
      puts (lines_in s) (lines_of a) b (add b s) (step_put s b (omega arith))
      ∙ steps_put a (add b s) (omega arith)
      ∙ ap (λ z. Some (record b { steps = z })) (then_assoc b.steps (s ▷ no_steps) a)

-- ---- the lines so far grow by the line that is put

pub same_body : {b c : Body} → Some b ≡ Some c → b ≡ c
same_body e = cc

pub nothing_put : {c : Body} → None ≡ Some c → ⊥
nothing_put e = let w = e in cc

pub entered_inverse : (b : Body) (o : Open) (c : Body) (t : Bool) → (if t then Some record { entered = o ∷ b.entered; steps = no_steps } else None) ≡ Some c → (t ≡ true) × (record { entered = o ∷ b.entered; steps = no_steps } ≡ c)
entered_inverse b o c true e = (refl, same_body e)
entered_inverse b o c false e = absurd (nothing_put e)

grow_rule : (b : Body) (o : Open) (c : Body) (l : Line) → lines_before o ≡ lines_of b.steps ++ l ∷ [] → in_rule b o ≡ Some c → lines_so_far c ≡ lines_so_far b ++ l ∷ []
grow_rule b o c l e p =
    let k = entered_inverse b o c (nat_lt (length b.entered) most_nested) p in
    ap lines_so_far (sym k.1)
    ∙ append-nil (lines_around b.entered ++ lines_before o)
    ∙ ap (λ z. lines_around b.entered ++ z) e
    ∙ sym (append_assoc (lines_around b.entered) (lines_of b.steps) (l ∷ []))

around_lines : (r : Loop) (a : Steps) → lines_in (around r a) ≡ Enter r ∷ (lines_of a ++ Close ∷ [])
around_lines (While t F) a = refl
around_lines (For s ts F) a = refl
around_lines (Repeat t F) a = refl
around_lines (Gather t F) a = refl
around_lines (Pick t F) a = refl

one_step : (a : Steps) (s : Step) → lines_of (a then (s ▷ no_steps)) ≡ lines_of a ++ lines_in s
one_step a s = lines_then a (s ▷ no_steps) ∙ ap (λ z. lines_of a ++ z) (append-nil (lines_in s))

grow_else : (os : List Open) (a : Steps) (c : Body) → second_side os a ≡ Some c → lines_so_far c ≡ (lines_around os ++ lines_of a) ++ Else ∷ []
grow_else (InFirst before t ∷ more) a c e = ap lines_so_far (sym (same_body e)) ∙ simp (append_assoc, append-nil)
grow_else [] a c e = absurd (nothing_put e)
grow_else (InLoop before r ∷ more) a c e = absurd (nothing_put e)
grow_else (InSecond before t first ∷ more) a c e = absurd (nothing_put e)

grow_join : (os : List Open) (a : Steps) (c : Body) → joined os a ≡ Some c → lines_so_far c ≡ (lines_around os ++ lines_of a) ++ Join ∷ []
grow_join (InSecond before t first ∷ more) a c e =
    ap lines_so_far (sym (same_body e)) ∙ ap (λ z. lines_around more ++ z) (one_step before (Branch t first a)) ∙ simp append_assoc
grow_join [] a c e = absurd (nothing_put e)
grow_join (InLoop before r ∷ more) a c e = absurd (nothing_put e)
grow_join (InFirst before t ∷ more) a c e = absurd (nothing_put e)

grow_close : (os : List Open) (a : Steps) (c : Body) → closed os a ≡ Some c → lines_so_far c ≡ (lines_around os ++ lines_of a) ++ Close ∷ []
grow_close (InLoop before r ∷ more) a c e =
    ap lines_so_far (sym (same_body e)) ∙ ap (λ z. lines_around more ++ z) (one_step before (around r a) ∙ ap (λ z. lines_of before ++ z) (around_lines r a)) ∙ simp append_assoc
grow_close [] a c e = absurd (nothing_put e)
grow_close (InFirst before t ∷ more) a c e = absurd (nothing_put e)
grow_close (InSecond before t first ∷ more) a c e = absurd (nothing_put e)

pub grows : (l : Line) (b c : Body) → put l b ≡ Some c → lines_so_far c ≡ lines_so_far b ++ l ∷ []
grows (Plain s) b c e = ap lines_so_far (sym (same_body e)) ∙ ap (λ z. lines_around b.entered ++ z) (one_step b.steps (Basic s)) ∙ sym (append_assoc (lines_around b.entered) (lines_of b.steps) (Plain s ∷ []))
grows (Fork t) b c e = grow_rule b (InFirst b.steps t) c (Fork t) refl e
grows (Enter r) b c e = grow_rule b (InLoop b.steps r) c (Enter r) refl e
grows Else b c e = grow_else b.entered b.steps c e
grows Join b c e = grow_join b.entered b.steps c e
grows Close b c e = grow_close b.entered b.steps c e
grows (Head f) b c e = absurd (nothing_put e)
grows End b c e = absurd (nothing_put e)
grows (Part n) b c e = absurd (nothing_put e)
grows EndPart b c e = absurd (nothing_put e)
grows (Use n) b c e = absurd (nothing_put e)

pub all_grow : (ls : List Line) (b c : Body) → put_all ls b ≡ Some c → lines_so_far c ≡ lines_so_far b ++ ls
all_grow [] b c e = ap lines_so_far (sym (same_body e)) ∙ sym (append-nil (lines_so_far b))
all_grow (l ∷ ls) b c e =
    let one = first_put (put l b) (put_all ls) c e in
    all_grow ls one.0 c one.2 ∙ ap (λ z. z ++ ls) (grows l b one.0 one.1) ∙ append_assoc (lines_so_far b) (l ∷ []) ls

-- ---- no steps nest too deep

abbrev open_depth : Open → ℕ
open_depth (InLoop before r) = steps_depth before
open_depth (InFirst before t) = steps_depth before
open_depth (InSecond before t first) = max (steps_depth before) (steps_depth first + 1)

abbrev AreNested : List Open → Type 0
AreNested [] = Unit {0}
AreNested (o ∷ os) = (length os + open_depth o ≤ most_nested) × AreNested os

abbrev pub IsNested : Body → Type 0
IsNested b = (length b.entered + steps_depth b.steps ≤ most_nested) × AreNested b.entered

pub loop_depth : (r : Loop) (a : Steps) → step_depth (around r a) ≡ steps_depth a + 1
loop_depth (While t F) a = refl
loop_depth (For s ts F) a = refl
loop_depth (Repeat t F) a = refl
loop_depth (Gather t F) a = refl
loop_depth (Pick t F) a = refl

moved_nested : {b c : Body} → b ≡ c → IsNested b → IsNested c
moved_nested e h = subst IsNested e h

nested_rule : (b : Body) (o : Open) (c : Body) → open_depth o ≡ steps_depth b.steps → IsNested b → in_rule b o ≡ Some c → IsNested c
nested_rule b o c d h p =
    let k = entered_inverse b o c (nat_lt (length b.entered) most_nested) p in
    let lt : length b.entered < most_nested = ltb-true (length b.entered) most_nested k.0 in
    let here = h.0 in
    moved_nested k.1 (omega arith, (omega arith, h.1))

nested_else : (os : List Open) (a : Steps) (c : Body) → length os + steps_depth a ≤ most_nested → AreNested os → second_side os a ≡ Some c → IsNested c
nested_else (InFirst before t ∷ more) a c h k e = let here = k.0 in moved_nested (same_body e) (omega arith, (omega arith, k.1))
nested_else [] a c h k e = absurd (nothing_put e)
nested_else (InLoop before r ∷ more) a c h k e = absurd (nothing_put e)
nested_else (InSecond before t first ∷ more) a c h k e = absurd (nothing_put e)

nested_join : (os : List Open) (a : Steps) (c : Body) → length os + steps_depth a ≤ most_nested → AreNested os → joined os a ≡ Some c → IsNested c
nested_join (InSecond before t first ∷ more) a c h k e =
    let here = k.0 in
    let d = depth_then before (Branch t first a ▷ no_steps) in
    moved_nested (same_body e) (omega arith, k.1)
nested_join [] a c h k e = absurd (nothing_put e)
nested_join (InLoop before r ∷ more) a c h k e = absurd (nothing_put e)
nested_join (InFirst before t ∷ more) a c h k e = absurd (nothing_put e)

nested_close : (os : List Open) (a : Steps) (c : Body) → length os + steps_depth a ≤ most_nested → AreNested os → closed os a ≡ Some c → IsNested c
nested_close (InLoop before r ∷ more) a c h k e =
    let here = k.0 in
    let d = depth_then before (around r a ▷ no_steps) in
    let f = loop_depth r a in
    moved_nested (same_body e) (omega arith, k.1)
nested_close [] a c h k e = absurd (nothing_put e)
nested_close (InFirst before t ∷ more) a c h k e = absurd (nothing_put e)
nested_close (InSecond before t first ∷ more) a c h k e = absurd (nothing_put e)

pub stays_nested : (l : Line) (b c : Body) → IsNested b → put l b ≡ Some c → IsNested c
stays_nested (Plain s) b c h e =
    let here = h.0 in
    let d = depth_then b.steps (Basic s ▷ no_steps) in
    moved_nested (same_body e) (omega arith, h.1)
stays_nested (Fork t) b c h e = nested_rule b (InFirst b.steps t) c refl h e
stays_nested (Enter r) b c h e = nested_rule b (InLoop b.steps r) c refl h e
stays_nested Else b c h e = nested_else b.entered b.steps c h.0 h.1 e
stays_nested Join b c h e = nested_join b.entered b.steps c h.0 h.1 e
stays_nested Close b c h e = nested_close b.entered b.steps c h.0 h.1 e
stays_nested (Head f) b c h e = absurd (nothing_put e)
stays_nested End b c h e = absurd (nothing_put e)
stays_nested (Part n) b c h e = absurd (nothing_put e)
stays_nested EndPart b c h e = absurd (nothing_put e)
stays_nested (Use n) b c h e = absurd (nothing_put e)

pub all_nested : (ls : List Line) (b c : Body) → IsNested b → put_all ls b ≡ Some c → IsNested c
all_nested [] b c h e = moved_nested (same_body e) h
all_nested (l ∷ ls) b c h e =
    let one = first_put (put l b) (put_all ls) c e in
    all_nested ls one.0 c (stays_nested l b one.0 h one.1) one.2
