-- What is written in format 2 is read back.
use Rattle.std.proofs.Common.{◌≡◌, ℕ, suc, ◌<◌, ◌≤◌, ◌+◌, ◌-◌, ◌^◌, max, Bool, true, false, List, [], ◌∷◌, ◌++◌, length, inl, inr, Option, Some, None, refl, sym, ap, subst, ◌∙◌, append_assoc, append-nil, arith}
use Rattle.std.specs.Prelude.{if◌then◌else◌, option_map, ◌⊎◌}
use Rattle.std.specs.List.{AllByRecursion}
use Rattle.std.proofs.lemmas.List.{length-append}
use Rattle.brisk_lex.specs.Spelled.{IsName}
use Rattle.brisk_values.specs.Names.{Name, same_name}
use Rattle.brisk_derivation.specs.Depths.{step_depth, steps_depth}
use Rattle.brisk_derivation.specs.Steps.{Step, Basic, Branch, Steps, no_steps, ◌▷◌}
use Rattle.brisk_derivation.specs.Steps as tree
use Rattle.brisk_derivtext.specs.declared.line.Line.{Line}
use Rattle.brisk_derivtext.specs.declared.line.Line.TheVariants.{Enter, Close, Fork, Else, Join, End, EndPart}
use Rattle.brisk_derivtext.specs.declared.line.Loop.TheVariants.{While, For, Repeat, Gather, Pick}
use Rattle.brisk_derivtext.specs.Alike.{same_step}
use Rattle.brisk_derivtext.specs.Laws.{SecondIsRead}
use Rattle.brisk_derivtext.specs.Lines.{IsLegal, line_text}
use Rattle.brisk_derivtext.specs.Parts.{Place, Written, nowhere, ◌⊳◌, both_steps, forked, part_lines, parts_lines, place_lines, places_lines, put_in, in_place, AreWithin, PartsStand}
use Rattle.brisk_derivtext.specs.Reading.{Ended, around, part_named}
use Rattle.brisk_derivtext.specs.Shared.{Met, meet, meet_all, meet_in, met_again, name_from, name_of, opened, part, part_name, parts_of, second_text, shared, used, written}
use Rattle.brisk_derivtext.specs.Texts.{AreFew, lines_in, lines_of, most_nested, text_of_lines}
use Rattle.brisk_derivtext.proofs.Appended.{texts_append}
use Rattle.brisk_derivtext.proofs.Equals.{name_is, name_itself, step_is}
use Rattle.brisk_derivtext.proofs.PartNames.{name_legal, same_number}
use Rattle.brisk_derivtext.proofs.Placed.{grammar_is_read}
use Rattle.brisk_derivtext.proofs.Written.{few_front, legal_append, legal_front}

-- ---- the steps of a text with uses

-- the parts that have ended hold the steps that are named
abbrev pub Named : List Step → List Ended → Type 0
Named ps es = (s : Step) (n : Name) → name_from 1 ps s ≡ Some n → part_named n es ≡ Some (s ▷ no_steps)

module _ (ps : List Step) (es : List Ended) (named : Named ps es) where
  named_of : (s : Step) (n : Name) → name_of ps s ≡ Some n → part_named n es ≡ Some (s ▷ no_steps)
  named_of (Basic b) n e = let w = e in cc
  named_of (Branch t a b) n e = named (Branch t a b) n e
  named_of (tree.While t f a) n e = named (tree.While t f a) n e
  named_of (tree.For s ts f a) n e = named (tree.For s ts f a) n e
  named_of (tree.Repeat t f a) n e = named (tree.Repeat t f a) n e
  named_of (tree.Gather t f a) n e = named (tree.Gather t f a) n e
  named_of (tree.Pick t f a) n e = named (tree.Pick t f a) n e

  used_put : (s : Step) (o : Option Name) → name_of ps s ≡ o → put_in es (opened ps s) ≡ Some (s ▷ no_steps) → put_in es (used o (opened ps s)) ≡ Some (s ▷ no_steps)
  used_put s None e h = h
  used_put s (Some n) e h = named_of s n e

  mutual
    pub opened_put : (s : Step) → put_in es (opened ps s) ≡ Some (s ▷ no_steps)
    opened_put (Basic b) = refl
    opened_put (Branch t a b) = λ i. forked t (shared_put a i) (shared_put b i)
    opened_put (tree.While t f a) = ap (option_map (λ p. around (While t f) p ▷ no_steps)) (shared_put a)
    opened_put (tree.For s ts f a) = ap (option_map (λ p. around (For s ts f) p ▷ no_steps)) (shared_put a)
    opened_put (tree.Repeat t f a) = ap (option_map (λ p. around (Repeat t f) p ▷ no_steps)) (shared_put a)
    opened_put (tree.Gather t f a) = ap (option_map (λ p. around (Gather t f) p ▷ no_steps)) (shared_put a)
    opened_put (tree.Pick t f a) = ap (option_map (λ p. around (Pick t f) p ▷ no_steps)) (shared_put a)

    pub shared_put : (a : Steps) → in_place es (shared ps a) ≡ Some a
    shared_put no_steps = refl
    shared_put (s ▷ rest) = λ i. both_steps (used_put s (name_of ps s) refl (opened_put s) i) (shared_put rest i)

-- ---- the parts that have ended

same_in : {x y : Name} → Some x ≡ Some y → x ≡ y
same_in h = let w = h in cc

no_name : {x : Steps} → Some x ≡ None → ⊥
no_name h = let w = h in cc

-- a step's name is that of a part before, or of one more behind them
abbrev FromEnd : ℕ → List Step → Step → Step → Name → Type 0
FromEnd k xs p s n = (name_from k xs s ≡ Some n) ⊎ ((p ≡ s) × (n ≡ part_name (k + length xs)))

from_here : (k : ℕ) (p s : Step) (n : Name) (b : Bool) → same_step p s ≡ b → (if b then Some (part_name k) else None) ≡ Some n → FromEnd k [] p s n
from_here k p s n true e h = inr (step_is p s e, sym (same_in h) ∙ ap part_name (omega arith))
from_here k p s n false e h = inl h

from_later : (k : ℕ) (x : Step) (xs : List Step) (p s : Step) (n : Name) (b : Bool) → (name_from (k + 1) (xs ++ p ∷ []) s ≡ Some n → FromEnd (k + 1) xs p s n) → (if b then Some (part_name k) else name_from (k + 1) (xs ++ p ∷ []) s) ≡ Some n → ((if b then Some (part_name k) else name_from (k + 1) xs s) ≡ Some n) ⊎ ((p ≡ s) × (n ≡ part_name (k + length (x ∷ xs))))
from_later k x xs p s n true more h = inl h
from_later k x xs p s n false more h = shift (more h)
  where
    shift : FromEnd (k + 1) xs p s n → (name_from (k + 1) xs s ≡ Some n) ⊎ ((p ≡ s) × (n ≡ part_name (k + length (x ∷ xs))))
    shift (inl l) = inl l
    shift (inr r) = inr (r.0, r.1 ∙ ap part_name (omega arith))

from_end : (k : ℕ) (xs : List Step) (p s : Step) (n : Name) → name_from k (xs ++ p ∷ []) s ≡ Some n → FromEnd k xs p s n
from_end k [] p s n h = from_here k p s n (same_step p s) refl h
from_end k (x ∷ xs) p s n h = from_later k x xs p s n (same_step x s) (from_end (k + 1) xs p s n) h

-- the parts hold the steps that are named, and no part has a later number
record Stand (ps : List Step) (es : List Ended) : Type 0 where
  named : Named ps es
  fresh : (m : ℕ) → length ps < m → m < 2 ^ 64 → part_named (part_name m) es ≡ None

abbrev ended : List Step → Step → Ended
ended ps p = record { name = part_name (length ps + 1); steps = p ▷ no_steps }

module _ (ps : List Step) (es : List Ended) (p : Step) (few : length ps + 1 < 2 ^ 64) (st : Stand ps es) where
  abbrev N : Name
  N = part_name (length ps + 1)

  named_before : (s : Step) (n : Name) (b : Bool) → same_name n N ≡ b → part_named n es ≡ Some (s ▷ no_steps) → (if b then Some (p ▷ no_steps) else part_named n es) ≡ Some (s ▷ no_steps)
  named_before s n true e h = absurd (no_name (sym h ∙ ap (λ z. part_named z es) (name_is n N e) ∙ st.fresh (length ps + 1) (omega arith) few))
  named_before s n false e h = h

  named_more : (s : Step) (n : Name) → FromEnd 1 ps p s n → part_named n (ended ps p ∷ es) ≡ Some (s ▷ no_steps)
  named_more s n (inl l) = named_before s n (same_name n N) refl (st.named s n l)
  named_more s n (inr r) =
      let is : n ≡ N = r.1 ∙ ap part_name (omega arith) in
      let same : same_name n N ≡ true = ap (λ z. same_name z N) is ∙ name_itself N in
      ap (λ z. if z then Some (p ▷ no_steps) else part_named n es) same ∙ ap (λ z. Some (z ▷ no_steps)) r.0

  fresh_more : (m : ℕ) (b : Bool) → same_name (part_name m) N ≡ b → length ps + 1 < m → m < 2 ^ 64 → (if b then Some (p ▷ no_steps) else part_named (part_name m) es) ≡ None
  fresh_more m true e lt small = absurd (let w = same_number m (length ps + 1) small few (name_is (part_name m) N e) in omega (arith, w, lt))
  fresh_more m false e lt small = st.fresh m (omega (arith, lt)) small

  stand_more : Stand (ps ++ p ∷ []) (ended ps p ∷ es)
  stand_more = record {
    named = λ s n h. named_more s n (from_end 1 ps p s n h);
    fresh = λ m lt small. fresh_more m (same_name (part_name m) N) refl (omega (arith, lt, length-append ps (p ∷ []))) small;
  }

-- ---- steps that fit into a text

abbrev Fits : Step → Type 0
Fits s = AllByRecursion IsLegal (lines_in s) × (step_depth s ≤ most_nested) × AreFew (lines_in s)

abbrev FitsAll : Steps → Type 0
FitsAll a = AllByRecursion IsLegal (lines_of a) × (steps_depth a ≤ most_nested) × AreFew (lines_of a)

abbrev AllFit : List Step → Type 0
AllFit [] = Unit {0}
AllFit (s ∷ ss) = Fits s × AllFit ss

abbrev MetFit : List Met → Type 0
MetFit [] = Unit {0}
MetFit (m ∷ ms) = Fits m.step × MetFit ms

legal_back : (xs ys : List Line) → AllByRecursion IsLegal (xs ++ ys) → AllByRecursion IsLegal ys
legal_back [] ys h = h
legal_back (x ∷ xs) ys h = legal_back xs ys h.1

few_middle : (xs ys zs : List Line) → AreFew (xs ++ (ys ++ zs)) → AreFew ys
few_middle xs ys zs h =
    let e = ap length (texts_append xs (ys ++ zs)) ∙ length-append (text_of_lines xs) (text_of_lines (ys ++ zs)) in
    let f = ap length (texts_append ys zs) ∙ length-append (text_of_lines ys) (text_of_lines zs) in
    omega (arith, e, f, h)

premise_fits : (l : Line) (a : Steps) → AllByRecursion IsLegal (l ∷ (lines_of a ++ Close ∷ [])) × (steps_depth a + 1 ≤ most_nested) × AreFew (l ∷ (lines_of a ++ Close ∷ [])) → FitsAll a
premise_fits l a h = (legal_front (lines_of a) (Close ∷ []) h.0.1, omega (arith, h.1), few_middle (l ∷ []) (lines_of a) (Close ∷ []) h.2)

first_fits : (t : Name) (a b : Steps) → Fits (Branch t a b) → FitsAll a
first_fits t a b h = (legal_front (lines_of a) (Else ∷ (lines_of b ++ Join ∷ [])) h.0.1, omega (arith, h.1), few_middle (Fork t ∷ []) (lines_of a) (Else ∷ (lines_of b ++ Join ∷ [])) h.2)

second_fits : (t : Name) (a b : Steps) → Fits (Branch t a b) → FitsAll b
second_fits t a b h =
    let behind = legal_back (lines_of a) (Else ∷ (lines_of b ++ Join ∷ [])) h.0.1 in
    let e : Fork t ∷ (lines_of a ++ Else ∷ (lines_of b ++ Join ∷ [])) ≡ (Fork t ∷ (lines_of a ++ Else ∷ [])) ++ (lines_of b ++ Join ∷ []) = ap (λ z. Fork t ∷ z) (sym (append_assoc (lines_of a) (Else ∷ []) (lines_of b ++ Join ∷ []))) in
    (legal_front (lines_of b) (Join ∷ []) behind.1, omega (arith, h.1), few_middle (Fork t ∷ (lines_of a ++ Else ∷ [])) (lines_of b) (Join ∷ []) (subst AreFew e h.2))

meet_fit : (ms : List Met) (s : Step) → MetFit ms → Fits s → MetFit (meet ms s)
meet_fit [] s f h = (h, tt)
meet_fit (m ∷ ms) s f h = by (same_step m.step s) (meet_fit ms s f.1 h)
  where
    by : (b : Bool) → MetFit (meet ms s) → MetFit (if b then record { step = m.step; again = true } ∷ ms else m ∷ meet ms s)
    by true k = (f.0, f.1)
    by false k = (f.0, k)

mutual
  in_fit : (ms : List Met) (s : Step) → MetFit ms → Fits s → MetFit (meet_in ms s)
  in_fit ms (Basic b) f h = f
  in_fit ms (Branch t a b) f h = meet_fit (meet_all (meet_all ms a) b) (Branch t a b) (all_fit (meet_all ms a) b (all_fit ms a f (first_fits t a b h)) (second_fits t a b h)) h
  in_fit ms (tree.While t d a) f h = meet_fit (meet_all ms a) (tree.While t d a) (all_fit ms a f (premise_fits (Enter (While t d)) a h)) h
  in_fit ms (tree.For s ts d a) f h = meet_fit (meet_all ms a) (tree.For s ts d a) (all_fit ms a f (premise_fits (Enter (For s ts d)) a h)) h
  in_fit ms (tree.Repeat t d a) f h = meet_fit (meet_all ms a) (tree.Repeat t d a) (all_fit ms a f (premise_fits (Enter (Repeat t d)) a h)) h
  in_fit ms (tree.Gather t d a) f h = meet_fit (meet_all ms a) (tree.Gather t d a) (all_fit ms a f (premise_fits (Enter (Gather t d)) a h)) h
  in_fit ms (tree.Pick t d a) f h = meet_fit (meet_all ms a) (tree.Pick t d a) (all_fit ms a f (premise_fits (Enter (Pick t d)) a h)) h

  all_fit : (ms : List Met) (a : Steps) → MetFit ms → FitsAll a → MetFit (meet_all ms a)
  all_fit ms no_steps f h = f
  all_fit ms (s ▷ rest) f h =
      let here : Fits s = (legal_front (lines_in s) (lines_of rest) h.0, omega (arith, h.1), few_front (lines_in s) (lines_of rest) h.2) in
      let later : FitsAll rest = (legal_back (lines_in s) (lines_of rest) h.0, omega (arith, h.1), few_middle (lines_in s) (lines_of rest) [] (subst AreFew (ap (λ z. lines_in s ++ z) (sym (append-nil (lines_of rest)))) h.2)) in
      all_fit (meet_in ms s) rest (in_fit ms s f here) later

again_fit : (ms : List Met) → MetFit ms → AllFit (met_again ms)
again_fit [] f = tt
again_fit (m ∷ ms) f = by m.again (again_fit ms f.1)
  where
    by : (b : Bool) → AllFit (met_again ms) → AllFit (if b then m.step ∷ met_again ms else met_again ms)
    by true k = (f.0, k)
    by false k = k

-- ---- the parts stand

within : (p : Step) → Fits p → AreWithin (p ▷ no_steps)
within p h = (omega (arith, h.1), subst AreFew (sym (append-nil (lines_in p))) h.2)

stands : (ps more : List Step) (es : List Ended) → Stand ps es → length ps + length more < 2 ^ 64 → AllFit more → (qs : List Ended) × PartsStand es (written ps more) qs × Stand (ps ++ more) qs
stands ps [] es st few fit = (es, refl, subst (λ z. Stand z es) (sym (append-nil ps)) st)
stands ps (p ∷ more) es st few fit =
    let now : length ps + 1 < 2 ^ 64 = omega (arith, few) in
    let next = stands (ps ++ p ∷ []) more (ended ps p ∷ es) (stand_more ps es p now st) (omega (arith, few, length-append ps (p ∷ []))) fit.1 in
    let put : in_place es (opened ps p ⊳ nowhere) ≡ Some (p ▷ no_steps) = ap (λ z. both_steps z (Some no_steps)) (opened_put ps es st.named p) in
    (next.0, (st.fresh (length ps + 1) (omega arith) now, p ▷ no_steps, put, within p fit.0, next.1), subst (λ z. Stand z next.0) (append_assoc ps (p ∷ []) more) next.2)

-- ---- the lines of a text with uses are legal

name_number : (k : ℕ) (ps : List Step) (s : Step) (n : Name) → name_from k ps s ≡ Some n → (m : ℕ) × (m < k + length ps) × (n ≡ part_name m)
name_number k [] s n h = absurd (let w = h in cc)
name_number k (p ∷ ps) s n h = by (same_step p s) h (name_number (k + 1) ps s n)
  where
    by : (b : Bool) → (if b then Some (part_name k) else name_from (k + 1) ps s) ≡ Some n → (name_from (k + 1) ps s ≡ Some n → (m : ℕ) × (m < (k + 1) + length ps) × (n ≡ part_name m)) → (m : ℕ) × (m < k + length (p ∷ ps)) × (n ≡ part_name m)
    by true e more = (k, omega arith, sym (same_in e))
    by false e more = let r = more e in (r.0, omega (arith, r.1), r.2)

module _ (ps : List Step) (few : length ps < 2 ^ 64 - 1) where
  use_legal : (s : Step) (n : Name) → name_from 1 ps s ≡ Some n → IsName n
  use_legal s n h = let r = name_number 1 ps s n h in subst IsName (sym r.2) (name_legal r.0 (omega (arith, few, r.1)))

  named_legal : (s : Step) (n : Name) → name_of ps s ≡ Some n → IsName n
  named_legal (Basic b) n e = absurd (let w = e in cc)
  named_legal (Branch t a b) n e = use_legal (Branch t a b) n e
  named_legal (tree.While t f a) n e = use_legal (tree.While t f a) n e
  named_legal (tree.For s ts f a) n e = use_legal (tree.For s ts f a) n e
  named_legal (tree.Repeat t f a) n e = use_legal (tree.Repeat t f a) n e
  named_legal (tree.Gather t f a) n e = use_legal (tree.Gather t f a) n e
  named_legal (tree.Pick t f a) n e = use_legal (tree.Pick t f a) n e

  used_legal : (s : Step) (o : Option Name) (x : Place) → name_of ps s ≡ o → AllByRecursion IsLegal (place_lines x) → AllByRecursion IsLegal (place_lines (used o x))
  used_legal s None x e h = h
  used_legal s (Some n) x e h = (named_legal s n e, tt)

  mutual
    opened_legal : (s : Step) → AllByRecursion IsLegal (lines_in s) → AllByRecursion IsLegal (place_lines (opened ps s))
    opened_legal (Basic b) h = h
    opened_legal (Branch t a b) h =
        let behind = legal_back (lines_of a) (Else ∷ (lines_of b ++ Join ∷ [])) h.1 in (
          h.0,
          legal_append (places_lines (shared ps a)) (Else ∷ (places_lines (shared ps b) ++ Join ∷ [])) (shared_legal a (legal_front (lines_of a) (Else ∷ (lines_of b ++ Join ∷ [])) h.1))
              (tt, legal_append (places_lines (shared ps b)) (Join ∷ []) (shared_legal b (legal_front (lines_of b) (Join ∷ []) behind.1)) (tt, tt)),
        )
    opened_legal (tree.While t f a) h = (h.0, legal_append (places_lines (shared ps a)) (Close ∷ []) (shared_legal a (legal_front (lines_of a) (Close ∷ []) h.1)) (tt, tt))
    opened_legal (tree.For s ts f a) h = (h.0, legal_append (places_lines (shared ps a)) (Close ∷ []) (shared_legal a (legal_front (lines_of a) (Close ∷ []) h.1)) (tt, tt))
    opened_legal (tree.Repeat t f a) h = (h.0, legal_append (places_lines (shared ps a)) (Close ∷ []) (shared_legal a (legal_front (lines_of a) (Close ∷ []) h.1)) (tt, tt))
    opened_legal (tree.Gather t f a) h = (h.0, legal_append (places_lines (shared ps a)) (Close ∷ []) (shared_legal a (legal_front (lines_of a) (Close ∷ []) h.1)) (tt, tt))
    opened_legal (tree.Pick t f a) h = (h.0, legal_append (places_lines (shared ps a)) (Close ∷ []) (shared_legal a (legal_front (lines_of a) (Close ∷ []) h.1)) (tt, tt))

    shared_legal : (a : Steps) → AllByRecursion IsLegal (lines_of a) → AllByRecursion IsLegal (places_lines (shared ps a))
    shared_legal no_steps h = tt
    shared_legal (s ▷ rest) h =
        legal_append (place_lines (used (name_of ps s) (opened ps s))) (places_lines (shared ps rest)) (used_legal s (name_of ps s) (opened ps s) refl (opened_legal s (legal_front (lines_in s) (lines_of rest) h))) (shared_legal rest (legal_back (lines_in s) (lines_of rest) h))

parts_legal : (ps more : List Step) → AllFit more → length ps + length more < 2 ^ 64 - 1 → AllByRecursion IsLegal (parts_lines (written ps more))
parts_legal ps [] fit few = tt
parts_legal ps (p ∷ more) fit few =
    let opens = legal_append (place_lines (opened ps p)) [] (opened_legal ps (omega (arith, few)) p fit.0.0) tt in
    let here = legal_append (place_lines (opened ps p) ++ []) (EndPart ∷ []) opens (tt, tt) in
    legal_append (part_lines (part ps p)) (parts_lines (written (ps ++ p ∷ []) more)) (name_legal (length ps + 1) (omega (arith, few)), here) (parts_legal (ps ++ p ∷ []) more fit.1 (omega (arith, few, length-append ps (p ∷ []))))

-- ---- how many parts there are

meet_count : (ms : List Met) (s : Step) → length (meet ms s) ≤ length ms + 1
meet_count [] s = omega arith
meet_count (m ∷ ms) s = by (same_step m.step s) (meet_count ms s)
  where
    by : (b : Bool) → length (meet ms s) ≤ length ms + 1 → length (if b then record { step = m.step; again = true } ∷ ms else m ∷ meet ms s) ≤ length (m ∷ ms) + 1
    by true k = omega arith
    by false k = omega (arith, k)

premise_count : (ms : List Met) (l : Line) (a : Steps) (s : Step) → length (meet_all ms a) ≤ length ms + length (lines_of a) → length (meet (meet_all ms a) s) ≤ length ms + length (l ∷ (lines_of a ++ Close ∷ []))
premise_count ms l a s h = omega (arith, h, meet_count (meet_all ms a) s, length-append (lines_of a) (Close ∷ []))

mutual
  in_count : (ms : List Met) (s : Step) → length (meet_in ms s) ≤ length ms + length (lines_in s)
  in_count ms (Basic b) = omega arith
  in_count ms (Branch t a b) =
      omega (arith, all_count ms a, all_count (meet_all ms a) b, meet_count (meet_all (meet_all ms a) b) (Branch t a b), length-append (lines_of a) (Else ∷ (lines_of b ++ Join ∷ [])), length-append (lines_of b) (Join ∷ []))
  in_count ms (tree.While t d a) = premise_count ms (Enter (While t d)) a (tree.While t d a) (all_count ms a)
  in_count ms (tree.For s ts d a) = premise_count ms (Enter (For s ts d)) a (tree.For s ts d a) (all_count ms a)
  in_count ms (tree.Repeat t d a) = premise_count ms (Enter (Repeat t d)) a (tree.Repeat t d a) (all_count ms a)
  in_count ms (tree.Gather t d a) = premise_count ms (Enter (Gather t d)) a (tree.Gather t d a) (all_count ms a)
  in_count ms (tree.Pick t d a) = premise_count ms (Enter (Pick t d)) a (tree.Pick t d a) (all_count ms a)

  all_count : (ms : List Met) (a : Steps) → length (meet_all ms a) ≤ length ms + length (lines_of a)
  all_count ms no_steps = omega arith
  all_count ms (s ▷ rest) = omega (arith, in_count ms s, all_count (meet_in ms s) rest, length-append (lines_in s) (lines_of rest))

again_count : (ms : List Met) → length (met_again ms) ≤ length ms
again_count [] = omega arith
again_count (m ∷ ms) = by m.again (again_count ms)
  where
    by : (b : Bool) → length (met_again ms) ≤ length ms → length (if b then m.step ∷ met_again ms else met_again ms) ≤ length (m ∷ ms)
    by true k = omega (arith, k)
    by false k = omega (arith, k)

lines_count : (ls : List Line) → length ls ≤ length (text_of_lines ls)
lines_count [] = omega arith
lines_count (l ∷ ls) = omega (arith, lines_count ls, length-append (line_text l) (10 ∷ text_of_lines ls))

parts_few : (D : Steps) → AreFew (lines_of D) → length (parts_of D) < 2 ^ 64 - 1
parts_few D h = omega (arith, h, again_count (meet_all [] D), all_count [] D, lines_count (lines_of D))

-- ---- the law

pub second_is_read : SecondIsRead
second_is_read D h =
    let ps = parts_of D in
    let few = parts_few D h.few in
    let fit : AllFit ps = again_fit (meet_all [] D) (all_fit [] D tt (h.legal, h.nested, h.few)) in
    let none : Stand [] [] = record { named = λ s n e. absurd (let w = e in cc); fresh = λ m lt small. refl } in
    let st = stands [] ps [] none (omega (arith, few)) fit in
    grammar_is_read (second_text D) D (record {
      parts = written [] ps;
      main = shared ps D;
      ended = st.0;
      stand = st.1;
      steps = shared_put ps st.0 st.2.named D;
      within = (h.nested, h.few);
      legal = (tt, legal_append (parts_lines (written [] ps)) (places_lines (shared ps D) ++ End ∷ []) (parts_legal [] ps fit (omega (arith, few))) (legal_append (places_lines (shared ps D)) (End ∷ []) (shared_legal ps few D h.legal) (tt, tt)));
      bytes = refl;
    })
