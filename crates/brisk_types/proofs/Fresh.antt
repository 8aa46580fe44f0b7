-- Lists of names that differ from each other and from those before them.
use Rattle.std.proofs.Common.{◌≡◌, ℕ, ◌+◌, Bool, true, false, ◌||◌, ◌&&◌, not, List, [], ◌∷◌, ◌++◌, map, Some, refl, sym, ap, subst, ◌∙◌}
use Rattle.std.specs.Prelude.{if◌then◌else◌}
use Rattle.std.specs.List.{AllByRecursion}
use Rattle.std.specs.Option.{is_some}
use Rattle.std.proofs.lemmas.List.{map-append}
use Rattle.brisk_values.specs.Names.{Name, same_name}
use Rattle.brisk_values.proofs.Changes.{name_laws, both_true, both_hold, neither}
use Rattle.brisk_syntax.specs.Typing.{is_among, are_distinct}
use Rattle.brisk_types.specs.declared.fault.Rule.{Rule}
use Rattle.brisk_types.specs.declared.fault.Rule.TheVariants.{Twice}
use Rattle.brisk_types.specs.declared.places.Placed.{Placed}
use Rattle.brisk_types.specs.Declarations.{apart, place_of, tags}
use Rattle.brisk_types.specs.Failures.{NoneFails, when}
use Rattle.brisk_types.proofs.Indexes.{any_last}
use Rattle.std.proofs.lemmas.Bool.{not-false, not-true}

-- ---- tests

pub not_when : (b : Bool) (r : Rule) (i : ℕ) → NoneFails (when b r i) → b ≡ false
not_when true r i h = absurd h
not_when false r i h = refl

pub when_not : (b : Bool) (r : Rule) (i : ℕ) → b ≡ false → NoneFails (when b r i)
when_not true r i h = cc
when_not false r i h = tt

pub both_false : (a b : Bool) → a ≡ false → b ≡ false → (a || b) ≡ false
both_false true b h k = cc
both_false false b h k = k

-- ---- names

-- each name differs from those before it
abbrev pub Fresh : List Name → List Name → Type 0
Fresh before [] = Unit {0}
Fresh before (x ∷ xs) = (is_among before x ≡ false) × Fresh (before ++ x ∷ []) xs

-- none of the names is among those
abbrev pub NoneAmong : List Name → List Name → Type 0
NoneAmong before xs = AllByRecursion (λ x. is_among before x ≡ false) xs

apart_symm : (x y : Name) → same_name x y ≡ false → same_name y x ≡ false
apart_symm x y h = name_laws.symm y x ∙ h

-- none of the names is among those and one more
last_out : (before : List Name) (x : Name) (ys : List Name) → NoneAmong (before ++ x ∷ []) ys → NoneAmong before ys × (is_among ys x ≡ false)
last_out before x [] h = (tt, refl)
last_out before x (y ∷ ys) h =
    let rest = last_out before x ys h.1 in
    let here = neither (is_among before y) (same_name y x) (sym (any_last (same_name y) before x) ∙ h.0) in
    ((here.0, rest.0), both_false (same_name x y) (is_among ys x) (apart_symm y x here.1) rest.1)

last_in : (before : List Name) (x : Name) (ys : List Name) → NoneAmong before ys → is_among ys x ≡ false → NoneAmong (before ++ x ∷ []) ys
last_in before x [] h k = tt
last_in before x (y ∷ ys) h k =
    let here = neither (same_name x y) (is_among ys x) k in
    (any_last (same_name y) before x ∙ both_false (is_among before y) (same_name y x) h.0 (apart_symm x y here.0), last_in before x ys h.1 here.1)

pub fresh_distinct : (before xs : List Name) → Fresh before xs → (are_distinct xs ≡ true) × NoneAmong before xs
fresh_distinct before [] h = (refl, tt)
fresh_distinct before (x ∷ xs) h =
    let rest = fresh_distinct (before ++ x ∷ []) xs h.1 in
    let out = last_out before x xs rest.1 in
    (both_hold (not (is_among xs x)) (are_distinct xs) (ap not out.1) rest.0, (h.0, out.0))

pub distinct_fresh : (before xs : List Name) → are_distinct xs ≡ true → NoneAmong before xs → Fresh before xs
distinct_fresh before [] h k = tt
distinct_fresh before (x ∷ xs) h k =
    let parts = both_true (not (is_among xs x)) (are_distinct xs) h in
    (k.0, distinct_fresh (before ++ x ∷ []) xs parts.1 (last_in before x xs k.1 (not-true (is_among xs x) parts.0)))

none_before : (xs : List Name) → NoneAmong [] xs
none_before [] = tt
none_before (x ∷ xs) = (refl, none_before xs)

pub all_fresh : (xs : List Name) → are_distinct xs ≡ true → Fresh [] xs
all_fresh xs h = distinct_fresh [] xs h (none_before xs)

-- ---- tags, and names that are known everywhere

pub tags_fresh : (before ts : List Name) (i : ℕ) → NoneFails (tags before i ts) → Fresh before ts
tags_fresh before [] i h = tt
tags_fresh before (t ∷ ts) i h = (not_when (is_among before t) Twice i h.0, tags_fresh (before ++ t ∷ []) ts (i + 2) h.1)

pub fresh_tags : (before ts : List Name) (i : ℕ) → Fresh before ts → NoneFails (tags before i ts)
fresh_tags before [] i h = tt
fresh_tags before (t ∷ ts) i h = (when_not (is_among before t) Twice i h.0, fresh_tags (before ++ t ∷ []) ts (i + 2) h.1)

abbrev pub names_of : List Placed → List Name
names_of ps = map (λ p. p.name) ps

-- a name has a place exactly where it is one of the names
pub is_placed : (ps : List Placed) (n : Name) → is_some (place_of ps n) ≡ is_among (names_of ps) n
is_placed [] n = refl
is_placed (p ∷ ps) n = elim (same_name n p.name) as (λ b. is_some (if b then Some p.at else place_of ps n) ≡ (b || is_among (names_of ps) n)) [ true ↦ refl | false ↦ is_placed ps n ]

names_last : (ps : List Placed) (p : Placed) → names_of (ps ++ p ∷ []) ≡ names_of ps ++ p.name ∷ []
names_last ps p = map-append (λ p. p.name) ps (p ∷ [])

pub apart_fresh : (before ps : List Placed) → NoneFails (apart before ps) → Fresh (names_of before) (names_of ps)
apart_fresh before [] h = tt
apart_fresh before (p ∷ ps) h = (
  sym (is_placed before p.name) ∙ not_when (is_some (place_of before p.name)) Twice p.at h.0,
  subst (λ (ns : List Name). Fresh ns (names_of ps)) (names_last before p) (apart_fresh (before ++ p ∷ []) ps h.1),
)

pub fresh_apart : (before ps : List Placed) → Fresh (names_of before) (names_of ps) → NoneFails (apart before ps)
fresh_apart before [] h = tt
fresh_apart before (p ∷ ps) h = (
  when_not (is_some (place_of before p.name)) Twice p.at (is_placed before p.name ∙ h.0),
  fresh_apart (before ++ p ∷ []) ps (subst (λ (ns : List Name). Fresh ns (names_of ps)) (sym (names_last before p)) h.1),
)
