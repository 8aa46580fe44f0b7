-- Indexes that grow with a list.
use Rattle.std.proofs.Common.{◌≡◌, ℕ, ◌+◌, ◌<◌, Bool, true, false, cond, ◌||◌, ◌&&◌, List, [], ◌∷◌, ◌++◌, length, take, drop, get_or, map, Option, Some, None, refl, sym, ap, ◌∙◌}
use Rattle.std.specs.Prelude.{option_map}
use Rattle.std.specs.List.{list_any}
use Rattle.std.specs.Option.{is_some, option_or}
use Rattle.std.proofs.lemmas.List.{take_more, drop_more, map-append}
use Rattle.std.proofs.lemmas.List.Folds.{list_any-append}
use Rattle.brisk_values.specs.Names.{Name, same_name}
use Rattle.brisk_syntax.specs.declared.program.Channel.{Channel}
use Rattle.brisk_syntax.specs.Declarations.{kinds_on, channel_named}
use Rattle.brisk_types.specs.Declarations.{place_of, apart, tags}
use Rattle.brisk_types.specs.Failures.{note_all, when}
use Rattle.brisk_types.specs.declared.fault.Failure.{Failure}
use Rattle.brisk_types.specs.declared.fault.Rule.TheVariants.{Twice}
use Rattle.brisk_types.specs.declared.places.Placed.{Placed}
use Rattle.std.proofs.Math.Bool.{or-false}

-- ---- one more item of a list

module _ {X : Type 0} (xs : List X) (i : ℕ) (x : X) (lt : i < length xs) (at : x ≡ get_or xs i x) where
  pub take_item : take (i + 1) xs ≡ take i xs ++ x ∷ []
  take_item = take_more xs i x lt ∙ ap (λ y. take i xs ++ y ∷ []) (sym at)

  pub drop_item : drop i xs ≡ x ∷ drop (i + 1) xs
  drop_item = drop_more xs i x lt ∙ ap (λ y. y ∷ drop (i + 1) xs) (sym at)

pub any_last : {X : Type 0} (p : X → Bool) (xs : List X) (x : X) → list_any p (xs ++ x ∷ []) ≡ (list_any p xs || p x)
any_last p xs x = list_any-append p xs (x ∷ []) ∙ ap (λ b. list_any p xs || b) (or-false (p x))

-- what one more item makes of a test of any
pub any_item : {X : Type 0} (p : X → Bool) (xs : List X) (i : ℕ) (x : X) → i < length xs → x ≡ get_or xs i x → list_any p (take (i + 1) xs) ≡ (list_any p (take i xs) || p x)
any_item p xs i x lt at = ap (list_any p) (take_item xs i x lt at) ∙ any_last p (take i xs) x

pub any_image : {X Y : Type 0} (f : X → Y) (p : Y → Bool) (xs : List X) (i : ℕ) (x : X) → i < length xs → x ≡ get_or xs i x
    → list_any p (map f (take (i + 1) xs)) ≡ (list_any p (map f (take i xs)) || p (f x))
any_image f p xs i x lt at = ap (λ ys. list_any p (map f ys)) (take_item xs i x lt at) ∙ ap (list_any p) (map-append f (take i xs) (x ∷ [])) ∙ any_last p (map f (take i xs)) (f x)

-- ---- one more key of an index

pub some_or : {V : Type 0} (f : Option V) (b : Bool) (v : V) → is_some (option_or f (cond b (Some v) None)) ≡ (is_some f || b)
some_or (Some w) b v = refl
some_or None true v = refl
some_or None false v = refl

-- the index finds what it found and one more key
pub found_more : {V : Type 0} (f g : Option V) (b : Bool) (v : V) (old : Bool) → g ≡ option_or f (cond b (Some v) None) → is_some f ≡ old → is_some g ≡ (old || b)
found_more f g b v old h e = ap is_some h ∙ some_or f b v ∙ ap (λ c. c || b) e

-- one more tag of one enumeration
pub one_tag : (a e t u : Bool) → ((a || (e && t)) || (e && u)) ≡ (a || (e && (t || u)))
one_tag true e t u = refl
one_tag false true t u = refl
one_tag false false t u = refl

-- a role that is, or isn't, of the kind that is looked for
pub of_kind : (a b m : Bool) → m ≡ true → (a || b) ≡ (a || (b && m))
of_kind true b m h = refl
of_kind false true m h = sym h
of_kind false false m h = refl

pub not_of_kind : (a b m : Bool) → m ≡ false → a ≡ (a || (b && m))
not_of_kind true b m h = refl
not_of_kind false true m h = sym h
not_of_kind false false m h = refl

pub seen_or : {V W : Type 0} (s : V → W) (f : Option V) (b : Bool) (v : V) → option_map s (option_or f (cond b (Some v) None)) ≡ option_or (option_map s f) (cond b (Some (s v)) None)
seen_or s (Some w) b v = refl
seen_or s None true v = refl
seen_or s None false v = refl

kinds_last : (cs : List Channel) (d : Channel) (c : Name) → kinds_on (cs ++ d ∷ []) c ≡ option_or (kinds_on cs c) (cond (same_name c d.name) (Some d.kinds) None)
kinds_last [] d c = elim (same_name c d.name) as (λ b. option_map (λ (d : Channel). d.kinds) (cond b (Some d) None) ≡ cond b (Some d.kinds) None) [ true ↦ refl | false ↦ refl ]
kinds_last (e ∷ cs) d c =
    elim (same_name c e.name) as (λ b. option_map (λ (d : Channel). d.kinds) (cond b (Some e) (channel_named (cs ++ d ∷ []) c)) ≡ option_or (option_map (λ (d : Channel). d.kinds) (cond b (Some e) (channel_named cs c))) (cond (same_name c d.name) (Some d.kinds) None))
    [ true ↦ refl | false ↦ kinds_last cs d c ]

-- one more channel
pub kinds_item : (cs : List Channel) (i : ℕ) (d : Channel) (c : Name) → i < length cs → d ≡ get_or cs i d → kinds_on (take (i + 1) cs) c ≡ option_or (kinds_on (take i cs) c) (cond (same_name c d.name) (Some d.kinds) None)
kinds_item cs i d c lt at = ap (λ ds. kinds_on ds c) (take_item cs i d lt at) ∙ kinds_last (take i cs) d c

place_last : (ps : List Placed) (p : Placed) (n : Name) → place_of (ps ++ p ∷ []) n ≡ option_or (place_of ps n) (cond (same_name n p.name) (Some p.at) None)
place_last [] p n = refl
place_last (q ∷ ps) p n =
    elim (same_name n q.name) as (λ b. cond b (Some q.at) (place_of (ps ++ p ∷ []) n) ≡ option_or (cond b (Some q.at) (place_of ps n)) (cond (same_name n p.name) (Some p.at) None))
    [ true ↦ refl | false ↦ place_last ps p n ]

-- one more place
pub place_item : (ps : List Placed) (i : ℕ) (p : Placed) (n : Name) → i < length ps → p ≡ get_or ps i p → place_of (take (i + 1) ps) n ≡ option_or (place_of (take i ps) n) (cond (same_name n p.name) (Some p.at) None)
place_item ps i p n lt at = ap (λ qs. place_of qs n) (take_item ps i p lt at) ∙ place_last (take i ps) p n

-- the names so far and those that are left, after one more
pub apart_item : (o new all : Option Failure) (ps : List Placed) (i : ℕ) (p : Placed) (b : Bool) → i < length ps → p ≡ get_or ps i p
    → b ≡ is_some (place_of (take i ps) p.name) → new ≡ note_all o (when b Twice p.at) → note_all o (apart (take i ps) (drop i ps)) ≡ all
    → note_all new (apart (take (i + 1) ps) (drop (i + 1) ps)) ≡ all
apart_item o new all ps i p b lt at seen noted so_far =
    ap (λ qs. note_all new (apart qs (drop (i + 1) ps))) (take_item ps i p lt at)
    ∙ ap (λ r. note_all r (apart (take i ps ++ p ∷ []) (drop (i + 1) ps))) (noted ∙ ap (λ c. note_all o (when c Twice p.at)) seen)
    ∙ sym (ap (λ qs. note_all o (apart (take i ps) qs)) (drop_item ps i p lt at)) ∙ so_far

pub tags_item : (o new all : Option Failure) (ts : List Name) (i : ℕ) (t : Name) (j : ℕ) (b : Bool) → i < length ts → t ≡ get_or ts i t
    → b ≡ list_any (same_name t) (take i ts) → new ≡ note_all o (when b Twice j) → note_all o (tags (take i ts) j (drop i ts)) ≡ all
    → note_all new (tags (take (i + 1) ts) (j + 2) (drop (i + 1) ts)) ≡ all
tags_item o new all ts i t j b lt at seen noted so_far =
    ap (λ us. note_all new (tags us (j + 2) (drop (i + 1) ts))) (take_item ts i t lt at)
    ∙ ap (λ r. note_all r (tags (take i ts ++ t ∷ []) (j + 2) (drop (i + 1) ts))) (noted ∙ ap (λ c. note_all o (when c Twice j)) seen)
    ∙ sym (ap (λ us. note_all o (tags (take i ts) j us)) (drop_item ts i t lt at)) ∙ so_far
