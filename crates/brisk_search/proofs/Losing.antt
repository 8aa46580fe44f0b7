-- What code touches, and the facts that are dropped for it, one after another.
use Rattle.std.proofs.Common.{◌≡◌, Bool, true, false, List, [], ◌∷◌, ◌++◌, sym, ap, ◌∙◌}
use Rattle.std.specs.Prelude.{◌||◌, filter, if◌then◌else◌}
use Rattle.std.proofs.Math.Seq.{append_snoc}
use Rattle.std.proofs.lemmas.List.{append_assoc}
use Rattle.std.proofs.lemmas.List.Elements.{filter-append}
use Rattle.std.proofs.lemmas.List.Folds.{list_any-append}
use Rattle.brisk_values.specs.Names.{Name, same_name}
use Rattle.brisk_syntax.specs.Roles.{RoleText}
use Rattle.brisk_syntax.specs.Syntax.{Statement, Code, ◌⨾◌}
use Rattle.brisk_syntax.specs.Typing.{is_among}
use Rattle.brisk_derivation.specs.declared.steps.Fact.{Fact}
use Rattle.brisk_search.specs.Tries.{places, places_of, touched_by, touched_in}

either : (xs ys : List Name) (x : Name) (b : Bool) → is_among xs x ≡ b → is_among (xs ++ ys) x ≡ (b || is_among ys x)
either xs ys x b e = list_any-append (same_name x) xs ys ∙ ap (λ c. c || is_among ys x) e

pub touched_first : (s : Statement) (c : Code) (x : Name) → is_among (touched_by s) x ≡ true → is_among (touched_in (s ⨾ c)) x ≡ true
touched_first s c x e = either (touched_by s) (touched_in c) x true e

pub not_touched : (s : Statement) (c : Code) (x : Name) → is_among (touched_by s) x ≡ false → is_among (touched_in (s ⨾ c)) x ≡ is_among (touched_in c) x
not_touched s c x e = either (touched_by s) (touched_in c) x false e

pub among_first : (xs ys : List Name) (x : Name) → is_among xs x ≡ true → true ≡ is_among (xs ++ ys) x
among_first xs ys x e = sym (either xs ys x true e)

pub among_later : (xs ys : List Name) (x : Name) → is_among xs x ≡ false → is_among ys x ≡ is_among (xs ++ ys) x
among_later xs ys x e = sym (either xs ys x false e)

-- one more place is looked at
pub one_place : (test : Fact → Bool) (before after : List Fact) (q : Fact) (rest : List Fact) (b : Bool) → b ≡ test q → after ≡ (if b then before ++ q ∷ [] else before) → after ++ filter test rest ≡ before ++ filter test (q ∷ rest)
one_place test before after q rest true e f = ap (λ qs. qs ++ filter test rest) f ∙ append_snoc before q (filter test rest) ∙ ap (λ (b : Bool). before ++ (if b then q ∷ filter test rest else filter test rest)) e
one_place test before after q rest false e f = ap (λ qs. qs ++ filter test rest) f ∙ ap (λ (b : Bool). before ++ (if b then q ∷ filter test rest else filter test rest)) e

-- one more role is looked at
pub one_role : (test : Fact → Bool) (before after : List Fact) (r : RoleText) (rest : List RoleText) → after ≡ before ++ filter test (places_of r) → after ++ filter test (places rest) ≡ before ++ filter test (places (r ∷ rest))
one_role test before after r rest e =
    ap (λ qs. qs ++ filter test (places rest)) e ∙ append_assoc before (filter test (places_of r)) (filter test (places rest)) ∙ ap (λ qs. before ++ qs) (sym (filter-append test (places_of r) (places rest)))
