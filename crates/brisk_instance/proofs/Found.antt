-- The values that are found for inputs are those that are given, where the places differ.
use Rattle.std.proofs.Common.{◌≡◌, true, false, List, [], ◌∷◌, cond, map, Some, refl, sym, ap, ◌∙◌, subst}
use Rattle.std.specs.List.{AllByRecursion}
use Rattle.std.specs.Ordering.{eq_by_cmp}
use Rattle.std.specs.Cmp.{eq_by_cmp_equiv}
use Rattle.std.specs.FinMap.{empty, get, insert, get-insert}
use Rattle.std.proofs.lemmas.Map.Views.{tells_apart}
use Rattle.brisk_values.specs.declared.instance.Input.{Input}
use Rattle.brisk_values.specs.declared.instance.Instance.{Instance as Given}
use Rattle.brisk_values.specs.declared.value.Value.{Value}
use Rattle.brisk_values.specs.Places.{Entries, place_cmp, value_in}
use Rattle.brisk_values.proofs.Entries.{exact_places, place_total}
use Rattle.brisk_syntax.specs.Roles.{RoleText}
use Rattle.brisk_syntax.specs.Value.{or_false}
use Rattle.brisk_instance.specs.Given.{AreApart, all_inputs, instance_of, place_of, with_inputs}
use Rattle.brisk_instance.specs.Walks.{Place}
use Rattle.brisk_instance.proofs.Alls.{all_weaken}
use Rattle.brisk_instance.proofs.Differ.{Differ, IsNone, inputs_differ, keys_differ}

-- a value at one place leaves every other place as it is
insert_elsewhere : (m : Entries) (k : Place) (v : Value) (q : Place) → (q ≡ k → ⊥) → get (insert m k v) q ≡ get m q
insert_elsewhere m k v q apart =
    get-insert place_total m k v q
    ∙ elim (eq_by_cmp place_cmp q k) as (λ b. eq_by_cmp place_cmp q k ≡ b → cond b (Some v) (get m q) ≡ get m q) [
      | true ↦ λ e. absurd (apart (tells_apart exact_places q k e))
      | false ↦ λ e. refl
    ] refl

insert_here : (m : Entries) (k : Place) (v : Value) → get (insert m k v) k ≡ Some v
insert_here m k v = get-insert place_total m k v k ∙ ap (λ b. cond b (Some v) (get m k)) ((eq_by_cmp_equiv place_total).refl k)

-- inputs leave every place that is none of theirs as it is
inputs_elsewhere : (es : List Input) (m : Entries) (q : Place) → IsNone place_of es q → get (with_inputs es m) q ≡ get m q
inputs_elsewhere [] m q h = refl
inputs_elsewhere (e ∷ es) m q h = inputs_elsewhere es (insert m (place_of e) e.value) q h.1 ∙ insert_elsewhere m (place_of e) e.value q h.0

-- at the place of each input stands its value
inputs_here : (es : List Input) (m : Entries) → Differ place_of es → AllByRecursion (λ e. value_in (with_inputs es m) e.process e.variable ≡ Some e.value) es
inputs_here [] m d = tt
inputs_here (e ∷ es) m d = (inputs_elsewhere es (insert m (place_of e) e.value) (place_of e) d.0 ∙ insert_here m (place_of e) e.value, inputs_here es (insert m (place_of e) e.value) d.1)

-- the instance that is given has each input's value
pub found : (roles : List RoleText) (g : Given) → AreApart roles → map place_of g.inputs ≡ all_inputs (instance_of g) roles → AllByRecursion (λ e. (instance_of g).input e.process e.variable ≡ e.value) g.inputs
found roles g apart same =
    all_weaken (λ e. value_in (with_inputs g.inputs empty) e.process e.variable ≡ Some e.value) (λ e. (instance_of g).input e.process e.variable ≡ e.value) (λ e h. ap or_false h) g.inputs
    (inputs_here g.inputs empty (keys_differ place_of g.inputs (subst (Differ (λ (a : Place). a)) (sym same) (inputs_differ (instance_of g) roles apart))))
