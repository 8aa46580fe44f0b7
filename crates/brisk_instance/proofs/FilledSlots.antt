-- The inputs of roles as slots: their places, and when their values fit.
use Rattle.std.proofs.Common.{◌≡◌, ◌≤◌, List, [], ◌∷◌, ◌++◌, map, flat_map, refl, ap, ◌∙◌}
use Rattle.std.specs.List.{AllByRecursion}
use Rattle.std.proofs.lemmas.List.{map-append}
use Rattle.brisk_values.specs.declared.value.Pid.{Pid}
use Rattle.brisk_values.specs.Names.{member}
use Rattle.brisk_syntax.specs.declared.program.Decl.{Decl}
use Rattle.brisk_syntax.specs.declared.program.Decl.TheVariants as decl
use Rattle.brisk_syntax.specs.declared.program.EnumDecl.{EnumDecl}
use Rattle.brisk_syntax.specs.Instance.{InputFits, Instance, IsOfKind, RoleFits, least, processes}
use Rattle.brisk_syntax.specs.Roles.{RoleText}
use Rattle.brisk_instance.specs.Given.{all_inputs, inputs_at, members}
use Rattle.brisk_instance.specs.Ordered.{Slot, role_slots, slots, slots_at}
use Rattle.brisk_instance.specs.Walks.{Place, role_inputs}
use Rattle.brisk_instance.proofs.Alls.{all_flat, all_meet, all_members, all_weaken, each_member, each_of_flat}

-- the process and the variable of a slot
abbrev pub place_at : Slot → Place
place_at s = (s.process, s.variable)

-- to map all parts is to map each
map_flat : {X A B : Type 0} (h : A → B) (f : X → List A) (k : X → List B) → ((x : X) → map h (f x) ≡ k x) → (xs : List X) → map h (flat_map f xs) ≡ flat_map k xs
map_flat h f k same [] = refl
map_flat h f k same (x ∷ xs) = map-append h (f x) (flat_map f xs) ∙ (λ i. same x i ++ map_flat h f k same xs i)

places_at : (p : Pid) (ds : List Decl) → map place_at (slots_at p ds) ≡ inputs_at p ds
places_at p [] = refl
places_at p (decl.Var x k c ∷ ds) = places_at p ds
places_at p (decl.Input x k ∷ ds) = ap (λ l. (p, x) ∷ l) (places_at p ds)

-- the places of the slots are those of the inputs
pub places : (i : Instance) (roles : List RoleText) → map place_at (slots i roles) ≡ all_inputs i roles
places i roles = map_flat place_at (role_slots i) (role_inputs i) (λ r. map_flat place_at (λ p. slots_at p r.decls) (λ p. inputs_at p r.decls) (λ p. places_at p r.decls) (members r.name (processes i r))) roles

module _ (enums : List EnumDecl) (i : Instance) where
  -- the input at the slot has a value of its kind
  abbrev pub IsFilled : Slot → Type 0
  IsFilled s = IsOfKind enums s.kind (i.input s.process s.variable)

  -- where a process fits, its slots are filled, and the other way round
  filled_at : (p : Pid) (ds : List Decl) → AllByRecursion (InputFits enums i p) ds → AllByRecursion IsFilled (slots_at p ds)
  filled_at p [] h = tt
  filled_at p (decl.Var x k c ∷ ds) h = filled_at p ds h.1
  filled_at p (decl.Input x k ∷ ds) h = (h.0, filled_at p ds h.1)

  fit_at : (p : Pid) (ds : List Decl) → AllByRecursion IsFilled (slots_at p ds) → AllByRecursion (InputFits enums i p) ds
  fit_at p [] h = tt
  fit_at p (decl.Var x k c ∷ ds) h = (tt, fit_at p ds h)
  fit_at p (decl.Input x k ∷ ds) h = (h.0, fit_at p ds h.1)

  -- where the roles fit, the slots are filled
  pub filled : (roles : List RoleText) → AllByRecursion (RoleFits enums i) roles → AllByRecursion IsFilled (slots i roles)
  filled roles h = all_flat IsFilled (role_slots i) roles
      (all_weaken (RoleFits enums i) (λ r. AllByRecursion IsFilled (role_slots i r)) (λ r fits.
      all_flat IsFilled (λ p. slots_at p r.decls) (members r.name (processes i r))
      (all_members (λ p. AllByRecursion IsFilled (slots_at p r.decls)) r.name (processes i r) (λ k less. filled_at (member r.name k) r.decls (fits.1 k less)))) roles h)

  -- where the slots are filled and the sizes are large enough, the roles fit
  pub roles_fit : (roles : List RoleText) → AllByRecursion (λ r. least r ≤ processes i r) roles → AllByRecursion IsFilled (slots i roles) → AllByRecursion (RoleFits enums i) roles
  roles_fit roles sizes h =
      all_meet (λ r. least r ≤ processes i r) (λ r. AllByRecursion IsFilled (role_slots i r)) (RoleFits enums i)
      (λ r size each. (
        size,
        λ k less. fit_at (member r.name k) r.decls (each_member (λ p. AllByRecursion IsFilled (slots_at p r.decls)) r.name (processes i r)
            (each_of_flat IsFilled (λ p. slots_at p r.decls) (members r.name (processes i r)) each) k less),
      ))
      roles sizes (each_of_flat IsFilled (role_slots i) roles h)
