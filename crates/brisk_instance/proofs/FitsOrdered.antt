-- What fits as given is given entry by entry, in order.
use Rattle.std.proofs.Common.{◌≡◌, List, sym, ap, ◌∙◌, subst}
use Rattle.brisk_values.specs.declared.instance.Input.{Input}
use Rattle.brisk_syntax.specs.declared.program.EnumDecl.{EnumDecl}
use Rattle.brisk_syntax.specs.Instance.{Instance, IsOfKind, RoleFits}
use Rattle.brisk_instance.specs.Given.{instance_of, place_of}
use Rattle.brisk_instance.specs.Ordered.{FittingIsOrdered, IsInputAt, Slot, slots}
use Rattle.brisk_instance.specs.Walks.{Place}
use Rattle.brisk_instance.proofs.Alls.{all_weaken, pairs_of}
use Rattle.brisk_instance.proofs.Differ.{names_differ}
use Rattle.brisk_instance.proofs.FilledSlots.{IsFilled, filled, place_at, places}
use Rattle.brisk_instance.proofs.Found.{found}
use Rattle.brisk_instance.proofs.Sized.{IsLarge, sizes_pair}

-- where an instance has the value of an input at the place of a slot that is filled, that input stands at the slot
input_at : (enums : List EnumDecl) (i : Instance) (s : Slot) (e : Input) → place_of e ≡ place_at s → IsFilled enums i s → i.input e.process e.variable ≡ e.value → IsInputAt enums s e
input_at enums i s e same fills here = record {
  process = ap (λ (a : Place). a.0) same;
  variable = ap (λ (a : Place). a.1) same;
  kind = subst (IsOfKind enums s.kind) (sym (ap (λ (a : Place). i.input a.0 a.1) same) ∙ here) fills;
}

pub fitting_is_ordered : FittingIsOrdered
fitting_is_ordered enums roles g apart fits = record {
  sizes = sizes_pair roles (names_differ (λ r. r.name) roles apart.names) g.sizes fits.sizes (all_weaken (RoleFits enums (instance_of g)) (IsLarge g.sizes) (λ r h. h.0) roles fits.fits);
  inputs = pairs_of (IsFilled enums (instance_of g)) (λ e. (instance_of g).input e.process e.variable ≡ e.value) (IsInputAt enums) place_at place_of (input_at enums (instance_of g))
      (slots (instance_of g) roles) g.inputs (fits.inputs ∙ sym (places (instance_of g) roles)) (filled enums (instance_of g) roles fits.fits) (found roles g apart fits.inputs);
}
