-- What is given entry by entry, in order, fits as given.
use Rattle.std.proofs.Common.{◌≡◌, List, map, sym, ◌∙◌, subst}
use Rattle.brisk_values.specs.declared.instance.Input.{Input}
use Rattle.brisk_syntax.specs.declared.program.EnumDecl.{EnumDecl}
use Rattle.brisk_syntax.specs.Instance.{Instance, IsOfKind}
use Rattle.brisk_instance.specs.Given.{instance_of, place_of}
use Rattle.brisk_instance.specs.Ordered.{IsInputAt, IsSizeOf, OrderedFits, Slot, sets, slots}
use Rattle.brisk_instance.proofs.Alls.{over_pairs, same_keys}
use Rattle.brisk_instance.proofs.Differ.{names_differ}
use Rattle.brisk_instance.proofs.FilledSlots.{IsFilled, place_at, places, roles_fit}
use Rattle.brisk_instance.proofs.Found.{found}
use Rattle.brisk_instance.proofs.Sized.{sets_named, sized}

-- where an instance has the value of the input at a slot, the slot is filled
filled_by : (enums : List EnumDecl) (i : Instance) (s : Slot) (e : Input) → IsInputAt enums s e → i.input e.process e.variable ≡ e.value → IsFilled enums i s
filled_by enums i s e h same = subst (IsOfKind enums s.kind) (sym same ∙ (λ j. i.input (h.process j) (h.variable j))) h.kind

pub ordered_fits : OrderedFits
ordered_fits enums roles g apart ordered =
    let named : map place_of g.inputs ≡ map place_at (slots (instance_of g) roles) = same_keys (IsInputAt enums) place_at place_of (λ s e h j. (h.process j, h.variable j)) (slots (instance_of g) roles) g.inputs ordered.inputs in
    let inputs = named ∙ places (instance_of g) roles in
    record {
      sizes = same_keys IsSizeOf (λ r. r.name) (λ e. e.0) (λ r e h. h.0) (sets roles) g.sizes ordered.sizes ∙ sets_named roles;
      inputs = inputs;
      fits = roles_fit enums (instance_of g) roles (sized roles (names_differ (λ r. r.name) roles apart.names) g.sizes ordered.sizes)
          (over_pairs (IsFilled enums (instance_of g)) (λ e. (instance_of g).input e.process e.variable ≡ e.value) (IsInputAt enums) (filled_by enums (instance_of g)) (slots (instance_of g) roles) g.inputs ordered.inputs (found roles g apart inputs));
    }
