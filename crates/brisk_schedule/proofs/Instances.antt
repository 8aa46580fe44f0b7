-- An instance at the beginning of a text: where it fails, and that it stands.
use Rattle.std.proofs.Common.{◌≡◌, ℕ, ◌<◌, ◌≤◌, List, [], ◌∷◌, map, refl, sym, ap, subst, arith}
use Rattle.brisk_values.specs.declared.instance.Input.{Input}
use Rattle.brisk_values.specs.declared.instance.Instance.{Instance as Given}
use Rattle.brisk_syntax.specs.declared.program.EnumDecl.{EnumDecl}
use Rattle.brisk_syntax.specs.Roles.{RoleText}
use Rattle.brisk_syntax.specs.Tokens.{weight}
use Rattle.brisk_instance.specs.Given.{instance_with}
use Rattle.brisk_instance.specs.Ordered.{IsInputAt, IsSizeOf, Pairwise, sets, slots}
use Rattle.brisk_lines.specs.declared.line.Line.{Line}
use Rattle.brisk_lines.specs.declared.line.Line.TheVariants as line
use Rattle.brisk_schedule.specs.declared.fault.ScheduleFault.{ScheduleFault}
use Rattle.brisk_schedule.specs.declared.fault.ScheduleFault.TheVariants.{TooLarge}
use Rattle.brisk_schedule.specs.declared.format.Format.{Format}
use Rattle.brisk_schedule.specs.declared.format.Format.TheVariants as format
use Rattle.brisk_schedule.specs.Reading.{Fails, IsOpen, TellsSize, TellsValue, head_line, sizes_in, turns_of}
use Rattle.brisk_schedule.specs.Taking.{IsUnwanted, Lacks, Left, Takes, TakesAll, TakesInstance, TakesLine}
use Rattle.brisk_instance.specs.Starting.{most_weight}
use Rattle.brisk_schedule.specs.Texts.{Sizes, input_line, instance_lines, size_line}
use Rattle.brisk_schedule.proofs.Sections.{Behind, InSizes, behind_sizes, heavy_sizes, later_needs, sizes_lack, sizes_stand, values_lack, values_stand}
use Rattle.brisk_schedule.proofs.Standing.{At, at_more, at_start, heavy_fails, unended, unwanted_fails}
use Rattle.brisk_schedule.proofs.Takes.{takes_both, takes_split}

-- what lines that are all taken tell
pub all_told : {A B : Type 0} (R : A → B → Type 0) (line_of : B → Line) (xs : List A) (old new : Left) (ys : List B) → TakesAll R line_of xs old new [] ys → Pairwise R xs ys × Takes old (map line_of ys) new
all_told {A} {B} R line_of xs old new ys h =
    (subst (λ (zs : List B). Pairwise R xs zs) (sym h.more) h.pairs, subst (λ (zs : List B). Takes old (map line_of zs) new) (sym h.more) h.takes)

-- the head isn't the end, and tells no size
head_inner : (f : Format) → (sizes_in (head_line f ∷ []) ≡ []) × (head_line f ≡ line.End → ⊥)
head_inner format.Schedule = (refl, λ e. cc)
head_inner format.Choices = (refl, λ e. cc)

sizes_told : (S : Sizes) → sizes_in (map size_line S) ≡ S
sizes_told [] = refl
sizes_told (e ∷ S) = ap (λ zs. e ∷ zs) (sizes_told S)

front_sizes : (f : Format) (S : Sizes) → sizes_in (head_line f ∷ map size_line S) ≡ S
front_sizes format.Schedule S = sizes_told S
front_sizes format.Choices S = sizes_told S

module _ (f : Format) (enums : List EnumDecl) (roles : List RoleText) (old : Left) (number : old.number ≡ 0) (same : old.format ≡ f) where
  text : List ℕ
  text = old.rest

  begun : At f enums roles old.rest [] old
  begun = at_start f enums roles old.rest old refl number same

  open_begun : IsOpen roles []
  open_begun = record { unended = unended [] tt; light = λ heavy. (let a = heavy.0 in omega (arith, a)) }

  -- the head isn't there
  pub head_wrong : (fault : ScheduleFault) → IsUnwanted (λ l. l ≡ head_line f) old fault → Fails f enums roles old.rest fault
  head_wrong fault u = unwanted_fails f enums roles old.rest [] old (λ l. l ≡ head_line f) fault begun open_begun (λ l n. n) u

  module _ (mid : Left) (head : TakesLine old (head_line f) mid) where
    at_head : At f enums roles old.rest (head_line f ∷ []) mid
    at_head = at_more f enums roles old.rest [] (head_line f) old mid begun open_begun refl head

    in_sizes : InSizes f enums roles (sets roles) (head_line f ∷ [])
    in_sizes = record { unended = ((head_inner f).1, tt); counted = omega arith; placed = refl }

    -- a set lacks its size
    pub sizes_wrong : (fault : ScheduleFault) → Lacks TellsSize mid (sets roles) fault → Fails f enums roles old.rest fault
    sizes_wrong fault h = sizes_lack f enums roles old.rest (sets roles) (head_line f ∷ []) mid fault at_head in_sizes h

    module _ (later : Left) (S : Sizes) (taken : TakesAll IsSizeOf size_line (sets roles) mid later [] S) where
      sized : At f enums roles old.rest (head_line f ∷ map size_line S) later × InSizes f enums roles [] (head_line f ∷ map size_line S)
      sized = let t = all_told IsSizeOf size_line (sets roles) mid later S taken in sizes_stand f enums roles old.rest (sets roles) (head_line f ∷ []) mid later S at_head in_sizes t.0 t.1

      -- the instance is too heavy
      pub too_heavy : (k : ℕ) → k ≡ later.number → most_weight < weight roles (instance_with S) → Fails f enums roles old.rest (TooLarge k)
      too_heavy k e heavy = heavy_fails f enums roles old.rest (head_line f ∷ map size_line S) later k sized.0 e (heavy_sizes f enums roles S _ sized.1 (front_sizes f S) heavy)

      module _ (light : weight roles (instance_with S) ≤ most_weight) where
        behind : Behind f enums roles S (later_needs f enums roles S) (head_line f ∷ map size_line S)
        behind = behind_sizes f enums roles S _ sized.1 (front_sizes f S) light

        -- an input lacks its value
        pub inputs_wrong : (fault : ScheduleFault) → Lacks (TellsValue enums S) later (slots (instance_with S) roles) fault → Fails f enums roles old.rest fault
        inputs_wrong fault h = values_lack f enums roles old.rest S (slots (instance_with S) roles) (turns_of f) (head_line f ∷ map size_line S) later fault sized.0 behind h

        module _ (new : Left) (es : List Input) (given : TakesAll (IsInputAt enums) (input_line S) (slots (instance_with S) roles) later new [] es) where
          -- the instance is taken
          pub taken_whole : TakesInstance enums roles old new (record { sizes = S; inputs = es })
          taken_whole =
              let s = all_told IsSizeOf size_line (sets roles) mid later S taken in
              let g = all_told (IsInputAt enums) (input_line S) (slots (instance_with S) roles) later new es given in
              record {
                takes = subst (λ h. Takes old (head_line h ∷ instance_lines (record { sizes = S; inputs = es })) new) (sym same) (mid, head, takes_both mid (map size_line S) later (map (input_line S) es) new s.1 g.1);
                ordered = record { sizes = s.0; inputs = g.0 };
                light = light;
              }

-- an instance that is taken stands, and what is needed behind it is the number of turns or nothing
pub instance_stands : (f : Format) (enums : List EnumDecl) (roles : List RoleText) (old new : Left) (g : Given) → old.number ≡ 0 → old.format ≡ f → TakesInstance enums roles old new g →
    At f enums roles old.rest (head_line f ∷ instance_lines g) new × Behind f enums roles g.sizes (turns_of f) (head_line f ∷ instance_lines g)
instance_stands f enums roles old new g number same h =
    let parts = takes_split (h.takes).0 (map size_line g.sizes) (map (input_line g.sizes) g.inputs) new (h.takes).2 in
    let head = subst (λ k. TakesLine old (head_line k) (h.takes).0) same (h.takes).1 in
    let begun = at_start f enums roles old.rest old refl number same in
    let open_begun : IsOpen roles [] = record { unended = unended [] tt; light = λ heavy. (let a = heavy.0 in omega (arith, a)) } in
    let sized = sizes_stand f enums roles old.rest (sets roles) (head_line f ∷ []) (h.takes).0 parts.0 g.sizes
    (at_more f enums roles old.rest [] (head_line f) old (h.takes).0 begun open_begun refl head)
    (record { unended = ((head_inner f).1, tt); counted = omega arith; placed = refl })
    h.ordered.sizes parts.1 in
    let ls = head_line f ∷ map size_line g.sizes in
    let stand = values_stand f enums roles old.rest g.sizes (slots (instance_with g.sizes) roles) (turns_of f) ls parts.0 new g.inputs
    sized.0 (behind_sizes f enums roles g.sizes ls sized.1 (front_sizes f g.sizes) h.light) h.ordered.inputs parts.2 in
    stand
