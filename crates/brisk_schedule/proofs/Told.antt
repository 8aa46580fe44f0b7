-- The tree of a text is told by its lines.
use Rattle.std.proofs.Common.{◌≡◌, ℕ, ◌<◌, Bool, true, false, List, [], ◌∷◌, ◌++◌, map, Option, Some, None, refl, sym, ap, ◌∙◌, nat_eq, append-nil, arith}
use Rattle.std.specs.Prelude.{◌||◌, flat_map, option_map, unwrap_or, if◌then◌else◌}
use Rattle.std.specs.List.{AllByRecursion}
use Rattle.std.proofs.lemmas.Bool.{eqb-true}
use Rattle.std.proofs.lemmas.Grind.{flat_map-append}
use Rattle.brisk_values.specs.declared.instance.Input.{Input}
use Rattle.brisk_values.specs.declared.instance.Instance.{Instance as Given}
use Rattle.brisk_values.specs.declared.value.Pid.{Pid}
use Rattle.brisk_values.specs.Names.{Name, member, same_name}
use Rattle.brisk_values.proofs.Changes.{name_laws}
use Rattle.brisk_syntax.specs.declared.program.Decl.{Decl}
use Rattle.brisk_syntax.specs.declared.program.Decl.TheVariants as decl
use Rattle.brisk_syntax.specs.declared.program.EnumDecl.{EnumDecl}
use Rattle.brisk_syntax.specs.Instance.{processes}
use Rattle.brisk_syntax.specs.Roles.{RoleText}
use Rattle.brisk_syntax.specs.Value.{size_in}
use Rattle.brisk_instance.specs.Given.{AreApart, instance_of, instance_with, members}
use Rattle.brisk_instance.proofs.Alls.{all_flat, all_members, all_weaken}
use Rattle.brisk_instance.specs.Ordered.{IsInputAt, IsSizeOf, Pairwise, Slot, role_slots, sets, slots, slots_at}
use Rattle.brisk_instance.proofs.FitsOrdered.{fitting_is_ordered}
use Rattle.brisk_async.specs.declared.event.Event.{Event as Taken}
use Rattle.brisk_lines.specs.declared.line.Line.{Line}
use Rattle.brisk_lines.specs.declared.line.Line.TheVariants as line
use Rattle.brisk_lines.specs.declared.line.Process.{Process}
use Rattle.brisk_schedule.specs.declared.schedule.Schedule.{Schedule}
use Rattle.brisk_schedule.specs.declared.schedule.Choices.{Choices}
use Rattle.brisk_schedule.specs.Laws.{ChoicesDiffer, SchedulesDiffer}
use Rattle.brisk_instance.specs.Starting.{IsReady}
use Rattle.brisk_schedule.specs.Texts.{AreChoicesFor, IsScheduleFor, IsTold, Sizes, choices_lines, event_line, input_line, instance_lines, is_sized, is_told, is_told_if, schedule_lines, size_line, written}
use Rattle.brisk_schedule.proofs.Faultless.{same_lines}
use Rattle.std.proofs.Math.Bool.{or-true}

-- ---- what a line tells

-- the process that is written so
abbrev pid_of : Process → Pid
pid_of p = record { role = p.role; member = unwrap_or p.member 0 }

-- what each line tells is put before what the later lines tell
abbrev told_by : {A : Type 0} → (Line → List A) → List Line → List A
told_by tells ls = flat_map tells ls

abbrev size_told : Line → Sizes
size_told (line.Size s n) = (s, n) ∷ []
size_told l = []

abbrev input_told : Line → List Input
input_told (line.Input p x v) = record { process = pid_of p; variable = x; value = v } ∷ []
input_told l = []

abbrev event_told : Line → List Taken
event_told (line.Event p q k) = record { process = pid_of p; sender = option_map pid_of q; place = k } ∷ []
event_told l = []

abbrev turns_told : Line → List ℕ
turns_told (line.Turns n) = n ∷ []
turns_told l = []

abbrev choice_told : Line → List ℕ
choice_told (line.Choose k) = k ∷ []
choice_told l = []

told_all : {A : Type 0} (tells : Line → List A) (line_of : A → Line) (P : A → Type 0) → ((x : A) → P x → tells (line_of x) ≡ x ∷ []) → (xs : List A) → AllByRecursion P xs → flat_map tells (map line_of xs) ≡ xs
told_all tells line_of P each [] h = refl
told_all tells line_of P each (x ∷ xs) h = ap (λ z. z ++ flat_map tells (map line_of xs)) (each x h.0) ∙ ap (λ z. x ∷ z) (told_all tells line_of P each xs h.1)

told_none : {A B : Type 0} (tells : Line → List B) (line_of : A → Line) → ((x : A) → tells (line_of x) ≡ []) → (xs : List A) → flat_map tells (map line_of xs) ≡ []
told_none tells line_of each [] = refl
told_none tells line_of each (x ∷ xs) = ap (λ z. z ++ flat_map tells (map line_of xs)) (each x) ∙ told_none tells line_of each xs

-- ---- processes that are written without loss

same_process_told : (S : Sizes) (p : Pid) → is_told S p ≡ true → pid_of (written S p) ≡ p
same_process_told S p h = by_size (is_sized S p.role) refl
  where
    by_size : (b : Bool) → is_sized S p.role ≡ b → pid_of (record { role = p.role; member = if b then Some p.member else None }) ≡ p
    by_size true e = refl
    by_size false e = λ i. record { role = p.role; member = single i }
      where
        number : nat_eq p.member 0 ≡ true
        number = sym (ap (λ b. b || nat_eq p.member 0) e) ∙ h

        single : 0 ≡ p.member
        single = sym (eqb-true p.member 0 number)

same_sender_told : (S : Sizes) (q : Option Pid) → is_told_if S q ≡ true → option_map pid_of (option_map (written S) q) ≡ q
same_sender_told S None h = refl
same_sender_told S (Some p) h = ap (λ x. Some x) (same_process_told S p h)

event_is_told : (S : Sizes) (e : Taken) → IsTold S e → event_told (event_line S e) ≡ e ∷ []
event_is_told S e h = λ i. record { process = same_process_told S e.process h.0 i; sender = same_sender_told S e.sender h.1 i; place = e.place } ∷ []

input_is_told : (S : Sizes) (e : Input) → is_told S e.process ≡ true → input_told (input_line S e) ≡ e ∷ []
input_is_told S e h = λ i. record { process = same_process_told S e.process h i; variable = e.variable; value = e.value } ∷ []

-- ---- the processes of inputs are written without loss

weaker : (n : Name) (e : Name × ℕ) (T : Sizes) → is_sized T n ≡ true → is_sized (e ∷ T) n ≡ true
weaker n e T k = ap (λ b. same_name n e.0 || b) k ∙ or-true (same_name n e.0)

-- a set among these roles has a size
abbrev AreSized : Sizes → List RoleText → Type 0
AreSized S roles = AllByRecursion (λ r. r.many ≡ true → is_sized S r.name ≡ true) roles

all_weaker : (e : Name × ℕ) (T : Sizes) (xs : List RoleText) → AreSized T xs → AreSized (e ∷ T) xs
all_weaker e T [] k = tt
all_weaker e T (x ∷ xs) k = (λ m. weaker x.name e T (k.0 m), all_weaker e T xs k.1)

-- the first size is that of the set
first_sized : (r : RoleText) (e : Name × ℕ) (T : Sizes) → e.0 ≡ r.name → is_sized (e ∷ T) r.name ≡ true
first_sized r e T h = ap (λ n. same_name r.name n || is_sized T r.name) h ∙ ap (λ b. b || is_sized T r.name) (name_laws.refl r.name)

-- one role before those that are sized
sized_before : (r : RoleText) (rs : List RoleText) (b : Bool) (S : Sizes) → r.many ≡ b → ((T : Sizes) → Pairwise IsSizeOf (sets rs) T → AreSized T rs) → Pairwise IsSizeOf (if b then r ∷ sets rs else sets rs) S → AreSized S (r ∷ rs)
sized_before r rs false S e later h = (λ m. let wrong : true ≡ false = sym m ∙ e in cc, later S h)
sized_before r rs true [] e later h = absurd h
sized_before r rs true (x ∷ T) e later h = (λ m. first_sized r x T h.0.0, all_weaker x T rs (later T h.1))

all_sized : (roles : List RoleText) (S : Sizes) → Pairwise IsSizeOf (sets roles) S → AreSized S roles
all_sized [] S h = tt
all_sized (r ∷ rs) S h = sized_before r rs r.many S refl (λ T k. all_sized rs T k) h

-- a slot of a process that is written without loss
abbrev IsSlotTold : Sizes → Slot → Type 0
IsSlotTold S s = is_told S s.process ≡ true

slots_told : (S : Sizes) (p : Pid) (ds : List Decl) → is_told S p ≡ true → AllByRecursion (IsSlotTold S) (slots_at p ds)
slots_told S p [] h = tt
slots_told S p (decl.Var x k c ∷ ds) h = slots_told S p ds h
slots_told S p (decl.Input x k ∷ ds) h = (h, slots_told S p ds h)

member_told : (S : Sizes) (r : RoleText) (b : Bool) (k count : ℕ) → r.many ≡ b → (r.many ≡ true → is_sized S r.name ≡ true) → count ≡ (if b then size_in S r.name else 1) → k < count → is_told S (member r.name k) ≡ true
member_told S r true k count e sized n less = ap (λ b. b || nat_eq k 0) (sized e)
member_told S r false k count e sized n less =
    let none : k ≡ 0 = omega arith in
    ap (λ j. is_sized S r.name || nat_eq j 0) none ∙ or-true (is_sized S r.name)

role_told : (S : Sizes) (r : RoleText) → (r.many ≡ true → is_sized S r.name ≡ true) → AllByRecursion (IsSlotTold S) (role_slots (instance_with S) r)
role_told S r sized =
    all_flat (IsSlotTold S) (λ p. slots_at p r.decls) (members r.name (processes (instance_with S) r))
    (all_weaken (λ p. is_told S p ≡ true) (λ p. AllByRecursion (IsSlotTold S) (slots_at p r.decls)) (λ p h. slots_told S p r.decls h) (members r.name (processes (instance_with S) r))
    (all_members (λ p. is_told S p ≡ true) r.name (processes (instance_with S) r) (λ k less. member_told S r r.many k (processes (instance_with S) r) refl sized refl less)))

roles_told : (S : Sizes) (roles : List RoleText) → AreSized S roles → AllByRecursion (IsSlotTold S) (slots (instance_with S) roles)
roles_told S roles h = all_flat (IsSlotTold S) (role_slots (instance_with S)) roles (all_weaken (λ r. r.many ≡ true → is_sized S r.name ≡ true) (λ r. AllByRecursion (IsSlotTold S) (role_slots (instance_with S) r)) (λ r k. role_told S r k) roles h)

pairs_told : (enums : List EnumDecl) (S : Sizes) (ss : List Slot) (es : List Input) → Pairwise (IsInputAt enums) ss es → AllByRecursion (IsSlotTold S) ss → AllByRecursion (λ e. is_told S e.process ≡ true) es
pairs_told enums S [] [] h k = tt
pairs_told enums S [] (e ∷ es) h k = absurd h
pairs_told enums S (s ∷ ss) [] h k = absurd h
pairs_told enums S (s ∷ ss) (e ∷ es) h k = (ap (is_told S) (h.0.process) ∙ k.0, pairs_told enums S ss es h.1 k.1)

inputs_told : (enums : List EnumDecl) (roles : List RoleText) (g : Given) → AreApart roles → IsReady enums roles g → AllByRecursion (λ e. is_told g.sizes e.process ≡ true) g.inputs
inputs_told enums roles g apart h =
    let ordered = fitting_is_ordered enums roles g apart h.0 in
    pairs_told enums g.sizes (slots (instance_of g) roles) g.inputs ordered.inputs (roles_told g.sizes roles (all_sized roles g.sizes ordered.sizes))

-- ---- trees

both : {A : Type 0} (tells : Line → List A) (ls ms : List Line) → flat_map tells (ls ++ ms) ≡ flat_map tells ls ++ flat_map tells ms
both tells ls ms = flat_map-append tells ls ms

units : {B : Type 0} (xs : List B) → AllByRecursion (λ x. Unit {0}) xs
units [] = tt
units (x ∷ xs) = (tt, units xs)

sizes_told : (g : Given) → flat_map size_told (instance_lines g) ≡ g.sizes
sizes_told g =
    both size_told (map size_line g.sizes) (map (input_line g.sizes) g.inputs)
    ∙ ap (λ z. z ++ flat_map size_told (map (input_line g.sizes) g.inputs)) (told_all size_told size_line (λ e. Unit {0}) (λ e t. refl) g.sizes (units g.sizes))
    ∙ ap (λ z. g.sizes ++ z) (told_none size_told (input_line g.sizes) (λ e. refl) g.inputs)
    ∙ append-nil g.sizes

given_told : (enums : List EnumDecl) (roles : List RoleText) (g : Given) → AreApart roles → IsReady enums roles g → flat_map input_told (instance_lines g) ≡ g.inputs
given_told enums roles g apart h =
    both input_told (map size_line g.sizes) (map (input_line g.sizes) g.inputs)
    ∙ ap (λ z. z ++ flat_map input_told (map (input_line g.sizes) g.inputs)) (told_none input_told size_line (λ e. refl) g.sizes)
    ∙ told_all input_told (input_line g.sizes) (λ e. is_told g.sizes e.process ≡ true) (input_is_told g.sizes) g.inputs (inputs_told enums roles g apart h)

nothing_of_instance : {A : Type 0} (tells : Line → List A) (g : Given) → ((e : Name × ℕ) → tells (size_line e) ≡ []) → ((e : Input) → tells (input_line g.sizes e) ≡ []) → flat_map tells (instance_lines g) ≡ []
nothing_of_instance tells g s e =
    both tells (map size_line g.sizes) (map (input_line g.sizes) g.inputs)
    ∙ ap (λ z. z ++ flat_map tells (map (input_line g.sizes) g.inputs)) (told_none tells size_line s g.sizes)
    ∙ told_none tells (input_line g.sizes) e g.inputs

-- what is told by a head, an instance, what follows, and the end, of which the head and the end tell nothing
by_parts : {A : Type 0} (tells : Line → List A) (head : Line) (g : Given) (ms : List Line) (x y : List A) → tells head ≡ [] → tells line.End ≡ [] → flat_map tells (instance_lines g) ≡ x → flat_map tells ms ≡ y →
    flat_map tells (((head ∷ instance_lines g) ++ ms) ++ line.End ∷ []) ≡ x ++ y
by_parts tells head g ms x y head_none end_none h k =
    both tells ((head ∷ instance_lines g) ++ ms) (line.End ∷ [])
    ∙ ap (λ z. flat_map tells ((head ∷ instance_lines g) ++ ms) ++ (z ++ [])) end_none
    ∙ append-nil (flat_map tells ((head ∷ instance_lines g) ++ ms))
    ∙ both tells (head ∷ instance_lines g) ms
    ∙ ap (λ z. (z ++ flat_map tells (instance_lines g)) ++ flat_map tells ms) head_none
    ∙ (λ i. h i ++ k i)

module _ (enums : List EnumDecl) (roles : List RoleText) (apart : AreApart roles) where
  schedule_sizes : (s : Schedule) → flat_map size_told (schedule_lines s) ≡ s.instance.sizes
  schedule_sizes s =
      by_parts size_told line.Schedule s.instance (map (event_line s.instance.sizes) s.events) s.instance.sizes [] refl refl (sizes_told s.instance) (told_none size_told (event_line s.instance.sizes) (λ e. refl) s.events)
      ∙ append-nil s.instance.sizes

  schedule_inputs : (s : Schedule) → IsScheduleFor enums roles s → flat_map input_told (schedule_lines s) ≡ s.instance.inputs
  schedule_inputs s h =
      by_parts input_told line.Schedule s.instance (map (event_line s.instance.sizes) s.events) s.instance.inputs [] refl refl (given_told enums roles s.instance apart h.ready) (told_none input_told (event_line s.instance.sizes) (λ e. refl) s.events)
      ∙ append-nil s.instance.inputs

  schedule_events : (s : Schedule) → IsScheduleFor enums roles s → flat_map event_told (schedule_lines s) ≡ s.events
  schedule_events s h =
      by_parts event_told line.Schedule s.instance (map (event_line s.instance.sizes) s.events) [] s.events refl refl (nothing_of_instance event_told s.instance (λ e. refl) (λ e. refl))
      (told_all event_told (event_line s.instance.sizes) (IsTold s.instance.sizes) (event_is_told s.instance.sizes) s.events h.told)

  choices_sizes : (c : Choices) → flat_map size_told (choices_lines c) ≡ c.instance.sizes
  choices_sizes c =
      by_parts size_told line.Choices c.instance (line.Turns c.turns ∷ map line.Choose c.picks) c.instance.sizes [] refl refl (sizes_told c.instance) (told_none size_told line.Choose (λ k. refl) c.picks)
      ∙ append-nil c.instance.sizes

  choices_inputs : (c : Choices) → AreChoicesFor enums roles c → flat_map input_told (choices_lines c) ≡ c.instance.inputs
  choices_inputs c h =
      by_parts input_told line.Choices c.instance (line.Turns c.turns ∷ map line.Choose c.picks) c.instance.inputs [] refl refl (given_told enums roles c.instance apart h.ready) (told_none input_told line.Choose (λ k. refl) c.picks)
      ∙ append-nil c.instance.inputs

  choices_turns : (c : Choices) → flat_map turns_told (choices_lines c) ≡ c.turns ∷ []
  choices_turns c =
      by_parts turns_told line.Choices c.instance (line.Turns c.turns ∷ map line.Choose c.picks) [] (c.turns ∷ []) refl refl (nothing_of_instance turns_told c.instance (λ e. refl) (λ e. refl))
      (ap (λ z. c.turns ∷ z) (told_none turns_told line.Choose (λ k. refl) c.picks))

  choices_picks : (c : Choices) → flat_map choice_told (choices_lines c) ≡ c.picks
  choices_picks c =
      by_parts choice_told line.Choices c.instance (line.Turns c.turns ∷ map line.Choose c.picks) [] c.picks refl refl (nothing_of_instance choice_told c.instance (λ e. refl) (λ e. refl))
      (told_all choice_told line.Choose (λ k. Unit {0}) (λ k t. refl) c.picks (units c.picks))

first_turns : List ℕ → ℕ
first_turns [] = 0
first_turns (n ∷ ns) = n

pub schedules_differ : SchedulesDiffer
schedules_differ enums roles s t apart h k e =
    let lines = same_lines (schedule_lines s) (schedule_lines t) h.legal k.legal e in
    let sizes = sym (schedule_sizes enums roles apart s) ∙ ap (flat_map size_told) lines ∙ schedule_sizes enums roles apart t in
    let inputs = sym (schedule_inputs enums roles apart s h) ∙ ap (flat_map input_told) lines ∙ schedule_inputs enums roles apart t k in
    let events = sym (schedule_events enums roles apart s h) ∙ ap (flat_map event_told) lines ∙ schedule_events enums roles apart t k in
    λ i. record { instance = record { sizes = sizes i; inputs = inputs i }; events = events i }

pub choices_differ : ChoicesDiffer
unfolding first_turns
choices_differ enums roles c d apart h k e =
    let lines = same_lines (choices_lines c) (choices_lines d) h.legal k.legal e in
    let sizes = sym (choices_sizes enums roles apart c) ∙ ap (flat_map size_told) lines ∙ choices_sizes enums roles apart d in
    let inputs = sym (choices_inputs enums roles apart c h) ∙ ap (flat_map input_told) lines ∙ choices_inputs enums roles apart d k in
    let turns = ap first_turns (sym (choices_turns enums roles apart c) ∙ ap (flat_map turns_told) lines ∙ choices_turns enums roles apart d) in
    let picks = sym (choices_picks enums roles apart c) ∙ ap (flat_map choice_told) lines ∙ choices_picks enums roles apart d in
    λ i. record { instance = record { sizes = sizes i; inputs = inputs i }; turns = turns i; picks = picks i }
