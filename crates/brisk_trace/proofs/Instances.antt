-- The instance that is made fits, and starts as that of the plain run.
use Rattle.std.proofs.Common.{◌≡◌, ℕ, ◌<◌, ◌≤◌, Bool, true, false, List, [], ◌∷◌, map, length, Option, Some, None, refl, sym, ap, ◌∙◌, arith, subst}
use Rattle.std.specs.Prelude.{◌&&◌, ◌||◌, if◌then◌else◌, nat_lt}
use Rattle.std.specs.List.{AllByRecursion, list_any}
use Rattle.std.proofs.lemmas.Bool.{ltb-true}
use Rattle.std.proofs.lemmas.Int.{ints}
use Rattle.brisk_values.specs.declared.instance.Input.{Input}
use Rattle.brisk_values.specs.declared.instance.Instance.{Instance as Given}
use Rattle.brisk_values.specs.declared.value.Kind.{Kind}
use Rattle.brisk_values.specs.declared.value.Kind.TheVariants as kind
use Rattle.brisk_values.specs.declared.value.Pid.{Pid}
use Rattle.brisk_values.specs.Names.{Name, member, same_name}
use Rattle.brisk_values.proofs.Changes.{both_true, exact_name, name_laws}
use Rattle.brisk_syntax.specs.declared.program.Decl.{Decl}
use Rattle.brisk_syntax.specs.declared.program.Decl.TheVariants.{Var, Input as Given_value}
use Rattle.brisk_syntax.specs.declared.program.EnumDecl.{EnumDecl}
use Rattle.brisk_syntax.specs.declared.program.Program.{Program}
use Rattle.brisk_syntax.specs.Declarations.{code_in, constant_value, decls_of, is_tag, kind_in, role_named, variable_of}
use Rattle.brisk_syntax.specs.Instance.{Instance, IsOfKind, first_value, least, processes, role_of, set_size, set_sizes, start_store, with_member}
use Rattle.brisk_syntax.specs.Roles.{RoleText}
use Rattle.brisk_syntax.specs.Typing.{IsDeclWellTyped, each_has_tag, is_kind}
use Rattle.brisk_syntax.specs.Value.{size_in}
use Rattle.brisk_syntax.specs.WellTyped.{IsProgramWellTyped, IsRoleWellTyped}
use Rattle.brisk_instance.specs.Given.{FitsAsGiven, instance_of, members}
use Rattle.brisk_instance.specs.Ordered.{IsInputAt, IsOrdered, IsSizeOf, Pairwise, Slot, role_slots, sets, slots, slots_at}
use Rattle.brisk_instance.proofs.Alls.{all_flat, all_members, all_meet, all_weaken, each_member, each_of_flat}
use Rattle.brisk_instance.proofs.Apart.{program_apart}
use Rattle.brisk_instance.proofs.Differ.{Differ, names_differ}
use Rattle.brisk_instance.proofs.Found.{found}
use Rattle.brisk_instance.proofs.OrderedFits.{ordered_fits}
use Rattle.brisk_async.specs.PlainRuns.{first_tag, plain_instance, plain_value}
use Rattle.brisk_trace.specs.Plain.{IsPlain, plain_input, plain_size}

-- the first tag of an enumeration that is declared is one of its tags
tag_here : (name e : Name) (ts : List Name) (ns : List EnumDecl) → same_name e name ≡ true → nat_lt 0 (length ts) ≡ true →
    is_tag (record { name = name; tags = ts } ∷ ns) e (first_tag (record { name = name; tags = ts } ∷ ns) e) ≡ true
tag_here name e [] ns same some = cc
tag_here name e (t ∷ ts) ns same some =
    ap (λ u. (same_name e name && (same_name u t || list_any (same_name u) ts)) || is_tag ns e u) (ap (λ b. if b then t else first_tag ns e) same)
    ∙ ap (λ b. (b && (same_name t t || list_any (same_name t) ts)) || is_tag ns e t) same
    ∙ ap (λ b. (b || list_any (same_name t) ts) || is_tag ns e t) (name_laws.refl t)

tag_behind : (name e : Name) (ts : List Name) (ns : List EnumDecl) → same_name e name ≡ false → first_tag (record { name = name; tags = ts } ∷ ns) e ≡ first_tag ns e
tag_behind name e [] ns other = ap (λ b. if b then [] else first_tag ns e) other
tag_behind name e (t ∷ ts) ns other = ap (λ b. if b then t else first_tag ns e) other

pub tag_found : (enums : List EnumDecl) (e : Name) → list_any (λ n. same_name e n.name) enums ≡ true → each_has_tag enums ≡ true → is_tag enums e (first_tag enums e) ≡ true
tag_found [] e declared tagged = cc
tag_found (n ∷ ns) e declared tagged =
    let h = both_true (nat_lt 0 (length n.tags)) (each_has_tag ns) tagged in
    elim (same_name e n.name) as (λ b. same_name e n.name ≡ b → is_tag (n ∷ ns) e (first_tag (n ∷ ns) e) ≡ true) [
      | true ↦ λ same. tag_here n.name e n.tags ns same h.0
      | false ↦ λ other.
          ap (λ u. is_tag (n ∷ ns) e u) (tag_behind n.name e n.tags ns other)
          ∙ ap (λ b. (b && list_any (same_name (first_tag ns e)) n.tags) || is_tag ns e (first_tag ns e)) other
          ∙ tag_found ns e (sym (ap (λ b. b || list_any (λ m. same_name e m.name) ns) other) ∙ declared) h.1
    ] refl

-- the plain value is of the kind
pub plain_fits : (enums : List EnumDecl) (k : Kind) → each_has_tag enums ≡ true → is_kind enums k ≡ true → IsOfKind enums k (plain_value enums (Some k))
plain_fits enums kind.Int tagged declared = (omega (arith, ints), omega (arith, ints))
plain_fits enums kind.Bool tagged declared = tt
plain_fits enums (kind.Enum e) tagged declared = (refl, tag_found enums e declared tagged)

pair_map : {A B : Type 0} (R : A → B → Type 0) (h : A → B) (xs : List A) → AllByRecursion (λ x. R x (h x)) xs → Pairwise R xs (map h xs)
pair_map R h [] all = tt
pair_map R h (x ∷ xs) all = (all.0, pair_map R h xs all.1)

all_true : {A : Type 0} (P : A → Type 0) → ((x : A) → P x) → (xs : List A) → AllByRecursion P xs
all_true P h [] = tt
all_true P h (x ∷ xs) = (h x, all_true P h xs)

least_small : (r : RoleText) (k : ℕ) → 0 < k → least r ≤ k
least_small r k some = elim r.nonempty as (λ b. (if b then 1 else 0) ≤ k) [ true ↦ omega arith | false ↦ omega arith ]

-- the kinds of the inputs are declared
slot_kinds : (enums : List EnumDecl) (p : Pid) (ds : List Decl) → AllByRecursion (IsDeclWellTyped enums) ds → AllByRecursion (λ (s : Slot). is_kind enums s.kind ≡ true) (slots_at p ds)
slot_kinds enums p [] h = tt
slot_kinds enums p (Var x k c ∷ ds) h = slot_kinds enums p ds h.1
slot_kinds enums p (Given_value x k ∷ ds) h = (h.0, slot_kinds enums p ds h.1)

pub decls_typed : (P : Program) (roles : List RoleText) → AllByRecursion (IsRoleWellTyped P) roles → AllByRecursion (λ r. AllByRecursion (IsDeclWellTyped P.enums) r.decls) roles
decls_typed P roles h = all_weaken (IsRoleWellTyped P) (λ r. AllByRecursion (IsDeclWellTyped P.enums) r.decls) (λ r t. t.decls.each) roles h

all_kinds : (enums : List EnumDecl) (i : Instance) (roles : List RoleText) → AllByRecursion (λ r. AllByRecursion (IsDeclWellTyped enums) r.decls) roles →
    AllByRecursion (λ (s : Slot). is_kind enums s.kind ≡ true) (slots i roles)
all_kinds enums i roles h =
    all_flat (λ (s : Slot). is_kind enums s.kind ≡ true) (role_slots i) roles
    (all_weaken (λ r. AllByRecursion (IsDeclWellTyped enums) r.decls) (λ r. AllByRecursion (λ (s : Slot). is_kind enums s.kind ≡ true) (role_slots i r)) (λ r typed.
    all_flat (λ (s : Slot). is_kind enums s.kind ≡ true) (λ p. slots_at p r.decls) (members r.name (processes i r))
    (all_members (λ p. AllByRecursion (λ (s : Slot). is_kind enums s.kind ≡ true) (slots_at p r.decls)) r.name (processes i r) (λ k less. slot_kinds enums (member r.name k) r.decls typed))) roles h)

-- each set has the size that is given to all
size_behind : (k : ℕ) (r : RoleText) (rs : List RoleText) (n : Name) → size_in (map (plain_size k) (sets rs)) n ≡ k → size_in (map (plain_size k) (sets (r ∷ rs))) n ≡ k
size_behind k r rs n h =
    elim r.many as (λ b. size_in (map (plain_size k) (if b then r ∷ sets rs else sets rs)) n ≡ k) [
      | true ↦ elim (same_name r.name n) as (λ b. (if b then k else size_in (map (plain_size k) (sets rs)) n) ≡ k) [ true ↦ refl | false ↦ h ]
      | false ↦ h
    ]

size_first : (k : ℕ) (r : RoleText) (rs : List RoleText) → r.many ≡ true → size_in (map (plain_size k) (sets (r ∷ rs))) r.name ≡ k
size_first k r rs many =
    ap (λ b. size_in (map (plain_size k) (if b then r ∷ sets rs else sets rs)) r.name) many
    ∙ ap (λ b. if b then k else size_in (map (plain_size k) (sets rs)) r.name) (name_laws.refl r.name)

pub sizes_found : (k : ℕ) (roles : List RoleText) → AllByRecursion (λ r. r.many ≡ true → size_in (map (plain_size k) (sets roles)) r.name ≡ k) roles
sizes_found k [] = tt
sizes_found k (r ∷ rs) = (
  size_first k r rs,
  all_weaken (λ q. q.many ≡ true → size_in (map (plain_size k) (sets rs)) q.name ≡ k) (λ q. q.many ≡ true → size_in (map (plain_size k) (sets (r ∷ rs))) q.name ≡ k)
      (λ q h many. size_behind k r rs q.name (h many)) rs (sizes_found k rs),
)

-- what holds of each role holds of the one that is named
named_meets : (Q : RoleText → Type 0) (roles : List RoleText) (n : Name) (r : RoleText) → AllByRecursion Q roles → role_named roles n ≡ Some r → Q r × (same_name n r.name ≡ true)
named_meets Q [] n r all e = cc
named_meets Q (q ∷ qs) n r all e =
    elim (same_name n q.name) as (λ b. same_name n q.name ≡ b → (if b then Some q else role_named qs n) ≡ Some r → Q r × (same_name n r.name ≡ true)) [
      | true ↦ λ same here. let is : q ≡ r = cc in (subst Q is all.0, ap (λ (z : RoleText). same_name n z.name) (sym is) ∙ same)
      | false ↦ λ other later. named_meets Q qs n r all.1 later
    ] refl e

-- the kind of a declaration
abbrev kind_at : Decl → Kind
kind_at (Var x k c) = k
kind_at (Given_value x k) = k

first_kind : (d : Decl) (ds : List Decl) → kind_in (d ∷ ds) (variable_of d) ≡ Some (kind_at d)
first_kind (Var x k c) ds = ap (λ b. if b then Some k else kind_in ds x) (name_laws.refl x)
first_kind (Given_value x k) ds = ap (λ b. if b then Some k else kind_in ds x) (name_laws.refl x)

not_same : (x y : Name) → (y ≡ x → ⊥) → same_name x y ≡ false
not_same x y apart = elim (same_name x y) as (λ b. same_name x y ≡ b → b ≡ false) [ true ↦ λ e. absurd (apart (sym (exact_name x y e))) | false ↦ λ e. refl ] refl

kind_behind : (d : Decl) (ds : List Decl) (x : Name) → (variable_of d ≡ x → ⊥) → kind_in (d ∷ ds) x ≡ kind_in ds x
kind_behind (Var y k c) ds x apart = ap (λ b. if b then Some k else kind_in ds x) (not_same x y apart)
kind_behind (Given_value y k) ds x apart = ap (λ b. if b then Some k else kind_in ds x) (not_same x y apart)

-- each declaration is found by its variable
kinds_found : (ds : List Decl) → Differ variable_of ds → AllByRecursion (λ d. kind_in ds (variable_of d) ≡ Some (kind_at d)) ds
kinds_found [] h = tt
kinds_found (d ∷ ds) h = (
  first_kind d ds,
  all_meet (λ e. variable_of d ≡ variable_of e → ⊥) (λ e. kind_in ds (variable_of e) ≡ Some (kind_at e)) (λ e. kind_in (d ∷ ds) (variable_of e) ≡ Some (kind_at e))
      (λ e apart there. kind_behind d ds (variable_of e) apart ∙ there) ds h.0 (kinds_found ds h.1),
)

-- both instances have the same value for an input of the process
abbrev Agrees : Instance → Instance → Pid → Decl → Type 0
Agrees i j p (Var x k c) = Unit {0}
Agrees i j p (Given_value x k) = i.input p x ≡ j.input p x

same_values : (i j : Instance) (p : Pid) (ds : List Decl) → AllByRecursion (Agrees i j p) ds → (y : Name) → first_value i p ds y ≡ first_value j p ds y
same_values i j p [] h y = refl
same_values i j p (Var x k c ∷ ds) h y = ap (λ o. if same_name y x then Some (constant_value c) else o) (same_values i j p ds h.1 y)
same_values i j p (Given_value x k ∷ ds) h y = λ t. if same_name y x then Some (h.0 t) else same_values i j p ds h.1 y t

-- the inputs at a process's slots, and the kinds of its declarations, make the values agree
agreed : (enums : List EnumDecl) (i j : Instance) (p : Pid) (all ds : List Decl) → ((x : Name) → j.input p x ≡ plain_value enums (kind_in all x)) →
    AllByRecursion (λ (s : Slot). i.input s.process s.variable ≡ plain_value enums (Some s.kind)) (slots_at p ds) → AllByRecursion (λ d. kind_in all (variable_of d) ≡ Some (kind_at d)) ds →
    AllByRecursion (Agrees i j p) ds
agreed enums i j p all [] plain h k = tt
agreed enums i j p all (Var x l c ∷ ds) plain h k = (tt, agreed enums i j p all ds plain h k.1)
agreed enums i j p all (Given_value x l ∷ ds) plain h k = (h.0 ∙ sym (plain x ∙ ap (plain_value enums) k.0), agreed enums i j p all ds plain h.1 k.1)

all_of_map : {A B : Type 0} (Q : B → Type 0) (h : A → B) (xs : List A) → AllByRecursion Q (map h xs) → AllByRecursion (λ x. Q (h x)) xs
all_of_map Q h [] all = tt
all_of_map Q h (x ∷ xs) all = (all.0, all_of_map Q h xs all.1)

module _ (P : Program) (k : ℕ) (g : Given) (typed : IsProgramWellTyped P) (tagged : each_has_tag P.enums ≡ true) (some : 0 < k)
    (sizes_are : g.sizes ≡ map (plain_size k) (sets P.roles)) (inputs_are : g.inputs ≡ map (plain_input P.enums) (slots (instance_of g) P.roles)) where
  abbrev given : Instance
  given = instance_of g

  abbrev plain : Instance
  plain = plain_instance P k

  ordered : IsOrdered P.enums P.roles g
  ordered = record {
    sizes = subst (Pairwise IsSizeOf (sets P.roles)) (sym sizes_are) (pair_map IsSizeOf (plain_size k) (sets P.roles) (all_true (λ r. IsSizeOf r (plain_size k r)) (λ r. (refl, least_small r k some)) (sets P.roles)));
    inputs = subst (Pairwise (IsInputAt P.enums) (slots given P.roles)) (sym inputs_are) (pair_map (IsInputAt P.enums) (plain_input P.enums) (slots given P.roles)
        (all_weaken (λ (s : Slot). is_kind P.enums s.kind ≡ true) (λ (s : Slot). IsInputAt P.enums s (plain_input P.enums s))
        (λ s declared. record { process = refl; variable = refl; kind = plain_fits P.enums s.kind tagged declared }) (slots given P.roles) (all_kinds P.enums given P.roles (decls_typed P P.roles typed.roles))));
  }

  fits : FitsAsGiven P.enums P.roles g
  fits = ordered_fits P.enums P.roles g (program_apart P typed) ordered

  -- each role has as many processes in both
  as_many : AllByRecursion (λ r. processes given r ≡ processes plain r) P.roles
  as_many =
      all_weaken (λ r. r.many ≡ true → size_in (map (plain_size k) (sets P.roles)) r.name ≡ k) (λ r. processes given r ≡ processes plain r)
      (λ r h. by r.many (size_in g.sizes r.name) (λ many. ap (λ (es : List (Name × ℕ)). size_in es r.name) sizes_are ∙ h many))
      P.roles (sizes_found k P.roles)
    where
      by : (b : Bool) (n : ℕ) → (b ≡ true → n ≡ k) → (if b then n else 1) ≡ (if b then k else 1)
      by true n h = h refl
      by false n h = refl

  -- each input has its plain value
  inputs_found : AllByRecursion (λ (s : Slot). given.input s.process s.variable ≡ plain_value P.enums (Some s.kind)) (slots given P.roles)
  inputs_found =
      all_of_map (λ (e : Input). given.input e.process e.variable ≡ e.value) (plain_input P.enums) (slots given P.roles)
      (subst (AllByRecursion (λ (e : Input). given.input e.process e.variable ≡ e.value)) inputs_are (found P.roles g (program_apart P typed) fits.inputs))

  -- what is known of a role: its number of processes, its inputs and its declarations
  pub record Known (r : RoleText) : Type 0 where
    pub number : processes given r ≡ processes plain r
    pub inputs : AllByRecursion (λ (s : Slot). given.input s.process s.variable ≡ plain_value P.enums (Some s.kind)) (role_slots given r)
    pub differ : Differ variable_of r.decls

  known : AllByRecursion Known P.roles
  known =
      all_meet (λ r. processes given r ≡ processes plain r) (λ r. AllByRecursion (λ (s : Slot). given.input s.process s.variable ≡ plain_value P.enums (Some s.kind)) (role_slots given r) × Differ variable_of r.decls) Known
      (λ r n h. record { number = n; inputs = h.0; differ = h.1 }) P.roles as_many
      (all_meet (λ r. AllByRecursion (λ (s : Slot). given.input s.process s.variable ≡ plain_value P.enums (Some s.kind)) (role_slots given r)) (IsRoleWellTyped P) (λ r. AllByRecursion (λ (s : Slot). given.input s.process s.variable ≡ plain_value P.enums (Some s.kind)) (role_slots given r) × Differ variable_of r.decls)
      (λ r h t. (h, names_differ variable_of r.decls t.decls.apart)) P.roles
      (each_of_flat (λ (s : Slot). given.input s.process s.variable ≡ plain_value P.enums (Some s.kind)) (role_slots given) P.roles inputs_found) typed.roles)

  -- a process has the same role in both
  same_role : (p : Pid) → role_of P.roles given p ≡ role_of P.roles plain p
  same_role p = elim (role_named P.roles p.role) as (λ o. role_named P.roles p.role ≡ o → with_member given p.member o ≡ with_member plain p.member o) [
    | None ↦ λ e. refl
    | Some r ↦ λ e. ap (λ n. if nat_lt p.member n then Some r else None) (named_meets Known P.roles p.role r known e).0.number
  ] refl

  same_size : (s : Name) → set_sizes P.roles given s ≡ set_sizes P.roles plain s
  same_size s = elim (role_named P.roles s) as (λ o. role_named P.roles s ≡ o → set_size given o ≡ set_size plain o) [
    | None ↦ λ e. refl
    | Some r ↦ λ e. as_set r.many (size_in g.sizes r.name) (named_meets Known P.roles s r known e).0.number
  ] refl
    where
      as_set : (b : Bool) (n : ℕ) → (if b then n else 1) ≡ (if b then k else 1) → (if b then n else 0) ≡ (if b then k else 0)
      as_set true n h = h
      as_set false n h = refl

  -- a process's variables start with the same values in both
  same_store : (p : Pid) (y : Name) → start_store P.roles given p y ≡ start_store P.roles plain p y
  same_store p y =
      ap (λ o. first_value given p (decls_of o) y) (same_role p)
      ∙ elim (role_named P.roles p.role) as (λ o. role_named P.roles p.role ≡ o → first_value given p (decls_of (with_member plain p.member o)) y ≡ first_value plain p (decls_of (with_member plain p.member o)) y) [
        | None ↦ λ e. refl
        | Some r ↦ λ e. let h = named_meets Known P.roles p.role r known e in
            elim (nat_lt p.member (processes plain r)) as (λ b. nat_lt p.member (processes plain r) ≡ b → first_value given p (decls_of (if b then Some r else None)) y ≡ first_value plain p (decls_of (if b then Some r else None)) y) [
              | true ↦ λ less. in_role r h.0 e h.1 (ltb-true p.member (processes given r) (ap (nat_lt p.member) h.0.number ∙ less))
              | false ↦ λ more. refl
            ] refl
      ] refl
    where
      in_role : (r : RoleText) → Known r → role_named P.roles p.role ≡ Some r → same_name p.role r.name ≡ true → p.member < processes given r → first_value given p r.decls y ≡ first_value plain p r.decls y
      in_role r h named same less =
          let at_p : member r.name p.member ≡ p = λ t. record { role = sym (exact_name p.role r.name same) t; member = p.member } in
          same_values given plain p r.decls
          (agreed P.enums given plain p r.decls r.decls (λ x. ap (λ (o : Option RoleText). plain_value P.enums (kind_in (decls_of o) x)) named)
          (subst (λ (q : Pid). AllByRecursion (λ (s : Slot). given.input s.process s.variable ≡ plain_value P.enums (Some s.kind)) (slots_at q r.decls)) at_p
          (each_member (λ q. AllByRecursion (λ (s : Slot). given.input s.process s.variable ≡ plain_value P.enums (Some s.kind)) (slots_at q r.decls)) r.name (processes given r)
          (each_of_flat (λ (s : Slot). given.input s.process s.variable ≡ plain_value P.enums (Some s.kind)) (λ q. slots_at q r.decls) (members r.name (processes given r)) h.inputs) p.member less))
          (kinds_found r.decls h.differ)) y

  pub is_plain : IsPlain P k g
  is_plain = record {
    fits = fits;
    starts = λ t. record {
      program = P;
      sizes = λ s. same_size s t;
      code = λ p. code_in (same_role p t);
      store = λ p y. same_store p y t;
      mail = λ q. [];
    };
  }
