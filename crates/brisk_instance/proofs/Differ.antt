-- The places of the inputs of all processes differ.
use Rattle.std.proofs.Common.{◌≡◌, ℕ, zero, suc, ◌+◌, Bool, true, false, List, [], ◌∷◌, ◌++◌, map, flat_map, refl, sym, ap, ◌∙◌, arith, subst}
use Rattle.std.specs.Prelude.{◌||◌, not}
use Rattle.std.specs.List.{AllByRecursion, range_with_len}
use Rattle.brisk_values.specs.declared.value.Pid.{Pid}
use Rattle.brisk_values.specs.Names.{Name, member, same_name}
use Rattle.brisk_values.proofs.Changes.{both_true, name_laws}
use Rattle.brisk_syntax.specs.declared.program.Decl.{Decl}
use Rattle.brisk_syntax.specs.declared.program.Decl.TheVariants as decl
use Rattle.brisk_syntax.specs.Declarations.{variable_of}
use Rattle.brisk_syntax.specs.Instance.{Instance, processes}
use Rattle.brisk_syntax.specs.Roles.{RoleText}
use Rattle.brisk_syntax.specs.Typing.{are_distinct, is_among}
use Rattle.brisk_instance.specs.Given.{AreApart, all_inputs, inputs_at, members}
use Rattle.brisk_instance.specs.Walks.{Place, role_inputs}
use Rattle.brisk_instance.proofs.Alls.{all_append, all_flat, all_members, all_weaken, members_from}
use Rattle.std.proofs.lemmas.Bool.{not-true}

-- the item's key is none of these
abbrev pub IsNone : {A K : Type 0} → (A → K) → List A → K → Type 0
IsNone key xs k = AllByRecursion (λ x. k ≡ key x → ⊥) xs

-- the keys of the items differ
abbrev pub Differ : {A K : Type 0} → (A → K) → List A → Type 0
Differ key [] = Unit {0}
Differ key (x ∷ xs) = IsNone key xs (key x) × Differ key xs

-- a name that is not among the names of items is the name of none
none_named : {A : Type 0} (key : A → Name) (n : Name) (xs : List A) → is_among (map key xs) n ≡ false → IsNone key xs n
none_named key n [] e = tt
none_named key n (x ∷ xs) e =
    (λ same. apart (is_among (map key xs) n) (ap (same_name n) (sym same) ∙ name_laws.refl n) e, none_named key n xs (rest (same_name n (key x)) (is_among (map key xs) n) e))
  where
    apart : {a : Bool} (b : Bool) → a ≡ true → (a || b) ≡ false → ⊥
    apart b t f = let g = ap (λ c. c || b) t in cc

    rest : (a b : Bool) → (a || b) ≡ false → b ≡ false
    rest true b f = cc
    rest false b f = f

-- names that are distinct differ
pub names_differ : {A : Type 0} (key : A → Name) (xs : List A) → are_distinct (map key xs) ≡ true → Differ key xs
names_differ key [] h = tt
names_differ key (x ∷ xs) h =
    let e = both_true (not (is_among (map key xs) (key x))) (are_distinct (map key xs)) h in
    (none_named key (key x) xs (not-true _ e.0), names_differ key xs e.1)

-- a key that is not in the list of the keys is the key of no item
none_listed : {A K : Type 0} (key : A → K) (k : K) (xs : List A) → IsNone (λ k. k) (map key xs) k → IsNone key xs k
none_listed key k [] h = tt
none_listed key k (x ∷ xs) h = (h.0, none_listed key k xs h.1)

-- items differ by their keys where the list of the keys differs
pub keys_differ : {A K : Type 0} (key : A → K) (xs : List A) → Differ (λ k. k) (map key xs) → Differ key xs
keys_differ key [] h = tt
keys_differ key (x ∷ xs) h = (none_listed key (key x) xs h.0, keys_differ key xs h.1)

module _ {A : Type 0} where
  -- items of two lists, where no item of the first is in the second
  append_differ : (xs ys : List A) → Differ (λ a. a) xs → Differ (λ a. a) ys → AllByRecursion (IsNone (λ a. a) ys) xs → Differ (λ a. a) (xs ++ ys)
  append_differ [] ys h k n = k
  append_differ (x ∷ xs) ys h k n = (all_append (λ y. x ≡ y → ⊥) xs ys h.0 n.0, append_differ xs ys h.1 k n.1)

  module _ {X K : Type 0} (f : X → List A) (t : A → K) (key : X → K) (tagged : (x : X) → AllByRecursion (λ a. t a ≡ key x) (f x)) where
    -- an item is in no part with another key
    none_elsewhere : (a : A) (xs : List X) → IsNone key xs (t a) → IsNone (λ b. b) (flat_map f xs) a
    none_elsewhere a xs h = all_flat (λ b. a ≡ b → ⊥) f xs
        (all_weaken (λ y. t a ≡ key y → ⊥) (λ y. IsNone (λ b. b) (f y) a) (λ y other. all_weaken (λ b. t b ≡ key y) (λ b. a ≡ b → ⊥) (λ b there same. other (ap t same ∙ there)) (f y) (tagged y)) xs h)

    -- the items of parts whose keys differ, where each item tells the key of its part
    flat_differ : (xs : List X) → Differ key xs → AllByRecursion (λ x. Differ (λ a. a) (f x)) xs → Differ (λ a. a) (flat_map f xs)
    flat_differ [] d each = tt
    flat_differ (x ∷ xs) d each = append_differ (f x) (flat_map f xs) each.0 (flat_differ xs d.1 each.1)
        (all_weaken (λ a. t a ≡ key x) (IsNone (λ b. b) (flat_map f xs)) (λ a here. none_elsewhere a xs (subst (IsNone key xs) (sym here) d.0)) (f x) (tagged x))

members_differ : (n : Name) (from count : ℕ) → Differ (λ (p : Pid). p.member) (map (member n) (range_with_len from count))
members_differ n from zero = tt
members_differ n from (suc count) = (members_from (λ p. from ≡ p.member → ⊥) n (from + 1) count (λ k low high same. omega arith), members_differ n (from + 1) count)

-- a process has no input of a name that it does not declare
none_at : (p : Pid) (x : Name) (ds : List Decl) → IsNone variable_of ds x → IsNone (λ a. a) (inputs_at p ds) (p, x)
none_at p x [] h = tt
none_at p x (decl.Var y k c ∷ ds) h = none_at p x ds h.1
none_at p x (decl.Input y k ∷ ds) h = (λ same. h.0 (ap (λ (a : Place). a.1) same), none_at p x ds h.1)

inputs_at_differ : (p : Pid) (ds : List Decl) → Differ variable_of ds → Differ (λ a. a) (inputs_at p ds)
inputs_at_differ p [] h = tt
inputs_at_differ p (decl.Var x k c ∷ ds) h = inputs_at_differ p ds h.1
inputs_at_differ p (decl.Input x k ∷ ds) h = (none_at p x ds h.0, inputs_at_differ p ds h.1)

-- the inputs of a process are inputs of that process
at_process : (p : Pid) (ds : List Decl) → AllByRecursion (λ (a : Place). a.0 ≡ p) (inputs_at p ds)
at_process p [] = tt
at_process p (decl.Var x k c ∷ ds) = at_process p ds
at_process p (decl.Input x k ∷ ds) = (refl, at_process p ds)

-- the inputs of all processes of a role differ
role_differ : (n : Name) (ds : List Decl) (count : ℕ) → Differ variable_of ds → Differ (λ a. a) (flat_map (λ p. inputs_at p ds) (members n count))
role_differ n ds count d = flat_differ (λ p. inputs_at p ds) (λ (a : Place). a.0.member) (λ (p : Pid). p.member)
    (λ p. all_weaken (λ (a : Place). a.0 ≡ p) (λ (a : Place). a.0.member ≡ p.member) (λ a e. ap (λ (q : Pid). q.member) e) (inputs_at p ds) (at_process p ds))
    (members n count) (members_differ n 0 count) (all_members (λ p. Differ (λ a. a) (inputs_at p ds)) n count (λ k less. inputs_at_differ (member n k) ds d))

-- the inputs of a role are inputs of its members
at_role : (n : Name) (ds : List Decl) (count : ℕ) → AllByRecursion (λ (a : Place). a.0.role ≡ n) (flat_map (λ p. inputs_at p ds) (members n count))
at_role n ds count = all_flat (λ (a : Place). a.0.role ≡ n) (λ p. inputs_at p ds) (members n count)
    (all_members (λ p. AllByRecursion (λ (a : Place). a.0.role ≡ n) (inputs_at p ds)) n count (λ k less. all_weaken (λ (a : Place). a.0 ≡ member n k) (λ (a : Place). a.0.role ≡ n) (λ a e. ap (λ (q : Pid). q.role) e) (inputs_at (member n k) ds) (at_process (member n k) ds)))

-- the inputs of all processes differ
pub inputs_differ : (i : Instance) (roles : List RoleText) → AreApart roles → Differ (λ a. a) (all_inputs i roles)
inputs_differ i roles apart = flat_differ (role_inputs i) (λ (a : Place). a.0.role) (λ (r : RoleText). r.name) (λ r. at_role r.name r.decls (processes i r)) roles (names_differ (λ r. r.name) roles apart.names)
    (all_weaken (λ r. are_distinct (map variable_of r.decls) ≡ true) (λ r. Differ (λ a. a) (role_inputs i r)) (λ r d. role_differ r.name r.decls (processes i r) (names_differ variable_of r.decls d)) roles apart.variables)
