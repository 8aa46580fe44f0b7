-- What names mean in the text of each role, found by the role's name.
use Rattle.std.proofs.Common.{◌≡◌, ℕ, ◌+◌, ◌<◌, true, false, cond, List, [], ◌∷◌, ◌++◌, length, take, get_or, map, Some, None, refl, ap, ◌∙◌}
use Rattle.std.specs.Prelude.{option_map}
use Rattle.std.specs.Option.{option_or}
use Rattle.std.proofs.lemmas.List.{map-append}
use Rattle.brisk_values.specs.Names.{Name, same_name}
use Rattle.brisk_syntax.specs.declared.program.Decl.{Decl}
use Rattle.brisk_syntax.specs.Declarations.{role_named}
use Rattle.brisk_syntax.specs.Roles.{RoleText}
use Rattle.brisk_types.specs.Declarations.{behind, behind_all}
use Rattle.brisk_types.specs.Expressions.{Meaning}
use Rattle.brisk_types.specs.Names.{named}
use Rattle.brisk_types.specs.Sequences.{behind_role}
use Rattle.brisk_types.proofs.Indexes.{take_item}

named_last : (ms : List Meaning) (m : Meaning) (n : Name) → named (ms ++ m ∷ []) n ≡ option_or (named ms n) (cond (same_name n m.own) (Some m) None)
named_last [] m n = refl
named_last (k ∷ ms) m n =
    elim (same_name n k.own) as (λ b. cond b (Some k) (named (ms ++ m ∷ []) n) ≡ option_or (cond b (Some k) (named ms n)) (cond (same_name n m.own) (Some m) None))
    [ true ↦ refl | false ↦ named_last ms m n ]

-- one more role
pub named_item : {X : Type 0} (f : X → Meaning) (xs : List X) (i : ℕ) (x : X) (n : Name) → i < length xs → x ≡ get_or xs i x
    → named (map f (take (i + 1) xs)) n ≡ option_or (named (map f (take i xs)) n) (cond (same_name n (f x).own) (Some (f x)) None)
named_item f xs i x n lt at = ap (λ ys. named (map f ys) n) (take_item xs i x lt at) ∙ ap (λ ms. named ms n) (map-append f (take i xs) (x ∷ [])) ∙ named_last (map f (take i xs)) (f x) n

own_behind : (m : Meaning) (ds : List Decl) → (behind_all m ds).own ≡ m.own
own_behind m [] = refl
own_behind m (d ∷ ds) = own_behind (behind m d) ds

-- the first role of the name
pub named_role : (meaning : Name → Meaning) → ((n : Name) → (meaning n).own ≡ n) → (rs : List RoleText) (p : Name)
    → named (map (behind_role meaning) rs) p ≡ option_map (behind_role meaning) (role_named rs p)
named_role meaning own [] p = refl
named_role meaning own (r ∷ rs) p =
    ap (λ n. cond (same_name p n) (Some (behind_role meaning r)) (named (map (behind_role meaning) rs) p)) (own_behind (meaning r.name) r.decls ∙ own r.name)
    ∙ (elim (same_name p r.name) as (λ b. cond b (Some (behind_role meaning r)) (named (map (behind_role meaning) rs) p) ≡ option_map (behind_role meaning) (cond b (Some r) (role_named rs p)))
    [ true ↦ refl | false ↦ named_role meaning own rs p ])
