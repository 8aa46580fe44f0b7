-- Programs: no rule fails exactly where they are well typed.
use Rattle.std.proofs.Common.{◌≡◌, ℕ, ◌+◌, true, List, [], ◌∷◌, sum_by, refl, sym, subst}
use Rattle.std.specs.List.{AllByRecursion}
use Rattle.brisk_values.specs.declared.value.Kind.{Kind}
use Rattle.brisk_values.specs.Names.{Name}
use Rattle.brisk_syntax.specs.declared.program.Channel.{Channel}
use Rattle.brisk_syntax.specs.declared.program.EnumDecl.{EnumDecl}
use Rattle.brisk_syntax.specs.declared.program.Program.{Program}
use Rattle.brisk_syntax.specs.Roles.{RoleText}
use Rattle.brisk_syntax.specs.Tokens.{enum_tokens, channel_tokens, decl_tokens, role_tokens}
use Rattle.brisk_syntax.specs.Typing.{are_distinct, is_kind, HasDistinctTags}
use Rattle.brisk_syntax.specs.WellTyped.{globals, IsRoleWellTyped, IsProgramWellTyped}
use Rattle.brisk_types.specs.Declarations.{placed, channels_at, roles_at, heading_tokens, is_enum_of, meaning, apart, enumerations, kinds, channels, role, roles, failures}
use Rattle.brisk_types.specs.Expressions.{Meaning}
use Rattle.brisk_types.specs.Failures.{NoneFails}
use Rattle.brisk_types.specs.Statements.{code}
use Rattle.brisk_types.proofs.Coding.{coded, codes}
use Rattle.brisk_types.proofs.Declaring.{placed_names, kind_known, known_kind, are_decls, decls_are, behind_is}
use Rattle.brisk_types.proofs.Fresh.{Fresh, tags_fresh, fresh_tags, apart_fresh, fresh_apart, fresh_distinct, all_fresh}

-- ---- names, enumerations and channels

pub names_differ : (P : Program) → NoneFails (apart [] (placed P)) → are_distinct (globals P) ≡ true
names_differ P h = (fresh_distinct [] (globals P) (subst (λ (ns : List Name). Fresh [] ns) (placed_names P) (apart_fresh [] (placed P) h))).0

pub differ_names : (P : Program) → are_distinct (globals P) ≡ true → NoneFails (apart [] (placed P))
differ_names P h = fresh_apart [] (placed P) (subst (λ (ns : List Name). Fresh [] ns) (sym (placed_names P)) (all_fresh (globals P) h))

pub enums_typed : (i : ℕ) (es : List EnumDecl) → NoneFails (enumerations i es) → AllByRecursion HasDistinctTags es
enums_typed i [] h = tt
enums_typed i (e ∷ es) h = ((fresh_distinct [] e.tags (tags_fresh [] e.tags (i + 3) h.0)).0, enums_typed (i + enum_tokens e) es h.1)

pub typed_enums : (i : ℕ) (es : List EnumDecl) → AllByRecursion HasDistinctTags es → NoneFails (enumerations i es)
typed_enums i [] h = tt
typed_enums i (e ∷ es) h = (fresh_tags [] e.tags (i + 3) (all_fresh e.tags h.0), typed_enums (i + enum_tokens e) es h.1)

kinds_known : (enums : List EnumDecl) (i : ℕ) (ks : List Kind) → NoneFails (kinds (is_enum_of enums) i ks) → AllByRecursion (λ k. is_kind enums k ≡ true) ks
kinds_known enums i [] h = tt
kinds_known enums i (k ∷ ks) h = (kind_known enums i k h.0, kinds_known enums (i + 2) ks h.1)

known_kinds : (enums : List EnumDecl) (i : ℕ) (ks : List Kind) → AllByRecursion (λ k. is_kind enums k ≡ true) ks → NoneFails (kinds (is_enum_of enums) i ks)
known_kinds enums i [] h = tt
known_kinds enums i (k ∷ ks) h = (known_kind enums i k h.0, known_kinds enums (i + 2) ks h.1)

channels_typed : (enums : List EnumDecl) (i : ℕ) (cs : List Channel) → NoneFails (channels (is_enum_of enums) i cs) → AllByRecursion (λ c. AllByRecursion (λ k. is_kind enums k ≡ true) c.kinds) cs
channels_typed enums i [] h = tt
channels_typed enums i (c ∷ cs) h = (kinds_known enums (i + 3) c.kinds h.0, channels_typed enums (i + channel_tokens c) cs h.1)

typed_channels : (enums : List EnumDecl) (i : ℕ) (cs : List Channel) → AllByRecursion (λ c. AllByRecursion (λ k. is_kind enums k ≡ true) c.kinds) cs → NoneFails (channels (is_enum_of enums) i cs)
typed_channels enums i [] h = tt
typed_channels enums i (c ∷ cs) h = (known_kinds enums (i + 3) c.kinds h.0, typed_channels enums (i + channel_tokens c) cs h.1)

-- ---- roles

module _ (P : Program) where
  role_typed : (i : ℕ) (r : RoleText) → NoneFails (role (meaning P r.name) i r) → IsRoleWellTyped P r
  role_typed i r h =
      let at = i + heading_tokens r + sum_by decl_tokens r.decls in
      record {
        decls = are_decls P r.name (i + heading_tokens r) r.decls h.0;
        code = coded P r [] [] (λ n. refl) at r.code (subst (λ (m : Meaning). NoneFails (code m [] at r.code)) (behind_is P r.name r.decls) h.1);
      }

  typed_role : (i : ℕ) (r : RoleText) → IsRoleWellTyped P r → NoneFails (role (meaning P r.name) i r)
  typed_role i r h =
      let at = i + heading_tokens r + sum_by decl_tokens r.decls in
      (decls_are P r.name (i + heading_tokens r) r.decls h.decls, subst (λ (m : Meaning). NoneFails (code m [] at r.code)) (sym (behind_is P r.name r.decls)) (codes P r [] [] (λ n. refl) at r.code h.code))

  roles_typed : (i : ℕ) (rs : List RoleText) → NoneFails (roles (meaning P) i rs) → AllByRecursion (IsRoleWellTyped P) rs
  roles_typed i [] h = tt
  roles_typed i (r ∷ rs) h = (role_typed i r h.0, roles_typed (i + role_tokens r) rs h.1)

  typed_roles : (i : ℕ) (rs : List RoleText) → AllByRecursion (IsRoleWellTyped P) rs → NoneFails (roles (meaning P) i rs)
  typed_roles i [] h = tt
  typed_roles i (r ∷ rs) h = (typed_role i r h.0, typed_roles (i + role_tokens r) rs h.1)

-- ---- programs

pub is_typed : (P : Program) → NoneFails (failures P) → IsProgramWellTyped P
is_typed P h = record {
  names = names_differ P h.0;
  tags = enums_typed 0 P.enums h.1.0;
  channels = channels_typed P.enums (channels_at P) P.channels h.1.1.0;
  roles = roles_typed P (roles_at P) P.roles h.1.1.1;
}

pub typed_is : (P : Program) → IsProgramWellTyped P → NoneFails (failures P)
typed_is P h = (differ_names P h.names, (typed_enums 0 P.enums h.tags, (typed_channels P.enums (channels_at P) P.channels h.channels, typed_roles P (roles_at P) P.roles h.roles)))
