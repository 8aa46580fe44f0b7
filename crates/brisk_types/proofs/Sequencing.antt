-- Sequential programs: no rule fails exactly where they are well typed.
use Rattle.std.proofs.Common.{◌≡◌, ℕ, ◌+◌, Bool, true, false, ◌||◌, ◌&&◌, not, List, [], ◌∷◌, ◌++◌, length, Option, Some, None, nat_eq, refl, sym, ap, subst, ◌∙◌, arith, eq-eqb}
use Rattle.std.specs.Prelude.{if◌then◌else◌, option_map}
use Rattle.std.specs.List.{AllByRecursion, list_any}
use Rattle.std.specs.Option.{is_some}
use Rattle.std.proofs.lemmas.Bool.{eqb-true, not-false}
use Rattle.brisk_values.specs.declared.value.Kind.{Kind}
use Rattle.brisk_values.specs.declared.value.Kind.TheVariants as kind
use Rattle.brisk_values.specs.Names.{Name, same_name}
use Rattle.brisk_values.proofs.Changes.{exact_name}
use Rattle.brisk_syntax.specs.declared.program.Decl.{Decl}
use Rattle.brisk_syntax.specs.declared.program.Program.{Program}
use Rattle.brisk_syntax.specs.Declarations.{kind_in, role_named, decls_of}
use Rattle.brisk_syntax.specs.Roles.{RoleText}
use Rattle.brisk_syntax.specs.Syntax.{Expression}
use Rattle.brisk_syntax.specs.Tokens.{expression_tokens, name_tokens, role_tokens}
use Rattle.brisk_syntax.specs.Typing.{is_among, is_set, is_single, scope, HasKind, HaveKinds, AreDeclared, AreDeclsWellTyped}
use Rattle.brisk_seq.specs.declared.tree.SeqProgram.{SeqProgram}
use Rattle.brisk_seq.specs.Items.{Item, Pass, Fill, Take, If, While, For, ForAny, Pick, Repeat, Items, nothing, ◌⨟◌}
use Rattle.brisk_seq.specs.Tokens.{item_tokens, items_tokens}
use Rattle.brisk_seq.specs.WellTyped.{globals, is_process, decls_at, scope_at, AreVariables, CanFocus, IsItemWellTyped, AreItemsWellTyped, IsSeqWellTyped}
use Rattle.brisk_types.specs.declared.fault.Rule.{Rule}
use Rattle.brisk_types.specs.declared.fault.Rule.TheVariants.{Unknown, NotASet, WrongCount}
use Rattle.brisk_types.specs.Declarations.{heading_tokens, roles_at, meaning}
use Rattle.brisk_types.specs.Expressions.{Meaning, wanted}
use Rattle.brisk_types.specs.Failures.{Failures, NoneFails, broken}
use Rattle.brisk_types.specs.Sequences.{Meanings, process_rule, turns_rule, focus_rule, at_process, passed, guard, stored, item, items, outlines, outline, behind_role, meanings, items_at, seq_failures}
use Rattle.brisk_types.specs.Statements.{values, variables}
use Rattle.brisk_types.proofs.Agreeing.{names_differ, differ_names, enums_typed, typed_enums}
use Rattle.brisk_types.proofs.Coding.{Same, one_more}
use Rattle.brisk_types.proofs.Declaring.{are_decls, decls_are, behind_is}
use Rattle.brisk_types.proofs.Fresh.{not_when, when_not, fresh_distinct, all_fresh}
use Rattle.brisk_types.proofs.Kinded.{within, not_broken, unbroken, of_kind, is_of_kind, values_typed, typed_values, variables_known, known_variables}

-- ---- tests

process_is : (b : Bool) → (if b then None else Some Unknown) ≡ None → b ≡ true
process_is true h = refl
process_is false h = cc

turns_is : (a b : Bool) → (if a then None else if b then Some NotASet else Some Unknown) ≡ None → a ≡ true
turns_is true b h = refl
turns_is false true h = cc
turns_is false false h = cc

focus_is : (a : Bool) (r : Option Rule) → (if a then Some Unknown else r) ≡ None → (a ≡ false) × (r ≡ None)
focus_is true r h = cc
focus_is false r h = (refl, h)

has : {X : Type 0} (o : Option X) → is_some o ≡ true → (x : X) × (o ≡ Some x)
has None h = cc
has (Some x) h = (x, refl)

either : (a b : Bool) (C : Type 0) → (a || b) ≡ true → (a ≡ true → C) → (b ≡ true → C) → C
either true b C h f g = f refl
either false b C h f g = g h

-- a role that some test finds by its name is declared
found_role : (test : RoleText → Bool) (rs : List RoleText) (n : Name) → list_any (λ r. same_name n r.name && test r) rs ≡ true → is_some (role_named rs n) ≡ true
found_role test [] n h = h
found_role test (r ∷ rs) n h = by (same_name n r.name) (test r) (found_role test rs n) h
  where
    by : (a b : Bool) → (list_any (λ r. same_name n r.name && test r) rs ≡ true → is_some (role_named rs n) ≡ true) → ((a && b) || list_any (λ r. same_name n r.name && test r) rs) ≡ true
        → is_some (if a then Some r else role_named rs n) ≡ true
    by true b rest h = refl
    by false b rest h = rest h

-- ---- passes

module _ (P : Program) (own other : Name) (ds to : List Decl) where
  abbrev M : Meaning
  M = within P own (kind_in ds)

  abbrev T : Option Meaning
  T = Some (within P other (kind_in to))

  passed_have : (i : ℕ) (es : List Expression) (xs : List Name) (ks : List Kind) → AreDeclared to xs ks → length xs ≡ length es → NoneFails (passed M T i es xs) → HaveKinds (scope P.enums P.roles ds) es ks
  passed_have i [] [] [] d l h = tt
  passed_have i [] [] (k ∷ ks) d l h = absurd d
  passed_have i [] (x ∷ xs) ks d l h = absurd (omega arith)
  passed_have i (e ∷ es) [] ks d l h = absurd (omega arith)
  passed_have i (e ∷ es) (x ∷ xs) [] d l h = absurd d
  passed_have i (e ∷ es) (x ∷ xs) (k ∷ ks) d l h =
      (of_kind P own ds k i e (subst (λ (o : Option Kind). NoneFails (wanted M o i e)) d.0 h.0), passed_have (i + expression_tokens e + 1) es xs ks d.1 (omega arith) h.1)

  have_passed : (i : ℕ) (es : List Expression) (xs : List Name) (ks : List Kind) → AreDeclared to xs ks → HaveKinds (scope P.enums P.roles ds) es ks → NoneFails (passed M T i es xs) × (length xs ≡ length es)
  have_passed i [] [] [] d h = (tt, refl)
  have_passed i [] [] (k ∷ ks) d h = absurd d
  have_passed i [] (x ∷ xs) [] d h = absurd d
  have_passed i [] (x ∷ xs) (k ∷ ks) d h = absurd h
  have_passed i (e ∷ es) [] [] d h = absurd h
  have_passed i (e ∷ es) [] (k ∷ ks) d h = absurd d
  have_passed i (e ∷ es) (x ∷ xs) [] d h = absurd d
  have_passed i (e ∷ es) (x ∷ xs) (k ∷ ks) d h =
      let rest = have_passed (i + expression_tokens e + 1) es xs ks d.1 h.1 in
      ((is_of_kind P own ds k (kind_in to x) i e d.0 h.0, rest.0), omega arith)

-- ---- items

module _ (Q : SeqProgram) where
  abbrev P : Program
  P = outline Q

  abbrev N : Meanings
  N = meanings Q

  -- the same sets are in focus, and each is declared
  record Focused (focus scope : List Name) : Type 0 where
    same : Same focus scope
    declared : (p : Name) → is_among scope p ≡ true → is_some (role_named Q.roles p) ≡ true

  one_focus : (focus scope : List Name) (s : Name) → Focused focus scope → is_set Q.roles s ≡ true → Focused (focus ++ s ∷ []) (s ∷ scope)
  one_focus focus scope s f h = record {
    same = one_more focus scope s f.same;
    declared = λ p k. either (same_name p s) (is_among scope p) (is_some (role_named Q.roles p) ≡ true) k
        (λ e. subst (λ (q : Name). is_some (role_named Q.roles q) ≡ true) (sym (exact_name p s e)) (found_role (λ r. r.many) Q.roles s h)) (f.declared p);
  }

  is_here : (focus scope : List Name) (p : Name) → Focused focus scope → is_process Q scope p ≡ true → is_some (role_named Q.roles p) ≡ true
  is_here focus scope p f h = either (is_single Q.roles p) (is_among scope p) (is_some (role_named Q.roles p) ≡ true) h (found_role (λ r. not r.many) Q.roles p) (f.declared p)

  -- what names mean at a process that is declared
  meaning_is : (p : Name) → is_some (role_named Q.roles p) ≡ true → (own : Name) × (N.meaning_at p ≡ Some (within P own (kind_in (decls_at Q p))))
  meaning_is p h =
      let r = has (role_named Q.roles p) h in
      (r.0.name, ap (option_map (behind_role (meaning P))) r.1 ∙ ap Some (behind_is P r.0.name r.0.decls) ∙ ap (λ ds. Some (within P r.0.name (kind_in ds))) (sym (ap decls_of r.1)))

  process : (focus scope : List Name) (i : ℕ) (p : Name) → Focused focus scope → NoneFails (broken (process_rule N focus p) i) → is_process Q scope p ≡ true
  process focus scope i p f h = ap (λ b. is_single Q.roles p || b) (sym (f.same p)) ∙ process_is (is_single Q.roles p || is_among focus p) (not_broken (process_rule N focus p) i h)

  a_process : (focus scope : List Name) (i : ℕ) (p : Name) → Focused focus scope → is_process Q scope p ≡ true → NoneFails (broken (process_rule N focus p) i)
  a_process focus scope i p f h = unbroken (process_rule N focus p) i (ap (λ b. if b then None else Some Unknown) (ap (λ b. is_single Q.roles p || b) (f.same p) ∙ h))

  turns : (i : ℕ) (s : Name) → NoneFails (broken (turns_rule N s) i) → is_set Q.roles s ≡ true
  turns i s h = turns_is (is_set Q.roles s) (is_single Q.roles s) (not_broken (turns_rule N s) i h)

  no_turns_rule : (s : Name) → is_set Q.roles s ≡ true → turns_rule N s ≡ None
  no_turns_rule s h = ap (λ b. if b then None else if is_single Q.roles s then Some NotASet else Some Unknown) h

  focuses : (focus scope : List Name) (i : ℕ) (s : Name) → Focused focus scope → NoneFails (broken (focus_rule N focus s) i) → CanFocus Q scope s
  focuses focus scope i s f h =
      let parts = focus_is (is_among focus s) (turns_rule N s) (not_broken (focus_rule N focus s) i h) in
      (turns_is (is_set Q.roles s) (is_single Q.roles s) parts.1, sym (f.same s) ∙ parts.0)

  can_focus : (focus scope : List Name) (i : ℕ) (s : Name) → Focused focus scope → CanFocus Q scope s → NoneFails (broken (focus_rule N focus s) i)
  can_focus focus scope i s f h = unbroken (focus_rule N focus s) i (ap (λ b. if b then Some Unknown else turns_rule N s) (f.same s ∙ h.1) ∙ no_turns_rule s h.0)

  -- what fails at a process fails by its declarations
  at_it : (g : Meaning → Failures) (p own : Name) → N.meaning_at p ≡ Some (within P own (kind_in (decls_at Q p))) → NoneFails (at_process (N.meaning_at p) g) → NoneFails (g (within P own (kind_in (decls_at Q p))))
  at_it g p own e h = subst (λ (o : Option Meaning). NoneFails (at_process o g)) e h

  it_at : (g : Meaning → Failures) (p own : Name) → N.meaning_at p ≡ Some (within P own (kind_in (decls_at Q p))) → NoneFails (g (within P own (kind_in (decls_at Q p)))) → NoneFails (at_process (N.meaning_at p) g)
  it_at g p own e h = subst (λ (o : Option Meaning). NoneFails (at_process o g)) (sym e) h

  guard_typed : (focus scope : List Name) (i : ℕ) (p : Name) (e : Expression) → Focused focus scope → NoneFails (guard N focus i p e) → (is_process Q scope p ≡ true) × HasKind (scope_at Q p) e kind.Bool
  guard_typed focus scope i p e f h =
      let is = process focus scope i p f h.0 in
      let m = meaning_is p (is_here focus scope p f is) in
      (is, of_kind P m.0 (decls_at Q p) kind.Bool (i + 3) e (at_it (λ n. wanted n (Some kind.Bool) (i + 3) e) p m.0 m.1 h.1))

  typed_guard : (focus scope : List Name) (i : ℕ) (p : Name) (e : Expression) → Focused focus scope → is_process Q scope p ≡ true → HasKind (scope_at Q p) e kind.Bool → NoneFails (guard N focus i p e)
  typed_guard focus scope i p e f is h =
      let m = meaning_is p (is_here focus scope p f is) in
      (a_process focus scope i p f is, it_at (λ n. wanted n (Some kind.Bool) (i + 3) e) p m.0 m.1 (is_of_kind P m.0 (decls_at Q p) kind.Bool (Some kind.Bool) (i + 3) e refl h))

  stored_typed : (focus scope : List Name) (i : ℕ) (p : Name) (xs : List Name) → Focused focus scope → NoneFails (stored N focus i p xs) → (is_process Q scope p ≡ true) × AreVariables Q p xs
  stored_typed focus scope i p xs f h =
      let is = process focus scope i p f h.0 in
      let m = meaning_is p (is_here focus scope p f is) in
      let all = variables_known P m.0 (decls_at Q p) [] (i + 3) xs (at_it (λ n. variables n [] (i + 3) xs []) p m.0 m.1 h.1) in
      (is, (all.0, (fresh_distinct [] xs all.1).0))

  typed_stored : (focus scope : List Name) (i : ℕ) (p : Name) (xs : List Name) → Focused focus scope → is_process Q scope p ≡ true → AreVariables Q p xs → NoneFails (stored N focus i p xs)
  typed_stored focus scope i p xs f is h =
      let m = meaning_is p (is_here focus scope p f is) in
      (a_process focus scope i p f is, it_at (λ n. variables n [] (i + 3) xs []) p m.0 m.1 (known_variables P m.0 (decls_at Q p) [] (i + 3) xs h.0.0 h.0.1 (all_fresh xs h.1)))

  mutual
    item_typed : (focus scope : List Name) → Focused focus scope → (i : ℕ) (q : Item) → NoneFails (item N focus i q) → IsItemWellTyped Q scope q
    item_typed focus scope f i (Pass to xs from es) h =
        let count : length xs ≡ length es = eqb-true (length xs) (length es) (not-false (nat_eq (length xs) (length es)) (not_when (not (nat_eq (length xs) (length es))) WrongCount i h.0)) in
        let at = i + 3 + name_tokens xs in
        let t = stored_typed focus scope i to xs f h.1.0 in
        let s = process focus scope (at + 2) from f h.1.1.0 in
        let m = meaning_is from (is_here focus scope from f s) in
        let n = meaning_is to (is_here focus scope to f t.0) in
        let values = subst (λ (o : Option Meaning). NoneFails (passed (within P m.0 (kind_in (decls_at Q from))) o (at + 5) es xs)) n.1 (at_it (λ k. passed k (N.meaning_at to) (at + 5) es xs) from m.0 m.1 h.1.1.1) in
        (t.0, s, t.1.1, t.1.0.0, t.1.0.1, passed_have P m.0 n.0 (decls_at Q from) (decls_at Q to) (at + 5) es xs t.1.0.0 t.1.0.1 count values)
    item_typed focus scope f i (Fill k from to es) h =
        let s = process focus scope (i + 3) from f h.0 in
        let m = meaning_is from (is_here focus scope from f s) in
        (s, process focus scope (i + 5) to f h.1.0, values_typed P m.0 (decls_at Q from) (i + 11) es (at_it (λ n. values n (i + 11) es []) from m.0 m.1 h.1.1.1))
    item_typed focus scope f i (Take to xs k from) h =
        let t = stored_typed focus scope i to xs f h.0 in
        (t.0, process focus scope (i + 3 + name_tokens xs + 5) from f h.1.0, t.1)
    item_typed focus scope f i (If p e a b) h =
        let g = guard_typed focus scope (i + 1) p e f h.0 in
        (g.0, g.1, items_typed focus scope f (i + 4 + expression_tokens e + 2) a h.1.0, items_typed focus scope f (i + 4 + expression_tokens e + 2 + items_tokens a + 3) b h.1.1)
    item_typed focus scope f i (While p e b) h =
        let g = guard_typed focus scope (i + 1) p e f h.0 in
        (g.0, g.1, items_typed focus scope f (i + 4 + expression_tokens e + 2) b h.1)
    item_typed focus scope f i (For s b) h =
        let c = focuses focus scope (i + 1) s f h.0 in
        (c, items_typed (focus ++ s ∷ []) (s ∷ scope) (one_focus focus scope s f c.0) (i + 1 + 2) b h.1)
    item_typed focus scope f i (ForAny s b) h =
        let c = focuses focus scope (i + 2) s f h.0 in
        (c, items_typed (focus ++ s ∷ []) (s ∷ scope) (one_focus focus scope s f c.0) (i + 2 + 2) b h.1)
    item_typed focus scope f i (Pick s b) h =
        let c = focuses focus scope (i + 1) s f h.0 in
        (c, items_typed (focus ++ s ∷ []) (s ∷ scope) (one_focus focus scope s f c.0) (i + 1 + 2) b h.1)
    item_typed focus scope f i (Repeat s b) h = (turns (i + 1) s h.0, items_typed focus scope f (i + 3) b h.1)

    items_typed : (focus scope : List Name) → Focused focus scope → (i : ℕ) (b : Items) → NoneFails (items N focus i b) → AreItemsWellTyped Q scope b
    items_typed focus scope f i nothing h = tt
    items_typed focus scope f i (q ⨟ b) h = (item_typed focus scope f i q h.0, items_typed focus scope f (i + item_tokens q) b h.1)

  mutual
    typed_item : (focus scope : List Name) → Focused focus scope → (i : ℕ) (q : Item) → IsItemWellTyped Q scope q → NoneFails (item N focus i q)
    typed_item focus scope f i (Pass to xs from es) h =
        let at = i + 3 + name_tokens xs in
        let m = meaning_is from (is_here focus scope from f h.1) in
        let n = meaning_is to (is_here focus scope to f h.0) in
        let all = have_passed P m.0 n.0 (decls_at Q from) (decls_at Q to) (at + 5) es xs h.3 h.4 h.5 in
        let values = subst (λ (o : Option Meaning). NoneFails (passed (within P m.0 (kind_in (decls_at Q from))) o (at + 5) es xs)) (sym n.1) all.0 in (
          when_not (not (nat_eq (length xs) (length es))) WrongCount i (ap not (eq-eqb (length xs) (length es) all.1)),
          (
            typed_stored focus scope i to xs f h.0 ((h.3, h.4), h.2),
            (a_process focus scope (at + 2) from f h.1, it_at (λ k. passed k (N.meaning_at to) (at + 5) es xs) from m.0 m.1 values),
          ),
        )
    typed_item focus scope f i (Fill k from to es) h =
        let m = meaning_is from (is_here focus scope from f h.0) in (
          a_process focus scope (i + 3) from f h.0,
          (
            a_process focus scope (i + 5) to f h.1,
            (a_process focus scope (i + 8) from f h.0, it_at (λ n. values n (i + 11) es []) from m.0 m.1 (typed_values P m.0 (decls_at Q from) (i + 11) es h.2.0 h.2.1)),
          ),
        )
    typed_item focus scope f i (Take to xs k from) h =
        (typed_stored focus scope i to xs f h.0 h.2, (a_process focus scope (i + 3 + name_tokens xs + 5) from f h.1, a_process focus scope (i + 3 + name_tokens xs + 7) to f h.0))
    typed_item focus scope f i (If p e a b) h = (
      typed_guard focus scope (i + 1) p e f h.0 h.1,
      (typed_items focus scope f (i + 4 + expression_tokens e + 2) a h.2, typed_items focus scope f (i + 4 + expression_tokens e + 2 + items_tokens a + 3) b h.3),
    )
    typed_item focus scope f i (While p e b) h = (typed_guard focus scope (i + 1) p e f h.0 h.1, typed_items focus scope f (i + 4 + expression_tokens e + 2) b h.2)
    typed_item focus scope f i (For s b) h = (can_focus focus scope (i + 1) s f h.0, typed_items (focus ++ s ∷ []) (s ∷ scope) (one_focus focus scope s f h.0.0) (i + 1 + 2) b h.1)
    typed_item focus scope f i (ForAny s b) h = (can_focus focus scope (i + 2) s f h.0, typed_items (focus ++ s ∷ []) (s ∷ scope) (one_focus focus scope s f h.0.0) (i + 2 + 2) b h.1)
    typed_item focus scope f i (Pick s b) h = (can_focus focus scope (i + 1) s f h.0, typed_items (focus ++ s ∷ []) (s ∷ scope) (one_focus focus scope s f h.0.0) (i + 1 + 2) b h.1)
    typed_item focus scope f i (Repeat s b) h = (unbroken (turns_rule N s) (i + 1) (no_turns_rule s h.0), typed_items focus scope f (i + 3) b h.1)

    typed_items : (focus scope : List Name) → Focused focus scope → (i : ℕ) (b : Items) → AreItemsWellTyped Q scope b → NoneFails (items N focus i b)
    typed_items focus scope f i nothing h = tt
    typed_items focus scope f i (q ⨟ b) h = (typed_item focus scope f i q h.0, typed_items focus scope f (i + item_tokens q) b h.1)

  -- ---- sequential programs

  outlines_typed : (i : ℕ) (rs : List RoleText) → NoneFails (outlines (meaning P) i rs) → AllByRecursion (λ r. AreDeclsWellTyped Q.enums (globals Q) r.decls) rs
  outlines_typed i [] h = tt
  outlines_typed i (r ∷ rs) h = (are_decls P r.name (i + heading_tokens r) r.decls h.0, outlines_typed (i + role_tokens r) rs h.1)

  typed_outlines : (i : ℕ) (rs : List RoleText) → AllByRecursion (λ r. AreDeclsWellTyped Q.enums (globals Q) r.decls) rs → NoneFails (outlines (meaning P) i rs)
  typed_outlines i [] h = tt
  typed_outlines i (r ∷ rs) h = (decls_are P r.name (i + heading_tokens r) r.decls h.0, typed_outlines (i + role_tokens r) rs h.1)

  unfocused : Focused [] []
  unfocused = record { same = λ n. refl; declared = λ p h. cc }

  pub seq_typed : NoneFails (seq_failures Q) → IsSeqWellTyped Q
  seq_typed h = record {
    names = names_differ P h.0;
    tags = enums_typed 0 Q.enums h.1.0;
    roles = outlines_typed (roles_at P) Q.roles h.1.1.0;
    body = items_typed [] [] unfocused (items_at Q) Q.body h.1.1.1;
  }

  pub typed_seq : IsSeqWellTyped Q → NoneFails (seq_failures Q)
  typed_seq h = (differ_names P h.names, (typed_enums 0 Q.enums h.tags, (typed_outlines (roles_at P) Q.roles h.roles, typed_items [] [] unfocused (items_at Q) Q.body h.body)))
