-- Statements: no rule fails exactly where they are well typed.
use Rattle.std.proofs.Common.{◌≡◌, ℕ, ◌+◌, Bool, true, false, ◌||◌, ◌&&◌, not, List, [], ◌∷◌, ◌++◌, length, map, Option, Some, None, nat_eq, refl, sym, ap, subst, ◌∙◌}
use Rattle.std.specs.Prelude.{if◌then◌else◌}
use Rattle.std.specs.Option.{is_none, is_some}
use Rattle.std.proofs.lemmas.Bool.{eqb-true, not-true}
use Rattle.std.proofs.Common.{eq-eqb}
use Rattle.std.proofs.lemmas.List.Folds.{list_any-append}
use Rattle.brisk_values.specs.declared.value.Kind.{Kind}
use Rattle.brisk_values.specs.declared.value.Kind.TheVariants as kind
use Rattle.brisk_values.specs.Names.{Name, same_name}
use Rattle.brisk_syntax.specs.declared.program.Program.{Program}
use Rattle.brisk_syntax.specs.declared.tree.Who.{Who}
use Rattle.brisk_syntax.specs.declared.tree.Who.TheVariants as who
use Rattle.brisk_syntax.specs.Declarations.{kind_in, kinds_on, variable_of}
use Rattle.brisk_syntax.specs.Roles.{RoleText}
use Rattle.brisk_syntax.specs.Syntax.{Expression, Statement, Assign, Send, Recv, RecvAny, If, IfElse, While, For, Repeat, Code, done, ◌⨾◌}
use Rattle.brisk_syntax.specs.Tokens.{expression_tokens, list_tokens, name_tokens, statement_tokens, code_tokens}
use Rattle.brisk_syntax.specs.Typing.{is_among, is_set, is_single, HasKind}
use Rattle.brisk_syntax.specs.WellTyped.{globals, scope_in, is_partner, is_other_set, is_fresh, CanSend, CanReceive, IsWellTyped, IsCodeWellTyped}
use Rattle.brisk_types.specs.declared.fault.Rule.TheVariants.{Unknown, NotASet, NotSingle, SelfPartner, WrongCount}
use Rattle.brisk_types.specs.Expressions.{Meaning, wanted}
use Rattle.brisk_types.specs.Failures.{NoneFails, broken}
use Rattle.brisk_types.specs.Statements.{binder, partner_rule, set_rule, channel_rule, wanted_kinds, values, variables, received, statement, code}
use Rattle.brisk_types.proofs.Declaring.{new_binder, binder_new, is_declared}
use Rattle.brisk_types.proofs.Fresh.{not_when, when_not, both_false, fresh_distinct, all_fresh}
use Rattle.brisk_types.proofs.Indexes.{any_last}
use Rattle.brisk_types.proofs.Kinded.{within, not_broken, unbroken, there, of_kind, is_of_kind, values_have, have_values, variables_are, are_variables}
use Rattle.brisk_values.proofs.Changes.{neither}

-- ---- tests

partner_is : (a b c d : Bool) → (if a then None else if b then Some SelfPartner else if c then None else if d then Some NotSingle else Some Unknown) ≡ None → (a || (c && not b)) ≡ true
partner_is true b c d h = refl
partner_is false true c d h = cc
partner_is false false true d h = refl
partner_is false false false true h = cc
partner_is false false false false h = cc

is_partner_rule : (a b c d : Bool) → (a || (c && not b)) ≡ true → (if a then None else if b then Some SelfPartner else if c then None else if d then Some NotSingle else Some Unknown) ≡ None
is_partner_rule true b c d h = refl
is_partner_rule false true true d h = cc
is_partner_rule false true false d h = cc
is_partner_rule false false true d h = refl
is_partner_rule false false false d h = cc

set_is : (a b c : Bool) → (if a then Some SelfPartner else if b then None else if c then Some NotASet else Some Unknown) ≡ None → (b && not a) ≡ true
set_is true b c h = cc
set_is false true c h = refl
set_is false false true h = cc
set_is false false false h = cc

is_set_rule : (a b c : Bool) → (b && not a) ≡ true → (if a then Some SelfPartner else if b then None else if c then Some NotASet else Some Unknown) ≡ None
is_set_rule true true c h = cc
is_set_rule true false c h = cc
is_set_rule false true c h = refl
is_set_rule false false c h = cc

or_comm : (a b : Bool) → (a || b) ≡ (b || a)
or_comm true true = refl
or_comm true false = refl
or_comm false true = refl
or_comm false false = refl

-- ---- channels

counted : (ks : List Kind) (n : ℕ) (b : Bool) → nat_eq n (length ks) ≡ b → (if b then None else Some WrongCount) ≡ None → n ≡ length ks
counted ks n true e h = eqb-true n (length ks) e
counted ks n false e h = cc

channel_is : (o : Option (List Kind)) (n i : ℕ) → NoneFails (broken (channel_rule o n) i) → (ks : List Kind) × (o ≡ Some ks) × (n ≡ length ks)
channel_is None n i h = absurd h
channel_is (Some ks) n i h = (ks, refl, counted ks n (nat_eq n (length ks)) refl (not_broken (channel_rule (Some ks) n) i h))

is_channel : (o : Option (List Kind)) (ks : List Kind) (n i : ℕ) → o ≡ Some ks → n ≡ length ks → NoneFails (broken (channel_rule o n) i)
is_channel o ks n i e l =
    unbroken (channel_rule o n) i (ap (λ o. channel_rule o n) e ∙ ap (λ b. if b then None else Some WrongCount) (eq-eqb n (length ks) l))

-- ---- binders

-- the same names are in scope
abbrev pub Same : List Name → List Name → Type 0
Same binders scope = (n : Name) → is_among binders n ≡ is_among scope n

pub one_more : (binders scope : List Name) (v : Name) → Same binders scope → Same (binders ++ v ∷ []) (v ∷ scope)
one_more binders scope v h n = any_last (same_name n) binders v ∙ ap (λ b. b || same_name n v) (h n) ∙ or_comm (is_among scope n) (same_name n v)

module _ (P : Program) (r : RoleText) where
  abbrev M : Meaning
  M = within P r.name (kind_in r.decls)

  fresh_parts : (scope : List Name) (v : Name) → is_among (scope ++ map variable_of r.decls ++ globals P) v ≡ ((is_among scope v || is_some (kind_in r.decls v)) || is_among (globals P) v)
  fresh_parts scope v =
      list_any-append (same_name v) (scope ++ map variable_of r.decls) (globals P)
      ∙ ap (λ b. b || is_among (globals P) v) (list_any-append (same_name v) scope (map variable_of r.decls) ∙ ap (λ b. is_among scope v || b) (sym (is_declared r.decls v)))

  fresh_is : (binders scope : List Name) → Same binders scope → (i : ℕ) (v : Name) → NoneFails (binder M binders i v) → is_fresh P r scope v ≡ true
  fresh_is binders scope e i v h =
      let parts = new_binder P r.name (kind_in r.decls) binders i v h in
      ap not (fresh_parts scope v ∙ both_false (is_among scope v || is_some (kind_in r.decls v)) (is_among (globals P) v) (both_false (is_among scope v) (is_some (kind_in r.decls v)) (sym (e v) ∙ parts.0) parts.1) parts.2)

  is_fresh_binder : (binders scope : List Name) → Same binders scope → (i : ℕ) (v : Name) → is_fresh P r scope v ≡ true → NoneFails (binder M binders i v)
  is_fresh_binder binders scope e i v h =
      let all = neither (is_among scope v || is_some (kind_in r.decls v)) (is_among (globals P) v) (sym (fresh_parts scope v) ∙ not-true (is_among (scope ++ map variable_of r.decls ++ globals P) v) h) in
      let two = neither (is_among scope v) (is_some (kind_in r.decls v)) all.0 in
      binder_new P r.name (kind_in r.decls) binders i v (e v ∙ two.0) two.1 all.1

  -- ---- partners and sets

  partner : (binders scope : List Name) → Same binders scope → (i : ℕ) (u : Who) → NoneFails (broken (partner_rule M binders u) i) → is_partner P r scope u ≡ true
  partner binders scope e i (who.Name n) h =
      ap (λ b. b || (is_single P.roles n && not (same_name n r.name))) (sym (e n))
      ∙ partner_is (is_among binders n) (same_name n r.name) (is_single P.roles n) (is_set P.roles n) (not_broken (partner_rule M binders (who.Name n)) i h)
  partner binders scope e i (who.At n) h = absurd h
  partner binders scope e i (who.Pid p) h = absurd h

  a_partner : (binders scope : List Name) → Same binders scope → (i : ℕ) (u : Who) → is_partner P r scope u ≡ true → NoneFails (broken (partner_rule M binders u) i)
  a_partner binders scope e i (who.Name n) h =
      unbroken (partner_rule M binders (who.Name n)) i (is_partner_rule (is_among binders n) (same_name n r.name) (is_single P.roles n) (is_set P.roles n) (ap (λ b. b || (is_single P.roles n && not (same_name n r.name))) (e n) ∙ h))
  a_partner binders scope e i (who.At n) h = cc
  a_partner binders scope e i (who.Pid p) h = cc

  other_set : (i : ℕ) (s : Name) → NoneFails (broken (set_rule M s) i) → is_other_set P r s ≡ true
  other_set i s h = set_is (same_name s r.name) (is_set P.roles s) (is_single P.roles s) (not_broken (set_rule M s) i h)

  an_other_set : (i : ℕ) (s : Name) → is_other_set P r s ≡ true → NoneFails (broken (set_rule M s) i)
  an_other_set i s h = unbroken (set_rule M s) i (is_set_rule (same_name s r.name) (is_set P.roles s) (is_single P.roles s) h)

  -- ---- messages

  can_send : (i j : ℕ) (c : Name) (es : List Expression) → NoneFails (broken (channel_rule (kinds_on P.channels c) (length es)) i) → NoneFails (values M j es (wanted_kinds (kinds_on P.channels c))) → CanSend P r c es
  can_send i j c es h g =
      let known = channel_is (kinds_on P.channels c) (length es) i h in
      (known.0, known.1, values_have P r.name r.decls j es known.0 known.2 (subst (λ (o : Option (List Kind)). NoneFails (values M j es (wanted_kinds o))) known.1 g))

  send_can : (i j : ℕ) (c : Name) (es : List Expression) → CanSend P r c es → NoneFails (broken (channel_rule (kinds_on P.channels c) (length es)) i) × NoneFails (values M j es (wanted_kinds (kinds_on P.channels c)))
  send_can i j c es h =
      let all = have_values P r.name r.decls j es h.0 h.2 in
      (is_channel (kinds_on P.channels c) h.0 (length es) i h.1 all.1, subst (λ (o : Option (List Kind)). NoneFails (values M j es (wanted_kinds o))) (sym h.1) all.0)

  can_receive : (i : ℕ) (c : Name) (xs : List Name) → NoneFails (received M i c xs) → CanReceive P r c xs
  can_receive i c xs h =
      let known = channel_is (kinds_on P.channels c) (length xs) (i + 1) h.0 in
      let all = variables_are P r.name r.decls [] (i + 3) xs known.0 known.2 (subst (λ (o : Option (List Kind)). NoneFails (variables M [] (i + 3) xs (wanted_kinds o))) known.1 h.1) in
      (known.0, known.1, all.0, (fresh_distinct [] xs all.1).0)

  receive_can : (i : ℕ) (c : Name) (xs : List Name) → CanReceive P r c xs → NoneFails (received M i c xs)
  receive_can i c xs h =
      let all = are_variables P r.name r.decls [] (i + 3) xs h.0 h.2 (all_fresh xs h.3) in
      (is_channel (kinds_on P.channels c) h.0 (length xs) (i + 1) h.1 all.1, subst (λ (o : Option (List Kind)). NoneFails (variables M [] (i + 3) xs (wanted_kinds o))) (sym h.1) all.0)

  guarded : (i : ℕ) (e : Expression) → NoneFails (wanted M (Some kind.Bool) i e) → HasKind (scope_in P r) e kind.Bool
  guarded i e h = of_kind P r.name r.decls kind.Bool i e h

  guards : (i : ℕ) (e : Expression) → HasKind (scope_in P r) e kind.Bool → NoneFails (wanted M (Some kind.Bool) i e)
  guards i e h = is_of_kind P r.name r.decls kind.Bool (Some kind.Bool) i e refl h

  -- ---- statements

  mutual
    stated : (binders scope : List Name) → Same binders scope → (i : ℕ) (s : Statement) → NoneFails (statement M binders i s) → IsWellTyped P r scope s
    stated binders scope e i (Assign x a) h =
        let known = there (kind_in r.decls x) (not_when (is_none (kind_in r.decls x)) Unknown i h.0) in
        (known.0, known.1, of_kind P r.name r.decls known.0 (i + 2) a (subst (λ (o : Option Kind). NoneFails (wanted M o (i + 2) a)) known.1 h.1))
    stated binders scope e i (Send c es u) h = (can_send (i + 1) (i + 3) c es h.0 h.1.0, partner binders scope e (i + 3 + list_tokens es + 2) u h.1.1)
    stated binders scope e i (Recv c xs u) h = (can_receive i c xs h.0, partner binders scope e (i + 3 + name_tokens xs + 2) u h.1)
    stated binders scope e i (RecvAny c xs v s b) h = (
      can_receive i c xs h.0,
      other_set (i + 3 + name_tokens xs + 3 + 2) s h.1.0.1,
      fresh_is binders scope e (i + 3 + name_tokens xs + 3) v h.1.0.0,
      coded (binders ++ v ∷ []) (v ∷ scope) (one_more binders scope v e) (i + 3 + name_tokens xs + 3 + 4) b h.1.1,
    )
    stated binders scope e i (If a b) h = (guarded (i + 1) a h.0, coded binders scope e (i + 1 + expression_tokens a + 1) b h.1)
    stated binders scope e i (IfElse a b d) h = (
      guarded (i + 1) a h.0,
      coded binders scope e (i + 1 + expression_tokens a + 1) b h.1.0,
      coded binders scope e (i + 1 + expression_tokens a + 1 + code_tokens b + 3) d h.1.1,
    )
    stated binders scope e i (While a b) h = (guarded (i + 1) a h.0, coded binders scope e (i + 1 + expression_tokens a + 1) b h.1)
    stated binders scope e i (For v s k b) h = (
      other_set (i + 1 + 2) s h.0.1,
      fresh_is binders scope e (i + 1) v h.0.0,
      coded (binders ++ v ∷ []) (v ∷ scope) (one_more binders scope v e) (i + 1 + 4) b h.1,
    )
    stated binders scope e i (Repeat s k b) h = (other_set (i + 1) s h.0, coded binders scope e (i + 3) b h.1)

    pub coded : (binders scope : List Name) → Same binders scope → (i : ℕ) (b : Code) → NoneFails (code M binders i b) → IsCodeWellTyped P r scope b
    coded binders scope e i done h = tt
    coded binders scope e i (s ⨾ b) h = (stated binders scope e i s h.0, coded binders scope e (i + statement_tokens s) b h.1)

  mutual
    states : (binders scope : List Name) → Same binders scope → (i : ℕ) (s : Statement) → IsWellTyped P r scope s → NoneFails (statement M binders i s)
    states binders scope e i (Assign x a) h =
        (when_not (is_none (kind_in r.decls x)) Unknown i (ap is_none h.1), is_of_kind P r.name r.decls h.0 (kind_in r.decls x) (i + 2) a h.1 h.2)
    states binders scope e i (Send c es u) h =
        let all = send_can (i + 1) (i + 3) c es h.0 in
        (all.0, (all.1, a_partner binders scope e (i + 3 + list_tokens es + 2) u h.1))
    states binders scope e i (Recv c xs u) h = (receive_can i c xs h.0, a_partner binders scope e (i + 3 + name_tokens xs + 2) u h.1)
    states binders scope e i (RecvAny c xs v s b) h = (
      receive_can i c xs h.0,
      (
        (is_fresh_binder binders scope e (i + 3 + name_tokens xs + 3) v h.2, an_other_set (i + 3 + name_tokens xs + 3 + 2) s h.1),
        codes (binders ++ v ∷ []) (v ∷ scope) (one_more binders scope v e) (i + 3 + name_tokens xs + 3 + 4) b h.3,
      ),
    )
    states binders scope e i (If a b) h = (guards (i + 1) a h.0, codes binders scope e (i + 1 + expression_tokens a + 1) b h.1)
    states binders scope e i (IfElse a b d) h = (
      guards (i + 1) a h.0,
      (
        codes binders scope e (i + 1 + expression_tokens a + 1) b h.1,
        codes binders scope e (i + 1 + expression_tokens a + 1 + code_tokens b + 3) d h.2,
      ),
    )
    states binders scope e i (While a b) h = (guards (i + 1) a h.0, codes binders scope e (i + 1 + expression_tokens a + 1) b h.1)
    states binders scope e i (For v s k b) h = (
      (is_fresh_binder binders scope e (i + 1) v h.1, an_other_set (i + 1 + 2) s h.0),
      codes (binders ++ v ∷ []) (v ∷ scope) (one_more binders scope v e) (i + 1 + 4) b h.2,
    )
    states binders scope e i (Repeat s k b) h = (an_other_set (i + 1) s h.0, codes binders scope e (i + 3) b h.1)

    pub codes : (binders scope : List Name) → Same binders scope → (i : ℕ) (b : Code) → IsCodeWellTyped P r scope b → NoneFails (code M binders i b)
    codes binders scope e i done h = tt
    codes binders scope e i (s ⨾ b) h = (states binders scope e i s h.0, codes binders scope e (i + statement_tokens s) b h.1)
