-- The program of a derivation is well typed.
use Rattle.std.proofs.Common.{◌≡◌, Bool, true, false, List, [], ◌∷◌, ◌++◌, map, Option, Some, None, refl, sym, ap, ◌∙◌, subst}
use Rattle.std.specs.List.{AllByRecursion}
use Rattle.std.specs.Prelude.{if◌then◌else◌, ◌&&◌, ◌||◌, not}
use Rattle.std.proofs.lemmas.Option.{same_Some}
use Rattle.brisk_values.specs.declared.operation.Op1.TheVariants.{Neg, Not}
use Rattle.brisk_values.specs.declared.operation.Op2.TheVariants.{Add, Sub, Mul, Eq, Ne, Lt, Le, Gt, Ge, And, Or}
use Rattle.brisk_values.specs.declared.value.Kind.{Kind}
use Rattle.brisk_values.specs.declared.value.Kind.TheVariants as kind
use Rattle.brisk_values.specs.Names.{Name, same_name}
use Rattle.brisk_values.proofs.Changes.{name_laws, both_true}
use Rattle.brisk_syntax.specs.declared.program.Decl.{Decl}
use Rattle.brisk_syntax.specs.declared.program.Program.{Program}
use Rattle.brisk_syntax.specs.declared.tree.Who.{Who}
use Rattle.brisk_syntax.specs.Declarations.{role_named, decls_of, variable_of}
use Rattle.brisk_syntax.specs.Roles.{RoleText}
use Rattle.brisk_syntax.specs.Syntax.{Expression, Num, Truth, Var, Tag, Size, Paren, Un, Bin, Statement, Code}
use Rattle.brisk_syntax.specs.Syntax as syntax
use Rattle.brisk_syntax.specs.Typing.{is_among, are_distinct, is_set, is_single, Scope, scope, HasKind, HaveKinds, AreDeclared, global_names, AreDeclsWellTyped}
use Rattle.brisk_syntax.specs.WellTyped.{IsRoleWellTyped, IsProgramWellTyped}
use Rattle.brisk_syntax.specs.WellTyped as program
use Rattle.brisk_seq.specs.declared.tree.SeqProgram.{SeqProgram}
use Rattle.brisk_seq.specs.Items.{Item, Items, nothing, ◌⨟◌, ◌followed_by◌}
use Rattle.brisk_seq.specs.WellTyped.{is_process, decls_at, scope_at, CanFocus, AreItemsWellTyped, globals, IsSeqWellTyped}
use Rattle.brisk_state.specs.declared.thread.Mode.{Mode}
use Rattle.brisk_state.specs.declared.thread.Mode.TheVariants.{One, At, Each}
use Rattle.brisk_state.specs.Symbolic.{Symbolic, initial}
use Rattle.brisk_basic.specs.declared.rule.Basic.{Basic}
use Rattle.brisk_basic.specs.Basic.{Applied}
use Rattle.brisk_derivation.specs.Steps.{Step, Steps}
use Rattle.brisk_rules.specs.Derives.{items_in, rule_of, without_code, sequential}
use Rattle.brisk_sound.specs.Laws.{ValidIsWellTyped}
use Rattle.brisk_sound.proofs.Applied.{Applies, assigns, fills, takes, passes, knows_if, knows_while}
use Rattle.brisk_sound.proofs.Control.{sides}
use Rattle.brisk_rules.specs.Following.{Follow, nothing_follows}
use Rattle.brisk_sound.proofs.Derives.{Takes_step, by_rule, by_branch, by_while, by_repeat, by_for, by_gather, by_pick, Takes_steps, ended, next}
use Rattle.brisk_sound.proofs.Branch.{parts}
use Rattle.brisk_sound.proofs.Fine.{FineStatement, scope_of}
use Rattle.brisk_sound.proofs.Kept.{AllFine, decls_by, fine_first}
use Rattle.brisk_sound.proofs.Middle.{focused}
use Rattle.brisk_sound.proofs.Outcomes.{steps_come}
use Rattle.brisk_rules.proofs.Readings.{Reading, reading, is_active, stands_by}
use Rattle.brisk_sound.proofs.Starts.{role_mode, first_mode, first_tidy}
use Rattle.brisk_sound.proofs.Top.{stripped, same_decls, valid_is}
use Rattle.std.proofs.Math.Bool.{or-true}
use Rattle.std.proofs.lemmas.Bool.{not-true}
use Rattle.brisk_syntax.proofs.Codes.{distinct_later}

-- the sets among roles are the sets among roles without their codes
stripped_set : (roles : List RoleText) (s : Name) → is_set (map without_code roles) s ≡ is_set roles s
stripped_set [] s = refl
stripped_set (r ∷ rs) s = ap (λ b. (same_name s r.name && r.many) || b) (stripped_set rs s)

stripped_single : (roles : List RoleText) (s : Name) → is_single (map without_code roles) s ≡ is_single roles s
stripped_single [] s = refl
stripped_single (r ∷ rs) s = ap (λ b. (same_name s r.name && not r.many) || b) (stripped_single rs s)

module _ (P : Program) (ds : List Decl) where
  abbrev before : Scope
  before = scope_of P ds

  abbrev after : Scope
  after = scope P.enums (map without_code P.roles) ds

  -- expressions have the same kinds
  kind_stripped : (e : Expression) (k : Kind) → HasKind before e k → HasKind after e k
  kind_stripped (Num n) k h = h
  kind_stripped (Truth b) k h = h
  kind_stripped (Var x) k h = h
  kind_stripped (Tag e t) k h = h
  kind_stripped (Size s) k h = (h.0, stripped_set P.roles s ∙ h.1)
  kind_stripped (Paren e) k h = kind_stripped e k h
  kind_stripped (Un Neg e) k h = (h.0, kind_stripped e kind.Int h.1)
  kind_stripped (Un Not e) k h = (h.0, kind_stripped e kind.Bool h.1)
  kind_stripped (Bin Add e f) k h = (h.0, kind_stripped e kind.Int h.1, kind_stripped f kind.Int h.2)
  kind_stripped (Bin Sub e f) k h = (h.0, kind_stripped e kind.Int h.1, kind_stripped f kind.Int h.2)
  kind_stripped (Bin Mul e f) k h = (h.0, kind_stripped e kind.Int h.1, kind_stripped f kind.Int h.2)
  kind_stripped (Bin And e f) k h = (h.0, kind_stripped e kind.Bool h.1, kind_stripped f kind.Bool h.2)
  kind_stripped (Bin Or e f) k h = (h.0, kind_stripped e kind.Bool h.1, kind_stripped f kind.Bool h.2)
  kind_stripped (Bin Eq e f) k h = (h.0, h.1, kind_stripped e h.1 h.2, kind_stripped f h.1 h.3)
  kind_stripped (Bin Ne e f) k h = (h.0, h.1, kind_stripped e h.1 h.2, kind_stripped f h.1 h.3)
  kind_stripped (Bin Lt e f) k h = (h.0, kind_stripped e kind.Int h.1, kind_stripped f kind.Int h.2)
  kind_stripped (Bin Le e f) k h = (h.0, kind_stripped e kind.Int h.1, kind_stripped f kind.Int h.2)
  kind_stripped (Bin Gt e f) k h = (h.0, kind_stripped e kind.Int h.1, kind_stripped f kind.Int h.2)
  kind_stripped (Bin Ge e f) k h = (h.0, kind_stripped e kind.Int h.1, kind_stripped f kind.Int h.2)

  kinds_stripped : (es : List Expression) (ks : List Kind) → HaveKinds before es ks → HaveKinds after es ks
  kinds_stripped [] [] h = h
  kinds_stripped [] (k ∷ ks) h = h
  kinds_stripped (e ∷ es) [] h = h
  kinds_stripped (e ∷ es) (k ∷ ks) h = (kind_stripped e k h.0, kinds_stripped es ks h.1)

-- the modes of threads, where these sets are in focus
record InFocus (Q : SeqProgram) (focus : List Name) (mode : Name → Option Mode) : Type 0 where
  active : (t : Name) → is_active (mode t) ≡ true → is_process Q focus t ≡ true
  each : (s : Name) → mode s ≡ Some Each → CanFocus Q focus s

module _ (P : Program) (X : Items) where
  abbrev Q : SeqProgram
  Q = sequential P X

  decls_is : (t : Name) → decls_by P t ≡ decls_at Q t
  decls_is t = sym (ap decls_of (stripped P.roles t) ∙ same_decls (role_named P.roles t))

  has_kind : (t : Name) (e : Expression) (k : Kind) → HasKind (scope_of P (decls_by P t)) e k → HasKind (scope_at Q t) e k
  has_kind t e k h = subst (λ (ds : List Decl). HasKind (scope P.enums Q.roles ds) e k) (decls_is t) (kind_stripped P (decls_by P t) e k h)

  have_kinds : (t : Name) (es : List Expression) (ks : List Kind) → HaveKinds (scope_of P (decls_by P t)) es ks → HaveKinds (scope_at Q t) es ks
  have_kinds t es ks h = subst (λ (ds : List Decl). HaveKinds (scope P.enums Q.roles ds) es ks) (decls_is t) (kinds_stripped P (decls_by P t) es ks h)

  are_declared : (t : Name) (xs : List Name) (ks : List Kind) → AreDeclared (decls_by P t) xs ks → AreDeclared (decls_at Q t) xs ks
  are_declared t xs ks h = subst (λ (ds : List Decl). AreDeclared ds xs ks) (decls_is t) h

  sets : (s : Name) → is_set P.roles s ≡ true → is_set Q.roles s ≡ true
  sets s h = stripped_set P.roles s ∙ h

  appended : (focus : List Name) (Y Z : Items) → AreItemsWellTyped Q focus Y → AreItemsWellTyped Q focus Z → AreItemsWellTyped Q focus (Y followed_by Z)
  appended focus nothing Z y z = z
  appended focus (q ⨟ Y) Z y z = (y.0, appended focus Y Z y.1 z)

  -- a partner is a process
  stands_process : (focus : List Name) (mode : Name → Option Mode) (u : Name) (w : Who) → InFocus Q focus mode → stands_by (mode u) u w ≡ true → is_process Q focus u ≡ true
  stands_process focus mode u w f h = f.active u (by (mode u) w h)
    where
      by : (m : Option Mode) (w : Who) → stands_by m u w ≡ true → is_active m ≡ true
      by (Some One) w h = refl
      by (Some At) w h = refl
      by (Some Each) w h = cc
      by None w h = cc

  -- a set comes into focus
  more_focus : (focus : List Name) (mode : Name → Option Mode) (s : Name) → InFocus Q focus mode → InFocus Q (s ∷ focus) (focused mode s)
  more_focus focus mode s f = record {
    active = λ t a.
        elim (same_name s t) as (λ b. same_name s t ≡ b → is_active (if b then Some At else mode t) ≡ true → (is_single Q.roles t || (same_name t s || is_among focus t)) ≡ true) [
          | true ↦ λ e g. (λ i. is_single Q.roles t || ((name_laws.symm t s ∙ e) i || is_among focus t)) ∙ or-true (is_single Q.roles t)
          | false ↦ λ e g. (λ i. is_single Q.roles t || ((name_laws.symm t s ∙ e) i || is_among focus t)) ∙ f.active t g
        ] refl a;
    each = λ r a.
        elim (same_name s r) as (λ b. same_name s r ≡ b → (if b then Some At else mode r) ≡ Some Each → (is_set Q.roles r ≡ true) × ((same_name r s || is_among focus r) ≡ false)) [
          | true ↦ λ e g. cc
          | false ↦ λ e g. let h = f.each r g in (h.0, (λ i. (name_laws.symm r s ∙ e) i || is_among focus r) ∙ h.1)
        ] refl a;
  }

  same_focus : (focus : List Name) (mode mode' : Name → Option Mode) → mode' ≡ mode → InFocus Q focus mode → InFocus Q focus mode'
  same_focus focus mode mode' e f = subst (InFocus Q focus) (sym e) f

  -- the guard of an if
  guard_kind : (ds : List Decl) (s : Statement) (e : Expression) (a b : Code) → sides s ≡ Some (e, a, b) → FineStatement P ds s → HasKind (scope_of P ds) e kind.Bool
  guard_kind ds (syntax.If e' a') e a b h f = subst (λ (z : Expression). HasKind (scope_of P ds) z kind.Bool) (parts (e', a', syntax.done) (e, a, b) h).0 f.0
  guard_kind ds (syntax.IfElse e' a' b') e a b h f = subst (λ (z : Expression). HasKind (scope_of P ds) z kind.Bool) (parts (e', a', b') (e, a, b) h).0 f.0
  guard_kind ds s e a b h f = cc

  -- the first statement of a thread
  head_fine : (code : Name → Code) (t : Name) (s : Statement) (k : Code) → AllFine P code → code t ≡ syntax.◌⨾◌ s k → FineStatement P (decls_by P t) s
  head_fine code t s k f is = (fine_first P (decls_by P t) t code s k is (f t)).0

  rule_typed : (focus : List Name) (S : Symbolic) (r : Applied) (b : Basic) → InFocus Q focus (reading S).mode → AllFine P (reading S).code → Applies S r b → AreItemsWellTyped Q focus (items_in r.statement)
  rule_typed focus S r _ f fine (assigns t x e k act is q n named) =
      let h = head_fine (reading S).code t (syntax.Assign x e) k fine is in let p = f.active t act in
      subst (λ (o : Option Item). AreItemsWellTyped Q focus (items_in o)) (sym q)
      ((p, p, refl, h.0 ∷ [], are_declared t (x ∷ []) (h.0 ∷ []) (h.1, tt), have_kinds t (e ∷ []) (h.0 ∷ []) (h.2, tt)), tt)
  rule_typed focus S r _ f fine (fills t u C j es w k act is stands unused q n named) =
      let h = head_fine (reading S).code t (syntax.Send C es w) k fine is in
      subst (λ (o : Option Item). AreItemsWellTyped Q focus (items_in o)) (sym q)
      ((f.active t act, stands_process focus (reading S).mode u w f stands, (h.0, have_kinds t es h.0 h.2)), tt)
  rule_typed focus S r _ f fine (takes t u C j ns xs w k act is stands pends q n named) =
      let h = head_fine (reading S).code u (syntax.Recv C xs w) k fine is in
      subst (λ (o : Option Item). AreItemsWellTyped Q focus (items_in o)) (sym q)
      ((f.active u act, stands_process focus (reading S).mode t w f stands, ((h.0, are_declared u xs h.0 h.2), h.3)), tt)
  rule_typed focus S r _ f fine (passes t u C es w k xs w' k' act act' is stands is' stands' empty q n named) =
      let h = head_fine (reading S).code t (syntax.Send C es w) k fine is in let g = head_fine (reading S).code u (syntax.Recv C xs w') k' fine is' in
      let same : g.0 ≡ h.0 = same_Some g.0 h.0 (sym g.1 ∙ h.1) in
      subst (λ (o : Option Item). AreItemsWellTyped Q focus (items_in o)) (sym q)
      ((f.active u act', f.active t act, g.3, h.0, are_declared u xs h.0 (subst (AreDeclared (decls_by P u) xs) same g.2), have_kinds t es h.0 h.2), tt)
  rule_typed focus S r _ f fine (knows_if t s e a b rest v act is two g q n named) = subst (λ (o : Option Item). AreItemsWellTyped Q focus (items_in o)) (sym q) tt
  rule_typed focus S r _ f fine (knows_while t e b rest v act is g q n named) = subst (λ (o : Option Item). AreItemsWellTyped Q focus (items_in o)) (sym q) tt

  mutual
    step_typed : (focus : List Name) (F : Follow) (A : Step) (S : Symbolic) (Y : Items) (S' : Symbolic) → InFocus Q focus (reading S).mode → AllFine P (reading S).code → Takes_step P F A S Y S' → AreItemsWellTyped Q focus Y
    step_typed focus _ _ _ _ _ f fine (by_rule V b S r h p) = rule_typed focus S r (rule_of b) f fine h
    step_typed focus _ _ _ _ _ f fine (by_branch V t A B S start start' E F S' Y Z guard k y z) = (
      (
        f.active t k.active,
        has_kind t guard kind.Bool (guard_kind (decls_by P t) k.statement guard k.first k.second k.two (head_fine (reading S).code t k.statement k.rest fine k.is)),
        steps_typed focus V A start Y E (same_focus focus _ _ (ap (λ (z : Reading). z.mode) k.begins) f) y,
        steps_typed focus V B start' Z F (same_focus focus _ _ (ap (λ (z : Reading). z.mode) k.begins_second) f) z,
      ),
      tt,
    )
    step_typed focus _ _ _ _ _ f fine (by_while V V' t drops A S start E S' Y guard k y puts) =
        let g = same_focus focus _ _ k.weaker.mode f in let h = head_fine k.base.code t (syntax.While guard k.body) k.rest (subst (AllFine P) (sym k.weaker.code) fine) k.is in
        ((g.active t k.active, has_kind t guard kind.Bool h.0, steps_typed focus V' A start Y E (same_focus focus _ _ (ap (λ (z : Reading). z.mode) k.begins) g) y), tt)
    step_typed focus _ _ _ _ _ f fine (by_repeat V V' t drops A S start E S' Y s k y puts) =
        let g = same_focus focus _ _ k.weaker.mode f in let h = head_fine k.base.code t (syntax.Repeat s 0 k.body) k.rest (subst (AllFine P) (sym k.weaker.code) fine) k.is in
        ((sets s h.0, steps_typed focus V' A start Y E (same_focus focus _ _ (ap (λ (z : Reading). z.mode) k.begins) g) y), tt)
    step_typed focus _ _ _ _ _ f fine (by_for V V' s ts drops A S start E S' Y k y puts) =
        let g = same_focus focus _ _ k.weaker.mode f in
        ((g.each s k.entry.set, steps_typed (s ∷ focus) V' A start Y E (same_focus (s ∷ focus) _ _ (ap (λ (z : Reading). z.mode) k.begins) (more_focus focus k.base.mode s g)) y), tt)
    step_typed focus _ _ _ _ _ f fine (by_gather V V' t drops A S start E S' Y a k y puts) =
        let g = same_focus focus _ _ k.weaker.mode f in
        ((g.each a.set k.entry.set, steps_typed (a.set ∷ focus) V' A start Y E (same_focus (a.set ∷ focus) _ _ (ap (λ (z : Reading). z.mode) k.begins) (more_focus focus k.base.mode a.set g)) y), tt)
    step_typed focus _ _ _ _ _ f fine (by_pick V V' t drops A S start E S' Y a nonempty k y puts) =
        let g = same_focus focus _ _ k.weaker.mode f in
        ((g.each a.set k.entry.set, steps_typed (a.set ∷ focus) V' A start Y E (same_focus (a.set ∷ focus) _ _ (ap (λ (z : Reading). z.mode) k.begins) (more_focus focus k.base.mode a.set g)) y), tt)

    -- the items of a derivation are well typed where its sets are in focus
    steps_typed : (focus : List Name) (F : Follow) (D : Steps) (S : Symbolic) (Y : Items) (E : Symbolic) → InFocus Q focus (reading S).mode → Takes_steps P F D S Y E → AreItemsWellTyped Q focus Y
    steps_typed focus _ _ _ _ _ f (ended V S) = tt
    steps_typed focus _ _ _ _ _ f (next V A B S S' E Y Z tidy modes y z) =
        appended focus Y Z (step_typed focus V A S Y S' f tidy.fine y) (steps_typed focus V B S' Z E (same_focus focus _ _ modes f) z)

-- at first no set is in focus
role_single : (roles : List RoleText) (n : Name) → is_active (role_mode (role_named roles n)) ≡ true → is_single roles n ≡ true
role_single [] n e = cc
role_single (r ∷ rs) n e =
    elim (same_name n r.name) as (λ b. same_name n r.name ≡ b → is_active (role_mode (if b then Some r else role_named rs n)) ≡ true → ((b && not r.many) || is_single rs n) ≡ true) [
      | true ↦ λ h g. elim r.many as (λ m. is_active (Some (if m then Each else One)) ≡ true → (not m || is_single rs n) ≡ true) [ true ↦ λ k. cc | false ↦ λ k. refl ] g
      | false ↦ λ h g. role_single rs n g
    ] refl e

role_set : (roles : List RoleText) (n : Name) → role_mode (role_named roles n) ≡ Some Each → is_set roles n ≡ true
role_set [] n e = cc
role_set (r ∷ rs) n e =
    elim (same_name n r.name) as (λ b. same_name n r.name ≡ b → role_mode (if b then Some r else role_named rs n) ≡ Some Each → ((b && r.many) || is_set rs n) ≡ true) [
      | true ↦ λ h g. elim r.many as (λ m. Some (if m then Each else One) ≡ Some Each → (m || is_set rs n) ≡ true) [ true ↦ λ k. refl | false ↦ λ k. cc ] g
      | false ↦ λ h g. role_set rs n g
    ] refl e

none_in_focus : (P : Program) (X : Items) → InFocus (sequential P X) [] (reading (initial P)).mode
none_in_focus P X = record {
  active = λ t a. (λ i. (stripped_single P.roles t ∙ role_single P.roles t (ap is_active (sym (first_mode P t)) ∙ a)) i || false);
  each = λ s e. (stripped_set P.roles s ∙ role_set P.roles s (sym (first_mode P s) ∙ e), refl);
}

-- names among some of three lists
among-append : (xs ys : List Name) (n : Name) → is_among (xs ++ ys) n ≡ (is_among xs n || is_among ys n)
among-append [] ys n = refl
among-append (x ∷ xs) ys n = ap (λ b. same_name n x || b) (among-append xs ys n) ∙ grouped (same_name n x) (is_among xs n) (is_among ys n)
  where
    grouped : (a b c : Bool) → (a || (b || c)) ≡ ((a || b) || c)
    grouped true b c = refl
    grouped false b c = refl

fewer_among : (xs ys zs : List Name) (n : Name) → is_among ((xs ++ ys) ++ zs) n ≡ false → is_among ((xs ++ []) ++ zs) n ≡ false
fewer_among xs ys zs n e =
    among-append (xs ++ []) zs n ∙ (λ i. among-append xs [] n i || is_among zs n)
    ∙ by (is_among xs n) (is_among ys n) (is_among zs n) ((λ i. sym (among-append xs ys n) i || is_among zs n) ∙ sym (among-append (xs ++ ys) zs n) ∙ e)
  where
    by : (a b c : Bool) → ((a || b) || c) ≡ false → ((a || false) || c) ≡ false
    by true b c e = cc
    by false true c e = cc
    by false false c e = e

fewer_distinct : (xs ys zs : List Name) → are_distinct ((xs ++ ys) ++ zs) ≡ true → are_distinct ((xs ++ []) ++ zs) ≡ true
fewer_distinct [] ys zs e = distinct_later ys zs e
fewer_distinct (x ∷ xs) ys zs e =
    let h = both_true (not (is_among ((xs ++ ys) ++ zs) x)) (are_distinct ((xs ++ ys) ++ zs)) e in
    λ i. not (fewer_among xs ys zs x (not-true _ h.0) i) && fewer_distinct xs ys zs h.1 i

-- the program of a derivation, whatever its items
module _ (P : Program) (typed : IsProgramWellTyped P) (X : Items) where
  names_is : (roles : List RoleText) → map (λ (r : RoleText). r.name) (map without_code roles) ≡ map (λ (r : RoleText). r.name) roles
  names_is [] = refl
  names_is (r ∷ rs) = ap (λ ns. r.name ∷ ns) (names_is rs)

  globals_is : globals (sequential P X) ≡ global_names P.enums [] P.roles
  globals_is = ap (λ ns. map (λ e. e.name) P.enums ++ [] ++ ns) (names_is P.roles)

  no_global : (ds : List Decl) → AllByRecursion (λ d. is_among (program.globals P) (variable_of d) ≡ false) ds → AllByRecursion (λ d. is_among (globals (sequential P X)) (variable_of d) ≡ false) ds
  no_global [] h = tt
  no_global (d ∷ ds) h =
      (ap (λ ns. is_among ns (variable_of d)) globals_is ∙ fewer_among (map (λ e. e.name) P.enums) (map (λ c. c.name) P.channels) (map (λ (r : RoleText). r.name) P.roles) (variable_of d) h.0, no_global ds h.1)

  roles_typed : (roles : List RoleText) → AllByRecursion (IsRoleWellTyped P) roles → AllByRecursion (λ r. AreDeclsWellTyped P.enums (globals (sequential P X)) r.decls) (map without_code roles)
  roles_typed [] h = tt
  roles_typed (r ∷ rs) h = (record { each = h.0.decls.each; apart = h.0.decls.apart; no_global = no_global r.decls h.0.decls.no_global }, roles_typed rs h.1)

  pub program_typed : (D : Steps) (E : Symbolic) → Takes_steps P nothing_follows D (initial P) X E → IsSeqWellTyped (sequential P X)
  program_typed D E steps = record {
    names = ap are_distinct globals_is ∙ fewer_distinct (map (λ e. e.name) P.enums) (map (λ c. c.name) P.channels) (map (λ (r : RoleText). r.name) P.roles) typed.names;
    tags = typed.tags;
    roles = roles_typed P.roles typed.roles;
    body = steps_typed P X [] nothing_follows D (initial P) X E (none_in_focus P X) steps;
  }

pub well_typed : ValidIsWellTyped
well_typed P D Q typed valid =
    let v = valid_is P D Q valid in
    let x = steps_come P 0 nothing_follows D 2 (initial P) v.derived (first_tidy P typed) v.derives in
    subst IsSeqWellTyped v.program (program_typed P typed v.derived.items D v.derived.state x.takes)
