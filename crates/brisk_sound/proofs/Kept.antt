-- What a derivation keeps: the modes, that code keeps to its declarations, the members in focus that it doesn't name, one
-- pending message for each number, and the mail of each set to itself.
use Rattle.std.proofs.Common.{◌≡◌, ℕ, Bool, true, false, List, [], ◌∷◌, ◌++◌, Option, Some, None, refl, sym, ap, ◌∙◌, subst, nat_eq}
use Rattle.std.specs.Prelude.{if◌then◌else◌, ◌&&◌, ◌||◌}
use Rattle.std.proofs.lemmas.Bool.{eqb-true}
use Rattle.std.proofs.lemmas.Cmp.{nat_eq_equiv}
use Rattle.brisk_values.specs.declared.value.Value.{Value}
use Rattle.brisk_values.specs.Functions.{changed}
use Rattle.brisk_values.specs.Names.{Name, same_name}
use Rattle.brisk_values.proofs.Changes.{name_laws, exact_name, neither}
use Rattle.brisk_syntax.specs.declared.program.Decl.{Decl}
use Rattle.brisk_syntax.specs.declared.program.Program.{Program}
use Rattle.brisk_syntax.specs.declared.tree.Who.{Who}
use Rattle.brisk_syntax.specs.declared.tree.Who.TheVariants as who
use Rattle.brisk_syntax.specs.Declarations.{role_named, decls_of}
use Rattle.brisk_syntax.specs.Stores.{is_true}
use Rattle.brisk_syntax.specs.Substitution.{who_with, statement_with, code_with}
use Rattle.brisk_syntax.specs.Syntax.{Expression, Statement, Assign, Send, Recv, RecvAny, If, IfElse, While, For, Repeat, Code, done, ◌⨾◌, ◌then◌}
use Rattle.brisk_syntax.specs.Typing.{is_set}
use Rattle.brisk_state.specs.declared.thread.Mode.{Mode}
use Rattle.brisk_state.specs.declared.thread.Mode.TheVariants.{One, At, Each}
use Rattle.brisk_state.specs.Symbolic.{Key, key, same_key, Symbolic}
use Rattle.brisk_basic.specs.declared.rule.Basic.{Basic}
use Rattle.brisk_basic.specs.Basic.{Applied}
use Rattle.brisk_sound.proofs.Applied.{Applies, assigns, fills, takes, passes, knows_if, knows_while}
use Rattle.brisk_sound.proofs.Branch.{parts}
use Rattle.brisk_sound.proofs.Control.{Weaker, sides}
use Rattle.brisk_sound.proofs.Events.{Distinct, Unique, exact_key}
use Rattle.brisk_sound.proofs.Fine.{FineStatement, Fine, fine_then}
use Rattle.brisk_sound.proofs.Free.{FreeWho, FreeStatement, Free}
use Rattle.brisk_sound.proofs.Middle.{focused}
use Rattle.brisk_rules.proofs.Readings.{Reading, reading, has, stands_by}
use Rattle.std.proofs.Math.Bool.{or-true}

-- the declarations of a role by its name
abbrev pub decls_by : Program → Name → List Decl
decls_by P u = decls_of (role_named P.roles u)

-- each thread's code keeps to its declarations
abbrev pub AllFine : Program → (Name → Code) → Type 0
AllFine P code = (u : Name) → Fine P (decls_by P u) (code u)

pub record Kept (P : Program) (S S' : Reading) : Type 0 where
  pub mode : S'.mode ≡ S.mode
  pub fine : AllFine P S.code → AllFine P S'.code
  pub free : (s u : Name) → Free s (S.code u) → Free s (S'.code u)
  pub unique : Unique S.pending → Unique S'.pending
  pub inner : (s C : Name) → (S.mode s ≡ Some One → ⊥) → Free s (S.code s) → S'.pending (key s s C) ≡ S.pending (key s s C)

pub kept_then : (P : Program) (S S1 S2 : Reading) → Kept P S S1 → Kept P S1 S2 → Kept P S S2
kept_then P S S1 S2 a b = record {
  mode = b.mode ∙ a.mode;
  fine = λ f. b.fine (a.fine f);
  free = λ s u h. b.free s u (a.free s u h);
  unique = λ u. b.unique (a.unique u);
  inner = λ s C set h. b.inner s C (λ e. set (ap (λ (m : Name → Option Mode). m s) (sym a.mode) ∙ e)) (a.free s s h) ∙ a.inner s C set h;
}

-- two keys that are the same as a third are the same
same_as : (K k l : Key) → same_key K k ≡ true → same_key K l ≡ true → same_key k l ≡ true
same_as K k l e f = ap (λ z. same_key z l) (sym (exact_key K k e)) ∙ f

-- other code for one thread
free_changed : (code : Name → Code) (t : Name) (k : Code) (s u : Name) → (Free s (code t) → Free s k) → Free s (code u) → Free s (changed same_name code t k u)
free_changed code t k s u h f =
    elim (same_name t u) as (λ b. same_name t u ≡ b → Free s (if b then k else code u)) [
      | true ↦ λ e. h (subst (λ z. Free s (code z)) (sym (exact_name t u e)) f)
      | false ↦ λ e. f
    ] refl

pub fine_changed : (P : Program) (code : Name → Code) (t : Name) (k : Code) → ((ds : List Decl) → Fine P ds (code t) → Fine P ds k) → AllFine P code → AllFine P (changed same_name code t k)
fine_changed P code t k h f u =
    elim (same_name t u) as (λ b. same_name t u ≡ b → Fine P (decls_by P u) (if b then k else code u)) [
      | true ↦ λ e. h (decls_by P u) (subst (λ z. Fine P (decls_by P u) (code z)) (sym (exact_name t u e)) (f u))
      | false ↦ λ e. f u
    ] refl

pub free_then : (s : Name) (a b : Code) → Free s a → Free s b → Free s (a then b)
free_then s done b f g = g
free_then s (x ⨾ a) b f g = (f.0, free_then s a b f.1 g)

free_who : (s v r : Name) (u : Who) → same_name s r ≡ false → FreeWho s u → FreeWho s (who_with v (who.At r) u)
free_who s v r (who.Name n) d h = elim (same_name v n) as (λ b. FreeWho s (if b then who.At r else who.Name n)) [ true ↦ d | false ↦ tt ]
free_who s v r (who.At q) d h = h
free_who s v r (who.Pid p) d h = tt

mutual
  free_statement_with : (s v r : Name) (x : Statement) → same_name s r ≡ false → FreeStatement s x → FreeStatement s (statement_with v (who.At r) x)
  free_statement_with s v r (Assign x e) d h = tt
  free_statement_with s v r (Send c es u) d h = free_who s v r u d h
  free_statement_with s v r (Recv c xs u) d h = free_who s v r u d h
  free_statement_with s v r (RecvAny c xs w q b) d h = free_with s v r b d h
  free_statement_with s v r (If e a) d h = free_with s v r a d h
  free_statement_with s v r (IfElse e a b) d h = (free_with s v r a d h.0, free_with s v r b d h.1)
  free_statement_with s v r (While e b) d h = free_with s v r b d h
  free_statement_with s v r (For w q k b) d h = free_with s v r b d h
  free_statement_with s v r (Repeat q k b) d h = free_with s v r b d h

  -- a body in focus names its own set alone
  pub free_with : (s v r : Name) (k : Code) → same_name s r ≡ false → Free s k → Free s (code_with v (who.At r) k)
  free_with s v r done d h = tt
  free_with s v r (x ⨾ k) d h = (free_statement_with s v r x d h.0, free_with s v r k d h.1)

distinct-append : (ns : List ℕ) (n : ℕ) → Distinct ns → has n ns ≡ false → Distinct (ns ++ n ∷ [])
distinct-append [] n d h = (refl, tt)
distinct-append (m ∷ ns) n d h =
    let f = neither (nat_eq n m) (has n ns) h in
    (add ns d.0 (nat_eq_equiv.symm m n ∙ f.0), distinct-append ns n d.1 f.1)
  where
    add : (l : List ℕ) → has m l ≡ false → nat_eq m n ≡ false → has m (l ++ n ∷ []) ≡ false
    add [] a b = ap (λ t. t || false) b
    add (j ∷ l) a b = let g = neither (nat_eq m j) (has m l) a in ap (λ t. t || has m (l ++ n ∷ [])) g.0 ∙ add l g.1 b

has_in : (j n : ℕ) (ns : List ℕ) → has j ns ≡ false → nat_eq j n ≡ false → has j (ns ++ n ∷ []) ≡ false
has_in j n [] a b = ap (λ t. t || false) b
has_in j n (m ∷ ns) a b = let g = neither (nat_eq j m) (has j ns) a in ap (λ t. t || has j (ns ++ n ∷ [])) g.0 ∙ has_in j n ns g.1 b

unique_fill : (P : Key → List ℕ) (K : Key) (n : ℕ) → Unique P → ((k : Key) → has n (P k) ≡ false) → Unique (changed same_key P K (P K ++ n ∷ []))
unique_fill P K n u unused = record { distinct = distinct; apart = apart }
  where
    distinct : (k : Key) → Distinct (changed same_key P K (P K ++ n ∷ []) k)
    distinct k = elim (same_key K k) as (λ b. Distinct (if b then P K ++ n ∷ [] else P k)) [ true ↦ distinct-append (P K) n (u.distinct K) (unused K) | false ↦ u.distinct k ]

    apart : (j : ℕ) (k l : Key) → has j (changed same_key P K (P K ++ n ∷ []) k) ≡ true → same_key k l ≡ false → has j (changed same_key P K (P K ++ n ∷ []) l) ≡ false
    apart j k l h d =
        elim (same_key K l) as (λ b. same_key K l ≡ b → has j (if b then P K ++ n ∷ [] else P l) ≡ false) [
          | true ↦ λ e. elim (same_key K k) as (λ b. same_key K k ≡ b → has j (if b then P K ++ n ∷ [] else P k) ≡ true → has j (P K ++ n ∷ []) ≡ false) [
            | true ↦ λ g i. absurd (let x = same_as K k l g e in cc)
            | false ↦ λ g i. has_in j n (P K) (ap (λ z. has j (P z)) (exact_key K l e) ∙ u.apart j k l i d) (other j k i)
          ] refl h
          | false ↦ λ e. elim (same_key K k) as (λ b. same_key K k ≡ b → has j (if b then P K ++ n ∷ [] else P k) ≡ true → has j (P l) ≡ false) [
            | true ↦ λ g i. new j l e i
            | false ↦ λ g i. u.apart j k l i d
          ] refl h
        ] refl
      where
        other : (j : ℕ) (k : Key) → has j (P k) ≡ true → nat_eq j n ≡ false
        other j k i = elim (nat_eq j n) as (λ b. nat_eq j n ≡ b → b ≡ false) [ true ↦ λ e. (let x = ap (λ z. has z (P k)) (eqb-true j n e) in let y = unused k in cc) | false ↦ λ e. refl ] refl

        new : (j : ℕ) (l : Key) → same_key K l ≡ false → has j (P K ++ n ∷ []) ≡ true → has j (P l) ≡ false
        new j l e i =
            elim (has j (P K)) as (λ b. has j (P K) ≡ b → has j (P l) ≡ false) [
              | true ↦ λ g. u.apart j K l g e
              | false ↦ λ g. elim (nat_eq j n) as (λ b. nat_eq j n ≡ b → has j (P l) ≡ false) [
                | true ↦ λ f. ap (λ z. has z (P l)) (eqb-true j n f) ∙ unused l
                | false ↦ λ f. absurd (let x = has_in j n (P K) g f in cc)
              ] refl
            ] refl

unique_take : (P : Key → List ℕ) (K : Key) (n : ℕ) (ns : List ℕ) → Unique P → P K ≡ n ∷ ns → Unique (changed same_key P K ns)
unique_take P K n ns u e = record { distinct = distinct; apart = apart }
  where
    distinct : (k : Key) → Distinct (changed same_key P K ns k)
    distinct k = elim (same_key K k) as (λ b. Distinct (if b then ns else P k)) [ true ↦ (subst Distinct e (u.distinct K)).1 | false ↦ u.distinct k ]

    apart : (j : ℕ) (k l : Key) → has j (changed same_key P K ns k) ≡ true → same_key k l ≡ false → has j (changed same_key P K ns l) ≡ false
    apart j k l h d =
        elim (same_key K l) as (λ b. same_key K l ≡ b → has j (if b then ns else P l) ≡ false) [
          | true ↦ λ g. elim (same_key K k) as (λ b. same_key K k ≡ b → has j (if b then ns else P k) ≡ true → has j ns ≡ false) [
            | true ↦ λ f i. absurd (let x = same_as K k l f g in cc)
            | false ↦ λ f i. (neither (nat_eq j n) (has j ns) (ap (has j) (sym e) ∙ ap (λ z. has j (P z)) (exact_key K l g) ∙ u.apart j k l i d)).1
          ] refl h
          | false ↦ λ g. elim (same_key K k) as (λ b. same_key K k ≡ b → has j (if b then ns else P k) ≡ true → has j (P l) ≡ false) [
            | true ↦ λ f i. u.apart j K l (ap (has j) e ∙ ap (λ b. nat_eq j n || b) i ∙ or-true (nat_eq j n)) g
            | false ↦ λ f i. u.apart j k l i d
          ] refl h
        ] refl

-- a key of two threads isn't a set's key to itself
apart_inner : (P : Key → List ℕ) (t u C : Name) (ns : List ℕ) (s D : Name) → (same_name t s ≡ true → same_name u s ≡ true → ⊥) → changed same_key P (key t u C) ns (key s s D) ≡ P (key s s D)
apart_inner P t u C ns s D h =
    ap (λ b. if b then ns else P (key s s D)) (none (same_name t s) (same_name u s) (same_name C D) h)
  where
    none : (a b c : Bool) → (a ≡ true → b ≡ true → ⊥) → (a && b && c) ≡ false
    none true true c h = absurd (h refl refl)
    none true false c h = refl
    none false b c h = refl

-- no set sends to itself
no_self : (S : Reading) (t u s : Name) (w : Who) → (S.mode s ≡ Some One → ⊥) → same_name t s ≡ true → same_name u s ≡ true → stands_by (S.mode u) u w ≡ true → (Free s (S.code s) → FreeWho s w) → Free s (S.code s) → ⊥
no_self S t u s w set a b st fr h = own (S.mode u) refl w st (fr h)
  where
    u_is : u ≡ s
    u_is = exact_name u s b

    own : (m : Option Mode) → S.mode u ≡ m → (w : Who) → stands_by m u w ≡ true → FreeWho s w → ⊥
    own (Some One) e w st f = set (ap S.mode (sym u_is) ∙ e)
    own (Some At) e (who.At r) st f = let x = ap (λ z. same_name z r) u_is in cc
    own (Some At) e (who.Name r) st f = cc
    own (Some At) e (who.Pid r) st f = cc
    own (Some Each) e w st f = cc
    own None e w st f = cc

-- what stands behind the first statement of a thread
behind_first : (s t u : Name) (code : Name → Code) (x : Statement) (k : Code) → code t ≡ x ⨾ k → same_name t u ≡ true → Free s (code u) → FreeStatement s x × Free s k
behind_first s t u code x k is same f = subst (Free s) is (subst (λ z. Free s (code z)) (sym (exact_name t u same)) f)

pub first_of : (s t : Name) (code : Name → Code) (x : Statement) (k : Code) → code t ≡ x ⨾ k → Free s (code t) → FreeStatement s x × Free s k
first_of s t code x k is f = subst (Free s) is f

pub fine_first : (P : Program) (ds : List Decl) (t : Name) (code : Name → Code) (x : Statement) (k : Code) → code t ≡ x ⨾ k → Fine P ds (code t) → FineStatement P ds x × Fine P ds k
fine_first P ds t code x k is f = subst (Fine P ds) is f

pub kept_weaker : (P : Program) (E S' : Reading) → Weaker E S' → Kept P E S'
kept_weaker P E S' w = record {
  mode = w.mode;
  fine = λ f. subst (AllFine P) (sym w.code) f;
  free = λ s v f. subst (λ (c : Name → Code). Free s (c v)) (sym w.code) f;
  unique = λ u. subst Unique (sym w.pending) u;
  inner = λ s D h f. ap (λ (P : Key → List ℕ). P (key s s D)) w.pending;
}

-- only one thread's code changes, to a part of what it was
pub kept_code : (P : Program) (S : Reading) (t : Name) (k : Code) (facts : Name → Name → Option Value) → ((ds : List Decl) → Fine P ds (S.code t) → Fine P ds k) → ((s : Name) → Free s (S.code t) → Free s k) →
    Kept P S record { mode = S.mode; code = changed same_name S.code t k; pending = S.pending; facts = facts }
kept_code P S t k facts g h = record {
  mode = refl;
  fine = λ f. fine_changed P S.code t k g f;
  free = λ s v f. free_changed S.code t k s v (h s) f;
  unique = λ q. q;
  inner = λ s D set f. refl;
}

pub free_sides : (s : Name) (x : Statement) (e : Expression) (a b : Code) → sides x ≡ Some (e, a, b) → FreeStatement s x → Free s a × Free s b
free_sides s (If e' a') e a b h f = let p = parts (e', a', done) (e, a, b) h in (subst (Free s) p.1 f, subst (Free s) p.2 tt)
free_sides s (IfElse e' a' b') e a b h f = let p = parts (e', a', b') (e, a, b) h in (subst (Free s) p.1 f.0, subst (Free s) p.2 f.1)
free_sides s x e a b h f = cc

free_if : (s : Name) (b : Bool) (x y : Code) → Free s x → Free s y → Free s (if b then x else y)
free_if s true x y f g = f
free_if s false x y f g = g

pub fine_sides : (P : Program) (ds : List Decl) (x : Statement) (e : Expression) (a b : Code) → sides x ≡ Some (e, a, b) → FineStatement P ds x → Fine P ds a × Fine P ds b
fine_sides P ds (If e' a') e a b h f = let p = parts (e', a', done) (e, a, b) h in (subst (Fine P ds) p.1 f.1, subst (Fine P ds) p.2 tt)
fine_sides P ds (IfElse e' a' b') e a b h f = let p = parts (e', a', b') (e, a, b) h in (subst (Fine P ds) p.1 f.1, subst (Fine P ds) p.2 f.2)
fine_sides P ds x e a b h f = cc

fine_if : (P : Program) (ds : List Decl) (b : Bool) (x y : Code) → Fine P ds x → Fine P ds y → Fine P ds (if b then x else y)
fine_if P ds true x y f g = f
fine_if P ds false x y f g = g

-- a receive that stands behind the change of another thread's code
recv_fine : (P : Program) (S : Reading) (t u C : Name) (es : List Expression) (w : Who) (k : Code) (xs : List Name) (w' : Who) (k' : Code) → S.code t ≡ Send C es w ⨾ k → S.code u ≡ Recv C xs w' ⨾ k' →
    (ds : List Decl) → Fine P ds (changed same_name S.code t k u) → Fine P ds k'
recv_fine P S t u C es w k xs w' k' is is' ds g =
    elim (same_name t u) as (λ b. same_name t u ≡ b → Fine P ds (if b then k else S.code u) → Fine P ds k') [
      | true ↦ λ e f. absurd (let s = ap S.code (exact_name t u e) in cc)
      | false ↦ λ e f. (fine_first P ds u S.code (Recv C xs w') k' is' f).1
    ] refl g

recv_free : (S : Reading) (t u C : Name) (es : List Expression) (w : Who) (k : Code) (xs : List Name) (w' : Who) (k' : Code) → S.code t ≡ Send C es w ⨾ k → S.code u ≡ Recv C xs w' ⨾ k' → (r : Name) → Free r (changed same_name S.code t k u) → Free r k'
recv_free S t u C es w k xs w' k' is is' r g =
    elim (same_name t u) as (λ b. same_name t u ≡ b → Free r (if b then k else S.code u) → Free r k') [
      | true ↦ λ e f. absurd (let s = ap S.code (exact_name t u e) in cc)
      | false ↦ λ e f. (first_of r u S.code (Recv C xs w') k' is' f).1
    ] refl g

-- each basic rule keeps it
pub kept_applied : (P : Program) (S : Symbolic) (r : Applied) (b : Basic) → Applies S r b → Kept P (reading S) (reading r.next)
kept_applied P S r _ (assigns t x e k act is q n names) = subst (Kept P (reading S)) (sym n) (kept_code P (reading S) t k _ (λ ds g. (fine_first P ds t (reading S).code (Assign x e) k is g).1) (λ s g. (first_of s t (reading S).code (Assign x e) k is g).1))
kept_applied P S r _ (fills t u C j es w k act is stands unused q n names) =
    let Z = reading S in
    subst (Kept P Z) (sym n) record {
      mode = refl;
      fine = λ f. fine_changed P Z.code t k (λ ds g. (fine_first P ds t Z.code (Send C es w) k is g).1) f;
      free = λ s v f. free_changed Z.code t k s v (λ g. (first_of s t Z.code (Send C es w) k is g).1) f;
      unique = λ q. unique_fill Z.pending (key t u C) j q unused;
      inner = λ s D set f. apart_inner Z.pending t u C (Z.pending (key t u C) ++ j ∷ []) s D (λ a b. no_self Z t u s w set a b stands (λ g. (behind_first s t s Z.code (Send C es w) k is a g).0) f);
    }
kept_applied P S r _ (takes t u C j ns xs w k act is stands pends q n names) =
    let Z = reading S in
    subst (Kept P Z) (sym n) record {
      mode = refl;
      fine = λ f. fine_changed P Z.code u k (λ ds g. (fine_first P ds u Z.code (Recv C xs w) k is g).1) f;
      free = λ s v f. free_changed Z.code u k s v (λ g. (first_of s u Z.code (Recv C xs w) k is g).1) f;
      unique = λ q. unique_take Z.pending (key t u C) j ns q pends;
      inner = λ s D set f. apart_inner Z.pending t u C ns s D (λ a b. no_self Z u t s w set b a stands (λ g. (behind_first s u s Z.code (Recv C xs w) k is b g).0) f);
    }
kept_applied P S r _ (passes t u C es w k xs w' k' act act' is stands is' stands' empty q n names) =
    let Z = reading S in
    subst (Kept P Z) (sym n)
    (kept_then P Z (record Z { code = changed same_name Z.code t k }) _ (kept_code P Z t k Z.facts (λ ds g. (fine_first P ds t Z.code (Send C es w) k is g).1) (λ s g. (first_of s t Z.code (Send C es w) k is g).1))
    (kept_code P (record Z { code = changed same_name Z.code t k }) u k' _ (λ ds g. recv_fine P Z t u C es w k xs w' k' is is' ds g) (λ s g. recv_free Z t u C es w k xs w' k' is is' s g)))
kept_applied P S r _ (knows_if t s e a b rest v act is two f q n names) =
    let Z = reading S in
    subst (Kept P Z) (sym n) (kept_code P Z t (if is_true v then a then rest else b then rest) Z.facts (λ ds g.
    let h = fine_first P ds t Z.code s rest is g in let w = fine_sides P ds s e a b two h.0 in
    fine_if P ds (is_true v) (a then rest) (b then rest) (fine_then P ds a rest w.0 h.1) (fine_then P ds b rest w.1 h.1)) (λ r g.
    let h = first_of r t Z.code s rest is g in let w = free_sides r s e a b two h.0 in
    free_if r (is_true v) (a then rest) (b then rest) (free_then r a rest w.0 h.1) (free_then r b rest w.1 h.1)))
kept_applied P S r _ (knows_while t e b rest v act is f q n names) =
    let Z = reading S in
    subst (Kept P Z) (sym n) (kept_code P Z t (if is_true v then b then Z.code t else rest) Z.facts (λ ds g.
    let h = fine_first P ds t Z.code (While e b) rest is g in
    fine_if P ds (is_true v) (b then Z.code t) rest (fine_then P ds b (Z.code t) h.0.1 g) h.1) (λ r g.
    let h = first_of r t Z.code (While e b) rest is g in
    free_if r (is_true v) (b then Z.code t) rest (free_then r b (Z.code t) h.0 g) h.1))

-- a set in focus isn't a single role
not_one : (S : Reading) (s r : Name) → (S.mode r ≡ Some One → ⊥) → focused S.mode s r ≡ Some One → ⊥
not_one S s r h = elim (same_name s r) as (λ b. (if b then Some At else S.mode r) ≡ Some One → ⊥) [ true ↦ λ e. cc | false ↦ h ]

pub fine_bodies : (P : Program) (code : Name → Code) (own : Name → Bool) (body : Name → Code) → ((ds : List Decl) (t : Name) → own t ≡ true → Fine P ds (code t) → Fine P ds (body t)) → AllFine P code →
    AllFine P (λ u. if own u then body u else code u)
fine_bodies P code own body h f v =
    elim (own v) as (λ b. own v ≡ b → Fine P (decls_by P v) (if b then body v else code v)) [ true ↦ λ g. h (decls_by P v) v g (f v) | false ↦ λ g. f v ] refl

-- a set in focus: the owners' bodies name it, and they alone
pub kept_for : (P : Program) (S : Reading) (s : Name) (own : Name → Bool) (body rest : Name → Code) (E : Reading) (facts : Name → Name → Option Value) → own s ≡ false →
    ((ds : List Decl) (t : Name) → own t ≡ true → Fine P ds (S.code t) → Fine P ds (body t) × Fine P ds (rest t)) →
    ((r t : Name) → own t ≡ true → same_name r s ≡ false → Free r (S.code t) → Free r (body t)) → ((r t : Name) → own t ≡ true → Free r (S.code t) → Free r (rest t)) →
    Kept P (record S { mode = focused S.mode s; code = λ u. if own u then body u else S.code u }) E →
    Kept P S record { mode = S.mode; code = λ u. if same_name s u then E.code s else (if own u then rest u else S.code u); pending = E.pending; facts = facts }
kept_for P S s own body rest E facts not_own parts bodies rests k = record { mode = refl; fine = fine; free = free; unique = k.unique; inner = inner }
  where
    fine : AllFine P S.code → AllFine P (λ u. if same_name s u then E.code s else (if own u then rest u else S.code u))
    fine f v =
        elim (same_name s v) as (λ b. same_name s v ≡ b → Fine P (decls_by P v) (if b then E.code s else (if own v then rest v else S.code v))) [
          | true ↦ λ e. subst (λ z. Fine P (decls_by P z) (E.code s)) (exact_name s v e) (k.fine (fine_bodies P S.code own body (λ ds t o g. (parts ds t o g).0) f) s)
          | false ↦ λ e. elim (own v) as (λ b. own v ≡ b → Fine P (decls_by P v) (if b then rest v else S.code v)) [ true ↦ λ g. (parts (decls_by P v) v g (f v)).1 | false ↦ λ g. f v ] refl
        ] refl

    free : (r v : Name) → Free r (S.code v) → Free r (if same_name s v then E.code s else (if own v then rest v else S.code v))
    free r v f =
        elim (same_name s v) as (λ b. same_name s v ≡ b → Free r (if b then E.code s else (if own v then rest v else S.code v))) [
          | true ↦ λ e. k.free r s (subst (λ b. Free r (if b then body s else S.code s)) (sym not_own) (subst (λ z. Free r (S.code z)) (sym (exact_name s v e)) f))
          | false ↦ λ e. elim (own v) as (λ b. own v ≡ b → Free r (if b then rest v else S.code v)) [ true ↦ λ g. rests r v g f | false ↦ λ g. f ] refl
        ] refl

    not_set : (r : Name) → own r ≡ true → same_name r s ≡ false
    not_set r o = elim (same_name r s) as (λ b. same_name r s ≡ b → b ≡ false) [ true ↦ λ e. sym o ∙ ap own (exact_name r s e) ∙ not_own | false ↦ λ e. refl ] refl

    inner : (r D : Name) → (S.mode r ≡ Some One → ⊥) → Free r (S.code r) → E.pending (key r r D) ≡ S.pending (key r r D)
    inner r D h f =
        k.inner r D (not_one S s r h)
        (elim (own r) as (λ b. own r ≡ b → Free r (if b then body r else S.code r)) [ true ↦ λ o. bodies r r o (not_set r o) f | false ↦ λ o. f ] refl)

-- the same where the other threads stand as at the end
pub kept_pick : (P : Program) (S : Reading) (s t : Name) (body rest : Code) (E : Reading) (facts : Name → Name → Option Value) → same_name t s ≡ false →
    ((ds : List Decl) → Fine P ds (S.code t) → Fine P ds body × Fine P ds rest) →
    ((r : Name) → same_name r s ≡ false → Free r (S.code t) → Free r body) → ((r : Name) → Free r (S.code t) → Free r rest) →
    Kept P (record S { mode = focused S.mode s; code = changed same_name S.code t body }) E →
    Kept P S record { mode = S.mode; code = changed same_name E.code t rest; pending = E.pending; facts = facts }
kept_pick P S s t body rest E facts apart parts bodies rests k = record { mode = refl; fine = fine; free = free; unique = k.unique; inner = inner }
  where
    fine : AllFine P S.code → AllFine P (changed same_name E.code t rest)
    fine f v =
        elim (same_name t v) as (λ b. same_name t v ≡ b → Fine P (decls_by P v) (if b then rest else E.code v)) [
          | true ↦ λ e. (parts (decls_by P v) (subst (λ z. Fine P (decls_by P v) (S.code z)) (sym (exact_name t v e)) (f v))).1
          | false ↦ λ e. k.fine (fine_changed P S.code t body (λ ds g. (parts ds g).0) f) v
        ] refl

    free : (r v : Name) → Free r (S.code v) → Free r (changed same_name E.code t rest v)
    free r v f =
        elim (same_name t v) as (λ b. same_name t v ≡ b → Free r (if b then rest else E.code v)) [
          | true ↦ λ e. rests r (subst (λ z. Free r (S.code z)) (sym (exact_name t v e)) f)
          | false ↦ λ e. k.free r v (subst (λ b. Free r (if b then body else S.code v)) (sym e) f)
        ] refl

    inner : (r D : Name) → (S.mode r ≡ Some One → ⊥) → Free r (S.code r) → E.pending (key r r D) ≡ S.pending (key r r D)
    inner r D h f =
        k.inner r D (not_one S s r h)
        (elim (same_name t r) as (λ b. same_name t r ≡ b → Free r (if b then body else S.code r)) [
          | true ↦ λ e. bodies r (ap (λ z. same_name z s) (sym (exact_name t r e)) ∙ apart) (subst (λ z. Free r (S.code z)) (sym (exact_name t r e)) f)
          | false ↦ λ e. f
        ] refl)

-- the mode of a set
abbrev pub is_set_mode : Option Mode → Bool
is_set_mode (Some At) = true
is_set_mode (Some Each) = true
is_set_mode m = false

-- what holds of every state that a derivation comes to
pub record Tidy (P : Program) (S : Reading) : Type 0 where
  pub fine : AllFine P S.code
  pub sets : (s : Name) → is_set P.roles s ≡ true → is_set_mode (S.mode s) ≡ true
  pub unique : Unique S.pending
  pub closed : (s u : Name) → S.mode s ≡ Some Each → Free s (S.code u)
  pub own : (s : Name) → (S.mode s ≡ Some One → ⊥) → Free s (S.code s)

pub tidy_kept : (P : Program) (S S' : Reading) → Kept P S S' → Tidy P S → Tidy P S'
tidy_kept P S S' k t = record {
  fine = k.fine t.fine;
  sets = λ s h. ap (λ (m : Name → Option Mode). is_set_mode (m s)) k.mode ∙ t.sets s h;
  unique = k.unique t.unique;
  closed = λ s u e. k.free s u (t.closed s u (ap (λ (m : Name → Option Mode). m s) (sym k.mode) ∙ e));
  own = λ s h. k.free s s (t.own s (λ e. h (ap (λ (m : Name → Option Mode). m s) k.mode ∙ e)));
}

-- a set comes into focus
pub tidy_focus : (P : Program) (S : Reading) (s : Name) (own : Name → Bool) (body : Name → Code) → S.mode s ≡ Some Each → own s ≡ false →
    ((ds : List Decl) (t : Name) → own t ≡ true → Fine P ds (S.code t) → Fine P ds (body t)) →
    ((r t : Name) → own t ≡ true → same_name r s ≡ false → Free r (S.code t) → Free r (body t)) → Tidy P S →
    Tidy P record S { mode = focused S.mode s; code = λ u. if own u then body u else S.code u }
tidy_focus P S s own body set not_own parts bodies t = record { fine = fine_bodies P S.code own body parts t.fine; sets = sets; unique = t.unique; closed = closed; own = mine }
  where
    sets : (r : Name) → is_set P.roles r ≡ true → is_set_mode (focused S.mode s r) ≡ true
    sets r h = elim (same_name s r) as (λ b. is_set_mode (if b then Some At else S.mode r) ≡ true) [ true ↦ refl | false ↦ t.sets r h ]

    closed : (r u : Name) → focused S.mode s r ≡ Some Each → Free r (if own u then body u else S.code u)
    closed r u e =
        elim (same_name s r) as (λ b. same_name s r ≡ b → (if b then Some At else S.mode r) ≡ Some Each → Free r (if own u then body u else S.code u)) [
          | true ↦ λ g i. cc
          | false ↦ λ g i. elim (own u) as (λ b. own u ≡ b → Free r (if b then body u else S.code u)) [ true ↦ λ o. bodies r u o (name_laws.symm r s ∙ g) (t.closed r u i) | false ↦ λ o. t.closed r u i ] refl
        ] refl e

    mine : (r : Name) → (focused S.mode s r ≡ Some One → ⊥) → Free r (if own r then body r else S.code r)
    mine r h =
        elim (same_name s r) as (λ b. same_name s r ≡ b → ((if b then Some At else S.mode r) ≡ Some One → ⊥) → Free r (if own r then body r else S.code r)) [
          | true ↦ λ g i. subst (λ z. Free z (if own z then body z else S.code z)) (exact_name s r g) (subst (λ b. Free s (if b then body s else S.code s)) (sym not_own) (t.closed s s set))
          | false ↦ λ g i. elim (own r) as (λ b. own r ≡ b → Free r (if b then body r else S.code r)) [ true ↦ λ o. bodies r r o (name_laws.symm r s ∙ g) (t.own r i) | false ↦ λ o. t.own r i ] refl
        ] refl h
