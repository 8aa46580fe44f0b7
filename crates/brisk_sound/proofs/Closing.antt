-- What the tests of a close say.
use Rattle.std.proofs.Common.{◌≡◌, ℕ, Bool, true, false, List, [], ◌∷◌, map, Option, Some, None, cond, refl, sym, ap, ◌∙◌, nat_eq}
use Rattle.std.specs.Prelude.{if◌then◌else◌, ◌&&◌, not, Ok}
use Rattle.std.specs.List.{list_any, list_all}
use Rattle.std.specs.Ordering.{is_eq, eq_by_cmp}
use Rattle.std.specs.FinMap.{find}
use Rattle.std.specs.FinMap.Entries.{find-put, find-where_key}
use Rattle.std.specs.declared.cmp.Ordering.{Ordering}
use Rattle.std.specs.declared.cmp.Ordering.TheVariants.{Less, Equal, Greater}
use Rattle.std.proofs.lemmas.Bool.{eqb-true}
use lib.Pointwise.{pointwise}
use Rattle.brisk_values.specs.declared.value.Value.{Value}
use Rattle.brisk_values.specs.Names.{Name, same_name}
use Rattle.brisk_values.proofs.Changes.{exact_name, both_true}
use Rattle.brisk_syntax.specs.Syntax.{Code, done}
use Rattle.brisk_facts.specs.Facts.{Place, place_cmp, Facts, fact, facts_where, is_known, is_fact, joined}
use Rattle.brisk_state.specs.declared.thread.Thread.{Thread}
use Rattle.brisk_state.specs.Same.{same_code}
use Rattle.brisk_state.proofs.Threads.{exact_code}
use Rattle.brisk_state.specs.Symbolic.{Key, key_cmp, same_key, Symbolic, Pending, numbers_at, or_none, pending_where, same_pending, thread_named}
use Rattle.brisk_derivation.specs.declared.fault.SideFault.{SideFault}
use Rattle.brisk_derivation.specs.declared.fault.SideFault.TheVariants.{NotRestored}
use Rattle.brisk_derivation.specs.declared.steps.Fact.{Fact}
use Rattle.brisk_rules.specs.Rules.{without_drops, looks_at, looks_at_key, looks_at_code, Owner, Entered, looks, last_tests, unless, first_fault, code_in, unfinished, not_restored, close_tests, after_close, fault_or, close}
use Rattle.brisk_sound.proofs.Events.{exact_key}
use Rattle.brisk_sound.proofs.Learn.{equal_values}
use Rattle.brisk_facts.proofs.Places.{place_total, exact_places}
use Rattle.brisk_sound.proofs.Lookups.{exact_key_cmp}
use Rattle.brisk_rules.proofs.Threads.{names, codes}

-- the tests that a close makes, each passed
pub record Closed (r : Entered) (E S' : Symbolic) : Type 0 where
  pub finished : first_fault (map (unfinished E) r.owners) ≡ None
  pub restored : not_restored (looks_at_code r) r.start.threads E.threads ≡ None
  pub mail : same_pending (pending_where (looks_at_key (looks r.kind)) r.start.pending) (pending_where (looks_at_key (looks r.kind)) E.pending) ≡ true
  pub facts : list_all (is_fact E.facts) (facts_where (λ q. looks_at (looks r.kind) q.0) r.known) ≡ true
  pub last : first_fault (last_tests r.kind E) ≡ None
  pub next : after_close r E ≡ S'

pub first_none : (o : Option SideFault) (more : List (Option SideFault)) → first_fault (o ∷ more) ≡ None → (o ≡ None) × (first_fault more ≡ None)
first_none None more e = (refl, e)
first_none (Some fault) more e = cc

pub unless_none : (b : Bool) (fault : SideFault) → unless b fault ≡ None → b ≡ true
unless_none true fault e = refl
unless_none false fault e = cc

fault_none : (o : Option SideFault) (S S' : Symbolic) → fault_or o S ≡ Ok S' → (o ≡ None) × (S ≡ S')
fault_none None S S' e = (refl, cc)
fault_none (Some fault) S S' e = cc

pub closed : (r : Entered) (E S' : Symbolic) → close r E ≡ Ok S' → Closed r E S'
closed r E S' e =
    let f = fault_none (first_fault (close_tests r E)) (after_close r E) S' e in
    let a = first_none _ _ f.0 in let b = first_none _ _ a.1 in let c = first_none _ _ b.1 in let d = first_none _ _ c.1 in
    record { finished = a.0; restored = b.0; mail = unless_none _ _ c.0; facts = unless_none _ _ d.0; last = d.1; next = f.1 }

pub same_codes : (a b : Code) → same_code a b ≡ true → a ≡ b
same_codes = exact_code

-- an owner has no code left
pub finished : (E : Symbolic) (o : Owner) → unfinished E o ≡ None → codes E.threads o.name ≡ done
finished E o e = same_codes (code_in (thread_named E.threads o.name)) done (unless_none _ _ e)

-- threads at which the close looks stand as at the start
pub restored_codes : (looks : Name → Bool) (ts us : List Thread) → not_restored looks ts us ≡ None → names us ≡ names ts → (u : Name) → looks u ≡ true → codes us u ≡ codes ts u
restored_codes looks [] [] e n u l = refl
restored_codes looks [] (x ∷ us) e n u l = cc
restored_codes looks (t ∷ ts) [] e n u l = cc
restored_codes looks (t ∷ ts) (x ∷ us) e n u l =
    let f = first_none _ _ e in let g = first_none _ _ f.1 in
    let named : x.name ≡ t.name = cc in
    let rest : names us ≡ names ts = cc in
    (λ i. code_in (if same_name u (named i) then Some x else thread_named us u))
    ∙ elim (same_name u t.name) as (λ b. same_name u t.name ≡ b → code_in (if b then Some x else thread_named us u) ≡ code_in (if b then Some t else thread_named ts u)) [
      | true ↦ λ s. here (looks t.name) (ap looks (sym (exact_name u t.name s)) ∙ l) f.0
      | false ↦ λ s. restored_codes looks ts us g.0 rest u l
    ] refl
  where
    here : (b : Bool) → b ≡ true → (if b then unless (same_code t.code x.code) (NotRestored t.name) else None) ≡ None → x.code ≡ t.code
    here true a h = sym (same_codes t.code x.code (unless_none _ _ h))
    here false a h = cc

pub pointwise_same : {A : Type 0} (same : A → A → Bool) → ((a b : A) → same a b ≡ true → a ≡ b) → (xs ys : List A) → pointwise same xs ys ≡ true → xs ≡ ys
pointwise_same same exact [] [] e = refl
pointwise_same same exact [] (y ∷ ys) e = cc
pointwise_same same exact (x ∷ xs) [] e = cc
pointwise_same same exact (x ∷ xs) (y ∷ ys) e = let h = both_true (same x y) (pointwise same xs ys) e in λ i. exact x y h.0 i ∷ pointwise_same same exact xs ys h.1 i

pub same_pendings : (P Q : Pending) → same_pending P Q ≡ true → P ≡ Q
same_pendings = pointwise_same (λ (d e : Key × List ℕ). same_key d.0 e.0 && pointwise nat_eq d.1 e.1) entry
  where
    entry : (d e : Key × List ℕ) → (same_key d.0 e.0 && pointwise nat_eq d.1 e.1) ≡ true → d ≡ e
    entry d e h = let b = both_true (same_key d.0 e.0) (pointwise nat_eq d.1 e.1) h in λ i. (exact_key d.0 e.0 b.0 i, pointwise_same nat_eq eqb-true d.1 e.1 b.1 i)

numbers_where : (test : Key → Bool) (P : Pending) (k : Key) → test k ≡ true → numbers_at (pending_where test P) k ≡ numbers_at P k
numbers_where test P k is =
    ap or_none (find-where_key key_cmp test k (λ l e. ap test (sym (exact_key_cmp k l e))) P) ∙ ap (λ b. or_none (cond b (find key_cmp k P) None)) is

-- the same numbers pend under the keys at which the close looks
pub kept_numbers : (test : Key → Bool) (P Q : Pending) → same_pending (pending_where test P) (pending_where test Q) ≡ true → (k : Key) → test k ≡ true → numbers_at Q k ≡ numbers_at P k
kept_numbers test P Q e k is = sym (numbers_where test Q k is) ∙ ap (λ (R : Pending). numbers_at R k) (sym (same_pendings _ _ e)) ∙ numbers_where test P k is

-- the facts at the places that pass a test
pub fact_where : (test : Place → Bool) (F : Facts) (u x : Name) → fact (facts_where test F) u x ≡ cond (test (u, x)) (fact F u x) None
fact_where test F u x = find-where_key place_cmp test (u, x) (λ q e. ap test (sym (exact_places (u, x) q e))) F

-- what is found passes each test of all
found : (h : Place × Value → Bool) (F : Facts) (q : Place) (v : Value) → list_all h F ≡ true → find place_cmp q F ≡ Some v → h (q, v) ≡ true
found h [] q v a e = cc
found h (y ∷ F) q v a e =
    let b = both_true (h y) (list_all h F) a in
    elim (eq_by_cmp place_cmp q y.0) as (λ t. eq_by_cmp place_cmp q y.0 ≡ t → cond t (Some y.1) (find place_cmp q F) ≡ Some v → h (q, v) ≡ true) [
      | true ↦ λ t g. (let w : y.1 ≡ v = cc in let k = exact_places q y.0 (equal (place_cmp q y.0) t) in (λ i. h (k i, sym w i)) ∙ b.0)
      | false ↦ λ t g. found h F q v b.1 g
    ] refl e
  where
    equal : (o : Ordering) → is_eq o ≡ true → o ≡ Equal
    equal Less e = cc
    equal Equal e = refl
    equal Greater e = cc

pub known_is : (o : Option Value) (v : Value) → is_known o v ≡ true → o ≡ Some v
known_is None v e = cc
known_is (Some w) v e = ap Some (equal_values w v e)

-- the facts at which the close looks still hold
pub kept_facts : (test : Place → Bool) (F G : Facts) → list_all (is_fact G) (facts_where test F) ≡ true → (u x : Name) (v : Value) → test (u, x) ≡ true → fact F u x ≡ Some v → fact G u x ≡ Some v
kept_facts test F G a u x v is e =
    known_is (find place_cmp (u, x) G) v (found (is_fact G) (facts_where test F) (u, x) v a (fact_where test F u x ∙ ap (λ b. cond b (fact F u x) None) is ∙ e))

-- facts that aren't dropped were there
pub not_dropped : (drops : List Fact) (F : Facts) (u x : Name) (v : Value) → fact (without_drops drops F) u x ≡ Some v → fact F u x ≡ Some v
not_dropped drops F u x v e =
    kept (not (list_any (λ d. same_name d.at u && same_name d.variable x) drops)) (sym (fact_where (λ q. not (list_any (λ d. same_name d.at q.0 && same_name d.variable q.1) drops)) F u x) ∙ e)
  where
    kept : (b : Bool) → cond b (fact F u x) None ≡ Some v → fact F u x ≡ Some v
    kept true h = h
    kept false h = cc

abbrev or_else : {A : Type 0} → Option A → Option A → Option A
or_else None o = o
or_else (Some a) o = Some a

fact_joined : (F G : Facts) (u x : Name) → fact (joined F G) u x ≡ or_else (fact F u x) (fact G u x)
fact_joined [] G u x = refl
fact_joined (e ∷ F) G u x =
    find-put place_cmp place_total (u, x) e.0 e.1 (joined F G) ∙ ap (cond (eq_by_cmp place_cmp (u, x) e.0) (Some e.1)) (fact_joined F G u x)
    ∙ first (eq_by_cmp place_cmp (u, x) e.0) e.1 (fact F u x) (fact G u x)
  where
    first : (b : Bool) (v : Value) (o p : Option Value) → cond b (Some v) (or_else o p) ≡ or_else (cond b (Some v) o) p
    first true v o p = refl
    first false v o p = refl

-- after the close: the tested facts, and of what it didn't look at those of the end
pub facts_after : (looks : Name → Bool) (F G : Facts) (u x : Name) → fact (joined (facts_where (λ q. looks q.0) F) (facts_where (λ q. not (looks q.0)) G)) u x ≡ (if looks u then fact F u x else fact G u x)
facts_after looks F G u x =
    fact_joined (facts_where (λ q. looks q.0) F) (facts_where (λ q. not (looks q.0)) G) u x
    ∙ (λ i. or_else (fact_where (λ q. looks q.0) F u x i) (fact_where (λ q. not (looks q.0)) G u x i))
    ∙ by (looks u) (fact F u x) (fact G u x)
  where
    by : (b : Bool) (o p : Option Value) → or_else (cond b o None) (cond (not b) p None) ≡ (if b then o else p)
    by true None p = refl
    by true (Some v) p = refl
    by false o p = refl
