-- Which facts a search drops: none on what a thread's code spares. So the last try of a rule is closed where it comes to its goal.
use Rattle.std.proofs.Common.{◌≡◌, Bool, true, false, List, [], ◌∷◌, map, Option, Some, None, cond, refl, sym, ap, ◌∙◌, true≢false}
use Rattle.std.specs.Prelude.{Err, ◌&&◌, ◌||◌, not, filter, is_some, is_none}
use Rattle.std.specs.List.{list_any, list_all}
use Rattle.std.specs.FinMap.{find}
use Rattle.std.proofs.lemmas.Cmp.{int_eq_equiv}
use Rattle.brisk_values.specs.declared.value.Value.{Value}
use Rattle.brisk_values.specs.declared.value.Value.TheVariants as value
use Rattle.brisk_values.specs.Values.{same_value}
use Rattle.brisk_values.specs.Names.{Name, same_name}
use Rattle.brisk_values.proofs.Changes.{name_laws, both_true, exact_name}
use Rattle.brisk_syntax.specs.declared.program.Program.{Program}
use Rattle.brisk_syntax.specs.Typing.{is_among}
use Rattle.brisk_facts.specs.Facts as facts
use Rattle.brisk_facts.specs.Facts.{Place, place_cmp, Facts, fact, facts_where, is_fact}
use Rattle.brisk_state.specs.Symbolic.{Symbolic, pending_where, same_pending}
use Rattle.brisk_derivation.specs.declared.fault.SideFault.{SideFault}
use Rattle.brisk_derivation.specs.declared.fault.SideFault.TheVariants.{FactLost, MailChanged}
use Rattle.brisk_derivation.specs.declared.steps.Fact.{Fact}
use Rattle.brisk_rules.specs.declared.why.Why.{Why}
use Rattle.brisk_rules.specs.Rules.{last_tests, looks, Entered, looks_at, looks_at_code, looks_at_key, unfinished, not_restored, unless, first_fault, close_tests, fault_or, after_close, close}
use Rattle.brisk_rules.specs.Standing.{stands_at, has_code, fault_aside}
use Rattle.brisk_sound.proofs.Closing.{fact_where}
use Rattle.brisk_search.specs.Drives.{must_end, premise_of}
use Rattle.brisk_search.specs.Tries.{touched_in, places, is_known, is_dropped, lost, with_lost, at_risk}
use Rattle.brisk_search.proofs.Begins.{Begins, DropsSpare, known_sorted}
use Rattle.brisk_search.proofs.Sorted.{Sorted, sorted_where, all_found, found_passed}
use Rattle.brisk_search.proofs.Spares.{Spares, Spared}
use Rattle.std.proofs.lemmas.Bool.{and_right}

-- what doesn't pass a test isn't among what does
filtered : (test : Fact → Bool) (u x : Name) (qs : List Fact) → test record { at = u; variable = x } ≡ false → list_any (λ d. same_name d.at u && same_name d.variable x) (filter test qs) ≡ false
filtered test u x [] h = refl
filtered test u x (q ∷ qs) h = go (test q) refl (filtered test u x qs h)
  where
    apart : test q ≡ true → (b : Bool) → (same_name q.at u && same_name q.variable x) ≡ b → b ≡ false
    apart e true s =
        let (a, c) = both_true (same_name q.at u) (same_name q.variable x) s in
        let is : q ≡ record { at = u; variable = x } = λ i. record { at = exact_name q.at u a i; variable = exact_name q.variable x c i } in
        absurd (true≢false (sym e ∙ ap test is ∙ h))
    apart e false s = refl

    go : (b : Bool) → test q ≡ b → list_any (λ d. same_name d.at u && same_name d.variable x) (filter test qs) ≡ false → list_any (λ d. same_name d.at u && same_name d.variable x) (cond b (q ∷ filter test qs) (filter test qs)) ≡ false
    go true e more = λ i. apart e (same_name q.at u && same_name q.variable x) refl i || more i
    go false e more = more

-- what is there and passes a test is among what does
kept_there : (test : Fact → Bool) (u x : Name) (qs : List Fact) → list_any (λ d. same_name d.at u && same_name d.variable x) qs ≡ true → test record { at = u; variable = x } ≡ true →
    list_any (λ d. same_name d.at u && same_name d.variable x) (filter test qs) ≡ true
kept_there test u x [] e h = absurd (true≢false (sym e))
kept_there test u x (q ∷ qs) e h = go (same_name q.at u && same_name q.variable x) refl e (λ f. kept_there test u x qs f h) (test q) refl
  where
    go : (b : Bool) → (same_name q.at u && same_name q.variable x) ≡ b → (b || list_any (λ d. same_name d.at u && same_name d.variable x) qs) ≡ true →
        (list_any (λ d. same_name d.at u && same_name d.variable x) qs ≡ true → list_any (λ d. same_name d.at u && same_name d.variable x) (filter test qs) ≡ true) → (p : Bool) → test q ≡ p →
        list_any (λ d. same_name d.at u && same_name d.variable x) (cond p (q ∷ filter test qs) (filter test qs)) ≡ true
    go true s e more true p = λ i. s i || list_any (λ d. same_name d.at u && same_name d.variable x) (filter test qs)
    go true s e more false p =
        let (a, c) = both_true (same_name q.at u) (same_name q.variable x) s in
        let is : q ≡ record { at = u; variable = x } = λ i. record { at = exact_name q.at u a i; variable = exact_name q.variable x c i } in
        absurd (true≢false (sym h ∙ ap test (sym is) ∙ p))
    go false s e more true p = ap (λ b. b || list_any (λ d. same_name d.at u && same_name d.variable x) (filter test qs)) s ∙ more e
    go false s e more false p = more e

cond_some : (b : Bool) (o : Option Value) (v : Value) → cond b o None ≡ Some v → (b ≡ true) × (o ≡ Some v)
cond_some true o v e = (refl, e)
cond_some false o v e = cc

value_itself : (v : Value) → same_value v v ≡ true
value_itself (value.Int n) = int_eq_equiv.refl n
value_itself (value.Bool true) = refl
value_itself (value.Bool false) = refl
value_itself (value.Tag e t) = λ i. name_laws.refl e i && name_laws.refl t i

-- a fact that is known is a fact
pub is_fact_there : (F : Facts) (q : Place) (v : Value) → find place_cmp q F ≡ Some v → is_fact F (q, v) ≡ true
is_fact_there F q v e = ap (λ o. facts.is_known o v) e ∙ value_itself v

-- no fact on what the code spares is lost
none_lost : (S : Symbolic) (drops : List Fact) (r : Entered) → Begins S drops r → Sorted S.facts → (E : Symbolic) → Spared r.start E → (u x : Name) → Spares (stands_at S u) x → is_known (lost r E) record { at = u; variable = x } ≡ false
none_lost S drops r b sorted E g u x s = go (fact (lost r E) u x) refl
  where
    go : (o : Option Value) → fact (lost r E) u x ≡ o → is_some o ≡ false
    go None e = refl
    go (Some v) e =
        let (f, missing) = found_passed (λ e. not (is_fact E.facts e)) (facts_where (λ q. looks_at (looks r.kind) q.0) r.known) (sorted_where _ r.known (known_sorted S drops r b sorted)) (u, x) v e in
        let (looks, k) = cond_some (looks_at (looks r.kind) u) (fact r.known u x) v (sym (fact_where (λ q. looks_at (looks r.kind) q.0) r.known u x) ∙ f) in
        let there : is_fact E.facts ((u, x), v) ≡ true = is_fact_there E.facts (u, x) v (g.facts u x v (b.code u x s) (b.begun u x v s k)) in
        absurd (true≢false (sym missing ∙ ap not there))

pub with_lost_spares : (P : Program) (S : Symbolic) (drops : List Fact) (r : Entered) → Begins S drops r → Sorted S.facts → DropsSpare S drops → (E : Symbolic) → Spared r.start E → DropsSpare S (with_lost P r E drops)
with_lost_spares P S drops r b sorted d E g u x s =
    filtered (λ q. is_dropped drops q || is_known (lost r E) q) u x (places P.roles) (λ i. d u x s i || none_lost S drops r b sorted E g u x s i)

pub at_risk_spares : (P : Program) (S : Symbolic) → DropsSpare S (at_risk P S)
at_risk_spares P S u x s = filtered (λ q. is_known S.facts q && is_among (touched_in (stands_at S q.at)) q.variable) u x (places P.roles) (and_right (is_known S.facts record { at = u; variable = x }) (is_among (touched_in (stands_at S u)) x) s)

-- what codes touch is declared, and facts stand in order
pub record Fit (P : Program) (S : Symbolic) : Type 0 where
  pub declared : (u x : Name) → is_among (touched_in (stands_at S u)) x ≡ true → list_any (λ d. same_name d.at u && same_name d.variable x) (places P.roles) ≡ true
  pub sorted : Sorted S.facts

pub fit_code : (P : Program) (S E : Symbolic) → Fit P S → ((u x : Name) → Spares (stands_at S u) x → Spares (stands_at E u) x) → Sorted E.facts → Fit P E
fit_code P S E fit g sorted = record { declared = λ u x e. go u x e (is_among (touched_in (stands_at S u)) x) refl; sorted = sorted }
  where
    go : (u x : Name) → is_among (touched_in (stands_at E u)) x ≡ true → (b : Bool) → is_among (touched_in (stands_at S u)) x ≡ b → list_any (λ d. same_name d.at u && same_name d.variable x) (places P.roles) ≡ true
    go u x e true h = fit.declared u x h
    go u x e false h = absurd (true≢false (sym e ∙ g u x h))

pub fit_spared : (P : Program) (S E : Symbolic) → Fit P S → Spared S E → Sorted E.facts → Fit P E
fit_spared P S E fit g sorted = fit_code P S E fit g.code sorted

-- without the facts at risk, each fact that the close asks for is kept
all_kept : (P : Program) (S : Symbolic) → Fit P S → (r : Entered) → Begins S (at_risk P S) r → (E : Symbolic) → Spared r.start E → list_all (is_fact E.facts) (facts_where (λ q. looks_at (looks r.kind) q.0) r.known) ≡ true
all_kept P S fit r b E g =
    all_found (is_fact E.facts) (facts_where (λ q. looks_at (looks r.kind) q.0) r.known) (sorted_where _ r.known (known_sorted S (at_risk P S) r b fit.sorted)) (λ q v f.
    let (looks, k) = cond_some (looks_at (looks r.kind) q.0) (fact r.known q.0 q.1) v (sym (fact_where (λ q. looks_at (looks r.kind) q.0) r.known q.0 q.1) ∙ f) in
    let (undropped, there) = cond_some (not (list_any (λ d. same_name d.at q.0 && same_name d.variable q.1) (at_risk P S))) (fact S.facts q.0 q.1) v
    (sym (fact_where (λ p. not (list_any (λ d. same_name d.at p.0 && same_name d.variable p.1) (at_risk P S))) S.facts q.0 q.1) ∙ ap (λ F. fact F q.0 q.1) (sym b.known) ∙ k) in
    kept q v k there undropped (is_among (touched_in (stands_at S q.0)) q.1) refl)
  where
    kept : (q : Place) (v : Value) → fact r.known q.0 q.1 ≡ Some v → fact S.facts q.0 q.1 ≡ Some v → not (list_any (λ d. same_name d.at q.0 && same_name d.variable q.1) (at_risk P S)) ≡ true →
        (t : Bool) → is_among (touched_in (stands_at S q.0)) q.1 ≡ t → is_fact E.facts (q, v) ≡ true
    kept q v k there undropped false s = is_fact_there E.facts q v (g.facts q.0 q.1 v (b.code q.0 q.1 s) (b.begun q.0 q.1 v s k))
    kept q v k there undropped true s =
        let risk : list_any (λ d. same_name d.at q.0 && same_name d.variable q.1) (at_risk P S) ≡ true =
        kept_there (λ p. is_known S.facts p && is_among (touched_in (stands_at S p.at)) p.variable) q.0 q.1 (places P.roles) (fit.declared q.0 q.1 s) (λ i. is_some (there i) && s i) in
        absurd (true≢false (sym undropped ∙ ap not risk))

-- one test in the place of another
fourth : (a b c d e : Option SideFault) (more : List (Option SideFault)) → first_fault (a ∷ b ∷ c ∷ d ∷ more) ≡ None → e ≡ None → first_fault (a ∷ b ∷ c ∷ e ∷ more) ≡ None
fourth (Some f) b c d e more h g = cc
fourth None (Some f) c d e more h g = cc
fourth None None (Some f) d e more h g = cc
fourth None None None (Some f) e more h g = cc
fourth None None None None e more h g = ap (λ z. first_fault (z ∷ more)) g ∙ h

no_fault : (o : Option SideFault) → is_none o ≡ true → o ≡ None
no_fault None e = refl
no_fault (Some f) e = absurd (true≢false (sym e))

not_failed : (o : Option SideFault) (S : Symbolic) (why : Why) → o ≡ None → fault_or o S ≡ Err why → ⊥
not_failed None S why e h = cc
not_failed (Some f) S why e h = cc

-- so the close holds where the goal does
pub last_closes : (P : Program) (S : Symbolic) → Fit P S → (r : Entered) → Begins S (at_risk P S) r → (E : Symbolic) → Spared r.start E → (premise_of r).goal E ≡ true → (why : Why) → close r E ≡ Err why → ⊥
last_closes P S fit r b E g goal why e =
    let none = no_fault (fault_aside r E) (both_true (not (list_any (has_code E) (must_end r))) (is_none (fault_aside r E)) goal).1 in
    let closes : first_fault (close_tests r E) ≡ None =
    fourth (first_fault (map (unfinished E) r.owners)) (not_restored (looks_at_code r) r.start.threads E.threads)
    (unless (same_pending (pending_where (looks_at_key (looks r.kind)) r.start.pending) (pending_where (looks_at_key (looks r.kind)) E.pending)) MailChanged)
    (unless (list_all (is_fact E.facts) (facts_where (λ q. looks_at (looks r.kind) q.0) [])) FactLost)
    (unless (list_all (is_fact E.facts) (facts_where (λ q. looks_at (looks r.kind) q.0) r.known)) FactLost) (last_tests r.kind E) none
    (ap (λ k. unless k FactLost) (all_kept P S fit r b E g)) in
    not_failed (first_fault (close_tests r E)) (after_close r E) why closes e
