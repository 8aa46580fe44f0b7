-- Where rules begin and close, what code spares is spared, if no fact on it is dropped.
use Rattle.std.proofs.Common.{◌≡◌, zero, suc, Bool, true, false, List, [], ◌∷◌, ◌++◌, Option, Some, None, cond, refl, sym, ap, ◌∙◌, subst}
use Rattle.std.specs.Prelude.{Ok, ◌&&◌, not, if◌then◌else◌}
use Rattle.std.specs.List.{list_any}
use Rattle.std.proofs.lemmas.Option.{same_Some}
use Rattle.brisk_values.specs.declared.value.Value.{Value}
use Rattle.brisk_values.specs.Names.{Name, same_name}
use Rattle.brisk_values.proofs.Changes.{exact_name}
use Rattle.brisk_syntax.specs.declared.tree.Who.TheVariants as who
use Rattle.brisk_syntax.specs.declared.program.Program.{Program}
use Rattle.brisk_syntax.specs.Substitution.{who_with, code_with}
use Rattle.brisk_syntax.specs.Syntax.{Expression, RecvAny, While, For, Repeat, Code, done, ◌⨾◌, ◌then◌}
use Rattle.brisk_syntax.specs.Typing.{is_among}
use Rattle.brisk_async.specs.Laws.{AnyReceive}
use Rattle.brisk_facts.specs.Facts.{Facts, fact, facts_where, joined}
use Rattle.brisk_facts.specs.Learning.{learn}
use Rattle.brisk_state.specs.declared.thread.Mode.TheVariants.{At, Each}
use Rattle.brisk_state.specs.declared.thread.Thread.{Thread}
use Rattle.brisk_state.specs.Symbolic.{Symbolic, thread_named, with_code, with_mode}
use Rattle.brisk_derivation.specs.declared.steps.Fact.{Fact}
use Rattle.brisk_derivation.specs.declared.fault.SideFault.TheVariants.{MayBeEmpty}
use Rattle.brisk_basic.specs.declared.rule.RuleFault.TheVariants.{WrongHead}
use Rattle.brisk_rules.specs.declared.why.Why.TheVariants.{Rule as BasicFault, Side}
use Rattle.brisk_rules.specs.Heads.{while_of, repeat_of, for_of, any_of, gather_of, Loop, from_focus}
use Rattle.brisk_rules.specs.Rules.{looks, Scope, Everything, Outside, Inside, Owner, Entered, code_in, mode_of, looks_at, without_drops, unfocused, at_rests, at_bodies, with_rests, loops_of, after_close, entered_alone, entered_any, enter_while, enter_repeat, enter_for, enter_gather, enter_pick, is_nonempty}
use Rattle.brisk_rules.specs.Rules as rules
use Rattle.brisk_rules.specs.Standing.{stands_at}
use Rattle.brisk_sound.proofs.Closing.{fact_where, facts_after}
use Rattle.brisk_rules.proofs.Fulfilled.{same_ok, when_ok, and_then_ok, at_head_ok, while_is, repeat_is}
use Rattle.brisk_sound.proofs.Learnt.{learn_reads}
use Rattle.brisk_rules.proofs.Readings.{learnt}
use Rattle.brisk_rules.proofs.Threads.{codes, codes_with_mode}
use Rattle.brisk_search.specs.Tries.{variables_of, touched_by, touched_in}
use Rattle.brisk_search.proofs.Sorted.{Sorted, sorted_where, sorted_learn, sorted_joined}
use Rattle.brisk_search.proofs.Spares.{Lacks, lacks_both, lacks_joined, Spares, map_touches, learnt_spared, facts_changed, Spared}
use Rattle.brisk_search.proofs.Starts.{focused_more, unfocused_more}

-- one thread's code is changed
pub spares_with_code : (t : Name) (k : Code) (ts : List Thread) (u x : Name) → Spares (codes ts u) x → (same_name t u ≡ true → Spares k x) → Spares (codes (with_code t k ts) u) x
spares_with_code t k [] u x h g = refl
spares_with_code t k (v ∷ vs) u x h g = by_owner (same_name t v.name) refl (same_name u v.name) refl h (λ e. spares_with_code t k vs u x e g)
  where
    by_owner : (b : Bool) → same_name t v.name ≡ b → (c : Bool) → same_name u v.name ≡ c → Spares (code_in (if c then Some v else thread_named vs u)) x → (Spares (codes vs u) x → Spares (codes (with_code t k vs) u) x) →
        Spares (code_in (thread_named ((if b then record v { code = k } else v) ∷ with_code t k vs) u)) x
    by_owner true q true p s more = rw p (g (ap (same_name t) (exact_name u v.name p) ∙ q))
    by_owner true q false p s more = rw p (more s)
    by_owner false q true p s more = rw p s
    by_owner false q false p s more = rw p (more s)

-- the rests of owners spare what the owners' codes spare
abbrev pub RestsSpare : Symbolic → List Owner → Type 0
RestsSpare S [] = Unit {0}
RestsSpare S (o ∷ os) = ((x : Name) → Spares (stands_at S o.name) x → Spares o.rest x) × RestsSpare S os

-- a rule that was entered
pub record Begins (S : Symbolic) (drops : List Fact) (r : Entered) : Type 0 where
  pub code : (u x : Name) → Spares (stands_at S u) x → Spares (stands_at r.start u) x
  pub known : r.known ≡ without_drops drops S.facts
  pub begun : (u x : Name) (v : Value) → Spares (stands_at S u) x → fact r.known u x ≡ Some v → fact r.start.facts u x ≡ Some v
  pub sorted : Sorted r.known → Sorted r.start.facts
  pub learns : (F : Facts) (u x : Name) (v : Value) → Spares (stands_at S u) x → fact F u x ≡ Some v → fact (rules.learnt r.kind false F) u x ≡ Some v
  pub learns_sorted : (F : Facts) → Sorted F → Sorted (rules.learnt r.kind false F)
  pub rests : RestsSpare S r.owners

-- what a guard tells of what the code spares
pub learn_spares : (t : Name) (F : Facts) (e : Expression) (b : Bool) (c : Name → Code) → ((x : Name) → Spares (c t) x → Lacks (variables_of e) x) → (u x : Name) (v : Value) → Spares (c u) x → fact F u x ≡ Some v → fact (learn t F e b) u x ≡ Some v
learn_spares t F e b c h = facts_changed (fact F) (fact (learn t F e b)) t (learnt (fact F t) e b) (learn_reads t e b F) c (λ x s. learnt_spared (fact F t) e b x (h x s))

alone : (S : Symbolic) (t : Name) (body rest : Code) (drops : List Fact) (kind : rules.Kind) → ((x : Name) → Spares (stands_at S t) x → Spares body x × Spares rest x) →
    ((b : Bool) (F : Facts) (u x : Name) (v : Value) → Spares (stands_at S u) x → fact F u x ≡ Some v → fact (rules.learnt kind b F) u x ≡ Some v) → ((b : Bool) (F : Facts) → Sorted F → Sorted (rules.learnt kind b F)) →
    Begins S drops (entered_alone S t body rest (without_drops drops S.facts) kind)
alone S t body rest drops kind h g sort = record {
  code = λ u x s. spares_with_code t body S.threads u x s (λ q. (h x (subst (λ z. Spares (stands_at S z) x) (sym (exact_name t u q)) s)).0);
  known = refl;
  begun = λ u x v s e. g true (without_drops drops S.facts) u x v s e;
  sorted = λ k. sort true (without_drops drops S.facts) k;
  learns = λ F u x v s e. g false F u x v s e;
  learns_sorted = λ F k. sort false F k;
  rests = (λ x s. (h x s).1, tt);
}

pub while_begins : (S : Symbolic) (t : Name) (drops : List Fact) (r : Entered) → enter_while S t drops ≡ Ok r → Begins S drops r
while_begins S t drops r e =
    let (w, c, m, is, goes) = at_head_ok S t while_of _ r e in
    let at : stands_at S t ≡ While w.guard w.body ⨾ w.rest = m.stands ∙ while_is c w is in
    let parts : (x : Name) → Spares (stands_at S t) x → Lacks (variables_of w.guard) x × Spares w.body x × Spares w.rest x =
    λ x s. let (f, k) = lacks_both (touched_by (While w.guard w.body)) (touched_in w.rest) x (subst (λ z. Spares z x) at s) in let (l, b) = lacks_both (variables_of w.guard) (touched_in w.body) x f in (l, b, k) in
    subst (Begins S drops) (same_ok _ r goes)
    (alone S t w.body w.rest drops (rules.While t w.guard) (λ x s. let p = parts x s in (p.1, p.2)) (λ b F. learn_spares t F w.guard b (stands_at S) (λ x s. (parts x s).0)) (λ b F. sorted_learn t F w.guard b))

pub repeat_begins : (S : Symbolic) (t : Name) (drops : List Fact) (r : Entered) → enter_repeat S t drops ≡ Ok r → Begins S drops r
repeat_begins S t drops r e =
    let (l, c, m, is, goes) = at_head_ok S t repeat_of _ r e in
    let at : stands_at S t ≡ Repeat l.set 0 l.body ⨾ l.rest = m.stands ∙ repeat_is c l is in
    subst (Begins S drops) (same_ok _ r goes)
    (alone S t l.body l.rest drops (rules.Repeat l.set) (λ x s. lacks_both (touched_in l.body) (touched_in l.rest) x (subst (λ z. Spares z x) at s)) (λ b F u x v s e. e) (λ b F k. k))

any_begins : (S : Symbolic) (t : Name) (a : AnyReceive) (drops : List Fact) (kind : rules.Kind) → ((F : Facts) → rules.learnt kind false F ≡ F) →
    ((x : Name) → Spares (stands_at S t) x → Lacks a.variables x × Spares a.body x × Spares a.rest x) → Begins S drops (entered_any S t a drops kind)
any_begins S t a drops kind same h = record {
  code = λ u x s. spares_with_code t (from_focus a) (with_mode a.set At S.threads) u x (subst (λ (f : Name → Code). Spares (f u) x) (sym (codes_with_mode a.set At S.threads)) s) (λ q.
      let p = h x (subst (λ z. Spares (stands_at S z) x) (sym (exact_name t u q)) s) in
      lacks_joined a.variables (touched_in (code_with a.binder (who.At a.set) a.body)) x p.0 (subst (λ ns. Lacks ns x) (sym (map_touches (who_with a.binder (who.At a.set)) a.body)) p.1));
  known = refl;
  begun = λ u x v s e. e;
  sorted = λ k. k;
  learns = λ F u x v s e. subst (λ (Z : Facts). fact Z u x ≡ Some v) (sym (same F)) e;
  learns_sorted = λ F k. subst Sorted (sym (same F)) k;
  rests = (λ x s. (h x s).2, tt);
}

gather_parts : (c : Code) (a : AnyReceive) → gather_of c ≡ Some a → (x : Name) → Spares c x → Lacks a.variables x × Spares a.body x × Spares a.rest x
gather_parts (Repeat s zero (RecvAny c xs v r b ⨾ done) ⨾ rest) a h x k = go (same_name s r) h
  where
    go : (same : Bool) → (if same then Some record { channel = c; variables = xs; binder = v; set = s; body = b; rest = rest } else None) ≡ Some a → Lacks a.variables x × Spares a.body x × Spares a.rest x
    go true g =
        let (f, l) = lacks_both (touched_in (RecvAny c xs v r b ⨾ done)) (touched_in rest) x k in let (m, n) = lacks_both (xs ++ touched_in b) [] x f in let (y, z) = lacks_both xs (touched_in b) x m in
        subst (λ (d : AnyReceive). Lacks d.variables x × Spares d.body x × Spares d.rest x) (same_Some _ a g) (y, z, l)
    go false g = cc
gather_parts c a h x k = cc

any_parts : (c : Code) (a : AnyReceive) → any_of c ≡ Some a → (x : Name) → Spares c x → Lacks a.variables x × Spares a.body x × Spares a.rest x
any_parts (RecvAny c xs v s b ⨾ rest) a h x k =
    let (f, l) = lacks_both (xs ++ touched_in b) (touched_in rest) x k in let (y, z) = lacks_both xs (touched_in b) x f in
    subst (λ (d : AnyReceive). Lacks d.variables x × Spares d.body x × Spares d.rest x) (same_Some _ a h) (y, z, l)
any_parts c a h x k = cc

for_parts : (s : Name) (c : Code) (l : Loop) → for_of s c ≡ Some l → (x : Name) → Spares c x → Spares l.body x × Spares l.rest x
for_parts s (For v r zero b ⨾ rest) l h x k = go (same_name s r) h
  where
    go : (same : Bool) → (if same then Some record { set = s; body = code_with v (who.At s) b; rest = rest } else None) ≡ Some l → Spares l.body x × Spares l.rest x
    go true g =
        let (f, m) = lacks_both (touched_in b) (touched_in rest) x k in
        subst (λ (d : Loop). Spares d.body x × Spares d.rest x) (same_Some _ l g) (subst (λ ns. Lacks ns x) (sym (map_touches (who_with v (who.At s)) b)) f, m)
    go false g = cc
for_parts s (For v r (suc k) b ⨾ rest) l h x m = cc
for_parts s c l h x k = cc

pub gather_begins : (S : Symbolic) (t : Name) (drops : List Fact) (r : Entered) → enter_gather S t drops ≡ Ok r → Begins S drops r
gather_begins S t drops r e =
    let h = at_head_ok S t gather_of _ r e in
    subst (Begins S drops) (same_ok _ r (unfocused_more (mode_of (thread_named S.threads h.0.set)) _ r h.4))
    (any_begins S t h.0 drops (rules.Gather t h.0.set h.0.channel) (λ F. refl) (λ x s. gather_parts h.1 h.0 h.3 x (subst (λ z. Spares z x) h.2.stands s)))

pub pick_begins : (P : Program) (S : Symbolic) (t : Name) (drops : List Fact) (r : Entered) → enter_pick P S t drops ≡ Ok r → Begins S drops r
pick_begins P S t drops r e =
    let h = at_head_ok S t any_of _ r e in
    let w = when_ok (is_nonempty P h.0.set) (Side MayBeEmpty) _ r (unfocused_more (mode_of (thread_named S.threads h.0.set)) _ r h.4) in
    subst (Begins S drops) (same_ok _ r w.1) (any_begins S t h.0 drops (rules.Pick h.0.set) (λ F. refl) (λ x s. any_parts h.1 h.0 h.3 x (subst (λ z. Spares z x) h.2.stands s)))

bodies_spare : (S : Symbolic) (s : Name) (before ts : List Name) (ls : List Loop) → loops_of S s before ts ≡ Ok ls → (threads : List Thread) (u x : Name) → Spares (stands_at S u) x → Spares (codes threads u) x →
    Spares (codes (at_bodies ts ls threads) u) x
bodies_spare S s before [] ls e threads u x k f = f
bodies_spare S s before (t ∷ ts) ls e threads u x k f =
    let h = at_head_ok S t (for_of s) _ ls e in
    let w = when_ok (not (is_among before t)) (BasicFault WrongHead) _ ls h.4 in
    let r = and_then_ok (loops_of S s (t ∷ before) ts) _ ls w.1 in
    subst (λ (z : List Loop). Spares (codes (at_bodies (t ∷ ts) z threads) u) x) (same_ok _ ls r.2)
    (bodies_spare S s (t ∷ before) ts r.0 r.1 (with_code t h.0.body threads) u x k
    (spares_with_code t h.0.body threads u x f (λ q. (for_parts s h.1 h.0 h.3 x (subst (λ z. Spares z x) h.2.stands (subst (λ z. Spares (stands_at S z) x) (sym (exact_name t u q)) k))).0)))

for_rests : (S : Symbolic) (s : Name) (before ts : List Name) (ls : List Loop) → loops_of S s before ts ≡ Ok ls → RestsSpare S (with_rests ts ls)
for_rests S s before [] ls e = tt
for_rests S s before (t ∷ ts) ls e =
    let h = at_head_ok S t (for_of s) _ ls e in
    let w = when_ok (not (is_among before t)) (BasicFault WrongHead) _ ls h.4 in
    let r = and_then_ok (loops_of S s (t ∷ before) ts) _ ls w.1 in
    subst (λ (z : List Loop). RestsSpare S (with_rests (t ∷ ts) z)) (same_ok _ ls r.2)
    (λ x k. (for_parts s h.1 h.0 h.3 x (subst (λ z. Spares z x) h.2.stands k)).1, for_rests S s (t ∷ before) ts r.0 r.1)

pub for_begins : (S : Symbolic) (s : Name) (ts : List Name) (drops : List Fact) (r : Entered) → enter_for S s ts drops ≡ Ok r → Begins S drops r
for_begins S s ts drops r e =
    let c = focused_more (mode_of (thread_named S.threads s)) _ r e in
    let x = and_then_ok (loops_of S s [] ts) _ r c in
    subst (Begins S drops) (same_ok _ r x.2) (record {
      code = λ u y k. bodies_spare S s [] ts x.0 x.1 (with_mode s At S.threads) u y k (subst (λ (f : Name → Code). Spares (f u) y) (sym (codes_with_mode s At S.threads)) k);
      known = refl;
      begun = λ u y v k g. g;
      sorted = λ k. k;
      learns = λ F u y v k g. g;
      learns_sorted = λ F k. k;
      rests = for_rests S s [] ts x.0 x.1;
    })

-- no fact on what the code spares is dropped
abbrev pub DropsSpare : Symbolic → List Fact → Type 0
DropsSpare S drops = (u x : Name) → Spares (stands_at S u) x → list_any (λ d. same_name d.at u && same_name d.variable x) drops ≡ false

pub known_spared : (S : Symbolic) (drops : List Fact) (r : Entered) → Begins S drops r → DropsSpare S drops → (u x : Name) (v : Value) → Spares (stands_at S u) x → fact S.facts u x ≡ Some v → fact r.known u x ≡ Some v
known_spared S drops r b d u x v s e =
    ap (λ F. fact F u x) b.known
    ∙ fact_where (λ q. not (list_any (λ d. same_name d.at q.0 && same_name d.variable q.1) drops)) S.facts u x
    ∙ ap (λ k. cond (not k) (fact S.facts u x) None) (d u x s) ∙ e

-- where a premise starts
pub start_spared : (S : Symbolic) (drops : List Fact) (r : Entered) → Begins S drops r → DropsSpare S drops → Spared S r.start
start_spared S drops r b d = record { code = b.code; facts = λ u x v s e. b.begun u x v s (known_spared S drops r b d u x v s e) }

codes_unfocused : (looks : Scope) (ts : List Thread) → codes (unfocused looks ts) ≡ codes ts
codes_unfocused Everything ts = refl
codes_unfocused (Outside s) ts = codes_with_mode s Each ts
codes_unfocused (Inside s) ts = codes_with_mode s Each ts

rests_spare : (S : Symbolic) (os : List Owner) (ts : List Thread) → RestsSpare S os → (u x : Name) → Spares (stands_at S u) x → Spares (codes ts u) x → Spares (codes (at_rests os ts) u) x
rests_spare S [] ts h u x s k = k
rests_spare S (o ∷ os) ts h u x s k =
    rests_spare S os (with_code o.name o.rest ts) h.1 u x s (spares_with_code o.name o.rest ts u x k (λ q. h.0 x (subst (λ z. Spares (stands_at S z) x) (sym (exact_name o.name u q)) s)))

-- where it is closed
pub close_spared : (S : Symbolic) (drops : List Fact) (r : Entered) → Begins S drops r → DropsSpare S drops → (E : Symbolic) → Spared r.start E → Spared S (after_close r E)
close_spared S drops r b d E g = record {
  code = λ u x s. rests_spare S r.owners (unfocused (looks r.kind) E.threads) b.rests u x s (subst (λ (f : Name → Code). Spares (f u) x) (sym (codes_unfocused (looks r.kind) E.threads)) (g.code u x (b.code u x s)));
  facts = λ u x v s e.
      let k = known_spared S drops r b d u x v s e in
      b.learns (joined (facts_where (λ q. looks_at (looks r.kind) q.0) r.known) (facts_where (λ q. not (looks_at (looks r.kind) q.0)) E.facts)) u x v s
      (facts_after (looks_at (looks r.kind)) r.known E.facts u x ∙ either (looks_at (looks r.kind) u) (fact r.known u x) (fact E.facts u x) v k (g.facts u x v (b.code u x s) (b.begun u x v s k)));
}
  where
    either : (c : Bool) (o p : Option Value) (v : Value) → o ≡ Some v → p ≡ Some v → (if c then o else p) ≡ Some v
    either true o p v e f = e
    either false o p v e f = f

pub close_sorted : (S : Symbolic) (drops : List Fact) (r : Entered) → Begins S drops r → (E : Symbolic) → Sorted E.facts → Sorted (after_close r E).facts
close_sorted S drops r b E h = b.learns_sorted _ (sorted_joined (facts_where (λ q. looks_at (looks r.kind) q.0) r.known) (facts_where (λ q. not (looks_at (looks r.kind) q.0)) E.facts) (sorted_where _ E.facts h))

pub known_sorted : (S : Symbolic) (drops : List Fact) (r : Entered) → Begins S drops r → Sorted S.facts → Sorted r.known
known_sorted S drops r b h = subst Sorted (sym b.known) (sorted_where _ S.facts h)
