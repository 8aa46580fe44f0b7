-- A `for`, a gather and a pick, from the tests of entry and close to what they say of readings.
use Rattle.std.proofs.Common.{◌≡◌, zero, suc, Bool, true, false, List, [], ◌∷◌, map, Option, Some, None, refl, sym, ap, ◌∙◌, subst}
use Rattle.std.specs.Prelude.{if◌then◌else◌, ◌||◌, not, Ok}
use Rattle.std.proofs.lemmas.Option.{same_Some}
use Rattle.brisk_values.specs.declared.value.Value.{Value}
use Rattle.brisk_values.specs.Names.{Name, same_name}
use Rattle.brisk_values.proofs.Changes.{name_laws, exact_name}
use Rattle.brisk_syntax.specs.declared.program.Decl.{Decl}
use Rattle.brisk_syntax.specs.declared.program.Program.{Program}
use Rattle.brisk_syntax.specs.declared.tree.Who.TheVariants as who
use Rattle.brisk_syntax.specs.Substitution.{who_with, code_with}
use Rattle.brisk_syntax.specs.Syntax.{For, Code, done, ◌⨾◌, ◌then◌}
use Rattle.brisk_syntax.specs.Typing.{is_among}
use Rattle.brisk_seq.specs.Items.{Items}
use Rattle.brisk_seq.specs.Items as item
use Rattle.brisk_facts.specs.Facts.{fact}
use Rattle.brisk_state.specs.declared.thread.Mode.{Mode}
use Rattle.brisk_state.specs.declared.thread.Mode.TheVariants.{One, At, Each}
use Rattle.brisk_state.specs.declared.thread.Thread.{Thread}
use Rattle.brisk_state.specs.Symbolic.{Key, Symbolic, thread_named, with_code, with_mode, numbers_at}
use Rattle.brisk_basic.specs.declared.rule.RuleFault.TheVariants.{WrongHead}
use Rattle.brisk_basic.specs.Outcomes.{and_then}
use Rattle.brisk_derivation.specs.declared.steps.Fact.{Fact}
use Rattle.brisk_rules.specs.declared.why.Why.TheVariants.{Rule}
use Rattle.brisk_rules.specs.Heads as heads
use Rattle.brisk_rules.specs.Heads.{for_of, any_of, gather_of, from_focus}
use Rattle.brisk_rules.specs.Rules as rules
use Rattle.brisk_rules.specs.Rules.{Outcome, without_drops, mode_of, can_focus, loops_of, at_bodies, with_rests, Entered, enter_for}
use Rattle.brisk_sound.proofs.Advance.{Test, with_test, Once}
use Rattle.brisk_sound.proofs.Closing.{Closed}
use Rattle.brisk_sound.proofs.Covers.{marked}
use Rattle.brisk_sound.proofs.Derives.{Fors}
use Rattle.brisk_sound.proofs.Entered.{Opens, dropped, drops_weaken}
use Rattle.brisk_rules.proofs.Fulfilled.{and_then_ok, same_ok, when_ok, at_head_ok}
use Rattle.brisk_sound.proofs.Focused.{among, owned, owners_among, AllThere, recode, owners_with, rests_recode, begins, tidy_opened, owner_done, stands_still, mail_still, facts_still, modes_closed, codes_closed, names_closed, facts_closed, kept_opened, free_end, inner_end}
use Rattle.brisk_sound.proofs.Fine.{Fine, fine_map}
use Rattle.brisk_sound.proofs.For.{Loop, owners, after_for}
use Rattle.brisk_sound.proofs.Free.{Free}
use Rattle.brisk_sound.proofs.Kept.{Kept, kept_then, kept_weaker, kept_for, free_with, Tidy}
use Rattle.brisk_rules.proofs.Readings.{reading, is_active}
use Rattle.brisk_rules.proofs.Threads.{names, modes, codes, Moved}
use Rattle.std.proofs.Math.Bool.{or-true}
use Rattle.std.proofs.lemmas.Bool.{not-true}

-- the loop at which code stands
abbrev loop_at : Code → Loop
loop_at (For v s k b ⨾ rest) = record { binder = v; body = b; rest = rest }
loop_at c = record { binder = []; body = done; rest = done }

-- the same as a head of a `for` over the set
abbrev as_head : Name → Loop → heads.Loop
as_head s l = record { set = s; body = code_with l.binder (who.At s) l.body; rest = l.rest }

-- the code is at this loop, which hasn't begun
abbrev StandsAt : Name → Code → Type 0
StandsAt s c = c ≡ For (loop_at c).binder s 0 (loop_at c).body ⨾ (loop_at c).rest

for_is : (s : Name) (c : Code) (l : heads.Loop) → for_of s c ≡ Some l → (l ≡ as_head s (loop_at c)) × StandsAt s c
for_is s (For v r zero b ⨾ rest) l e =
    elim (same_name s r) as (λ t. same_name s r ≡ t → (if t then Some (as_head s record { binder = v; body = b; rest = rest }) else None) ≡ Some l → (l ≡ as_head s record { binder = v; body = b; rest = rest }) × (For v r 0 b ⨾ rest ≡ For v s 0 b ⨾ rest)) [
      | true ↦ λ t g. (sym (same_Some _ l g), λ i. For v (sym (exact_name s r t) i) 0 b ⨾ rest)
      | false ↦ λ t g. cc
    ] refl e
for_is s (For v r (suc k) b ⨾ rest) l e = cc
for_is s c l e = cc

can_focus_ok : {A : Type 0} (m : Option Mode) (more : Outcome A) (a : A) → can_focus m more ≡ Ok a → (m ≡ Some Each) × (more ≡ Ok a)
can_focus_ok None more a e = cc
can_focus_ok (Some One) more a e = cc
can_focus_ok (Some At) more a e = cc
can_focus_ok (Some Each) more a e = (refl, e)

not_active : (m : Option Mode) → m ≡ Some Each → is_active m ≡ true → ⊥
not_active None e a = cc
not_active (Some One) e a = cc
not_active (Some At) e a = cc
not_active (Some Each) e a = cc

module _ (S : Symbolic) (s : Name) where
  -- the loop at which a thread stands
  abbrev loop_of : Name → Loop
  loop_of u = loop_at (codes S.threads u)

  -- the owners: each is moved, stands at a loop over the set, and isn't named before
  abbrev AllOwn : List Name → List Name → Type 0
  AllOwn before [] = Unit {0}
  AllOwn before (t ∷ ts) = Moved S.threads t (codes S.threads t) × StandsAt s (codes S.threads t) × (is_among before t ≡ false) × AllOwn (t ∷ before) ts

  loops_own : (before ts : List Name) (ls : List heads.Loop) → loops_of S s before ts ≡ Ok ls → (ls ≡ map (λ t. as_head s (loop_of t)) ts) × AllOwn before ts
  loops_own before [] ls e = (sym (same_ok [] ls e), tt)
  loops_own before (t ∷ ts) ls e =
      let h = at_head_ok S t (for_of s) _ ls e in let m = h.2 in
      let f = for_is s h.1 h.0 h.3 in
      let w = when_ok (not (is_among before t)) (Rule WrongHead) (and_then (loops_of S s (t ∷ before) ts) (λ ls. Ok (h.0 ∷ ls))) ls h.4 in
      let r = and_then_ok (loops_of S s (t ∷ before) ts) (λ ls. Ok (h.0 ∷ ls)) ls w.1 in
      let more = loops_own (t ∷ before) ts r.0 r.1 in (
        sym (same_ok (h.0 ∷ r.0) ls r.2) ∙ (λ i. (f.0 ∙ ap (λ c. as_head s (loop_at c)) (sym m.stands)) i ∷ more.0 i),
        (record { mode = m.mode; there = m.there; active = m.active; stands = refl }, subst (StandsAt s) (sym m.stands) f.1, not-true (is_among before t) w.0, more.1),
      )

  own_there : (before ts : List Name) → AllOwn before ts → AllThere (modes S.threads) ts
  own_there before [] h = tt
  own_there before (t ∷ ts) h = ((h.0.mode, h.0.there), own_there (t ∷ before) ts h.3)

  -- what is known of each owner
  own_at : (before ts : List Name) → AllOwn before ts → (u : Name) → among ts u ≡ true → (is_active (modes S.threads u) ≡ true) × StandsAt s (codes S.threads u)
  own_at before [] h u a = cc
  own_at before (t ∷ ts) h u a =
      elim (same_name u t) as (λ b. same_name u t ≡ b → (b || among ts u) ≡ true → (is_active (modes S.threads u) ≡ true) × StandsAt s (codes S.threads u)) [
        | true ↦ λ e g. subst (λ (z : Name). (is_active (modes S.threads z) ≡ true) × StandsAt s (codes S.threads z)) (sym (exact_name u t e)) (h.0.active, h.1)
        | false ↦ λ e g. own_at (t ∷ before) ts h.3 u g
      ] refl a

  -- a set that all members stand for owns nothing
  set_apart : (before ts : List Name) → AllOwn before ts → modes S.threads s ≡ Some Each → among ts s ≡ false
  set_apart before ts h set =
      elim (among ts s) as (λ b. among ts s ≡ b → b ≡ false) [ true ↦ λ e. absurd (not_active (modes S.threads s) set (own_at before ts h s e).0) | false ↦ λ e. refl ] refl

  passed_more : (before : List Name) (t : Name) → with_test (is_among before) t ≡ is_among (t ∷ before)
  passed_more before t = λ i u. at u i
    where
      or_if : (a b c : Bool) → a ≡ b → (if a then true else c) ≡ (b || c)
      or_if true b c e = ap (λ z. z || c) e
      or_if false b c e = ap (λ z. z || c) e

      at : (u : Name) → with_test (is_among before) t u ≡ is_among (t ∷ before) u
      at u = or_if (same_name t u) (same_name u t) (is_among before u) (name_laws.symm t u)

  own_once : (wanted : Test) (before ts : List Name) → AllOwn before ts → ((u : Name) → among ts u ≡ true → wanted u ≡ true) → Once (modes S.threads) wanted (is_among before) ts
  own_once wanted before [] h w = tt
  own_once wanted before (t ∷ ts) h w = (
    h.0.active,
    h.2,
    w t (ap (λ b. b || among ts t) (name_laws.refl t)),
    subst (λ (p : Test). Once (modes S.threads) wanted p ts) (sym (passed_more before t)) (own_once wanted (t ∷ before) ts h.3 (λ u a. w u (ap (λ b. same_name u t || b) a ∙ or-true (same_name u t)))),
  )

-- bodies and rests of loops as codes by name
bodies_recode : (s : Name) (L : Name → Loop) (ts : List Name) (threads : List Thread) → at_bodies ts (map (λ t. as_head s (L t)) ts) threads ≡ recode ts (λ u. code_with (L u).binder (who.At s) (L u).body) threads
bodies_recode s L [] threads = refl
bodies_recode s L (t ∷ ts) threads = bodies_recode s L ts (with_code t (code_with (L t).binder (who.At s) (L t).body) threads)

rests_owned : (s : Name) (L : Name → Loop) (ts : List Name) → with_rests ts (map (λ t. as_head s (L t)) ts) ≡ owners_with (λ u. (L u).rest) ts
rests_owned s L [] = refl
rests_owned s L (t ∷ ts) = ap (λ os. record { name = t; rest = (L t).rest } ∷ os) (rests_owned s L ts)

pub not_both_of : (s : Name) (k : Key) → same_name s k.from ≡ false → same_name s k.to ≡ false → not (same_name s k.from || same_name s k.to) ≡ true
not_both_of s k a b = λ i. not (a i || b i)

-- the facts after a close outside the set
pub facts_outside : (s u x : Name) (f g : Name → Name → Option Value) → (if not (same_name s u) then f u x else g u x) ≡ (if same_name s u then g s else f u) x
facts_outside s u x f g =
    elim (same_name s u) as (λ b. same_name s u ≡ b → (if not b then f u x else g u x) ≡ (if b then g s else f u) x) [ true ↦ λ e. ap (λ z. g z x) (sym (exact_name s u e)) | false ↦ λ e. refl ] refl

-- for s by ts
module _ (P : Program) (S : Symbolic) (s : Name) (ts : List Name) (drops : List Fact) where
  abbrev L : Name → Loop
  L = loop_of S s

  abbrev body : Name → Code
  body u = code_with (L u).binder (who.At s) (L u).body

  abbrev rest : Name → Code
  rest u = (L u).rest

  abbrev with_loops : List heads.Loop → Entered
  with_loops ls = record {
    start = record S { threads = at_bodies ts ls (with_mode s At S.threads); facts = without_drops drops S.facts };
    known = without_drops drops S.facts;
    owners = with_rests ts ls;
    kind = rules.For s;
  }

  abbrev entered : Entered
  entered = record {
    start = record S { threads = recode ts body (with_mode s At S.threads); facts = without_drops drops S.facts };
    known = without_drops drops S.facts;
    owners = owners_with rest ts;
    kind = rules.For s;
  }

  loops_path : (ls : List heads.Loop) → ls ≡ map (λ t. as_head s (L t)) ts → with_loops ls ≡ entered
  loops_path ls is = ap with_loops is ∙ (λ i. record {
    start = record S { threads = bodies_recode s L ts (with_mode s At S.threads) i; facts = without_drops drops S.facts };
    known = without_drops drops S.facts;
    owners = rests_owned s L ts i;
    kind = rules.For s;
  })

  module _ (set : modes S.threads s ≡ Some Each) (own : AllOwn S s [] ts) where
    there : AllThere (modes S.threads) ts
    there = own_there S s [] ts own

    not_owner : owners ts s ≡ false
    not_owner = owners_among ts s ∙ set_apart S s [] ts own set

    stands_at : (t : Name) → owners ts t ≡ true → codes S.threads t ≡ For (L t).binder s 0 (L t).body ⨾ (L t).rest
    stands_at t o = (own_at S s [] ts own t (sym (owners_among ts t) ∙ o)).1

    fine_parts : (ds : List Decl) (t : Name) → owners ts t ≡ true → Fine P ds (codes S.threads t) → Fine P ds (body t) × Fine P ds (rest t)
    fine_parts ds t o f = let h = subst (Fine P ds) (stands_at t o) f in (fine_map P ds (who_with (L t).binder (who.At s)) (L t).body h.0.2, h.1)

    bodies : (r t : Name) → owners ts t ≡ true → same_name r s ≡ false → Free r (codes S.threads t) → Free r (body t)
    bodies r t o n f = free_with r (L t).binder s (L t).body n (subst (Free r) (stands_at t o) f).0

    rests : (r t : Name) → owners ts t ≡ true → Free r (codes S.threads t) → Free r (rest t)
    rests r t o f = (subst (Free r) (stands_at t o) f).1

    module _ (E S' : Symbolic) (named : names E.threads ≡ names entered.start.threads) (kept : Kept P (reading entered.start) (reading E)) (k : Closed entered E S') where
      for_next : reading S' ≡ after_for (dropped S drops) s ts L (reading E)
      for_next =
          sym (ap reading k.next)
          ∙ (λ i. record {
            mode = ((λ j. modes (rests_recode rest ts (with_mode s Each E.threads) j)) ∙ modes_closed P S s ts body rest drops (rules.For s) set there not_owner E S' named kept k) i;
            code = ((λ j. codes (rests_recode rest ts (with_mode s Each E.threads) j)) ∙ codes_closed P S s ts body rest drops (rules.For s) set there not_owner E S' named kept k ∙ (λ j u. code u j)) i;
            pending = numbers_at E.pending;
            facts = λ u x. (facts_closed P S s ts body rest drops (rules.For s) set there not_owner E S' named kept k u x ∙ facts_outside s u x (dropped S drops).facts (fact E.facts)) i;
          })
        where
          code : (u : Name) → (if owners ts u then rest u else codes E.threads u) ≡ (if same_name s u then codes E.threads s else (if owners ts u then rest u else codes S.threads u))
          code u =
              elim (same_name s u) as (λ b. same_name s u ≡ b → (if owners ts u then rest u else codes E.threads u) ≡ (if b then codes E.threads s else (if owners ts u then rest u else codes S.threads u))) [
                | true ↦ λ e. (λ i. if owners ts (sym (exact_name s u e) i) then rest u else codes E.threads u) ∙ ap (λ b. if b then rest u else codes E.threads u) not_owner ∙ ap (codes E.threads) (sym (exact_name s u e))
                | false ↦ λ e. elim (owners ts u) as (λ b. owners ts u ≡ b → (if b then rest u else codes E.threads u) ≡ (if b then rest u else codes S.threads u)) [
                  | true ↦ λ o. refl
                  | false ↦ λ o. stands_still P S s ts body rest drops (rules.For s) set there not_owner E S' named kept k u (ap not e) o
                ] refl
              ] refl

      for_is_fors : Tidy P (reading S) → Fors S entered.start E S' s ts
      for_is_fors tidy = record {
        base = dropped S drops;
        weaker = drops_weaken S drops;
        loops = L;
        entry = record {
          set = set;
          once = own_once S s (owners ts) [] ts own (λ u a. owners_among ts u ∙ a);
          is = stands_at;
          not_owner = not_owner;
          free = λ u. tidy.closed s u set;
        };
        begins = begins P S s ts body rest drops (rules.For s) set there not_owner;
        exit = record {
          closes = record {
            mode = (kept_opened P S s ts body rest drops (rules.For s) set there not_owner E S' named kept k).mode;
            mail = λ q a b. mail_still P S s ts body rest drops (rules.For s) set there not_owner E S' named kept k q (not_both_of s q a b);
            inner = inner_end P S s ts body rest drops (rules.For s) set there not_owner E S' named kept k tidy;
            facts = λ u x v a e. facts_still P S s ts body rest drops (rules.For s) set there not_owner E S' named kept k u x v (ap not a) e;
            free = free_end P S s ts body rest drops (rules.For s) set there not_owner E S' named kept k tidy;
          };
          owner = owner_done P S s ts body rest drops (rules.For s) set there not_owner E S' named kept k;
          code = λ u o a. stands_still P S s ts body rest drops (rules.For s) set there not_owner E S' named kept k u (ap not a) o;
        };
        next = for_next;
      }

      for_named : names S'.threads ≡ names S.threads
      for_named =
          ap (λ (z : Symbolic). names z.threads) (sym k.next) ∙ (λ j. names (rests_recode rest ts (with_mode s Each E.threads) j))
          ∙ names_closed P S s ts body rest drops (rules.For s) set there not_owner E S' named kept k

      for_kept : Kept P (reading S) (reading S')
      for_kept =
          subst (Kept P (reading S)) (sym for_next)
          (kept_then P (reading S) (dropped S drops) _ (kept_weaker P (reading S) (dropped S drops) (drops_weaken S drops))
          (kept_for P (dropped S drops) s (owners ts) body rest (reading E) _ not_owner fine_parts bodies rests
          (kept_opened P S s ts body rest drops (rules.For s) set there not_owner E S' named kept k)))

    for_opened : Opens P S entered (λ E S'. Fors S entered.start E S' s ts) (item.For s) (owners ts) (marked s)
    for_opened = record {
      owns = λ u. owned rest ts u ∙ sym (owners_among ts u);
      pieces = λ code. refl;
      gives = λ X. refl;
      tidy = tidy_opened P S s ts body rest drops (rules.For s) set there not_owner (λ ds t o f. (fine_parts ds t o f).0) bodies;
      closes = λ E S' tidy named kept k. (for_is_fors E S' named kept k tidy, for_named E S' named kept k, for_kept E S' named kept k);
    }

pub for_opens : (P : Program) (S : Symbolic) (s : Name) (ts : List Name) (drops : List Fact) (r : Entered) → enter_for S s ts drops ≡ Ok r → Opens P S r (λ E S'. Fors S r.start E S' s ts) (item.For s) (owners ts) (marked s)
for_opens P S s ts drops r e =
    let c = can_focus_ok (mode_of (thread_named S.threads s)) _ r e in
    let x = and_then_ok (loops_of S s [] ts) _ r c.1 in
    let own = loops_own S s [] ts x.0 x.1 in
    subst (λ (z : Entered). Opens P S z (λ E S'. Fors S z.start E S' s ts) (item.For s) (owners ts) (marked s)) (sym (loops_path P S s ts drops x.0 own.0) ∙ same_ok _ r x.2) (for_opened P S s ts drops c.0 own.1)
