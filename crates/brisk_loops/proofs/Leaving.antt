-- How a rule with one premise is left.
use Rattle.std.proofs.Common.{◌≡◌, Bool, true, false, cond, List, [], ◌∷◌, map, Option, Some, refl, sym, ap, ◌∙◌, subst}
use Rattle.std.specs.Prelude.{zero, None, Ok, Err, ◌&&◌, ◌||◌, not}
use Rattle.std.specs.List.{list_all}
use Rattle.std.proofs.lemmas.Option.{same_Some}
use Rattle.brisk_values.specs.Names.{Name, same_name}
use Rattle.brisk_values.proofs.Changes.{name_laws}
use Rattle.brisk_syntax.specs.declared.program.Program.{Program}
use Rattle.brisk_syntax.specs.Segments.{head_of, rest_of}
use Rattle.brisk_syntax.specs.Syntax.{Expression, While, Repeat, RecvAny, Code, done, ◌⨾◌}
use Rattle.brisk_async.specs.Laws.{AnyReceive}
use Rattle.brisk_facts.specs.Facts.{Facts, facts_where, is_fact}
use Rattle.brisk_state.specs.declared.thread.Mode.{Mode}
use Rattle.brisk_state.specs.declared.thread.Mode.TheVariants.{One, At, Each}
use Rattle.brisk_state.specs.declared.thread.Thread.{Thread}
use Rattle.brisk_state.specs.Same.{same_code}
use Rattle.brisk_state.specs.Symbolic.{Symbolic, code_at, thread_named, with_code, with_mode, pending_where, same_pending}
use Rattle.brisk_basic.specs.Outcomes.{when}
use Rattle.brisk_derivation.specs.declared.fault.SideFault.TheVariants.{NotRestored, MailChanged, FactLost, MayBeEmpty}
use Rattle.brisk_derivation.specs.declared.steps.Fact.{Fact}
use Rattle.brisk_rules.specs.declared.why.Why.TheVariants.{Side}
use Rattle.brisk_loops.specs.declared.fault.Refusal.{Refusal}
use Rattle.brisk_loops.specs.EnterSeen.{Refuses}
use Rattle.brisk_loops.specs.CloseSeen.{is_looked_at, closing}
use Rattle.brisk_rules.specs.Heads.{while_of, repeat_of, gather_of, any_of, from_focus}
use Rattle.brisk_loops.specs.HeadsSeen.{while_in, repeat_in, gather_in, any_in}
use Rattle.brisk_loops.specs.LeaveSeen.{StartsLike, closed_state}
use Rattle.brisk_rules.specs.Rules.{Outcome, Kind, Owner, Entered, looks, looks_at, looks_at_key, unless, first_fault, unfinished, not_restored, close_tests, last_tests, close, after_close, fault_or, without_drops, entered_alone, entered_any, enter_while, enter_repeat, enter_gather, enter_pick, mode_of, not_focused, is_nonempty}
use Rattle.brisk_rules.specs.Rules as rules
use Rattle.brisk_rules.specs.Standing.{fault_aside}
use Rattle.brisk_loops.specs.Walk.{Premise, in_premise}
use Rattle.brisk_rules.proofs.Fulfilled.{same_ok, when_ok, at_head_ok}
use Rattle.brisk_loops.proofs.Entering.{at_code, gather_heard, any_heard}

-- a thread that the close doesn't look at, or that has another mode, changes no test
pub code_moved : (look : Name → Bool) (t : Name) (c : Code) → ((u : Name) → same_name t u ≡ true → look u ≡ false) → (ts us : List Thread) → not_restored look (with_code t c ts) us ≡ not_restored look ts us
code_moved look t c free [] us = refl
code_moved look t c free (x ∷ ts) [] = elim (same_name t x.name) as (λ b. not_restored look (cond b (record x { code = c }) x ∷ with_code t c ts) [] ≡ None) [ true ↦ refl | false ↦ refl ]
code_moved look t c free (x ∷ ts) (y ∷ us) =
    elim (same_name t x.name) as (λ b. same_name t x.name ≡ b → not_restored look (cond b (record x { code = c }) x ∷ with_code t c ts) (y ∷ us) ≡ not_restored look (x ∷ ts) (y ∷ us)) [
      | true ↦ λ s. (λ i. first_fault (cond (free x.name s i) (unless (same_code c y.code) (NotRestored x.name)) None ∷ code_moved look t c free ts us i ∷ []))
          ∙ (λ i. first_fault (cond (sym (free x.name s) i) (unless (same_code x.code y.code) (NotRestored x.name)) None ∷ not_restored look ts us ∷ []))
      | false ↦ λ s. (λ i. first_fault (cond (look x.name) (unless (same_code x.code y.code) (NotRestored x.name)) None ∷ code_moved look t c free ts us i ∷ []))
    ] refl

pub mode_moved : (look : Name → Bool) (s : Name) (m : Mode) (ts us : List Thread) → not_restored look (with_mode s m ts) us ≡ not_restored look ts us
mode_moved look s m [] us = refl
mode_moved look s m (x ∷ ts) [] = elim (same_name s x.name) as (λ b. not_restored look (cond b (record x { mode = m }) x ∷ with_mode s m ts) [] ≡ None) [ true ↦ refl | false ↦ refl ]
mode_moved look s m (x ∷ ts) (y ∷ us) =
    elim (same_name s x.name) as (λ b. not_restored look (cond b (record x { mode = m }) x ∷ with_mode s m ts) (y ∷ us) ≡ not_restored look (x ∷ ts) (y ∷ us)) [
      | true ↦ (λ i. first_fault (cond (look x.name) (unless (same_code x.code y.code) (NotRestored x.name)) None ∷ mode_moved look s m ts us i ∷ []))
      | false ↦ (λ i. first_fault (cond (look x.name) (unless (same_code x.code y.code) (NotRestored x.name)) None ∷ mode_moved look s m ts us i ∷ []))
    ]

never : (b c : Bool) → c ≡ true → (b && not (c || false)) ≡ false
never true true h = refl
never false true h = refl
never b false h = absurd cc

-- the only owner is exempt
exempt : (kind : Kind) (t : Name) (rest : Code) (u : Name) → same_name t u ≡ true → is_looked_at kind (record { name = t; rest = rest } ∷ []) u ≡ false
exempt kind t rest u s = never (looks_at (looks kind) u) (same_name u t) (name_laws.symm u t ∙ s)

pub alone_like : (S : Symbolic) (t : Name) (body rest : Code) (drops : List Fact) (kind : Kind) → StartsLike (entered_alone S t body rest (without_drops drops S.facts) kind) drops S
alone_like S t body rest drops kind = (refl, refl, λ E. code_moved (is_looked_at kind (record { name = t; rest = rest } ∷ [])) t body (exempt kind t rest) S.threads E.threads)

pub any_like : (S : Symbolic) (t : Name) (a : AnyReceive) (drops : List Fact) (kind : Kind) → StartsLike (entered_any S t a drops kind) drops S
any_like S t a drops kind =
    let look = is_looked_at kind (record { name = t; rest = a.rest } ∷ []) in
    (refl, refl, λ E. code_moved look t (from_focus a) (exempt kind t a.rest) (with_mode a.set At S.threads) E.threads ∙ mode_moved look a.set At S.threads E.threads)

-- so the close gives what it gives from before
pub like_close : (r : Entered) (drops : List Fact) (S : Symbolic) → StartsLike r drops S → (E : Symbolic) → close r E ≡ close (closing r.kind r.owners drops S) E
like_close r drops S like E =
    λ i. fault_or (first_fault (first_fault (map (unfinished E) r.owners) ∷ like.2 E i
    ∷ unless (same_pending (pending_where (looks_at_key (looks r.kind)) (like.1 i)) (pending_where (looks_at_key (looks r.kind)) E.pending)) MailChanged
    ∷ unless (list_all (is_fact E.facts) (facts_where (λ q. looks_at (looks r.kind) q.0) (like.0 i))) FactLost ∷ last_tests r.kind E))
    (after_close (record r { known = like.0 i }) E)

-- facts aside, its tests are those from before
pub aside_like : (r : Entered) (drops : List Fact) (S E : Symbolic) (owners : List Owner) (kind : Kind) → StartsLike r drops S → owners ≡ r.owners → kind ≡ r.kind → fault_aside (closing kind owners [] S) E ≡ fault_aside r E
aside_like r drops S E owners kind like o k =
    (λ i. fault_aside (closing (k i) (o i) [] S) E)
    ∙ (λ i. first_fault (first_fault (map (unfinished E) r.owners) ∷ sym (like.2 E) i
    ∷ unless (same_pending (pending_where (looks_at_key (looks r.kind)) (sym like.1 i)) (pending_where (looks_at_key (looks r.kind)) E.pending)) MailChanged
    ∷ None ∷ last_tests r.kind E))

pub while_closes : (S : Symbolic) (t : Name) (drops : List Fact) (code : Code) (e : Expression) (b : Code) (r : Entered) → Some code ≡ code_at S t → Some (e, b) ≡ while_in (head_of code) → enter_while S t drops ≡ Ok r →
    (record { name = t; rest = rest_of code } ∷ [] ≡ r.owners) × (rules.While t e ≡ r.kind)
while_closes S t drops (While f c ⨾ rest) e b r at is enters =
    let h : entered_alone S t c rest (without_drops drops S.facts) (rules.While t f) ≡ r =
    same_ok _ r (sym (at_code S t (While f c ⨾ rest) while_of _ (λ w. Ok (entered_alone S t w.body w.rest (without_drops drops S.facts) (rules.While t w.guard))) at refl) ∙ enters) in
    (ap (λ (z : Entered). z.owners) h, (λ i. rules.While t (same_Some _ _ is i).0) ∙ ap (λ (z : Entered). z.kind) h)
while_closes S t drops code e b r at is enters = absurd cc

pub repeat_closes : (S : Symbolic) (t : Name) (drops : List Fact) (code : Code) (s : Name) (b : Code) (r : Entered) → Some code ≡ code_at S t → Some (s, b) ≡ repeat_in (head_of code) → enter_repeat S t drops ≡ Ok r →
    (record { name = t; rest = rest_of code } ∷ [] ≡ r.owners) × (rules.Repeat s ≡ r.kind)
repeat_closes S t drops (Repeat q zero c ⨾ rest) s b r at is enters =
    let h : entered_alone S t c rest (without_drops drops S.facts) (rules.Repeat q) ≡ r =
    same_ok _ r (sym (at_code S t (Repeat q zero c ⨾ rest) repeat_of _ (λ w. Ok (entered_alone S t w.body w.rest (without_drops drops S.facts) (rules.Repeat w.set))) at refl) ∙ enters) in
    (ap (λ (z : Entered). z.owners) h, (λ i. rules.Repeat (same_Some _ _ is i).0) ∙ ap (λ (z : Entered). z.kind) h)
repeat_closes S t drops code s b r at is enters = absurd cc

module _ (r : Entered) (drops : List Fact) (S E : Symbolic) (owners : List Owner) (kind : Kind) where
  abbrev seen : Entered
  seen = closing kind owners drops S

  seen_is : owners ≡ r.owners → kind ≡ r.kind → seen ≡ closing r.kind r.owners drops S
  seen_is o k = λ i. closing (k i) (o i) drops S

  pub tested_refuses : (why : Refusal) → StartsLike r drops S → owners ≡ r.owners → kind ≡ r.kind → Refuses (close seen E) why → Refuses (close r E) why
  tested_refuses why like o k h = subst (λ (z : Outcome Symbolic). Refuses z why) (ap (λ z. close z E) (seen_is o k) ∙ sym (like_close r drops S like E)) h

  pub tested_close : (F : Facts) → StartsLike r drops S → owners ≡ r.owners → kind ≡ r.kind → first_fault (close_tests seen E) ≡ None → F ≡ (after_close seen E).facts → close r E ≡ Ok (closed_state r.kind owners F E)
  tested_close F like o k none facts =
      like_close r drops S like E ∙ ap (λ z. close z E) (sym (seen_is o k)) ∙ (λ i. fault_or (none i) (after_close seen E)) ∙ (λ i. Ok (closed_state (k i) owners (sym facts i) E))

abbrev by_gather : Symbolic → Name → List Fact → AnyReceive → Outcome Entered
by_gather S t drops z = not_focused (mode_of (thread_named S.threads z.set)) (Ok (entered_any S t z drops (rules.Gather t z.set z.channel)))

not_focused_ok : {A : Type 0} (m : Option Mode) (x : Outcome A) (a : A) → not_focused m x ≡ Ok a → x ≡ Ok a
not_focused_ok (Some At) x a h = absurd cc
not_focused_ok (Some Each) x a h = h
not_focused_ok (Some One) x a h = h
not_focused_ok None x a h = h

pub gather_closes : (S : Symbolic) (t : Name) (drops : List Fact) (code : Code) (a : AnyReceive) (r : Entered) → Some code ≡ code_at S t → Some a ≡ gather_in (head_of code) → enter_gather S t drops ≡ Ok r →
    (record { name = t; rest = rest_of code } ∷ [] ≡ r.owners) × (rules.Gather t a.set a.channel ≡ r.kind)
gather_closes S t drops code a r at is enters =
    let g = gather_heard code a is in
    let h : entered_any S t (record a { rest = g.0 }) drops (rules.Gather t a.set a.channel) ≡ r =
    same_ok _ r (not_focused_ok (mode_of (thread_named S.threads a.set)) _ r (sym (at_code S t code gather_of _ (by_gather S t drops) at g.1) ∙ enters)) in
    ((λ i. record { name = t; rest = sym (gather_rest code _ g.1) i } ∷ []) ∙ ap (λ (z : Entered). z.owners) h, ap (λ (z : Entered). z.kind) h)
  where
    of_some : (b : Bool) (x a : AnyReceive) (rest : Code) → x.rest ≡ rest → cond b (Some x) None ≡ Some a → a.rest ≡ rest
    of_some true x a rest e h = ap (λ (z : AnyReceive). z.rest) (sym (same_Some _ _ h)) ∙ e
    of_some false x a rest e h = absurd cc

    gather_rest : (code : Code) (a : AnyReceive) → gather_of code ≡ Some a → a.rest ≡ rest_of code
    gather_rest (Repeat s zero (RecvAny c xs v q b ⨾ done) ⨾ rest) a h = of_some (same_name s q) _ a rest refl h
    gather_rest code a h = absurd cc

abbrev by_pick : Program → Symbolic → Name → List Fact → AnyReceive → Outcome Entered
by_pick P S t drops z = not_focused (mode_of (thread_named S.threads z.set)) (when (is_nonempty P z.set) (Side MayBeEmpty) (Ok (entered_any S t z drops (rules.Pick z.set))))

pub pick_closes : (P : Program) (S : Symbolic) (t : Name) (drops : List Fact) (code : Code) (a : AnyReceive) (r : Entered) → Some code ≡ code_at S t → Some a ≡ any_in (head_of code) → enter_pick P S t drops ≡ Ok r →
    (record { name = t; rest = rest_of code } ∷ [] ≡ r.owners) × (rules.Pick a.set ≡ r.kind)
pick_closes P S t drops code a r at is enters =
    let g = any_heard code a is in
    let h : entered_any S t (record a { rest = g.0 }) drops (rules.Pick a.set) ≡ r =
    same_ok _ r (when_ok (is_nonempty P a.set) (Side MayBeEmpty) _ r (not_focused_ok (mode_of (thread_named S.threads a.set)) _ r (sym (at_code S t code any_of _ (by_pick P S t drops) at g.1) ∙ enters))).1 in
    ((λ i. record { name = t; rest = sym (any_rest code _ g.1) i } ∷ []) ∙ ap (λ (z : Entered). z.owners) h, ap (λ (z : Entered). z.kind) h)
  where
    any_rest : (code : Code) (a : AnyReceive) → any_of code ≡ Some a → a.rest ≡ rest_of code
    any_rest (RecvAny c xs v s b ⨾ rest) a h = ap (λ (z : AnyReceive). z.rest) (sym (same_Some _ _ h))
    any_rest code a h = absurd cc

-- what is entered by a loop's step is entered by its rule
pub premise_of : (x : Outcome Entered) (r : Entered) → in_premise x ≡ Ok (Premise r) → x ≡ Ok r
premise_of (Ok q) r e = ap Ok (premise_is q r (same_ok _ _ e))
  where
    premise_is : (q r : Entered) → Premise q ≡ Premise r → q ≡ r
    premise_is q r h = cc
premise_of (Err why) r e = absurd cc

pub while_like : (S : Symbolic) (t : Name) (drops : List Fact) (r : Entered) → enter_while S t drops ≡ Ok r → StartsLike r drops S
while_like S t drops r e = let h = at_head_ok S t while_of _ r e in subst (λ (z : Entered). StartsLike z drops S) (same_ok _ r h.4) (alone_like S t h.0.body h.0.rest drops (rules.While t h.0.guard))

pub repeat_like : (S : Symbolic) (t : Name) (drops : List Fact) (r : Entered) → enter_repeat S t drops ≡ Ok r → StartsLike r drops S
repeat_like S t drops r e = let h = at_head_ok S t repeat_of _ r e in subst (λ (z : Entered). StartsLike z drops S) (same_ok _ r h.4) (alone_like S t h.0.body h.0.rest drops (rules.Repeat h.0.set))

pub gather_like : (S : Symbolic) (t : Name) (drops : List Fact) (r : Entered) → enter_gather S t drops ≡ Ok r → StartsLike r drops S
gather_like S t drops r e =
    let h = at_head_ok S t gather_of _ r e in
    subst (λ (z : Entered). StartsLike z drops S) (same_ok _ r (not_focused_ok (mode_of (thread_named S.threads h.0.set)) _ r h.4)) (any_like S t h.0 drops (rules.Gather t h.0.set h.0.channel))

pub pick_like : (P : Program) (S : Symbolic) (t : Name) (drops : List Fact) (r : Entered) → enter_pick P S t drops ≡ Ok r → StartsLike r drops S
pick_like P S t drops r e =
    let h = at_head_ok S t any_of _ r e in
    subst (λ (z : Entered). StartsLike z drops S) (same_ok _ r (when_ok (is_nonempty P h.0.set) (Side MayBeEmpty) _ r (not_focused_ok (mode_of (thread_named S.threads h.0.set)) _ r h.4)).1) (any_like S t h.0 drops (rules.Pick h.0.set))
