-- No try of a pick of the centre closes.
use Rattle.std.proofs.Common.{◌≡◌, ◌⊎◌, inl, inr, ℕ, suc, ◌+◌, ◌<◌, ◌≤◌, Bool, true, false, List, [], ◌∷◌, ◌++◌, map, length, Some, None, refl, sym, ap, ◌∙◌, subst, arith}
use Rattle.std.specs.Prelude.{◌&&◌, ◌||◌, not, if◌then◌else◌, Ok, nat_lt}
use Rattle.std.specs.List.{list_any}
use Rattle.std.proofs.lemmas.Bool.{ltb-true, not-true}
use Rattle.std.proofs.lemmas.Option.{same_Some}
use Rattle.brisk_values.specs.Names.{Name, same_name, single, member}
use Rattle.brisk_values.proofs.Changes.{both_true, name_laws, changed-same, both_hold}
use Rattle.brisk_syntax.specs.declared.program.Program.{Program}
use Rattle.brisk_syntax.specs.declared.tree.Who.TheVariants as who
use Rattle.brisk_syntax.specs.Classes.{every, is_named, talks_to}
use Rattle.brisk_syntax.specs.Substitution.{code_with}
use Rattle.brisk_syntax.specs.Syntax.{RecvAny, Code, done, ◌⨾◌}
use Rattle.brisk_syntax.specs.WellTyped.{all_unbegun}
use Rattle.brisk_async.specs.Laws.{AnyReceive, any_code}
use Rattle.brisk_state.specs.declared.thread.Mode.TheVariants.{One, At}
use Rattle.brisk_state.specs.declared.thread.Thread.{Thread}
use Rattle.brisk_state.specs.Symbolic.{Symbolic, key, numbers_at, thread_named}
use Rattle.brisk_derivation.specs.declared.fault.SideFault.TheVariants.{MayBeEmpty}
use Rattle.brisk_derivation.specs.Reports.{Tries}
use Rattle.brisk_derivation.specs.declared.steps.Fact.{Fact}
use Rattle.brisk_rules.specs.Following.{Follow}
use Rattle.brisk_sound.proofs.Strict.{IsStrict}
use Rattle.brisk_rules.specs.Rules as rules
use Rattle.brisk_rules.specs.declared.why.Why.TheVariants.{Side}
use Rattle.brisk_rules.specs.Heads.{any_of, from_focus}
use Rattle.brisk_rules.specs.Rules.{Entered, first_fault, unfinished, Inside, Outside, Owner, enter_pick, is_nonempty, looks_at, looks_at_code, looks_at_key, mode_of}
use Rattle.brisk_sound.proofs.Closing.{closed, finished, first_none, kept_numbers, restored_codes}
use Rattle.brisk_rules.proofs.Fulfilled.{at_head_ok, same_ok, when_ok}
use Rattle.brisk_rules.proofs.Threads.{names, codes}
use Rattle.brisk_rules.specs.Standing.{owners_of}
use Rattle.brisk_search.specs.Drives.{Reached, Stuck, Way, premise_of}
use Rattle.brisk_search.specs.Passes.{driver, enough}
use Rattle.brisk_answered.proofs.Sides.{own_sides}
use Rattle.brisk_answered.proofs.Fuel.{enough_is}
use Rattle.brisk_stars.specs.Picks.{PicksNeverClose, sends_on, to_hear}
use Rattle.brisk_stars.specs.Runs.{nobody}
use Rattle.brisk_stars.specs.Searching.{IsAlone, IsRoomy}
use Rattle.brisk_stars.specs.Serving.{Served, hears, messages, serve, settled}
use Rattle.brisk_stars.specs.Threads.{IsCentresLoop, IsStarThreads, at_in, member_by, members_by, served_at}
use Rattle.brisk_stars.specs.Words.{is_focus, is_other, runs_as_centre, serves, turn_before, words, words_to}
use Rattle.brisk_stars.proofs.Hearing.{hearing_takes, settling}
use Rattle.brisk_stars.proofs.Mapped.{any_fewer, any_shallow}
use Rattle.brisk_stars.proofs.Loops.{all_codes, body_focused, body_unbegun, focused_runs, focused_says, unfocused_ok}
use Rattle.brisk_stars.proofs.Outside.{Still, blanked}
use Rattle.brisk_stars.proofs.Premises.{premise_starts, rounds_end}
use Rattle.brisk_stars.proofs.Running.{serves_parts}

any_is : (c : Code) (a : AnyReceive) → any_of c ≡ Some a → c ≡ any_code a
any_is (RecvAny c xs v s b ⨾ rest) a e = ap any_code (same_Some _ a e)
any_is c a e = cc

-- a pick, seen as a loop of the centre but for what its close looks at
record PickParts (sizes : Name → ℕ) (M : Name) (S : Symbolic) (r : Entered) : Type 0 where
  any : AnyReceive
  loop : IsCentresLoop sizes M any.set S (record r { kind = rules.For any.set })
  looks : (rules.looks r.kind) ≡ Inside any.set
  body : loop.body ≡ from_focus any

pick_parts : (P : Program) (sizes : Name → ℕ) (M : Name) (S : Symbolic) (r : Entered) (drops : List Fact) → IsStarThreads sizes M S → enter_pick P S M drops ≡ Ok r → PickParts sizes M S r
pick_parts P sizes M S r drops st e =
    let y = at_head_ok S M any_of _ r e in
    let a = y.0 in
    let s = a.set in
    let is : _ ≡ r = same_ok _ r (when_ok (is_nonempty P s) (Side MayBeEmpty) _ r (unfocused_ok (mode_of (thread_named S.threads s)) _ r y.4)).1 in
    let code : at_in S M ≡ any_code a = y.2.stands ∙ any_is y.1 a y.3 in
    let runs = both_true (serves sizes M a.binder s a.body && nat_lt (turn_before a.rest) (sizes s)) (runs_as_centre sizes M a.rest) (ap (runs_as_centre sizes M) (sym code) ∙ st.centre) in
    let parts = both_true (serves sizes M a.binder s a.body) (nat_lt (turn_before a.rest) (sizes s)) runs.0 in
    let first : turn_before a.rest ≡ 0 = (let l = ltb-true (turn_before a.rest) (sizes s) parts.1 in let f = st.size s in omega (arith, l, f)) in
    let k = both_true (not (same_name M s)) (nat_lt 0 (sizes s) && every (talks_to (is_named a.binder)) a.body) parts.0 in
    let apart = not-true (same_name M s) k.0 in
    let fresh = both_true (all_unbegun a.body) (all_unbegun a.rest) (ap all_unbegun (sym code) ∙ st.unbegun) in
    record {
      any = a;
      looks = ap (λ (z : Entered). (rules.looks z.kind)) (sym is);
      body = refl;
      loop = record {
        body = from_focus a;
        rest = a.rest;
        behind = (RecvAny a.channel a.variables a.binder s a.body, code);
        fewer = any_fewer (at_in S M) a code;
        shallow = any_shallow (at_in S M) a code;
        owners = ap (λ (z : Entered). z.owners) (sym is);
        looks = refl;
        threads = ap (λ (z : Entered). z.start.threads) (sym is);
        pending = ap (λ (z : Entered). z.start.pending) (sym is);
        other = apart;
        members = (both_true (nat_lt 0 (sizes s)) (every (talks_to (is_named a.binder)) a.body) k.1).0;
        says = ap (words sizes) code ∙ ap (λ n. hears (member s n) a.channel ∷ (words_to (member s n) (messages a.body) ++ words sizes a.rest)) first
            ∙ ap (λ ws. hears (single s) a.channel ∷ (ws ++ words sizes a.rest)) (sym (focused_says sizes M a.binder s a.body (st.size s) parts.0));
        runs = both_hold (is_other M (who.At s)) (runs_as_centre sizes M (code_with a.binder (who.At s) a.body)) (ap not apart) (focused_runs sizes M a.binder s a.body (st.size s) parts.0);
        fresh = body_unbegun a.binder (who.At s) a.body (serves_parts sizes M a.binder s a.body parts.0).1;
        talks = both_hold (same_name s s) (every (talks_to (is_focus s)) (code_with a.binder (who.At s) a.body)) (name_laws.refl s) (body_focused a.binder s a.body (serves_parts sizes M a.binder s a.body parts.0).1);
        runs_on = runs.1;
        fresh_on = fresh.1;
      };
    }

-- threads that are the same but for two have the same names
same_names : (M s : Name) (ts us : List Thread) → blanked M s ts ≡ blanked M s us → names ts ≡ names us
same_names M s ts us e = sym (kept ts) ∙ ap names e ∙ kept us
  where
    one : (b : Bool) (t : Thread) → (if b then record t { code = done } else t).name ≡ t.name
    one true t = refl
    one false t = refl

    kept : (ts : List Thread) → names (blanked M s ts) ≡ names ts
    kept [] = refl
    kept (t ∷ ts) = λ i. one (same_name M t.name || same_name s t.name) t i ∷ kept ts i

same_reached : (v w : Way) → Reached v None ≡ Reached w None → v ≡ w
same_reached v w e = cc

not_reached : (v w : Way) (t : Tries) → Reached v None ≡ Stuck w t None → ⊥
not_reached v w t e = cc

-- a pick's premise is driven to an end
pub pick_ends : (P : Program) (strict : IsStrict P) (F : Follow) (sizes : Name → ℕ) (M : Name) (n : ℕ) (S : Symbolic) (drops : List Fact) (r : Entered) → 64 ≤ n → IsStarThreads sizes M S → IsAlone M S → enter_pick P S M drops ≡ Ok r → IsRoomy r.start →
    ((w : Way) × (driver P own_sides (suc n) F (premise_of r) r.start None ≡ Reached w None)) ⊎ ((w : Way) × (tries : Tries) × (driver P own_sides (suc n) F (premise_of r) r.start None ≡ Stuck w tries None))
pick_ends P strict F sizes M n S drops r deep st alone e room =
    let few : 999999 < 1000000 = omega arith in
    let deep' : 65 ≤ suc n = omega (arith, deep) in
    let k = pick_parts P sizes M S r drops st e in
    let s = k.any.set in
    let p = premise_starts n deep' few P strict F sizes M s S (record r { kind = rules.For s }) st alone k.loop room in
    let owned : owners_of r ≡ M ∷ [] = ap (map (λ (o : Owner). o.name)) k.loop.owners in
    let x = rounds_end P sizes M s n 65 999999 deep' few strict F r owned (enough None r.start) r.start p (let fuel = enough_is r.start p.room.apart in omega (arith, fuel)) in
    elim x.is [
      | inl a ↦ inl (x.way, a)
      | inr a ↦ inr (x.way, x.tries, a.0)
    ]

at_one : (P : Program) (sizes : Name → ℕ) (M s : Name) (F : Symbolic) → same_name M s ≡ false → members_by M (at_in F) (numbers_at F.pending) (single s) ≡ member_by M (at_in F) (numbers_at F.pending) s
at_one P sizes M s F other = ap (λ b. if b then nobody else member_by M (at_in F) (numbers_at F.pending) s) other

start_body : (sizes : Name → ℕ) (M s : Name) (S : Symbolic) (r : Entered) → IsStarThreads sizes M S → (l : IsCentresLoop sizes M s S r) → at_in r.start M ≡ l.body
start_body sizes M s S r st l =
    ap (λ (f : Name → Code). f M) (ap codes l.threads ∙ all_codes sizes M s l.other S st At at_one_mode l.body l.runs l.fresh) ∙ changed-same name_laws (at_in S) M l.body
  where
    at_one_mode : At ≡ One → ⊥
    at_one_mode e = cc

pub picks_never_close : PicksNeverClose
picks_never_close P strict F sizes M n S next drops r w deep st alone e room reached closes =
    let few : 999999 < 1000000 = omega arith in
    let deep' : 65 ≤ suc n = omega (arith, deep) in
    let k = pick_parts P sizes M S r drops st e in
    let s = k.any.set in
    let c = k.any.channel in
    let p = premise_starts n deep' few P strict F sizes M s S (record r { kind = rules.For s }) st alone k.loop room in
    let owned : owners_of r ≡ M ∷ [] = ap (map (λ (o : Owner). o.name)) k.loop.owners in
    let x = rounds_end P sizes M s n 65 999999 deep' few strict F r owned (enough None r.start) r.start p (let fuel = enough_is r.start p.room.apart in omega (arith, fuel)) in
    let way : x.way ≡ w = elim x.is [
      | inl a ↦ same_reached x.way w (sym a ∙ reached)
      | inr a ↦ absurd (not_reached w x.way x.tries (sym reached ∙ a.0))
    ] in
    let E = w.end in
    let served : served_at sizes M E ≡ served_at sizes M r.start = ap (λ (v : Way). served_at sizes M v.end) (sym way) ∙ x.served in
    let still : Still M s r.start E = subst (λ (v : Way). Still M s r.start v.end) way x.still in
    let z = closed r E next closes in
    let at_end : at_in E M ≡ done = finished E record { name = M; rest = k.loop.rest } (first_none _ _ (ap (λ os. first_fault (map (unfinished E) os)) (sym k.loop.owners) ∙ z.finished)).0 in
    let seen : looks_at_code r s ≡ true =
    (λ i. looks_at (k.looks i) s && not (list_any (λ (o : Owner). same_name s o.name) (k.loop.owners i)))
    ∙ (λ i. name_laws.refl s i && not ((name_laws.symm s M ∙ k.loop.other) i || false)) in
    let code : at_in E s ≡ at_in r.start s = restored_codes (looks_at_code r) r.start.threads E.threads z.restored (same_names M s E.threads r.start.threads still.threads) s seen in
    let numbers : numbers_at E.pending (key s M c) ≡ numbers_at r.start.pending (key s M c) =
    kept_numbers (looks_at_key (rules.looks r.kind)) r.start.pending E.pending z.mail (key s M c) (ap (λ l. looks_at_key l (key s M c)) k.looks ∙ ap (λ b. b || same_name s M) (name_laws.refl s)) in
    let before = at_one P sizes M s r.start k.loop.other in
    let after = at_one P sizes M s E k.loop.other in
    let m0 = members_by M (at_in r.start) (numbers_at r.start.pending) in
    let m1 = members_by M (at_in E) (numbers_at E.pending) in
    let same : to_hear c (m1 (single s)) ≡ to_hear c (m0 (single s)) =
    ap (to_hear c) after ∙ (λ i. sends_on c (messages (code i)) + length (numbers i)) ∙ sym (ap (to_hear c) before) in
    let ended : served_at sizes M E ≡ record { left = []; members = λ j. settled (m1 j) } = ap (λ q. serve (words sizes q) m1) at_end in
    let body : at_in r.start M ≡ from_focus k.any = start_body sizes M s S (record r { kind = rules.For s }) st k.loop ∙ k.body in
    let turn = serve (words sizes (from_focus k.any)) m0 in
    let is : turn ≡ served_at sizes M E = ap (λ q. serve (words sizes q) m0) (sym body) ∙ sym served in
    let less = hearing_takes (single s) c (words sizes (code_with k.any.binder (who.At s) k.any.body)) m0 (ap (λ (t : Served). t.left) (is ∙ ended)) in
    let final : to_hear c (turn.members (single s)) ≡ to_hear c (m1 (single s)) =
    ap (λ (t : Served). to_hear c (t.members (single s))) (is ∙ ended) ∙ (let m = m1 (single s) in settling c m.left m.up m.down) in
    omega (arith, less, final, same)
