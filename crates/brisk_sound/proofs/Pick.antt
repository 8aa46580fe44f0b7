-- A receive from any on its own: one member is picked.
use Rattle.std.proofs.Common.{◌≡◌, ℕ, true, false, List, ◌∷◌, ◌++◌, Option, Some, refl, sym, ap, ◌∙◌, subst, arith, inl, inr}
use Rattle.std.specs.Prelude.{if◌then◌else◌, nat_lt}
use Rattle.brisk_values.specs.declared.value.Pid.{Pid}
use Rattle.brisk_values.specs.declared.value.Value.{Value}
use Rattle.brisk_values.specs.Functions.{changed}
use Rattle.brisk_values.specs.Names.{Name, same_name, same_process, member}
use Rattle.brisk_values.proofs.Changes.{name_laws, process_laws, exact_name, exact_process, changed-other, changed-same}
use Rattle.brisk_syntax.specs.Syntax.{Code, done, ◌then◌}
use Rattle.brisk_syntax.specs.Value.{or_false}
use Rattle.brisk_seq.specs.Sequential.{Focus, in_focus}
use Rattle.brisk_async.specs.declared.event.Event.{Event}
use Rattle.brisk_async.specs.Laws.{AnyReceive, any_code, named, count, from_any, from_named}
use Rattle.brisk_async.specs.Machine.{State, run, IsTerminal}
use Rattle.brisk_async.proofs.Named.{head_named}
use Rattle.brisk_async.proofs.Senders.{counts_alike}
use Rattle.brisk_state.specs.declared.thread.Mode.{Mode}
use Rattle.brisk_state.specs.declared.thread.Mode.TheVariants as thread_mode
use Rattle.brisk_state.specs.Symbolic.{key}
use Rattle.brisk_sound.specs.Does as seq
use Rattle.brisk_sound.specs.Does.{Mem, Does}
use Rattle.brisk_rules.specs.Heads.{from_focus}
use Rattle.brisk_sound.proofs.Compose.{still_then}
use Rattle.brisk_sound.proofs.Events as events
use Rattle.brisk_sound.proofs.Fits.{World, Conf, mem, live, Picks, Fits, Still, sole, active_live}
use Rattle.brisk_sound.proofs.For.{still_out, picks_in, Inside, inside_by, live_member}
use Rattle.brisk_sound.proofs.Free.{Free, code_other}
use Rattle.brisk_sound.proofs.Leads.{state, Rest}
use Rattle.brisk_sound.proofs.Member.{member_is, is_inside, not_a_set, stands, took, behind_it, same_focus, act_in, took_fits, took_still, moves, with_sender, typed_in}
use Rattle.brisk_sound.proofs.Middle.{Carries, carried, moved, Place, turn, aside, outside, place, served, with_member, focused, in_turn, live_back, enters, none_served}
use Rattle.brisk_rules.proofs.Readings.{Reading, is_active, is_each, code_by}
use Rattle.brisk_sound.proofs.Sound.{Typing, Sound, Arrives}

module _ (S : Reading) (t : Name) (a : AnyReceive) where
  abbrev pub pick_start : Reading
  pick_start = in_turn S a.set (changed same_name S.code t (from_focus a))

  abbrev pub after_pick : Reading → Reading
  after_pick E = record {
    mode = S.mode;
    code = changed same_name E.code t a.rest;
    pending = E.pending;
    facts = λ u. if same_name a.set u then S.facts a.set else E.facts u;
  }

  -- the thread stands at a receive from any
  pub record MayPick : Type 0 where
    pub set : S.mode a.set ≡ Some thread_mode.Each
    pub active : is_active (S.mode t) ≡ true
    pub is : S.code t ≡ any_code a
    pub free : (u : Name) → Free a.set (S.code u)

  -- a premise's end that closes
  pub record Picked (E : Reading) : Type 0 where
    pub mode : E.mode ≡ focused S.mode a.set
    pub owner : E.code t ≡ done
    pub member_code : E.code a.set ≡ S.code a.set
    pub mail_from : (u C : Name) → E.pending (key a.set u C) ≡ S.pending (key a.set u C)
    pub mail_to : (u C : Name) → E.pending (key u a.set C) ≡ S.pending (key u a.set C)
    pub facts : (x : Name) (v : Value) → S.facts a.set x ≡ Some v → E.facts a.set x ≡ Some v
    pub free : (u : Name) → Free a.set (E.code u)

-- in a pick its owner has the rest behind it
abbrev pub within_pick : Name → AnyReceive → ℕ → ℕ → Focus → (Pid → Code) → Pid → Code
within_pick t a m k φ κ = changed same_process κ (φ t) (code_by φ a.rest then κ (φ t))

module _ (world : World) (T : Typing world) (S : Reading) (t : Name) (a : AnyReceive) (R : Does) (E : Reading) (entry : MayPick S t a) (some : nat_lt 0 (world.given.sizes a.set) ≡ true) (exit : Picked S t a E) (premise : Sound world (inside_by world T S a.set (within_pick t a)) (pick_start S t a) R E)
    (κ : Pid → Code) (φ : Focus) (picks : Picks S.mode φ) (c : Conf) (typed : T.IsTyped c) (f : Fits world S κ φ c) where
  abbrev s : Name
  s = a.set

  abbrev p : Pid
  p = φ t

  abbrev X : Code
  X = code_by φ a.rest then κ p

  abbrev receive : AnyReceive
  receive = stands φ a X

  pub at_receive : c.code p ≡ any_code receive
  at_receive = events.own_code world S κ φ c picks t entry.active f ∙ ap (λ z. code_by φ z then κ p) entry.is

  abbrev pub κ' : Pid → Code
  κ' = behind_it world T S t a entry.set entry.active κ φ picks X

  module _ (m : ℕ) (inside : nat_lt m (world.given.sizes s) ≡ true) where
    abbrev pub taken : Conf
    taken = took φ a X p c m

    free_body : Free s a.body
    free_body = (subst (Free s) entry.is (entry.free t)).0

    pub fits_taken : Fits world (pick_start S t a) κ' (in_focus s m φ) taken
    fits_taken =
        took_fits world T S t a entry.set entry.active κ φ picks X m free_body c c (λ k. refl) S.code (changed same_name S.code t (from_focus a)) refl
        (enters world S s φ S m entry.set inside (λ j. false) refl S.code κ c (none_served world S s φ S entry.set (λ j. false) S.code κ c (λ j. refl) refl f) entry.free)

    still_taken : Still world (focused S.mode s) (in_focus s m φ) c taken
    still_taken = took_still world T S t a entry.set entry.active κ φ picks X m free_body c c (λ k. refl)

    pub typed_taken : T.IsTyped taken
    typed_taken = typed_in world T S t a entry.set entry.active κ φ picks X c m typed at_receive inside

    module _ (d : Conf) (g : Fits world E κ' (in_focus s m φ) d) where
      fit : Fits world (record E { mode = focused S.mode s }) κ' (in_focus s m φ) d
      fit = subst (λ (z : Name → Option Mode). Fits world (record E { mode = z }) κ' (in_focus s m φ) d) exit.mode g

      code_there : (q : Pid) → live world S.mode φ q ≡ true → live world (focused S.mode s) (in_focus s m φ) q ≡ true → d.code q ≡ code_by φ ((after_pick S t a E).code q.role) then κ q
      code_there q l h =
          fit.code q h
          ∙ elim (same_name t q.role) as (λ b. same_name t q.role ≡ b → code_by (in_focus s m φ) (E.code q.role) then κ' q ≡ code_by φ (if b then a.rest else E.code q.role) then κ q) [
            | true ↦ λ e.
                let same = exact_process p q (sole world S.mode φ t q picks entry.active l ∙ e) in
                (λ i. code_by (in_focus s m φ) (E.code (sym (exact_name t q.role e) i)) then κ' q) ∙ ap (λ z. code_by (in_focus s m φ) z then κ' q) exit.owner
                ∙ ap κ' (sym same) ∙ changed-same process_laws κ p X ∙ (λ i. code_by φ a.rest then κ (same i))
            | false ↦ λ e.
                (λ i. code_by (in_focus s m φ) (E.code q.role) then changed-other process_laws κ p X q (sole world S.mode φ t q picks entry.active l ∙ e) i)
                ∙ ap (λ z. z then κ q) (code_other s m φ (E.code q.role) (exit.free q.role))
          ] refl

      -- the receiver stands at its rest
      returned : d.code p ≡ X
      returned =
          let h : live world (focused S.mode s) (in_focus s m φ) p ≡ true =
          subst (λ (q : Pid). live world (focused S.mode s) (in_focus s m φ) q ≡ true) (same_focus world T S t a entry.set entry.active κ φ picks X m)
          (active_live world (focused S.mode s) (in_focus s m φ) t (picks_in S.mode s φ m picks) (act_in world T S t a entry.set entry.active κ φ picks X m)) in
          code_there p (active_live world S.mode φ t picks entry.active) h
          ∙ ap (λ z. code_by φ (changed same_name E.code t a.rest z) then κ p) (picks.role_of t) ∙ ap (λ z. code_by φ z then κ p) (changed-same name_laws E.code t a.rest)

      pick_fits : Still world (focused S.mode s) (in_focus s m φ) c d → Fits world (after_pick S t a E) κ φ d
      pick_fits still = record {
        code = codes;
        mail = λ q r l k. (carry q r l k).0;
        empty = λ q r l k. (carry q r l k).1;
        facts = known;
        sets = f.sets;
      }
        where
          where_is : (q : Pid) → live world S.mode φ q ≡ true → Place (live world (focused S.mode s) (in_focus s m φ) q) (same_name s q.role) (served s (λ j. false) q) (served s (with_member m (λ j. false)) q)
          where_is q l = place world S s φ m (λ j. false) refl q l

          not_this : same_name t s ≡ false
          not_this = name_laws.symm t s ∙ not_a_set S s t entry.set entry.active

          codes : (q : Pid) → live world S.mode φ q ≡ true → d.code q ≡ code_by φ ((after_pick S t a E).code q.role) then κ q
          codes q l =
              elim (where_is q l) [
                | turn h i n x ↦ code_there q l h
                | outside h i n x ↦ code_there q l h
                | aside h i x ↦
                    let r = exact_name s q.role i in
                    still.code q h ∙ f.code q l ∙ (λ j. code_by φ (S.code (sym r j)) then κ q) ∙ (λ j. code_by φ (sym exit.member_code j) then κ q)
                    ∙ (λ j. code_by φ (sym (changed-other name_laws E.code t a.rest s not_this) j) then κ q) ∙ (λ j. code_by φ (changed same_name E.code t a.rest (r j)) then κ q)
              ]

          carry : (q r : Pid) → live world S.mode φ q ≡ true → live world S.mode φ r ≡ true → Carries d q r (λ C. E.pending (key q.role r.role C))
          carry q r l k = elim (where_is q l) [ aside h i x ↦ from_member q r l k h i | turn h i n x ↦ there q r l k h | outside h i n x ↦ there q r l k h ]
            where
              from_member : (q r : Pid) → live world S.mode φ q ≡ true → live world S.mode φ r ≡ true → live world (focused S.mode s) (in_focus s m φ) q ≡ false → same_name s q.role ≡ true → Carries d q r (λ C. E.pending (key q.role r.role C))
              from_member q r l k h i =
                  subst (λ (P : Name → List ℕ). Carries d q r P) (λ j C. ((λ j. S.pending (key (sym (exact_name s q.role i) j) r.role C)) ∙ sym (exit.mail_from r.role C) ∙ (λ j. E.pending (key (exact_name s q.role i j) r.role C))) j)
                  (moved c d q r (λ C. S.pending (key q.role r.role C)) (λ C. still.sent q r h C) (λ n. still.box_sent q r h n) (carried world S κ φ c f q r l k))

              there : (q r : Pid) → live world S.mode φ q ≡ true → live world S.mode φ r ≡ true → live world (focused S.mode s) (in_focus s m φ) q ≡ true → Carries d q r (λ C. E.pending (key q.role r.role C))
              there q r l k h =
                  elim (where_is r k) [
                    | aside h' i x ↦
                        subst (λ (P : Name → List ℕ). Carries d q r P) (λ j C. ((λ j. S.pending (key q.role (sym (exact_name s r.role i) j) C)) ∙ sym (exit.mail_to q.role C) ∙ (λ j. E.pending (key q.role (exact_name s r.role i j) C))) j)
                        (moved c d q r (λ C. S.pending (key q.role r.role C)) (λ C. still.got q r h' C) (λ n. still.box_got q r h' n) (carried world S κ φ c f q r l k))
                    | turn h' i n x ↦ (fit.mail q r h h', fit.empty q r h h')
                    | outside h' i n x ↦ (fit.mail q r h h', fit.empty q r h h')
                  ]

          known : (q : Pid) → live world S.mode φ q ≡ true → (x : Name) (v : Value) → (if same_name s q.role then S.facts s else E.facts q.role) x ≡ Some v → or_false (d.store q x) ≡ v
          known q l x v e =
              elim (where_is q l) [
                | turn h i n y ↦
                    let r = exact_name s q.role i in
                    fit.facts q h x v (ap (λ z. E.facts z x) (sym r) ∙ exit.facts x v (ap (λ b. (if b then S.facts s else E.facts q.role) x) (sym i) ∙ e))
                | aside h i y ↦
                    let r = exact_name s q.role i in
                    ap (λ z. or_false (z x)) (still.store q h) ∙ f.facts q l x v (ap (λ z. S.facts z x) (sym r) ∙ ap (λ b. (if b then S.facts s else E.facts q.role) x) (sym i) ∙ e)
                | outside h i n y ↦ fit.facts q h x v (ap (λ b. (if b then S.facts s else E.facts q.role) x) (sym i) ∙ e)
              ]

    -- the premise's events, with the sender in the receiver's first
    pub arrives : (d : Conf) (u : List Event) → Arrives world (pick_start S t a) E κ' (in_focus s m φ) taken d u → (v : List Event) × Arrives world S (after_pick S t a E) κ φ c d v × ((q : Pid) → count q v ≡ count q u)
    arrives d u w =
        let x = with_sender world T S t a entry.set entry.active κ φ picks X c m at_receive inside d u w.runs (returned d w.fits) in
        let still = still_then world (focused S.mode s) (in_focus s m φ) c taken d still_taken w.still in (
          x.before ++ from_any p (member s m) x.place ∷ x.later,
          record {
            runs = x.runs;
            fits = pick_fits d w.fits still;
            still = still_out world S s φ m (live_back world S s φ S m entry.set inside (λ j. false) refl) c d still;
          },
          λ q. sym (x.counts q),
        )

  pub inside_premise : T.Behind κ φ → (m : ℕ) (inside : nat_lt m (world.given.sizes s) ≡ true) → Inside world T S s (within_pick t a) κ' (in_focus s m φ)
  inside_premise beyond m inside = record {
    κ = κ;
    φ = φ;
    number = m;
    turn = 0;
    beyond = beyond;
    picks = picks;
    each = f.sets (member s m) (live_member world S s φ m entry.set inside) (ap is_each entry.set);
    is = refl;
    focus = refl;
  }

  pub pick_there : T.Behind κ φ → (n : Mem) → seq.picked s R (world.given.sizes s) φ (mem c) n → (d : Conf) × (mem d ≡ n) × (u : List Event) × Arrives world S (after_pick S t a E) κ φ c d u
  pick_there beyond n r =
      let y = premise.there κ' (in_focus s r.0 φ) (taken r.0 r.1) (typed_taken r.0 r.1) (inside_premise beyond r.0 r.1) (picks_in S.mode s φ r.0 picks) (fits_taken r.0 r.1) n r.2 in
      let x = arrives r.0 r.1 y.0 y.2 y.3 in (y.0, y.1, x.0, x.1)

  pub pick_back : T.Behind κ φ → (es : List Event) (z : State) → run (state world c) es ≡ Some z → IsTerminal z → (d : Conf) × seq.picked s R (world.given.sizes s) φ (mem c) (mem d) × (u : List Event) × Arrives world S (after_pick S t a E) κ φ c d u × Rest world d u es z
  pick_back beyond es z r end =
      elim (head_named receive p (state world c) es z at_receive r end) [
        | inl x ↦
            let w = member_is world.given.sizes s x.from x.inside in let m = x.from.member in
            let schedule = x.before ++ from_named p x.place ∷ x.later in
            let y = premise.back κ' (in_focus s m φ) (taken m w.1) (typed_taken m w.1) (inside_premise beyond m w.1) (picks_in S.mode s φ m picks) (fits_taken m w.1) schedule z (ap (λ v. run (named receive p v (state world c)) schedule) (sym w.0) ∙ x.runs) end in
            let u = arrives m w.1 y.0 y.2 y.3 in (
              y.0,
              (m, w.1, y.1),
              u.0,
              u.1,
              record {
                left = y.4.left;
                ends = y.4.ends;
                counts = λ q.
                    let b = ap (count q) x.parts in let b' = counts_alike q x.before (from_any p x.from x.place) (from_named p x.place) x.later refl in
                    let d = y.4.counts q in let e = u.2 q in omega (arith, b, b', d, e);
              },
            )
        | inr x ↦
            let y = premise.back κ' (in_focus s 0 φ) (taken 0 some) (typed_taken 0 some) (inside_premise beyond 0 some) (picks_in S.mode s φ 0 picks) (fits_taken 0 some) es (named receive p (member s 0) z) (x.runs (member s 0)) (x.terminal (member s 0) (is_inside world.given.sizes s 0 some)) in
            absurd (moves world T S t a entry.set entry.active κ φ picks X c 0 y.0 y.2 y.3.runs (returned 0 some y.0 y.3.fits) (let h = y.4.counts p in let n = x.none in omega (arith, h, n)))
      ]

pub sound_pick : (world : World) (T : Typing world) (S : Reading) (t : Name) (a : AnyReceive) (R : Does) (E : Reading) → MayPick S t a → nat_lt 0 (world.given.sizes a.set) ≡ true → Picked S t a E → Sound world (inside_by world T S a.set (within_pick t a)) (pick_start S t a) R E →
    Sound world T S (seq.picked a.set R (world.given.sizes a.set)) (after_pick S t a E)
sound_pick world T S t a R E entry some exit premise = record {
  there = λ κ φ c typed beyond picks f. pick_there world T S t a R E entry some exit premise κ φ picks c typed f beyond;
  back = λ κ φ c typed beyond picks f. pick_back world T S t a R E entry some exit premise κ φ picks c typed f beyond;
}
