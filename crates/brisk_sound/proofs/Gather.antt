-- A gather: a repeat over a set whose body is a receive from any of it.
use Rattle.std.proofs.Common.{◌≡◌, ℕ, suc, zero, ◌+◌, ◌<◌, Bool, true, false, List, [], ◌∷◌, ◌++◌, Option, Some, None, refl, sym, ap, ◌∙◌, subst, nat_eq, arith, zero-add, add-zero, inl, inr}
use Rattle.std.specs.Prelude.{if◌then◌else◌, ◌&&◌, ◌||◌, nat_lt}
use Rattle.std.specs.List.{list_any}
use Rattle.std.proofs.lemmas.Bool.{le-ltb, lt-ltb, ltb-true}
use Rattle.std.proofs.lemmas.Cmp.{nat_eq_equiv}
use Rattle.brisk_values.specs.declared.value.Pid.{Pid}
use Rattle.brisk_values.specs.Functions.{changed}
use Rattle.brisk_values.specs.Names.{Name, same_name, same_process, member}
use Rattle.brisk_values.proofs.Changes.{name_laws, process_laws, exact_name, exact_process, changed_again, changed-other, changed-same}
use Rattle.brisk_syntax.specs.Syntax.{RecvAny, Repeat, Code, done, ◌⨾◌, ◌then◌}
use Rattle.brisk_seq.specs.Sequential.{Focus, in_focus}
use Rattle.brisk_async.specs.declared.event.Event.{Event}
use Rattle.brisk_async.specs.Laws.{AnyReceive, any_code, named, plain_event, count, from_any, from_named, Takes}
use Rattle.brisk_async.specs.Machine.{State, effect, goes_to, seen_by, run, step, unchanged, IsTerminal}
use Rattle.brisk_async.proofs.Named.{head_named}
use Rattle.brisk_async.proofs.Senders.{Sent, taking, counts_alike}
use Rattle.brisk_state.specs.declared.thread.Mode.TheVariants as thread_mode
use Rattle.brisk_sound.specs.Does as seq
use Rattle.brisk_sound.specs.Does.{Mem, Does}
use Rattle.brisk_rules.specs.Heads.{from_focus}
use Rattle.brisk_sound.proofs.Compose.{still_then}
use Rattle.brisk_sound.proofs.Control.{silent}
use Rattle.brisk_sound.proofs.Events as events
use Rattle.brisk_sound.proofs.Fits.{World, Conf, mem, live, Picks, Fits, Still, active_live, sole}
use Rattle.brisk_sound.proofs.For.{still_out, picks_in, Inside, inside_by, live_member}
use Rattle.brisk_sound.proofs.Free.{Free, code_other}
use Rattle.brisk_sound.proofs.Leads.{state, Rest, Leads, count-append, rest-append, runs-append, quiet_leads, unchanged_at}
use Rattle.brisk_sound.proofs.Loops.{facts_back}
use Rattle.brisk_sound.proofs.Member.{member_is, is_inside, not_a_set, stands, took, behind_it, took_fits, took_still, moves, with_sender, typed_in}
use Rattle.brisk_sound.proofs.Middle.{Served, served, with_member, focused, Mid, Closes, in_turn, live_back, enters, ends, set_at, none_served, all_served}
use Rattle.brisk_sound.proofs.Pigeons.{unserved, unserved_none, unserved_less, none_unserved, some_unserved, Unserved}
use Rattle.brisk_rules.proofs.Readings.{Reading, is_active, code_by, is_each}
use Rattle.brisk_sound.proofs.Sound.{Typing, Sound, Arrives}

or_if : (b c : Bool) → (if b then true else c) ≡ (b || c)
or_if true c = refl
or_if false c = refl

-- the gather before a turn
abbrev pub gather_at : AnyReceive → ℕ → Code
gather_at a k = Repeat a.set k (RecvAny a.channel a.variables a.binder a.set a.body ⨾ done) ⨾ a.rest

module _ (S : Reading) (t : Name) (a : AnyReceive) where
  abbrev pub gather_start : Reading
  gather_start = in_turn S a.set (changed same_name S.code t (from_focus a))

  -- the thread stands at a gather
  pub record Gathers : Type 0 where
    pub set : S.mode a.set ≡ Some thread_mode.Each
    pub active : is_active (S.mode t) ≡ true
    pub is : S.code t ≡ gather_at a 0
    pub free : (u : Name) → Free a.set (S.code u)

  -- a premise's end that closes
  pub record Gathered (E : Reading) : Type 0 where
    pub closes : Closes S a.set E
    pub owner : E.code t ≡ done
    pub code : (u : Name) → same_name t u ≡ false → same_name a.set u ≡ false → E.code u ≡ S.code u

-- in a turn of a gather its owner has the next turn behind it
abbrev pub within_gather : Name → AnyReceive → ℕ → ℕ → Focus → (Pid → Code) → Pid → Code
within_gather t a m k φ κ = changed same_process κ (φ t) (code_by φ (gather_at a k) then κ (φ t))

module _ (world : World) (T : Typing world) (S : Reading) (t : Name) (a : AnyReceive) (R : Does) (E : Reading) (entry : Gathers S t a) (exit : Gathered S t a E) (turn : Sound world (inside_by world T S a.set (within_gather t a)) (gather_start S t a) R E)
    (κ : Pid → Code) (φ : Focus) (picks : Picks S.mode φ) where
  abbrev s : Name
  s = a.set

  abbrev n : ℕ
  n = world.given.sizes a.set

  abbrev p : Pid
  p = φ t

  abbrev F : ℕ → Name → Code
  F k = changed same_name S.code t (gather_at a k)

  abbrev pub X : ℕ → Code
  X k = code_by φ (gather_at a k) then κ p

  -- the receive in turn k
  abbrev pub receive : ℕ → AnyReceive
  receive k = stands φ a (X (k + 1))

  abbrev pub begun : ℕ → Conf → Conf
  begun k c = record c { code = changed same_process c.code p (any_code (receive k)) }

  abbrev pub taken : ℕ → ℕ → Conf → Conf
  taken m k c = took φ a (X (k + 1)) p (begun k c) m

  abbrev pub Middle : Served → ℕ → Conf → Type 0
  Middle sv k c = Mid world S s φ E sv (F k) κ c

  not_set : same_name s t ≡ false
  not_set = not_a_set S s t entry.set entry.active

  pub not_served : (sv : Served) → served s sv p ≡ false
  not_served sv = (λ i. same_name s (picks.role_of t i) && sv p.member) ∙ ap (λ b. b && sv p.member) not_set

  pub code_is : (sv : Served) (k : ℕ) (c : Conf) → Middle sv k c → c.code p ≡ X k
  code_is sv k c mid =
      mid.code p (active_live world S.mode φ t picks entry.active)
      ∙ (λ i. code_by φ (if not_served sv i then E.code s else F k (picks.role_of t i)) then κ p)
      ∙ ap (λ z. code_by φ z then κ p) (changed-same name_laws S.code t (gather_at a k))

  -- the turn begins
  abbrev pub begin_leads : (sv : Served) (k : ℕ) (c : Conf) → nat_lt k n ≡ true → Middle sv k c → Leads world c (begun k c)
  begin_leads sv k c inside mid =
      quiet_leads world c p (X k) (any_code (receive k)) unchanged c.box (code_is sv k c mid)
      (λ i. goes_to (if inside i then any_code (receive k) else (code_by φ a.rest then κ p)))

  again : (k : ℕ) (c : Conf) (x : Code) → record c { code = changed same_process c.code p x } ≡ record (begun k c) { code = changed same_process (begun k c).code p x }
  again k c x = λ i. record c { code = sym (changed_again same_process c.code p (any_code (receive k)) x) i }

  pub at_receive : (k : ℕ) (c : Conf) → (begun k c).code p ≡ any_code (receive k)
  at_receive k c = changed-same process_laws c.code p (any_code (receive k))

  free_body : Free s a.body
  free_body = (subst (Free s) entry.is (entry.free t)).0.0

  module _ (m : ℕ) (k : ℕ) (c : Conf) where
    abbrev pub κ' : Pid → Code
    κ' = behind_it world T S t a entry.set entry.active κ φ picks (X (k + 1))

    module _ (sv : Served) (inside : nat_lt m n ≡ true) (fresh : sv m ≡ false) (mid : Middle sv k c) where
      free_at : (u : Name) → Free s (F k u)
      free_at u =
          elim (same_name t u) as (λ b. Free s (if b then gather_at a k else S.code u)) [
            | true ↦ (let h : Free s (gather_at a 0) = subst (Free s) entry.is (entry.free t) in (h.0, h.1))
            | false ↦ entry.free u
          ]

      pub fits_taken : Fits world (gather_start S t a) κ' (in_focus s m φ) (taken m k c)
      fits_taken =
          took_fits world T S t a entry.set entry.active κ φ picks (X (k + 1)) m free_body c (begun k c) (again k c) (F k) (changed same_name S.code t (from_focus a))
          (changed_again same_name S.code t (gather_at a k) (from_focus a)) (enters world S s φ E m entry.set inside sv fresh (F k) κ c mid free_at)

      still_taken : Still world (focused S.mode s) (in_focus s m φ) c (taken m k c)
      still_taken = took_still world T S t a entry.set entry.active κ φ picks (X (k + 1)) m free_body c (begun k c) (again k c)

      end_turn : (d : Conf) → Fits world E κ' (in_focus s m φ) d → Still world (focused S.mode s) (in_focus s m φ) c d → Middle (with_member m sv) (k + 1) d
      end_turn d f still =
          ends world S s φ E m entry.set inside sv fresh (F k) κ c mid exit.closes (F (k + 1)) κ' d
          (changed-other name_laws S.code t (gather_at a (k + 1)) s not_this ∙ sym (changed-other name_laws S.code t (gather_at a k) s not_this))
          (λ q e. changed-other process_laws κ p (X (k + 1)) q (not_owner q e))
          others f still
        where
          not_this : same_name t s ≡ false
          not_this = name_laws.symm t s ∙ not_set

          not_owner : (q : Pid) → same_name s q.role ≡ true → same_process p q ≡ false
          not_owner q e =
              elim (same_process p q) as (λ b. same_process p q ≡ b → b ≡ false) [
                | true ↦ λ h. sym e ∙ ap (λ (z : Pid). same_name s z.role) (sym (exact_process p q h)) ∙ ap (same_name s) (picks.role_of t) ∙ not_set
                | false ↦ λ h. refl
              ] refl

          others : (q : Pid) → live world S.mode φ q ≡ true → same_name s q.role ≡ false → code_by (in_focus s m φ) (E.code q.role) then κ' q ≡ code_by φ (F (k + 1) q.role) then κ q
          others q l e =
              elim (same_name t q.role) as (λ b. same_name t q.role ≡ b → code_by (in_focus s m φ) (E.code q.role) then κ' q ≡ code_by φ (if b then gather_at a (k + 1) else S.code q.role) then κ q) [
                | true ↦ λ h.
                    let same = exact_process p q (sole world S.mode φ t q picks entry.active l ∙ h) in
                    (λ i. code_by (in_focus s m φ) (E.code (sym (exact_name t q.role h) i)) then κ' q) ∙ ap (λ z. code_by (in_focus s m φ) z then κ' q) exit.owner
                    ∙ ap κ' (sym same) ∙ changed-same process_laws κ p (X (k + 1)) ∙ (λ i. code_by φ (gather_at a (k + 1)) then κ (same i))
                | false ↦ λ h.
                    (λ i. code_by (in_focus s m φ) (exit.code q.role h e i) then changed-other process_laws κ p (X (k + 1)) q (sole world S.mode φ t q picks entry.active l ∙ h) i)
                    ∙ ap (λ z. z then κ q) (code_other s m φ (S.code q.role) (entry.free q.role))
              ] refl

      -- a premise's events end a turn
      module _ (d : Conf) (u : List Event) (w : Arrives world (gather_start S t a) E κ' (in_focus s m φ) (taken m k c) d u) where
        still_all : Still world (focused S.mode s) (in_focus s m φ) c d
        still_all = still_then world (focused S.mode s) (in_focus s m φ) c (taken m k c) d still_taken w.still

        turned : Middle (with_member m sv) (k + 1) d
        turned = end_turn d w.fits still_all

        returned : d.code p ≡ X (k + 1)
        returned = code_is (with_member m sv) (k + 1) d turned

        sent : Sent p (member s m) (state world (begun k c)) u (state world d)
        sent = with_sender world T S t a entry.set entry.active κ φ picks (X (k + 1)) (begun k c) m (at_receive k c) inside d u w.runs returned

  pub record Comes (sv : Served) (k : ℕ) (c d : Conf) (u : List Event) : Type 0 where
    pub runs : run (state world c) u ≡ Some (state world d)
    pub mid : Middle sv k d
    pub still : Still world S.mode φ c d

  comes_then : (sv sv' : Served) (k l : ℕ) (c d e : Conf) (u v : List Event) → Comes sv k c d u → Comes sv' l d e v → Comes sv' l c e (u ++ v)
  comes_then sv sv' k l c d e u v x y = record { runs = runs-append world c d e u v x.runs y.runs; mid = y.mid; still = still_then world S.mode φ c d e x.still y.still }

  module _ (k : ℕ) (below : nat_lt k n ≡ true) (sv : Served) (c : Conf) (typed : T.IsTyped c) (mid : Middle sv k c) where
    abbrev pub L : Leads world c (begun k c)
    L = begin_leads sv k c below mid

    pub typed_taken : (m : ℕ) → nat_lt m n ≡ true → T.IsTyped (taken m k c)
    typed_taken m inside = typed_in world T S t a entry.set entry.active κ φ picks (X (k + 1)) (begun k c) m (T.runs c (begun k c) L.by typed L.runs) (at_receive k c) inside

    pub inside_turn : T.Behind κ φ → (m : ℕ) → nat_lt m n ≡ true → Inside world T S s (within_gather t a) (κ' m k c) (in_focus s m φ)
    inside_turn beyond m inside = record {
      κ = κ;
      φ = φ;
      number = m;
      turn = k + 1;
      beyond = beyond;
      picks = picks;
      each = mid.sets (member s m) (live_member world S s φ m entry.set inside) (ap is_each entry.set);
      is = refl;
      focus = refl;
    }

    module _ (m : ℕ) (inside : nat_lt m n ≡ true) (fresh : sv m ≡ false) where
      pub comes : (d : Conf) (u : List Event) (w : Arrives world (gather_start S t a) E (κ' m k c) (in_focus s m φ) (taken m k c) d u) →
          (v : List Event) × Comes (with_member m sv) (k + 1) c d v × ((q : Pid) → count q v ≡ count q L.by + count q u)
      comes d u w =
          let x = sent m k c sv inside fresh mid d u w in
          let v = x.before ++ from_any p (member s m) x.place ∷ x.later in (
            L.by ++ v,
            record {
              runs = runs-append world c (begun k c) d L.by v L.runs x.runs;
              mid = turned m k c sv inside fresh mid d u w;
              still = still_out world S s φ m (live_back world S s φ E m entry.set inside sv fresh) c d (still_all m k c sv inside fresh mid d u w);
            },
            λ q. let e = x.counts q in let f = count-append q L.by v in omega (arith, e, f),
          )

      turn_there : T.Behind κ φ → (l : Mem) → R (in_focus s m φ) (mem c) l → (d : Conf) × (mem d ≡ l) × (v : List Event) × Comes (with_member m sv) (k + 1) c d v
      turn_there beyond l r =
          let y = turn.there (κ' m k c) (in_focus s m φ) (taken m k c) (typed_taken m inside) (inside_turn beyond m inside) (picks_in S.mode s φ m picks) (fits_taken m k c sv inside fresh mid) l r in
          let x = comes y.0 y.2 y.3 in (y.0, y.1, x.0, x.1)

    -- a schedule takes a member that wasn't served
    abbrev Turned : List Event → State → Type 0
    Turned es z = (m : ℕ) × (nat_lt m n ≡ true) × (sv m ≡ false) × (d : Conf) × R (in_focus s m φ) (mem c) (mem d) × (u : List Event) × Comes (with_member m sv) (k + 1) c d u × Rest world d u es z

    turn_back : T.Behind κ φ → Unserved n sv →
        ((m : ℕ) (before : List Event) (at next : State) (place : Option ℕ) → nat_lt m n ≡ true → sv m ≡ true → run (state world (begun k c)) before ≡ Some at → count p before ≡ 0 → step at (from_any p (member s m) place) ≡ Some next → ⊥) →
        (es : List Event) (z : State) → run (state world c) es ≡ Some z → IsTerminal z → Turned es z
    turn_back beyond left quiet es z r end =
        let l = L.first es z r end in
        elim (head_named (receive k) p (state world (begun k c)) l.left z (at_receive k c) l.ends end) [
          | inl x ↦ takes l x
          | inr x ↦
              let m = left.member in let inside = lt-ltb m n left.inside in
              let is = is_inside world.given.sizes s m inside in
              let y = turn.back (κ' m k c) (in_focus s m φ) (taken m k c) (typed_taken m inside) (inside_turn beyond m inside) (picks_in S.mode s φ m picks) (fits_taken m k c sv inside left.fresh mid) l.left (named (receive k) p (member s m) z) (x.runs (member s m)) (x.terminal (member s m) is) in
              absurd (moves world T S t a entry.set entry.active κ φ picks (X (k + 1)) (begun k c) m y.0 y.2 y.3.runs (returned m k c sv inside left.fresh mid y.0 y.2 y.3) (let h = y.4.counts p in let e = x.none in omega (arith, h, e)))
        ]
      where
        takes : (l : Rest world (begun k c) L.by es z) → Takes (receive k) p (state world (begun k c)) l.left z → Turned es z
        takes l x =
            let w = member_is world.given.sizes s x.from x.inside in
            let m = x.from.member in
            let first = taking (receive k) p (state world (begun k c)) l.left z l.ends x in
            let fresh : sv m ≡ false =
            elim (sv m) as (λ b. sv m ≡ b → b ≡ false) [
              | true ↦ λ e. absurd (quiet m x.before first.at first.next x.place w.1 e first.runs_before x.first (ap (λ v. step first.at (from_any p v x.place)) (sym w.0) ∙ first.takes))
              | false ↦ λ e. refl
            ] refl in
            let schedule = x.before ++ from_named p x.place ∷ x.later in
            let y = turn.back (κ' m k c) (in_focus s m φ) (taken m k c) (typed_taken m w.1) (inside_turn beyond m w.1) (picks_in S.mode s φ m picks) (fits_taken m k c sv w.1 fresh mid) schedule z
            (ap (λ v. run (named (receive k) p v (state world (begun k c))) schedule) (sym w.0) ∙ x.runs) end in
            let v = comes m w.1 fresh y.0 y.2 y.3 in (
              m,
              w.1,
              fresh,
              y.0,
              y.1,
              v.0,
              v.1,
              record {
                left = y.4.left;
                ends = y.4.ends;
                counts = λ q.
                    let a = l.counts q in let b = ap (count q) x.parts in let b' = counts_alike q x.before (from_any p x.from x.place) (from_named p x.place) x.later refl in
                    let d = y.4.counts q in let e = v.2 q in omega (arith, a, b, b', d, e);
              },
            )

  -- the members that were used, as the sequential program keeps them
  abbrev pub used_by : List ℕ → Served
  used_by used j = list_any (nat_eq j) used

  pub used_more : (m : ℕ) (used : List ℕ) → with_member m (used_by used) ≡ used_by (m ∷ used)
  used_more m used = λ i j. ((λ i. if nat_eq_equiv.symm m j i then true else used_by used j) ∙ or_if (nat_eq j m) (used_by used j)) i

  -- no member that was served is taken again
  abbrev pub Quiet : Type 0
  Quiet =
      (k : ℕ) (sv : Served) (c : Conf) → Middle sv k c → (m : ℕ) (before : List Event) (at next : State) (place : Option ℕ) → nat_lt m n ≡ true → sv m ≡ true → run (state world (begun k c)) before ≡ Some at → count p before ≡ 0 →
      step at (from_any p (member s m) place) ≡ Some next → ⊥

  abbrev End : Conf → Conf → List Event → Type 0
  End c d u = (sv : Served) × (unserved n sv ≡ 0) × Comes sv n c d u

  none_yet : (c : Conf) (k : ℕ) (sv : Served) → Middle sv k c → Comes sv k c c []
  none_yet c k sv mid = record { runs = refl; mid = mid; still = record { code = λ p d. refl; store = λ p d. refl; sent = λ p q d C. refl; got = λ p q d C. refl; box_sent = λ p q d n. refl; box_got = λ p q d n. refl } }

  pub one_fewer : (m : ℕ) (used : List ℕ) (left : ℕ) → m < n → used_by used m ≡ false → unserved n (used_by used) ≡ suc left → unserved n (used_by (m ∷ used)) ≡ left
  one_fewer m used left inside fresh e =
      let h = unserved_less n m (used_by used) inside fresh in let g = ap (unserved n) (used_more m used) in omega (arith, h, g, e)

  turns_there : (left k : ℕ) (used : List ℕ) → left + k ≡ n → unserved n (used_by used) ≡ left → (c : Conf) → T.IsTyped c → T.Behind κ φ → Middle (used_by used) k c → (m : Mem) → seq.any s R left n used φ (mem c) m →
      (d : Conf) × (mem d ≡ m) × (u : List Event) × End c d u
  turns_there zero k used e h c typed beyond mid m r = (c, sym r, [], (used_by used, h, subst (λ (j : ℕ). Comes (used_by used) j c c []) (sym (zero-add k) ∙ e) (none_yet c k (used_by used) mid)))
  turns_there (suc left) k used e h c typed beyond mid m r =
      let below = lt-ltb k n (omega (arith, e)) in
      let y = turn_there k below (used_by used) c typed mid r.0 r.1 r.2 beyond r.3 r.4 in
      let w : Comes (used_by (r.0 ∷ used)) (k + 1) c y.0 y.2 = subst (λ (v : Served). Comes v (k + 1) c y.0 y.2) (used_more r.0 used) y.3 in
      let z = turns_there left (k + 1) (r.0 ∷ used) (omega (arith, e)) (one_fewer r.0 used left (ltb-true r.0 n r.1) r.2 h) y.0 (T.runs c y.0 y.2 typed w.runs) beyond w.mid m (subst (λ (l : Mem). seq.any s R left n (r.0 ∷ used) φ l m) (sym y.1) r.5) in
      (z.0, z.1, y.2 ++ z.2, (z.3.0, z.3.1, comes_then (used_by (r.0 ∷ used)) z.3.0 (k + 1) n c y.0 z.0 y.2 z.2 w z.3.2))

  turns_back : Quiet → (left k : ℕ) (used : List ℕ) → left + k ≡ n → unserved n (used_by used) ≡ left → (c : Conf) → T.IsTyped c → T.Behind κ φ → Middle (used_by used) k c → (es : List Event) (z : State) → run (state world c) es ≡ Some z → IsTerminal z →
      (d : Conf) × seq.any s R left n used φ (mem c) (mem d) × (u : List Event) × End c d u × Rest world d u es z
  turns_back quiet zero k used e h c typed beyond mid es z r end =
      (c, refl, [], (used_by used, h, subst (λ (j : ℕ). Comes (used_by used) j c c []) (sym (zero-add k) ∙ e) (none_yet c k (used_by used) mid)), record { left = es; ends = r; counts = λ q. sym (zero-add (count q es)) })
  turns_back quiet (suc left) k used e h c typed beyond mid es z r end =
      let below = lt-ltb k n (omega (arith, e)) in
      let y = turn_back k below (used_by used) c typed mid beyond (some_unserved n left (used_by used) h) (quiet k (used_by used) c mid) es z r end in
      let used' = y.0 ∷ used in
      let d = y.3 in
      let w : Comes (used_by used') (k + 1) c d y.5 = subst (λ (v : Served). Comes v (k + 1) c d y.5) (used_more y.0 used) y.6 in
      let v = turns_back quiet left (k + 1) used' (omega (arith, e)) (one_fewer y.0 used left (ltb-true y.0 n y.1) y.2 h) d (T.runs c d y.5 typed w.runs) beyond w.mid y.7.left z y.7.ends end in
      (v.0, (y.0, y.1, y.2, mem d, y.4, v.1), y.5 ++ v.2, (v.3.0, v.3.1, comes_then (used_by used') v.3.0 (k + 1) n c d v.0 y.5 v.2 w v.3.2), rest-append world d v.0 y.5 v.2 es z y.7 v.4)

  abbrev pub after_gather : Reading
  after_gather = set_at S s E (changed same_name S.code t a.rest)

  -- all are served, and the receiver leaves the loop
  pub record Left (c : Conf) : Type 0 where
    pub to : Conf
    pub same_mem : mem to ≡ mem c
    pub leads : Leads world c to
    pub one : leads.by ≡ plain_event p ∷ []
    pub fits : Fits world after_gather κ φ to
    pub still : Still world S.mode φ c to

  pub leave : (sv : Served) (c : Conf) → unserved n sv ≡ 0 → Middle sv n c → Left c
  leave sv c none mid =
      let W = set_at S s E (F n) in
      let f = all_served world S s φ E entry.set sv (F n) κ c (λ j l. none_unserved n j sv none (ltb-true j n l)) exit.closes mid in
      let x = silent world W κ κ φ c picks t entry.active f record { same = λ q l d. refl } a.rest (W.facts t) (events.own_facts world W κ φ c picks t entry.active f)
      ((λ i. effect (seen_by (state world c) p) p (code_by φ (if not_set i then E.code s else changed-same name_laws S.code t (gather_at a n) i) then κ p) None None)
      ∙ (λ i. goes_to (if le-ltb n n (omega arith) i then any_code (receive n) else (code_by φ a.rest then κ p)))) in
      record {
        to = x.to;
        same_mem = x.same_mem;
        leads = x.leads;
        one = x.one;
        fits = subst (λ (Z : Reading). Fits world Z κ φ x.to) (λ i. record W { code = λ u. codes u i; facts = facts_back W.facts t i }) x.fits;
        still = x.still;
      }
    where
      codes : (u : Name) → (if same_name t u then a.rest else (if same_name s u then E.code s else F n u)) ≡ (if same_name s u then E.code s else (if same_name t u then a.rest else S.code u))
      codes u =
          elim (same_name t u) as (λ b. same_name t u ≡ b → (if b then a.rest else (if same_name s u then E.code s else (if b then gather_at a n else S.code u))) ≡ (if same_name s u then E.code s else (if b then a.rest else S.code u))) [
            | true ↦ λ e. ap (λ b. if b then E.code s else a.rest) (sym not_set ∙ ap (same_name s) (exact_name t u e))
            | false ↦ λ e. refl
          ] refl

  left_arrives : (c d : Conf) (u : List Event) (sv : Served) → Comes sv n c d u → (x : Left d) → Arrives world S after_gather κ φ c x.to (u ++ x.leads.by)
  left_arrives c d u sv w x = record {
    runs = runs-append world c d x.to u x.leads.by w.runs x.leads.runs;
    fits = x.fits;
    still = still_then world S.mode φ c d x.to w.still x.still;
  }

  pub starts : (c : Conf) → Fits world S κ φ c → Middle (used_by []) 0 c
  starts c f = none_served world S s φ E entry.set (used_by []) (F 0) κ c (λ j. refl) (sym (unchanged_at same_name exact_name S.code t (gather_at a 0) (sym entry.is))) f

  pub gather_there : (c : Conf) → T.IsTyped c → T.Behind κ φ → Fits world S κ φ c → (m : Mem) → seq.any s R n n [] φ (mem c) m → (d : Conf) × (mem d ≡ m) × (u : List Event) × Arrives world S after_gather κ φ c d u
  gather_there c typed beyond f m r =
      let y = turns_there n 0 [] (add-zero n) (unserved_none n) c typed beyond (starts c f) m r in
      let x = leave y.3.0 y.0 y.3.1 y.3.2.mid in
      (x.to, x.same_mem ∙ y.1, y.2 ++ x.leads.by, left_arrives c y.0 y.2 y.3.0 y.3.2 x)

  pub gather_back : Quiet → (c : Conf) → T.IsTyped c → T.Behind κ φ → Fits world S κ φ c → (es : List Event) (z : State) → run (state world c) es ≡ Some z → IsTerminal z →
      (d : Conf) × seq.any s R n n [] φ (mem c) (mem d) × (u : List Event) × Arrives world S after_gather κ φ c d u × Rest world d u es z
  gather_back quiet c typed beyond f es z r end =
      let y = turns_back quiet n 0 [] (add-zero n) (unserved_none n) c typed beyond (starts c f) es z r end in
      let x = leave y.3.0 y.0 y.3.1 y.3.2.mid in
      let l = x.leads.first y.4.left z y.4.ends end in
      (x.to, subst (λ (m : Mem). seq.any s R n n [] φ (mem c) m) (sym x.same_mem) y.1, y.2 ++ x.leads.by, left_arrives c y.0 y.2 y.3.0 y.3.2 x, rest-append world y.0 x.to y.2 x.leads.by es z y.4 l)
