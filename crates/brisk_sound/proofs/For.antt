-- A for over a set, by owners.
use Rattle.std.proofs.Common.{◌≡◌, ℕ, suc, zero, ◌+◌, Bool, true, false, List, [], ◌∷◌, ◌++◌, map, Option, Some, None, refl, sym, ap, ◌∙◌, subst, arith, nat_eq, zero-add, add-zero}
use Rattle.std.specs.Prelude.{◌&&◌, ◌||◌, if◌then◌else◌, nat_lt}
use Rattle.std.proofs.lemmas.Bool.{le-ltb, lt-ltb, and_right}
use Rattle.std.proofs.lemmas.Bool.Decides.{nat_tests}
use Rattle.brisk_values.specs.declared.value.Pid.{Pid}
use Rattle.brisk_values.specs.Names.{Name, same_name, same_process, single, member}
use Rattle.brisk_values.proofs.Changes.{exact_name}
use Rattle.brisk_syntax.specs.declared.tree.Who.TheVariants as who
use Rattle.brisk_syntax.specs.Substitution.{code_with}
use Rattle.brisk_syntax.specs.Syntax.{For, Code, done, ◌⨾◌, ◌then◌}
use Rattle.brisk_seq.specs.Sequential.{Focus, in_focus}
use Rattle.brisk_async.specs.declared.event.Event.{Event}
use Rattle.brisk_async.specs.Laws.{plain_event, count}
use Rattle.brisk_async.specs.Machine.{State, effect, goes_to, run, IsTerminal}
use Rattle.brisk_state.specs.declared.thread.Mode.{Mode}
use Rattle.brisk_state.specs.declared.thread.Mode.TheVariants as thread_mode
use Rattle.brisk_state.specs.Symbolic.{Key, key}
use Rattle.brisk_sound.specs.Does as seq
use Rattle.brisk_sound.specs.Does.{Mem, Does}
use Rattle.brisk_sound.proofs.Compose.{still_then}
use Rattle.brisk_sound.proofs.Fits.{World, Conf, mem, live, Picks, Fits, Still}
use Rattle.brisk_sound.proofs.Leads.{state, Rest, rest-append, runs-append}
use Rattle.brisk_rules.proofs.Readings.{Reading, is_active, is_each, code_by}
use Rattle.brisk_sound.proofs.Sound.{Typing, behind_by, Sound, Arrives}
use Rattle.brisk_sound.proofs.Free.{Free, code_other, code_bound}
use Rattle.brisk_sound.proofs.Advance.{view, Test, all_of, Once, with_test, follow, Goes_on, Advanced, advance}
use Rattle.brisk_sound.proofs.Middle.{Carries, Served, served, with_member, focused, Mid, Closes, in_turn, live_back, enters, ends, carried}

-- the parts of an owner's code
pub record Loop : Type 0 where
  pub binder : Name
  pub body : Code
  pub rest : Code

abbrev pub owners : List Name → Test
owners = all_of (λ _. false)

abbrev pub below : ℕ → Served
below k j = nat_lt j k

below_next : (k : ℕ) → with_member k (below k) ≡ below (k + 1)
below_next k = λ i j. next j i
  where
    next : (j : ℕ) → (if nat_eq k j then true else nat_lt j k) ≡ nat_lt j (k + 1)
    next j = grind (arith, nat_tests)

module _ (S : Reading) (s : Name) (ts : List Name) (L : Name → Loop) where
  abbrev pub at_turn : ℕ → Name → Code
  at_turn k u = if owners ts u then For (L u).binder s k (L u).body ⨾ (L u).rest else S.code u

  abbrev pub for_body : Name → Code
  for_body u = code_with (L u).binder (who.At s) (L u).body

  abbrev pub for_start : Reading
  for_start = record S { mode = focused S.mode s; code = λ u. if owners ts u then for_body u else S.code u }

  -- the set at the end of its member
  abbrev pub set_ends : Reading → (Name → Code) → Reading
  set_ends E F = record {
    mode = S.mode;
    code = λ u. if same_name s u then E.code s else F u;
    pending = E.pending;
    facts = λ u. if same_name s u then E.facts s else S.facts u;
  }

  abbrev pub after_for : Reading → Reading
  after_for E = set_ends E (λ u. if owners ts u then (L u).rest else S.code u)

  pub record Entry : Type 0 where
    pub set : S.mode s ≡ (Some thread_mode.Each)
    pub once : Once S.mode (owners ts) (λ _. false) ts
    pub is : (t : Name) → owners ts t ≡ true → S.code t ≡ For (L t).binder s 0 (L t).body ⨾ (L t).rest
    pub not_owner : owners ts s ≡ false
    pub free : (u : Name) → Free s (S.code u)

  pub record Exit (E : Reading) : Type 0 where
    pub closes : Closes S s E
    pub owner : (t : Name) → owners ts t ≡ true → E.code t ≡ done
    pub code : (u : Name) → owners ts u ≡ false → same_name s u ≡ false → E.code u ≡ S.code u

if_const : {X : Type 0} (b : Bool) (x : X) → (if b then x else x) ≡ x
if_const true x = refl
if_const false x = refl

if_same : {X : Type 0} (b : Bool) (x y z : X) → (if b then x else (if b then y else z)) ≡ (if b then x else z)
if_same true x y z = refl
if_same false x y z = refl

pub still_out : (world : World) (S : Reading) (s : Name) (φ : Focus) (m : ℕ) → ((p : Pid) → live world (focused S.mode s) (in_focus s m φ) p ≡ true → live world S.mode φ p ≡ true) → (c d : Conf) → Still world (focused S.mode s) (in_focus s m φ) c d → Still world S.mode φ c d
still_out world S s φ m back c d w = record {
  code = λ p h. w.code p (out p h);
  store = λ p h. w.store p (out p h);
  sent = λ p q h C. w.sent p q (out p h) C;
  got = λ p q h C. w.got p q (out q h) C;
  box_sent = λ p q h n. w.box_sent p q (out p h) n;
  box_got = λ p q h n. w.box_got p q (out q h) n;
}
  where
    out : (p : Pid) → live world S.mode φ p ≡ false → live world (focused S.mode s) (in_focus s m φ) p ≡ false
    out p h =
        elim (live world (focused S.mode s) (in_focus s m φ) p) as (λ b. live world (focused S.mode s) (in_focus s m φ) p ≡ b → b ≡ false) [
          | true ↦ λ e. sym (back p e) ∙ h
          | false ↦ λ e. refl
        ] refl

pub picks_in : (mode : Name → Option Mode) (s : Name) (φ : Focus) (k : ℕ) → Picks mode φ → Picks (focused mode s) (in_focus s k φ)
picks_in mode s φ k picks = record {
  role_of = λ t. elim (same_name s t) as (λ b. same_name s t ≡ b → (if b then member s k else φ t).role ≡ t) [ true ↦ λ e. exact_name s t e | false ↦ λ e. picks.role_of t ] refl;
  one = λ t. elim (same_name s t) as (λ b. (if b then (Some thread_mode.At) else mode t) ≡ (Some thread_mode.One) → (if b then member s k else φ t) ≡ single t) [ true ↦ λ e. cc | false ↦ λ e. picks.one t e ];
}

once_in : (mode : Name → Option Mode) (s : Name) (wanted past : Test) (ts : List Name) → Once mode wanted past ts → Once (focused mode s) wanted past ts
once_in mode s wanted past [] h = tt
once_in mode s wanted past (t ∷ ts) h =
    (elim (same_name s t) as (λ b. is_active (if b then (Some thread_mode.At) else mode t) ≡ true) [ true ↦ refl | false ↦ h.0 ], h.1, h.2, once_in mode s wanted (with_test past t) ts h.3)

-- What stands behind in a premise in which a member of s is in focus: within what stood behind before, by member and turn.
pub record Inside (world : World) (T : Typing world) (S : Reading) (s : Name) (within : ℕ → ℕ → Focus → (Pid → Code) → Pid → Code) (κ' : Pid → Code) (ψ : Focus) : Type 0 where
  pub κ : Pid → Code
  pub φ : Focus
  pub number : ℕ
  pub turn : ℕ
  pub beyond : T.Behind κ φ
  pub picks : Picks S.mode φ
  pub each : κ (member s number) ≡ done
  pub is : κ' ≡ within number turn φ κ
  pub focus : ψ ≡ in_focus s number φ

abbrev pub inside_by : (world : World) → Typing world → Reading → Name → (ℕ → ℕ → Focus → (Pid → Code) → Pid → Code) → Typing world
inside_by world T S s within = behind_by world T (Inside world T S s within)

-- a member of a set that all members stand for is denoted
pub live_member : (world : World) (S : Reading) (s : Name) (φ : Focus) (m : ℕ) → S.mode s ≡ Some thread_mode.Each → nat_lt m (world.given.sizes s) ≡ true → live world S.mode φ (member s m) ≡ true
live_member world S s φ m set inside = λ i. if is_active (set i) then same_process (φ s) (member s m) else (is_each (set i) && inside i)

-- in a turn of a for its owners have the loop from the next turn on behind them
abbrev pub within_for : Reading → Name → List Name → (Name → Loop) → ℕ → ℕ → Focus → (Pid → Code) → Pid → Code
within_for S s ts L m k φ κ = follow κ (λ p. code_by φ (at_turn S s ts L (m + 1) p.role) then κ p) (owners ts)

module _ (world : World) (T : Typing world) (S : Reading) (s : Name) (ts : List Name) (L : Name → Loop) (R : Does) (E : Reading) (entry : Entry S s ts L) (exit : Exit S s ts L E) (turn : Sound world (inside_by world T S s (within_for S s ts L)) (for_start S s ts L) R E)
    (κ : Pid → Code) (φ : Focus) (picks : Picks S.mode φ) where
  own : Test
  own = owners ts

  abbrev pub Middle : ℕ → Conf → Type 0
  Middle k c = Mid world S s φ E (below k) (at_turn S s ts L k) κ c

  pub first : (c : Conf) → Fits world S κ φ c → Middle 0 c
  first c f = record {
    code = λ p l. f.code p l ∙ (λ i. code_by φ (if sym (none p) i then E.code s else sym (start p.role) i) then κ p);
    carries = λ p q l k. subst (λ (P : Name → List ℕ). Carries c p q P) (λ i C. if (sym (none p) i || sym (none q) i) then E.pending (key p.role q.role C) else S.pending (key p.role q.role C)) (carried world S κ φ c f p q l k);
    facts = λ p l x v e. f.facts p l x v (ap (λ b. (if b then E.facts s else S.facts p.role) x) (sym (none p)) ∙ e);
    sets = f.sets;
  }
    where
      none : (p : Pid) → served s (below 0) p ≡ false
      none p = and_right (same_name s p.role) (nat_lt p.member 0) (le-ltb p.member 0 (omega arith))

      start : (u : Name) → at_turn S s ts L 0 u ≡ S.code u
      start u = elim (owners ts u) as (λ b. owners ts u ≡ b → (if b then For (L u).binder s 0 (L u).body ⨾ (L u).rest else S.code u) ≡ S.code u) [ true ↦ λ e. sym (entry.is u e) | false ↦ λ e. refl ] refl

  free_body : (t : Name) → owners ts t ≡ true → Free s (L t).body × Free s (L t).rest
  free_body t e = let h : Free s (For (L t).binder s 0 (L t).body ⨾ (L t).rest) = subst (Free s) (entry.is t e) (entry.free t) in (h.0, h.1)

  free_turn : (k : ℕ) (u : Name) → Free s (at_turn S s ts L k u)
  free_turn k u =
      elim (owners ts u) as (λ b. owners ts u ≡ b → Free s (if b then For (L u).binder s k (L u).body ⨾ (L u).rest else S.code u)) [ true ↦ λ e. (let h = free_body u e in (h.0, h.1)) | false ↦ λ e. entry.free u ] refl

  abbrev pub behind_turn : ℕ → Pid → Code
  behind_turn k p = code_by φ (at_turn S s ts L (k + 1) p.role) then κ p

  abbrev Begun : ℕ → Conf → Type 0
  Begun k c = Advanced world (for_start S s ts L) (follow κ (behind_turn k) (owners ts)) (in_focus s k φ) c (map (λ t. plain_event (in_focus s k φ t)) ts)

  pub at_is : (k : ℕ) (t : Name) → owners ts t ≡ true → at_turn S s ts L k t ≡ For (L t).binder s k (L t).body ⨾ (L t).rest
  at_is k t e = ap (λ b. if b then For (L t).binder s k (L t).body ⨾ (L t).rest else S.code t) e

  at_end : (k : ℕ) (t : Name) → owners ts t ≡ false → at_turn S s ts L k t ≡ S.code t
  at_end k t e = ap (λ b. if b then For (L t).binder s k (L t).body ⨾ (L t).rest else S.code t) e

  pub turn_event : (k : ℕ) → nat_lt k (world.given.sizes s) ≡ true → (t : Name) → owners ts t ≡ true →
      Goes_on world (in_focus s k φ) t (code_by (in_focus s k φ) (at_turn S s ts L k t) then κ (in_focus s k φ t)) (code_by (in_focus s k φ) (for_body S s ts L t) then behind_turn k (in_focus s k φ t))
  turn_event k inside t e mine front =
      let ψ = in_focus s k φ in let p = ψ t in let v = (L t).binder in
      let h = free_body t e in
      (λ i. effect (view world mine front) p (code_by ψ (at_is k t e i) then κ p) None None)
      ∙ (λ i. goes_to (if inside i then code_with v (who.Pid (member s k)) (code_by ψ (L t).body) then (For v s (k + 1) (code_by ψ (L t).body) ⨾ (code_by ψ (L t).rest then κ p)) else (code_by ψ (L t).rest then κ p)))
      ∙ (λ i. goes_to (code_with v (who.Pid (member s k)) (code_other s k φ (L t).body h.0 i) then (For v s (k + 1) (code_other s k φ (L t).body h.0 i) ⨾ (code_other s k φ (L t).rest h.1 i then κ p))))
      ∙ (λ i. goes_to (sym (code_bound s k φ v (L t).body h.0) i then (code_by φ (sym (at_is (k + 1) t e) i) then κ p)))
      ∙ (λ i. goes_to (code_by ψ (for_body S s ts L t) then (code_by φ (at_turn S s ts L (k + 1) (sym ((picks_in S.mode s φ k picks).role_of t) i)) then κ p)))

  fresh_turn : (k : ℕ) → below k k ≡ false
  fresh_turn k = le-ltb k k (omega arith)

  -- each owner's event at the beginning of a turn
  pub begin_turn : (k : ℕ) → nat_lt k (world.given.sizes s) ≡ true → (c : Conf) → Middle k c → Begun k c
  begin_turn k inside c mid =
      let ψ = in_focus s k φ in
      let Z = in_turn S s (at_turn S s ts L k) in
      let x = advance world Z ψ (picks_in S.mode s φ k picks) (for_body S s ts L) κ (behind_turn k) (owners ts) (turn_event k inside) ts (λ _. false)
      (once_in S.mode s (owners ts) (λ _. false) ts entry.once) c
      (enters world S s φ E k entry.set inside (below k) (fresh_turn k) (at_turn S s ts L k) κ c mid (free_turn k)) in
      subst (λ (W : Reading). Advanced world W (follow κ (behind_turn k) (owners ts)) ψ c (map (λ t. plain_event (ψ t)) ts))
      (λ i. record S { mode = focused S.mode s; code = λ u. if_same (owners ts u) (for_body S s ts L u) (For (L u).binder s k (L u).body ⨾ (L u).rest) (S.code u) i }) x

  -- a premise's end is the middle at the next turn
  pub end_turn : (k : ℕ) → nat_lt k (world.given.sizes s) ≡ true → (c d : Conf) → Middle k c → Fits world E (follow κ (behind_turn k) (owners ts)) (in_focus s k φ) d → Still world (focused S.mode s) (in_focus s k φ) c d → Middle (k + 1) d
  end_turn k inside c d mid f still =
      subst (λ (v : Served). Mid world S s φ E v (at_turn S s ts L (k + 1)) κ d) (below_next k)
      (ends world S s φ E k entry.set inside (below k) (fresh_turn k) (at_turn S s ts L k) κ c mid exit.closes (at_turn S s ts L (k + 1)) (follow κ (behind_turn k) (owners ts)) d
      (at_end (k + 1) s entry.not_owner ∙ sym (at_end k s entry.not_owner))
      (λ p e. ap (λ b. if b then behind_turn k p else κ p) (ap (owners ts) (sym (exact_name s p.role e)) ∙ entry.not_owner))
      others f still)
    where
      others : (p : Pid) → live world S.mode φ p ≡ true → same_name s p.role ≡ false → code_by (in_focus s k φ) (E.code p.role) then follow κ (behind_turn k) (owners ts) p ≡ code_by φ (at_turn S s ts L (k + 1) p.role) then κ p
      others p l e =
          elim (owners ts p.role) as (λ b. owners ts p.role ≡ b → code_by (in_focus s k φ) (E.code p.role) then (if b then behind_turn k p else κ p) ≡ code_by φ (at_turn S s ts L (k + 1) p.role) then κ p) [
            | true ↦ λ o. ap (λ z. code_by (in_focus s k φ) z then behind_turn k p) (exit.owner p.role o)
            | false ↦ λ o.
                ap (λ z. code_by (in_focus s k φ) z then κ p) (exit.code p.role o e)
                ∙ ap (λ z. z then κ p) (code_other s k φ (S.code p.role) (entry.free p.role)) ∙ ap (λ z. code_by φ z then κ p) (sym (at_end (k + 1) p.role o))
          ] refl

  pub record Comes (k : ℕ) (c d : Conf) (u : List Event) : Type 0 where
    pub runs : run (state world c) u ≡ Some (state world d)
    pub mid : Middle k d
    pub still : Still world S.mode φ c d

  pub comes : (k : ℕ) (inside : nat_lt k (world.given.sizes s) ≡ true) (c d : Conf) (u : List Event) → Middle k c → (x : Begun k c) → Arrives world (for_start S s ts L) E (follow κ (behind_turn k) (owners ts)) (in_focus s k φ) x.to d u → Comes (k + 1) c d (x.leads.by ++ u)
  comes k inside c d u mid x a =
      let still = still_then world (focused S.mode s) (in_focus s k φ) c x.to d x.still a.still in
      record {
        runs = runs-append world c x.to d x.leads.by u x.leads.runs a.runs;
        mid = end_turn k inside c d mid a.fits still;
        still = still_out world S s φ k (live_back world S s φ E k entry.set inside (below k) (fresh_turn k)) c d still;
      }

  comes_then : (k l : ℕ) (c d e : Conf) (u v : List Event) → Comes k c d u → Comes l d e v → Comes l c e (u ++ v)
  comes_then k l c d e u v a b = record { runs = runs-append world c d e u v a.runs b.runs; mid = b.mid; still = still_then world S.mode φ c d e a.still b.still }

  pub inside_of : (left k : ℕ) → suc left + k ≡ world.given.sizes s → nat_lt k (world.given.sizes s) ≡ true
  inside_of left k e = lt-ltb k (world.given.sizes s) (omega arith)

  pub next_turn : (left k : ℕ) → suc left + k ≡ world.given.sizes s → left + (k + 1) ≡ world.given.sizes s
  next_turn left k e = omega (arith, e)

  pub picks_k : (k : ℕ) → Picks (focused S.mode s) (in_focus s k φ)
  picks_k k = picks_in S.mode s φ k picks

  pub inside_turn : (k : ℕ) → nat_lt k (world.given.sizes s) ≡ true → (c : Conf) → T.Behind κ φ → Middle k c → Inside world T S s (within_for S s ts L) (follow κ (behind_turn k) (owners ts)) (in_focus s k φ)
  inside_turn k inside c beyond mid = record {
    κ = κ;
    φ = φ;
    number = k;
    turn = k;
    beyond = beyond;
    picks = picks;
    each = mid.sets (member s k) (live_member world S s φ k entry.set inside) (ap is_each entry.set);
    is = refl;
    focus = refl;
  }

  no_turn : (c : Conf) → Middle (world.given.sizes s) c → Comes (world.given.sizes s) c c []
  no_turn c mid = record { runs = refl; mid = mid; still = record { code = λ p d. refl; store = λ p d. refl; sent = λ p q d C. refl; got = λ p q d C. refl; box_sent = λ p q d n. refl; box_got = λ p q d n. refl } }

  turns_there : (left k : ℕ) → left + k ≡ world.given.sizes s → (c : Conf) → T.IsTyped c → T.Behind κ φ → Middle k c → (m : Mem) → seq.each s R left k φ (mem c) m → (d : Conf) × (mem d ≡ m) × (u : List Event) × Comes (world.given.sizes s) c d u
  turns_there zero k e c typed beyond mid m r = (c, sym r, [], no_turn c (subst (λ (j : ℕ). Middle j c) (sym (zero-add k) ∙ e) mid))
  turns_there (suc left) k e c typed beyond mid m r =
      let inside = inside_of left k e in
      let x = begin_turn k inside c mid in
      let y = turn.there (follow κ (behind_turn k) (owners ts)) (in_focus s k φ) x.to (T.runs c x.to x.leads.by typed x.leads.runs) (inside_turn k inside c beyond mid) (picks_k k) x.fits r.0 (subst (λ (l : Mem). R (in_focus s k φ) l r.0) (sym x.same_mem) r.1) in
      let a = comes k inside c y.0 y.2 mid x y.3 in
      let z = turns_there left (k + 1) (next_turn left k e) y.0 (T.runs c y.0 (x.leads.by ++ y.2) typed a.runs) beyond a.mid m (subst (λ (l : Mem). seq.each s R left (k + 1) φ l m) (sym y.1) r.2) in
      (z.0, z.1, (x.leads.by ++ y.2) ++ z.2, comes_then (k + 1) (world.given.sizes s) c y.0 z.0 (x.leads.by ++ y.2) z.2 a z.3)

  turns_back : (left k : ℕ) → left + k ≡ world.given.sizes s → (c : Conf) → T.IsTyped c → T.Behind κ φ → Middle k c → (es : List Event) (z : State) → run (state world c) es ≡ Some z → IsTerminal z →
      (d : Conf) × seq.each s R left k φ (mem c) (mem d) × (u : List Event) × Comes (world.given.sizes s) c d u × Rest world d u es z
  turns_back zero k e c typed beyond mid es z r end = (c, refl, [], no_turn c (subst (λ (j : ℕ). Middle j c) (sym (zero-add k) ∙ e) mid), record { left = es; ends = r; counts = λ p. sym (zero-add (count p es)) })
  turns_back (suc left) k e c typed beyond mid es z r end =
      let inside = inside_of left k e in
      let x = begin_turn k inside c mid in
      let l = x.leads.first es z r end in
      let y = turn.back (follow κ (behind_turn k) (owners ts)) (in_focus s k φ) x.to (T.runs c x.to x.leads.by typed x.leads.runs) (inside_turn k inside c beyond mid) (picks_k k) x.fits l.left z l.ends end in
      let a = comes k inside c y.0 y.2 mid x y.3 in
      let rest = rest-append world x.to y.0 x.leads.by y.2 es z l y.4 in
      let v = turns_back left (k + 1) (next_turn left k e) y.0 (T.runs c y.0 (x.leads.by ++ y.2) typed a.runs) beyond a.mid rest.left z rest.ends end in (
        v.0,
        (mem y.0, subst (λ (m : Mem). R (in_focus s k φ) m (mem y.0)) x.same_mem y.1, v.1),
        (x.leads.by ++ y.2) ++ v.2,
        comes_then (k + 1) (world.given.sizes s) c y.0 v.0 (x.leads.by ++ y.2) v.2 a v.3,
        rest-append world y.0 v.0 (x.leads.by ++ y.2) v.2 es z rest v.4,
      )

  -- all are served
  all_served : (p : Pid) → live world S.mode φ p ≡ true → served s (below (world.given.sizes s)) p ≡ same_name s p.role
  all_served p l =
      elim (same_name s p.role) as (λ b. same_name s p.role ≡ b → (b && nat_lt p.member (world.given.sizes s)) ≡ b) [
        | true ↦ λ e. (λ i. nat_lt p.member (world.given.sizes (exact_name s p.role e i))) ∙ each_inside p (subst (λ (z : Name). S.mode z ≡ (Some thread_mode.Each)) (exact_name s p.role e) entry.set) l
        | false ↦ λ e. refl
      ] refl
    where
      each_inside : (p : Pid) → S.mode p.role ≡ (Some thread_mode.Each) → live world S.mode φ p ≡ true → nat_lt p.member (world.given.sizes p.role) ≡ true
      each_inside p e l = ap (λ m. if is_active m then same_process (φ p.role) p else (is_each m && nat_lt p.member (world.given.sizes p.role))) (sym e) ∙ l

  last : (c : Conf) → Middle (world.given.sizes s) c → Fits world (set_ends S s ts L E (at_turn S s ts L (world.given.sizes s))) κ φ c
  last c mid = record {
    code = λ p l. mid.code p l ∙ (λ i. code_by φ (if all_served p l i then E.code s else at_turn S s ts L (world.given.sizes s) p.role) then κ p);
    mail = λ p q l k. (carry p q l k).0;
    empty = λ p q l k. (carry p q l k).1;
    facts = λ p l x v e. mid.facts p l x v (ap (λ b. (if b then E.facts s else S.facts p.role) x) (all_served p l) ∙ e);
    sets = mid.sets;
  }
    where
      same_pending : (k : Key) → (if (same_name s k.from || same_name s k.to) then E.pending k else S.pending k) ≡ E.pending k
      same_pending k =
          elim (same_name s k.from) as (λ b. same_name s k.from ≡ b → (if (b || same_name s k.to) then E.pending k else S.pending k) ≡ E.pending k) [
            | true ↦ λ e. refl
            | false ↦ λ e.
                elim (same_name s k.to) as (λ b. same_name s k.to ≡ b → (if b then E.pending k else S.pending k) ≡ E.pending k) [
                  | true ↦ λ g. refl
                  | false ↦ λ g. sym (exit.closes.mail k e g)
                ] refl
          ] refl

      carry : (p q : Pid) → live world S.mode φ p ≡ true → live world S.mode φ q ≡ true → Carries c p q (λ C. E.pending (key p.role q.role C))
      carry p q l k =
          subst (λ (P : Name → List ℕ). Carries c p q P)
          (λ i C. ((λ i. if (all_served p l i || all_served q k i) then E.pending (key p.role q.role C) else S.pending (key p.role q.role C)) ∙ same_pending (key p.role q.role C)) i)
          (mid.carries p q l k)

  pub not_set : (t : Name) → owners ts t ≡ true → same_name s t ≡ false
  not_set t e =
      elim (same_name s t) as (λ b. same_name s t ≡ b → b ≡ false) [
        | true ↦ λ g. sym e ∙ ap (owners ts) (sym (exact_name s t g)) ∙ entry.not_owner
        | false ↦ λ g. refl
      ] refl

  -- and each owner leaves the loop
  leave_event : (t : Name) → owners ts t ≡ true → Goes_on world φ t (code_by φ (if same_name s t then E.code s else at_turn S s ts L (world.given.sizes s) t) then κ (φ t)) (code_by φ (L t).rest then κ (φ t))
  leave_event t e mine front =
      (λ i. effect (view world mine front) (φ t) (code_by φ (if not_set t e i then E.code s else at_is (world.given.sizes s) t e i) then κ (φ t)) None None)
      ∙ (λ i. goes_to (if fresh_turn (world.given.sizes s) i then code_with (L t).binder (who.Pid (member s (world.given.sizes s))) (code_by φ (L t).body) then (For (L t).binder s (world.given.sizes s + 1) (code_by φ (L t).body) ⨾ (code_by φ (L t).rest then κ (φ t))) else (code_by φ (L t).rest then κ (φ t))))

  pub leave : (c : Conf) → Middle (world.given.sizes s) c → Advanced world (after_for S s ts L E) κ φ c (map (λ t. plain_event (φ t)) ts)
  leave c mid =
      let W = set_ends S s ts L E (at_turn S s ts L (world.given.sizes s)) in
      let x = advance world W φ picks (λ u. (L u).rest) κ κ (owners ts) leave_event ts (λ _. false) entry.once c (last c mid) in
      subst (λ (κ' : Pid → Code). Advanced world (after_for S s ts L E) κ' φ c (map (λ t. plain_event (φ t)) ts)) (λ i q. if_const (owners ts q.role) (κ q) i)
      (subst (λ (Z : Reading). Advanced world Z (follow κ κ (owners ts)) φ c (map (λ t. plain_event (φ t)) ts)) (λ i. record W { code = λ u. codes u i }) x)
    where
      codes : (u : Name) → (if owners ts u then (L u).rest else (if same_name s u then E.code s else at_turn S s ts L (world.given.sizes s) u)) ≡ (if same_name s u then E.code s else (if owners ts u then (L u).rest else S.code u))
      codes u =
          elim (owners ts u) as (λ b. owners ts u ≡ b → (if b then (L u).rest else (if same_name s u then E.code s else (if b then For (L u).binder s (world.given.sizes s) (L u).body ⨾ (L u).rest else S.code u))) ≡ (if same_name s u then E.code s else (if b then (L u).rest else S.code u))) [
            | true ↦ λ e. ap (λ b. if b then E.code s else (L u).rest) (sym (not_set u e))
            | false ↦ λ e. refl
          ] refl

  done_for : (c d : Conf) (u : List Event) → Comes (world.given.sizes s) c d u → (x : Advanced world (after_for S s ts L E) κ φ d (map (λ t. plain_event (φ t)) ts)) → Arrives world S (after_for S s ts L E) κ φ c x.to (u ++ x.leads.by)
  done_for c d u a x = record {
    runs = runs-append world c d x.to u x.leads.by a.runs x.leads.runs;
    fits = x.fits;
    still = still_then world S.mode φ c d x.to a.still x.still;
  }

  for_there : (c : Conf) → T.IsTyped c → T.Behind κ φ → Fits world S κ φ c → (m : Mem) → seq.each s R (world.given.sizes s) 0 φ (mem c) m → (d : Conf) × (mem d ≡ m) × (u : List Event) × Arrives world S (after_for S s ts L E) κ φ c d u
  for_there c typed beyond f m r =
      let y = turns_there (world.given.sizes s) 0 (add-zero (world.given.sizes s)) c typed beyond (first c f) m r in
      let x = leave y.0 y.3.mid in
      (x.to, x.same_mem ∙ y.1, y.2 ++ x.leads.by, done_for c y.0 y.2 y.3 x)

  for_back : (c : Conf) → T.IsTyped c → T.Behind κ φ → Fits world S κ φ c → (es : List Event) (z : State) → run (state world c) es ≡ Some z → IsTerminal z →
      (d : Conf) × seq.each s R (world.given.sizes s) 0 φ (mem c) (mem d) × (u : List Event) × Arrives world S (after_for S s ts L E) κ φ c d u × Rest world d u es z
  for_back c typed beyond f es z r end =
      let y = turns_back (world.given.sizes s) 0 (add-zero (world.given.sizes s)) c typed beyond (first c f) es z r end in
      let x = leave y.0 y.3.mid in
      let l = x.leads.first y.4.left z y.4.ends end in
      (x.to, subst (λ (m : Mem). seq.each s R (world.given.sizes s) 0 φ (mem c) m) (sym x.same_mem) y.1, y.2 ++ x.leads.by, done_for c y.0 y.2 y.3 x, rest-append world y.0 x.to y.2 x.leads.by es z y.4 l)

pub sound_for : (world : World) (T : Typing world) (S : Reading) (s : Name) (ts : List Name) (L : Name → Loop) (R : Does) (E : Reading) → Entry S s ts L → Exit S s ts L E → Sound world (inside_by world T S s (within_for S s ts L)) (for_start S s ts L) R E →
    Sound world T S (seq.each s R (world.given.sizes s) 0) (after_for S s ts L E)
sound_for world T S s ts L R E entry exit turn = record {
  there = λ κ φ c typed beyond picks f. for_there world T S s ts L R E entry exit turn κ φ picks c typed beyond f;
  back = λ κ φ c typed beyond picks f. for_back world T S s ts L R E entry exit turn κ φ picks c typed beyond f;
}
