-- A guard that is known, and a while, are sound.
use Rattle.std.proofs.Common.{◌≡◌, ℕ, map, suc, zero, ◌+◌, ◌<◌, Bool, true, false, List, [], ◌∷◌, ◌++◌, Option, Some, None, refl, sym, ap, ◌∙◌, subst, arith}
use Rattle.std.specs.Prelude.{if◌then◌else◌}
use Rattle.brisk_values.specs.declared.value.Pid.{Pid}
use Rattle.brisk_values.specs.declared.value.Value.{Value}
use Rattle.brisk_values.specs.Functions.{changed}
use Rattle.brisk_values.specs.Names.{Name, same_name, same_process}
use Rattle.brisk_values.proofs.Changes.{process_laws, exact_name, exact_process, changed-other, changed-same}
use Rattle.brisk_syntax.specs.Stores.{is_true}
use Rattle.brisk_syntax.specs.Syntax.{Expression, Statement, While, Code, done, ◌⨾◌, ◌then◌}
use Rattle.brisk_syntax.specs.Value.{value_of}
use Rattle.brisk_seq.specs.Sequential.{Focus}
use Rattle.brisk_async.specs.declared.event.Event.{Event}
use Rattle.brisk_async.specs.Laws.{plain_event, count}
use Rattle.brisk_async.specs.Machine.{State, View, effect, goes_to, seen_by, queue, run, IsTerminal}
use Rattle.brisk_facts.specs.Learning.{fold}
use Rattle.brisk_facts.proofs.Folding.{fold_value}
use Rattle.brisk_state.specs.declared.thread.Mode.{Mode}
use Rattle.brisk_state.specs.Symbolic.{Key, key}
use Rattle.brisk_sound.specs.Does as seq
use Rattle.brisk_sound.specs.Does.{Mem, Does}
use Rattle.brisk_sound.proofs.Compose.{arrives_then}
use Rattle.brisk_sound.proofs.Events as events
use Rattle.brisk_sound.proofs.Fits.{World, Conf, mem, live, Picks, Fits, sole}
use Rattle.brisk_sound.proofs.Leads.{state, Rest, rest-append, count-append}
use Rattle.brisk_rules.proofs.Readings.{Reading, is_active, is_each, has, code_by, Known}
use Rattle.brisk_sound.proofs.Sound.{Typing, behind_by, Sound, Arrives, Going, sound_going}
use Rattle.brisk_sound.proofs.After.{goes_on, at_guard}
use Rattle.brisk_sound.proofs.Control.{code_then, Silent, silent, sides, lead_arrives, guard_event, not_both}
use Rattle.brisk_sound.proofs.Branch.{if_effect}

pub facts_back : (f : Name → Known) (t : Name) → changed same_name f t (f t) ≡ f
facts_back f t = λ i q. back q i
  where
    back : (q : Name) → changed same_name f t (f t) q ≡ f q
    back q = elim (same_name t q) as (λ b. same_name t q ≡ b → (if b then f t else f q) ≡ f q) [ true ↦ λ e. ap f (exact_name t q e) | false ↦ λ e. refl ] refl

while_effect : (v : View) (p : Pid) (φ : Focus) (e : Expression) (b rest κ : Code) (g : Bool) → is_true (value_of v.sizes v.own e) ≡ g →
    effect v p (code_by φ (While e b ⨾ rest) then κ) None None ≡ goes_to (if g then code_by φ b then (code_by φ (While e b ⨾ rest) then κ) else code_by φ rest then κ)
while_effect v p φ e b rest κ g i = ap (λ t. goes_to (if t then code_by φ b then (code_by φ (While e b ⨾ rest) then κ) else code_by φ rest then κ)) i

module _ (world : World) (T : Typing world) (S : Reading) (t : Name) (act : is_active (S.mode t) ≡ true) where
  -- its event is the plain one, where that goes on to the code
  goes_silent : (k : Code) →
      ((κ : Pid → Code) (φ : Focus) (c : Conf) → Picks S.mode φ → Fits world S κ φ c → effect (seen_by (state world c) (φ t)) (φ t) (code_by φ (S.code t) then κ (φ t)) None None ≡ goes_to (code_by φ k then κ (φ t))) →
      Going world T S seq.stays (goes_on S t k) (λ φ. plain_event (φ t) ∷ [])
  goes_silent k h κ φ c typed beyond picks f =
      let x = silent world S κ κ φ c picks t act f record { same = λ q l d. refl } k (S.facts t) (events.own_facts world S κ φ c picks t act f) (h κ φ c picks f) in record {
        to = x.to;
        leads = x.leads;
        schedule = x.one;
        does = x.same_mem;
        alone = λ m r. x.same_mem ∙ sym r;
        fits = subst (λ (g : Name → Known). Fits world (record S { code = changed same_name S.code t k; facts = g }) κ φ x.to) (facts_back S.facts t) x.fits;
        still = x.still;
      }

  pub goes_known_if : (s : Statement) (e : Expression) (a b rest : Code) → S.code t ≡ s ⨾ rest → sides s ≡ Some (e, a, b) → (v : Value) → fold (S.facts t) e ≡ Some v →
      Going world T S seq.stays (goes_on S t (if is_true v then a then rest else b then rest)) (λ φ. plain_event (φ t) ∷ [])
  goes_known_if s e a b rest is has v known =
      goes_silent (if is_true v then a then rest else b then rest) (λ κ φ c picks f.
      ap (λ z. effect (seen_by (state world c) (φ t)) (φ t) (code_by φ z then κ (φ t)) None None) is
      ∙ if_effect (seen_by (state world c) (φ t)) (φ t) φ s e a b rest (κ (φ t)) has (is_true v)
      (ap is_true (fold_value world.given.sizes (c.store (φ t)) (S.facts t) (events.own_facts world S κ φ c picks t act f) e v known)))

  pub goes_known_while : (e : Expression) (b rest : Code) → S.code t ≡ While e b ⨾ rest → (v : Value) → fold (S.facts t) e ≡ Some v →
      Going world T S seq.stays (goes_on S t (if is_true v then b then S.code t else rest)) (λ φ. plain_event (φ t) ∷ [])
  goes_known_while e b rest is v known =
      goes_silent (if is_true v then b then S.code t else rest) (λ κ φ c picks f.
      ap (λ z. effect (seen_by (state world c) (φ t)) (φ t) (code_by φ z then κ (φ t)) None None) is
      ∙ while_effect (seen_by (state world c) (φ t)) (φ t) φ e b rest (κ (φ t)) (is_true v)
      (ap is_true (fold_value world.given.sizes (c.store (φ t)) (S.facts t) (events.own_facts world S κ φ c picks t act f) e v known))
      ∙ goes φ (κ (φ t)) (is_true v))
    where
      goes : (φ : Focus) (κ : Code) (g : Bool) → goes_to (if g then code_by φ b then (code_by φ (While e b ⨾ rest) then κ) else code_by φ rest then κ) ≡ goes_to (code_by φ (if g then b then S.code t else rest) then κ)
      goes φ κ true = ap goes_to (sym (code_then φ b (While e b ⨾ rest) κ)) ∙ ap (λ z. goes_to (code_by φ (b then z) then κ)) (sym is)
      goes φ κ false = refl

  pub sound_known_if : (s : Statement) (e : Expression) (a b rest : Code) → S.code t ≡ s ⨾ rest → sides s ≡ Some (e, a, b) → (v : Value) → fold (S.facts t) e ≡ Some v → Sound world T S seq.stays (goes_on S t (if is_true v then a then rest else b then rest))
  sound_known_if s e a b rest is has v known = sound_going world T S seq.stays _ (λ φ. plain_event (φ t) ∷ []) (goes_known_if s e a b rest is has v known)

  pub sound_known_while : (e : Expression) (b rest : Code) → S.code t ≡ While e b ⨾ rest → (v : Value) → fold (S.facts t) e ≡ Some v → Sound world T S seq.stays (goes_on S t (if is_true v then b then S.code t else rest))
  sound_known_while e b rest is v known = sound_going world T S seq.stays _ (λ φ. plain_event (φ t) ∷ []) (goes_known_while e b rest is v known)

-- the owner at its end, and the rest as it was
pub record Restored (S E : Reading) (t : Name) : Type 0 where
  pub owner : E.code t ≡ done
  pub mode : E.mode ≡ S.mode
  pub code : (u : Name) → same_name t u ≡ false → E.code u ≡ S.code u
  pub pending : E.pending ≡ S.pending
  pub facts : (u x : Name) (v : Value) → S.facts u x ≡ Some v → E.facts u x ≡ Some v

-- what stands behind one turn of a loop
abbrev pub behind : Reading → Name → Focus → (Pid → Code) → Pid → Code
behind S t φ κ = changed same_process κ (φ t) (code_by φ (S.code t) then κ (φ t))

module _ (world : World) (S E : Reading) (t : Name) (act : is_active (S.mode t) ≡ true) (w : Restored S E t) where
  -- a turn's end is again the beginning of one
  pub returns : (κ : Pid → Code) (φ : Focus) (c : Conf) → Picks S.mode φ → Fits world E (behind S t φ κ) φ c → Fits world S κ φ c
  returns κ φ c picks f =
      let g : Fits world (record E { mode = S.mode }) (behind S t φ κ) φ c = subst (λ (m : Name → Option Mode). Fits world (record E { mode = m }) (behind S t φ κ) φ c) w.mode f in
      record {
        code = λ q l.
            g.code q l
            ∙ elim (same_name t q.role) as (λ b. same_name t q.role ≡ b → code_by φ (E.code q.role) then behind S t φ κ q ≡ code_by φ (S.code q.role) then κ q) [
              | true ↦ λ e.
                  let r = exact_name t q.role e in let p = exact_process (φ t) q (sole world S.mode φ t q picks act l ∙ e) in
                  ap (λ z. code_by φ (E.code z) then behind S t φ κ q) (sym r) ∙ ap (λ z. code_by φ z then behind S t φ κ q) w.owner
                  ∙ ap (behind S t φ κ) (sym p) ∙ changed-same process_laws κ (φ t) (code_by φ (S.code t) then κ (φ t))
                  ∙ (λ i. code_by φ (S.code (r i)) then κ (p i))
              | false ↦ λ e.
                  (λ i. code_by φ (w.code q.role e i) then changed-other process_laws κ (φ t) (code_by φ (S.code t) then κ (φ t)) q (sole world S.mode φ t q picks act l ∙ e) i)
            ] refl;
        mail = subst (λ (P : Key → List ℕ). (p q : Pid) → live world S.mode φ p ≡ true → live world S.mode φ q ≡ true → (C : Name) → map (λ n. c.box n p q) (P (key p.role q.role C)) ≡ map Some (c.mail (queue p q C))) w.pending g.mail;
        empty = subst (λ (P : Key → List ℕ). (p q : Pid) → live world S.mode φ p ≡ true → live world S.mode φ q ≡ true → (n : ℕ) → ((C : Name) → has n (P (key p.role q.role C)) ≡ false) → c.box n p q ≡ None) w.pending g.empty;
        facts = λ p l x v e. g.facts p l x v (w.facts p.role x v e);
        sets = λ q l e.
            elim (same_name t q.role) as (λ b. same_name t q.role ≡ b → κ q ≡ done) [
              | true ↦ λ h. absurd (not_both (S.mode t) act (ap (λ z. is_each (S.mode z)) (exact_name t q.role h) ∙ e))
              | false ↦ λ h. sym (changed-other process_laws κ (φ t) (code_by φ (S.code t) then κ (φ t)) q (sole world S.mode φ t q picks act l ∙ h)) ∙ g.sets q l e
            ] refl;
      }

-- what stands behind a turn of a loop of t, at some turn
pub record Turns (world : World) (T : Typing world) (S : Reading) (t : Name) (loop : ℕ → Code) (κ' : Pid → Code) (φ : Focus) : Type 0 where
  pub κ : Pid → Code
  pub turn : ℕ
  pub beyond : T.Behind κ φ
  pub picks : Picks S.mode φ
  pub is : κ' ≡ changed same_process κ (φ t) (code_by φ (loop turn) then κ (φ t))

abbrev pub turning : (world : World) → Typing world → Reading → Name → (ℕ → Code) → Typing world
turning world T S t loop = behind_by world T (Turns world T S t loop)

module _ (world : World) (T : Typing world) (S : Reading) (t : Name) (act : is_active (S.mode t) ≡ true) (e : Expression) (b rest : Code) (is : S.code t ≡ While e b ⨾ rest) where
  abbrev pub turn_start : Reading
  turn_start = at_guard S t e true b

  abbrev pub after_while : Reading
  after_while = at_guard S t e false rest

  pub begins : (κ : Pid → Code) (φ : Focus) (c : Conf) → T.IsTyped c → T.Behind κ φ → Picks S.mode φ → Fits world S κ φ c → seq.guard world.given t e φ (mem c) ≡ true → Silent world S (behind S t φ κ) φ c (φ t) turn_start
  begins κ φ c typed beyond picks f g =
      guard_event world T S t act (While e b) rest is e refl κ (behind S t φ κ) φ c typed beyond picks f record { same = λ q l d. changed-other process_laws κ (φ t) (code_by φ (S.code t) then κ (φ t)) q d } true g b
      (while_effect (seen_by (state world c) (φ t)) (φ t) φ e b rest (κ (φ t)) true g
      ∙ (λ i. goes_to (code_by φ b then (code_by φ (sym is i) then κ (φ t))))
      ∙ ap (λ z. goes_to (code_by φ b then z)) (sym (changed-same process_laws κ (φ t) (code_by φ (S.code t) then κ (φ t)))))

  pub leaves : (κ : Pid → Code) (φ : Focus) (c : Conf) → T.IsTyped c → T.Behind κ φ → Picks S.mode φ → Fits world S κ φ c → seq.guard world.given t e φ (mem c) ≡ false → Silent world S κ φ c (φ t) after_while
  leaves κ φ c typed beyond picks f g =
      guard_event world T S t act (While e b) rest is e refl κ κ φ c typed beyond picks f record { same = λ q l d. refl } false g rest
      (while_effect (seen_by (state world c) (φ t)) (φ t) φ e b rest (κ (φ t)) false g)

  arrived : (κ : Pid → Code) (φ : Focus) (c : Conf) (x : Silent world S κ φ c (φ t) after_while) → Arrives world S after_while κ φ c x.to x.leads.by
  arrived κ φ c x = record { runs = x.leads.runs; fits = x.fits; still = x.still }

  module _ (R : Does) (E : Reading) (turn : Sound world (turning world T S t (λ k. S.code t)) turn_start R E) (w : Restored S E t) where
    while_there : (k : ℕ) (κ : Pid → Code) (φ : Focus) (c : Conf) → T.IsTyped c → T.Behind κ φ → Picks S.mode φ → Fits world S κ φ c → (m : Mem) → seq.turns world.given t e R k φ (mem c) m →
        (d : Conf) × (mem d ≡ m) × (u : List Event) × Arrives world S after_while κ φ c d u
    while_there zero κ φ c typed beyond picks f m r =
        let x = leaves κ φ c typed beyond picks f r.0 in (x.to, x.same_mem ∙ sym r.1, x.leads.by, arrived κ φ c x)
    while_there (suc k) κ φ c typed beyond picks f m r =
        let x = begins κ φ c typed beyond picks f r.0 in
        let y = turn.there (behind S t φ κ) φ x.to (T.runs c x.to x.leads.by typed x.leads.runs) record { κ = κ; turn = 0; beyond = beyond; picks = picks; is = refl } picks x.fits r.1 (subst (λ (l : Mem). R φ l r.1) (sym x.same_mem) r.2) in
        let a = lead_arrives world T S turn_start E S κ (behind S t φ κ) φ c x.to y.0 y.2 x.leads x.still refl y.3 (returns world S E t act w κ φ y.0 picks y.3.fits) in
        let z = while_there k κ φ y.0 (T.runs c y.0 (x.leads.by ++ y.2) typed a.runs) beyond picks a.fits m (subst (λ (l : Mem). seq.turns world.given t e R k φ l m) (sym y.1) r.3) in
        (z.0, z.1, (x.leads.by ++ y.2) ++ z.2, arrives_then world T S S after_while refl κ φ c y.0 z.0 (x.leads.by ++ y.2) z.2 a z.3)

    abbrev Turned : (Pid → Code) → Focus → Conf → List Event → State → Type 0
    Turned κ φ c s z = (d : Conf) × R φ (mem c) (mem d) × (u : List Event) × Arrives world S S κ φ c d u × (rest : Rest world d u s z) × (count (φ t) rest.left < count (φ t) s)

    fewer_left : (p : Pid) (by : List Event) (more : ℕ) (all left : ℕ) → by ≡ plain_event p ∷ [] → all ≡ count p by + more + left → left < all
    fewer_left p by more all left e h =
        let g : count p by ≡ 1 = ap (count p) e ∙ ap (λ x. (if x then 1 else 0) + 0) (process_laws.refl p) in omega (arith, g, h)

    turn_back : (κ : Pid → Code) (φ : Focus) (c : Conf) → T.IsTyped c → T.Behind κ φ → Picks S.mode φ → Fits world S κ φ c → (s : List Event) (z : State) → run (state world c) s ≡ Some z → IsTerminal z →
        seq.guard world.given t e φ (mem c) ≡ true → Turned κ φ c s z
    turn_back κ φ c typed beyond picks f s z r end g =
        let x = begins κ φ c typed beyond picks f g in
        let l = x.leads.first s z r end in
        let y = turn.back (behind S t φ κ) φ x.to (T.runs c x.to x.leads.by typed x.leads.runs) record { κ = κ; turn = 0; beyond = beyond; picks = picks; is = refl } picks x.fits l.left z l.ends end in
        let rest = rest-append world x.to y.0 x.leads.by y.2 s z l y.4 in (
          y.0,
          subst (λ (m : Mem). R φ m (mem y.0)) x.same_mem y.1,
          x.leads.by ++ y.2,
          lead_arrives world T S turn_start E S κ (behind S t φ κ) φ c x.to y.0 y.2 x.leads x.still refl y.3 (returns world S E t act w κ φ y.0 picks y.3.fits),
          rest,
          fewer_left (φ t) x.leads.by (count (φ t) y.2) (count (φ t) s) (count (φ t) rest.left) x.one (rest.counts (φ t) ∙ ap (λ n. n + count (φ t) rest.left) (count-append (φ t) x.leads.by y.2)),
        )

    abbrev Left : (Pid → Code) → Focus → Conf → List Event → State → Type 0
    Left κ φ c s z = (d : Conf) × seq.loops world.given t e R φ (mem c) (mem d) × (u : List Event) × Arrives world S after_while κ φ c d u × Rest world d u s z

    while_back : (n : ℕ) (κ : Pid → Code) (φ : Focus) (c : Conf) → T.IsTyped c → T.Behind κ φ → Picks S.mode φ → Fits world S κ φ c → (s : List Event) (z : State) → count (φ t) s < n → run (state world c) s ≡ Some z → IsTerminal z → Left κ φ c s z
    while_back zero κ φ c typed beyond picks f s z few r end = absurd (omega arith)
    while_back (suc n) κ φ c typed beyond picks f s z few r end =
        elim (seq.guard world.given t e φ (mem c)) as (λ g. seq.guard world.given t e φ (mem c) ≡ g → Left κ φ c s z) [
          | true ↦ λ g.
              let y = turn_back κ φ c typed beyond picks f s z r end g in
              let v = while_back n κ φ y.0 (T.runs c y.0 y.2 typed y.3.runs) beyond picks y.3.fits y.4.left z (omega (arith, y.5)) y.4.ends end in
              (v.0, (suc v.1.0, (g, mem y.0, y.1, v.1.1)), y.2 ++ v.2, arrives_then world T S S after_while refl κ φ c y.0 v.0 y.2 v.2 y.3 v.3, rest-append world y.0 v.0 y.2 v.2 s z y.4 v.4)
          | false ↦ λ g.
              let x = leaves κ φ c typed beyond picks f g in
              (x.to, (zero, (g, x.same_mem)), x.leads.by, arrived κ φ c x, x.leads.first s z r end)
        ] refl

    pub sound_while : Sound world T S (seq.loops world.given t e R) after_while
    sound_while = record {
      there = λ κ φ c typed beyond picks f m r. while_there r.0 κ φ c typed beyond picks f m r.1;
      back = λ κ φ c typed beyond picks f s z r end. while_back (suc (count (φ t) s)) κ φ c typed beyond picks f s z (omega arith) r end;
    }
