-- An if is sound where its sides are.
use Rattle.std.proofs.Common.{◌≡◌, Bool, true, false, List, ◌++◌, Option, Some, None, refl, sym, ap, ◌∙◌, subst, inl, inr}
use Rattle.std.specs.Prelude.{if◌then◌else◌}
use Rattle.std.proofs.lemmas.Option.{same_Some}
use Rattle.brisk_values.specs.declared.value.Pid.{Pid}
use Rattle.brisk_values.specs.Names.{Name}
use Rattle.brisk_syntax.specs.Stores.{is_true}
use Rattle.brisk_syntax.specs.Syntax.{Expression, Statement, If, IfElse, Code, done, ◌⨾◌, ◌then◌}
use Rattle.brisk_syntax.specs.Value.{value_of}
use Rattle.brisk_seq.specs.Sequential.{Focus}
use Rattle.brisk_async.specs.declared.event.Event.{Event}
use Rattle.brisk_async.specs.Machine.{State, View, effect, goes_to, seen_by, run, IsTerminal}
use Rattle.brisk_state.specs.declared.thread.Mode.{Mode}
use Rattle.brisk_sound.specs.Does as seq
use Rattle.brisk_sound.specs.Does.{Mem, Does}
use Rattle.brisk_sound.proofs.Fits.{World, Conf, mem, Picks, Fits}
use Rattle.brisk_sound.proofs.Leads.{state, Rest, rest-append}
use Rattle.brisk_rules.proofs.Readings.{Reading, is_active, code_by, statement_by}
use Rattle.brisk_sound.proofs.Sound.{Typing, Sound, Arrives, guard_of}
use Rattle.brisk_sound.proofs.After.{at_guard}
use Rattle.brisk_sound.proofs.Control.{code_then, Silent, Weaker, weaken, sides, lead_arrives, guard_event}

goes_side : (φ : Focus) (a b rest κ : Code) (g : Bool) → goes_to ((if g then code_by φ a else code_by φ b) then (code_by φ rest then κ)) ≡ goes_to (code_by φ (if g then a then rest else b then rest) then κ)
goes_side φ a b rest κ true = ap goes_to (sym (code_then φ a rest κ))
goes_side φ a b rest κ false = ap goes_to (sym (code_then φ b rest κ))

goes_one : (φ : Focus) (a rest κ : Code) (g : Bool) → goes_to (if g then code_by φ a then (code_by φ rest then κ) else (code_by φ rest then κ)) ≡ goes_to (code_by φ (if g then a then rest else rest) then κ)
goes_one φ a rest κ true = ap goes_to (sym (code_then φ a rest κ))
goes_one φ a rest κ false = refl

pub parts : (u v : Expression × Code × Code) → Some u ≡ Some v → (u.0 ≡ v.0) × (u.1 ≡ v.1) × (u.2 ≡ v.2)
parts u v h = let e = same_Some u v h in (ap (λ (w : Expression × Code × Code). w.0) e, ap (λ (w : Expression × Code × Code). w.1) e, ap (λ (w : Expression × Code × Code). w.2) e)

-- the event of an if
pub if_effect : (v : View) (p : Pid) (φ : Focus) (s : Statement) (e : Expression) (a b rest κ : Code) → sides s ≡ Some (e, a, b) → (g : Bool) → is_true (value_of v.sizes v.own e) ≡ g →
    effect v p (statement_by φ s ⨾ (code_by φ rest then κ)) None None ≡ goes_to (code_by φ (if g then a then rest else b then rest) then κ)
if_effect v p φ (If e' a') e a b rest κ h g i =
    let w = parts (e', a', done) (e, a, b) h in let x = w.0 in let y = w.1 in let z = w.2 in
    goes_one φ a' rest κ (is_true (value_of v.sizes v.own e'))
    ∙ (λ j. goes_to (code_by φ (if is_true (value_of v.sizes v.own (x j)) then y j then rest else z j then rest) then κ))
    ∙ ap (λ t. goes_to (code_by φ (if t then a then rest else b then rest) then κ)) i
if_effect v p φ (IfElse e' a' b') e a b rest κ h g i =
    let w = parts (e', a', b') (e, a, b) h in let x = w.0 in let y = w.1 in let z = w.2 in
    goes_side φ a' b' rest κ (is_true (value_of v.sizes v.own e'))
    ∙ (λ j. goes_to (code_by φ (if is_true (value_of v.sizes v.own (x j)) then y j then rest else z j then rest) then κ))
    ∙ ap (λ t. goes_to (code_by φ (if t then a then rest else b then rest) then κ)) i
if_effect v p φ s e a b rest κ h g i = cc

pub if_guards : (s : Statement) (e : Expression) (a b : Code) → sides s ≡ Some (e, a, b) → guard_of s ≡ Some e
if_guards (If e' a') e a b h = ap Some (parts (e', a', done) (e, a, b) h).0
if_guards (IfElse e' a' b') e a b h = ap Some (parts (e', a', b') (e, a, b) h).0
if_guards s e a b h = cc

module _ (world : World) (T : Typing world) where
  -- an event before sound steps
  pub event_there : (S S1 : Reading) (R : Does) (S' : Reading) → Sound world T S1 R S' → S1.mode ≡ S.mode → (κ : Pid → Code) (φ : Focus) (c : Conf) (p : Pid) → T.IsTyped c → T.Behind κ φ → Picks S.mode φ → Silent world S κ φ c p S1 →
      (m : Mem) → R φ (mem c) m → (d : Conf) × (mem d ≡ m) × (t : List Event) × Arrives world S S' κ φ c d t
  event_there S S1 R S' sound modes κ φ c p typed beyond picks x m r =
      let y = sound.there κ φ x.to (T.runs c x.to x.leads.by typed x.leads.runs) beyond (subst (λ (m : Name → Option Mode). Picks m φ) (sym modes) picks) x.fits m (subst (λ (l : Mem). R φ l m) (sym x.same_mem) r) in
      (y.0, y.1, x.leads.by ++ y.2, lead_arrives world T S S1 S' S' κ κ φ c x.to y.0 y.2 x.leads x.still modes y.3 y.3.fits)

  pub event_back : (S S1 : Reading) (R : Does) (S' : Reading) → Sound world T S1 R S' → S1.mode ≡ S.mode → (κ : Pid → Code) (φ : Focus) (c : Conf) (p : Pid) → T.IsTyped c → T.Behind κ φ → Picks S.mode φ → Silent world S κ φ c p S1 →
      (s : List Event) (z : State) → run (state world c) s ≡ Some z → IsTerminal z → (d : Conf) × R φ (mem c) (mem d) × (t : List Event) × Arrives world S S' κ φ c d t × Rest world d t s z
  event_back S S1 R S' sound modes κ φ c p typed beyond picks x s z r end =
      let l = x.leads.first s z r end in
      let y = sound.back κ φ x.to (T.runs c x.to x.leads.by typed x.leads.runs) beyond (subst (λ (m : Name → Option Mode). Picks m φ) (sym modes) picks) x.fits l.left z l.ends end in (
        y.0,
        subst (λ (l : Mem). R φ l (mem y.0)) x.same_mem y.1,
        x.leads.by ++ y.2,
        lead_arrives world T S S1 S' S' κ κ φ c x.to y.0 y.2 x.leads x.still modes y.3 y.3.fits,
        rest-append world x.to y.0 x.leads.by y.2 s z l y.4,
      )

  pub sound_weaker : (S : Reading) (R : Does) (E S' : Reading) → Weaker E S' → Sound world T S R E → Sound world T S R S'
  sound_weaker S R E S' w h = record {
    there = λ κ φ c typed beyond picks f m r. let y = h.there κ φ c typed beyond picks f m r in (y.0, y.1, y.2, record { runs = y.3.runs; fits = weaken world E S' κ φ y.0 w y.3.fits; still = y.3.still });
    back = λ κ φ c typed beyond picks f s z r end. let y = h.back κ φ c typed beyond picks f s z r end in (y.0, y.1, y.2, record { runs = y.3.runs; fits = weaken world E S' κ φ y.0 w y.3.fits; still = y.3.still }, y.4);
  }

  module _ (S : Reading) (t : Name) (act : is_active (S.mode t) ≡ true) (s : Statement) (e : Expression) (a b rest : Code) (is : S.code t ≡ s ⨾ rest) (has_sides : sides s ≡ Some (e, a, b)) where
    pub event_of : (κ : Pid → Code) (φ : Focus) (c : Conf) → T.IsTyped c → T.Behind κ φ → Picks S.mode φ → Fits world S κ φ c → (g : Bool) → seq.guard world.given t e φ (mem c) ≡ g →
        Silent world S κ φ c (φ t) (at_guard S t e g (if g then a then rest else b then rest))
    event_of κ φ c typed beyond picks f g h =
        guard_event world T S t act s rest is e (if_guards s e a b has_sides) κ κ φ c typed beyond picks f record { same = λ q l d. refl } g h (if g then a then rest else b then rest)
        (if_effect (seen_by (state world c) (φ t)) (φ t) φ s e a b rest (κ (φ t)) has_sides g h)

    pub sound_branch : (R Q : Does) (S' : Reading) → Sound world T (at_guard S t e true (a then rest)) R S' → Sound world T (at_guard S t e false (b then rest)) Q S' → Sound world T S (seq.branches world.given t e R Q) S'
    sound_branch R Q S' x y = record {
      there = λ κ φ c typed beyond picks f m r.
          elim r [
            | inl u ↦ event_there S _ R S' x refl κ φ c (φ t) typed beyond picks (event_of κ φ c typed beyond picks f true u.0) m u.1
            | inr u ↦ event_there S _ Q S' y refl κ φ c (φ t) typed beyond picks (event_of κ φ c typed beyond picks f false u.0) m u.1
          ];
      back = λ κ φ c typed beyond picks f s z r end.
          elim (seq.guard world.given t e φ (mem c)) as (λ g. seq.guard world.given t e φ (mem c) ≡ g → (d : Conf) × seq.branches world.given t e R Q φ (mem c) (mem d) × (t : List Event) × Arrives world S S' κ φ c d t × Rest world d t s z) [
            | true ↦ λ g. let w = event_back S _ R S' x refl κ φ c (φ t) typed beyond picks (event_of κ φ c typed beyond picks f true g) s z r end in (w.0, inl (g, w.1), w.2, w.3, w.4)
            | false ↦ λ g. let w = event_back S _ Q S' y refl κ φ c (φ t) typed beyond picks (event_of κ φ c typed beyond picks f false g) s z r end in (w.0, inr (g, w.1), w.2, w.3, w.4)
          ] refl;
    }
