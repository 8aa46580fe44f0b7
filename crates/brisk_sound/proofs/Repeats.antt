-- A repeat is sound where its turn is.
use Rattle.std.proofs.Common.{◌≡◌, ℕ, suc, zero, ◌+◌, true, List, ◌++◌, Some, None, refl, sym, ◌∙◌, subst, arith, zero-add, add-zero}
use Rattle.std.specs.Prelude.{if◌then◌else◌, nat_lt}
use Rattle.std.proofs.lemmas.Bool.{le-ltb, lt-ltb}
use Rattle.brisk_values.specs.declared.value.Pid.{Pid}
use Rattle.brisk_values.specs.Functions.{changed}
use Rattle.brisk_values.specs.Names.{Name, same_name, same_process}
use Rattle.brisk_values.proofs.Changes.{name_laws, process_laws, exact_name, changed_again, changed-other, changed-same}
use Rattle.brisk_syntax.specs.Syntax.{Repeat, Code, ◌⨾◌, ◌then◌}
use Rattle.brisk_seq.specs.Sequential.{Focus}
use Rattle.brisk_async.specs.declared.event.Event.{Event}
use Rattle.brisk_async.specs.Machine.{State, effect, goes_to, seen_by, run, IsTerminal}
use Rattle.brisk_sound.specs.Does as seq
use Rattle.brisk_sound.specs.Does.{Mem, Does}
use Rattle.brisk_sound.proofs.Compose.{arrives_then}
use Rattle.brisk_sound.proofs.Events as events
use Rattle.brisk_sound.proofs.Fits.{World, Conf, mem, Picks, Fits}
use Rattle.brisk_sound.proofs.Leads.{state, Rest, rest-append, unchanged_at}
use Rattle.brisk_rules.proofs.Readings.{Reading, is_active, code_by}
use Rattle.brisk_sound.proofs.Sound.{Typing, Sound, Arrives}
use Rattle.brisk_sound.proofs.Control.{Silent, silent, lead_arrives}
use Rattle.brisk_sound.proofs.Loops.{facts_back, Restored, behind, Turns, turning, returns}

module _ (world : World) (T : Typing world) (S : Reading) (t s : Name) (b rest : Code) where
  abbrev pub repeat_at : ℕ → Reading
  repeat_at k = record S { code = changed same_name S.code t (Repeat s k b ⨾ rest) }

  abbrev pub repeat_start : Reading
  repeat_start = record S { code = changed same_name S.code t b }

  abbrev pub after_repeat : Reading
  after_repeat = record S { code = changed same_name S.code t rest }

  module _ (R : Does) (E : Reading) (act : is_active (S.mode t) ≡ true) (turn : Sound world (turning world T S t (λ k. Repeat s k b ⨾ rest)) repeat_start R E) (w : Restored S E t) where
    pub restored : (k : ℕ) → Restored (repeat_at k) E t
    restored k = record {
      owner = w.owner;
      mode = w.mode;
      code = λ u e. w.code u e ∙ sym (changed-other name_laws S.code t (Repeat s k b ⨾ rest) u e);
      pending = w.pending;
      facts = w.facts;
    }

    pub at_is : (k : ℕ) → (repeat_at k).code t ≡ Repeat s k b ⨾ rest
    at_is k = changed-same name_laws S.code t (Repeat s k b ⨾ rest)

    pub begins : (k : ℕ) → nat_lt k (world.given.sizes s) ≡ true → (κ : Pid → Code) (φ : Focus) (c : Conf) → Picks S.mode φ → Fits world (repeat_at k) κ φ c → Silent world (repeat_at k) (behind (repeat_at (k + 1)) t φ κ) φ c (φ t) repeat_start
    begins k inside κ φ c picks f =
        let X = code_by φ ((repeat_at (k + 1)).code t) then κ (φ t) in
        let x = silent world (repeat_at k) κ (behind (repeat_at (k + 1)) t φ κ) φ c picks t act f record { same = λ q l d. changed-other process_laws κ (φ t) X q d } b (S.facts t)
        (events.own_facts world (repeat_at k) κ φ c picks t act f)
        ((λ i. effect (seen_by (state world c) (φ t)) (φ t) (code_by φ (at_is k i) then κ (φ t)) None None)
        ∙ (λ i. goes_to (if inside i then code_by φ b then (code_by φ (sym (at_is (k + 1)) i) then κ (φ t)) else (code_by φ rest then κ (φ t))))
        ∙ (λ i. goes_to (code_by φ b then sym (changed-same process_laws κ (φ t) X) i))) in
        record {
          to = x.to;
          same_mem = x.same_mem;
          leads = x.leads;
          one = x.one;
          fits = subst (λ (Z : Reading). Fits world Z (behind (repeat_at (k + 1)) t φ κ) φ x.to)
              (λ i. record S { code = changed_again same_name S.code t (Repeat s k b ⨾ rest) b i; facts = facts_back S.facts t i }) x.fits;
          still = x.still;
        }

    pub leaves : (κ : Pid → Code) (φ : Focus) (c : Conf) → Picks S.mode φ → Fits world (repeat_at (world.given.sizes s)) κ φ c → Silent world (repeat_at (world.given.sizes s)) κ φ c (φ t) after_repeat
    leaves κ φ c picks f =
        let k = world.given.sizes s in
        let x = silent world (repeat_at k) κ κ φ c picks t act f record { same = λ q l d. refl } rest (S.facts t) (events.own_facts world (repeat_at k) κ φ c picks t act f)
        ((λ i. effect (seen_by (state world c) (φ t)) (φ t) (code_by φ (at_is k i) then κ (φ t)) None None)
        ∙ (λ i. goes_to (if le-ltb k k (omega arith) i then code_by φ b then (code_by φ (Repeat s (k + 1) b ⨾ rest) then κ (φ t)) else (code_by φ rest then κ (φ t))))) in
        record {
          to = x.to;
          same_mem = x.same_mem;
          leads = x.leads;
          one = x.one;
          fits = subst (λ (Z : Reading). Fits world Z κ φ x.to) (λ i. record S { code = changed_again same_name S.code t (Repeat s k b ⨾ rest) rest i; facts = facts_back S.facts t i }) x.fits;
          still = x.still;
        }

    pub around_turn : (k : ℕ) (κ : Pid → Code) (φ : Focus) → T.Behind κ φ → Picks S.mode φ → Turns world T S t (λ k. Repeat s k b ⨾ rest) (behind (repeat_at k) t φ κ) φ
    around_turn k κ φ beyond picks = record { κ = κ; turn = k; beyond = beyond; picks = picks; is = λ i. changed same_process κ (φ t) (code_by φ (at_is k i) then κ (φ t)) }

    turns_there : (left k : ℕ) → left + k ≡ world.given.sizes s → (κ : Pid → Code) (φ : Focus) (c : Conf) → T.IsTyped c → T.Behind κ φ → Picks S.mode φ → Fits world (repeat_at k) κ φ c → (m : Mem) → seq.times R left φ (mem c) m →
        (d : Conf) × (mem d ≡ m) × (u : List Event) × Arrives world S after_repeat κ φ c d u
    turns_there zero k e κ φ c typed beyond picks f m r =
        let x = leaves κ φ c picks (subst (λ (j : ℕ). Fits world (repeat_at j) κ φ c) (sym (zero-add k) ∙ e) f) in
        (x.to, x.same_mem ∙ sym r, x.leads.by, record { runs = x.leads.runs; fits = x.fits; still = x.still })
    turns_there (suc left) k e κ φ c typed beyond picks f m r =
        let x = begins k (lt-ltb k (world.given.sizes s) (omega (arith, e))) κ φ c picks f in
        let y = turn.there (behind (repeat_at (k + 1)) t φ κ) φ x.to (T.runs c x.to x.leads.by typed x.leads.runs) (around_turn (k + 1) κ φ beyond picks) picks x.fits r.0 (subst (λ (l : Mem). R φ l r.0) (sym x.same_mem) r.1) in
        let a = lead_arrives world T S repeat_start E (repeat_at (k + 1)) κ (behind (repeat_at (k + 1)) t φ κ) φ c x.to y.0 y.2 x.leads x.still refl y.3 (returns world (repeat_at (k + 1)) E t act (restored (k + 1)) κ φ y.0 picks y.3.fits) in
        let z = turns_there left (k + 1) (omega (arith, e)) κ φ y.0 (T.runs c y.0 (x.leads.by ++ y.2) typed a.runs) beyond picks a.fits m (subst (λ (l : Mem). seq.times R left φ l m) (sym y.1) r.2) in
        (z.0, z.1, (x.leads.by ++ y.2) ++ z.2, arrives_then world T S (repeat_at (k + 1)) after_repeat refl κ φ c y.0 z.0 (x.leads.by ++ y.2) z.2 a record { runs = z.3.runs; fits = z.3.fits; still = z.3.still })

    turns_back : (left k : ℕ) → left + k ≡ world.given.sizes s → (κ : Pid → Code) (φ : Focus) (c : Conf) → T.IsTyped c → T.Behind κ φ → Picks S.mode φ → Fits world (repeat_at k) κ φ c → (es : List Event) (z : State) → run (state world c) es ≡ Some z → IsTerminal z →
        (d : Conf) × seq.times R left φ (mem c) (mem d) × (u : List Event) × Arrives world S after_repeat κ φ c d u × Rest world d u es z
    turns_back zero k e κ φ c typed beyond picks f es z r end =
        let x = leaves κ φ c picks (subst (λ (j : ℕ). Fits world (repeat_at j) κ φ c) (sym (zero-add k) ∙ e) f) in
        (x.to, x.same_mem, x.leads.by, record { runs = x.leads.runs; fits = x.fits; still = x.still }, x.leads.first es z r end)
    turns_back (suc left) k e κ φ c typed beyond picks f es z r end =
        let x = begins k (lt-ltb k (world.given.sizes s) (omega (arith, e))) κ φ c picks f in
        let l = x.leads.first es z r end in
        let y = turn.back (behind (repeat_at (k + 1)) t φ κ) φ x.to (T.runs c x.to x.leads.by typed x.leads.runs) (around_turn (k + 1) κ φ beyond picks) picks x.fits l.left z l.ends end in
        let a = lead_arrives world T S repeat_start E (repeat_at (k + 1)) κ (behind (repeat_at (k + 1)) t φ κ) φ c x.to y.0 y.2 x.leads x.still refl y.3 (returns world (repeat_at (k + 1)) E t act (restored (k + 1)) κ φ y.0 picks y.3.fits) in
        let rest' = rest-append world x.to y.0 x.leads.by y.2 es z l y.4 in
        let v = turns_back left (k + 1) (omega (arith, e)) κ φ y.0 (T.runs c y.0 (x.leads.by ++ y.2) typed a.runs) beyond picks a.fits rest'.left z rest'.ends end in (
          v.0,
          (mem y.0, subst (λ (m : Mem). R φ m (mem y.0)) x.same_mem y.1, v.1),
          (x.leads.by ++ y.2) ++ v.2,
          arrives_then world T S (repeat_at (k + 1)) after_repeat refl κ φ c y.0 v.0 (x.leads.by ++ y.2) v.2 a record { runs = v.3.runs; fits = v.3.fits; still = v.3.still },
          rest-append world y.0 v.0 (x.leads.by ++ y.2) v.2 es z rest' v.4,
        )

    pub sound_repeat : S.code t ≡ Repeat s 0 b ⨾ rest → Sound world T S (seq.times R (world.given.sizes s)) after_repeat
    sound_repeat is =
        let path : S ≡ repeat_at 0 = (λ i. record S { code = sym (unchanged_at same_name exact_name S.code t (Repeat s 0 b ⨾ rest) (sym is)) i }) in record {
          there = λ κ φ c typed beyond picks f. turns_there (world.given.sizes s) 0 (add-zero (world.given.sizes s)) κ φ c typed beyond picks (subst (λ (Z : Reading). Fits world Z κ φ c) path f);
          back = λ κ φ c typed beyond picks f. turns_back (world.given.sizes s) 0 (add-zero (world.given.sizes s)) κ φ c typed beyond picks (subst (λ (Z : Reading). Fits world Z κ φ c) path f);
        }
