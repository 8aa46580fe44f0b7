-- Events that change the code of their process alone, as those of guards.
use Rattle.std.proofs.Common.{◌≡◌, Bool, true, false, List, [], ◌∷◌, ◌++◌, Option, Some, None, refl, sym, ap, ◌∙◌, subst}
use Rattle.std.specs.Prelude.{if◌then◌else◌}
use Rattle.brisk_values.specs.declared.value.Pid.{Pid}
use Rattle.brisk_values.specs.declared.value.Value.{Value}
use Rattle.brisk_values.specs.Functions.{changed}
use Rattle.brisk_values.specs.Names.{Name, same_name, same_process}
use Rattle.brisk_values.proofs.Changes.{exact_name, exact_process}
use Rattle.brisk_syntax.specs.Stores.{Store, is_true}
use Rattle.brisk_syntax.specs.Syntax.{Expression, Statement, If, IfElse, While, Code, done, ◌⨾◌, ◌then◌}
use Rattle.brisk_syntax.specs.Value.{value_of}
use Rattle.brisk_seq.specs.Sequential.{Focus}
use Rattle.brisk_async.specs.declared.event.Event.{Event}
use Rattle.brisk_async.specs.Laws.{plain_event}
use Rattle.brisk_async.specs.Machine.{effect, goes_to, seen_by, unchanged}
use Rattle.brisk_facts.specs.Laws.{Agrees}
use Rattle.brisk_state.specs.declared.thread.Mode.{Mode}
use Rattle.brisk_state.specs.declared.thread.Mode.TheVariants.{One, At, Each}
use Rattle.brisk_sound.proofs.After.{at_guard}
use Rattle.brisk_sound.proofs.Compose.{still_then}
use Rattle.brisk_sound.proofs.Events as events
use Rattle.brisk_sound.proofs.Fits.{World, Conf, mem, live, Picks, Fits, Still, updated, sole}
use Rattle.brisk_sound.proofs.Leads.{state, runs-append, Leads, quiet_leads, changed_back}
use Rattle.brisk_rules.proofs.Readings.{Reading, is_active, is_each, code_by, statement_by, Known, learnt}
use Rattle.brisk_sound.proofs.Sound.{Typing, Arrives, guard_of}

pub then_assoc : (a b c : Code) → (a then b) then c ≡ a then (b then c)
then_assoc done b c = refl
then_assoc (s ⨾ a) b c = ap (λ z. s ⨾ z) (then_assoc a b c)

pub code_by-then : (φ : Focus) (a b : Code) → code_by φ (a then b) ≡ code_by φ a then code_by φ b
code_by-then φ done b = refl
code_by-then φ (s ⨾ a) b = ap (λ z. statement_by φ s ⨾ z) (code_by-then φ a b)

pub code_then : (φ : Focus) (a b κ : Code) → code_by φ (a then b) then κ ≡ code_by φ a then (code_by φ b then κ)
code_then φ a b κ = ap (λ z. z then κ) (code_by-then φ a b) ∙ then_assoc (code_by φ a) (code_by φ b) κ

pub not_both : (m : Option Mode) → is_active m ≡ true → is_each m ≡ true → ⊥
not_both (Some One) a e = cc
not_both (Some At) a e = cc
not_both (Some Each) a e = cc
not_both None a e = cc

-- what follows is the same, but for this process
pub record Behind (world : World) (mode : Name → Option Mode) (φ : Focus) (p : Pid) (κ κ' : Pid → Code) : Type 0 where
  pub same : (q : Pid) → live world mode φ q ≡ true → same_process p q ≡ false → κ' q ≡ κ q

-- an event that changes the code of its process alone
pub record Silent (world : World) (S : Reading) (κ' : Pid → Code) (φ : Focus) (c : Conf) (p : Pid) (S' : Reading) : Type 0 where
  pub to : Conf
  pub same_mem : mem to ≡ mem c
  pub leads : Leads world c to
  pub one : leads.by ≡ plain_event p ∷ []
  pub fits : Fits world S' κ' φ to
  pub still : Still world S.mode φ c to

module _ (world : World) (S : Reading) (κ κ' : Pid → Code) (φ : Focus) (c : Conf) (picks : Picks S.mode φ) (t : Name) (act : is_active (S.mode t) ≡ true) where
  abbrev pub gone_on : Code → Conf
  gone_on next = record { code = changed same_process c.code (φ t) next; store = c.store; mail = c.mail; box = c.box }

  apart : (q : Pid) → live world S.mode φ q ≡ true → is_each (S.mode q.role) ≡ true → same_process (φ t) q ≡ false
  apart q l e =
      sole world S.mode φ t q picks act l
      ∙ elim (same_name t q.role) as (λ b. same_name t q.role ≡ b → b ≡ false) [
        | true ↦ λ g. absurd (not_both (S.mode t) act (ap (λ z. is_each (S.mode z)) (exact_name t q.role g) ∙ e))
        | false ↦ λ g. refl
      ] refl

  pub silent_fits : Fits world S κ φ c → Behind world S.mode φ (φ t) κ κ' → (k : Code) (g : Known) → Agrees (c.store (φ t)) g →
      Fits world record S { code = changed same_name S.code t k; facts = changed same_name S.facts t g } κ' φ (gone_on (code_by φ k then κ' (φ t)))
  silent_fits f behind k g agrees = record {
    code = λ q l.
        updated same_process same_name c.code S.code (φ t) q t q.role (code_by φ k then κ' (φ t)) k (sole world S.mode φ t q picks act l) (λ x y. x ≡ code_by φ y then κ' q)
        (λ s. ap (λ z. code_by φ k then κ' z) (exact_process (φ t) q s)) (λ s. f.code q l ∙ ap (λ z. code_by φ (S.code q.role) then z) (sym (behind.same q l s)));
    mail = f.mail;
    empty = f.empty;
    facts = λ q l.
        subst (λ (z : Store). Agrees (z q) (changed same_name S.facts t g q.role)) (changed_back c.store (φ t))
        (events.fits_facts world S κ φ c picks t act f (c.store (φ t)) g agrees q l);
    sets = λ q l e. behind.same q l (apart q l e) ∙ f.sets q l e;
  }

  pub silent_still : (next : Code) → Still world S.mode φ c (gone_on next)
  silent_still next = record {
    code = events.untouched world S κ φ c picks t act c.code next;
    store = λ p d. refl;
    sent = λ p q d C. refl;
    got = λ p q d C. refl;
    box_sent = λ p q d n. refl;
    box_got = λ p q d n. refl;
  }

  pub silent : Fits world S κ φ c → Behind world S.mode φ (φ t) κ κ' → (k : Code) (g : Known) → Agrees (c.store (φ t)) g →
      effect (seen_by (state world c) (φ t)) (φ t) (code_by φ (S.code t) then κ (φ t)) None None ≡ goes_to (code_by φ k then κ' (φ t)) →
      Silent world S κ' φ c (φ t) record S { code = changed same_name S.code t k; facts = changed same_name S.facts t g }
  silent f behind k g agrees e = record {
    to = gone_on (code_by φ k then κ' (φ t));
    same_mem = refl;
    leads = quiet_leads world c (φ t) (code_by φ (S.code t) then κ (φ t)) (code_by φ k then κ' (φ t)) unchanged c.box (events.own_code world S κ φ c picks t act f) e;
    one = refl;
    fits = silent_fits f behind k g agrees;
    still = silent_still (code_by φ k then κ' (φ t));
  }

-- the same threads and mail, and no more facts
pub record Weaker (S S' : Reading) : Type 0 where
  pub mode : S'.mode ≡ S.mode
  pub code : S'.code ≡ S.code
  pub pending : S'.pending ≡ S.pending
  pub facts : (t x : Name) (v : Value) → S'.facts t x ≡ Some v → S.facts t x ≡ Some v

pub weaken : (world : World) (S S' : Reading) (κ : Pid → Code) (φ : Focus) (c : Conf) → Weaker S S' → Fits world S κ φ c → Fits world S' κ φ c
weaken world S S' κ φ c w f =
    let S1 : Reading = record { mode = S.mode; code = S.code; pending = S.pending; facts = S'.facts } in
    let f1 : Fits world S1 κ φ c = record { code = f.code; mail = f.mail; empty = f.empty; facts = λ p l x v e. f.facts p l x v (w.facts p.role x v e); sets = f.sets } in
    let path : S1 ≡ S' = λ i. record { mode = sym w.mode i; code = sym w.code i; pending = sym w.pending i; facts = S'.facts } in
    subst (λ (Z : Reading). Fits world Z κ φ c) path f1

-- the two ways of an if
abbrev pub sides : Statement → Option (Expression × Code × Code)
sides (If e a) = Some (e, a, done)
sides (IfElse e a b) = Some (e, a, b)
sides s = None

module _ (world : World) (T : Typing world) where
  pub lead_arrives : (S S1 E S' : Reading) (κ κ' : Pid → Code) (φ : Focus) (c c1 d : Conf) (u : List Event) (L : Leads world c c1) → Still world S.mode φ c c1 → S1.mode ≡ S.mode →
      Arrives world S1 E κ' φ c1 d u → Fits world S' κ φ d → Arrives world S S' κ φ c d (L.by ++ u)
  lead_arrives S S1 E S' κ κ' φ c c1 d u L still modes a f = record {
    runs = runs-append world c c1 d L.by u L.runs a.runs;
    fits = f;
    still = still_then world S.mode φ c c1 d still (subst (λ (m : Name → Option Mode). Still world m φ c1 d) modes a.still);
  }

  module _ (S : Reading) (t : Name) (act : is_active (S.mode t) ≡ true) where
    -- the guard's event
    module _ (s : Statement) (rest : Code) (is : S.code t ≡ s ⨾ rest) (e : Expression) (guards : guard_of s ≡ Some e) where
      pub guard_event : (κ κ' : Pid → Code) (φ : Focus) (c : Conf) → T.IsTyped c → T.Behind κ φ → Picks S.mode φ → Fits world S κ φ c → Behind world S.mode φ (φ t) κ κ' →
          (b : Bool) → is_true (value_of world.given.sizes (c.store (φ t)) e) ≡ b → (k : Code) →
          effect (seen_by (state world c) (φ t)) (φ t) (statement_by φ s ⨾ (code_by φ rest then κ (φ t))) None None ≡ goes_to (code_by φ k then κ' (φ t)) →
          Silent world S κ' φ c (φ t) (at_guard S t e b k)
      guard_event κ κ' φ c typed beyond picks f behind b g k h =
          silent world S κ κ' φ c picks t act f behind k (learnt (S.facts t) e b)
          (T.learns c (φ t) (statement_by φ s) (code_by φ rest then κ (φ t)) e (S.facts t) b typed
          (events.own_code world S κ φ c picks t act f ∙ ap (λ z. code_by φ z then κ (φ t)) is) (same_guard s guards) (events.own_facts world S κ φ c picks t act f) g)
          (ap (λ z. effect (seen_by (state world c) (φ t)) (φ t) (code_by φ z then κ (φ t)) None None) is ∙ h)
        where
          same_guard : (s : Statement) → guard_of s ≡ Some e → guard_of (statement_by φ s) ≡ Some e
          same_guard (If e a) h = h
          same_guard (IfElse e a b) h = h
          same_guard (While e b) h = h
          same_guard s h = cc
