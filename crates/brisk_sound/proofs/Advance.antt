-- One silent event of each of some threads.
use Rattle.std.proofs.Common.{◌≡◌, ℕ, Bool, true, false, List, [], ◌∷◌, ◌++◌, map, Option, None, refl, sym, ap, ◌∙◌, subst}
use Rattle.std.specs.Prelude.{if◌then◌else◌}
use Rattle.brisk_values.specs.declared.value.Pid.{Pid}
use Rattle.brisk_values.specs.declared.value.Value.{Value}
use Rattle.brisk_values.specs.Functions.{changed}
use Rattle.brisk_values.specs.Names.{Name, same_name}
use Rattle.brisk_values.proofs.Changes.{name_laws, exact_name}
use Rattle.brisk_syntax.specs.Declarations.{is_loose}
use Rattle.brisk_syntax.specs.Syntax.{Code, ◌then◌}
use Rattle.brisk_seq.specs.Sequential.{Focus}
use Rattle.brisk_async.specs.declared.event.Event.{Event}
use Rattle.brisk_async.specs.Laws.{plain_event}
use Rattle.brisk_async.specs.Machine.{View, effect, goes_to, seen_by, Queue, payload_at}
use Rattle.brisk_state.specs.declared.thread.Mode.{Mode}
use Rattle.brisk_sound.proofs.Compose.{still_then}
use Rattle.brisk_sound.proofs.Events as events
use Rattle.brisk_sound.proofs.Fits.{World, Conf, mem, Picks, Fits, Still, sole}
use Rattle.brisk_sound.proofs.Leads.{state, Leads, stays, then_leads}
use Rattle.brisk_rules.proofs.Readings.{Reading, is_active, code_by}
use Rattle.brisk_sound.proofs.Control.{Silent, silent}
use Rattle.brisk_sound.proofs.Loops.{facts_back}

abbrev pub Test : Type 0
Test = Name → Bool

abbrev pub with_test : Test → Name → Test
with_test passed t u = if same_name t u then true else passed u

-- the threads named, each once and none before
abbrev pub Once : (Name → Option Mode) → Test → Test → List Name → Type 0
Once mode wanted passed [] = Unit {0}
Once mode wanted passed (t ∷ ts) = (is_active (mode t) ≡ true) × (passed t ≡ false) × (wanted t ≡ true) × Once mode wanted (with_test passed t) ts

abbrev pub all_of : Test → List Name → Test
all_of passed [] = passed
all_of passed (t ∷ ts) = all_of (with_test passed t) ts

-- threads that go on, and those that stand
abbrev pub stage : Reading → (Name → Code) → Test → Reading
stage S to passed = record S { code = λ u. if passed u then to u else S.code u }

abbrev pub follow : (Pid → Code) → (Pid → Code) → Test → Pid → Code
follow κ κ' passed q = if passed q.role then κ' q else κ q

-- what a process sees
abbrev pub view : World → (Name → Option Value) → (Queue → ℕ → Option (List Value)) → View
view world own front = record { sizes = world.given.sizes; loose = is_loose world.program.channels; own = own; waiting = front }

-- what the event of a thread's process does, whatever the store and the mail
abbrev pub Goes_on : World → Focus → Name → Code → Code → Type 0
Goes_on world φ t from to = (own : Name → Option Value) (front : Queue → ℕ → Option (List Value)) → effect (view world own front) (φ t) from None None ≡ goes_to to

pub record Advanced (world : World) (S : Reading) (κ : Pid → Code) (φ : Focus) (c : Conf) (by : List Event) : Type 0 where
  pub to : Conf
  pub same_mem : mem to ≡ mem c
  pub leads : Leads world c to
  pub schedule : leads.by ≡ by
  pub fits : Fits world S κ φ to
  pub still : Still world S.mode φ c to

module _ (world : World) (S : Reading) (φ : Focus) (picks : Picks S.mode φ) (to : Name → Code) (κ κ' : Pid → Code) (wanted : Test) (event : (t : Name) → wanted t ≡ true → Goes_on world φ t (code_by φ (S.code t) then κ (φ t)) (code_by φ (to t) then κ' (φ t))) where
  with_here : {X : Type 0} (passed : Test) (t u : Name) (x y z : X) → (same_name t u ≡ true → x ≡ y) → (if same_name t u then x else (if passed u then y else z)) ≡ (if with_test passed t u then y else z)
  with_here passed t u x y z h =
      elim (same_name t u) as (λ b. same_name t u ≡ b → (if b then x else (if passed u then y else z)) ≡ (if (if b then true else passed u) then y else z)) [ true ↦ h | false ↦ λ e. refl ] refl

  one_more : (passed : Test) (t : Name) → is_active (S.mode t) ≡ true → passed t ≡ false → wanted t ≡ true → (c : Conf) → Fits world (stage S to passed) (follow κ κ' passed) φ c → Advanced world (stage S to (with_test passed t)) (follow κ κ' (with_test passed t)) φ c (plain_event (φ t) ∷ [])
  one_more passed t act fresh wants c f =
      let S1 = stage S to passed in
      let old : follow κ κ' passed (φ t) ≡ κ (φ t) = ap (λ z. if passed z then κ' (φ t) else κ (φ t)) (picks.role_of t) ∙ ap (λ b. if b then κ' (φ t) else κ (φ t)) fresh in
      let new : follow κ κ' (with_test passed t) (φ t) ≡ κ' (φ t) =
      ap (λ z. if with_test passed t z then κ' (φ t) else κ (φ t)) (picks.role_of t) ∙ ap (λ b. if (if b then true else passed t) then κ' (φ t) else κ (φ t)) (name_laws.refl t) in
      let x : Silent world S1 (follow κ κ' (with_test passed t)) φ c (φ t) (record S1 { code = changed same_name S1.code t (to t); facts = changed same_name S.facts t (S.facts t) }) =
      silent world S1 (follow κ κ' passed) (follow κ κ' (with_test passed t)) φ c picks t act f
      record { same = λ q l d. ap (λ b. if (if b then true else passed q.role) then κ' q else κ q) (sym (sole world S.mode φ t q picks act l) ∙ d) }
      (to t) (S.facts t) (events.own_facts world S1 (follow κ κ' passed) φ c picks t act f)
      ((λ i. effect (seen_by (state world c) (φ t)) (φ t) (code_by φ (if fresh i then to t else S.code t) then old i) None None)
      ∙ event t wants (c.store (φ t)) (λ q. payload_at (c.mail q)) ∙ ap (λ z. goes_to (code_by φ (to t) then z)) (sym new)) in
      let path : (record S1 { code = changed same_name S1.code t (to t); facts = changed same_name S.facts t (S.facts t) }) ≡ stage S to (with_test passed t) =
      (λ i. record S { code = λ u. with_here passed t u (to t) (to u) (S.code u) (λ e. ap to (exact_name t u e)) i; facts = facts_back S.facts t i }) in
      record {
        to = x.to;
        same_mem = x.same_mem;
        leads = x.leads;
        schedule = x.one;
        fits = subst (λ (Z : Reading). Fits world Z (follow κ κ' (with_test passed t)) φ x.to) path x.fits;
        still = x.still;
      }

  pub advance : (ts : List Name) (passed : Test) → Once S.mode wanted passed ts → (c : Conf) → Fits world (stage S to passed) (follow κ κ' passed) φ c → Advanced world (stage S to (all_of passed ts)) (follow κ κ' (all_of passed ts)) φ c (map (λ t. plain_event (φ t)) ts)
  advance [] passed once c f = record { to = c; same_mem = refl; leads = stays world c; schedule = refl; fits = f; still = record { code = λ p d. refl; store = λ p d. refl; sent = λ p q d C. refl; got = λ p q d C. refl; box_sent = λ p q d n. refl; box_got = λ p q d n. refl } }
  advance (t ∷ ts) passed once c f =
      let x = one_more passed t once.0 once.1 once.2 c f in
      let y = advance ts (with_test passed t) once.3 x.to x.fits in
      record {
        to = y.to;
        same_mem = y.same_mem ∙ x.same_mem;
        leads = then_leads world c x.to y.to x.leads y.leads;
        schedule = λ i. x.schedule i ++ y.schedule i;
        fits = y.fits;
        still = still_then world S.mode φ c x.to y.to x.still y.still;
      }
