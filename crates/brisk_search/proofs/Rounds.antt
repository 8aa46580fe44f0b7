-- The loops of the search: rounds of a drive, who comes in a round, rules at a head, and tries of a rule.
use Rattle.std.proofs.Common.{◌≡◌, ℕ, suc, zero, ◌+◌, ◌-◌, ◌≤◌, ◌<◌, Bool, true, false, Option, Some, List, [], ◌∷◌, ◌++◌, length, map, drop, refl, sym, ap, ◌∙◌, subst, arith}
use Rattle.std.specs.Prelude.{IfOk, Result, Ok, Err, if◌then◌else◌}
use Rattle.brisk_syntax.specs.declared.program.Program.{Program}
use Rattle.brisk_seq.specs.Items.{Items, nothing, ◌followed_by◌}
use Rattle.brisk_seq.proofs.Items.{followed_by-nothing, followed_by_assoc}
use Rattle.brisk_state.specs.Symbolic.{Symbolic}
use Rattle.brisk_derivation.specs.declared.steps.Fact.{Fact}
use Rattle.brisk_derivation.specs.declared.steps.Step.{Step as Raw}
use Rattle.brisk_derivation.specs.Reports.{Tries}
use Rattle.brisk_derivation.specs.Seen.{step_of, steps_of}
use Rattle.brisk_derivation.specs.Steps.{Step, Steps, no_steps, ◌▷◌}
use Rattle.brisk_rules.specs.Following.{Follow}
use Rattle.brisk_rules.specs.Rules.{Entered}
use Rattle.brisk_loops.specs.Walk.{Open, Walked, follows}
use Rattle.brisk_search.specs.declared.compound.Compound.{Compound}
use Rattle.brisk_search.specs.declared.drive.Comer.{Comer}
use Rattle.brisk_search.specs.declared.drive.Drive.{Drive as Asked}
use Rattle.brisk_search.specs.declared.limits.Pass.{Pass}
use Rattle.brisk_search.specs.declared.turn.Came.TheVariants.{To, Losing}
use Rattle.brisk_search.specs.declared.turn.Driven.TheVariants as drive
use Rattle.brisk_search.specs.declared.turn.Turn.{Turn}
use Rattle.brisk_search.specs.declared.turn.Turn.TheVariants as turn
use Rattle.brisk_search.specs.Advance.{Around}
use Rattle.brisk_search.specs.Drives.{Drive, Driver, Driven, Reached, Stuck, Spent}
use Rattle.brisk_search.specs.Met.{Adds, Alike, IsReady, MeetsDrive, MeetsTry, MeetsTurn, around_at, drive_at, tries_at, try_at, way}
use Rattle.brisk_search.specs.Passes.{after_round, after_step, driver, enough, here, last_tries, round, rounds}
use Rattle.brisk_search.specs.Tries.{Rule, at_risk, nine_tries, once, tries, with_lost}
use Rattle.brisk_search.specs.Turns as turns
use Rattle.brisk_search.specs.Turns.{RulesLeft, Failures, Attempt, first_of, stay, where_it_stays}
use Rattle.brisk_search.specs.Views.{Fits, IsWithin, around, attempt_of, below, drive_seen, left_of, rule_seen, sides_in}
use Rattle.brisk_search.proofs.Meeting.{alike_meets, alike_then, moves_meets, same_turn}

-- ---- walks that stand alike

pub ready_alike : (budget : Option ℕ) (room : ℕ) (asked : Asked) (w u : Walked) → IsReady budget room asked w → u.entered ≡ w.entered → IsWithin budget u.applied → IsReady budget room asked u
ready_alike budget room asked w u h e i = (subst (Fits asked) (sym e) h.0, subst (λ (os : List Open). length os + room ≤ 256) (sym e) h.1, i)

pub less_than : (k n m : ℕ) → k < n → n ≤ m → k < m
less_than k n m h g = omega (arith, h, g)

-- what a call's answer gives, whatever it was asked for
pub each_ok : {X Y I J : Type 0} {K : I → J → Type 0} {L : I → J → Type 0} {P : I → J → X → Type 0} (r : Result X Y) (Q : X → Type 0) → ((x : X) → ((i : I) (j : J) → K i j → L i j → P i j x) → Q x) → ((i : I) (j : J) → K i j → L i j → IfOk r (P i j)) → IfOk r Q
each_ok (Ok x) Q f h = f x (λ i j k l. h i j k l)
each_ok (Err e) Q f h = tt

-- ---- rounds

abbrev pub steps_then : Steps → Steps → Steps
steps_then no_steps E = E
steps_then (s ▷ D) E = s ▷ steps_then D E

then_none : (D : Steps) → steps_then D no_steps ≡ D
then_none no_steps = refl
then_none (s ▷ D) = ap (λ E. s ▷ E) (then_none D)

then_more : (D : Steps) (s : Step) (E : Steps) → steps_then (steps_then D (s ▷ no_steps)) E ≡ steps_then D (s ▷ E)
then_more no_steps s E = refl
then_more (t ▷ D) s E = ap (λ F. t ▷ F) (then_more D s E)

one_pushed : (xs : List Raw) (s : Raw) → steps_of (xs ++ s ∷ []) ≡ steps_then (steps_of xs) (step_of s ▷ no_steps)
one_pushed [] s = refl
one_pushed (x ∷ xs) s = ap (λ D. step_of x ▷ D) (one_pushed xs s)

-- what comes after these steps with these items
abbrev pub after_all : Steps → Items → Driven → Driven
after_all D X (Reached w left) = Reached (way (steps_then D w.steps) (X followed_by w.items) w.end) left
after_all D X (Stuck w tries left) = Stuck (way (steps_then D w.steps) (X followed_by w.items) w.end) tries left
after_all D X Spent = Spent

after_one : (D : Steps) (X : Items) (s : Step) (Y : Items) (o : Driven) → after_all D X (after_step s Y o) ≡ after_all (steps_then D (s ▷ no_steps)) (X followed_by Y) o
after_one D X s Y (Reached w left) = λ i. Reached (way (sym (then_more D s w.steps) i) (sym (followed_by_assoc X Y w.items) i) w.end) left
after_one D X s Y (Stuck w tries left) = λ i. Stuck (way (sym (then_more D s w.steps) i) (sym (followed_by_assoc X Y w.items) i) w.end) tries left
after_one D X s Y Spent = refl

pub driver_is : (P : Program) (pass : Pass) (room : ℕ) (F : Follow) (d : Drive) (S : Symbolic) (left : RulesLeft) → driver P (sides_in pass) room F d S left ≡ rounds (around P (sides_in pass) room F d) d (enough left S) S left
driver_is P pass zero F d S left = refl
driver_is P pass (suc n) F d S left = refl

-- after so many rounds, the drive gives what the steps so far and the rounds that are left give
abbrev pub IsLed : Option ℕ → Pass → ℕ → Asked → Walked → ℕ → List Raw → Walked → Type 0
IsLed budget pass room asked w k made u =
    (X : Items) × Adds budget X w u
    × (drive_at budget pass room asked w ≡ after_all (steps_of made) X (rounds (around_at pass room asked w) (drive_seen w.entered asked) (enough (left_of budget w.applied) w.state - k) u.state (left_of budget u.applied)))

pub led_none : (budget : Option ℕ) (pass : Pass) (room : ℕ) (asked : Asked) (w : Walked) (made : List Raw) → made ≡ [] → IsWithin budget w.applied → IsLed budget pass room asked w 0 made w
led_none budget pass room asked w made e h = (
  nothing,
  ((refl, refl, h), sym (followed_by-nothing w.items)),
  driver_is w.program pass room (follows w.entered) (drive_seen w.entered asked) w.state (left_of budget w.applied)
      ∙ sym (nothing_before (rounds (around_at pass room asked w) (drive_seen w.entered asked) (enough (left_of budget w.applied) w.state) w.state (left_of budget w.applied)))
      ∙ (λ i. after_all (steps_of (sym e i)) nothing (rounds (around_at pass room asked w) (drive_seen w.entered asked) (all_left i) w.state (left_of budget w.applied))),
)
  where
    nothing_before : (o : Driven) → after_all no_steps nothing o ≡ o
    nothing_before (Reached v left) = refl
    nothing_before (Stuck v tries left) = refl
    nothing_before Spent = refl

    all_left : enough (left_of budget w.applied) w.state ≡ enough (left_of budget w.applied) w.state - 0
    all_left = omega arith

module _ (budget : Option ℕ) (pass : Pass) (room : ℕ) (asked : Asked) (w u : Walked) (k : ℕ) (made : List Raw) (led : IsLed budget pass room asked w k made u) (less : k < enough (left_of budget w.applied) w.state) where
  abbrev A : Around
  A = around_at pass room asked w

  abbrev d : Drive
  d = drive_seen w.entered asked

  abbrev n : ℕ
  n = enough (left_of budget w.applied) w.state - (k + 1)

  one_round : drive_at budget pass room asked w ≡ after_all (steps_of made) led.0 (rounds A d (suc n) u.state (left_of budget u.applied))
  one_round = let one : enough (left_of budget w.applied) w.state - k ≡ suc n = omega (arith, less) in led.2 ∙ ap (λ m. after_all (steps_of made) led.0 (rounds A d m u.state (left_of budget u.applied))) one

  pub led_reached : (b : Bool) → b ≡ true → b ≡ (drive_seen u.entered asked).goal u.state → (D : Steps) → D ≡ steps_of made → MeetsDrive budget (drive_at budget pass room asked w) (drive.Reached D) w u
  led_reached b is goal D e = (
    led.0,
    led.1,
    one_round ∙ ap (λ z. after_all (steps_of made) led.0 (if z then Reached (here u.state) (left_of budget u.applied) else after_round (rounds A d n) u.state (round A d u.state [] (left_of budget u.applied)))) (ap (λ os. (drive_seen os asked).goal u.state) (sym led.1.0.1) ∙ sym goal ∙ is)
        ∙ (λ i. Reached (way ((then_none (steps_of made) ∙ sym e) i) (followed_by-nothing led.0 i) u.state) (left_of budget u.applied)),
  )

  module _ (b : Bool) (is : b ≡ false) (goal : b ≡ (drive_seen u.entered asked).goal u.state) (x : Walked) where
    goes : drive_at budget pass room asked w ≡ after_all (steps_of made) led.0 (after_round (rounds A d n) u.state (round A d u.state [] (left_of budget u.applied)))
    goes = one_round ∙ ap (λ z. after_all (steps_of made) led.0 (if z then Reached (here u.state) (left_of budget u.applied) else after_round (rounds A d n) u.state (round A d u.state [] (left_of budget u.applied)))) (ap (λ os. (drive_seen os asked).goal u.state) (sym led.1.0.1) ∙ sym goal ∙ is)

    -- the round from where the walk stands
    there : (fs : Failures) → fs ≡ [] → round (around_at pass room asked u) (drive_seen u.entered asked) u.state fs (left_of budget u.applied) ≡ round A d u.state [] (left_of budget u.applied)
    there fs none = λ i. round (around (led.1.0.0 i) (sides_in pass) room (follows (led.1.0.1 i)) (drive_seen (led.1.0.1 i) asked)) (drive_seen (led.1.0.1 i) asked) u.state (none i) (left_of budget u.applied)

    pub led_spent : (fs gs : Failures) → fs ≡ [] → MeetsTurn budget (round (around_at pass room asked u) (drive_seen u.entered asked) u.state fs (left_of budget u.applied)) turn.Spent gs u x → MeetsDrive budget (drive_at budget pass room asked w) drive.Spent w x
    led_spent fs gs none m = ((m.0.0 ∙ led.1.0.0, m.0.1), goes ∙ ap (λ t. after_all (steps_of made) led.0 (after_round (rounds A d n) u.state t)) (sym (there fs none) ∙ m.1))

    pub led_stuck : (fs gs : Failures) → fs ≡ [] → MeetsTurn budget (round (around_at pass room asked u) (drive_seen u.entered asked) u.state fs (left_of budget u.applied)) turn.Stays gs u x →
        (D : Steps) (tries : Tries) → D ≡ steps_of made → tries ≡ last_tries gs x.state.threads → MeetsDrive budget (drive_at budget pass room asked w) (drive.Stuck D tries) w x
    led_stuck fs gs none m D tries e last = (
      led.0,
      ((m.0.0.0 ∙ led.1.0.0, m.0.0.1 ∙ led.1.0.1, m.0.0.2), m.0.2 ∙ led.1.1),
      goes ∙ ap (λ t. after_all (steps_of made) led.0 (after_round (rounds A d n) u.state t)) (sym (there fs none) ∙ m.1)
          ∙ (λ i. Stuck (way ((then_none (steps_of made) ∙ sym e) i) (followed_by-nothing led.0 i) (sym m.0.1 i)) ((ap (λ (S : Symbolic). last_tries gs S.threads) (sym m.0.1) ∙ sym last) i) (left_of budget x.applied)),
    )

    pub led_more : (fs gs : Failures) (s : Raw) (ys : List Raw) → fs ≡ [] → MeetsTurn budget (round (around_at pass room asked u) (drive_seen u.entered asked) u.state fs (left_of budget u.applied)) (turn.Goes s) gs u x →
        ys ≡ made ++ s ∷ [] → IsLed budget pass room asked w (k + 1) ys x
    led_more fs gs s ys none m e = (
      led.0 followed_by m.0,
      ((m.1.0.0 ∙ led.1.0.0, m.1.0.1 ∙ led.1.0.1, m.1.0.2), m.1.1 ∙ ap (λ (Z : Items). Z followed_by m.0) led.1.1 ∙ followed_by_assoc w.items led.0 m.0),
      goes ∙ ap (λ t. after_all (steps_of made) led.0 (after_round (rounds A d n) u.state t)) (sym (there fs none) ∙ m.2)
          ∙ after_one (steps_of made) led.0 (step_of s) m.0 (rounds A d n x.state (left_of budget x.applied))
          ∙ ap (λ D. after_all D (led.0 followed_by m.0) (rounds A d n x.state (left_of budget x.applied))) (sym (ap steps_of e ∙ one_pushed made s)),
    )

-- ---- attempts of a list, of which each leaves its failures

abbrev pub IsListed : {C : Type 0} → Option ℕ → (C → Attempt) → List C → Failures → Walked → List C → Failures → Walked → Type 0
IsListed budget attempt all fs w rest gs u = Alike budget w u × (first_of attempt all fs (left_of budget w.applied) ≡ first_of attempt rest gs (left_of budget u.applied))

module _ {C : Type 0} (budget : Option ℕ) (attempt : C → Attempt) (all : List C) (fs : Failures) (w : Walked) (c : C) (rest : List C) (gs : Failures) (u : Walked) (listed : IsListed budget attempt all fs w (c ∷ rest) gs u) where
  -- the attempt goes
  pub listed_moves : (o : Turn) (hs ks : Failures) (x : Walked) → (o ≡ turn.Stays → ⊥) → MeetsTurn budget (attempt c gs (left_of budget u.applied)) o hs u x → MeetsTurn budget (first_of attempt all fs (left_of budget w.applied)) o ks w x
  listed_moves o hs ks x moves m =
      same_turn budget _ _ o ks w x listed.1 (alike_meets budget _ o ks w u x listed.0 (moves_meets budget (attempt c gs (left_of budget u.applied)) (first_of attempt rest) o ks hs u x moves m))

  -- it stays
  pub listed_stays : (hs : Failures) (x : Walked) → MeetsTurn budget (attempt c gs (left_of budget u.applied)) turn.Stays hs u x → IsListed budget attempt all fs w rest hs x
  listed_stays hs x m = (alike_then budget w u x listed.0 m.0, listed.1 ∙ ap (where_it_stays (first_of attempt rest)) m.1)

abbrev pub IsRound : Option ℕ → Pass → ℕ → Asked → List Comer → Failures → Walked → List Comer → Failures → Walked → Type 0
IsRound budget pass room asked all fs w rest gs u = IsListed budget (attempt_of (around_at pass room asked w) w.state) all fs w rest gs u

abbrev pub IsRules : Option ℕ → Pass → ℕ → List Compound → Failures → Walked → List Compound → Failures → Walked → Type 0
IsRules budget pass room all fs w rest gs u = IsListed budget (λ c. tries_at pass room c w) all fs w rest gs u

-- the attempts of compounds are those of their rules
pub compounds_first : (pass : Pass) (room : ℕ) (w : Walked) (cs : List Compound) (fs : Failures) (left : RulesLeft) →
    first_of (λ c. tries_at pass room c w) cs fs left ≡ first_of (nine_tries w.program (below w.program (sides_in pass) room) w.state) (map (rule_seen w.program (follows w.entered) w.state) cs) fs left
compounds_first pass room w [] fs left = refl
compounds_first pass room w (c ∷ cs) fs left = by (compounds_first pass room w cs) (tries_at pass room c w fs left)
  where
    by :
        ((gs : Failures) (l : RulesLeft) → first_of (λ c. tries_at pass room c w) cs gs l ≡ first_of (nine_tries w.program (below w.program (sides_in pass) room) w.state) (map (rule_seen w.program (follows w.entered) w.state) cs) gs l) →
        (t : turns.Turn) → where_it_stays (first_of (λ c. tries_at pass room c w) cs) t ≡ where_it_stays (first_of (nine_tries w.program (below w.program (sides_in pass) room) w.state) (map (rule_seen w.program (follows w.entered) w.state) cs)) t
    by more (turns.Goes step items S left) = refl
    by more (turns.Stays gs left) = more gs left
    by more turns.Spent = refl

-- ---- tries

abbrev pub IsTry : Option ℕ → Pass → ℕ → Compound → Failures → Walked → ℕ → List Fact → Failures → Walked → Type 0
IsTry budget pass room c fs w n drops gs u =
    Alike budget w u
    × (tries w.program (Some (driver w.program (sides_in pass) room)) w.state (rule_seen w.program (follows w.entered) w.state c) 8 [] fs (left_of budget w.applied)
    ≡ tries w.program (Some (driver w.program (sides_in pass) room)) w.state (rule_seen w.program (follows w.entered) w.state c) n drops gs (left_of budget u.applied))

module _ (budget : Option ℕ) (pass : Pass) (room : ℕ) (c : Compound) (fs : Failures) (w : Walked) (drops : List Fact) (gs : Failures) (u : Walked) where
  abbrev go : Driver
  go = driver w.program (sides_in pass) room

  abbrev R : Rule
  R = rule_seen w.program (follows w.entered) w.state c

  abbrev all : turns.Turn
  all = tries w.program (Some go) w.state R 8 [] fs (left_of budget w.applied)

  -- the try from where the walk stands
  try_there : Alike budget w u → (ds : List Fact) (again : Entered → Symbolic → Attempt) → try_at budget pass room c ds gs u again ≡ once (Some go) again R ds gs (left_of budget u.applied)
  try_there a ds again = λ i. once (Some (driver (a.0.0 i) (sides_in pass) room)) again (rule_seen (a.0.0 i) (follows (a.0.1 i)) (a.1 i) c) ds gs (left_of budget u.applied)

  module _ (n : ℕ) (tried : IsTry budget pass room c fs w (suc n) drops gs u) where
    pub try_ends : (o : Turn) (hs : Failures) (x : Walked) → MeetsTry budget u.program drops (try_at budget pass room c drops gs u) (To o) hs u x → MeetsTurn budget all o hs w x
    try_ends o hs x m =
        let again : Entered → Symbolic → Attempt = λ r E. tries w.program (Some go) w.state R n (with_lost w.program r E drops) in
        same_turn budget _ _ o hs w x (tried.1 ∙ sym (try_there tried.0 drops again)) (alike_meets budget _ o hs w u x tried.0 (m again))

    pub try_loses : (more : List Fact) (hs : Failures) (x : Walked) → MeetsTry budget u.program drops (try_at budget pass room c drops gs u) (Losing more) hs u x → IsTry budget pass room c fs w n more hs x
    try_loses more hs x (r, E, alike, drop, m) =
        let again : Entered → Symbolic → Attempt = λ r E. tries w.program (Some go) w.state R n (with_lost w.program r E drops) in (
          alike_then budget w u x tried.0 alike,
          tried.1 ∙ sym (try_there tried.0 drops again) ∙ m again ∙ ap (λ ds. tries w.program (Some go) w.state R n ds hs (left_of budget x.applied)) (ap (λ P. with_lost P r E drops) (sym tried.0.0.0) ∙ drop),
        )

  module _ (tried : IsTry budget pass room c fs w 0 drops gs u) (last : List Fact) (risk : last ≡ at_risk u.program u.state) where
    risk_there : last ≡ at_risk w.program w.state
    risk_there = risk ∙ (λ i. at_risk (tried.0.0.0 i) (tried.0.1 i))

    pub last_ends : (o : Turn) (hs : Failures) (x : Walked) → MeetsTry budget u.program last (try_at budget pass room c last gs u) (To o) hs u x → MeetsTurn budget all o hs w x
    last_ends o hs x m =
        same_turn budget _ _ o hs w x (tried.1 ∙ ap (λ ds. once (Some go) (λ r E. stay) R ds gs (left_of budget u.applied)) (sym risk_there) ∙ sym (try_there tried.0 last (λ r E. stay))) (alike_meets budget _ o hs w u x tried.0 (m (λ r E. stay)))

    pub last_loses : (more : List Fact) (hs : Failures) (x : Walked) → MeetsTry budget u.program last (try_at budget pass room c last gs u) (Losing more) hs u x → MeetsTurn budget all turn.Stays hs w x
    last_loses more hs x (r, E, alike, drop, m) = (
      alike_then budget w u x tried.0 alike,
      tried.1 ∙ ap (λ ds. once (Some go) (λ r E. stay) R ds gs (left_of budget u.applied)) (sym risk_there) ∙ sym (try_there tried.0 last (λ r E. stay)) ∙ m (λ r E. stay),
    )
