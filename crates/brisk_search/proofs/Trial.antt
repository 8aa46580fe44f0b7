-- One try of a rule with one premise, by the walk's calls.
use Rattle.std.proofs.Common.{◌≡◌, ℕ, ◌+◌, ◌≤◌, ◌<◌, true, Option, Some, None, List, ◌∷◌, length, refl, sym, ap, ◌∙◌, subst, arith}
use Rattle.std.specs.Prelude.{Ok, Err, nat_lt}
use Rattle.std.proofs.lemmas.Bool.{lt-ltb}
use Rattle.std.proofs.lemmas.Option.{same_Some}
use Rattle.brisk_values.specs.Names.{Name}
use Rattle.brisk_syntax.specs.declared.program.Program.{Program}
use Rattle.brisk_seq.specs.Items.{Items, nothing, ◌⨟◌, ◌followed_by◌}
use Rattle.brisk_state.specs.Symbolic.{Symbolic}
use Rattle.brisk_basic.specs.Outcomes.{and_then, when}
use Rattle.brisk_derivation.specs.declared.fault.SideFault.TheVariants.{TooDeep}
use Rattle.brisk_derivation.specs.declared.steps.Fact.{Fact}
use Rattle.brisk_derivation.specs.Reports.{Tries, TryEnd, Tried as tried}
use Rattle.brisk_derivation.specs.Steps.{Step, Steps, no_steps}
use Rattle.brisk_rules.specs.declared.why.Why.{Why}
use Rattle.brisk_rules.specs.declared.why.Why.TheVariants.{Rule as BasicFault, Side}
use Rattle.brisk_rules.specs.Derives.{told_at, nested}
use Rattle.brisk_rules.specs.Following.{Follow, follows_in}
use Rattle.brisk_rules.specs.Rules.{Outcome, Entered, around, close}
use Rattle.brisk_rules.proofs.Fulfilled.{and_then_ok, told_ok, same_ok, when_ok}
use Rattle.brisk_loops.specs.LeaveSeen.{Closes, StartsLike}
use Rattle.brisk_loops.specs.Walk.{Inside, Premise as in_premise, First, Second, Open, Walked, Called, back, back_to, enter, entry, follows, inside, leave, leave_of, line, opened, outside, rule_at}
use Rattle.brisk_loops.specs.Walk as walks
use Rattle.brisk_loops.specs.WalkKept.{capped, kept}
use Rattle.brisk_loops.specs.WalkSeen.{Gives, refused_by}
use Rattle.brisk_search.specs.declared.closing.Premise.{Premise}
use Rattle.brisk_search.specs.declared.compound.Compound.{Compound}
use Rattle.brisk_search.specs.declared.compound.Kind.{Kind}
use Rattle.brisk_search.specs.declared.compound.Kind.TheVariants as kind
use Rattle.brisk_search.specs.declared.drive.Drive.TheVariants as asked
use Rattle.brisk_search.specs.declared.limits.Pass.{Pass}
use Rattle.brisk_search.specs.declared.turn.Came.{Came}
use Rattle.brisk_search.specs.declared.turn.Came.TheVariants.{To, Losing}
use Rattle.brisk_search.specs.declared.turn.Driven.TheVariants as drive
use Rattle.brisk_search.specs.declared.turn.Turn.TheVariants as turn
use Rattle.brisk_search.specs.Drives as written
use Rattle.brisk_search.specs.Drives.{Driver, premise_of}
use Rattle.brisk_search.specs.Met.{Adds, Alike, CameBy, MeetsDrive, MeetsTry, MeetsTurn, drive_at, try_at, way}
use Rattle.brisk_search.specs.Passes.{driver}
use Rattle.brisk_search.specs.Tries.{Rule, closed, driven, end_of, entered, refused, with_lost}
use Rattle.brisk_search.specs.Turns as turns
use Rattle.brisk_search.specs.Turns.{RulesLeft, Failures, Attempt, due}
use Rattle.brisk_search.specs.Views.{IsPremiseOf, IsSpent, IsWithin, failures_told, left_of, rule_by, rule_seen, sides_in, with_premise}
use Rattle.brisk_search.proofs.Meeting.{due_goes, due_spent, left_kept, spends, within_more}
use Rattle.brisk_search.proofs.Premises.{innermost_at, premise_seen, starts_so}

-- ---- a rule, by its kind

pub rule_entry : (P : Program) (F : Follow) (S : Symbolic) (t : Name) (ts : List Name) (k : Kind) (drops : List Fact) →
    entry P S ((rule_by P F S t ts k).step drops no_steps) ≡ walks.in_premise ((rule_by P F S t ts k).enter drops)
rule_entry P F S t ts kind.While drops = refl
rule_entry P F S t ts (kind.For s) drops = refl
rule_entry P F S t ts kind.Repeat drops = refl
rule_entry P F S t ts kind.Gather drops = refl
rule_entry P F S t ts kind.Pick drops = refl

pub rule_filled : (P : Program) (F : Follow) (S : Symbolic) (t : Name) (ts : List Name) (k : Kind) (drops : List Fact) (D : Steps) →
    with_premise ((rule_by P F S t ts k).step drops no_steps) D ≡ (rule_by P F S t ts k).step drops D
rule_filled P F S t ts kind.While drops D = refl
rule_filled P F S t ts (kind.For s) drops D = refl
rule_filled P F S t ts kind.Repeat drops D = refl
rule_filled P F S t ts kind.Gather drops D = refl
rule_filled P F S t ts kind.Pick drops D = refl

rule_follows : (P : Program) (F : Follow) (S : Symbolic) (t : Name) (ts : List Name) (k : Kind) (r : Entered) → (rule_by P F S t ts k).follows r ≡ follows_in S r F
rule_follows P F S t ts kind.While r = refl
rule_follows P F S t ts (kind.For s) r = refl
rule_follows P F S t ts kind.Repeat r = refl
rule_follows P F S t ts kind.Gather r = refl
rule_follows P F S t ts kind.Pick r = refl

rule_place : (P : Program) (F : Follow) (S : Symbolic) (t : Name) (ts : List Name) (k : Kind) → (rule_by P F S t ts k).at ≡ t
rule_place P F S t ts kind.While = refl
rule_place P F S t ts (kind.For s) = refl
rule_place P F S t ts kind.Repeat = refl
rule_place P F S t ts kind.Gather = refl
rule_place P F S t ts kind.Pick = refl

-- ---- entering and leaving

pub deep_enough : (n room : ℕ) → n + (room + 1) ≤ 256 → nat_lt n 256 ≡ true
deep_enough n room h = let less : n < 256 = omega (arith, h) in lt-ltb n 256 less

-- a rule that is entered, and one that is refused
pub entering : (w v : Walked) (A : Step) → Gives (enter w A) v → (i : Inside) × (entry w.program w.state A ≡ Ok i) × (v ≡ capped (inside w A i))
entering w v A g =
    let i = and_then_ok (told_at (line w) (nested (length w.entered) (entry w.program w.state A))) (λ i. Ok (inside w A i)) g.0 g.1 in
    let n = when_ok (nat_lt (length w.entered) 256) (Side TooDeep) (entry w.program w.state A) i.0 (told_ok (λ why. record { line = line w; why = why }) (nested (length w.entered) (entry w.program w.state A)) i.0 i.1) in
    (i.0, n.1, g.2 ∙ ap capped (sym (same_ok (inside w A i.0) g.0 i.2)))

pub refusal_of : {A : Type 0} (l : ℕ) (x : Outcome A) (go : A → Walked) (why : Why) → refused_by (and_then (told_at l x) (λ a. Ok (go a))) ≡ Some why → x ≡ Err why
refusal_of l (Ok a) go why e = absurd cc
refusal_of l (Err other) go why e = ap Err (same_Some other why e)

pub granted_by : {A : Type 0} (l : ℕ) (x : Outcome A) (go : A → Walked) → refused_by (and_then (told_at l x) (λ a. Ok (go a))) ≡ None → (a : A) × (x ≡ Ok a)
granted_by l (Ok a) go e = (a, refl)
granted_by l (Err other) go e = absurd cc

pub refusing : (w : Walked) (A : Step) (why : Why) → nat_lt (length w.entered) 256 ≡ true → refused_by (enter w A) ≡ Some why → entry w.program w.state A ≡ Err why
refusing w A why b e =
    refusal_of (line w) (entry w.program w.state A) (inside w A) why (ap (λ z. refused_by (and_then (told_at (line w) (when z (Side TooDeep) (entry w.program w.state A))) (λ i. Ok (inside w A i)))) (sym b) ∙ e)

premise_entry : (x : Outcome Entered) (i : Inside) → walks.in_premise x ≡ Ok i → (r : Entered) × (x ≡ Ok r) × (i ≡ in_premise r)
premise_entry (Ok r) i e = (r, refl, cc)
premise_entry (Err why) i e = cc

premise_refusal : (x : Outcome Entered) (why : Why) → walks.in_premise x ≡ Err why → x ≡ Err why
premise_refusal (Ok r) why e = cc
premise_refusal (Err other) why e = cc

-- what is told of a rule that is refused
pub refused_told : (t : Name) (A : Step) (why : Why) (fs : Failures) (left : RulesLeft) → refused t A why fs left ≡ turns.Stays (failures_told t A why fs) left
refused_told t A (Side why) fs left = refl
refused_told t A (BasicFault why) fs left = refl

-- a call that closes a rule with one premise
pub leaving : (u x : Walked) (o : Open) (more : List Open) (r : Entered) → u.entered ≡ o ∷ more → o.inside ≡ in_premise r → Gives (leave u) x →
    (S : Symbolic) × (close r u.state ≡ Ok S) × (x ≡ capped (outside u o more S (around r.kind u.items)))
leaving u x o more r e i g =
    let k : Gives (walks.leave_in u o more (in_premise r)) x = subst (λ (j : Inside). Gives (walks.leave_in u o more j) x) i (subst (λ (os : List Open). Gives (leave_of u os) x) e g) in
    let c = and_then_ok (told_at (line u) (close r u.state)) (λ S. Ok (outside u o more S (around r.kind u.items))) k.0 k.1 in
    (c.0, told_ok (λ why. record { line = line u; why = why }) (close r u.state) c.0 c.1, k.2 ∙ ap capped (sym (same_ok (outside u o more c.0 (around r.kind u.items)) k.0 c.2)))

pub leave_is : (u : Walked) (o : Open) (more : List Open) (i : Inside) → u.entered ≡ o ∷ more → o.inside ≡ i → leave u ≡ walks.leave_in u o more i
leave_is u o more i e is = ap (leave_of u) e ∙ ap (walks.leave_in u o more) is

pub close_refused : (u : Walked) (o : Open) (more : List Open) (r : Entered) (why : Why) → u.entered ≡ o ∷ more → o.inside ≡ in_premise r → refused_by (leave u) ≡ Some why → close r u.state ≡ Err why
close_refused u o more r why e i h = refusal_of (line u) (close r u.state) (λ S. outside u o more S (around r.kind u.items)) why (ap refused_by (sym (leave_is u o more (in_premise r) e i)) ∙ h)

pub close_granted : (u : Walked) (o : Open) (more : List Open) (r : Entered) → u.entered ≡ o ∷ more → o.inside ≡ in_premise r → refused_by (leave u) ≡ None → (S : Symbolic) × (close r u.state ≡ Ok S)
close_granted u o more r e i h = granted_by (line u) (close r u.state) (λ S. outside u o more S (around r.kind u.items)) (ap refused_by (sym (leave_is u o more (in_premise r) e i)) ∙ h)

pub given_back : (u : Walked) (o : Open) (more : List Open) → u.entered ≡ o ∷ more → back u ≡ record u { state = o.state; items = o.items; entered = more; counted = o.counted }
given_back u o more e = ap (back_to u) e

-- ---- one try

module _ (budget : Option ℕ) (pass : Pass) (room : ℕ) (c : Compound) (drops : List Fact) (fs : Failures) (w : Walked) (within : IsWithin budget w.applied) (deep : length w.entered + (room + 1) ≤ 256) where
  abbrev R : Rule
  R = rule_seen w.program (follows w.entered) w.state c

  abbrev A : Step
  A = R.step drops no_steps

  abbrev go : Driver
  go = driver w.program (sides_in pass) room

  -- it is refused at once
  pub try_refused : (why : Why) → refused_by (enter w A) ≡ Some why → (again : Entered → Symbolic → Attempt) → try_at budget pass room c drops fs w again ≡ turns.Stays (failures_told c.at A why fs) (left_of budget w.applied)
  try_refused why e again =
      let refuses = premise_refusal (R.enter drops) why (sym (rule_entry w.program (follows w.entered) w.state c.at c.owners.items c.kind drops) ∙ refusing w A why (deep_enough (length w.entered) room deep) e) in
      ap (λ (x : Outcome Entered). entered (Some go) x (λ why. refused R.at A why fs (left_of budget w.applied)) (λ driver r. driven again R drops r (driver (R.follows r) (premise_of r) r.start (left_of budget w.applied)) fs)) refuses
      ∙ ap (λ t. refused t A why fs (left_of budget w.applied)) (rule_place w.program (follows w.entered) w.state c.at c.owners.items c.kind)
      ∙ refused_told c.at A why fs (left_of budget w.applied)

  -- it is entered
  pub try_entered : (v : Walked) → Gives (enter w A) v → (r : Entered) × (R.enter drops ≡ Ok r) × (v ≡ capped (inside w A (in_premise r)))
  try_entered v g =
      let i = entering w v A g in
      let p = premise_entry (R.enter drops) i.0 (sym (rule_entry w.program (follows w.entered) w.state c.at c.owners.items c.kind drops) ∙ i.1) in
      (p.0, p.1, i.2 ∙ ap (λ j. capped (inside w A j)) p.2)

  module _ (r : Entered) (enters : R.enter drops ≡ Ok r) where
    abbrev o : Open
    o = opened w A (in_premise r)

    abbrev v : Walked
    v = capped (inside w A (in_premise r))

    -- the premise is that of the rule
    pub premise_there : (p : Premise) → p.around ≡ length w.entered → p.drops ≡ drops → Closes p.closing r → IsPremiseOf r p v.entered
    premise_there p around is closes =
        let starts = starts_so w.program (follows w.entered) w.state c.at c.owners.items c.kind drops r enters in
        (o, ap (rule_at (o ∷ w.entered)) around ∙ innermost_at o w.entered, refl, closes, subst (λ ds. StartsLike r ds w.state) (sym is) starts.0, starts.1)

    -- the try is what comes of its drive
    pub try_driven : (p : Premise) → IsPremiseOf r p v.entered → (again : Entered → Symbolic → Attempt) →
        try_at budget pass room c drops fs w again ≡ driven again R drops r (drive_at budget pass room (asked.Premise p) v) fs
    try_driven p there again =
        ap (λ (x : Outcome Entered). entered (Some go) x (λ why. refused R.at A why fs (left_of budget w.applied)) (λ driver r. driven again R drops r (driver (R.follows r) (premise_of r) r.start (left_of budget w.applied)) fs)) enters
        ∙ (λ i. driven again R drops r (go (rule_follows w.program (follows w.entered) w.state c.at c.owners.items c.kind r i) (sym (premise_seen p v.entered r there) i) r.start (sym (left_kept budget w.applied within) i)) fs)

    -- the drive spends the rules
    pub drive_spent : (u : Walked) (p : Premise) → IsPremiseOf r p v.entered → MeetsDrive budget (drive_at budget pass room (asked.Premise p) v) drive.Spent v u → (again : Entered → Symbolic → Attempt) →
        MeetsTurn budget (try_at budget pass room c drops fs w again) turn.Spent fs w u
    drive_spent u p there m again = (m.0, try_driven p there again ∙ ap (λ d. driven again R drops r d fs) m.1)

    module _ (u : Walked) (D : Steps) (X : Items) (adds : Adds budget X v u) where
      abbrev Y : Items
      Y = around r.kind X ⨟ nothing

      -- it is closed, or it is due, or facts are lost
      by_close : (came : Came) (x : Walked) (p : Premise) → p.drops ≡ drops → CameBy budget r p.drops came (with_premise A D) u x → ((again : Entered → Symbolic → Attempt) → try_at budget pass room c drops fs w again ≡ closed (again r u.state) (R.step drops D) Y (close r u.state) fs (left_of budget u.applied)) →
          MeetsTry budget w.program drops (try_at budget pass room c drops fs w) came fs w x
      by_close (To (turn.Goes s)) x p is (step, (gives, free, fits)) e = λ again.
          let (S, closes, at) = leaving u x o w.entered r adds.0.1 refl gives in
          subst (λ (z : Walked). MeetsTurn budget (try_at budget pass room c drops fs w again) (turn.Goes s) fs w z) (sym at) (
            Y,
            ((adds.0.0, refl, within_more budget u.applied fits), ap (λ (Z : Items). w.items followed_by (around r.kind Z ⨟ nothing)) adds.1),
            e again ∙ ap (λ y. closed (again r u.state) (R.step drops D) Y y fs (left_of budget u.applied)) closes
                ∙ due_goes budget u.applied (turns.Goes (R.step drops D) Y S) free fits
                ∙ ap (λ A'. turns.Goes A' Y S (left_of budget (kept (u.applied + 1)))) (sym (step ∙ rule_filled w.program (follows w.entered) w.state c.at c.owners.items c.kind drops D)),
          )
      by_close (To turn.Stays) x p is h e = λ again. absurd h
      by_close (To turn.Spent) x p is (same, granted, spent) e = λ again.
          let (S, closes) = close_granted u o w.entered r adds.0.1 refl granted in (
            (ap (λ (z : Walked). z.program) same ∙ adds.0.0, subst (λ (z : Walked). IsSpent budget z.applied) (sym same) (spends budget u.applied spent adds.0.2)),
            e again ∙ ap (λ y. closed (again r u.state) (R.step drops D) Y y fs (left_of budget u.applied)) closes ∙ due_spent budget u.applied (turns.Goes (R.step drops D) Y S) spent,
          )
      by_close (Losing more) x p is (why, same, refuses, drop) e =
          let closes = close_refused u o w.entered r why adds.0.1 refl refuses in
          let at = same ∙ given_back u o w.entered adds.0.1 in (
            r,
            u.state,
            subst (λ (z : Walked). Alike budget w z) (sym at) ((adds.0.0, refl, adds.0.2), refl, refl),
            (λ i. with_lost (sym adds.0.0 i) r u.state (sym is i)) ∙ sym drop,
            λ again. e again ∙ ap (λ y. closed (again r u.state) (R.step drops D) Y y fs (left_of budget u.applied)) closes ∙ ap (λ (z : Walked). again r u.state fs (left_of budget z.applied)) (sym at),
          )

      pub drive_closed : (came : Came) (x : Walked) (p : Premise) → IsPremiseOf r p v.entered → p.drops ≡ drops → drive_at budget pass room (asked.Premise p) v ≡ written.Reached (way D X u.state) (left_of budget u.applied) →
          CameBy budget r p.drops came (with_premise A D) u x → MeetsTry budget w.program drops (try_at budget pass room c drops fs w) came fs w x
      drive_closed came x p there is m k = by_close came x p is k (λ again. try_driven p there again ∙ ap (λ d. driven again R drops r d fs) m)

      -- it is stuck
      pub drive_stuck : (x : Walked) (p : Premise) (tries : Tries) (end : TryEnd) (s : Step) → IsPremiseOf r p v.entered → drive_at budget pass room (asked.Premise p) v ≡ written.Stuck (way D X u.state) tries (left_of budget u.applied) →
          end ≡ end_of r u.state tries → s ≡ with_premise A D → x ≡ back u → (again : Entered → Symbolic → Attempt) → MeetsTurn budget (try_at budget pass room c drops fs w again) turn.Stays ((c.at, tried s end) ∷ fs) w x
      drive_stuck x p tries end s there m ends is same again =
          let at = same ∙ given_back u o w.entered adds.0.1 in (
            subst (λ (z : Walked). Alike budget w z) (sym at) ((adds.0.0, refl, adds.0.2), refl, refl),
            try_driven p there again ∙ ap (λ d. driven again R drops r d fs) m
                ∙ (λ i. turns.Stays ((rule_place w.program (follows w.entered) w.state c.at c.owners.items c.kind i, tried (sym (is ∙ rule_filled w.program (follows w.entered) w.state c.at c.owners.items c.kind drops D) i) (sym ends i)) ∷ fs) (left_of budget u.applied))
                ∙ ap (λ (z : Walked). turns.Stays ((c.at, tried s end) ∷ fs) (left_of budget z.applied)) (sym at),
          )
