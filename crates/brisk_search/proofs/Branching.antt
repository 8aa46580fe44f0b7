-- A branch, both of whose sides are driven, by the walk's calls.
use Rattle.std.proofs.Common.{◌≡◌, ℕ, suc, ◌+◌, ◌≤◌, Option, Some, List, ◌∷◌, length, refl, sym, ap, ◌∙◌, subst}
use Rattle.std.specs.Prelude.{Ok, Err}
use Rattle.brisk_values.specs.Names.{Name}
use Rattle.brisk_seq.specs.Items.{Items, nothing, ◌⨟◌, ◌followed_by◌}
use Rattle.brisk_state.specs.Symbolic.{Symbolic}
use Rattle.brisk_basic.specs.Outcomes.{and_then}
use Rattle.brisk_derivation.specs.Reports.{Tries, Tried as tried, StuckFirst}
use Rattle.brisk_derivation.specs.Steps.{Step, Branch, Steps, no_steps}
use Rattle.brisk_derivation.specs.TriesSeen.{end_of}
use Rattle.brisk_derivation.specs.declared.report.TryEnd.{TryEnd as RawEnd}
use Rattle.brisk_derivation.specs.declared.report.TryEnd.TheVariants as raw_end
use Rattle.brisk_rules.specs.declared.why.Why.{Why}
use Rattle.brisk_rules.specs.Derives.{told_at}
use Rattle.brisk_rules.specs.Following.{Follow}
use Rattle.brisk_rules.specs.Rules.{Outcome, Entered, Parted, around_sides, enter_branch, join}
use Rattle.brisk_rules.proofs.Fulfilled.{and_then_ok, told_ok, same_ok}
use Rattle.brisk_loops.specs.Walk.{Inside, Premise as in_premise, First, Second, Open, Walked, across, back, enter, follows, inside, leave, leave_in, leave_of, line, opened, other, other_in, other_of, outside}
use Rattle.brisk_loops.specs.WalkKept.{capped, kept}
use Rattle.brisk_loops.specs.WalkSeen.{Gives, refused_by}
use Rattle.brisk_search.specs.declared.drive.Drive.{Drive as Asked}
use Rattle.brisk_search.specs.declared.limits.Pass.{Pass}
use Rattle.brisk_search.specs.declared.turn.Driven.TheVariants as drive
use Rattle.brisk_search.specs.declared.turn.Sided.TheVariants as sides
use Rattle.brisk_search.specs.declared.turn.Turn.{Turn}
use Rattle.brisk_search.specs.declared.turn.Turn.TheVariants as turn
use Rattle.brisk_search.specs.Drives as written
use Rattle.brisk_search.specs.Drives.{Drive, Driver}
use Rattle.brisk_search.specs.Met.{Adds, Alike, IsInFirst, JoinedBy, MeetsDrive, MeetsSides, MeetsTurn, around_at, drive_at, sides_at, way}
use Rattle.brisk_search.specs.Passes.{driver}
use Rattle.brisk_search.specs.Tries.{entered, first_driven, joined, refused, second_driven}
use Rattle.brisk_search.specs.Turns as turns
use Rattle.brisk_search.specs.Turns.{RulesLeft, Failures}
use Rattle.brisk_search.specs.Views.{Fits, IsSpent, IsWithin, behind_head, branch_at, drive_seen, failures_told, left_of, sides_in}
use Rattle.brisk_search.proofs.Meeting.{due_goes, due_spent, left_kept, spends, within_kept, within_more}
use Rattle.brisk_search.proofs.Premises.{fits_across}
use Rattle.brisk_search.proofs.Trial.{deep_enough, entering, given_back, granted_by, refusal_of, refused_told, refusing}

first_entry : (x : Outcome Parted) (i : Inside) → and_then x (λ r. Ok (First r)) ≡ Ok i → (p : Parted) × (x ≡ Ok p) × (i ≡ First p)
first_entry (Ok p) i e = (p, refl, cc)
first_entry (Err why) i e = cc

first_refusal : (x : Outcome Parted) (why : Why) → and_then x (λ r. Ok (First r)) ≡ Err why → x ≡ Err why
first_refusal (Ok p) why e = cc
first_refusal (Err other) why e = cc

-- the second side is joined, or it isn't
joining : (y z : Walked) (o : Open) (more : List Open) (p : Parted) (E : Symbolic) (X : Items) → y.entered ≡ o ∷ more → o.inside ≡ Second p E X → Gives (leave y) z →
    (S : Symbolic) × (join E y.state ≡ Ok S) × (z ≡ capped (outside y o more S (around_sides p X y.items)))
joining y z o more p E X e i g =
    let k : Gives (leave_in y o more (Second p E X)) z = subst (λ (j : Inside). Gives (leave_in y o more j) z) i (subst (λ (os : List Open). Gives (leave_of y os) z) e g) in
    let c = and_then_ok (told_at (line y) (join E y.state)) (λ S. Ok (outside y o more S (around_sides p X y.items))) k.0 k.1 in
    (c.0, told_ok (λ why. record { line = line y; why = why }) (join E y.state) c.0 c.1, k.2 ∙ ap capped (sym (same_ok (outside y o more c.0 (around_sides p X y.items)) k.0 c.2)))

join_is : (y : Walked) (o : Open) (more : List Open) (i : Inside) → y.entered ≡ o ∷ more → o.inside ≡ i → leave y ≡ leave_in y o more i
join_is y o more i e is = ap (leave_of y) e ∙ ap (leave_in y o more) is

module _ (budget : Option ℕ) (pass : Pass) (room : ℕ) (asked : Asked) (t : Name) (fs : Failures) (w : Walked) (within : IsWithin budget w.applied) (deep : length w.entered + (room + 1) ≤ 256) where
  abbrev A : Step
  A = Branch t no_steps no_steps

  abbrev go : Driver
  go = driver w.program (sides_in pass) room

  abbrev d : Drive
  d = sides_in pass (drive_seen w.entered asked) t (behind_head w.state t)

  abbrev found : turns.Turn
  found = branch_at (around_at pass (suc room) asked w) w.state t fs (left_of budget w.applied)

  pub branch_refused : (why : Why) → refused_by (enter w A) ≡ Some why → found ≡ turns.Stays (failures_told t A why fs) (left_of budget w.applied)
  branch_refused why e =
      let refuses = first_refusal (enter_branch w.state t) why (refusing w A why (deep_enough (length w.entered) room deep) e) in
      ap (λ (x : Outcome Parted). entered (Some go) x (λ why. refused t A why fs (left_of budget w.applied)) (λ driver p. first_driven driver (follows w.entered) d t p (driver (follows w.entered) d p.first (left_of budget w.applied)) fs)) refuses
      ∙ refused_told t A why fs (left_of budget w.applied)

  pub branch_entered : (v : Walked) → Gives (enter w A) v → (p : Parted) × (enter_branch w.state t ≡ Ok p) × (v ≡ capped (inside w A (First p)))
  branch_entered v g =
      let i = entering w v A g in
      let p = first_entry (enter_branch w.state t) i.0 i.1 in
      (p.0, p.1, i.2 ∙ ap (λ j. capped (inside w A j)) p.2)

  module _ (p : Parted) (enters : enter_branch w.state t ≡ Ok p) where
    abbrev o : Open
    o = opened w A (First p)

    abbrev v : Walked
    v = capped (inside w A (First p))

    pub in_first : IsInFirst p o w.entered v
    in_first = (refl, refl, refl, refl)

    pub branch_sided : found ≡ sides_at budget pass room d t p v fs
    branch_sided =
        ap (λ (x : Outcome Parted). entered (Some go) x (λ why. refused t A why fs (left_of budget w.applied)) (λ driver p. first_driven driver (follows w.entered) d t p (driver (follows w.entered) d p.first (left_of budget w.applied)) fs)) enters
        ∙ (λ i. first_driven go (follows w.entered) d t p (go (follows w.entered) d p.first (sym (left_kept budget w.applied within) i)) fs)

    module _ (y : Walked) where
      pub sides_spent : MeetsSides budget (sides_at budget pass room d t p v) t p o w.entered sides.Spent v y → MeetsTurn budget found turn.Spent fs w y
      sides_spent m = (m.0, branch_sided ∙ m.1 fs)

      pub sides_stuck : (a b : Steps) (end : RawEnd) (z : Walked) → MeetsSides budget (sides_at budget pass room d t p v) t p o w.entered (sides.Stuck a b end) v y → z ≡ back y → MeetsTurn budget found turn.Stays ((t, tried (Branch t a b) (end_of end)) ∷ fs) w z
      sides_stuck a b end z (i, program, stands, held, met) same =
          let at = same ∙ given_back y (record o { inside = i }) w.entered stands in (
            subst (λ (x : Walked). Alike budget w x) (sym at) ((program, refl, held), refl, refl),
            branch_sided ∙ met fs ∙ ap (λ (x : Walked). turns.Stays ((t, tried (Branch t a b) (end_of end)) ∷ fs) (left_of budget x.applied)) (sym at),
          )

      pub sides_joined : (a b : Steps) (turned : Turn) (gs : Failures) (z : Walked) → MeetsSides budget (sides_at budget pass room d t p v) t p o w.entered (sides.Both a b) v y → JoinedBy budget t (Branch t a b) turned fs gs y z → MeetsTurn budget found turned gs w z
      sides_joined a b (turn.Goes s) gs z (X, E, program, stands, held, met) (step, none, (gives, free, fits)) =
          let (S, joins, at) = joining y z (record o { inside = Second p E X }) w.entered p E X stands refl gives in
          let Y : Items = around_sides p X y.items ⨟ nothing in
          subst (λ (x : Walked). MeetsTurn budget found (turn.Goes s) gs w x) (sym at) (
            Y,
            ((program, refl, within_more budget y.applied fits), refl),
            branch_sided ∙ met fs ∙ ap (λ x. joined t p (way a X E) (way b y.items y.state) x fs (left_of budget y.applied)) joins
                ∙ due_goes budget y.applied (turns.Goes (Branch t a b) Y S) free fits
                ∙ ap (λ A'. turns.Goes A' Y S (left_of budget (kept (y.applied + 1)))) (sym step),
          )
      sides_joined a b turn.Stays gs z (X, E, program, stands, held, met) (why, same, refuses, told) =
          let joins = refusal_of (line y) (join E y.state) (λ S. outside y (record o { inside = Second p E X }) w.entered S (around_sides p X y.items)) why (ap refused_by (sym (join_is y (record o { inside = Second p E X }) w.entered (Second p E X) stands refl)) ∙ refuses) in
          let at = same ∙ given_back y (record o { inside = Second p E X }) w.entered stands in (
            subst (λ (x : Walked). Alike budget w x) (sym at) ((program, refl, held), refl, refl),
            branch_sided ∙ met fs ∙ ap (λ x. joined t p (way a X E) (way b y.items y.state) x fs (left_of budget y.applied)) joins
                ∙ refused_told t (Branch t a b) why fs (left_of budget y.applied) ∙ (λ i. turns.Stays (sym told i) (left_of budget y.applied)) ∙ ap (λ (x : Walked). turns.Stays gs (left_of budget x.applied)) (sym at),
          )
      sides_joined a b turn.Spent gs z (X, E, program, stands, held, met) (same, granted, spent) =
          let (S, joins) = granted_by (line y) (join E y.state) (λ S. outside y (record o { inside = Second p E X }) w.entered S (around_sides p X y.items)) (ap refused_by (sym (join_is y (record o { inside = Second p E X }) w.entered (Second p E X) stands refl)) ∙ granted) in (
            (ap (λ (x : Walked). x.program) same ∙ program, subst (λ (x : Walked). IsSpent budget x.applied) (sym same) (spends budget y.applied spent held)),
            branch_sided ∙ met fs ∙ ap (λ x. joined t p (way a X E) (way b y.items y.state) x fs (left_of budget y.applied)) joins
                ∙ due_spent budget y.applied (turns.Goes (Branch t a b) (around_sides p X y.items ⨟ nothing) S) spent,
          )

-- ---- one side after the other

module _ (budget : Option ℕ) (pass : Pass) (room : ℕ) (asked : Asked) (t : Name) (p : Parted) (o : Open) (more : List Open) (v : Walked) (first : IsInFirst p o more v) where
  abbrev sided : Failures → turns.Turn
  sided = sides_at budget pass room (drive_seen v.entered asked) t p v

  abbrev go' : Driver
  go' = driver v.program (sides_in pass) room

  abbrev F : Follow
  F = follows v.entered

  abbrev d' : Drive
  d' = drive_seen v.entered asked

  from_first : (fs : Failures) → sided fs ≡ first_driven go' F d' t p (drive_at budget pass room asked v) fs
  from_first fs = ap (λ (S : Symbolic). first_driven go' F d' t p (go' F d' S (left_of budget v.applied)) fs) (sym first.2)

  module _ (u : Walked) where
    pub first_spent : MeetsDrive budget (drive_at budget pass room asked v) drive.Spent v u → MeetsSides budget sided t p o more sides.Spent v u
    first_spent m = (m.0, λ fs. from_first fs ∙ ap (λ z. first_driven go' F d' t p z fs) m.1)

    pub first_stuck : (a b : Steps) (tries : Tries) → b ≡ no_steps → MeetsDrive budget (drive_at budget pass room asked v) (drive.Stuck a tries) v u → MeetsSides budget sided t p o more (sides.Stuck a b (raw_end.StuckFirst tries)) v u
    first_stuck a b tries none (X, adds, m) = (
      o.inside,
      adds.0.0,
      adds.0.1 ∙ first.0,
      adds.0.2,
      λ fs. from_first fs ∙ ap (λ z. first_driven go' F d' t p z fs) m ∙ (λ i. turns.Stays ((t, tried (Branch t a (sym none i)) (StuckFirst tries)) ∷ fs) (left_of budget u.applied)),
    )

    module _ (a : Steps) (X : Items) (adds : Adds budget X v u) (reached : drive_at budget pass room asked v ≡ written.Reached (way a X u.state) (left_of budget u.applied)) (fits : Fits asked v.entered) where
      abbrev q : Open
      q = record o { inside = Second p u.state u.items }

      abbrev x : Walked
      x = capped (across u o more p)

      pub crossing : (x' : Walked) → Gives (other u) x' → x' ≡ x
      crossing x' g =
          let k : Gives (other_in u o more (First p)) x' = subst (λ (i : Inside). Gives (other_in u o more i) x') first.1 (subst (λ (os : List Open). Gives (other_of u os) x') (adds.0.1 ∙ first.0) g) in
          k.2 ∙ ap capped (sym (same_ok (across u o more p) k.0 k.1))

      not_premise : (r : Entered) → o.inside ≡ in_premise r → ⊥
      not_premise r e = let k : First p ≡ in_premise r = sym first.1 ∙ e in cc

      pub there : Fits asked x.entered × (drive_seen x.entered asked ≡ d')
      there =
          let k = fits_across asked o q more not_premise (subst (Fits asked) first.0 fits) in
          (k.0, k.1 ∙ ap (λ os. drive_seen os asked) (sym first.0))

      pub same_depth : length x.entered ≡ length v.entered
      same_depth = ap length (sym first.0)

      follows_same : follows x.entered ≡ F
      follows_same = ap (λ (i : Inside). follows (record o { inside = i } ∷ more)) (sym first.1) ∙ ap follows (sym first.0)

      pub within_second : IsWithin budget x.applied
      within_second = within_kept budget u.applied adds.0.2

      items_so : u.items ≡ X
      items_so = adds.1 ∙ ap (λ (Z : Items). Z followed_by X) first.3

      from_second : (fs : Failures) → sided fs ≡ second_driven t p (way a u.items u.state) (drive_at budget pass room asked x) fs
      from_second fs =
          from_first fs ∙ ap (λ z. first_driven go' F d' t p z fs) reached
          ∙ (λ i. second_driven t p (way a (sym items_so i) u.state) (driver (sym adds.0.0 i) (sides_in pass) room (sym follows_same i) (sym there.1 i) p.second (sym (left_kept budget u.applied adds.0.2) i)) fs)

      module _ (y : Walked) where
        pub second_spent : MeetsDrive budget (drive_at budget pass room asked x) drive.Spent x y → MeetsSides budget sided t p o more sides.Spent v y
        second_spent m = ((m.0.0 ∙ adds.0.0, m.0.1), λ fs. from_second fs ∙ ap (λ z. second_driven t p (way a u.items u.state) z fs) m.1)

        pub second_stuck : (b : Steps) (tries : Tries) → MeetsDrive budget (drive_at budget pass room asked x) (drive.Stuck b tries) x y → MeetsSides budget sided t p o more (sides.Stuck a b (raw_end.StuckSecond tries)) v y
        second_stuck b tries (Z, more_adds, m) = (
          Second p u.state u.items,
          more_adds.0.0 ∙ adds.0.0,
          more_adds.0.1,
          more_adds.0.2,
          λ fs. from_second fs ∙ ap (λ z. second_driven t p (way a u.items u.state) z fs) m,
        )

        pub both_driven : (b : Steps) → MeetsDrive budget (drive_at budget pass room asked x) (drive.Reached b) x y → MeetsSides budget sided t p o more (sides.Both a b) v y
        both_driven b (Z, more_adds, m) = (
          u.items,
          u.state,
          more_adds.0.0 ∙ adds.0.0,
          more_adds.0.1,
          more_adds.0.2,
          λ fs. from_second fs ∙ ap (λ z. second_driven t p (way a u.items u.state) z fs) m
              ∙ (λ i. joined t p (way a u.items u.state) (way b (sym more_adds.1 i) y.state) (join u.state y.state) fs (left_of budget y.applied)),
        )
