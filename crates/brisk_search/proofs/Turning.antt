-- The turns of a ring on one walk: who acts, what is tried at a head, and the loops that go through them.
use Rattle.std.proofs.Common.{◌≡◌, ℕ, suc, ◌+◌, ◌≤◌, true, false, Option, List, [], ◌∷◌, map, length, refl, sym, ap, ◌∙◌, subst, arith}
use Rattle.std.specs.Prelude.{Ok, if◌then◌else◌}
use Rattle.brisk_values.specs.Names.{Name}
use Rattle.brisk_syntax.specs.Syntax.{Code}
use Rattle.brisk_derivation.specs.declared.report.TryEnd.{TryEnd as RawEnd}
use Rattle.brisk_derivation.specs.Reports.{Tried as tried}
use Rattle.brisk_derivation.specs.Steps.{Branch, Steps, no_steps}
use Rattle.brisk_derivation.specs.TriesSeen.{end_of}
use Rattle.brisk_loops.specs.Walk.{First, Open, Walked, back, enter, follows, inside, opened}
use Rattle.brisk_loops.specs.WalkKept.{capped}
use Rattle.brisk_loops.specs.WalkSeen.{Gives}
use Rattle.brisk_rules.specs.Rules.{Parted, enter_branch}
use Rattle.brisk_search.specs.declared.compound.Compound.{Compound}
use Rattle.brisk_search.specs.declared.drive.Comer.{Comer}
use Rattle.brisk_search.specs.declared.drive.Drive.{Drive as Asked}
use Rattle.brisk_search.specs.declared.drive.Drive.TheVariants.{Top}
use Rattle.brisk_search.specs.declared.limits.Pass.{Pass}
use Rattle.brisk_search.specs.declared.standing.Head.{Head}
use Rattle.brisk_search.specs.declared.standing.Head.TheVariants as head
use Rattle.brisk_search.specs.declared.turn.Driven.{Driven}
use Rattle.brisk_search.specs.declared.turn.Sided.{Sided}
use Rattle.brisk_search.specs.declared.turn.Sided.TheVariants as sides
use Rattle.brisk_search.specs.declared.turn.Turn.{Turn}
use Rattle.brisk_search.specs.declared.turn.Turn.TheVariants as turn
use Rattle.brisk_search.specs.Advance.{Around}
use Rattle.brisk_search.specs.Drives.{Drive}
use Rattle.brisk_search.specs.Met.{Alike, IsInFirst, JoinedBy, MeetsAttempt, MeetsDrive, MeetsSides, MeetsTurn, around_at, drive_at, sides_at, tries_at}
use Rattle.brisk_search.specs.Tries.{nine_tries}
use Rattle.brisk_search.specs.Turns as turns
use Rattle.brisk_search.specs.Turns.{RulesLeft, Failures, Attempt, first_of, where_it_stays, ◌otherwise◌}
use Rattle.brisk_search.specs.Views.{Fits, IsWithin, around, asked_in, at_walk, attempt_of, behind_head, below, branch_at, drive_seen, first_rule, is_fork, last_rule, later_rules, left_of, next_rules, rule_seen, sides_in}
use Rattle.brisk_search.proofs.Acting.{after_first, asked_alike, comes_by}
use Rattle.brisk_search.proofs.Branching.{branch_entered, in_first, sides_joined, sides_spent, sides_stuck}
use Rattle.brisk_search.proofs.Meeting.{moves_meets, next_meets, same_turn, within_kept}
use Rattle.brisk_search.proofs.Premises.{fits_deeper, seen_deeper}
use Rattle.brisk_search.proofs.Rounds.{compounds_first}

-- ---- what is around, where only the program and what follows matter

pub first_alike : (pass : Pass) (room : ℕ) (asked : Asked) (w : Walked) (t : Name) (h : Head) → first_rule (at_walk w) w.state t h ≡ first_rule (around_at pass room asked w) w.state t h
first_alike pass room asked w t head.Assign = refl
first_alike pass room asked w t (head.Send u c) = refl
first_alike pass room asked w t (head.Receive u c) = refl
first_alike pass room asked w t head.If = refl
first_alike pass room asked w t (head.While true) = refl
first_alike pass room asked w t (head.While false) = refl
first_alike pass room asked w t head.Done = refl
first_alike pass room asked w t (head.For s) = refl
first_alike pass room asked w t head.Repeat = refl
first_alike pass room asked w t head.ReceiveAny = refl
first_alike pass room asked w t head.Alone = refl

pub last_alike : (pass : Pass) (room : ℕ) (asked : Asked) (w : Walked) (t : Name) (h : Head) → last_rule (at_walk w) w.state t h ≡ last_rule (around_at pass room asked w) w.state t h
last_alike pass room asked w t head.Assign = refl
last_alike pass room asked w t (head.Send u c) = refl
last_alike pass room asked w t (head.Receive u c) = refl
last_alike pass room asked w t head.If = refl
last_alike pass room asked w t (head.While true) = refl
last_alike pass room asked w t (head.While false) = refl
last_alike pass room asked w t head.Done = refl
last_alike pass room asked w t (head.For s) = refl
last_alike pass room asked w t head.Repeat = refl
last_alike pass room asked w t head.ReceiveAny = refl
last_alike pass room asked w t head.Alone = refl

later_top : (pass : Pass) (room : ℕ) (asked : Asked) (w : Walked) (t : Name) (h : Head) → later_rules (around_at pass room Top w) w.state t h ≡ later_rules (around_at pass room asked w) w.state t h
later_top pass room asked w t h =
    ap (λ (f : Attempt). first_of (nine_tries w.program (below w.program (sides_in pass) room) w.state) (next_rules w.program (follows w.entered) w.state t h) otherwise f) (sym (last_alike pass room Top w t h) ∙ last_alike pass room asked w t h)

-- ---- who acts

module _ (budget : Option ℕ) (pass : Pass) (room : ℕ) (asked : Asked) (comer : Comer) (t : Name) (h : Head) (fs : Failures) (w u : Walked) (o : Turn) (says : (t, h) ≡ asked_in (at_walk w) w.state comer) (first : MeetsAttempt budget (first_rule (at_walk w) w.state t h) o w u) where
  abbrev A : Around
  A = around_at pass room asked w

  abbrev all : turns.Turn
  all = attempt_of A w.state comer fs (left_of budget w.applied)

  comes : all ≡ where_it_stays (after_first A w.state t h) (first_rule A w.state t h fs (left_of budget w.applied))
  comes = comes_by A w.state comer t h (says ∙ asked_alike (at_walk w) A refl refl w.state comer) fs (left_of budget w.applied)

  begins : MeetsTurn budget (first_rule A w.state t h fs (left_of budget w.applied)) o fs w u
  begins = same_turn budget _ _ o fs w u (ap (λ (f : Attempt). f fs (left_of budget w.applied)) (sym (first_alike pass room asked w t h))) (first fs)

  -- the basic rule that comes first doesn't stay
  pub acts_moves : (o ≡ turn.Stays → ⊥) → MeetsTurn budget all o fs w u
  acts_moves moves = same_turn budget _ _ o fs w u comes (moves_meets budget (first_rule A w.state t h fs (left_of budget w.applied)) (after_first A w.state t h) o fs fs w u moves begins)

  module _ (stays : o ≡ turn.Stays) (o' : Turn) (gs : Failures) (v : Walked) where
    stayed : MeetsTurn budget (first_rule A w.state t h fs (left_of budget w.applied)) turn.Stays fs w u
    stayed = subst (λ z. MeetsTurn budget (first_rule A w.state t h fs (left_of budget w.applied)) z fs w u) stays begins

    pub stays_alike : Alike budget w u
    stays_alike = stayed.0

    -- then there is a branch
    pub acts_forks : is_fork h ≡ true → MeetsTurn budget (branch_at (around_at pass room asked u) u.state t fs (left_of budget u.applied)) o' gs u v → MeetsTurn budget all o' gs w v
    acts_forks fork m =
        same_turn budget _ _ o' gs w v comes
        (next_meets budget (first_rule A w.state t h fs (left_of budget w.applied)) (after_first A w.state t h) o' gs fs w u v stayed
        (same_turn budget _ _ o' gs u v ((λ i. (if fork i then branch_at A w.state t else later_rules A w.state t h) fs (left_of budget u.applied)) ∙ (λ i. branch_at (around (sym stayed.0.0.0 i) (sides_in pass) room (follows (sym stayed.0.0.1 i)) (drive_seen (sym stayed.0.0.1 i) asked)) (sym stayed.0.1 i) t fs (left_of budget u.applied))) m))

    -- or other rules
    pub acts_rules : is_fork h ≡ false → MeetsTurn budget (later_rules (around_at pass room Top u) u.state t h fs (left_of budget u.applied)) o' gs u v → MeetsTurn budget all o' gs w v
    acts_rules fork m =
        same_turn budget _ _ o' gs w v comes
        (next_meets budget (first_rule A w.state t h fs (left_of budget w.applied)) (after_first A w.state t h) o' gs fs w u v stayed
        (same_turn budget _ _ o' gs u v
        ((λ i. (if fork i then branch_at A w.state t else later_rules A w.state t h) fs (left_of budget u.applied)) ∙ ap (λ (f : Attempt). f fs (left_of budget u.applied)) (sym (later_top pass room asked w t h))
        ∙ (λ i. later_rules (around (sym stayed.0.0.0 i) (sides_in pass) room (follows (sym stayed.0.0.1 i)) (drive_seen (sym stayed.0.0.1 i) Top)) (sym stayed.0.1 i) t h fs (left_of budget u.applied))) m))

-- ---- other rules

module _ (pass : Pass) (room : ℕ) (w : Walked) (t : Name) (h : Head) (rules : List Compound) (are : map (rule_seen w.program (follows w.entered) w.state) rules ≡ next_rules w.program (follows w.entered) w.state t h) where
  pub later_is : (fs : Failures) (left : RulesLeft) → later_rules (around_at pass room Top w) w.state t h fs left ≡ (first_of (λ c. tries_at pass room c w) rules otherwise last_rule (around_at pass room Top w) w.state t h) fs left
  later_is fs left =
      ap (where_it_stays (last_rule (around_at pass room Top w) w.state t h)) (ap (λ rs. first_of (nine_tries w.program (below w.program (sides_in pass) room) w.state) rs fs left) (sym are) ∙ sym (compounds_first pass room w rules fs left))

pub tries_alike : (budget : Option ℕ) (pass : Pass) (room : ℕ) (c : Compound) (w u : Walked) → Alike budget w u → tries_at pass room c w ≡ tries_at pass room c u
tries_alike budget pass room c w u a = λ i. nine_tries (sym a.0.0 i) (below (sym a.0.0 i) (sides_in pass) room) (sym a.1 i) (rule_seen (sym a.0.0 i) (follows (sym a.0.1 i)) (sym a.1 i) c)

pub attempts_alike : (budget : Option ℕ) (pass : Pass) (room : ℕ) (asked : Asked) (c : Comer) (w u : Walked) → Alike budget w u → attempt_of (around_at pass room asked w) w.state c ≡ attempt_of (around_at pass room asked u) u.state c
attempts_alike budget pass room asked c w u a = λ i. attempt_of (around (sym a.0.0 i) (sides_in pass) room (follows (sym a.0.1 i)) (drive_seen (sym a.0.1 i) asked)) (sym a.1 i) c

pub last_there : (budget : Option ℕ) (pass : Pass) (room : ℕ) (w u : Walked) (t : Name) (h : Head) → Alike budget w u → last_rule (around_at pass room Top w) w.state t h ≡ last_rule (at_walk u) u.state t h
last_there budget pass room w u t h a = (λ i. last_rule (around (sym a.0.0 i) (sides_in pass) room (follows (sym a.0.1 i)) (drive_seen (sym a.0.1 i) Top)) (sym a.1 i) t h) ∙ sym (last_alike pass room Top u t h)

-- the drive goes on from this walk, and comes to this
pub drive_there : (budget : Option ℕ) (pass : Pass) (room : ℕ) (asked : Asked) (x' x y : Walked) (d d' : Driven) → x' ≡ x → d ≡ d' → MeetsDrive budget (drive_at budget pass room asked x') d x' y → MeetsDrive budget (drive_at budget pass room asked x) d' x y
drive_there budget pass room asked x' x y d d' e f m =
    subst (λ (z : Walked). MeetsDrive budget (drive_at budget pass room asked z) d' z y) e (subst (λ (c : Driven). MeetsDrive budget (drive_at budget pass room asked x') c x' y) f m)

pub sides_come : (budget : Option ℕ) (sided : Failures → turns.Turn) (t : Name) (p : Parted) (o : Open) (more : List Open) (s s' : Sided) (v y : Walked) → s ≡ s' → MeetsSides budget sided t p o more s v y → MeetsSides budget sided t p o more s' v y
sides_come budget sided t p o more s s' v y e m = subst (λ z. MeetsSides budget sided t p o more z v y) e m

-- ---- a branch

nonempty : {X : Type 0} (x : X) (xs ys : List X) → ys ≡ x ∷ xs → ys ≡ [] → ⊥
nonempty x xs ys e f = let k : x ∷ xs ≡ [] = sym e ∙ f in cc

module _ (budget : Option ℕ) (pass : Pass) (room : ℕ) (asked : Asked) (t : Name) (fs : Failures) (w : Walked) (fits : Fits asked w.entered) (within : IsWithin budget w.applied) (deep : length w.entered + (room + 1) ≤ 256) (v : Walked) (rest : Code) (rest_is : rest ≡ behind_head w.state t) (gives : Gives (enter w (Branch t no_steps no_steps)) v) where
  abbrev pub parted : Parted
  parted = (branch_entered budget pass room asked t fs w within deep v gives).0

  abbrev pub opening : Open
  opening = opened w (Branch t no_steps no_steps) (First parted)

  abbrev v' : Walked
  v' = capped (inside w (Branch t no_steps no_steps) (First parted))

  enters : enter_branch w.state t ≡ Ok parted
  enters = (branch_entered budget pass room asked t fs w within deep v gives).1

  at : v ≡ v'
  at = (branch_entered budget pass room asked t fs w within deep v gives).2

  abbrev found : turns.Turn
  found = branch_at (around_at pass (suc room) asked w) w.state t fs (left_of budget w.applied)

  abbrev sided : Failures → turns.Turn
  sided = sides_at budget pass room (sides_in pass (drive_seen v.entered asked) t rest) t parted v

  pub inside_first : IsInFirst parted opening w.entered v
  inside_first = subst (IsInFirst parted opening w.entered) (sym at) (in_first budget pass room asked t fs w within deep parted enters)

  pub ready_inside : Fits asked v.entered × (length v.entered + room ≤ 256) × IsWithin budget v.applied
  ready_inside =
      let less : suc (length w.entered) + room ≤ 256 = omega (arith, deep) in
      subst (λ (z : Walked). Fits asked z.entered × (length z.entered + room ≤ 256) × IsWithin budget z.applied) (sym at) (fits_deeper asked opening w.entered fits, less, within_kept budget w.applied within)

  -- the sides as they are driven are the written ones
  met : (s : Sided) (y : Walked) → MeetsSides budget sided t parted opening w.entered s v y → MeetsSides budget (sides_at budget pass room (sides_in pass (drive_seen w.entered asked) t (behind_head w.state t)) t parted v') t parted opening w.entered s v' y
  met s y m =
      let seen : drive_seen v.entered asked ≡ drive_seen w.entered asked = ap (λ (z : Walked). drive_seen z.entered asked) at ∙ seen_deeper asked opening w.entered fits in
      subst (λ (z : Walked). MeetsSides budget (sides_at budget pass room (sides_in pass (drive_seen w.entered asked) t (behind_head w.state t)) t parted z) t parted opening w.entered s z y) at
      (subst (λ (d : Drive). MeetsSides budget (sides_at budget pass room d t parted v) t parted opening w.entered s v y) (λ i. sides_in pass (seen i) t (rest_is i)) m)

  module _ (y : Walked) where
    pub branch_spent : MeetsSides budget sided t parted opening w.entered sides.Spent v y → MeetsTurn budget found turn.Spent fs w y
    branch_spent m = sides_spent budget pass room asked t fs w within deep parted enters y (met sides.Spent y m)

    module _ (a b : Steps) where
      pub branch_stuck : (end : RawEnd) (z : Walked) → MeetsSides budget sided t parted opening w.entered (sides.Stuck a b end) v y → z ≡ back y → MeetsTurn budget found turn.Stays ((t, tried (Branch t a b) (end_of end)) ∷ fs) w z
      branch_stuck end z m same = sides_stuck budget pass room asked t fs w within deep parted enters y a b end z (met (sides.Stuck a b end) y m) same

      pub branch_joined : (turned : Turn) (gs : Failures) (z : Walked) → MeetsSides budget sided t parted opening w.entered (sides.Both a b) v y → JoinedBy budget t (Branch t a b) turned fs gs y z → MeetsTurn budget found turned gs w z
      branch_joined turned gs z m j = sides_joined budget pass room asked t fs w within deep parted enters y a b turned gs z (met (sides.Both a b) y m) j

      pub both_inside : MeetsSides budget sided t parted opening w.entered (sides.Both a b) v y → y.entered ≡ [] → ⊥
      both_inside m = nonempty _ w.entered y.entered m.3

      pub stuck_inside : (end : RawEnd) → MeetsSides budget sided t parted opening w.entered (sides.Stuck a b end) v y → y.entered ≡ [] → ⊥
      stuck_inside end m = nonempty _ w.entered y.entered m.2
