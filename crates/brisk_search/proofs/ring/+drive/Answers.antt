use Rattle.std.proofs.Common.{◌≡◌, ◌+◌, ◌-◌, ◌≤◌, [], ◌∷◌, Option, Some, drop, length, map, rules, suc, refl, sym, ap, ◌∙◌, subst, arith}
use Rattle.std.proofs.lemmas.List.{at_drop_all}
use Rattle.std.proofs.lemmas.Result.{IfOk-weaker}
use Rattle.brisk_derivation.specs.Seen.{step_of, steps_of}
use Rattle.brisk_derivation.specs.Reports.{Tried as tried}
use Rattle.brisk_derivation.specs.Steps.{Branch}
use Rattle.brisk_derivation.specs.TriesSeen.{end_of}
use Rattle.brisk_loops.specs.Walk.{enter, follows}
use Rattle.brisk_loops.specs.WalkSeen.{Gives}
use Rattle.brisk_rules.specs.declared.why.Why.{Why}
use Rattle.brisk_state.specs.Symbolic.{Symbolic}
use Rattle.brisk_search.specs.declared.compound.Compound.{Compound}
use Rattle.brisk_search.specs.declared.drive.Drive.TheVariants.{Top}
use Rattle.brisk_search.specs.declared.turn.Came.{Came}
use Rattle.brisk_search.specs.declared.turn.Driven.{Driven}
use Rattle.brisk_search.specs.declared.turn.Turn.{Turn}
use Rattle.brisk_search.specs.declared.turn.Turn.TheVariants.{Spent, Stays}
use Rattle.brisk_search.specs.Met.{MadeOr, MeetsDrive, MeetsTry, MeetsTurn, around_at, drive_at, tries_at, try_at}
use Rattle.brisk_search.specs.Passes.{driver, last_tries, round}
use Rattle.brisk_search.specs.Tries.{tries}
use Rattle.brisk_search.specs.Turns.{Attempt, first_of}
use Rattle.brisk_search.specs.Views.{attempt_of, behind_head, branch_at, drive_seen, failures_of, last_rule, left_of, next_rules, rule_seen, sides_in}
use Rattle.brisk_search.proofs.Branching.{both_driven, crossing, first_stuck, second_spent, second_stuck}
use Rattle.brisk_search.proofs.Meeting.{alike_self, round_first, next_meets, moves_meets, same_turn}
use Rattle.brisk_search.proofs.Rounds.{IsListed, IsTry, each_ok, less_than, ready_alike, last_ends, last_loses, led_more, led_none, led_reached, led_spent, led_stuck, listed_moves, listed_stays, try_ends, try_loses}
use Rattle.brisk_search.proofs.Threads.{next_of}
use Rattle.brisk_search.proofs.Tried.{one_refused, try_closes, try_ready, try_spent, try_stuck}
use Rattle.brisk_search.proofs.Turning.{acts_forks, acts_moves, acts_rules, attempts_alike, both_inside, branch_joined, branch_spent, branch_stuck, drive_there, inside_first, last_there, later_is, opening, parted, ready_inside, sides_come, stays_alike, stuck_inside, tries_alike}
use Rattle.brisk_search.proofs.ring.+drive.Goals as goal

-- ---- who comes in turn

pub acts-branch-limits-requires : goal.acts-branch-limits-requires
acts-branch-limits-requires t c =
    let alike = stays_alike c.args.limits.now.budget c.args.limits.now.pass c.args.room c.args.asked.now c.args.comer.now c.in_ok-name.name c.in_ok-name.head (failures_of c.args.failures.now.items) c.args.walk.now c.at_first.new.walk c.in_ok-turn.turn c.in_ok-name.ensures c.in_ok-turn.ensures c.in-Stays.is Stays [] c.args.walk.now in
    (search rules, ready_alike c.args.limits.now.budget c.args.room c.args.asked.now c.args.walk.now c.at_first.new.walk c.requires alike.0.1 alike.0.2)

pub acts-rules-requires : goal.acts-rules-requires
acts-rules-requires t c =
    let alike = stays_alike c.args.limits.now.budget c.args.limits.now.pass c.args.room c.args.asked.now c.args.comer.now c.in_ok-name.name c.in_ok-name.head (failures_of c.args.failures.now.items) c.args.walk.now c.at_first.new.walk c.in_ok-turn.turn c.in_ok-name.ensures c.in_ok-turn.ensures c.in-Stays.is Stays [] c.args.walk.now in
    (search rules, ready_alike c.args.limits.now.budget c.args.room Top c.args.walk.now c.at_first.new.walk (tt, c.requires.1, c.requires.2) alike.0.1 alike.0.2)

pub acts-returns-in-Stays : goal.acts-returns-in-Stays
acts-returns-in-Stays t c =
    IfOk-weaker c.branch-limits.result _ _
    (λ o m. acts_forks c.args.limits.now.budget c.args.limits.now.pass c.args.room c.args.asked.now c.args.comer.now c.in_ok-name.name c.in_ok-name.head (failures_of c.args.failures.now.items) c.args.walk.now c.at_first.new.walk c.in_ok-turn.turn c.in_ok-name.ensures c.in_ok-turn.ensures c.in-Stays.is o (failures_of c.branch-limits.new.failures.items) c.branch-limits.new.walk (sym c.is_if-forks.ensures ∙ c.if-forks.true) m) c.branch-limits.ensures

pub acts-returns-in-Stays-2 : goal.acts-returns-in-Stays-2
acts-returns-in-Stays-2 t c =
    IfOk-weaker c.rules.result _ _
    (λ o m. acts_rules c.args.limits.now.budget c.args.limits.now.pass c.args.room c.args.asked.now c.args.comer.now c.in_ok-name.name c.in_ok-name.head (failures_of c.args.failures.now.items) c.args.walk.now c.at_first.new.walk c.in_ok-turn.turn c.in_ok-name.ensures c.in_ok-turn.ensures c.in-Stays-2.is o (failures_of c.rules.new.failures.items) c.rules.new.walk (sym c.is_if-forks.ensures ∙ c.if-forks.false) m) c.rules.ensures

pub acts-returns-in_default : goal.acts-returns-in_default
acts-returns-in_default t c = acts_moves c.args.limits.now.budget c.args.limits.now.pass c.args.room c.args.asked.now c.args.comer.now c.in_ok-name.name c.in_ok-name.head (failures_of c.args.failures.now.items) c.args.walk.now c.at_first.new.walk c.in_ok-turn.turn c.in_ok-name.ensures c.in_ok-turn.ensures c.in_default.not-Stays

-- ---- one side after the other

pub both_sides-returns-in-Stuck : goal.both_sides-returns-in-Stuck
both_sides-returns-in-Stuck t c = λ t' p o more first.
    first_stuck c.args.limits.now.budget c.args.limits.now.pass c.args.below c.args.asked.now t' p o more c.args.walk.now first c.drive.new.walk c.in-Stuck.first _ c.in-Stuck.tries (ap steps_of c.new.ensures.items) (subst (λ (d : Driven). MeetsDrive c.args.limits.now.budget (drive_at c.args.limits.now.budget c.args.limits.now.pass c.args.below c.args.asked.now c.args.walk.now) d c.args.walk.now c.drive.new.walk) c.in-Stuck.is c.in_ok-drive.ensures)

pub both_sides-returns-in-Spent-2 : goal.both_sides-returns-in-Spent-2
both_sides-returns-in-Spent-2 t c = λ t' p o more first.
    let w = c.args.walk.now in let u = c.drive.new.walk in
    let (X, adds, reached) = subst (λ (d : Driven). MeetsDrive c.args.limits.now.budget (drive_at c.args.limits.now.budget c.args.limits.now.pass c.args.below c.args.asked.now c.args.walk.now) d c.args.walk.now c.drive.new.walk) c.in-Reached.is c.in_ok-drive.ensures in
    let cross = crossing c.args.limits.now.budget c.args.limits.now.pass c.args.below c.args.asked.now t' p o more w first u c.in-Reached.first X adds reached c.requires.0 c.crosses.new.walk c.in_ok-crosses-in-Reached.ensures in
    let m = drive_there c.args.limits.now.budget c.args.limits.now.pass c.args.below c.args.asked.now c.crosses.new.walk _ c.drive-in-Reached.new.walk c.in_ok-drive-in-Reached.field-0 _ cross c.in-Spent-2.is c.in_ok-drive-in-Reached.ensures in
    second_spent c.args.limits.now.budget c.args.limits.now.pass c.args.below c.args.asked.now t' p o more w first u c.in-Reached.first X adds reached c.requires.0 c.drive-in-Reached.new.walk m

pub both_sides-returns-in-Stuck-2 : goal.both_sides-returns-in-Stuck-2
both_sides-returns-in-Stuck-2 t c = λ t' p o more first.
    let w = c.args.walk.now in let u = c.drive.new.walk in
    let (X, adds, reached) = subst (λ (d : Driven). MeetsDrive c.args.limits.now.budget (drive_at c.args.limits.now.budget c.args.limits.now.pass c.args.below c.args.asked.now c.args.walk.now) d c.args.walk.now c.drive.new.walk) c.in-Reached.is c.in_ok-drive.ensures in
    let cross = crossing c.args.limits.now.budget c.args.limits.now.pass c.args.below c.args.asked.now t' p o more w first u c.in-Reached.first X adds reached c.requires.0 c.crosses.new.walk c.in_ok-crosses-in-Reached.ensures in
    let m = drive_there c.args.limits.now.budget c.args.limits.now.pass c.args.below c.args.asked.now c.crosses.new.walk _ c.drive-in-Reached.new.walk c.in_ok-drive-in-Reached.field-0 _ cross c.in-Stuck-2.is c.in_ok-drive-in-Reached.ensures in
    second_stuck c.args.limits.now.budget c.args.limits.now.pass c.args.below c.args.asked.now t' p o more w first u c.in-Reached.first X adds reached c.requires.0 c.drive-in-Reached.new.walk c.in-Stuck-2.second c.in-Stuck-2.tries m

pub both_sides-returns-in-Reached-2 : goal.both_sides-returns-in-Reached-2
both_sides-returns-in-Reached-2 t c = λ t' p o more first.
    let w = c.args.walk.now in let u = c.drive.new.walk in
    let (X, adds, reached) = subst (λ (d : Driven). MeetsDrive c.args.limits.now.budget (drive_at c.args.limits.now.budget c.args.limits.now.pass c.args.below c.args.asked.now c.args.walk.now) d c.args.walk.now c.drive.new.walk) c.in-Reached.is c.in_ok-drive.ensures in
    let cross = crossing c.args.limits.now.budget c.args.limits.now.pass c.args.below c.args.asked.now t' p o more w first u c.in-Reached.first X adds reached c.requires.0 c.crosses.new.walk c.in_ok-crosses-in-Reached.ensures in
    let m = drive_there c.args.limits.now.budget c.args.limits.now.pass c.args.below c.args.asked.now c.crosses.new.walk _ c.drive-in-Reached.new.walk c.in_ok-drive-in-Reached.field-0 _ cross c.in-Reached-2.is c.in_ok-drive-in-Reached.ensures in
    both_driven c.args.limits.now.budget c.args.limits.now.pass c.args.below c.args.asked.now t' p o more w first u c.in-Reached.first X adds reached c.requires.0 c.drive-in-Reached.new.walk c.in-Reached-2.second m

-- ---- a branch

pub branch-sides-requires : goal.branch-sides-requires
branch-sides-requires t c =
    let one : c.args.room ≡ c.in-Some.below + 1 = search rules in
    let deep : length c.args.walk.now.entered + (c.in-Some.below + 1) ≤ 256 = omega (arith, one, c.requires.1) in
    let rest_is = c.in_ok-rest.ensures ∙ ap (λ (S : Symbolic). behind_head S c.args.name) c.state.ensures in
    let made = subst (λ (o : Option Why). MadeOr o (enter c.args.walk.now (step_of c.branch_of-step.result)) c.args.walk.now c.enters.new.walk) c.in_default-2.is c.in_ok-why.ensures in
    let gives = subst (λ A. Gives (enter c.args.walk.now A) c.enters.new.walk) c.branch_of-step.ensures made in
    (search rules, ready_inside c.args.limits.now.budget c.args.limits.now.pass c.in-Some.below c.args.asked.now c.args.name (failures_of c.args.failures.now.items) c.args.walk.now c.requires.0 c.requires.2 deep c.enters.new.walk c.in_ok-rest.rest rest_is gives)

pub branch-returns-in-Spent : goal.branch-returns-in-Spent
branch-returns-in-Spent t c =
    let one : c.args.room ≡ c.in-Some.below + 1 = search rules in
    let deep : length c.args.walk.now.entered + (c.in-Some.below + 1) ≤ 256 = omega (arith, one, c.requires.1) in
    let rest_is = c.in_ok-rest.ensures ∙ ap (λ (S : Symbolic). behind_head S c.args.name) c.state.ensures in
    let made = subst (λ (o : Option Why). MadeOr o (enter c.args.walk.now (step_of c.branch_of-step.result)) c.args.walk.now c.enters.new.walk) c.in_default-2.is c.in_ok-why.ensures in
    let gives = subst (λ A. Gives (enter c.args.walk.now A) c.enters.new.walk) c.branch_of-step.ensures made in
    let first = inside_first c.args.limits.now.budget c.args.limits.now.pass c.in-Some.below c.args.asked.now c.args.name (failures_of c.args.failures.now.items) c.args.walk.now c.requires.0 c.requires.2 deep c.enters.new.walk c.in_ok-rest.rest rest_is gives in
    let p = parted c.args.limits.now.budget c.args.limits.now.pass c.in-Some.below c.args.asked.now c.args.name (failures_of c.args.failures.now.items) c.args.walk.now c.requires.0 c.requires.2 deep c.enters.new.walk c.in_ok-rest.rest rest_is gives in let o = opening c.args.limits.now.budget c.args.limits.now.pass c.in-Some.below c.args.asked.now c.args.name (failures_of c.args.failures.now.items) c.args.walk.now c.requires.0 c.requires.2 deep c.enters.new.walk c.in_ok-rest.rest rest_is gives in
    let met = sides_come c.args.limits.now.budget _ c.args.name p o c.args.walk.now.entered c.in_ok-sides.field-0 _ c.enters.new.walk c.sides.new.walk c.in-Spent.is (c.in_ok-sides.ensures p o c.args.walk.now.entered first) in
    let room_is : suc c.in-Some.below ≡ c.args.room = omega (arith, one) in
    subst (λ r. MeetsTurn c.args.limits.now.budget (branch_at (around_at c.args.limits.now.pass r c.args.asked.now c.args.walk.now) c.args.walk.now.state c.args.name (failures_of c.args.failures.now.items) (left_of c.args.limits.now.budget c.args.walk.now.applied)) Spent (failures_of c.args.failures.now.items) c.args.walk.now c.sides.new.walk) room_is (branch_spent c.args.limits.now.budget c.args.limits.now.pass c.in-Some.below c.args.asked.now c.args.name (failures_of c.args.failures.now.items) c.args.walk.now c.requires.0 c.requires.2 deep c.enters.new.walk c.in_ok-rest.rest rest_is gives c.sides.new.walk met)

pub branch-joins-requires : goal.branch-joins-requires
branch-joins-requires t c =
    let one : c.args.room ≡ c.in-Some.below + 1 = search rules in
    let deep : length c.args.walk.now.entered + (c.in-Some.below + 1) ≤ 256 = omega (arith, one, c.requires.1) in
    let rest_is = c.in_ok-rest.ensures ∙ ap (λ (S : Symbolic). behind_head S c.args.name) c.state.ensures in
    let made = subst (λ (o : Option Why). MadeOr o (enter c.args.walk.now (step_of c.branch_of-step.result)) c.args.walk.now c.enters.new.walk) c.in_default-2.is c.in_ok-why.ensures in
    let gives = subst (λ A. Gives (enter c.args.walk.now A) c.enters.new.walk) c.branch_of-step.ensures made in
    let first = inside_first c.args.limits.now.budget c.args.limits.now.pass c.in-Some.below c.args.asked.now c.args.name (failures_of c.args.failures.now.items) c.args.walk.now c.requires.0 c.requires.2 deep c.enters.new.walk c.in_ok-rest.rest rest_is gives in
    let p = parted c.args.limits.now.budget c.args.limits.now.pass c.in-Some.below c.args.asked.now c.args.name (failures_of c.args.failures.now.items) c.args.walk.now c.requires.0 c.requires.2 deep c.enters.new.walk c.in_ok-rest.rest rest_is gives in let o = opening c.args.limits.now.budget c.args.limits.now.pass c.in-Some.below c.args.asked.now c.args.name (failures_of c.args.failures.now.items) c.args.walk.now c.requires.0 c.requires.2 deep c.enters.new.walk c.in_ok-rest.rest rest_is gives in
    let met = sides_come c.args.limits.now.budget _ c.args.name p o c.args.walk.now.entered c.in_ok-sides.field-0 _ c.enters.new.walk c.sides.new.walk c.in-Both.is (c.in_ok-sides.ensures p o c.args.walk.now.entered first) in
    both_inside c.args.limits.now.budget c.args.limits.now.pass c.in-Some.below c.args.asked.now c.args.name (failures_of c.args.failures.now.items) c.args.walk.now c.requires.0 c.requires.2 deep c.enters.new.walk c.in_ok-rest.rest rest_is gives c.sides.new.walk c.in-Both.first c.in-Both.second met

pub branch-returns-in-Both : goal.branch-returns-in-Both
branch-returns-in-Both t c =
    let one : c.args.room ≡ c.in-Some.below + 1 = search rules in
    let deep : length c.args.walk.now.entered + (c.in-Some.below + 1) ≤ 256 = omega (arith, one, c.requires.1) in
    let rest_is = c.in_ok-rest.ensures ∙ ap (λ (S : Symbolic). behind_head S c.args.name) c.state.ensures in
    let made = subst (λ (o : Option Why). MadeOr o (enter c.args.walk.now (step_of c.branch_of-step.result)) c.args.walk.now c.enters.new.walk) c.in_default-2.is c.in_ok-why.ensures in
    let gives = subst (λ A. Gives (enter c.args.walk.now A) c.enters.new.walk) c.branch_of-step.ensures made in
    let first = inside_first c.args.limits.now.budget c.args.limits.now.pass c.in-Some.below c.args.asked.now c.args.name (failures_of c.args.failures.now.items) c.args.walk.now c.requires.0 c.requires.2 deep c.enters.new.walk c.in_ok-rest.rest rest_is gives in
    let p = parted c.args.limits.now.budget c.args.limits.now.pass c.in-Some.below c.args.asked.now c.args.name (failures_of c.args.failures.now.items) c.args.walk.now c.requires.0 c.requires.2 deep c.enters.new.walk c.in_ok-rest.rest rest_is gives in let o = opening c.args.limits.now.budget c.args.limits.now.pass c.in-Some.below c.args.asked.now c.args.name (failures_of c.args.failures.now.items) c.args.walk.now c.requires.0 c.requires.2 deep c.enters.new.walk c.in_ok-rest.rest rest_is gives in
    let met = sides_come c.args.limits.now.budget _ c.args.name p o c.args.walk.now.entered c.in_ok-sides.field-0 _ c.enters.new.walk c.sides.new.walk c.in-Both.is (c.in_ok-sides.ensures p o c.args.walk.now.entered first) in
    let room_is : suc c.in-Some.below ≡ c.args.room = omega (arith, one) in
    IfOk-weaker c.joins.result _ _
    (λ o j. subst (λ r. MeetsTurn c.args.limits.now.budget (branch_at (around_at c.args.limits.now.pass r c.args.asked.now c.args.walk.now) c.args.walk.now.state c.args.name (failures_of c.args.failures.now.items) (left_of c.args.limits.now.budget c.args.walk.now.applied)) o (failures_of c.joins.new.failures.items) c.args.walk.now c.joins.new.walk) room_is (branch_joined c.args.limits.now.budget c.args.limits.now.pass c.in-Some.below c.args.asked.now c.args.name (failures_of c.args.failures.now.items) c.args.walk.now c.requires.0 c.requires.2 deep c.enters.new.walk c.in_ok-rest.rest rest_is gives c.sides.new.walk c.in-Both.first c.in-Both.second o (failures_of c.joins.new.failures.items) c.joins.new.walk met j)) c.joins.ensures

pub branch-gives_up-requires : goal.branch-gives_up-requires
branch-gives_up-requires t c =
    let one : c.args.room ≡ c.in-Some.below + 1 = search rules in
    let deep : length c.args.walk.now.entered + (c.in-Some.below + 1) ≤ 256 = omega (arith, one, c.requires.1) in
    let rest_is = c.in_ok-rest.ensures ∙ ap (λ (S : Symbolic). behind_head S c.args.name) c.state.ensures in
    let made = subst (λ (o : Option Why). MadeOr o (enter c.args.walk.now (step_of c.branch_of-step.result)) c.args.walk.now c.enters.new.walk) c.in_default-2.is c.in_ok-why.ensures in
    let gives = subst (λ A. Gives (enter c.args.walk.now A) c.enters.new.walk) c.branch_of-step.ensures made in
    let first = inside_first c.args.limits.now.budget c.args.limits.now.pass c.in-Some.below c.args.asked.now c.args.name (failures_of c.args.failures.now.items) c.args.walk.now c.requires.0 c.requires.2 deep c.enters.new.walk c.in_ok-rest.rest rest_is gives in
    let p = parted c.args.limits.now.budget c.args.limits.now.pass c.in-Some.below c.args.asked.now c.args.name (failures_of c.args.failures.now.items) c.args.walk.now c.requires.0 c.requires.2 deep c.enters.new.walk c.in_ok-rest.rest rest_is gives in let o = opening c.args.limits.now.budget c.args.limits.now.pass c.in-Some.below c.args.asked.now c.args.name (failures_of c.args.failures.now.items) c.args.walk.now c.requires.0 c.requires.2 deep c.enters.new.walk c.in_ok-rest.rest rest_is gives in
    let met = sides_come c.args.limits.now.budget _ c.args.name p o c.args.walk.now.entered c.in_ok-sides.field-0 _ c.enters.new.walk c.sides.new.walk c.in-Stuck.is (c.in_ok-sides.ensures p o c.args.walk.now.entered first) in
    stuck_inside c.args.limits.now.budget c.args.limits.now.pass c.in-Some.below c.args.asked.now c.args.name (failures_of c.args.failures.now.items) c.args.walk.now c.requires.0 c.requires.2 deep c.enters.new.walk c.in_ok-rest.rest rest_is gives c.sides.new.walk c.in-Stuck.first c.in-Stuck.second c.in-Stuck.end met

pub branch-returns : goal.branch-returns
branch-returns t c =
    let one : c.args.room ≡ c.in-Some.below + 1 = search rules in
    let deep : length c.args.walk.now.entered + (c.in-Some.below + 1) ≤ 256 = omega (arith, one, c.requires.1) in
    let rest_is = c.in_ok-rest.ensures ∙ ap (λ (S : Symbolic). behind_head S c.args.name) c.state.ensures in
    let made = subst (λ (o : Option Why). MadeOr o (enter c.args.walk.now (step_of c.branch_of-step.result)) c.args.walk.now c.enters.new.walk) c.in_default-2.is c.in_ok-why.ensures in
    let gives = subst (λ A. Gives (enter c.args.walk.now A) c.enters.new.walk) c.branch_of-step.ensures made in
    let first = inside_first c.args.limits.now.budget c.args.limits.now.pass c.in-Some.below c.args.asked.now c.args.name (failures_of c.args.failures.now.items) c.args.walk.now c.requires.0 c.requires.2 deep c.enters.new.walk c.in_ok-rest.rest rest_is gives in
    let p = parted c.args.limits.now.budget c.args.limits.now.pass c.in-Some.below c.args.asked.now c.args.name (failures_of c.args.failures.now.items) c.args.walk.now c.requires.0 c.requires.2 deep c.enters.new.walk c.in_ok-rest.rest rest_is gives in let o = opening c.args.limits.now.budget c.args.limits.now.pass c.in-Some.below c.args.asked.now c.args.name (failures_of c.args.failures.now.items) c.args.walk.now c.requires.0 c.requires.2 deep c.enters.new.walk c.in_ok-rest.rest rest_is gives in
    let met = sides_come c.args.limits.now.budget _ c.args.name p o c.args.walk.now.entered c.in_ok-sides.field-0 _ c.enters.new.walk c.sides.new.walk c.in-Stuck.is (c.in_ok-sides.ensures p o c.args.walk.now.entered first) in
    let room_is : suc c.in-Some.below ≡ c.args.room = omega (arith, one) in
    subst (λ gs. MeetsTurn c.args.limits.now.budget (branch_at (around_at c.args.limits.now.pass c.args.room c.args.asked.now c.args.walk.now) c.args.walk.now.state c.args.name (failures_of c.args.failures.now.items) (left_of c.args.limits.now.budget c.args.walk.now.applied)) Stays gs c.args.walk.now c.gives_up.new.walk) (sym c.in_ok-gives_up-in-Stuck.ensures.told)
    (subst (λ r. MeetsTurn c.args.limits.now.budget (branch_at (around_at c.args.limits.now.pass r c.args.asked.now c.args.walk.now) c.args.walk.now.state c.args.name (failures_of c.args.failures.now.items) (left_of c.args.limits.now.budget c.args.walk.now.applied)) Stays ((c.args.name, tried (Branch c.args.name c.in-Stuck.first c.in-Stuck.second) (end_of c.in-Stuck.end)) ∷ failures_of c.args.failures.now.items) c.args.walk.now c.gives_up.new.walk) room_is (branch_stuck c.args.limits.now.budget c.args.limits.now.pass c.in-Some.below c.args.asked.now c.args.name (failures_of c.args.failures.now.items) c.args.walk.now c.requires.0 c.requires.2 deep c.enters.new.walk c.in_ok-rest.rest rest_is gives c.sides.new.walk c.in-Stuck.first c.in-Stuck.second c.in-Stuck.end c.gives_up.new.walk met c.in_ok-gives_up-in-Stuck.ensures.walk))

-- ---- a drive

pub drive-loop-round-init : goal.drive-loop-round-init
drive-loop-round-init t c = led_none c.args.limits.now.budget c.args.limits.now.pass c.args.room c.args.asked.now c.args.walk.now c.new-made.result.items c.new-made.ensures.items c.requires.2

pub drive-returns-then-branch : goal.drive-returns-then-branch
drive-returns-then-branch t c =
    let less = less_than c.loop-round._round c.rounds-count.result _ c.loop-round-test.true c.rounds-count.ensures in
    led_reached c.args.limits.now.budget c.args.limits.now.pass c.args.room c.args.asked.now c.args.walk.now c.loop-round.walk c.loop-round._round c.loop-round.made.items c.loop-round.invariant less c.in_ok-is_at_goal.field-0 c.if-branch.true c.in_ok-is_at_goal.ensures (steps_of c.loop-round.made.items) refl

pub drive-returns-in-Stays : goal.drive-returns-in-Stays
drive-returns-in-Stays t c =
    let less = less_than c.loop-round._round c.rounds-count.result _ c.loop-round-test.true c.rounds-count.ensures in
    led_stuck c.args.limits.now.budget c.args.limits.now.pass c.args.room c.args.asked.now c.args.walk.now c.loop-round.walk c.loop-round._round c.loop-round.made.items c.loop-round.invariant less c.in_ok-is_at_goal.field-0 c.if-branch.false c.in_ok-is_at_goal.ensures c.round.new.walk (failures_of c.new-failures.result.items) (failures_of c.round.new.failures.items) (ap failures_of c.new-failures.ensures.items)
    (subst (λ (o : Turn). MeetsTurn c.args.limits.now.budget (round (around_at c.args.limits.now.pass c.args.room c.args.asked.now c.loop-round.walk) (drive_seen c.loop-round.walk.entered c.args.asked.now) c.loop-round.walk.state (failures_of c.new-failures.result.items) (left_of c.args.limits.now.budget c.loop-round.walk.applied)) o (failures_of c.round.new.failures.items) c.loop-round.walk c.round.new.walk) c.in-Stays.is c.in_ok-step.ensures) (steps_of c.loop-round.made.items) c.in_ok-tries-in-Stays.tries refl (c.in_ok-tries-in-Stays.ensures ∙ ap (λ (S : Symbolic). last_tries (failures_of c.round.new.failures.items) S.threads) c.state.ensures)

pub drive-returns-in-Spent : goal.drive-returns-in-Spent
drive-returns-in-Spent t c =
    let less = less_than c.loop-round._round c.rounds-count.result _ c.loop-round-test.true c.rounds-count.ensures in
    led_spent c.args.limits.now.budget c.args.limits.now.pass c.args.room c.args.asked.now c.args.walk.now c.loop-round.walk c.loop-round._round c.loop-round.made.items c.loop-round.invariant less c.in_ok-is_at_goal.field-0 c.if-branch.false c.in_ok-is_at_goal.ensures c.round.new.walk (failures_of c.new-failures.result.items) (failures_of c.round.new.failures.items) (ap failures_of c.new-failures.ensures.items) (subst (λ (o : Turn). MeetsTurn c.args.limits.now.budget (round (around_at c.args.limits.now.pass c.args.room c.args.asked.now c.loop-round.walk) (drive_seen c.loop-round.walk.entered c.args.asked.now) c.loop-round.walk.state (failures_of c.new-failures.result.items) (left_of c.args.limits.now.budget c.loop-round.walk.applied)) o (failures_of c.round.new.failures.items) c.loop-round.walk c.round.new.walk) c.in-Spent.is c.in_ok-step.ensures)

pub drive-loop-round-preserved : goal.drive-loop-round-preserved
drive-loop-round-preserved t c =
    let less = less_than c.loop-round._round c.rounds-count.result _ c.loop-round-test.true c.rounds-count.ensures in
    led_more c.args.limits.now.budget c.args.limits.now.pass c.args.room c.args.asked.now c.args.walk.now c.loop-round.walk c.loop-round._round c.loop-round.made.items c.loop-round.invariant less c.in_ok-is_at_goal.field-0 c.if-branch.false c.in_ok-is_at_goal.ensures c.round.new.walk (failures_of c.new-failures.result.items) (failures_of c.round.new.failures.items) c.in-Goes.step c.push.new.self.items (ap failures_of c.new-failures.ensures.items) (subst (λ (o : Turn). MeetsTurn c.args.limits.now.budget (round (around_at c.args.limits.now.pass c.args.room c.args.asked.now c.loop-round.walk) (drive_seen c.loop-round.walk.entered c.args.asked.now) c.loop-round.walk.state (failures_of c.new-failures.result.items) (left_of c.args.limits.now.budget c.loop-round.walk.applied)) o (failures_of c.round.new.failures.items) c.loop-round.walk c.round.new.walk) c.in-Goes.is c.in_ok-step.ensures) c.in_ok-push-in-Goes.ensures.items

-- ---- the tries of a rule

pub nine_tries-loop-try-init : goal.nine_tries-loop-try-init
nine_tries-loop-try-init t c = (
  alike_self c.args.limits.now.budget c.args.walk.now c.requires.2,
  ap (λ ds. tries c.args.walk.now.program (Some (driver c.args.walk.now.program (sides_in c.args.limits.now.pass) c.in-Some.below)) c.args.walk.now.state (rule_seen c.args.walk.now.program (follows c.args.walk.now.entered) c.args.walk.now.state c.args.rule.now) 8 ds (failures_of c.args.failures.now.items) (left_of c.args.limits.now.budget c.args.walk.now.applied)) (sym c.new.ensures.items),
)

pub nine_tries-returns-in-To : goal.nine_tries-returns-in-To
nine_tries-returns-in-To t c =
    let one : c.args.room ≡ c.in-Some.below + 1 = search rules in
    let room_is : suc c.in-Some.below ≡ c.args.room = omega (arith, one) in
    let next : 8 - c.loop-try._try ≡ suc (8 - (c.loop-try._try + 1)) = omega (arith, c.loop-try-test.true) in
    let tried = subst (λ n. IsTry c.args.limits.now.budget c.args.limits.now.pass c.in-Some.below c.args.rule.now (failures_of c.args.failures.now.items) c.args.walk.now n c.loop-try.drops (failures_of c.loop-try.failures.items) c.loop-try.walk) next c.loop-try.invariant in
    subst (λ r. MeetsTurn c.args.limits.now.budget (tries_at c.args.limits.now.pass r c.args.rule.now c.args.walk.now (failures_of c.args.failures.now.items) (left_of c.args.limits.now.budget c.args.walk.now.applied)) c.in-To.turn (failures_of c.one_try.new.failures.items) c.args.walk.now c.one_try.new.walk) room_is (try_ends c.args.limits.now.budget c.args.limits.now.pass c.in-Some.below c.args.rule.now (failures_of c.args.failures.now.items) c.args.walk.now c.loop-try.drops (failures_of c.loop-try.failures.items) c.loop-try.walk (8 - (c.loop-try._try + 1)) tried c.in-To.turn (failures_of c.one_try.new.failures.items) c.one_try.new.walk (subst (λ (o : Came). MeetsTry c.args.limits.now.budget c.loop-try.walk.program c.loop-try.drops (try_at c.args.limits.now.budget c.args.limits.now.pass c.in-Some.below c.args.rule.now c.loop-try.drops (failures_of c.loop-try.failures.items) c.loop-try.walk) o (failures_of c.one_try.new.failures.items) c.loop-try.walk c.one_try.new.walk) c.in-To.is c.in_ok-turn.ensures))

pub nine_tries-loop-try-preserved : goal.nine_tries-loop-try-preserved
nine_tries-loop-try-preserved t c =
    let next : 8 - c.loop-try._try ≡ suc (8 - (c.loop-try._try + 1)) = omega (arith, c.loop-try-test.true) in
    let tried = subst (λ n. IsTry c.args.limits.now.budget c.args.limits.now.pass c.in-Some.below c.args.rule.now (failures_of c.args.failures.now.items) c.args.walk.now n c.loop-try.drops (failures_of c.loop-try.failures.items) c.loop-try.walk) next c.loop-try.invariant in
    try_loses c.args.limits.now.budget c.args.limits.now.pass c.in-Some.below c.args.rule.now (failures_of c.args.failures.now.items) c.args.walk.now c.loop-try.drops (failures_of c.loop-try.failures.items) c.loop-try.walk (8 - (c.loop-try._try + 1)) tried c.in-Losing.more (failures_of c.one_try.new.failures.items) c.one_try.new.walk (subst (λ (o : Came). MeetsTry c.args.limits.now.budget c.loop-try.walk.program c.loop-try.drops (try_at c.args.limits.now.budget c.args.limits.now.pass c.in-Some.below c.args.rule.now c.loop-try.drops (failures_of c.loop-try.failures.items) c.loop-try.walk) o (failures_of c.one_try.new.failures.items) c.loop-try.walk c.one_try.new.walk) c.in-Losing.is c.in_ok-turn.ensures)

pub nine_tries-returns-in-To-2 : goal.nine_tries-returns-in-To-2
nine_tries-returns-in-To-2 t c =
    let one : c.args.room ≡ c.in-Some.below + 1 = search rules in
    let room_is : suc c.in-Some.below ≡ c.args.room = omega (arith, one) in
    let none : 8 - c.loop-try._try ≡ 0 = omega (arith, c.loop-try-test.false) in
    let tried = subst (λ n. IsTry c.args.limits.now.budget c.args.limits.now.pass c.in-Some.below c.args.rule.now (failures_of c.args.failures.now.items) c.args.walk.now n c.loop-try.drops (failures_of c.loop-try.failures.items) c.loop-try.walk) none c.loop-try.invariant in
    subst (λ r. MeetsTurn c.args.limits.now.budget (tries_at c.args.limits.now.pass r c.args.rule.now c.args.walk.now (failures_of c.args.failures.now.items) (left_of c.args.limits.now.budget c.args.walk.now.applied)) c.in-To-2.turn (failures_of c.one_try-2.new.failures.items) c.args.walk.now c.one_try-2.new.walk) room_is (last_ends c.args.limits.now.budget c.args.limits.now.pass c.in-Some.below c.args.rule.now (failures_of c.args.failures.now.items) c.args.walk.now c.loop-try.drops (failures_of c.loop-try.failures.items) c.loop-try.walk tried c.in_ok-last.last c.in_ok-last.ensures c.in-To-2.turn (failures_of c.one_try-2.new.failures.items) c.one_try-2.new.walk (subst (λ (o : Came). MeetsTry c.args.limits.now.budget c.loop-try.walk.program c.in_ok-last.last (try_at c.args.limits.now.budget c.args.limits.now.pass c.in-Some.below c.args.rule.now c.in_ok-last.last (failures_of c.loop-try.failures.items) c.loop-try.walk) o (failures_of c.one_try-2.new.failures.items) c.loop-try.walk c.one_try-2.new.walk) c.in-To-2.is c.in_ok-turn-2.ensures))

pub nine_tries-returns : goal.nine_tries-returns
nine_tries-returns t c =
    let one : c.args.room ≡ c.in-Some.below + 1 = search rules in
    let room_is : suc c.in-Some.below ≡ c.args.room = omega (arith, one) in
    let none : 8 - c.loop-try._try ≡ 0 = omega (arith, c.loop-try-test.false) in
    let tried = subst (λ n. IsTry c.args.limits.now.budget c.args.limits.now.pass c.in-Some.below c.args.rule.now (failures_of c.args.failures.now.items) c.args.walk.now n c.loop-try.drops (failures_of c.loop-try.failures.items) c.loop-try.walk) none c.loop-try.invariant in
    subst (λ r. MeetsTurn c.args.limits.now.budget (tries_at c.args.limits.now.pass r c.args.rule.now c.args.walk.now (failures_of c.args.failures.now.items) (left_of c.args.limits.now.budget c.args.walk.now.applied)) Stays (failures_of c.one_try-2.new.failures.items) c.args.walk.now c.one_try-2.new.walk) room_is (last_loses c.args.limits.now.budget c.args.limits.now.pass c.in-Some.below c.args.rule.now (failures_of c.args.failures.now.items) c.args.walk.now c.loop-try.drops (failures_of c.loop-try.failures.items) c.loop-try.walk tried c.in_ok-last.last c.in_ok-last.ensures c.in-Losing-2.field-0 (failures_of c.one_try-2.new.failures.items) c.one_try-2.new.walk (subst (λ (o : Came). MeetsTry c.args.limits.now.budget c.loop-try.walk.program c.in_ok-last.last (try_at c.args.limits.now.budget c.args.limits.now.pass c.in-Some.below c.args.rule.now c.in_ok-last.last (failures_of c.loop-try.failures.items) c.loop-try.walk) o (failures_of c.one_try-2.new.failures.items) c.loop-try.walk c.one_try-2.new.walk) c.in-Losing-2.is c.in_ok-turn-2.ensures))

-- ---- one try

pub one_try-returns-in-Some : goal.one_try-returns-in-Some
one_try-returns-in-Some t c = λ again.
    let made = subst (λ (o : Option Why). MadeOr o (enter c.args.walk.now (step_of c.in_ok-step.step)) c.args.walk.now c.enters.new.walk) c.in-Some.is c.in_ok-why.ensures in
    one_refused c.args.limits.now.budget c.args.limits.now.pass c.args.below c.args.rule.now c.args.drops (failures_of c.args.failures.now.items) c.args.walk.now c.requires.2 c.requires.1 (step_of c.in_ok-step.step) (c.in_ok-step.ensures c.args.walk.now.program (follows c.args.walk.now.entered) c.args.walk.now.state) c.enters.new.walk c.in-Some.why (failures_of c.is_refused.new.failures.items) made.0 made.1 c.in_ok-is_refused.ensures again

pub one_try-drive-requires : goal.one_try-drive-requires
one_try-drive-requires t c =
    let made = subst (λ (o : Option Why). MadeOr o (enter c.args.walk.now (step_of c.in_ok-step.step)) c.args.walk.now c.enters.new.walk) c.in_default.is c.in_ok-why.ensures in
    (search rules, try_ready c.args.limits.now.budget c.args.limits.now.pass c.args.below c.args.rule.now c.args.drops (failures_of c.args.failures.now.items) c.args.walk.now c.requires.2 c.requires.1 (step_of c.in_ok-step.step) (c.in_ok-step.ensures c.args.walk.now.program (follows c.args.walk.now.entered) c.args.walk.now.state) c.enters.new.walk made c.depth-around.result c.depth-around.ensures c.in_ok-asked.asked c.in_ok-asked.ensures)

pub one_try-returns-in-Spent : goal.one_try-returns-in-Spent
one_try-returns-in-Spent t c = λ again.
    let made = subst (λ (o : Option Why). MadeOr o (enter c.args.walk.now (step_of c.in_ok-step.step)) c.args.walk.now c.enters.new.walk) c.in_default.is c.in_ok-why.ensures in
    try_spent c.args.limits.now.budget c.args.limits.now.pass c.args.below c.args.rule.now c.args.drops (failures_of c.args.failures.now.items) c.args.walk.now c.requires.2 c.requires.1 (step_of c.in_ok-step.step) (c.in_ok-step.ensures c.args.walk.now.program (follows c.args.walk.now.entered) c.args.walk.now.state) c.enters.new.walk made c.depth-around.result c.depth-around.ensures c.in_ok-asked.asked c.in_ok-asked.ensures c.drive.new.walk (subst (λ (d : Driven). MeetsDrive c.args.limits.now.budget (drive_at c.args.limits.now.budget c.args.limits.now.pass c.args.below c.in_ok-asked.asked c.enters.new.walk) d c.enters.new.walk c.drive.new.walk) c.in-Spent.is c.in_ok-drive.ensures) again

pub one_try-returns-in-Reached : goal.one_try-returns-in-Reached
one_try-returns-in-Reached t c =
    let made = subst (λ (o : Option Why). MadeOr o (enter c.args.walk.now (step_of c.in_ok-step.step)) c.args.walk.now c.enters.new.walk) c.in_default.is c.in_ok-why.ensures in
    each_ok c.closes.result _ (λ o k. try_closes c.args.limits.now.budget c.args.limits.now.pass c.args.below c.args.rule.now c.args.drops (failures_of c.args.failures.now.items) c.args.walk.now c.requires.2 c.requires.1 (step_of c.in_ok-step.step) (c.in_ok-step.ensures c.args.walk.now.program (follows c.args.walk.now.entered) c.args.walk.now.state) c.enters.new.walk made c.depth-around.result c.depth-around.ensures c.in_ok-asked.asked c.in_ok-asked.ensures c.drive.new.walk c.in-Reached.steps o c.closes.new.walk (subst (λ (d : Driven). MeetsDrive c.args.limits.now.budget (drive_at c.args.limits.now.budget c.args.limits.now.pass c.args.below c.in_ok-asked.asked c.enters.new.walk) d c.enters.new.walk c.drive.new.walk) c.in-Reached.is c.in_ok-drive.ensures) k) c.closes.ensures

pub one_try-returns : goal.one_try-returns
one_try-returns t c = λ again.
    let made = subst (λ (o : Option Why). MadeOr o (enter c.args.walk.now (step_of c.in_ok-step.step)) c.args.walk.now c.enters.new.walk) c.in_default.is c.in_ok-why.ensures in
    subst (λ gs. MeetsTurn c.args.limits.now.budget (try_at c.args.limits.now.budget c.args.limits.now.pass c.args.below c.args.rule.now c.args.drops (failures_of c.args.failures.now.items) c.args.walk.now again) Stays gs c.args.walk.now c.gives_up.new.walk) (sym c.in_ok-gives_up-in-Stuck.ensures.told)
    (try_stuck c.args.limits.now.budget c.args.limits.now.pass c.args.below c.args.rule.now c.args.drops (failures_of c.args.failures.now.items) c.args.walk.now c.requires.2 c.requires.1 (step_of c.in_ok-step.step) (c.in_ok-step.ensures c.args.walk.now.program (follows c.args.walk.now.entered) c.args.walk.now.state) c.enters.new.walk made c.depth-around.result c.depth-around.ensures c.in_ok-asked.asked c.in_ok-asked.ensures c.drive.new.walk c.in-Stuck.steps c.in-Stuck.tries c.gives_up.new.walk (end_of c.in_ok-end-in-Stuck.end) (step_of c.with_steps.result) (subst (λ (d : Driven). MeetsDrive c.args.limits.now.budget (drive_at c.args.limits.now.budget c.args.limits.now.pass c.args.below c.in_ok-asked.asked c.enters.new.walk) d c.enters.new.walk c.drive.new.walk) c.in-Stuck.is c.in_ok-drive.ensures) c.in_ok-end-in-Stuck.ensures c.with_steps.ensures c.in_ok-gives_up-in-Stuck.ensures.walk again)

-- ---- loops of attempts

pub round-returns-in_default : goal.round-returns-in_default
round-returns-in_default t c =
    let w = c.args.walk.now in let u = c.loop-comer.walk in let cs = c.deref-comer-items.result.now in let k = c.loop-comer.comer-index in let comer = c.comer-item.result in let budget = c.args.limits.now.budget in
    let attempt = attempt_of (around_at c.args.limits.now.pass c.args.room c.args.asked.now w) w.state in
    let listed = subst (λ rest. IsListed budget attempt cs (failures_of c.args.failures.now.items) w rest (failures_of c.loop-comer.failures.items) u) (next_of (λ xs. xs) cs k comer c.loop-comer-test.true c.comer-item.is) c.loop-comer.invariant in
    let m = subst (λ (f : Attempt). MeetsTurn budget (f (failures_of c.loop-comer.failures.items) (left_of budget u.applied)) c.in_ok-turn.turn (failures_of c.acts.new.failures.items) u c.acts.new.walk) (sym (attempts_alike budget c.args.limits.now.pass c.args.room c.args.asked.now comer w u c.loop-comer.invariant.0)) c.in_ok-turn.ensures in
    same_turn budget _ _ c.in_ok-turn.turn (failures_of c.acts.new.failures.items) w c.acts.new.walk (round_first (around_at c.args.limits.now.pass c.args.room c.args.asked.now w) (drive_seen w.entered c.args.asked.now) w.state (failures_of c.args.failures.now.items) (left_of budget w.applied) ∙ ap (λ xs. first_of attempt xs (failures_of c.args.failures.now.items) (left_of budget w.applied)) (sym (c.deref-comer-items.ensures.value ∙ c.in_ok-comers.ensures)))
    (listed_moves budget attempt cs (failures_of c.args.failures.now.items) w comer (drop (k + 1) cs) (failures_of c.loop-comer.failures.items) u listed c.in_ok-turn.turn (failures_of c.acts.new.failures.items) (failures_of c.acts.new.failures.items) c.acts.new.walk c.in_default.not-Stays m)

pub round-returns : goal.round-returns
round-returns t c =
    let w = c.args.walk.now in let u = c.loop-comer.walk in let cs = c.deref-comer-items.result.now in let k = c.loop-comer.comer-index in let budget = c.args.limits.now.budget in
    let attempt = attempt_of (around_at c.args.limits.now.pass c.args.room c.args.asked.now w) w.state in
    (c.loop-comer.invariant.0, (round_first (around_at c.args.limits.now.pass c.args.room c.args.asked.now w) (drive_seen w.entered c.args.asked.now) w.state (failures_of c.args.failures.now.items) (left_of budget w.applied) ∙ ap (λ xs. first_of attempt xs (failures_of c.args.failures.now.items) (left_of budget w.applied)) (sym (c.deref-comer-items.ensures.value ∙ c.in_ok-comers.ensures))) ∙ c.loop-comer.invariant.1 ∙ at_drop_all (λ xs. first_of attempt xs (failures_of c.loop-comer.failures.items) (left_of budget u.applied)) cs k (omega arith))

pub rules-returns-in_default : goal.rules-returns-in_default
rules-returns-in_default t c =
    let w = c.args.walk.now in let u = c.loop-rule.walk in let rs = c.deref-rule-items.result.now in let k = c.loop-rule.rule-index in let budget = c.args.limits.now.budget in let pass = c.args.limits.now.pass in
    let attempt : Compound → Attempt = λ r. tries_at pass c.args.room r w in
    let rule = c.rule-item.result in
    let listed = subst (λ rest. IsListed budget attempt rs (failures_of c.args.failures.now.items) w rest (failures_of c.loop-rule.failures.items) u) (next_of (λ xs. xs) rs k rule c.loop-rule-test.true c.rule-item.is) c.loop-rule.invariant in
    let m = subst (λ (f : Attempt). MeetsTurn budget (f (failures_of c.loop-rule.failures.items) (left_of budget u.applied)) c.in_ok-turn.turn (failures_of c.nine_tries.new.failures.items) u c.nine_tries.new.walk) (sym (tries_alike budget pass c.args.room rule w u c.loop-rule.invariant.0)) c.in_ok-turn.ensures in
    let are = ap (map (rule_seen w.program (follows w.entered) w.state)) c.deref-rule-items.ensures.value ∙ subst (λ (S : Symbolic). map (rule_seen w.program (follows w.entered) S) c.in_ok-rules.rules.items ≡ next_rules w.program (follows w.entered) S c.args.name c.args.head.now) c.state.ensures (c.in_ok-rules.ensures w.program (follows w.entered)) in
    let later = later_is pass c.args.room w c.args.name c.args.head.now rs are (failures_of c.args.failures.now.items) (left_of budget w.applied) in
    same_turn budget _ _ c.in_ok-turn.turn (failures_of c.nine_tries.new.failures.items) w c.nine_tries.new.walk later
    (moves_meets budget (first_of attempt rs (failures_of c.args.failures.now.items) (left_of budget w.applied)) (last_rule (around_at pass c.args.room Top w) w.state c.args.name c.args.head.now) c.in_ok-turn.turn (failures_of c.nine_tries.new.failures.items) (failures_of c.nine_tries.new.failures.items) w c.nine_tries.new.walk c.in_default.not-Stays
    (listed_moves budget attempt rs (failures_of c.args.failures.now.items) w rule (drop (k + 1) rs) (failures_of c.loop-rule.failures.items) u listed c.in_ok-turn.turn (failures_of c.nine_tries.new.failures.items) (failures_of c.nine_tries.new.failures.items) c.nine_tries.new.walk c.in_default.not-Stays m))

pub rules-loop-rule-preserved : goal.rules-loop-rule-preserved
rules-loop-rule-preserved t c =
    let w = c.args.walk.now in let u = c.loop-rule.walk in let rs = c.deref-rule-items.result.now in let k = c.loop-rule.rule-index in let budget = c.args.limits.now.budget in let pass = c.args.limits.now.pass in
    let attempt : Compound → Attempt = λ r. tries_at pass c.args.room r w in
    let rule = c.rule-item.result in
    let listed = subst (λ rest. IsListed budget attempt rs (failures_of c.args.failures.now.items) w rest (failures_of c.loop-rule.failures.items) u) (next_of (λ xs. xs) rs k rule c.loop-rule-test.true c.rule-item.is) c.loop-rule.invariant in
    let m = subst (λ (f : Attempt). MeetsTurn budget (f (failures_of c.loop-rule.failures.items) (left_of budget u.applied)) c.in_ok-turn.turn (failures_of c.nine_tries.new.failures.items) u c.nine_tries.new.walk) (sym (tries_alike budget pass c.args.room rule w u c.loop-rule.invariant.0)) c.in_ok-turn.ensures in
    listed_stays budget attempt rs (failures_of c.args.failures.now.items) w rule (drop (k + 1) rs) (failures_of c.loop-rule.failures.items) u listed (failures_of c.nine_tries.new.failures.items) c.nine_tries.new.walk (subst (λ (o : Turn). MeetsTurn budget (attempt rule (failures_of c.loop-rule.failures.items) (left_of budget u.applied)) o (failures_of c.nine_tries.new.failures.items) u c.nine_tries.new.walk) c.in-Stays.is m)

pub rules-returns : goal.rules-returns
rules-returns t c =
    let w = c.args.walk.now in let u = c.loop-rule.walk in let rs = c.deref-rule-items.result.now in let k = c.loop-rule.rule-index in let budget = c.args.limits.now.budget in let pass = c.args.limits.now.pass in
    let attempt : Compound → Attempt = λ r. tries_at pass c.args.room r w in
    let are = ap (map (rule_seen w.program (follows w.entered) w.state)) c.deref-rule-items.ensures.value ∙ subst (λ (S : Symbolic). map (rule_seen w.program (follows w.entered) S) c.in_ok-rules.rules.items ≡ next_rules w.program (follows w.entered) S c.args.name c.args.head.now) c.state.ensures (c.in_ok-rules.ensures w.program (follows w.entered)) in
    let later = later_is pass c.args.room w c.args.name c.args.head.now rs are (failures_of c.args.failures.now.items) (left_of budget w.applied) in
    let gs = failures_of c.loop-rule.failures.items in
    let none = c.loop-rule.invariant.1 ∙ at_drop_all (λ xs. first_of attempt xs gs (left_of budget u.applied)) rs k (omega arith) in
    IfOk-weaker c.at_last.result _ _
    (λ o m. same_turn budget _ _ o gs w c.at_last.new.walk later
    (next_meets budget (first_of attempt rs (failures_of c.args.failures.now.items) (left_of budget w.applied)) (last_rule (around_at pass c.args.room Top w) w.state c.args.name c.args.head.now) o gs gs w u c.at_last.new.walk (c.loop-rule.invariant.0, none)
    (subst (λ (f : Attempt). MeetsTurn budget (f gs (left_of budget u.applied)) o gs u c.at_last.new.walk) (sym (last_there budget pass c.args.room w u c.args.name c.args.head.now c.loop-rule.invariant.0)) (m gs)))) c.at_last.ensures
