use Rattle.std.proofs.Common.{◌-◌, ◌+◌, ◌*◌, drop}
use Rattle.brisk_search.specs.Views.{failures_of}
use Rattle.brisk_search.proofs.Rounds.{IsLed, IsRound, IsRules, IsTry}
use Rattle.brisk_search.proofs.ring.+drive.Given as goal

-- twelve for each rule that may be entered, and the place in the ring
abbrev pub decreases-drive : goal.decreases-drive
decreases-drive l = l.room * 12 + 5

abbrev pub decreases-round : goal.decreases-round
decreases-round l = l.room * 12 + 4

abbrev pub decreases-acts : goal.decreases-acts
decreases-acts l = l.room * 12 + 3

abbrev pub decreases-rules : goal.decreases-rules
decreases-rules l = l.room * 12 + 2

abbrev pub decreases-branch : goal.decreases-branch
decreases-branch l = l.room * 12 + 2

abbrev pub decreases-nine_tries : goal.decreases-nine_tries
decreases-nine_tries l = l.room * 12 + 1

abbrev pub decreases-sides : goal.decreases-sides
decreases-sides l = l.below * 12 + 8

abbrev pub decreases-both_sides : goal.decreases-both_sides
decreases-both_sides l = l.below * 12 + 7

abbrev pub decreases-one_try : goal.decreases-one_try
decreases-one_try l = l.below * 12 + 6

-- the drive gives what the steps so far and the rounds that are left give
abbrev pub invariant-drive-loop-round : goal.invariant-drive-loop-round
invariant-drive-loop-round l = IsLed l.limits.budget l.limits.pass l.room l.asked l.initial.walk l._round l.made.items l.walk

-- what all that come give is what those that are left give
abbrev pub invariant-round-loop-comer : goal.invariant-round-loop-comer
invariant-round-loop-comer l = IsRound l.limits.budget l.limits.pass l.room l.asked l.comer-items (failures_of l.initial.failures.items) l.initial.walk (drop l.comer-index l.comer-items) (failures_of l.failures.items) l.walk

abbrev pub invariant-rules-loop-rule : goal.invariant-rules-loop-rule
invariant-rules-loop-rule l = IsRules l.limits.budget l.limits.pass l.room l.rule-items (failures_of l.initial.failures.items) l.initial.walk (drop l.rule-index l.rule-items) (failures_of l.failures.items) l.walk

abbrev pub invariant-nine_tries-loop-try : goal.invariant-nine_tries-loop-try
invariant-nine_tries-loop-try l = IsTry l.limits.budget l.limits.pass l.below l.rule (failures_of l.initial.failures.items) l.initial.walk (8 - l._try) l.drops (failures_of l.failures.items) l.walk
