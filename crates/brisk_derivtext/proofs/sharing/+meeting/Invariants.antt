use Rattle.std.proofs.Common.{◌≡◌, map, drop}
use Rattle.brisk_derivation.specs.Seen.{steps_of}
use Rattle.brisk_derivtext.specs.Shared.{meet_all}
use Rattle.brisk_derivtext.specs.SharedKept.{met_of}
use Rattle.brisk_derivtext.proofs.sharing.+meeting.Given as goal

-- those that are left are still to be met
abbrev pub invariant-meet_all-loop-step : goal.invariant-meet_all-loop-step
invariant-meet_all-loop-step l = meet_all (map met_of l.met.items) (steps_of (drop l.step-index l.step-items)) ≡ meet_all (map met_of l.fn.met.items) l.steps
