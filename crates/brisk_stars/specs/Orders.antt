-- In what order the plain run takes a star's events: members come first, so that they are settled at the centre's events.
use Rattle.std.specs.Prelude.{◌≡◌, ◌⊎◌, false, List, ◌++◌, Some}
use Rattle.std.specs.List.{AllByRecursion}
use Rattle.brisk_values.specs.declared.value.Pid.{Pid}
use Rattle.brisk_values.specs.Names.{Name, same_name}
use Rattle.brisk_async.specs.declared.event.Event.{Event}
use Rattle.brisk_async.specs.Machine.{State}
use Rattle.brisk_async.specs.PlainRuns.{plain_next}
use Rattle.brisk_stars.specs.Runs.{IsStarState, members_in}
use Rattle.brisk_stars.specs.Serving.{settled}

-- The plain run takes an event of a member; or the members are settled, and it takes what it takes of the processes behind them.
abbrev pub MembersComeFirst : Type 0
MembersComeFirst =
    (M : Name) (s : State) (ms ps : List Pid) → IsStarState M s → AllByRecursion (λ (p : Pid). same_name M p.role ≡ false) ms →
    ((e : Event) × (t : State) × (plain_next (ms ++ ps) s ≡ Some (e, t)) × (same_name M e.process.role ≡ false))
    ⊎ ((plain_next (ms ++ ps) s ≡ plain_next ps s) × AllByRecursion (λ (p : Pid). settled (members_in M s p) ≡ members_in M s p) ms)
