use Rattle.std.proofs.Common.{◌≡◌, ◌-◌, map}
use Rattle.std.specs.List.{range_with_len}
use Rattle.brisk_values.specs.Names.{member}
use Rattle.brisk_async.specs.PlainRuns.{first_enabled}
use Rattle.brisk_async.specs.States.{state_of}
use Rattle.brisk_trace.specs.Plain.{any_event, any_events, event_in}
use Rattle.brisk_trace.proofs.plain.from_lowest.Given as goal

-- the event is from one of the members that are left
abbrev pub invariant-loop-member : goal.invariant-loop-member
invariant-loop-member l = let s = state_of l.machine in
    event_in (first_enabled s (map (any_event s l.process l.any.channel) (map (member l.any.set) (range_with_len l.member (l.member-end - l.member)))))
    ≡ event_in (first_enabled s (any_events s l.process l.any.channel l.any.set))
