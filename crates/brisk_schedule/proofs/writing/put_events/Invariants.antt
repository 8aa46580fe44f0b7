use Rattle.std.proofs.Common.{◌≡◌, ◌++◌, map, drop}
use Rattle.brisk_schedule.specs.Texts.{event_line, text_of_lines}
use Rattle.brisk_schedule.proofs.writing.put_events.Given as goal

-- what is written, and what is left to go
abbrev pub invariant-loop-event : goal.invariant-loop-event
invariant-loop-event l = l.out.items ++ text_of_lines (map (event_line l.sizes) (drop l.event-index l.event-items)) ≡ l.initial.out.items ++ text_of_lines (map (event_line l.sizes) l.events)
