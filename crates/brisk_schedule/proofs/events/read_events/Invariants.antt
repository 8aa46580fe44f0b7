use Rattle.std.proofs.Common.{◌≡◌, length}
use Rattle.brisk_schedule.specs.Texts.{IsTold, event_line}
use Rattle.brisk_schedule.proofs.Takes.{SoFar}
use Rattle.brisk_schedule.proofs.events.read_events.Given as goal

-- the events so far
abbrev pub invariant-loop-items : goal.invariant-loop-items
invariant-loop-items l = record { so_far : SoFar (event_line l.sizes) (IsTold l.sizes) l.fn.lines l.lines l.items.items; format : l.lines.format ≡ l.fn.lines.format }

-- each line shortens what is left
abbrev pub decreases-loop-items : goal.decreases-loop-items
decreases-loop-items l = length l.lines.rest
