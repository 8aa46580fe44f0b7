use Rattle.std.proofs.Common.{◌≡◌, length}
use Rattle.brisk_lines.specs.declared.line.Line.TheVariants.{Choose}
use Rattle.brisk_schedule.proofs.Takes.{SoFar}
use Rattle.brisk_schedule.proofs.events.read_picks.Given as goal

-- the choices so far
abbrev pub invariant-loop-items : goal.invariant-loop-items
invariant-loop-items l = record { so_far : SoFar Choose (λ k. Unit {0}) l.fn.lines l.lines l.items.items; format : l.lines.format ≡ l.fn.lines.format }

-- each line shortens what is left
abbrev pub decreases-loop-items : goal.decreases-loop-items
decreases-loop-items l = length l.lines.rest
