use Rattle.std.proofs.Common.{◌≡◌, take, Some, None}
use Rattle.std.specs.Prelude.{MatchOption}
use Rattle.brisk_derivtext.specs.Kept.{parts_of}
use Rattle.brisk_derivtext.specs.Reading.{part_named}
use Rattle.brisk_derivtext.proofs.reading.named.Given as goal

-- what was found among the parts so far
abbrev pub invariant-loop-part : goal.invariant-loop-part
invariant-loop-part l = MatchOption l.found (part_named l.name (parts_of (take l.part-index l.parts)) ≡ None) (λ p. part_named l.name (parts_of (take l.part-index l.parts)) ≡ Some p.now.steps)
