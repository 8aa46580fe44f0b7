use Rattle.std.proofs.Common.{◌≡◌, length}
use Rattle.std.specs.Prelude.{Ok}
use Rattle.brisk_derivtext.specs.Parsing.{line_in}
use Rattle.brisk_check.specs.Checking.{feed, Checking}
use Rattle.brisk_check.specs.Seen.{seen}
use Rattle.brisk_check.specs.Working.{work_of}
use Rattle.brisk_check.proofs.feeding.feed_all.Given as goal

-- to feed what is left is to feed the piece
abbrev pub invariant-loop-left : goal.invariant-loop-left
invariant-loop-left l = (c : Checking) → seen c ≡ Ok (work_of l.initial.work) → (d : Checking) × (seen d ≡ Ok (work_of l.work)) × (feed line_in c l.piece ≡ feed line_in d l.left)

abbrev pub decreases-loop-left : goal.decreases-loop-left
decreases-loop-left l = length l.left
