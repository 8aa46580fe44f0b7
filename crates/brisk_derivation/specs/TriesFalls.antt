-- The tries in a try are smaller than the tries that hold it.
use Rattle.std.specs.Prelude.{◌≤◌, max, List, [], ◌∷◌}
use Rattle.std.proofs.Common.{arith}
use denote.Param.Weighed.{most}
use Rattle.brisk_derivation.specs.TriesDepths.{tries_depth, try_depth, end_depth}
use Rattle.brisk_derivation.specs.TriesSeen.{tries_of, try_of, end_of}
use Rattle.brisk_derivation.specs.declared.report.Try.{Try}
use Rattle.brisk_derivation.specs.declared.report.TryEnd.{TryEnd}
use Rattle.brisk_derivation.specs.declared.report.TryEnd.TheVariants.{Fails, StuckFirst, StuckSecond}
use Rattle.brisk_derivation.specs.declared.report.Tries.TheDeep.{deep-Try, deep-TryEnd}

pub deep_le-end_depth : (e : TryEnd) → deep-TryEnd e ≤ end_depth (end_of e)
deep_le-end_depth (Fails why) = omega arith
deep_le-end_depth (StuckFirst tries) = omega arith
deep_le-end_depth (StuckSecond tries) = omega arith

pub deep_le-try_depth : (t : Try) → deep-Try t ≤ try_depth (try_of t)
deep_le-try_depth t = omega (arith, deep_le-end_depth t.end)

pub deep_le-tries_depth : (ts : List Try) → max (most deep-Try ts) 0 ≤ tries_depth (tries_of ts)
deep_le-tries_depth [] = omega arith
deep_le-tries_depth (t ∷ ts) = omega (arith, deep_le-try_depth t, deep_le-tries_depth ts)
