-- How tries are seen.
use Rattle.std.specs.Prelude.{List, [], ◌∷◌}
use Rattle.brisk_derivation.specs.Reports as tree
use Rattle.brisk_derivation.specs.Reports.{Tries, no_tries, ◌▹◌}
use Rattle.brisk_derivation.specs.Seen.{step_of}
use Rattle.brisk_derivation.specs.declared.report.Try.{Try}
use Rattle.brisk_derivation.specs.declared.report.TryEnd.{TryEnd}
use Rattle.brisk_derivation.specs.declared.report.TryEnd.TheVariants.{Fails, StuckFirst, StuckSecond}

-- the end without the places of its parts in memory
abbrev pub end_of : TryEnd → tree.TryEnd
end_of (Fails why) = tree.Fails why
end_of (StuckFirst tries) = tree.StuckFirst tries
end_of (StuckSecond tries) = tree.StuckSecond tries

-- the same for a try
abbrev pub try_of : Try → tree.Try
try_of t = tree.Tried (step_of t.rule) (end_of t.end)

-- the tries one after another
abbrev pub tries_of : List Try → Tries
tries_of [] = no_tries
tries_of (t ∷ ts) = try_of t ▹ tries_of ts
