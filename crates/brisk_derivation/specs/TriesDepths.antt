-- How deep tries nest.
use Rattle.std.specs.Prelude.{ℕ, ◌+◌, max}
use Rattle.brisk_derivation.specs.Reports.{TryEnd, Fails, StuckFirst, StuckSecond, Try, Tried, Tries, no_tries, ◌▹◌}

-- how many tries stand one in another
abbrev mutual
  pub tries_depth : Tries → ℕ
  tries_depth no_tries = 0
  tries_depth (t ▹ rest) = max (try_depth t) (tries_depth rest)

  pub try_depth : Try → ℕ
  try_depth (Tried rule end) = end_depth end

  pub end_depth : TryEnd → ℕ
  end_depth (Fails why) = 0
  end_depth (StuckFirst tries) = tries_depth tries + 1
  end_depth (StuckSecond tries) = tries_depth tries + 1
