-- What comes of a rule: what it gives, or the first of its tests that fails.
use Rattle.std.specs.Prelude.{Bool, true, false, Result, Ok, Err}

-- goes on where the test holds, and otherwise fails so
abbrev pub when : {A E : Type 0} → Bool → E → Result A E → Result A E
when true why more = more
when false why more = Err why

-- goes on with what was given, where nothing failed
abbrev pub and_then : {A B E : Type 0} → Result A E → (A → Result B E) → Result B E
and_then (Ok a) go = go a
and_then (Err why) go = Err why

-- the same with another name for the failure
abbrev pub told_as : {A D E : Type 0} → (D → E) → Result A D → Result A E
told_as name (Ok a) = Ok a
told_as name (Err why) = Err (name why)
