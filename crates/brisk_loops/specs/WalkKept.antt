-- Walks whose numbers stay at the greatest `u64` where they would pass it.
use Rattle.std.specs.Prelude.{◌≡◌, ℕ, ◌-◌, ◌^◌, min, List, [], ◌∷◌, Ok}
use Rattle.brisk_syntax.specs.declared.program.Program.{Program}
use Rattle.brisk_basic.specs.Outcomes.{and_then, told_as}
use Rattle.brisk_derivation.specs.Steps.{Steps}
use Rattle.brisk_rules.specs.Derives.{Failure, outcome}
use Rattle.brisk_loops.specs.Walk.{Walked, Called, start, finish, Call, made, calls_of}

-- the number, or the greatest that is kept
abbrev pub kept : ℕ → ℕ
kept n = min n (2 ^ 64 - 1)

-- the walk with the numbers that are kept
abbrev pub capped : Walked → Walked
capped w = record w { applied = kept w.applied; counted = kept w.counted }

-- the failure, at the line that is told
abbrev pub kept_failure : Failure → Failure
kept_failure f = record f { line = kept f.line }

-- what a call gives, with the numbers that are kept
abbrev pub kept_call : Called → Called
kept_call call = and_then (told_as kept_failure call) (λ v. Ok (capped v))

-- what calls give, one after another
abbrev pub kept_all : List Call → Walked → Called
kept_all [] w = Ok w
kept_all (c ∷ cs) w = and_then (kept_call (made c w)) (kept_all cs)

-- the calls of a derivation, with the numbers that are kept, give what the derivation gives, at the line that is told
abbrev pub KeptDerives : Type 0
KeptDerives = (P : Program) (D : Steps) → and_then (kept_all (calls_of D) (start P)) (λ w. told_as kept_failure (finish w)) ≡ told_as kept_failure (outcome P D)
