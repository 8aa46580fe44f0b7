-- Functions changed at a key.
use Rattle.std.specs.Prelude.{Bool, if◌then◌else◌}

-- f, but x at k
abbrev pub changed : {K X : Type 0} → (K → K → Bool) → (K → X) → K → X → K → X
changed same f k x q = if same k q then x else f q
