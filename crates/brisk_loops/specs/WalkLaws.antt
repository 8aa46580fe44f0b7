-- Laws of walks.
use Rattle.std.specs.Prelude.{◌≡◌, [], Ok}
use Rattle.brisk_syntax.specs.declared.program.Program.{Program}
use Rattle.brisk_seq.specs.declared.tree.SeqProgram.{SeqProgram}
use Rattle.brisk_basic.specs.Outcomes.{and_then}
use Rattle.brisk_derivation.specs.Counts.{steps_among}
use Rattle.brisk_derivation.specs.Steps.{Step, Steps}
use Rattle.brisk_rules.specs.Derives.{outcome, Derivable}
use Rattle.brisk_loops.specs.Walk.{Walked, start, enter, finish, back, rewind, Call, made, made_all, calls_of}

-- the calls of a derivation, made in order, give its sequential program; or what fails first, at the same line
abbrev pub WalkDerives : Type 0
WalkDerives = (P : Program) (D : Steps) → and_then (made_all (calls_of D) (start P)) finish ≡ outcome P D

-- they apply as many rules as the derivation has steps
abbrev pub WalkApplies : Type 0
WalkApplies = (P : Program) (D : Steps) (w : Walked) → made_all (calls_of D) (start P) ≡ Ok w → w.applied ≡ steps_among D

-- a rule that is entered, and given up after steps in it, leaves all as it was, but for the number of rules applied
abbrev pub BackUndoes : Type 0
BackUndoes = (w v u : Walked) (A : Step) (D : Steps) → enter w A ≡ Ok v → made_all (calls_of D) v ≡ Ok u → back u ≡ record w { applied = u.applied }

-- a walk that calls lead to from its start, also where it went back
pub data Reached : Walked → Type 0 where
  begun : (P : Program) → Reached (start P)
  called : (c : Call) (w v : Walked) → Reached w → made c w ≡ Ok v → Reached v
  gave_up : (w : Walked) → Reached w → Reached (back w)
  began_again : (w : Walked) → Reached w → Reached (rewind w)

-- a walk that comes to its end, by whatever calls, has the sequential program of a valid derivation
abbrev pub WalkIsValid : Type 0
WalkIsValid = (w : Walked) (Q : SeqProgram) → Reached w → w.entered ≡ [] → finish w ≡ Ok Q → Derivable w.program Q
