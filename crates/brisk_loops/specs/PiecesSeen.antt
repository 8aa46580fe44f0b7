-- What contracts see of what follows a thread's code.
use Rattle.std.specs.Prelude.{List, ◌∷◌, Option, Some, None, if◌then◌else◌}
use Rattle.brisk_values.specs.Names.{Name}
use Rattle.brisk_state.specs.Symbolic.{Symbolic, thread_named}
use Rattle.brisk_quiet.specs.Sender.{Piece}
use Rattle.brisk_rules.specs.Following.{is_owner, piece_of}
use Rattle.brisk_rules.specs.Rules.{code_in}
use Rattle.brisk_loops.specs.Walk.{Inside, Premise, First, Second}

-- the piece that a rule, entered in this state, puts before what follows a thread
abbrev pub in_rule : Symbolic → Name → Inside → Option Piece
in_rule S u (Premise r) = if is_owner r.owners u then Some (piece_of r.kind (code_in (thread_named S.threads u))) else None
in_rule S u (First r) = None
in_rule S u (Second r E X) = None

-- the piece, if there is one, before the others
abbrev pub before : Option Piece → List Piece → List Piece
before None pieces = pieces
before (Some piece) pieces = piece ∷ pieces
