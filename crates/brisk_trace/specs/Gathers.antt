-- The gathers of which a run is open where code stands.
use Rattle.std.specs.Prelude.{ℕ, zero, suc, List, [], ◌∷◌, Option, Some, None, option_map, if◌then◌else◌}
use Rattle.brisk_values.specs.Names.{Name, same_name}
use Rattle.brisk_syntax.specs.Syntax.{RecvAny, Repeat, Code, done, ◌⨾◌}
use Rattle.brisk_async.specs.PlainRuns.{Gather}

-- the gather of a set with this body and this code behind it: each turn is a receive from any of the set, and nothing else
abbrev pub gather_of : Name → Code → Code → Option Gather
gather_of s (RecvAny c xs v t b ⨾ done) rest =
    if same_name s t then Some record { channel = c; variables = xs; binder = v; set = s; body = b; rest = rest } else None
gather_of s body rest = None

-- the gather and the turn at whose beginning the code stands
abbrev pub gather_at : Code → Option (Gather × ℕ)
gather_at (Repeat s k b ⨾ rest) = option_map (λ g. (g, k)) (gather_of s b rest)
gather_at code = None

-- these, and the gather where a turn of it is over
abbrev pub begun : ℕ → Gather → List Gather → List Gather
begun zero g gs = gs
begun (suc k) g gs = g ∷ gs

abbrev pub with_begun : Option (Gather × ℕ) → List Gather → List Gather
with_begun None gs = gs
with_begun (Some f) gs = begun f.1 f.0 gs

-- the gathers of which a run is open, the innermost first
abbrev pub open_runs : Code → List Gather
open_runs done = []
open_runs (s ⨾ c) = with_begun (gather_at (s ⨾ c)) (open_runs c)
