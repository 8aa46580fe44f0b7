-- What an event does, as the machine keeps it.
use Rattle.std.specs.Prelude.{Bool, false, true, [], ◌∷◌, Option, option_map}
use Rattle.brisk_syntax.specs.Syntax.{Statement, Recv, RecvAny, Code}
use Rattle.brisk_async.specs.declared.effect.Act.{Act}
use Rattle.brisk_async.specs.declared.effect.Change.{Change}
use Rattle.brisk_async.specs.declared.effect.Change.TheVariants.{Nothing, Stores, Sends, Takes}
use Rattle.brisk_async.specs.Effects.{next_of}
use Rattle.brisk_async.specs.Keys.{queue_of}
use Rattle.brisk_async.specs.Machine.{Effect, unchanged, appended, taken}

-- the effect with this next code and this change
abbrev pub effect_with : Code → Change → Effect
effect_with next Nothing = record { next = next; variables = []; values = []; mail = unchanged }
effect_with next (Stores x v) = record { next = next; variables = x ∷ []; values = v ∷ []; mail = unchanged }
effect_with next (Sends k m) = record { next = next; variables = []; values = []; mail = appended (queue_of k) m }
effect_with next (Takes k n xs m) = record { next = next; variables = xs; values = m; mail = taken (queue_of k) n }

-- the effect of an act on code
abbrev pub effect_of : Code → Act → Effect
effect_of c a = effect_with (next_of a.next c) a.change

-- the effect of an act on code, if there is an act
abbrev pub effect_if : Code → Option Act → Option Effect
effect_if c = option_map (effect_of c)

-- the statement is a receive
abbrev pub is_receive : Statement → Bool
is_receive (Recv c xs u) = true
is_receive (RecvAny c xs v s b) = true
is_receive s = false
