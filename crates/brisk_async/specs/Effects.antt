-- Effects as the machine keeps them.
use Rattle.std.specs.Prelude.{ℕ, Bool, Option}
use Rattle.brisk_values.specs.declared.value.Value.{Value}
use Rattle.brisk_values.specs.Names.{Name}
use Rattle.brisk_syntax.specs.Syntax.{Code}
use Rattle.brisk_syntax.specs.Segments.{rest_of}
use Rattle.brisk_async.specs.declared.codes.Next.{Next}
use Rattle.brisk_async.specs.declared.codes.Next.TheVariants as next
use Rattle.brisk_async.specs.Machine.{View, Payload, Queue}

-- the code after an event, from the code before
abbrev pub next_of : Next → Code → Code
next_of next.Rest c = rest_of c
next_of (next.Code d) c = d

-- what an event looks at, part by part
abbrev pub looks : (Name → ℕ) → (Name → Bool) → (Name → Option Value) → (Queue → ℕ → Option Payload) → View
looks sizes loose own waiting = record { sizes = sizes; loose = loose; own = own; waiting = waiting }
