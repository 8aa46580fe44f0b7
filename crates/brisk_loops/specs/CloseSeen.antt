-- What contracts see of a rule that is closed.
use Rattle.std.specs.Prelude.{Bool, ◌&&◌, not, List, [], Option, Some, None}
use Rattle.std.specs.List.{list_any}
use Rattle.brisk_values.specs.Names.{Name, same_name}
use Rattle.brisk_syntax.specs.Expressions.{expression_of}
use Rattle.brisk_syntax.specs.Syntax.{done}
use Rattle.brisk_state.specs.Same.{same_code}
use Rattle.brisk_state.specs.Symbolic.{Symbolic, thread_named}
use Rattle.brisk_derivation.specs.declared.fault.SideFault.{SideFault}
use Rattle.brisk_derivation.specs.declared.steps.Fact.{Fact}
use Rattle.brisk_derivation.specs.declared.steps.Step.{Step}
use Rattle.brisk_derivation.specs.declared.steps.Step.TheVariants as step
use Rattle.brisk_loops.specs.declared.close.Loop.{Loop}
use Rattle.brisk_loops.specs.declared.close.Loop.TheVariants as loop
use Rattle.brisk_rules.specs.Rules.{Kind, While, Repeat, For, Gather, Pick, Owner, Entered, looks, looks_at, without_drops, code_in}

-- the facts that a step drops
abbrev pub drops_in : Step → List Fact
drops_in (step.Basic b) = []
drops_in (step.Branch t a b) = []
drops_in (step.While t drops a) = drops
drops_in (step.For s ts drops a) = drops
drops_in (step.Repeat t drops a) = drops
drops_in (step.Gather t drops a) = drops
drops_in (step.Pick t drops a) = drops

-- the kind of a loop
abbrev pub kind_of : Loop → Kind
kind_of (loop.While t e) = While t (expression_of e)
kind_of (loop.Repeat s) = Repeat s
kind_of (loop.For s) = For s
kind_of (loop.Gather t s c) = Gather t s c
kind_of (loop.Pick s) = Pick s

-- the thread has code left
abbrev pub has_left : Symbolic → Name → Bool
has_left E t = not (same_code (code_in (thread_named E.threads t)) done)

-- the close looks at the code of this thread: owners are exempt
abbrev pub is_looked_at : Kind → List Owner → Name → Bool
is_looked_at kind owners u = looks_at (looks kind) u && not (list_any (λ o. same_name u o.name) owners)

-- a rule that closes, as its tests see it: what stood before is as the premise's start where they look
abbrev pub closing : Kind → List Owner → List Fact → Symbolic → Entered
closing kind owners drops S = record { start = S; known = without_drops drops S.facts; owners = owners; kind = kind }

-- the first of two faults
abbrev pub either_fault : Option SideFault → Option SideFault → Option SideFault
either_fault (Some fault) other = Some fault
either_fault None other = other
