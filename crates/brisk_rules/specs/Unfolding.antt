-- The canonical schedule of a derivation: the events that its steps stand for, along a run of its sequential program.
use Rattle.std.specs.Prelude.{ℕ, zero, suc, ◌+◌, Bool, ◌&&◌, not, List, [], ◌∷◌, ◌++◌, map, Option, Some, None, Result, Ok, Err, if◌then◌else◌, nat_lt, nat_eq}
use Rattle.std.specs.List.{list_any}
use Rattle.brisk_values.specs.declared.value.Pid.{Pid}
use Rattle.brisk_values.specs.Functions.{changed}
use Rattle.brisk_values.specs.Names.{Name, same_process, single, member}
use Rattle.brisk_syntax.specs.declared.program.Program.{Program}
use Rattle.brisk_syntax.specs.Declarations.{is_loose}
use Rattle.brisk_syntax.specs.Instance.{Instance}
use Rattle.brisk_seq.specs.declared.tree.SeqProgram.{SeqProgram}
use Rattle.brisk_seq.specs.Items.{Item, Items, nothing, ◌⨟◌}
use Rattle.brisk_seq.specs.Items as item
use Rattle.brisk_seq.specs.Sequential.{Stop, BadChoice, ChoicesLeft, Turns, Run, Focus, in_focus, Given, holds_at, does, given_by, begin}
use Rattle.brisk_async.specs.declared.event.Event.{Event}
use Rattle.brisk_async.specs.Laws.{plain_event}
use Rattle.brisk_async.specs.PlainRuns.{plain_place}
use Rattle.brisk_basic.specs.Outcomes.{and_then}
use Rattle.brisk_derivation.specs.declared.steps.BasicStep.{BasicStep}
use Rattle.brisk_derivation.specs.declared.steps.BasicStep.TheVariants.{Assign, Fill, Pass, Take, Known}
use Rattle.brisk_derivation.specs.Steps.{Step, Basic, Branch, While, For, Repeat, Gather, Pick, Steps, no_steps, ◌▷◌}

-- An unfolding so far: the run, the events in order, and for each process the sender that its next receive carries, where
-- that receive stood as a receive from any.
pub record Unfolding : Type 0 where
  pub run : Run
  pub events : List Event
  pub sender : Pid → Option Pid

-- an unfolding that goes on, or what stopped the run
abbrev pub Unfolded : Type 0
Unfolded = Result Unfolding Stop

-- the process takes an event without a sender
abbrev pub moves : Pid → Unfolding → Unfolding
moves p u = record u { events = u.events ++ plain_event p ∷ [] }

-- each of the processes does, in this order
abbrev pub all_move : List Pid → Unfolding → Unfolding
all_move [] u = u
all_move (p ∷ ps) u = all_move ps (moves p u)

-- the process receives on a channel, at place 0 if it is loose, and from its sender if it is to carry one
abbrev pub receives : (Name → Bool) → Name → Pid → Unfolding → Unfolding
receives loose c p u = record u {
  events = u.events ++ record { process = p; sender = u.sender p; place = plain_place (loose c) } ∷ [];
  sender = changed same_process u.sender p None;
}

-- the next receive of p carries the sender w
abbrev pub carries : Pid → Pid → Unfolding → Unfolding
carries p w u = record u { sender = changed same_process u.sender p (Some w) }

-- the events of a basic step
abbrev pub events_of : (Name → Bool) → Focus → BasicStep → Unfolding → Unfolding
events_of loose who (Assign t) u = moves (who t) u
events_of loose who (Fill t v c n) u = moves (who t) u
events_of loose who (Pass t v c) u = receives loose c (who v) (moves (who t) u)
events_of loose who (Take t v c) u = receives loose c (who v) u
events_of loose who (Known t) u = moves (who t) u

-- the run does an item, if there is one
abbrev pub runs : Given → Option Item → Focus → Unfolding → Unfolded
runs given None who u = Ok u
runs given (Some q) who u = and_then (does given q who u.run) (λ r. Ok record u { run = r })

-- begins a turn of a `while`, where one is left
abbrev pub takes_turn : ℕ → Unfolding → (Unfolding → Unfolded) → Unfolded
takes_turn zero u go = Err Turns
takes_turn (suc left) u go = go record u { run = record u.run { turns = left } }

-- turns while the guard holds, with the owner's event before each and after the last
abbrev pub turns_while : ℕ → (Unfolding → Bool) → (Unfolding → Unfolding) → (Unfolding → Unfolded) → Unfolding → Unfolded
turns_while zero guard move body u = if guard u then Err Turns else Ok (move u)
turns_while (suc n) guard move body u =
    if guard u then takes_turn u.run.turns u (λ v. and_then (body (move v)) (turns_while n guard move body)) else Ok (move u)

-- n turns, with the members from k on, with the owners' events before each and after the last
abbrev pub turns_each : ℕ → ℕ → (Unfolding → Unfolding) → (ℕ → Unfolding → Unfolded) → Unfolding → Unfolded
turns_each zero k move body u = Ok (move u)
turns_each (suc n) k move body u = and_then (body k (move u)) (turns_each n (k + 1) move body)

-- goes on with the next choice, which must be a member of a set of this size that wasn't used
abbrev pub chooses : ℕ → List ℕ → List ℕ → Unfolding → (ℕ → Unfolding → Unfolded) → Unfolded
chooses size used [] u go = Err (BadChoice (u.run.asked + 1))
chooses size used (k ∷ ks) u go =
    if nat_lt k size && not (list_any (nat_eq k) used)
    then go k record u { run = record u.run { choices = ks; asked = u.run.asked + 1 } }
    else Err (BadChoice (u.run.asked + 1))

-- n turns, each with a choice, and no member twice, with the owner's event before each and after the last
abbrev pub turns_any : ℕ → ℕ → List ℕ → (Unfolding → Unfolding) → (ℕ → Unfolding → Unfolded) → Unfolding → Unfolded
turns_any zero size used move body u = Ok (move u)
turns_any (suc n) size used move body u =
    chooses size used u.run.choices u (λ k v. and_then (body k (move v)) (turns_any n size (k ∷ used) move body))

-- the first of the items
abbrev pub first_item : Items → Option Item
first_item nothing = None
first_item (q ⨟ rest) = Some q

-- the items after the first
abbrev pub later_items : Items → Items
later_items nothing = nothing
later_items (q ⨟ rest) = rest

-- the item of a step: `known` has none, and each other step the next one
abbrev pub item_for : Step → Items → Option Item
item_for (Basic (Known t)) items = None
item_for s items = first_item items

-- the items after that of a step
abbrev pub items_after : Step → Items → Items
items_after (Basic (Known t)) items = items
items_after s items = later_items items

-- what a step with its item unfolds to, and what steps with their items do one after another
abbrev mutual
  pub unfold_step : Given → (Name → Bool) → Step → Option Item → Focus → Unfolding → Unfolded
  unfold_step given loose (Basic b) q who u = and_then (runs given q who u) (λ v. Ok (events_of loose who b v))
  unfold_step given loose (Branch t a b) (Some (item.If p e x y)) who u =
      if holds_at given u.run (who p) e
      then unfold_all given loose a x who (moves (who t) u)
      else unfold_all given loose b y who (moves (who t) u)
  unfold_step given loose (While t drops a) (Some (item.While p e x)) who u =
      turns_while u.run.turns (λ v. holds_at given v.run (who p) e) (moves (who t)) (unfold_all given loose a x who) u
  unfold_step given loose (For s ts drops a) (Some (item.For r x)) who u =
      turns_each (given.sizes s) 0 (all_move (map who ts)) (λ k. unfold_all given loose a x (in_focus s k who)) u
  unfold_step given loose (Repeat t drops a) (Some (item.Repeat s x)) who u =
      turns_each (given.sizes s) 0 (moves (who t)) (λ k. unfold_all given loose a x who) u
  unfold_step given loose (Gather t drops a) (Some (item.ForAny s x)) who u =
      turns_any (given.sizes s) (given.sizes s) [] (moves (who t)) (λ k v. unfold_all given loose a x (in_focus s k who) (carries (who t) (member s k) v)) u
  unfold_step given loose (Pick t drops a) (Some (item.Pick s x)) who u =
      chooses (given.sizes s) [] u.run.choices u (λ k v. unfold_all given loose a x (in_focus s k who) (carries (who t) (member s k) v))
  unfold_step given loose s q who u = Ok u

  pub unfold_all : Given → (Name → Bool) → Steps → Items → Focus → Unfolding → Unfolded
  unfold_all given loose no_steps items who u = Ok u
  unfold_all given loose (s ▷ rest) items who u =
      and_then (unfold_step given loose s (item_for s items) who u) (unfold_all given loose rest (items_after s items) who)

-- the events, unless choices are left
abbrev pub unfolded_with : List ℕ → List Event → Result (List Event) Stop
unfolded_with [] events = Ok events
unfolded_with (k ∷ ks) events = Err ChoicesLeft

-- The canonical schedule of a derivation of Q in an instance, on these choices and at most so many turns of `while`; or what
-- stops the sequential program first.
abbrev pub unfolded : Program → Steps → SeqProgram → Instance → List ℕ → ℕ → Result (List Event) Stop
unfolded P D Q i choices turns =
    and_then (unfold_all (given_by Q i) (is_loose P.channels) D Q.body single record { run = begin Q i choices turns; events = []; sender = λ p. None })
    (λ u. unfolded_with u.run.choices u.events)
