-- What contracts see of an unfolding in code, and which unfolding of the definition it is.
use Rattle.std.specs.Prelude.{◌≡◌, ℕ, Bool, List, [], ◌∷◌, ◌++◌, Option, None, Result, Ok}
use Rattle.brisk_values.specs.declared.value.Pid.{Pid}
use Rattle.brisk_values.specs.Functions.{changed}
use Rattle.brisk_values.specs.Names.{Name, same_process, single}
use Rattle.brisk_syntax.specs.Declarations.{is_loose}
use Rattle.brisk_seq.specs.declared.fault.SeqFault.{SeqFault}
use Rattle.brisk_seq.specs.Items.{Item, Items}
use Rattle.brisk_seq.specs.Running.{HasMade, Tells, given_in, run_of}
use Rattle.brisk_seq.specs.Sequential.{Focus, Given, Run, Stop}
use Rattle.brisk_syntax.specs.Stores.{Store}
use Rattle.brisk_async.specs.declared.event.Event.{Event}
use Rattle.brisk_basic.specs.Outcomes.{and_then}
use Rattle.brisk_derivation.specs.Steps.{Step, Steps}
use Rattle.brisk_rules.specs.Unfolding.{Unfolding, Unfolded, unfold_all, unfold_step, unfolded_with}
use Rattle.brisk_unfold.specs.declared.progress.Progress.{Progress}
use Rattle.brisk_unfold.specs.declared.unfolder.Unfolder.{Unfolder}
use Rattle.brisk_unfold.specs.Carried.{sender_in}

-- the definition's unfolding with this run
abbrev pub shown : Progress → Run → Unfolding
shown p r = record { run = r; events = p.events; sender = sender_in p.senders }

-- the definition's unfolding, with all choices and the number of moves that were made
abbrev pub unfolding_of : List ℕ → ℕ → Progress → Unfolding
unfolding_of choices n p = shown p (run_of choices n p.run)

-- the one is the other but for events and senders, in which it differs so
pub record Marks (old new : Progress) (f : Unfolding → Unfolding) : Type 0 where
  pub run : new.run ≡ old.run
  pub differs : (r : Run) → shown new r ≡ f (shown old r)

-- the process receives at this place, and from its sender if it is to carry one
abbrev pub receives_at : Option ℕ → Pid → Unfolding → Unfolding
receives_at place p u = record u {
  events = u.events ++ record { process = p; sender = u.sender p; place = place } ∷ [];
  sender = changed same_process u.sender p None;
}

-- the action leads from the one unfolding to the other
abbrev pub Goes : List ℕ → Progress → Progress → (Unfolding → Unfolded) → Type 0
Goes choices old new action =
    (n : ℕ) → HasMade choices n old.run → (m : ℕ) × HasMade choices m new.run × (action (unfolding_of choices n old) ≡ Ok (unfolding_of choices m new))

-- the action is stopped, as the fault tells
abbrev pub Stops : List ℕ → Progress → (Unfolding → Unfolded) → SeqFault → Type 0
Stops choices old action f = (n : ℕ) → HasMade choices n old.run → Tells (action (unfolding_of choices n old)) f

-- the one action from the one unfolding is the other action from the other unfolding
abbrev pub Leads : List ℕ → Progress → Progress → (Unfolding → Unfolded) → (Unfolding → Unfolded) → Type 0
Leads choices old new action rest =
    (n : ℕ) → HasMade choices n old.run → (m : ℕ) × HasMade choices m new.run × (action (unfolding_of choices n old) ≡ rest (unfolding_of choices m new))

-- what a step with its item unfolds to
abbrev pub step_in : Unfolder → Step → Option Item → Focus → Unfolding → Unfolded
step_in s = unfold_step (given_in s.setting) (is_loose s.channels.now)

-- what steps with their items unfold to
abbrev pub steps_in : Unfolder → Steps → Items → Focus → Unfolding → Unfolded
steps_in s = unfold_all (given_in s.setting) (is_loose s.channels.now)

-- the events of the steps with their items from this store on, or what stops them
abbrev pub unfolded_from : Given → (Name → Bool) → List ℕ → Steps → Items → Store → ℕ → Result (List Event) Stop
unfolded_from given loose choices a x store turns =
    and_then (unfold_all given loose a x single record { run = record { store = store; box = λ n p q. None; choices = choices; asked = 0; turns = turns; moves = 0 }; events = []; sender = λ p. None })
    (λ u. unfolded_with u.run.choices u.events)
