-- A walk: the rules of a derivation, applied one by one by calls on plain data.
use Rattle.std.specs.Prelude.{ℕ, ◌+◌, List, [], ◌∷◌, ◌++◌, Option, Some, None, Result, Ok, Err, if◌then◌else◌, length, nat_eq}
use Rattle.brisk_syntax.specs.declared.program.Program.{Program}
use Rattle.brisk_seq.specs.declared.tree.SeqProgram.{SeqProgram}
use Rattle.brisk_seq.specs.Items.{Item, Items, nothing, ◌⨟◌, ◌followed_by◌}
use Rattle.brisk_state.specs.Symbolic.{Symbolic, initial}
use Rattle.brisk_basic.specs.declared.rule.RuleFault.TheVariants.{WrongHead}
use Rattle.brisk_basic.specs.Outcomes.{and_then}
use Rattle.brisk_derivation.specs.declared.steps.BasicStep.{BasicStep}
use Rattle.brisk_derivation.specs.Steps.{Step, Basic, Branch, While, For, Repeat, Gather, Pick, Steps, no_steps, ◌▷◌}
use Rattle.brisk_rules.specs.declared.why.Why.TheVariants.{Rule}
use Rattle.brisk_rules.specs.Following.{Follow, nothing_follows, follows_in}
use Rattle.brisk_rules.specs.Rules.{Outcome, Entered, around, Parted, around_sides, close, enter_while, enter_for, enter_repeat, enter_gather, enter_pick, enter_branch, join}
use Rattle.brisk_rules.specs.Derives.{Failure, told_at, nested, items_in, apply_quietly, rule_of}
use Rattle.brisk_rules.specs.Derives as derived

-- Where a walk stands in a rule that was entered: in its premise; in the first side of a branch; or in the second, with the
-- state and the items at the first side's end.
pub data Inside : Type 0 where
  Premise : (rule : Entered) → Inside
  First : (rule : Parted) → Inside
  Second : (rule : Parted) (first_end : Symbolic) (first_items : Items) → Inside

-- a rule that was entered: its step without own steps, where the walk stands in it, and the state, the items and the number
-- of counted calls before it was entered
pub record Open : Type 0 where
  pub step : Step
  pub inside : Inside
  pub state : Symbolic
  pub items : Items
  pub counted : ℕ

-- A walk: its program; the present state; the items so far of the innermost rule that is entered, or of the whole where none
-- is; the rules that are entered and not closed, the innermost first; the number of rules applied; and that of counted calls.
pub record Walked : Type 0 where
  pub program : Program
  pub state : Symbolic
  pub items : Items
  pub entered : List Open
  pub applied : ℕ
  pub counted : ℕ

-- what a call gives: the walk after it, or what fails and at which line; then the walk stays as it was
abbrev pub Called : Type 0
Called = Result Walked Failure

-- the line at which the next failure is told
abbrev pub line : Walked → ℕ
line w = w.counted + 2

-- a walk that begins
abbrev pub start : Program → Walked
start P = record { program = P; state = initial P; items = nothing; entered = []; applied = 0; counted = 0 }

-- the step without its own steps
abbrev pub alone : Step → Step
alone (Basic b) = Basic b
alone (Branch t a b) = Branch t no_steps no_steps
alone (While t drops a) = While t drops no_steps
alone (For s ts drops a) = For s ts drops no_steps
alone (Repeat t drops a) = Repeat t drops no_steps
alone (Gather t drops a) = Gather t drops no_steps
alone (Pick t drops a) = Pick t drops no_steps

-- into the premise of a rule
abbrev pub in_premise : Outcome Entered → Outcome Inside
in_premise entry = and_then entry (λ r. Ok (Premise r))

-- what is entered by a step
abbrev pub entry : Program → Symbolic → Step → Outcome Inside
entry P S (Basic b) = Err (Rule WrongHead)
entry P S (Branch t a b) = and_then (enter_branch S t) (λ r. Ok (First r))
entry P S (While t drops a) = in_premise (enter_while S t drops)
entry P S (For s ts drops a) = in_premise (enter_for S s ts drops)
entry P S (Repeat t drops a) = in_premise (enter_repeat S t drops)
entry P S (Gather t drops a) = in_premise (enter_gather S t drops)
entry P S (Pick t drops a) = in_premise (enter_pick P S t drops)

-- the rule with so many rules around it, where the innermost stands first
abbrev pub rule_at : List Open → ℕ → Option Open
rule_at [] around = None
rule_at (o ∷ more) around = if nat_eq (length more) around then Some o else rule_at more around

-- its premise, where it has one
abbrev pub premise_of : Inside → Option Entered
premise_of (Premise r) = Some r
premise_of (First r) = None
premise_of (Second r E X) = None

abbrev pub premise_in : Option Open → Option Entered
premise_in None = None
premise_in (Some o) = premise_of o.inside

abbrev pub premise_at : List Open → ℕ → Option Entered
premise_at entered around = premise_in (rule_at entered around)

-- where it starts
abbrev pub starts : Inside → Symbolic
starts (Premise r) = r.start
starts (First r) = r.first
starts (Second r E X) = r.second

-- what follows in a rule that was entered in this state; a branch puts nothing before what follows
abbrev pub follows_inside : Symbolic → Inside → Follow → Follow
follows_inside S (Premise r) F = follows_in S r F
follows_inside S (First r) F = F
follows_inside S (Second r E X) F = F

-- what follows in rules one in another, the innermost first
abbrev pub follows : List Open → Follow
follows [] = nothing_follows
follows (o ∷ more) = follows_inside o.state o.inside (follows more)

-- a rule that is entered, as the walk keeps it
abbrev pub opened : Walked → Step → Inside → Open
opened w A i = record { step = alone A; inside = i; state = w.state; items = w.items; counted = w.counted }

-- the walk in a rule that it enters
abbrev pub inside : Walked → Step → Inside → Walked
inside w A i = record w { state = starts i; items = nothing; entered = opened w A i ∷ w.entered; counted = w.counted + 1 }

-- enters a rule
abbrev pub enter : Walked → Step → Called
enter w A = and_then (told_at (line w) (nested (length w.entered) (entry w.program w.state A))) (λ i. Ok (inside w A i))

-- applies a basic rule
abbrev pub basic : Walked → BasicStep → Called
basic w b =
    and_then (told_at (line w) (apply_quietly w.program (follows w.entered) w.state (rule_of b))) (λ r.
    Ok record w { state = r.next; items = w.items followed_by items_in r.statement; applied = w.applied + 1; counted = w.counted + 1 })

-- the walk in the second side of a branch, after the first
abbrev pub across : Walked → Open → List Open → Parted → Walked
across w o more r = record w {
  state = r.second;
  items = nothing;
  entered = record o { inside = Second r w.state w.items } ∷ more;
  counted = w.counted + 1;
}

-- passes to the second side of a branch
abbrev pub other_in : Walked → Open → List Open → Inside → Called
other_in w o more (First r) = Ok (across w o more r)
other_in w o more i = Ok w

abbrev pub other_of : Walked → List Open → Called
other_of w [] = Ok w
other_of w (o ∷ more) = other_in w o more o.inside

abbrev pub other : Walked → Called
other w = other_of w w.entered

-- the walk after a rule that closes with this state and item
abbrev pub outside : Walked → Open → List Open → Symbolic → Item → Walked
outside w o more S q = record w {
  state = S;
  items = o.items followed_by (q ⨟ nothing);
  entered = more;
  applied = w.applied + 1;
  counted = w.counted + 1;
}

-- closes the innermost rule
abbrev pub leave_in : Walked → Open → List Open → Inside → Called
leave_in w o more (Premise r) = and_then (told_at (line w) (close r w.state)) (λ S. Ok (outside w o more S (around r.kind w.items)))
leave_in w o more (Second r E X) = and_then (told_at (line w) (join E w.state)) (λ S. Ok (outside w o more S (around_sides r X w.items)))
leave_in w o more (First r) = Ok w

abbrev pub leave_of : Walked → List Open → Called
leave_of w [] = Ok w
leave_of w (o ∷ more) = leave_in w o more o.inside

abbrev pub leave : Walked → Called
leave w = leave_of w w.entered

-- the sequential program of a walk to the end
abbrev pub finish : Walked → Result SeqProgram Failure
finish w = derived.finish w.program record { items = w.items; state = w.state; line = line w }

-- gives up the innermost rule
abbrev pub back_to : Walked → List Open → Walked
back_to w [] = w
back_to w (o ∷ more) = record w { state = o.state; items = o.items; entered = more; counted = o.counted }

abbrev pub back : Walked → Walked
back w = back_to w w.entered

-- gives up all, but for the number of rules applied
abbrev pub rewind : Walked → Walked
rewind w = record (start w.program) { applied = w.applied }

-- the calls that count
pub data Call : Type 0 where
  Enter : (step : Step) → Call
  Apply : (rule : BasicStep) → Call
  Other : Call
  Leave : Call

-- what one call gives
abbrev pub made : Call → Walked → Called
made (Enter A) w = enter w A
made (Apply b) w = basic w b
made Other w = other w
made Leave w = leave w

-- what calls give, one after another
abbrev pub made_all : List Call → Walked → Called
made_all [] w = Ok w
made_all (c ∷ cs) w = and_then (made c w) (made_all cs)

-- the calls of a step, and of steps one after another
abbrev mutual
  pub calls : Step → List Call
  calls (Basic b) = Apply b ∷ []
  calls (Branch t a b) = Enter (Branch t a b) ∷ calls_of a ++ (Other ∷ calls_of b ++ Leave ∷ [])
  calls (While t drops a) = Enter (While t drops a) ∷ calls_of a ++ Leave ∷ []
  calls (For s ts drops a) = Enter (For s ts drops a) ∷ calls_of a ++ Leave ∷ []
  calls (Repeat t drops a) = Enter (Repeat t drops a) ∷ calls_of a ++ Leave ∷ []
  calls (Gather t drops a) = Enter (Gather t drops a) ∷ calls_of a ++ Leave ∷ []
  calls (Pick t drops a) = Enter (Pick t drops a) ∷ calls_of a ++ Leave ∷ []

  pub calls_of : Steps → List Call
  calls_of no_steps = []
  calls_of (s ▷ rest) = calls s ++ calls_of rest
