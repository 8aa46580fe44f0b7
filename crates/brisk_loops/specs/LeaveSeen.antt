-- What contracts see of a rule that is left.
use Rattle.std.specs.Prelude.{◌≡◌, not, filter, List, Option, Some, None, Ok}
use Rattle.brisk_values.specs.Names.{Name}
use Rattle.brisk_syntax.specs.Expressions.{expression_of}
use Rattle.brisk_syntax.specs.Segments.{rest_of}
use Rattle.brisk_syntax.specs.Syntax.{Expression, Code, done}
use Rattle.brisk_seq.specs.Items.{Item, Items, nothing}
use Rattle.brisk_seq.specs.Items as item
use Rattle.brisk_facts.specs.Facts.{Facts, common, facts_where, is_fact}
use Rattle.brisk_state.specs.Symbolic.{Symbolic, code_at}
use Rattle.brisk_derivation.specs.declared.steps.Fact.{Fact}
use Rattle.brisk_loops.specs.declared.leave.Closing.{Closing}
use Rattle.brisk_loops.specs.declared.leave.Closed.{Closed}
use Rattle.brisk_loops.specs.declared.leave.Ended.{Ended}
use Rattle.brisk_loops.specs.declared.leave.Ended.TheVariants.{Closes as by_close, Joins}
use Rattle.brisk_loops.specs.declared.rule.Side.{Side}
use Rattle.brisk_loops.specs.declared.rule.Side.TheVariants as side
use Rattle.brisk_loops.specs.CloseSeen.{kind_of, is_looked_at}
use Rattle.brisk_loops.specs.Walk.{Inside, Premise, First, Second}
use Rattle.brisk_rules.specs.Rules.{Outcome, Kind, Owner, Entered, Parted, around, around_sides, close, join, looks, looks_at, unfocused, at_rests, not_restored, without_drops}

-- it is the rule that was entered
abbrev pub Closes : Closing → Entered → Type 0
Closes k r = (k.owners.items ≡ r.owners) × (kind_of k.kind ≡ r.kind)

-- where the tests of the close look, the premise starts as the state before it, without the facts that are dropped
abbrev pub StartsLike : Entered → List Fact → Symbolic → Type 0
StartsLike r drops S =
    (r.known ≡ without_drops drops S.facts) × (r.start.pending ≡ S.pending)
    × ((E : Symbolic) → not_restored (is_looked_at r.kind r.owners) r.start.threads E.threads ≡ not_restored (is_looked_at r.kind r.owners) S.threads E.threads)

-- the facts that the close of a rule asks for and misses
abbrev pub lost_by : Entered → Symbolic → Facts
lost_by r E = filter (λ e. not (is_fact E.facts e)) (facts_where (λ q. looks_at (looks r.kind) q.0) r.known)

-- the state after a close with these facts
abbrev pub closed_state : Kind → List Owner → Facts → Symbolic → Symbolic
closed_state kind owners facts E = record { threads = at_rests owners (unfocused (looks kind) E.threads); pending = E.pending; facts = facts }

-- the rule closes so
abbrev pub IsClosedBy : Entered → Symbolic → Closed → Type 0
IsClosedBy r E d = (kind_of d.kind ≡ r.kind) × (close r E ≡ Ok (closed_state r.kind d.owners.items d.facts E))

-- the code behind the first statement of code that is there
abbrev pub behind : Option Code → Code
behind None = done
behind (Some code) = rest_of code

-- an owner that will stand behind the statement at which it stands
abbrev pub owner_by : Symbolic → Name → Owner
owner_by S t = record { name = t; rest = behind (code_at S t) }

-- the state after a branch
abbrev pub joined_state : Side → Symbolic → Symbolic
joined_state (side.Second F Y) E = record F { facts = common F.facts E.facts }
joined_state side.First E = E

-- its item
abbrev pub joined_item : Name → Expression → Side → Items → Item
joined_item t e (side.Second F Y) X = item.If t e Y X
joined_item t e side.First X = item.If t e nothing X

-- the state after what a rule comes to
abbrev pub state_after : Ended → Side → Symbolic → Symbolic
state_after (by_close d) s E = closed_state (kind_of d.kind) d.owners.items d.facts E
state_after (Joins t e) s E = joined_state s E

-- its item
abbrev pub item_after : Ended → Side → Items → Item
item_after (by_close d) s X = around (kind_of d.kind) X
item_after (Joins t e) s X = joined_item t (expression_of e) s X

-- where a rule that was entered ends
abbrev pub ends : Inside → Symbolic → Outcome Symbolic
ends (Premise r) E = close r E
ends (First r) E = Ok E
ends (Second r F Y) E = join F E

-- the item around the items of its premise, or of its second side
abbrev pub item_around : Inside → Items → Item
item_around (Premise r) X = around r.kind X
item_around (First r) X = around_sides r nothing X
item_around (Second r F Y) X = around_sides r Y X

-- a branch in its first side
abbrev pub IsInFirst : Inside → Type 0
IsInFirst (First r) = Unit {0}
IsInFirst i = ⊥

abbrev pub IsPastFirst : Inside → Type 0
IsPastFirst (First r) = ⊥
IsPastFirst i = Unit {0}

-- The rule comes to this: nothing for a branch in its first side, and for another the state and the item that leaving gives.
abbrev pub EndsAs : Inside → Side → Symbolic → Option Ended → Type 0
EndsAs i s E None = IsInFirst i
EndsAs i s E (Some e) = IsPastFirst i × (ends i E ≡ Ok (state_after e s E)) × ((X : Items) → item_around i X ≡ item_after e s X)

-- the side in which a walk stands in a branch
abbrev pub in_side : Parted → Side → Inside
in_side r side.First = First r
in_side r (side.Second F Y) = Second r F Y
