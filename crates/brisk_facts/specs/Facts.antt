-- What is known of variables: a finite map from a role or set and a variable to a value.
use Rattle.std.specs.Prelude.{Bool, false, ◌&&◌, not, List, [], ◌∷◌, Option, Some, None, filter}
use Rattle.std.specs.declared.cmp.Ordering.{Ordering}
use Rattle.std.specs.Ordering.{nat_cmp, ordering_then}
use Rattle.std.specs.Cmp.Lexicographic.{slice_cmp}
use Rattle.std.specs.FinMap.{find, put}
use Rattle.brisk_values.specs.declared.value.Value.{Value}
use Rattle.brisk_values.specs.Names.{Name, same_name}
use Rattle.brisk_values.specs.Values.{same_value}

-- where a fact stands: a role or set, and a variable of it
abbrev pub Place : Type 0
Place = Name × Name

-- by role, and then by variable
abbrev pub place_cmp : Place → Place → Ordering
place_cmp a b = ordering_then (slice_cmp nat_cmp a.0 b.0) (slice_cmp nat_cmp a.1 b.1)

-- facts: the entries of a finite map from places to values, in the order of the places
abbrev pub Facts : Type 0
Facts = List (Place × Value)

-- what is known of a variable
abbrev pub fact : Facts → Name → Name → Option Value
fact facts at x = find place_cmp (at, x) facts

-- the facts, but with this one
abbrev pub with_fact : Name → Name → Value → Facts → Facts
with_fact at x v facts = put place_cmp (at, x) v facts

-- the facts at the places that pass the test
abbrev pub facts_where : (Place → Bool) → Facts → Facts
facts_where test facts = filter (λ e. test e.0) facts

-- the facts but that on this variable
abbrev pub without_fact : Name → Name → Facts → Facts
without_fact at x facts = facts_where (λ q. not (same_name at q.0 && same_name x q.1)) facts

-- the facts, where this value is known of the variable, or nothing is
abbrev pub with_value : Name → Name → Option Value → Facts → Facts
with_value at x None facts = without_fact at x facts
with_value at x (Some v) facts = with_fact at x v facts

-- the same for several variables of one role
abbrev pub with_values : Name → List Name → List (Option Value) → Facts → Facts
with_values at [] vs facts = facts
with_values at (x ∷ xs) [] facts = facts
with_values at (x ∷ xs) (v ∷ vs) facts = with_values at xs vs (with_value at x v facts)

-- the facts but those on these variables
abbrev pub without_facts : Name → List Name → Facts → Facts
without_facts at [] facts = facts
without_facts at (x ∷ xs) facts = without_facts at xs (without_fact at x facts)

-- the value is known, and it is this one
abbrev pub is_known : Option Value → Value → Bool
is_known None v = false
is_known (Some w) v = same_value w v

-- the fact is one of these facts
abbrev pub is_fact : Facts → Place × Value → Bool
is_fact facts e = is_known (find place_cmp e.0 facts) e.1

-- both are known, and they are the same
abbrev pub agree : Option Value → Option Value → Bool
agree None other = false
agree (Some v) other = is_known other v

-- the facts that both have
abbrev pub common : Facts → Facts → Facts
common facts others = facts_where (λ q. agree (find place_cmp q facts) (find place_cmp q others)) facts

-- the facts of the one and of the other, where no place is in both
abbrev pub joined : Facts → Facts → Facts
joined [] others = others
joined (e ∷ facts) others = put place_cmp e.0 e.1 (joined facts others)
