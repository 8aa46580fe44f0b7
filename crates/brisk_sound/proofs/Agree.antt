-- A process's variables that agree with facts.
use Rattle.std.proofs.Common.{◌≡◌, List, [], ◌∷◌, map, Option, Some, None, true, false}
use Rattle.std.specs.Prelude.{if◌then◌else◌}
use Rattle.brisk_values.specs.declared.value.Value.{Value}
use Rattle.brisk_values.specs.Functions.{changed}
use Rattle.brisk_values.specs.Names.{Name, same_name}
use Rattle.brisk_syntax.specs.Stores.{with_variables}
use Rattle.brisk_syntax.specs.Syntax.{Expression}
use Rattle.brisk_syntax.specs.Value.{or_false}
use Rattle.brisk_facts.specs.Laws.{Agrees}
use Rattle.brisk_rules.proofs.Readings.{Known, facts_with, forgotten}

abbrev pub Own : Type 0
Own = Name → Option Value

-- one variable
agrees_changed : (own : Own) (f : Known) (x : Name) (w : Value) (o : Option Value) → Agrees own f → ((v : Value) → o ≡ Some v → w ≡ v) → Agrees (changed same_name own x (Some w)) (changed same_name f x o)
agrees_changed own f x w o h here y v =
    elim (same_name x y) as (λ b. (if b then o else f y) ≡ Some v → or_false (if b then Some w else own y) ≡ v) [ true ↦ here v | false ↦ h y v ]

-- the values of expressions, where what folds is the value
pub agrees_with : (own : Own) (f : Known) (xs : List Name) (val : Expression → Value) (known : Expression → Option Value) (es : List Expression) → Agrees own f → ((e : Expression) (v : Value) → known e ≡ Some v → val e ≡ v) →
    Agrees (with_variables own xs (map val es)) (facts_with f xs (map known es))
agrees_with own f [] val known es h k = h
agrees_with own f (x ∷ xs) val known [] h k = h
agrees_with own f (x ∷ xs) val known (e ∷ es) h k = agrees_with (changed same_name own x (Some (val e))) (changed same_name f x (known e)) xs val known es (agrees_changed own f x (val e) (known e) h (k e)) k

agrees_none : (own : Own) (f : Known) (x : Name) → Agrees own f → Agrees own (changed same_name f x None)
agrees_none own f x h y v = elim (same_name x y) as (λ b. (if b then None else f y) ≡ Some v → or_false (own y) ≡ v) [ true ↦ λ e. cc | false ↦ h y v ]

agrees_lost : (own : Own) (f : Known) (xs : List Name) → Agrees own f → Agrees own (forgotten f xs)
agrees_lost own f [] h = h
agrees_lost own f (x ∷ xs) h = agrees_lost own (changed same_name f x None) xs (agrees_none own f x h)

-- any values, where they are forgotten
pub agrees_forgotten : (own : Own) (f : Known) (xs : List Name) (ms : List Value) → Agrees own f → Agrees (with_variables own xs ms) (forgotten f xs)
agrees_forgotten own f [] ms h = h
agrees_forgotten own f (x ∷ xs) [] h = agrees_lost own f (x ∷ xs) h
agrees_forgotten own f (x ∷ xs) (m ∷ ms) h = agrees_forgotten (changed same_name own x (Some m)) (changed same_name f x None) xs ms (agrees_changed own f x m None h (λ v e. cc))
