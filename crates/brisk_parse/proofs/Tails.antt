-- Operands that an operator joins.
use Rattle.std.proofs.Common.{◌≡◌, ℕ, zero, suc, ◌+◌, ◌-◌, ◌<◌, ◌≤◌, length, Some, None, Ok, Err, refl, ap, ◌∙◌, arith}
use Rattle.brisk_values.specs.declared.operation.Op2.{Op2}
use Rattle.brisk_syntax.specs.Syntax.{Expression, Bin}
use Rattle.brisk_parse.specs.declared.fault.Stop.{Stop}
use Rattle.brisk_parse.specs.declared.fault.Stop.TheVariants.{TooMany}
use Rattle.brisk_parse.specs.declared.level.Level.{Level}
use Rattle.brisk_parse.specs.declared.level.Level.TheVariants as level
use Rattle.brisk_parse.specs.Input.{Input, head}
use Rattle.brisk_parse.specs.Outcomes.{Outcome, Parser, and_then, Stops}
use Rattle.brisk_parse.specs.Reading.{spend}
use Rattle.brisk_parse.specs.Expressions.{operator, tail, product, sum, conjunction, disjunction, operand, chain}
use Rattle.brisk_parse.proofs.Outcomes.{stops_then, stops_alike}

-- a chain is an operand and its tail
pub chain_is : (l : Level) (n : ℕ) (unary : Parser Expression) (i : Input) → chain l n unary i ≡ and_then (operand l n unary i) (λ e. tail l (operand l n unary) n e)
unfolding product sum conjunction disjunction
chain_is level.Or n unary i = refl
chain_is level.And n unary i = refl
chain_is level.Sum n unary i = refl
chain_is level.Product n unary i = refl

module _ (l : Level) (next : Parser Expression) (n at : ℕ) (e : Expression) (i : Input) (x : Outcome Expression) (so_far : x ≡ tail l next (n - at) e i) where
  stop_at : (m : ℕ) → operator l (head i) ≡ None → tail l next m e i ≡ Ok (e, i)
  unfolding tail
  stop_at zero h = rw h refl
  stop_at (suc m) h = rw h refl

  pub tail_stop : operator l (head i) ≡ None → x ≡ Ok (e, i)
  tail_stop h = so_far ∙ stop_at (n - at) h

  pub tail_full : (op : Op2) → n ≤ at → operator l (head i) ≡ Some op → x ≡ Err (TooMany (length i.rest))
  unfolding tail
  tail_full op le h = let z : n - at ≡ 0 = omega arith in so_far ∙ rw (z, h) refl

  goes : (op : Op2) → at < n → operator l (head i) ≡ Some op → x ≡ and_then (spend i) (λ _ j. and_then (next j) (λ f. tail l next (n - (at + 1)) (Bin op e f)))
  unfolding tail
  goes op lt h = let z : n - at ≡ suc (n - (at + 1)) = omega arith in so_far ∙ rw (z, h) refl

  pub tail_more : (op : Op2) (f : Expression) (j k : Input) → at < n → operator l (head i) ≡ Some op → spend i ≡ Ok (tt, j) → next j ≡ Ok (f, k) → x ≡ tail l next (n - (at + 1)) (Bin op e f) k
  tail_more op f j k lt h spent read = goes op lt h ∙ rw (spent, read) refl

  pub tail_spent : (op : Op2) (d : Stop) → at < n → operator l (head i) ≡ Some op → Stops d (spend i) → Stops d x
  tail_spent op d lt h stop = stops_alike d x _ (goes op lt h) (stops_then d (spend i) _ stop)

  pub tail_fails : (op : Op2) (d : Stop) (j : Input) → at < n → operator l (head i) ≡ Some op → spend i ≡ Ok (tt, j) → Stops d (next j) → Stops d x
  tail_fails op d j lt h spent stop =
      let more = λ (f : Expression). tail l next (n - (at + 1)) (Bin op e f) in
      stops_alike d x (and_then (next j) more) (goes op lt h ∙ ap (λ r. and_then r (λ _ k. and_then (next k) more)) spent) (stops_then d (next j) more stop)
