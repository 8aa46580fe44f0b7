-- The basic rules: each with its tests in order, the statement that it gives, and the next state.
use Rattle.std.specs.Prelude.{ℕ, ◌&&◌, not, List, [], ◌∷◌, ◌++◌, map, Option, Some, None, Result, Ok, Err, if◌then◌else◌, nat_le}
use Rattle.brisk_values.specs.declared.value.Value.{Value}
use Rattle.brisk_values.specs.Names.{Name, same_name}
use Rattle.brisk_syntax.specs.Stores.{is_true}
use Rattle.brisk_syntax.specs.Syntax.{Expression, Assign, Send, Recv, If, IfElse, While, Code, ◌⨾◌, ◌then◌}
use Rattle.brisk_seq.specs.Items.{Item}
use Rattle.brisk_seq.specs.Items as item
use Rattle.brisk_facts.specs.Facts.{with_value, with_values, without_facts}
use Rattle.brisk_facts.specs.Learning.{folded}
use Rattle.brisk_state.specs.Symbolic.{key, Symbolic, code_at, stands_for, with_code, numbers_at, with_numbers, is_in_use}
use Rattle.brisk_basic.specs.declared.rule.Basic.{Basic}
use Rattle.brisk_basic.specs.declared.rule.Basic.TheVariants as basic
use Rattle.brisk_basic.specs.declared.rule.RuleFault.{RuleFault}
use Rattle.brisk_basic.specs.declared.rule.RuleFault.TheVariants.{NoThread, WrongHead, BoxInUse, AlreadyPending, NothingPending, NotKnown}
use Rattle.brisk_basic.specs.Outcomes.{when}

-- what a basic rule gives: its statement, if it has one, and the next state
pub record Applied : Type 0 where
  pub statement : Option Item
  pub next : Symbolic

-- the statement and the state
abbrev pub giving : Item → Symbolic → Result Applied RuleFault
giving q S = Ok record { statement = Some q; next = S }

-- goes on with the code of the thread t, where rules move it
abbrev pub at_thread : {A : Type 0} → Option Code → (Code → Result A RuleFault) → Result A RuleFault
at_thread None go = Err NoThread
at_thread (Some code) go = go code

-- the expressions and the rest, where the code is at a send on c to the thread u
abbrev pub sends : Symbolic → Name → Name → Code → Option (List Expression × Code)
sends S u c (Send d es w ⨾ rest) = if same_name c d && stands_for S u w then Some (es, rest) else None
sends S u c code = None

-- the variables and the rest, where the code is at a receive on c from the thread t
abbrev pub receives : Symbolic → Name → Name → Code → Option (List Name × Code)
receives S t c (Recv d xs w ⨾ rest) = if same_name c d && stands_for S t w then Some (xs, rest) else None
receives S t c code = None

-- assign t: the variable has the folded value, or nothing is known of it
abbrev pub assign : Symbolic → Name → Code → Result Applied RuleFault
assign S t (Assign x e ⨾ rest) =
    giving (item.Pass t (x ∷ []) t (e ∷ []))
    record S { threads = with_code t rest S.threads; facts = with_value t x (folded S.facts t e) S.facts }
assign S t code = Err WrongHead

-- fill t u c n: the number pends nowhere and is from 1 to 1,000,000; it pends last under its key
abbrev pub fill : Symbolic → Name → Name → Name → ℕ → Option (List Expression × Code) → Result Applied RuleFault
fill S t u c n None = Err WrongHead
fill S t u c n (Some send) =
    when (nat_le 1 n && nat_le n 1000000 && not (is_in_use S.pending n)) BoxInUse (
    giving (item.Fill n t u send.0)
    record S { threads = with_code t send.1 S.threads; pending = with_numbers (key t u c) (numbers_at S.pending (key t u c) ++ n ∷ []) S.pending }
    )

-- take t u c: the oldest number of the key is taken, and nothing is known of the variables
abbrev pub take : Symbolic → Name → Name → Name → Option (List Name × Code) → List ℕ → Result Applied RuleFault
take S t u c None ns = Err WrongHead
take S t u c (Some receive) [] = Err NothingPending
take S t u c (Some receive) (n ∷ ns) =
    giving (item.Take u receive.0 n t)
    record S {
      threads = with_code u receive.1 S.threads;
      pending = with_numbers (key t u c) ns S.pending;
      facts = without_facts u receive.0 S.facts;
    }

-- pass t u c: no message pends under the key, and the variables have the values as folded at t
abbrev pub pass : Symbolic → Name → Name → Option (List Expression × Code) → Option (List Name × Code) → List ℕ → Result Applied RuleFault
pass S t u (Some send) (Some receive) [] =
    giving (item.Pass u receive.0 t send.0)
    record S {
      threads = with_code u receive.1 (with_code t send.1 S.threads);
      facts = with_values u receive.0 (map (folded S.facts t) send.0) S.facts;
    }
pass S t u (Some send) (Some receive) (n ∷ ns) = Err AlreadyPending
pass S t u send receive ns = Err WrongHead

-- t goes on by the truth of its guard, which must fold
abbrev pub decided : Symbolic → Name → Option Value → Code → Code → Result Applied RuleFault
decided S t None so otherwise = Err NotKnown
decided S t (Some v) so otherwise =
    Ok record { statement = None; next = record S { threads = with_code t (if is_true v then so else otherwise) S.threads } }

-- known t: an if is replaced by its branch, and a while by its body and itself, or by nothing
abbrev pub known : Symbolic → Name → Code → Result Applied RuleFault
known S t (If e a ⨾ rest) = decided S t (folded S.facts t e) (a then rest) rest
known S t (IfElse e a b ⨾ rest) = decided S t (folded S.facts t e) (a then rest) (b then rest)
known S t (While e b ⨾ rest) = decided S t (folded S.facts t e) (b then (While e b ⨾ rest)) rest
known S t code = Err WrongHead

-- one basic rule
abbrev pub apply : Symbolic → Basic → Result Applied RuleFault
apply S (basic.Assign t) = at_thread (code_at S t) (assign S t)
apply S (basic.Fill t u c n) = at_thread (code_at S t) (λ code. fill S t u c n (sends S u c code))
apply S (basic.Pass t u c) =
    at_thread (code_at S t) (λ code. at_thread (code_at S u) (λ other.
    pass S t u (sends S u c code) (receives S t c other) (numbers_at S.pending (key t u c))))
apply S (basic.Take t u c) =
    at_thread (code_at S u) (λ code. take S t u c (receives S t c code) (numbers_at S.pending (key t u c)))
apply S (basic.Known t) = at_thread (code_at S t) (known S t)
