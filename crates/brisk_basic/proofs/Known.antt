-- Where the guard is known, the rule gives the code that it decides on.
use Rattle.std.proofs.Common.{◌≡◌, Bool, true, false, Some, None, Ok, refl, sym, ap, ◌∙◌}
use Rattle.std.specs.Prelude.{if◌then◌else◌}
use Rattle.std.proofs.lemmas.Option.{same_Some}
use Rattle.brisk_values.specs.declared.value.Value.{Value}
use Rattle.brisk_values.specs.Names.{Name}
use Rattle.brisk_syntax.specs.Segments.{head_of}
use Rattle.brisk_syntax.specs.Stores.{is_true}
use Rattle.brisk_syntax.specs.Syntax.{Expression, Assign, Send, Recv, RecvAny, If, IfElse, While, For, Repeat, Code, done, ◌⨾◌, ◌then◌}
use Rattle.brisk_facts.specs.Learning.{folded}
use Rattle.brisk_state.specs.Symbolic.{Symbolic, with_code}
use Rattle.brisk_basic.specs.Basic.{decided, known}
use Rattle.brisk_basic.specs.Steps.{decided_by, guard_of}

module _ (S : Symbolic) (t : Name) (v : Value) where
  -- the state behind the guard
  abbrev behind : Code → Symbolic
  behind code = record S { threads = with_code t code S.threads }

  picked : (code so otherwise : Code) → ((b : Bool) → (if b then so else otherwise) ≡ decided_by b code) → (e f : Expression) → Some f ≡ Some e → Some v ≡ folded S.facts t f →
      decided S t (folded S.facts t e) so otherwise ≡ Ok record { statement = None; next = behind (decided_by (is_true v) code) }
  picked code so otherwise sides e f same folds =
      ap (λ o. decided S t o so otherwise) (ap (folded S.facts t) (sym (same_Some f e same)) ∙ sym folds)
      ∙ ap (λ d. Ok record { statement = None; next = behind d }) (sides (is_true v))

  if_sides : (e : Expression) (a rest : Code) (b : Bool) → (if b then (a then rest) else rest) ≡ decided_by b (If e a ⨾ rest)
  if_sides e a rest true = refl
  if_sides e a rest false = refl

  else_sides : (e : Expression) (a d rest : Code) (b : Bool) → (if b then (a then rest) else (d then rest)) ≡ decided_by b (IfElse e a d ⨾ rest)
  else_sides e a d rest true = refl
  else_sides e a d rest false = refl

  while_sides : (e : Expression) (a rest : Code) (b : Bool) → (if b then (a then (While e a ⨾ rest)) else rest) ≡ decided_by b (While e a ⨾ rest)
  while_sides e a rest true = refl
  while_sides e a rest false = refl

  pub known_gives : (code : Code) (f : Expression) → Some f ≡ guard_of (head_of code) → Some v ≡ folded S.facts t f →
      known S t code ≡ Ok record { statement = None; next = behind (decided_by (is_true v) code) }
  known_gives (If e a ⨾ rest) f g h = picked (If e a ⨾ rest) (a then rest) rest (if_sides e a rest) e f g h
  known_gives (IfElse e a d ⨾ rest) f g h = picked (IfElse e a d ⨾ rest) (a then rest) (d then rest) (else_sides e a d rest) e f g h
  known_gives (While e a ⨾ rest) f g h = picked (While e a ⨾ rest) (a then (While e a ⨾ rest)) rest (while_sides e a rest) e f g h
  known_gives done f g h = cc
  known_gives (Assign x e ⨾ rest) f g h = cc
  known_gives (Send c es u ⨾ rest) f g h = cc
  known_gives (Recv c xs u ⨾ rest) f g h = cc
  known_gives (RecvAny c xs w s b ⨾ rest) f g h = cc
  known_gives (For w s k b ⨾ rest) f g h = cc
  known_gives (Repeat s k b ⨾ rest) f g h = cc
