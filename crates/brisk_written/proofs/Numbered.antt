-- The numbers of boxes in a derivation that doesn't fail are small.
use Rattle.std.proofs.Common.{◌≡◌, ℕ, ◌+◌, ◌≤◌, List, Option, Some, None}
use Rattle.std.specs.Prelude.{Result, Ok, ◌&&◌, not, nat_le}
use Rattle.std.proofs.lemmas.Bool.{leb-true}
use Rattle.brisk_values.specs.Names.{Name}
use Rattle.brisk_values.proofs.Changes.{both_true}
use Rattle.brisk_syntax.specs.declared.program.Program.{Program}
use Rattle.brisk_syntax.specs.Syntax.{Expression, Code}
use Rattle.brisk_state.specs.Symbolic.{Symbolic, code_at, is_in_use}
use Rattle.brisk_basic.specs.declared.rule.Basic.{Basic as BasicRule}
use Rattle.brisk_basic.specs.declared.rule.Basic.TheVariants as rule
use Rattle.brisk_basic.specs.declared.rule.RuleFault.{RuleFault}
use Rattle.brisk_basic.specs.declared.rule.RuleFault.TheVariants.{BoxInUse}
use Rattle.brisk_basic.specs.Basic.{Applied, apply, fill, sends}
use Rattle.brisk_basic.specs.Outcomes.{told_as}
use Rattle.brisk_derivation.specs.Steps.{Step, Basic, Branch, While, For, Repeat, Gather, Pick, Steps, no_steps, ◌▷◌}
use Rattle.brisk_rules.specs.declared.why.Why.TheVariants.{Rule}
use Rattle.brisk_rules.specs.Derives.{Derived, Premise, apply_quietly, by_branch, by_loop, derive, derive_all, nested, rule_of, told_at}
use Rattle.brisk_rules.specs.Following.{Follow, follows_in, loose_fault}
use Rattle.brisk_rules.specs.Rules.{Entered, Outcome, Parted, enter_branch, enter_for, enter_gather, enter_pick, enter_repeat, enter_while, fault_or}
use Rattle.brisk_rules.proofs.Fulfilled.{and_then_ok, told_ok, when_ok}
use Rattle.brisk_sound.proofs.Applied.{at_code}

-- the numbers with which the rules of a derivation fill boxes are as asked
module _ (N : ℕ → Type 0) where
  abbrev pub NumberedRule : BasicRule → Type 0
  NumberedRule (rule.Fill t u c n) = N n
  NumberedRule b = Unit {0}

  abbrev mutual
    pub NumberedStep : Step → Type 0
    NumberedStep (Basic b) = NumberedRule (rule_of b)
    NumberedStep (Branch t a b) = Numbered a × Numbered b
    NumberedStep (While t drops a) = Numbered a
    NumberedStep (For s ts drops a) = Numbered a
    NumberedStep (Repeat t drops a) = Numbered a
    NumberedStep (Gather t drops a) = Numbered a
    NumberedStep (Pick t drops a) = Numbered a

    pub Numbered : Steps → Type 0
    Numbered no_steps = Unit {0}
    Numbered (s ▷ rest) = NumberedStep s × Numbered rest

-- the number of a box that a rule fills is small
abbrev pub IsSmall : ℕ → Type 0
IsSmall n = n ≤ 1000000

fill_small : (S : Symbolic) (t u C : Name) (n : ℕ) (o : Option (List Expression × Code)) (r : Applied) → fill S t u C n o ≡ Ok r → IsSmall n
fill_small S t u C n None r g = cc
fill_small S t u C n (Some p) r g =
    let k = when_ok (nat_le 1 n && nat_le n 1000000 && not (is_in_use S.pending n)) BoxInUse _ r g in
    let b = both_true (nat_le 1 n && nat_le n 1000000) (not (is_in_use S.pending n)) k.0 in
    leb-true n 1000000 (both_true (nat_le 1 n) (nat_le n 1000000) b.0).1

applied_small : (S : Symbolic) (b : BasicRule) (r : Applied) → apply S b ≡ Ok r → NumberedRule IsSmall b
applied_small S (rule.Assign t) r g = tt
applied_small S (rule.Fill t u c n) r g =
    let x = at_code (code_at S t) (λ code. fill S t u c n (sends S u c code)) r g in
    fill_small S t u c n (sends S u c x.0) r x.2
applied_small S (rule.Pass t u c) r g = tt
applied_small S (rule.Take t u c) r g = tt
applied_small S (rule.Known t) r g = tt

-- the premise of a rule that didn't fail
premise_of : (deep line : ℕ) (entry : Outcome Entered) (premise : Entered → Premise) (d : Derived) → by_loop deep line entry premise ≡ Ok d → (r : Entered) × (inner : Derived) × (premise r (line + 1) r.start ≡ Ok inner)
premise_of deep line entry premise d e =
    let a = and_then_ok (told_at line (nested deep entry)) _ d e in
    let b = and_then_ok (premise a.0 (line + 1) a.0.start) _ d a.2 in
    (a.0, b.0, b.1)

-- the sides of a branch that didn't fail
record SidesOf (line : ℕ) (one two : Premise) : Type 0 where
  rule : Parted
  first : Derived
  second : Derived
  derives : one (line + 1) rule.first ≡ Ok first
  derives_second : two (first.line + 1) rule.second ≡ Ok second

sides_of : (deep line : ℕ) (entry : Outcome Parted) (one two : Premise) (d : Derived) → by_branch deep line entry one two ≡ Ok d → SidesOf line one two
sides_of deep line entry one two d e =
    let a = and_then_ok (told_at line (nested deep entry)) _ d e in
    let b = and_then_ok (one (line + 1) a.0.first) _ d a.2 in
    let c = and_then_ok (two (b.0.line + 1) a.0.second) _ d b.2 in
    record { rule = a.0; first = b.0; second = c.0; derives = b.1; derives_second = c.1 }

mutual
  step_small : (P : Program) (deep : ℕ) (F : Follow) (A : Step) (line : ℕ) (S : Symbolic) (d : Derived) → derive P deep F A line S ≡ Ok d → NumberedStep IsSmall A
  step_small P deep F (Basic b) line S d e =
      let a = and_then_ok (told_at line (apply_quietly P F S (rule_of b))) _ d e in
      let o = and_then_ok (told_as Rule (apply S (rule_of b))) (fault_or (loose_fault P F S (rule_of b))) a.0 (told_ok (λ why. record { line = line; why = why }) (apply_quietly P F S (rule_of b)) a.0 a.1) in
      applied_small S (rule_of b) o.0 (told_ok Rule (apply S (rule_of b)) o.0 o.1)
  step_small P deep F (Branch t a b) line S d e =
      let x = sides_of deep line (enter_branch S t) (derive_all P (deep + 1) F a) (derive_all P (deep + 1) F b) d e in
      (steps_small P (deep + 1) F a (line + 1) x.rule.first x.first x.derives, steps_small P (deep + 1) F b (x.first.line + 1) x.rule.second x.second x.derives_second)
  step_small P deep F (While t drops a) line S d e =
      let x = premise_of deep line (enter_while S t drops) (λ r. derive_all P (deep + 1) (follows_in S r F) a) d e in
      steps_small P (deep + 1) (follows_in S x.0 F) a (line + 1) x.0.start x.1 x.2
  step_small P deep F (For s ts drops a) line S d e =
      let x = premise_of deep line (enter_for S s ts drops) (λ r. derive_all P (deep + 1) (follows_in S r F) a) d e in
      steps_small P (deep + 1) (follows_in S x.0 F) a (line + 1) x.0.start x.1 x.2
  step_small P deep F (Repeat t drops a) line S d e =
      let x = premise_of deep line (enter_repeat S t drops) (λ r. derive_all P (deep + 1) (follows_in S r F) a) d e in
      steps_small P (deep + 1) (follows_in S x.0 F) a (line + 1) x.0.start x.1 x.2
  step_small P deep F (Gather t drops a) line S d e =
      let x = premise_of deep line (enter_gather S t drops) (λ r. derive_all P (deep + 1) (follows_in S r F) a) d e in
      steps_small P (deep + 1) (follows_in S x.0 F) a (line + 1) x.0.start x.1 x.2
  step_small P deep F (Pick t drops a) line S d e =
      let x = premise_of deep line (enter_pick P S t drops) (λ r. derive_all P (deep + 1) (follows_in S r F) a) d e in
      steps_small P (deep + 1) (follows_in S x.0 F) a (line + 1) x.0.start x.1 x.2

  pub steps_small : (P : Program) (deep : ℕ) (F : Follow) (D : Steps) (line : ℕ) (S : Symbolic) (d : Derived) → derive_all P deep F D line S ≡ Ok d → Numbered IsSmall D
  steps_small P deep F no_steps line S d e = tt
  steps_small P deep F (A ▷ rest) line S d e =
      let a = and_then_ok (derive P deep F A line S) _ d e in
      let b = and_then_ok (derive_all P deep F rest a.0.line a.0.state) _ d a.2 in
      (step_small P deep F A line S a.0 a.1, steps_small P deep F rest a.0.line a.0.state b.0 b.1)
