-- In a program without a loose channel the tests for loose channels pass, and what follows makes no difference.
use Rattle.std.proofs.Common.{◌≡◌, ℕ, ◌+◌, Bool, true, false, List, [], ◌∷◌, None, refl, sym, ap, ◌∙◌}
use Rattle.std.specs.Prelude.{◌&&◌, ◌||◌, not, if◌then◌else◌, Result, Ok, Err, length, nat_le}
use Rattle.std.specs.List.{list_any}
use Rattle.brisk_values.specs.Names.{Name, same_name}
use Rattle.brisk_syntax.specs.declared.program.Channel.{Channel}
use Rattle.brisk_syntax.specs.declared.program.Program.{Program}
use Rattle.brisk_syntax.specs.Declarations.{is_loose}
use Rattle.brisk_seq.specs.Items.{◌followed_by◌}
use Rattle.brisk_state.specs.Symbolic.{Symbolic, key, numbers_at, thread_named}
use Rattle.brisk_derivation.specs.declared.fault.SideFault.TheVariants.{ManyPending}
use Rattle.brisk_basic.specs.declared.rule.Basic.{Basic as BasicRule}
use Rattle.brisk_basic.specs.declared.rule.Basic.TheVariants as rule
use Rattle.brisk_basic.specs.declared.rule.RuleFault.{RuleFault}
use Rattle.brisk_basic.specs.Basic.{Applied, apply}
use Rattle.brisk_basic.specs.Outcomes.{and_then, told_as}
use Rattle.brisk_derivation.specs.Steps.{Step, Basic, Branch, While, For, Repeat, Gather, Pick, Steps, no_steps, ◌▷◌}
use Rattle.brisk_rules.specs.declared.why.Why.TheVariants.{Rule}
use Rattle.brisk_rules.specs.Derives.{Derived, Failure, told_at, items_in, rule_of, apply_quietly, by_loop, by_branch, derive, derive_all}
use Rattle.brisk_rules.specs.Following.{Follow, quiet_from, behind_head, loose_fault, follows_in}
use Rattle.brisk_rules.proofs.Fulfilled.{and_then_ok, told_ok}
use Rattle.brisk_sound.proofs.Outcomes.{no_fault}
use Rattle.brisk_rules.specs.Rules.{Outcome, fault_or, unless, first_fault, code_in, enter_while, enter_for, enter_repeat, enter_gather, enter_pick, enter_branch}
use Rattle.std.proofs.Math.Bool.{and-false}

-- no channel is loose
abbrev pub IsStrict : Program → Type 0
IsStrict P = (c : Name) → is_loose P.channels c ≡ false

pub none_loose : (channels : List Channel) → not (list_any (λ d. d.loose) channels) ≡ true → (c : Name) → is_loose channels c ≡ false
none_loose [] e c = refl
none_loose (d ∷ ds) e c =
    elim d.loose as (λ b. not (b || list_any (λ d. d.loose) ds) ≡ true → ((same_name c d.name && b) || is_loose ds c) ≡ false) [
      | true ↦ λ g. cc
      | false ↦ λ g. ap (λ b. b || is_loose ds c) (and-false (same_name c d.name)) ∙ none_loose ds g c
    ] e

pub never_faults : (P : Program) → IsStrict P → (F : Follow) (S : Symbolic) (b : BasicRule) → loose_fault P F S b ≡ None
never_faults P strict F S (rule.Take t u c) =
    λ i. if strict c i then first_fault (unless (nat_le (length (numbers_at S.pending (key t u c))) 1) ManyPending ∷ quiet_from F S (code_in (thread_named S.threads t)) t u c ∷ []) else None
never_faults P strict F S (rule.Pass t u c) = λ i. if strict c i then quiet_from F S (behind_head (code_in (thread_named S.threads t))) t u c else None
never_faults P strict F S (rule.Assign t) = refl
never_faults P strict F S (rule.Fill t u c n) = refl
never_faults P strict F S (rule.Known t) = refl

-- a basic rule is as without them
pub strict_applies : (P : Program) → IsStrict P → (F : Follow) (S : Symbolic) (b : BasicRule) → apply_quietly P F S b ≡ told_as Rule (apply S b)
strict_applies P strict F S b = (λ i. and_then (told_as Rule (apply S b)) (fault_or (never_faults P strict F S b i))) ∙ whole (apply S b)
  where
    whole : (o : Result Applied RuleFault) → and_then (told_as Rule o) (λ r. Ok r) ≡ told_as Rule o
    whole (Ok r) = refl
    whole (Err why) = refl

-- what a basic step derives, from what its rule gives
abbrev pub derived_by : ℕ → Outcome Applied → Result Derived Failure
derived_by line o = and_then (told_at line o) (λ r. Ok record { items = items_in r.statement; state = r.next; line = line + 1 })

-- and so is a basic step
pub strict_step : (P : Program) → IsStrict P → (F : Follow) (line : ℕ) (S : Symbolic) (b : BasicRule) → derived_by line (apply_quietly P F S b) ≡ derived_by line (told_as Rule (apply S b))
strict_step P strict F line S b = λ i. derived_by line (strict_applies P strict F S b i)

mutual
  same_step : (P : Program) → IsStrict P → (F F' : Follow) (A : Step) (deep line : ℕ) (S : Symbolic) → derive P deep F A line S ≡ derive P deep F' A line S
  same_step P strict F F' (Basic b) deep line S = strict_step P strict F line S (rule_of b) ∙ sym (strict_step P strict F' line S (rule_of b))
  same_step P strict F F' (Branch t a b) deep line S = λ i. by_branch deep line (enter_branch S t) (λ l Z. same_steps P strict F F' a (deep + 1) l Z i) (λ l Z. same_steps P strict F F' b (deep + 1) l Z i)
  same_step P strict F F' (While t drops a) deep line S = λ i. by_loop deep line (enter_while S t drops) (λ r l Z. same_steps P strict (follows_in S r F) (follows_in S r F') a (deep + 1) l Z i)
  same_step P strict F F' (For s ts drops a) deep line S = λ i. by_loop deep line (enter_for S s ts drops) (λ r l Z. same_steps P strict (follows_in S r F) (follows_in S r F') a (deep + 1) l Z i)
  same_step P strict F F' (Repeat t drops a) deep line S = λ i. by_loop deep line (enter_repeat S t drops) (λ r l Z. same_steps P strict (follows_in S r F) (follows_in S r F') a (deep + 1) l Z i)
  same_step P strict F F' (Gather t drops a) deep line S = λ i. by_loop deep line (enter_gather S t drops) (λ r l Z. same_steps P strict (follows_in S r F) (follows_in S r F') a (deep + 1) l Z i)
  same_step P strict F F' (Pick t drops a) deep line S = λ i. by_loop deep line (enter_pick P S t drops) (λ r l Z. same_steps P strict (follows_in S r F) (follows_in S r F') a (deep + 1) l Z i)

  -- what steps derive doesn't depend on what follows
  pub same_steps : (P : Program) → IsStrict P → (F F' : Follow) (D : Steps) (deep line : ℕ) (S : Symbolic) → derive_all P deep F D line S ≡ derive_all P deep F' D line S
  same_steps P strict F F' no_steps deep line S = refl
  same_steps P strict F F' (A ▷ rest) deep line S =
      λ i. and_then (same_step P strict F F' A deep line S i) (λ d. and_then (same_steps P strict F F' rest deep d.line d.state i) (λ e. Ok record e { items = d.items followed_by e.items }))

-- a basic rule that applies with the tests for loose channels applies without them
pub quietly_ok : (P : Program) (F : Follow) (S : Symbolic) (b : BasicRule) (r : Applied) → apply_quietly P F S b ≡ Ok r → apply S b ≡ Ok r
quietly_ok P F S b r e =
    let o = and_then_ok (told_as Rule (apply S b)) (fault_or (loose_fault P F S b)) r e in
    told_ok Rule (apply S b) r (o.1 ∙ ap Ok (no_fault (loose_fault P F S b) o.0 r o.2).1)

-- and the other way round, where they pass
pub quietly : (P : Program) (F : Follow) (S : Symbolic) (b : BasicRule) (r : Applied) → loose_fault P F S b ≡ None → apply S b ≡ Ok r → apply_quietly P F S b ≡ Ok r
quietly P F S b r none e = ap (λ (x : Result Applied RuleFault). and_then (told_as Rule x) (fault_or (loose_fault P F S b))) e ∙ ap (λ f. fault_or f r) none
