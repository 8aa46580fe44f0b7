-- What holds of each attempt of a round, if it holds of those that make it up.
use Rattle.std.proofs.Common.{◌≡◌, Bool, true, false, ℕ, List, [], ◌∷◌, Option, Some, None, length, refl}
use Rattle.std.specs.Prelude.{if◌then◌else◌, not, ◌&&◌, cond, filter}
use Rattle.brisk_values.specs.declared.value.Value.TheVariants as value
use Rattle.brisk_values.specs.Names.{Name}
use Rattle.brisk_values.proofs.Changes.{both_true}
use Rattle.brisk_syntax.specs.declared.program.Program.{Program}
use Rattle.brisk_syntax.specs.Syntax.{Assign, Send, Recv, RecvAny, If, IfElse, While, For, Repeat, Code, done, ◌⨾◌}
use Rattle.brisk_facts.specs.Facts.{is_known}
use Rattle.brisk_facts.specs.Learning.{folded}
use Rattle.brisk_state.specs.Symbolic.{Symbolic}
use Rattle.brisk_derivation.specs.declared.steps.BasicStep.{BasicStep}
use Rattle.brisk_derivation.specs.declared.steps.BasicStep.TheVariants as basic
use Rattle.brisk_rules.specs.Standing.{resting, thread_names, is_movable, has_code, least_free, stands_at, thread_of}
use Rattle.brisk_rules.specs.Following.{Follow}
use Rattle.brisk_search.specs.Turns.{Attempt, stay, ◌otherwise◌, first_of}
use Rattle.brisk_search.specs.Drives.{Drive, in_turn}
use Rattle.brisk_search.specs.Tries.{Rule, while_rule, for_rule, repeat_rule, gather_rule, pick_rule, nine_tries, branch}
use Rattle.brisk_search.specs.Advance.{Around, acts, acts_for, actor, advance, basically, several, filled, threads_at}
use Rattle.brisk_search.specs.Passes.{round, without_owners}

-- a `for` without owners is for a set with code
abbrev pub NotIdle : Symbolic → Name → List Name → Type 0
NotIdle S s [] = has_code S s ≡ true
NotIdle S s (t ∷ ts) = Unit {0}

-- the rules with one premise
pub data IsRule (P : Program) (F : Follow) (S : Symbolic) : Rule → Type 0 where
  is_while : (t : Name) → IsRule P F S (while_rule F S t)
  is_for : (t s : Name) (ts : List Name) → NotIdle S s ts → IsRule P F S (for_rule F S t s ts)
  is_repeat : (t : Name) → IsRule P F S (repeat_rule F S t)
  is_gather : (t : Name) → IsRule P F S (gather_rule F S t)
  is_pick : (t : Name) → IsRule P F S (pick_rule P F S t)

-- What holds of attempts in a state: of staying, of one attempt and another, of basic rules, of nine tries and of branches.
pub record Holds (around : Around) (A : Symbolic → Attempt → Type 0) : Type 0 where
  pub staying : (S : Symbolic) → A S stay
  pub either : (S : Symbolic) (attempt next : Attempt) → A S attempt → A S next → A S (attempt otherwise next)
  pub basic : (S : Symbolic) (b : BasicStep) → A S (basically around S b)
  pub nine : (S : Symbolic) (rule : Rule) → IsRule around.program around.follows S rule → A S (nine_tries around.program around.below S rule)
  pub branch : (S : Symbolic) (t : Name) (d : Drive) → A S (branch around.below around.follows d S t)

module _ (around : Around) (A : Symbolic → Attempt → Type 0) (h : Holds around A) where
  any_first : {B : Type 0} (S : Symbolic) (attempt : B → Attempt) → ((b : B) → A S (attempt b)) → (bs : List B) → A S (first_of attempt bs)
  any_first S attempt g [] = h.staying S
  any_first S attempt g (b ∷ more) = h.either S (attempt b) (first_of attempt more) (g b) (any_first S attempt g more)

  fills : (S : Symbolic) (t u c : Name) (n : Option ℕ) → A S (filled around S t u c n)
  fills S t u c None = h.staying S
  fills S t u c (Some n) = h.basic S (basic.Fill t u c n)

  together : (S : Symbolic) (t s : Name) (ts : List Name) → A S (several (λ us. nine_tries around.program around.below S (for_rule around.follows S t s us)) ts)
  together S t s [] = h.staying S
  together S t s (u ∷ []) = h.staying S
  together S t s (u ∷ v ∷ us) = h.nine S (for_rule around.follows S t s (u ∷ v ∷ us)) (is_for t s (u ∷ v ∷ us) tt)

  whiles : (S : Symbolic) (t : Name) (f : Bool) →
      A S (if f then basically around S (basic.Known t) else (nine_tries around.program around.below S (while_rule around.follows S t) otherwise basically around S (basic.Known t)))
  whiles S t true = h.basic S (basic.Known t)
  whiles S t false = h.either S (nine_tries around.program around.below S (while_rule around.follows S t)) (basically around S (basic.Known t)) (h.nine S (while_rule around.follows S t) (is_while t)) (h.basic S (basic.Known t))

  forks : (S : Symbolic) (t : Name) (d : Drive) → A S (basically around S (basic.Known t) otherwise branch around.below around.follows d S t)
  forks S t d = h.either S (basically around S (basic.Known t)) (branch around.below around.follows d S t) (h.basic S (basic.Known t)) (h.branch S t d)

  pub acting : (S : Symbolic) (t : Name) (code : Code) → A S (acts around S t code)
  acting S t done = h.staying S
  acting S t (Assign x e ⨾ rest) = h.basic S (basic.Assign t)
  acting S t (Send c es u ⨾ rest) =
      h.either S (basically around S (basic.Pass t (thread_of u) c)) (filled around S t (thread_of u) c (least_free S.pending))
      (h.basic S (basic.Pass t (thread_of u) c)) (fills S t (thread_of u) c (least_free S.pending))
  acting S t (Recv c xs u ⨾ rest) = h.basic S (basic.Take (thread_of u) t c)
  acting S t (If e a ⨾ rest) = forks S t (around.side t rest)
  acting S t (IfElse e a b ⨾ rest) = forks S t (around.side t rest)
  acting S t (While e a ⨾ rest) = whiles S t (is_known (folded S.facts t e) (value.Bool false))
  acting S t (For v s k a ⨾ rest) =
      h.either S (nine_tries around.program around.below S (for_rule around.follows S t s (t ∷ []))) (several (λ us. nine_tries around.program around.below S (for_rule around.follows S t s us)) (threads_at S s))
      (h.nine S (for_rule around.follows S t s (t ∷ [])) (is_for t s (t ∷ []) tt)) (together S t s (threads_at S s))
  acting S t (Repeat s k a ⨾ rest) =
      h.either S (nine_tries around.program around.below S (gather_rule around.follows S t)) (nine_tries around.program around.below S (repeat_rule around.follows S t))
      (h.nine S (gather_rule around.follows S t) (is_gather t)) (h.nine S (repeat_rule around.follows S t) (is_repeat t))
  acting S t (RecvAny c xs v s a ⨾ rest) = h.nine S (pick_rule around.program around.follows S t) (is_pick t)

  pub for_another : (S : Symbolic) (o : Option Name) → A S (acts_for around S o)
  for_another S None = h.staying S
  for_another S (Some u) = acting S u (stands_at S u)

  one_set : (S : Symbolic) (s : Name) (ss : List Name) → A S (first_of (without_owners around S) (filter (λ u. not (is_movable S u) && has_code S u) ss)) → (b : Bool) → (not (is_movable S s) && has_code S s) ≡ b →
      A S (first_of (without_owners around S) (cond b (s ∷ filter (λ u. not (is_movable S u) && has_code S u) ss) (filter (λ u. not (is_movable S u) && has_code S u) ss)))
  one_set S s ss g true e =
      h.either S (without_owners around S s) (first_of (without_owners around S) (filter (λ u. not (is_movable S u) && has_code S u) ss))
      (h.nine S (for_rule around.follows S s s []) (is_for s s [] (both_true (not (is_movable S s)) (has_code S s) e).1)) g
  one_set S s ss g false e = g

  sets_first : (S : Symbolic) (ss : List Name) → A S (first_of (without_owners around S) (filter (λ u. not (is_movable S u) && has_code S u) ss))
  sets_first S [] = h.staying S
  sets_first S (s ∷ ss) = one_set S s ss (sets_first S ss) (not (is_movable S s) && has_code S s) refl

  on_sets : (S : Symbolic) (f : Bool) → A S (if f then first_of (without_owners around S) (resting S) else stay)
  on_sets S true = sets_first S (thread_names S)
  on_sets S false = h.staying S

  -- then it holds of each round
  pub in_round : (d : Drive) (S : Symbolic) → A S (round around d S)
  in_round d S =
      h.either S (first_of (advance around S) (in_turn d S)) (if d.sets then first_of (without_owners around S) (resting S) else stay)
      (any_first S (advance around S) (λ t. for_another S (actor around (length S.threads) S [] t)) (in_turn d S)) (on_sets S d.sets)
