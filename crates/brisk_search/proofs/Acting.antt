-- What a thread does in its turn, by what its head asks for.
use Rattle.std.proofs.Common.{◌≡◌, ℕ, suc, zero, Bool, true, false, Option, Some, None, List, [], ◌∷◌, length, refl, sym, ap, ◌∙◌}
use Rattle.std.specs.Prelude.{if◌then◌else◌}
use Rattle.brisk_values.specs.declared.value.Value.TheVariants as value
use Rattle.brisk_values.specs.Names.{Name}
use Rattle.brisk_syntax.specs.Segments.{rest_of}
use Rattle.brisk_syntax.specs.Syntax.{Assign, Send, Recv, RecvAny, If, IfElse, While, For, Repeat, Code, done, ◌⨾◌}
use Rattle.brisk_syntax.specs.Typing.{is_among}
use Rattle.brisk_facts.specs.Facts.{is_known}
use Rattle.brisk_facts.specs.Learning.{folded}
use Rattle.brisk_state.specs.Symbolic.{Symbolic, code_at}
use Rattle.brisk_derivation.specs.declared.steps.BasicStep.TheVariants as basic
use Rattle.brisk_rules.specs.Standing.{least_free, stands_at, thread_of}
use Rattle.brisk_search.specs.declared.drive.Comer.{Comer}
use Rattle.brisk_search.specs.declared.drive.Comer.TheVariants.{Thread, Set}
use Rattle.brisk_search.specs.declared.standing.Head.{Head}
use Rattle.brisk_search.specs.declared.standing.Head.TheVariants as head
use Rattle.brisk_search.specs.Advance.{Around, actor, acts, acts_for, at_code, basically, filled, passed_on, several, threads_at, waits_for}
use Rattle.brisk_search.specs.Passes.{without_owners}
use Rattle.brisk_search.specs.Tries.{branch, nine_tries, while_rule, for_rule, repeat_rule, gather_rule, pick_rule}
use Rattle.brisk_search.specs.Turns as turns
use Rattle.brisk_search.specs.Turns.{RulesLeft, Failures, Attempt, stay, first_of, where_it_stays, ◌otherwise◌}
use Rattle.brisk_search.specs.Views.{asked_by, asked_in, attempt_of, branch_at, first_rule, for_several, head_in, is_fork, later_rules}
use Rattle.brisk_search.proofs.Meeting.{then_stay}

-- what is left to do at a head after the basic rule that comes first
abbrev pub after_first : Around → Symbolic → Name → Head → Attempt
after_first A S t h = if is_fork h then branch_at A S t else later_rules A S t h

nothing_more : (t : turns.Turn) → where_it_stays (stay otherwise stay) t ≡ t
nothing_more (turns.Goes step items S left) = refl
nothing_more (turns.Stays fs left) = refl
nothing_more turns.Spent = refl

one_more : (f : Attempt) (t : turns.Turn) → where_it_stays f (where_it_stays stay t) ≡ where_it_stays f t
one_more f t = ap (where_it_stays f) (then_stay t)

by_while : (A : Around) (S : Symbolic) (t : Name) (b : Bool) (fs : Failures) (left : RulesLeft) →
    (if b then basically A S (basic.Known t) else (nine_tries A.program A.below S (while_rule A.follows S t) otherwise basically A S (basic.Known t))) fs left
    ≡ (first_rule A S t (head.While b) otherwise later_rules A S t (head.While b)) fs left
by_while A S t true fs left = sym (nothing_more (basically A S (basic.Known t) fs left))
by_while A S t false fs left = sym (one_more (basically A S (basic.Known t)) (nine_tries A.program A.below S (while_rule A.follows S t) fs left))

by_for : (A : Around) (S : Symbolic) (t s : Name) (ts : List Name) (x : turns.Turn) →
    where_it_stays (several (λ us. nine_tries A.program A.below S (for_rule A.follows S t s us)) ts) x
    ≡ where_it_stays stay (where_it_stays (first_of (nine_tries A.program A.below S) (for_several A.program A.follows S t s ts)) x)
by_for A S t s [] x = sym (then_stay (where_it_stays stay x))
by_for A S t s (u ∷ []) x = sym (then_stay (where_it_stays stay x))
by_for A S t s (u ∷ w ∷ ts) (turns.Goes step items S' left) = refl
by_for A S t s (u ∷ w ∷ ts) (turns.Stays fs left) = let z = nine_tries A.program A.below S (for_rule A.follows S t s (u ∷ w ∷ ts)) fs left in sym (then_stay (where_it_stays stay z) ∙ then_stay z)
by_for A S t s (u ∷ w ∷ ts) turns.Spent = refl

two_more : (f g : Attempt) (t : turns.Turn) → where_it_stays g t ≡ where_it_stays stay (where_it_stays (g otherwise stay) t)
two_more f g (turns.Goes step items S left) = refl
two_more f g (turns.Stays fs left) = sym (then_stay (where_it_stays stay (g fs left)) ∙ then_stay (g fs left))
two_more f g turns.Spent = refl

-- at code it does what its head asks for
pub acts_by : (A : Around) (S : Symbolic) (t : Name) (c : Code) → stands_at S t ≡ c → (fs : Failures) (left : RulesLeft) →
    acts A S t c fs left ≡ (first_rule A S t (head_in S.facts t c) otherwise after_first A S t (head_in S.facts t c)) fs left
acts_by A S t done at fs left = refl
acts_by A S t (Assign x e ⨾ rest) at fs left = sym (nothing_more (basically A S (basic.Assign t) fs left))
acts_by A S t (Send c es u ⨾ rest) at fs left = sym (nothing_more ((basically A S (basic.Pass t (thread_of u) c) otherwise filled A S t (thread_of u) c (least_free S.pending)) fs left))
acts_by A S t (Recv c xs u ⨾ rest) at fs left = sym (nothing_more (basically A S (basic.Take (thread_of u) t c) fs left))
acts_by A S t (RecvAny c xs v s b ⨾ rest) at fs left =
    let z = nine_tries A.program A.below S (pick_rule A.program A.follows S t) fs left in sym (then_stay (where_it_stays stay z) ∙ then_stay z)
acts_by A S t (If e a ⨾ rest) at fs left =
    λ i. where_it_stays (branch A.below A.follows (A.side t (rest_of (sym at i))) S t) (basically A S (basic.Known t) fs left)
acts_by A S t (IfElse e a b ⨾ rest) at fs left =
    λ i. where_it_stays (branch A.below A.follows (A.side t (rest_of (sym at i))) S t) (basically A S (basic.Known t) fs left)
acts_by A S t (While e b ⨾ rest) at fs left = by_while A S t (is_known (folded S.facts t e) (value.Bool false)) fs left
acts_by A S t (For v s k b ⨾ rest) at fs left = by_for A S t s (threads_at S s) (nine_tries A.program A.below S (for_rule A.follows S t s (t ∷ [])) fs left)
acts_by A S t (Repeat s k b ⨾ rest) at fs left = two_more stay (nine_tries A.program A.below S (repeat_rule A.follows S t)) (nine_tries A.program A.below S (gather_rule A.follows S t) fs left)

-- ---- who acts, where only the program and what follows are the same

module _ (A B : Around) (program : A.program ≡ B.program) (follows : A.follows ≡ B.follows) where
  waits_alike : (S : Symbolic) (t : Name) (c : Code) → waits_for A S t c ≡ waits_for B S t c
  waits_alike S t c = λ i. waits_for record { program = program i; below = None; side = A.side; follows = follows i } S t c

  actor_alike : (n : ℕ) (S : Symbolic) (waiting : List Name) (t : Name) → actor A n S waiting t ≡ actor B n S waiting t
  actor_alike zero S waiting t = refl
  actor_alike (suc n) S waiting t = by (actor_alike n S (t ∷ waiting)) (code_at S t)
    where
      passed : ((u : Name) → actor A n S (t ∷ waiting) u ≡ actor B n S (t ∷ waiting) u) → (o : Option Name) → passed_on (actor A n S (t ∷ waiting)) waiting t o ≡ passed_on (actor B n S (t ∷ waiting)) waiting t o
      passed more None = refl
      passed more (Some u) = ap (λ z. if is_among waiting u then None else z) (more u)

      by : ((u : Name) → actor A n S (t ∷ waiting) u ≡ actor B n S (t ∷ waiting) u) → (o : Option Code) →
          at_code o (λ code. passed_on (actor A n S (t ∷ waiting)) waiting t (waits_for A S t code)) ≡ at_code o (λ code. passed_on (actor B n S (t ∷ waiting)) waiting t (waits_for B S t code))
      by more None = refl
      by more (Some done) = refl
      by more (Some (s ⨾ c)) = ap (λ o. passed_on (actor A n S (t ∷ waiting)) waiting t o) (waits_alike S t (s ⨾ c)) ∙ passed more (waits_for B S t (s ⨾ c))

  pub asked_alike : (S : Symbolic) (c : Comer) → asked_in A S c ≡ asked_in B S c
  asked_alike S (Thread t) = ap (asked_by S t) (actor_alike (length S.threads) S [] t)
  asked_alike S (Set s) = refl

-- the attempt of who comes in turn is what the head asks for of who acts
pub comes_by : (A : Around) (S : Symbolic) (c : Comer) (t : Name) (h : Head) → (t, h) ≡ asked_in A S c → (fs : Failures) (left : RulesLeft) →
    attempt_of A S c fs left ≡ (first_rule A S t h otherwise after_first A S t h) fs left
comes_by A S (Set s) t h e fs left =
    sym (then_stay (where_it_stays stay z) ∙ then_stay z) ∙ (λ i. (first_rule A S (sym e i).0 (sym e i).1 otherwise after_first A S (sym e i).0 (sym e i).1) fs left)
  where
    z : turns.Turn
    z = without_owners A S s fs left
comes_by A S (Thread u) t h e fs left = by (actor A (length S.threads) S [] u) e
  where
    by : (o : Option Name) → (t, h) ≡ asked_by S u o → acts_for A S o fs left ≡ (first_rule A S t h otherwise after_first A S t h) fs left
    by None f = λ i. (first_rule A S (sym f i).0 (sym f i).1 otherwise after_first A S (sym f i).0 (sym f i).1) fs left
    by (Some w) f = acts_by A S w (stands_at S w) refl fs left ∙ (λ i. (first_rule A S (sym f i).0 (sym f i).1 otherwise after_first A S (sym f i).0 (sym f i).1) fs left)
