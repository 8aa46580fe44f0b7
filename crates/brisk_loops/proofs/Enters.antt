-- How a rule is entered on a walk.
use Rattle.std.proofs.Common.{◌≡◌, ℕ, zero, suc, ◌+◌, ◌^◌, ◌<◌, ◌≤◌, get_or, Bool, true, false, List, [], ◌∷◌, ◌++◌, map, reverse, length, refl, sym, ap, ◌∙◌, subst, arith}
use Rattle.std.proofs.lemmas.List.{length-append, length-reverse, length-map, map-append, reverse-append}
use Rattle.std.specs.Prelude.{Ok, Err, Some, None, if◌then◌else◌, nat_eq, nat_lt, option_map, slice_get}
use Rattle.brisk_syntax.specs.declared.program.Program.{Program}
use Rattle.brisk_seq.specs.Items.{Items, nothing}
use Rattle.brisk_state.specs.Symbolic.{Symbolic}
use Rattle.brisk_basic.specs.Outcomes.{when, and_then}
use Rattle.brisk_derivation.specs.declared.fault.SideFault.TheVariants.{TooDeep}
use Rattle.brisk_derivation.specs.Seen.{step_of}
use Rattle.brisk_derivation.specs.Steps.{Step}
use Rattle.brisk_loops.specs.declared.fault.AcceptFault.{AcceptFault}
use Rattle.brisk_loops.specs.declared.fault.AcceptFault.TheVariants.{Bad, NoMemory as no_memory}
use Rattle.brisk_loops.specs.declared.fault.Refusal.{Refusal}
use Rattle.brisk_loops.specs.declared.fault.Refusal.TheVariants.{Because, NoMemory}
use Rattle.brisk_loops.specs.declared.rule.Rule.{Rule}
use Rattle.brisk_loops.specs.declared.rule.Side.{Side as WhichSide}
use Rattle.brisk_loops.specs.declared.rule.Side.TheVariants as side
use Rattle.std.proofs.lemmas.Bool.{eqb-false, eqb-true}
use Rattle.std.proofs.lemmas.Option.{same_Some, slice_get-get_or, slice_get_past}
use Rattle.brisk_rules.specs.declared.why.Why.{Why}
use Rattle.brisk_rules.specs.declared.why.Why.TheVariants.{Side}
use Rattle.brisk_rules.specs.Derives.{told_at, nested}
use Rattle.brisk_loops.specs.EnterSeen.{StartsAt, StartsIn, SideAt, Refuses, refused_at}
use Rattle.brisk_rules.specs.Rules.{Outcome, Entered, Parted}
use Rattle.brisk_loops.specs.Walk.{Inside, Premise, First, Second, Open, Walked, premise_of, premise_in, premise_at, rule_at, alone, in_premise, entry, opened, inside, enter}
use Rattle.brisk_loops.specs.WalkKept.{kept}
use Rattle.brisk_rules.proofs.Fulfilled.{when_ok}
use Rattle.brisk_loops.proofs.Standing.{entry_alone, no_second}
use Rattle.brisk_loops.specs.WalkSeen.{AreEntered, IsEntered, inside_of, open_of, opened_by, Gives, Fails}

pub too_deep : {A : Type 0} (deep n : ℕ) (x : Outcome A) → nat_lt deep 256 ≡ false → Fails (told_at (n + 2) (nested deep x)) (Bad (kept (n + 2)) (Side TooDeep))
too_deep deep n x b = (n + 2, ap (λ (z : Bool). told_at (n + 2) (when z (Side TooDeep) x)) b, refl)

-- not too deep, what is entered is entered, and what is refused is told
pub not_deep : (x : Outcome Inside) (deep : ℕ) (s : Symbolic) → nat_lt deep 256 ≡ true → StartsIn x s → StartsIn (nested deep x) s
not_deep x deep s b g = (g.0, (λ i. when (b i) (Side TooDeep) (g.1 i)), g.2)

pub refuses_deep : {A : Type 0} (n deep : ℕ) (x : Outcome A) (why : Refusal) → nat_lt deep 256 ≡ true → Refuses x why → Fails (told_at (n + 2) (nested deep x)) (refused_at n why)
refuses_deep n deep x (Because why) b h = (n + 2, (λ i. told_at (n + 2) (when (b i) (Side TooDeep) (h i))), refl)
refuses_deep n deep x NoMemory b h = tt

-- into a premise, and into the first side of a branch
pub premise_starts : (x : Outcome Entered) (s : Symbolic) → StartsAt x s → StartsIn (in_premise x) s
premise_starts x s g = (Premise g.0, ap in_premise g.1, g.2)

pub premise_refuses : (x : Outcome Entered) (why : Refusal) → Refuses x why → Refuses (in_premise x) why
premise_refuses x (Because why) h = ap in_premise h
premise_refuses x NoMemory h = tt

pub first_starts : (x : Outcome Parted) (s : Symbolic) → SideAt true x s → StartsIn (and_then x (λ r. Ok (First r))) s
first_starts x s g = (First g.0, ap (λ (z : Outcome Parted). and_then z (λ r. Ok (First r))) g.1, g.2)

pub first_refuses : (x : Outcome Parted) (why : Refusal) → Refuses x why → Refuses (and_then x (λ r. Ok (First r))) why
first_refuses x (Because why) h = ap (λ (z : Outcome Parted). and_then z (λ r. Ok (First r))) h
first_refuses x NoMemory h = tt

pub first_inside : (i : Inside) (S : Symbolic) → inside_of (Ok i) side.First S ≡ i
first_inside (Premise r) S = refl
first_inside (First r) S = refl
first_inside (Second r E X) S = refl

same_length : (P : Program) (rs : List Rule) → length (opened_by P rs) ≡ length rs
same_length P rs = length-reverse (map (open_of P) rs) ∙ length-map rs (open_of P)

-- one rule more stands innermost
pub one_opened : (P : Program) (rs : List Rule) (r : Rule) → opened_by P (rs ++ r ∷ []) ≡ open_of P r ∷ opened_by P rs
one_opened P rs r = ap reverse (map-append (open_of P) rs (r ∷ [])) ∙ reverse-append (map (open_of P) rs) (open_of P r ∷ [])

pub fits : (a : ℕ) → a < 2 ^ 64 → a ≡ kept a
fits a h = omega (arith, h)

module _ (P : Program) (S : Symbolic) (X : Items) (rs : List Rule) (a n : ℕ) (A : Step) (now : Walked)
    (same : ◌≡◌ {A = Walked} record { program = P; state = S; items = X; entered = opened_by P rs; applied = a; counted = n } now) (deep : ℕ) (deep_is : deep ≡ length rs) where
  abbrev w : Walked
  w = record { program = P; state = S; items = X; entered = opened_by P rs; applied = a; counted = n }

  enters : enter w A ≡ and_then (told_at (n + 2) (nested deep (entry P S A))) (λ i. Ok (inside w A i))
  enters = λ j. and_then (told_at (n + 2) (nested ((same_length P rs ∙ sym deep_is) j) (entry P S A))) (λ i. Ok (inside w A i))

  pub enter_fails : (f : AcceptFault) → Fails (told_at (n + 2) (nested deep (entry P S A))) f → Fails (enter now A) f
  enter_fails no_memory h = tt
  enter_fails (Bad at why) h = (h.0, ap (λ z. enter z A) (sym same) ∙ enters ∙ ap (λ z. and_then z (λ i. Ok (inside w A i))) h.1, h.2)

  pub enter_gives : (S' : Symbolic) (X' : Items) (r : Rule) (rs' : List Rule) (n' : ℕ) → StartsIn (nested deep (entry P S A)) S' → X' ≡ nothing → step_of r.step ≡ alone A → r.side ≡ side.First → r.state ≡ S → r.items ≡ X → r.counted ≡ n →
      rs' ≡ rs ++ r ∷ [] → a < 2 ^ 64 → n' ≡ kept (n + 1) → Gives (enter now A) record { program = P; state = S'; items = X'; entered = opened_by P rs'; applied = a; counted = n' }
  enter_gives S' X' r rs' n' g x step first state items counted more small next = (
    inside w A g.0,
    ap (λ z. enter z A) (sym same) ∙ enters ∙ ap (λ z. and_then (told_at (n + 2) z) (λ i. Ok (inside w A i))) g.1,
    (λ j. record { program = P; state = sym g.2 j; items = x j; entered = (ap (opened_by P) more ∙ one_opened P rs r ∙ (λ k. kept_rule k ∷ opened_by P rs)) j; applied = fits a small j; counted = next j }),
  )
    where
      enters_so : entry P S A ≡ Ok g.0
      enters_so = (when_ok (nat_lt deep 256) (Side TooDeep) (entry P S A) g.0 g.1).1

      stands_in : inside_of (entry P r.state (step_of r.step)) r.side r.state ≡ g.0
      stands_in = (λ j. inside_of (entry P (state j) (step j)) (first j) (state j)) ∙ ap (λ z. inside_of z side.First S) (sym (entry_alone P S A) ∙ enters_so) ∙ first_inside g.0 S

      kept_rule : open_of P r ≡ opened w A g.0
      kept_rule = λ j. record { step = step j; inside = stands_in j; state = state j; items = items j; counted = counted j }

-- one rule more, and one fewer
pub entered_more : (P : Program) (rs : List Rule) (r : Rule) → AreEntered P rs → IsEntered (entry P r.state (step_of r.step)) r.side → AreEntered P (rs ++ r ∷ [])
entered_more P [] r a h = (h, tt)
entered_more P (q ∷ rs) r a h = (a.0, entered_more P rs r a.1 h)

pub entered_fewer : (P : Program) (rs : List Rule) (r : Rule) → AreEntered P (rs ++ r ∷ []) → AreEntered P rs
entered_fewer P [] r a = tt
entered_fewer P (q ∷ rs) r a = (a.0, entered_fewer P rs r a.1)

-- what is entered is entered by the step without own steps
pub is_entered : (P : Program) (S : Symbolic) (A : Step) (deep : ℕ) (i : Inside) → nested deep (entry P S A) ≡ Ok i → IsEntered (entry P S (alone A)) side.First
is_entered P S A deep i e = by i (sym (entry_alone P S A) ∙ (when_ok (nat_lt deep 256) (Side TooDeep) (entry P S A) i e).1) (no_second P S A)
  where
    by : (i : Inside) → entry P S (alone A) ≡ Ok i → ((r : Parted) (E : Symbolic) (X : Items) → entry P S A ≡ Ok (Second r E X) → ⊥) → IsEntered (entry P S (alone A)) side.First
    by (Premise r) e never = subst (λ (z : Outcome Inside). IsEntered z side.First) (sym e) tt
    by (First r) e never = subst (λ (z : Outcome Inside). IsEntered z side.First) (sym e) tt
    by (Second r E X) e never = absurd (never r E X (entry_alone P S A ∙ e))

-- the rule that stands at a place has as many around it
apart_from : (n k : ℕ) → (n ≡ k → ⊥) → nat_eq n k ≡ false
apart_from n k h = by (nat_eq n k) refl
  where
    by : (b : Bool) → nat_eq n k ≡ b → b ≡ false
    by true e = absurd (h (eqb-true n k e))
    by false e = refl

same_as : (n : ℕ) → nat_eq n n ≡ true
same_as n = by (nat_eq n n) refl
  where
    by : (b : Bool) → nat_eq n n ≡ b → b ≡ true
    by true e = refl
    by false e = absurd (eqb-false n n e refl)

one_less : (n m k : ℕ) → n ≡ m + 1 → nat_eq n (suc k) ≡ nat_eq m k
one_less n m k h = by (nat_eq m k) refl
  where
    by : (b : Bool) → nat_eq m k ≡ b → nat_eq n (suc k) ≡ b
    by true e = let same = eqb-true m k e in ap (λ z. nat_eq z (suc k)) (omega (arith, h, same)) ∙ same_as (suc k)
    by false e = apart_from n (suc k) (λ q. eqb-false m k e (omega (arith, h, q)))

longer_by : (os : List Open) (o : Open) → length (os ++ o ∷ []) ≡ length os + 1
longer_by os o = length-append os (o ∷ [])

last_at : (os : List Open) (o : Open) → rule_at (os ++ o ∷ []) 0 ≡ Some o
last_at [] o = refl
last_at (x ∷ os) o = ap (λ b. if b then Some x else rule_at (os ++ o ∷ []) 0) (apart_from (length (os ++ o ∷ [])) 0 (omega (arith, longer_by os o))) ∙ last_at os o

earlier_at : (os : List Open) (o : Open) (k : ℕ) → rule_at (os ++ o ∷ []) (suc k) ≡ rule_at os k
earlier_at [] o k = ap (λ b. if b then Some o else None) (apart_from 0 (suc k) (λ q. omega (arith, q)))
earlier_at (x ∷ os) o k = λ i. if one_less (length (os ++ o ∷ [])) (length os) k (longer_by os o) i then Some x else earlier_at os o k i

first_last : (P : Program) (r : Rule) (rs : List Rule) → opened_by P (r ∷ rs) ≡ opened_by P rs ++ open_of P r ∷ []
first_last P r rs = reverse-append (open_of P r ∷ []) (map (open_of P) rs)

opened_at : (P : Program) (rs : List Rule) (k : ℕ) → rule_at (opened_by P rs) k ≡ option_map (open_of P) (slice_get rs k)
opened_at P [] k = refl
opened_at P (r ∷ rs) zero = ap (λ os. rule_at os 0) (first_last P r rs) ∙ last_at (opened_by P rs) (open_of P r)
opened_at P (r ∷ rs) (suc k) = ap (λ os. rule_at os (suc k)) (first_last P r rs) ∙ earlier_at (opened_by P rs) (open_of P r) k ∙ opened_at P rs k

-- a rule that is entered
entered_at : (P : Program) (rs : List Rule) (k : ℕ) (r : Rule) → AreEntered P rs → slice_get rs k ≡ Some r → IsEntered (entry P r.state (step_of r.step)) r.side
entered_at P [] k r h e = absurd cc
entered_at P (q ∷ rs) zero r h e = subst (λ (z : Rule). IsEntered (entry P z.state (step_of z.step)) z.side) (same_Some q r e) h.0
entered_at P (q ∷ rs) (suc k) r h e = entered_at P rs k r h.1 e

-- no side is one of what isn't entered, nor of a second side
not_second : (q : Parted) (F : Symbolic) (Y : Items) (s : WhichSide) → IsEntered (Ok (Second q F Y)) s → ⊥
not_second q F Y side.First is = is
not_second q F Y (side.Second E X) is = is

no_entry : (why : Why) (s : WhichSide) → IsEntered (Err why) s → ⊥
no_entry why side.First is = is
no_entry why (side.Second E X) is = is

with_premise : (x : Entered) (i : Outcome Inside) (s : WhichSide) (S : Symbolic) → IsEntered i s → premise_of (inside_of i s S) ≡ Some x → i ≡ Ok (Premise x)
with_premise x (Ok (Premise q)) side.First S is e = ap (λ (z : Entered). Ok (Premise z)) (same_Some q x e)
with_premise x (Ok (Premise q)) (side.Second E X) S is e = absurd is
with_premise x (Ok (First q)) side.First S is e = absurd cc
with_premise x (Ok (First q)) (side.Second E X) S is e = absurd cc
with_premise x (Ok (Second q F Y)) s S is e = absurd (not_second q F Y s is)
with_premise x (Err why) s S is e = absurd (no_entry why s is)

-- with a premise it is entered by a step with one
premise_entered : (P : Program) (rs : List Rule) (k : ℕ) (r : Rule) (x : Entered) → AreEntered P rs → slice_get rs k ≡ Some r → premise_at (opened_by P rs) k ≡ Some x → entry P r.state (step_of r.step) ≡ Ok (Premise x)
premise_entered P rs k r x h e p =
    with_premise x (entry P r.state (step_of r.step)) r.side r.state (entered_at P rs k r h e) (ap premise_in (sym (opened_at P rs k ∙ ap (option_map (open_of P)) e)) ∙ p)

-- the rule of a slice at a place, and where there is none
module _ (now : Walked) (P : Program) (S : Symbolic) (X : Items) (rs xs : List Rule) (a n : ℕ)
    (same : ◌≡◌ {A = Walked} record { program = P; state = S; items = X; entered = opened_by P rs; applied = a; counted = n } now) (slice : xs ≡ rs) (k : ℕ) where
  pub none_there : length xs ≤ k → rule_at now.entered k ≡ None
  none_there h = ap (λ w. rule_at w.entered k) (sym same) ∙ opened_at P rs k ∙ ap (option_map (open_of P)) (ap (λ z. slice_get z k) (sym slice) ∙ slice_get_past xs k h)

  module _ (r : Rule) (less : k < length xs) (got : (d : Rule) → r ≡ get_or xs k d) where
    at_place : slice_get rs k ≡ Some r
    at_place = ap (λ z. slice_get z k) (sym slice) ∙ slice_get-get_or xs k r less ∙ ap Some (sym (got r))

    pub some_there : rule_at now.entered k ≡ Some (open_of P r)
    some_there = ap (λ w. rule_at w.entered k) (sym same) ∙ opened_at P rs k ∙ ap (option_map (open_of P)) at_place

    pub entry_there : (x : Entered) → AreEntered P rs → premise_at now.entered k ≡ Some x → entry P r.state (step_of r.step) ≡ Ok (Premise x)
    entry_there x h p = premise_entered P rs k r x h at_place (ap (λ w. premise_at w.entered k) same ∙ p)

  pub no_premise : (x : Entered) → length xs ≤ k → premise_at now.entered k ≡ Some x → ⊥
  no_premise x h p = let e = ap premise_in (sym (none_there h)) ∙ p in cc
