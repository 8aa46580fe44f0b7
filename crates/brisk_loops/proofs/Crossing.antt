-- How a walk passes to the second side of a branch.
use Rattle.std.proofs.Common.{◌≡◌, ℕ, ◌+◌, ◌^◌, ◌<◌, List, [], ◌∷◌, ◌++◌, length, Option, Some, refl, sym, ap, ◌∙◌, subst}
use Rattle.std.specs.Prelude.{None, Ok, Err}
use Rattle.brisk_syntax.specs.declared.program.Program.{Program}
use Rattle.brisk_seq.specs.Items.{Items, nothing}
use Rattle.brisk_state.specs.Symbolic.{Symbolic}
use Rattle.brisk_derivation.specs.Seen.{step_of}
use Rattle.brisk_loops.specs.declared.rule.Rule.{Rule}
use Rattle.brisk_loops.specs.declared.rule.Side.{Side}
use Rattle.brisk_loops.specs.declared.rule.Side.TheVariants as side
use Rattle.brisk_rules.specs.Rules.{Outcome, Parted}
use Rattle.brisk_loops.specs.Walk.{Inside, Premise, First, Second, Open, Walked, Called, entry, other, other_in, other_of, across}
use Rattle.brisk_loops.specs.WalkKept.{kept}
use Rattle.brisk_loops.specs.WalkSeen.{IsEntered, inside_of, open_of, opened_by, second_of, Gives}
use Rattle.brisk_loops.proofs.Enters.{fits, one_opened}

pub empty : {A : Type 0} (xs : List A) → length xs ≡ 0 → xs ≡ []
empty [] h = refl
empty (x ∷ xs) h = absurd cc

pub no_more : {A : Type 0} (xs : List A) → xs ++ [] ≡ xs
no_more [] = refl
no_more (x ∷ xs) = ap (λ z. x ∷ z) (no_more xs)

-- where a walk stands in the first side of a branch, its step enters the branch
pub in_first : (x : Outcome Inside) (s : Side) (S : Symbolic) (r : Parted) → inside_of x s S ≡ First r → x ≡ Ok (First r)
in_first (Ok (First q)) side.First S r e = ap Ok e
in_first (Ok (First q)) (side.Second E X) S r e = absurd cc
in_first (Ok (Premise q)) s S r e = absurd cc
in_first (Ok (Second q E X)) s S r e = absurd cc
in_first (Err why) s S r e = absurd cc

none_more : (w : Walked) (o : Open) (more : List Open) (i : Inside) → None ≡ second_of i → other_in w o more i ≡ Ok w
none_more w o more (Premise r) h = refl
none_more w o more (First r) h = absurd cc
none_more w o more (Second r E X) h = refl

goes_on : (S : Symbolic) (i : Inside) → Some S ≡ second_of i → (r : Parted) × (i ≡ First r) × (r.second ≡ S)
goes_on S (Premise r) h = absurd cc
goes_on S (First r) h = (r, refl, sym (ap (λ (z : Option Symbolic). elim z as (λ z. Symbolic) [ None ↦ S | Some y ↦ y ]) h))
goes_on S (Second r E X) h = absurd cc

module _ (P : Program) (S : Symbolic) (X : Items) (rs : List Rule) (a n : ℕ) (now : Walked)
    (same : ◌≡◌ {A = Walked} record { program = P; state = S; items = X; entered = opened_by P rs; applied = a; counted = n } now) where
  abbrev w : Walked
  w = record { program = P; state = S; items = X; entered = opened_by P rs; applied = a; counted = n }

  -- the walk stays
  pub stays : (call : Walked → Called) (rs' : List Rule) → call w ≡ Ok w → rs ≡ rs' → a < 2 ^ 64 → n < 2 ^ 64 → Gives (call now) record { program = P; state = S; items = X; entered = opened_by P rs'; applied = a; counted = n }
  stays call rs' e more la ln = (
    w,
    ap call (sym same) ∙ e,
    (λ i. record { program = P; state = S; items = X; entered = opened_by P (sym more i); applied = fits a la i; counted = fits n ln i }),
  )

  pub none_entered : length rs ≡ 0 → other w ≡ Ok w
  none_entered h = ap (λ z. other_of w (opened_by P z)) (empty rs h)

  module _ (rs' : List Rule) (r : Rule) (last : rs ≡ rs' ++ r ∷ []) where
    abbrev here : Inside
    here = inside_of (entry P r.state (step_of r.step)) r.side r.state

    innermost : other w ≡ other_in w (open_of P r) (opened_by P rs') here
    innermost = ap (other_of w) (ap (opened_by P) last ∙ one_opened P rs' r)

    pub no_side_more : None ≡ second_of here → other w ≡ Ok w
    no_side_more h = innermost ∙ none_more w (open_of P r) (opened_by P rs') here h

    pub crossed_is : (T : Symbolic) → Some T ≡ second_of here → (E : Symbolic) (Y : Items) → IsEntered (entry P r.state (step_of r.step)) (side.Second E Y)
    crossed_is T h E Y = let g = goes_on T here h in subst (λ (z : Outcome Inside). IsEntered z (side.Second E Y)) (sym (in_first (entry P r.state (step_of r.step)) r.side r.state g.0 g.1)) tt

    pub crosses : (T T' : Symbolic) (Y : Items) (r' : Rule) (rs'' : List Rule) (n' : ℕ) → Some T ≡ second_of here → T' ≡ T → Y ≡ nothing → r' ≡ record r { side = side.Second S X } → rs'' ≡ rs' ++ r' ∷ [] → a < 2 ^ 64 → n' ≡ kept (n + 1) →
        Gives (other now) record { program = P; state = T'; items = Y; entered = opened_by P rs''; applied = a; counted = n' }
    crosses T T' Y r' rs'' n' h at none rule more la next = (
      across w (open_of P r) (opened_by P rs') (goes_on T here h).0,
      ap other (sym same) ∙ innermost ∙ ap (other_in w (open_of P r) (opened_by P rs')) g.1,
      (λ i. record { program = P; state = (at ∙ sym g.2) i; items = none i; entered = (ap (opened_by P) (more ∙ ap (λ z. rs' ++ z ∷ []) rule) ∙ one_opened P rs' (record r { side = side.Second S X }) ∙ (λ j. record (open_of P r) { inside = passed j } ∷ opened_by P rs')) i; applied = fits a la i; counted = next i }),
    )
      where
        g : (r : Parted) × (here ≡ First r) × (r.second ≡ T)
        g = goes_on T here h

        passed : inside_of (entry P r.state (step_of r.step)) (side.Second S X) r.state ≡ Second (goes_on T here h).0 S X
        passed = ap (λ z. inside_of z (side.Second S X) r.state) (in_first (entry P r.state (step_of r.step)) r.side r.state (goes_on T here h).0 (goes_on T here h).1)
