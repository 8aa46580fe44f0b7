-- Loops of an unfolding in code, turn by turn.
use Rattle.std.proofs.Common.{◌≡◌, ℕ, zero, suc, ◌+◌, ◌-◌, ◌<◌, ◌≤◌, List, Bool, true, false, Ok, Err, ap, ◌∙◌, arith}
use Rattle.std.specs.Prelude.{if◌then◌else◌}
use Rattle.brisk_seq.specs.declared.fault.SeqFault.{SeqFault}
use Rattle.brisk_seq.specs.declared.fault.SeqFault.TheVariants as fault
use Rattle.brisk_seq.specs.Sequential as spec
use Rattle.brisk_seq.specs.Sequential.{Ended, Run, Stop, choose}
use Rattle.brisk_basic.specs.Outcomes.{and_then}
use Rattle.brisk_rules.specs.Unfolding.{Unfolding, Unfolded, takes_turn, turns_each, turns_while}
use Rattle.brisk_unfold.specs.declared.progress.Progress.{Progress}
use Rattle.brisk_unfold.specs.Going.{Goes, Leads, Marks, Stops, unfolding_of}
use Rattle.brisk_unfold.proofs.Leading.{leads_by, leads_marks, leads_on, stops_on}

-- one turn less
pub less_one : (n k : ℕ) → k < n → n - k ≡ suc (n - (k + 1))
less_one n k h = omega arith

-- no turn is left
pub none_left : (n k : ℕ) → n ≤ k → n - k ≡ zero
none_left n k h = omega arith

module _ (choices : List ℕ) where
  -- turns with members in number order
  module _ (a b : Progress) (size k : ℕ) (move : Unfolding → Unfolding) (act : ℕ → Unfolding → Unfolded)
      (leads : Leads choices a b (turns_each size 0 move act) (turns_each (size - k) k move act)) where
    each_moved : (c : Progress) → k < size → Marks b c move → Leads choices a c (turns_each size 0 move act) (λ u. and_then (act k u) (turns_each (size - (k + 1)) (k + 1) move act))
    each_moved c h m =
        leads_marks choices a b c (turns_each size 0 move act) (λ u. and_then (act k u) (turns_each (size - (k + 1)) (k + 1) move act)) move
        (leads_by choices a b (turns_each size 0 move act) (turns_each (size - k) k move act) (λ u. and_then (act k (move u)) (turns_each (size - (k + 1)) (k + 1) move act)) leads
        (λ n. ap (λ j. turns_each j k move act (unfolding_of choices n b)) (less_one size k h))) m

    pub each_goes : (c d : Progress) → k < size → Marks b c move → Goes choices c d (act k) → Leads choices a d (turns_each size 0 move act) (turns_each (size - (k + 1)) (k + 1) move act)
    each_goes c d h m goes = leads_on choices a c d (turns_each size 0 move act) (act k) (turns_each (size - (k + 1)) (k + 1) move act) (each_moved c h m) goes

    pub each_stops : (c : Progress) → k < size → Marks b c move → (f : SeqFault) → Stops choices c (act k) f → Stops choices a (turns_each size 0 move act) f
    each_stops c h m f stops = stops_on choices a c (turns_each size 0 move act) (act k) (turns_each (size - (k + 1)) (k + 1) move act) f (each_moved c h m) stops

    pub each_ends : (c : Progress) → size ≤ k → Marks b c move → Goes choices a c (turns_each size 0 move act)
    each_ends c h m =
        leads_marks choices a b c (turns_each size 0 move act) (λ u. Ok u) move
        (leads_by choices a b (turns_each size 0 move act) (turns_each (size - k) k move act) (λ u. Ok (move u)) leads
        (λ n. ap (λ j. turns_each j k move act (unfolding_of choices n b)) (none_left size k h))) m

  -- turns while a guard holds
  module _ (a b : Progress) (size k : ℕ) (guard : Unfolding → Bool) (move : Unfolding → Unfolding) (act : Unfolding → Unfolded)
      (leads : Leads choices a b (turns_while size guard move act) (turns_while (size - k) guard move act)) where
    ends : (n : ℕ) (u : Unfolding) → guard u ≡ false → turns_while n guard move act u ≡ Ok (move u)
    ends zero u e = ap (λ z. if z then Err spec.Turns else Ok (move u)) e
    ends (suc n) u e = ap (λ z. if z then takes_turn u.run.turns u (λ v. and_then (act (move v)) (turns_while n guard move act)) else Ok (move u)) e

    none : (n : ℕ) (u : Unfolding) → guard u ≡ true → u.run.turns ≡ 0 → turns_while n guard move act u ≡ Err spec.Turns
    none zero u e t = ap (λ z. if z then Err spec.Turns else Ok (move u)) e
    none (suc n) u e t =
        ap (λ z. if z then takes_turn u.run.turns u (λ v. and_then (act (move v)) (turns_while n guard move act)) else Ok (move u)) e
        ∙ ap (λ j. takes_turn j u (λ v. and_then (act (move v)) (turns_while n guard move act))) t

    none_at : (n : ℕ) (u : Unfolding) → guard u ≡ true → n ≡ 0 → turns_while n guard move act u ≡ Err spec.Turns
    none_at zero u e t = ap (λ z. if z then Err spec.Turns else Ok (move u)) e
    none_at (suc n) u e t = cc

    once : (n left : ℕ) (u : Unfolding) → guard u ≡ true → u.run.turns ≡ suc left →
        turns_while (suc n) guard move act u ≡ and_then (act (move (record u { run = record u.run { turns = left } }))) (turns_while n guard move act)
    once n left u e t =
        ap (λ z. if z then takes_turn u.run.turns u (λ v. and_then (act (move v)) (turns_while n guard move act)) else Ok (move u)) e
        ∙ ap (λ j. takes_turn j u (λ v. and_then (act (move v)) (turns_while n guard move act))) t

    pub while_ends : (c : Progress) → ((n : ℕ) → guard (unfolding_of choices n b) ≡ false) → Marks b c move → Goes choices a c (turns_while size guard move act)
    while_ends c fails m =
        leads_marks choices a b c (turns_while size guard move act) (λ u. Ok u) move
        (leads_by choices a b (turns_while size guard move act) (turns_while (size - k) guard move act) (λ u. Ok (move u)) leads
        (λ n. ends (size - k) (unfolding_of choices n b) (fails n))) m

    pub while_stops : ((n : ℕ) → guard (unfolding_of choices n b) ≡ true) → b.run.turns ≡ 0 → Stops choices a (turns_while size guard move act) fault.Turns
    while_stops holds t = λ n h. let l = leads n h in l.2 ∙ none (size - k) (unfolding_of choices l.0 b) (holds l.0) t

    pub while_spent : ((n : ℕ) → guard (unfolding_of choices n b) ≡ true) → size ≤ k → Stops choices a (turns_while size guard move act) fault.Turns
    while_spent holds h = λ n m. let l = leads n m in l.2 ∙ none_at (size - k) (unfolding_of choices l.0 b) (holds l.0) (none_left size k h)

    module _ (left : ℕ) (h : k < size) (holds : (n : ℕ) → guard (unfolding_of choices n b) ≡ true) (some : b.run.turns ≡ suc left) where
      abbrev taken : Progress
      taken = record b { run = record b.run { turns = left } }

      while_moved : (c : Progress) → Marks taken c move → Leads choices a c (turns_while size guard move act) (λ u. and_then (act u) (turns_while (size - (k + 1)) guard move act))
      while_moved c m =
          leads_marks choices a taken c (turns_while size guard move act) (λ u. and_then (act u) (turns_while (size - (k + 1)) guard move act)) move
          (λ n x. let l = leads n x in (
            l.0,
            record { moves = l.1.moves; asked = l.1.asked },
            l.2 ∙ ap (λ j. turns_while j guard move act (unfolding_of choices l.0 b)) (less_one size k h) ∙ once (size - (k + 1)) left (unfolding_of choices l.0 b) (holds l.0) some,
          )) m

      pub while_goes : (c d : Progress) → Marks taken c move → Goes choices c d act → Leads choices a d (turns_while size guard move act) (turns_while (size - (k + 1)) guard move act)
      while_goes c d m goes = leads_on choices a c d (turns_while size guard move act) act (turns_while (size - (k + 1)) guard move act) (while_moved c m) goes

      pub while_turn_stops : (c : Progress) → Marks taken c move → (f : SeqFault) → Stops choices c act f → Stops choices a (turns_while size guard move act) f
      while_turn_stops c m f stops = stops_on choices a c (turns_while size guard move act) act (turns_while (size - (k + 1)) guard move act) f (while_moved c m) stops
