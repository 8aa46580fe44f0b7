-- How a walk leaves a rule.
use Rattle.std.proofs.Common.{◌≡◌, ℕ, ◌+◌, List, [], ◌∷◌, ◌++◌, length, refl, sym, ap, ◌∙◌, subst}
use Rattle.std.specs.Prelude.{Option, Some, None, Result, Ok, Err, IfOk, IfErr, IsErr}
use Rattle.brisk_values.specs.declared.memory.NoMemory.{NoMemory as AllocFault}
use Rattle.brisk_syntax.specs.declared.program.Program.{Program}
use Rattle.brisk_seq.specs.Items.{Item, Items, nothing, ◌⨟◌, ◌followed_by◌}
use Rattle.brisk_state.specs.Symbolic.{Symbolic}
use Rattle.brisk_basic.specs.Outcomes.{and_then}
use Rattle.brisk_derivation.specs.Seen.{step_of}
use Rattle.brisk_derivation.specs.declared.steps.Step.{Step}
use Rattle.brisk_derivation.specs.declared.steps.Step.TheVariants.{Basic, Branch, While, For, Repeat, Gather, Pick}
use Rattle.brisk_derivation.specs.declared.steps.Steps.{Steps}
use Rattle.brisk_values.specs.Names.{Name}
use Rattle.brisk_loops.specs.declared.fault.Refusal.{Refusal}
use Rattle.brisk_loops.specs.declared.fault.Refusal.TheVariants.{Because, NoMemory}
use Rattle.brisk_loops.specs.declared.rule.Rule.{Rule}
use Rattle.brisk_loops.specs.declared.rule.Side.{Side}
use Rattle.brisk_loops.specs.declared.rule.Side.TheVariants as side
use Rattle.brisk_rules.specs.declared.why.Why.{Why}
use Rattle.brisk_rules.specs.Derives.{told_at}
use Rattle.brisk_rules.specs.Rules.{Outcome, Entered, Parted, around, close, enter_while, enter_for, enter_repeat, enter_gather, enter_pick}
use Rattle.brisk_loops.specs.EnterSeen.{Refuses, TellsWhy, refused_at}
use Rattle.brisk_loops.specs.LeaveSeen.{IsClosedBy, closed_state, EndsAs, ends, item_around, in_side, IsInFirst, IsPastFirst, state_after}
use Rattle.brisk_loops.specs.declared.leave.Closed.{Closed}
use Rattle.brisk_loops.specs.declared.leave.Ended.{Ended}
use Rattle.brisk_loops.specs.declared.leave.Ended.TheVariants.{Closes as by_close}
use Rattle.brisk_loops.specs.Walk.{Inside, Premise, First, Second, Open, Walked, Called, entry, in_premise, leave, leave_in, leave_of, line, outside}
use Rattle.brisk_loops.specs.WalkKept.{kept}
use Rattle.brisk_loops.specs.WalkSeen.{AreEntered, IsEntered, inside_of, open_of, opened_by, refused_by, Gives, Fails}
use Rattle.brisk_loops.proofs.Crossing.{empty}
use Rattle.brisk_loops.proofs.Enters.{one_opened}

pub last_entered : (P : Program) (rs : List Rule) (r : Rule) → AreEntered P (rs ++ r ∷ []) → IsEntered (entry P r.state (step_of r.step)) r.side
last_entered P [] r h = h.0
last_entered P (q ∷ rs) r h = last_entered P rs r h.1

by_premise : (x : Outcome Entered) (s : Side) → IsEntered (in_premise x) s → (q : Entered) × (in_premise x ≡ Ok (Premise q))
by_premise (Ok q) s h = (q, refl)
by_premise (Err why) s h = absurd h

-- a rule that was entered by no branch has one premise
pub entered_loop : (P : Program) (S : Symbolic) (A : Step) (s : Side) → ((t : Name) (a b : Steps) → A ≡ Branch t a b → ⊥) → IsEntered (entry P S (step_of A)) s → (q : Entered) × (entry P S (step_of A) ≡ Ok (Premise q))
entered_loop P S (Basic b) s l h = absurd h
entered_loop P S (Branch t a b) s l h = absurd (l t a b refl)
entered_loop P S (While t drops a) s l h = by_premise (enter_while S t drops) s h
entered_loop P S (For r ts drops a) s l h = by_premise (enter_for S r ts drops) s h
entered_loop P S (Repeat t drops a) s l h = by_premise (enter_repeat S t drops) s h
entered_loop P S (Gather t drops a) s l h = by_premise (enter_gather S t drops) s h
entered_loop P S (Pick t drops a) s l h = by_premise (enter_pick P S t drops) s h

-- a branch that was entered
pub entered_branch : (x : Outcome Parted) (s : Side) (S : Symbolic) → IsEntered (and_then x (λ r. Ok (First r))) s → (r : Parted) × (x ≡ Ok r) × (inside_of (and_then x (λ r. Ok (First r))) s S ≡ in_side r s)
entered_branch (Ok r) side.First S h = (r, refl, refl)
entered_branch (Ok r) (side.Second F Y) S h = (r, refl, refl)
entered_branch (Err why) s S h = absurd h

-- what a rule with one premise comes to, where it closes and where it doesn't
pub closes_as : (x : Outcome Inside) (s : Side) (S E : Symbolic) (r : Entered) (d : Closed) → x ≡ Ok (Premise r) → IsClosedBy r E d → EndsAs (inside_of x s S) s E (Some (by_close d))
closes_as x s S E r d is h =
    subst (λ (z : Outcome Inside). EndsAs (inside_of z s S) s E (Some (by_close d))) (sym is)
    (tt, h.1 ∙ (λ i. Ok (closed_state (sym h.0 i) d.owners.items d.facts E)), λ X i. around (sym h.0 i) X)

pub refuses_as : (x : Outcome Inside) (s : Side) (S E : Symbolic) (r : Entered) (why : Refusal) → x ≡ Ok (Premise r) → Refuses (close r E) why → Refuses (ends (inside_of x s S) E) why
refuses_as x s S E r why is h = subst (λ (z : Outcome Inside). Refuses (ends (inside_of z s S) E) why) (sym is) h

-- what a rule gives past a first side
left_so : (w : Walked) (o : Open) (more : List Open) (i : Inside) → IsPastFirst i → leave_in w o more i ≡ and_then (told_at (line w) (ends i w.state)) (λ T. Ok (outside w o more T (item_around i w.items)))
left_so w o more (Premise r) h = refl
left_so w o more (First r) h = absurd h
left_so w o more (Second r F Y) h = refl

stays_in : (w : Walked) (o : Open) (more : List Open) (i : Inside) → IsInFirst i → leave_in w o more i ≡ Ok w
stays_in w o more (Premise r) h = absurd h
stays_in w o more (First r) h = refl
stays_in w o more (Second r F Y) h = absurd h

fails_so : (w : Walked) (o : Open) (more : List Open) (i : Inside) (why : Refusal) → Refuses (ends i w.state) why → Fails (leave_in w o more i) (refused_at w.counted why)
fails_so w o more i NoMemory h = tt
fails_so w o more (Premise r) (Because why) h = (w.counted + 2, ap (λ z. and_then (told_at (line w) z) (λ T. Ok (outside w o more T (item_around (Premise r) w.items)))) h, refl)
fails_so w o more (First r) (Because why) h = absurd cc
fails_so w o more (Second r F Y) (Because why) h = (w.counted + 2, ap (λ z. and_then (told_at (line w) z) (λ T. Ok (outside w o more T (item_around (Second r F Y) w.items)))) h, refl)

module _ (P : Program) (S : Symbolic) (X : Items) (rs : List Rule) (a n : ℕ) (now : Walked)
    (same : ◌≡◌ {A = Walked} record { program = P; state = S; items = X; entered = opened_by P rs; applied = a; counted = n } now) where
  abbrev w : Walked
  w = record { program = P; state = S; items = X; entered = opened_by P rs; applied = a; counted = n }

  pub none_left : length rs ≡ 0 → leave w ≡ Ok w
  none_left h = ap (λ z. leave_of w (opened_by P z)) (empty rs h)

  module _ (rs' : List Rule) (r : Rule) (last : rs ≡ rs' ++ r ∷ []) where
    abbrev here : Inside
    here = inside_of (entry P r.state (step_of r.step)) r.side r.state

    innermost : leave w ≡ leave_in w (open_of P r) (opened_by P rs') here
    innermost = ap (leave_of w) (ap (opened_by P) last ∙ one_opened P rs' r)

    pub first_stays : IsInFirst here → leave w ≡ Ok w
    first_stays h = innermost ∙ stays_in w (open_of P r) (opened_by P rs') here h

    pub leave_fails : (why : Refusal) → Refuses (ends here S) why → Fails (leave now) (refused_at n why)
    leave_fails why h = subst (λ (z : Called). Fails z (refused_at n why)) (sym (ap leave (sym same) ∙ innermost)) (fails_so w (open_of P r) (opened_by P rs') here why h)

    pub leave_gives : (T T' : Symbolic) (q : Item) (Y : Items) (rs'' : List Rule) (a' n' : ℕ) → IsPastFirst here → ends here S ≡ Ok T → q ≡ item_around here X → T' ≡ T → Y ≡ r.items followed_by (q ⨟ nothing) → rs'' ≡ rs' → a' ≡ kept (a + 1) → n' ≡ kept (n + 1) →
        Gives (leave now) record { program = P; state = T'; items = Y; entered = opened_by P rs''; applied = a'; counted = n' }
    leave_gives T T' q Y rs'' a' n' past h around at items same_rules more next = (
      outside w (open_of P r) (opened_by P rs') T (item_around here X),
      ap leave (sym same) ∙ innermost ∙ left_so w (open_of P r) (opened_by P rs') here past ∙ ap (λ z. and_then (told_at (n + 2) z) (λ T. Ok (outside w (open_of P r) (opened_by P rs') T (item_around here X)))) h,
      (λ i. record { program = P; state = at i; items = (items ∙ ap (λ z. r.items followed_by (z ⨟ nothing)) around) i; entered = opened_by P (same_rules i); applied = more i; counted = next i }),
    )

    -- why it isn't left
    pub closes_so : (T : Symbolic) → IsPastFirst here → ends here S ≡ Ok T → refused_by (leave now) ≡ None
    closes_so T past h = ap refused_by (ap leave (sym same) ∙ innermost ∙ left_so w (open_of P r) (opened_by P rs') here past ∙ ap (λ z. and_then (told_at (n + 2) z) (λ T. Ok (outside w (open_of P r) (opened_by P rs') T (item_around here X)))) h)

    pub refuses_so : (why : Why) → Refuses (ends here S) (Because why) → refused_by (leave now) ≡ Some why
    refuses_so why h = ap refused_by (leave_fails (Because why) h).1

    -- what is told of why it isn't left
    pub why_so : (ended : Result (Option Ended) Refusal) (told : Result (Option Why) AllocFault) → IfOk ended (λ e. EndsAs here r.side S e) → IfErr ended (λ f. Refuses (ends here S) f) →
        IfOk ended (λ e. told ≡ Ok None) → IfErr ended (λ f. TellsWhy f told) → IfOk told (λ o. o ≡ refused_by (leave now))
    why_so (Ok None) told ok cause done tells = subst (λ z. IfOk z (λ o. o ≡ refused_by (leave now))) (sym done) (sym (ap refused_by (ap leave (sym same) ∙ first_stays ok)))
    why_so (Ok (Some e)) told ok cause done tells = subst (λ z. IfOk z (λ o. o ≡ refused_by (leave now))) (sym done) (sym (closes_so (state_after e r.side S) ok.0 ok.1))
    why_so (Err (Because why)) told ok cause done tells = subst (λ z. IfOk z (λ o. o ≡ refused_by (leave now))) (sym tells) (sym (refuses_so why cause))
    why_so (Err NoMemory) told ok cause done tells = no_memory told tells
      where
        no_memory : (t : Result (Option Why) AllocFault) → IsErr t → IfOk t (λ o. o ≡ refused_by (leave now))
        no_memory (Ok o) h = absurd (let w = h in cc)
        no_memory (Err e) h = tt
