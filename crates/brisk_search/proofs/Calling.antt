-- Attempts that are made by one call of the walk, or by one after another.
use Rattle.std.proofs.Common.{◌≡◌, ℕ, ◌+◌, Bool, false, Option, [], refl, sym, ap, ◌∙◌, subst}
use Rattle.brisk_values.specs.Names.{Name}
use Rattle.brisk_seq.specs.Items.{◌followed_by◌}
use Rattle.brisk_state.specs.Symbolic.{Symbolic}
use Rattle.brisk_basic.specs.Basic.{Applied}
use Rattle.brisk_derivation.specs.declared.steps.BasicStep.{BasicStep}
use Rattle.brisk_derivation.specs.declared.steps.Step.TheVariants as raw
use Rattle.brisk_derivation.specs.Steps.{Basic}
use Rattle.brisk_loops.specs.Walk.{Walked, basic, follows, line}
use Rattle.brisk_loops.specs.WalkKept.{capped}
use Rattle.brisk_loops.specs.WalkSeen.{Gives}
use Rattle.brisk_rules.specs.Derives.{apply_quietly, items_in, rule_of, told_at}
use Rattle.brisk_rules.specs.Rules.{Outcome}
use Rattle.brisk_rules.specs.Standing.{least_free}
use Rattle.brisk_rules.proofs.Fulfilled.{and_then_ok, told_ok, same_ok}
use Rattle.brisk_search.specs.declared.turn.Turn.{Turn}
use Rattle.brisk_search.specs.declared.turn.Turn.TheVariants as turn
use Rattle.brisk_search.specs.declared.standing.Head.{Head}
use Rattle.brisk_search.specs.declared.standing.Head.TheVariants as head
use Rattle.brisk_search.specs.Advance.{Around, applied, basically, filled}
use Rattle.brisk_search.specs.Drives.{top}
use Rattle.brisk_search.specs.Met.{Alike, MeetsAttempt, MeetsTurn}
use Rattle.brisk_search.specs.Turns as turns
use Rattle.brisk_search.specs.Turns.{Attempt, stay, ◌otherwise◌}
use Rattle.brisk_search.specs.Views.{HasRoom, around, at_walk, first_rule, is_spent, left_of}
use Rattle.brisk_search.proofs.Meeting.{due_goes, moves_meets, next_meets, within_more}

-- a basic rule that was applied
pub basic_made : (budget : Option ℕ) (w v : Walked) (b : BasicStep) → Gives (basic w b) v → is_spent budget w.applied ≡ false → HasRoom budget w.applied → MeetsAttempt budget (basically (at_walk w) w.state b) (turn.Goes (raw.Basic b)) w v
basic_made budget w v b g free fits = λ fs.
    let r = and_then_ok (told_at (line w) (apply_quietly w.program (follows w.entered) w.state (rule_of b))) _ g.0 g.1 in
    let z : record w { state = r.0.next; items = w.items followed_by items_in r.0.statement; applied = w.applied + 1; counted = w.counted + 1 } ≡ g.0 = same_ok _ g.0 r.2 in
    let a = told_ok (λ why. record { line = line w; why = why }) (apply_quietly w.program (follows w.entered) w.state (rule_of b)) r.0 r.1 in
    subst (λ (x : Walked). MeetsTurn budget (basically (at_walk w) w.state b fs (left_of budget w.applied)) (turn.Goes (raw.Basic b)) fs w x) (ap capped z ∙ sym g.2) (
      items_in r.0.statement,
      ((refl, refl, within_more budget w.applied fits), refl),
      ap (λ (o : Outcome Applied). applied b o fs (left_of budget w.applied)) a ∙ due_goes budget w.applied (turns.Goes (Basic b) (items_in r.0.statement) r.0.next) free fits,
    )

-- the walk stays where an attempt does
pub stays_alike : (budget : Option ℕ) (f : Attempt) (t : Turn) (w v : Walked) → MeetsAttempt budget f t w v → t ≡ turn.Stays → Alike budget w v
stays_alike budget f t w v m e = (subst (λ o. MeetsTurn budget (f [] (left_of budget w.applied)) o [] w v) e (m [])).0

-- a second attempt, where the first stayed
pub then_attempt : (budget : Option ℕ) (f g : Attempt) (s t : Turn) (w u v : Walked) → MeetsAttempt budget f s w u → s ≡ turn.Stays → MeetsAttempt budget g t u v → MeetsAttempt budget (f otherwise g) t w v
then_attempt budget f g s t w u v a e b = λ fs.
    next_meets budget (f fs (left_of budget w.applied)) g t fs fs w u v (subst (λ o. MeetsTurn budget (f fs (left_of budget w.applied)) o fs w u) e (a fs)) (b fs)

-- the first attempt, where it didn't stay
pub first_attempt : (budget : Option ℕ) (f g : Attempt) (t : Turn) (w v : Walked) → MeetsAttempt budget f t w v → (t ≡ turn.Stays → ⊥) → MeetsAttempt budget (f otherwise g) t w v
first_attempt budget f g t w v a h = λ fs. moves_meets budget (f fs (left_of budget w.applied)) g t fs fs w v h (a fs)

pub filled_alike : (budget : Option ℕ) (w u : Walked) (t s c : Name) → Alike budget w u → filled (at_walk u) u.state t s c (least_free u.state.pending) ≡ filled (at_walk w) w.state t s c (least_free w.state.pending)
filled_alike budget w u t s c a = λ i. filled (around (a.0.0 i) (λ around t rest. top) 0 (follows (a.0.1 i)) top) (a.1 i) t s c (least_free (a.1 i).pending)

-- at other heads no basic rule comes first
pub none_first : (A : Around) (S : Symbolic) (t : Name) (h : Head) → (h ≡ head.Assign → ⊥) → ((u c : Name) → h ≡ head.Send u c → ⊥) → ((u c : Name) → h ≡ head.Receive u c → ⊥) → (h ≡ head.If → ⊥) → ((b : Bool) → h ≡ head.While b → ⊥) → first_rule A S t h ≡ stay
none_first A S t head.Assign a s r i w = absurd (a refl)
none_first A S t (head.Send u c) a s r i w = absurd (s u c refl)
none_first A S t (head.Receive u c) a s r i w = absurd (r u c refl)
none_first A S t head.If a s r i w = absurd (i refl)
none_first A S t (head.While b) a s r i w = absurd (w b refl)
none_first A S t head.Done a s r i w = refl
none_first A S t (head.For s) a g r i w = refl
none_first A S t head.Repeat a s r i w = refl
none_first A S t head.ReceiveAny a s r i w = refl
none_first A S t head.Alone a s r i w = refl
