-- How turns that the code makes one after another are those of the definition.
use Rattle.std.proofs.Common.{◌≡◌, ℕ, suc, ◌+◌, ◌≤◌, ◌-◌, Bool, true, false, Option, Some, None, List, [], ◌∷◌, ◌++◌, map, refl, sym, ap, ◌∙◌, subst, arith}
use Rattle.std.specs.Prelude.{if◌then◌else◌}
use Rattle.std.proofs.lemmas.Bool.{leb-true}
use Rattle.brisk_seq.specs.Items.{Items, ◌followed_by◌}
use Rattle.brisk_state.specs.Symbolic.{Symbolic}
use Rattle.brisk_rules.specs.Standing.{resting}
use Rattle.brisk_loops.specs.Walk.{Walked}
use Rattle.brisk_loops.specs.WalkKept.{kept}
use Rattle.brisk_search.specs.declared.drive.Comer.TheVariants.{Thread, Set}
use Rattle.brisk_search.specs.declared.turn.Turn.{Turn}
use Rattle.brisk_search.specs.declared.turn.Turn.TheVariants as turn
use Rattle.brisk_search.specs.Advance.{Around, advance}
use Rattle.brisk_search.specs.Drives.{Drive, in_turn}
use Rattle.brisk_search.specs.Met.{Alike, MeetsTurn}
use Rattle.brisk_search.specs.Passes.{round, without_owners}
use Rattle.brisk_search.specs.Turns as turns
use Rattle.brisk_search.specs.Turns.{RulesLeft, Failures, Attempt, due, stay, first_of, where_it_stays, ◌otherwise◌}
use Rattle.brisk_search.specs.Views.{HasRoom, IsSpent, IsWithin, attempt_of, comers_in, is_spent, left_of}

-- ---- what is left

pub due_goes : (budget : Option ℕ) (a : ℕ) (apply : RulesLeft → turns.Turn) → is_spent budget a ≡ false → HasRoom budget a → due (left_of budget a) apply ≡ apply (left_of budget (kept (a + 1)))
due_goes None a apply s h = refl
due_goes (Some b) a apply s h =
    let less : b - a ≡ suc (b - kept (a + 1)) = omega (arith, h.0, h.1) in
    ap (λ n. due (Some n) apply) less

pub due_spent : (budget : Option ℕ) (a : ℕ) (apply : RulesLeft → turns.Turn) → is_spent budget a ≡ true → due (left_of budget a) apply ≡ turns.Spent
due_spent None a apply s = absurd (let w = s in cc)
due_spent (Some b) a apply s =
    let least : b ≤ a = leb-true b a s in
    let none : b - a ≡ 0 = omega (arith, least) in
    ap (λ n. due (Some n) apply) none

pub spends : (budget : Option ℕ) (a : ℕ) → is_spent budget a ≡ true → IsWithin budget a → IsSpent budget a
spends None a s w = absurd (let v = s in cc)
spends (Some b) a s w = let least : b ≤ a = leb-true b a s in omega (arith, least, w.0)

pub within_more : (budget : Option ℕ) (a : ℕ) → HasRoom budget a → IsWithin budget (kept (a + 1))
within_more None a h = tt
within_more (Some b) a h = (omega (arith, h.0, h.1), h.1)

-- the number is kept
pub left_kept : (budget : Option ℕ) (a : ℕ) → IsWithin budget a → left_of budget (kept a) ≡ left_of budget a
left_kept None a h = refl
left_kept (Some b) a h = let same : kept a ≡ a = omega (arith, h.0, h.1) in ap (λ n. Some (b - n)) same

pub within_kept : (budget : Option ℕ) (a : ℕ) → IsWithin budget a → IsWithin budget (kept a)
within_kept None a h = tt
within_kept (Some b) a h = (omega (arith, h.0, h.1), h.1)

-- ---- turns one after another

pub alike_self : (budget : Option ℕ) (w : Walked) → IsWithin budget w.applied → Alike budget w w
alike_self budget w h = ((refl, refl, h), refl, refl)

pub alike_then : (budget : Option ℕ) (w u v : Walked) → Alike budget w u → Alike budget u v → Alike budget w v
alike_then budget w u v a b = ((b.0.0 ∙ a.0.0, b.0.1 ∙ a.0.1, b.0.2), b.1 ∙ a.1, b.2 ∙ a.2)

-- what is met from a walk that stands alike
pub alike_meets : (budget : Option ℕ) (t : turns.Turn) (o : Turn) (fs : Failures) (w u v : Walked) → Alike budget w u → MeetsTurn budget t o fs u v → MeetsTurn budget t o fs w v
alike_meets budget t (turn.Goes s) fs w u v a m =
    (m.0, ((m.1.0.0 ∙ a.0.0, m.1.0.1 ∙ a.0.1, m.1.0.2), m.1.1 ∙ ap (λ (X : Items). X followed_by m.0) a.2), m.2)
alike_meets budget t turn.Stays fs w u v a m = (alike_then budget w u v a m.0, m.1)
alike_meets budget t turn.Spent fs w u v a m = ((m.0.0 ∙ a.0.0, m.0.1), m.1)

-- the turn is another, which is the same
pub same_turn : (budget : Option ℕ) (t s : turns.Turn) (o : Turn) (fs : Failures) (w v : Walked) → t ≡ s → MeetsTurn budget s o fs w v → MeetsTurn budget t o fs w v
same_turn budget t s o fs w v e m = subst (λ (z : turns.Turn). MeetsTurn budget z o fs w v) (sym e) m

-- the next attempt is made where the turn stayed
pub next_meets : (budget : Option ℕ) (t : turns.Turn) (next : Attempt) (o : Turn) (fs gs : Failures) (w u v : Walked) → MeetsTurn budget t turn.Stays gs w u → MeetsTurn budget (next gs (left_of budget u.applied)) o fs u v → MeetsTurn budget (where_it_stays next t) o fs w v
next_meets budget t next o fs gs w u v s m = same_turn budget _ _ o fs w v (ap (where_it_stays next) s.1) (alike_meets budget _ o fs w u v s.0 m)

-- and it isn't where the turn went, or the rules are spent
pub moves_meets : (budget : Option ℕ) (t : turns.Turn) (next : Attempt) (o : Turn) (fs gs : Failures) (w v : Walked) → (o ≡ turn.Stays → ⊥) → MeetsTurn budget t o gs w v → MeetsTurn budget (where_it_stays next t) o fs w v
moves_meets budget t next (turn.Goes s) fs gs w v h m = (m.0, m.1, ap (where_it_stays next) m.2)
moves_meets budget t next turn.Stays fs gs w v h m = absurd (h refl)
moves_meets budget t next turn.Spent fs gs w v h m = (m.0, ap (where_it_stays next) m.1)

-- ---- attempts that are written in another way

pub then_stay : (t : turns.Turn) → where_it_stays stay t ≡ t
then_stay (turns.Goes step items S left) = refl
then_stay (turns.Stays fs left) = refl
then_stay turns.Spent = refl

pub then_both : (f g : Attempt) (t : turns.Turn) → where_it_stays (f otherwise g) t ≡ where_it_stays g (where_it_stays f t)
then_both f g (turns.Goes step items S left) = refl
then_both f g (turns.Stays fs left) = refl
then_both f g turns.Spent = refl

-- attempts that come to the same
pub then_alike : (f g : Attempt) → ((fs : Failures) (left : RulesLeft) → f fs left ≡ g fs left) → (t : turns.Turn) → where_it_stays f t ≡ where_it_stays g t
then_alike f g e (turns.Goes step items S left) = refl
then_alike f g e (turns.Stays fs left) = e fs left
then_alike f g e turns.Spent = refl

-- the first of two lists of attempts
first_then : {A B : Type 0} (f : A → Attempt) (g : B → Attempt) (to : A → B) → ((a : A) (fs : Failures) (left : RulesLeft) → g (to a) fs left ≡ f a fs left) → (xs : List A) (ys : List B) (fs : Failures) (left : RulesLeft) →
    first_of g (map to xs ++ ys) fs left ≡ (first_of f xs otherwise first_of g ys) fs left
first_then f g to e [] ys fs left = refl
first_then f g to e (x ∷ xs) ys fs left =
    ap (where_it_stays (first_of g (map to xs ++ ys))) (e x fs left)
    ∙ then_alike (first_of g (map to xs ++ ys)) (first_of f xs otherwise first_of g ys) (first_then f g to e xs ys) (f x fs left)
    ∙ then_both (first_of f xs) (first_of g ys) (f x fs left)

first_only : {A B : Type 0} (f : A → Attempt) (g : B → Attempt) (to : A → B) → ((a : A) (fs : Failures) (left : RulesLeft) → g (to a) fs left ≡ f a fs left) → (xs : List A) (fs : Failures) (left : RulesLeft) →
    first_of g (map to xs) fs left ≡ first_of f xs fs left
first_only f g to e [] fs left = refl
first_only f g to e (x ∷ xs) fs left =
    ap (where_it_stays (first_of g (map to xs))) (e x fs left) ∙ then_alike (first_of g (map to xs)) (first_of f xs) (first_only f g to e xs) (f x fs left)

-- a round is the first of those that come in turn
pub round_first : (A : Around) (d : Drive) (S : Symbolic) (fs : Failures) (left : RulesLeft) → round A d S fs left ≡ first_of (attempt_of A S) (comers_in d S) fs left
round_first A d S fs left =
    then_alike (if d.sets then first_of (without_owners A S) (resting S) else stay) (first_of (attempt_of A S) (if d.sets then map (λ s. Set s) (resting S) else [])) (sets d.sets) (first_of (advance A S) (in_turn d S) fs left)
    ∙ sym (first_then (advance A S) (attempt_of A S) (λ t. Thread t) (λ t gs left. refl) (in_turn d S) (if d.sets then map (λ s. Set s) (resting S) else []) fs left)
  where
    sets : (b : Bool) (gs : Failures) (l : RulesLeft) → (if b then first_of (without_owners A S) (resting S) else stay) gs l ≡ first_of (attempt_of A S) (if b then map (λ s. Set s) (resting S) else []) gs l
    sets true gs l = sym (first_only (without_owners A S) (attempt_of A S) (λ s. Set s) (λ s hs left. refl) (resting S) gs l)
    sets false gs l = refl
