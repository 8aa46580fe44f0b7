-- The unfolding of branches, and of the loops of one owner.
use Rattle.std.proofs.Common.{◌≡◌, ℕ, suc, zero, ◌+◌, Bool, true, false, Some, None, refl, sym, ap, ◌∙◌, subst, arith, zero-add, add-zero}
use Rattle.std.specs.Prelude.{if◌then◌else◌}
use Rattle.std.proofs.lemmas.Bool.{lt-ltb}
use Rattle.brisk_values.specs.declared.value.Pid.{Pid}
use Rattle.brisk_values.specs.Names.{Name}
use Rattle.brisk_syntax.specs.Syntax.{Expression, Statement, While, Repeat, Code, ◌⨾◌, ◌then◌}
use Rattle.brisk_seq.specs.Sequential.{Focus, holds_at}
use Rattle.brisk_async.specs.Machine.{State}
use Rattle.brisk_basic.specs.Outcomes.{and_then}
use Rattle.brisk_sound.specs.Does as does
use Rattle.brisk_sound.specs.Does.{Mem, Does}
use Rattle.brisk_rules.specs.Unfolding.{Unfolding, Unfolded, moves, turns_while, turns_each}
use Rattle.brisk_sound.proofs.Acting.{at_statement, if_plain}
use Rattle.brisk_sound.proofs.After.{at_guard}
use Rattle.brisk_sound.proofs.Branch.{event_of}
use Rattle.brisk_sound.proofs.Carried.{Carries}
use Rattle.brisk_sound.proofs.Control.{sides}
use Rattle.brisk_sound.proofs.Fits.{World, Conf, mem, Picks, Fits}
use Rattle.brisk_sound.proofs.Leads.{state, unchanged_at}
use Rattle.brisk_sound.proofs.Link.{mem_of}
use Rattle.brisk_sound.proofs.Loops as whiles
use Rattle.brisk_sound.proofs.Loops.{Restored, behind, Turns, turning, returns, turn_start, after_while}
use Rattle.brisk_rules.proofs.Readings.{Reading, is_active}
use Rattle.brisk_sound.proofs.Repeats as repeats
use Rattle.brisk_sound.proofs.Repeats.{repeat_at, repeat_start, after_repeat}
use Rattle.brisk_sound.proofs.Sound.{Typing, Sound}
use Rattle.brisk_sound.proofs.Unfolds.{Gives, gives_then, gives_if, gives_turn, Reached, Unfolds, goes_further, after_event, reached_one}
use Rattle.brisk_values.specs.Names.{same_name}
use Rattle.brisk_values.proofs.Changes.{exact_name}

module _ (world : World) (T : Typing world) where
  module _ (S : Reading) (t : Name) (act : is_active (S.mode t) ≡ true) (s : Statement) (e : Expression) (a b rest : Code) (is : S.code t ≡ s ⨾ rest) (has_sides : sides s ≡ Some (e, a, b)) where
    pub unfolds_branch : (U V : Focus → Unfolding → Unfolded) (S' : Reading) → Unfolds world T (at_guard S t e true (a then rest)) U S' → Unfolds world T (at_guard S t e false (b then rest)) V S' →
        Unfolds world T S (λ φ u. if holds_at world.given u.run (φ t) e then U φ (moves (φ t) u) else V φ (moves (φ t) u)) S'
    unfolds_branch U V S' x y κ φ c typed beyond picks f u same z h =
        let none = at_statement world T S t act s rest is (if_plain world T s e a b has_sides) κ φ c picks f u.sender z h in
        gives_if (Reached world S S' κ φ c u.events z) (holds_at world.given u.run (φ t) e) _ _
        (λ g. after_event world T S _ κ κ φ c u z (φ t) same h none (event_of world T S t act s e a b rest is has_sides κ φ c typed beyond picks f true (ap (does.guard world.given t e φ) same ∙ g)) T.Behind refl typed beyond picks U S' S' x (λ d k. k))
        (λ g. after_event world T S _ κ κ φ c u z (φ t) same h none (event_of world T S t act s e a b rest is has_sides κ φ c typed beyond picks f false (ap (does.guard world.given t e φ) same ∙ g)) T.Behind refl typed beyond picks V S' S' y (λ d k. k))

  module _ (S : Reading) (t : Name) (act : is_active (S.mode t) ≡ true) (e : Expression) (b rest : Code) (is : S.code t ≡ While e b ⨾ rest) (U : Focus → Unfolding → Unfolded) (E : Reading)
      (turn : Unfolds world (turning world T S t (λ k. S.code t)) (turn_start world T S t act e b rest is) U E) (w : Restored S E t) where
    abbrev after : Reading
    after = after_while world T S t act e b rest is

    abbrev tested : Focus → Unfolding → Bool
    tested φ u = holds_at world.given u.run (φ t) e

    module _ (κ : Pid → Code) (φ : Focus) (c : Conf) (typed : T.IsTyped c) (beyond : T.Behind κ φ) (picks : Picks S.mode φ) (f : Fits world S κ φ c) (u : Unfolding) (same : mem c ≡ mem_of u.run) (z : State) (h : Carries u.sender (state world c) z) where
      none : u.sender (φ t) ≡ None
      none = at_statement world T S t act (While e b) rest is (λ φ. refl) κ φ c picks f u.sender z h

      leaves : tested φ u ≡ false → Reached world S after κ φ c u.events z (moves (φ t) u)
      leaves g = reached_one world T S after κ φ c u z (φ t) same h none (whiles.leaves world T S t act e b rest is κ φ c typed beyond picks f (ap (does.guard world.given t e φ) same ∙ g))

      turns : tested φ u ≡ true → (left : ℕ) → Gives (Reached world S S κ φ c u.events z) (U φ (moves (φ t) record u { run = record u.run { turns = left } }))
      turns g left =
          after_event world T S _ κ (behind S t φ κ) φ c record u { run = record u.run { turns = left } } z (φ t) same h none
          (whiles.begins world T S t act e b rest is κ φ c typed beyond picks f (ap (does.guard world.given t e φ) same ∙ g)) (Turns world T S t (λ k. S.code t)) refl typed record { κ = κ; turn = 0; beyond = beyond; picks = picks; is = refl } picks U E S turn (λ d k. returns world S E t act w κ φ d picks k)

    pub unfolds_while : (n : ℕ) → Unfolds world T S (λ φ u. turns_while n (tested φ) (moves (φ t)) (U φ) u) after
    unfolds_while zero κ φ c typed beyond picks f u same z h =
        gives_if (Reached world S after κ φ c u.events z) (tested φ u) _ _ (λ g. tt) (λ g. leaves κ φ c typed beyond picks f u same z h g)
    unfolds_while (suc n) κ φ c typed beyond picks f u same z h =
        gives_if (Reached world S after κ φ c u.events z) (tested φ u) _ _
        (λ g. gives_turn (Reached world S after κ φ c u.events z) u.run.turns u (λ v. and_then (U φ (moves (φ t) v)) (turns_while n (tested φ) (moves (φ t)) (U φ))) (λ left.
        gives_then (Reached world S S κ φ c u.events z) (Reached world S after κ φ c u.events z) (U φ (moves (φ t) record u { run = record u.run { turns = left } })) (turns_while n (tested φ) (moves (φ t)) (U φ))
        (turns κ φ c typed beyond picks f u same z h g left)
        (λ v x. goes_further world T S S after refl (λ φ u. turns_while n (tested φ) (moves (φ t)) (U φ) u) (unfolds_while n) κ φ c typed beyond picks u.events z v x)))
        (λ g. leaves κ φ c typed beyond picks f u same z h g)

  module _ (S : Reading) (t s : Name) (b rest : Code) (R : Does) (E : Reading) (act : is_active (S.mode t) ≡ true) (sound : Sound world (turning world T S t (λ k. Repeat s k b ⨾ rest)) (repeat_start world T S t s b rest) R E)
      (U : Focus → Unfolding → Unfolded) (turn : Unfolds world (turning world T S t (λ k. Repeat s k b ⨾ rest)) (repeat_start world T S t s b rest) U E) (w : Restored S E t) where
    abbrev at : ℕ → Reading
    at = repeat_at world T S t s b rest

    abbrev left_it : Reading
    left_it = after_repeat world T S t s b rest

    none_at : (k : ℕ) (κ : Pid → Code) (φ : Focus) (c : Conf) → Picks S.mode φ → Fits world (at k) κ φ c → (u : Unfolding) (z : State) → Carries u.sender (state world c) z → u.sender (φ t) ≡ None
    none_at k κ φ c picks f u z h = at_statement world T (at k) t act (Repeat s k b) rest (repeats.at_is world T S t s b rest R E act sound w k) (λ φ. refl) κ φ c picks f u.sender z h

    unfolds_turns : (left k : ℕ) → left + k ≡ world.given.sizes s → Unfolds world T (at k) (λ φ u. turns_each left k (moves (φ t)) (λ j. U φ) u) left_it
    unfolds_turns zero k e κ φ c typed beyond picks f u same z h =
        let last : k ≡ world.given.sizes s = sym (zero-add k) ∙ e in
        subst (λ (j : ℕ). Reached world (at j) left_it κ φ c u.events z (moves (φ t) u)) (sym last)
        (reached_one world T (at (world.given.sizes s)) left_it κ φ c u z (φ t) same h (none_at k κ φ c picks f u z h)
        (repeats.leaves world T S t s b rest R E act sound w κ φ c picks (subst (λ (j : ℕ). Fits world (at j) κ φ c) last f)))
    unfolds_turns (suc left) k e κ φ c typed beyond picks f u same z h =
        gives_then (Reached world (at k) (at (k + 1)) κ φ c u.events z) (Reached world (at k) left_it κ φ c u.events z) (U φ (moves (φ t) u)) (turns_each left (k + 1) (moves (φ t)) (λ j. U φ))
        (after_event world T (at k) _ κ (behind (at (k + 1)) t φ κ) φ c u z (φ t) same h (none_at k κ φ c picks f u z h)
        (repeats.begins world T S t s b rest R E act sound w k (lt-ltb k (world.given.sizes s) (omega (arith, e))) κ φ c picks f) (Turns world T S t (λ k. Repeat s k b ⨾ rest)) refl typed (repeats.around_turn world T S t s b rest R E act sound w (k + 1) κ φ beyond picks) picks U E (at (k + 1)) turn
        (λ d g. returns world (at (k + 1)) E t act (repeats.restored world T S t s b rest R E act sound w (k + 1)) κ φ d picks g))
        (λ v x. goes_further world T (at k) (at (k + 1)) left_it refl (λ φ u. turns_each left (k + 1) (moves (φ t)) (λ j. U φ) u) (unfolds_turns left (k + 1) (omega (arith, e))) κ φ c typed beyond picks u.events z v x)

    pub unfolds_repeat : S.code t ≡ Repeat s 0 b ⨾ rest → Unfolds world T S (λ φ u. turns_each (world.given.sizes s) 0 (moves (φ t)) (λ j. U φ) u) left_it
    unfolds_repeat is =
        let path : S ≡ at 0 = (λ i. record S { code = sym (unchanged_at same_name exact_name S.code t (Repeat s 0 b ⨾ rest) (sym is)) i }) in
        subst (λ (Z : Reading). Unfolds world T Z (λ φ u. turns_each (world.given.sizes s) 0 (moves (φ t)) (λ j. U φ) u) left_it) (sym path) (unfolds_turns (world.given.sizes s) 0 (add-zero (world.given.sizes s)))
