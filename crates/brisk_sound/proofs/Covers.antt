-- What stands behind the codes of threads is covered by what follows them: in a derivation's first state, and from a state to the premises of rules.
use Rattle.std.proofs.Common.{◌≡◌, ℕ, ◌+◌, Bool, true, false, List, [], ◌∷◌, Option, Some, None, refl, sym, ap, ◌∙◌, subst, arith, nat_eq}
use Rattle.std.specs.Prelude.{if◌then◌else◌, ◌&&◌, ◌||◌, nat_le}
use Rattle.std.proofs.lemmas.Bool.{lt-leb}
use Rattle.brisk_values.specs.declared.value.Pid.{Pid}
use Rattle.brisk_values.specs.Functions.{changed}
use Rattle.brisk_values.specs.Names.{Name, same_name, same_process, single, member}
use Rattle.brisk_values.proofs.Changes.{name_laws, process_laws, exact_name, changed-other, changed-same}
use Rattle.brisk_syntax.specs.declared.tree.Who.{Who}
use Rattle.brisk_syntax.specs.declared.tree.Who.TheVariants as who
use Rattle.brisk_syntax.specs.Syntax.{For, Code, done, ◌⨾◌, ◌then◌}
use Rattle.brisk_seq.specs.Sequential.{Focus, in_focus}
use Rattle.brisk_state.specs.declared.thread.Mode.{Mode}
use Rattle.brisk_state.specs.declared.thread.Mode.TheVariants.{One, At, Each}
use Rattle.brisk_quiet.specs.Quiet.{Counts, Walked, Ends}
use Rattle.brisk_rules.specs.Following.{Follow, nothing_follows, behind_head}
use Rattle.brisk_quiet.specs.Sender.{Piece, is_binder, unsent}
use Rattle.brisk_sound.proofs.Fits.{World, Picks}
use Rattle.brisk_sound.proofs.Follows.{after_le, later_by, piece_by, pieces_by, plain_by, FreePieces, pieces_free, unsent_le}
use Rattle.brisk_sound.proofs.For.{Loop, Entry, owners, at_turn, within_for, inside_by, picks_in}
use Rattle.brisk_sound.proofs.Gather.{Gathers, gather_at, within_gather}
use Rattle.brisk_sound.proofs.Member.{not_a_set}
use Rattle.brisk_sound.proofs.Pick.{MayPick, within_pick}
use Rattle.brisk_async.specs.Laws.{AnyReceive}
use Rattle.brisk_sound.proofs.Free.{Free, code_other}
use Rattle.brisk_sound.proofs.Loops.{Turns, turning}
use Rattle.brisk_sound.proofs.Middle.{focused}
use Rattle.brisk_sound.proofs.Quiet.{keeps_by}
use Rattle.brisk_rules.proofs.Readings.{Reading, is_active, who_by, code_by, stands_by}
use Rattle.brisk_sound.proofs.Resting.{heard}
use Rattle.brisk_sound.proofs.Sound.{Typing}
use Rattle.brisk_sound.proofs.Walks.{Test, whomever, under_for, hide, walk_by, Fewer, Le, unless_le, Keeps, keeps_for, walk_by_le}
use Rattle.std.proofs.Math.Bool.{or-false}

-- the code that stands behind each thread sends no more than what follows the thread says, to a thread and to any process
pub record Covers (world : World) (T : Typing world) (mode : Name → Option Mode) (F : Follow) : Type 0 where
  pub known : (κ : Pid → Code) (φ : Focus) → T.Behind κ φ → Picks mode φ → (t u : Name) → is_active (mode t) ≡ true → is_active (mode u) ≡ true → (C : Name) (n : Counts) →
      Le (walk_by (heard (φ u) (φ t) C) C (κ (φ t)) n) (pieces_by (stands_by (mode u) u) u C (F t) n)
  pub others : (κ : Pid → Code) (φ : Focus) → T.Behind κ φ → Picks mode φ → (t : Name) → is_active (mode t) ≡ true → (p w : Pid) (C : Name) (n : Counts) →
      Le (walk_by (heard p w C) C (κ (φ t)) n) (plain_by C (F t) n)
  pub free : (r t : Name) → mode r ≡ Some Each → FreePieces r (F t)
  pub each : (s : Name) → mode s ≡ Some Each → F s ≡ []

same_counts : (n : Counts) → Fewer n n
same_counts n c = omega arith

-- a receiver of which nothing is known stays one
keeps_none : (φ : Focus) (p w : Pid) (C : Name) → Keeps (whomever (λ u. false)) (heard p w C) (who_by φ)
keeps_none φ p w C = record { stays = λ u e. cc; names = names; aims = λ u e. refl; turns = λ s k e. refl }
  where
    names : (u : Who) (n : Name) → who_by φ u ≡ who.Name n → u ≡ who.Name n
    names (who.Name m) n e = e
    names (who.At s) n e = cc
    names (who.Pid p) n e = cc

-- code of a thread sends no more than its walk says
pub own_known : (mode : Name → Option Mode) (φ : Focus) (u : Name) (w : Pid) (C : Name) → Picks mode φ → (K : Code) (n : Counts) → Le (walk_by (heard (φ u) w C) C (code_by φ K) n) (walk_by (whomever (stands_by (mode u) u)) C K n)
own_known mode φ u w C picks K n = walk_by_le (whomever (stands_by (mode u) u)) (heard (φ u) w C) (who_by φ) C K n n (keeps_by mode φ u w C picks) (same_counts n)

own_others : (φ : Focus) (p w : Pid) (C : Name) (K : Code) (n : Counts) → Le (walk_by (heard p w C) C (code_by φ K) n) (walk_by (whomever (λ u. false)) C K n)
own_others φ p w C K n = walk_by_le (whomever (λ u. false)) (heard p w C) (who_by φ) C K n n (keeps_none φ p w C) (same_counts n)

-- processes of threads that differ
apart_by : (mode : Name → Option Mode) (φ : Focus) (t u : Name) → Picks mode φ → same_name t u ≡ false → same_process (φ t) (φ u) ≡ false
apart_by mode φ t u picks e = (λ i. same_name (picks.role_of t i) (picks.role_of u i) && nat_eq (φ t).member (φ u).member) ∙ ap (λ b. b && nat_eq (φ t).member (φ u).member) e

-- owners named alone
abbrev pub one_owner : Name → Name → Bool
one_owner t u = same_name u t || false

-- pieces that a rule puts
abbrev pub whole : Code → Piece
whole code = record { mark = None; code = code }

abbrev pub marked : Name → Code → Piece
marked s code = record { mark = Some s; code = code }

abbrev pub rest_piece : Code → Piece
rest_piece code = record { mark = None; code = behind_head code }

-- what follows in a premise: a piece more for each owner
abbrev pub Puts : (Name → Code) → (Name → Bool) → (Code → Piece) → Follow → Follow → Type 0
Puts code own piece F F' = (u : Name) → F' u ≡ (if own u then piece (code u) ∷ F u else F u)

-- a rule of one owner, without a set in focus
module _ (world : World) (T : Typing world) (S : Reading) (t : Name) (loop : ℕ → Code) (F F' : Follow)
    (alike : (k : ℕ) (φ : Focus) (test : Test) (C : Name) (n : Counts) → walk_by test C (code_by φ (loop k)) n ≡ walk_by test C (code_by φ (S.code t)) n)
    (puts : Puts S.code (one_owner t) whole F F') (act : is_active (S.mode t) ≡ true)
    (free : (r : Name) → S.mode r ≡ Some Each → Free r (S.code t)) (c : Covers world T S.mode F) where
  puts_on : (u : Name) → same_name u t ≡ true → F' u ≡ whole (S.code t) ∷ F t
  puts_on u e = puts u ∙ (λ i. if e i || false then whole (S.code u) ∷ F u else F u) ∙ (λ i. whole (S.code (exact_name u t e i)) ∷ F (exact_name u t e i))

  puts_off : (u : Name) → same_name u t ≡ false → F' u ≡ F u
  puts_off u e = puts u ∙ (λ i. if e i || false then whole (S.code u) ∷ F u else F u)

  -- what stands behind the owner, and behind the others
  behind_own : (κ' : Pid → Code) (φ : Focus) (x : Turns world T S t loop κ' φ) (u : Name) → same_name u t ≡ true → κ' (φ u) ≡ code_by φ (loop x.turn) then x.κ (φ t)
  behind_own κ' φ x u e = ap (λ z. κ' (φ z)) (exact_name u t e) ∙ ap (λ f. f (φ t)) x.is ∙ changed-same process_laws x.κ (φ t) (code_by φ (loop x.turn) then x.κ (φ t))

  behind_other : (κ' : Pid → Code) (φ : Focus) (x : Turns world T S t loop κ' φ) (u : Name) → same_name u t ≡ false → κ' (φ u) ≡ x.κ (φ u)
  behind_other κ' φ x u e = ap (λ f. f (φ u)) x.is ∙ changed-other process_laws x.κ (φ t) (code_by φ (loop x.turn) then x.κ (φ t)) (φ u) (apart_by S.mode φ t u x.picks (name_laws.symm t u ∙ e))

  pub covers_turns : Covers world (turning world T S t loop) S.mode F'
  covers_turns = record { known = known; others = others; free = frees; each = each }
    where
      known : (κ' : Pid → Code) (φ : Focus) → Turns world T S t loop κ' φ → Picks S.mode φ → (v u : Name) → is_active (S.mode v) ≡ true → is_active (S.mode u) ≡ true → (C : Name) (n : Counts) →
          Le (walk_by (heard (φ u) (φ v) C) C (κ' (φ v)) n) (pieces_by (stands_by (S.mode u) u) u C (F' v) n)
      known κ' φ x picks v u act_v act_u C n =
          elim (same_name v t) as (λ b. same_name v t ≡ b → Le (walk_by (heard (φ u) (φ v) C) C (κ' (φ v)) n) (pieces_by (stands_by (S.mode u) u) u C (F' v) n)) [
            | true ↦ λ e.
                subst (λ (ps : List Piece). Le (walk_by (heard (φ u) (φ v) C) C (κ' (φ v)) n) (pieces_by (stands_by (S.mode u) u) u C ps n)) (sym (puts_on v e))
                (subst (λ (k : Code). Le (walk_by (heard (φ u) (φ v) C) C k n) (pieces_by (stands_by (S.mode u) u) u C (whole (S.code t) ∷ F t) n)) (sym (behind_own κ' φ x v e))
                (after_le (heard (φ u) (φ v) C) C (code_by φ (loop x.turn)) (x.κ (φ t)) n (walk_by (whomever (stands_by (S.mode u) u)) C (S.code t) n) (pieces_by (stands_by (S.mode u) u) u C (F t))
                (subst (λ (z : Walked). Le z (walk_by (whomever (stands_by (S.mode u) u)) C (S.code t) n)) (sym (alike x.turn φ (heard (φ u) (φ v) C) C n)) (own_known S.mode φ u (φ v) C picks (S.code t) n))
                (λ m. c.known x.κ φ x.beyond picks t u act act_u C m)))
            | false ↦ λ e.
                subst (λ (ps : List Piece). Le (walk_by (heard (φ u) (φ v) C) C (κ' (φ v)) n) (pieces_by (stands_by (S.mode u) u) u C ps n)) (sym (puts_off v e))
                (subst (λ (k : Code). Le (walk_by (heard (φ u) (φ v) C) C k n) (pieces_by (stands_by (S.mode u) u) u C (F v) n)) (sym (behind_other κ' φ x v e)) (c.known x.κ φ x.beyond picks v u act_v act_u C n))
          ] refl

      others : (κ' : Pid → Code) (φ : Focus) → Turns world T S t loop κ' φ → Picks S.mode φ → (v : Name) → is_active (S.mode v) ≡ true → (p w : Pid) (C : Name) (n : Counts) →
          Le (walk_by (heard p w C) C (κ' (φ v)) n) (plain_by C (F' v) n)
      others κ' φ x picks v act_v p w C n =
          elim (same_name v t) as (λ b. same_name v t ≡ b → Le (walk_by (heard p w C) C (κ' (φ v)) n) (plain_by C (F' v) n)) [
            | true ↦ λ e.
                subst (λ (ps : List Piece). Le (walk_by (heard p w C) C (κ' (φ v)) n) (plain_by C ps n)) (sym (puts_on v e))
                (subst (λ (k : Code). Le (walk_by (heard p w C) C k n) (plain_by C (whole (S.code t) ∷ F t) n)) (sym (behind_own κ' φ x v e))
                (after_le (heard p w C) C (code_by φ (loop x.turn)) (x.κ (φ t)) n (walk_by (whomever (λ u. false)) C (S.code t) n) (plain_by C (F t))
                (subst (λ (z : Walked). Le z (walk_by (whomever (λ u. false)) C (S.code t) n)) (sym (alike x.turn φ (heard p w C) C n)) (own_others φ p w C (S.code t) n))
                (λ m. c.others x.κ φ x.beyond picks t act p w C m)))
            | false ↦ λ e.
                subst (λ (ps : List Piece). Le (walk_by (heard p w C) C (κ' (φ v)) n) (plain_by C ps n)) (sym (puts_off v e))
                (subst (λ (k : Code). Le (walk_by (heard p w C) C k n) (plain_by C (F v) n)) (sym (behind_other κ' φ x v e)) (c.others x.κ φ x.beyond picks v act_v p w C n))
          ] refl

      frees : (r v : Name) → S.mode r ≡ Some Each → FreePieces r (F' v)
      frees r v g =
          elim (same_name v t) as (λ b. same_name v t ≡ b → FreePieces r (F' v)) [
            | true ↦ λ e. subst (FreePieces r) (sym (puts_on v e)) (refl, free r g, c.free r t g)
            | false ↦ λ e. subst (FreePieces r) (sym (puts_off v e)) (c.free r v g)
          ] refl

      each : (s : Name) → S.mode s ≡ Some Each → F' s ≡ []
      each s g =
          elim (same_name s t) as (λ b. same_name s t ≡ b → F' s ≡ []) [
            | true ↦ λ e. absurd (not_both (S.mode t) act (ap S.mode (sym (exact_name s t e)) ∙ g))
            | false ↦ λ e. puts_off s e ∙ c.each s g
          ] refl
        where
          not_both : (m : Option Mode) → is_active m ≡ true → m ≡ Some Each → ⊥
          not_both None a b = cc
          not_both (Some One) a b = cc
          not_both (Some At) a b = cc
          not_both (Some Each) a b = cc

not_both_each : (m : Option Mode) → is_active m ≡ true → m ≡ Some Each → ⊥
not_both_each None a b = cc
not_both_each (Some One) a b = cc
not_both_each (Some At) a b = cc
not_both_each (Some Each) a b = cc

-- a rule that brings a set into focus
module _ (world : World) (T : Typing world) (S : Reading) (s : Name) (within : ℕ → ℕ → Focus → (Pid → Code) → Pid → Code) (own : Name → Bool) (loop : ℕ → ℕ → Name → Code) (piece : Code → Piece) (F F' : Follow)
    (set : S.mode s ≡ Some Each) (not_owner : own s ≡ false) (acts : (t : Name) → own t ≡ true → is_active (S.mode t) ≡ true)
    (within_own : (m k : ℕ) (φ : Focus) (κ : Pid → Code) → Picks S.mode φ → (t : Name) → own t ≡ true → within m k φ κ (φ t) ≡ code_by φ (loop m k t) then κ (φ t))
    (within_other : (m k : ℕ) (φ : Focus) (κ : Pid → Code) → Picks S.mode φ → (p : Pid) → own p.role ≡ false → within m k φ κ p ≡ κ p)
    (first_known : (m k : ℕ) (φ : Focus) → Picks S.mode φ → (t : Name) → own t ≡ true → (u : Name) (w : Pid) (C : Name) (n : Counts) →
    Le (walk_by (heard (in_focus s m φ u) w C) C (code_by φ (loop m k t)) n) (piece_by (stands_by (focused S.mode s u) u) u C (piece (S.code t)) n))
    (first_others : (m k : ℕ) (φ : Focus) (t : Name) → own t ≡ true → (p w : Pid) (C : Name) (n : Counts) →
    Le (walk_by (heard p w C) C (code_by φ (loop m k t)) n) (walk_by (whomever (λ u. false)) C (piece (S.code t)).code n))
    (first_free : (r t : Name) → own t ≡ true → same_name s r ≡ false → S.mode r ≡ Some Each → FreePieces r (piece (S.code t) ∷ []))
    (puts : Puts S.code own piece F F') (c : Covers world T S.mode F) where
  put : (u : Name) (b : Bool) → own u ≡ b → F' u ≡ (if b then piece (S.code u) ∷ F u else F u)
  put u b e = puts u ∙ ap (λ z. if z then piece (S.code u) ∷ F u else F u) e

  module _ (κ : Pid → Code) (φ : Focus) (m k : ℕ) (beyond : T.Behind κ φ) (picks : Picks S.mode φ) (each : κ (member s m) ≡ done) where
    abbrev ψ : Focus
    ψ = in_focus s m φ

    abbrev κ' : Pid → Code
    κ' = within m k φ κ

    -- what stood behind before, to a thread of the premise
    old_known : (v u : Name) → is_active (S.mode v) ≡ true → is_active (focused S.mode s u) ≡ true → (w : Pid) (C : Name) (n : Counts) →
        Le (walk_by (heard (ψ u) w C) C (κ (φ v)) n) (pieces_by (stands_by (focused S.mode s u) u) u C (F v) n)
    old_known v u act_v act_u w C n =
        elim (same_name s u) as (λ b. same_name s u ≡ b → is_active (if b then Some At else S.mode u) ≡ true → Le (walk_by (heard (if b then member s m else φ u) w C) C (κ (φ v)) n) (pieces_by (stands_by (if b then Some At else S.mode u) u) u C (F v) n)) [
          | true ↦ λ e a.
              subst (λ (z : Name). Le (walk_by (heard (member s m) w C) C (κ (φ v)) n) (pieces_by (stands_by (Some At) z) z C (F v) n)) (exact_name s u e)
              (subst (λ (z : Walked). Le (walk_by (heard (member s m) w C) C (κ (φ v)) n) z) (sym (pieces_free s C (F v) (c.free s v set) n)) (c.others κ φ beyond picks v act_v (member s m) w C n))
          | false ↦ λ e a. c.known κ φ beyond picks v u act_v a C n
        ] refl act_u

    -- a thread that isn't the set
    one_known : (v u : Name) → is_active (S.mode v) ≡ true → is_active (focused S.mode s u) ≡ true → (w : Pid) (C : Name) (n : Counts) →
        Le (walk_by (heard (ψ u) w C) C (κ' (φ v)) n) (pieces_by (stands_by (focused S.mode s u) u) u C (F' v) n)
    one_known v u act_v act_u w C n =
        elim (own v) as (λ b. own v ≡ b → Le (walk_by (heard (ψ u) w C) C (κ' (φ v)) n) (pieces_by (stands_by (focused S.mode s u) u) u C (F' v) n)) [
          | true ↦ λ o.
              subst (λ (ps : List Piece). Le (walk_by (heard (ψ u) w C) C (κ' (φ v)) n) (pieces_by (stands_by (focused S.mode s u) u) u C ps n)) (sym (put v true o))
              (subst (λ (x : Code). Le (walk_by (heard (ψ u) w C) C x n) (pieces_by (stands_by (focused S.mode s u) u) u C (piece (S.code v) ∷ F v) n)) (sym (within_own m k φ κ picks v o))
              (after_le (heard (ψ u) w C) C (code_by φ (loop m k v)) (κ (φ v)) n _ (pieces_by (stands_by (focused S.mode s u) u) u C (F v)) (first_known m k φ picks v o u w C n) (λ j. old_known v u act_v act_u w C j)))
          | false ↦ λ o.
              subst (λ (ps : List Piece). Le (walk_by (heard (ψ u) w C) C (κ' (φ v)) n) (pieces_by (stands_by (focused S.mode s u) u) u C ps n)) (sym (put v false o))
              (subst (λ (x : Code). Le (walk_by (heard (ψ u) w C) C x n) (pieces_by (stands_by (focused S.mode s u) u) u C (F v) n)) (sym (within_other m k φ κ picks (φ v) (ap own (picks.role_of v) ∙ o))) (old_known v u act_v act_u w C n))
        ] refl

    one_others : (v : Name) → is_active (S.mode v) ≡ true → (p w : Pid) (C : Name) (n : Counts) → Le (walk_by (heard p w C) C (κ' (φ v)) n) (plain_by C (F' v) n)
    one_others v act_v p w C n =
        elim (own v) as (λ b. own v ≡ b → Le (walk_by (heard p w C) C (κ' (φ v)) n) (plain_by C (F' v) n)) [
          | true ↦ λ o.
              subst (λ (ps : List Piece). Le (walk_by (heard p w C) C (κ' (φ v)) n) (plain_by C ps n)) (sym (put v true o))
              (subst (λ (x : Code). Le (walk_by (heard p w C) C x n) (plain_by C (piece (S.code v) ∷ F v) n)) (sym (within_own m k φ κ picks v o))
              (after_le (heard p w C) C (code_by φ (loop m k v)) (κ (φ v)) n _ (plain_by C (F v)) (first_others m k φ v o p w C n) (λ j. c.others κ φ beyond picks v act_v p w C j)))
          | false ↦ λ o.
              subst (λ (ps : List Piece). Le (walk_by (heard p w C) C (κ' (φ v)) n) (plain_by C ps n)) (sym (put v false o))
              (subst (λ (x : Code). Le (walk_by (heard p w C) C x n) (plain_by C (F v) n)) (sym (within_other m k φ κ picks (φ v) (ap own (picks.role_of v) ∙ o))) (c.others κ φ beyond picks v act_v p w C n))
        ] refl

    -- behind the member in focus stands nothing
    set_behind : κ' (member s m) ≡ done
    set_behind = within_other m k φ κ picks (member s m) not_owner ∙ each

    nothing_on : F' s ≡ []
    nothing_on = put s false not_owner ∙ c.each s set

    all_known : (v u : Name) → is_active (focused S.mode s v) ≡ true → is_active (focused S.mode s u) ≡ true → (C : Name) (n : Counts) →
        Le (walk_by (heard (ψ u) (ψ v) C) C (κ' (ψ v)) n) (pieces_by (stands_by (focused S.mode s u) u) u C (F' v) n)
    all_known v u act_v act_u C n =
        elim (same_name s v) as (λ b. same_name s v ≡ b → is_active (if b then Some At else S.mode v) ≡ true →
        Le (walk_by (heard (ψ u) (if b then member s m else φ v) C) C (κ' (if b then member s m else φ v)) n) (pieces_by (stands_by (focused S.mode s u) u) u C (F' v) n)) [
          | true ↦ λ e a.
              subst (λ (x : Code). Le (walk_by (heard (ψ u) (member s m) C) C x n) (pieces_by (stands_by (focused S.mode s u) u) u C (F' v) n)) (sym set_behind)
              (subst (λ (ps : List Piece). Le (Ends n) (pieces_by (stands_by (focused S.mode s u) u) u C ps n)) (sym (ap F' (sym (exact_name s v e)) ∙ nothing_on)) (same_counts n))
          | false ↦ λ e a. one_known v u a act_u (φ v) C n
        ] refl act_v

    all_others : (v : Name) → is_active (focused S.mode s v) ≡ true → (p w : Pid) (C : Name) (n : Counts) → Le (walk_by (heard p w C) C (κ' (ψ v)) n) (plain_by C (F' v) n)
    all_others v act_v p w C n =
        elim (same_name s v) as (λ b. same_name s v ≡ b → is_active (if b then Some At else S.mode v) ≡ true → Le (walk_by (heard p w C) C (κ' (if b then member s m else φ v)) n) (plain_by C (F' v) n)) [
          | true ↦ λ e a.
              subst (λ (x : Code). Le (walk_by (heard p w C) C x n) (plain_by C (F' v) n)) (sym set_behind)
              (subst (λ (ps : List Piece). Le (Ends n) (plain_by C ps n)) (sym (ap F' (sym (exact_name s v e)) ∙ nothing_on)) (same_counts n))
          | false ↦ λ e a. one_others v a p w C n
        ] refl act_v

  pub covers_inside : Covers world (inside_by world T S s within) (focused S.mode s) F'
  covers_inside = record {
    known = λ κ' ψ x picks v u act_v act_u C n.
        subst (λ (θ : Focus). Le (walk_by (heard (θ u) (θ v) C) C (κ' (θ v)) n) (pieces_by (stands_by (focused S.mode s u) u) u C (F' v) n)) (sym x.focus)
        (subst (λ (l : Pid → Code). Le (walk_by (heard (in_focus s x.number x.φ u) (in_focus s x.number x.φ v) C) C (l (in_focus s x.number x.φ v)) n) (pieces_by (stands_by (focused S.mode s u) u) u C (F' v) n)) (sym x.is)
        (all_known x.κ x.φ x.number x.turn x.beyond x.picks x.each v u act_v act_u C n));
    others = λ κ' ψ x picks v act_v p w C n.
        subst (λ (θ : Focus). Le (walk_by (heard p w C) C (κ' (θ v)) n) (plain_by C (F' v) n)) (sym x.focus)
        (subst (λ (l : Pid → Code). Le (walk_by (heard p w C) C (l (in_focus s x.number x.φ v)) n) (plain_by C (F' v) n)) (sym x.is)
        (all_others x.κ x.φ x.number x.turn x.beyond x.picks x.each v act_v p w C n));
    free = free;
    each = each_of;
  }
    where
      was_each : (r : Name) → focused S.mode s r ≡ Some Each → (same_name s r ≡ false) × (S.mode r ≡ Some Each)
      was_each r = elim (same_name s r) as (λ b. (if b then Some At else S.mode r) ≡ Some Each → (b ≡ false) × (S.mode r ≡ Some Each)) [ true ↦ λ g. cc | false ↦ λ g. (refl, g) ]

      free : (r t : Name) → focused S.mode s r ≡ Some Each → FreePieces r (F' t)
      free r t g =
          let h = was_each r g in
          elim (own t) as (λ b. own t ≡ b → FreePieces r (F' t)) [
            | true ↦ λ o. (let f = first_free r t o h.0 h.1 in subst (FreePieces r) (sym (put t true o)) (f.0, f.1, c.free r t h.1))
            | false ↦ λ o. subst (FreePieces r) (sym (put t false o)) (c.free r t h.1)
          ] refl

      each_of : (r : Name) → focused S.mode s r ≡ Some Each → F' r ≡ []
      each_of r g =
          let h = was_each r g in
          elim (own r) as (λ b. own r ≡ b → F' r ≡ []) [
            | true ↦ λ o. absurd (not_both_each (S.mode r) (acts r o) h.1)
            | false ↦ λ o. put r false o ∙ c.each r h.1
          ] refl

module _ (world : World) (S : Reading) (s : Name) (m : ℕ) (φ : Focus) (picks : Picks S.mode φ) where
  -- code of a thread that names no member in focus of the set sends no more than its walk says
  inner_known : (K : Code) → Free s K → (u : Name) (w : Pid) (C : Name) (n : Counts) →
      Le (walk_by (heard (in_focus s m φ u) w C) C (code_by φ K) n) (walk_by (whomever (stands_by (focused S.mode s u) u)) C K n)
  inner_known K free u w C n =
      subst (λ (k : Code). Le (walk_by (heard (in_focus s m φ u) w C) C k n) (walk_by (whomever (stands_by (focused S.mode s u) u)) C K n)) (code_other s m φ K free)
      (own_known (focused S.mode s) (in_focus s m φ) u w C (picks_in S.mode s φ m picks) K n)

  -- a later turn of a for over the set sends to other members than the one in focus
  later_known : (v : Name) (b rest : Code) → Free s b → Free s rest → same_name s v ≡ false → (u : Name) → same_name s u ≡ true → (w : Pid) (C : Name) (n : Counts) →
      Le (walk_by (heard (in_focus s m φ u) w C) C (code_by φ (For v s (m + 1) b ⨾ rest)) n) (later_by (stands_by (focused S.mode s u) u) C (For v s 0 b ⨾ rest) n)
  later_known v b rest free free_rest fresh u e w C n =
      unless_le _ _ _ _
      (subst (λ (k : Code). Le (walk_by (under_for v s (m + 1) (heard (in_focus s m φ u) w C)) C k n) (walk_by (whomever (hide v (stands_by (focused S.mode s u) u))) C (unsent v b) n)) (code_other s m φ b free)
      (unsent_le v (hide v (stands_by (focused S.mode s u) u)) (under_for v s (m + 1) (heard (in_focus s m φ u) w C)) (who_by (in_focus s m φ)) C b n n (keeps_for v s (m + 1) (whomever (stands_by (focused S.mode s u) u)) (heard (in_focus s m φ u) w C) (who_by (in_focus s m φ)) (keeps_by (focused S.mode s) (in_focus s m φ) u w C (picks_in S.mode s φ m picks))) misses (same_counts n)))
      (inner_known rest free_rest u w C n)
    where
      is_member : (in_focus s m φ) u ≡ member s m
      is_member = ap (λ b. if b then member s m else φ u) e

      or_no : (a b : Bool) → a ≡ false → b ≡ false → (a || b) ≡ false
      or_no a b f g = λ i. f i || g i

      misses : (x : Who) → is_binder v x ≡ true → (under_for v s (m + 1) (heard (in_focus s m φ u) w C)).aims (who_by (in_focus s m φ) x) ≡ false
      misses (who.Name j) g =
          or_no (same_process (in_focus s m φ u) (single j)) (same_name s (in_focus s m φ u).role && nat_le (m + 1) (in_focus s m φ u).member && same_name v j)
          ((λ i. same_process (is_member i) (single j)) ∙ (λ i. same_name s (sym (exact_name v j g) i) && nat_eq m 0) ∙ ap (λ b. b && nat_eq m 0) fresh)
          ((λ i. same_name s (is_member i).role && nat_le (m + 1) (is_member i).member && same_name v j) ∙ (λ i. name_laws.refl s i && lt-leb (m + 1) m (omega arith) i && same_name v j))
      misses (who.At r) g = cc
      misses (who.Pid q) g = cc

-- a for
pub covers_for : (world : World) (T : Typing world) (S : Reading) (s : Name) (ts : List Name) (L : Name → Loop) (F F' : Follow) → Entry S s ts L → ((t : Name) → owners ts t ≡ true → is_active (S.mode t) ≡ true) →
    ((t : Name) → owners ts t ≡ true → same_name s (L t).binder ≡ false) → ((r t : Name) → S.mode r ≡ Some Each → Free r (S.code t)) → Puts S.code (owners ts) (marked s) F F' → Covers world T S.mode F →
    Covers world (inside_by world T S s (within_for S s ts L)) (focused S.mode s) F'
covers_for world T S s ts L F F' entry acts fresh frees puts c =
    covers_inside world T S s (within_for S s ts L) (owners ts) (λ m k t. For (L t).binder s (m + 1) (L t).body ⨾ (L t).rest) (marked s) F F' entry.set entry.not_owner acts
    (λ m k φ κ picks t o.
    (λ i. if owners ts (picks.role_of t i) then code_by φ (at_turn S s ts L (m + 1) (picks.role_of t i)) then κ (φ t) else κ (φ t))
    ∙ (λ i. if o i then code_by φ (at_turn S s ts L (m + 1) t) then κ (φ t) else κ (φ t))
    ∙ (λ i. code_by φ (if o i then For (L t).binder s (m + 1) (L t).body ⨾ (L t).rest else S.code t) then κ (φ t)))
    (λ m k φ κ picks p o. ap (λ b. if b then code_by φ (at_turn S s ts L (m + 1) p.role) then κ p else κ p) o)
    (λ m k φ picks t o u w C n.
    subst (λ (K : Code). Le (walk_by (heard (in_focus s m φ u) w C) C (code_by φ (For (L t).binder s (m + 1) (L t).body ⨾ (L t).rest)) n) (piece_by (stands_by (focused S.mode s u) u) u C (marked s K) n)) (sym (entry.is t o))
    (first m φ picks t o u w C n))
    (λ m k φ t o p w C n.
    subst (λ (K : Code). Le (walk_by (heard p w C) C (code_by φ (For (L t).binder s (m + 1) (L t).body ⨾ (L t).rest)) n) (walk_by (whomever (λ u. false)) C K n)) (sym (entry.is t o))
    (own_others φ p w C (For (L t).binder s (m + 1) (L t).body ⨾ (L t).rest) n))
    (λ r t o apart e. (name_laws.symm r s ∙ apart, frees r t e, tt))
    puts c
  where
    first : (m : ℕ) (φ : Focus) → Picks S.mode φ → (t : Name) → owners ts t ≡ true → (u : Name) (w : Pid) (C : Name) (n : Counts) →
        Le (walk_by (heard (in_focus s m φ u) w C) C (code_by φ (For (L t).binder s (m + 1) (L t).body ⨾ (L t).rest)) n) (piece_by (stands_by (focused S.mode s u) u) u C (marked s (For (L t).binder s 0 (L t).body ⨾ (L t).rest)) n)
    first m φ picks t o u w C n =
        let f : Free s (For (L t).binder s 0 (L t).body ⨾ (L t).rest) = subst (Free s) (entry.is t o) (entry.free t) in
        elim (same_name u s) as (λ b. same_name u s ≡ b →
        Le (walk_by (heard (in_focus s m φ u) w C) C (code_by φ (For (L t).binder s (m + 1) (L t).body ⨾ (L t).rest)) n)
        (if b then later_by (stands_by (focused S.mode s u) u) C (For (L t).binder s 0 (L t).body ⨾ (L t).rest) n else walk_by (whomever (stands_by (focused S.mode s u) u)) C (For (L t).binder s 0 (L t).body ⨾ (L t).rest) n)) [
          | true ↦ λ e. later_known world S s m φ picks (L t).binder (L t).body (L t).rest f.0 f.1 (fresh t o) u (name_laws.symm s u ∙ e) w C n
          | false ↦ λ e. inner_known world S s m φ picks (For (L t).binder s (m + 1) (L t).body ⨾ (L t).rest) (f.0, f.1) u w C n
        ] refl

-- one owner, which isn't the set
one_off : (t s : Name) → same_name s t ≡ false → one_owner t s ≡ false
one_off t s e = ap (λ b. b || false) e

one_on : (t u : Name) → one_owner t u ≡ true → u ≡ t
one_on t u o = exact_name u t (sym (or-false (same_name u t)) ∙ o)

module _ (S : Reading) (t : Name) (X : ℕ → Focus → Pid → Code → Code) where
  abbrev at_owner : ℕ → Focus → (Pid → Code) → Pid → Code
  at_owner k φ κ = changed same_process κ (φ t) (X k φ (φ t) (κ (φ t)))

  at_own : (k : ℕ) (φ : Focus) (κ : Pid → Code) (u : Name) → one_owner t u ≡ true → at_owner k φ κ (φ u) ≡ X k φ (φ u) (κ (φ u))
  at_own k φ κ u o = subst (λ (z : Name). at_owner k φ κ (φ z) ≡ X k φ (φ z) (κ (φ z))) (sym (one_on t u o)) (changed-same process_laws κ (φ t) (X k φ (φ t) (κ (φ t))))

  at_other : (k : ℕ) (φ : Focus) (κ : Pid → Code) → Picks S.mode φ → (p : Pid) → one_owner t p.role ≡ false → at_owner k φ κ p ≡ κ p
  at_other k φ κ picks p o = changed-other process_laws κ (φ t) (X k φ (φ t) (κ (φ t))) p apart
    where
      apart : same_process (φ t) p ≡ false
      apart =
          ap (λ z. same_name z p.role && nat_eq (φ t).member p.member) (picks.role_of t)
          ∙ ap (λ b. b && nat_eq (φ t).member p.member) (name_laws.symm t p.role ∙ sym (or-false (same_name p.role t)) ∙ o)

-- a gather
pub covers_gather : (world : World) (T : Typing world) (S : Reading) (t : Name) (a : AnyReceive) (F F' : Follow) → Gathers S t a → ((r u : Name) → S.mode r ≡ Some Each → Free r (S.code u)) → Puts S.code (one_owner t) whole F F' → Covers world T S.mode F →
    Covers world (inside_by world T S a.set (within_gather t a)) (focused S.mode a.set) F'
covers_gather world T S t a F F' entry frees puts c =
    covers_inside world T S a.set (within_gather t a) (one_owner t) (λ m k u. gather_at a k) whole F F' entry.set (one_off t a.set (not_a_set S a.set t entry.set entry.active))
    (λ u o. subst (λ (z : Name). is_active (S.mode z) ≡ true) (sym (one_on t u o)) entry.active)
    (λ m k φ κ picks u o. at_own S t (λ k φ p x. code_by φ (gather_at a k) then x) k φ κ u o)
    (λ m k φ κ picks p o. at_other S t (λ k φ p x. code_by φ (gather_at a k) then x) k φ κ picks p o)
    (λ m k φ picks u o v w C n.
    subst (λ (K : Code). Le (walk_by (heard (in_focus a.set m φ v) w C) C (code_by φ (gather_at a k)) n) (walk_by (whomever (stands_by (focused S.mode a.set v) v)) C K n)) (sym (is u o))
    (inner_known world S a.set m φ picks (gather_at a k) (let f = subst (Free a.set) entry.is (entry.free t) in (f.0, f.1)) v w C n))
    (λ m k φ u o p w C n. subst (λ (K : Code). Le (walk_by (heard p w C) C (code_by φ (gather_at a k)) n) (walk_by (whomever (λ u. false)) C K n)) (sym (is u o)) (own_others φ p w C (gather_at a k) n))
    (λ r u o apart e. (refl, frees r u e, tt))
    puts c
  where
    is : (u : Name) → one_owner t u ≡ true → S.code u ≡ gather_at a 0
    is u o = ap S.code (one_on t u o) ∙ entry.is

-- a pick
pub covers_pick : (world : World) (T : Typing world) (S : Reading) (t : Name) (a : AnyReceive) (F F' : Follow) → MayPick S t a → ((r u : Name) → S.mode r ≡ Some Each → Free r (S.code u)) → Puts S.code (one_owner t) rest_piece F F' → Covers world T S.mode F →
    Covers world (inside_by world T S a.set (within_pick t a)) (focused S.mode a.set) F'
covers_pick world T S t a F F' entry frees puts c =
    covers_inside world T S a.set (within_pick t a) (one_owner t) (λ m k u. a.rest) rest_piece F F' entry.set (one_off t a.set (not_a_set S a.set t entry.set entry.active))
    (λ u o. subst (λ (z : Name). is_active (S.mode z) ≡ true) (sym (one_on t u o)) entry.active)
    (λ m k φ κ picks u o. at_own S t (λ k φ p x. code_by φ a.rest then x) k φ κ u o)
    (λ m k φ κ picks p o. at_other S t (λ k φ p x. code_by φ a.rest then x) k φ κ picks p o)
    (λ m k φ picks u o v w C n.
    subst (λ (K : Code). Le (walk_by (heard (in_focus a.set m φ v) w C) C (code_by φ a.rest) n) (walk_by (whomever (stands_by (focused S.mode a.set v) v)) C K n)) (sym (is u o))
    (inner_known world S a.set m φ picks a.rest (subst (Free a.set) entry.is (entry.free t)).1 v w C n))
    (λ m k φ u o p w C n. subst (λ (K : Code). Le (walk_by (heard p w C) C (code_by φ a.rest) n) (walk_by (whomever (λ u. false)) C K n)) (sym (is u o)) (own_others φ p w C a.rest n))
    (λ r u o apart e. (refl, subst (Free r) (sym (is u o)) (subst (Free r) entry.is (subst (λ (z : Name). Free r (S.code z)) (one_on t u o) (frees r u e))).1, tt))
    puts c
  where
    is : (u : Name) → one_owner t u ≡ true → behind_head (S.code u) ≡ a.rest
    is u o = ap behind_head (ap S.code (one_on t u o) ∙ entry.is)

-- nothing stands behind at first, and nothing follows
pub covers_first : (world : World) (T : Typing world) (mode : Name → Option Mode) → ((κ : Pid → Code) (φ : Focus) → T.Behind κ φ → (p : Pid) → κ p ≡ done) → Covers world T mode nothing_follows
covers_first world T mode none = record {
  known = λ κ φ b picks t u act act_u C n. subst (λ (k : Code). Le (walk_by (heard (φ u) (φ t) C) C k n) (Ends n)) (sym (none κ φ b (φ t))) (same_counts n);
  others = λ κ φ b picks t act p w C n. subst (λ (k : Code). Le (walk_by (heard p w C) C k n) (Ends n)) (sym (none κ φ b (φ t))) (same_counts n);
  free = λ r t e. tt;
  each = λ s e. refl;
}
