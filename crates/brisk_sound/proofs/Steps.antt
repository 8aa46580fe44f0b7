-- Derivations are sound.
use Rattle.std.proofs.Common.{◌≡◌, ℕ, true, false, Bool, List, [], ◌∷◌, length, Option, Some, None, refl, sym, ap, ◌∙◌, subst, arith}
use Rattle.std.specs.Prelude.{nat_lt, nat_le, if◌then◌else◌}
use Rattle.std.proofs.lemmas.Bool.{leb-true}
use Rattle.brisk_values.specs.declared.value.Pid.{Pid}
use Rattle.brisk_values.specs.Names.{Name, same_name}
use Rattle.brisk_values.proofs.Changes.{exact_name}
use Rattle.brisk_syntax.specs.declared.program.Program.{Program}
use Rattle.brisk_syntax.specs.declared.tree.Who.{Who}
use Rattle.brisk_syntax.specs.Declarations.{is_loose}
use Rattle.brisk_syntax.specs.Syntax.{Expression, Send, Repeat, Code, ◌⨾◌, ◌then◌}
use Rattle.brisk_async.specs.Laws.{AnyReceive}
use Rattle.brisk_seq.specs.Items.{Item, Items, nothing, ◌⨟◌, ◌followed_by◌}
use Rattle.brisk_seq.specs.Items as item
use Rattle.brisk_seq.specs.Sequential.{Focus}
use Rattle.brisk_state.specs.declared.thread.Mode.{Mode}
use Rattle.brisk_state.specs.declared.thread.Mode.TheVariants.{Each}
use Rattle.brisk_state.specs.Symbolic.{Symbolic, key, thread_named, partner_of, numbers_at}
use Rattle.brisk_basic.specs.declared.rule.Basic.{Basic}
use Rattle.brisk_basic.specs.declared.rule.Basic.TheVariants as rule
use Rattle.brisk_basic.specs.Basic.{Applied}
use Rattle.brisk_quiet.specs.Quiet.{Counts, on_end, walk}
use Rattle.brisk_derivation.specs.declared.fault.SideFault.TheVariants.{ManyPending}
use Rattle.brisk_derivation.specs.Steps.{Step, Steps}
use Rattle.brisk_rules.specs.Derives.{items_in, rule_of}
use Rattle.brisk_sound.specs.Does.{Mem, Does, does, does_all, stays, ◌andthen◌}
use Rattle.brisk_rules.specs.Following.{Follow, quiet_from, behind_head, loose_fault}
use Rattle.brisk_quiet.specs.Sender.{Piece, walk_pieces}
use Rattle.brisk_rules.specs.Rules.{is_nonempty, unless, first_fault}
use Rattle.brisk_sound.proofs.Advance.{Test, with_test, Once, all_of}
use Rattle.brisk_sound.proofs.Applied.{Applies, assigns, fills, takes, passes, knows_if, knows_while, partner_by_mode}
use Rattle.brisk_sound.proofs.Basic.{loose_in, stands_active, QuietSender, sound_assign, sound_fill, sound_take}
use Rattle.brisk_sound.proofs.Branch.{sound_branch, sound_weaker}
use Rattle.brisk_sound.proofs.Closing.{first_none, unless_none}
use Rattle.brisk_sound.proofs.Compose.{sound_then}
use Rattle.brisk_sound.proofs.Control.{Weaker, weaken}
use Rattle.brisk_sound.proofs.Covers.{Covers, Puts, one_owner, whole, marked, rest_piece, own_known, covers_turns, covers_for, covers_gather, covers_pick}
use Rattle.brisk_sound.proofs.Derives.{Takes_step, by_rule, by_branch, by_while, by_repeat, by_for, by_gather, by_pick, Takes_steps, ended, next}
use Rattle.brisk_sound.proofs.Fine.{Fine}
use Rattle.brisk_sound.proofs.Fits.{World, mem, Picks, Still}
use Rattle.brisk_sound.proofs.Follows.{after_le, pieces_by, pieces_is}
use Rattle.brisk_sound.proofs.For.{Loop, Entry, owners, within_for, inside_by, sound_for}
use Rattle.brisk_sound.proofs.Free.{Free}
use Rattle.brisk_sound.proofs.Gather.{Gathers, within_gather}
use Rattle.brisk_sound.proofs.Kept.{Tidy, decls_by}
use Rattle.brisk_sound.proofs.Leads as leads
use Rattle.brisk_sound.proofs.Loops.{turning, sound_known_if, sound_known_while, sound_while}
use Rattle.brisk_sound.proofs.Middle.{focused}
use Rattle.brisk_sound.proofs.Pass.{sound_pass}
use Rattle.brisk_sound.proofs.Pick.{MayPick, within_pick, sound_pick}
use Rattle.brisk_sound.proofs.Quiet.{sound_gather}
use Rattle.brisk_rules.proofs.Readings.{Reading, reading, is_active, code_by, stands_by}
use Rattle.brisk_sound.proofs.Received.{quiet_calm}
use Rattle.brisk_sound.proofs.Repeats.{sound_repeat}
use Rattle.brisk_sound.proofs.Resting.{heard}
use Rattle.brisk_sound.proofs.Sound.{Typing, Sound, sound_going}
use Rattle.brisk_sound.proofs.Walks.{whomever, walk_by, walk_is, Calm, calm_le}

module _ (world : World) (T : Typing world) where
  sound_nothing : (S : Reading) → Sound world T S stays S
  sound_nothing S =
      sound_going world T S stays S (λ φ. []) (λ κ φ c typed beyond picks f. record {
        to = c;
        leads = leads.stays world c;
        schedule = refl;
        does = refl;
        alone = λ m r. sym r;
        fits = f;
        still = record { code = λ p d. refl; store = λ p d. refl; sent = λ p q d C. refl; got = λ p q d C. refl; box_sent = λ p q d n. refl; box_got = λ p q d n. refl };
      })

  -- with fewer facts at the beginning
  sound_drop : (S B : Reading) (R : Does) (S' : Reading) → Weaker S B → Sound world T B R S' → Sound world T S R S'
  sound_drop S B R S' w h = record {
    there = λ κ φ c typed beyond picks f m r.
        let y = h.there κ φ c typed beyond (subst (λ (z : Name → Option Mode). Picks z φ) (sym w.mode) picks) (weaken world S B κ φ c w f) m r in
        (y.0, y.1, y.2, record { runs = y.3.runs; fits = y.3.fits; still = subst (λ (z : Name → Option Mode). Still world z φ c y.0) w.mode y.3.still });
    back = λ κ φ c typed beyond picks f s z r end.
        let y = h.back κ φ c typed beyond (subst (λ (z : Name → Option Mode). Picks z φ) (sym w.mode) picks) (weaken world S B κ φ c w f) s z r end in
        (y.0, y.1, y.2, record { runs = y.3.runs; fits = y.3.fits; still = subst (λ (z : Name → Option Mode). Still world z φ c y.0) w.mode y.3.still }, y.4);
  }

  -- what can be done in the same way
  sound_same : (S : Reading) (R Q : Does) (S' : Reading) → ((φ : Focus) (m n : Mem) → R φ m n → Q φ m n) → ((φ : Focus) (m n : Mem) → Q φ m n → R φ m n) → Sound world T S R S' → Sound world T S Q S'
  sound_same S R Q S' to from h = record {
    there = λ κ φ c typed beyond picks f m r. h.there κ φ c typed beyond picks f m (from φ (mem c) m r);
    back = λ κ φ c typed beyond picks f s z r end. let y = h.back κ φ c typed beyond picks f s z r end in (y.0, to φ (mem c) (mem y.0) y.1, y.2, y.3, y.4);
  }

  -- an item alone
  sound_one : (S : Reading) (q : Item) (S' : Reading) → Sound world T S (does world.given q) S' → Sound world T S (does_all world.given (q ⨟ nothing)) S'
  sound_one S q S' h = sound_same S (does world.given q) (does_all world.given (q ⨟ nothing)) S' (λ φ m n r. (n, r, refl)) (λ φ m n r. subst (λ (l : Mem). does world.given q φ m l) (sym r.2) r.1) h

  joined : (X Y : Items) (φ : Focus) (m n : Mem) → (does_all world.given X andthen does_all world.given Y) φ m n → does_all world.given (X followed_by Y) φ m n
  joined nothing Y φ m n r = subst (λ (l : Mem). does_all world.given Y φ l n) r.1 r.2
  joined (q ⨟ X) Y φ m n r = (r.1.0, r.1.1, joined X Y φ r.1.0 n (r.0, r.1.2, r.2))

  parted : (X Y : Items) (φ : Focus) (m n : Mem) → does_all world.given (X followed_by Y) φ m n → (does_all world.given X andthen does_all world.given Y) φ m n
  parted nothing Y φ m n r = (m, refl, r)
  parted (q ⨟ X) Y φ m n r = let x = parted X Y φ r.0 n r.2 in (x.0, (r.0, r.1, x.1), x.2)

  -- each basic rule
  module _ (S : Symbolic) (r : Applied) where
    abbrev IsSound : Type 0
    IsSound = Sound world T (reading S) (does_all world.given (items_in r.statement)) (reading r.next)

    gives : (q : Item) (S' : Reading) → r.statement ≡ Some q → reading r.next ≡ S' → Sound world T (reading S) (does world.given q) S' → IsSound
    gives q S' is n h =
        subst (λ (o : Option Item). Sound world T (reading S) (does_all world.given (items_in o)) (reading r.next)) (sym is)
        (subst (λ (Z : Reading). Sound world T (reading S) (does_all world.given (q ⨟ nothing)) Z) (sym n) (sound_one (reading S) q S' h))

    gives_none : (S' : Reading) → r.statement ≡ None → reading r.next ≡ S' → Sound world T (reading S) stays S' → IsSound
    gives_none S' is n h =
        subst (λ (o : Option Item). Sound world T (reading S) (does_all world.given (items_in o)) (reading r.next)) (sym is)
        (subst (λ (Z : Reading). Sound world T (reading S) stays Z) (sym n) h)

  module _ (P : Program) (same : world.program ≡ P) (F : Follow) (S : Symbolic) (c : Covers world T (reading S).mode F) where
    -- a sender that passes the quiet test, over its code and what follows it, is quiet
    sender_is : (k : Code) (t u C : Name) → quiet_from F S k t u C ≡ None → is_active ((reading S).mode t) ≡ true → is_active ((reading S).mode u) ≡ true →
        (κ : Pid → Code) (φ : Focus) → T.Behind κ φ → Picks (reading S).mode φ → Calm (walk_by (heard (φ u) (φ t) C) C (code_by φ k then κ (φ t)) (λ D. length ((reading S).pending (key u t D))))
    sender_is k t u C e act act_u κ φ beyond picks =
        let n : Counts = λ D. length (numbers_at S.pending (key u t D)) in
        let from = stands_by ((reading S).mode u) u in
        let partner = partner_of (thread_named S.threads u) in
        let stated : Calm (on_end (walk partner C k n) (walk_pieces partner u C (F t))) = quiet_calm _ (unless_none _ _ e) in
        let path : on_end (walk partner C k n) (walk_pieces partner u C (F t)) ≡ on_end (walk_by (whomever from) C k n) (pieces_by from u C (F t)) =
        (λ i. on_end (walk_is partner C k i n) (pieces_is partner u C (F t) i))
        ∙ (λ i. on_end (walk_by (whomever (λ w. partner_by_mode S.threads u w i)) C k n) (pieces_by (λ w. partner_by_mode S.threads u w i) u C (F t))) in
        calm_le _ _ (after_le (heard (φ u) (φ t) C) C (code_by φ k) (κ (φ t)) n (walk_by (whomever from) C k n) (pieces_by from u C (F t))
        (own_known (reading S).mode φ u (φ t) C picks k n) (λ m. c.known κ φ beyond picks t u act act_u C m)) (subst Calm path stated)

    loose_here : (C : Name) → loose_in world C ≡ true → is_loose P.channels C ≡ true
    loose_here C l = ap (λ (Q : Program). is_loose Q.channels C) (sym same) ∙ l

    one_pends : (ns : List ℕ) (n : ℕ) → nat_le (length (n ∷ ns)) 1 ≡ true → ns ≡ []
    one_pends [] n e = refl
    one_pends (m ∷ ns) n e = absurd (let h = leb-true (length (n ∷ m ∷ ns)) 1 e in omega (arith, h))

    -- the tests of a take on a loose channel
    take_passed : (t u C : Name) → loose_fault P F S (rule.Take t u C) ≡ None → loose_in world C ≡ true →
        (nat_le (length (numbers_at S.pending (key t u C))) 1 ≡ true) × (quiet_from F S ((reading S).code t) t u C ≡ None)
    take_passed t u C e l =
        let f = ap (λ b. if b then first_fault (unless (nat_le (length (numbers_at S.pending (key t u C))) 1) ManyPending ∷ quiet_from F S ((reading S).code t) t u C ∷ []) else None) (sym (loose_here C l)) ∙ e in
        let g = first_none _ _ f in (unless_none _ _ g.0, (first_none _ _ g.1).0)

    pass_passed : (t u C : Name) → loose_fault P F S (rule.Pass t u C) ≡ None → loose_in world C ≡ true → quiet_from F S (behind_head ((reading S).code t)) t u C ≡ None
    pass_passed t u C e l = ap (λ b. if b then quiet_from F S (behind_head ((reading S).code t)) t u C else None) (sym (loose_here C l)) ∙ e

    pub take_quiet : (t u C : Name) (w : Who) → loose_fault P F S (rule.Take t u C) ≡ None → is_active ((reading S).mode u) ≡ true → stands_by ((reading S).mode t) t w ≡ true → QuietSender world T (reading S) t u C ((reading S).code t)
    take_quiet t u C w e act_u stands l κ φ beyond picks = sender_is ((reading S).code t) t u C (take_passed t u C e l).1 (stands_active ((reading S).mode t) t w stands) act_u κ φ beyond picks

    pub take_one : (t u C : Name) (n : ℕ) (ns : List ℕ) → loose_fault P F S (rule.Take t u C) ≡ None → (reading S).pending (key t u C) ≡ n ∷ ns → loose_in world C ≡ true → ns ≡ []
    take_one t u C n ns e pends l = one_pends ns n (ap (λ ms. nat_le (length ms) 1) (sym pends) ∙ (take_passed t u C e l).0)

    pub pass_quiet : (t u C : Name) (es : List Expression) (w : Who) (k : Code) → loose_fault P F S (rule.Pass t u C) ≡ None → is_active ((reading S).mode t) ≡ true → is_active ((reading S).mode u) ≡ true →
        (reading S).code t ≡ Send C es w ⨾ k → QuietSender world T (reading S) t u C k
    pass_quiet t u C es w k e act act_u is l κ φ beyond picks = sender_is k t u C (ap (λ z. quiet_from F S (behind_head z) t u C) (sym is) ∙ pass_passed t u C e l) act act_u κ φ beyond picks

  pub applied_sound : (P : Program) (same : world.program ≡ P) (F : Follow) (S : Symbolic) (r : Applied) (b : Basic) → Covers world T (reading S).mode F → Tidy P (reading S) → loose_fault P F S b ≡ None → Applies S r b →
      Sound world T (reading S) (does_all world.given (items_in r.statement)) (reading r.next)
  applied_sound P same F S r _ c tidy p (assigns t x e k act is q n named) = gives S r _ _ q n (sound_assign world T (reading S) t act x e k is)
  applied_sound P same F S r _ c tidy p (fills t u C j es w k act is stands unused q n named) = gives S r _ _ q n (sound_fill world T (reading S) t u C j es w k act is stands unused)
  applied_sound P same F S r _ c tidy p (takes t u C j ns xs w k act is stands pends q n named) =
      gives S r _ _ q n (sound_take world T (reading S) t u C j ns xs w k tidy.unique act is stands pends (take_one P same F S c t u C j ns p pends) (take_quiet P same F S c t u C w p act stands))
  applied_sound P same F S r _ c tidy p (passes t u C es w k xs w' k' act act' is stands is' stands' empty q n named) =
      gives S r _ _ q n (sound_pass world T (reading S) t u C es w k xs w' k' act act' is stands is' stands' empty (pass_quiet P same F S c t u C es w k p act act' is))
  applied_sound P same F S r _ c tidy p (knows_if t s e a b rest v act is two f q n named) = gives_none S r _ q n (sound_known_if world T (reading S) t act s e a b rest is two v f)
  applied_sound P same F S r _ c tidy p (knows_while t e b rest v act is f q n named) = gives_none S r _ q n (sound_known_while world T (reading S) t act e b rest is v f)

  -- from a premise whose start reads so
  from_start : (start : Symbolic) (B : Reading) (X : Items) (E : Symbolic) → reading start ≡ B → Sound world T (reading start) (does_all world.given X) (reading E) → Sound world T B (does_all world.given X) (reading E)
  from_start start B X E is h = subst (λ (Z : Reading). Sound world T Z (does_all world.given X) (reading E)) is h

  -- an item from the state without what is dropped, to a state that reads so
  from_base : (S : Symbolic) (B : Reading) (q : Item) (S' : Symbolic) (Z : Reading) → Weaker (reading S) B → reading S' ≡ Z → Sound world T B (does world.given q) Z → Sound world T (reading S) (does_all world.given (q ⨟ nothing)) (reading S')
  from_base S B q S' Z weaker is h =
      subst (λ (W : Reading). Sound world T (reading S) (does_all world.given (q ⨟ nothing)) W) (sym is) (sound_one (reading S) q Z (sound_drop (reading S) B (does world.given q) Z weaker h))

-- What follows in the premises of rules covers what stands behind there.
module _ (world : World) (T : Typing world) (P : Program) (F F' : Follow) (S : Symbolic) (B : Reading) (weaker : Weaker (reading S) B) (tidy : Tidy P (reading S)) (c : Covers world T (reading S).mode F) where
  based : Covers world T B.mode F
  based = subst (λ (m : Name → Option Mode). Covers world T m F) (sym weaker.mode) c

  closed : (r u : Name) → B.mode r ≡ Some Each → Free r (B.code u)
  closed r u e = subst (λ (k : Name → Code). Free r (k u)) (sym weaker.code) (tidy.closed r u (ap (λ (m : Name → Option Mode). m r) (sym weaker.mode) ∙ e))

  rebased : (own : Name → Bool) (piece : Code → Piece) → Puts (reading S).code own piece F F' → Puts B.code own piece F F'
  rebased own piece puts = subst (λ (k : Name → Code). Puts k own piece F F') (sym weaker.code) puts

  at_start : (T' : Typing world) (start : Symbolic) (mode : Name → Option Mode) → (reading start).mode ≡ mode → Covers world T' mode F' → Covers world T' (reading start).mode F'
  at_start T' start mode is h = subst (λ (m : Name → Option Mode). Covers world T' m F') (sym is) h

  pub covers_while : (t : Name) (guard : Expression) (body rest : Code) (start : Symbolic) → is_active (B.mode t) ≡ true → (reading start).mode ≡ B.mode → Puts (reading S).code (one_owner t) whole F F' →
      Covers world (turning world T B t (λ k. B.code t)) (reading start).mode F'
  covers_while t guard body rest start act is puts =
      at_start _ start B.mode is (covers_turns world T B t (λ k. B.code t) F F' (λ k φ test C n. refl) (rebased (one_owner t) whole puts) act (λ r e. closed r t e) based)

  pub covers_repeat : (t s : Name) (body rest : Code) (start : Symbolic) → is_active (B.mode t) ≡ true → B.code t ≡ Repeat s 0 body ⨾ rest → (reading start).mode ≡ B.mode → Puts (reading S).code (one_owner t) whole F F' →
      Covers world (turning world T B t (λ k. Repeat s k body ⨾ rest)) (reading start).mode F'
  covers_repeat t s body rest start act code is puts =
      at_start _ start B.mode is (covers_turns world T B t (λ k. Repeat s k body ⨾ rest) F F' (λ k φ test C n. ap (λ z. walk_by test C (code_by φ z) n) (sym code)) (rebased (one_owner t) whole puts) act (λ r e. closed r t e) based)

  pub covers_each : (s : Name) (ts : List Name) (L : Name → Loop) (start : Symbolic) → Entry B s ts L → ((t : Name) → owners ts t ≡ true → is_active (B.mode t) ≡ true) → (reading start).mode ≡ focused B.mode s → Puts (reading S).code (owners ts) (marked s) F F' →
      Covers world (inside_by world T B s (within_for B s ts L)) (reading start).mode F'
  covers_each s ts L start entry acts is puts =
      at_start _ start (focused B.mode s) is (covers_for world T B s ts L F F' entry acts fresh closed (rebased (owners ts) (marked s) puts) based)
    where
      fresh : (t : Name) → owners ts t ≡ true → same_name s (L t).binder ≡ false
      fresh t o = (subst (Fine P (decls_by P t)) (entry.is t o) (subst (λ (k : Name → Code). Fine P (decls_by P t) (k t)) (sym weaker.code) (tidy.fine t))).0.1

  pub covers_gathers : (t : Name) (a : AnyReceive) (start : Symbolic) → Gathers B t a → (reading start).mode ≡ focused B.mode a.set → Puts (reading S).code (one_owner t) whole F F' →
      Covers world (inside_by world T B a.set (within_gather t a)) (reading start).mode F'
  covers_gathers t a start entry is puts = at_start _ start (focused B.mode a.set) is (covers_gather world T B t a F F' entry closed (rebased (one_owner t) whole puts) based)

  pub covers_picks : (t : Name) (a : AnyReceive) (start : Symbolic) → MayPick B t a → (reading start).mode ≡ focused B.mode a.set → Puts (reading S).code (one_owner t) rest_piece F F' →
      Covers world (inside_by world T B a.set (within_pick t a)) (reading start).mode F'
  covers_picks t a start entry is puts = at_start _ start (focused B.mode a.set) is (covers_pick world T B t a F F' entry closed (rebased (one_owner t) rest_piece puts) based)

-- the owners of a for are moved by rules
pub all_active : (mode : Name → Option Mode) (wanted : Test) (passed : Test) (ts : List Name) → Once mode wanted passed ts → (t : Name) → all_of passed ts t ≡ true → passed t ≡ false → is_active (mode t) ≡ true
all_active mode wanted passed [] once t o p = absurd (let x = sym p ∙ o in cc)
all_active mode wanted passed (u ∷ ts) once t o p =
    elim (same_name u t) as (λ b. same_name u t ≡ b → is_active (mode t) ≡ true) [
      | true ↦ λ e. subst (λ (z : Name). is_active (mode z) ≡ true) (exact_name u t e) once.0
      | false ↦ λ e. all_active mode wanted (with_test passed u) ts once.3 t o (ap (λ b. if b then true else passed t) e ∙ p)
    ] refl

module _ (world : World) (P : Program) (same : world.program ≡ P) (some : (s : Name) → is_nonempty P s ≡ true → nat_lt 0 (world.given.sizes s) ≡ true) where
  mutual
    pub step_sound : (T : Typing world) (F : Follow) (A : Step) (S : Symbolic) (X : Items) (S' : Symbolic) → Covers world T (reading S).mode F → Tidy P (reading S) → Takes_step P F A S X S' → Sound world T (reading S) (does_all world.given X) (reading S')
    step_sound T _ _ _ _ _ c tidy (by_rule V b S r h p) = applied_sound world T P same V S r (rule_of b) c tidy p h
    step_sound T _ _ _ _ _ c tidy (by_branch V t A B S start start' E G S' X Y guard k x y) =
        sound_one world T (reading S) (item.If t guard X Y) (reading S')
        (sound_branch world T (reading S) t k.active k.statement guard k.first k.second k.rest k.is k.two (does_all world.given X) (does_all world.given Y) (reading S')
        (sound_weaker world T _ (does_all world.given X) (reading E) (reading S') k.ends
        (from_start world T start _ X E k.begins (steps_sound T V A start X E (subst (λ (m : Name → Option Mode). Covers world T m V) (sym (ap (λ (z : Reading). z.mode) k.begins)) c) x)))
        (sound_weaker world T _ (does_all world.given Y) (reading G) (reading S') k.ends_second
        (from_start world T start' _ Y G k.begins_second (steps_sound T V B start' Y G (subst (λ (m : Name → Option Mode). Covers world T m V) (sym (ap (λ (z : Reading). z.mode) k.begins_second)) c) y))))
    step_sound T _ _ _ _ _ c tidy (by_while V V' t drops A S start E S' X guard k x puts) =
        let T' = turning world T k.base t (λ j. k.base.code t) in
        from_base world T S k.base (item.While t guard X) S' _ k.weaker k.next
        (sound_while world T k.base t k.active guard k.body k.rest k.is (does_all world.given X) (reading E)
        (from_start world T' start _ X E k.begins (steps_sound T' V' A start X E (covers_while world T P V V' S k.base k.weaker tidy c t guard k.body k.rest start k.active (ap (λ (z : Reading). z.mode) k.begins) puts) x)) k.restored)
    step_sound T _ _ _ _ _ c tidy (by_repeat V V' t drops A S start E S' X s k x puts) =
        let T' = turning world T k.base t (λ j. Repeat s j k.body ⨾ k.rest) in
        from_base world T S k.base (item.Repeat s X) S' _ k.weaker k.next
        (sound_repeat world T k.base t s k.body k.rest (does_all world.given X) (reading E) k.active
        (from_start world T' start _ X E k.begins (steps_sound T' V' A start X E (covers_repeat world T P V V' S k.base k.weaker tidy c t s k.body k.rest start k.active k.is (ap (λ (z : Reading). z.mode) k.begins) puts) x)) k.restored k.is)
    step_sound T _ _ _ _ _ c tidy (by_for V V' s ts drops A S start E S' X k x puts) =
        let T' = inside_by world T k.base s (within_for k.base s ts k.loops) in
        from_base world T S k.base (item.For s X) S' _ k.weaker k.next
        (sound_for world T k.base s ts k.loops (does_all world.given X) (reading E) k.entry k.exit
        (from_start world T' start _ X E k.begins
        (steps_sound T' V' A start X E (covers_each world T P V V' S k.base k.weaker tidy c s ts k.loops start k.entry (λ t o. all_active k.base.mode (owners ts) (λ _. false) ts k.entry.once t o refl) (ap (λ (z : Reading). z.mode) k.begins) puts) x)))
    step_sound T _ _ _ _ _ c tidy (by_gather V V' t drops A S start E S' X a k x puts) =
        let T' = inside_by world T k.base a.set (within_gather t a) in
        from_base world T S k.base (item.ForAny a.set X) S' _ k.weaker k.next
        (sound_gather world T k.base t a (does_all world.given X) (reading E) k.entry k.exit
        (from_start world T' start _ X E k.begins (steps_sound T' V' A start X E (covers_gathers world T P V V' S k.base k.weaker tidy c t a start k.entry (ap (λ (z : Reading). z.mode) k.begins) puts) x)) k.quiet)
    step_sound T _ _ _ _ _ c tidy (by_pick V V' t drops A S start E S' X a nonempty k x puts) =
        let T' = inside_by world T k.base a.set (within_pick t a) in
        from_base world T S k.base (item.Pick a.set X) S' _ k.weaker k.next
        (sound_pick world T k.base t a (does_all world.given X) (reading E) k.entry (some a.set nonempty) k.exit
        (from_start world T' start _ X E k.begins (steps_sound T' V' A start X E (covers_picks world T P V V' S k.base k.weaker tidy c t a start k.entry (ap (λ (z : Reading). z.mode) k.begins) puts) x)))

    -- derivations lead from what fits their start to what fits their end
    pub steps_sound : (T : Typing world) (F : Follow) (D : Steps) (S : Symbolic) (X : Items) (E : Symbolic) → Covers world T (reading S).mode F → Takes_steps P F D S X E → Sound world T (reading S) (does_all world.given X) (reading E)
    steps_sound T _ _ _ _ _ c (ended V S) = sound_nothing world T (reading S)
    steps_sound T _ _ _ _ _ c (next V A B S S' E X Y tidy modes x y) =
        sound_same world T (reading S) (does_all world.given X andthen does_all world.given Y) (does_all world.given (X followed_by Y)) (reading E) (joined world T X Y) (parted world T X Y)
        (sound_then world T (reading S) (does_all world.given X) (reading S') (does_all world.given Y) (reading E) modes (step_sound T V A S X S' c tidy x)
        (steps_sound T V B S' Y E (subst (λ (m : Name → Option Mode). Covers world T m V) (sym modes) c) y))
