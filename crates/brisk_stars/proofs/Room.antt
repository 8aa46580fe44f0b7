-- Each basic rule takes a statement, and uses one box at most.
use Rattle.std.proofs.Common.{◌≡◌, ◌⊎◌, inl, inr, ℕ, ◌+◌, ◌≤◌, Bool, true, false, List, [], ◌∷◌, ◌++◌, length, Some, None, refl, sym, ap, ◌∙◌, subst, arith, nat_eq}
use Rattle.std.specs.Prelude.{◌&&◌, ◌||◌, not, if◌then◌else◌, nat_le, Ok}
use Rattle.std.specs.List.{AllByRecursion}
use Rattle.brisk_values.specs.Names.{Name, same_name}
use Rattle.brisk_values.proofs.Changes.{both_true, exact_name, changed_cases}
use Rattle.brisk_syntax.specs.declared.tree.Who.{Who}
use Rattle.brisk_syntax.specs.Classes.{every, talks_to}
use Rattle.brisk_syntax.specs.Counts.{statements_in, statements}
use Rattle.brisk_syntax.specs.Depths.{code_depth}
use Rattle.brisk_syntax.specs.Syntax.{Statement, Assign, Send, Recv, Code, done, ◌⨾◌, ◌then◌}
use Rattle.brisk_state.specs.declared.thread.Thread.{Thread}
use Rattle.brisk_state.specs.Symbolic.{Symbolic, key, with_code, active_code, code_at, is_in_use, numbers_at}
use Rattle.brisk_basic.specs.declared.rule.Basic.{Basic}
use Rattle.brisk_basic.specs.declared.rule.Basic.TheVariants as rule
use Rattle.brisk_basic.specs.declared.rule.RuleFault.TheVariants.{BoxInUse}
use Rattle.brisk_basic.specs.Basic.{Applied, apply, at_thread, sends, receives, assign, fill, pass, take, known}
use Rattle.brisk_sound.proofs.Applied.{at_code}
use Rattle.brisk_rules.proofs.Fulfilled.{same_ok, when_ok}
use Rattle.brisk_rules.proofs.Readings.{has}
use Rattle.brisk_rules.proofs.Threads.{names, modes, codes, names_with_code, modes_with_code, codes_with_code, moved}
use Rattle.brisk_straight.specs.Local.{AreApart}
use Rattle.brisk_straight.proofs.Numbers.{found_uses, with_uses}
use Rattle.brisk_straight.proofs.States.{left_in, left_with, thread_at, other_after}
use Rattle.brisk_stars.proofs.Basics.{at_send, at_receive}
use Rattle.brisk_syntax.specs.Typing.{are_distinct}
use Rattle.std.proofs.lemmas.Bool.{or_right}

module _ (depth most : ℕ) where
  -- few boxes are in use, and few statements left, and no code nests deep; the threads have different names
  pub record HasRoom (S : Symbolic) : Type 0 where
    pub apart : AreApart S
    pub used : List ℕ
    pub uses : (m : ℕ) → is_in_use S.pending m ≡ true → has m used ≡ true
    pub few : length used + left_in S.threads ≤ most
    pub shallow : AllByRecursion (λ (u : Thread). code_depth u.code ≤ depth) S.threads

  pub record Takes (S E : Symbolic) : Type 0 where
    pub room : HasRoom E
    pub fewer : left_in E.threads + 1 ≤ left_in S.threads
    pub mode : modes E.threads ≡ modes S.threads
    pub talk : (test : Who → Bool) (u : Name) → every (talks_to test) (codes S.threads u) ≡ true → every (talks_to test) (codes E.threads u) ≡ true
    pub ended : (u : Name) → codes S.threads u ≡ done → codes E.threads u ≡ done

  pub takes_then : (S E F : Symbolic) → Takes S E → Takes E F → Takes S F
  takes_then S E F a b = record { room = b.room; fewer = (let g = a.fewer in let h = b.fewer in omega (arith, g, h)); mode = b.mode ∙ a.mode; talk = λ test u h. b.talk test u (a.talk test u h); ended = λ u h. b.ended u (a.ended u h) }

  pub depth_there : (S : Symbolic) (t : Name) (c : Code) → HasRoom S → code_at S t ≡ Some c → code_depth c ≤ depth
  depth_there S t c s e = let x = thread_at (λ (u : Thread). code_depth u.code ≤ depth) S.threads t c s.shallow e in subst (λ (k : Code). code_depth k ≤ depth) x.2 x.1

  pub shallow_with : (t : Name) (k : Code) (ts : List Thread) → code_depth k ≤ depth → AllByRecursion (λ (u : Thread). code_depth u.code ≤ depth) ts → AllByRecursion (λ (u : Thread). code_depth u.code ≤ depth) (with_code t k ts)
  shallow_with t k [] c all = tt
  shallow_with t k (u ∷ us) c all =
      (elim (same_name t u.name) as (λ b. code_depth (if b then record u { code = k } else u).code ≤ depth) [ true ↦ c | false ↦ all.0 ], shallow_with t k us c all.1)

  -- where one thread goes on
  pub one_takes : (S E : Symbolic) (t : Name) (c k : Code) (n : ℕ) → HasRoom S → code_at S t ≡ Some c → code_depth k ≤ depth → statements k + 1 ≤ statements c → ((test : Who → Bool) → every (talks_to test) c ≡ true → every (talks_to test) k ≡ true) → E.threads ≡ with_code t k S.threads →
      ((m : ℕ) → is_in_use E.pending m ≡ true → (nat_eq m n ≡ true) ⊎ (is_in_use S.pending m ≡ true)) → Takes S E
  one_takes S E t c k n s here deep less behind threads pending =
      let moves = moved S.threads t c here in
      let left = left_with S.threads t c k s.apart here in
      let is : left_in E.threads ≡ left_in (with_code t k S.threads) = ap left_in threads in
      record {
        room = record {
          apart = ap are_distinct (ap names threads ∙ names_with_code t k S.threads) ∙ s.apart;
          used = n ∷ s.used;
          uses = λ m u. elim (pending m u) [
            | inl x ↦ ap (λ b. b || has m s.used) x
            | inr x ↦ or_right (nat_eq m n) (has m s.used) (s.uses m x)
          ];
          few = (let f = s.few in omega (arith, f, left, is, less));
          shallow = subst (AllByRecursion (λ (u : Thread). code_depth u.code ≤ depth)) (sym threads) (shallow_with t k S.threads deep s.shallow);
        };
        fewer = omega (arith, left, is, less);
        mode = ap modes threads ∙ modes_with_code t k S.threads;
        talk = λ test u h.
            ap (λ (f : Name → Code). every (talks_to test) (f u)) (ap codes threads ∙ codes_with_code t k S.threads moves.mode moves.there)
            ∙ changed_cases same_name (codes S.threads) t k u (λ z. every (talks_to test) z ≡ true)
            (λ same. behind test (ap (every (talks_to test)) (sym moves.stands ∙ ap (codes S.threads) (exact_name t u same)) ∙ h)) (λ other. h);
        ended = λ u h.
            ap (λ (f : Name → Code). f u) (ap codes threads ∙ codes_with_code t k S.threads moves.mode moves.there)
            ∙ changed_cases same_name (codes S.threads) t k u (λ z. z ≡ done)
            (λ same. absurd (let none = ap statements (sym moves.stands ∙ ap (codes S.threads) (exact_name t u same) ∙ h) in omega (arith, none, less))) (λ other. h);
      }

  pub alone_takes : (S E : Symbolic) (t : Name) (c k : Code) → HasRoom S → code_at S t ≡ Some c → code_depth k ≤ depth → statements k + 1 ≤ statements c → ((test : Who → Bool) → every (talks_to test) c ≡ true → every (talks_to test) k ≡ true) → E.threads ≡ with_code t k S.threads → E.pending ≡ S.pending → Takes S E
  alone_takes S E t c k s here deep less behind threads pending = one_takes S E t c k 0 s here deep less behind threads (λ m u. inr (ap (λ p. is_in_use p m) (sym pending) ∙ u))

  append_has : (m n : ℕ) (ns : List ℕ) → has m (ns ++ n ∷ []) ≡ true → (nat_eq m n ≡ true) ⊎ (has m ns ≡ true)
  append_has m n [] h = elim (nat_eq m n) as (λ b. (b || false) ≡ true → (b ≡ true) ⊎ (false ≡ true)) [ true ↦ λ g. inl refl | false ↦ λ g. cc ] h
  append_has m n (x ∷ ns) h = elim (nat_eq m x) as (λ b. (b || has m (ns ++ n ∷ [])) ≡ true → (nat_eq m n ≡ true) ⊎ ((b || has m ns) ≡ true)) [ true ↦ λ g. inr refl | false ↦ λ g. append_has m n ns g ] h

  -- one statement is behind the thread
  to_rest : (S E : Symbolic) (t : Name) (c : Code) (x : Statement) (rest : Code) (n : ℕ) → HasRoom S → code_at S t ≡ Some c → c ≡ x ⨾ rest → 1 ≤ statements_in x → E.threads ≡ with_code t rest S.threads →
      ((m : ℕ) → is_in_use E.pending m ≡ true → (nat_eq m n ≡ true) ⊎ (is_in_use S.pending m ≡ true)) → Takes S E
  to_rest S E t c x rest n s here is one threads pending =
      let at = here ∙ ap Some is in
      one_takes S E t (x ⨾ rest) rest n s at (let d = depth_there S t (x ⨾ rest) s at in omega (arith, d)) (omega (arith, one)) (λ test h. (both_true (talks_to test x) (every (talks_to test) rest) h).1) threads pending

  pub assign_takes : (S : Symbolic) (t : Name) (c : Code) (r : Applied) → HasRoom S → code_at S t ≡ Some c → assign S t c ≡ Ok r → Takes S r.next
  assign_takes S t (Assign x e ⨾ rest) r s here g =
      subst (λ (z : Applied). Takes S z.next) (same_ok _ r g) (to_rest S _ t (Assign x e ⨾ rest) (Assign x e) rest 0 s here refl (omega arith) refl (λ m u. inr u))
  assign_takes S t c r s here g = cc

  pub fill_takes : (S : Symbolic) (t u C : Name) (n : ℕ) (c : Code) (r : Applied) → HasRoom S → code_at S t ≡ Some c → fill S t u C n (sends S u C c) ≡ Ok r → Takes S r.next
  fill_takes S t u C n c r s here =
      elim (sends S u C c) as (λ o. sends S u C c ≡ o → fill S t u C n o ≡ Ok r → Takes S r.next) [
        | None ↦ λ h g. cc
        | Some p ↦ λ h g.
            let x = at_send S u C c p h in
            let k = when_ok (nat_le 1 n && nat_le n 1000000 && not (is_in_use S.pending n)) BoxInUse _ r g in
            subst (λ (z : Applied). Takes S z.next) (same_ok _ r k.1)
            (to_rest S _ t c (Send C x.es x.to) p.1 n s here x.is (omega arith) refl (λ m used.
            elim (with_uses m (key t u C) (numbers_at S.pending (key t u C) ++ n ∷ []) S.pending used) [
              | inl y ↦ elim (append_has m n (numbers_at S.pending (key t u C)) y) [ inl z ↦ inl z | inr z ↦ inr (found_uses m (key t u C) S.pending z) ]
              | inr y ↦ inr y
            ]))
      ] refl

  pub take_takes : (S : Symbolic) (t u C : Name) (c : Code) (r : Applied) → HasRoom S → code_at S u ≡ Some c → take S t u C (receives S t C c) (numbers_at S.pending (key t u C)) ≡ Ok r → Takes S r.next
  take_takes S t u C c r s here =
      elim (receives S t C c) as (λ o. receives S t C c ≡ o → take S t u C o (numbers_at S.pending (key t u C)) ≡ Ok r → Takes S r.next) [
        | None ↦ λ h g. cc
        | Some p ↦ λ h.
            elim (numbers_at S.pending (key t u C)) as (λ l. numbers_at S.pending (key t u C) ≡ l → take S t u C (Some p) l ≡ Ok r → Takes S r.next) [
              | [] ↦ λ pends g. cc
              | n ∷ ls ↦ λ pends g.
                  let x = at_receive S t C c p h in
                  subst (λ (z : Applied). Takes S z.next) (same_ok _ r g)
                  (to_rest S _ u c (Recv C x.xs x.from) p.1 0 s here x.is (omega arith) refl (λ m used.
                  elim (with_uses m (key t u C) ls S.pending used) [
                    | inl y ↦ inr (found_uses m (key t u C) S.pending (ap (has m) pends ∙ or_right (nat_eq m n) (has m ls) y))
                    | inr y ↦ inr y
                  ]))
            ] refl
      ] refl

  pub pass_takes : (S : Symbolic) (t u C : Name) (c d : Code) (r : Applied) → HasRoom S → code_at S t ≡ Some c → code_at S u ≡ Some d →
      pass S t u (sends S u C c) (receives S t C d) (numbers_at S.pending (key t u C)) ≡ Ok r → Takes S r.next
  pass_takes S t u C c d r s here here' =
      elim (sends S u C c) as (λ o. sends S u C c ≡ o → pass S t u o (receives S t C d) (numbers_at S.pending (key t u C)) ≡ Ok r → Takes S r.next) [
        | None ↦ λ h g. cc
        | Some p ↦ λ h.
            elim (receives S t C d) as (λ o. receives S t C d ≡ o → pass S t u (Some p) o (numbers_at S.pending (key t u C)) ≡ Ok r → Takes S r.next) [
              | None ↦ λ h' g. cc
              | Some q ↦ λ h'.
                  elim (numbers_at S.pending (key t u C)) as (λ l. pass S t u (Some p) (Some q) l ≡ Ok r → Takes S r.next) [
                    | [] ↦ λ g.
                        let x = at_send S u C c p h in let y = at_receive S t C d q h' in
                        subst (λ (z : Applied). Takes S z.next) (same_ok _ r g)
                        (two _ (Send C x.es x.to) (Recv C y.xs y.from) p.1 q.1 x.is y.is (omega arith) (omega arith) (λ e. cc) refl refl)
                    | n ∷ ls ↦ λ g. cc
                  ]
            ] refl
      ] refl
    where
      two : (E : Symbolic) (x y : Statement) (k l : Code) → c ≡ x ⨾ k → d ≡ y ⨾ l → 1 ≤ statements_in x → 1 ≤ statements_in y → (x ⨾ k ≡ y ⨾ l → ⊥) → E.threads ≡ with_code u l (with_code t k S.threads) → E.pending ≡ S.pending → Takes S E
      two E x y k l is is' one one' differ threads pending =
          let S1 : Symbolic = record S { threads = with_code t k S.threads } in
          let first = to_rest S S1 t c x k 0 s here is one refl (λ m used. inr used) in
          let stays = ap active_code (other_after S.threads t u k (apart (same_name t u) refl)) ∙ here' in
          takes_then S S1 E first (to_rest S1 E u d y l 0 first.room stays is' one' threads (λ m used. inr (ap (λ p. is_in_use p m) (sym pending) ∙ used)))
        where
          apart : (b : Bool) → same_name t u ≡ b → b ≡ false
          apart false e = refl
          apart true e = absurd (differ (sym is ∙ code_same ∙ is'))
            where
              code_same : c ≡ d
              code_same = let both = sym here ∙ ap (code_at S) (exact_name t u e) ∙ here' in cc

  -- a basic rule that applies takes a statement, but where a choice is known
  pub basic_takes : (S : Symbolic) (b : Basic) (r : Applied) → HasRoom S → apply S b ≡ Ok r → ((t : Name) (c : Code) → code_at S t ≡ Some c → known S t c ≡ Ok r → Takes S r.next) → Takes S r.next
  basic_takes S (rule.Assign t) r s g choice = let x = at_code (code_at S t) (assign S t) r g in assign_takes S t x.0 r s x.1 x.2
  basic_takes S (rule.Fill t u C n) r s g choice = let x = at_code (code_at S t) (λ code. fill S t u C n (sends S u C code)) r g in fill_takes S t u C n x.0 r s x.1 x.2
  basic_takes S (rule.Pass t u C) r s g choice =
      let x = at_code (code_at S t) (λ code. at_thread (code_at S u) (λ other. pass S t u (sends S u C code) (receives S t C other) (numbers_at S.pending (key t u C)))) r g in
      let y = at_code (code_at S u) (λ other. pass S t u (sends S u C x.0) (receives S t C other) (numbers_at S.pending (key t u C))) r x.2 in
      pass_takes S t u C x.0 y.0 r s x.1 y.1 y.2
  basic_takes S (rule.Take t u C) r s g choice = let x = at_code (code_at S u) (λ code. take S t u C (receives S t C code) (numbers_at S.pending (key t u C))) r g in take_takes S t u C x.0 r s x.1 x.2
  basic_takes S (rule.Known t) r s g choice = let x = at_code (code_at S t) (known S t) r g in choice t x.0 x.1 x.2
