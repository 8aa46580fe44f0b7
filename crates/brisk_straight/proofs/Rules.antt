-- The basic rules on states of straight programs: each takes a statement, and one applies at each head but a receive's.
use Rattle.std.proofs.Common.{◌≡◌, ◌⊎◌, inl, inr, ℕ, ◌+◌, ◌≤◌, Bool, true, false, List, [], ◌∷◌, ◌++◌, Option, Some, None, refl, sym, ap, ◌∙◌, subst, arith, nat_eq}
use Rattle.std.specs.Prelude.{◌&&◌, ◌||◌, not, if◌then◌else◌, nat_le, Ok, Err}
use Rattle.std.proofs.lemmas.Bool.{le-leb, or_right}
use Rattle.brisk_values.specs.declared.value.Value.{Value}
use Rattle.brisk_values.specs.Names.{Name, same_name}
use Rattle.brisk_values.proofs.Changes.{both_true, exact_name, name_laws, both_hold}
use Rattle.brisk_syntax.specs.declared.tree.Who.{Who}
use Rattle.brisk_syntax.specs.declared.tree.Who.TheVariants as who
use Rattle.brisk_syntax.specs.Classes.{all_local}
use Rattle.brisk_syntax.specs.Counts.{statements_in, statements}
use Rattle.brisk_syntax.specs.Stores.{is_true}
use Rattle.brisk_syntax.specs.Syntax.{Expression, Statement, Assign, Send, Recv, RecvAny, If, IfElse, While, For, Repeat, Code, ◌⨾◌, ◌then◌}
use Rattle.brisk_syntax.specs.Typing.{is_among}
use Rattle.brisk_seq.specs.Items as item
use Rattle.brisk_facts.specs.Learning.{folded}
use Rattle.brisk_state.specs.Symbolic.{Symbolic, key, with_code, active_code, code_at, is_in_use, numbers_at, with_numbers, stands_for, is_partner, partner_of, partner_by}
use Rattle.brisk_basic.specs.declared.rule.Basic.{Basic}
use Rattle.brisk_basic.specs.declared.rule.Basic.TheVariants as rule
use Rattle.brisk_basic.specs.declared.rule.RuleFault.{RuleFault}
use Rattle.brisk_basic.specs.declared.rule.RuleFault.TheVariants.{BoxInUse}
use Rattle.brisk_basic.specs.Basic.{Applied, apply, at_thread, sends, receives, assign, fill, pass, take, decided, known}
use Rattle.brisk_basic.specs.Outcomes.{when}
use Rattle.brisk_sound.proofs.Applied.{at_code}
use Rattle.brisk_rules.proofs.Fulfilled.{same_ok, when_ok}
use Rattle.brisk_rules.proofs.Readings.{has}
use Rattle.brisk_straight.proofs.Events.{statements_then}
use Rattle.brisk_straight.proofs.Numbers.{either, found_uses, with_uses}
use Rattle.brisk_straight.proofs.States.{IsCode, IsThread, IsStraightly, Gone, code_there, head_talks, code_then, one_gone, alone_gone, gone_then, thread_found, other_after}

-- code at a send, and at a receive
sends_rest : (S : Symbolic) (u c : Name) (code : Code) (p : List Expression × Code) → sends S u c code ≡ Some p → (d : Name) × (es : List Expression) × (w : Who) × (code ≡ Send d es w ⨾ p.1)
sends_rest S u c (Send d es w ⨾ rest) p e =
    elim (same_name c d && stands_for S u w) as (λ b. (if b then Some (es, rest) else None) ≡ Some p → (f : Name) × (fs : List Expression) × (v : Who) × (Send d es w ⨾ rest ≡ Send f fs v ⨾ p.1)) [
      | true ↦ λ g. (d, es, w, (let q : ◌≡◌ {A = List Expression × Code} (es, rest) p = cc in λ i. Send d es w ⨾ (q i).1))
      | false ↦ λ g. cc
    ] e
sends_rest S u c code p e = cc

receives_rest : (S : Symbolic) (t c : Name) (code : Code) (p : List Name × Code) → receives S t c code ≡ Some p → (d : Name) × (xs : List Name) × (w : Who) × (code ≡ Recv d xs w ⨾ p.1)
receives_rest S t c (Recv d xs w ⨾ rest) p e =
    elim (same_name c d && stands_for S t w) as (λ b. (if b then Some (xs, rest) else None) ≡ Some p → (f : Name) × (ys : List Name) × (v : Who) × (Recv d xs w ⨾ rest ≡ Recv f ys v ⨾ p.1)) [
      | true ↦ λ g. (d, xs, w, (let q : ◌≡◌ {A = List Name × Code} (xs, rest) p = cc in λ i. Recv d xs w ⨾ (q i).1))
      | false ↦ λ g. cc
    ] e
receives_rest S t c code p e = cc

append_has : (m n : ℕ) (ns : List ℕ) → has m (ns ++ n ∷ []) ≡ true → (nat_eq m n ≡ true) ⊎ (has m ns ≡ true)
append_has m n [] h = either (nat_eq m n) false h
append_has m n (x ∷ ns) h = elim (either (nat_eq m x) (has m (ns ++ n ∷ [])) h) [
  | inl g ↦ inr (ap (λ b. b || has m ns) g)
  | inr g ↦ elim (append_has m n ns g) [ inl y ↦ inl y | inr y ↦ inr (or_right (nat_eq m x) (has m ns) y) ]
]

-- the code behind a statement has fewer statements, and so has a side of a choice
one_statement : (x : Statement) → 1 ≤ statements_in x
one_statement (Assign x e) = omega arith
one_statement (Send c es u) = omega arith
one_statement (Recv c xs u) = omega arith
one_statement (RecvAny c xs v s b) = omega arith
one_statement (If e a) = omega arith
one_statement (IfElse e a b) = omega arith
one_statement (While e b) = omega arith
one_statement (For v s k b) = omega arith
one_statement (Repeat s k b) = omega arith

pub behind_less : (x : Statement) (rest : Code) → statements rest + 1 ≤ statements (x ⨾ rest)
behind_less x rest = let h = one_statement x in omega (arith, h)

module _ (ns : List Name) (depth most : ℕ) where
  abbrev Straight : Symbolic → Type 0
  Straight = IsStraightly ns depth most

  abbrev Goes : Symbolic → Symbolic → Type 0
  Goes = Gone ns depth most

  -- a thread goes to the code behind its head
  to_rest : (S E : Symbolic) (t : Name) (c : Code) (x : Statement) (rest : Code) (n : ℕ) → Straight S → code_at S t ≡ Some c → c ≡ x ⨾ rest → E.threads ≡ with_code t rest S.threads →
      ((m : ℕ) → is_in_use E.pending m ≡ true → (nat_eq m n ≡ true) ⊎ (is_in_use S.pending m ≡ true)) → Goes S E
  to_rest S E t c x rest n s here is threads pending =
      let at : code_at S t ≡ Some (x ⨾ rest) = here ∙ ap Some is in
      one_gone ns depth most S E t (x ⨾ rest) rest n s at (head_talks ns depth most x rest (code_there ns depth most S t (x ⨾ rest) s at)).1 (behind_less x rest) threads pending

  assign_gone : (S : Symbolic) (t : Name) (c : Code) (r : Applied) → Straight S → code_at S t ≡ Some c → assign S t c ≡ Ok r → Goes S r.next
  assign_gone S t (Assign x e ⨾ rest) r s here g =
      subst (λ (z : Applied). Goes S z.next) (same_ok _ r g) (to_rest S _ t (Assign x e ⨾ rest) (Assign x e) rest 0 s here refl refl (λ m u. inr u))
  assign_gone S t c r s here g = cc

  fill_gone : (S : Symbolic) (t u C : Name) (n : ℕ) (c : Code) (r : Applied) → Straight S → code_at S t ≡ Some c → fill S t u C n (sends S u C c) ≡ Ok r → Goes S r.next
  fill_gone S t u C n c r s here =
      elim (sends S u C c) as (λ o. sends S u C c ≡ o → fill S t u C n o ≡ Ok r → Goes S r.next) [
        | None ↦ λ h g. cc
        | Some p ↦ λ h g.
            let x = sends_rest S u C c p h in
            let k = when_ok (nat_le 1 n && nat_le n 1000000 && not (is_in_use S.pending n)) BoxInUse _ r g in
            subst (λ (z : Applied). Goes S z.next) (same_ok _ r k.1)
            (to_rest S _ t c (Send x.0 x.1 x.2) p.1 n s here x.3 refl (λ m used.
            elim (with_uses m (key t u C) (numbers_at S.pending (key t u C) ++ n ∷ []) S.pending used) [
              | inl y ↦ elim (append_has m n (numbers_at S.pending (key t u C)) y) [ inl z ↦ inl z | inr z ↦ inr (found_uses m (key t u C) S.pending z) ]
              | inr y ↦ inr y
            ]))
      ] refl

  take_gone : (S : Symbolic) (t u C : Name) (c : Code) (r : Applied) → Straight S → code_at S u ≡ Some c → take S t u C (receives S t C c) (numbers_at S.pending (key t u C)) ≡ Ok r → Goes S r.next
  take_gone S t u C c r s here =
      elim (receives S t C c) as (λ o. receives S t C c ≡ o → take S t u C o (numbers_at S.pending (key t u C)) ≡ Ok r → Goes S r.next) [
        | None ↦ λ h g. cc
        | Some p ↦ λ h.
            elim (numbers_at S.pending (key t u C)) as (λ l. numbers_at S.pending (key t u C) ≡ l → take S t u C (Some p) l ≡ Ok r → Goes S r.next) [
              | [] ↦ λ pends g. cc
              | n ∷ ls ↦ λ pends g.
                  let x = receives_rest S t C c p h in
                  subst (λ (z : Applied). Goes S z.next) (same_ok _ r g)
                  (to_rest S _ u c (Recv x.0 x.1 x.2) p.1 0 s here x.3 refl (λ m used.
                  elim (with_uses m (key t u C) ls S.pending used) [
                    | inl y ↦ inr (found_uses m (key t u C) S.pending (ap (has m) pends ∙ or_right (nat_eq m n) (has m ls) y))
                    | inr y ↦ inr y
                  ]))
            ] refl
      ] refl

  pass_gone : (S : Symbolic) (t u C : Name) (c d : Code) (r : Applied) → Straight S → code_at S t ≡ Some c → code_at S u ≡ Some d →
      pass S t u (sends S u C c) (receives S t C d) (numbers_at S.pending (key t u C)) ≡ Ok r → Goes S r.next
  pass_gone S t u C c d r s here here' =
      elim (sends S u C c) as (λ o. sends S u C c ≡ o → pass S t u o (receives S t C d) (numbers_at S.pending (key t u C)) ≡ Ok r → Goes S r.next) [
        | None ↦ λ h g. cc
        | Some p ↦ λ h.
            elim (receives S t C d) as (λ o. receives S t C d ≡ o → pass S t u (Some p) o (numbers_at S.pending (key t u C)) ≡ Ok r → Goes S r.next) [
              | None ↦ λ h' g. cc
              | Some q ↦ λ h'.
                  elim (numbers_at S.pending (key t u C)) as (λ l. pass S t u (Some p) (Some q) l ≡ Ok r → Goes S r.next) [
                    | [] ↦ λ g.
                        let x = sends_rest S u C c p h in let y = receives_rest S t C d q h' in
                        subst (λ (z : Applied). Goes S z.next) (same_ok _ r g)
                        (two S _ t u c d x.0 x.1 x.2 y.0 y.1 y.2 p.1 q.1 s (here ∙ ap Some x.3) (here' ∙ ap Some y.3) refl refl)
                    | n ∷ ls ↦ λ g. cc
                  ]
            ] refl
      ] refl
    where
      two : (S E : Symbolic) (t u : Name) (c d : Code) (C : Name) (es : List Expression) (w : Who) (D : Name) (xs : List Name) (v : Who) (k l : Code) → Straight S →
          code_at S t ≡ Some (Send C es w ⨾ k) → code_at S u ≡ Some (Recv D xs v ⨾ l) → E.threads ≡ with_code u l (with_code t k S.threads) → E.pending ≡ S.pending → Goes S E
      two S E t u c d C es w D xs v k l s at at' threads pending =
          let S1 : Symbolic = record S { threads = with_code t k S.threads } in
          let first = to_rest S S1 t (Send C es w ⨾ k) (Send C es w) k 0 s at refl refl (λ m used. inr used) in
          let stays = ap active_code (other_after S.threads t u k (apart (same_name t u) refl)) ∙ at' in
          gone_then ns depth most S S1 E first (to_rest S1 E u (Recv D xs v ⨾ l) (Recv D xs v) l 0 first.straight stays refl threads (λ m used. inr (ap (λ p. is_in_use p m) (sym pending) ∙ used)))
        where
          apart : (b : Bool) → same_name t u ≡ b → b ≡ false
          apart false e = refl
          apart true e = absurd (let both = sym at ∙ ap (code_at S) (exact_name t u e) ∙ at' in cc)

  -- a side of a choice, or what is behind it
  side_gone : (S : Symbolic) (t : Name) (x : Statement) (rest a b : Code) (o : Option Value) (r : Applied) → Straight S → code_at S t ≡ Some (x ⨾ rest) → IsCode ns depth most a → IsCode ns depth most b →
      statements a + 1 ≤ statements (x ⨾ rest) → statements b + 1 ≤ statements (x ⨾ rest) → decided S t o a b ≡ Ok r → Goes S r.next
  side_gone S t x rest a b None r s here ca cb la lb g = cc
  side_gone S t x rest a b (Some v) r s here ca cb la lb g =
      subst (λ (z : Applied). Goes S z.next) (same_ok _ r g)
      (elim (is_true v) as (λ b'. Goes S record S { threads = with_code t (if b' then a else b) S.threads }) [
        | true ↦ alone_gone ns depth most S _ t (x ⨾ rest) a s here ca la refl refl
        | false ↦ alone_gone ns depth most S _ t (x ⨾ rest) b s here cb lb refl refl
      ])

  known_gone : (S : Symbolic) (t : Name) (c : Code) (r : Applied) → Straight S → code_at S t ≡ Some c → known S t c ≡ Ok r → Goes S r.next
  known_gone S t (If e a ⨾ rest) r s here g =
      let code = code_there ns depth most S t (If e a ⨾ rest) s here in
      let h = head_talks ns depth most (If e a) rest code in
      let n = statements_then a rest in
      side_gone S t (If e a) rest (a then rest) rest (folded S.facts t e) r s here
      (code_then ns depth most a rest h.0 (let l = code.shallow in omega (arith, l)) h.1) h.1 (omega (arith, n)) (omega arith) g
  known_gone S t (IfElse e a b ⨾ rest) r s here g =
      let code = code_there ns depth most S t (IfElse e a b ⨾ rest) s here in
      let h = head_talks ns depth most (IfElse e a b) rest code in
      let l = both_true (all_local a) (all_local b) h.0 in
      let n = statements_then a rest in let m = statements_then b rest in
      side_gone S t (IfElse e a b) rest (a then rest) (b then rest) (folded S.facts t e) r s here
      (code_then ns depth most a rest l.0 (let k = code.shallow in omega (arith, k)) h.1) (code_then ns depth most b rest l.1 (let k = code.shallow in omega (arith, k)) h.1) (omega (arith, n)) (omega (arith, m)) g
  known_gone S t (While e b ⨾ rest) r s here g = absurd (let h = (head_talks ns depth most (While e b) rest (code_there ns depth most S t (While e b ⨾ rest) s here)).0 in cc)
  known_gone S t c r s here g = cc

  -- each basic rule that applies takes a statement
  pub basic_gone : (S : Symbolic) (b : Basic) (r : Applied) → Straight S → apply S b ≡ Ok r → Goes S r.next
  basic_gone S (rule.Assign t) r s g = let x = at_code (code_at S t) (assign S t) r g in assign_gone S t x.0 r s x.1 x.2
  basic_gone S (rule.Fill t u C n) r s g = let x = at_code (code_at S t) (λ code. fill S t u C n (sends S u C code)) r g in fill_gone S t u C n x.0 r s x.1 x.2
  basic_gone S (rule.Pass t u C) r s g =
      let x = at_code (code_at S t) (λ code. at_thread (code_at S u) (λ other. pass S t u (sends S u C code) (receives S t C other) (numbers_at S.pending (key t u C)))) r g in
      let y = at_code (code_at S u) (λ other. pass S t u (sends S u C x.0) (receives S t C other) (numbers_at S.pending (key t u C))) r x.2 in
      pass_gone S t u C x.0 y.0 r s x.1 y.1 y.2
  basic_gone S (rule.Take t u C) r s g = let x = at_code (code_at S u) (λ code. take S t u C (receives S t C code) (numbers_at S.pending (key t u C))) r g in take_gone S t u C x.0 r s x.1 x.2
  basic_gone S (rule.Known t) r s g = let x = at_code (code_at S t) (known S t) r g in known_gone S t x.0 r s x.1 x.2

  -- a partner is a thread
  partner_stands : (S : Symbolic) (n : Name) → Straight S → is_among ns n ≡ true → stands_for S n (who.Name n) ≡ true
  partner_stands S n s h =
      let f = thread_found (IsThread ns depth most) S.threads n s.threads (ap (λ l. is_among l n) s.named ∙ h) in
      ap (λ o. is_partner (partner_of o) (who.Name n)) f.is
      ∙ ap (λ m. is_partner (partner_by m f.thread.name) (who.Name n)) f.holds.mode
      ∙ ap (λ m. same_name m n) (sym (exact_name n f.thread.name f.named))
      ∙ name_laws.refl n

  -- a send can be filled with a free number
  pub fill_applies : (S : Symbolic) (t C n : Name) (es : List Expression) (rest : Code) (number : ℕ) → Straight S → is_among ns n ≡ true → code_at S t ≡ Some (Send C es (who.Name n) ⨾ rest) →
      1 ≤ number → number ≤ 1000000 → is_in_use S.pending number ≡ false → (r : Applied) × (apply S (rule.Fill t n C number) ≡ Ok r)
  fill_applies S t C n es rest number s partner here low high unused =
      let r : Applied = record {
        statement = Some (item.Fill number t n es);
        next = record S { threads = with_code t rest S.threads; pending = with_numbers (key t n C) (numbers_at S.pending (key t n C) ++ number ∷ []) S.pending };
      } in (
        r,
        ap (λ o. at_thread o (λ code. fill S t n C number (sends S n C code))) here
            ∙ ap (λ b. fill S t n C number (if b then Some (es, rest) else None)) (both_hold (same_name C C) (stands_for S n (who.Name n)) (name_laws.refl C) (partner_stands S n s partner))
            ∙ ap (λ b. when b BoxInUse (Ok r)) (both_hold (nat_le 1 number && nat_le number 1000000) (not (is_in_use S.pending number)) (both_hold (nat_le 1 number) (nat_le number 1000000) (le-leb 1 number low) (le-leb number 1000000 high)) (ap not unused)),
      )

  -- a receive takes what pends, or nothing pends
  pub take_applies : (S : Symbolic) (t C n : Name) (xs : List Name) (rest : Code) (why : RuleFault) → Straight S → is_among ns n ≡ true → code_at S t ≡ Some (Recv C xs (who.Name n) ⨾ rest) →
      apply S (rule.Take n t C) ≡ Err why → numbers_at S.pending (key n t C) ≡ []
  take_applies S t C n xs rest why s partner here fails =
      let is = ap (λ o. at_thread o (λ code. take S n t C (receives S n C code) (numbers_at S.pending (key n t C)))) here
      ∙ ap (λ b. take S n t C (if b then Some (xs, rest) else None) (numbers_at S.pending (key n t C))) (both_hold (same_name C C) (stands_for S n (who.Name n)) (name_laws.refl C) (partner_stands S n s partner)) in
      elim (numbers_at S.pending (key n t C)) as (λ l. take S n t C (Some (xs, rest)) l ≡ Err why → l ≡ []) [
        | [] ↦ λ g. refl
        | m ∷ ms ↦ λ g. cc
      ] (sym is ∙ fails)
