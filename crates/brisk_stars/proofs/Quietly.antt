-- The quiet test of a star's member is to let it settle.
use Rattle.std.proofs.Common.{◌≡◌, ◌≢◌, ℕ, zero, suc, max, Bool, true, false, [], ◌∷◌, length, Option, Some, None, refl, sym, ap, ◌∙◌, subst, arith, nat_eq}
use Rattle.std.specs.Prelude.{◌&&◌, if◌then◌else◌, ◌↔◌}
use Rattle.std.proofs.lemmas.Bool.{eqb-true}
use Rattle.brisk_values.specs.Names.{Name, same_name}
use Rattle.brisk_values.proofs.Changes.{both_true, name_laws}
use Rattle.brisk_syntax.specs.declared.tree.Who.{Who}
use Rattle.brisk_syntax.specs.declared.tree.Who.TheVariants as who
use Rattle.brisk_syntax.specs.Classes.{every, is_local, all_local, is_named, talks_to}
use Rattle.brisk_syntax.specs.Syntax.{Statement, Assign, Send, Recv, If, IfElse, Code, done, ◌⨾◌}
use Rattle.brisk_quiet.specs.declared.stillness.Stillness.{Stillness}
use Rattle.brisk_quiet.specs.Quiet.{Counts, Walked, Blocks, Ends, Sends, comes_out, either, if_any, on_end, one_less, quiet, walk}
use Rattle.brisk_state.specs.declared.thread.Mode.TheVariants.{One}
use Rattle.brisk_state.specs.declared.thread.Thread.{Thread}
use Rattle.brisk_state.specs.Symbolic.{Symbolic, key, numbers_at, partner_by, partner_of, thread_named}
use Rattle.brisk_rules.specs.Rules.{first_fault, is_quiet, mode_of, unless}
use Rattle.brisk_derivation.specs.declared.fault.SideFault.TheVariants.{MailLeft, NotQuiet}
use Rattle.brisk_stars.specs.Gathers.{NothingIsLeftOver}
use Rattle.brisk_stars.specs.Serving.{if_none, messages, one_more, settled_from}
use Rattle.brisk_stars.specs.Threads.{at_in}
use Rattle.brisk_stars.proofs.Basics.{named}
use Rattle.brisk_stars.proofs.Serving.{still_up}

-- a walk through local code comes to its end
same_max : (n : ℕ) → max n n ≡ n
same_max n = omega arith

mutual
  local_walk : (r : Option Who) (c : Name) (a : Code) (left : Counts) → all_local a ≡ true → walk r c a left ≡ Ends left
  local_walk r c done left l = refl
  local_walk r c (s ⨾ a) left l = let k = both_true (is_local s) (all_local a) l in one_walk r c s a left k.0 ∙ local_walk r c a left k.1

  one_walk : (r : Option Who) (c : Name) (s : Statement) (rest : Code) (left : Counts) → is_local s ≡ true → walk r c (s ⨾ rest) left ≡ walk r c rest left
  one_walk r c (Assign x e) rest left l = refl
  one_walk r c (If e a) rest left l =
      ap (λ w. on_end (either w (Ends left)) (walk r c rest)) (local_walk r c a left l)
      ∙ ap (walk r c rest) (λ i d. same_max (left d) i)
  one_walk r c (IfElse e a b) rest left l =
      let k = both_true (all_local a) (all_local b) l in
      (λ i. on_end (either (local_walk r c a left k.0 i) (local_walk r c b left k.1 i)) (walk r c rest))
      ∙ ap (walk r c rest) (λ i d. same_max (left d) i)
  one_walk r c s rest left l = cc

still_quiet : (s : Statement) (rest : Code) → is_local s ≡ true → messages (s ⨾ rest) ≡ messages rest
still_quiet (Assign x e) rest l = refl
still_quiet (If e a) rest l = refl
still_quiet (IfElse e a b) rest l = refl
still_quiet s rest l = cc

-- what a walk tells of where the member settles: it sends on the channel, or what waits there stays
abbrev Tells : Name → Code → Counts → Counts → Walked → Type 0
Tells c code up left Sends = (n : ℕ) × ((settled_from (messages code) up left).up c ≡ suc n)
Tells c code up left Blocks = (settled_from (messages code) up left).up c ≡ up c
Tells c code up left (Ends more) = (settled_from (messages code) up left).up c ≡ up c

module _ (M c : Name) where
  walked : (code : Code) (up left : Counts) → every (talks_to (is_named M)) code ≡ true → Tells c code up left (walk (Some (who.Name M)) c code left)
  walked done up left h = refl
  walked (Send d es u ⨾ rest) up left h =
      let k = both_true (is_named M u) (every (talks_to (is_named M)) rest) h in
      elim (same_name c d) as (λ b. same_name c d ≡ b → Tells c (Send d es u ⨾ rest) up left (if b then Sends else walk (Some (who.Name M)) c rest left)) [
        | true ↦ λ same.
            still_up c (messages rest) (one_more up d) left (up d) (ap (λ b. if b then suc (up d) else up c) (name_laws.symm d c ∙ same))
        | false ↦ λ other.
            let stays : one_more up d c ≡ up c = ap (λ b. if b then suc (up d) else up c) (name_laws.symm d c ∙ other) in
            carried (walk (Some (who.Name M)) c rest left) stays (walked rest (one_more up d) left k.1)
      ] refl
    where
      carried : (w : Walked) → one_more up d c ≡ up c → Tells c rest (one_more up d) left w → Tells c (Send d es u ⨾ rest) up left w
      carried Sends e t = t
      carried Blocks e t = t ∙ e
      carried (Ends m) e t = t ∙ e
  walked (Recv d xs (who.Name m) ⨾ rest) up left h =
      let k = both_true (same_name M m) (every (talks_to (is_named M)) rest) h in
      subst (λ (b : Bool). Tells c (Recv d xs (who.Name m) ⨾ rest) up left (if b then if_any (left d) (walk (Some (who.Name M)) c rest (one_less left d)) else walk (Some (who.Name M)) c rest left)) (sym k.0)
      (elim (left d) as (λ n. left d ≡ n → Tells c (Recv d xs (who.Name m) ⨾ rest) up left (if_any n (walk (Some (who.Name M)) c rest (one_less left d)))) [
        | zero ↦ λ e. ap (λ n. (if_none n record { left = messages (Recv d xs (who.Name m) ⨾ rest); up = up; down = left } (settled_from (messages rest) up (one_less left d))).up c) e
        | suc n ↦ λ e. carried n e (walk (Some (who.Name M)) c rest (one_less left d)) (walked rest up (one_less left d) k.1)
      ] refl)
    where
      carried : (n : ℕ) → left d ≡ suc n → (w : Walked) → Tells c rest up (one_less left d) w → Tells c (Recv d xs (who.Name m) ⨾ rest) up left w
      carried n e w t = by w t
        where
          goes : (settled_from (messages (Recv d xs (who.Name m) ⨾ rest)) up left).up c ≡ (settled_from (messages rest) up (one_less left d)).up c
          goes = ap (λ n. (if_none n record { left = messages (Recv d xs (who.Name m) ⨾ rest); up = up; down = left } (settled_from (messages rest) up (one_less left d))).up c) e

          by : (w : Walked) → Tells c rest up (one_less left d) w → Tells c (Recv d xs (who.Name m) ⨾ rest) up left w
          by Sends t = (t.0, goes ∙ t.1)
          by Blocks t = goes ∙ t
          by (Ends m) t = goes ∙ t
  walked (Recv d xs (who.At r) ⨾ rest) up left h = cc
  walked (Recv d xs (who.Pid q) ⨾ rest) up left h = cc
  walked (Assign x e ⨾ rest) up left h = walked rest up left h
  walked (If e a ⨾ rest) up left h =
      let k = both_true (all_local a) (every (talks_to (is_named M)) rest) h in subst (Tells c (If e a ⨾ rest) up left) (sym (one_walk (Some (who.Name M)) c (If e a) rest left k.0)) (same (walk (Some (who.Name M)) c rest left) (walked rest up left k.1))
    where
      same : (w : Walked) → Tells c rest up left w → Tells c (If e a ⨾ rest) up left w
      same Sends t = t
      same Blocks t = t
      same (Ends m) t = t
  walked (IfElse e a b ⨾ rest) up left h =
      let k = both_true (all_local a && all_local b) (every (talks_to (is_named M)) rest) h in subst (Tells c (IfElse e a b ⨾ rest) up left) (sym (one_walk (Some (who.Name M)) c (IfElse e a b) rest left k.0)) (same (walk (Some (who.Name M)) c rest left) (walked rest up left k.1))
    where
      same : (w : Walked) → Tells c rest up left w → Tells c (IfElse e a b ⨾ rest) up left w
      same Sends t = t
      same Blocks t = t
      same (Ends m) t = t
  walked (s ⨾ rest) up left h = cc

-- the centre as a partner
centre_partner : (S : Symbolic) (M : Name) → mode_of (thread_named S.threads M) ≡ Some One → partner_of (thread_named S.threads M) ≡ Some (who.Name M)
centre_partner S M e = by (thread_named S.threads M) refl e
  where
    by : (o : Option Thread) → thread_named S.threads M ≡ o → mode_of o ≡ Some One → partner_of o ≡ Some (who.Name M)
    by None is m = cc
    by (Some u) is m =
        let mode : u.mode ≡ One = cc in
        ap (λ z. partner_by z u.name) mode ∙ ap (λ n. Some (who.Name n)) (sym (named S.threads M u is))

no_true : (b : Bool) → b ≢ true → b ≡ false
no_true true h = absurd (h refl)
no_true false h = refl

not_zero : (n : ℕ) → suc n ≡ 0 → ⊥
not_zero n e = cc

is_left : (n : ℕ) (q : Stillness) → first_fault (unless (nat_eq (suc n) 0) MailLeft ∷ unless (is_quiet q) NotQuiet ∷ []) ≡ None → ⊥
is_left n q f =
    elim (nat_eq (suc n) 0) as (λ b. nat_eq (suc n) 0 ≡ b → first_fault (unless b MailLeft ∷ unless (is_quiet q) NotQuiet ∷ []) ≡ None → ⊥) [
      | true ↦ λ e g. not_zero n (eqb-true (suc n) 0 e)
      | false ↦ λ e g. cc
    ] refl f

pub nothing_is_left_over : NothingIsLeftOver
nothing_is_left_over sizes M S a st other =
    let s = a.set in
    let c = a.channel in
    let up : Counts = λ d. length (numbers_at S.pending (key s M d)) in
    let left : Counts = λ d. length (numbers_at S.pending (key M s d)) in
    let w = walk (Some (who.Name M)) c (at_in S s) left in
    let is : quiet S (at_in S s) s M c ≡ comes_out w = ap (λ r. comes_out (walk r c (at_in S s) left)) (centre_partner S M st.one) in
    by (at_in S s) up left w (walked M c (at_in S s) up left (st.talk s (no_true (same_name M s) other))) (up c) refl (quiet S (at_in S s) s M c) is
  where
    by : (code : Code) (up left : Counts) (w : Walked) → Tells a.channel code up left w → (n : ℕ) → up a.channel ≡ n → (q : Stillness) → q ≡ comes_out w →
        (first_fault (unless (nat_eq n 0) MailLeft ∷ unless (is_quiet q) NotQuiet ∷ []) ≡ None) ↔ ((settled_from (messages code) up left).up a.channel ≡ 0)
    by code up left Sends t n e q is = (λ f. absurd (never n q is f), λ z. absurd (not_zero t.0 (sym t.1 ∙ z)))
      where
        never : (n : ℕ) (q : Stillness) → q ≡ comes_out Sends → first_fault (unless (nat_eq n 0) MailLeft ∷ unless (is_quiet q) NotQuiet ∷ []) ≡ None → ⊥
        never zero q is f = let g = ap (λ z. first_fault (unless (is_quiet z) NotQuiet ∷ [])) (sym is) ∙ f in cc
        never (suc n) q is f = is_left n q f
    by code up left Blocks t zero e q is = (λ f. t ∙ e, λ z. ap (λ z. first_fault (unless (is_quiet z) NotQuiet ∷ [])) is)
    by code up left Blocks t (suc n) e q is = (λ f. absurd (is_left n q f), λ z. absurd (not_zero n (sym e ∙ sym t ∙ z)))
    by code up left (Ends m) t zero e q is = (λ f. t ∙ e, λ z. ap (λ z. first_fault (unless (is_quiet z) NotQuiet ∷ [])) is)
    by code up left (Ends m) t (suc n) e q is = (λ f. absurd (is_left n q f), λ z. absurd (not_zero n (sym e ∙ sym t ∙ z)))
