-- A member that is quiet stays so while the receiver does nothing.
use Rattle.std.proofs.Common.{◌≡◌, ℕ, zero, suc, ◌+◌, ◌-◌, ◌≤◌, Bool, true, false, List, [], ◌∷◌, ◌++◌, length, Option, Some, None, refl, sym, ap, ◌∙◌, subst, arith}
use Rattle.std.specs.Prelude.{if◌then◌else◌, ◌&&◌, ◌||◌, not, nat_lt, nat_le, option_and_then}
use Rattle.std.proofs.lemmas.Bool.{le-leb, leb-true, and_right, not-true}
use Rattle.brisk_values.specs.declared.value.Pid.{Pid}
use Rattle.brisk_values.specs.Names.{Name, same_name, same_process, member}
use Rattle.brisk_values.proofs.Changes.{name_laws, process_laws, exact_name, exact_process, both_true, changed-other, changed-same, apart_symm, changed_cases}
use Rattle.brisk_syntax.specs.declared.tree.Who.{Who}
use Rattle.brisk_syntax.specs.declared.tree.Who.TheVariants as who
use Rattle.brisk_syntax.specs.Stores.{is_true}
use Rattle.brisk_syntax.specs.Substitution.{who_with, code_with}
use Rattle.brisk_syntax.specs.Syntax.{Assign, Send, Recv, RecvAny, If, IfElse, While, For, Repeat, Code, done, ◌⨾◌, ◌then◌}
use Rattle.brisk_syntax.specs.Value.{value_of}
use Rattle.brisk_async.specs.declared.event.Event.{Event}
use Rattle.brisk_async.specs.Machine.{State, Queue, queue, same_queue, Payload, payload_at, without, Mail, partner, is_member, Change, unchanged, appended, taken, changed_mail, Effect, View, takes, place_of, receives, effect, effect_in, seen_by, after, step, run}
use Rattle.brisk_async.proofs.Orders.{IsOwn, own_in, waits_in}
use Rattle.brisk_async.proofs.Queues.{exact_queue}
use Rattle.brisk_async.proofs.Runs.{mapped}
use Rattle.brisk_async.proofs.Senders.{kept_before}
use Rattle.brisk_async.specs.Laws.{count}
use Rattle.brisk_quiet.specs.Quiet.{Counts, Walked, Blocks, Ends, Sends, on_end, either, unless_sends, if_any, one_less}
use Rattle.brisk_sound.proofs.Walks.{is_named, hide, Test, under_any, under_for, walk_by, Fewer, Le, Calm, calm_le, on_end_le, either_le, fewer_trans, Keeps, or_keeps, and_keeps, walk_by_le, code_same, walk_mono, walk_then, Bounded, walk_bounded}
use Rattle.std.proofs.Math.Bool.{or-true}

if_calm : (b : Bool) (x : Walked) → Calm (if b then Sends else x) → (b ≡ false) × Calm x
if_calm true x h = absurd h
if_calm false x h = (refl, h)

unless_calm : (x y : Walked) → Calm (unless_sends x y) → Calm x × Calm y
unless_calm Sends y h = absurd h
unless_calm Blocks y h = (tt, h)
unless_calm (Ends n) y h = (tt, h)

or_nothing : (x : Walked) → either x Blocks ≡ x
or_nothing Sends = refl
or_nothing Blocks = refl
or_nothing (Ends n) = refl

le_left : (x x' y : Walked) → Le x x' → Le x (either x' y)
le_left x x' y l = subst (λ (z : Walked). Le z (either x' y)) (or_nothing x) (either_le x x' Blocks y l tt)

le_right : (x y y' : Walked) → Le y y' → Le y (either x y')
le_right x y y' l = either_le Blocks x y y' tt l

-- both are calm
calm_both : (x y : Walked) → Calm x → Calm y → Calm (unless_sends x y)
calm_both Sends y h k = h
calm_both Blocks y h k = k
calm_both (Ends n) y h k = k

-- a member in the place of a binder
module _ (t : Test) (v : Name) (w : Pid) where
  stays_with : (u : Who) → hide v t.from u ≡ true → t.from (who_with v (who.Pid w) u) ≡ true
  stays_with (who.Name n) e = let b = both_true (t.from (who.Name n)) (not (same_name v n)) e in ap (λ z. t.from (if z then who.Pid w else who.Name n)) (not-true (same_name v n) b.1) ∙ b.0
  stays_with (who.At s) e = (both_true (t.from (who.At s)) true e).0
  stays_with (who.Pid p) e = (both_true (t.from (who.Pid p)) true e).0

  names_with : (u : Who) (n : Name) → who_with v (who.Pid w) u ≡ who.Name n → u ≡ who.Name n
  names_with (who.Name j) n e = elim (same_name v j) as (λ b. (if b then who.Pid w else who.Name j) ≡ who.Name n → who.Name j ≡ who.Name n) [ true ↦ λ g. cc | false ↦ λ g. g ] e
  names_with (who.At s) n e = cc
  names_with (who.Pid p) n e = cc

  -- at whom a send aims, where it does so at the member
  aims_with : (c : Bool) → (t.aims (who.Pid w) ≡ true → c ≡ true) → (u : Who) → t.aims (who_with v (who.Pid w) u) ≡ true → (t.aims u || (c && is_named v u)) ≡ true
  aims_with c f (who.Name n) e =
      elim (same_name v n) as (λ b. t.aims (if b then who.Pid w else who.Name n) ≡ true → (t.aims (who.Name n) || (c && b)) ≡ true) [
        | true ↦ λ g. ap (λ b. t.aims (who.Name n) || (b && true)) (f g) ∙ or-true (t.aims (who.Name n))
        | false ↦ λ g. ap (λ b. b || (c && false)) g
      ] e
  aims_with c f (who.At s) e = ap (λ b. b || (c && false)) e
  aims_with c f (who.Pid p) e = ap (λ b. b || (c && false)) e

  keeps_member : Keeps (under_any v t) t (who_with v (who.Pid w))
  keeps_member = record { stays = stays_with; names = names_with; aims = aims_with true (λ e. refl); turns = λ s k e. e }

  keeps_turn : (s : Name) (j : ℕ) → (t.aims (who.Pid w) ≡ true → t.turns s j ≡ true) → Keeps (under_for v s j t) t (who_with v (who.Pid w))
  keeps_turn s j f = record { stays = stays_with; names = names_with; aims = aims_with (t.turns s j) f; turns = λ s k e. e }

-- a payload that is taken leaves one fewer
taken_length : (l : List Payload) (k : ℕ) (m : Payload) → payload_at l k ≡ Some m → length (without l k) ≤ length l - 1
taken_length [] k m e = cc
taken_length (a ∷ l) zero m e = omega arith
taken_length (a ∷ l) (suc k) m e = let h = taken_length l k m e in let g = waits l k m e in omega (arith, h, g)
  where
    waits : (l : List Payload) (k : ℕ) (m : Payload) → payload_at l k ≡ Some m → 1 ≤ length l
    waits [] k m e = cc
    waits (b ∷ l) k m e = omega arith

-- the receiver, a member, and a channel
module _ (p w : Pid) (C : Name) where
  abbrev pub from : Who → Bool
  from u = same_process p (partner u)

  -- what is told of running code: a send aims at the process that it names, and a loop over a set comes to the member of each later turn
  abbrev pub heard : Test
  heard = record { from = from; aims = from; turns = λ s k. same_name s p.role && nat_le k p.member }

  turns_now : (s : Name) (j : ℕ) → from (who.Pid (member s j)) ≡ true → heard.turns s j ≡ true
  turns_now s j e =
      let same = exact_process p (member s j) e in
      (λ i. same_name s (same i).role && nat_le j (same i).member) ∙ (λ i. name_laws.refl s i && nat_le j j) ∙ le-leb j j (omega arith)

  turns_later : (r : Name) (k : ℕ) (x : Name) → Keeps (under_for x r k heard) (under_for x r (k + 1) heard) (λ u. u)
  turns_later r k x = record {
    stays = λ u e. e;
    names = λ u n e. e;
    aims = λ u. or_keeps (from u) (heard.turns r (k + 1) && is_named x u) (from u) (heard.turns r k && is_named x u) (λ e. e)
        (and_keeps (heard.turns r (k + 1)) (is_named x u) (heard.turns r k) (is_named x u) (and_keeps (same_name r p.role) (nat_le (k + 1) p.member) (same_name r p.role) (nat_le k p.member) (λ e. e) less) (λ e. e));
    turns = λ s k e. e;
  }
    where
      less : nat_le (k + 1) p.member ≡ true → nat_le k p.member ≡ true
      less e = let h = leb-true (k + 1) p.member e in le-leb k p.member (omega (arith, h))

  -- a loop from its next turn on
  walk_later : (x r : Name) (k : ℕ) (b : Code) (n : Counts) → Le (walk_by (under_for x r (k + 1) heard) C b n) (walk_by (under_for x r k heard) C b n)
  walk_later x r k b n =
      subst (λ (z : Code). Le (walk_by (under_for x r (k + 1) heard) C z n) (walk_by (under_for x r k heard) C b n)) (code_same b)
      (walk_by_le (under_for x r k heard) (under_for x r (k + 1) heard) (λ u. u) C b n n (turns_later r k x) (λ c. omega arith))

  -- the number of messages from the receiver to the member after a change
  abbrev left_after : Change → Counts → Counts
  left_after unchanged n = n
  left_after (appended q m) n = n
  left_after (taken q k) n = λ D. if same_queue q (queue p w D) then n D - 1 else n D

  abbrev NotSent : Change → Type 0
  NotSent unchanged = Unit {0}
  NotSent (taken q k) = Unit {0}
  NotSent (appended q m) = same_queue q (queue w p C) ≡ false

  abbrev StaysCalm : Counts → Option Effect → Type 0
  StaysCalm n None = Unit {0}
  StaysCalm n (Some x) = (n' : Counts) → Fewer n' (left_after x.mail n) → Calm (walk_by heard C x.next n') × NotSent x.mail

  left_less : (q : Queue) (k : ℕ) (n : Counts) → Fewer (left_after (taken q k) n) n
  left_less q k n D = elim (same_queue q (queue p w D)) as (λ b. (if b then n D - 1 else n D) ≤ n D) [ true ↦ omega arith | false ↦ omega arith ]

  calm_end : (x : Walked) (k : Code) (n n' : Counts) → Calm x → Bounded n' x → Fewer n' n → Calm (walk_by heard C k n) → Calm (on_end x (walk_by heard C k))
  calm_end Blocks k n n' h b l g = tt
  calm_end Sends k n n' h b l g = h
  calm_end (Ends j) k n n' h b l g = calm_le (walk_by heard C k j) (walk_by heard C k n) (walk_mono heard C k j n (fewer_trans j n' n b l)) g

  -- a body before its loop
  calm_loop : (b k : Code) (n n' : Counts) → Calm (walk_by heard C b n') → Fewer n' n → Calm (walk_by heard C k n) → Calm (walk_by heard C (b then k) n')
  calm_loop b k n n' h l g = subst Calm (sym (walk_then heard C b k n')) (calm_end (walk_by heard C b n') k n n' h (walk_bounded heard C b n') l g)

  calm_after : (a k : Code) (n' : Counts) (x : Walked) → Le (walk_by heard C a n') x → Calm (on_end x (walk_by heard C k)) → Calm (walk_by heard C (a then k) n')
  calm_after a k n' x l h = subst Calm (sym (walk_then heard C a k n')) (calm_le _ _ (on_end_le _ _ (walk_by heard C k) (walk_by heard C k) l (λ n m f. walk_mono heard C k n m f)) h)

  goes_calm : (n : Counts) (g : Bool) (a b : Code) → ((n' : Counts) → Fewer n' n → Calm (walk_by heard C a n')) → ((n' : Counts) → Fewer n' n → Calm (walk_by heard C b n')) →
      (n' : Counts) → Fewer n' n → Calm (walk_by heard C (if g then a else b) n') × Unit {0}
  goes_calm n true a b h k n' l = (h n' l, tt)
  goes_calm n false a b h k n' l = (k n' l, tt)

  sides_calm : (n : Counts) (g : Bool) (a b k : Code) → ((n' : Counts) → Fewer n' n → Calm (walk_by heard C (a then k) n')) → ((n' : Counts) → Fewer n' n → Calm (walk_by heard C (b then k) n')) →
      (n' : Counts) → Fewer n' n → Calm (walk_by heard C ((if g then a else b) then k) n') × Unit {0}
  sides_calm n true a b k h g n' l = (h n' l, tt)
  sides_calm n false a b k h g n' l = (g n' l, tt)

  takes_calm : (n : Counts) (q : Queue) (xs : List Name) (next : Code) (k : ℕ) (o : Option Payload) →
      ((m : Payload) → o ≡ Some m → (n' : Counts) → Fewer n' (left_after (taken q k) n) → Calm (walk_by heard C next n')) → StaysCalm n (takes q xs next k o)
  takes_calm n q xs next k None h = tt
  takes_calm n q xs next k (Some m) h = λ n' l. (h m refl n' l, tt)

  receives_calm : (v : View) (n : Counts) (q : Queue) (xs : List Name) (next : Code) (place : Option ℕ) →
      ((k : ℕ) (m : Payload) → v.waiting q k ≡ Some m → (n' : Counts) → Fewer n' (left_after (taken q k) n) → Calm (walk_by heard C next n')) → StaysCalm n (receives v q xs next place)
  receives_calm v n q xs next place h =
      elim (place_of (v.loose q.channel) place) as (λ o. StaysCalm n (option_and_then (λ k. takes q xs next k (v.waiting q k)) o)) [
        | None ↦ tt
        | Some k ↦ takes_calm n q xs next k (v.waiting q k) (h k)
      ]

  -- messages of the receiver that wait are counted
  abbrev AreCounted : View → Counts → Type 0
  AreCounted v n = (D : Name) (k : ℕ) (m : Payload) → v.waiting (queue p w D) k ≡ Some m → 1 ≤ n D

  recv_calm : (v : View) (d : Name) (u : Who) (rest : Code) (n : Counts) → AreCounted v n → Calm (if from u then if_any (n d) (walk_by heard C rest (one_less n d)) else walk_by heard C rest n) →
      (k : ℕ) (m : Payload) → v.waiting (queue (partner u) w d) k ≡ Some m → (n' : Counts) → Fewer n' (left_after (taken (queue (partner u) w d) k) n) → Calm (walk_by heard C rest n')
  recv_calm v d u rest n counted h k m e n' l =
      elim (same_process p (partner u)) as (λ b. same_process p (partner u) ≡ b → Calm (if b then if_any (n d) (walk_by heard C rest (one_less n d)) else walk_by heard C rest n) → Calm (walk_by heard C rest n')) [
        | false ↦ λ g c. calm_le _ _ (walk_mono heard C rest n' n (fewer_trans n' (left_after (taken (queue (partner u) w d) k) n) n l (left_less (queue (partner u) w d) k n))) c
        | true ↦ λ g c.
            let same = exact_process p (partner u) g in
            let one = counted d k m (ap (λ z. v.waiting (queue z w d) k) same ∙ e) in
            calm_le _ _ (walk_mono heard C rest n' (one_less n d) (λ c. few c (process_laws.symm (partner u) p ∙ g))) (any_calm (n d) (walk_by heard C rest (one_less n d)) one c)
      ] refl h
    where
      any_calm : (j : ℕ) (x : Walked) → 1 ≤ j → Calm (if_any j x) → Calm x
      any_calm zero x i h = absurd (omega (arith, i))
      any_calm (suc j) x i h = h

      few : (c : Name) → same_process (partner u) p ≡ true → n' c ≤ one_less n d c
      few c g =
          let z : n' c ≤ (if same_name d c then n c - 1 else n c) = subst (λ (b : Bool). n' c ≤ (if b then n c - 1 else n c)) (λ i. g i && process_laws.refl w i && same_name d c) (l c) in
          elim (same_name d c) as (λ b. same_name d c ≡ b → n' c ≤ (if b then n c - 1 else n c) → n' c ≤ (if b then n d - 1 else n c)) [
            | true ↦ λ e y. (let r = ap n (exact_name d c e) in omega (arith, r, y))
            | false ↦ λ e y. y
          ] refl z

  -- an event of the member leaves it quiet, and sends nothing to the receiver on the channel
  effect_calm : (v : View) (k : Code) (o : Option Pid) (place : Option ℕ) (n : Counts) → AreCounted v n → Calm (walk_by heard C k n) → StaysCalm n (effect v w k o place)
  effect_calm v done o place n counted h = tt
  effect_calm v (Assign x e ⨾ k) None None n counted h = λ n' l. (calm_le _ _ (walk_mono heard C k n' n l) h, tt)
  effect_calm v (Send d es u ⨾ k) None None n counted h =
      let c = if_calm (from u && same_name C d) (walk_by heard C k n) h in
      λ n' l. (calm_le _ _ (walk_mono heard C k n' n l) c.1, (λ i. process_laws.refl w i && process_laws.symm (partner u) p i && name_laws.symm d C i) ∙ c.0)
  effect_calm v (Recv d xs u ⨾ k) None place n counted h = receives_calm v n (queue (partner u) w d) xs k place (recv_calm v d u k n counted h)
  effect_calm v (RecvAny d xs x s b ⨾ k) (Some z) place n counted h =
      elim (is_member v.sizes s z) as (λ t. StaysCalm n (if t then receives v (queue z w d) xs (code_with x (who.Pid z) b then k) place else None)) [
        | true ↦ receives_calm v n (queue z w d) xs (code_with x (who.Pid z) b then k) place (λ j m e n' l.
            calm_after (code_with x (who.Pid z) b) k n' (walk_by (under_any x heard) C b n)
            (walk_by_le (under_any x heard) heard (who_with x (who.Pid z)) C b n' n (keeps_member heard x z) (fewer_trans n' (left_after (taken (queue z w d) j) n) n l (left_less (queue z w d) j n))) h)
        | false ↦ tt
      ]
  effect_calm v (If e a ⨾ k) None None n counted h =
      goes_calm n (is_true (value_of v.sizes v.own e)) (a then k) k
      (λ n' l. calm_after a k n' (either (walk_by heard C a n) (Ends n)) (le_left _ _ (Ends n) (walk_mono heard C a n' n l)) h)
      (λ n' l. calm_after done k n' (either (walk_by heard C a n) (Ends n)) (le_right (walk_by heard C a n) (Ends n') (Ends n) l) h)
  effect_calm v (IfElse e a b ⨾ k) None None n counted h =
      sides_calm n (is_true (value_of v.sizes v.own e)) a b k
      (λ n' l. calm_after a k n' (either (walk_by heard C a n) (walk_by heard C b n)) (le_left _ _ (walk_by heard C b n) (walk_mono heard C a n' n l)) h)
      (λ n' l. calm_after b k n' (either (walk_by heard C a n) (walk_by heard C b n)) (le_right (walk_by heard C a n) _ _ (walk_mono heard C b n' n l)) h)
  effect_calm v (While e b ⨾ k) None None n counted h =
      let c = unless_calm (walk_by heard C b n) (walk_by heard C k n) h in
      goes_calm n (is_true (value_of v.sizes v.own e)) (b then (While e b ⨾ k)) k
      (λ n' l. calm_loop b (While e b ⨾ k) n n' (calm_le _ _ (walk_mono heard C b n' n l) c.0) l h)
      (λ n' l. calm_le _ _ (walk_mono heard C k n' n l) c.1)
  effect_calm v (For x s j b ⨾ k) None None n counted h =
      let c = unless_calm (walk_by (under_for x s j heard) C b n) (walk_by heard C k n) h in
      let more : Calm (walk_by heard C (For x s (j + 1) b ⨾ k) n) = calm_both _ _ (calm_le _ _ (walk_later x s j b n) c.0) c.1 in
      goes_calm n (nat_lt j (v.sizes s)) (code_with x (who.Pid (member s j)) b then (For x s (j + 1) b ⨾ k)) k
      (λ n' l. calm_loop (code_with x (who.Pid (member s j)) b) (For x s (j + 1) b ⨾ k) n n'
      (calm_le _ _ (walk_by_le (under_for x s j heard) heard (who_with x (who.Pid (member s j))) C b n' n (keeps_turn heard x (member s j) s j (turns_now s j)) l) c.0) l more)
      (λ n' l. calm_le _ _ (walk_mono heard C k n' n l) c.1)
  effect_calm v (Repeat s j b ⨾ k) None None n counted h =
      let c = unless_calm (walk_by heard C b n) (walk_by heard C k n) h in
      goes_calm n (nat_lt j (v.sizes s)) (b then (Repeat s (j + 1) b ⨾ k)) k
      (λ n' l. calm_loop b (Repeat s (j + 1) b ⨾ k) n n' (calm_le _ _ (walk_mono heard C b n' n l) c.0) l h)
      (λ n' l. calm_le _ _ (walk_mono heard C k n' n l) c.1)
  effect_calm v k o place n counted h = tt

  -- the member is quiet, and these messages of it wait
  pub record Resting (ms : List Payload) (y : State) : Type 0 where
    pub calm : Calm (walk_by heard C (y.code w) (λ D. length (y.mail (queue p w D))))
    pub waits : y.mail (queue w p C) ≡ ms

  -- an event of another process leaves the mail of two
  mail_kept : (q : Pid) (c : Change) (mail : Mail) (K : Queue) → IsOwn q (waits_in mail) c → same_process q K.from ≡ false → same_process q K.to ≡ false → changed_mail c mail K ≡ mail K
  mail_kept q unchanged mail K own a b = refl
  mail_kept q (appended j m) mail K own a b = ap (λ t. if (t && same_process j.to K.to && same_name j.channel K.channel) then mail j ++ m ∷ [] else mail K) (ap (λ z. same_process z K.from) own ∙ a)
  mail_kept q (taken j k) mail K own a b =
      ap (λ t. if t then without (mail j) k else mail K)
      ((λ i. same_process j.from K.from && (ap (λ z. same_process z K.to) own.0 ∙ b) i && same_name j.channel K.channel) ∙ ap (λ t. t && same_name j.channel K.channel) (and_right (same_process j.from K.from) false refl))

  module _ (apart : same_process p w ≡ false) (ms : List Payload) where
    abbrev own_event_of : Option Pid → Option ℕ → Event
    own_event_of o place = record { process = w; sender = o; place = place }

    own_event : (y : State) (o : Option Pid) (place : Option ℕ) (x : Effect) → Resting ms y → effect_in y (own_event_of o place) ≡ Some x → Resting ms (after y w x)
    own_event y o place x r e =
        let n : Counts = λ D. length (y.mail (queue p w D)) in
        let own = own_in y (own_event_of o place) x e in
        let calms : StaysCalm n (Some x) = subst (StaysCalm n) e (effect_calm (seen_by y w) (y.code w) o place n (λ D k m. counted (y.mail (queue p w D)) k m) r.calm) in
        let result = calms (λ D. length (changed_mail x.mail y.mail (queue p w D))) (λ D. few x.mail own D) in
        record {
          calm = subst (λ (k : Code). Calm (walk_by heard C k (λ D. length (changed_mail x.mail y.mail (queue p w D))))) (sym (changed-same process_laws y.code w x.next)) result.0;
          waits = still_waits x.mail own result.1 ∙ r.waits;
        }
      where
        counted : (l : List Payload) (k : ℕ) (m : Payload) → payload_at l k ≡ Some m → 1 ≤ length l
        counted [] k m e = cc
        counted (a ∷ l) k m e = omega arith

        few : (c : Change) → IsOwn w (waits_in y.mail) c → (D : Name) → length (changed_mail c y.mail (queue p w D)) ≤ left_after c (λ D. length (y.mail (queue p w D))) D
        few unchanged own D = omega arith
        few (appended j m) own D =
            let s = mail_other j m own D in omega (arith, ap length s)
          where
            mail_other : (j : Queue) (m : Payload) → j.from ≡ w → (D : Name) → changed_mail (appended j m) y.mail (queue p w D) ≡ y.mail (queue p w D)
            mail_other j m own D = ap (λ t. if (t && same_process j.to w && same_name j.channel D) then y.mail j ++ m ∷ [] else y.mail (queue p w D)) (ap (λ z. same_process z p) own ∙ apart_symm process_laws p w apart)
        few (taken j k) own D =
            changed_cases same_queue y.mail j (without (y.mail j) k) (queue p w D) (λ l. length l ≤ (if same_queue j (queue p w D) then length (y.mail (queue p w D)) - 1 else length (y.mail (queue p w D))))
            (λ g. subst (λ (b : Bool). length (without (y.mail j) k) ≤ (if b then length (y.mail (queue p w D)) - 1 else length (y.mail (queue p w D)))) (sym g)
            (let h = taken_length (y.mail j) k own.1 own.2 in let i = ap (λ q. length (y.mail q)) (exact_queue j (queue p w D) g) in omega (arith, h, i)))
            (λ g. subst (λ (b : Bool). length (y.mail (queue p w D)) ≤ (if b then length (y.mail (queue p w D)) - 1 else length (y.mail (queue p w D)))) (sym g) (omega arith))

        still_waits : (c : Change) → IsOwn w (waits_in y.mail) c → NotSent c → changed_mail c y.mail (queue w p C) ≡ y.mail (queue w p C)
        still_waits unchanged own s = refl
        still_waits (appended j m) own s = ap (λ t. if t then y.mail j ++ m ∷ [] else y.mail (queue w p C)) s
        still_waits (taken j k) own s =
            ap (λ t. if t then without (y.mail j) k else y.mail (queue w p C))
            ((λ i. same_process j.from w && (ap (λ z. same_process z p) own.0 ∙ apart_symm process_laws p w apart) i && same_name j.channel C) ∙ ap (λ t. t && same_name j.channel C) (and_right (same_process j.from w) false refl))

    pub rest_kept : (y y' : State) (f : Event) → same_process p f.process ≡ false → Resting ms y → step y f ≡ Some y' → Resting ms y'
    rest_kept y y' f other r h =
        let m = mapped (after y f.process) (effect_in y f) y' h in
        subst (Resting ms) m.2
        (elim (same_process w f.process) as (λ b. same_process w f.process ≡ b → Resting ms (after y f.process m.0)) [
          | true ↦ λ e.
              let same = exact_process w f.process e in
              subst (λ (q : Pid). Resting ms (after y q m.0)) same (own_event y f.sender f.place m.0 r (ap (λ q. effect_in y record { process = q; sender = f.sender; place = f.place }) same ∙ m.1))
          | false ↦ λ e.
              let own = own_in y f m.0 m.1 in
              let nw = apart_symm process_laws w f.process e in
              let np = apart_symm process_laws p f.process other in
              record {
                calm = subst (λ (k : Code). Calm (walk_by heard C k (λ D. length (changed_mail m.0.mail y.mail (queue p w D))))) (sym (changed-other process_laws y.code f.process m.0.next w nw))
                    (subst (λ (n : Counts). Calm (walk_by heard C (y.code w) n)) (λ i D. length (sym (mail_kept f.process m.0.mail y.mail (queue p w D) own np nw) i)) r.calm);
                waits = mail_kept f.process m.0.mail y.mail (queue w p C) own nw np ∙ r.waits;
              }
        ] refl)

-- what waits from a quiet sender stays as it is until the receiver moves
pub stays_waiting : (p w : Pid) (C : Name) (s : State) (ms : List Payload) → s.mail (queue w p C) ≡ ms → Calm (walk_by (heard p w C) C (s.code w) (λ D. length (s.mail (queue p w D)))) →
    (before : List Event) (at : State) → run s before ≡ Some at → count p before ≡ 0 → at.mail (queue w p C) ≡ ms
stays_waiting p w C s ms waits calm before at r none =
    elim (same_process p w) as (λ b. same_process p w ≡ b → at.mail (queue w p C) ≡ ms) [
      | false ↦ λ apart.
          (kept_before p (Resting p w C ms) (λ y y' f other k g. rest_kept p w C apart ms y y' f other k g) s before at r none record { calm = calm; waits = waits }).waits
      | true ↦ λ same. kept_before p (λ y. y.mail (queue w p C) ≡ ms) (λ y y' f other k g. keeps y y' f other (exact_process p w same) k g) s before at r none waits
    ] refl
  where
    keeps : (y y' : State) (f : Event) → same_process p f.process ≡ false → p ≡ w → y.mail (queue w p C) ≡ ms → step y f ≡ Some y' → y'.mail (queue w p C) ≡ ms
    keeps y y' f other same k h =
        let m = mapped (after y f.process) (effect_in y f) y' h in
        let own = own_in y f m.0 m.1 in
        let np = apart_symm process_laws p f.process other in
        ap (λ (z : State). z.mail (queue w p C)) (sym m.2) ∙ mail_kept p w C f.process m.0.mail y.mail (queue w p C) own (ap (same_process f.process) (sym same) ∙ np) np ∙ k
