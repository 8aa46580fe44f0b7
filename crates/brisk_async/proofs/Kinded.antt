-- Values and payloads have their kinds, and keep them.
use Rattle.std.proofs.Common.{◌≡◌, ℕ, zero, suc, Bool, true, false, List, [], ◌∷◌, ◌++◌, map, Option, Some, None, refl, sym, ap, ◌∙◌, subst}
use Rattle.std.specs.List.{AllByRecursion}
use Rattle.std.specs.Prelude.{if◌then◌else◌, nat_lt, option_map, option_and_then}
use Rattle.std.proofs.lemmas.Option.{same_Some}
use Rattle.brisk_values.specs.declared.value.Kind.{Kind}
use Rattle.brisk_values.specs.declared.value.Pid.{Pid}
use Rattle.brisk_values.specs.declared.value.Value.{Value}
use Rattle.brisk_values.specs.Functions.{changed}
use Rattle.brisk_values.specs.Names.{Name, same_name, same_process, member}
use Rattle.brisk_values.specs.Values.{kind_of}
use Rattle.brisk_values.proofs.Changes.{exact_name, exact_process, changed_cases}
use Rattle.brisk_syntax.specs.declared.program.Channel.{Channel}
use Rattle.brisk_syntax.specs.declared.program.Program.{Program}
use Rattle.brisk_syntax.specs.declared.tree.Who.{Who}
use Rattle.brisk_syntax.specs.declared.tree.Who.TheVariants as who
use Rattle.brisk_syntax.specs.Declarations.{kind_in, kinds_on}
use Rattle.brisk_syntax.specs.Instance.{Instance}
use Rattle.brisk_syntax.specs.Stores.{with_variables, is_true}
use Rattle.brisk_syntax.specs.Substitution.{who_with, statement_map, code_map, code_with}
use Rattle.brisk_syntax.specs.Syntax.{Statement, Assign, Send, Recv, RecvAny, If, IfElse, While, For, Repeat, Code, done, ◌⨾◌, ◌then◌}
use Rattle.brisk_syntax.specs.Typing.{Scope, AreDeclared}
use Rattle.brisk_syntax.specs.Value.{value_of}
use Rattle.brisk_async.specs.declared.event.Event.{Event}
use Rattle.brisk_async.specs.Kinds.{scope_at, decls_at, KeepsKinds, CodeKeepsKinds, HasItsKinds, receive_of, FindsItsKinds}
use Rattle.brisk_async.specs.Laws.{AnyReceive, any_code, named_code, named}
use Rattle.brisk_async.specs.Machine.{State, Queue, same_queue, queue, partner, Payload, payload_at, without, Mail, Change, unchanged, appended, taken, changed_mail, Effect, View, takes, place_of, receives, effect, effect_in, seen_by, after, step, run, is_member}
use Rattle.brisk_async.proofs.Expressions.{AreKinded, value_kind, value_kinds}
use Rattle.brisk_async.proofs.Queues.{exact_queue}
use Rattle.brisk_async.proofs.Runs.{mapped, bound}

-- the payload has its channel's kinds
abbrev HasKindsOf : List Channel → Name → Payload → Type 0
HasKindsOf channels c m = kinds_on channels c ≡ Some (map kind_of m)

module _ (channels : List Channel) (names : Scope) where
  abbrev Keeps : Code → Type 0
  Keeps = CodeKeepsKinds channels names

  mutual
    statement_map_keeps : (h : Who → Who) (s : Statement) → KeepsKinds channels names s → KeepsKinds channels names (statement_map h s)
    statement_map_keeps h (Assign x e) t = t
    statement_map_keeps h (Send c es u) t = t
    statement_map_keeps h (Recv c xs u) t = t
    statement_map_keeps h (RecvAny c xs v s b) t = (t.0, code_map_keeps h b t.1)
    statement_map_keeps h (If e a) t = (t.0, code_map_keeps h a t.1)
    statement_map_keeps h (IfElse e a b) t = (t.0, code_map_keeps h a t.1, code_map_keeps h b t.2)
    statement_map_keeps h (While e b) t = (t.0, code_map_keeps h b t.1)
    statement_map_keeps h (For v s k b) t = code_map_keeps h b t
    statement_map_keeps h (Repeat s k b) t = code_map_keeps h b t

    code_map_keeps : (h : Who → Who) (c : Code) → Keeps c → Keeps (code_map h c)
    code_map_keeps h done t = tt
    code_map_keeps h (s ⨾ c) t = (statement_map_keeps h s t.0, code_map_keeps h c t.1)

  then_keeps : (a b : Code) → Keeps a → Keeps b → Keeps (a then b)
  then_keeps done b t u = u
  then_keeps (s ⨾ a) b t u = (t.0, then_keeps a b t.1 u)

  if_keeps : (b : Bool) (x y : Code) → Keeps x → Keeps y → Keeps (if b then x else y)
  if_keeps true x y t u = t
  if_keeps false x y t u = u

  -- the body of a receive from any, with its sender
  pub body_keeps : (v : Name) (w : Pid) (b rest : Code) → Keeps b → Keeps rest → Keeps (code_with v (who.Pid w) b then rest)
  body_keeps v w b rest t u = then_keeps (code_with v (who.Pid w) b) rest (code_map_keeps (who_with v (who.Pid w)) b t) u

  one_stored : (own : Name → Option Value) (x : Name) (v : Value) (k : Kind) → AreKinded names own → kind_in names.decls x ≡ Some k → kind_of v ≡ k →
      AreKinded names (changed same_name own x (Some v))
  one_stored own x v k h declared e y =
      changed_cases same_name own x (Some v) y (λ o. option_map kind_of o ≡ kind_in names.decls y)
      (λ s. ap Some e ∙ sym declared ∙ ap (kind_in names.decls) (exact_name x y s)) (λ s. h y)

  all_stored : (xs : List Name) (ks : List Kind) (vs : List Value) (own : Name → Option Value) → AreDeclared names.decls xs ks → map kind_of vs ≡ ks →
      AreKinded names own → AreKinded names (with_variables own xs vs)
  all_stored [] ks vs own d e h = h
  all_stored (x ∷ xs) [] vs own d e h = absurd d
  all_stored (x ∷ xs) (k ∷ ks) [] own d e h = h
  all_stored (x ∷ xs) (k ∷ ks) (v ∷ vs) own d e h =
      let parts : (kind_of v ≡ k) × (map kind_of vs ≡ ks) = (ap (head_or k) e, ap tail e) in
      all_stored xs ks vs (changed same_name own x (Some v)) d.1 parts.1 (one_stored own x v k h d.0 parts.0)
    where
      head_or : Kind → List Kind → Kind
      head_or j [] = j
      head_or j (i ∷ is) = i

      tail : List Kind → List Kind
      tail [] = []
      tail (i ∷ is) = is

  abbrev ChangeKeeps : Change → Type 0
  ChangeKeeps unchanged = Unit {0}
  ChangeKeeps (appended q m) = HasKindsOf channels q.channel m
  ChangeKeeps (taken q k) = Unit {0}

  abbrev EffectKeeps : (Name → Option Value) → Option Effect → Type 0
  EffectKeeps own None = Unit {0}
  EffectKeeps own (Some x) = Keeps x.next × AreKinded names (with_variables own x.variables x.values) × ChangeKeeps x.mail

  -- the payloads that wait have their channels' kinds
  abbrev WaitKinded : View → Type 0
  WaitKinded v = (q : Queue) (k : ℕ) (m : Payload) → v.waiting q k ≡ Some m → HasKindsOf channels q.channel m

  takes_keeps : (own : Name → Option Value) (q : Queue) (xs : List Name) (next : Code) (k : ℕ) (o : Option Payload) (ks : List Kind) →
      AreKinded names own → ((m : Payload) → o ≡ Some m → HasKindsOf channels q.channel m) → kinds_on channels q.channel ≡ Some ks →
      AreDeclared names.decls xs ks → Keeps next → EffectKeeps own (takes q xs next k o)
  takes_keeps own q xs next k None ks h f c d t = tt
  takes_keeps own q xs next k (Some m) ks h f c d t = (t, all_stored xs ks m own d (same_Some (map kind_of m) ks (sym (f m refl) ∙ c)) h, tt)

  receives_keeps : (v : View) (q : Queue) (xs : List Name) (next : Code) (place : Option ℕ) (ks : List Kind) → AreKinded names v.own → WaitKinded v →
      kinds_on channels q.channel ≡ Some ks → AreDeclared names.decls xs ks → Keeps next → EffectKeeps v.own (receives v q xs next place)
  receives_keeps v q xs next place ks h f c d t =
      elim (place_of (v.loose q.channel) place) as (λ o. EffectKeeps v.own (option_and_then (λ k. takes q xs next k (v.waiting q k)) o)) [
        | None ↦ tt
        | Some k ↦ takes_keeps v.own q xs next k (v.waiting q k) ks h (f q k) c d t
      ]

  effect_keeps : (v : View) (p : Pid) (code : Code) (sender : Option Pid) (place : Option ℕ) → AreKinded names v.own → WaitKinded v → Keeps code →
      EffectKeeps v.own (effect v p code sender place)
  effect_keeps v p done sender place h f t = tt
  effect_keeps v p (Assign x e ⨾ c) None None h f t = (t.1, one_stored v.own x (value_of v.sizes v.own e) t.0.0 h t.0.1 (value_kind v.sizes names v.own h e t.0.0 t.0.2), tt)
  effect_keeps v p (Send c es u ⨾ r) None None h f t = (t.1, h, t.0.1 ∙ ap Some (sym (value_kinds v.sizes names v.own h es t.0.0 t.0.2)))
  effect_keeps v p (Recv c xs u ⨾ r) None place h f t = receives_keeps v (queue (partner u) p c) xs r place t.0.0 h f t.0.1 t.0.2 t.1
  effect_keeps v p (RecvAny c xs b s a ⨾ r) (Some w) place h f t =
      elim (is_member v.sizes s w) as (λ z. EffectKeeps v.own (if z then receives v (queue w p c) xs (code_with b (who.Pid w) a then r) place else None)) [
        | true ↦ receives_keeps v (queue w p c) xs _ place t.0.0.0 h f t.0.0.1 t.0.0.2 (body_keeps b w a r t.0.1 t.1)
        | false ↦ tt
      ]
  effect_keeps v p (If e a ⨾ r) None None h f t = (if_keeps (is_true (value_of v.sizes v.own e)) (a then r) r (then_keeps a r t.0.1 t.1) t.1, h, tt)
  effect_keeps v p (IfElse e a b ⨾ r) None None h f t = (then_keeps (if is_true (value_of v.sizes v.own e) then a else b) r (if_keeps (is_true (value_of v.sizes v.own e)) a b t.0.1 t.0.2) t.1, h, tt)
  effect_keeps v p (While e a ⨾ r) None None h f t = (if_keeps (is_true (value_of v.sizes v.own e)) (a then (While e a ⨾ r)) r (then_keeps a (While e a ⨾ r) t.0.1 t) t.1, h, tt)
  effect_keeps v p (For b s k a ⨾ r) None None h f t = (if_keeps (nat_lt k (v.sizes s)) _ r (body_keeps b (member s k) a _ t.0 t) t.1, h, tt)
  effect_keeps v p (Repeat s k a ⨾ r) None None h f t = (if_keeps (nat_lt k (v.sizes s)) _ r (then_keeps a _ t.0 t) t.1, h, tt)
  effect_keeps v p (Recv c xs u ⨾ r) (Some w) place h f t = tt
  effect_keeps v p (RecvAny c xs b s a ⨾ r) None place h f t = tt
  effect_keeps v p (s ⨾ r) None (Some k) h f t = tt
  effect_keeps v p (s ⨾ r) (Some w) place h f t = tt

abbrev AllKinded : List Channel → Name → List Payload → Type 0
AllKinded channels c ms = AllByRecursion (HasKindsOf channels c) ms

kinded_append : (channels : List Channel) (c : Name) (ms : List Payload) (m : Payload) → AllKinded channels c ms → HasKindsOf channels c m →
    AllKinded channels c (ms ++ m ∷ [])
kinded_append channels c [] m h g = (g, tt)
kinded_append channels c (x ∷ ms) m h g = (h.0, kinded_append channels c ms m h.1 g)

kinded_without : (channels : List Channel) (c : Name) (ms : List Payload) (k : ℕ) → AllKinded channels c ms → AllKinded channels c (without ms k)
kinded_without channels c [] k h = tt
kinded_without channels c (x ∷ ms) zero h = h.1
kinded_without channels c (x ∷ ms) (suc k) h = (h.0, kinded_without channels c ms k h.1)

kinded_at : (channels : List Channel) (c : Name) (ms : List Payload) (k : ℕ) (m : Payload) → AllKinded channels c ms → payload_at ms k ≡ Some m →
    HasKindsOf channels c m
kinded_at channels c [] k m h e = cc
kinded_at channels c (x ∷ ms) zero m h e = subst (HasKindsOf channels c) (same_Some x m e) h.0
kinded_at channels c (x ∷ ms) (suc k) m h e = kinded_at channels c ms k m h.1 e

mail_keeps : (channels : List Channel) (names : Scope) (mail : Mail) (c : Change) → ((q : Queue) → AllKinded channels q.channel (mail q)) →
    ChangeKeeps channels names c → (q : Queue) → AllKinded channels q.channel (changed_mail c mail q)
mail_keeps channels names mail unchanged h t q = h q
mail_keeps channels names mail (appended j m) h t q =
    changed_cases same_queue mail j (mail j ++ m ∷ []) q (AllKinded channels q.channel)
    (λ e. subst (λ (z : Queue). AllKinded channels z.channel (mail j ++ m ∷ [])) (exact_queue j q e) (kinded_append channels j.channel (mail j) m (h j) t)) (λ e. h q)
mail_keeps channels names mail (taken j k) h t q =
    changed_cases same_queue mail j (without (mail j) k) q (AllKinded channels q.channel)
    (λ e. subst (λ (z : Queue). AllKinded channels z.channel (without (mail j) k)) (exact_queue j q e) (kinded_without channels j.channel (mail j) k (h j))) (λ e. h q)

pub step_keeps : (P : Program) (i : Instance) (s t : State) (e : Event) → HasItsKinds P i s → step s e ≡ Some t → HasItsKinds P i t
step_keeps P i s t e h r =
    let p = e.process in
    let m = mapped (after s p) (effect_in s e) t r in
    subst (HasItsKinds P i) m.2
    (went p m.0
    (subst (EffectKeeps P.channels (scope_at P i p) (s.store p)) m.1
    (effect_keeps P.channels (scope_at P i p) (seen_by s p) p (s.code p) e.sender e.place (h.stored p)
    (λ q k m g. kinded_at P.channels q.channel (s.mail q) k m (h.sent q) g) (h.left p))))
  where
    went : (p : Pid) (x : Effect) → EffectKeeps P.channels (scope_at P i p) (s.store p) (Some x) → HasItsKinds P i (after s p x)
    went p x k = record {
      stored = λ q.
          changed_cases same_process s.store p (with_variables (s.store p) x.variables x.values) q (AreKinded (scope_at P i q))
          (λ g. subst (λ (z : Pid). AreKinded (scope_at P i z) (with_variables (s.store p) x.variables x.values)) (exact_process p q g) k.1) (λ g. h.stored q);
      sent = mail_keeps P.channels (scope_at P i p) s.mail x.mail h.sent k.2;
      left = λ q.
          changed_cases same_process s.code p x.next q (CodeKeepsKinds P.channels (scope_at P i q))
          (λ g. subst (λ (z : Pid). CodeKeepsKinds P.channels (scope_at P i z) x.next) (exact_process p q g) k.0) (λ g. h.left q);
    }

pub run_keeps : (P : Program) (i : Instance) (s t : State) (es : List Event) → HasItsKinds P i s → run s es ≡ Some t → HasItsKinds P i t
run_keeps P i s t [] h r = subst (HasItsKinds P i) (same_Some s t r) h
run_keeps P i s t (e ∷ es) h r = let b = bound (λ z. run z es) (step s e) t r in run_keeps P i b.0 t es (step_keeps P i s b.0 e h b.1) b.2

pub named_keeps : (P : Program) (i : Instance) (s : State) (a : AnyReceive) (p w : Pid) → s.code p ≡ any_code a → HasItsKinds P i s →
    HasItsKinds P i (named a p w s)
named_keeps P i s a p w is h = record {
  stored = h.stored;
  sent = h.sent;
  left = λ q.
      changed_cases same_process s.code p (named_code a w) q (CodeKeepsKinds P.channels (scope_at P i q))
      (λ g. subst (λ (z : Pid). CodeKeepsKinds P.channels (scope_at P i z) (named_code a w)) (exact_process p q g)
      (let t : CodeKeepsKinds P.channels (scope_at P i p) (any_code a) = subst (CodeKeepsKinds P.channels (scope_at P i p)) is (h.left p) in
      (t.0.0, body_keeps P.channels (scope_at P i p) a.binder w a.body a.rest t.0.1 t.1))) (λ g. h.left q);
}

declared_are : (names : Scope) (xs : List Name) (ks : List Kind) → AreDeclared names.decls xs ks → map (kind_in names.decls) xs ≡ map Some ks
declared_are names [] [] d = refl
declared_are names [] (k ∷ ks) d = absurd d
declared_are names (x ∷ xs) [] d = absurd d
declared_are names (x ∷ xs) (k ∷ ks) d = λ i. d.0 i ∷ declared_are names xs ks d.1 i

some_kinds : (m : Payload) → map Some (map kind_of m) ≡ map (λ v. Some (kind_of v)) m
some_kinds [] = refl
some_kinds (v ∷ m) = ap (λ l. Some (kind_of v) ∷ l) (some_kinds m)

-- the kinds of the receive at the head
head_kinds : (channels : List Channel) (names : Scope) (code : Code) (c : Name) (xs : List Name) → CodeKeepsKinds channels names code →
    receive_of code ≡ Some (c, xs) → (ks : List Kind) × (kinds_on channels c ≡ Some ks) × AreDeclared names.decls xs ks
head_kinds channels names (Recv d ys u ⨾ r) c xs t e = subst (λ (z : Name × List Name). (ks : List Kind) × (kinds_on channels z.0 ≡ Some ks) × AreDeclared names.decls z.1 ks) (same_Some (d, ys) (c, xs) e) t.0
head_kinds channels names (RecvAny d ys v s b ⨾ r) c xs t e = subst (λ (z : Name × List Name). (ks : List Kind) × (kinds_on channels z.0 ≡ Some ks) × AreDeclared names.decls z.1 ks) (same_Some (d, ys) (c, xs) e) t.0.0
head_kinds channels names code c xs t e = cc

pub head_finds : (P : Program) (i : Instance) (s : State) → HasItsKinds P i s → FindsItsKinds P i s
head_finds P i s h p c xs e q on =
    let k = head_kinds P.channels (scope_at P i p) (s.code p) c xs (h.left p) e in
    each (s.mail q) k.0 (ap (kinds_on P.channels) on ∙ k.1) (declared_are (scope_at P i p) xs k.0 k.2) (h.sent q)
  where
    each : (ms : List Payload) (ks : List Kind) → kinds_on P.channels q.channel ≡ Some ks → map (kind_in (decls_at P i p)) xs ≡ map Some ks →
        AllKinded P.channels q.channel ms → AllByRecursion (λ m. map (kind_in (decls_at P i p)) xs ≡ map (λ v. Some (kind_of v)) m) ms
    each [] ks f g a = tt
    each (m ∷ ms) ks f g a = (g ∙ ap (map Some) (same_Some ks (map kind_of m) (sym f ∙ a.0)) ∙ some_kinds m, each ms ks f g a.1)
