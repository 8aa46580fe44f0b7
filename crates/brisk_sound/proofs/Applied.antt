-- What the basic rules do: where one applies, its tests, its statement and the next state as a reading.
use Rattle.std.proofs.Common.{◌≡◌, ℕ, Bool, true, false, List, [], ◌∷◌, ◌++◌, map, Option, Some, None, refl, sym, ap, ◌∙◌, subst, cond, inl, inr}
use Rattle.std.specs.Prelude.{◌⊎◌, if◌then◌else◌, ◌&&◌, not, Result, Ok, nat_le}
use Rattle.std.specs.FinMap.{find}
use Rattle.std.specs.Ordering.{eq_by_cmp}
use Rattle.std.proofs.lemmas.Option.{same_Some}
use Rattle.brisk_values.specs.declared.value.Value.{Value}
use Rattle.brisk_values.specs.Functions.{changed}
use Rattle.brisk_values.specs.Names.{Name, same_name}
use Rattle.brisk_values.proofs.Changes.{exact_name, both_true, neither}
use Rattle.brisk_syntax.specs.declared.tree.Who.{Who}
use Rattle.brisk_syntax.specs.declared.tree.Who.TheVariants as who
use Rattle.brisk_syntax.specs.Stores.{is_true}
use Rattle.brisk_syntax.specs.Syntax.{Expression, Statement, Assign, Send, Recv, If, IfElse, While, Code, done, ◌⨾◌, ◌then◌}
use Rattle.brisk_seq.specs.Items.{Item}
use Rattle.brisk_seq.specs.Items as item
use Rattle.brisk_facts.specs.Facts.{fact, with_value}
use Rattle.brisk_facts.specs.Learning.{fold, folded}
use Rattle.brisk_state.specs.declared.thread.Mode.{Mode}
use Rattle.brisk_state.specs.declared.thread.Mode.TheVariants.{One, At, Each}
use Rattle.brisk_state.specs.declared.thread.Thread.{Thread}
use Rattle.brisk_state.specs.Symbolic.{Key, key, key_cmp, Symbolic, Pending, numbers_at, or_none, is_in_use, thread_named, with_code, code_at, partner_by, partner_of, is_partner, stands_for}
use Rattle.brisk_basic.specs.declared.rule.Basic.{Basic}
use Rattle.brisk_basic.specs.declared.rule.Basic.TheVariants as rule
use Rattle.brisk_basic.specs.declared.rule.RuleFault.{RuleFault}
use Rattle.brisk_basic.specs.declared.rule.RuleFault.TheVariants.{BoxInUse}
use Rattle.brisk_basic.specs.Basic.{Applied, apply, at_thread, sends, receives, assign, fill, pass, take, decided, known}
use Rattle.brisk_basic.specs.Outcomes.{when}
use Rattle.brisk_rules.specs.Rules.{mode_of}
use Rattle.brisk_sound.proofs.After.{goes_on, after_assign, after_fill, after_take, after_pass}
use Rattle.brisk_sound.proofs.Control.{sides}
use Rattle.brisk_sound.proofs.Lookups.{one_value, some_values, no_values, numbers_with}
use Rattle.brisk_rules.proofs.Readings.{reading, is_active, has, stands_by}
use Rattle.brisk_rules.proofs.Threads.{names, modes_with_code, codes_with_code, names_with_code, Moved, moved}
use Rattle.std.proofs.lemmas.Bool.{not-true}

pub at_code : {A : Type 0} (o : Option Code) (go : Code → Result A RuleFault) (a : A) → at_thread o go ≡ Ok a → (c : Code) × (o ≡ Some c) × (go c ≡ Ok a)
at_code None go a e = cc
at_code (Some c) go a e = (c, refl, e)

same_ok : (a b : Applied) → ◌≡◌ {A = Result Applied RuleFault} (Ok a) (Ok b) → a ≡ b
same_ok a b e = cc

when_ok : (b : Bool) (why : RuleFault) (more : Result Applied RuleFault) (r : Applied) → when b why more ≡ Ok r → (b ≡ true) × (more ≡ Ok r)
when_ok true why more r e = (refl, e)
when_ok false why more r e = cc

-- a partner stands for a thread by its mode
by_mode : (m : Mode) (u : Name) (w : Who) → is_partner (partner_by m u) w ≡ stands_by (Some m) u w
by_mode One u (who.Name n) = refl
by_mode One u (who.At s) = refl
by_mode One u (who.Pid p) = refl
by_mode At u (who.Name n) = refl
by_mode At u (who.At s) = refl
by_mode At u (who.Pid p) = refl
by_mode Each u w = refl

pub partner_by_mode : (ts : List Thread) (u : Name) (w : Who) → is_partner (partner_of (thread_named ts u)) w ≡ stands_by (mode_of (thread_named ts u)) u w
partner_by_mode [] u w = refl
partner_by_mode (x ∷ xs) u w =
    elim (same_name u x.name) as (λ b. same_name u x.name ≡ b → is_partner (partner_of (if b then Some x else thread_named xs u)) w ≡ stands_by (mode_of (if b then Some x else thread_named xs u)) u w) [
      | true ↦ λ e. ap (λ z. is_partner (partner_by x.mode z) w) (sym (exact_name u x.name e)) ∙ by_mode x.mode u w
      | false ↦ λ e. partner_by_mode xs u w
    ] refl

abbrev Sending : Type 0
Sending = List Expression × Code

abbrev Receiving : Type 0
Receiving = List Name × Code

sends_to : (S : Symbolic) (u c : Name) (code : Code) (p : Sending) → sends S u c code ≡ Some p →
    (w : Who) × (code ≡ Send c p.0 w ⨾ p.1) × (stands_by ((reading S).mode u) u w ≡ true)
sends_to S u c (Send d es w ⨾ rest) p e =
    elim (same_name c d && stands_for S u w) as (λ b. (same_name c d && stands_for S u w) ≡ b → (if b then Some (es, rest) else None) ≡ Some p →
    (v : Who) × (Send d es w ⨾ rest ≡ Send c p.0 v ⨾ p.1) × (stands_by ((reading S).mode u) u v ≡ true)) [
      | true ↦ λ h g.
          let t = both_true (same_name c d) (stands_for S u w) h in let q : ◌≡◌ {A = Sending} (es, rest) p = same_Some (es, rest) p g in
          (w, λ i. Send (sym (exact_name c d t.0) i) (q i).0 w ⨾ (q i).1, sym (partner_by_mode S.threads u w) ∙ t.1)
      | false ↦ λ h g. cc
    ] refl e
sends_to S u c code p e = cc

receives_from : (S : Symbolic) (t c : Name) (code : Code) (p : Receiving) → receives S t c code ≡ Some p →
    (w : Who) × (code ≡ Recv c p.0 w ⨾ p.1) × (stands_by ((reading S).mode t) t w ≡ true)
receives_from S t c (Recv d xs w ⨾ rest) p e =
    elim (same_name c d && stands_for S t w) as (λ b. (same_name c d && stands_for S t w) ≡ b → (if b then Some (xs, rest) else None) ≡ Some p →
    (v : Who) × (Recv d xs w ⨾ rest ≡ Recv c p.0 v ⨾ p.1) × (stands_by ((reading S).mode t) t v ≡ true)) [
      | true ↦ λ h g.
          let x = both_true (same_name c d) (stands_for S t w) h in let q : ◌≡◌ {A = Receiving} (xs, rest) p = same_Some (xs, rest) p g in
          (w, λ i. Recv (sym (exact_name c d x.0) i) (q i).0 w ⨾ (q i).1, sym (partner_by_mode S.threads t w) ∙ x.1)
      | false ↦ λ h g. cc
    ] refl e
receives_from S t c code p e = cc

-- a number that isn't in use pends under no key
unused : (n : ℕ) (pending : Pending) → is_in_use pending n ≡ false → (l : Key) → has n (numbers_at pending l) ≡ false
unused n [] h l = refl
unused n (e ∷ es) h l =
    let f = neither (has n e.1) (is_in_use es n) h in
    elim (eq_by_cmp key_cmp l e.0) as (λ b. has n (or_none (cond b (Some e.1) (find key_cmp l es))) ≡ false) [ true ↦ f.0 | false ↦ unused n es f.1 l ]

assign_ok : (S : Symbolic) (t : Name) (c : Code) (r : Applied) → assign S t c ≡ Ok r →
    (x : Name) × (e : Expression) × (rest : Code) × (c ≡ Assign x e ⨾ rest)
    × (record { statement = Some (item.Pass t (x ∷ []) t (e ∷ [])); next = record S { threads = with_code t rest S.threads; facts = with_value t x (folded S.facts t e) S.facts } } ≡ r)
assign_ok S t (Assign x e ⨾ rest) r g = (x, e, rest, refl, same_ok _ r g)
assign_ok S t c r g = cc

decided_ok : (S : Symbolic) (t : Name) (o : Option Value) (so otherwise : Code) (r : Applied) → decided S t o so otherwise ≡ Ok r →
    (v : Value) × (o ≡ Some v) × (record { statement = None; next = record S { threads = with_code t (if is_true v then so else otherwise) S.threads } } ≡ r)
decided_ok S t None so otherwise r e = cc
decided_ok S t (Some v) so otherwise r e = (v, refl, same_ok _ r e)

-- an if whose guard is known
record KnownIf (S : Symbolic) (t : Name) (c : Code) (r : Applied) : Type 0 where
  statement : Statement
  guard : Expression
  first : Code
  second : Code
  rest : Code
  stands : c ≡ statement ⨾ rest
  ways : sides statement ≡ Some (guard, first, second)
  value : Value
  folds : fold (fact S.facts t) guard ≡ Some value
  decides : record { statement = None; next = record S { threads = with_code t (if is_true value then first then rest else second then rest) S.threads } } ≡ r

-- a while whose guard is known
record KnownWhile (S : Symbolic) (t : Name) (c : Code) (r : Applied) : Type 0 where
  guard : Expression
  body : Code
  rest : Code
  stands : c ≡ While guard body ⨾ rest
  value : Value
  folds : fold (fact S.facts t) guard ≡ Some value
  decides : record { statement = None; next = record S { threads = with_code t (if is_true value then body then c else rest) S.threads } } ≡ r

known_ok : (S : Symbolic) (t : Name) (c : Code) (r : Applied) → known S t c ≡ Ok r → KnownIf S t c r ⊎ KnownWhile S t c r
known_ok S t (If e a ⨾ rest) r g =
    let d = decided_ok S t (folded S.facts t e) (a then rest) rest r g in
    inl record { statement = If e a; guard = e; first = a; second = done; rest = rest; stands = refl; ways = refl; value = d.0; folds = d.1; decides = d.2 }
known_ok S t (IfElse e a b ⨾ rest) r g =
    let d = decided_ok S t (folded S.facts t e) (a then rest) (b then rest) r g in
    inl record { statement = IfElse e a b; guard = e; first = a; second = b; rest = rest; stands = refl; ways = refl; value = d.0; folds = d.1; decides = d.2 }
known_ok S t (While e b ⨾ rest) r g =
    let d = decided_ok S t (folded S.facts t e) (b then (While e b ⨾ rest)) rest r g in
    inr record { guard = e; body = b; rest = rest; stands = refl; value = d.0; folds = d.1; decides = d.2 }
known_ok S t c r g = cc

-- What a basic rule does: its tests, its statement, and the reading of the next state, whose threads have the same names.
pub data Applies (S : Symbolic) (r : Applied) : Basic → Type 0 where
  assigns : (t x : Name) (e : Expression) (k : Code) → is_active ((reading S).mode t) ≡ true → (reading S).code t ≡ Assign x e ⨾ k →
      r.statement ≡ Some (item.Pass t (x ∷ []) t (e ∷ [])) → reading r.next ≡ after_assign (reading S) t x e k → names r.next.threads ≡ names S.threads → Applies S r (rule.Assign t)
  fills : (t u C : Name) (n : ℕ) (es : List Expression) (w : Who) (k : Code) → is_active ((reading S).mode t) ≡ true → (reading S).code t ≡ Send C es w ⨾ k →
      stands_by ((reading S).mode u) u w ≡ true → ((l : Key) → has n ((reading S).pending l) ≡ false) →
      r.statement ≡ Some (item.Fill n t u es) → reading r.next ≡ after_fill (reading S) t u C n k → names r.next.threads ≡ names S.threads → Applies S r (rule.Fill t u C n)
  takes : (t u C : Name) (n : ℕ) (ns : List ℕ) (xs : List Name) (w : Who) (k : Code) → is_active ((reading S).mode u) ≡ true → (reading S).code u ≡ Recv C xs w ⨾ k →
      stands_by ((reading S).mode t) t w ≡ true → (reading S).pending (key t u C) ≡ n ∷ ns →
      r.statement ≡ Some (item.Take u xs n t) → reading r.next ≡ after_take (reading S) t u C xs ns k → names r.next.threads ≡ names S.threads → Applies S r (rule.Take t u C)
  passes : (t u C : Name) (es : List Expression) (w : Who) (k : Code) (xs : List Name) (w' : Who) (k' : Code) → is_active ((reading S).mode t) ≡ true → is_active ((reading S).mode u) ≡ true →
      (reading S).code t ≡ Send C es w ⨾ k → stands_by ((reading S).mode u) u w ≡ true → (reading S).code u ≡ Recv C xs w' ⨾ k' → stands_by ((reading S).mode t) t w' ≡ true →
      (reading S).pending (key t u C) ≡ [] →
      r.statement ≡ Some (item.Pass u xs t es) → reading r.next ≡ after_pass (reading S) t u xs es k k' → names r.next.threads ≡ names S.threads → Applies S r (rule.Pass t u C)
  knows_if : (t : Name) (s : Statement) (e : Expression) (a b rest : Code) (v : Value) → is_active ((reading S).mode t) ≡ true → (reading S).code t ≡ s ⨾ rest → sides s ≡ Some (e, a, b) →
      fold ((reading S).facts t) e ≡ Some v →
      r.statement ≡ None → reading r.next ≡ goes_on (reading S) t (if is_true v then a then rest else b then rest) → names r.next.threads ≡ names S.threads → Applies S r (rule.Known t)
  knows_while : (t : Name) (e : Expression) (b rest : Code) (v : Value) → is_active ((reading S).mode t) ≡ true → (reading S).code t ≡ While e b ⨾ rest →
      fold ((reading S).facts t) e ≡ Some v →
      r.statement ≡ None → reading r.next ≡ goes_on (reading S) t (if is_true v then b then (reading S).code t else rest) → names r.next.threads ≡ names S.threads → Applies S r (rule.Known t)

module _ (S : Symbolic) where
  assign_applies : (t : Name) (c : Code) (r : Applied) → code_at S t ≡ Some c → assign S t c ≡ Ok r → Applies S r (rule.Assign t)
  assign_applies t c r is g =
      let a = assign_ok S t c r g in let m = moved S.threads t c is in
      subst (λ (z : Applied). Applies S z (rule.Assign t)) a.4
      (assigns t a.0 a.1 a.2 m.active (m.stands ∙ a.3) refl
      (λ i. record {
        mode = modes_with_code t a.2 S.threads i;
        code = codes_with_code t a.2 S.threads m.mode m.there i;
        pending = numbers_at S.pending;
        facts = one_value t a.0 (folded S.facts t a.1) S.facts i;
      })
      (names_with_code t a.2 S.threads))

  fill_applies : (t u C : Name) (n : ℕ) (c : Code) (r : Applied) → code_at S t ≡ Some c → fill S t u C n (sends S u C c) ≡ Ok r → Applies S r (rule.Fill t u C n)
  fill_applies t u C n c r is =
      elim (sends S u C c) as (λ o. sends S u C c ≡ o → fill S t u C n o ≡ Ok r → Applies S r (rule.Fill t u C n)) [
        | None ↦ λ h g. cc
        | Some p ↦ λ h g.
            let s = sends_to S u C c p h in let m = moved S.threads t c is in
            let k = when_ok (nat_le 1 n && nat_le n 1000000 && not (is_in_use S.pending n)) BoxInUse _ r g in
            let free = both_true (nat_le 1 n && nat_le n 1000000) (not (is_in_use S.pending n)) k.0 in
            subst (λ (z : Applied). Applies S z (rule.Fill t u C n)) (same_ok _ r k.1)
            (fills t u C n p.0 s.0 p.1 m.active (m.stands ∙ s.1) s.2 (unused n S.pending (not-true (is_in_use S.pending n) free.1)) refl
            (λ i. record {
              mode = modes_with_code t p.1 S.threads i;
              code = codes_with_code t p.1 S.threads m.mode m.there i;
              pending = numbers_with (key t u C) (numbers_at S.pending (key t u C) ++ n ∷ []) S.pending i;
              facts = fact S.facts;
            })
            (names_with_code t p.1 S.threads))
      ] refl

  take_applies : (t u C : Name) (c : Code) (r : Applied) → code_at S u ≡ Some c → take S t u C (receives S t C c) (numbers_at S.pending (key t u C)) ≡ Ok r → Applies S r (rule.Take t u C)
  take_applies t u C c r is =
      elim (receives S t C c) as (λ o. receives S t C c ≡ o → take S t u C o (numbers_at S.pending (key t u C)) ≡ Ok r → Applies S r (rule.Take t u C)) [
        | None ↦ λ h g. cc
        | Some p ↦ λ h.
            elim (numbers_at S.pending (key t u C)) as (λ l. numbers_at S.pending (key t u C) ≡ l → take S t u C (Some p) l ≡ Ok r → Applies S r (rule.Take t u C)) [
              | [] ↦ λ pends g. cc
              | n ∷ ns ↦ λ pends g.
                  let s = receives_from S t C c p h in let m = moved S.threads u c is in
                  subst (λ (z : Applied). Applies S z (rule.Take t u C)) (same_ok _ r g)
                  (takes t u C n ns p.0 s.0 p.1 m.active (m.stands ∙ s.1) s.2 pends refl
                  (λ i. record {
                    mode = modes_with_code u p.1 S.threads i;
                    code = codes_with_code u p.1 S.threads m.mode m.there i;
                    pending = numbers_with (key t u C) ns S.pending i;
                    facts = no_values u p.0 S.facts i;
                  })
                  (names_with_code u p.1 S.threads))
            ] refl
      ] refl

  pass_applies : (t u C : Name) (c d : Code) (r : Applied) → code_at S t ≡ Some c → code_at S u ≡ Some d →
      pass S t u (sends S u C c) (receives S t C d) (numbers_at S.pending (key t u C)) ≡ Ok r → Applies S r (rule.Pass t u C)
  pass_applies t u C c d r is is' =
      elim (sends S u C c) as (λ o. sends S u C c ≡ o → pass S t u o (receives S t C d) (numbers_at S.pending (key t u C)) ≡ Ok r → Applies S r (rule.Pass t u C)) [
        | None ↦ λ h g. cc
        | Some p ↦ λ h.
            elim (receives S t C d) as (λ o. receives S t C d ≡ o → pass S t u (Some p) o (numbers_at S.pending (key t u C)) ≡ Ok r → Applies S r (rule.Pass t u C)) [
              | None ↦ λ h' g. cc
              | Some q ↦ λ h'.
                  elim (numbers_at S.pending (key t u C)) as (λ l. numbers_at S.pending (key t u C) ≡ l → pass S t u (Some p) (Some q) l ≡ Ok r → Applies S r (rule.Pass t u C)) [
                    | [] ↦ λ pends g.
                        let s = sends_to S u C c p h in let s' = receives_from S t C d q h' in
                        let m = moved S.threads t c is in let m' = moved S.threads u d is' in
                        subst (λ (z : Applied). Applies S z (rule.Pass t u C)) (same_ok _ r g)
                        (passes t u C p.0 s.0 p.1 q.0 s'.0 q.1 m.active m'.active (m.stands ∙ s.1) s.2 (m'.stands ∙ s'.1) s'.2 pends refl
                        (λ i. record {
                          mode = (modes_with_code u q.1 (with_code t p.1 S.threads) ∙ modes_with_code t p.1 S.threads) i;
                          code = (codes_with_code u q.1 (with_code t p.1 S.threads) m'.mode (ap (λ (f : Name → Option Mode). f u) (modes_with_code t p.1 S.threads) ∙ m'.there)
                              ∙ (λ j. changed same_name (codes_with_code t p.1 S.threads m.mode m.there j) u q.1)) i;
                          pending = numbers_at S.pending;
                          facts = some_values u q.0 (map (folded S.facts t) p.0) S.facts i;
                        })
                        (names_with_code u q.1 (with_code t p.1 S.threads) ∙ names_with_code t p.1 S.threads))
                    | n ∷ ns ↦ λ pends g. cc
                  ] refl
            ] refl
      ] refl

  -- the reading where t alone goes on
  gone : (t : Name) (c k : Code) → Moved S.threads t c → reading record S { threads = with_code t k S.threads } ≡ goes_on (reading S) t k
  gone t c k m = λ i. record { mode = modes_with_code t k S.threads i; code = codes_with_code t k S.threads m.mode m.there i; pending = numbers_at S.pending; facts = fact S.facts }

  known_applies : (t : Name) (c : Code) (r : Applied) → code_at S t ≡ Some c → known S t c ≡ Ok r → Applies S r (rule.Known t)
  known_applies t c r is g =
      let m = moved S.threads t c is in
      elim (known_ok S t c r g) [
        | inl k ↦
            let next = if is_true k.value then k.first then k.rest else k.second then k.rest in
            subst (λ (z : Applied). Applies S z (rule.Known t)) k.decides (knows_if t k.statement k.guard k.first k.second k.rest k.value m.active (m.stands ∙ k.stands) k.ways k.folds refl (gone t c next m) (names_with_code t next S.threads))
        | inr k ↦
            let next = if is_true k.value then k.body then c else k.rest in
            subst (λ (z : Applied). Applies S z (rule.Known t)) k.decides (knows_while t k.guard k.body k.rest k.value m.active (m.stands ∙ k.stands) k.folds refl
            (gone t c next m ∙ (λ i. goes_on (reading S) t (if is_true k.value then k.body then sym m.stands i else k.rest))) (names_with_code t next S.threads))
      ]

  -- each basic rule
  pub applies : (b : Basic) (r : Applied) → apply S b ≡ Ok r → Applies S r b
  applies (rule.Assign t) r g = let x = at_code (code_at S t) (assign S t) r g in assign_applies t x.0 r x.1 x.2
  applies (rule.Fill t u c n) r g =
      let x = at_code (code_at S t) (λ code. fill S t u c n (sends S u c code)) r g in fill_applies t u c n x.0 r x.1 x.2
  applies (rule.Pass t u c) r g =
      let x = at_code (code_at S t) (λ code. at_thread (code_at S u) (λ other. pass S t u (sends S u c code) (receives S t c other) (numbers_at S.pending (key t u c)))) r g in
      let y = at_code (code_at S u) (λ other. pass S t u (sends S u c x.0) (receives S t c other) (numbers_at S.pending (key t u c))) r x.2 in
      pass_applies t u c x.0 y.0 r x.1 y.1 y.2
  applies (rule.Take t u c) r g =
      let x = at_code (code_at S u) (λ code. take S t u c (receives S t c code) (numbers_at S.pending (key t u c))) r g in take_applies t u c x.0 r x.1 x.2
  applies (rule.Known t) r g = let x = at_code (code_at S t) (known S t) r g in known_applies t x.0 r x.1 x.2

-- the threads have the same names after it
pub named_applied : (S : Symbolic) (r : Applied) (b : Basic) → Applies S r b → names r.next.threads ≡ names S.threads
named_applied S r _ (assigns t x e k act is q n named) = named
named_applied S r _ (fills t u C n es w k act is stands unused q m named) = named
named_applied S r _ (takes t u C n ns xs w k act is stands pends q m named) = named
named_applied S r _ (passes t u C es w k xs w' k' act act' is stands is' stands' empty q n named) = named
named_applied S r _ (knows_if t s e a b rest v act is two f q n named) = named
named_applied S r _ (knows_while t e b rest v act is f q n named) = named
