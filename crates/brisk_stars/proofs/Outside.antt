-- What the steps of a premise leave as it is: all threads but two, and the mail of other sets.
use Rattle.std.proofs.Common.{◌≡◌, ◌⊎◌, inl, inr, ℕ, Bool, true, false, cond, List, [], ◌∷◌, ◌++◌, map, filter, Option, Some, None, refl, sym, ap, ◌∙◌, subst}
use Rattle.std.specs.Prelude.{◌&&◌, ◌||◌, not, if◌then◌else◌, Ok, nat_le}
use Rattle.std.specs.declared.cmp.Ordering.TheVariants.{Less, Equal, Greater}
use Rattle.std.specs.FinMap.{put}
use Rattle.std.specs.FinMap.Entries.{by_order}
use Rattle.brisk_values.specs.declared.value.Value.{Value}
use Rattle.brisk_values.specs.Names.{Name, same_name}
use Rattle.brisk_syntax.specs.Stores.{is_true}
use Rattle.brisk_syntax.specs.Syntax.{Expression, Assign, If, IfElse, While, Code, done, ◌⨾◌, ◌then◌}
use Rattle.brisk_facts.specs.Learning.{folded}
use Rattle.brisk_state.specs.declared.thread.Thread.{Thread}
use Rattle.brisk_state.specs.Symbolic.{Symbolic, Key, Pending, key, key_cmp, same_key, with_code, with_numbers, pending_where, code_at, numbers_at, is_in_use}
use Rattle.brisk_basic.specs.declared.rule.Basic.{Basic}
use Rattle.brisk_basic.specs.declared.rule.Basic.TheVariants as rule
use Rattle.brisk_basic.specs.declared.rule.RuleFault.TheVariants.{BoxInUse}
use Rattle.brisk_basic.specs.Basic.{Applied, apply, at_thread, sends, receives, assign, fill, pass, take, decided, known}
use Rattle.brisk_rules.specs.Rules.{Outside, looks_at_key}
use Rattle.brisk_sound.proofs.Applied.{at_code}
use Rattle.brisk_rules.proofs.Fulfilled.{same_ok, when_ok}
use Rattle.brisk_sound.proofs.Events.{exact_key}
use Rattle.brisk_sound.proofs.Lookups.{exact_key_cmp}
use Rattle.std.proofs.Math.Bool.{or-true}

-- numbers under a key that isn't looked at
not_looked : (test : Key → Bool) (k : Key) (p : Pending) → test k ≡ false → filter (λ (e : Key × List ℕ). test e.0) (filter (λ (e : Key × List ℕ). not (same_key k e.0)) p) ≡ filter (λ (e : Key × List ℕ). test e.0) p
not_looked test k [] h = refl
not_looked test k (e ∷ p) h =
    let more = not_looked test k p h in
    elim (same_key k e.0) as (λ b. same_key k e.0 ≡ b →
    filter (λ (e : Key × List ℕ). test e.0) (cond (not b) (e ∷ filter (λ (e : Key × List ℕ). not (same_key k e.0)) p) (filter (λ (e : Key × List ℕ). not (same_key k e.0)) p)) ≡ cond (test e.0) (e ∷ filter (λ (e : Key × List ℕ). test e.0) p) (filter (λ (e : Key × List ℕ). test e.0) p)) [
      | true ↦ λ same. more ∙ sym (ap (λ b. cond b (e ∷ filter (λ (e : Key × List ℕ). test e.0) p) (filter (λ (e : Key × List ℕ). test e.0) p)) (ap test (sym (exact_key k e.0 same)) ∙ h))
      | false ↦ λ other. ap (λ q. cond (test e.0) (e ∷ q) q) more
    ] refl

put_unlooked : (test : Key → Bool) (k : Key) (ns : List ℕ) (p : Pending) → test k ≡ false → filter (λ (e : Key × List ℕ). test e.0) (put key_cmp k ns p) ≡ filter (λ (e : Key × List ℕ). test e.0) p
put_unlooked test k ns [] h = ap (λ b. cond b ((k, ns) ∷ []) []) h
put_unlooked test k ns (e ∷ p) h =
    let more = put_unlooked test k ns p h in
    let rest = filter (λ (e : Key × List ℕ). test e.0) p in
    elim (key_cmp k e.0) as (λ o. key_cmp k e.0 ≡ o → filter (λ (e : Key × List ℕ). test e.0) (by_order o ((k, ns) ∷ e ∷ p) ((e.0, ns) ∷ p) (e ∷ put key_cmp k ns p)) ≡ cond (test e.0) (e ∷ rest) rest) [
      | Less ↦ λ o. ap (λ b. cond b ((k, ns) ∷ cond (test e.0) (e ∷ rest) rest) (cond (test e.0) (e ∷ rest) rest)) h
      | Equal ↦ λ o.
          let off : test e.0 ≡ false = ap test (sym (exact_key_cmp k e.0 o)) ∙ h in
          ap (λ b. cond b ((e.0, ns) ∷ rest) rest) off ∙ sym (ap (λ b. cond b (e ∷ rest) rest) off)
      | Greater ↦ λ o. ap (λ q. cond (test e.0) (e ∷ q) q) more
    ] refl

unlooked : (test : Key → Bool) (k : Key) (ns : List ℕ) (p : Pending) → test k ≡ false → pending_where test (with_numbers k ns p) ≡ pending_where test p
unlooked test k [] p h = not_looked test k p h
unlooked test k (n ∷ ns) p h = put_unlooked test k (n ∷ ns) p h

module _ (M s : Name) where
  -- the threads, but as if these two had no code
  abbrev pub blank : Thread → Thread
  blank u = if same_name M u.name || same_name s u.name then record u { code = done } else u

  abbrev pub blanked : List Thread → List Thread
  blanked = map blank

  -- the mail of other sets
  abbrev pub mail_outside : Pending → Pending
  mail_outside = pending_where (looks_at_key (Outside s))

  pub record Still (S E : Symbolic) : Type 0 where
    pub threads : blanked E.threads ≡ blanked S.threads
    pub mail : mail_outside E.pending ≡ mail_outside S.pending

  pub still_then : (S E F : Symbolic) → Still S E → Still E F → Still S F
  still_then S E F a b = record { threads = b.threads ∙ a.threads; mail = b.mail ∙ a.mail }

  abbrev OneOf : Name → Type 0
  OneOf t = (M ≡ t) ⊎ (s ≡ t)

  one_of : (t n : Name) → OneOf t → same_name t n ≡ true → (same_name M n || same_name s n) ≡ true
  one_of t n (inl is) e = ap (λ b. b || same_name s n) (ap (λ z. same_name z n) is ∙ e)
  one_of t n (inr is) e = ap (λ b. same_name M n || b) (ap (λ z. same_name z n) is ∙ e) ∙ or-true (same_name M n)

  pub blanked_with : (t : Name) (k : Code) (ts : List Thread) → OneOf t → blanked (with_code t k ts) ≡ blanked ts
  blanked_with t k [] is = refl
  blanked_with t k (u ∷ us) is =
      (λ i. elim (same_name t u.name) as (λ b. same_name t u.name ≡ b → blank (if b then record u { code = k } else u) ≡ blank u) [
        | true ↦ λ same. ap (λ b. if b then record u { code = done } else record u { code = k }) (one_of t u.name is same) ∙ sym (ap (λ b. if b then record u { code = done } else u) (one_of t u.name is same))
        | false ↦ λ other. refl
      ] refl i ∷ blanked_with t k us is i)

  -- a key of the two
  key_between : (t u c : Name) → same_name s t ≡ true → looks_at_key (Outside s) (key t u c) ≡ false
  key_between t u c e = ap (λ b. not (b || same_name s u)) e

  key_back : (t u c : Name) → same_name s u ≡ true → looks_at_key (Outside s) (key t u c) ≡ false
  key_back t u c e = ap (λ b. not (same_name s t || b)) e ∙ ap not (or-true (same_name s t))

  module _ (S : Symbolic) (two : (t : Name) (c : Code) → code_at S t ≡ Some c → OneOf t) (keyed : (t u c : Name) (code : Code) → code_at S t ≡ Some code →
      ((p : List Expression × Code) × (sends S u c code ≡ Some p)) ⊎ ((p : List Name × Code) × (receives S u c code ≡ Some p)) → (same_name s t || same_name s u) ≡ true) where
    abbrev Stays : Applied → Type 0
    Stays r = Still S r.next

    alone : (E : Symbolic) (t : Name) (c k : Code) → code_at S t ≡ Some c → E.threads ≡ with_code t k S.threads → E.pending ≡ S.pending → Still S E
    alone E t c k here threads pending = record { threads = ap blanked threads ∙ blanked_with t k S.threads (two t c here); mail = ap mail_outside pending }

    pub alone_still : (E : Symbolic) (t : Name) (c k : Code) → code_at S t ≡ Some c → E.threads ≡ with_code t k S.threads → E.pending ≡ S.pending → Still S E
    alone_still = alone

    off : (t u c : Name) → (same_name s t || same_name s u) ≡ true → looks_at_key (Outside s) (key t u c) ≡ false
    off t u c h = ap not h

    flipped : (a b : Bool) → (a || b) ≡ true → (b || a) ≡ true
    flipped true true h = refl
    flipped true false h = refl
    flipped false true h = refl
    flipped false false h = cc

    assign_still : (t : Name) (c : Code) (r : Applied) → code_at S t ≡ Some c → assign S t c ≡ Ok r → Stays r
    assign_still t (Assign x e ⨾ rest) r here g = subst Stays (same_ok _ r g) (alone _ t (Assign x e ⨾ rest) rest here refl refl)
    assign_still t c r here g = cc

    decided_still : (t : Name) (c so otherwise : Code) (o : Option Value) (r : Applied) → code_at S t ≡ Some c → decided S t o so otherwise ≡ Ok r → Stays r
    decided_still t c so otherwise None r here g = cc
    decided_still t c so otherwise (Some v) r here g = subst Stays (same_ok _ r g) (alone _ t c (if is_true v then so else otherwise) here refl refl)

    known_still : (t : Name) (c : Code) (r : Applied) → code_at S t ≡ Some c → known S t c ≡ Ok r → Stays r
    known_still t (If e a ⨾ rest) r here g = decided_still t (If e a ⨾ rest) (a then rest) rest (folded S.facts t e) r here g
    known_still t (IfElse e a b ⨾ rest) r here g = decided_still t (IfElse e a b ⨾ rest) (a then rest) (b then rest) (folded S.facts t e) r here g
    known_still t (While e b ⨾ rest) r here g = decided_still t (While e b ⨾ rest) (b then (While e b ⨾ rest)) rest (folded S.facts t e) r here g
    known_still t c r here g = cc

    fill_still : (t u C : Name) (n : ℕ) (c : Code) (r : Applied) → code_at S t ≡ Some c → fill S t u C n (sends S u C c) ≡ Ok r → Stays r
    fill_still t u C n c r here =
        elim (sends S u C c) as (λ o. sends S u C c ≡ o → fill S t u C n o ≡ Ok r → Stays r) [
          | None ↦ λ h g. cc
          | Some p ↦ λ h g.
              let k = when_ok (nat_le 1 n && nat_le n 1000000 && not (is_in_use S.pending n)) BoxInUse _ r g in
              subst Stays (same_ok _ r k.1) record {
                threads = blanked_with t p.1 S.threads (two t c here);
                mail = unlooked (looks_at_key (Outside s)) (key t u C) (numbers_at S.pending (key t u C) ++ n ∷ []) S.pending (off t u C (keyed t u C c here (inl (p, h))));
              }
        ] refl

    take_still : (t u C : Name) (c : Code) (r : Applied) → code_at S u ≡ Some c → take S t u C (receives S t C c) (numbers_at S.pending (key t u C)) ≡ Ok r → Stays r
    take_still t u C c r here =
        elim (receives S t C c) as (λ o. receives S t C c ≡ o → take S t u C o (numbers_at S.pending (key t u C)) ≡ Ok r → Stays r) [
          | None ↦ λ h g. cc
          | Some p ↦ λ h.
              elim (numbers_at S.pending (key t u C)) as (λ l. take S t u C (Some p) l ≡ Ok r → Stays r) [
                | [] ↦ λ g. cc
                | n ∷ ns ↦ λ g.
                    subst Stays (same_ok _ r g) record {
                      threads = blanked_with u p.1 S.threads (two u c here);
                      mail = unlooked (looks_at_key (Outside s)) (key t u C) ns S.pending (off t u C (flipped (same_name s u) (same_name s t) (keyed u t C c here (inr (p, h)))));
                    }
              ]
        ] refl

    pass_still : (t u C : Name) (c d : Code) (r : Applied) → code_at S t ≡ Some c → code_at S u ≡ Some d → pass S t u (sends S u C c) (receives S t C d) (numbers_at S.pending (key t u C)) ≡ Ok r → Stays r
    pass_still t u C c d r here there =
        elim (sends S u C c) as (λ o. pass S t u o (receives S t C d) (numbers_at S.pending (key t u C)) ≡ Ok r → Stays r) [
          | None ↦ λ g. cc
          | Some p ↦ elim (receives S t C d) as (λ o. pass S t u (Some p) o (numbers_at S.pending (key t u C)) ≡ Ok r → Stays r) [
            | None ↦ λ g. cc
            | Some q ↦ elim (numbers_at S.pending (key t u C)) as (λ l. pass S t u (Some p) (Some q) l ≡ Ok r → Stays r) [
              | [] ↦ λ g. subst Stays (same_ok _ r g) record {
                threads = blanked_with u q.1 (with_code t p.1 S.threads) (two u d there) ∙ blanked_with t p.1 S.threads (two t c here);
                mail = refl;
              }
              | n ∷ ns ↦ λ g. cc
            ]
          ]
        ]

    pub basic_still : (b : Basic) (r : Applied) → apply S b ≡ Ok r → Stays r
    basic_still (rule.Assign t) r g = let x = at_code (code_at S t) (assign S t) r g in assign_still t x.0 r x.1 x.2
    basic_still (rule.Fill t u C n) r g = let x = at_code (code_at S t) (λ code. fill S t u C n (sends S u C code)) r g in fill_still t u C n x.0 r x.1 x.2
    basic_still (rule.Pass t u C) r g =
        let x = at_code (code_at S t) (λ code. at_thread (code_at S u) (λ other. pass S t u (sends S u C code) (receives S t C other) (numbers_at S.pending (key t u C)))) r g in
        let y = at_code (code_at S u) (λ other. pass S t u (sends S u C x.0) (receives S t C other) (numbers_at S.pending (key t u C))) r x.2 in
        pass_still t u C x.0 y.0 r x.1 y.1 y.2
    basic_still (rule.Take t u C) r g = let x = at_code (code_at S u) (λ code. take S t u C (receives S t C code) (numbers_at S.pending (key t u C))) r g in take_still t u C x.0 r x.1 x.2
    basic_still (rule.Known t) r g = let x = at_code (code_at S t) (known S t) r g in known_still t x.0 r x.1 x.2
