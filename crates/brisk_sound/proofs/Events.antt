-- What one event does to the parts of a fit.
use Rattle.std.proofs.Common.{◌≡◌, ℕ, Bool, true, false, List, [], ◌∷◌, ◌++◌, map, Option, Some, None, refl, sym, ap, ◌∙◌, subst, nat_eq}
use Rattle.std.specs.Prelude.{if◌then◌else◌, ◌&&◌, ◌||◌}
use Rattle.std.proofs.lemmas.Cmp.{nat_eq_equiv}
use Rattle.brisk_values.specs.declared.value.Pid.{Pid}
use Rattle.brisk_values.specs.declared.value.Value.{Value}
use Rattle.brisk_values.specs.Functions.{changed}
use Rattle.brisk_values.specs.Names.{Name, same_name, same_process}
use Rattle.brisk_values.proofs.Changes.{name_laws, process_laws, exact_name, exact_process, changed-other, both_true, neither}
use Rattle.brisk_syntax.specs.Syntax.{Code, ◌then◌}
use Rattle.brisk_seq.specs.Sequential.{Boxes, Focus, with_box}
use Rattle.brisk_async.specs.Machine.{Mail, Payload, Queue, same_queue, queue, without}
use Rattle.brisk_async.proofs.Queues.{exact_queue}
use Rattle.brisk_facts.specs.Laws.{Agrees}
use Rattle.brisk_state.specs.Symbolic.{Key, key, same_key}
use Rattle.brisk_sound.proofs.Fits.{World, Conf, live, Picks, Fits, updated, sole, active_live}
use Rattle.brisk_rules.proofs.Readings.{Reading, is_active, has, code_by, Known}

abbrev pub Distinct : List ℕ → Type 0
Distinct [] = Unit {0}
Distinct (n ∷ ns) = (has n ns ≡ false) × Distinct ns

-- a number pends once
pub record Unique (pending : Key → List ℕ) : Type 0 where
  pub distinct : (k : Key) → Distinct (pending k)
  pub apart : (n : ℕ) (k l : Key) → has n (pending k) ≡ true → same_key k l ≡ false → has n (pending l) ≡ false

unique_head : (pending : Key → List ℕ) → Unique pending → (k : Key) (n : ℕ) (ns : List ℕ) → pending k ≡ n ∷ ns → has n ns ≡ false
unique_head pending u k n ns e = (subst Distinct e (u.distinct k)).0

box_at : (n : ℕ) (p u : Pid) (b : Option (List Value)) (box : Boxes) (j : ℕ) (q r : Pid) (P : Option (List Value) → Type 0) →
    ((nat_eq n j && same_process p q && same_process u r) ≡ true → P b) → ((nat_eq n j && same_process p q && same_process u r) ≡ false → P (box j q r)) → P (with_box n p u b box j q r)
box_at n p u b box j q r P here other =
    elim (nat_eq n j && same_process p q && same_process u r) as (λ t. (nat_eq n j && same_process p q && same_process u r) ≡ t → P (if t then b else box j q r)) [ true ↦ here | false ↦ other ] refl

third : (x a b : Bool) → a ≡ true → b ≡ true → (x && a && b) ≡ false → x ≡ false
third false a b e g h = refl
third true true true e g h = h
third true true false e g h = cc
third true false b e g h = cc

-- what isn't in the list keeps its boxes
unboxed : (n : ℕ) (p u : Pid) (b : Option (List Value)) (box : Boxes) (q r : Pid) (ns : List ℕ) → has n ns ≡ false → map (λ j. with_box n p u b box j q r) ns ≡ map (λ j. box j q r) ns
unboxed n p u b box q r [] h = refl
unboxed n p u b box q r (j ∷ ns) h =
    let f = neither (nat_eq n j) (has n ns) h in
    λ i. (if (f.0 i && same_process p q && same_process u r) then b else box j q r) ∷ unboxed n p u b box q r ns f.1 i

map-append : {A B : Type 0} (f : A → B) (xs : List A) (y : A) → map f (xs ++ y ∷ []) ≡ map f xs ++ f y ∷ []
map-append f [] y = refl
map-append f (x ∷ xs) y = ap (λ l. f x ∷ l) (map-append f xs y)

pub has-append : (j n : ℕ) (ns : List ℕ) → has j (ns ++ n ∷ []) ≡ false → (has j ns ≡ false) × (nat_eq j n ≡ false)
has-append j n [] h = (refl, (neither (nat_eq j n) false h).0)
has-append j n (m ∷ ns) h = let f = neither (nat_eq j m) (has j (ns ++ n ∷ [])) h in let g = has-append j n ns f.1 in (ap (λ b. b || has j ns) f.0 ∙ g.0, g.1)

cons_tail : {A : Type 0} (x y : A) (xs ys : List A) → x ∷ xs ≡ y ∷ ys → xs ≡ ys
cons_tail x y xs ys e = cc

-- what is left behind the oldest payload
abbrev pub later : List Payload → List Payload
later ms = without ms 0

pub exact_key : (a b : Key) → same_key a b ≡ true → a ≡ b
exact_key a b e =
    let h = both_true (same_name a.from b.from && same_name a.to b.to) (same_name a.channel b.channel) e in
    let g = both_true (same_name a.from b.from) (same_name a.to b.to) h.0 in
    λ i. record { from = exact_name a.from b.from g.0 i; to = exact_name a.to b.to g.1 i; channel = exact_name a.channel b.channel h.1 i }

-- what a change at a key that only added has not, was not there
fewer : (pending : Key → List ℕ) (k l : Key) (ns : List ℕ) (j : ℕ) → (has j ns ≡ false → has j (pending k) ≡ false) → has j (changed same_key pending k ns l) ≡ false → has j (pending l) ≡ false
fewer pending k l ns j h =
    elim (same_key k l) as (λ b. same_key k l ≡ b → has j (if b then ns else pending l) ≡ false → has j (pending l) ≡ false) [
      | true ↦ λ e g. ap (λ z. has j (pending z)) (sym (exact_key k l e)) ∙ h g
      | false ↦ λ e g. g
    ] refl

-- what stands at a key that is told to be the same
at_key : {A X : Type 0} (same : A → A → Bool) (g : A → X) (a b : A) (x : X) → same a b ≡ true → changed same g a x b ≡ x
at_key same g a b x e = ap (λ t. if t then x else g b) e

not_equal : {A : Type 0} (n j : ℕ) → nat_eq n j ≡ true → nat_eq j n ≡ false → A
not_equal n j e d = absurd (let s = nat_eq_equiv.symm n j in cc)

not_same : (world : World) (S : Reading) (φ : Focus) (picks : Picks S.mode φ) (t : Name) → is_active (S.mode t) ≡ true → (q : Pid) → live world S.mode φ q ≡ false → same_process (φ t) q ≡ false
not_same world S φ picks t act q d =
    elim (same_process (φ t) q) as (λ b. same_process (φ t) q ≡ b → b ≡ false) [
      | true ↦ λ e. let l = active_live world S.mode φ t picks act in let s = ap (live world S.mode φ) (exact_process (φ t) q e) in cc
      | false ↦ λ e. refl
    ] refl

and_left : (b x y : Bool) → b ≡ false → (b && x && y) ≡ false
and_left b x y e = ap (λ z. z && x && y) e

and_mid : (b x y : Bool) → b ≡ false → (x && b && y) ≡ false
and_mid b true y e = ap (λ z. z && y) e
and_mid b false y e = refl

and_last : (b x y : Bool) → b ≡ false → (x && y && b) ≡ false
and_last b true true e = e
and_last b true false e = refl
and_last b false y e = refl

module _ (world : World) (S : Reading) (κ : Pid → Code) (φ : Focus) (c : Conf) (picks : Picks S.mode φ) (t : Name) (act : is_active (S.mode t) ≡ true) where
  -- the changes of a process's entries
  pub fits_code : Fits world S κ φ c → (k : Code) (q : Pid) → live world S.mode φ q ≡ true → changed same_process c.code (φ t) (code_by φ k then κ (φ t)) q ≡ code_by φ (changed same_name S.code t k q.role) then κ q
  fits_code f k q l =
      updated same_process same_name c.code S.code (φ t) q t q.role (code_by φ k then κ (φ t)) k (sole world S.mode φ t q picks act l) (λ x y. x ≡ code_by φ y then κ q)
      (λ e. ap (λ z. code_by φ k then κ z) (exact_process (φ t) q e)) (λ e. f.code q l)

  pub fits_facts : Fits world S κ φ c → (own : Known) (g : Known) → Agrees own g → (q : Pid) → live world S.mode φ q ≡ true → Agrees (changed same_process c.store (φ t) own q) (changed same_name S.facts t g q.role)
  fits_facts f own g h q l =
      updated same_process same_name c.store S.facts (φ t) q t q.role own g (sole world S.mode φ t q picks act l) Agrees (λ e. h) (λ e. f.facts q l)

  pub untouched : {X : Type 0} (f : Pid → X) (x : X) (q : Pid) → live world S.mode φ q ≡ false → changed same_process f (φ t) x q ≡ f q
  untouched f x q d = changed-other process_laws f (φ t) x q (not_same world S φ picks t act q d)

  pub own_code : Fits world S κ φ c → c.code (φ t) ≡ code_by φ (S.code t) then κ (φ t)
  own_code f = f.code (φ t) (active_live world S.mode φ t picks act) ∙ ap (λ z. code_by φ (S.code z) then κ (φ t)) (picks.role_of t)

  pub own_facts : Fits world S κ φ c → Agrees (c.store (φ t)) (S.facts t)
  own_facts f = subst (λ z. Agrees (c.store (φ t)) (S.facts z)) (picks.role_of t) (f.facts (φ t) (active_live world S.mode φ t picks act))

  module _ (u : Name) (act_u : is_active (S.mode u) ≡ true) (C : Name) where
    keys : (q r : Pid) → live world S.mode φ q ≡ true → live world S.mode φ r ≡ true → (D : Name) → same_queue (queue (φ t) (φ u) C) (queue q r D) ≡ same_key (key t u C) (key q.role r.role D)
    keys q r l m D = λ i. sole world S.mode φ t q picks act l i && sole world S.mode φ u r picks act_u m i && same_name C D

    pub own_mail : Fits world S κ φ c → map (λ n. c.box n (φ t) (φ u)) (S.pending (key t u C)) ≡ map Some (c.mail (queue (φ t) (φ u) C))
    own_mail f =
        (λ i. map (λ n. c.box n (φ t) (φ u)) (S.pending (key (sym (picks.role_of t) i) (sym (picks.role_of u) i) C)))
        ∙ f.mail (φ t) (φ u) (active_live world S.mode φ t picks act) (active_live world S.mode φ u picks act_u) C

    pub still_sent : (ms : List (List Value)) (p q : Pid) → live world S.mode φ p ≡ false → (D : Name) → changed same_queue c.mail (queue (φ t) (φ u) C) ms (queue p q D) ≡ c.mail (queue p q D)
    still_sent ms p q d D = ap (λ b. if b then ms else c.mail (queue p q D)) (and_left _ (same_process (φ u) q) (same_name C D) (not_same world S φ picks t act p d))

    pub still_got : (ms : List (List Value)) (p q : Pid) → live world S.mode φ q ≡ false → (D : Name) → changed same_queue c.mail (queue (φ t) (φ u) C) ms (queue p q D) ≡ c.mail (queue p q D)
    still_got ms p q d D = ap (λ b. if b then ms else c.mail (queue p q D)) (and_mid _ (same_process (φ t) p) (same_name C D) (not_same world S φ picks u act_u q d))

    pub still_box_sent : (n : ℕ) (b : Option (List Value)) (p q : Pid) → live world S.mode φ p ≡ false → (j : ℕ) → with_box n (φ t) (φ u) b c.box j p q ≡ c.box j p q
    still_box_sent n b p q d j = ap (λ z. if z then b else c.box j p q) (and_mid _ (nat_eq n j) (same_process (φ u) q) (not_same world S φ picks t act p d))

    pub still_box_got : (n : ℕ) (b : Option (List Value)) (p q : Pid) → live world S.mode φ q ≡ false → (j : ℕ) → with_box n (φ t) (φ u) b c.box j p q ≡ c.box j p q
    still_box_got n b p q d j = ap (λ z. if z then b else c.box j p q) (and_last _ (nat_eq n j) (same_process (φ t) p) (not_same world S φ picks u act_u q d))

    -- a message is sent and its number pends
    module _ (n : ℕ) (m : List Value) where
      abbrev pub sent_box : Boxes
      sent_box = with_box n (φ t) (φ u) (Some m) c.box

      abbrev pub sent_mail : Mail
      sent_mail = changed same_queue c.mail (queue (φ t) (φ u) C) (c.mail (queue (φ t) (φ u) C) ++ m ∷ [])

      abbrev pub sent_pending : Key → List ℕ
      sent_pending = changed same_key S.pending (key t u C) (S.pending (key t u C) ++ n ∷ [])

      module _ (f : Fits world S κ φ c) (unused : (k : Key) → has n (S.pending k) ≡ false) where
        sent_here : map (λ j. sent_box j (φ t) (φ u)) (S.pending (key t u C) ++ n ∷ []) ≡ map Some (c.mail (queue (φ t) (φ u) C) ++ m ∷ [])
        sent_here =
            map-append (λ j. sent_box j (φ t) (φ u)) (S.pending (key t u C)) n
            ∙ (λ i. (unboxed n (φ t) (φ u) (Some m) c.box (φ t) (φ u) (S.pending (key t u C)) (unused (key t u C)) ∙ own_mail f) i ++ (box_here i) ∷ [])
            ∙ sym (map-append Some (c.mail (queue (φ t) (φ u) C)) m)
          where
            box_here : sent_box n (φ t) (φ u) ≡ Some m
            box_here = (λ i. if (nat_eq_equiv.refl n i && process_laws.refl (φ t) i && process_laws.refl (φ u) i) then Some m else c.box n (φ t) (φ u))

        pub sent_fits : (q r : Pid) → live world S.mode φ q ≡ true → live world S.mode φ r ≡ true → (D : Name) →
            map (λ j. sent_box j q r) (sent_pending (key q.role r.role D)) ≡ map Some (sent_mail (queue q r D))
        sent_fits q r l k D =
            updated same_queue same_key c.mail S.pending (queue (φ t) (φ u) C) (queue q r D) (key t u C) (key q.role r.role D) _ _ (keys q r l k D) (λ ms ns. map (λ j. sent_box j q r) ns ≡ map Some ms)
            (λ e. let s = exact_queue (queue (φ t) (φ u) C) (queue q r D) e in ap (λ (z : Queue). map (λ j. sent_box j z.from z.to) (S.pending (key t u C) ++ n ∷ [])) (sym s) ∙ sent_here)
            (λ e. unboxed n (φ t) (φ u) (Some m) c.box q r (S.pending (key q.role r.role D)) (unused (key q.role r.role D)) ∙ f.mail q r l k D)

        pub sent_empty : (q r : Pid) → live world S.mode φ q ≡ true → live world S.mode φ r ≡ true → (j : ℕ) → ((D : Name) → has j (sent_pending (key q.role r.role D)) ≡ false) → sent_box j q r ≡ None
        sent_empty q r l k j h =
            box_at n (φ t) (φ u) (Some m) c.box j q r (λ o. o ≡ None)
            (λ e.
            let a = both_true (nat_eq n j && same_process (φ t) q) (same_process (φ u) r) e in
            let b = both_true (nat_eq n j) (same_process (φ t) q) a.0 in
            let w : same_key (key t u C) (key q.role r.role C) ≡ true = sym (keys q r l k C) ∙ (λ i. b.1 i && a.1 i && name_laws.refl C i) in
            let g = has-append j n (S.pending (key t u C)) (ap (has j) (sym (at_key same_key S.pending (key t u C) (key q.role r.role C) (S.pending (key t u C) ++ n ∷ []) w)) ∙ h C) in
            not_equal n j b.0 g.1)
            (λ e. f.empty q r l k j (λ D. fewer S.pending (key t u C) (key q.role r.role D) (S.pending (key t u C) ++ n ∷ []) j (λ g. (has-append j n (S.pending (key t u C)) g).0) (h D)))

    -- the oldest message is taken
    module _ (n : ℕ) (ns : List ℕ) where
      abbrev pub taken_box : Boxes
      taken_box = with_box n (φ t) (φ u) None c.box

      abbrev pub taken_mail : Mail
      taken_mail = changed same_queue c.mail (queue (φ t) (φ u) C) (later (c.mail (queue (φ t) (φ u) C)))

      abbrev pub taken_pending : Key → List ℕ
      taken_pending = changed same_key S.pending (key t u C) ns

      module _ (f : Fits world S κ φ c) (once : Unique S.pending) (is : S.pending (key t u C) ≡ n ∷ ns) where
        pub oldest_is : (m : List Value) × (ms : List (List Value)) × (c.mail (queue (φ t) (φ u) C) ≡ m ∷ ms) × (c.box n (φ t) (φ u) ≡ Some m) × (map (λ j. c.box j (φ t) (φ u)) ns ≡ map Some ms)
        oldest_is = parts (c.mail (queue (φ t) (φ u) C)) (ap (map (λ j. c.box j (φ t) (φ u))) (sym is) ∙ own_mail f)
          where
            parts : (l : List (List Value)) → map (λ j. c.box j (φ t) (φ u)) (n ∷ ns) ≡ map Some l → (m : List Value) × (ms : List (List Value)) × (l ≡ m ∷ ms) × (c.box n (φ t) (φ u) ≡ Some m) × (map (λ j. c.box j (φ t) (φ u)) ns ≡ map Some ms)
            parts [] e = cc
            parts (m ∷ ms) e = (m, ms, refl, cc, cc)

        taken_here : map (λ j. taken_box j (φ t) (φ u)) ns ≡ map Some (later (c.mail (queue (φ t) (φ u) C)))
        taken_here = unboxed n (φ t) (φ u) None c.box (φ t) (φ u) ns (unique_head S.pending once (key t u C) n ns is) ∙ oldest_is.4 ∙ sym (ap (λ l. map Some (later l)) oldest_is.2)

        here_has : has n (S.pending (key t u C)) ≡ true
        here_has = ap (has n) is ∙ ap (λ b. b || has n ns) (nat_eq_equiv.refl n)

        pub taken_fits : (q r : Pid) → live world S.mode φ q ≡ true → live world S.mode φ r ≡ true → (D : Name) →
            map (λ j. taken_box j q r) (taken_pending (key q.role r.role D)) ≡ map Some (taken_mail (queue q r D))
        taken_fits q r l k D =
            updated same_queue same_key c.mail S.pending (queue (φ t) (φ u) C) (queue q r D) (key t u C) (key q.role r.role D) _ _ (keys q r l k D) (λ ms ns. map (λ j. taken_box j q r) ns ≡ map Some ms)
            (λ e. let s = exact_queue (queue (φ t) (φ u) C) (queue q r D) e in ap (λ (z : Queue). map (λ j. taken_box j z.from z.to) ns) (sym s) ∙ taken_here)
            (λ e. unboxed n (φ t) (φ u) None c.box q r (S.pending (key q.role r.role D)) (once.apart n (key t u C) (key q.role r.role D) here_has (sym (keys q r l k D) ∙ e)) ∙ f.mail q r l k D)

        pub taken_empty : (q r : Pid) → live world S.mode φ q ≡ true → live world S.mode φ r ≡ true → (j : ℕ) → ((D : Name) → has j (taken_pending (key q.role r.role D)) ≡ false) → taken_box j q r ≡ None
        taken_empty q r l k j h =
            box_at n (φ t) (φ u) None c.box j q r (λ o. o ≡ None) (λ e. refl)
            (λ e. f.empty q r l k j (λ D.
            elim (same_key (key t u C) (key q.role r.role D)) as (λ b. same_key (key t u C) (key q.role r.role D) ≡ b → has j (if b then ns else S.pending (key q.role r.role D)) ≡ false → has j (S.pending (key q.role r.role D)) ≡ false) [
              | true ↦ λ g i.
                  let w = both_true (same_process (φ t) q && same_process (φ u) r) (same_name C D) (keys q r l k D ∙ g) in
                  let v = both_true (same_process (φ t) q) (same_process (φ u) r) w.0 in
                  let x : nat_eq j n ≡ false = nat_eq_equiv.symm j n ∙ third (nat_eq n j) _ _ v.0 v.1 e in
                  ap (λ z. has j (S.pending z)) (sym (exact_key (key t u C) (key q.role r.role D) g)) ∙ ap (has j) is ∙ ap (λ b. b || has j ns) x ∙ i
              | false ↦ λ g i. i
            ] refl (h D)))
