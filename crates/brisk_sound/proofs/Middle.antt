-- In the middle of a loop over a set: some members are served, and one comes next.
use Rattle.std.proofs.Common.{◌≡◌, ℕ, map, Bool, true, false, List, Option, Some, None, refl, sym, ap, ◌∙◌, subst, nat_eq}
use Rattle.std.specs.Prelude.{◌&&◌, ◌||◌, if◌then◌else◌, nat_lt}
use Rattle.std.proofs.lemmas.Bool.{eqb-true, and_right}
use Rattle.brisk_values.specs.declared.value.Pid.{Pid}
use Rattle.brisk_values.specs.declared.value.Value.{Value}
use Rattle.brisk_values.specs.Functions.{changed}
use Rattle.brisk_values.specs.Names.{Name, same_name, same_process, member}
use Rattle.brisk_values.proofs.Changes.{exact_name}
use Rattle.brisk_syntax.specs.Syntax.{Code, done, ◌then◌}
use Rattle.brisk_syntax.specs.Value.{or_false}
use Rattle.brisk_seq.specs.Sequential.{Focus, in_focus}
use Rattle.brisk_async.specs.Machine.{queue}
use Rattle.brisk_state.specs.declared.thread.Mode.{Mode}
use Rattle.brisk_state.specs.declared.thread.Mode.TheVariants as thread_mode
use Rattle.brisk_state.specs.Symbolic.{Key, key}
use Rattle.brisk_sound.proofs.Fits.{World, Conf, live, Fits, Still}
use Rattle.brisk_rules.proofs.Readings.{Reading, is_active, is_each, has, code_by}
use Rattle.brisk_sound.proofs.Free.{Free, code_other}

-- two processes' mail and boxes, by their pending numbers
abbrev pub Carries : Conf → Pid → Pid → (Name → List ℕ) → Type 0
Carries c p q P = ((C : Name) → map (λ n. c.box n p q) (P C) ≡ map Some (c.mail (queue p q C))) × ((n : ℕ) → ((C : Name) → has n (P C) ≡ false) → c.box n p q ≡ None)

pub carried : (world : World) (S : Reading) (κ : Pid → Code) (φ : Focus) (c : Conf) → Fits world S κ φ c → (p q : Pid) → live world S.mode φ p ≡ true → live world S.mode φ q ≡ true → Carries c p q (λ C. S.pending (key p.role q.role C))
carried world S κ φ c f p q l k = (f.mail p q l k, f.empty p q l k)

-- where a process stands in the turn of a member: whether it is denoted, in the set, served before and after
pub data Place (here inset now next : Bool) : Type 0 where
  turn : here ≡ true → inset ≡ true → now ≡ false → next ≡ true → Place here inset now next
  aside : here ≡ false → inset ≡ true → next ≡ now → Place here inset now next
  outside : here ≡ true → inset ≡ false → now ≡ false → next ≡ false → Place here inset now next

abbrev pub Served : Type 0
Served = ℕ → Bool

abbrev pub with_member : ℕ → Served → Served
with_member m sv j = if nat_eq m j then true else sv j

abbrev pub focused : (Name → Option Mode) → Name → Name → Option Mode
focused mode s = changed same_name mode s (Some thread_mode.At)

abbrev pub served : Name → Served → Pid → Bool
served s sv p = same_name s p.role && sv p.member

module _ (world : World) (S : Reading) (s : Name) (φ : Focus) (m : ℕ) where
  live_in : (p : Pid) → live world (focused S.mode s) (in_focus s m φ) p ≡ (if same_name s p.role then same_process (member s m) p else live world S.mode φ p)
  live_in p =
      elim (same_name s p.role) as (λ b. (if is_active (if b then (Some thread_mode.At) else S.mode p.role) then same_process (if b then member s m else φ p.role) p else (is_each (if b then (Some thread_mode.At) else S.mode p.role) && nat_lt p.member (world.given.sizes p.role))) ≡ (if b then same_process (member s m) p else live world S.mode φ p))
      [ true ↦ refl | false ↦ refl ]

  pub place : (sv : Served) → sv m ≡ false → (p : Pid) → live world S.mode φ p ≡ true → Place (live world (focused S.mode s) (in_focus s m φ) p) (same_name s p.role) (served s sv p) (served s (with_member m sv) p)
  place sv fresh p l =
      elim (same_name s p.role) as (λ b. same_name s p.role ≡ b → Place (live world (focused S.mode s) (in_focus s m φ) p) (same_name s p.role) (served s sv p) (served s (with_member m sv) p)) [
        | false ↦ λ e. outside (live_in p ∙ ap (λ b. if b then same_process (member s m) p else live world S.mode φ p) e ∙ l) e (ap (λ b. b && sv p.member) e) (ap (λ b. b && with_member m sv p.member) e)
        | true ↦ λ e.
            let here : live world (focused S.mode s) (in_focus s m φ) p ≡ nat_eq m p.member = live_in p ∙ ap (λ b. if b then (b && nat_eq m p.member) else live world S.mode φ p) e in
            elim (nat_eq m p.member) as (λ b. nat_eq m p.member ≡ b → Place (live world (focused S.mode s) (in_focus s m φ) p) (same_name s p.role) (served s sv p) (served s (with_member m sv) p)) [
              | true ↦ λ g.
                  turn (here ∙ g) e ((λ i. e i && sv (sym (eqb-true m p.member g) i)) ∙ fresh) (λ i. e i && (if g i then true else sv p.member))
              | false ↦ λ g. aside (here ∙ g) e (ap (λ b. same_name s p.role && (if b then true else sv p.member)) g)
            ] refl
      ] refl

-- codes F for all but the served, who stand at the end of E's member in focus
pub record Mid (world : World) (S : Reading) (s : Name) (φ : Focus) (E : Reading) (sv : Served) (F : Name → Code) (κ : Pid → Code) (c : Conf) : Type 0 where
  pub code : (p : Pid) → live world S.mode φ p ≡ true → c.code p ≡ code_by φ (if served s sv p then E.code s else F p.role) then κ p
  pub carries : (p q : Pid) → live world S.mode φ p ≡ true → live world S.mode φ q ≡ true → Carries c p q (λ C. if (served s sv p || served s sv q) then E.pending (key p.role q.role C) else S.pending (key p.role q.role C))
  pub facts : (p : Pid) → live world S.mode φ p ≡ true → (x : Name) (v : Value) → (if served s sv p then E.facts s else S.facts p.role) x ≡ Some v → or_false (c.store p x) ≡ v
  pub sets : (p : Pid) → live world S.mode φ p ≡ true → is_each (S.mode p.role) ≡ true → κ p ≡ done

-- what the close tests, facts of the owners' codes aside
pub record Closes (S : Reading) (s : Name) (E : Reading) : Type 0 where
  pub mode : E.mode ≡ focused S.mode s
  pub mail : (k : Key) → same_name s k.from ≡ false → same_name s k.to ≡ false → E.pending k ≡ S.pending k
  pub inner : (C : Name) → E.pending (key s s C) ≡ S.pending (key s s C)
  pub facts : (u x : Name) (v : Value) → same_name s u ≡ false → S.facts u x ≡ Some v → E.facts u x ≡ Some v
  pub free : Free s (E.code s)

abbrev pub in_turn : Reading → Name → (Name → Code) → Reading
in_turn S s F = record S { mode = focused S.mode s; code = F }

either : {X : Type 0} (a b : Bool) (x y : X) → x ≡ y → (if a then x else y) ≡ (if b then x else y)
either true true x y e = refl
either true false x y e = e
either false true x y e = sym e
either false false x y e = refl

pub moved : (c d : Conf) (p q : Pid) (P : Name → List ℕ) → ((C : Name) → d.mail (queue p q C) ≡ c.mail (queue p q C)) → ((n : ℕ) → d.box n p q ≡ c.box n p q) → Carries c p q P → Carries d p q P
moved c d p q P m b h = (λ C. (λ i. map (λ n. b n i) (P C)) ∙ h.0 C ∙ sym (ap (map Some) (m C)), λ n g. b n ∙ h.1 n g)

module _ (world : World) (S : Reading) (s : Name) (φ : Focus) (E : Reading) (m : ℕ) (set : S.mode s ≡ (Some thread_mode.Each)) (inside : nat_lt m (world.given.sizes s) ≡ true) (sv : Served) (fresh : sv m ≡ false) where
  abbrev here : Pid → Bool
  here p = live world (focused S.mode s) (in_focus s m φ) p

  pub live_back : (p : Pid) → here p ≡ true → live world S.mode φ p ≡ true
  live_back p l =
      elim (same_name s p.role) as (λ b. same_name s p.role ≡ b → live world S.mode φ p ≡ true) [
        | true ↦ λ e.
            let r = exact_name s p.role e in
            let k : nat_eq m p.member ≡ true = ap (λ b. if b then (b && nat_eq m p.member) else live world S.mode φ p) (sym e) ∙ sym (live_in world S s φ m p) ∙ l in
            (λ i. if is_active (S.mode (sym r i)) then same_process (φ p.role) p else (is_each (S.mode (sym r i)) && nat_lt (sym (eqb-true m p.member k) i) (world.given.sizes (sym r i))))
            ∙ (λ i. if is_active (set i) then same_process (φ p.role) p else (is_each (set i) && inside i))
        | false ↦ λ e. sym (ap (λ b. if b then same_process (member s m) p else live world S.mode φ p) e) ∙ sym (live_in world S s φ m p) ∙ l
      ] refl

  not_served : (p : Pid) → here p ≡ true → served s sv p ≡ false
  not_served p l = elim (place world S s φ m sv fresh p (live_back p l)) [ turn h i n x ↦ n | aside h i x ↦ (let e = sym l ∙ h in cc) | outside h i n x ↦ n ]

  module _ (F : Name → Code) (κ : Pid → Code) (c : Conf) (mid : Mid world S s φ E sv F κ c) where
    -- as the premise begins
    pub enters : ((u : Name) → Free s (F u)) → Fits world (in_turn S s F) κ (in_focus s m φ) c
    enters free = record {
      code = λ p l. mid.code p (live_back p l) ∙ ap (λ b. code_by φ (if b then E.code s else F p.role) then κ p) (not_served p l) ∙ ap (λ z. z then κ p) (sym (code_other s m φ (F p.role) (free p.role)));
      mail = λ p q l k. (carry p q l k).0;
      empty = λ p q l k. (carry p q l k).1;
      facts = λ p l x v e. mid.facts p (live_back p l) x v (ap (λ b. (if b then E.facts s else S.facts p.role) x) (not_served p l) ∙ e);
      sets = λ p l e. mid.sets p (live_back p l) (elim (same_name s p.role) as (λ b. is_each (if b then (Some thread_mode.At) else S.mode p.role) ≡ true → is_each (S.mode p.role) ≡ true) [ true ↦ λ g. cc | false ↦ λ g. g ] e);
    }
      where
        carry : (p q : Pid) → here p ≡ true → here q ≡ true → Carries c p q (λ C. S.pending (key p.role q.role C))
        carry p q l k =
            subst (λ (P : Name → List ℕ). Carries c p q P) (λ i C. if (not_served p l i || not_served q k i) then E.pending (key p.role q.role C) else S.pending (key p.role q.role C))
            (mid.carries p q (live_back p l) (live_back q k))

    -- and as it ends
    pub ends : Closes S s E → (F' : Name → Code) (κ' : Pid → Code) (d : Conf) → F' s ≡ F s → ((p : Pid) → same_name s p.role ≡ true → κ' p ≡ κ p) →
        ((p : Pid) → live world S.mode φ p ≡ true → same_name s p.role ≡ false → code_by (in_focus s m φ) (E.code p.role) then κ' p ≡ code_by φ (F' p.role) then κ p) →
        Fits world E κ' (in_focus s m φ) d → Still world (focused S.mode s) (in_focus s m φ) c d → Mid world S s φ E (with_member m sv) F' κ d
    ends w F' κ' d same_here same_behind others fit still = record { code = codes; carries = carry; facts = known; sets = mid.sets }
      where
        sv' : Served
        sv' = with_member m sv

        where_is : (p : Pid) → live world S.mode φ p ≡ true → Place (here p) (same_name s p.role) (served s sv p) (served s sv' p)
        where_is = place world S s φ m sv fresh

        f : Fits world (record E { mode = focused S.mode s }) κ' (in_focus s m φ) d
        f = subst (λ (z : Name → Option Mode). Fits world (record E { mode = z }) κ' (in_focus s m φ) d) w.mode fit

        codes : (p : Pid) → live world S.mode φ p ≡ true → d.code p ≡ code_by φ (if served s sv' p then E.code s else F' p.role) then κ p
        codes p l =
            elim (where_is p l) [
              | turn h i n x ↦
                  f.code p h ∙ (λ j. code_by (in_focus s m φ) (E.code (sym (exact_name s p.role i) j)) then same_behind p i j)
                  ∙ ap (λ z. z then κ p) (code_other s m φ (E.code s) w.free) ∙ ap (λ b. code_by φ (if b then E.code s else F' p.role) then κ p) (sym x)
              | aside h i x ↦
                  still.code p h ∙ mid.code p l
                  ∙ (λ j. code_by φ (if sym x j then E.code s else (ap F (sym (exact_name s p.role i)) ∙ sym same_here ∙ ap F' (exact_name s p.role i)) j) then κ p)
              | outside h i n x ↦ f.code p h ∙ others p l i ∙ ap (λ b. code_by φ (if b then E.code s else F' p.role) then κ p) (sym x)
            ]

        pend : Served → Pid → Pid → Name → List ℕ
        pend v p q C = if (served s v p || served s v q) then E.pending (key p.role q.role C) else S.pending (key p.role q.role C)

        ends_at : (p q : Pid) → here p ≡ true → here q ≡ true → ((C : Name) → pend sv' p q C ≡ E.pending (key p.role q.role C)) → Carries d p q (pend sv' p q)
        ends_at p q h h' e = subst (λ (P : Name → List ℕ). Carries d p q P) (λ i C. sym (e C) i) (f.mail p q h h', f.empty p q h h')

        kept : (p q : Pid) → live world S.mode φ p ≡ true → live world S.mode φ q ≡ true → ((C : Name) → pend sv' p q C ≡ pend sv p q C) → ((C : Name) → d.mail (queue p q C) ≡ c.mail (queue p q C)) → ((n : ℕ) → d.box n p q ≡ c.box n p q) → Carries d p q (pend sv' p q)
        kept p q l k e ms bs = subst (λ (P : Name → List ℕ). Carries d p q P) (λ i C. sym (e C) i) (moved c d p q (pend sv p q) ms bs (mid.carries p q l k))

        inner_is : (p q : Pid) → same_name s p.role ≡ true → same_name s q.role ≡ true → (C : Name) (a b : Bool) → (if a then E.pending (key p.role q.role C) else S.pending (key p.role q.role C)) ≡ (if b then E.pending (key p.role q.role C) else S.pending (key p.role q.role C))
        inner_is p q i i' C a b =
            let r = exact_name s p.role i in let r' = exact_name s q.role i' in
            either a b _ _ ((λ j. E.pending (key (sym r j) (sym r' j) C)) ∙ w.inner C ∙ (λ j. S.pending (key (r j) (r' j) C)))

        carry : (p q : Pid) → live world S.mode φ p ≡ true → live world S.mode φ q ≡ true → Carries d p q (λ C. if (served s sv' p || served s sv' q) then E.pending (key p.role q.role C) else S.pending (key p.role q.role C))
        carry p q l k =
            elim (where_is p l) [
              | turn h i n x ↦
                  elim (where_is q k) [
                    | turn h' i' n' x' ↦ ends_at p q h h' (λ C. ap (λ b. if (b || served s sv' q) then E.pending (key p.role q.role C) else S.pending (key p.role q.role C)) x)
                    | aside h' i' x' ↦ kept p q l k (λ C. inner_is p q i i' C _ _) (λ C. still.got p q h' C) (λ j. still.box_got p q h' j)
                    | outside h' i' n' x' ↦ ends_at p q h h' (λ C. ap (λ b. if (b || served s sv' q) then E.pending (key p.role q.role C) else S.pending (key p.role q.role C)) x)
                  ]
              | aside h i x ↦
                  elim (where_is q k) [
                    | turn h' i' n' x' ↦ kept p q l k (λ C. inner_is p q i i' C _ _) (λ C. still.sent p q h C) (λ j. still.box_sent p q h j)
                    | aside h' i' x' ↦ kept p q l k (λ C j. if (x j || x' j) then E.pending (key p.role q.role C) else S.pending (key p.role q.role C)) (λ C. still.sent p q h C) (λ j. still.box_sent p q h j)
                    | outside h' i' n' x' ↦ kept p q l k (λ C j. if (x j || (x' ∙ sym n') j) then E.pending (key p.role q.role C) else S.pending (key p.role q.role C)) (λ C. still.sent p q h C) (λ j. still.box_sent p q h j)
                  ]
              | outside h i n x ↦
                  elim (where_is q k) [
                    | turn h' i' n' x' ↦ ends_at p q h h' (λ C j. if (x j || x' j) then E.pending (key p.role q.role C) else S.pending (key p.role q.role C))
                    | aside h' i' x' ↦ kept p q l k (λ C j. if ((x ∙ sym n) j || x' j) then E.pending (key p.role q.role C) else S.pending (key p.role q.role C)) (λ C. still.got p q h' C) (λ j. still.box_got p q h' j)
                    | outside h' i' n' x' ↦ ends_at p q h h' (λ C. (λ j. if (x j || x' j) then E.pending (key p.role q.role C) else S.pending (key p.role q.role C)) ∙ sym (w.mail (key p.role q.role C) i i'))
                  ]
            ]

        known : (p : Pid) → live world S.mode φ p ≡ true → (x : Name) (v : Value) → (if served s sv' p then E.facts s else S.facts p.role) x ≡ Some v → or_false (d.store p x) ≡ v
        known p l x v e =
            elim (where_is p l) [
              | turn h i n y ↦ f.facts p h x v (ap (λ z. E.facts z x) (sym (exact_name s p.role i)) ∙ ap (λ b. (if b then E.facts s else S.facts p.role) x) (sym y) ∙ e)
              | aside h i y ↦ ap (λ z. or_false (z x)) (still.store p h) ∙ mid.facts p l x v (ap (λ b. (if b then E.facts s else S.facts p.role) x) (sym y) ∙ e)
              | outside h i n y ↦ f.facts p h x v (w.facts p.role x v i (ap (λ b. (if b then E.facts s else S.facts p.role) x) (sym y) ∙ e))
            ]

-- the set at the end of its member
abbrev pub set_at : Reading → Name → Reading → (Name → Code) → Reading
set_at S s E F = record {
  mode = S.mode;
  code = λ u. if same_name s u then E.code s else F u;
  pending = E.pending;
  facts = λ u. if same_name s u then E.facts s else S.facts u;
}

module _ (world : World) (S : Reading) (s : Name) (φ : Focus) (E : Reading) (set : S.mode s ≡ (Some thread_mode.Each)) (sv : Served) (F : Name → Code) (κ : Pid → Code) (c : Conf) where
  -- none is served at first
  pub none_served : ((j : ℕ) → sv j ≡ false) → S.code ≡ F → Fits world S κ φ c → Mid world S s φ E sv F κ c
  none_served nobody same f = record {
    code = λ p l. f.code p l ∙ (λ i. code_by φ (if sym (none p) i then E.code s else same i p.role) then κ p);
    carries = λ p q l k. subst (λ (P : Name → List ℕ). Carries c p q P) (λ i C. if (sym (none p) i || sym (none q) i) then E.pending (key p.role q.role C) else S.pending (key p.role q.role C)) (carried world S κ φ c f p q l k);
    facts = λ p l x v e. f.facts p l x v (ap (λ b. (if b then E.facts s else S.facts p.role) x) (sym (none p)) ∙ e);
    sets = f.sets;
  }
    where
      none : (p : Pid) → served s sv p ≡ false
      none p = and_right (same_name s p.role) (sv p.member) (nobody p.member)

  -- all are served at last
  pub all_served : ((j : ℕ) → nat_lt j (world.given.sizes s) ≡ true → sv j ≡ true) → Closes S s E → Mid world S s φ E sv F κ c → Fits world (set_at S s E F) κ φ c
  all_served all w mid = record {
    code = λ p l. mid.code p l ∙ (λ i. code_by φ (if all_of p l i then E.code s else F p.role) then κ p);
    mail = λ p q l k. (carry p q l k).0;
    empty = λ p q l k. (carry p q l k).1;
    facts = λ p l x v e. mid.facts p l x v (ap (λ b. (if b then E.facts s else S.facts p.role) x) (all_of p l) ∙ e);
    sets = mid.sets;
  }
    where
      each_inside : (p : Pid) → S.mode p.role ≡ (Some thread_mode.Each) → live world S.mode φ p ≡ true → nat_lt p.member (world.given.sizes p.role) ≡ true
      each_inside p e l = ap (λ m. if is_active m then same_process (φ p.role) p else (is_each m && nat_lt p.member (world.given.sizes p.role))) (sym e) ∙ l

      all_of : (p : Pid) → live world S.mode φ p ≡ true → served s sv p ≡ same_name s p.role
      all_of p l =
          elim (same_name s p.role) as (λ b. same_name s p.role ≡ b → (b && sv p.member) ≡ b) [
            | true ↦ λ e. all p.member ((λ i. nat_lt p.member (world.given.sizes (exact_name s p.role e i))) ∙ each_inside p (subst (λ (z : Name). S.mode z ≡ (Some thread_mode.Each)) (exact_name s p.role e) set) l)
            | false ↦ λ e. refl
          ] refl

      same_pending : (k : Key) → (if (same_name s k.from || same_name s k.to) then E.pending k else S.pending k) ≡ E.pending k
      same_pending k =
          elim (same_name s k.from) as (λ b. same_name s k.from ≡ b → (if (b || same_name s k.to) then E.pending k else S.pending k) ≡ E.pending k) [
            | true ↦ λ e. refl
            | false ↦ λ e.
                elim (same_name s k.to) as (λ b. same_name s k.to ≡ b → (if b then E.pending k else S.pending k) ≡ E.pending k) [
                  | true ↦ λ g. refl
                  | false ↦ λ g. sym (w.mail k e g)
                ] refl
          ] refl

      carry : (p q : Pid) → live world S.mode φ p ≡ true → live world S.mode φ q ≡ true → Carries c p q (λ C. E.pending (key p.role q.role C))
      carry p q l k =
          subst (λ (P : Name → List ℕ). Carries c p q P)
          (λ i C. ((λ i. if (all_of p l i || all_of q k i) then E.pending (key p.role q.role C) else S.pending (key p.role q.role C)) ∙ same_pending (key p.role q.role C)) i)
          (mid.carries p q l k)
