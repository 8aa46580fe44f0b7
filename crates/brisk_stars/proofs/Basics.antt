-- Each basic rule keeps to what serving comes.
use Rattle.std.proofs.Common.{◌≡◌, ℕ, true, false, List, [], ◌∷◌, ◌++◌, Option, Some, None, refl, sym, ap, ◌∙◌, subst}
use Rattle.std.specs.Prelude.{◌&&◌, not, if◌then◌else◌, nat_le, Ok}
use Rattle.brisk_values.specs.declared.value.Value.{Value}
use Rattle.brisk_values.specs.Functions.{changed}
use Rattle.brisk_values.specs.Names.{Name, same_name, single}
use Rattle.brisk_values.proofs.Changes.{both_true, exact_name, name_laws, apart_symm, changed_again, changed-same, changed_cases, both_hold}
use Rattle.brisk_syntax.specs.declared.tree.Who.{Who}
use Rattle.brisk_syntax.specs.declared.tree.Who.TheVariants as who
use Rattle.brisk_syntax.specs.Classes.{every, is_local, all_local, is_named, talks_to}
use Rattle.brisk_syntax.specs.Stores.{is_true}
use Rattle.brisk_syntax.specs.Syntax.{Expression, Statement, Assign, Send, Recv, If, IfElse, While, Code, done, ◌⨾◌, ◌then◌}
use Rattle.brisk_syntax.specs.Typing.{are_distinct}
use Rattle.brisk_syntax.specs.WellTyped.{all_unbegun, is_unbegun}
use Rattle.brisk_async.specs.Machine.{partner}
use Rattle.brisk_facts.specs.Facts.{without_facts}
use Rattle.brisk_facts.specs.Learning.{folded}
use Rattle.brisk_state.specs.declared.thread.Mode.{Mode}
use Rattle.brisk_state.specs.declared.thread.Mode.TheVariants.{One, At, Each}
use Rattle.brisk_state.specs.declared.thread.Thread.{Thread}
use Rattle.brisk_state.specs.Symbolic.{Symbolic, Key, key, same_key, with_code, active_code, code_at, numbers_at, with_numbers, is_in_use, stands_for, is_partner, partner_of, partner_by, thread_named}
use Rattle.brisk_basic.specs.declared.rule.Basic.TheVariants as rule
use Rattle.brisk_basic.specs.declared.rule.RuleFault.TheVariants.{BoxInUse}
use Rattle.brisk_basic.specs.Basic.{Applied, at_thread, sends, receives, assign, fill, pass, take, decided, known}
use Rattle.brisk_sound.proofs.Applied.{at_code}
use Rattle.brisk_rules.proofs.Fulfilled.{same_ok, when_ok}
use Rattle.brisk_sound.proofs.Lookups.{numbers_with}
use Rattle.brisk_rules.proofs.Threads.{names, modes, codes, names_with_code, modes_with_code, codes_with_code, moved}
use Rattle.brisk_straight.proofs.States.{other_after}
use Rattle.brisk_stars.specs.Serving.{messages, tells, hears}
use Rattle.brisk_stars.specs.Threads.{at_in, served_by, served_at, IsStarThreads, BasicRulesKeepServing}
use Rattle.brisk_stars.specs.Words.{words, is_other, runs_as_centre}
use Rattle.brisk_stars.proofs.Keeping.{messages_then, every_then}
use Rattle.brisk_stars.proofs.Running.{local_then, local_then_runs}
use Rattle.brisk_stars.proofs.Threaded.{centre_alone, centre_fills, centre_takes, member_alone, member_fills, member_takes}
use Rattle.std.proofs.lemmas.Bool.{not-true}

exact_key : (k l : Key) → same_key k l ≡ true → k ≡ l
exact_key k l h =
    let a = both_true (same_name k.from l.from && same_name k.to l.to) (same_name k.channel l.channel) h in
    let b = both_true (same_name k.from l.from) (same_name k.to l.to) a.0 in
    let f = exact_name k.from l.from b.0 in let t = exact_name k.to l.to b.1 in let c = exact_name k.channel l.channel a.1 in
    λ i. record { from = f i; to = t i; channel = c i }

-- a message that is put where none waits, and taken
put_and_taken : (pending : Key → List ℕ) (k : Key) (ns : List ℕ) → pending k ≡ [] → changed same_key (changed same_key pending k ns) k [] ≡ pending
put_and_taken pending k ns none =
    changed_again same_key pending k ns []
    ∙ (λ i l. elim (same_key k l) as (λ b. same_key k l ≡ b → (if b then [] else pending l) ≡ pending l) [
      | true ↦ λ same. sym (ap pending (sym (exact_key k l same)) ∙ none)
      | false ↦ λ other. refl
    ] refl i)

-- the thread of a name has this name
pub named : (ts : List Thread) (t : Name) (u : Thread) → thread_named ts t ≡ Some u → t ≡ u.name
named [] t u e = cc
named (v ∷ vs) t u e =
    elim (same_name t v.name) as (λ b. same_name t v.name ≡ b → (if b then Some v else thread_named vs t) ≡ Some u → t ≡ u.name) [
      | true ↦ λ same g. exact_name t v.name same ∙ (let f : v ≡ u = cc in ap (λ (z : Thread). z.name) f)
      | false ↦ λ other g. named vs t u g
    ] refl e

-- the partner of a statement is the thread that it names
names_it : (S : Symbolic) (u n : Name) → stands_for S u (who.Name n) ≡ true → u ≡ n
names_it S u n h = by (thread_named S.threads u) refl h
  where
    one : (m : Mode) (v : Name) → is_partner (partner_by m v) (who.Name n) ≡ true → v ≡ n
    one One v g = exact_name v n g
    one At v g = cc
    one Each v g = cc

    by : (o : Option Thread) → thread_named S.threads u ≡ o → is_partner (partner_of o) (who.Name n) ≡ true → u ≡ n
    by None e g = cc
    by (Some v) e g = named S.threads u v e ∙ one v.mode v.name g

pub focuses_it : (S : Symbolic) (u s : Name) → stands_for S u (who.At s) ≡ true → u ≡ s
focuses_it S u s h = by (thread_named S.threads u) refl h
  where
    one : (m : Mode) (v : Name) → is_partner (partner_by m v) (who.At s) ≡ true → v ≡ s
    one One v g = cc
    one At v g = exact_name v s g
    one Each v g = cc

    by : (o : Option Thread) → thread_named S.threads u ≡ o → is_partner (partner_of o) (who.At s) ≡ true → u ≡ s
    by None e g = cc
    by (Some v) e g = named S.threads u v e ∙ one v.mode v.name g

no_process : (S : Symbolic) (u : Name) (p : _) → stands_for S u (who.Pid p) ≡ true → ⊥
no_process S u p h = by (partner_of (thread_named S.threads u)) h
  where
    by : (o : Option Who) → is_partner o (who.Pid p) ≡ true → ⊥
    by None g = cc
    by (Some (who.Name n)) g = cc
    by (Some (who.At s)) g = cc
    by (Some (who.Pid q)) g = cc

-- code at a send to u on c, and at a receive from t
pub record AtSend (S : Symbolic) (u c : Name) (code : Code) (p : List Expression × Code) : Type 0 where
  pub es : List Expression
  pub to : Who
  pub is : code ≡ Send c es to ⨾ p.1
  pub stands : stands_for S u to ≡ true

pub at_send : (S : Symbolic) (u c : Name) (code : Code) (p : List Expression × Code) → sends S u c code ≡ Some p → AtSend S u c code p
at_send S u c (Send d es w ⨾ rest) p e =
    elim (same_name c d && stands_for S u w) as (λ b. same_name c d && stands_for S u w ≡ b → (if b then Some (es, rest) else None) ≡ Some p → AtSend S u c (Send d es w ⨾ rest) p) [
      | true ↦ λ h g.
          let k = both_true (same_name c d) (stands_for S u w) h in
          record { es = es; to = w; is = (let q : ◌≡◌ {A = List Expression × Code} (es, rest) p = cc in let n = exact_name c d k.0 in λ i. Send (sym n i) es w ⨾ (q i).1); stands = k.1 }
      | false ↦ λ h g. cc
    ] refl e
at_send S u c code p e = cc

pub record AtReceive (S : Symbolic) (t c : Name) (code : Code) (p : List Name × Code) : Type 0 where
  pub xs : List Name
  pub from : Who
  pub is : code ≡ Recv c xs from ⨾ p.1
  pub stands : stands_for S t from ≡ true

pub at_receive : (S : Symbolic) (t c : Name) (code : Code) (p : List Name × Code) → receives S t c code ≡ Some p → AtReceive S t c code p
at_receive S t c (Recv d xs w ⨾ rest) p e =
    elim (same_name c d && stands_for S t w) as (λ b. same_name c d && stands_for S t w ≡ b → (if b then Some (xs, rest) else None) ≡ Some p → AtReceive S t c (Recv d xs w ⨾ rest) p) [
      | true ↦ λ h g.
          let k = both_true (same_name c d) (stands_for S t w) h in
          record { xs = xs; from = w; is = (let q : ◌≡◌ {A = List Name × Code} (xs, rest) p = cc in let n = exact_name c d k.0 in λ i. Recv (sym n i) xs w ⨾ (q i).1); stands = k.1 }
      | false ↦ λ h g. cc
    ] refl e
at_receive S t c code p e = cc

mutual
  pub unbegun_one : (s : Statement) → is_local s ≡ true → is_unbegun s ≡ true
  unbegun_one (Assign x e) l = refl
  unbegun_one (If e a) l = unbegun_all a l
  unbegun_one (IfElse e a b) l = let k = both_true (all_local a) (all_local b) l in both_hold (all_unbegun a) (all_unbegun b) (unbegun_all a k.0) (unbegun_all b k.1)
  unbegun_one s l = cc

  unbegun_all : (a : Code) → all_local a ≡ true → all_unbegun a ≡ true
  unbegun_all done l = refl
  unbegun_all (s ⨾ a) l = let k = both_true (is_local s) (all_local a) l in both_hold (is_unbegun s) (all_unbegun a) (unbegun_one s k.0) (unbegun_all a k.1)

pub unbegun_then : (a rest : Code) → all_local a ≡ true → all_unbegun rest ≡ true → all_unbegun (a then rest) ≡ true
unbegun_then done rest l h = h
unbegun_then (s ⨾ a) rest l h = let k = both_true (is_local s) (all_local a) l in both_hold (is_unbegun s) (all_unbegun (a then rest)) (unbegun_one s k.0) (unbegun_then a rest k.1 h)

module _ (sizes : Name → ℕ) (M : Name) (S : Symbolic) (st : IsStarThreads sizes M S) where
  abbrev Keeps : Symbolic → Type 0
  Keeps E = IsStarThreads sizes M E × (served_at sizes M E ≡ served_at sizes M S)

  -- where the centre alone has gone on
  pub star_with_centre : (E : Symbolic) (k : Code) → at_in E ≡ changed same_name (at_in S) M k → modes E.threads ≡ modes S.threads → names E.threads ≡ names S.threads →
      runs_as_centre sizes M k ≡ true → all_unbegun k ≡ true → IsStarThreads sizes M E
  star_with_centre E k code mode name runs fresh = record {
    apart = ap are_distinct name ∙ st.apart;
    centre = ap (λ (f : Name → Code). runs_as_centre sizes M (f M)) code ∙ ap (runs_as_centre sizes M) (changed-same name_laws (at_in S) M k) ∙ runs;
    unbegun = ap (λ (f : Name → Code). all_unbegun (f M)) code ∙ ap all_unbegun (changed-same name_laws (at_in S) M k) ∙ fresh;
    one = ap (λ (f : Name → Option Mode). f M) mode ∙ st.one;
    talk = λ s other. ap (λ (f : Name → Code). every (talks_to (is_named M)) (f s)) code ∙ ap (λ b. every (talks_to (is_named M)) (if b then k else at_in S s)) other ∙ st.talk s other;
    several = λ s other e. st.several s other (sym (ap (λ (f : Name → Option Mode). f s) mode) ∙ e);
    size = st.size;
    there = λ s h. let t = st.there s h in (t.0, ap (λ (f : Name → Option Mode). f s) mode ∙ t.1);
  }

  -- where a member alone has
  star_with_member : (E : Symbolic) (u : Name) (k : Code) → same_name M u ≡ false → at_in E ≡ changed same_name (at_in S) u k → modes E.threads ≡ modes S.threads → names E.threads ≡ names S.threads →
      every (talks_to (is_named M)) k ≡ true → IsStarThreads sizes M E
  star_with_member E u k apart code mode name talk = record {
    apart = ap are_distinct name ∙ st.apart;
    centre = ap (λ (f : Name → Code). runs_as_centre sizes M (f M)) code ∙ ap (λ b. runs_as_centre sizes M (if b then k else at_in S M)) (apart_symm name_laws M u apart) ∙ st.centre;
    unbegun = ap (λ (f : Name → Code). all_unbegun (f M)) code ∙ ap (λ b. all_unbegun (if b then k else at_in S M)) (apart_symm name_laws M u apart) ∙ st.unbegun;
    one = ap (λ (f : Name → Option Mode). f M) mode ∙ st.one;
    talk = λ s other. ap (λ (f : Name → Code). every (talks_to (is_named M)) (f s)) code ∙ changed_cases same_name (at_in S) u k s (λ c. every (talks_to (is_named M)) c ≡ true) (λ same. talk) (λ other'. st.talk s other);
    several = λ s other e. st.several s other (sym (ap (λ (f : Name → Option Mode). f s) mode) ∙ e);
    size = st.size;
    there = λ s h. let t = st.there s h in (t.0, ap (λ (f : Name → Option Mode). f s) mode ∙ t.1);
  }

  -- where a thread stands that rules move
  stands : (t : Name) (c : Code) → code_at S t ≡ Some c → at_in S t ≡ c
  stands t c e = (moved S.threads t c e).stands

  codes_after : (t : Name) (c k : Code) → code_at S t ≡ Some c → codes (with_code t k S.threads) ≡ changed same_name (at_in S) t k
  codes_after t c k e = let m = moved S.threads t c e in codes_with_code t k S.threads m.mode m.there

  centre_is : (c : Code) → code_at S M ≡ Some c → runs_as_centre sizes M c ≡ true
  centre_is c e = ap (runs_as_centre sizes M) (sym (stands M c e)) ∙ st.centre

  fresh_is : (c : Code) → code_at S M ≡ Some c → all_unbegun c ≡ true
  fresh_is c e = ap all_unbegun (sym (stands M c e)) ∙ st.unbegun

  member_is : (u : Name) (c : Code) → same_name M u ≡ false → code_at S u ≡ Some c → every (talks_to (is_named M)) c ≡ true
  member_is u c other e = ap (every (talks_to (is_named M))) (sym (stands u c e)) ∙ st.talk u other

  -- one thread goes to other code that says the same
  centre_goes : (E : Symbolic) (c k : Code) → code_at S M ≡ Some c → E.threads ≡ with_code M k S.threads → E.pending ≡ S.pending → words sizes k ≡ words sizes c →
      runs_as_centre sizes M k ≡ true → all_unbegun k ≡ true → Keeps E
  centre_goes E c k here threads pending says runs fresh =
      let code = ap codes threads ∙ codes_after M c k here in (
        star_with_centre E k code (ap modes threads ∙ modes_with_code M k S.threads) (ap names threads ∙ names_with_code M k S.threads) runs fresh,
        (λ i. served_by sizes M (code i) (numbers_at (pending i))) ∙ centre_alone sizes M (at_in S) (numbers_at S.pending) k (says ∙ ap (words sizes) (sym (stands M c here))),
      )

  member_goes : (E : Symbolic) (u : Name) (c k : Code) → same_name M u ≡ false → code_at S u ≡ Some c → E.threads ≡ with_code u k S.threads → E.pending ≡ S.pending → messages k ≡ messages c →
      every (talks_to (is_named M)) k ≡ true → Keeps E
  member_goes E u c k other here threads pending says talk =
      let code = ap codes threads ∙ codes_after u c k here in (
        star_with_member E u k other code (ap modes threads ∙ modes_with_code u k S.threads) (ap names threads ∙ names_with_code u k S.threads) talk,
        (λ i. served_by sizes M (code i) (numbers_at (pending i))) ∙ member_alone sizes M (at_in S) (numbers_at S.pending) u other k (says ∙ ap messages (sym (stands u c here))),
      )

  -- so it is for a thread that goes from local code to its rest, and from a choice to a side
  pub to_code : (E : Symbolic) (t : Name) (c k : Code) → code_at S t ≡ Some c → E.threads ≡ with_code t k S.threads → E.pending ≡ S.pending → words sizes k ≡ words sizes c → messages k ≡ messages c →
      (runs_as_centre sizes M c ≡ true → runs_as_centre sizes M k ≡ true) → (all_unbegun c ≡ true → all_unbegun k ≡ true) → (every (talks_to (is_named M)) c ≡ true → every (talks_to (is_named M)) k ≡ true) → Keeps E
  to_code E t c k here threads pending says says' runs fresh talk =
      elim (same_name M t) as (λ b. same_name M t ≡ b → Keeps E) [
        | true ↦ λ same.
            let is = exact_name M t same in
            let at : code_at S M ≡ Some c = ap (code_at S) is ∙ here in
            centre_goes E c k at (threads ∙ ap (λ n. with_code n k S.threads) (sym is)) pending says (runs (centre_is c at)) (fresh (fresh_is c at))
        | false ↦ λ other. member_goes E t c k other here threads pending says' (talk (member_is t c other here))
      ] refl

  pub assign_keeps : (t : Name) (c : Code) (r : Applied) → code_at S t ≡ Some c → assign S t c ≡ Ok r → Keeps r.next
  assign_keeps t (Assign x e ⨾ rest) r here g = subst (λ (z : Applied). Keeps z.next) (same_ok _ r g) (to_code _ t (Assign x e ⨾ rest) rest here refl refl refl refl (λ h. h) (λ h. h) (λ h. h))
  assign_keeps t c r here g = cc

  side_keeps : (t : Name) (c so otherwise : Code) (o : Option Value) (r : Applied) → code_at S t ≡ Some c → decided S t o so otherwise ≡ Ok r → ((k : Code) (E : Symbolic) → (k ≡ so) → E.threads ≡ with_code t k S.threads → E.pending ≡ S.pending → Keeps E) →
      ((k : Code) (E : Symbolic) → (k ≡ otherwise) → E.threads ≡ with_code t k S.threads → E.pending ≡ S.pending → Keeps E) → Keeps r.next
  side_keeps t c so otherwise None r here g one two = cc
  side_keeps t c so otherwise (Some v) r here g one two =
      subst (λ (z : Applied). Keeps z.next) (same_ok _ r g)
      (elim (is_true v) as (λ b. Keeps record S { threads = with_code t (if b then so else otherwise) S.threads }) [ true ↦ one so _ refl refl refl | false ↦ two otherwise _ refl refl refl ])

  -- a choice: a side, with what is behind
  choice_keeps : (t : Name) (s : Statement) (a rest : Code) → code_at S t ≡ Some (s ⨾ rest) → all_local a ≡ true → words sizes (s ⨾ rest) ≡ words sizes rest → messages (s ⨾ rest) ≡ messages rest →
      (runs_as_centre sizes M (s ⨾ rest) ≡ true → runs_as_centre sizes M rest ≡ true) → (all_unbegun (s ⨾ rest) ≡ true → all_unbegun rest ≡ true) → (every (talks_to (is_named M)) (s ⨾ rest) ≡ true → every (talks_to (is_named M)) rest ≡ true) →
      (k : Code) (E : Symbolic) → k ≡ a then rest → E.threads ≡ with_code t k S.threads → E.pending ≡ S.pending → Keeps E
  choice_keeps t s a rest here l says says' runs fresh talk k E is threads pending =
      to_code E t (s ⨾ rest) (a then rest) here (threads ∙ ap (λ c. with_code t c S.threads) is) pending (local_then sizes a rest l ∙ sym says) (messages_then a rest l ∙ sym says')
      (λ h. local_then_runs sizes M a rest l (runs h)) (λ h. unbegun_then a rest l (fresh h)) (λ h. every_then (is_named M) a rest l (talk h))

  -- its sides are local
  if_local : (t : Name) (e : Expression) (a rest : Code) → code_at S t ≡ Some (If e a ⨾ rest) → all_local a ≡ true
  if_local t e a rest here = elim (same_name M t) as (λ b. same_name M t ≡ b → all_local a ≡ true) [
    | true ↦ λ same. (both_true (all_local a) (runs_as_centre sizes M rest) (centre_is (If e a ⨾ rest) (ap (code_at S) (exact_name M t same) ∙ here))).0
    | false ↦ λ other. (both_true (all_local a) (every (talks_to (is_named M)) rest) (member_is t (If e a ⨾ rest) other here)).0
  ] refl

  else_local : (t : Name) (e : Expression) (a b rest : Code) → code_at S t ≡ Some (IfElse e a b ⨾ rest) → (all_local a ≡ true) × (all_local b ≡ true)
  else_local t e a b rest here = elim (same_name M t) as (λ z. same_name M t ≡ z → (all_local a ≡ true) × (all_local b ≡ true)) [
    | true ↦ λ same. both_true (all_local a) (all_local b) (both_true (all_local a && all_local b) (runs_as_centre sizes M rest) (centre_is (IfElse e a b ⨾ rest) (ap (code_at S) (exact_name M t same) ∙ here))).0
    | false ↦ λ other. both_true (all_local a) (all_local b) (both_true (all_local a && all_local b) (every (talks_to (is_named M)) rest) (member_is t (IfElse e a b ⨾ rest) other here)).0
  ] refl

  no_while : (t : Name) (e : Expression) (b rest : Code) → code_at S t ≡ Some (While e b ⨾ rest) → ⊥
  no_while t e b rest here = elim (same_name M t) as (λ z. same_name M t ≡ z → ⊥) [
    | true ↦ λ same. let h = centre_is (While e b ⨾ rest) (ap (code_at S) (exact_name M t same) ∙ here) in cc
    | false ↦ λ other. let h = member_is t (While e b ⨾ rest) other here in cc
  ] refl

  pub known_keeps : (t : Name) (c : Code) (r : Applied) → code_at S t ≡ Some c → known S t c ≡ Ok r → Keeps r.next
  known_keeps t (If e a ⨾ rest) r here g =
      let l = if_local t e a rest here in
      let way = λ (d : Code) (k : all_local d ≡ true). choice_keeps t (If e a) d rest here k refl refl (λ h. (both_true (all_local a) (runs_as_centre sizes M rest) h).1) (λ h. (both_true (all_unbegun a) (all_unbegun rest) h).1) (λ h. (both_true (all_local a) (every (talks_to (is_named M)) rest) h).1) in
      side_keeps t (If e a ⨾ rest) (a then rest) rest (folded S.facts t e) r here g (way a l) (way done refl)
  known_keeps t (IfElse e a b ⨾ rest) r here g =
      let l = else_local t e a b rest here in
      let way = λ (d : Code) (k : all_local d ≡ true). choice_keeps t (IfElse e a b) d rest here k refl refl (λ h. (both_true (all_local a && all_local b) (runs_as_centre sizes M rest) h).1) (λ h. (both_true (all_unbegun a && all_unbegun b) (all_unbegun rest) h).1) (λ h. (both_true (all_local a && all_local b) (every (talks_to (is_named M)) rest) h).1) in
      side_keeps t (IfElse e a b ⨾ rest) (a then rest) (b then rest) (folded S.facts t e) r here g (way a l.0) (way b l.1)
  known_keeps t (While e b ⨾ rest) r here g = absurd (no_while t e b rest here)
  known_keeps t c r here g = cc

  -- the partner of the centre is a member, and that of a member is the centre
  centre_partner : (u : Name) (w : Who) → is_other M w ≡ true → stands_for S u w ≡ true → (partner w ≡ single u) × (same_name M u ≡ false)
  centre_partner u (who.Name n) o h = cc
  centre_partner u (who.At s) o h = let is = focuses_it S u s h in (ap single (sym is), ap (same_name M) is ∙ not-true (same_name M s) o)
  centre_partner u (who.Pid p) o h = absurd (no_process S u p h)

  member_partner : (u : Name) (w : Who) → is_named M w ≡ true → stands_for S u w ≡ true → u ≡ M
  member_partner u (who.Name n) o h = names_it S u n h ∙ sym (exact_name M n o)
  member_partner u (who.At s) o h = cc
  member_partner u (who.Pid p) o h = cc

  -- a fill
  centre_filled : (u C : Name) (n : ℕ) (c : Code) (p : List Expression × Code) (E : Symbolic) → code_at S M ≡ Some c → AtSend S u C c p → E.threads ≡ with_code M p.1 S.threads →
      E.pending ≡ with_numbers (key M u C) (numbers_at S.pending (key M u C) ++ n ∷ []) S.pending → Keeps E
  centre_filled u C n c p E here x threads pending =
      let runs = both_true (is_other M x.to) (runs_as_centre sizes M p.1) (ap (runs_as_centre sizes M) (sym x.is) ∙ centre_is c here) in
      let it = centre_partner u x.to runs.0 x.stands in
      let code = ap codes threads ∙ codes_after M c p.1 here in
      let numbers = ap numbers_at pending ∙ numbers_with (key M u C) (numbers_at S.pending (key M u C) ++ n ∷ []) S.pending in (
        star_with_centre E p.1 code (ap modes threads ∙ modes_with_code M p.1 S.threads) (ap names threads ∙ names_with_code M p.1 S.threads) runs.1 (ap all_unbegun (sym x.is) ∙ fresh_is c here),
        (λ i. served_by sizes M (code i) (numbers i))
            ∙ centre_fills sizes M (at_in S) (numbers_at S.pending) C u p.1 n it.1 (ap (words sizes) (stands M c here ∙ x.is) ∙ ap (λ q. tells q C ∷ words sizes p.1) it.0),
      )

  member_filled : (t u C : Name) (n : ℕ) (c : Code) (p : List Expression × Code) (E : Symbolic) → same_name M t ≡ false → code_at S t ≡ Some c → AtSend S u C c p → E.threads ≡ with_code t p.1 S.threads →
      E.pending ≡ with_numbers (key t u C) (numbers_at S.pending (key t u C) ++ n ∷ []) S.pending → Keeps E
  member_filled t u C n c p E other here x threads pending =
      let talk = both_true (is_named M x.to) (every (talks_to (is_named M)) p.1) (ap (every (talks_to (is_named M))) (sym x.is) ∙ member_is t c other here) in
      let it : u ≡ M = member_partner u x.to talk.0 x.stands in
      let code = ap codes threads ∙ codes_after t c p.1 here in
      let at : E.pending ≡ with_numbers (key t M C) (numbers_at S.pending (key t M C) ++ n ∷ []) S.pending = pending ∙ ap (λ m. with_numbers (key t m C) (numbers_at S.pending (key t m C) ++ n ∷ []) S.pending) it in
      let numbers = ap numbers_at at ∙ numbers_with (key t M C) (numbers_at S.pending (key t M C) ++ n ∷ []) S.pending in (
        star_with_member E t p.1 other code (ap modes threads ∙ modes_with_code t p.1 S.threads) (ap names threads ∙ names_with_code t p.1 S.threads) talk.1,
        (λ i. served_by sizes M (code i) (numbers i))
            ∙ member_fills sizes M (at_in S) (numbers_at S.pending) t other p.1 C n (ap messages (stands t c here ∙ x.is)),
      )

  pub fill_keeps : (t u C : Name) (n : ℕ) (c : Code) (r : Applied) → code_at S t ≡ Some c → fill S t u C n (sends S u C c) ≡ Ok r → Keeps r.next
  fill_keeps t u C n c r here =
      elim (sends S u C c) as (λ o. sends S u C c ≡ o → fill S t u C n o ≡ Ok r → Keeps r.next) [
        | None ↦ λ h g. cc
        | Some p ↦ λ h g.
            let x = at_send S u C c p h in
            let k = when_ok (nat_le 1 n && nat_le n 1000000 && not (is_in_use S.pending n)) BoxInUse _ r g in
            subst (λ (z : Applied). Keeps z.next) (same_ok _ r k.1)
            (elim (same_name M t) as (λ b. same_name M t ≡ b → Keeps record S { threads = with_code t p.1 S.threads; pending = with_numbers (key t u C) (numbers_at S.pending (key t u C) ++ n ∷ []) S.pending }) [
              | true ↦ λ same.
                  let is = exact_name M t same in
                  centre_filled u C n c p _ (ap (code_at S) is ∙ here) x (ap (λ m. with_code m p.1 S.threads) (sym is)) (ap (λ m. with_numbers (key m u C) (numbers_at S.pending (key m u C) ++ n ∷ []) S.pending) (sym is))
              | false ↦ λ other. member_filled t u C n c p _ other here x refl refl
            ] refl)
      ] refl

  -- a take
  centre_taken : (t C : Name) (n : ℕ) (ns : List ℕ) (c : Code) (p : List Name × Code) (E : Symbolic) → code_at S M ≡ Some c → AtReceive S t C c p → numbers_at S.pending (key t M C) ≡ n ∷ ns → E.threads ≡ with_code M p.1 S.threads →
      E.pending ≡ with_numbers (key t M C) ns S.pending → Keeps E
  centre_taken t C n ns c p E here x pends threads pending =
      let runs = both_true (is_other M x.from) (runs_as_centre sizes M p.1) (ap (runs_as_centre sizes M) (sym x.is) ∙ centre_is c here) in
      let it = centre_partner t x.from runs.0 x.stands in
      let code = ap codes threads ∙ codes_after M c p.1 here in
      let numbers = ap numbers_at pending ∙ numbers_with (key t M C) ns S.pending in (
        star_with_centre E p.1 code (ap modes threads ∙ modes_with_code M p.1 S.threads) (ap names threads ∙ names_with_code M p.1 S.threads) runs.1 (ap all_unbegun (sym x.is) ∙ fresh_is c here),
        (λ i. served_by sizes M (code i) (numbers i))
            ∙ centre_takes sizes M (at_in S) (numbers_at S.pending) C t p.1 n ns it.1 (ap (words sizes) (stands M c here ∙ x.is) ∙ ap (λ q. hears q C ∷ words sizes p.1) it.0) pends,
      )

  member_taken : (t u C : Name) (n : ℕ) (ns : List ℕ) (c : Code) (p : List Name × Code) (E : Symbolic) → same_name M u ≡ false → code_at S u ≡ Some c → AtReceive S t C c p → numbers_at S.pending (key t u C) ≡ n ∷ ns → E.threads ≡ with_code u p.1 S.threads →
      E.pending ≡ with_numbers (key t u C) ns S.pending → Keeps E
  member_taken t u C n ns c p E other here x pends threads pending =
      let talk = both_true (is_named M x.from) (every (talks_to (is_named M)) p.1) (ap (every (talks_to (is_named M))) (sym x.is) ∙ member_is u c other here) in
      let it : t ≡ M = member_partner t x.from talk.0 x.stands in
      let code = ap codes threads ∙ codes_after u c p.1 here in
      let at : E.pending ≡ with_numbers (key M u C) ns S.pending = pending ∙ ap (λ m. with_numbers (key m u C) ns S.pending) it in
      let numbers = ap numbers_at at ∙ numbers_with (key M u C) ns S.pending in (
        star_with_member E u p.1 other code (ap modes threads ∙ modes_with_code u p.1 S.threads) (ap names threads ∙ names_with_code u p.1 S.threads) talk.1,
        (λ i. served_by sizes M (code i) (numbers i))
            ∙ member_takes sizes M (at_in S) (numbers_at S.pending) u other p.1 C n ns (ap messages (stands u c here ∙ x.is)) (ap (λ m. numbers_at S.pending (key m u C)) (sym it) ∙ pends),
      )

  pub take_keeps : (t u C : Name) (c : Code) (r : Applied) → code_at S u ≡ Some c → take S t u C (receives S t C c) (numbers_at S.pending (key t u C)) ≡ Ok r → Keeps r.next
  take_keeps t u C c r here =
      elim (receives S t C c) as (λ o. receives S t C c ≡ o → take S t u C o (numbers_at S.pending (key t u C)) ≡ Ok r → Keeps r.next) [
        | None ↦ λ h g. cc
        | Some p ↦ λ h.
            elim (numbers_at S.pending (key t u C)) as (λ l. numbers_at S.pending (key t u C) ≡ l → take S t u C (Some p) l ≡ Ok r → Keeps r.next) [
              | [] ↦ λ pends g. cc
              | n ∷ ns ↦ λ pends g.
                  let x = at_receive S t C c p h in
                  subst (λ (z : Applied). Keeps z.next) (same_ok _ r g)
                  (elim (same_name M u) as (λ b. same_name M u ≡ b → Keeps record S { threads = with_code u p.1 S.threads; pending = with_numbers (key t u C) ns S.pending; facts = without_facts u p.0 S.facts }) [
                    | true ↦ λ same.
                        let is = exact_name M u same in
                        centre_taken t C n ns c p _ (ap (code_at S) is ∙ here) x (ap (λ m. numbers_at S.pending (key t m C)) is ∙ pends) (ap (λ m. with_code m p.1 S.threads) (sym is)) (ap (λ m. with_numbers (key t m C) ns S.pending) (sym is))
                    | false ↦ λ other. member_taken t u C n ns c p _ other here x pends refl refl
                  ] refl)
            ] refl
      ] refl

same_key_refl : (k : Key) → same_key k k ≡ true
same_key_refl k = both_hold (same_name k.from k.from && same_name k.to k.to) (same_name k.channel k.channel) (both_hold (same_name k.from k.from) (same_name k.to k.to) (name_laws.refl k.from) (name_laws.refl k.to)) (name_laws.refl k.channel)

module _ (sizes : Name → ℕ) (M : Name) (S : Symbolic) (st : IsStarThreads sizes M S) where
  -- a number that is put where none waits is the one that waits
  put_is : (k : Key) → numbers_at S.pending k ≡ [] → changed same_key (numbers_at S.pending) k (numbers_at S.pending k ++ 0 ∷ []) k ≡ 0 ∷ []
  put_is k none = ap (λ b. if b then numbers_at S.pending k ++ 0 ∷ [] else numbers_at S.pending k) (same_key_refl k) ∙ ap (λ l. l ++ 0 ∷ []) none

  put_taken : (k : Key) → numbers_at S.pending k ≡ [] → changed same_key (changed same_key (numbers_at S.pending) k (numbers_at S.pending k ++ 0 ∷ [])) k [] ≡ numbers_at S.pending
  put_taken k none = put_and_taken (numbers_at S.pending) k (numbers_at S.pending k ++ 0 ∷ []) none

  -- the first of two threads that go on
  module _ (t u : Name) (c d k l : Code) (E : Symbolic) (here : code_at S t ≡ Some c) (there : code_at S u ≡ Some d) (apart : same_name t u ≡ false)
      (threads : E.threads ≡ with_code u l (with_code t k S.threads)) where
    abbrev S1 : Symbolic
    S1 = record S { threads = with_code t k S.threads }

    still : code_at S1 u ≡ Some d
    still = ap active_code (other_after S.threads t u k apart) ∙ there

    first_codes : at_in S1 ≡ changed same_name (at_in S) t k
    first_codes = codes_after sizes M S st t c k here

    both_codes : at_in E ≡ changed same_name (at_in S1) u l
    both_codes = ap codes threads ∙ (let m = moved S1.threads u d still in codes_with_code u l S1.threads m.mode m.there)

    both_modes : modes E.threads ≡ modes S1.threads
    both_modes = ap modes threads ∙ modes_with_code u l S1.threads

    both_names : names E.threads ≡ names S1.threads
    both_names = ap names threads ∙ names_with_code u l S1.threads

  -- the centre passes to a member
  centre_passed : (u C : Name) (c d : Code) (p : List Expression × Code) (q : List Name × Code) (E : Symbolic) → code_at S M ≡ Some c → code_at S u ≡ Some d → AtSend S u C c p → AtReceive S M C d q →
      numbers_at S.pending (key M u C) ≡ [] → E.threads ≡ with_code u q.1 (with_code M p.1 S.threads) → E.pending ≡ S.pending → Keeps sizes M S st E
  centre_passed u C c d p q E here there x y none threads pending =
      let runs = both_true (is_other M x.to) (runs_as_centre sizes M p.1) (ap (runs_as_centre sizes M) (sym x.is) ∙ centre_is sizes M S st c here) in
      let it = centre_partner sizes M S st u x.to runs.0 x.stands in
      let talk = both_true (is_named M y.from) (every (talks_to (is_named M)) q.1) (ap (every (talks_to (is_named M))) (sym y.is) ∙ member_is sizes M S st u d it.1 there) in
      let one : Symbolic = S1 M u c d p.1 q.1 E here there it.1 threads in
      let first = star_with_centre sizes M S st one p.1 (first_codes M u c d p.1 q.1 E here there it.1 threads) (modes_with_code M p.1 S.threads) (names_with_code M p.1 S.threads) runs.1 (ap all_unbegun (sym x.is) ∙ fresh_is sizes M S st c here) in
      let codes1 = first_codes M u c d p.1 q.1 E here there it.1 threads in
      let codes2 = both_codes M u c d p.1 q.1 E here there it.1 threads in
      let put = changed same_key (numbers_at S.pending) (key M u C) (numbers_at S.pending (key M u C) ++ 0 ∷ []) in
      let middle = changed same_name (at_in S) M p.1 in (
        star_with_member sizes M one first E u q.1 it.1 codes2 (both_modes M u c d p.1 q.1 E here there it.1 threads) (both_names M u c d p.1 q.1 E here there it.1 threads) talk.1,
        (λ i. served_by sizes M (codes2 i) (numbers_at (pending i)))
            ∙ (λ i. served_by sizes M (changed same_name (codes1 i) u q.1) (sym (put_taken (key M u C) none) i))
            ∙ member_takes sizes M middle put u it.1 q.1 C 0 [] (ap (λ b. messages (if b then p.1 else at_in S u)) it.1 ∙ ap messages (stands sizes M S st u d there ∙ y.is)) (put_is (key M u C) none)
            ∙ centre_fills sizes M (at_in S) (numbers_at S.pending) C u p.1 0 it.1 (ap (words sizes) (stands sizes M S st M c here ∙ x.is) ∙ ap (λ z. tells z C ∷ words sizes p.1) it.0),
      )

  -- a member passes to the centre
  member_passed : (t C : Name) (c d : Code) (p : List Expression × Code) (q : List Name × Code) (E : Symbolic) → same_name M t ≡ false → code_at S t ≡ Some c → code_at S M ≡ Some d → AtSend S M C c p → AtReceive S t C d q →
      numbers_at S.pending (key t M C) ≡ [] → E.threads ≡ with_code M q.1 (with_code t p.1 S.threads) → E.pending ≡ S.pending → Keeps sizes M S st E
  member_passed t C c d p q E other here there x y none threads pending =
      let apart : same_name t M ≡ false = apart_symm name_laws M t other in
      let talk = both_true (is_named M x.to) (every (talks_to (is_named M)) p.1) (ap (every (talks_to (is_named M))) (sym x.is) ∙ member_is sizes M S st t c other here) in
      let runs = both_true (is_other M y.from) (runs_as_centre sizes M q.1) (ap (runs_as_centre sizes M) (sym y.is) ∙ centre_is sizes M S st d there) in
      let it = centre_partner sizes M S st t y.from runs.0 y.stands in
      let one : Symbolic = S1 t M c d p.1 q.1 E here there apart threads in
      let codes1 = first_codes t M c d p.1 q.1 E here there apart threads in
      let codes2 = both_codes t M c d p.1 q.1 E here there apart threads in
      let first = star_with_member sizes M S st one t p.1 other codes1 (modes_with_code t p.1 S.threads) (names_with_code t p.1 S.threads) talk.1 in
      let put = changed same_key (numbers_at S.pending) (key t M C) (numbers_at S.pending (key t M C) ++ 0 ∷ []) in
      let middle = changed same_name (at_in S) t p.1 in (
        star_with_centre sizes M one first E q.1 codes2 (both_modes t M c d p.1 q.1 E here there apart threads) (both_names t M c d p.1 q.1 E here there apart threads) runs.1 (ap all_unbegun (sym y.is) ∙ fresh_is sizes M S st d there),
        (λ i. served_by sizes M (codes2 i) (numbers_at (pending i)))
            ∙ (λ i. served_by sizes M (changed same_name (codes1 i) M q.1) (sym (put_taken (key t M C) none) i))
            ∙ centre_takes sizes M middle put C t q.1 0 [] other (ap (λ b. words sizes (if b then p.1 else at_in S M)) apart ∙ ap (words sizes) (stands sizes M S st M d there ∙ y.is) ∙ ap (λ z. hears z C ∷ words sizes q.1) it.0) (put_is (key t M C) none)
            ∙ member_fills sizes M (at_in S) (numbers_at S.pending) t other p.1 C 0 (ap messages (stands sizes M S st t c here ∙ x.is)),
      )

  pub pass_keeps : (t u C : Name) (c d : Code) (r : Applied) → code_at S t ≡ Some c → code_at S u ≡ Some d → pass S t u (sends S u C c) (receives S t C d) (numbers_at S.pending (key t u C)) ≡ Ok r → Keeps sizes M S st r.next
  pass_keeps t u C c d r here there =
      elim (sends S u C c) as (λ o. sends S u C c ≡ o → pass S t u o (receives S t C d) (numbers_at S.pending (key t u C)) ≡ Ok r → Keeps sizes M S st r.next) [
        | None ↦ λ h g. cc
        | Some p ↦ λ h.
            elim (receives S t C d) as (λ o. receives S t C d ≡ o → pass S t u (Some p) o (numbers_at S.pending (key t u C)) ≡ Ok r → Keeps sizes M S st r.next) [
              | None ↦ λ h' g. cc
              | Some q ↦ λ h'.
                  elim (numbers_at S.pending (key t u C)) as (λ l. numbers_at S.pending (key t u C) ≡ l → pass S t u (Some p) (Some q) l ≡ Ok r → Keeps sizes M S st r.next) [
                    | [] ↦ λ none g. subst (λ (z : Applied). Keeps sizes M S st z.next) (same_ok _ r g) (by t u here there (at_send S u C c p h) (at_receive S t C d q h') none _)
                    | n ∷ ns ↦ λ none g. cc
                  ] refl
            ] refl
      ] refl
    where
      by : (t u : Name) → code_at S t ≡ Some c → code_at S u ≡ Some d → {p : List Expression × Code} {q : List Name × Code} → AtSend S u C c p → AtReceive S t C d q → numbers_at S.pending (key t u C) ≡ [] → (facts : _) →
          Keeps sizes M S st record S { threads = with_code u q.1 (with_code t p.1 S.threads); facts = facts }
      by t u here there {p = p} {q = q} x y none facts =
          elim (same_name M t) as (λ b. same_name M t ≡ b → Keeps sizes M S st record S { threads = with_code u q.1 (with_code t p.1 S.threads); facts = facts }) [
            | true ↦ λ same.
                let is = exact_name M t same in
                centre_passed u C c d p q _ (ap (code_at S) is ∙ here) there x (subst (λ (z : Name). AtReceive S z C d q) (sym is) y) (ap (λ z. numbers_at S.pending (key z u C)) is ∙ none) (ap (λ z. with_code u q.1 (with_code z p.1 S.threads)) (sym is)) refl
            | false ↦ λ other.
                let talk = both_true (is_named M x.to) (every (talks_to (is_named M)) p.1) (ap (every (talks_to (is_named M))) (sym x.is) ∙ member_is sizes M S st t c other here) in
                let is : u ≡ M = member_partner sizes M S st u x.to talk.0 x.stands in
                member_passed t C c d p q _ other here (ap (code_at S) (sym is) ∙ there) (subst (λ (z : Name). AtSend S z C c p) is x) y (ap (λ z. numbers_at S.pending (key t z C)) (sym is) ∙ none) (ap (λ z. with_code z q.1 (with_code t p.1 S.threads)) is) refl
          ] refl

pub basic_rules_keep_serving : BasicRulesKeepServing
basic_rules_keep_serving sizes M S (rule.Assign t) r st g = let x = at_code (code_at S t) (assign S t) r g in assign_keeps sizes M S st t x.0 r x.1 x.2
basic_rules_keep_serving sizes M S (rule.Fill t u C n) r st g = let x = at_code (code_at S t) (λ code. fill S t u C n (sends S u C code)) r g in fill_keeps sizes M S st t u C n x.0 r x.1 x.2
basic_rules_keep_serving sizes M S (rule.Pass t u C) r st g =
    let x = at_code (code_at S t) (λ code. at_thread (code_at S u) (λ other. pass S t u (sends S u C code) (receives S t C other) (numbers_at S.pending (key t u C)))) r g in
    let y = at_code (code_at S u) (λ other. pass S t u (sends S u C x.0) (receives S t C other) (numbers_at S.pending (key t u C))) r x.2 in
    pass_keeps sizes M S st t u C x.0 y.0 r x.1 y.1 y.2
basic_rules_keep_serving sizes M S (rule.Take t u C) r st g = let x = at_code (code_at S u) (λ code. take S t u C (receives S t C code) (numbers_at S.pending (key t u C))) r g in take_keeps sizes M S st t u C x.0 r x.1 x.2
basic_rules_keep_serving sizes M S (rule.Known t) r st g = let x = at_code (code_at S t) (known S t) r g in known_keeps sizes M S st t x.0 r x.1 x.2
