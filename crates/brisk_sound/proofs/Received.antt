-- A gather and a pick, from the tests of entry and close to what they say of readings.
use Rattle.std.proofs.Common.{◌≡◌, ℕ, zero, Bool, true, false, List, [], ◌∷◌, length, Option, Some, None, refl, sym, ap, ◌∙◌, subst, nat_eq, arith}
use Rattle.std.specs.Prelude.{if◌then◌else◌, ◌||◌, not, Ok}
use Rattle.std.proofs.lemmas.Bool.{eqb-true}
use Rattle.std.proofs.lemmas.Option.{same_Some}
use Rattle.brisk_values.specs.declared.value.Value.{Value}
use Rattle.brisk_values.specs.Functions.{changed}
use Rattle.brisk_values.specs.Names.{Name, same_name}
use Rattle.brisk_values.proofs.Changes.{name_laws, exact_name}
use Rattle.brisk_syntax.specs.declared.program.Decl.{Decl}
use Rattle.brisk_syntax.specs.declared.program.Program.{Program}
use Rattle.brisk_syntax.specs.declared.tree.Who.TheVariants as who
use Rattle.brisk_syntax.specs.Substitution.{who_with}
use Rattle.brisk_syntax.specs.Syntax.{RecvAny, Repeat, Code, done, ◌⨾◌}
use Rattle.brisk_syntax.specs.Typing.{is_set}
use Rattle.brisk_async.specs.Laws.{AnyReceive, any_code}
use Rattle.brisk_seq.specs.Items.{Item, Items}
use Rattle.brisk_seq.specs.Items as item
use Rattle.brisk_facts.specs.Facts.{fact}
use Rattle.brisk_state.specs.declared.thread.Mode.{Mode}
use Rattle.brisk_state.specs.declared.thread.Mode.TheVariants.{One, At, Each}
use Rattle.brisk_state.specs.declared.thread.Thread.{Thread}
use Rattle.brisk_state.specs.Symbolic.{key, Symbolic, thread_named, partner_of, with_code, with_mode, numbers_at}
use Rattle.brisk_quiet.specs.Quiet.{Walked, Blocks, Ends, Sends, walk, comes_out}
use Rattle.brisk_derivation.specs.declared.fault.SideFault.TheVariants.{MayBeEmpty}
use Rattle.brisk_derivation.specs.declared.steps.Fact.{Fact}
use Rattle.brisk_rules.specs.declared.why.Why.TheVariants.{Side}
use Rattle.brisk_rules.specs.Heads.{any_of, gather_of, from_focus}
use Rattle.brisk_rules.specs.Rules as rules
use Rattle.brisk_rules.specs.Rules.{Outcome, Outside, Inside, Scope, Kind, looks, mode_of, not_focused, unfocused, Entered, entered_any, is_quiet, gather_tests, enter_gather, is_nonempty, enter_pick}
use Rattle.brisk_sound.proofs.Applied.{partner_by_mode}
use Rattle.brisk_sound.proofs.Closing.{Closed, first_none, unless_none}
use Rattle.brisk_sound.proofs.Derives.{Gatherings, Pickings}
use Rattle.brisk_sound.proofs.Covers.{one_owner, whole, rest_piece}
use Rattle.brisk_sound.proofs.Entered.{Opens, dropped, drops_weaken}
use Rattle.brisk_rules.proofs.Fulfilled.{same_ok, when_ok, at_head_ok}
use Rattle.brisk_sound.proofs.Fine.{Fine, fine_map}
use Rattle.brisk_sound.proofs.Focused.{AllThere, begins, tidy_opened, owner_done, stands_still, mail_still, facts_still, modes_closed, codes_closed, names_closed, facts_closed, kept_opened, free_end, inner_end}
use Rattle.brisk_sound.proofs.For.{owners}
use Rattle.brisk_sound.proofs.Free.{Free}
use Rattle.brisk_sound.proofs.Gather.{gather_at}
use Rattle.brisk_sound.proofs.Kept.{Kept, kept_then, kept_weaker, kept_for, kept_pick, free_with, Tidy, is_set_mode, decls_by}
use Rattle.brisk_sound.proofs.Member.{not_a_set}
use Rattle.brisk_sound.proofs.Middle.{focused, set_at}
use Rattle.brisk_sound.proofs.Opened.{facts_outside, not_both_of}
use Rattle.brisk_sound.proofs.Pick.{after_pick}
use Rattle.brisk_sound.proofs.Quiet.{IsQuiet}
use Rattle.brisk_rules.proofs.Readings.{Reading, reading, stands_by}
use Rattle.brisk_rules.proofs.Threads.{names, modes, codes, Moved}
use Rattle.brisk_sound.proofs.Walks.{whomever, walk_by, Calm, walk_is}
use Rattle.std.proofs.Math.Bool.{or-true}

not_focused_ok : {A : Type 0} (m : Option Mode) (more : Outcome A) (a : A) → not_focused m more ≡ Ok a → (is_set_mode m ≡ true → m ≡ Some Each) × (more ≡ Ok a)
not_focused_ok None more a e = (λ s. cc, e)
not_focused_ok (Some One) more a e = (λ s. cc, e)
not_focused_ok (Some At) more a e = cc
not_focused_ok (Some Each) more a e = (λ s. refl, e)

gather_is : (c : Code) (a : AnyReceive) → gather_of c ≡ Some a → c ≡ gather_at a 0
gather_is (Repeat s zero (RecvAny c xs v r b ⨾ done) ⨾ rest) a e =
    elim (same_name s r) as (λ t. same_name s r ≡ t → (if t then Some record { channel = c; variables = xs; binder = v; set = s; body = b; rest = rest } else None) ≡ Some a → Repeat s 0 (RecvAny c xs v r b ⨾ done) ⨾ rest ≡ gather_at a 0) [
      | true ↦ λ t g. (λ i. Repeat s 0 (RecvAny c xs v (sym (exact_name s r t) i) b ⨾ done) ⨾ rest) ∙ ap (λ z. gather_at z 0) (same_Some _ a g)
      | false ↦ λ t g. cc
    ] refl e
gather_is c a e = cc

any_is : (c : Code) (a : AnyReceive) → any_of c ≡ Some a → c ≡ any_code a
any_is (RecvAny c xs v s b ⨾ rest) a e = ap any_code (same_Some _ a e)
any_is c a e = cc

if_one : {X : Type 0} (b : Bool) (x y : X) → (if (if b then true else false) then x else y) ≡ (if b then x else y)
if_one true x y = refl
if_one false x y = refl

no_numbers : (ns : List ℕ) → nat_eq (length ns) 0 ≡ true → ns ≡ []
no_numbers [] e = refl
no_numbers (n ∷ ns) e = absurd (let h = eqb-true (length (n ∷ ns)) 0 e in omega (arith, h))

pub quiet_calm : (w : Walked) → is_quiet (comes_out w) ≡ true → Calm w
quiet_calm Blocks e = tt
quiet_calm (Ends n) e = tt
quiet_calm Sends e = cc

-- a thread stands at a receive from any, alone or in a gather, and one member comes into focus
module _ (P : Program) (S : Symbolic) (t : Name) (a : AnyReceive) (c : Code) (m : Moved S.threads t c) (drops : List Fact) (kind : Kind)
    (fine_parts : (ds : List Decl) → Fine P ds c → (is_set P.roles a.set ≡ true) × Fine P ds (from_focus a) × Fine P ds a.rest)
    (free_parts : (r : Name) → Free r c → Free r a.body × Free r a.rest)
    (unfocuses : (us : List Thread) → unfocused (looks kind) us ≡ with_mode a.set Each us) (set : modes S.threads a.set ≡ Some Each) where
  abbrev s : Name
  s = a.set

  abbrev entered : Entered
  entered = entered_any S t a drops kind

  abbrev base : Reading
  base = dropped S drops

  there : AllThere (modes S.threads) (t ∷ [])
  there = ((m.mode, m.there), tt)

  apart : same_name s t ≡ false
  apart = not_a_set (reading S) s t set m.active

  not_owner : owners (t ∷ []) s ≡ false
  not_owner = ap (λ b. if b then true else false) (name_laws.symm t s ∙ apart)

  is_owner : (u : Name) → owners (t ∷ []) u ≡ true → same_name t u ≡ true
  is_owner u o = elim (same_name t u) as (λ b. (if b then true else false) ≡ true → b ≡ true) [ true ↦ λ e. refl | false ↦ λ e. cc ] o

  fine_at : (ds : List Decl) (u : Name) → owners (t ∷ []) u ≡ true → Fine P ds (codes S.threads u) → Fine P ds (from_focus a) × Fine P ds a.rest
  fine_at ds u o f = let h = fine_parts ds (subst (Fine P ds) m.stands (subst (λ (z : Name). Fine P ds (codes S.threads z)) (sym (exact_name t u (is_owner u o))) f)) in (h.1, h.2)

  free_code : (r u : Name) → owners (t ∷ []) u ≡ true → Free r (codes S.threads u) → Free r a.body × Free r a.rest
  free_code r u o f = free_parts r (subst (Free r) m.stands (subst (λ (z : Name). Free r (codes S.threads z)) (sym (exact_name t u (is_owner u o))) f))

  -- a body names the member in focus of its own set alone
  free_at : (r u : Name) → owners (t ∷ []) u ≡ true → same_name r s ≡ false → Free r (codes S.threads u) → Free r (from_focus a)
  free_at r u o n f = (n, free_with r a.binder s a.body n (free_code r u o f).0)

  pub tidy_any : Tidy P (reading S) → Tidy P (reading entered.start)
  tidy_any = tidy_opened P S s (t ∷ []) (λ u. from_focus a) (λ u. a.rest) drops kind set there not_owner (λ ds u o f. (fine_at ds u o f).0) free_at

  pub begins_any : reading entered.start ≡ record base { mode = focused base.mode s; code = changed same_name base.code t (from_focus a) }
  begins_any =
      begins P S s (t ∷ []) (λ u. from_focus a) (λ u. a.rest) drops kind set there not_owner
      ∙ (λ i. record base { mode = focused base.mode s; code = λ u. if_one (same_name t u) (from_focus a) (base.code u) i })

  module _ (E S' : Symbolic) (named : names E.threads ≡ names entered.start.threads) (kept : Kept P (reading entered.start) (reading E)) (k : Closed entered E S') where
    -- the state after the close, but for facts
    pub next_any : (facts : Name → Name → Option Value) → ((u x : Name) → fact S'.facts u x ≡ facts u x) → reading S' ≡ record { mode = base.mode; code = changed same_name (codes E.threads) t a.rest; pending = numbers_at E.pending; facts = facts }
    next_any facts is = λ i. record {
      mode = (ap (λ (z : Symbolic). modes z.threads) (sym k.next) ∙ (λ j. modes (with_code t a.rest (unfocuses E.threads j))) ∙ modes_closed P S s (t ∷ []) (λ u. from_focus a) (λ u. a.rest) drops kind set there not_owner E S' named kept k) i;
      code = (ap (λ (z : Symbolic). codes z.threads) (sym k.next) ∙ (λ j. codes (with_code t a.rest (unfocuses E.threads j))) ∙ codes_closed P S s (t ∷ []) (λ u. from_focus a) (λ u. a.rest) drops kind set there not_owner E S' named kept k
          ∙ (λ j u. if_one (same_name t u) a.rest (codes E.threads u) j)) i;
      pending = ap (λ (z : Symbolic). numbers_at z.pending) (sym k.next) i;
      facts = λ u x. is u x i;
    }

    pub names_any : names S'.threads ≡ names S.threads
    names_any = ap (λ (z : Symbolic). names z.threads) (sym k.next) ∙ (λ j. names (with_code t a.rest (unfocuses E.threads j))) ∙ names_closed P S s (t ∷ []) (λ u. from_focus a) (λ u. a.rest) drops kind set there not_owner E S' named kept k

    kept_any : Kept P (record base { mode = focused base.mode s; code = λ u. if owners (t ∷ []) u then from_focus a else base.code u }) (reading E)
    kept_any = kept_opened P S s (t ∷ []) (λ u. from_focus a) (λ u. a.rest) drops kind set there not_owner E S' named kept k

    owner_any : codes E.threads t ≡ done
    owner_any = owner_done P S s (t ∷ []) (λ u. from_focus a) (λ u. a.rest) drops kind set there not_owner E S' named kept k t (ap (λ b. if b then true else false) (name_laws.refl t))

-- gather t
module _ (P : Program) (S : Symbolic) (t : Name) (a : AnyReceive) (c : Code) (m : Moved S.threads t c) (drops : List Fact) (is : c ≡ gather_at a 0) where
  abbrev gather_entered : Entered
  gather_entered = entered_any S t a drops (rules.Gather t a.set a.channel)

  gather_fine : (ds : List Decl) → Fine P ds c → (is_set P.roles a.set ≡ true) × Fine P ds (from_focus a) × Fine P ds a.rest
  gather_fine ds f = let h = subst (Fine P ds) is f in (h.0.0, (h.0.1.0.0, fine_map P ds (who_with a.binder (who.At a.set)) a.body h.0.1.0.2), h.1)

  gather_free : (r : Name) → Free r c → Free r a.body × Free r a.rest
  gather_free r f = let h = subst (Free r) is f in (h.0.0, h.1)

  module _ (set : modes S.threads a.set ≡ Some Each) (E S' : Symbolic) (named : names E.threads ≡ names gather_entered.start.threads) (kept : Kept P (reading gather_entered.start) (reading E)) (k : Closed gather_entered E S') where
    gather_there : AllThere (modes S.threads) (t ∷ [])
    gather_there = there P S t a c m drops (rules.Gather t a.set a.channel) gather_fine gather_free (λ us. refl) set

    gather_apart : owners (t ∷ []) a.set ≡ false
    gather_apart = not_owner P S t a c m drops (rules.Gather t a.set a.channel) gather_fine gather_free (λ us. refl) set

    -- another thread stands as before
    others : (u : Name) → same_name t u ≡ false → same_name a.set u ≡ false → codes E.threads u ≡ codes S.threads u
    others u e f =
        stands_still P S a.set (t ∷ []) (λ u. from_focus a) (λ u. a.rest) drops (rules.Gather t a.set a.channel) set gather_there gather_apart E S' named kept k u (ap not f) (ap (λ b. if b then true else false) e)

    gather_next : reading S' ≡ set_at (dropped S drops) a.set (reading E) (changed same_name (codes S.threads) t a.rest)
    gather_next =
        next_any P S t a c m drops (rules.Gather t a.set a.channel) gather_fine gather_free (λ us. refl) set E S' named kept k
        (λ u. if same_name a.set u then fact E.facts a.set else (dropped S drops).facts u)
        (λ u x. ap (λ (z : Symbolic). fact z.facts u x) (sym k.next)
        ∙ facts_closed P S a.set (t ∷ []) (λ u. from_focus a) (λ u. a.rest) drops (rules.Gather t a.set a.channel) set gather_there gather_apart E S' named kept k u x
        ∙ facts_outside a.set u x (dropped S drops).facts (fact E.facts))
        ∙ (λ i. record {
          mode = modes S.threads;
          code = λ u. code u i;
          pending = numbers_at E.pending;
          facts = λ u. if same_name a.set u then fact E.facts a.set else (dropped S drops).facts u;
        })
      where
        code : (u : Name) → changed same_name (codes E.threads) t a.rest u ≡ (if same_name a.set u then codes E.threads a.set else changed same_name (codes S.threads) t a.rest u)
        code u =
            elim (same_name t u) as (λ b. same_name t u ≡ b → (if b then a.rest else codes E.threads u) ≡ (if same_name a.set u then codes E.threads a.set else (if b then a.rest else codes S.threads u))) [
              | true ↦ λ e. sym (ap (λ b. if b then codes E.threads a.set else a.rest) (ap (same_name a.set) (sym (exact_name t u e)) ∙ apart P S t a c m drops (rules.Gather t a.set a.channel) gather_fine gather_free (λ us. refl) set))
              | false ↦ λ e. elim (same_name a.set u) as (λ b. same_name a.set u ≡ b → codes E.threads u ≡ (if b then codes E.threads a.set else codes S.threads u)) [
                | true ↦ λ f. ap (codes E.threads) (sym (exact_name a.set u f))
                | false ↦ λ f. others u e f
              ] refl
            ] refl

    kept_focus : Kept P (record (dropped S drops) { mode = focused (modes S.threads) a.set; code = λ u. if owners (t ∷ []) u then from_focus a else codes S.threads u }) (reading E)
    kept_focus = kept_any P S t a c m drops (rules.Gather t a.set a.channel) gather_fine gather_free (λ us. refl) set E S' named kept k

    gather_kept : Kept P (reading S) (reading S')
    gather_kept =
        subst (Kept P (reading S))
        ((λ i. record {
          mode = modes S.threads;
          code = λ u. if same_name a.set u then codes E.threads a.set else if_one (same_name t u) a.rest (codes S.threads u) i;
          pending = numbers_at E.pending;
          facts = λ u. if same_name a.set u then fact E.facts a.set else (dropped S drops).facts u;
        }) ∙ sym gather_next)
        (kept_then P (reading S) (dropped S drops) _ (kept_weaker P (reading S) (dropped S drops) (drops_weaken S drops))
        (kept_for P (dropped S drops) a.set (owners (t ∷ [])) (λ u. from_focus a) (λ u. a.rest) (reading E) _ gather_apart
        (fine_at P S t a c m drops (rules.Gather t a.set a.channel) gather_fine gather_free (λ us. refl) set)
        (free_at P S t a c m drops (rules.Gather t a.set a.channel) gather_fine gather_free (λ us. refl) set)
        (λ r u o f. (free_code P S t a c m drops (rules.Gather t a.set a.channel) gather_fine gather_free (λ us. refl) set r u o f).1)
        kept_focus))

    -- the last two tests
    still_quiet : IsQuiet (dropped S drops) t a (reading E)
    still_quiet =
        let f = first_none _ _ k.last in let g = first_none _ _ f.1 in
        record {
          no_mail = no_numbers (numbers_at E.pending (key a.set t a.channel)) (unless_none _ _ f.0);
          calm = subst Calm (walk_path (λ D. length (numbers_at E.pending (key t a.set D)))) (quiet_calm _ (unless_none _ _ g.0));
        }
      where
        modes_kept : modes E.threads t ≡ modes S.threads t
        modes_kept =
            ap (λ (f : Name → Option Mode). f t) kept_focus.mode
            ∙ ap (λ b. if b then Some At else modes S.threads t) (apart P S t a c m drops (rules.Gather t a.set a.channel) gather_fine gather_free (λ us. refl) set)

        walk_path : (n : Name → ℕ) → walk (partner_of (thread_named E.threads t)) a.channel (codes E.threads a.set) n ≡ walk_by (whomever (stands_by (modes S.threads t) t)) a.channel (codes E.threads a.set) n
        walk_path n =
            (λ i. walk_is (partner_of (thread_named E.threads t)) a.channel (codes E.threads a.set) i n)
            ∙ (λ i. walk_by (whomever (λ u. partner_by_mode E.threads t u i)) a.channel (codes E.threads a.set) n)
            ∙ (λ i. walk_by (whomever (stands_by (modes_kept i) t)) a.channel (codes E.threads a.set) n)

    gather_is_gathering : Tidy P (reading S) → Gatherings S gather_entered.start E S' t a
    gather_is_gathering tidy = record {
      base = dropped S drops;
      weaker = drops_weaken S drops;
      entry = record { set = set; active = m.active; is = m.stands ∙ is; free = λ u. tidy.closed a.set u set };
      begins = begins_any P S t a c m drops (rules.Gather t a.set a.channel) gather_fine gather_free (λ us. refl) set;
      exit = record {
        closes = record {
          mode = kept_focus.mode;
          mail = λ q x y. mail_still P S a.set (t ∷ []) (λ u. from_focus a) (λ u. a.rest) drops (rules.Gather t a.set a.channel) set gather_there gather_apart E S' named kept k q (not_both_of a.set q x y);
          inner = inner_end P S a.set (t ∷ []) (λ u. from_focus a) (λ u. a.rest) drops (rules.Gather t a.set a.channel) set gather_there gather_apart E S' named kept k tidy;
          facts = λ u x v e f. facts_still P S a.set (t ∷ []) (λ u. from_focus a) (λ u. a.rest) drops (rules.Gather t a.set a.channel) set gather_there gather_apart E S' named kept k u x v (ap not e) f;
          free = free_end P S a.set (t ∷ []) (λ u. from_focus a) (λ u. a.rest) drops (rules.Gather t a.set a.channel) set gather_there gather_apart E S' named kept k tidy;
        };
        owner = owner_any P S t a c m drops (rules.Gather t a.set a.channel) gather_fine gather_free (λ us. refl) set E S' named kept k;
        code = others;
      };
      quiet = still_quiet;
      next = gather_next;
    }

-- the set is one, and not in focus
set_of : (P : Program) (S : Symbolic) (t : Name) (a : AnyReceive) (c : Code) → Moved S.threads t c → ((ds : List Decl) → Fine P ds c → is_set P.roles a.set ≡ true) → (is_set_mode (modes S.threads a.set) ≡ true → modes S.threads a.set ≡ Some Each) →
    Tidy P (reading S) → modes S.threads a.set ≡ Some Each
set_of P S t a c m fine each tidy = each (tidy.sets a.set (fine (decls_by P t) (subst (Fine P (decls_by P t)) m.stands (tidy.fine t))))

pub gather_opens : (P : Program) (S : Symbolic) (t : Name) (drops : List Fact) (r : Entered) → enter_gather S t drops ≡ Ok r →
    (a : AnyReceive) × Opens P S r (λ E S'. Gatherings S r.start E S' t a) (item.ForAny a.set) (one_owner t) whole
gather_opens P S t drops r e =
    let h = at_head_ok S t gather_of _ r e in let a = h.0 in
    let n = not_focused_ok (mode_of (thread_named S.threads a.set)) _ r h.4 in
    (a, subst (λ (z : Entered). Opens P S z (λ E S'. Gatherings S z.start E S' t a) (item.ForAny a.set) (one_owner t) whole) (same_ok _ r n.1) (opens a h.1 h.2 (gather_is h.1 a h.3) n.0))
  where
    opens : (a : AnyReceive) (c : Code) (m : Moved S.threads t c) (is : c ≡ gather_at a 0) → (is_set_mode (modes S.threads a.set) ≡ true → modes S.threads a.set ≡ Some Each) →
        let x = entered_any S t a drops (rules.Gather t a.set a.channel) in Opens P S x (λ E S'. Gatherings S x.start E S' t a) (item.ForAny a.set) (one_owner t) whole
    opens a c m is each = record {
      owns = λ u. refl;
      pieces = λ code. refl;
      gives = λ X. refl;
      tidy = λ tidy. tidy_any P S t a c m drops (rules.Gather t a.set a.channel) (gather_fine P S t a c m drops is) (gather_free P S t a c m drops is) (λ us. refl) (set tidy) tidy;
      closes = λ E S' tidy named kept k. (
        gather_is_gathering P S t a c m drops is (set tidy) E S' named kept k tidy,
        names_any P S t a c m drops (rules.Gather t a.set a.channel) (gather_fine P S t a c m drops is) (gather_free P S t a c m drops is) (λ us. refl) (set tidy) E S' named kept k,
        gather_kept P S t a c m drops is (set tidy) E S' named kept k,
      );
    }
      where
        set : Tidy P (reading S) → modes S.threads a.set ≡ Some Each
        set = set_of P S t a c m (λ ds f. (gather_fine P S t a c m drops is ds f).0) each

-- pick t
module _ (P : Program) (S : Symbolic) (t : Name) (a : AnyReceive) (c : Code) (m : Moved S.threads t c) (drops : List Fact) (is : c ≡ any_code a) where
  abbrev pick_entered : Entered
  pick_entered = entered_any S t a drops (rules.Pick a.set)

  pick_fine : (ds : List Decl) → Fine P ds c → (is_set P.roles a.set ≡ true) × Fine P ds (from_focus a) × Fine P ds a.rest
  pick_fine ds f = let h = subst (Fine P ds) is f in (h.0.1, (h.0.0, fine_map P ds (who_with a.binder (who.At a.set)) a.body h.0.2), h.1)

  pick_free : (r : Name) → Free r c → Free r a.body × Free r a.rest
  pick_free r f = subst (Free r) is f

  module _ (set : modes S.threads a.set ≡ Some Each) (E S' : Symbolic) (named : names E.threads ≡ names pick_entered.start.threads) (kept : Kept P (reading pick_entered.start) (reading E)) (k : Closed pick_entered E S') where
    pick_there : AllThere (modes S.threads) (t ∷ [])
    pick_there = there P S t a c m drops (rules.Pick a.set) pick_fine pick_free (λ us. refl) set

    pick_apart : owners (t ∷ []) a.set ≡ false
    pick_apart = not_owner P S t a c m drops (rules.Pick a.set) pick_fine pick_free (λ us. refl) set

    looked : same_name a.set a.set ≡ true
    looked = name_laws.refl a.set

    pick_next : reading S' ≡ after_pick (dropped S drops) t a (reading E)
    pick_next =
        next_any P S t a c m drops (rules.Pick a.set) pick_fine pick_free (λ us. refl) set E S' named kept k
        (λ u. if same_name a.set u then (dropped S drops).facts a.set else fact E.facts u)
        (λ u x. ap (λ (z : Symbolic). fact z.facts u x) (sym k.next)
        ∙ facts_closed P S a.set (t ∷ []) (λ u. from_focus a) (λ u. a.rest) drops (rules.Pick a.set) set pick_there pick_apart E S' named kept k u x
        ∙ facts u x)
      where
        facts : (u x : Name) → (if same_name a.set u then (dropped S drops).facts u x else fact E.facts u x) ≡ (if same_name a.set u then (dropped S drops).facts a.set else fact E.facts u) x
        facts u x =
            elim (same_name a.set u) as (λ b. same_name a.set u ≡ b → (if b then (dropped S drops).facts u x else fact E.facts u x) ≡ (if b then (dropped S drops).facts a.set else fact E.facts u) x) [
              | true ↦ λ e. ap (λ z. (dropped S drops).facts z x) (sym (exact_name a.set u e))
              | false ↦ λ e. refl
            ] refl

    pick_focus : Kept P (record (dropped S drops) { mode = focused (modes S.threads) a.set; code = changed same_name (codes S.threads) t (from_focus a) }) (reading E)
    pick_focus =
        subst (λ (z : Reading). Kept P z (reading E)) (λ i. record (dropped S drops) { mode = focused (modes S.threads) a.set; code = λ u. if_one (same_name t u) (from_focus a) (codes S.threads u) i })
        (kept_any P S t a c m drops (rules.Pick a.set) pick_fine pick_free (λ us. refl) set E S' named kept k)

    pick_kept : Kept P (reading S) (reading S')
    pick_kept =
        subst (Kept P (reading S)) (sym pick_next)
        (kept_then P (reading S) (dropped S drops) _ (kept_weaker P (reading S) (dropped S drops) (drops_weaken S drops))
        (kept_pick P (dropped S drops) a.set t (from_focus a) a.rest (reading E) _ (name_laws.symm t a.set ∙ apart P S t a c m drops (rules.Pick a.set) pick_fine pick_free (λ us. refl) set)
        (λ ds f. let h = pick_fine ds (subst (Fine P ds) m.stands f) in (h.1, h.2))
        (λ r n f. (n, free_with r a.binder a.set a.body n (pick_free r (subst (Free r) m.stands f)).0))
        (λ r f. (pick_free r (subst (Free r) m.stands f)).1)
        pick_focus))

    owner_finished : codes E.threads t ≡ done
    owner_finished = owner_any P S t a c m drops (rules.Pick a.set) pick_fine pick_free (λ us. refl) set E S' named kept k

    pick_is_picking : Tidy P (reading S) → Pickings S pick_entered.start E S' t a
    pick_is_picking tidy = record {
      base = dropped S drops;
      weaker = drops_weaken S drops;
      entry = record { set = set; active = m.active; is = m.stands ∙ is; free = λ u. tidy.closed a.set u set };
      begins = begins_any P S t a c m drops (rules.Pick a.set) pick_fine pick_free (λ us. refl) set;
      exit = record {
        mode = pick_focus.mode;
        owner = owner_finished;
        member_code = stands_still P S a.set (t ∷ []) (λ u. from_focus a) (λ u. a.rest) drops (rules.Pick a.set) set pick_there pick_apart E S' named kept k a.set looked pick_apart;
        mail_from = λ u C. mail_still P S a.set (t ∷ []) (λ u. from_focus a) (λ u. a.rest) drops (rules.Pick a.set) set pick_there pick_apart E S' named kept k (key a.set u C) (ap (λ b. b || same_name a.set u) looked);
        mail_to = λ u C. mail_still P S a.set (t ∷ []) (λ u. from_focus a) (λ u. a.rest) drops (rules.Pick a.set) set pick_there pick_apart E S' named kept k (key u a.set C) (ap (λ b. same_name a.set u || b) looked ∙ or-true (same_name a.set u));
        facts = λ x v e. facts_still P S a.set (t ∷ []) (λ u. from_focus a) (λ u. a.rest) drops (rules.Pick a.set) set pick_there pick_apart E S' named kept k a.set x v looked e;
        free = λ u.
            elim (same_name t u) as (λ b. same_name t u ≡ b → Free a.set (codes E.threads u)) [
              | true ↦ λ e. subst (λ (z : Name). Free a.set (codes E.threads z)) (exact_name t u e) (subst (Free a.set) (sym owner_finished) tt)
              | false ↦ λ e. pick_focus.free a.set u (subst (λ b. Free a.set (if b then from_focus a else codes S.threads u)) (sym e) (tidy.closed a.set u set))
            ] refl;
      };
      next = pick_next;
    }

pub pick_opens : (P : Program) (S : Symbolic) (t : Name) (drops : List Fact) (r : Entered) → enter_pick P S t drops ≡ Ok r →
    (a : AnyReceive) × (is_nonempty P a.set ≡ true) × Opens P S r (λ E S'. Pickings S r.start E S' t a) (item.Pick a.set) (one_owner t) rest_piece
pick_opens P S t drops r e =
    let h = at_head_ok S t any_of _ r e in let a = h.0 in
    let n = not_focused_ok (mode_of (thread_named S.threads a.set)) _ r h.4 in
    let w = when_ok (is_nonempty P a.set) (Side MayBeEmpty) _ r n.1 in
    (a, w.0, subst (λ (z : Entered). Opens P S z (λ E S'. Pickings S z.start E S' t a) (item.Pick a.set) (one_owner t) rest_piece) (same_ok _ r w.1) (opens a h.1 h.2 (any_is h.1 a h.3) n.0))
  where
    opens : (a : AnyReceive) (c : Code) (m : Moved S.threads t c) (is : c ≡ any_code a) → (is_set_mode (modes S.threads a.set) ≡ true → modes S.threads a.set ≡ Some Each) →
        let x = entered_any S t a drops (rules.Pick a.set) in Opens P S x (λ E S'. Pickings S x.start E S' t a) (item.Pick a.set) (one_owner t) rest_piece
    opens a c m is each = record {
      owns = λ u. refl;
      pieces = λ code. refl;
      gives = λ X. refl;
      tidy = λ tidy. tidy_any P S t a c m drops (rules.Pick a.set) (pick_fine P S t a c m drops is) (pick_free P S t a c m drops is) (λ us. refl) (set tidy) tidy;
      closes = λ E S' tidy named kept k. (
        pick_is_picking P S t a c m drops is (set tidy) E S' named kept k tidy,
        names_any P S t a c m drops (rules.Pick a.set) (pick_fine P S t a c m drops is) (pick_free P S t a c m drops is) (λ us. refl) (set tidy) E S' named kept k,
        pick_kept P S t a c m drops is (set tidy) E S' named kept k,
      );
    }
      where
        set : Tidy P (reading S) → modes S.threads a.set ≡ Some Each
        set = set_of P S t a c m (λ ds f. (pick_fine P S t a c m drops is ds f).0) each
