-- The rules of one thread: from the tests of entry and close to what they say of readings.
use Rattle.std.proofs.Common.{◌≡◌, Bool, true, false, List, Option, Some, None, cond, refl, sym, ap, ◌∙◌, subst}
use lib.Pointwise.{pointwise}
use Rattle.std.specs.FinMap.{find}
use Rattle.std.proofs.lemmas.Option.{same_Some}
use Rattle.std.specs.Prelude.{if◌then◌else◌, ◌&&◌, ◌||◌, not, Ok}
use Rattle.brisk_values.specs.declared.value.Value.{Value}
use Rattle.brisk_values.specs.Functions.{changed}
use Rattle.brisk_values.specs.Names.{Name, same_name}
use Rattle.brisk_values.proofs.Changes.{name_laws, exact_name, both_true, changed-other}
use Rattle.brisk_syntax.specs.declared.program.Decl.{Decl}
use Rattle.brisk_syntax.specs.declared.program.Program.{Program}
use Rattle.brisk_syntax.specs.Syntax.{Expression, Statement, If, IfElse, While, Repeat, Code, done, ◌⨾◌, ◌then◌}
use Rattle.brisk_seq.specs.Items.{Items, Item}
use Rattle.brisk_seq.specs.Items as item
use Rattle.brisk_facts.specs.Facts.{Facts, fact, facts_where, joined, agree, common, is_known, place_cmp}
use Rattle.brisk_state.specs.declared.thread.Mode.{Mode}
use Rattle.brisk_state.specs.declared.thread.Mode.TheVariants.{One, At, Each}
use Rattle.brisk_state.specs.declared.thread.Thread.{Thread}
use Rattle.brisk_state.specs.Same.{same_code}
use Rattle.brisk_state.specs.Symbolic.{Symbolic, with_code, same_mode, same_thread, same_but_facts, same_pending, numbers_at}
use Rattle.brisk_derivation.specs.declared.steps.Fact.{Fact}
use Rattle.brisk_derivation.specs.declared.fault.SideFault.TheVariants.{BranchesDiffer}
use Rattle.brisk_rules.specs.declared.why.Why.TheVariants.{Side}
use Rattle.brisk_rules.specs.Heads.{Fork, fork_of, Guarded, while_of, Loop, repeat_of}
use Rattle.brisk_rules.specs.Rules as rules
use Rattle.brisk_rules.specs.Rules.{Outcome, wanted, at_head, without_drops, Everything, looks_at, looks_at_key, looks_at_code, unfocused, Kind, Entered, looks, entered_alone, enter_while, enter_repeat, Parted, around_sides, side, enter_branch, join}
use Rattle.brisk_rules.proofs.Fulfilled.{same_ok, when_ok, at_head_ok, while_is, repeat_is}
use Rattle.brisk_sound.proofs.After.{at_guard}
use Rattle.brisk_sound.proofs.Closing.{Closed, first_none, finished, restored_codes, kept_numbers, kept_facts, not_dropped, facts_after, same_codes, pointwise_same, same_pendings, fact_where, known_is}
use Rattle.brisk_sound.proofs.Control.{Weaker, sides}
use Rattle.brisk_rules.specs.Following.{piece_of, is_owner}
use Rattle.brisk_quiet.specs.Sender.{Piece}
use Rattle.brisk_sound.proofs.Covers.{one_owner, whole}
use Rattle.brisk_sound.proofs.Derives.{Branches, Whiles, Repeats}
use Rattle.brisk_sound.proofs.Fine.{Fine, fine_then}
use Rattle.brisk_sound.proofs.Free.{Free}
use Rattle.brisk_sound.proofs.Kept.{Kept, kept_then, kept_weaker, kept_code, first_of, fine_first, free_then, free_sides, fine_sides, Tidy, tidy_kept}
use Rattle.brisk_sound.proofs.Learnt.{learn_reads}
use Rattle.brisk_sound.proofs.Loops.{Restored}
use Rattle.brisk_rules.proofs.Readings.{Reading, reading, learnt}
use Rattle.brisk_rules.proofs.Threads.{names, modes, codes, names_with_code, modes_with_code, codes_with_code, Moved}

-- A rule that was entered: its owners, and the piece that it puts behind their codes; the loop that it gives; a tidy state before it gives a tidy premise; and its close gives what
-- the step is, the names that threads had, and what steps keep.
pub record Opens (P : Program) (S : Symbolic) (r : Entered) (step : Symbolic → Symbolic → Type 0) (around : Items → Item) (own : Name → Bool) (piece : Code → Piece) : Type 0 where
  pub owns : (u : Name) → is_owner r.owners u ≡ own u
  pub pieces : (code : Code) → piece_of r.kind code ≡ piece code
  pub gives : (X : Items) → rules.around r.kind X ≡ around X
  pub tidy : Tidy P (reading S) → Tidy P (reading r.start)
  pub closes : (E S' : Symbolic) → Tidy P (reading S) → names E.threads ≡ names r.start.threads → Kept P (reading r.start) (reading E) → Closed r E S' →
      step E S' × (names S'.threads ≡ names S.threads) × Kept P (reading S) (reading S')

-- the reading without what is dropped
abbrev pub dropped : Symbolic → List Fact → Reading
dropped S drops = record (reading S) { facts = fact (without_drops drops S.facts) }

pub drops_weaken : (S : Symbolic) (drops : List Fact) → Weaker (reading S) (dropped S drops)
drops_weaken S drops = record { mode = refl; code = refl; pending = refl; facts = λ u x v e. not_dropped drops S.facts u x v e }

-- a rule with one owner and no set in focus
module _ (P : Program) (S : Symbolic) (t : Name) (c : Code) (m : Moved S.threads t c) (body rest : Code) (drops : List Fact) (kind : Kind) (all : looks kind ≡ Everything) where
  abbrev base : Reading
  base = dropped S drops

  abbrev entered : Entered
  entered = entered_alone S t body rest (without_drops drops S.facts) kind

  pub begins_alone : reading entered.start ≡ record base { code = changed same_name base.code t body; facts = fact (rules.learnt kind true (without_drops drops S.facts)) }
  begins_alone = λ i. record { mode = modes_with_code t body S.threads i; code = codes_with_code t body S.threads m.mode m.there i; pending = numbers_at S.pending; facts = fact (rules.learnt kind true (without_drops drops S.facts)) }

  -- such a rule keeps what code doesn't name, as its parts do
  pub kept_alone : (k : Code) (facts : Name → Name → Option Value) → ((ds : List Decl) → Fine P ds c → Fine P ds k) → ((s : Name) → Free s c → Free s k) → Kept P (reading S) record base { code = changed same_name base.code t k; facts = facts }
  kept_alone k facts fine_part part = kept_then P (reading S) base _ (kept_weaker P (reading S) base (drops_weaken S drops)) (kept_code P base t k facts (λ ds f. fine_part ds (subst (Fine P ds) m.stands f)) (λ s f. part s (subst (Free s) m.stands f)))

  module _ (E S' : Symbolic) (named : names E.threads ≡ names entered.start.threads) (kept : Kept P (reading entered.start) (reading E)) (k : Closed entered E S') where
    pub restored_alone : Restored base (reading E) t
    restored_alone = record {
      owner = finished E record { name = t; rest = rest } (first_none _ _ k.finished).0;
      mode = kept.mode ∙ modes_with_code t body S.threads;
      code = λ u e.
          restored_codes (looks_at_code entered) entered.start.threads E.threads k.restored named u (λ i. looks_at (all i) u && not ((name_laws.symm u t ∙ e) i || false))
          ∙ ap (λ (f : Name → Code). f u) (codes_with_code t body S.threads m.mode m.there) ∙ changed-other name_laws (codes S.threads) t body u e;
      pending = λ i q. kept_numbers (looks_at_key (looks kind)) S.pending E.pending k.mail q (ap (λ z. looks_at_key z q) all) i;
      facts = λ u x v e. kept_facts (λ q. looks_at (looks kind) q.0) (without_drops drops S.facts) E.facts k.facts u x v (ap (λ z. looks_at z u) all) e;
    }

    -- the facts that the close tested
    abbrev pub tested : Facts
    tested = joined (facts_where (λ q. looks_at (looks kind) q.0) (without_drops drops S.facts)) (facts_where (λ q. not (looks_at (looks kind) q.0)) E.facts)

    pub tested_is : fact tested ≡ base.facts
    tested_is = λ i u x. (facts_after (looks_at (looks kind)) (without_drops drops S.facts) E.facts u x ∙ ap (λ z. if looks_at z u then base.facts u x else fact E.facts u x) all) i

    pub next_alone : reading S' ≡ record base { code = changed same_name base.code t rest; facts = fact (rules.learnt kind false tested) }
    next_alone =
        sym (ap reading k.next)
        ∙ (λ i. record {
          mode = ((λ j. modes (with_code t rest (unfocused (all j) E.threads))) ∙ modes_with_code t rest E.threads ∙ restored_alone.mode) i;
          code = ((λ j. codes (with_code t rest (unfocused (all j) E.threads))) ∙ codes_with_code t rest E.threads m.mode (ap (λ (f : Name → Option Mode). f t) restored_alone.mode ∙ m.there) ∙ same_rest) i;
          pending = restored_alone.pending i;
          facts = fact (rules.learnt kind false tested);
        })
      where
        same_rest : changed same_name (codes E.threads) t rest ≡ changed same_name base.code t rest
        same_rest = λ i u. at u i
          where
            at : (u : Name) → changed same_name (codes E.threads) t rest u ≡ changed same_name base.code t rest u
            at u = elim (same_name t u) as (λ b. same_name t u ≡ b → (if b then rest else codes E.threads u) ≡ (if b then rest else base.code u)) [ true ↦ λ e. refl | false ↦ λ e. restored_alone.code u e ] refl

    pub names_alone : names S'.threads ≡ names S.threads
    names_alone = ap (λ (z : Symbolic). names z.threads) (sym k.next) ∙ (λ j. names (with_code t rest (unfocused (all j) E.threads))) ∙ names_with_code t rest E.threads ∙ named ∙ names_with_code t body S.threads

-- while t
pub while_opens : (P : Program) (S : Symbolic) (t : Name) (drops : List Fact) (r : Entered) → enter_while S t drops ≡ Ok r →
    (guard : Expression) × Opens P S r (λ E S'. Whiles S r.start E S' t guard) (item.While t guard) (one_owner t) whole
while_opens P S t drops r e =
    let h = at_head_ok S t while_of _ r e in let w = h.0 in let m = h.2 in
    let is : h.1 ≡ While w.guard w.body ⨾ w.rest = while_is h.1 w h.3 in
    let around = item.While t w.guard in
    (w.guard, subst (λ (z : Entered). Opens P S z (λ E S'. Whiles S z.start E S' t w.guard) around (one_owner t) whole) (same_ok _ r h.4) (opens w h.1 m is))
  where
    opens : (w : Guarded) (c : Code) (m : Moved S.threads t c) → c ≡ While w.guard w.body ⨾ w.rest →
        let x = entered_alone S t w.body w.rest (without_drops drops S.facts) (rules.While t w.guard) in
        Opens P S x (λ E S'. Whiles S x.start E S' t w.guard) (item.While t w.guard) (one_owner t) whole
    opens w c m is = record {
      owns = λ u. refl;
      pieces = λ code. refl;
      gives = λ X. refl;
      tidy = λ tidy. tidy_kept P (reading S) _ starts tidy;
      closes = λ E S' tidy named kept k. (
        record {
          base = base P S t c m w.body w.rest drops kind refl;
          weaker = drops_weaken S drops;
          body = w.body;
          rest = w.rest;
          active = m.active;
          is = m.stands ∙ is;
          begins = begins;
          restored = restored_alone P S t c m w.body w.rest drops kind refl E S' named kept k;
          next = next E S' named kept k;
        },
        names_alone P S t c m w.body w.rest drops kind refl E S' named kept k,
        subst (Kept P (reading S)) (sym (next E S' named kept k)) (kept_alone P S t c m w.body w.rest drops kind refl w.rest _ (λ ds f. (subst (Fine P ds) is f).1) (λ s f. (subst (Free s) is f).1)),
      );
    }
      where
        kind : Kind
        kind = rules.While t w.guard

        begins : reading (entered_alone S t w.body w.rest (without_drops drops S.facts) kind).start ≡ at_guard (dropped S drops) t w.guard true w.body
        begins =
            begins_alone P S t c m w.body w.rest drops kind refl
            ∙ (λ i. record (dropped S drops) { code = changed same_name (codes S.threads) t w.body; facts = learn_reads t w.guard true (without_drops drops S.facts) i })

        starts : Kept P (reading S) (reading (entered_alone S t w.body w.rest (without_drops drops S.facts) kind).start)
        starts = subst (Kept P (reading S)) (sym begins) (kept_alone P S t c m w.body w.rest drops kind refl w.body _ (λ ds f. (subst (Fine P ds) is f).0.1) (λ s f. (subst (Free s) is f).0))

        next : (E S' : Symbolic) (named : names E.threads ≡ names (entered_alone S t w.body w.rest (without_drops drops S.facts) kind).start.threads)
            (kept : Kept P (reading (entered_alone S t w.body w.rest (without_drops drops S.facts) kind).start) (reading E))
            (k : Closed (entered_alone S t w.body w.rest (without_drops drops S.facts) kind) E S') → reading S' ≡ at_guard (dropped S drops) t w.guard false w.rest
        next E S' named kept k =
            next_alone P S t c m w.body w.rest drops kind refl E S' named kept k
            ∙ (λ i. record (dropped S drops) {
              code = changed same_name (codes S.threads) t w.rest;
              facts = (learn_reads t w.guard false (tested P S t c m w.body w.rest drops kind refl E S' named kept k)
                  ∙ (λ j. let known = tested_is P S t c m w.body w.rest drops kind refl E S' named kept k j in changed same_name known t (learnt (known t) w.guard false))) i;
            })

-- repeat t
pub repeat_opens : (P : Program) (S : Symbolic) (t : Name) (drops : List Fact) (r : Entered) → enter_repeat S t drops ≡ Ok r →
    (s : Name) × Opens P S r (λ E S'. Repeats S r.start E S' t s) (item.Repeat s) (one_owner t) whole
repeat_opens P S t drops r e =
    let h = at_head_ok S t repeat_of _ r e in let l = h.0 in
    (l.set, subst (λ (z : Entered). Opens P S z (λ E S'. Repeats S z.start E S' t l.set) (item.Repeat l.set) (one_owner t) whole) (same_ok _ r h.4) (opens l h.1 h.2 (repeat_is h.1 l h.3)))
  where
    opens : (l : Loop) (c : Code) (m : Moved S.threads t c) → c ≡ Repeat l.set 0 l.body ⨾ l.rest →
        let x = entered_alone S t l.body l.rest (without_drops drops S.facts) (rules.Repeat l.set) in
        Opens P S x (λ E S'. Repeats S x.start E S' t l.set) (item.Repeat l.set) (one_owner t) whole
    opens l c m is = record {
      owns = λ u. refl;
      pieces = λ code. refl;
      gives = λ X. refl;
      tidy = λ tidy. tidy_kept P (reading S) _ (subst (Kept P (reading S)) (sym (begins_alone P S t c m l.body l.rest drops kind refl)) (kept_alone P S t c m l.body l.rest drops kind refl l.body _ (λ ds f. (subst (Fine P ds) is f).0.1) (λ s f. (subst (Free s) is f).0))) tidy;
      closes = λ E S' tidy named kept k. (
        record {
          base = base P S t c m l.body l.rest drops kind refl;
          weaker = drops_weaken S drops;
          body = l.body;
          rest = l.rest;
          active = m.active;
          is = m.stands ∙ is;
          begins = begins_alone P S t c m l.body l.rest drops kind refl;
          restored = restored_alone P S t c m l.body l.rest drops kind refl E S' named kept k;
          next = next E S' named kept k;
        },
        names_alone P S t c m l.body l.rest drops kind refl E S' named kept k,
        subst (Kept P (reading S)) (sym (next E S' named kept k)) (kept_alone P S t c m l.body l.rest drops kind refl l.rest _ (λ ds f. (subst (Fine P ds) is f).1) (λ s f. (subst (Free s) is f).1)),
      );
    }
      where
        kind : Kind
        kind = rules.Repeat l.set

        next : (E S' : Symbolic) (named : names E.threads ≡ names (entered_alone S t l.body l.rest (without_drops drops S.facts) kind).start.threads)
            (kept : Kept P (reading (entered_alone S t l.body l.rest (without_drops drops S.facts) kind).start) (reading E))
            (k : Closed (entered_alone S t l.body l.rest (without_drops drops S.facts) kind) E S') → reading S' ≡ record (dropped S drops) { code = changed same_name (codes S.threads) t l.rest }
        next E S' named kept k =
            next_alone P S t c m l.body l.rest drops kind refl E S' named kept k
            ∙ (λ i. record (dropped S drops) { code = changed same_name (codes S.threads) t l.rest; facts = tested_is P S t c m l.body l.rest drops kind refl E S' named kept k i })

-- an if: its ways, where its sides start
pub record Forked (c : Code) (f : Fork) : Type 0 where
  pub statement : Statement
  pub first : Code
  pub second : Code
  pub rest : Code
  pub is : c ≡ statement ⨾ rest
  pub two : sides statement ≡ Some (f.guard, first, second)
  pub first_is : f.first ≡ first then rest
  pub second_is : f.second ≡ second then rest

fork_is : (c : Code) (f : Fork) → fork_of c ≡ Some f → Forked c f
fork_is (If e a ⨾ rest) f h =
    let p = same_Some _ f h in
    record { statement = If e a; first = a; second = done; rest = rest; is = refl; two = λ i. Some ((p i).guard, a, done); first_is = λ i. (sym p i).first; second_is = λ i. (sym p i).second }
fork_is (IfElse e a b ⨾ rest) f h =
    let p = same_Some _ f h in
    record { statement = IfElse e a b; first = a; second = b; rest = rest; is = refl; two = λ i. Some ((p i).guard, a, b); first_is = λ i. (sym p i).first; second_is = λ i. (sym p i).second }
fork_is c f h = cc

same_modes : (m n : Mode) → same_mode m n ≡ true → m ≡ n
same_modes One One e = refl
same_modes At At e = refl
same_modes Each Each e = refl
same_modes m n e = cc

same_threads : (x y : Thread) → same_thread x y ≡ true → x ≡ y
same_threads x y e =
    let h = both_true (same_name x.name y.name && same_mode x.mode y.mode) (same_code x.code y.code) e in let g = both_true (same_name x.name y.name) (same_mode x.mode y.mode) h.0 in
    λ i. record { name = exact_name x.name y.name g.0 i; mode = same_modes x.mode y.mode g.1 i; code = same_codes x.code y.code h.1 i }

-- facts that two have are facts of each
common_facts : (F G : Facts) (u x : Name) (v : Value) → fact (common F G) u x ≡ Some v → (fact F u x ≡ Some v) × (fact G u x ≡ Some v)
common_facts F G u x v e = by (fact F u x) (fact G u x) (sym (fact_where (λ q. agree (find place_cmp q F) (find place_cmp q G)) F u x) ∙ e)
  where
    by : (o p : Option Value) → cond (agree o p) o None ≡ Some v → (o ≡ Some v) × (p ≡ Some v)
    by None p e = cc
    by (Some w) p e =
        elim (is_known p w) as (λ b. is_known p w ≡ b → cond b (Some w) None ≡ Some v → (Some w ≡ Some v) × (p ≡ Some v)) [
          | true ↦ λ k g. (g, known_is p w k ∙ g)
          | false ↦ λ k g. cc
        ] refl e

-- branch t
pub record Parts (P : Program) (S : Symbolic) (r : Parted) (t : Name) (guard : Expression) : Type 0 where
  pub gives : (X Y : Items) → around_sides r X Y ≡ item.If t guard X Y
  pub tidy : Tidy P (reading S) → Tidy P (reading r.first)
  pub tidy_second : Tidy P (reading S) → Tidy P (reading r.second)
  pub named : names r.second.threads ≡ names S.threads
  pub joins : (E F S' : Symbolic) → names E.threads ≡ names r.first.threads → Kept P (reading r.first) (reading E) → join E F ≡ Ok S' →
      Branches S r.first r.second E F S' t guard × (names S'.threads ≡ names S.threads) × Kept P (reading S) (reading S')

pub branch_parts : (P : Program) (S : Symbolic) (t : Name) (r : Parted) → enter_branch S t ≡ Ok r → (guard : Expression) × Parts P S r t guard
branch_parts P S t r e =
    let h = at_head_ok S t fork_of _ r e in
    (h.0.guard, subst (λ (z : Parted). Parts P S z t h.0.guard) (same_ok _ r h.4) (parts h.0 h.1 h.2 (fork_is h.1 h.0 h.3)))
  where
    parts : (f : Fork) (c : Code) (m : Moved S.threads t c) → Forked c f → Parts P S record { first = side S t f.guard true f.first; second = side S t f.guard false f.second; owner = t; guard = f.guard } t f.guard
    parts f c m k = record {
      gives = λ X Y. refl;
      tidy = λ tidy. tidy_kept P (reading S) _ (starts true f.first k.first k.first_is (λ ds g. g.0) (λ s g. g.0)) tidy;
      tidy_second = λ tidy. tidy_kept P (reading S) _ (starts false f.second k.second k.second_is (λ ds g. g.1) (λ s g. g.1)) tidy;
      named = names_with_code t f.second S.threads;
      joins = joins;
    }
      where
        begins : (b : Bool) (code way : Code) → code ≡ way then k.rest → reading (side S t f.guard b code) ≡ at_guard (reading S) t f.guard b (way then k.rest)
        begins b code way is = λ i. record {
          mode = modes_with_code t code S.threads i;
          code = (codes_with_code t code S.threads m.mode m.there ∙ (λ j. changed same_name (codes S.threads) t (is j))) i;
          pending = numbers_at S.pending;
          facts = learn_reads t f.guard b S.facts i;
        }

        starts : (b : Bool) (code way : Code) → code ≡ way then k.rest → ((ds : List Decl) → Fine P ds k.first × Fine P ds k.second → Fine P ds way) → ((s : Name) → Free s k.first × Free s k.second → Free s way) → Kept P (reading S) (reading (side S t f.guard b code))
        starts b code way is fine_part part =
            subst (Kept P (reading S)) (sym (begins b code way is))
            (kept_code P (reading S) t (way then k.rest) _ (λ ds g.
            let h = fine_first P ds t (codes S.threads) k.statement k.rest (m.stands ∙ k.is) g in fine_then P ds way k.rest (fine_part ds (fine_sides P ds k.statement f.guard k.first k.second k.two h.0)) h.1) (λ s g.
            let h = first_of s t (codes S.threads) k.statement k.rest (m.stands ∙ k.is) g in free_then s way k.rest (part s (free_sides s k.statement f.guard k.first k.second k.two h.0)) h.1))

        joins : (E F S' : Symbolic) → names E.threads ≡ names (side S t f.guard true f.first).threads → Kept P (reading (side S t f.guard true f.first)) (reading E) → join E F ≡ Ok S' →
            Branches S (side S t f.guard true f.first) (side S t f.guard false f.second) E F S' t f.guard × (names S'.threads ≡ names S.threads) × Kept P (reading S) (reading S')
        joins E F S' named kept e =
            let w = when_ok (same_but_facts E F) (Side BranchesDiffer) _ S' e in
            let b = both_true (pointwise same_thread E.threads F.threads) (same_pending E.pending F.pending) w.0 in
            let threads = pointwise_same same_thread same_threads E.threads F.threads b.0 in
            let pending = same_pendings E.pending F.pending b.1 in
            let next : record E { facts = common E.facts F.facts } ≡ S' = same_ok _ S' w.1 in
            let first : Weaker (reading E) (reading record E { facts = common E.facts F.facts }) = record { mode = refl; code = refl; pending = refl; facts = λ u x v g. (common_facts E.facts F.facts u x v g).0 } in
            let second : Weaker (reading F) (reading record E { facts = common E.facts F.facts }) = record {
              mode = λ i. modes (threads i);
              code = λ i. codes (threads i);
              pending = λ i. numbers_at (pending i);
              facts = λ u x v g. (common_facts E.facts F.facts u x v g).1;
            } in
            subst (λ (z : Symbolic). Branches S (side S t f.guard true f.first) (side S t f.guard false f.second) E F z t f.guard × (names z.threads ≡ names S.threads) × Kept P (reading S) (reading z)) next (
              record {
                statement = k.statement;
                first = k.first;
                second = k.second;
                rest = k.rest;
                active = m.active;
                is = m.stands ∙ k.is;
                two = k.two;
                begins = begins true f.first k.first k.first_is;
                begins_second = begins false f.second k.second k.second_is;
                ends = first;
                ends_second = second;
              },
              named ∙ names_with_code t f.first S.threads,
              kept_then P (reading S) (reading (side S t f.guard true f.first)) _ (starts true f.first k.first k.first_is (λ ds g. g.0) (λ s g. g.0)) (kept_then P (reading (side S t f.guard true f.first)) (reading E) _ kept (kept_weaker P (reading E) _ first)),
            )
