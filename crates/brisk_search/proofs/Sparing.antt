-- A search keeps each fact on what its threads' codes spare.
use Rattle.std.proofs.Common.{◌≡◌, ℕ, zero, suc, Bool, true, false, List, [], ◌∷◌, ◌++◌, map, Option, Some, None, cond, refl, sym, ap, ◌∙◌, subst}
use Rattle.std.specs.Prelude.{Ok, Err, ◌&&◌, not, if◌then◌else◌, nat_le}
use Rattle.std.specs.FinMap.{find}
use Rattle.std.proofs.lemmas.Option.{same_Some}
use Rattle.brisk_values.specs.declared.value.Value.{Value}
use Rattle.brisk_values.specs.Names.{Name}
use Rattle.brisk_values.proofs.Changes.{exact_name}
use Rattle.brisk_syntax.specs.declared.program.Program.{Program}
use Rattle.brisk_syntax.specs.Syntax.{Expression, Assign, If, IfElse, While, Code, ◌⨾◌, ◌then◌}
use Rattle.brisk_seq.specs.Items.{Items, nothing, ◌⨟◌}
use Rattle.brisk_facts.specs.Facts.{place_cmp, fact, agree}
use Rattle.brisk_facts.specs.Learning.{folded}
use Rattle.brisk_state.specs.Symbolic.{Symbolic, key, code_at, numbers_at, is_in_use, same_but_facts}
use Rattle.brisk_basic.specs.declared.rule.RuleFault.TheVariants.{BoxInUse}
use Rattle.brisk_basic.specs.declared.rule.Basic.{Basic}
use Rattle.brisk_basic.specs.declared.rule.Basic.TheVariants as rule
use Rattle.brisk_basic.specs.Basic.{Applied, apply, at_thread, sends, receives, assign, fill, pass, take, decided, known}
use Rattle.brisk_derivation.specs.declared.fault.SideFault.TheVariants.{BranchesDiffer}
use Rattle.brisk_derivation.specs.declared.steps.BasicStep.{BasicStep}
use Rattle.brisk_derivation.specs.declared.steps.Fact.{Fact}
use Rattle.brisk_derivation.specs.Steps.{Step, Basic as BasicOne, Branch, Steps}
use Rattle.brisk_rules.specs.declared.why.Why.{Why}
use Rattle.brisk_rules.specs.declared.why.Why.TheVariants.{Rule as BasicFault, Side}
use Rattle.brisk_rules.specs.Derives.{apply_quietly, rule_of, items_in}
use Rattle.brisk_rules.specs.Heads.{Fork, fork_of}
use Rattle.brisk_rules.specs.Rules as rules
use Rattle.brisk_rules.specs.Rules.{around_sides, Outcome, Entered, Parted, side, close, enter_branch, join}
use Rattle.brisk_rules.specs.Standing.{stands_at}
use Rattle.brisk_sound.proofs.Applied.{at_code, applies}
use Rattle.brisk_sound.proofs.Closing.{closed, fact_where}
use Rattle.brisk_rules.proofs.Fulfilled.{same_ok, when_ok, at_head_ok}
use Rattle.brisk_rules.specs.Following.{Follow}
use Rattle.brisk_sound.proofs.Strict.{quietly_ok}
use Rattle.brisk_search.specs.Turns.{RulesLeft, Failures, Turn, Goes, Stays, Attempt, stay, where_it_stays, ◌otherwise◌, due}
use Rattle.brisk_search.specs.Turns as turn
use Rattle.brisk_search.specs.Drives.{Drive, Way, Driven, Reached, Stuck, Driver, premise_of}
use Rattle.brisk_search.specs.Drives as drive
use Rattle.brisk_search.specs.Tries.{Rule, entered, refused, closed as closes_with, driven, once, tries, at_risk, with_lost, joined, second_driven, first_driven, branch, variables_of, touched_by, touched_in}
use Rattle.brisk_search.specs.Advance.{Around, applied, basically}
use Rattle.brisk_search.specs.Passes.{Sides, driver, rounds, round, after_round, after_step, enough, here}
use Rattle.brisk_search.proofs.Begins.{Begins, DropsSpare, while_begins, repeat_begins, for_begins, gather_begins, pick_begins, start_spared, close_spared, close_sorted, known_sorted, spares_with_code, learn_spares}
use Rattle.brisk_search.proofs.Heads.{IsRule, is_while, is_for, is_repeat, is_gather, is_pick, Holds, in_round}
use Rattle.brisk_search.proofs.Lost.{Fit, fit_spared, with_lost_spares, at_risk_spares, is_fact_there}
use Rattle.brisk_search.proofs.Sorted.{Sorted, sorted_where, sorted_value, sorted_values, sorted_without, sorted_learn}
use Rattle.brisk_search.proofs.Spares.{Lacks, lacks_both, Spares, spares_then, Spared, spared_itself, spared_then, basic_spared}

-- basic rules keep facts in order
module _ (S : Symbolic) (sorted : Sorted S.facts) where
  assign_sorted : (t : Name) (c : Code) (r : Applied) → assign S t c ≡ Ok r → Sorted r.next.facts
  assign_sorted t (Assign x e ⨾ rest) r g = subst (λ (z : Applied). Sorted z.next.facts) (same_ok _ r g) (sorted_value t x (folded S.facts t e) S.facts sorted)
  assign_sorted t c r g = cc

  fill_sorted : (t u c : Name) (n : ℕ) (o : Option (List Expression × Code)) (r : Applied) → fill S t u c n o ≡ Ok r → Sorted r.next.facts
  fill_sorted t u c n None r g = cc
  fill_sorted t u c n (Some s) r g =
      let k = when_ok (nat_le 1 n && nat_le n 1000000 && not (is_in_use S.pending n)) BoxInUse _ r g in subst (λ (z : Applied). Sorted z.next.facts) (same_ok _ r k.1) sorted

  take_sorted : (t u c : Name) (o : Option (List Name × Code)) (ns : List ℕ) (r : Applied) → take S t u c o ns ≡ Ok r → Sorted r.next.facts
  take_sorted t u c None ns r g = cc
  take_sorted t u c (Some p) [] r g = cc
  take_sorted t u c (Some p) (n ∷ ns) r g = subst (λ (z : Applied). Sorted z.next.facts) (same_ok _ r g) (sorted_without u p.0 S.facts sorted)

  pass_sorted : (t u : Name) (o : Option (List Expression × Code)) (p : Option (List Name × Code)) (ns : List ℕ) (r : Applied) → pass S t u o p ns ≡ Ok r → Sorted r.next.facts
  pass_sorted t u (Some s) (Some p) [] r g = subst (λ (z : Applied). Sorted z.next.facts) (same_ok _ r g) (sorted_values u p.0 (map (folded S.facts t) s.0) S.facts sorted)
  pass_sorted t u (Some s) (Some p) (n ∷ ns) r g = cc
  pass_sorted t u (Some s) None ns r g = cc
  pass_sorted t u None p ns r g = cc

  decided_sorted : (t : Name) (o : Option Value) (a b : Code) (r : Applied) → decided S t o a b ≡ Ok r → Sorted r.next.facts
  decided_sorted t None a b r g = cc
  decided_sorted t (Some v) a b r g = subst (λ (z : Applied). Sorted z.next.facts) (same_ok _ r g) sorted

  known_sorts : (t : Name) (c : Code) (r : Applied) → known S t c ≡ Ok r → Sorted r.next.facts
  known_sorts t (If e a ⨾ rest) r g = decided_sorted t (folded S.facts t e) (a then rest) rest r g
  known_sorts t (IfElse e a b ⨾ rest) r g = decided_sorted t (folded S.facts t e) (a then rest) (b then rest) r g
  known_sorts t (While e b ⨾ rest) r g = decided_sorted t (folded S.facts t e) (b then (While e b ⨾ rest)) rest r g
  known_sorts t c r g = cc

  pub apply_sorted : (b : Basic) (r : Applied) → apply S b ≡ Ok r → Sorted r.next.facts
  apply_sorted (rule.Assign t) r g = let x = at_code (code_at S t) (assign S t) r g in assign_sorted t x.0 r x.2
  apply_sorted (rule.Fill t u c n) r g = let x = at_code (code_at S t) (λ code. fill S t u c n (sends S u c code)) r g in fill_sorted t u c n (sends S u c x.0) r x.2
  apply_sorted (rule.Pass t u c) r g =
      let x = at_code (code_at S t) (λ code. at_thread (code_at S u) (λ other. pass S t u (sends S u c code) (receives S t c other) (numbers_at S.pending (key t u c)))) r g in
      let y = at_code (code_at S u) (λ other. pass S t u (sends S u c x.0) (receives S t c other) (numbers_at S.pending (key t u c))) r x.2 in
      pass_sorted t u (sends S u c x.0) (receives S t c y.0) (numbers_at S.pending (key t u c)) r y.2
  apply_sorted (rule.Take t u c) r g = let x = at_code (code_at S u) (λ code. take S t u c (receives S t c code) (numbers_at S.pending (key t u c))) r g in take_sorted t u c (receives S t c x.0) (numbers_at S.pending (key t u c)) r x.2
  apply_sorted (rule.Known t) r g = let x = at_code (code_at S t) (known S t) r g in known_sorts t x.0 r x.2

-- from one state to the next
abbrev pub Kept : Symbolic → Symbolic → Type 0
Kept S E = Spared S E × Sorted E.facts

-- where the premise of a rule starts
pub rule_begins : (P : Program) (F : Follow) (S : Symbolic) (rule : Rule) → IsRule P F S rule → (drops : List Fact) (r : Entered) → rule.enter drops ≡ Ok r → Begins S drops r
rule_begins P F S _ (is_while t) drops r e = while_begins S t drops r e
rule_begins P F S _ (is_for t s ts busy) drops r e = for_begins S s ts drops r e
rule_begins P F S _ (is_repeat t) drops r e = repeat_begins S t drops r e
rule_begins P F S _ (is_gather t) drops r e = gather_begins S t drops r e
rule_begins P F S _ (is_pick t) drops r e = pick_begins P S t drops r e

module _ (P : Program) where
  abbrev pub TurnKeeps : Symbolic → Turn → Type 0
  TurnKeeps S (Goes step items next left) = Kept S next
  TurnKeeps S (Stays failures left) = Unit {0}
  TurnKeeps S turn.Spent = Unit {0}

  abbrev pub AttemptKeeps : Symbolic → Attempt → Type 0
  AttemptKeeps S attempt = Fit P S → (failures : Failures) (left : RulesLeft) → TurnKeeps S (attempt failures left)

  abbrev pub DriveKeeps : Symbolic → Driven → Type 0
  DriveKeeps S (Reached w left) = Kept S w.end
  DriveKeeps S (Stuck w ts left) = Unit {0}
  DriveKeeps S drive.Spent = Unit {0}

  abbrev pub DriverKeeps : Driver → Type 0
  DriverKeeps driver = (F : Follow) (d : Drive) (S : Symbolic) (left : RulesLeft) → Fit P S → DriveKeeps S (driver F d S left)

  abbrev pub BelowKeeps : Option Driver → Type 0
  BelowKeeps None = Unit {0}
  BelowKeeps (Some driver) = DriverKeeps driver

  either : (S : Symbolic) (attempt next : Attempt) → AttemptKeeps S attempt → AttemptKeeps S next → AttemptKeeps S (attempt otherwise next)
  either S attempt next a b fit failures left = go (attempt failures left) (a fit failures left)
    where
      go : (t : Turn) → TurnKeeps S t → TurnKeeps S (where_it_stays next t)
      go (Goes step items next left) k = k
      go (Stays fs l) k = b fit fs l
      go turn.Spent k = tt

  when_due : (S next : Symbolic) (step : Step) (items : Items) → Kept S next → (left : RulesLeft) → TurnKeeps S (due left (Goes step items next))
  when_due S next step items k None = k
  when_due S next step items k (Some zero) = tt
  when_due S next step items k (Some (suc n)) = k

  basic_keeps : (around : Around) (S : Symbolic) (b : BasicStep) → AttemptKeeps S (basically around S b)
  basic_keeps around S b fit failures left = go (apply_quietly around.program around.follows S (rule_of b)) refl
    where
      go : (o : Outcome Applied) → apply_quietly around.program around.follows S (rule_of b) ≡ o → TurnKeeps S (applied b o failures left)
      go (Ok r) e = when_due S r.next (BasicOne b) (items_in r.statement) (basic_spared S r (rule_of b) (applies S (rule_of b) r (quietly_ok around.program around.follows S (rule_of b) r e)), apply_sorted S fit.sorted (rule_of b) r (quietly_ok around.program around.follows S (rule_of b) r e)) left
      go (Err why) e = tt

  refuse : (S : Symbolic) (t : Name) (step : Step) (why : Why) (failures : Failures) (left : RulesLeft) → TurnKeeps S (refused t step why failures left)
  refuse S t step (Side why) failures left = tt
  refuse S t step (BasicFault why) failures left = tt

  pub start_fit : (S : Symbolic) (drops : List Fact) (r : Entered) → Begins S drops r → DropsSpare S drops → Fit P S → Fit P r.start
  start_fit S drops r b d fit = fit_spared P S r.start fit (start_spared S drops r b d) (b.sorted (known_sorted S drops r b fit.sorted))

  once_keeps : (F : Follow) (S : Symbolic) (rule : Rule) → IsRule P F S rule → Fit P S → (below : Option Driver) → BelowKeeps below → (again : Entered → Symbolic → Attempt) (drops : List Fact) → DropsSpare S drops →
      ((r : Entered) → rule.enter drops ≡ Ok r → (E : Symbolic) → Kept r.start E → (failures : Failures) (left : RulesLeft) → TurnKeeps S (again r E failures left)) →
      (failures : Failures) (left : RulesLeft) → TurnKeeps S (once below again rule drops failures left)
  once_keeps F S rule is fit None b again drops d h failures left = tt
  once_keeps F S rule is fit (Some driver) b again drops d h failures left = go (rule.enter drops) refl
    where
      closing : (r : Entered) (w : Way) (left : RulesLeft) → Begins S drops r → Kept r.start w.end → ((failures : Failures) (left : RulesLeft) → TurnKeeps S (again r w.end failures left)) → (o : Outcome Symbolic) → close r w.end ≡ o →
          TurnKeeps S (closes_with (again r w.end) (rule.step drops w.steps) (rules.around r.kind w.items ⨟ nothing) o failures left)
      closing r w left begins (k, sorted) more (Ok S') e =
          when_due S S' (rule.step drops w.steps) (rules.around r.kind w.items ⨟ nothing) (subst (Kept S) (closed r w.end S' e).next (close_spared S drops r begins d w.end k, close_sorted S drops r begins w.end sorted)) left
      closing r w left begins k more (Err why) e = more failures left

      driving : (r : Entered) → rule.enter drops ≡ Ok r → (o : Driven) → DriveKeeps r.start o → TurnKeeps S (driven again rule drops r o failures)
      driving r e (Reached w left) k = closing r w left (rule_begins P F S rule is drops r e) k (h r e w.end k) (close r w.end) refl
      driving r e (Stuck w ts left) k = tt
      driving r e drive.Spent k = tt

      go : (o : Outcome Entered) → rule.enter drops ≡ o → TurnKeeps S (entered (Some driver) o (λ why. refused rule.at (rule.step drops Steps.no_steps) why failures left) (λ below r. driven again rule drops r (below (rule.follows r) (premise_of r) r.start left) failures))
      go (Ok r) e = driving r e (driver (rule.follows r) (premise_of r) r.start left) (b (rule.follows r) (premise_of r) r.start left (start_fit S drops r (rule_begins P F S rule is drops r e) d fit))
      go (Err why) e = refuse S rule.at (rule.step drops Steps.no_steps) why failures left

  tries_keep : (F : Follow) (S : Symbolic) (rule : Rule) → IsRule P F S rule → Fit P S → (below : Option Driver) → BelowKeeps below → (n : ℕ) (drops : List Fact) → DropsSpare S drops → (failures : Failures) (left : RulesLeft) →
      TurnKeeps S (tries P below S rule n drops failures left)
  tries_keep F S rule is fit below b zero drops d = once_keeps F S rule is fit below b (λ r E. stay) (at_risk P S) (at_risk_spares P S) (λ r e E k failures left. tt)
  tries_keep F S rule is fit below b (suc n) drops d =
      once_keeps F S rule is fit below b (λ r E. tries P below S rule n (with_lost P r E drops)) drops d (λ r e E k.
      tries_keep F S rule is fit below b n (with_lost P r E drops) (with_lost_spares P S drops r (rule_begins P F S rule is drops r e) fit.sorted d E k.0))

  fork_parts : (c : Code) (f : Fork) → fork_of c ≡ Some f → (x : Name) → Spares c x → Lacks (variables_of f.guard) x × Spares f.first x × Spares f.second x
  fork_parts (If g a ⨾ rest) f h x k =
      let (m, l) = lacks_both (touched_by (If g a)) (touched_in rest) x k in let (y, z) = lacks_both (variables_of g) (touched_in a) x m in
      subst (λ (d : Fork). Lacks (variables_of d.guard) x × Spares d.first x × Spares d.second x) (same_Some _ f h) (y, spares_then a rest x z l, l)
  fork_parts (IfElse g a b ⨾ rest) f h x k =
      let (m, l) = lacks_both (touched_by (IfElse g a b)) (touched_in rest) x k in let (y, z) = lacks_both (variables_of g ++ touched_in a) (touched_in b) x m in
      let (y', w) = lacks_both (variables_of g) (touched_in a) x y in
      subst (λ (d : Fork). Lacks (variables_of d.guard) x × Spares d.first x × Spares d.second x) (same_Some _ f h) (y', spares_then a rest x w l, spares_then b rest x z l)
  fork_parts c f h x k = cc

  side_keeps : (S : Symbolic) (t : Name) (e : Expression) (truth : Bool) (code : Code) → ((x : Name) → Spares (stands_at S t) x → Lacks (variables_of e) x × Spares code x) → Sorted S.facts → Kept S (side S t e truth code)
  side_keeps S t e truth code h sorted = (
    record {
      code = λ u x s. spares_with_code t code S.threads u x s (λ q. (h x (subst (λ z. Spares (stands_at S z) x) (sym (exact_name t u q)) s)).1);
      facts = learn_spares t S.facts e truth (stands_at S) (λ x s. (h x s).0);
    },
    sorted_learn t S.facts e truth sorted,
  )

  pub sides_keep : (S : Symbolic) (t : Name) (p : Parted) → enter_branch S t ≡ Ok p → Sorted S.facts → Kept S p.first × Kept S p.second
  sides_keep S t p e sorted =
      let (f, c, m, is, goes) = at_head_ok S t fork_of _ p e in
      let parts : (x : Name) → Spares (stands_at S t) x → Lacks (variables_of f.guard) x × Spares f.first x × Spares f.second x = λ x s. fork_parts c f is x (subst (λ z. Spares z x) m.stands s) in
      subst (λ (z : Parted). Kept S z.first × Kept S z.second) (same_ok _ p goes)
      (side_keeps S t f.guard true f.first (λ x s. let q = parts x s in (q.0, q.1)) sorted, side_keeps S t f.guard false f.second (λ x s. let q = parts x s in (q.0, q.2)) sorted)

  join_keeps : (S E F S' : Symbolic) → Kept S E → Kept S F → join E F ≡ Ok S' → Kept S S'
  join_keeps S E F S' (k, sorted) (l, sorted') e =
      let w = when_ok (same_but_facts E F) (Side BranchesDiffer) _ S' e in
      subst (Kept S) (same_ok _ S' w.1) (
        record {
          code = k.code;
          facts = λ u x v s is.
              fact_where (λ q. agree (find place_cmp q E.facts) (find place_cmp q F.facts)) E.facts u x
              ∙ ap (λ b. cond b (fact E.facts u x) None) (ap (λ o. agree o (fact F.facts u x)) (k.facts u x v s is) ∙ is_fact_there F.facts (u, x) v (l.facts u x v s is)) ∙ k.facts u x v s is;
        },
        sorted_where _ E.facts sorted,
      )

  joins : (S : Symbolic) (t : Name) (p : Parted) (a c : Way) → Kept S a.end → Kept S c.end → (o : Outcome Symbolic) → join a.end c.end ≡ o → (failures : Failures) (left : RulesLeft) → TurnKeeps S (joined t p a c o failures left)
  joins S t p a c k l (Ok S') e failures left = when_due S S' (Branch t a.steps c.steps) (around_sides p a.items c.items ⨟ nothing) (join_keeps S a.end c.end S' k l e) left
  joins S t p a c k l (Err why) e failures left = refuse S t (Branch t a.steps c.steps) why failures left

  further : (S E F : Symbolic) → Kept S E → Kept E F → Kept S F
  further S E F (k, x) (l, y) = (spared_then S E F k l, y)

  branch_keeps : (S : Symbolic) (t : Name) (F : Follow) (d : Drive) (below : Option Driver) → BelowKeeps below → AttemptKeeps S (branch below F d S t)
  branch_keeps S t F d None b fit failures left = tt
  branch_keeps S t F d (Some driver) b fit failures left = go (enter_branch S t) refl
    where
      second : (p : Parted) (a : Way) → Kept S a.end → Kept S p.second → (o : Driven) → DriveKeeps p.second o → TurnKeeps S (second_driven t p a o failures)
      second p a k l (Reached c left) m = joins S t p a c k (further S p.second c.end l m) (join a.end c.end) refl failures left
      second p a k l (Stuck c ts left) m = tt
      second p a k l drive.Spent m = tt

      first : (p : Parted) → Kept S p.first → Kept S p.second → (o : Driven) → DriveKeeps p.first o → TurnKeeps S (first_driven driver F d t p o failures)
      first p k l (Reached a left) m = second p a (further S p.first a.end k m) l (driver F d p.second left) (b F d p.second left (fit_spared P S p.second fit l.0 l.1))
      first p k l (Stuck a ts left) m = tt
      first p k l drive.Spent m = tt

      go : (o : Outcome Parted) → enter_branch S t ≡ o → TurnKeeps S (entered (Some driver) o (λ why. refused t (Branch t Steps.no_steps Steps.no_steps) why failures left) (λ below p. first_driven below F d t p (below F d p.first left) failures))
      go (Ok p) e = let (k, l) = sides_keep S t p e fit.sorted in first p k l (driver F d p.first left) (b F d p.first left (fit_spared P S p.first fit k.0 k.1))
      go (Err why) e = refuse S t (Branch t Steps.no_steps Steps.no_steps) why failures left

  module _ (below : Option Driver) (b : BelowKeeps below) (side : Name → Code → Drive) (F : Follow) where
    abbrev around : Around
    around = record { program = P; below = below; side = side; follows = F }

    -- what attempts make keeps so
    pub all_keep : Holds around AttemptKeeps
    all_keep = record {
      staying = λ S fit failures left. tt;
      either = either;
      basic = basic_keeps around;
      nine = λ S rule is fit. tries_keep F S rule is fit below b 8 [] (λ u x s. refl);
      branch = λ S t d. branch_keeps S t F d below b;
    }

    longer_keeps : (S next : Symbolic) (step : Step) (items : Items) → Kept S next → (o : Driven) → DriveKeeps next o → DriveKeeps S (after_step step items o)
    longer_keeps S next step items k (Reached w left) l = further S next w.end k l
    longer_keeps S next step items k (Stuck w ts left) l = tt
    longer_keeps S next step items k drive.Spent l = tt

    after_keeps : (go : Symbolic → RulesLeft → Driven) → ((S : Symbolic) (left : RulesLeft) → Fit P S → DriveKeeps S (go S left)) → (S : Symbolic) → Fit P S → (t : Turn) → TurnKeeps S t → DriveKeeps S (after_round go S t)
    after_keeps go h S fit (Goes step items next left) k = longer_keeps S next step items k (go next left) (h next left (fit_spared P S next fit k.0 k.1))
    after_keeps go h S fit (Stays fs left) k = tt
    after_keeps go h S fit turn.Spent k = tt

    rounds_keep : (d : Drive) (n : ℕ) (S : Symbolic) (left : RulesLeft) → Fit P S → DriveKeeps S (rounds around d n S left)
    rounds_keep d zero S left fit = tt
    rounds_keep d (suc n) S left fit = one_round (d.goal S) (rounds_keep d n)
      where
        one_round : (g : Bool) → ((S : Symbolic) (left : RulesLeft) → Fit P S → DriveKeeps S (rounds around d n S left)) → DriveKeeps S (if g then Reached (here S) left else after_round (rounds around d n) S (round around d S [] left))
        one_round true h = (spared_itself S, fit.sorted)
        one_round false h = after_keeps (rounds around d n) h S fit (round around d S [] left) (in_round around AttemptKeeps all_keep d S fit [] left)

  pub drivers_keep : (sides : Sides) (n : ℕ) → DriverKeeps (driver P sides n)
  drivers_keep sides zero F d S left fit = rounds_keep None tt (sides d) F d (enough left S) S left fit
  drivers_keep sides (suc n) F d S left fit = rounds_keep (Some (driver P sides n)) (drivers_keep sides n) (sides d) F d (enough left S) S left fit
