-- Steps keep what is inside a state, and their items have nothing else inside.
use Rattle.std.proofs.Common.{◌≡◌, ℕ, Bool, true, false, List, [], ◌∷◌, ◌++◌, Option, Some, None, refl, sym, ap, ◌∙◌, subst}
use Rattle.std.specs.Prelude.{if◌then◌else◌}
use Rattle.std.specs.List.{AllByRecursion}
use Rattle.brisk_values.specs.declared.value.Value.{Value}
use Rattle.brisk_values.specs.Functions.{changed}
use Rattle.brisk_values.specs.Names.{Name, same_name}
use Rattle.brisk_values.proofs.Changes.{exact_name}
use Rattle.brisk_syntax.specs.declared.program.Program.{Program}
use Rattle.brisk_syntax.specs.declared.tree.Who.{Who}
use Rattle.brisk_syntax.specs.declared.tree.Who.TheVariants as who
use Rattle.brisk_syntax.specs.Stores.{is_true}
use Rattle.brisk_syntax.specs.Substitution.{who_with, code_with}
use Rattle.brisk_syntax.specs.Syntax.{Expression, Statement, Assign, Send, Recv, While, Repeat, Code, ◌⨾◌, ◌then◌}
use Rattle.brisk_syntax.specs.Syntax as syntax
use Rattle.brisk_async.specs.Laws.{AnyReceive}
use Rattle.brisk_seq.specs.Items.{Item, Items, nothing, ◌⨟◌, ◌followed_by◌}
use Rattle.brisk_state.specs.declared.thread.Mode.{Mode}
use Rattle.brisk_state.specs.declared.thread.Mode.TheVariants.{One, At, Each}
use Rattle.brisk_state.specs.Symbolic.{Key, key, same_key, Symbolic}
use Rattle.brisk_basic.specs.declared.rule.Basic.{Basic}
use Rattle.brisk_basic.specs.Basic.{Applied}
use Rattle.brisk_derivation.specs.Steps.{Step, Steps}
use Rattle.brisk_rules.specs.Derives.{items_in, rule_of}
use Rattle.brisk_rules.specs.Following.{Follow}
use Rattle.brisk_rules.specs.Heads.{from_focus}
use Rattle.brisk_rules.proofs.Readings.{Reading, reading, is_active, stands_by}
use Rattle.brisk_sound.proofs.After.{at_guard, goes_on}
use Rattle.brisk_sound.proofs.Applied.{Applies, assigns, fills, takes, passes, knows_if, knows_while}
use Rattle.brisk_sound.proofs.Control.{Weaker}
use Rattle.brisk_sound.proofs.Derives.{Takes_step, by_rule, by_branch, by_while, by_repeat, by_for, by_gather, by_pick, Takes_steps, ended, next}
use Rattle.brisk_sound.proofs.For.{Loop, owners, for_start, after_for}
use Rattle.brisk_sound.proofs.Gather.{gather_start}
use Rattle.brisk_sound.proofs.Middle.{focused, set_at}
use Rattle.brisk_sound.proofs.Pick.{pick_start, after_pick}
use Rattle.brisk_written.proofs.Numbered.{Numbered, NumberedRule, NumberedStep}
use Rattle.brisk_written.proofs.Inside.{Asked, InStatement, InCode, InItem, InItems, in_then, in_followed, in_map, in_sides, in_either}

-- of all items one more
all_and : {X : Type 0} (Q : X → Type 0) (xs : List X) (x : X) → AllByRecursion Q xs → Q x → AllByRecursion Q (xs ++ x ∷ [])
all_and Q [] x a h = (h, tt)
all_and Q (y ∷ ys) x a h = (a.0, all_and Q ys x a.1 h)

-- what an active thread is
some_mode : (m : Option Mode) → is_active m ≡ true → (n : Mode) × (m ≡ Some n)
some_mode (Some n) h = (n, refl)
some_mode None h = cc

-- the thread for which a partner stands is active
partner_active : (m : Option Mode) (u : Name) (w : Who) → stands_by m u w ≡ true → is_active m ≡ true
partner_active (Some One) u w h = refl
partner_active (Some At) u w h = refl
partner_active (Some Each) u w h = cc
partner_active None u w h = cc

module _ (A : Asked) where
  -- what is inside a state is as asked: the names of its threads, their code, and the numbers that are pending
  pub record Inside (S : Reading) : Type 0 where
    pub named : (u : Name) (m : Mode) → S.mode u ≡ Some m → A.name u
    pub code : (u : Name) → InCode A (S.code u)
    pub pending : (k : Key) → AllByRecursion A.number (S.pending k)

  active : (S : Reading) (u : Name) → Inside S → is_active (S.mode u) ≡ true → A.name u
  active S u h a = let m = some_mode (S.mode u) a in h.named u m.0 m.1

  -- the head of a thread's code, and the rest
  first : (S : Reading) (t : Name) (x : Statement) (k : Code) → Inside S → S.code t ≡ x ⨾ k → InStatement A x × InCode A k
  first S t x k h is = subst (InCode A) is (h.code t)

  changed_code : (code : Name → Code) (t : Name) (k : Code) → ((u : Name) → InCode A (code u)) → InCode A k → (u : Name) → InCode A (changed same_name code t k u)
  changed_code code t k h g u = elim (same_name t u) as (λ b. InCode A (if b then k else code u)) [ true ↦ g | false ↦ h u ]

  changed_pending : (pending : Key → List ℕ) (k : Key) (ns : List ℕ) → ((l : Key) → AllByRecursion A.number (pending l)) → AllByRecursion A.number ns →
      (l : Key) → AllByRecursion A.number (changed same_key pending k ns l)
  changed_pending pending k ns h g l = elim (same_key k l) as (λ b. AllByRecursion A.number (if b then ns else pending l)) [ true ↦ g | false ↦ h l ]

  -- a thread goes on
  gone_on : (S : Reading) (t : Name) (k : Code) (facts : Name → Name → Option Value) → Inside S → InCode A k → Inside (record S { code = changed same_name S.code t k; facts = facts })
  gone_on S t k facts h g = record { named = h.named; code = changed_code S.code t k h.code g; pending = h.pending }

  -- a set comes into focus
  in_focus : (mode : Name → Option Mode) (s : Name) → ((u : Name) (m : Mode) → mode u ≡ Some m → A.name u) → mode s ≡ Some Each → (u : Name) (m : Mode) → focused mode s u ≡ Some m → A.name u
  in_focus mode s h each u m =
      elim (same_name s u) as (λ b. same_name s u ≡ b → (if b then Some At else mode u) ≡ Some m → A.name u) [
        | true ↦ λ e g. subst A.name (exact_name s u e) (h s Each each)
        | false ↦ λ e g. h u m g
      ] refl

  weaker : (S B : Reading) → Weaker S B → Inside S → Inside B
  weaker S B w h = record {
    named = λ u m e. h.named u m (ap (λ (f : Name → Option Mode). f u) (sym w.mode) ∙ e);
    code = λ u. subst (λ (f : Name → Code). InCode A (f u)) (sym w.code) (h.code u);
    pending = λ k. subst (λ (f : Key → List ℕ). AllByRecursion A.number (f k)) (sym w.pending) (h.pending k);
  }

  -- what items and the state behind them have inside
  pub record Keeps (X : Items) (S' : Reading) : Type 0 where
    pub items : InItems A X
    pub inside : Inside S'

  said : (o : Option Item) (q : Item) (S' : Symbolic) (Z : Reading) → o ≡ Some q → reading S' ≡ Z → InItem A q → Inside Z → Keeps (items_in o) (reading S')
  said o q S' Z is after h g = record { items = subst (λ (o : Option Item). InItems A (items_in o)) (sym is) (h, tt); inside = subst Inside (sym after) g }

  unsaid : (o : Option Item) (S' : Symbolic) (Z : Reading) → o ≡ None → reading S' ≡ Z → Inside Z → Keeps (items_in o) (reading S')
  unsaid o S' Z is after g = record { items = subst (λ (o : Option Item). InItems A (items_in o)) (sym is) tt; inside = subst Inside (sym after) g }

  -- each basic rule
  rule_keeps : (S : Symbolic) (r : Applied) (b : Basic) → Inside (reading S) → NumberedRule A.number b → Applies S r b → Keeps (items_in r.statement) (reading r.next)
  rule_keeps S r _ h n (assigns t x e k act is q after names) =
      let f = first (reading S) t (Assign x e) k h is in let p = active (reading S) t h act in
      said r.statement _ r.next _ q after (p, (f.0.0, tt), p, (f.0.1, tt)) (gone_on (reading S) t k _ h f.1)
  rule_keeps S r _ h n (fills t u C j es w k act is stands unused q after names) =
      let f = first (reading S) t (Send C es w) k h is in
      said r.statement _ r.next _ q after (n, active (reading S) t h act, active (reading S) u h (partner_active ((reading S).mode u) u w stands), f.0)
      record {
        named = h.named;
        code = changed_code (reading S).code t k h.code f.1;
        pending = changed_pending (reading S).pending (key t u C) _ h.pending (all_and A.number ((reading S).pending (key t u C)) j (h.pending (key t u C)) n);
      }
  rule_keeps S r _ h n (takes t u C j ns xs w k act is stands pends q after names) =
      let f = first (reading S) u (Recv C xs w) k h is in let p = subst (AllByRecursion A.number) pends (h.pending (key t u C)) in
      said r.statement _ r.next _ q after (active (reading S) u h act, f.0, p.0, active (reading S) t h (partner_active ((reading S).mode t) t w stands))
      record { named = h.named; code = changed_code (reading S).code u k h.code f.1; pending = changed_pending (reading S).pending (key t u C) ns h.pending p.1 }
  rule_keeps S r _ h n (passes t u C es w k xs w' k' act act' is stands is' stands' empty q after names) =
      let f = first (reading S) t (Send C es w) k h is in let g = first (reading S) u (Recv C xs w') k' h is' in
      said r.statement _ r.next _ q after (active (reading S) u h act', g.0, active (reading S) t h act, f.0)
      (gone_on (record (reading S) { code = changed same_name (reading S).code t k }) u k' _ (gone_on (reading S) t k (reading S).facts h f.1) g.1)
  rule_keeps S r _ h n (knows_if t s e a b rest v act is two fold q after names) =
      let f = first (reading S) t s rest h is in let g = in_sides A s e a b two f.0 in
      unsaid r.statement r.next _ q after (gone_on (reading S) t _ _ h (in_either A (is_true v) (a then rest) (b then rest) (in_then A a rest g.1 f.1) (in_then A b rest g.2 f.1)))
  rule_keeps S r _ h n (knows_while t e b rest v act is fold q after names) =
      let f = first (reading S) t (While e b) rest h is in
      unsaid r.statement r.next _ q after (gone_on (reading S) t _ _ h (in_either A (is_true v) (b then (reading S).code t) rest (in_then A b ((reading S).code t) f.0.1 (h.code t)) f.1))

  -- the parts of an owner's code
  loop_in : (B : Reading) (s : Name) (ts : List Name) (L : Name → Loop) → ((t : Name) → owners ts t ≡ true → B.code t ≡ syntax.For (L t).binder s 0 (L t).body ⨾ (L t).rest) → Inside B → (t : Name) → owners ts t ≡ true →
      InCode A (L t).body × InCode A (L t).rest
  loop_in B s ts L is h t o = subst (InCode A) (is t o) (h.code t)

  by_owner : (own : Name → Bool) (one other : Name → Code) → ((t : Name) → own t ≡ true → InCode A (one t)) → ((t : Name) → InCode A (other t)) → (u : Name) → InCode A (if own u then one u else other u)
  by_owner own one other h g u = elim (own u) as (λ b. own u ≡ b → InCode A (if b then one u else other u)) [ true ↦ λ e. h u e | false ↦ λ e. g u ] refl

  -- the code of a set, and else of others
  at_set : (s : Name) (c : Code) (F : Name → Code) → InCode A c → ((u : Name) → InCode A (F u)) → (u : Name) → InCode A (if same_name s u then c else F u)
  at_set s c F h g u = elim (same_name s u) as (λ b. InCode A (if b then c else F u)) [ true ↦ h | false ↦ g u ]

  mutual
    step_keeps : (P : Program) (F : Follow) (D : Step) (S : Symbolic) (X : Items) (S' : Symbolic) → NumberedStep A.number D → Inside (reading S) → Takes_step P F D S X S' → Keeps X (reading S')
    step_keeps P _ _ _ _ _ n h (by_rule F b S r applies quiet) = rule_keeps S r (rule_of b) h n applies
    step_keeps P _ _ _ _ _ n h (by_branch F t D D' S start start' E G S' X Y guard k x y) =
        let f = first (reading S) t k.statement k.rest h k.is in let g = in_sides A k.statement guard k.first k.second k.two f.0 in
        let one = steps_keep P F D start X E n.0 (subst Inside (sym k.begins) (gone_on (reading S) t (k.first then k.rest) _ h (in_then A k.first k.rest g.1 f.1))) x in
        let two = steps_keep P F D' start' Y G n.1 (subst Inside (sym k.begins_second) (gone_on (reading S) t (k.second then k.rest) _ h (in_then A k.second k.rest g.2 f.1))) y in
        record { items = ((active (reading S) t h k.active, g.0, one.items, two.items), tt); inside = weaker (reading E) (reading S') k.ends one.inside }
    step_keeps P _ _ _ _ _ n h (by_while F F' t drops D S start E S' X guard k x puts) =
        let j = weaker (reading S) k.base k.weaker h in let f = first k.base t (While guard k.body) k.rest j k.is in
        let one = steps_keep P F' D start X E n (subst Inside (sym k.begins) (gone_on k.base t k.body _ j f.0.1)) x in
        record { items = ((active k.base t j k.active, f.0.0, one.items), tt); inside = subst Inside (sym k.next) (gone_on k.base t k.rest _ j f.1) }
    step_keeps P _ _ _ _ _ n h (by_repeat F F' t drops D S start E S' X s k x puts) =
        let j = weaker (reading S) k.base k.weaker h in let f = first k.base t (Repeat s 0 k.body) k.rest j k.is in
        let one = steps_keep P F' D start X E n (subst Inside (sym k.begins) (gone_on k.base t k.body k.base.facts j f.0.1)) x in
        record { items = ((f.0.0, one.items), tt); inside = subst Inside (sym k.next) (gone_on k.base t k.rest k.base.facts j f.1) }
    step_keeps P _ _ _ _ _ n h (by_for F F' s ts drops D S start E S' X k x puts) =
        let j = weaker (reading S) k.base k.weaker h in let L = k.loops in
        let one = steps_keep P F' D start X E n (subst Inside (sym k.begins) record {
          named = in_focus k.base.mode s j.named k.entry.set;
          code = by_owner (owners ts) (λ u. code_with (L u).binder (who.At s) (L u).body) k.base.code (λ u o. in_map A (who_with (L u).binder (who.At s)) (L u).body (loop_in k.base s ts L k.entry.is j u o).0) j.code;
          pending = j.pending;
        }) x in
        record {
          items = ((j.named s Each k.entry.set, one.items), tt);
          inside = subst Inside (sym k.next) record {
            named = j.named;
            code = at_set s ((reading E).code s) (λ u. if owners ts u then (L u).rest else k.base.code u) (one.inside.code s) (by_owner (owners ts) (λ u. (L u).rest) k.base.code (λ u o. (loop_in k.base s ts L k.entry.is j u o).1) j.code);
            pending = one.inside.pending;
          };
        }
    step_keeps P _ _ _ _ _ n h (by_gather F F' t drops D S start E S' X a k x puts) =
        let j = weaker (reading S) k.base k.weaker h in let f = subst (InCode A) k.entry.is (j.code t) in
        let one = steps_keep P F' D start X E n (subst Inside (sym k.begins) record {
          named = in_focus k.base.mode a.set j.named k.entry.set;
          code = changed_code k.base.code t (from_focus a) j.code (f.0.1.0.0, in_map A (who_with a.binder (who.At a.set)) a.body f.0.1.0.1);
          pending = j.pending;
        }) x in
        record {
          items = ((j.named a.set Each k.entry.set, one.items), tt);
          inside = subst Inside (sym k.next) record {
            named = j.named;
            code = at_set a.set ((reading E).code a.set) (changed same_name k.base.code t a.rest) (one.inside.code a.set) (changed_code k.base.code t a.rest j.code f.1);
            pending = one.inside.pending;
          };
        }
    step_keeps P _ _ _ _ _ n h (by_pick F F' t drops D S start E S' X a nonempty k x puts) =
        let j = weaker (reading S) k.base k.weaker h in let f = subst (InCode A) k.entry.is (j.code t) in
        let one = steps_keep P F' D start X E n (subst Inside (sym k.begins) record {
          named = in_focus k.base.mode a.set j.named k.entry.set;
          code = changed_code k.base.code t (from_focus a) j.code (f.0.0, in_map A (who_with a.binder (who.At a.set)) a.body f.0.1);
          pending = j.pending;
        }) x in
        record {
          items = ((j.named a.set Each k.entry.set, one.items), tt);
          inside = subst Inside (sym k.next) record { named = j.named; code = changed_code (reading E).code t a.rest one.inside.code f.1; pending = one.inside.pending };
        }

    -- steps keep what is inside, and their items have nothing else inside
    pub steps_keep : (P : Program) (F : Follow) (D : Steps) (S : Symbolic) (X : Items) (E : Symbolic) → Numbered A.number D → Inside (reading S) → Takes_steps P F D S X E → Keeps X (reading E)
    steps_keep P _ _ _ _ _ n h (ended F S) = record { items = tt; inside = h }
    steps_keep P _ _ _ _ _ n h (next F D rest S S' S'' X Y tidy modes x y) =
        let one = step_keeps P F D S X S' n.0 h x in let two = steps_keep P F rest S' Y S'' n.1 one.inside y in
        record { items = in_followed A X Y one.items two.items; inside = two.inside }
