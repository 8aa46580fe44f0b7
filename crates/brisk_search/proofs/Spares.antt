-- A fact on a variable that its thread's code neither assigns, receives into nor has in a guard is kept.
use Rattle.std.proofs.Common.{◌≡◌, Bool, true, false, List, [], ◌∷◌, ◌++◌, map, Option, Some, None, refl, sym, ap, ◌∙◌, subst, true≢false}
use Rattle.std.specs.Prelude.{◌||◌, not, if◌then◌else◌}
use Rattle.std.proofs.lemmas.Option.{same_Some}
use Rattle.brisk_values.specs.declared.operation.Op1.TheVariants.{Not}
use Rattle.brisk_values.specs.declared.operation.Op2.TheVariants.{Eq, Ne, And, Or}
use Rattle.brisk_values.specs.declared.value.Value.{Value}
use Rattle.brisk_values.specs.declared.value.Value.TheVariants as value
use Rattle.brisk_values.specs.Functions.{changed}
use Rattle.brisk_values.specs.Names.{Name, same_name}
use Rattle.brisk_values.proofs.Changes.{name_laws, exact_name, changed_cases}
use Rattle.brisk_syntax.specs.declared.tree.Who.{Who}
use Rattle.brisk_syntax.specs.Substitution.{statement_map, code_map}
use Rattle.brisk_syntax.specs.Stores.{is_true}
use Rattle.brisk_syntax.specs.Syntax.{Expression, Var, Paren, Un, Bin, Statement, Assign, Send, Recv, RecvAny, If, IfElse, While, For, Repeat, Code, done, ◌⨾◌, ◌then◌}
use Rattle.brisk_syntax.specs.Typing.{is_among}
use Rattle.brisk_facts.specs.Facts.{fact}
use Rattle.brisk_facts.specs.Learning.{variable_in, fold}
use Rattle.brisk_state.specs.Symbolic.{Symbolic}
use Rattle.brisk_basic.specs.declared.rule.Basic.{Basic}
use Rattle.brisk_basic.specs.Basic.{Applied}
use Rattle.brisk_rules.specs.Standing.{stands_at}
use Rattle.brisk_sound.proofs.Applied.{Applies, assigns, fills, takes, passes, knows_if, knows_while}
use Rattle.brisk_sound.proofs.Control.{sides}
use Rattle.brisk_rules.proofs.Readings.{Reading, Known, facts_with, forgotten, learnt, learnt_equal}
use Rattle.brisk_search.specs.Tries.{variables_of, touched_by, touched_in}

-- the name isn't among these
abbrev pub Lacks : List Name → Name → Type 0
Lacks ts x = is_among ts x ≡ false

pub lacks_both : (ts us : List Name) (x : Name) → Lacks (ts ++ us) x → Lacks ts x × Lacks us x
lacks_both [] us x h = (refl, h)
lacks_both (t ∷ ts) us x h = go (same_name x t) h (lacks_both ts us x)
  where
    go : (b : Bool) → (b || is_among (ts ++ us) x) ≡ false → (Lacks (ts ++ us) x → Lacks ts x × Lacks us x) → ((b || is_among ts x) ≡ false) × Lacks us x
    go true h more = absurd (true≢false h)
    go false h more = more h

pub lacks_joined : (ts us : List Name) (x : Name) → Lacks ts x → Lacks us x → Lacks (ts ++ us) x
lacks_joined [] us x g h = h
lacks_joined (t ∷ ts) us x g h = go (same_name x t) g (λ k. lacks_joined ts us x k h)
  where
    go : (b : Bool) → (b || is_among ts x) ≡ false → (Lacks ts x → Lacks (ts ++ us) x) → (b || is_among (ts ++ us) x) ≡ false
    go true g more = absurd (true≢false g)
    go false g more = more g

pub lacks_head : (t : Name) (ts : List Name) (x : Name) → Lacks (t ∷ ts) x → (same_name t x ≡ false) × Lacks ts x
lacks_head t ts x h = go (same_name x t) refl h
  where
    go : (b : Bool) → same_name x t ≡ b → (b || is_among ts x) ≡ false → (same_name t x ≡ false) × Lacks ts x
    go true e h = absurd (true≢false h)
    go false e h = (name_laws.symm t x ∙ e, h)

-- the code spares the variable
abbrev pub Spares : Code → Name → Type 0
Spares c x = Lacks (touched_in c) x

-- code after code
pub spares_then : (a b : Code) (x : Name) → Spares a x → Spares b x → Spares (a then b) x
spares_then done b x g h = h
spares_then (s ⨾ a) b x g h =
    let (f, k) = lacks_both (touched_by s) (touched_in a) x g in lacks_joined (touched_by s) (touched_in (a then b)) x f (spares_then a b x k h)

-- code with another partner touches the same
mutual
  map_touches_by : (h : Who → Who) (s : Statement) → touched_by (statement_map h s) ≡ touched_by s
  map_touches_by h (Assign x e) = refl
  map_touches_by h (Send c es u) = refl
  map_touches_by h (Recv c xs u) = refl
  map_touches_by h (RecvAny c xs v s b) = ap (λ ns. xs ++ ns) (map_touches h b)
  map_touches_by h (If e a) = ap (λ ns. variables_of e ++ ns) (map_touches h a)
  map_touches_by h (IfElse e a b) = λ i. variables_of e ++ map_touches h a i ++ map_touches h b i
  map_touches_by h (While e b) = ap (λ ns. variables_of e ++ ns) (map_touches h b)
  map_touches_by h (For v s k b) = map_touches h b
  map_touches_by h (Repeat s k b) = map_touches h b

  pub map_touches : (h : Who → Who) (c : Code) → touched_in (code_map h c) ≡ touched_in c
  map_touches h done = refl
  map_touches h (s ⨾ c) = λ i. map_touches_by h s i ++ map_touches h c i

-- the variable isn't this one
abbrev Apart : Option Name → Name → Type 0
Apart None x = Unit {0}
Apart (Some y) x = same_name y x ≡ false

not_the_variable : (e : Expression) (x : Name) → Lacks (variables_of e) x → Apart (variable_in e) x
not_the_variable (Var y) x h = (lacks_head y [] x h).0
not_the_variable (Paren e) x h = not_the_variable e x h
not_the_variable e x h = tt

one_other : (f : Known) (y : Name) (o : Option Value) (x : Name) → same_name y x ≡ false → changed same_name f y o x ≡ f x
one_other f y o x h = ap (λ b. if b then o else f x) h

equal_spared : (f : Known) (y : Option Name) (w : Option Value) (z : Option Name) (v : Option Value) (x : Name) → Apart y x → Apart z x → learnt_equal f y w z v x ≡ f x
equal_spared f (Some y) (Some w) z v x g h = one_other f y (Some w) x g
equal_spared f (Some y) None (Some z) (Some v) x g h = one_other f z (Some v) x h
equal_spared f (Some y) None (Some z) None x g h = refl
equal_spared f (Some y) None None v x g h = refl
equal_spared f None w (Some z) (Some v) x g h = one_other f z (Some v) x h
equal_spared f None w (Some z) None x g h = refl
equal_spared f None w None v x g h = refl

-- what a guard tells is of its variables
pub learnt_spared : (f : Known) (e : Expression) (b : Bool) (x : Name) → Lacks (variables_of e) x → learnt f e b x ≡ f x
learnt_spared f (Var y) b x h = one_other f y (Some (value.Bool b)) x (lacks_head y [] x h).0
learnt_spared f (Paren e) b x h = learnt_spared f e b x h
learnt_spared f (Un Not e) b x h = learnt_spared f e (not b) x h
learnt_spared f (Bin And e g) true x h = let (k, l) = lacks_both (variables_of e) (variables_of g) x h in learnt_spared (learnt f e true) g true x l ∙ learnt_spared f e true x k
learnt_spared f (Bin Or e g) false x h = let (k, l) = lacks_both (variables_of e) (variables_of g) x h in learnt_spared (learnt f e false) g false x l ∙ learnt_spared f e false x k
learnt_spared f (Bin Eq e g) true x h =
    let (k, l) = lacks_both (variables_of e) (variables_of g) x h in equal_spared f (variable_in e) (fold f g) (variable_in g) (fold f e) x (not_the_variable e x k) (not_the_variable g x l)
learnt_spared f (Bin Ne e g) false x h =
    let (k, l) = lacks_both (variables_of e) (variables_of g) x h in equal_spared f (variable_in e) (fold f g) (variable_in g) (fold f e) x (not_the_variable e x k) (not_the_variable g x l)
learnt_spared f e b x h = refl

with_spared : (f : Known) (xs : List Name) (vs : List (Option Value)) (x : Name) → Lacks xs x → facts_with f xs vs x ≡ f x
with_spared f [] vs x h = refl
with_spared f (y ∷ ys) [] x h = refl
with_spared f (y ∷ ys) (v ∷ vs) x h = let (a, l) = lacks_head y ys x h in with_spared (changed same_name f y v) ys vs x l ∙ one_other f y v x a

forgotten_spared : (f : Known) (xs : List Name) (x : Name) → Lacks xs x → forgotten f xs x ≡ f x
forgotten_spared f [] x h = refl
forgotten_spared f (y ∷ ys) x h = let (a, l) = lacks_head y ys x h in forgotten_spared (changed same_name f y None) ys x l ∙ one_other f y None x a

-- from one state to another no code touches more, and facts on what the code spares are kept
pub record Spared (S S' : Symbolic) : Type 0 where
  pub code : (u x : Name) → Spares (stands_at S u) x → Spares (stands_at S' u) x
  pub facts : (u x : Name) (v : Value) → Spares (stands_at S u) x → fact S.facts u x ≡ Some v → fact S'.facts u x ≡ Some v

pub spared_itself : (S : Symbolic) → Spared S S
spared_itself S = record { code = λ u x h. h; facts = λ u x v h e. e }

pub spared_then : (S E F : Symbolic) → Spared S E → Spared E F → Spared S F
spared_then S E F a b = record { code = λ u x h. b.code u x (a.code u x h); facts = λ u x v h e. b.facts u x v (a.code u x h) (a.facts u x v h e) }

-- one thread's code is changed, or what is known of it
pub code_changed : (f g : Name → Code) (t : Name) (k : Code) → g ≡ changed same_name f t k → ((x : Name) → Spares (f t) x → Spares k x) → (u x : Name) → Spares (f u) x → Spares (g u) x
code_changed f g t k e h u x s =
    subst (λ (z : Name → Code). Spares (z u) x) (sym e)
    (changed_cases same_name f t k u (λ c. Spares c x) (λ q. h x (subst (λ z. Spares (f z) x) (sym (exact_name t u q)) s)) (λ q. s))

pub facts_changed : (f g : Name → Known) (t : Name) (k : Known) → g ≡ changed same_name f t k → (c : Name → Code) → ((x : Name) → Spares (c t) x → k x ≡ f t x) → (u x : Name) (v : Value) → Spares (c u) x → f u x ≡ Some v → g u x ≡ Some v
facts_changed f g t k e c h u x v s is =
    subst (λ (z : Name → Known). z u x ≡ Some v) (sym e)
    (changed_cases same_name f t k u (λ z. z x ≡ Some v) (λ q. h x (subst (λ z. Spares (c z) x) (sym (exact_name t u q)) s) ∙ ap (λ z. f z x) (exact_name t u q) ∙ is) (λ q. is))

same_facts : (f g : Name → Known) → g ≡ f → (u x : Name) (v : Value) → f u x ≡ Some v → g u x ≡ Some v
same_facts f g e u x v h = ap (λ z. z u x) e ∙ h

sides_spared : (s : Statement) (rest : Code) (e : Expression) (a b : Code) → sides s ≡ Some (e, a, b) → (x : Name) → Spares (s ⨾ rest) x → Lacks (variables_of e) x × Spares (a then rest) x × Spares (b then rest) x
sides_spared (If g c) rest e a b h x s =
    let p = same_Some (g, c, done) (e, a, b) h in
    let (l, r) = lacks_both (touched_by (If g c)) (touched_in rest) x s in let (k, m) = lacks_both (variables_of g) (touched_in c) x l in
    (subst (λ (z : Expression × Code × Code). Lacks (variables_of z.0) x × Spares (z.1 then rest) x × Spares (z.2 then rest) x) p (k, spares_then c rest x m r, r))
sides_spared (IfElse g c d) rest e a b h x s =
    let p = same_Some (g, c, d) (e, a, b) h in
    let (l, r) = lacks_both (touched_by (IfElse g c d)) (touched_in rest) x s in let (k, m) = lacks_both (variables_of g ++ touched_in c) (touched_in d) x l in
    let (k', m') = lacks_both (variables_of g) (touched_in c) x k in
    (subst (λ (z : Expression × Code × Code). Lacks (variables_of z.0) x × Spares (z.1 then rest) x × Spares (z.2 then rest) x) p (k', spares_then c rest x m' r, spares_then d rest x m r))
sides_spared s rest e a b h x g = cc

-- a basic rule
pub basic_spared : (S : Symbolic) (r : Applied) (b : Basic) → Applies S r b → Spared S r.next
basic_spared S r _ (assigns t x e k act is q m named) = record {
  code = code_changed (stands_at S) (stands_at r.next) t k (ap (λ (R : Reading). R.code) m) (λ y h. (lacks_head x (touched_in k) y (subst (λ c. Spares c y) is h)).1);
  facts = facts_changed (fact S.facts) (fact r.next.facts) t (facts_with (fact S.facts t) (x ∷ []) (map (fold (fact S.facts t)) (e ∷ []))) (ap (λ (R : Reading). R.facts) m) (stands_at S)
      (λ y h. with_spared (fact S.facts t) (x ∷ []) (map (fold (fact S.facts t)) (e ∷ [])) y (lacks_both (x ∷ []) (touched_in k) y (subst (λ c. Spares c y) is h)).0);
}
basic_spared S r _ (fills t u C n es w k act is st unused q m named) = record {
  code = code_changed (stands_at S) (stands_at r.next) t k (ap (λ (R : Reading). R.code) m) (λ y h. subst (λ c. Spares c y) is h);
  facts = λ u x v h e. same_facts (fact S.facts) (fact r.next.facts) (ap (λ (R : Reading). R.facts) m) u x v e;
}
basic_spared S r _ (takes t u C n ns xs w k act is st pend q m named) = record {
  code = code_changed (stands_at S) (stands_at r.next) u k (ap (λ (R : Reading). R.code) m) (λ y h. (lacks_both xs (touched_in k) y (subst (λ c. Spares c y) is h)).1);
  facts = facts_changed (fact S.facts) (fact r.next.facts) u (forgotten (fact S.facts u) xs) (ap (λ (R : Reading). R.facts) m) (stands_at S)
      (λ y h. forgotten_spared (fact S.facts u) xs y (lacks_both xs (touched_in k) y (subst (λ c. Spares c y) is h)).0);
}
basic_spared S r _ (passes t u C es w k xs w' k' act act' is st is' st' pend q m named) = record {
  code = λ v x h. code_changed (changed same_name (stands_at S) t k) (stands_at r.next) u k' (ap (λ (R : Reading). R.code) m) (λ y g. k'_spares y g) v x
      (code_changed (stands_at S) (changed same_name (stands_at S) t k) t k refl (λ y g. subst (λ c. Spares c y) is g) v x h);
  facts = facts_changed (fact S.facts) (fact r.next.facts) u (facts_with (fact S.facts u) xs (map (fold (fact S.facts t)) es)) (ap (λ (R : Reading). R.facts) m) (stands_at S)
      (λ y h. with_spared (fact S.facts u) xs (map (fold (fact S.facts t)) es) y (lacks_both xs (touched_in k') y (subst (λ c. Spares c y) is' h)).0);
}
  where
    differs : same_name t u ≡ true → ⊥
    differs e = let g : Send C es w ⨾ k ≡ Recv C xs w' ⨾ k' = sym is ∙ ap (stands_at S) (exact_name t u e) ∙ is' in cc

    other : (b : Bool) → same_name t u ≡ b → (if b then k else stands_at S u) ≡ stands_at S u
    other true e = absurd (differs e)
    other false e = refl

    k'_spares : (y : Name) → Spares (changed same_name (stands_at S) t k u) y → Spares k' y
    k'_spares y g = (lacks_both xs (touched_in k') y (subst (λ c. Spares c y) (other (same_name t u) refl ∙ is') g)).1
basic_spared S r _ (knows_if t s e a b rest v act is two f q m named) = record {
  code = code_changed (stands_at S) (stands_at r.next) t (if is_true v then a then rest else b then rest) (ap (λ (R : Reading). R.code) m) (λ y h. let g = sides_spared s rest e a b two y (subst (λ c. Spares c y) is h) in either (is_true v) y g.1 g.2);
  facts = λ u x v h e. same_facts (fact S.facts) (fact r.next.facts) (ap (λ (R : Reading). R.facts) m) u x v e;
}
  where
    either : (d : Bool) (y : Name) → Spares (a then rest) y → Spares (b then rest) y → Spares (if d then a then rest else b then rest) y
    either true y g h = g
    either false y g h = h
basic_spared S r _ (knows_while t e b rest v act is f q m named) = record {
  code = code_changed (stands_at S) (stands_at r.next) t (if is_true v then b then stands_at S t else rest) (ap (λ (R : Reading). R.code) m) (λ y h. either (is_true v) y h (lacks_both (touched_by (While e b)) (touched_in rest) y (subst (λ c. Spares c y) is h)));
  facts = λ u x v h e. same_facts (fact S.facts) (fact r.next.facts) (ap (λ (R : Reading). R.facts) m) u x v e;
}
  where
    either : (d : Bool) (y : Name) → Spares (stands_at S t) y → Lacks (touched_by (While e b)) y × Spares rest y → Spares (if d then b then stands_at S t else rest) y
    either true y h g = spares_then b (stands_at S t) y (lacks_both (variables_of e) (touched_in b) y g.0).1 h
    either false y h g = g.1
