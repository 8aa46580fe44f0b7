-- Where no code has a `while`, no step makes a thread's code longer, and each makes its owners' codes shorter.
use Rattle.std.proofs.Common.{◌≡◌, ◌+◌, ◌≤◌, ◌<◌, Bool, true, false, List, Option, Some, None, refl, sym, ap, ◌∙◌, subst, true≢false, arith}
use Rattle.std.specs.Prelude.{if◌then◌else◌}
use Rattle.brisk_values.specs.Functions.{changed}
use Rattle.brisk_values.specs.Names.{Name, same_name}
use Rattle.brisk_values.proofs.Changes.{exact_name, name_laws}
use Rattle.brisk_syntax.specs.declared.program.Program.{Program}
use Rattle.brisk_syntax.specs.declared.tree.Who.{Who}
use Rattle.brisk_syntax.specs.declared.tree.Who.TheVariants as who
use Rattle.brisk_syntax.specs.Counts.{statements_in, statements}
use Rattle.brisk_syntax.specs.Stores.{is_true}
use Rattle.brisk_syntax.specs.Substitution.{statement_map, code_map, who_with}
use Rattle.brisk_syntax.specs.Syntax.{Expression, Statement, Assign, Send, Recv, RecvAny, If, IfElse, While, For, Repeat, Code, done, ◌⨾◌, ◌then◌}
use Rattle.brisk_async.specs.Laws.{AnyReceive}
use Rattle.brisk_seq.specs.Items.{Items}
use Rattle.brisk_state.specs.declared.thread.Mode.TheVariants as mode
use Rattle.brisk_state.specs.Symbolic.{Symbolic}
use Rattle.brisk_basic.specs.declared.rule.Basic.{Basic}
use Rattle.brisk_basic.specs.declared.rule.Basic.TheVariants as rule
use Rattle.brisk_basic.specs.Basic.{Applied}
use Rattle.brisk_derivation.specs.Steps.{Step, Steps}
use Rattle.brisk_derivation.specs.Steps as step
use Rattle.brisk_rules.specs.Derives.{rule_of}
use Rattle.brisk_rules.specs.Following.{Follow}
use Rattle.brisk_rules.specs.Heads.{from_focus}
use Rattle.brisk_sound.proofs.Applied.{Applies, assigns, fills, takes, passes, knows_if, knows_while}
use Rattle.brisk_sound.proofs.Control.{sides}
use Rattle.brisk_sound.proofs.Derives.{Takes_step, Takes_steps, by_rule, by_branch, by_while, by_repeat, by_for, by_gather, by_pick, ended, next}
use Rattle.brisk_sound.proofs.For.{Loop, Entry, owners, for_body, for_start, after_for}
use Rattle.brisk_sound.proofs.Gather.{Gathers}
use Rattle.brisk_sound.proofs.Middle.{set_at}
use Rattle.brisk_sound.proofs.Pick.{MayPick, after_pick}
use Rattle.brisk_rules.proofs.Readings.{Reading, reading, is_active}

-- no `while` stands in a statement, or in code
abbrev mutual
  pub NoWhileIn : Statement → Type 0
  NoWhileIn (Assign x e) = Unit {0}
  NoWhileIn (Send c es u) = Unit {0}
  NoWhileIn (Recv c xs u) = Unit {0}
  NoWhileIn (RecvAny c xs v s b) = NoWhile b
  NoWhileIn (If e a) = NoWhile a
  NoWhileIn (IfElse e a b) = NoWhile a × NoWhile b
  NoWhileIn (While e b) = ⊥
  NoWhileIn (For v s k b) = NoWhile b
  NoWhileIn (Repeat s k b) = NoWhile b

  pub NoWhile : Code → Type 0
  NoWhile done = Unit {0}
  NoWhile (s ⨾ c) = NoWhileIn s × NoWhile c

-- the codes of threads by their names
abbrev pub Codes : Type 0
Codes = Name → Code

-- no code is longer
abbrev pub NoLonger : Codes → Codes → Type 0
NoLonger f g = (u : Name) → statements (g u) ≤ statements (f u)

-- no code has a `while`
abbrev pub NoWhiles : Codes → Type 0
NoWhiles f = (u : Name) → NoWhile (f u)

longest : (f : Codes) → NoLonger f f
longest f u = omega arith

pub no_longer_then : (f g h : Codes) → NoLonger f g → NoLonger g h → NoLonger f h
no_longer_then f g h a b u = omega (arith, a u, b u)

-- code after code, and code with another partner
then_long : (a b : Code) → statements (a then b) ≡ statements a + statements b
then_long done b = omega arith
then_long (s ⨾ a) b = let h = then_long a b in omega (arith, h)

pub then_free : (a b : Code) → NoWhile a → NoWhile b → NoWhile (a then b)
then_free done b g h = h
then_free (s ⨾ a) b g h = (g.0, then_free a b g.1 h)

mutual
  map_long_in : (h : Who → Who) (s : Statement) → statements_in (statement_map h s) ≡ statements_in s
  map_long_in h (Assign x e) = refl
  map_long_in h (Send c es u) = refl
  map_long_in h (Recv c xs u) = refl
  map_long_in h (RecvAny c xs v s b) = ap (λ n. 1 + n) (map_long h b)
  map_long_in h (If e a) = ap (λ n. 1 + n) (map_long h a)
  map_long_in h (IfElse e a b) = λ i. 1 + map_long h a i + map_long h b i
  map_long_in h (While e b) = ap (λ n. 1 + n) (map_long h b)
  map_long_in h (For v s k b) = ap (λ n. 1 + n) (map_long h b)
  map_long_in h (Repeat s k b) = ap (λ n. 1 + n) (map_long h b)

  map_long : (h : Who → Who) (c : Code) → statements (code_map h c) ≡ statements c
  map_long h done = refl
  map_long h (s ⨾ c) = λ i. map_long_in h s i + map_long h c i

mutual
  map_free_in : (h : Who → Who) (s : Statement) → NoWhileIn s → NoWhileIn (statement_map h s)
  map_free_in h (Assign x e) f = tt
  map_free_in h (Send c es u) f = tt
  map_free_in h (Recv c xs u) f = tt
  map_free_in h (RecvAny c xs v s b) f = map_free h b f
  map_free_in h (If e a) f = map_free h a f
  map_free_in h (IfElse e a b) f = (map_free h a f.0, map_free h b f.1)
  map_free_in h (While e b) f = absurd f
  map_free_in h (For v s k b) f = map_free h b f
  map_free_in h (Repeat s k b) f = map_free h b f

  pub map_free : (h : Who → Who) (c : Code) → NoWhile c → NoWhile (code_map h c)
  map_free h done f = tt
  map_free h (s ⨾ c) f = (map_free_in h s f.0, map_free h c f.1)

focus_long : (a : AnyReceive) → statements (from_focus a) ≡ 1 + statements a.body
focus_long a = let h = map_long (who_with a.binder (who.At a.set)) a.body in omega (arith, h)

pub focus_free : (a : AnyReceive) → NoWhile a.body → NoWhile (from_focus a)
focus_free a f = (tt, map_free (who_with a.binder (who.At a.set)) a.body f)

-- one thread's code is changed
module _ (f : Codes) (t : Name) (k : Code) where
  changed_no_longer : statements k ≤ statements (f t) → NoLonger f (changed same_name f t k)
  changed_no_longer h u = go (same_name t u) refl
    where
      go : (b : Bool) → same_name t u ≡ b → statements (if b then k else f u) ≤ statements (f u)
      go true e = subst (λ z. statements k ≤ statements (f z)) (exact_name t u e) h
      go false e = omega arith

  changed_free : NoWhile k → NoWhiles f → NoWhiles (changed same_name f t k)
  changed_free h g u = go (same_name t u)
    where
      go : (b : Bool) → NoWhile (if b then k else f u)
      go true = h
      go false = g u

  changed_here : changed same_name f t k t ≡ k
  changed_here = ap (λ b. if b then k else f t) (name_laws.refl t)

-- what a step does to codes: none is longer, no `while` is made, and the codes of its owners are shorter
pub record Shrinks (Owns : Name → Type 0) (f g : Codes) : Type 0 where
  pub less : NoLonger f g
  pub free : NoWhiles g
  pub shorter : (t : Name) → Owns t → statements (g t) < statements (f t)

-- the step changes the code of its owner alone
alone : (f g : Codes) (t : Name) (k : Code) → NoWhiles f → g ≡ changed same_name f t k → statements k < statements (f t) → NoWhile k → Shrinks (λ u. t ≡ u) f g
alone f g t k free e h n = record {
  less = λ u. subst (λ (z : Codes). statements (z u) ≤ statements (f u)) (sym e) (changed_no_longer f t k (omega (arith, h)) u);
  free = λ u. subst (λ (z : Codes). NoWhile (z u)) (sym e) (changed_free f t k n free u);
  shorter = λ u same. subst (λ z. statements (g z) < statements (f z)) same (rw e (rw (changed_here f t k) h));
}

guard_of : Option (Expression × Code × Code) → Code × Code
guard_of None = (done, done)
guard_of (Some p) = (p.1, p.2)

-- the two sides of an if
sides_of : (s : Statement) (e : Expression) (a b : Code) → sides s ≡ Some (e, a, b) → NoWhileIn s → (statements a < statements_in s) × (statements b < statements_in s) × NoWhile a × NoWhile b
unfolding guard_of
sides_of (If e' a') e a b h f =
    let x : a' ≡ a = ap (λ o. (guard_of o).0) h in let y : done ≡ b = ap (λ o. (guard_of o).1) h in
    (rw (sym x) (omega arith), rw (sym y) (omega arith), rw (sym x) f, rw (sym y) tt)
sides_of (IfElse e' a' b') e a b h f =
    let x : a' ≡ a = ap (λ o. (guard_of o).0) h in let y : b' ≡ b = ap (λ o. (guard_of o).1) h in
    (rw (sym x) (omega arith), rw (sym y) (omega arith), rw (sym x) f.0, rw (sym y) f.1)
sides_of (Assign x y) e a b h f = cc
sides_of (Send c es u) e a b h f = cc
sides_of (Recv c xs u) e a b h f = cc
sides_of (RecvAny c xs v s k) e a b h f = cc
sides_of (While g k) e a b h f = cc
sides_of (For v s n k) e a b h f = cc
sides_of (Repeat s n k) e a b h f = cc

-- the owner of a basic rule
abbrev pub OwnsBasic : Basic → Name → Type 0
OwnsBasic (rule.Assign t) u = t ≡ u
OwnsBasic (rule.Fill t v c n) u = t ≡ u
OwnsBasic (rule.Pass t v c) u = t ≡ u
OwnsBasic (rule.Take t v c) u = v ≡ u
OwnsBasic (rule.Known t) u = t ≡ u

-- code without its head
behind : (f : Codes) (t : Name) (s : Statement) (k : Code) → NoWhiles f → f t ≡ s ⨾ k → NoWhileIn s × NoWhile k
behind f t s k free e = subst NoWhile e (free t)

pub positive : (s : Statement) → 0 < statements_in s
positive (Assign x e) = omega arith
positive (Send c es u) = omega arith
positive (Recv c xs u) = omega arith
positive (RecvAny c xs v s b) = omega arith
positive (If e a) = omega arith
positive (IfElse e a b) = omega arith
positive (While e b) = omega arith
positive (For v s k b) = omega arith
positive (Repeat s k b) = omega arith

-- the rest is shorter than the code
rest_shorter : (c : Code) (s : Statement) (k : Code) → c ≡ s ⨾ k → statements k < statements c
rest_shorter c s k e = rw e (let h = positive s in omega (arith, h))

-- the thread goes on with its rest
goes : (f g : Codes) (t : Name) (s : Statement) (k : Code) → NoWhiles f → f t ≡ s ⨾ k → g ≡ changed same_name f t k → Shrinks (λ u. t ≡ u) f g
goes f g t s k free e is = alone f g t k free is (rest_shorter (f t) s k e) (behind f t s k free e).1

-- a side and the rest are shorter than the if with the rest
side_shorter : (c : Code) (s : Statement) (a k : Code) → c ≡ s ⨾ k → statements a < statements_in s → statements (a then k) < statements c
side_shorter c s a k e h = rw e (let g = then_long a k in omega (arith, h, g))

-- one after another
chain : (O O' : Name → Type 0) (f h g : Codes) → Shrinks O f h → Shrinks O' h g → Shrinks O f g
chain O O' f h g a b = record { less = no_longer_then f h g a.less b.less; free = b.free; shorter = λ t o. omega (arith, a.shorter t o, b.less t) }

-- a sender and a receiver go on
both : (f g : Codes) (t u C D : Name) (es : List Expression) (xs : List Name) (w w' : Who) (k k' : Code) → NoWhiles f → f t ≡ Send C es w ⨾ k → f u ≡ Recv D xs w' ⨾ k' →
    g ≡ changed same_name (changed same_name f t k) u k' → Shrinks (λ v. t ≡ v) f g
both f g t u C D es xs w w' k k' free is is' q =
    chain (λ v. t ≡ v) (λ v. u ≡ v) f (changed same_name f t k) g first
    (alone (changed same_name f t k) g u k' first.free q (rw there (rest_shorter (f u) (Recv D xs w') k' is')) (behind f u (Recv D xs w') k' free is').1)
  where
    apart : (b : Bool) → same_name t u ≡ b → b ≡ false
    apart true e = let m : Send C es w ⨾ k ≡ Recv D xs w' ⨾ k' = sym is ∙ ap f (exact_name t u e) ∙ is' in cc
    apart false e = refl

    there : changed same_name f t k u ≡ f u
    there = ap (λ b. if b then k else f u) (apart (same_name t u) refl)

    first : Shrinks (λ v. t ≡ v) f (changed same_name f t k)
    first = goes f (changed same_name f t k) t (Send C es w) k free is refl

applied : (S : Symbolic) (r : Applied) (b : Basic) → NoWhiles (reading S).code → Applies S r b → Shrinks (OwnsBasic b) (reading S).code (reading r.next).code
applied S r _ free (assigns t x e k act is q n named) = goes (reading S).code (reading r.next).code t (Assign x e) k free is (ap (λ (z : Reading). z.code) n)
applied S r _ free (fills t u C n es w k act is stands unused q m named) = goes (reading S).code (reading r.next).code t (Send C es w) k free is (ap (λ (z : Reading). z.code) m)
applied S r _ free (takes t u C n ns xs w k act is stands pends q m named) = goes (reading S).code (reading r.next).code u (Recv C xs w) k free is (ap (λ (z : Reading). z.code) m)
applied S r _ free (passes t u C es w k xs w' k' act act' is stands is' stands' empty q n named) =
    both (reading S).code (reading r.next).code t u C C es xs w w' k k' free is is' (ap (λ (z : Reading). z.code) n)
applied S r _ free (knows_if t s e a b rest v act is two f q n named) =
    let h = behind (reading S).code t s rest free is in
    let o = sides_of s e a b two h.0 in
    known (is_true v) o (ap (λ (z : Reading). z.code) n)
  where
    known : (d : Bool) → (statements a < statements_in s) × (statements b < statements_in s) × NoWhile a × NoWhile b →
        (reading r.next).code ≡ changed same_name (reading S).code t (if d then a then rest else b then rest) → Shrinks (λ u. t ≡ u) (reading S).code (reading r.next).code
    known true o q = alone (reading S).code (reading r.next).code t (a then rest) free q (side_shorter ((reading S).code t) s a rest is o.0) (then_free a rest o.2 (behind (reading S).code t s rest free is).1)
    known false o q = alone (reading S).code (reading r.next).code t (b then rest) free q (side_shorter ((reading S).code t) s b rest is o.1) (then_free b rest o.3 (behind (reading S).code t s rest free is).1)
applied S r _ free (knows_while t e b rest v act is f q n named) = absurd (behind (reading S).code t (While e b) rest free is).0

-- the owners of a step; a `for` has as many as it names
abbrev pub Owns : Step → Name → Type 0
Owns (step.Basic b) u = OwnsBasic (rule_of b) u
Owns (step.Branch t a b) u = t ≡ u
Owns (step.While t drops a) u = t ≡ u
Owns (step.For s ts drops a) u = owners ts u ≡ true
Owns (step.Repeat t drops a) u = t ≡ u
Owns (step.Gather t drops a) u = t ≡ u
Owns (step.Pick t drops a) u = t ≡ u

-- a test that is passed by one and not by the other tells them apart
told_apart : (test : Name → Bool) (s t : Name) → test s ≡ false → test t ≡ true → (b : Bool) → same_name s t ≡ b → b ≡ false
told_apart test s t fails holds true e = let x : true ≡ false = sym holds ∙ ap test (sym (exact_name s t e)) ∙ fails in cc
told_apart test s t fails holds false e = refl

-- the owners of a `for`: from the state without the dropped facts
for_shrinks : (base start E S' : Reading) (s : Name) (ts : List Name) (L : Name → Loop) → NoWhiles base.code → Entry base s ts L → start ≡ for_start base s ts L →
    NoLonger start.code E.code → NoWhiles E.code → S' ≡ after_for base s ts L E → Shrinks (λ u. owners ts u ≡ true) base.code S'.code
for_shrinks base start E S' s ts L free entry begins less inner ends = record {
  less = λ u. subst (λ (z : Reading). statements (z.code u) ≤ statements (base.code u)) (sym ends) (lesser u (same_name s u) (owners ts u) refl refl);
  free = λ u. subst (λ (z : Reading). NoWhile (z.code u)) (sym ends) (freer u (same_name s u) (owners ts u) refl);
  shorter = λ u o. subst (λ (z : Reading). statements (z.code u) < statements (base.code u)) (sym ends) (
      rw (told_apart (owners ts) s u entry.not_owner o (same_name s u) refl) (rw o (rest_shorter (base.code u) (For (L u).binder s 0 (L u).body) (L u).rest (entry.is u o))));
}
  where
    set_code : start.code s ≡ base.code s
    set_code = ap (λ (z : Reading). z.code s) begins ∙ ap (λ b. if b then for_body base s ts L s else base.code s) entry.not_owner

    lesser : (u : Name) (b c : Bool) → same_name s u ≡ b → owners ts u ≡ c → statements (if b then E.code s else (if c then (L u).rest else base.code u)) ≤ statements (base.code u)
    lesser u true c e o = subst (λ z. statements (E.code s) ≤ statements (base.code z)) (exact_name s u e) (subst (λ z. statements (E.code s) ≤ statements z) set_code (less s))
    lesser u false true e o = let h = rest_shorter (base.code u) (For (L u).binder s 0 (L u).body) (L u).rest (entry.is u o) in omega (arith, h)
    lesser u false false e o = omega arith

    freer : (u : Name) (b c : Bool) → owners ts u ≡ c → NoWhile (if b then E.code s else (if c then (L u).rest else base.code u))
    freer u true c o = inner s
    freer u false true o = (behind base.code u (For (L u).binder s 0 (L u).body) (L u).rest free (entry.is u o)).1
    freer u false false o = free u

-- where a `for` starts
for_starts : (base start : Reading) (s : Name) (ts : List Name) (L : Name → Loop) → NoWhiles base.code → Entry base s ts L → start ≡ for_start base s ts L → NoWhiles start.code
for_starts base start s ts L free entry begins u = subst (λ (z : Reading). NoWhile (z.code u)) (sym begins) (go (owners ts u) refl)
  where
    go : (c : Bool) → owners ts u ≡ c → NoWhile (if c then for_body base s ts L u else base.code u)
    go true o = map_free (who_with (L u).binder (who.At s)) (L u).body (behind base.code u (For (L u).binder s 0 (L u).body) (L u).rest free (entry.is u o)).0
    go false o = free u

-- the set of a gather or a pick isn't the owner
set_apart : (base : Reading) (s t : Name) → base.mode s ≡ Some mode.Each → is_active (base.mode t) ≡ true → (b : Bool) → same_name s t ≡ b → b ≡ false
set_apart base s t each act true e =
    let x : is_active (Some mode.Each) ≡ true = ap is_active (sym each ∙ ap base.mode (exact_name s t e)) ∙ act in absurd (true≢false (sym x))
set_apart base s t each act false e = refl

gather_shrinks : (base start E S' : Reading) (t : Name) (a : AnyReceive) → NoWhiles base.code → Gathers base t a → NoLonger base.code E.code → NoWhiles E.code →
    S' ≡ set_at base a.set E (changed same_name base.code t a.rest) → Shrinks (λ u. t ≡ u) base.code S'.code
gather_shrinks base start E S' t a free entry less inner ends = record {
  less = λ u. subst (λ (z : Reading). statements (z.code u) ≤ statements (base.code u)) (sym ends) (lesser u (same_name a.set u) refl);
  free = λ u. subst (λ (z : Reading). NoWhile (z.code u)) (sym ends) (freer u (same_name a.set u));
  shorter = λ u o. subst (λ z. statements (S'.code z) < statements (base.code z)) o (subst (λ (z : Reading). statements (z.code t) < statements (base.code t)) (sym ends) (
      rw (set_apart base a.set t entry.set entry.active (same_name a.set t) refl) (rw (changed_here base.code t a.rest) shorter_rest)));
}
  where
    shorter_rest : statements a.rest < statements (base.code t)
    shorter_rest = rest_shorter (base.code t) (Repeat a.set 0 (RecvAny a.channel a.variables a.binder a.set a.body ⨾ done)) a.rest entry.is

    lesser : (u : Name) (b : Bool) → same_name a.set u ≡ b → statements (if b then E.code a.set else changed same_name base.code t a.rest u) ≤ statements (base.code u)
    lesser u true e = subst (λ z. statements (E.code a.set) ≤ statements (base.code z)) (exact_name a.set u e) (less a.set)
    lesser u false e = changed_no_longer base.code t a.rest (omega (arith, shorter_rest)) u

    freer : (u : Name) (b : Bool) → NoWhile (if b then E.code a.set else changed same_name base.code t a.rest u)
    freer u true = inner a.set
    freer u false = changed_free base.code t a.rest (behind base.code t (Repeat a.set 0 (RecvAny a.channel a.variables a.binder a.set a.body ⨾ done)) a.rest free entry.is).1 free u

pick_shrinks : (base E S' : Reading) (t : Name) (a : AnyReceive) → NoWhiles base.code → MayPick base t a → NoLonger base.code E.code → NoWhiles E.code →
    S' ≡ after_pick base t a E → Shrinks (λ u. t ≡ u) base.code S'.code
pick_shrinks base E S' t a free entry less inner ends = record {
  less = λ u. subst (λ (z : Reading). statements (z.code u) ≤ statements (base.code u)) (sym ends) (lesser u (same_name t u) refl);
  free = λ u. subst (λ (z : Reading). NoWhile (z.code u)) (sym ends) (changed_free E.code t a.rest (behind base.code t (RecvAny a.channel a.variables a.binder a.set a.body) a.rest free entry.is).1 inner u);
  shorter = λ u o. subst (λ z. statements (S'.code z) < statements (base.code z)) o (subst (λ (z : Reading). statements (z.code t) < statements (base.code t)) (sym ends) (
      rw (changed_here E.code t a.rest) shorter_rest));
}
  where
    shorter_rest : statements a.rest < statements (base.code t)
    shorter_rest = rest_shorter (base.code t) (RecvAny a.channel a.variables a.binder a.set a.body) a.rest entry.is

    lesser : (u : Name) (b : Bool) → same_name t u ≡ b → statements (if b then a.rest else E.code u) ≤ statements (base.code u)
    lesser u true e = subst (λ z. statements a.rest ≤ statements (base.code z)) (exact_name t u e) (omega (arith, shorter_rest))
    lesser u false e = less u

-- the start of a gather's or a pick's premise
focus_starts : (base start : Reading) (t : Name) (a : AnyReceive) → NoWhiles base.code → statements (from_focus a) ≤ statements (base.code t) → NoWhile (from_focus a) →
    start.code ≡ changed same_name base.code t (from_focus a) → NoLonger base.code start.code × NoWhiles start.code
focus_starts base start t a free h n e = (
  λ u. subst (λ (z : Codes). statements (z u) ≤ statements (base.code u)) (sym e) (changed_no_longer base.code t (from_focus a) h u),
  λ u. subst (λ (z : Codes). NoWhile (z u)) (sym e) (changed_free base.code t (from_focus a) n free u),
)

module _ (P : Program) where
  mutual
    pub step_shrinks : (F : Follow) (A : Step) (S : Symbolic) (X : Items) (S' : Symbolic) → NoWhiles (reading S).code → Takes_step P F A S X S' → Shrinks (Owns A) (reading S).code (reading S').code
    step_shrinks _ _ _ _ _ free (by_rule F b S r h quiet) = applied S r (rule_of b) free h
    step_shrinks _ _ _ _ _ free (by_branch V t A B S start start' E F S' X Y guard br ta tb) =
        let h = behind (reading S).code t br.statement br.rest free br.is in
        let o = sides_of br.statement guard br.first br.second br.two h.0 in
        let first = alone (reading S).code (reading start).code t (br.first then br.rest) free (ap (λ (z : Reading). z.code) br.begins)
        (side_shorter ((reading S).code t) br.statement br.first br.rest br.is o.0) (then_free br.first br.rest o.2 h.1) in
        let inner = steps_shrink V A start X E first.free ta in
        subst (λ (z : Codes). Shrinks (λ u. t ≡ u) (reading S).code z) (sym br.ends.code)
        (chain (λ u. t ≡ u) (λ u. ⊥) (reading S).code (reading start).code (reading E).code first record { less = inner.0; free = inner.1; shorter = λ u x. absurd x })
    step_shrinks _ _ _ _ _ free (by_while F F' t drops A S start E S' X guard w ta puts) =
        absurd (behind w.base.code t (While guard w.body) w.rest (subst NoWhiles (sym w.weaker.code) free) w.is).0
    step_shrinks _ _ _ _ _ free (by_repeat F F' t drops A S start E S' X s r ta puts) =
        subst (λ (z : Codes). Shrinks (λ u. t ≡ u) z (reading S').code) r.weaker.code
        (goes r.base.code (reading S').code t (Repeat s 0 r.body) r.rest (subst NoWhiles (sym r.weaker.code) free) r.is (ap (λ (z : Reading). z.code) r.next))
    step_shrinks _ _ _ _ _ free (by_for F F' s ts drops A S start E S' X f ta puts) =
        let base = subst NoWhiles (sym f.weaker.code) free in
        let inner = steps_shrink F' A start X E (for_starts f.base (reading start) s ts f.loops base f.entry f.begins) ta in
        subst (λ (z : Codes). Shrinks (λ u. owners ts u ≡ true) z (reading S').code) f.weaker.code
        (for_shrinks f.base (reading start) (reading E) (reading S') s ts f.loops base f.entry f.begins inner.0 inner.1 f.next)
    step_shrinks _ _ _ _ _ free (by_gather F F' t drops A S start E S' X a g ta puts) =
        let base = subst NoWhiles (sym g.weaker.code) free in
        let h = behind g.base.code t (Repeat a.set 0 (RecvAny a.channel a.variables a.binder a.set a.body ⨾ done)) a.rest base g.entry.is in
        let fits : statements (from_focus a) ≤ statements (g.base.code t) = rw g.entry.is (let l = focus_long a in omega (arith, l)) in
        let o = focus_starts g.base (reading start) t a base fits (focus_free a h.0.0) (ap (λ (z : Reading). z.code) g.begins) in
        let inner = steps_shrink F' A start X E o.1 ta in
        subst (λ (z : Codes). Shrinks (λ u. t ≡ u) z (reading S').code) g.weaker.code
        (gather_shrinks g.base (reading start) (reading E) (reading S') t a base g.entry (no_longer_then g.base.code (reading start).code (reading E).code o.0 inner.0) inner.1 g.next)
    step_shrinks _ _ _ _ _ free (by_pick F F' t drops A S start E S' X a nonempty p ta puts) =
        let base = subst NoWhiles (sym p.weaker.code) free in
        let h = behind p.base.code t (RecvAny a.channel a.variables a.binder a.set a.body) a.rest base p.entry.is in
        let fits : statements (from_focus a) ≤ statements (p.base.code t) = rw p.entry.is (let l = focus_long a in omega (arith, l)) in
        let o = focus_starts p.base (reading start) t a base fits (focus_free a h.0) (ap (λ (z : Reading). z.code) p.begins) in
        let inner = steps_shrink F' A start X E o.1 ta in
        subst (λ (z : Codes). Shrinks (λ u. t ≡ u) z (reading S').code) p.weaker.code
        (pick_shrinks p.base (reading E) (reading S') t a base p.entry (no_longer_then p.base.code (reading start).code (reading E).code o.0 inner.0) inner.1 p.next)

    pub steps_shrink : (F : Follow) (D : Steps) (S : Symbolic) (X : Items) (S' : Symbolic) → NoWhiles (reading S).code → Takes_steps P F D S X S' → NoLonger (reading S).code (reading S').code × NoWhiles (reading S').code
    steps_shrink _ _ _ _ _ free (ended F S) = (longest (reading S).code, free)
    steps_shrink _ _ _ _ _ free (next F A B S S' S'' X Y tidy same ta tb) =
        let a = step_shrinks F A S X S' free ta in
        let b = steps_shrink F B S' Y S'' a.free tb in
        (no_longer_then (reading S).code (reading S').code (reading S'').code a.less b.0, b.1)
