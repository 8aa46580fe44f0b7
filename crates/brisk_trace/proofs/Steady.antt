-- Code that runs: the gathers of which a run is open, and how deep the bodies in front of them nest.
use Rattle.std.proofs.Common.{◌≡◌, ℕ, zero, suc, ◌+◌, ◌<◌, ◌≤◌, max, Bool, true, false, List, [], ◌∷◌, length, Option, Some, None, nat_eq, refl, sym, ap, ◌∙◌, arith, subst}
use Rattle.std.specs.Prelude.{◌&&◌, is_some, option_map, if◌then◌else◌, nat_lt}
use Rattle.std.specs.List.{AllByRecursion}
use Rattle.std.proofs.Math.Numerals.{add-one}
use Rattle.std.proofs.lemmas.Bool.{eqb-true}
use Rattle.std.proofs.lemmas.Option.{same_Some}
use Rattle.brisk_values.specs.declared.value.Pid.{Pid}
use Rattle.brisk_values.specs.Names.{Name, member, same_name}
use Rattle.brisk_values.proofs.Changes.{both_true, exact_name, name_laws, both_hold}
use Rattle.brisk_syntax.specs.declared.tree.Stmt.{Stmt}
use Rattle.brisk_syntax.specs.declared.tree.Who.{Who}
use Rattle.brisk_syntax.specs.declared.tree.Who.TheVariants as who
use Rattle.brisk_syntax.specs.Depths.{code_depth, statement_depth}
use Rattle.brisk_syntax.specs.Segments.{code_length, rest_of}
use Rattle.brisk_syntax.specs.Statements.{code_of, statement_of}
use Rattle.brisk_syntax.specs.Stores.{is_true}
use Rattle.brisk_syntax.specs.Substitution.{code_map, code_with, statement_map, who_with}
use Rattle.brisk_syntax.specs.Syntax.{Statement, Assign, Send, Recv, RecvAny, If, IfElse, While, For, Repeat, Code, done, ◌⨾◌, ◌then◌}
use Rattle.brisk_syntax.specs.Value.{value_of}
use Rattle.brisk_syntax.specs.WellTyped.{all_unbegun, is_unbegun}
use Rattle.brisk_instance.proofs.Alls.{all_weaken}
use Rattle.brisk_async.specs.Machine.{Effect, Payload, Queue, View, effect, is_member, place_of, queue, receives, takes}
use Rattle.brisk_async.specs.PlainRuns.{Gather, at_receive, at_turn}
use Rattle.brisk_async.proofs.Runs.{bound}
use Rattle.brisk_trace.specs.Gathers.{begun, gather_at, gather_of, open_runs, with_begun}

-- a body of two statements or more is no gather's
pub long_none : (s : Name) (ss : List Stmt) (rest : Code) → 2 ≤ length ss → is_some (gather_of s (code_of ss) rest) ≡ false
long_none s [] rest h = absurd (omega arith)
long_none s (x ∷ []) rest h = absurd (omega arith)
long_none s (x ∷ y ∷ ss) rest h = by (statement_of x) (statement_of y) (code_of ss)
  where
    by : (a b : Statement) (c : Code) → is_some (gather_of s (a ⨾ (b ⨾ c)) rest) ≡ false
    by (RecvAny d xs v t e) b c = refl
    by a b c = refl

-- what the body of a gather is
shape_is : (s : Name) (b rest : Code) (g : Gather) → gather_of s b rest ≡ Some g → Repeat s 0 b ⨾ rest ≡ at_turn g 0
shape_is s (RecvAny c xs v t d ⨾ done) rest g e =
    elim (same_name s t) as (λ q. same_name s t ≡ q → (if q then Some record { channel = c; variables = xs; binder = v; set = s; body = d; rest = rest } else None) ≡ Some g → Repeat s 0 (RecvAny c xs v t d ⨾ done) ⨾ rest ≡ at_turn g 0) [
      | true ↦ λ same here.
          ap (λ u. Repeat s 0 (RecvAny c xs v u d ⨾ done) ⨾ rest) (sym (exact_name s t same))
          ∙ ap (λ (h : Gather). at_turn h 0) (same_Some _ g here)
      | false ↦ λ other none. cc
    ] refl e
shape_is s b rest g e = cc

-- the code with another turn at its head
abbrev turn_to : ℕ → Code → Code
turn_to k (Repeat s j b ⨾ rest) = Repeat s k b ⨾ rest
turn_to k code = code

by_shape : (s : Name) (k : ℕ) (b rest : Code) (o : Option Gather) (f : Gather × ℕ) → gather_of s b rest ≡ o → option_map (λ g. (g, k)) o ≡ Some f → Repeat s k b ⨾ rest ≡ at_turn f.0 f.1
by_shape s k b rest None f e h = cc
by_shape s k b rest (Some g) f e h =
    let is = same_Some (g, k) f h in
    ap (turn_to k) (shape_is s b rest g e) ∙ ap (λ (z : Gather × ℕ). at_turn z.0 z.1) is

-- the code is at the beginning of the turn that is told
pub turn_is : (c : Code) (f : Gather × ℕ) → gather_at c ≡ Some f → c ≡ at_turn f.0 f.1
turn_is (Repeat s k b ⨾ rest) f e = by_shape s k b rest (gather_of s b rest) f refl e
turn_is c f e = cc

pub turn_told : (g : Gather) (k : ℕ) → gather_at (at_turn g k) ≡ Some (g, k)
turn_told g k = ap (λ b. option_map (λ (h : Gather). (h, k)) (if b then Some g else None)) (name_laws.refl g.set)

-- the runs that are open where a turn begins
pub open_first : (g : Gather) → open_runs (at_turn g 0) ≡ open_runs g.rest
open_first g = ap (λ o. with_begun o (open_runs g.rest)) (turn_told g 0)

pub open_later : (g : Gather) (k : ℕ) → open_runs (at_turn g (suc k)) ≡ g ∷ open_runs g.rest
open_later g k = ap (λ o. with_begun o (open_runs g.rest)) (turn_told g (suc k))

pub open_next : (g : Gather) (k : ℕ) → open_runs (at_turn g (k + 1)) ≡ g ∷ open_runs g.rest
open_next g k = ap (λ n. open_runs (at_turn g n)) (add-one k) ∙ open_later g k

-- what holds of the open runs behind, and of the first one if it is begun, holds of all
all_begun : (P : Gather → Type 0) (o : Option (Gather × ℕ)) (gs : List Gather) → ((f : Gather × ℕ) (k : ℕ) → o ≡ Some f → f.1 ≡ suc k → P f.0) → AllByRecursion P gs → AllByRecursion P (with_begun o gs)
all_begun P None gs first behind = behind
all_begun P (Some f) gs first behind =
    elim f.1 as (λ k. f.1 ≡ k → AllByRecursion P (begun k f.0 gs)) [ zero ↦ λ e. behind | suc k ↦ λ e. (first f k refl e, behind) ] refl

-- what stands behind an open run is shorter than the code
pub shorter : (c : Code) → AllByRecursion (λ g. code_length g.rest < code_length c) (open_runs c)
shorter done = tt
shorter (s ⨾ c) =
    all_begun (λ g. code_length g.rest < code_length c + 1) (gather_at (s ⨾ c)) (open_runs c)
    (λ f k here turn. let behind : code_length c ≡ code_length f.0.rest = ap (λ z. code_length (rest_of z)) (turn_is (s ⨾ c) f here) in omega arith)
    (all_weaken (λ g. code_length g.rest < code_length c) (λ g. code_length g.rest < code_length c + 1) (λ g less. omega arith) (open_runs c) (shorter c))

-- where a run of a gather is open, the code isn't at its beginning
pub not_anew : (c : Code) → AllByRecursion (λ g. c ≡ at_turn g 0 → ⊥) (open_runs c)
not_anew done = tt
not_anew (s ⨾ c) =
    all_begun (λ g. s ⨾ c ≡ at_turn g 0 → ⊥) (gather_at (s ⨾ c)) (open_runs c)
    (λ f k here turn same. let first : f ≡ (f.0, 0) = same_Some f (f.0, 0) (sym here ∙ ap gather_at same ∙ turn_told f.0 0) in let none = ap (λ (z : Gather × ℕ). z.1) first in cc)
    (all_weaken (λ g. code_length g.rest < code_length c) (λ g. s ⨾ c ≡ at_turn g 0 → ⊥) (λ g less same. let behind : code_length c ≡ code_length g.rest = ap (λ z. code_length (rest_of z)) same in omega arith) (open_runs c) (shorter c))

-- an outer run isn't the one at whose receive the code stands
pub not_outer : (g : Gather) (k : ℕ) → AllByRecursion (λ h. (j : ℕ) → at_receive g k ≡ at_receive h j → ⊥) (open_runs g.rest)
not_outer g k =
    all_weaken (λ h. code_length h.rest < code_length g.rest) (λ h. (j : ℕ) → at_receive g k ≡ at_receive h j → ⊥)
    (λ h less j same. let behind : code_length g.rest ≡ code_length h.rest = ap (λ z. code_length (rest_of (rest_of z))) same in omega arith) (open_runs g.rest) (shorter g.rest)

-- the bodies of the statement, or of the code's statements, are at turn 0
abbrev pub is_steady : Statement → Bool
is_steady (For v s k b) = all_unbegun b
is_steady (Repeat s k b) = all_unbegun b
is_steady s = is_unbegun s

abbrev pub all_steady : Code → Bool
all_steady done = true
all_steady (s ⨾ c) = is_steady s && all_steady c

steady_of : (s : Statement) → is_unbegun s ≡ true → is_steady s ≡ true
steady_of (For v s k b) h = (both_true (nat_eq k 0) (all_unbegun b) h).1
steady_of (Repeat s k b) h = (both_true (nat_eq k 0) (all_unbegun b) h).1
steady_of s h = h

pub all_steady_of : (c : Code) → all_unbegun c ≡ true → all_steady c ≡ true
all_steady_of done h = refl
all_steady_of (s ⨾ c) h = let e = both_true (is_unbegun s) (all_unbegun c) h in both_hold (is_steady s) (all_steady c) (steady_of s e.0) (all_steady_of c e.1)

steady_then : (f d : Code) → all_unbegun f ≡ true → all_steady d ≡ true → all_steady (f then d) ≡ true
steady_then done d h k = k
steady_then (s ⨾ f) d h k = let e = both_true (is_unbegun s) (all_unbegun f) h in both_hold (is_steady s) (all_steady (f then d)) (steady_of s e.0) (steady_then f d e.1 k)

-- a statement at turn 0 is no begun gather
none_begun : (k : ℕ) (o : Option Gather) (gs : List Gather) → k ≡ 0 → with_begun (option_map (λ g. (g, k)) o) gs ≡ gs
none_begun k None gs e = refl
none_begun k (Some g) gs e = ap (λ n. begun n g gs) e

fresh : (s : Statement) (rest : Code) (gs : List Gather) → is_unbegun s ≡ true → with_begun (gather_at (s ⨾ rest)) gs ≡ gs
fresh (Repeat s k b) rest gs h = none_begun k (gather_of s b rest) gs (eqb-true k 0 (both_true (nat_eq k 0) (all_unbegun b) h).0)
fresh s rest gs h = refl

pub open_then : (f d : Code) → all_unbegun f ≡ true → open_runs (f then d) ≡ open_runs d
open_then done d h = refl
open_then (s ⨾ f) d h = let e = both_true (is_unbegun s) (all_unbegun f) h in fresh s (f then d) (open_runs (f then d)) e.0 ∙ open_then f d e.1

pub open_none : (c : Code) → all_unbegun c ≡ true → open_runs c ≡ []
open_none done h = refl
open_none (s ⨾ c) h = let e = both_true (is_unbegun s) (all_unbegun c) h in fresh s c (open_runs c) e.0 ∙ open_none c e.1

-- to name partners changes neither depths nor turns
mutual
  depth_of_map : (h : Who → Who) (s : Statement) → statement_depth (statement_map h s) ≡ statement_depth s
  depth_of_map h (Assign x e) = refl
  depth_of_map h (Send c es u) = refl
  depth_of_map h (Recv c xs u) = refl
  depth_of_map h (RecvAny c xs v s b) = ap (λ n. n + 1) (depth_map h b)
  depth_of_map h (If e a) = ap (λ n. n + 1) (depth_map h a)
  depth_of_map h (IfElse e a b) = λ i. max (depth_map h a i) (depth_map h b i) + 1
  depth_of_map h (While e b) = ap (λ n. n + 1) (depth_map h b)
  depth_of_map h (For v s k b) = ap (λ n. n + 1) (depth_map h b)
  depth_of_map h (Repeat s k b) = ap (λ n. n + 1) (depth_map h b)

  depth_map : (h : Who → Who) (c : Code) → code_depth (code_map h c) ≡ code_depth c
  depth_map h done = refl
  depth_map h (s ⨾ c) = λ i. max (depth_of_map h s i) (depth_map h c i)

mutual
  unbegun_of_map : (h : Who → Who) (s : Statement) → is_unbegun (statement_map h s) ≡ is_unbegun s
  unbegun_of_map h (Assign x e) = refl
  unbegun_of_map h (Send c es u) = refl
  unbegun_of_map h (Recv c xs u) = refl
  unbegun_of_map h (RecvAny c xs v s b) = unbegun_map h b
  unbegun_of_map h (If e a) = unbegun_map h a
  unbegun_of_map h (IfElse e a b) = λ i. unbegun_map h a i && unbegun_map h b i
  unbegun_of_map h (While e b) = unbegun_map h b
  unbegun_of_map h (For v s k b) = ap (λ q. nat_eq k 0 && q) (unbegun_map h b)
  unbegun_of_map h (Repeat s k b) = ap (λ q. nat_eq k 0 && q) (unbegun_map h b)

  unbegun_map : (h : Who → Who) (c : Code) → all_unbegun (code_map h c) ≡ all_unbegun c
  unbegun_map h done = refl
  unbegun_map h (s ⨾ c) = λ i. unbegun_of_map h s i && unbegun_map h c i

-- the bodies of the gathers of which a run is open in the code nest at least so deep
abbrev pub Above : ℕ → Code → Type 0
Above n c = AllByRecursion (λ (g : Gather). n ≤ code_depth g.body) (open_runs c)

-- each statement nests less deep than the gathers whose runs are open behind it
abbrev pub Deep : Code → Type 0
Deep done = Unit {0}
Deep (s ⨾ c) = Above (statement_depth s) c × Deep c

pub above_less : (m n : ℕ) (c : Code) → m ≤ n → Above n c → Above m c
above_less m n c less h = all_weaken (λ (g : Gather). n ≤ code_depth g.body) (λ (g : Gather). m ≤ code_depth g.body) (λ g more. omega arith) (open_runs c) h

deep_then : (n : ℕ) (f d : Code) → all_unbegun f ≡ true → code_depth f ≤ n → Above n d → Deep d → Deep (f then d)
deep_then n done d u less a h = h
deep_then n (s ⨾ f) d u less a h =
    let e = both_true (is_unbegun s) (all_unbegun f) u in
    let here : statement_depth s ≤ n = omega arith in
    let later : code_depth f ≤ n = omega arith in
    (subst (AllByRecursion (λ (g : Gather). statement_depth s ≤ code_depth g.body)) (sym (open_then f d e.1)) (above_less (statement_depth s) n d here a), deep_then n f d e.1 later a h)

pub deep_of : (c : Code) → all_unbegun c ≡ true → Deep c
deep_of done h = tt
deep_of (s ⨾ c) h =
    let e = both_true (is_unbegun s) (all_unbegun c) h in
    (subst (AllByRecursion (λ (g : Gather). statement_depth s ≤ code_depth g.body)) (sym (open_none c e.1)) tt, deep_of c e.1)

-- the code after an event at another statement than a gather's beginning: the runs that are open are those of the code behind
pub record Becomes (rest next : Code) : Type 0 where
  pub opens : open_runs next ≡ open_runs rest
  pub steady : all_steady next ≡ true
  pub deep : Deep next

as_it_is : (rest : Code) → all_steady rest ≡ true → Deep rest → Becomes rest rest
as_it_is rest steady deep = record { opens = refl; steady = steady; deep = deep }

with_body : (n : ℕ) (f d rest : Code) → all_unbegun f ≡ true → code_depth f ≤ n → Above n d → open_runs d ≡ open_runs rest → all_steady d ≡ true → Deep d → Becomes rest (f then d)
with_body n f d rest u less a same steady deep = record { opens = open_then f d u ∙ same; steady = steady_then f d u steady; deep = deep_then n f d u less a deep }

into : (rest : Code) (y x : Effect) → Some y ≡ Some x → Becomes rest y.next → Becomes rest x.next
into rest y x h b = subst (λ (z : Effect). Becomes rest z.next) (same_Some y x h) b

taken_next : (q : Queue) (xs : List Name) (next : Code) (k : ℕ) (o : Option Payload) (x : Effect) → takes q xs next k o ≡ Some x → next ≡ x.next
taken_next q xs next k None x h = cc
taken_next q xs next k (Some m) x h = ap (λ (z : Effect). z.next) (same_Some _ x h)

received_next : (v : View) (q : Queue) (xs : List Name) (next : Code) (place : Option ℕ) (x : Effect) → receives v q xs next place ≡ Some x → next ≡ x.next
received_next v q xs next place x h =
    let b = bound (λ k. takes q xs next k (v.waiting q k)) (place_of (v.loose q.channel) place) x h in
    taken_next q xs next b.0 (v.waiting q b.0) x b.2

if_some : {X : Type 0} (b : Bool) (o : Option X) (x : X) → (if b then o else None) ≡ Some x → o ≡ Some x
if_some true o x h = h
if_some false o x h = cc

-- the code after a receive from any
pub any_next : (v : View) (p : Pid) (c : Name) (xs : List Name) (y s : Name) (b rest : Code) (sender : Option Pid) (place : Option ℕ) (x : Effect) →
    effect v p (RecvAny c xs y s b ⨾ rest) sender place ≡ Some x → all_unbegun b ≡ true → all_steady rest ≡ true → Above (code_depth b) rest → Deep rest → Becomes rest x.next
any_next v p c xs y s b rest None place x h u steady a deep = cc
any_next v p c xs y s b rest (Some w) place x h u steady a deep =
    let f = code_with y (who.Pid w) b in
    subst (Becomes rest) (received_next v (queue w p c) xs (f then rest) place x (if_some (is_member v.sizes s w) _ x h))
    (with_body (code_depth b) f rest rest (unbegun_map (who_with y (who.Pid w)) b ∙ u) (let same : code_depth f ≡ code_depth b = depth_map (who_with y (who.Pid w)) b in omega arith) a refl steady deep)

none_shaped : {A B : Type 0} (f h : A → B) (o : Option A) → option_map f o ≡ None → option_map h o ≡ None
none_shaped f h None e = refl
none_shaped f h (Some x) e = cc

-- what a test chooses
choice : (b : Bool) (rest c d : Code) → Becomes rest c → Becomes rest d → Becomes rest (if b then c else d)
choice true rest c d h k = h
choice false rest c d h k = k

-- the code after an event at another statement than a gather's beginning
pub other_next : (v : View) (p : Pid) (s : Statement) (rest : Code) (sender : Option Pid) (place : Option ℕ) (x : Effect) →
    effect v p (s ⨾ rest) sender place ≡ Some x → gather_at (s ⨾ rest) ≡ None → is_steady s ≡ true → all_steady rest ≡ true → Above (statement_depth s) rest → Deep rest → Becomes rest x.next
other_next v p (Assign y e) rest None None x h g u steady a deep = into rest _ x h (as_it_is rest steady deep)
other_next v p (Send c es w) rest None None x h g u steady a deep = into rest _ x h (as_it_is rest steady deep)
other_next v p (Recv c xs w) rest None place x h g u steady a deep = subst (Becomes rest) (received_next v _ xs rest place x h) (as_it_is rest steady deep)
other_next v p (RecvAny c xs y s b) rest sender place x h g u steady a deep = any_next v p c xs y s b rest sender place x h u steady (above_less (code_depth b) (code_depth b + 1) rest (omega arith) a) deep
other_next v p (If e c) rest None None x h g u steady a deep =
    into rest _ x h (choice (is_true (value_of v.sizes v.own e)) rest (c then rest) rest (with_body (code_depth c + 1) c rest rest u (omega arith) a refl steady deep) (as_it_is rest steady deep))
other_next v p (IfElse e c d) rest None None x h g u steady a deep =
    let both_bodies = both_true (all_unbegun c) (all_unbegun d) u in
    let n = max (code_depth c) (code_depth d) + 1 in
    into rest _ x h (branch (is_true (value_of v.sizes v.own e)) (with_body n c rest rest both_bodies.0 (omega arith) a refl steady deep) (with_body n d rest rest both_bodies.1 (omega arith) a refl steady deep))
  where
    branch : (b : Bool) → Becomes rest (c then rest) → Becomes rest (d then rest) → Becomes rest ((if b then c else d) then rest)
    branch true k l = k
    branch false k l = l
other_next v p (While e c) rest None None x h g u steady a deep =
    into rest _ x h (choice (is_true (value_of v.sizes v.own e)) rest (c then (While e c ⨾ rest)) rest
    (with_body (code_depth c + 1) c (While e c ⨾ rest) rest u (omega arith) a refl (both_hold (all_unbegun c) (all_steady rest) u steady) (a, deep)) (as_it_is rest steady deep))
other_next v p (For y s k c) rest None None x h g u steady a deep =
    let f = code_with y (who.Pid (member s k)) c in
    into rest _ x h (choice (nat_lt k (v.sizes s)) rest (f then (For y s (k + 1) c ⨾ rest)) rest
    (with_body (code_depth c + 1) f (For y s (k + 1) c ⨾ rest) rest (unbegun_map (who_with y (who.Pid (member s k))) c ∙ u) (let same : code_depth f ≡ code_depth c = depth_map (who_with y (who.Pid (member s k))) c in omega arith) a refl (both_hold (all_unbegun c) (all_steady rest) u steady) (a, deep)) (as_it_is rest steady deep))
other_next v p (Repeat s k c) rest None None x h g u steady a deep =
    let same : open_runs (Repeat s (k + 1) c ⨾ rest) ≡ open_runs rest = ap (λ o. with_begun o (open_runs rest)) (none_shaped (λ z. (z, k)) (λ z. (z, k + 1)) (gather_of s c rest) g) in
    into rest _ x h (choice (nat_lt k (v.sizes s)) rest (c then (Repeat s (k + 1) c ⨾ rest)) rest
    (with_body (code_depth c + 1) c (Repeat s (k + 1) c ⨾ rest) rest u (omega arith) (subst (AllByRecursion (λ (z : Gather). code_depth c + 1 ≤ code_depth z.body)) (sym same) a) same (both_hold (all_unbegun c) (all_steady rest) u steady) (a, deep)) (as_it_is rest steady deep))
other_next v p s rest sender place x h g u steady a deep = cc

-- the code at a gather's beginning goes to its receive, or to the code behind
pub turn_next : (v : View) (p : Pid) (g : Gather) (k : ℕ) (sender : Option Pid) (place : Option ℕ) (x : Effect) → effect v p (at_turn g k) sender place ≡ Some x → x.next ≡ (if nat_lt k (v.sizes g.set) then at_receive g k else g.rest)
turn_next v p g k None None x h = ap (λ (z : Effect). z.next) (sym (same_Some _ x h)) ∙ unfolded (nat_lt k (v.sizes g.set))
  where
    unfolded : (b : Bool) → (if b then (RecvAny g.channel g.variables g.binder g.set g.body ⨾ done) then (at_turn g (k + 1)) else g.rest) ≡ (if b then at_receive g k else g.rest)
    unfolded true = refl
    unfolded false = refl
turn_next v p g k sender place x h = cc

-- code that nests deep enough isn't at a gather's receive
pub not_at_receive : (g : Gather) (k : ℕ) → Deep (at_receive g k) → ⊥
not_at_receive g k deep =
    let h = subst (AllByRecursion (λ (z : Gather). code_depth g.body + 1 ≤ code_depth z.body)) (open_next g k) deep.0 in
    absurd (omega (arith, h.0))
