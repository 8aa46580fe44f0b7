-- The owners of a `for`: the loops at which they stand, and where they stand behind them.
use Rattle.std.proofs.Common.{◌≡◌, ℕ, ◌+◌, ◌<◌, Bool, true, false, cond, List, [], ◌∷◌, ◌++◌, map, reverse, length, take, drop, get_or, Option, Some, refl, sym, ap, ◌∙◌, subst}
use Rattle.std.specs.Prelude.{zero, None, Ok, Err, ◌&&◌, ◌||◌, not}
use Rattle.std.specs.List.{list_any}
use Rattle.std.proofs.lemmas.List.{reverse-append, map-append, at_drop_more, append-nil, append_assoc, take_more}
use Rattle.std.proofs.lemmas.Option.{same_Some}
use Rattle.brisk_values.specs.Names.{Name, same_name}
use Rattle.brisk_values.proofs.Changes.{name_laws}
use Rattle.brisk_syntax.specs.Segments.{head_of, rest_of}
use Rattle.brisk_syntax.specs.Substitution.{code_with}
use Rattle.brisk_syntax.specs.Syntax.{For, Code, ◌⨾◌}
use Rattle.brisk_syntax.specs.Typing.{is_among}
use Rattle.brisk_syntax.specs.declared.tree.Who.TheVariants as who
use Rattle.brisk_state.specs.declared.thread.Mode.{Mode}
use Rattle.brisk_state.specs.declared.thread.Mode.TheVariants.{One, At, Each}
use Rattle.brisk_state.specs.declared.thread.Thread.{Thread}
use Rattle.brisk_state.specs.Symbolic.{Symbolic, code_at, thread_named, with_code, with_mode}
use Rattle.brisk_basic.specs.declared.rule.RuleFault.TheVariants.{WrongHead}
use Rattle.brisk_basic.specs.Basic.{at_thread}
use Rattle.brisk_basic.specs.Outcomes.{when, and_then, told_as}
use Rattle.brisk_derivation.specs.declared.steps.Fact.{Fact}
use Rattle.brisk_rules.specs.declared.why.Why.{Why}
use Rattle.brisk_rules.specs.declared.why.Why.TheVariants.{Rule}
use Rattle.brisk_rules.specs.Heads.{Loop, for_of}
use Rattle.brisk_rules.specs.Rules.{Outcome, Owner, Entered, at_head, wanted, looks, looks_at, at_bodies, with_rests, loops_of, can_focus, mode_of, not_restored, without_drops, enter_for}
use Rattle.brisk_rules.specs.Rules as rules
use Rattle.brisk_loops.specs.CloseSeen.{is_looked_at}
use Rattle.brisk_loops.specs.EnterSeen.{StartsAt, AreBodies, IsBody, at_codes, focus_fault, loop_at}
use Rattle.brisk_loops.specs.HeadsSeen.{each_in}
use Rattle.brisk_loops.specs.LeaveSeen.{StartsLike, owner_by, behind}
use Rattle.brisk_rules.proofs.Fulfilled.{and_then_ok, same_ok, when_ok}
use Rattle.brisk_loops.proofs.Entering.{at_code}
use Rattle.brisk_loops.proofs.Leaving.{code_moved, mode_moved}
use Rattle.std.proofs.lemmas.Bool.{or_right}

-- a name is among names in whatever order
any_append : {A : Type 0} (f : A → Bool) (xs ys : List A) → list_any f (xs ++ ys) ≡ (list_any f xs || list_any f ys)
any_append f [] ys = refl
any_append f (x ∷ xs) ys = elim (f x) as (λ b. (b || list_any f (xs ++ ys)) ≡ ((b || list_any f xs) || list_any f ys)) [ true ↦ refl | false ↦ any_append f xs ys ]

or_swap : (a b : Bool) → (a || (b || false)) ≡ (b || a)
or_swap true true = refl
or_swap true false = refl
or_swap false true = refl
or_swap false false = refl

pub any_reverse : {A : Type 0} (f : A → Bool) (xs : List A) → list_any f (reverse xs) ≡ list_any f xs
any_reverse f [] = refl
any_reverse f (x ∷ xs) =
    ap (list_any f) (reverse-append (x ∷ []) xs) ∙ any_append f (reverse xs) (x ∷ []) ∙ ap (λ b. b || (f x || false)) (any_reverse f xs) ∙ or_swap (list_any f xs) (f x)

-- what comes of a loop, and how one goes on at it
pub goes_at : {B : Type 0} (S : Symbolic) (s t : Name) (go : Loop → Outcome B) (l : Loop) → loop_at S s t ≡ Ok l → at_head S t (for_of s) go ≡ go l
goes_at S s t go l h = by (told_as Rule (at_thread (code_at S t) (λ code. wanted (for_of s code)))) h
  where
    by : (x : Outcome Loop) → and_then x (λ l. Ok l) ≡ Ok l → and_then x go ≡ go l
    by (Ok k) e = ap go (same_ok k l e)
    by (Err why) e = cc

pub fails_at : {B : Type 0} (S : Symbolic) (s t : Name) (go : Loop → Outcome B) (why : Why) → loop_at S s t ≡ Err why → at_head S t (for_of s) go ≡ Err why
fails_at S s t go why h = by (told_as Rule (at_thread (code_at S t) (λ code. wanted (for_of s code)))) h
  where
    by : (x : Outcome Loop) → and_then x (λ l. Ok l) ≡ Err why → and_then x go ≡ Err why
    by (Ok k) e = cc
    by (Err other) e = cc

-- a thread that stands at a loop over the set
pub stands_at_loop : (S : Symbolic) (s t : Name) (code : Code) (v : Name) (b : Code) → Some code ≡ code_at S t → Some (v, b) ≡ each_in s (head_of code) →
    loop_at S s t ≡ Ok record { set = s; body = code_with v (who.At s) b; rest = rest_of code }
stands_at_loop S s t (For w r zero c ⨾ rest) v b at is = at_code S t (For w r zero c ⨾ rest) (for_of s) _ (λ l. Ok l) at (by (same_name s r) is)
  where
    looped : Name → Code → Loop
    looped x d = record { set = s; body = code_with x (who.At s) d; rest = rest }

    by : (q : Bool) → ◌≡◌ {A = Option (Name × Code)} (Some (v, b)) (cond q (Some (w, c)) None) → cond q (Some (looped w c)) None ≡ Some (looped v b)
    by true e = let p = same_Some (v, b) (w, c) e in λ i. Some (looped (sym p i).0 (sym p i).1)
    by false e = cc
stands_at_loop S s t code v b at is = absurd cc

-- the loops of the first owners, and those of the others
abbrev pub Loops : Symbolic → Name → List Name → ℕ → List Code → Type 0
Loops S s ts k bodies =
    (ls : List Loop) × (bodies ≡ map (λ l. l.body) ls) × (loops_of S s [] ts ≡ and_then (loops_of S s (reverse (take k ts)) (drop k ts)) (λ more. Ok (ls ++ more)))

pub no_loops : (S : Symbolic) (s : Name) (ts : List Name) → Loops S s ts 0 []
no_loops S s ts = ([], refl, by (loops_of S s [] ts))
  where
    by : (x : Outcome (List Loop)) → x ≡ and_then x (λ more. Ok more)
    by (Ok ls) = refl
    by (Err why) = refl

-- the loop of the next owner, of which the code tests whether it was named before
next_loops : (S : Symbolic) (s : Name) (before : List Name) (t : Name) (rest : List Name) (l : Loop) (ls : List Loop) → loop_at S s t ≡ Ok l → is_among before t ≡ false →
    and_then (loops_of S s before (t ∷ rest)) (λ more. Ok (ls ++ more)) ≡ and_then (loops_of S s (t ∷ before) rest) (λ more. Ok ((ls ++ l ∷ []) ++ more))
next_loops S s before t rest l ls at once =
    ap (λ (x : Outcome (List Loop)). and_then x (λ more. Ok (ls ++ more)))
    (goes_at S s t _ l at ∙ ap (λ b. when (not b) (Rule WrongHead) (and_then (loops_of S s (t ∷ before) rest) (λ more. Ok (l ∷ more)))) once)
    ∙ by (loops_of S s (t ∷ before) rest)
  where
    by : (x : Outcome (List Loop)) → and_then (and_then x (λ more. Ok (l ∷ more))) (λ more. Ok (ls ++ more)) ≡ and_then x (λ more. Ok ((ls ++ l ∷ []) ++ more))
    by (Ok more) = ap Ok (sym (append_assoc ls (l ∷ []) more))
    by (Err why) = refl

module _ (S : Symbolic) (s : Name) (ts : List Name) (k : ℕ) (t : Name) (d : Name) (here : k < length ts) (t_is : t ≡ get_or ts k d) where
  -- the owners before this one, and this one, are one more
  one_more : reverse (take (k + 1) ts) ≡ t ∷ reverse (take k ts)
  one_more = ap reverse (take_more ts k d here) ∙ reverse-append (take k ts) (get_or ts k d ∷ []) ∙ ap (λ x. x ∷ reverse (take k ts)) (sym t_is)

  among_before : (b : Bool) → b ≡ is_among (take k ts) t → is_among (reverse (take k ts)) t ≡ b
  among_before b e = any_reverse (same_name t) (take k ts) ∙ sym e

  at_next : (before : List Name) → loops_of S s before (drop k ts) ≡ loops_of S s before (t ∷ drop (k + 1) ts)
  at_next before = at_drop_more (λ xs. loops_of S s before xs) ts k d here ∙ ap (λ x. loops_of S s before (x ∷ drop (k + 1) ts)) (sym t_is)

  pub one_more_loop : (bodies : List Code) (body : Code) (bodies' : List Code) → Loops S s ts k bodies → IsBody (loop_at S s t) body → false ≡ is_among (take k ts) t → bodies' ≡ bodies ++ body ∷ [] → Loops S s ts (k + 1) bodies'
  one_more_loop bodies body bodies' g at once next = (
    g.0 ++ at.0 ∷ [],
    next ∙ (λ i. g.1 i ++ at.2 i ∷ []) ∙ sym (map-append (λ l. l.body) g.0 (at.0 ∷ [])),
    g.2 ∙ ap (λ (x : Outcome (List Loop)). and_then x (λ more. Ok (g.0 ++ more))) (at_next (reverse (take k ts)))
        ∙ next_loops S s (reverse (take k ts)) t (drop (k + 1) ts) at.0 g.0 at.1 (among_before false once)
        ∙ ap (λ (b : List Name). and_then (loops_of S s b (drop (k + 1) ts)) (λ more. Ok ((g.0 ++ at.0 ∷ []) ++ more))) (sym one_more),
  )

  pub fails_here : (bodies : List Code) (why : Why) → Loops S s ts k bodies → loop_at S s t ≡ Err why → loops_of S s [] ts ≡ Err why
  fails_here bodies why g at =
      g.2 ∙ ap (λ (x : Outcome (List Loop)). and_then x (λ more. Ok (g.0 ++ more))) (at_next (reverse (take k ts)) ∙ fails_at S s t _ why at)

  pub named_twice : (bodies : List Code) (body : Code) → Loops S s ts k bodies → IsBody (loop_at S s t) body → true ≡ is_among (take k ts) t → loops_of S s [] ts ≡ Err (Rule WrongHead)
  named_twice bodies body g at again =
      g.2 ∙ ap (λ (x : Outcome (List Loop)). and_then x (λ more. Ok (g.0 ++ more)))
      (at_next (reverse (take k ts)) ∙ goes_at S s t _ at.0 at.1 ∙ ap (λ b. when (not b) (Rule WrongHead) (and_then (loops_of S s (t ∷ reverse (take k ts)) (drop (k + 1) ts)) (λ more. Ok (at.0 ∷ more)))) (among_before true again))

-- all owners have been gone through
pub all_loops : (S : Symbolic) (s : Name) (ts : List Name) (k : ℕ) (bodies : List Code) → drop k ts ≡ [] → Loops S s ts k bodies → AreBodies (loops_of S s [] ts) bodies
all_loops S s ts k bodies end g = (
  g.0,
  g.2 ∙ ap (λ (xs : List Name). and_then (loops_of S s (reverse (take k ts)) xs) (λ more. Ok (g.0 ++ more))) end ∙ ap Ok (append-nil g.0),
  g.1,
)

-- threads at the bodies of loops
bodies_at : (ts : List Name) (ls : List Loop) (threads : List Thread) → at_codes ts (map (λ l. l.body) ls) threads ≡ at_bodies ts ls threads
bodies_at [] [] threads = refl
bodies_at [] (l ∷ ls) threads = refl
bodies_at (t ∷ ts) [] threads = refl
bodies_at (t ∷ ts) (l ∷ ls) threads = bodies_at ts ls (with_code t l.body threads)

pub none_at : (ts : List Name) (threads : List Thread) → at_codes ts [] threads ≡ threads
none_at [] threads = refl
none_at (t ∷ ts) threads = refl

-- a set that can be brought into focus
can_focus_ok : {A : Type 0} (m : Option Mode) (x : Outcome A) → None ≡ focus_fault m → can_focus m x ≡ x
can_focus_ok (Some Each) x h = refl
can_focus_ok (Some At) x h = absurd cc
can_focus_ok (Some One) x h = absurd cc
can_focus_ok None x h = absurd cc

can_focus_fails : {A : Type 0} (m : Option Mode) (x : Outcome A) (why : Why) → Some why ≡ focus_fault m → can_focus m x ≡ Err why
can_focus_fails (Some Each) x why h = absurd cc
can_focus_fails (Some At) x why h = ap Err (sym (same_Some why _ h))
can_focus_fails (Some One) x why h = ap Err (sym (same_Some why _ h))
can_focus_fails None x why h = ap Err (sym (same_Some why _ h))

abbrev entered_for : Symbolic → Name → List Name → List Fact → List Loop → Entered
entered_for S s ts drops ls = record {
  start = record S { threads = at_bodies ts ls (with_mode s At S.threads); facts = without_drops drops S.facts };
  known = without_drops drops S.facts;
  owners = with_rests ts ls;
  kind = rules.For s;
}

module _ (S : Symbolic) (s : Name) (ts : List Name) (drops : List Fact) where
  pub no_focus_refuses : (why : Why) → Some why ≡ focus_fault (mode_of (thread_named S.threads s)) → enter_for S s ts drops ≡ Err why
  no_focus_refuses why h = can_focus_fails (mode_of (thread_named S.threads s)) _ why h

  pub loops_refuse : (why : Why) → None ≡ focus_fault (mode_of (thread_named S.threads s)) → loops_of S s [] ts ≡ Err why → enter_for S s ts drops ≡ Err why
  loops_refuse why free h =
      can_focus_ok (mode_of (thread_named S.threads s)) _ free ∙ ap (λ (x : Outcome (List Loop)). and_then x (λ ls. Ok (entered_for S s ts drops ls))) h

  pub for_starts : (bodies : List Code) (n : Symbolic) → None ≡ focus_fault (mode_of (thread_named S.threads s)) → AreBodies (loops_of S s [] ts) bodies →
      n ≡ record { threads = at_codes ts bodies (with_mode s At S.threads); pending = S.pending; facts = without_drops drops S.facts } → StartsAt (enter_for S s ts drops) n
  for_starts bodies n free are next = (
    entered_for S s ts drops are.0,
    can_focus_ok (mode_of (thread_named S.threads s)) _ free ∙ ap (λ (x : Outcome (List Loop)). and_then x (λ ls. Ok (entered_for S s ts drops ls))) are.1,
    (λ i. record { threads = (sym (ap (λ z. at_codes ts z (with_mode s At S.threads)) are.2 ∙ bodies_at ts are.0 (with_mode s At S.threads))) i; pending = S.pending; facts = without_drops drops S.facts }) ∙ sym next,
  )

can_focus_was : {A : Type 0} (m : Option Mode) (x : Outcome A) (a : A) → can_focus m x ≡ Ok a → x ≡ Ok a
can_focus_was (Some Each) x a h = h
can_focus_was (Some At) x a h = absurd cc
can_focus_was (Some One) x a h = absurd cc
can_focus_was None x a h = absurd cc

-- where owners stand behind their loops
for_rest : (s : Name) (code : Code) (l : Loop) → for_of s code ≡ Some l → l.rest ≡ rest_of code
for_rest s (For v r zero b ⨾ rest) l h = by (same_name s r) h
  where
    by : (q : Bool) → cond q (Some record { set = s; body = code_with v (who.At s) b; rest = rest }) None ≡ Some l → l.rest ≡ rest
    by true e = ap (λ (z : Loop). z.rest) (sym (same_Some _ _ e))
    by false e = absurd cc
for_rest s code l h = absurd cc

one_rest : (S : Symbolic) (s t : Name) (l : Loop) → loop_at S s t ≡ Ok l → l.rest ≡ behind (code_at S t)
one_rest S s t l h = by (code_at S t) h
  where
    had : (code : Code) (o : Option Loop) → for_of s code ≡ o → and_then (told_as Rule (wanted o)) (λ l. Ok l) ≡ Ok l → l.rest ≡ rest_of code
    had code None f e = absurd cc
    had code (Some k) f e = for_rest s code l (f ∙ ap Some (same_ok k l e))

    by : (o : Option Code) → and_then (told_as Rule (at_thread o (λ code. wanted (for_of s code)))) (λ l. Ok l) ≡ Ok l → l.rest ≡ behind o
    by None e = absurd cc
    by (Some code) e = had code (for_of s code) refl e

pub rests_are : (S : Symbolic) (s : Name) (before ts : List Name) (ls : List Loop) → loops_of S s before ts ≡ Ok ls → map (owner_by S) ts ≡ with_rests ts ls
rests_are S s before [] ls h = refl
rests_are S s before (t ∷ ts) ls h =
    let x = and_then_ok (told_as Rule (at_thread (code_at S t) (λ code. wanted (for_of s code)))) _ ls h in
    let y = when_ok (not (is_among before t)) (Rule WrongHead) _ ls x.2 in
    let z = and_then_ok (loops_of S s (t ∷ before) ts) _ ls y.1 in
    let at : loop_at S s t ≡ Ok x.0 = ap (λ (o : Outcome Loop). and_then o (λ l. Ok l)) x.1 in
    (λ i. record { name = t; rest = sym (one_rest S s t x.0 at) i } ∷ rests_are S s (t ∷ before) ts z.0 z.1 i) ∙ ap (with_rests (t ∷ ts)) (same_ok (x.0 ∷ z.0) ls z.2)

entered_so : (S : Symbolic) (s : Name) (ts : List Name) (drops : List Fact) (r : Entered) → enter_for S s ts drops ≡ Ok r → (ls : List Loop) × (loops_of S s [] ts ≡ Ok ls) × (entered_for S s ts drops ls ≡ r)
entered_so S s ts drops r e =
    let x = and_then_ok (loops_of S s [] ts) _ r (can_focus_was (mode_of (thread_named S.threads s)) _ r e) in (x.0, x.1, same_ok _ r x.2)

pub for_closes : (S : Symbolic) (s : Name) (ts : List Name) (drops : List Fact) (r : Entered) → enter_for S s ts drops ≡ Ok r → (map (owner_by S) ts ≡ r.owners) × (rules.For s ≡ r.kind)
for_closes S s ts drops r e =
    let x = entered_so S s ts drops r e in (rests_are S s [] ts x.0 x.1 ∙ ap (λ (z : Entered). z.owners) x.2, ap (λ (z : Entered). z.kind) x.2)

-- threads that the close doesn't look at stand at bodies
bodies_moved : (look : Name → Bool) (ts : List Name) (ls : List Loop) → ((u : Name) → list_any (λ o. same_name u o.name) (with_rests ts ls) ≡ true → look u ≡ false) → (threads us : List Thread) →
    not_restored look (at_bodies ts ls threads) us ≡ not_restored look threads us
bodies_moved look [] ls free threads us = refl
bodies_moved look (t ∷ ts) [] free threads us = refl
bodies_moved look (t ∷ ts) (l ∷ ls) free threads us =
    bodies_moved look ts ls (λ u h. free u (or_right (same_name u t) _ h)) (with_code t l.body threads) us
    ∙ code_moved look t l.body (λ u h. free u (ap (λ b. b || list_any (λ o. same_name u o.name) (with_rests ts ls)) (name_laws.symm u t ∙ h))) threads us

pub for_like : (S : Symbolic) (s : Name) (ts : List Name) (drops : List Fact) (r : Entered) → enter_for S s ts drops ≡ Ok r → StartsLike r drops S
for_like S s ts drops r e =
    let x = entered_so S s ts drops r e in
    let look = is_looked_at (rules.For s) (with_rests ts x.0) in
    subst (λ (z : Entered). StartsLike z drops S) x.2
    (refl, refl, λ E. bodies_moved look ts x.0 (λ u h. exempt (looks_at (looks (rules.For s)) u) _ h) (with_mode s At S.threads) E.threads ∙ mode_moved look s At S.threads E.threads)
  where
    exempt : (a b : Bool) → b ≡ true → (a && not b) ≡ false
    exempt true b h = ap not h
    exempt false b h = refl
