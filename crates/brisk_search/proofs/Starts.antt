-- Where no code has a `while`, none has one where a premise starts.
use Rattle.std.proofs.Common.{◌≡◌, zero, Bool, true, false, List, [], ◌∷◌, Option, Some, None, refl, sym, ap, subst}
use Rattle.std.specs.Prelude.{Ok, not, option_map, if◌then◌else◌}
use Rattle.std.proofs.lemmas.Option.{same_Some}
use Rattle.brisk_values.specs.Names.{Name, same_name}
use Rattle.brisk_syntax.specs.declared.program.Program.{Program}
use Rattle.brisk_syntax.specs.declared.tree.Who.TheVariants as who
use Rattle.brisk_syntax.specs.Substitution.{code_with, who_with}
use Rattle.brisk_syntax.specs.Syntax.{If, IfElse, For, Repeat, RecvAny, Code, done, ◌⨾◌}
use Rattle.brisk_syntax.specs.Typing.{is_among}
use Rattle.brisk_async.specs.Laws.{AnyReceive}
use Rattle.brisk_state.specs.declared.thread.Mode.{Mode}
use Rattle.brisk_state.specs.declared.thread.Mode.TheVariants.{One, At, Each}
use Rattle.brisk_state.specs.declared.thread.Thread.{Thread}
use Rattle.brisk_state.specs.Symbolic.{Symbolic, thread_named, with_code, with_mode}
use Rattle.brisk_basic.specs.declared.rule.RuleFault.TheVariants.{WrongHead}
use Rattle.brisk_derivation.specs.declared.fault.SideFault.TheVariants.{MayBeEmpty}
use Rattle.brisk_derivation.specs.declared.steps.Fact.{Fact}
use Rattle.brisk_rules.specs.declared.why.Why.TheVariants.{Rule as BasicFault, Side}
use Rattle.brisk_rules.specs.Heads.{Fork, fork_of, Loop, repeat_of, for_of, any_of, gather_of, from_focus}
use Rattle.brisk_rules.specs.Rules.{Outcome, Entered, Parted, mode_of, code_in, not_focused, can_focus, loops_of, at_bodies, is_nonempty, enter_for, enter_repeat, enter_gather, enter_pick, enter_branch}
use Rattle.brisk_rules.proofs.Fulfilled.{and_then_ok, same_ok, when_ok, at_head_ok}
use Rattle.brisk_rules.proofs.Readings.{reading}
use Rattle.brisk_rules.proofs.Threads.{codes, codes_with_mode, thread_after}
use Rattle.brisk_search.proofs.Shorter.{NoWhile, NoWhiles, then_free, map_free, focus_free}

-- after a thread's code was changed, and after a mode was
with_code_free : (t : Name) (k : Code) (ts : List Thread) (u : Name) → NoWhile k → NoWhile (codes ts u) → NoWhile (codes (with_code t k ts) u)
with_code_free t k ts u h f = subst (λ o. NoWhile (code_in o)) (sym (thread_after t (λ x. record x { code = k }) (λ x. refl) u ts)) (go (same_name t u) (thread_named ts u) f)
  where
    go : (b : Bool) (o : Option Thread) → NoWhile (code_in o) → NoWhile (code_in (option_map (λ (x : Thread). if b then record x { code = k } else x) o))
    go b None g = g
    go true (Some x) g = h
    go false (Some x) g = g

with_mode_free : (s : Name) (m : Mode) (ts : List Thread) (u : Name) → NoWhile (codes ts u) → NoWhile (codes (with_mode s m ts) u)
with_mode_free s m ts u f = subst NoWhile (ap (λ (g : Name → Code). g u) (sym (codes_with_mode s m ts))) f

repeat_free : (c : Code) (l : Loop) → repeat_of c ≡ Some l → NoWhile c → NoWhile l.body
repeat_free (Repeat s zero b ⨾ rest) l e f = subst NoWhile (ap (λ (x : Loop). x.body) (same_Some _ l e)) f.0
repeat_free c l e f = cc

any_free : (c : Code) (a : AnyReceive) → any_of c ≡ Some a → NoWhile c → NoWhile a.body
any_free (RecvAny c xs v s b ⨾ rest) a e f = subst NoWhile (ap (λ (x : AnyReceive). x.body) (same_Some _ a e)) f.0
any_free c a e f = cc

gather_free : (c : Code) (a : AnyReceive) → gather_of c ≡ Some a → NoWhile c → NoWhile a.body
gather_free (Repeat s zero (RecvAny c xs v r b ⨾ done) ⨾ rest) a e f = go (same_name s r) e
  where
    go : (t : Bool) → (if t then Some record { channel = c; variables = xs; binder = v; set = s; body = b; rest = rest } else None) ≡ Some a → NoWhile a.body
    go true g = subst NoWhile (ap (λ (x : AnyReceive). x.body) (same_Some _ a g)) f.0.0
    go false g = cc
gather_free c a e f = cc

for_free : (s : Name) (c : Code) (l : Loop) → for_of s c ≡ Some l → NoWhile c → NoWhile l.body
for_free s (For v r zero b ⨾ rest) l e f = go (same_name s r) e
  where
    go : (t : Bool) → (if t then Some record { set = s; body = code_with v (who.At s) b; rest = rest } else None) ≡ Some l → NoWhile l.body
    go true g = subst NoWhile (ap (λ (x : Loop). x.body) (same_Some _ l g)) (map_free (who_with v (who.At s)) b f.0)
    go false g = cc
for_free s c l e f = cc

fork_free : (c : Code) (f : Fork) → fork_of c ≡ Some f → NoWhile c → NoWhile f.first × NoWhile f.second
fork_free (If e a ⨾ rest) f h n =
    (subst NoWhile (ap (λ (x : Fork). x.first) (same_Some _ f h)) (then_free a rest n.0 n.1), subst NoWhile (ap (λ (x : Fork). x.second) (same_Some _ f h)) n.1)
fork_free (IfElse e a b ⨾ rest) f h n =
    (subst NoWhile (ap (λ (x : Fork). x.first) (same_Some _ f h)) (then_free a rest n.0.0 n.1), subst NoWhile (ap (λ (x : Fork). x.second) (same_Some _ f h)) (then_free b rest n.0.1 n.1))
fork_free c f h n = cc

pub unfocused_more : {A : Type 0} (m : Option Mode) (more : Outcome A) (a : A) → not_focused m more ≡ Ok a → more ≡ Ok a
unfocused_more None more a e = e
unfocused_more (Some One) more a e = e
unfocused_more (Some At) more a e = cc
unfocused_more (Some Each) more a e = e

pub focused_more : {A : Type 0} (m : Option Mode) (more : Outcome A) (a : A) → can_focus m more ≡ Ok a → more ≡ Ok a
focused_more None more a e = cc
focused_more (Some One) more a e = cc
focused_more (Some At) more a e = cc
focused_more (Some Each) more a e = e

-- the start of a premise with one owner that is moved: the owner stands at a code without `while`, and a set may be in focus
module _ (S : Symbolic) (free : NoWhiles (reading S).code) where
  pub repeat_starts : (t : Name) (drops : List Fact) (r : Entered) → enter_repeat S t drops ≡ Ok r → NoWhiles (reading r.start).code
  repeat_starts t drops r e u =
      let h = at_head_ok S t repeat_of _ r e in
      subst (λ (z : Entered). NoWhile (codes z.start.threads u)) (same_ok _ r h.4)
      (with_code_free t h.0.body S.threads u (repeat_free h.1 h.0 h.3 (subst NoWhile h.2.stands (free t))) (free u))

  pub gather_starts : (t : Name) (drops : List Fact) (r : Entered) → enter_gather S t drops ≡ Ok r → NoWhiles (reading r.start).code
  gather_starts t drops r e u =
      let h = at_head_ok S t gather_of _ r e in
      subst (λ (z : Entered). NoWhile (codes z.start.threads u)) (same_ok _ r (unfocused_more (mode_of (thread_named S.threads h.0.set)) _ r h.4))
      (with_code_free t (from_focus h.0) (with_mode h.0.set At S.threads) u (focus_free h.0 (gather_free h.1 h.0 h.3 (subst NoWhile h.2.stands (free t)))) (with_mode_free h.0.set At S.threads u (free u)))

  pub pick_starts : (P : Program) (t : Name) (drops : List Fact) (r : Entered) → enter_pick P S t drops ≡ Ok r → NoWhiles (reading r.start).code
  pick_starts P t drops r e u =
      let h = at_head_ok S t any_of _ r e in
      let w = when_ok (is_nonempty P h.0.set) (Side MayBeEmpty) _ r (unfocused_more (mode_of (thread_named S.threads h.0.set)) _ r h.4) in
      subst (λ (z : Entered). NoWhile (codes z.start.threads u)) (same_ok _ r w.1)
      (with_code_free t (from_focus h.0) (with_mode h.0.set At S.threads) u (focus_free h.0 (any_free h.1 h.0 h.3 (subst NoWhile h.2.stands (free t)))) (with_mode_free h.0.set At S.threads u (free u)))

  bodies_free : (s : Name) (before ts : List Name) (ls : List Loop) → loops_of S s before ts ≡ Ok ls → (threads : List Thread) (u : Name) → NoWhile (codes threads u) → NoWhile (codes (at_bodies ts ls threads) u)
  bodies_free s before [] ls e threads u f = f
  bodies_free s before (t ∷ ts) ls e threads u f =
      let h = at_head_ok S t (for_of s) _ ls e in
      let w = when_ok (not (is_among before t)) (BasicFault WrongHead) _ ls h.4 in
      let r = and_then_ok (loops_of S s (t ∷ before) ts) _ ls w.1 in
      subst (λ (z : List Loop). NoWhile (codes (at_bodies (t ∷ ts) z threads) u)) (same_ok _ ls r.2)
      (bodies_free s (t ∷ before) ts r.0 r.1 (with_code t h.0.body threads) u (with_code_free t h.0.body threads u (for_free s h.1 h.0 h.3 (subst NoWhile h.2.stands (free t))) f))

  pub for_starts : (s : Name) (ts : List Name) (drops : List Fact) (r : Entered) → enter_for S s ts drops ≡ Ok r → NoWhiles (reading r.start).code
  for_starts s ts drops r e u =
      let c = focused_more (mode_of (thread_named S.threads s)) _ r e in
      let x = and_then_ok (loops_of S s [] ts) _ r c in
      subst (λ (z : Entered). NoWhile (codes z.start.threads u)) (same_ok _ r x.2) (bodies_free s [] ts x.0 x.1 (with_mode s At S.threads) u (with_mode_free s At S.threads u (free u)))

  pub branch_starts : (t : Name) (p : Parted) → enter_branch S t ≡ Ok p → NoWhiles (reading p.first).code × NoWhiles (reading p.second).code
  branch_starts t p e =
      let h = at_head_ok S t fork_of _ p e in
      let f = fork_free h.1 h.0 h.3 (subst NoWhile h.2.stands (free t)) in
      subst (λ (z : Parted). NoWhiles (reading z.first).code × NoWhiles (reading z.second).code) (same_ok _ p h.4)
      ((λ u. with_code_free t h.0.first S.threads u f.0 (free u)), (λ u. with_code_free t h.0.second S.threads u f.1 (free u)))
