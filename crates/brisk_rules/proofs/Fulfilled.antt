-- What is known where the tests of a rule hold.
use Rattle.std.proofs.Common.{◌≡◌, zero, suc, Bool, true, false, Option, Some, None, refl}
use Rattle.std.specs.Prelude.{Result, Ok, Err}
use Rattle.brisk_values.specs.Names.{Name}
use Rattle.brisk_syntax.specs.Syntax.{While, Repeat, Code, ◌⨾◌}
use Rattle.brisk_state.specs.Symbolic.{Symbolic, code_at}
use Rattle.brisk_basic.specs.Basic.{at_thread}
use Rattle.brisk_basic.specs.Outcomes.{when, and_then, told_as}
use Rattle.brisk_rules.specs.declared.why.Why.TheVariants.{Rule}
use Rattle.brisk_rules.specs.Heads.{Guarded, while_of, Loop, repeat_of}
use Rattle.brisk_rules.specs.Rules.{Outcome, wanted, at_head}
use Rattle.brisk_rules.proofs.Threads.{Moved, moved}

pub and_then_ok : {A B E : Type 0} (x : Result A E) (go : A → Result B E) (b : B) → and_then x go ≡ Ok b → (a : A) × (x ≡ Ok a) × (go a ≡ Ok b)
and_then_ok (Ok a) go b e = (a, refl, e)
and_then_ok (Err why) go b e = cc

pub told_ok : {A D E : Type 0} (name : D → E) (x : Result A D) (a : A) → told_as name x ≡ Ok a → x ≡ Ok a
told_ok name (Ok b) a e = cc
told_ok name (Err why) a e = cc

pub same_ok : {A E : Type 0} (a b : A) → ◌≡◌ {A = Result A E} (Ok a) (Ok b) → a ≡ b
same_ok a b e = cc

pub when_ok : {A E : Type 0} (b : Bool) (why : E) (more : Result A E) (a : A) → when b why more ≡ Ok a → (b ≡ true) × (more ≡ Ok a)
when_ok true why more a e = (refl, e)
when_ok false why more a e = cc

-- where a rule goes on at a head, the thread is moved and stands at it
pub at_head_ok : {A H : Type 0} (S : Symbolic) (t : Name) (head : Code → Option H) (go : H → Outcome A) (a : A) → at_head S t head go ≡ Ok a →
    (h : H) × (c : Code) × Moved S.threads t c × (head c ≡ Some h) × (go h ≡ Ok a)
at_head_ok {H = H} S t head go a e =
    let x = and_then_ok (told_as Rule (at_thread (code_at S t) (λ code. wanted (head code)))) go a e in
    let y = at (code_at S t) x.0 (told_ok Rule (at_thread (code_at S t) (λ code. wanted (head code))) x.0 x.1) in
    (x.0, y.0, moved S.threads t y.0 y.1, y.2, x.2)
  where
    had : (o : Option H) (h : H) → wanted o ≡ Ok h → o ≡ Some h
    had None h e = cc
    had (Some k) h e = cc

    at : (o : Option Code) (h : H) → at_thread o (λ code. wanted (head code)) ≡ Ok h → (c : Code) × (o ≡ Some c) × (head c ≡ Some h)
    at None h e = cc
    at (Some c) h e = (c, refl, had (head c) h e)

pub while_is : (c : Code) (w : Guarded) → while_of c ≡ Some w → c ≡ While w.guard w.body ⨾ w.rest
while_is (While e b ⨾ rest) w h = cc
while_is c w h = cc

pub repeat_is : (c : Code) (l : Loop) → repeat_of c ≡ Some l → c ≡ Repeat l.set 0 l.body ⨾ l.rest
repeat_is (Repeat s zero b ⨾ rest) l h = cc
repeat_is (Repeat s (suc k) b ⨾ rest) l h = cc
repeat_is c l h = cc
