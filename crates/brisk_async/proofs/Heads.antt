-- What an event does at each head.
use Rattle.std.proofs.Common.{◌≡◌, true, false, List, Option, Some, None, refl, sym, ap, ◌∙◌}
use Rattle.std.specs.Prelude.{ℕ, is_some, IsSome, option_and_then, if◌then◌else◌}
use Rattle.std.proofs.lemmas.Option.{same_Some}
use Rattle.brisk_values.specs.declared.value.Pid.{Pid}
use Rattle.brisk_values.specs.Names.{Name}
use Rattle.brisk_syntax.specs.declared.tree.AnyRecv.{AnyRecv}
use Rattle.brisk_syntax.specs.declared.tree.Stmt.{Stmt}
use Rattle.brisk_syntax.specs.declared.tree.Stmt.TheVariants as stmt
use Rattle.brisk_syntax.specs.declared.tree.Who.{Who}
use Rattle.brisk_syntax.specs.declared.tree.Who.TheVariants as who
use Rattle.brisk_syntax.specs.Segments.{head_of, or_done, rest_of}
use Rattle.brisk_syntax.specs.Statements.{statement_of}
use Rattle.brisk_syntax.specs.Substitution.{code_with}
use Rattle.brisk_syntax.specs.Syntax.{Statement, Recv, RecvAny, Code, done, ◌⨾◌, ◌then◌}
use Rattle.brisk_async.specs.Machine.{Effect, View, effect, is_member, partner, queue, receives}

pub head_whole : (c : Code) (s : Statement) → Some s ≡ head_of c → c ≡ s ⨾ rest_of c
head_whole done s e = cc
head_whole (t ⨾ c) s e = ap (λ u. u ⨾ c) (sym (same_Some s t e))

pub none_of : {X : Type 0} (o : Option X) → is_some o ≡ false → o ≡ None
none_of None e = refl
none_of (Some x) e = cc

pub recv_effect : (v : View) (p : Pid) (code : Code) (s : Stmt) (c : Name) (xs : List Name) (u : Who) (sender : Option Pid) (place : Option ℕ) →
    Some (statement_of s) ≡ head_of code → s ≡ stmt.Recv c xs u → is_some sender ≡ false →
    effect v p code sender place ≡ receives v (queue (partner u) p c) xs (rest_of code) place
recv_effect v p code s c xs u sender place first is none =
    ap (λ d. effect v p d sender place) (head_whole code (statement_of s) first)
    ∙ ap (λ (z : Stmt). effect v p (statement_of z ⨾ rest_of code) sender place) is
    ∙ ap (λ o. effect v p (Recv c xs u ⨾ rest_of code) o place) (none_of sender none)

pub any_effect : (v : View) (p : Pid) (code : Code) (s : Stmt) (r : AnyRecv) (sender : Option Pid) (w : Pid) (place : Option ℕ) →
    Some (statement_of s) ≡ head_of code → s ≡ stmt.RecvAny r → sender ≡ Some w → is_member v.sizes r.set w ≡ true →
    effect v p code sender place ≡ receives v (queue w p r.channel) r.vars (code_with r.binder (who.Pid w) r.body.value then rest_of code) place
any_effect v p code s r sender w place first is some inside =
    let next = code_with r.binder (who.Pid w) r.body.value then rest_of code in
    ap (λ d. effect v p d sender place) (head_whole code (statement_of s) first)
    ∙ ap (λ (z : Stmt). effect v p (statement_of z ⨾ rest_of code) sender place) is
    ∙ ap (λ o. effect v p (RecvAny r.channel r.vars r.binder r.set r.body.value ⨾ rest_of code) o place) some
    ∙ ap (λ b. if b then receives v (queue w p r.channel) r.vars next place else None) inside

pub plain_effect : (v : View) (p : Pid) (code : Code) (s : Stmt) (sender : Option Pid) (place : Option ℕ) →
    Some (statement_of s) ≡ head_of code → is_some sender ≡ false → is_some place ≡ false →
    effect v p code sender place ≡ effect v p (statement_of s ⨾ rest_of code) None None
plain_effect v p code s sender place first none nowhere =
    ap (λ d. effect v p d sender place) (head_whole code (statement_of s) first)
    ∙ (λ i. effect v p (statement_of s ⨾ rest_of code) (none_of sender none i) (none_of place nowhere i))

-- a process without code has no event
pub done_effect : (v : View) (p : Pid) (sender : Option Pid) (place : Option ℕ) → effect v p done sender place ≡ None
done_effect v p None None = refl
done_effect v p None (Some k) = refl
done_effect v p (Some w) None = refl
done_effect v p (Some w) (Some k) = refl

-- where an event does something, there is a head
pub head_there : (v : View) (p : Pid) (o : Option Code) (sender : Option Pid) (place : Option ℕ) (x : Effect) → Some x ≡ effect v p (or_done o) sender place → IsSome (option_and_then head_of o)
head_there v p None sender place x e = let n = done_effect v p sender place in cc
head_there v p (Some done) sender place x e = let n = done_effect v p sender place in cc
head_there v p (Some (s ⨾ c)) sender place x e = refl
