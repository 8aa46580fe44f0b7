-- A send and a receive that meet are those of two threads.
use Rattle.std.proofs.Common.{◌≡◌, Bool, true, false, List, [], ◌∷◌, Option, Some, None, refl, sym, ap, ◌∙◌}
use Rattle.std.specs.Prelude.{if◌then◌else◌, is_some, IsSome, slice_get}
use Rattle.std.proofs.lemmas.Option.{same_Some}
use Rattle.brisk_values.specs.Names.{Name, same_name}
use Rattle.brisk_values.proofs.Changes.{exact_name, name_laws}
use Rattle.brisk_syntax.specs.Segments.{head_of}
use Rattle.brisk_syntax.specs.Syntax.{Expression, Assign, Send, Recv, RecvAny, If, IfElse, While, For, Repeat, Code, done, ◌⨾◌}
use Rattle.brisk_state.specs.Focus.{code_of}
use Rattle.brisk_state.specs.declared.thread.Thread.{Thread}
use Rattle.brisk_state.specs.Symbolic.{Symbolic, active_code, code_at, is_active, thread_named, with_code}
use Rattle.brisk_basic.specs.Basic.{receives, sends}

-- no code is at a send and at a receive
not_both : (S : Symbolic) (t u c : Name) (a : Code) (x : List Expression × Code) (y : List Name × Code) → Some x ≡ sends S u c a → Some y ≡ receives S t c a → ⊥
not_both S t u c done x y f g = cc
not_both S t u c (Send d es w ⨾ rest) x y f g = cc
not_both S t u c (Assign z e ⨾ rest) x y f g = cc
not_both S t u c (Recv d xs w ⨾ rest) x y f g = cc
not_both S t u c (RecvAny d xs w s b ⨾ rest) x y f g = cc
not_both S t u c (If e b ⨾ rest) x y f g = cc
not_both S t u c (IfElse e b d ⨾ rest) x y f g = cc
not_both S t u c (While e b ⨾ rest) x y f g = cc
not_both S t u c (For w s k b ⨾ rest) x y f g = cc
not_both S t u c (Repeat s k b ⨾ rest) x y f g = cc

pub apart : (S : Symbolic) (t u c : Name) (a b : Code) (x : List Expression × Code) (y : List Name × Code) → Some a ≡ code_at S t → Some b ≡ code_at S u → Some x ≡ sends S u c a →
    Some y ≡ receives S t c b → same_name t u ≡ false
apart S t u c a b x y first second f g =
    elim (same_name t u) as (λ r. same_name t u ≡ r → r ≡ false) [
      | true ↦ λ e.
          let same : a ≡ b = same_Some a b (first ∙ ap (code_at S) (exact_name t u e) ∙ sym second) in
          absurd (not_both S t u c a x y f (g ∙ ap (receives S t c) (sym same)))
      | false ↦ λ e. refl
    ] refl

-- a thread that rules move is there
pub code_there : (o : Option Thread) (a : Code) → Some a ≡ active_code o → Some a ≡ code_of o
code_there None a e = cc
code_there (Some u) a e =
    elim (is_active u.mode) as (λ b. Some a ≡ (if b then Some u.code else None) → Some a ≡ Some u.code) [ true ↦ λ f. f | false ↦ λ f. cc ] e

-- a receive is a statement
pub receive_there : (S : Symbolic) (t c : Name) (b : Code) (y : List Name × Code) → Some y ≡ receives S t c b → IsSome (head_of b)
receive_there S t c done y g = cc
receive_there S t c (s ⨾ rest) y g = refl

if_there : (b : Bool) (o p q : Option Thread) → code_of p ≡ code_of q → code_of (if b then o else p) ≡ code_of (if b then o else q)
if_there true o p q e = refl
if_there false o p q e = e

-- the code of another thread is changed
pub still_there : (t u : Name) (code : Code) (ts : List Thread) → same_name t u ≡ false → code_of (thread_named (with_code t code ts) u) ≡ code_of (thread_named ts u)
still_there t u code [] e = refl
still_there t u code (v ∷ ts) e =
    elim (same_name t v.name) as (λ b. same_name t v.name ≡ b →
    code_of (thread_named ((if b then record v { code = code } else v) ∷ with_code t code ts) u) ≡ code_of (thread_named (v ∷ ts) u)) [
      | true ↦ λ f.
          let other : same_name u v.name ≡ false = ap (same_name u) (sym (exact_name t v.name f)) ∙ name_laws.symm u t ∙ e in
          ap (λ b. code_of (if b then Some (record v { code = code }) else thread_named (with_code t code ts) u)) other
          ∙ still_there t u code ts e
          ∙ ap (λ b. code_of (if b then Some v else thread_named ts u)) (sym other)
      | false ↦ λ f. if_there (same_name u v.name) (Some v) _ _ (still_there t u code ts e)
    ] refl

-- nothing pends where there is no oldest number
pub none_pend : {A : Type 0} (ns : List A) (o : Option A) → o ≡ slice_get ns 0 → is_some o ≡ false → ns ≡ []
none_pend [] o e h = refl
none_pend (n ∷ ns) None e h = cc
none_pend (n ∷ ns) (Some m) e h = cc
