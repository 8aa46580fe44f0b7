-- Code that names no member in focus of a set.
use Rattle.std.proofs.Common.{◌≡◌, ℕ, true, false, refl, ap}
use Rattle.std.specs.Prelude.{if◌then◌else◌}
use Rattle.brisk_values.specs.Names.{Name, same_name, member}
use Rattle.brisk_values.proofs.Changes.{name_laws}
use Rattle.brisk_syntax.specs.declared.tree.Who.{Who}
use Rattle.brisk_syntax.specs.declared.tree.Who.TheVariants as who
use Rattle.brisk_syntax.specs.Substitution.{who_with, statement_with, code_with}
use Rattle.brisk_syntax.specs.Syntax.{Statement, Assign, Send, Recv, RecvAny, If, IfElse, While, For, Repeat, Code, done, ◌⨾◌}
use Rattle.brisk_seq.specs.Sequential.{Focus, in_focus}
use Rattle.brisk_rules.proofs.Readings.{who_by, statement_by, code_by}

abbrev pub FreeWho : Name → Who → Type 0
FreeWho s (who.Name n) = Unit {0}
FreeWho s (who.At r) = same_name s r ≡ false
FreeWho s (who.Pid p) = Unit {0}

abbrev mutual
  pub FreeStatement : Name → Statement → Type 0
  FreeStatement s (Assign x e) = Unit {0}
  FreeStatement s (Send c es u) = FreeWho s u
  FreeStatement s (Recv c xs u) = FreeWho s u
  FreeStatement s (RecvAny c xs v r b) = Free s b
  FreeStatement s (If e a) = Free s a
  FreeStatement s (IfElse e a b) = Free s a × Free s b
  FreeStatement s (While e b) = Free s b
  FreeStatement s (For v r k b) = Free s b
  FreeStatement s (Repeat r k b) = Free s b

  pub Free : Name → Code → Type 0
  Free s done = Unit {0}
  Free s (x ⨾ k) = FreeStatement s x × Free s k

who_other : (s : Name) (m : ℕ) (φ : Focus) (u : Who) → FreeWho s u → who_by (in_focus s m φ) u ≡ who_by φ u
who_other s m φ (who.Name n) h = refl
who_other s m φ (who.At r) h = ap (λ b. who.Pid (if b then member s m else φ r)) h
who_other s m φ (who.Pid p) h = refl

mutual
  statement_other : (s : Name) (m : ℕ) (φ : Focus) (x : Statement) → FreeStatement s x → statement_by (in_focus s m φ) x ≡ statement_by φ x
  statement_other s m φ (Assign x e) h = refl
  statement_other s m φ (Send c es u) h = ap (Send c es) (who_other s m φ u h)
  statement_other s m φ (Recv c xs u) h = ap (Recv c xs) (who_other s m φ u h)
  statement_other s m φ (RecvAny c xs v r b) h = ap (RecvAny c xs v r) (code_other s m φ b h)
  statement_other s m φ (If e a) h = ap (If e) (code_other s m φ a h)
  statement_other s m φ (IfElse e a b) h = λ i. IfElse e (code_other s m φ a h.0 i) (code_other s m φ b h.1 i)
  statement_other s m φ (While e b) h = ap (While e) (code_other s m φ b h)
  statement_other s m φ (For v r k b) h = ap (For v r k) (code_other s m φ b h)
  statement_other s m φ (Repeat r k b) h = ap (Repeat r k) (code_other s m φ b h)

  pub code_other : (s : Name) (m : ℕ) (φ : Focus) (k : Code) → Free s k → code_by (in_focus s m φ) k ≡ code_by φ k
  code_other s m φ done h = refl
  code_other s m φ (x ⨾ k) h = λ i. statement_other s m φ x h.0 i ⨾ code_other s m φ k h.1 i

who_bound : (s : Name) (m : ℕ) (φ : Focus) (v : Name) (u : Who) → FreeWho s u → who_by (in_focus s m φ) (who_with v (who.At s) u) ≡ who_with v (who.Pid (member s m)) (who_by φ u)
who_bound s m φ v (who.Name n) h =
    elim (same_name v n) as (λ b. who_by (in_focus s m φ) (if b then who.At s else who.Name n) ≡ (if b then who.Pid (member s m) else who.Name n)) [
      | true ↦ ap (λ b. who.Pid (if b then member s m else φ s)) (name_laws.refl s)
      | false ↦ refl
    ]
who_bound s m φ v (who.At r) h = ap (λ b. who.Pid (if b then member s m else φ r)) h
who_bound s m φ v (who.Pid p) h = refl

mutual
  statement_bound : (s : Name) (m : ℕ) (φ : Focus) (v : Name) (x : Statement) → FreeStatement s x → statement_by (in_focus s m φ) (statement_with v (who.At s) x) ≡ statement_with v (who.Pid (member s m)) (statement_by φ x)
  statement_bound s m φ v (Assign x e) h = refl
  statement_bound s m φ v (Send c es u) h = ap (Send c es) (who_bound s m φ v u h)
  statement_bound s m φ v (Recv c xs u) h = ap (Recv c xs) (who_bound s m φ v u h)
  statement_bound s m φ v (RecvAny c xs w r b) h = ap (RecvAny c xs w r) (code_bound s m φ v b h)
  statement_bound s m φ v (If e a) h = ap (If e) (code_bound s m φ v a h)
  statement_bound s m φ v (IfElse e a b) h = λ i. IfElse e (code_bound s m φ v a h.0 i) (code_bound s m φ v b h.1 i)
  statement_bound s m φ v (While e b) h = ap (While e) (code_bound s m φ v b h)
  statement_bound s m φ v (For w r k b) h = ap (For w r k) (code_bound s m φ v b h)
  statement_bound s m φ v (Repeat r k b) h = ap (Repeat r k) (code_bound s m φ v b h)

  -- a body with the member in focus for its binder, and then that member
  pub code_bound : (s : Name) (m : ℕ) (φ : Focus) (v : Name) (k : Code) → Free s k → code_by (in_focus s m φ) (code_with v (who.At s) k) ≡ code_with v (who.Pid (member s m)) (code_by φ k)
  code_bound s m φ v done h = refl
  code_bound s m φ v (x ⨾ k) h = λ i. statement_bound s m φ v x h.0 i ⨾ code_bound s m φ v k h.1 i
