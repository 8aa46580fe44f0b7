-- To name partners changes neither how many statements code has nor how deep it nests.
use Rattle.std.proofs.Common.{◌≡◌, ℕ, ◌+◌, ◌≤◌, refl, ap, arith}
use Rattle.std.specs.Prelude.{max}
use Rattle.brisk_values.specs.Names.{Name}
use Rattle.brisk_syntax.specs.declared.tree.Who.{Who}
use Rattle.brisk_syntax.specs.declared.tree.Who.TheVariants as who
use Rattle.brisk_syntax.specs.Counts.{statements_in, statements}
use Rattle.brisk_syntax.specs.Depths.{code_depth, statement_depth}
use Rattle.brisk_syntax.specs.Substitution.{code_map, code_with, statement_map, who_with}
use Rattle.brisk_syntax.specs.Syntax.{Statement, Assign, Send, Recv, RecvAny, If, IfElse, While, For, Repeat, Code, done, ◌⨾◌}
use Rattle.brisk_async.specs.Laws.{AnyReceive, any_code}
use Rattle.brisk_rules.specs.Heads.{from_focus}

mutual
  pub mapped_count : (h : Who → Who) (s : Statement) → statements_in (statement_map h s) ≡ statements_in s
  mapped_count h (Assign x e) = refl
  mapped_count h (Send c es u) = refl
  mapped_count h (Recv c xs u) = refl
  mapped_count h (RecvAny c xs v s b) = ap (λ n. 1 + n) (mapped_counts h b)
  mapped_count h (If e a) = ap (λ n. 1 + n) (mapped_counts h a)
  mapped_count h (IfElse e a b) = λ i. 1 + mapped_counts h a i + mapped_counts h b i
  mapped_count h (While e b) = ap (λ n. 1 + n) (mapped_counts h b)
  mapped_count h (For v s k b) = ap (λ n. 1 + n) (mapped_counts h b)
  mapped_count h (Repeat s k b) = ap (λ n. 1 + n) (mapped_counts h b)

  pub mapped_counts : (h : Who → Who) (c : Code) → statements (code_map h c) ≡ statements c
  mapped_counts h done = refl
  mapped_counts h (s ⨾ c) = λ i. mapped_count h s i + mapped_counts h c i

mutual
  mapped_depth : (h : Who → Who) (s : Statement) → statement_depth (statement_map h s) ≡ statement_depth s
  mapped_depth h (Assign x e) = refl
  mapped_depth h (Send c es u) = refl
  mapped_depth h (Recv c xs u) = refl
  mapped_depth h (RecvAny c xs v s b) = ap (λ n. n + 1) (mapped_depths h b)
  mapped_depth h (If e a) = ap (λ n. n + 1) (mapped_depths h a)
  mapped_depth h (IfElse e a b) = λ i. max (mapped_depths h a i) (mapped_depths h b i) + 1
  mapped_depth h (While e b) = ap (λ n. n + 1) (mapped_depths h b)
  mapped_depth h (For v s k b) = ap (λ n. n + 1) (mapped_depths h b)
  mapped_depth h (Repeat s k b) = ap (λ n. n + 1) (mapped_depths h b)

  pub mapped_depths : (h : Who → Who) (c : Code) → code_depth (code_map h c) ≡ code_depth c
  mapped_depths h done = refl
  mapped_depths h (s ⨾ c) = λ i. max (mapped_depth h s i) (mapped_depths h c i)

-- a loop's body, at the member in focus, is no longer than the loop and nests no deeper
pub for_fewer : (c : Code) (v s : Name) (b rest : Code) → c ≡ For v s 0 b ⨾ rest → statements (code_with v (who.At s) b) + statements rest ≤ statements c
for_fewer c v s b rest e = let at = ap statements e in let m = mapped_counts (who_with v (who.At s)) b in omega (arith, at, m)

pub for_shallow : (c : Code) (v s : Name) (b rest : Code) → c ≡ For v s 0 b ⨾ rest → code_depth (code_with v (who.At s) b) ≤ code_depth c
for_shallow c v s b rest e = let at = ap code_depth e in let m = mapped_depths (who_with v (who.At s)) b in omega (arith, at, m)

pub gather_fewer : (c : Code) (a : AnyReceive) → c ≡ Repeat a.set 0 (RecvAny a.channel a.variables a.binder a.set a.body ⨾ done) ⨾ a.rest → statements (from_focus a) + statements a.rest ≤ statements c
gather_fewer c a e = let at = ap statements e in let m = mapped_counts (who_with a.binder (who.At a.set)) a.body in omega (arith, at, m)

pub gather_shallow : (c : Code) (a : AnyReceive) → c ≡ Repeat a.set 0 (RecvAny a.channel a.variables a.binder a.set a.body ⨾ done) ⨾ a.rest → code_depth (from_focus a) ≤ code_depth c
gather_shallow c a e = let at = ap code_depth e in let m = mapped_depths (who_with a.binder (who.At a.set)) a.body in omega (arith, at, m)

pub any_fewer : (c : Code) (a : AnyReceive) → c ≡ any_code a → statements (from_focus a) + statements a.rest ≤ statements c
any_fewer c a e = let at = ap statements e in let m = mapped_counts (who_with a.binder (who.At a.set)) a.body in omega (arith, at, m)

pub any_shallow : (c : Code) (a : AnyReceive) → c ≡ any_code a → code_depth (from_focus a) ≤ code_depth c
any_shallow c a e = let at = ap code_depth e in let m = mapped_depths (who_with a.binder (who.At a.set)) a.body in omega (arith, at, m)
