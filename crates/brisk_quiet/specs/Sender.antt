-- The quiet test of a sender: over its code, and over the pieces of code that follow it.
use Rattle.std.specs.Prelude.{Bool, false, List, [], ◌∷◌, Option, Some, None, length, if◌then◌else◌}
use Rattle.brisk_values.specs.Names.{Name, same_name}
use Rattle.brisk_syntax.specs.declared.tree.Who.{Who}
use Rattle.brisk_syntax.specs.declared.tree.Who.TheVariants as who
use Rattle.brisk_syntax.specs.Syntax.{Assign, Send, Recv, RecvAny, If, IfElse, While, For, Repeat, Code, done, ◌⨾◌}
use Rattle.brisk_state.specs.Symbolic.{key, Symbolic, thread_named, partner_of, numbers_at}
use Rattle.brisk_quiet.specs.declared.stillness.Stillness.{Stillness}
use Rattle.brisk_quiet.specs.Quiet.{Counts, Walked, Ends, on_end, unless_sends, under, walk, comes_out}

-- A piece of what follows a thread's code. A marked piece begins with a `for` over the set that is its mark.
pub record Piece : Type 0 where
  pub mark : Option Name
  pub code : Code

-- the partner is this binder
abbrev pub is_binder : Name → Who → Bool
is_binder v (who.Name n) = same_name v n
is_binder v u = false

-- the code without its sends to a binder
abbrev pub unsent : Name → Code → Code
unsent v done = done
unsent v (Assign x e ⨾ rest) = Assign x e ⨾ unsent v rest
unsent v (Send c es u ⨾ rest) = if is_binder v u then unsent v rest else Send c es u ⨾ unsent v rest
unsent v (Recv c xs u ⨾ rest) = Recv c xs u ⨾ unsent v rest
unsent v (RecvAny c xs w s b ⨾ rest) = RecvAny c xs w s (if same_name v w then b else unsent v b) ⨾ unsent v rest
unsent v (If e a ⨾ rest) = If e (unsent v a) ⨾ unsent v rest
unsent v (IfElse e a b ⨾ rest) = IfElse e (unsent v a) (unsent v b) ⨾ unsent v rest
unsent v (While e b ⨾ rest) = While e (unsent v b) ⨾ unsent v rest
unsent v (For w s k b ⨾ rest) = For w s k (if same_name v w then b else unsent v b) ⨾ unsent v rest
unsent v (Repeat s k b ⨾ rest) = Repeat s k (unsent v b) ⨾ unsent v rest

-- The walk through a `for` and its rest, where its later turns name other members than the receiver: sends to the loop's
-- own binder are passed over.
abbrev pub walk_later : Option Who → Name → Code → Counts → Walked
walk_later receiver c (For v s k b ⨾ rest) left = unless_sends (walk (under v receiver) c (unsent v b) left) (walk receiver c rest left)
walk_later receiver c code left = walk receiver c code left

-- the piece's mark is this set
abbrev pub is_marked : Name → Option Name → Bool
is_marked s None = false
is_marked s (Some r) = same_name s r

-- the walk through the pieces
abbrev pub walk_pieces : Option Who → Name → Name → List Piece → Counts → Walked
walk_pieces partner receiver c [] left = Ends left
walk_pieces partner receiver c (p ∷ ps) left =
    on_end (if is_marked receiver p.mark then walk_later partner c p.code left else walk partner c p.code left) (walk_pieces partner receiver c ps)

-- the quiet test of a sender's code and of what follows it, for a receiver and a channel
abbrev pub sender_quiet : Symbolic → Code → List Piece → Name → Name → Name → Stillness
sender_quiet S code pieces sender receiver channel =
    let partner = partner_of (thread_named S.threads receiver) in
    comes_out (on_end (walk partner channel code (λ c. length (numbers_at S.pending (key receiver sender c)))) (walk_pieces partner receiver channel pieces))
