-- Code without its sends to a binder, statement by statement, and walks through it.
use Rattle.std.proofs.Common.{◌≡◌, ℕ, ◌+◌, ◌<◌, true, false, List, [], ◌∷◌, ◌++◌, Option, Some, length, drop, get_or, refl, sym, ap, ◌∙◌}
use Rattle.std.specs.Prelude.{if◌then◌else◌}
use Rattle.std.proofs.lemmas.List.{at_drop_more}
use Rattle.std.proofs.lemmas.Option.{same_Some}
use Rattle.brisk_values.specs.Names.{Name}
use Rattle.brisk_syntax.specs.declared.tree.Stmt.{Stmt}
use Rattle.brisk_syntax.specs.declared.tree.Who.{Who}
use Rattle.brisk_syntax.specs.Segments.{head_of, rest_of}
use Rattle.brisk_syntax.specs.Statements.{statement_of, code_of}
use Rattle.brisk_syntax.specs.Syntax.{Statement, Assign, Send, Recv, RecvAny, If, IfElse, While, For, Repeat, Code, done, ◌⨾◌, ◌then◌}
use Rattle.brisk_syntax.proofs.Codes.{code_of-append, then_assoc}
use Rattle.brisk_quiet.specs.declared.stillness.Stillness.{Stillness}
use Rattle.brisk_quiet.specs.declared.stillness.Stillness.TheVariants as still
use Rattle.brisk_quiet.specs.Left.{came}
use Rattle.brisk_quiet.specs.Quiet.{Counts, Walked, Blocks, Ends, Sends, on_end, unless_sends, under, walk}
use Rattle.brisk_quiet.specs.Sender.{unsent, walk_later}
use Rattle.brisk_quiet.specs.Unsent.{is_sent_to, statement_unsent}

pub unsent_first : (v : Name) (s : Statement) (rest : Code) → unsent v (s ⨾ rest) ≡ (if is_sent_to v s then unsent v rest else statement_unsent v s ⨾ unsent v rest)
unsent_first v (Assign x e) rest = refl
unsent_first v (Send c es u) rest = refl
unsent_first v (Recv c xs u) rest = refl
unsent_first v (RecvAny c xs w s b) rest = refl
unsent_first v (If e a) rest = refl
unsent_first v (IfElse e a b) rest = refl
unsent_first v (While e b) rest = refl
unsent_first v (For w s k b) rest = refl
unsent_first v (Repeat s k b) rest = refl

-- a statement that is left out
pub left_out : (v : Name) (out : Code) (xs : List Stmt) (i : ℕ) (d : Stmt) → i < length xs → is_sent_to v (statement_of (get_or xs i d)) ≡ true →
    out then unsent v (code_of (drop (i + 1) xs)) ≡ out then unsent v (code_of (drop i xs))
left_out v out xs i d lt sent =
    let rest = code_of (drop (i + 1) xs) in let s = statement_of (get_or xs i d) in
    ap (λ (c : Code). out then c) (sym (at_drop_more (λ ys. unsent v (code_of ys)) xs i d lt ∙ unsent_first v s rest ∙ ap (λ b. if b then unsent v rest else statement_unsent v s ⨾ unsent v rest) sent))

-- a statement that stays
pub stays : (v : Name) (out : List Stmt) (r : Stmt) (xs : List Stmt) (i : ℕ) (d : Stmt) → i < length xs → is_sent_to v (statement_of (get_or xs i d)) ≡ false → statement_of r ≡ statement_unsent v (statement_of (get_or xs i d)) →
    code_of (out ++ r ∷ []) then unsent v (code_of (drop (i + 1) xs)) ≡ code_of out then unsent v (code_of (drop i xs))
stays v out r xs i d lt sent e =
    let rest = code_of (drop (i + 1) xs) in let s = statement_of (get_or xs i d) in
    ap (λ (c : Code). c then unsent v rest) (code_of-append out (r ∷ []))
    ∙ then_assoc (code_of out) (statement_of r ⨾ done) (unsent v rest)
    ∙ ap (λ (c : Code). code_of out then c) (ap (λ t. t ⨾ unsent v rest) e ∙ sym (at_drop_more (λ ys. unsent v (code_of ys)) xs i d lt ∙ unsent_first v s rest ∙ ap (λ b. if b then unsent v rest else statement_unsent v s ⨾ unsent v rest) sent))

-- a `for` in its later turns, and what stands behind it
pub later : (r : Option Who) (c : Name) (code : Code) (left : Counts) (v s : Name) (k : ℕ) (b : Code) → Some (For v s k b) ≡ head_of code →
    walk_later r c code left ≡ unless_sends (walk (under v r) c (unsent v b) left) (walk r c (rest_of code) left)
later r c done left v s k b h = cc
later r c (t ⨾ rest) left v s k b h = ap (λ z. walk_later r c (z ⨾ rest) left) (sym (same_Some _ _ h))

-- a loop whose body doesn't send is passed over
pub goes_behind : (k : Stillness) (l : Counts) (w x : Walked) → (k ≡ still.Sends → ⊥) → came k l ≡ unless_sends w (Ends l) → x ≡ unless_sends w x
goes_behind k l Blocks x n h = refl
goes_behind k l (Ends m) x n h = refl
goes_behind still.Blocks l Sends x n h = cc
goes_behind still.Ends l Sends x n h = cc
goes_behind still.Sends l Sends x n h = absurd (n refl)

-- a walk that stops
pub stops_there : (k : Stillness) (l : Counts) (w : Walked) (go : Counts → Walked) → (k ≡ still.Ends → ⊥) → came k l ≡ w → came k l ≡ on_end w go
stops_there still.Blocks l w go n h = ap (λ z. on_end z go) h
stops_there still.Ends l w go n h = absurd (n refl)
stops_there still.Sends l w go n h = ap (λ z. on_end z go) h
