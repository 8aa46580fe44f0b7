-- The walk, statement by statement.
use Rattle.std.proofs.Common.{◌≡◌, ℕ, zero, suc, ◌+◌, ◌-◌, ◌<◌, Bool, true, false, Option, Some, None, refl, sym, ap, ◌∙◌, arith}
use Rattle.std.specs.Prelude.{if◌then◌else◌}
use Rattle.brisk_values.specs.Names.{Name, same_name}
use Rattle.brisk_syntax.specs.declared.tree.Who.{Who}
use Rattle.brisk_syntax.specs.Segments.{head_of, rest_of, statement_at, code_from_place, code_length}
use Rattle.brisk_syntax.specs.Syntax.{Statement, Assign, Send, Recv, RecvAny, If, IfElse, While, For, Repeat, Code, done, ◌⨾◌}
use Rattle.brisk_syntax.proofs.Places.{place_length, rest_place}
use Rattle.brisk_state.specs.Symbolic.{is_partner}
use Rattle.brisk_quiet.specs.declared.question.Question.{Question}
use Rattle.brisk_quiet.specs.declared.stillness.Stillness.{Stillness}
use Rattle.brisk_quiet.specs.declared.stillness.Stillness.TheVariants as still
use Rattle.brisk_quiet.specs.declared.taken.Taken.{Taken}
use Rattle.brisk_quiet.specs.Left.{came, left_after, number_in, taken_at}
use Rattle.brisk_quiet.specs.Quiet.{Counts, Walked, Blocks, Ends, Sends, on_end, unless_sends, if_any, walk, comes_out}

-- where as many messages were taken, as many are left
pub copied : (q : Question) (t u : Taken) → taken_at t ≡ taken_at u → left_after q t ≡ left_after q u
copied q t u h = λ i c. number_in q c - h i c

twice : (w : Walked) (go : Counts → Walked) → on_end w go ≡ on_end (on_end w Ends) go
twice Blocks go = refl
twice (Ends left) go = refl
twice Sends go = refl

-- nothing stands behind it
pub settled : (w : Walked) → w ≡ on_end w Ends
settled Blocks = refl
settled (Ends left) = refl
settled Sends = refl

over : (w : Walked) (left : Counts) (go : Counts → Walked) → unless_sends w (go left) ≡ on_end (unless_sends w (Ends left)) go
over Blocks left go = refl
over (Ends m) left go = refl
over Sends left go = refl

sent : (b : Bool) (left : Counts) (go : Counts → Walked) → (if b then Sends else go left) ≡ on_end (if b then Sends else Ends left) go
sent true left go = refl
sent false left go = refl

got_one : (n : ℕ) (left : Counts) (go : Counts → Walked) → if_any n (go left) ≡ on_end (if_any n (Ends left)) go
got_one zero left go = refl
got_one (suc n) left go = refl

got : (b : Bool) (n : ℕ) (less left : Counts) (go : Counts → Walked) → (if b then if_any n (go less) else go left) ≡ on_end (if b then if_any n (Ends less) else Ends left) go
got true n less left go = got_one n less go
got false n less left go = refl

-- a statement, and then what stands behind it
on_statement : (r : Option Who) (c : Name) (s : Statement) (rest : Code) (left : Counts) → walk r c (s ⨾ rest) left ≡ on_end (walk r c (s ⨾ done) left) (walk r c rest)
on_statement r c (Assign x e) rest left = refl
on_statement r c (Send d es u) rest left = sent (same_name c d) left (walk r c rest)
on_statement r c (Recv d xs u) rest left = got (is_partner r u) (left d) _ left (walk r c rest)
on_statement r c (RecvAny d xs v s b) rest left = twice _ (walk r c rest)
on_statement r c (If e a) rest left = twice _ (walk r c rest)
on_statement r c (IfElse e a b) rest left = twice _ (walk r c rest)
on_statement r c (While e b) rest left = over _ left (walk r c rest)
on_statement r c (For v s k b) rest left = over _ left (walk r c rest)
on_statement r c (Repeat s k b) rest left = over _ left (walk r c rest)

-- the walk goes on behind a statement at which it doesn't stop
pub goes_on : (r : Option Who) (c : Name) (s : Statement) (rest : Code) (left more : Counts) → Ends more ≡ walk r c (s ⨾ done) left → walk r c rest more ≡ walk r c (s ⨾ rest) left
goes_on r c s rest left more h = ap (λ w. on_end w (walk r c rest)) h ∙ sym (on_statement r c s rest left)

stopped : (k : Stillness) (left : Counts) (go : Counts → Walked) → (k ≡ still.Ends → ⊥) → came k left ≡ on_end (came k left) go
stopped still.Blocks left go h = refl
stopped still.Ends left go h = absurd (h refl)
stopped still.Sends left go h = refl

-- the walk stops at a statement
pub stops : (r : Option Who) (c : Name) (s : Statement) (rest : Code) (left more : Counts) (k : Stillness) → (k ≡ still.Ends → ⊥) → came k more ≡ walk r c (s ⨾ done) left → came k more ≡ walk r c (s ⨾ rest) left
stops r c s rest left more k n h = stopped k more (walk r c rest) n ∙ ap (λ w. on_end w (walk r c rest)) h ∙ sym (on_statement r c s rest left)

-- a loop whose body doesn't send
pub passed_over : (k : Stillness) (l m : Counts) (w : Walked) → (k ≡ still.Sends → ⊥) → came k l ≡ w → Ends m ≡ unless_sends w (Ends m)
passed_over still.Blocks l m w n h = ap (λ v. unless_sends v (Ends m)) h
passed_over still.Ends l m w n h = ap (λ v. unless_sends v (Ends m)) h
passed_over still.Sends l m w n h = absurd (n refl)

place_head : (k : ℕ) (c : Code) → head_of (code_from_place k c) ≡ statement_at c k
place_head zero done = refl
place_head zero (s ⨾ c) = refl
place_head (suc k) done = refl
place_head (suc k) (s ⨾ c) = place_head k c

with_head : (c : Code) (s : Statement) → head_of c ≡ Some s → c ≡ s ⨾ rest_of c
with_head done s e = cc
with_head (t ⨾ c) s e = let f : t ≡ s = cc in ap (λ u. u ⨾ c) f

without_head : (c : Code) → head_of c ≡ None → c ≡ done
without_head done e = refl
without_head (t ⨾ c) e = cc

-- the code from a place on, at which there is a statement
pub at_place : (k : ℕ) (c : Code) (s : Statement) → Some s ≡ statement_at c k → code_from_place k c ≡ s ⨾ code_from_place (k + 1) c
at_place k c s h = with_head (code_from_place k c) s (place_head k c ∙ sym h) ∙ ap (λ d. s ⨾ d) (rest_place k c)

-- there is none at the end
pub at_end : (k : ℕ) (c : Code) → None ≡ statement_at c k → code_from_place k c ≡ done
at_end k c h = without_head (code_from_place k c) (place_head k c ∙ sym h)

pub before_end : (k : ℕ) (c : Code) (s : Statement) → Some s ≡ statement_at c k → k < code_length c
before_end k c s h =
    let long = ap code_length (at_place k c s h) in omega (arith, long, place_length k c)

-- at the beginning all that pends is left
pub all_left : (q : Question) (t : Taken) → taken_at t ≡ (λ c. 0) → left_after q t ≡ number_in q
all_left q t h = λ i c. ((λ j. number_in q c - h j c) ∙ less_none (number_in q c)) i
  where
    less_none : (n : ℕ) → n - 0 ≡ n
    less_none n = omega arith

came_out : (k : Stillness) (left : Counts) → k ≡ comes_out (came k left)
came_out still.Blocks left = refl
came_out still.Ends left = refl
came_out still.Sends left = refl

-- how the whole walk came out
pub answered : (k : Stillness) (left : Counts) (w : Walked) → came k left ≡ w → k ≡ comes_out w
answered k left w h = came_out k left ∙ ap comes_out h
