-- What stands behind the codes of threads sends no more than what follows them says.
use Rattle.std.proofs.Common.{◌≡◌, Bool, true, false, List, [], ◌∷◌, Option, Some, refl, sym, ap, ◌∙◌, subst}
use Rattle.std.specs.Prelude.{if◌then◌else◌, ◌&&◌, ◌||◌, not}
use Rattle.brisk_values.specs.Names.{Name, same_name}
use Rattle.brisk_values.proofs.Changes.{exact_name, both_true}
use Rattle.brisk_syntax.specs.declared.tree.Who.{Who}
use Rattle.brisk_syntax.specs.declared.tree.Who.TheVariants as who
use Rattle.brisk_syntax.specs.Substitution.{code_map}
use Rattle.brisk_syntax.specs.Syntax.{Assign, Send, Recv, RecvAny, If, IfElse, While, For, Repeat, Code, done, ◌⨾◌, ◌then◌}
use Rattle.brisk_state.specs.declared.thread.Mode.TheVariants.{At}
use Rattle.brisk_state.specs.Symbolic.{is_partner}
use Rattle.brisk_quiet.specs.Quiet.{Counts, Walked, Blocks, Ends, Sends, on_end, either, unless_sends, if_any, one_less, under}
use Rattle.brisk_quiet.specs.Sender.{Piece, is_binder, unsent, walk_later, is_marked, walk_pieces}
use Rattle.brisk_sound.proofs.Free.{FreeWho, Free}
use Rattle.brisk_rules.proofs.Readings.{stands_by}
use Rattle.brisk_sound.proofs.Walks.{is_named, hide, Test, whomever, under_any, under_for, walk_by, hidden_is, walk_is, Fewer, Le, on_end_le, either_le, unless_le, fewer_trans, one_less_le, one_less_less, Keeps, recv_le, send_le, named_back, keeps_any, keeps_for, walk_by_le, walk_mono, walk_then}
use Rattle.std.proofs.lemmas.Bool.{and_right}

pub le_trans : (x y z : Walked) → Le x y → Le y z → Le x z
le_trans Blocks y z l k = tt
le_trans (Ends n) Blocks z l k = absurd l
le_trans (Ends n) (Ends m) Blocks l k = absurd k
le_trans (Ends n) (Ends m) (Ends j) l k = fewer_trans n m j l k
le_trans (Ends n) (Ends m) Sends l k = tt
le_trans (Ends n) Sends Blocks l k = absurd k
le_trans (Ends n) Sends (Ends j) l k = absurd k
le_trans (Ends n) Sends Sends l k = tt
le_trans Sends Blocks z l k = absurd l
le_trans Sends (Ends m) z l k = absurd l
le_trans Sends Sends z l k = k

-- code after code, where each sends no more than is said of it
pub after_le : (t : Test) (c : Name) (a k : Code) (n : Counts) (x : Walked) (g : Counts → Walked) → Le (walk_by t c a n) x → ((m : Counts) → Le (walk_by t c k m) (g m)) → Le (walk_by t c (a then k) n) (on_end x g)
after_le t c a k n x g l h =
    subst (λ (z : Walked). Le z (on_end x g)) (sym (walk_then t c a k n)) (on_end_le _ x _ g l (λ n m f. le_trans _ _ _ (walk_mono t c k n m f) (h m)))

-- the walk through pieces, where a test tells the receiver
abbrev pub later_by : (Who → Bool) → Name → Code → Counts → Walked
later_by from c (For v s k b ⨾ rest) n = unless_sends (walk_by (whomever (hide v from)) c (unsent v b) n) (walk_by (whomever from) c rest n)
later_by from c code n = walk_by (whomever from) c code n

abbrev pub piece_by : (Who → Bool) → Name → Name → Piece → Counts → Walked
piece_by from u c p n = if is_marked u p.mark then later_by from c p.code n else walk_by (whomever from) c p.code n

abbrev pub pieces_by : (Who → Bool) → Name → Name → List Piece → Counts → Walked
pieces_by from u c [] n = Ends n
pieces_by from u c (p ∷ ps) n = on_end (piece_by from u c p n) (pieces_by from u c ps)

-- the same for a receiver of which nothing is known
abbrev pub plain_by : Name → List Piece → Counts → Walked
plain_by c [] n = Ends n
plain_by c (p ∷ ps) n = on_end (walk_by (whomever (λ u. false)) c p.code n) (plain_by c ps)

later_is : (r : Option Who) (c : Name) (k : Code) (n : Counts) → walk_later r c k n ≡ later_by (is_partner r) c k n
later_is r c (For v s j b ⨾ k) n =
    λ i. unless_sends ((walk_is (under v r) c (unsent v b) ∙ (λ j. walk_by (whomever (λ u. hidden_is v r u j)) c (unsent v b))) i n) (walk_is r c k i n)
later_is r c done n = refl
later_is r c (Assign x e ⨾ k) n = λ i. walk_is r c (Assign x e ⨾ k) i n
later_is r c (Send d es u ⨾ k) n = λ i. walk_is r c (Send d es u ⨾ k) i n
later_is r c (Recv d xs u ⨾ k) n = λ i. walk_is r c (Recv d xs u ⨾ k) i n
later_is r c (RecvAny d xs v s b ⨾ k) n = λ i. walk_is r c (RecvAny d xs v s b ⨾ k) i n
later_is r c (If e a ⨾ k) n = λ i. walk_is r c (If e a ⨾ k) i n
later_is r c (IfElse e a b ⨾ k) n = λ i. walk_is r c (IfElse e a b ⨾ k) i n
later_is r c (While e b ⨾ k) n = λ i. walk_is r c (While e b ⨾ k) i n
later_is r c (Repeat s j b ⨾ k) n = λ i. walk_is r c (Repeat s j b ⨾ k) i n

pub pieces_is : (r : Option Who) (u c : Name) (ps : List Piece) → walk_pieces r u c ps ≡ pieces_by (is_partner r) u c ps
pieces_is r u c [] = refl
pieces_is r u c (p ∷ ps) = λ i n. on_end (if is_marked u p.mark then later_is r c p.code n i else walk_is r c p.code i n) (pieces_is r u c ps i)

-- two tests that tell the same of partners other than a set's member in focus
abbrev Alike : Name → (Who → Bool) → (Who → Bool) → Type 0
Alike s from from' = (u : Who) → FreeWho s u → from u ≡ from' u

hide_alike : (s v : Name) (from from' : Who → Bool) → Alike s from from' → Alike s (hide v from) (hide v from')
hide_alike s v from from' h u f = ap (λ b. b && not (is_named v u)) (h u f)

mutual
  -- walk the same in code that doesn't name it
  walk_free : (s : Name) (from from' : Who → Bool) (c : Name) (k : Code) → Alike s from from' → Free s k → (n : Counts) → walk_by (whomever from) c k n ≡ walk_by (whomever from') c k n
  walk_free s from from' c done h f n = refl
  walk_free s from from' c (Assign x e ⨾ k) h f n = walk_free s from from' c k h f.1 n
  walk_free s from from' c (Send d es u ⨾ k) h f n = ap (λ z. if same_name c d then Sends else z) (walk_free s from from' c k h f.1 n)
  walk_free s from from' c (Recv d xs u ⨾ k) h f n =
      λ i. if h u f.0 i then if_any (n d) (walk_free s from from' c k h f.1 (one_less n d) i) else walk_free s from from' c k h f.1 n i
  walk_free s from from' c (RecvAny d xs v r b ⨾ k) h f n = λ i. on_end (walk_free s (hide v from) (hide v from') c b (hide_alike s v from from' h) f.0 n i) (λ m. walk_free s from from' c k h f.1 m i)
  walk_free s from from' c (If e a ⨾ k) h f n = λ i. on_end (either (walk_free s from from' c a h f.0 n i) (Ends n)) (λ m. walk_free s from from' c k h f.1 m i)
  walk_free s from from' c (IfElse e a b ⨾ k) h f n = λ i. on_end (either (walk_free s from from' c a h f.0.0 n i) (walk_free s from from' c b h f.0.1 n i)) (λ m. walk_free s from from' c k h f.1 m i)
  walk_free s from from' c (While e b ⨾ k) h f n = λ i. unless_sends (walk_free s from from' c b h f.0 n i) (walk_free s from from' c k h f.1 n i)
  walk_free s from from' c (For v r j b ⨾ k) h f n = λ i. unless_sends (walk_free s (hide v from) (hide v from') c b (hide_alike s v from from' h) f.0 n i) (walk_free s from from' c k h f.1 n i)
  walk_free s from from' c (Repeat r j b ⨾ k) h f n = λ i. unless_sends (walk_free s from from' c b h f.0 n i) (walk_free s from from' c k h f.1 n i)

-- the pieces neither name the set's member in focus nor are marked with it
abbrev pub FreePieces : Name → List Piece → Type 0
FreePieces s [] = Unit {0}
FreePieces s (p ∷ ps) = (is_marked s p.mark ≡ false) × Free s p.code × FreePieces s ps

none_alike : (s : Name) → Alike s (stands_by (Some At) s) (λ u. false)
none_alike s (who.Name n) f = refl
none_alike s (who.At r) f = f
none_alike s (who.Pid p) f = refl

-- so they are walked as for a receiver of which nothing is known
pub pieces_free : (s c : Name) (ps : List Piece) → FreePieces s ps → (n : Counts) → pieces_by (stands_by (Some At) s) s c ps n ≡ plain_by c ps n
pieces_free s c [] f n = refl
pieces_free s c (p ∷ ps) f n =
    (λ i. on_end (if f.0 i then later_by (stands_by (Some At) s) c p.code n else walk_by (whomever (stands_by (Some At) s)) c p.code n) (pieces_by (stands_by (Some At) s) s c ps))
    ∙ (λ i. on_end (walk_free s (stands_by (Some At) s) (λ u. false) c p.code (none_alike s) f.1 n i) (λ m. pieces_free s c ps f.2 m i))

-- at other names than a binder, and at its own where it isn't aimed at
abbrev Misses : Name → Test → (Who → Who) → Type 0
Misses v t h = (u : Who) → is_binder v u ≡ true → t.aims (h u) ≡ false

not_named : (v w : Name) (h : Who → Who) → ((u : Who) (n : Name) → h u ≡ who.Name n → u ≡ who.Name n) → same_name v w ≡ false → (u : Who) → is_binder v u ≡ true → is_named w (h u) ≡ false
not_named v w h names apart u e =
    elim (is_named w (h u)) as (λ b. is_named w (h u) ≡ b → b ≡ false) [
      | true ↦ λ g. absurd (both u e (named_back w h names u g))
      | false ↦ λ g. refl
    ] refl
  where
    both : (u : Who) → is_binder v u ≡ true → is_named w u ≡ true → ⊥
    both (who.Name n) a b = let x = exact_name w n b in let y = ap (same_name v) x in let z = sym apart ∙ y ∙ a in cc
    both (who.At s) a b = cc
    both (who.Pid p) a b = cc

or_false : (a b : Bool) → a ≡ false → b ≡ false → (a || b) ≡ false
or_false a b e g = λ i. e i || g i

-- sends to a binder that aren't aimed at the receiver can be left out
pub unsent_le : (v : Name) (from : Who → Bool) (t : Test) (h : Who → Who) (c : Name) (k : Code) (n m : Counts) → Keeps (whomever from) t h → Misses v t h → Fewer n m → Le (walk_by t c (code_map h k) n) (walk_by (whomever from) c (unsent v k) m)
unsent_le v from t h c done n m w a l = l
unsent_le v from t h c (Assign x e ⨾ k) n m w a l = unsent_le v from t h c k n m w a l
unsent_le v from t h c (Send d es u ⨾ k) n m w a l =
    let more = unsent_le v from t h c k n m w a l in
    elim (is_binder v u) as (λ b. is_binder v u ≡ b → Le (if t.aims (h u) && same_name c d then Sends else walk_by t c (code_map h k) n) (walk_by (whomever from) c (if b then unsent v k else Send d es u ⨾ unsent v k) m)) [
      | true ↦ λ e. subst (λ (b : Bool). Le (if b && same_name c d then Sends else walk_by t c (code_map h k) n) (walk_by (whomever from) c (unsent v k) m)) (sym (a u e)) more
      | false ↦ λ e. send_le (t.aims (h u) && same_name c d) (same_name c d) _ _ (λ g. (both_true (t.aims (h u)) (same_name c d) g).1) more
    ] refl
unsent_le v from t h c (Recv d xs u ⨾ k) n m w a l =
    recv_le (from u) (t.from (h u)) (n d) (m d) _ _ _ _ (w.stays u) (l d)
    (unsent_le v from t h c k (one_less n d) (one_less m d) w a (one_less_le n m d l))
    (unsent_le v from t h c k (one_less n d) m w a (fewer_trans (one_less n d) n m (one_less_less n d) l))
    (unsent_le v from t h c k n m w a l)
unsent_le v from t h c (RecvAny d xs x s b ⨾ k) n m w a l =
    on_end_le _ _ _ _
    (elim (same_name v x) as (λ z. same_name v x ≡ z → Le (walk_by (under_any x t) c (code_map h b) n) (walk_by (whomever (hide x from)) c (if z then b else unsent v b) m)) [
      | true ↦ λ e. walk_by_le (whomever (hide x from)) (under_any x t) h c b n m (keeps_any x (whomever from) t h w) l
      | false ↦ λ e. unsent_le v (hide x from) (under_any x t) h c b n m (keeps_any x (whomever from) t h w) (λ u g. or_false _ _ (a u g) (not_named v x h w.names e u g)) l
    ] refl)
    (λ n' m' l'. unsent_le v from t h c k n' m' w a l')
unsent_le v from t h c (If e b ⨾ k) n m w a l = on_end_le _ _ _ _ (either_le _ _ (Ends n) (Ends m) (unsent_le v from t h c b n m w a l) l) (λ n' m' l'. unsent_le v from t h c k n' m' w a l')
unsent_le v from t h c (IfElse e b b' ⨾ k) n m w a l =
    on_end_le _ _ _ _ (either_le _ _ _ _ (unsent_le v from t h c b n m w a l) (unsent_le v from t h c b' n m w a l)) (λ n' m' l'. unsent_le v from t h c k n' m' w a l')
unsent_le v from t h c (While e b ⨾ k) n m w a l = unless_le _ _ _ _ (unsent_le v from t h c b n m w a l) (unsent_le v from t h c k n m w a l)
unsent_le v from t h c (For x s j b ⨾ k) n m w a l =
    unless_le _ _ _ _
    (elim (same_name v x) as (λ z. same_name v x ≡ z → Le (walk_by (under_for x s j t) c (code_map h b) n) (walk_by (whomever (hide x from)) c (if z then b else unsent v b) m)) [
      | true ↦ λ e. walk_by_le (whomever (hide x from)) (under_for x s j t) h c b n m (keeps_for x s j (whomever from) t h w) l
      | false ↦ λ e. unsent_le v (hide x from) (under_for x s j t) h c b n m (keeps_for x s j (whomever from) t h w) (λ u g. or_false _ _ (a u g) (and_right _ _ (not_named v x h w.names e u g))) l
    ] refl)
    (unsent_le v from t h c k n m w a l)
unsent_le v from t h c (Repeat s j b ⨾ k) n m w a l = unless_le _ _ _ _ (unsent_le v from t h c b n m w a l) (unsent_le v from t h c k n m w a l)
