-- What a sequential program can do is what its runs do, whatever the choices and however many turns.
use Rattle.std.proofs.Common.{◌≡◌, ℕ, suc, zero, ◌+◌, ◌≤◌, Bool, true, false, List, [], ◌∷◌, ◌++◌, map, Option, Some, None, refl, sym, ap, ◌∙◌, subst, arith, inl, inr, append_assoc, append-nil, zero-add, add-zero, nat_eq}
use Rattle.std.specs.Prelude.{if◌then◌else◌, ◌&&◌, not, nat_lt, Ok, Err}
use Rattle.std.specs.List.{list_any}
use Rattle.brisk_values.specs.declared.value.Kind.{Kind}
use Rattle.brisk_values.specs.declared.value.Pid.{Pid}
use Rattle.brisk_values.specs.declared.value.Value.{Value}
use Rattle.brisk_values.specs.Names.{Name, single}
use Rattle.brisk_syntax.specs.Stores.{stored}
use Rattle.brisk_syntax.specs.Syntax.{Expression}
use Rattle.brisk_syntax.specs.Value.{value_of}
use Rattle.brisk_seq.specs.Items.{Item, Pass, Fill, Take, If, While, For, ForAny, Pick, Repeat, Items, nothing, ◌⨟◌}
use Rattle.brisk_seq.specs.Sequential as seq
use Rattle.brisk_seq.specs.Sequential.{Ends, given_by, begin, Focus, Given, Run, Ended, Stop, Turns, BadBox, BadChoice, and_then, in_focus, with_box, are_of_kinds, choose, for_each, for_any, take_turn, while_true}
use Rattle.brisk_sound.specs.Does.{Mem, Does, does, does_all, guard, turns, each, any, times, loops, start_mem, EndsAreDone}

-- the store and the boxes of a run
abbrev pub mem_of : Run → Mem
mem_of r = record { store = r.store; box = r.box }

abbrev pub Gives : Ended → Run → Type 0
Gives o r = o ≡ Ok r

same_ok : (r s : Run) → Gives (Ok r) s → mem_of s ≡ mem_of r
same_ok r s e = ap mem_of (sym (unok r s e))
  where
    or_first : Run → Ended → Run
    or_first r (Ok s) = s
    or_first r (Err e) = r

    unok : (r s : Run) → Gives (Ok r) s → r ≡ s
    unok r s e = ap (or_first r) e

ended : (o : Ended) (go : Run → Ended) (r : Run) → and_then o go ≡ Ok r → (s : Run) × (o ≡ Ok s) × (go s ≡ Ok r)
ended (Ok s) go r e = (s, refl, e)
ended (Err x) go r e = cc

abbrev pub Body : Type 0
Body = Run → Ended

abbrev pub Follows : (Mem → Mem → Type 0) → Body → Type 0
Follows R body = (r r' : Run) → body r ≡ Ok r' → R (mem_of r) (mem_of r')

fill_does : (given : Given) (n : ℕ) (p q : Pid) (vs : List Value) (r r' : Run) → seq.fill r n p q vs (r.box n p q) ≡ Ok r' → (r.box n p q ≡ None) × (mem_of r' ≡ record { store = r.store; box = with_box n p q (Some vs) r.box })
fill_does given n p q vs r r' h =
    elim (r.box n p q) as (λ o. seq.fill r n p q vs o ≡ Ok r' → (o ≡ None) × (mem_of r' ≡ record { store = r.store; box = with_box n p q (Some vs) r.box })) [ None ↦ λ e. (refl, same_ok _ r' e) | Some ws ↦ λ e. cc ] h

take_does : (kind : Name → Option Kind) (n : ℕ) (p q : Pid) (xs : List Name) (r r' : Run) → seq.take r kind n p q xs (r.box n p q) ≡ Ok r' →
    (vs : List Value) × (r.box n p q ≡ Some vs) × (are_of_kinds kind xs vs ≡ true) × (mem_of r' ≡ record { store = stored r.store q xs vs; box = with_box n p q None r.box })
take_does kind n p q xs r r' h =
    elim (r.box n p q) as (λ o. seq.take r kind n p q xs o ≡ Ok r' → (vs : List Value) × (o ≡ Some vs) × (are_of_kinds kind xs vs ≡ true) × (mem_of r' ≡ record { store = stored r.store q xs vs; box = with_box n p q None r.box })) [
      | None ↦ λ e. cc
      | Some vs ↦ λ e.
          elim (are_of_kinds kind xs vs) as (λ b. are_of_kinds kind xs vs ≡ b → (if b then Ok record r { store = stored r.store q xs vs; box = with_box n p q None r.box; moves = r.moves + 1 } else Err (BadBox (r.moves + 1))) ≡ Ok r' → (us : List Value) × (Some vs ≡ Some us) × (are_of_kinds kind xs us ≡ true) × (mem_of r' ≡ record { store = stored r.store q xs us; box = with_box n p q None r.box })) [
            | true ↦ λ k g. (vs, refl, k, same_ok _ r' g)
            | false ↦ λ k g. cc
          ] refl e
    ] h

-- the end of a choice
choose_does : (size : ℕ) (used : List ℕ) (r r' : Run) (go : ℕ → Run → Ended) → choose size used r r.choices go ≡ Ok r' →
    (k : ℕ) × (nat_lt k size ≡ true) × (list_any (nat_eq k) used ≡ false) × (s : Run) × (mem_of s ≡ mem_of r) × (go k s ≡ Ok r')
choose_does size used r r' go h = picked r.choices h
  where
    both : (a b : Bool) → (a && not b) ≡ true → (a ≡ true) × (b ≡ false)
    both true true e = cc
    both true false e = (refl, refl)
    both false b e = cc

    picked : (cs : List ℕ) → choose size used r cs go ≡ Ok r' → (k : ℕ) × (nat_lt k size ≡ true) × (list_any (nat_eq k) used ≡ false) × (s : Run) × (mem_of s ≡ mem_of r) × (go k s ≡ Ok r')
    picked [] e = cc
    picked (k ∷ ks) e =
        elim (nat_lt k size && not (list_any (nat_eq k) used)) as (λ b. (nat_lt k size && not (list_any (nat_eq k) used)) ≡ b → (if b then go k record r { choices = ks; asked = r.asked + 1 } else Err (BadChoice (r.asked + 1))) ≡ Ok r' → (k : ℕ) × (nat_lt k size ≡ true) × (list_any (nat_eq k) used ≡ false) × (s : Run) × (mem_of s ≡ mem_of r) × (go k s ≡ Ok r')) [
          | true ↦ λ g i. (let t = both (nat_lt k size) (list_any (nat_eq k) used) g in (k, t.0, t.1, record r { choices = ks; asked = r.asked + 1 }, refl, i))
          | false ↦ λ g i. cc
        ] refl e

module _ (given : Given) (φ : Focus) where
  while_does : (p : Name) (e : Expression) (R : Does) (body : Body) → Follows (R φ) body → (n : ℕ) → Follows (loops given p e R φ) (while_true n (λ s. guard given p e φ (mem_of s)) body)
  while_does p e R body h zero r r' i =
      elim (guard given p e φ (mem_of r)) as (λ b. guard given p e φ (mem_of r) ≡ b → (if b then Err Turns else Ok r) ≡ Ok r' → loops given p e R φ (mem_of r) (mem_of r')) [
        | true ↦ λ g j. cc
        | false ↦ λ g j. (zero, (g, same_ok r r' j))
      ] refl i
  while_does p e R body h (suc n) r r' i =
      elim (guard given p e φ (mem_of r)) as (λ b. guard given p e φ (mem_of r) ≡ b → (if b then take_turn r.turns r (λ s. and_then (body s) (while_true n (λ s. guard given p e φ (mem_of s)) body)) else Ok r) ≡ Ok r' → loops given p e R φ (mem_of r) (mem_of r')) [
        | true ↦ λ g j. turn g r.turns (λ s. while_does p e R body h n s r') j
        | false ↦ λ g j. (zero, (g, same_ok r r' j))
      ] refl i
    where
      turn : guard given p e φ (mem_of r) ≡ true → (left : ℕ) → ((s : Run) → Gives (while_true n (λ s. guard given p e φ (mem_of s)) body s) r' → loops given p e R φ (mem_of s) (mem_of r')) → take_turn left r (λ s. and_then (body s) (while_true n (λ s. guard given p e φ (mem_of s)) body)) ≡ Ok r' → loops given p e R φ (mem_of r) (mem_of r')
      turn g zero rec j = cc
      turn g (suc left) rec j =
          let s : Run = record r { turns = left } in
          let x = ended (body s) (while_true n (λ s. guard given p e φ (mem_of s)) body) r' j in
          let y = rec x.0 x.2 in
          (suc y.0, (g, mem_of x.0, h s x.0 x.1, y.1))

  each_does : (s : Name) (R : Does) (body : ℕ → Body) → ((k : ℕ) → Follows (R (in_focus s k φ)) (body k)) → (n k : ℕ) → Follows (each s R n k φ) (for_each n k body)
  each_does s R body h zero k r r' i = same_ok r r' i
  each_does s R body h (suc n) k r r' i = let x = ended (body k r) (for_each n (k + 1) body) r' i in (mem_of x.0, h k r x.0 x.1, each_does s R body h n (k + 1) x.0 r' x.2)

  times_does : (R : Does) (body : Body) → Follows (R φ) body → (n k : ℕ) → Follows (times R n φ) (for_each n k (λ j. body))
  times_does R body h zero k r r' i = same_ok r r' i
  times_does R body h (suc n) k r r' i = let x = ended (body r) (for_each n (k + 1) (λ j. body)) r' i in (mem_of x.0, h r x.0 x.1, times_does R body h n (k + 1) x.0 r' x.2)

  any_does : (s : Name) (R : Does) (body : ℕ → Body) → ((k : ℕ) → Follows (R (in_focus s k φ)) (body k)) → (n size : ℕ) (used : List ℕ) → Follows (any s R n size used φ) (for_any n size used body)
  any_does s R body h zero size used r r' i = same_ok r r' i
  any_does s R body h (suc n) size used r r' i =
      let c = choose_does size used r r' (λ k s. and_then (body k s) (for_any n size (k ∷ used) body)) i in
      let x = ended (body c.0 c.3) (for_any n size (c.0 ∷ used) body) r' c.5 in
      (c.0, c.1, c.2, mem_of x.0, subst (λ (m : Mem). R (in_focus s c.0 φ) m (mem_of x.0)) c.4 (h c.0 c.3 x.0 x.1), any_does s R body h n size (c.0 ∷ used) x.0 r' x.2)

mutual
  pub item_does : (given : Given) (q : Item) (φ : Focus) → Follows (does given q φ) (seq.does given q φ)
  item_does given (Pass to xs from es) φ r r' h = same_ok _ r' h
  item_does given (Fill n from to es) φ r r' h = fill_does given n (φ from) (φ to) (map (value_of given.sizes (r.store (φ from))) es) r r' h
  item_does given (Take to xs n from) φ r r' h = take_does (given.kind (φ to).role) n (φ from) (φ to) xs r r' h
  item_does given (If p e a b) φ r r' h =
      elim (guard given p e φ (mem_of r)) as (λ g. guard given p e φ (mem_of r) ≡ g → (if g then seq.do_all given a φ r else seq.do_all given b φ r) ≡ Ok r' → does given (If p e a b) φ (mem_of r) (mem_of r')) [
        | true ↦ λ g i. inl (g, items_do given a φ r r' i)
        | false ↦ λ g i. inr (g, items_do given b φ r r' i)
      ] refl h
  item_does given (While p e b) φ r r' h = while_does given φ p e (does_all given b) (λ s. seq.do_all given b φ s) (items_do given b φ) r.turns r r' h
  item_does given (For s b) φ r r' h = each_does given φ s (does_all given b) (λ k t. seq.do_all given b (in_focus s k φ) t) (λ k. items_do given b (in_focus s k φ)) (given.sizes s) 0 r r' h
  item_does given (ForAny s b) φ r r' h = any_does given φ s (does_all given b) (λ k t. seq.do_all given b (in_focus s k φ) t) (λ k. items_do given b (in_focus s k φ)) (given.sizes s) (given.sizes s) [] r r' h
  item_does given (Pick s b) φ r r' h =
      let c = choose_does (given.sizes s) [] r r' (λ k t. seq.do_all given b (in_focus s k φ) t) h in
      (c.0, c.1, subst (λ (m : Mem). does_all given b (in_focus s c.0 φ) m (mem_of r')) c.4 (items_do given b (in_focus s c.0 φ) c.3 r' c.5))
  item_does given (Repeat s b) φ r r' h = times_does given φ (does_all given b) (λ t. seq.do_all given b φ t) (items_do given b φ) (given.sizes s) 0 r r' h

  pub items_do : (given : Given) (Q : Items) (φ : Focus) → Follows (does_all given Q φ) (seq.do_all given Q φ)
  items_do given nothing φ r r' h = same_ok r r' h
  items_do given (q ⨟ rest) φ r r' h =
      let x = ended (seq.does given q φ r) (λ s. seq.do_all given rest φ s) r' h in
      (mem_of x.0, item_does given q φ r x.0 x.1, items_do given rest φ x.0 r' x.2)

-- the way back: the choices and turns that a run of the relation uses up
abbrev pub run_of : Mem → List ℕ → ℕ → ℕ → ℕ → Run
run_of m cs ts asked moves = record { store = m.store; box = m.box; choices = cs; asked = asked; turns = ts; moves = moves }

abbrev pub Came : Ended → Mem → List ℕ → ℕ → Type 0
Came o n more extra = (asked : ℕ) × (moves : ℕ) × Gives o (run_of n more extra asked moves)

pub record Plays (body : Body) (m n : Mem) : Type 0 where
  pub choices : List ℕ
  pub turns : ℕ
  pub plays : (more : List ℕ) (extra asked moves : ℕ) → Came (body (run_of m (choices ++ more) (turns + extra) asked moves)) n more extra

-- what uses up nothing
at_once : (body : Body) (m n : Mem) → ((more : List ℕ) (extra asked moves : ℕ) → Came (body (run_of m more extra asked moves)) n more extra) → Plays body m n
at_once body m n h = record {
  choices = [];
  turns = 0;
  plays = λ more extra asked moves. let x = h more extra asked moves in (x.0, x.1, ap (λ ts. body (run_of m more ts asked moves)) (zero-add extra) ∙ x.2);
}

plays_then : (body : Body) (go : Body) (m l n : Mem) → Plays body m l → Plays go l n → Plays (λ r. and_then (body r) go) m n
plays_then body go m l n a b = record {
  choices = a.choices ++ b.choices;
  turns = a.turns + b.turns;
  plays = λ more extra asked moves.
      let x = a.plays (b.choices ++ more) (b.turns + extra) asked moves in
      let y = b.plays more extra x.0 x.1 in
      (y.0, y.1, (λ i. and_then (body (run_of m (append_assoc a.choices b.choices more i) (sums a.turns b.turns extra i) asked moves)) go) ∙ ap (λ o. and_then o go) x.2 ∙ y.2);
}
  where
    sums : (a b c : ℕ) → (a + b) + c ≡ a + (b + c)
    sums a b c = omega arith

-- a choice before it
plays_choice : (size : ℕ) (used : List ℕ) (go : ℕ → Body) (k : ℕ) (m n : Mem) → nat_lt k size ≡ true → list_any (nat_eq k) used ≡ false → Plays (go k) m n → Plays (λ r. choose size used r r.choices go) m n
plays_choice size used go k m n inside fresh a = record {
  choices = k ∷ a.choices;
  turns = a.turns;
  plays = λ more extra asked moves.
      let x = a.plays more extra (asked + 1) moves in
      let r = run_of m ((k ∷ a.choices) ++ more) (a.turns + extra) asked moves in
      (x.0, x.1, ap (λ b. if b then go k record r { choices = a.choices ++ more; asked = asked + 1 } else Err (BadChoice (asked + 1))) (λ i. inside i && not (fresh i)) ∙ x.2);
}

module _ (given : Given) (φ : Focus) where
  -- the turns of a while, with any fuel that is enough
  record Turned (p : Name) (e : Expression) (body : Body) (k : ℕ) (m n : Mem) : Type 0 where
    choices : List ℕ
    turns : ℕ
    many : k ≤ turns
    plays : (fuel : ℕ) → k ≤ fuel → (more : List ℕ) (extra asked moves : ℕ) → Came (while_true fuel (λ s. guard given p e φ (mem_of s)) body (run_of m (choices ++ more) (turns + extra) asked moves)) n more extra

  plays_turns : (p : Name) (e : Expression) (R : Does) (body : Body) → ((m n : Mem) → R φ m n → Plays body m n) → (k : ℕ) (m n : Mem) → turns given p e R k φ m n → Turned p e body k m n
  plays_turns p e R body h zero m n r = record {
    choices = [];
    turns = 0;
    many = omega arith;
    plays = λ fuel f more extra asked moves. (asked, moves, out fuel more (0 + extra) asked moves ∙ (λ i. Ok (run_of (sym r.1 i) more (zero-add extra i) asked moves)));
  }
    where
      out : (fuel : ℕ) (more : List ℕ) (ts asked moves : ℕ) → Gives (while_true fuel (λ s. guard given p e φ (mem_of s)) body (run_of m more ts asked moves)) (run_of m more ts asked moves)
      out zero more ts asked moves = ap (λ b. if b then Err Turns else Ok (run_of m more ts asked moves)) r.0
      out (suc fuel) more ts asked moves = ap (λ b. if b then take_turn ts (run_of m more ts asked moves) (λ s. and_then (body s) (while_true fuel (λ s. guard given p e φ (mem_of s)) body)) else Ok (run_of m more ts asked moves)) r.0
  plays_turns p e R body h (suc k) m n r =
      let a = h m r.1 r.2 in let b = plays_turns p e R body h k r.1 n r.3 in record {
        choices = a.choices ++ b.choices;
        turns = suc (a.turns + b.turns);
        many = (let i = b.many in omega (arith, i));
        plays = turn a b;
      }
    where
      turn : (a : Plays body m r.1) (b : Turned p e body k r.1 n) (fuel : ℕ) → suc k ≤ fuel → (more : List ℕ) (extra asked moves : ℕ) → Came (while_true fuel (λ s. guard given p e φ (mem_of s)) body (run_of m ((a.choices ++ b.choices) ++ more) (suc (a.turns + b.turns) + extra) asked moves)) n more extra
      turn a b zero f more extra asked moves = absurd (omega (arith, f))
      turn a b (suc fuel) f more extra asked moves =
          let x = a.plays (b.choices ++ more) (b.turns + extra) asked moves in
          let y = b.plays fuel (omega (arith, f)) more extra x.0 x.1 in
          let go = while_true fuel (λ s. guard given p e φ (mem_of s)) body in
          let sums : suc (a.turns + b.turns) + extra ≡ suc (a.turns + (b.turns + extra)) = omega arith in (
            y.0,
            y.1,
            (λ i. while_true (suc fuel) (λ s. guard given p e φ (mem_of s)) body (run_of m (append_assoc a.choices b.choices more i) (sums i) asked moves))
                ∙ ap (λ g. if g then and_then (body (run_of m (a.choices ++ (b.choices ++ more)) (a.turns + (b.turns + extra)) asked moves)) go else Ok (run_of m (a.choices ++ (b.choices ++ more)) (suc (a.turns + (b.turns + extra))) asked moves)) r.0
                ∙ ap (λ o. and_then o go) x.2 ∙ y.2,
          )

  plays_while : (p : Name) (e : Expression) (R : Does) (body : Body) → ((m n : Mem) → R φ m n → Plays body m n) → (m n : Mem) → loops given p e R φ m n → Plays (λ r. while_true r.turns (λ s. guard given p e φ (mem_of s)) body r) m n
  plays_while p e R body h m n r =
      let t = plays_turns p e R body h r.0 m n r.1 in record {
        choices = t.choices;
        turns = t.turns;
        plays = λ more extra asked moves. t.plays (t.turns + extra) (let i = t.many in omega (arith, i)) more extra asked moves;
      }

  plays_each : (s : Name) (R : Does) (body : ℕ → Body) → ((k : ℕ) (m n : Mem) → R (in_focus s k φ) m n → Plays (body k) m n) → (j k : ℕ) (m n : Mem) → each s R j k φ m n → Plays (for_each j k body) m n
  plays_each s R body h zero k m n r = at_once (for_each zero k body) m n (λ more extra asked moves. (asked, moves, λ i. Ok (run_of (sym r i) more extra asked moves)))
  plays_each s R body h (suc j) k m n r = plays_then (body k) (for_each j (k + 1) body) m r.0 n (h k m r.0 r.1) (plays_each s R body h j (k + 1) r.0 n r.2)

  plays_times : (R : Does) (body : Body) → ((m n : Mem) → R φ m n → Plays body m n) → (j k : ℕ) (m n : Mem) → times R j φ m n → Plays (for_each j k (λ i. body)) m n
  plays_times R body h zero k m n r = at_once (for_each zero k (λ i. body)) m n (λ more extra asked moves. (asked, moves, λ i. Ok (run_of (sym r i) more extra asked moves)))
  plays_times R body h (suc j) k m n r = plays_then body (for_each j (k + 1) (λ i. body)) m r.0 n (h m r.0 r.1) (plays_times R body h j (k + 1) r.0 n r.2)

  plays_any : (s : Name) (R : Does) (body : ℕ → Body) → ((k : ℕ) (m n : Mem) → R (in_focus s k φ) m n → Plays (body k) m n) → (j size : ℕ) (used : List ℕ) (m n : Mem) → any s R j size used φ m n → Plays (for_any j size used body) m n
  plays_any s R body h zero size used m n r = at_once (for_any zero size used body) m n (λ more extra asked moves. (asked, moves, λ i. Ok (run_of (sym r i) more extra asked moves)))
  plays_any s R body h (suc j) size used m n r =
      plays_choice size used (λ k s. and_then (body k s) (for_any j size (k ∷ used) body)) r.0 m n r.1 r.2
      (plays_then (body r.0) (for_any j size (r.0 ∷ used) body) m r.3 n (h r.0 m r.3 r.4) (plays_any s R body h j size (r.0 ∷ used) r.3 n r.5))

mutual
  pub item_plays : (given : Given) (q : Item) (φ : Focus) (m n : Mem) → does given q φ m n → Plays (seq.does given q φ) m n
  item_plays given (Pass to xs from es) φ m n r = at_once (seq.does given (Pass to xs from es) φ) m n (λ more extra asked moves. (asked, moves + 1, λ i. Ok (run_of (sym r i) more extra asked (moves + 1))))
  item_plays given (Fill k from to es) φ m n r =
      at_once (seq.does given (Fill k from to es) φ) m n (λ more extra asked moves. (
        asked,
        moves + 1,
        ap (seq.fill (run_of m more extra asked moves) k (φ from) (φ to) (map (value_of given.sizes (m.store (φ from))) es)) r.0 ∙ (λ i. Ok (run_of (sym r.1 i) more extra asked (moves + 1))),
      ))
  item_plays given (Take to xs k from) φ m n r =
      at_once (seq.does given (Take to xs k from) φ) m n (λ more extra asked moves. (
        asked,
        moves + 1,
        ap (seq.take (run_of m more extra asked moves) (given.kind (φ to).role) k (φ from) (φ to) xs) r.1
            ∙ ap (λ b. if b then Ok (run_of (record { store = stored m.store (φ to) xs r.0; box = with_box k (φ from) (φ to) None m.box }) more extra asked (moves + 1)) else Err (BadBox (moves + 1))) r.2
            ∙ (λ i. Ok (run_of (sym r.3 i) more extra asked (moves + 1))),
      ))
  item_plays given (If p e a b) φ m n r =
      elim r [
        | inl x ↦ (let y = items_play given a φ m n x.1 in record {
          choices = y.choices;
          turns = y.turns;
          plays = λ more extra asked moves.
              let z = y.plays more extra asked moves in let start = run_of m (y.choices ++ more) (y.turns + extra) asked moves in
              (z.0, z.1, ap (λ g. if g then seq.do_all given a φ start else seq.do_all given b φ start) x.0 ∙ z.2);
        })
        | inr x ↦ (let y = items_play given b φ m n x.1 in record {
          choices = y.choices;
          turns = y.turns;
          plays = λ more extra asked moves.
              let z = y.plays more extra asked moves in let start = run_of m (y.choices ++ more) (y.turns + extra) asked moves in
              (z.0, z.1, ap (λ g. if g then seq.do_all given a φ start else seq.do_all given b φ start) x.0 ∙ z.2);
        })
      ]
  item_plays given (While p e b) φ m n r = plays_while given φ p e (does_all given b) (λ s. seq.do_all given b φ s) (λ m n. items_play given b φ m n) m n r
  item_plays given (For s b) φ m n r = plays_each given φ s (does_all given b) (λ k t. seq.do_all given b (in_focus s k φ) t) (λ k m n. items_play given b (in_focus s k φ) m n) (given.sizes s) 0 m n r
  item_plays given (ForAny s b) φ m n r = plays_any given φ s (does_all given b) (λ k t. seq.do_all given b (in_focus s k φ) t) (λ k m n. items_play given b (in_focus s k φ) m n) (given.sizes s) (given.sizes s) [] m n r
  item_plays given (Pick s b) φ m n r = plays_choice (given.sizes s) [] (λ k t. seq.do_all given b (in_focus s k φ) t) r.0 m n r.1 refl (items_play given b (in_focus s r.0 φ) m n r.2)
  item_plays given (Repeat s b) φ m n r = plays_times given φ (does_all given b) (λ t. seq.do_all given b φ t) (λ m n. items_play given b φ m n) (given.sizes s) 0 m n r

  pub items_play : (given : Given) (Q : Items) (φ : Focus) (m n : Mem) → does_all given Q φ m n → Plays (seq.do_all given Q φ) m n
  items_play given nothing φ m n r = at_once (seq.do_all given nothing φ) m n (λ more extra asked moves. (asked, moves, λ i. Ok (run_of (sym r i) more extra asked moves)))
  items_play given (q ⨟ rest) φ m n r = plays_then (seq.does given q φ) (λ s. seq.do_all given rest φ s) m r.0 n (item_plays given q φ m r.0 r.1) (items_play given rest φ r.0 n r.2)

-- the stores with which a program halts are those of the relation
pub ends_done : EndsAreDone
ends_done Q i store = (λ e. there e.0 e.1 e.2, λ e. back e.0 e.1 e.2)
  where
    there : (choices : List ℕ) (turns : ℕ) → seq.seq Q i choices turns ≡ Ok store → (m : Mem) × does_all (given_by Q i) Q.body single (start_mem Q i) m × (m.store ≡ store)
    there choices turns h =
        elim (seq.do_all (given_by Q i) Q.body single (begin Q i choices turns)) as (λ o. seq.do_all (given_by Q i) Q.body single (begin Q i choices turns) ≡ o → seq.ended o ≡ Ok store → (m : Mem) × does_all (given_by Q i) Q.body single (start_mem Q i) m × (m.store ≡ store)) [
          | Ok r ↦ λ e g. (mem_of r, items_do (given_by Q i) Q.body single (begin Q i choices turns) r e, halted r r.choices g)
          | Err x ↦ λ e g. cc
        ] refl h
      where
        halted : (r : Run) (cs : List ℕ) → seq.halted_with r cs ≡ Ok store → r.store ≡ store
        halted r [] g = cc
        halted r (k ∷ cs) g = cc

    back : (m : Mem) → does_all (given_by Q i) Q.body single (start_mem Q i) m → m.store ≡ store → Ends Q i store
    back m d e =
        let x = items_play (given_by Q i) Q.body single (start_mem Q i) m d in
        let y = x.plays [] 0 0 0 in (
          x.choices,
          x.turns,
          ap seq.ended ((λ j. seq.do_all (given_by Q i) Q.body single (run_of (start_mem Q i) (sym (append-nil x.choices) j) (sym (add-zero x.turns) j) 0 0)) ∙ y.2) ∙ ap Ok e,
        )
