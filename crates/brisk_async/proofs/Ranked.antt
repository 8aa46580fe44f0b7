-- Numbers of messages, gathered queue by queue under their ranks, and told in order.
use Rattle.std.proofs.Common.{◌≡◌, ◌<◌, ℕ, Bool, true, false, cond, List, [], ◌∷◌, length, map, Option, Some, None, IsSome, refl, sym, ap, subst, ◌∙◌, arith}
use Rattle.std.specs.Prelude.{is_some}
use Rattle.std.specs.Ordering.{nat_cmp}
use Rattle.std.specs.declared.cmp.Ordering.TheVariants.{Less}
use Rattle.std.specs.Cmp.{IsTotalOrder, eq_by_cmp_equiv}
use Rattle.std.specs.List.{All, AllByRecursion, Contains}
use Rattle.std.specs.List.Sorted.{IsStrictlySortedBy}
use Rattle.std.specs.BTreeMap.{BTreeMap, IsOrdered, get, is_at}
use Rattle.std.specs.FinMap.{from_entries}
use Rattle.std.specs.Map.{keys_of, lookup}
use Rattle.std.proofs.lemmas.Cmp.{nat_cmp_total, on_total, then_total}
use Rattle.std.proofs.lemmas.List.{get_or-map, length-map}
use Rattle.std.proofs.lemmas.List.Elements.{All-contains, All-map, All-weaker, recursion_from_All}
use Rattle.std.proofs.lemmas.Map.Lookups.{CmpEqualImpliesEq, exact_pairs, exact_unsigned}
use Rattle.std.proofs.lemmas.Map.Views.{All-found, btree_map_get_iff, tells_apart}
use Rattle.brisk_syntax.specs.declared.program.Program.{Program}
use Rattle.brisk_async.specs.declared.mail.Key.{Key}
use Rattle.brisk_async.specs.declared.queue.Queue.{Queue as Counted}
use Rattle.brisk_async.specs.declared.queue.Rank.{Rank}
use Rattle.brisk_async.specs.InOrder.{AreQueues, place_cmp, queue_told, rank, rank_cmp}
use Rattle.brisk_async.specs.Keys.{key_cmp, key_of, mail_in, or_nil, queue_of}
use Rattle.brisk_async.specs.Machine.{Mail, Payload}
use Rattle.brisk_async.specs.Ranks.{AreNumbers, Waits, told_by}
use Rattle.brisk_async.proofs.Maps.{exact_keys, get_listed, key_total}

place_total : IsTotalOrder place_cmp
place_total = then_total (on_total (λ (p : ℕ × ℕ). p.0) nat_cmp_total) (on_total (λ (p : ℕ × ℕ). p.1) nat_cmp_total)

pub rank_total : IsTotalOrder rank_cmp
rank_total =
    then_total (on_total (λ (r : Rank). r.from) place_total)
    (then_total (on_total (λ (r : Rank). r.to) place_total) (then_total (on_total (λ (r : Rank). r.channel) nat_cmp_total) (on_total (λ (r : Rank). r.key) key_total)))

exact_places : CmpEqualImpliesEq place_cmp
exact_places = exact_pairs nat_cmp nat_cmp exact_unsigned exact_unsigned

-- ranks that compare alike are one
pub exact_ranks : CmpEqualImpliesEq rank_cmp
exact_ranks a b h = ap (λ (k : (ℕ × ℕ) × ((ℕ × ℕ) × (ℕ × Key))). record { from = k.0; to = k.1.0; channel = k.1.1.0; key = k.1.1.1 })
    (exact_pairs place_cmp _ exact_places (exact_pairs place_cmp _ exact_places (exact_pairs nat_cmp key_cmp exact_unsigned exact_keys))
    (a.from, (a.to, (a.channel, a.key))) (b.from, (b.to, (b.channel, b.key))) h)

abbrev pub Used : Type 0
Used = List (Key × List Payload)

-- the map has the numbers of the queues that aren't left
pub record Holds (P : Program) (mail : Mail) (left : Used) (numbers : BTreeMap Rank ℕ) : Type 0 where
  pub right : (r : Rank) (n : ℕ) → get rank_cmp numbers r ≡ Some n → Waits P mail r n
  pub whole : (k : Key) → lookup (is_at (key_cmp k)) left ≡ None → 0 < length (mail (queue_of k)) → IsSome (get rank_cmp numbers (rank P (queue_of k)))

pub begun : (P : Program) (es left : Used) (numbers : BTreeMap Rank ℕ) → numbers.entries ≡ [] → left ≡ es → Holds P (mail_in (from_entries es)) left numbers
begun P es left numbers empty all = record {
  right = λ r n h. let none = ap (lookup (is_at (rank_cmp r))) empty in cc;
  whole = λ k none some. let e = ap or_nil (get_listed key_total es k ∙ ap (lookup (is_at (key_cmp k))) (sym all) ∙ none) in absurd (omega (arith, ap length e));
}

module _ (P : Program) (mail : Mail) (k : Key) (ms : List Payload) (left rest : Used) (more : left ≡ (k, ms) ∷ rest) (found : mail (queue_of k) ≡ ms) where
  -- what isn't among the others isn't left, or is this queue
  not_left : (q : Key) (b : Bool) → is_at (key_cmp q) k ≡ b → b ≡ false → lookup (is_at (key_cmp q)) rest ≡ None → lookup (is_at (key_cmp q)) left ≡ None
  not_left q b is apart none = ap (lookup (is_at (key_cmp q))) more ∙ ap (λ x. cond x (Some ms) (lookup (is_at (key_cmp q)) rest)) (is ∙ apart) ∙ none

  pub skipped : (numbers : BTreeMap Rank ℕ) → length ms ≡ 0 → Holds P mail left numbers → Holds P mail rest numbers
  skipped numbers none h = record {
    right = h.right;
    whole = λ q gone some.
        elim (is_at (key_cmp q) k) as (λ b. is_at (key_cmp q) k ≡ b → IsSome (get rank_cmp numbers (rank P (queue_of q)))) [
          | true ↦ λ t. let e = ap (λ z. length (mail (queue_of z))) (tells_apart exact_keys q k t) ∙ ap length found ∙ none in absurd (omega arith)
          | false ↦ λ t. h.whole q (not_left q false t refl gone) some
        ] refl;
  }

  module _ (old new : BTreeMap Rank ℕ) (some : 0 < length ms)
      (put : (r : Rank) → get rank_cmp new r ≡ cond (is_at (rank_cmp (rank P (queue_of k))) r) (Some (length ms)) (get rank_cmp old r)) (h : Holds P mail left old) where
    this_one : (n : ℕ) → Some (length ms) ≡ Some n → Waits P mail (rank P (queue_of k)) n
    this_one n e =
        let same : length ms ≡ n = cc in
        record { ranked = refl; some = subst (λ z. 0 < z) same some; number = sym same ∙ ap length (sym found) }

    put_right : (r : Rank) (n : ℕ) → get rank_cmp new r ≡ Some n → Waits P mail r n
    put_right r n e =
        elim (is_at (rank_cmp (rank P (queue_of k))) r) as (λ b. is_at (rank_cmp (rank P (queue_of k))) r ≡ b → cond b (Some (length ms)) (get rank_cmp old r) ≡ Some n → Waits P mail r n) [
          | true ↦ λ t f. subst (λ z. Waits P mail z n) (tells_apart exact_ranks (rank P (queue_of k)) r t) (this_one n f)
          | false ↦ λ t f. h.right r n f
        ] refl (sym (put r) ∙ e)

    apart : (q : Key) → is_at (rank_cmp (rank P (queue_of k))) (rank P (queue_of q)) ≡ false → is_at (key_cmp q) k ≡ false
    apart q f =
        elim (is_at (key_cmp q) k) as (λ b. is_at (key_cmp q) k ≡ b → b ≡ false) [
          | true ↦ λ t.
              let here = (eq_by_cmp_equiv rank_total).refl (rank P (queue_of k)) in
              let there = ap (λ z. is_at (rank_cmp (rank P (queue_of k))) (rank P (queue_of z))) (tells_apart exact_keys q k t) in cc
          | false ↦ λ t. refl
        ] refl

    put_whole : (q : Key) → lookup (is_at (key_cmp q)) rest ≡ None → 0 < length (mail (queue_of q)) → IsSome (get rank_cmp new (rank P (queue_of q)))
    put_whole q gone waits = ap is_some (put (rank P (queue_of q)))
        ∙ elim (is_at (rank_cmp (rank P (queue_of k))) (rank P (queue_of q))) as (λ b. is_at (rank_cmp (rank P (queue_of k))) (rank P (queue_of q)) ≡ b →
        is_some (cond b (Some (length ms)) (get rank_cmp old (rank P (queue_of q)))) ≡ true) [
          | true ↦ λ t. refl
          | false ↦ λ t. h.whole q (not_left q false (apart q t) refl gone) waits
        ] refl

    pub inserted : Holds P mail rest new
    inserted = record { right = put_right; whole = put_whole }

pub all_held : (P : Program) (mail : Mail) (left : Used) (numbers : BTreeMap Rank ℕ) → left ≡ [] → Holds P mail left numbers → AreNumbers P mail numbers
all_held P mail left numbers none h = record {
  right = h.right;
  whole = λ q some. h.whole (key_of q) (ap (lookup (is_at (key_cmp (key_of q)))) none) some;
}

contains_mapped : {X Y : Type 0} (f : X → Y) (xs : List X) (x : X) → Contains xs x → Contains (map f xs) (f x)
contains_mapped f xs x h = (h.0, subst (λ n. h.0 < n) (sym (length-map xs f)) h.1, get_or-map f xs h.0 x (f x) h.1 ∙ ap f h.2)

module _ (P : Program) where
  ranks_above : (e : Rank × ℕ) (es : List (Rank × ℕ)) → e.0 ≡ rank P (queue_of e.0.key) → AllByRecursion (λ f. f.0 ≡ rank P (queue_of f.0.key)) es →
      AllByRecursion (λ r. rank_cmp e.0 r ≡ Less) (keys_of es) → AllByRecursion (λ q. rank_cmp (rank P (queue_told (told_by e))) (rank P (queue_told q)) ≡ Less) (map told_by es)
  ranks_above e [] is are h = tt
  ranks_above e (f ∷ fs) is are h = ((λ i. rank_cmp (sym is i) (sym are.0 i)) ∙ h.0, ranks_above e fs is are.1 h.1)

  ranks_rise : (es : List (Rank × ℕ)) → AllByRecursion (λ f. f.0 ≡ rank P (queue_of f.0.key)) es → IsStrictlySortedBy rank_cmp (keys_of es) →
      IsStrictlySortedBy (λ a b. rank_cmp (rank P (queue_told a)) (rank P (queue_told b))) (map told_by es)
  unfolding IsStrictlySortedBy
  ranks_rise [] are h = tt
  ranks_rise (e ∷ es) are h = (ranks_above e es are.0 are.1 h.0, ranks_rise es are.1 h.1)

  -- what such a map has, in order
  pub in_order : (mail : Mail) (numbers : BTreeMap Rank ℕ) → IsOrdered rank_cmp numbers → AreNumbers P mail numbers → AreQueues P mail (map told_by numbers.entries)
  in_order mail numbers ordered h = record {
    told = λ q. (
      All-contains Right (map told_by numbers.entries) q (All-map Right told_by numbers.entries
          (All-weaker (λ e. get rank_cmp numbers e.0 ≡ Some e.1) (λ e. Right (told_by e)) (λ e g. let w = h.right e.0 e.1 g in (w.some, w.number)) numbers.entries found)),
      λ w. there q w.1 (get rank_cmp numbers (rank P (queue_told q))) refl (h.whole (queue_told q) (subst (λ n. 0 < n) w.1 w.0)),
    );
    rising = ranks_rise numbers.entries
        (recursion_from_All (λ e. e.0 ≡ rank P (queue_of e.0.key)) numbers.entries
        (All-weaker (λ e. get rank_cmp numbers e.0 ≡ Some e.1) (λ e. e.0 ≡ rank P (queue_of e.0.key)) (λ e g. (h.right e.0 e.1 g).ranked) numbers.entries found)) ordered;
  }
    where
      Right : Counted → Type 0
      Right q = (0 < q.length) × (q.length ≡ length (mail (queue_told q)))

      found : All (λ e. get rank_cmp numbers e.0 ≡ Some e.1) numbers.entries
      found = All-found rank_total numbers ordered

      there : (q : Counted) → q.length ≡ length (mail (queue_told q)) → (o : Option ℕ) → get rank_cmp numbers (rank P (queue_told q)) ≡ o → IsSome o → Contains (map told_by numbers.entries) q
      there q e None is some = cc
      there q e (Some n) is some =
          let r = rank P (queue_told q) in
          let same : n ≡ q.length = (h.right r n is).number ∙ sym e in
          contains_mapped told_by numbers.entries (r, q.length) ((btree_map_get_iff rank_total exact_ranks numbers ordered r q.length).0 (is ∙ ap Some same))
