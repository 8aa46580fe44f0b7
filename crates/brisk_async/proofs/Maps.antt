-- Entries of ordered maps and the finite maps that they are seen as.
use Rattle.std.proofs.Common.{◌≡◌, List, [], ◌∷◌, Bool, true, false, cond, Option, Some, None, refl, sym, ap, ◌∙◌}
use Rattle.std.specs.Prelude.{if◌then◌else◌, IfSome, IsSome, is_some, option_and_then}
use Rattle.std.specs.declared.cmp.Ordering.{Ordering}
use Rattle.std.specs.Ordering.{nat_cmp, eq_by_cmp}
use Rattle.std.specs.Cmp.{IsTotalOrder, both_ways, eq_by_cmp_equiv}
use Rattle.std.specs.Cmp.Lexicographic.{slice_cmp}
use Rattle.std.proofs.lemmas.Cmp.{nat_list_cmp_total, on_total, then_total}
use Rattle.std.proofs.lemmas.Map.Lookups.{CmpEqualImpliesEq, exact_bytes, exact_pairs}
use Rattle.std.proofs.lemmas.Map.Views.{All-values_from_lookup, IfSome-lookup_from_All, tells_apart}
use Rattle.std.specs.List.{All}
use Rattle.std.specs.List.Sorted.{IsStrictlySortedBy}
use Rattle.std.specs.Map.{keys_of, lookup, values_of}
use Rattle.std.proofs.lemmas.Map.Keys.{IsDistinct-from_sorted}
use Rattle.std.specs.BTreeMap.{is_at}
use Rattle.std.specs.FinMap.{FinMap, find, get, insert, from_entries, get-from_entries, get-insert, same_map}
use Rattle.brisk_values.specs.declared.value.Pid.{Pid}
use Rattle.brisk_values.specs.Functions.{changed}
use Rattle.brisk_values.specs.Names.{Name, same_process}
use Rattle.brisk_values.specs.Places.{process_cmp}
use Rattle.brisk_values.proofs.Changes.{exact_process, process_laws}
use Rattle.brisk_values.proofs.Entries.{exact_processes, process_total}
use Rattle.brisk_syntax.specs.Segments.{head_of, or_done}
use Rattle.brisk_syntax.specs.Syntax.{Code, done}
use Rattle.brisk_async.specs.declared.mail.Key.{Key}
use Rattle.brisk_async.specs.Keys.{Processes, Queues, code_in_map, key_cmp, key_of, mail_in, or_nil, queue_of}
use Rattle.brisk_async.specs.Machine.{Payload, Queue, same_queue}
use Rattle.brisk_async.proofs.Queues.{exact_queue, queue_laws}

module _ {K X : Type 0} {R : K → K → Ordering} (total : IsTotalOrder R) where
  find_listed : (es : List (K × X)) (q : K) → find R q es ≡ lookup (is_at (R q)) es
  find_listed [] q = refl
  find_listed (e ∷ es) q = ap (cond (is_at (R q) e.0) (Some e.1)) (find_listed es q)

  pub get_listed : (es : List (K × X)) (q : K) → get (from_entries {R = R} es) q ≡ lookup (is_at (R q)) es
  get_listed es q = get-from_entries total es q ∙ find_listed es q

  -- entries that differ at one key make maps that differ there
  pub one_insert : CmpEqualImpliesEq R → (es fs : List (K × X)) (k : K) (v : X) → ((q : K) → lookup (is_at (R q)) fs ≡ cond (is_at (R k) q) (Some v) (lookup (is_at (R q)) es)) → from_entries {R = R} fs ≡ insert (from_entries es) k v
  one_insert exact es fs k v h = same_map total exact _ _ (λ q.
      get_listed fs q ∙ h q ∙ ap (λ b. cond b (Some v) (lookup (is_at (R q)) es)) ((eq_by_cmp_equiv total).symm k q)
      ∙ sym (get-insert total (from_entries es) k v q ∙ ap (cond (eq_by_cmp R q k) (Some v)) (get_listed es q)))

  -- to insert what is there changes nothing
  pub insert_again : CmpEqualImpliesEq R → (m : FinMap R X) (k : K) (v : X) → get m k ≡ Some v → insert m k v ≡ m
  insert_again exact m k v h = same_map total exact _ _ (λ q. get-insert total m k v q ∙ here q (eq_by_cmp R q k) refl)
    where
      here : (q : K) (b : Bool) → eq_by_cmp R q k ≡ b → cond b (Some v) (get m q) ≡ get m q
      here q true e = sym (ap (get m) (tells_apart exact q k e) ∙ h)
      here q false e = refl

pub key_total : IsTotalOrder key_cmp
key_total = then_total (on_total (λ (k : Key). k.from) process_total) (then_total (on_total (λ (k : Key). k.to) process_total) (on_total (λ (k : Key). k.channel) nat_list_cmp_total))

-- keys that compare alike are one
pub exact_keys : CmpEqualImpliesEq key_cmp
exact_keys a b h = ap (λ (k : Pid × (Pid × Name)). record { from = k.0; to = k.1.0; channel = k.1.1 })
    (exact_pairs process_cmp _ exact_processes (exact_pairs process_cmp (slice_cmp nat_cmp) exact_processes exact_bytes) (a.from, (a.to, a.channel)) (b.from, (b.to, b.channel)) h)

same_key : (k : Key) (q : Queue) → eq_by_cmp key_cmp (key_of q) k ≡ same_queue (queue_of k) q
same_key k q = both_ways _ _
    (λ e. ap (λ z. same_queue (queue_of z) q) (sym (tells_apart exact_keys (key_of q) k e)) ∙ queue_laws.refl q)
    (λ e. ap (λ z. eq_by_cmp key_cmp (key_of z) k) (sym (exact_queue (queue_of k) q e)) ∙ (eq_by_cmp_equiv key_total).refl k)

-- to insert a queue is to change the mail at this queue
pub one_queue : (m : Queues) (k : Key) (ms : List Payload) → mail_in (insert m k ms) ≡ changed same_queue (mail_in m) (queue_of k) ms
one_queue m k ms = λ i q.
    (ap or_nil (get-insert key_total m k ms (key_of q) ∙ ap (λ b. cond b (Some ms) (get m (key_of q))) (same_key k q))
    ∙ inside (same_queue (queue_of k) q) (get m (key_of q))) i
  where
    inside : (b : Bool) (o : Option (List Payload)) → or_nil (cond b (Some ms) o) ≡ (if b then ms else or_nil o)
    inside true o = refl
    inside false o = refl

pub same_pid : (p q : Pid) → eq_by_cmp process_cmp q p ≡ same_process p q
same_pid p q = both_ways _ _
    (λ e. ap (same_process p) (tells_apart exact_processes q p e) ∙ process_laws.refl p)
    (λ e. ap (λ z. eq_by_cmp process_cmp z p) (sym (exact_process p q e)) ∙ (eq_by_cmp_equiv process_total).refl p)

-- to insert a code is to change the code of this process
pub one_code : (m : Processes) (p : Pid) (c : Code) → code_in_map (insert m p c) ≡ changed same_process (code_in_map m) p c
one_code m p c = λ i q.
    (ap or_done (get-insert process_total m p c q ∙ ap (λ b. cond b (Some c) (get m q)) (same_pid p q))
    ∙ inside (same_process p q) (get m q)) i
  where
    inside : (b : Bool) (o : Option Code) → or_done (cond b (Some c) o) ≡ (if b then c else or_done o)
    inside true o = refl
    inside false o = refl

-- to insert a code where there is one adds no process
pub keys_stay : (m : Processes) (p : Pid) (c : Code) → IsSome (get m p) → (r : Pid) → is_some (get (insert m p c) r) ≡ is_some (get m r)
keys_stay m p c there r = ap is_some (get-insert process_total m p c r) ∙ at (eq_by_cmp process_cmp r p) refl
  where
    at : (b : Bool) → eq_by_cmp process_cmp r p ≡ b → is_some (cond b (Some c) (get m r)) ≡ is_some (get m r)
    at true e = sym (ap (λ q. is_some (get m q)) (tells_apart exact_processes r p e) ∙ there)
    at false e = refl

pub there_of_head : (o : Option Code) → IsSome (option_and_then head_of o) → IsSome o
there_of_head None h = cc
there_of_head (Some c) h = refl

pub absent_done : (o : Option Code) → is_some o ≡ false → or_done o ≡ done
absent_done None h = refl
absent_done (Some c) h = cc

done_of : (o : Option Code) → IfSome o (λ c. c ≡ done) → or_done o ≡ done
done_of None h = refl
done_of (Some c) h = h

of_done : (o : Option Code) → or_done o ≡ done → IfSome o (λ c. c ≡ done)
of_done None h = tt
of_done (Some c) h = h

-- where all codes are empty, each is
pub each_done : (es : List (Pid × Code)) → All (λ c. c ≡ done) (values_of es) → (p : Pid) → code_in_map (from_entries es) p ≡ done
each_done es h p = ap or_done (get_listed process_total es p) ∙ done_of (lookup (is_at (process_cmp p)) es) (IfSome-lookup_from_All (λ c. c ≡ done) (is_at (process_cmp p)) es h)

-- where each code is empty, all are
pub all_done : (es : List (Pid × Code)) → IsStrictlySortedBy process_cmp (keys_of es) → ((p : Pid) → code_in_map (from_entries es) p ≡ done) → All (λ c. c ≡ done) (values_of es)
all_done es sorted h =
    All-values_from_lookup (eq_by_cmp_equiv process_total) (λ c. c ≡ done) es (IsDistinct-from_sorted process_cmp (keys_of es) sorted)
    (λ p. of_done (lookup (is_at (process_cmp p)) es) (sym (ap or_done (get_listed process_total es p)) ∙ h p))
