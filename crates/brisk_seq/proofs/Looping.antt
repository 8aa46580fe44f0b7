-- Loops of a run in code, turn by turn.
use Rattle.std.proofs.Common.{◌≡◌, ℕ, zero, suc, ◌+◌, ◌-◌, ◌<◌, List, [], ◌∷◌, length, drop, get_or, set, replicate, Bool, true, false, Result, Ok, Err, refl, sym, ap, subst, ◌∙◌, arith, nat_eq}
use Rattle.std.specs.Prelude.{◌||◌, IfErr, if◌then◌else◌}
use Rattle.std.specs.List.{list_any}
use Rattle.std.specs.Result.{IsErrAnd}
use Rattle.std.proofs.lemmas.Bool.{eqb-false, eqb-true}
use Rattle.std.proofs.lemmas.List.{drop_more, get_or-set_other, get_or-set_same}
use Rattle.std.proofs.lemmas.Result.{err_from_is_err_and}
use Rattle.brisk_values.specs.declared.value.Pid.{Pid}
use Rattle.brisk_values.specs.Names.{Name}
use Rattle.brisk_seq.specs.declared.evaluator.Running.{Running}
use Rattle.brisk_seq.specs.declared.fault.SeqFault.{SeqFault}
use Rattle.brisk_seq.specs.declared.tree.Seq.{Seq}
use Rattle.brisk_seq.specs.Items.{Items}
use Rattle.brisk_seq.specs.Running.{Goes, Leads, Marks, Stops, focus_on, run_of}
use Rattle.brisk_seq.specs.Seen.{item_of, items_of}
use Rattle.brisk_seq.specs.Sequential as spec
use Rattle.brisk_seq.specs.Sequential.{Ended, Focus, Given, Run, and_then, choose, do_all, does, for_any, for_each, in_focus, take_turn, while_true}
use Rattle.brisk_seq.proofs.Evaluating.{leads_on, leads_over, stops_last, stops_on}

-- what a `?` passes on
pub told : {T : Type 0} (choices : List ℕ) (old : Running) (action : Run → Ended) (r : Result T SeqFault) (f : SeqFault) → IsErrAnd r (λ g. g ≡ f) → Stops choices old action f → IfErr r (λ g. Stops choices old action g)
told choices old action r f is stops =
    let p = err_from_is_err_and r is in
    subst (λ x. IfErr x (λ g. Stops choices old action g)) (sym p.1) (subst (λ g. Stops choices old action g) (sym p.2) stops)

less_one : (n k : ℕ) → k < n → n - k ≡ suc (n - (k + 1))
less_one n k h = omega arith

-- one turn with the member k
pub each_step : (n k : ℕ) → k < n → (body : ℕ → Run → Ended) (r : Run) → for_each (n - k) k body r ≡ and_then (body k r) (for_each (n - (k + 1)) (k + 1) body)
each_step n k h body r = ap (λ m. for_each m k body r) (less_one n k h)

-- one turn with a chosen member
pub any_step : (n k : ℕ) → k < n → (size : ℕ) (used : List ℕ) (body : ℕ → Run → Ended) (r : Run) →
    for_any (n - k) size used body r ≡ choose size used r r.choices (λ j s. and_then (body j s) (for_any (n - (k + 1)) size (j ∷ used) body))
any_step n k h size used body r = ap (λ m. for_any m size used body r) (less_one n k h)

-- the guard doesn't hold
pub while_ends : (n : ℕ) (guard : Run → Bool) (body : Run → Ended) (r : Run) → guard r ≡ false → while_true n guard body r ≡ Ok r
while_ends zero guard body r e = ap (λ b. if b then Err spec.Turns else Ok r) e
while_ends (suc n) guard body r e = ap (λ b. if b then take_turn r.turns r (λ s. and_then (body s) (while_true n guard body)) else Ok r) e

-- the guard holds, and no turn is left
pub while_stops : (n : ℕ) (guard : Run → Bool) (body : Run → Ended) (r : Run) → guard r ≡ true → r.turns ≡ 0 → while_true n guard body r ≡ Err spec.Turns
while_stops zero guard body r e none = ap (λ b. if b then Err spec.Turns else Ok r) e
while_stops (suc n) guard body r e none =
    ap (λ b. if b then take_turn r.turns r (λ s. and_then (body s) (while_true n guard body)) else Ok r) e
    ∙ ap (λ t. take_turn t r (λ s. and_then (body s) (while_true n guard body))) none

-- the guard holds, and a turn is left
pub while_step : (n k : ℕ) → k < n → (guard : Run → Bool) (body : Run → Ended) (r : Run) (left : ℕ) → guard r ≡ true → r.turns ≡ suc left →
    while_true (n - k) guard body r ≡ and_then (body (record r { turns = left })) (while_true (n - (k + 1)) guard body)
while_step n k h guard body r left e some =
    ap (λ m. while_true m guard body r) (less_one n k h)
    ∙ ap (λ b. if b then take_turn r.turns r (λ s. and_then (body s) (while_true (n - (k + 1)) guard body)) else Ok r) e
    ∙ ap (λ t. take_turn t r (λ s. and_then (body s) (while_true (n - (k + 1)) guard body))) some

-- one item, and then the others
items_step : (given : Given) (who : Focus) (qs : List Seq) (i : ℕ) (q : Seq) → i < length qs → q ≡ get_or qs i q → (r : Run) →
    do_all given (items_of (drop i qs)) who r ≡ and_then (does given (item_of q) who r) (do_all given (items_of (drop (i + 1) qs)) who)
items_step given who qs i q h e r =
    ap (λ ps. do_all given (items_of ps) who r) (drop_more qs i q h ∙ ap (λ p. p ∷ drop (i + 1) qs) (sym e))

module _ (choices : List ℕ) (given : Given) (old now : Running) (ps fs : List Pid) (same : fs ≡ ps) where
  pub items_stop : (b : Items) (qs : List Seq) (i : ℕ) (q : Seq) → i < length qs → q ≡ get_or qs i q → (f : SeqFault) →
      Leads choices old now (do_all given b (focus_on ps)) (do_all given (items_of (drop i qs)) (focus_on ps)) → Stops choices now (does given (item_of q) (focus_on fs)) f →
      Stops choices old (do_all given b (focus_on ps)) f
  items_stop b qs i q h e f leads stops =
      stops_on choices old now (do_all given b (focus_on ps)) (do_all given (items_of (drop i qs)) (focus_on ps)) (does given (item_of q) (focus_on ps)) (do_all given (items_of (drop (i + 1) qs)) (focus_on ps)) f leads
      (subst (λ (xs : List Pid). Stops choices now (does given (item_of q) (focus_on xs)) f) same stops) (λ n. items_step given (focus_on ps) qs i q h e (run_of choices n now))

  pub items_go : (next : Running) (b : Items) (qs : List Seq) (i : ℕ) (q : Seq) → i < length qs → q ≡ get_or qs i q →
      Leads choices old now (do_all given b (focus_on ps)) (do_all given (items_of (drop i qs)) (focus_on ps)) → Goes choices now next (does given (item_of q) (focus_on fs)) →
      Leads choices old next (do_all given b (focus_on ps)) (do_all given (items_of (drop (i + 1) qs)) (focus_on ps))
  items_go next b qs i q h e leads goes =
      leads_on choices old now next (do_all given b (focus_on ps)) (do_all given (items_of (drop i qs)) (focus_on ps)) (does given (item_of q) (focus_on ps)) (do_all given (items_of (drop (i + 1) qs)) (focus_on ps)) leads
      (subst (λ (xs : List Pid). Goes choices now next (does given (item_of q) (focus_on xs))) same goes) (λ n. items_step given (focus_on ps) qs i q h e (run_of choices n now))

  -- a turn of `for`
  pub member_stops : (size k : ℕ) (s : Name) (b : Items) → k < size → (f : SeqFault) →
      Leads choices old now (for_each size 0 (λ j t. do_all given b (in_focus s j (focus_on ps)) t)) (for_each (size - k) k (λ j t. do_all given b (in_focus s j (focus_on ps)) t)) →
      Stops choices now (do_all given b (in_focus s k (focus_on fs))) f → Stops choices old (for_each size 0 (λ j t. do_all given b (in_focus s j (focus_on ps)) t)) f
  member_stops size k s b h f leads stops =
      let act : ℕ → Run → Ended = λ j t. do_all given b (in_focus s j (focus_on ps)) t in
      stops_on choices old now (for_each size 0 act) (for_each (size - k) k act) (act k) (for_each (size - (k + 1)) (k + 1) act) f leads
      (subst (λ (xs : List Pid). Stops choices now (do_all given b (in_focus s k (focus_on xs))) f) same stops) (λ n. each_step size k h act (run_of choices n now))

  pub member_goes : (next : Running) (size k : ℕ) (s : Name) (b : Items) → k < size →
      Leads choices old now (for_each size 0 (λ j t. do_all given b (in_focus s j (focus_on ps)) t)) (for_each (size - k) k (λ j t. do_all given b (in_focus s j (focus_on ps)) t)) →
      Goes choices now next (do_all given b (in_focus s k (focus_on fs))) →
      Leads choices old next (for_each size 0 (λ j t. do_all given b (in_focus s j (focus_on ps)) t)) (for_each (size - (k + 1)) (k + 1) (λ j t. do_all given b (in_focus s j (focus_on ps)) t))
  member_goes next size k s b h leads goes =
      let act : ℕ → Run → Ended = λ j t. do_all given b (in_focus s j (focus_on ps)) t in
      leads_on choices old now next (for_each size 0 act) (for_each (size - k) k act) (act k) (for_each (size - (k + 1)) (k + 1) act) leads
      (subst (λ (xs : List Pid). Goes choices now next (do_all given b (in_focus s k (focus_on xs)))) same goes) (λ n. each_step size k h act (run_of choices n now))

  -- a turn of `repeat`
  pub turn_stops : (size k : ℕ) (b : Items) → k < size → (f : SeqFault) →
      Leads choices old now (for_each size 0 (λ j t. do_all given b (focus_on ps) t)) (for_each (size - k) k (λ j t. do_all given b (focus_on ps) t)) →
      Stops choices now (do_all given b (focus_on fs)) f → Stops choices old (for_each size 0 (λ j t. do_all given b (focus_on ps) t)) f
  turn_stops size k b h f leads stops =
      let act : ℕ → Run → Ended = λ j t. do_all given b (focus_on ps) t in
      stops_on choices old now (for_each size 0 act) (for_each (size - k) k act) (act k) (for_each (size - (k + 1)) (k + 1) act) f leads
      (subst (λ (xs : List Pid). Stops choices now (do_all given b (focus_on xs)) f) same stops) (λ n. each_step size k h act (run_of choices n now))

  pub turn_goes : (next : Running) (size k : ℕ) (b : Items) → k < size →
      Leads choices old now (for_each size 0 (λ j t. do_all given b (focus_on ps) t)) (for_each (size - k) k (λ j t. do_all given b (focus_on ps) t)) →
      Goes choices now next (do_all given b (focus_on fs)) →
      Leads choices old next (for_each size 0 (λ j t. do_all given b (focus_on ps) t)) (for_each (size - (k + 1)) (k + 1) (λ j t. do_all given b (focus_on ps) t))
  turn_goes next size k b h leads goes =
      let act : ℕ → Run → Ended = λ j t. do_all given b (focus_on ps) t in
      leads_on choices old now next (for_each size 0 act) (for_each (size - k) k act) (act k) (for_each (size - (k + 1)) (k + 1) act) leads
      (subst (λ (xs : List Pid). Goes choices now next (do_all given b (focus_on xs))) same goes) (λ n. each_step size k h act (run_of choices n now))

  -- a turn of `while`, where one is left
  pub while_turn_stops : (size k left : ℕ) (b : Items) (guard : Run → Bool) → k < size → ((n : ℕ) → guard (run_of choices n now) ≡ true) → now.turns ≡ suc left → (f : SeqFault) →
      Leads choices old now (while_true size guard (λ t. do_all given b (focus_on ps) t)) (while_true (size - k) guard (λ t. do_all given b (focus_on ps) t)) →
      Stops choices (record now { turns = left }) (do_all given b (focus_on fs)) f → Stops choices old (while_true size guard (λ t. do_all given b (focus_on ps) t)) f
  while_turn_stops size k left b guard h holds some f leads stops =
      let act : Run → Ended = λ t. do_all given b (focus_on ps) t in
      stops_on choices old now (while_true size guard act) (while_true (size - k) guard act) (λ r. act (record r { turns = left })) (while_true (size - (k + 1)) guard act) f leads
      (λ n m. subst (λ (xs : List Pid). Stops choices (record now { turns = left }) (do_all given b (focus_on xs)) f) same stops n (record { moves = m.moves; asked = m.asked }))
      (λ n. while_step size k h guard act (run_of choices n now) left (holds n) some)

  pub while_turn_goes : (next : Running) (size k left : ℕ) (b : Items) (guard : Run → Bool) → k < size → ((n : ℕ) → guard (run_of choices n now) ≡ true) → now.turns ≡ suc left →
      Leads choices old now (while_true size guard (λ t. do_all given b (focus_on ps) t)) (while_true (size - k) guard (λ t. do_all given b (focus_on ps) t)) →
      Goes choices (record now { turns = left }) next (do_all given b (focus_on fs)) →
      Leads choices old next (while_true size guard (λ t. do_all given b (focus_on ps) t)) (while_true (size - (k + 1)) guard (λ t. do_all given b (focus_on ps) t))
  while_turn_goes next size k left b guard h holds some leads goes =
      let act : Run → Ended = λ t. do_all given b (focus_on ps) t in
      leads_on choices old now next (while_true size guard act) (while_true (size - k) guard act) (λ r. act (record r { turns = left })) (while_true (size - (k + 1)) guard act) leads
      (λ n m. subst (λ (xs : List Pid). Goes choices (record now { turns = left }) next (do_all given b (focus_on xs))) same goes n (record { moves = m.moves; asked = m.asked }))
      (λ n. while_step size k h guard act (run_of choices n now) left (holds n) some)

  -- what follows the choice of a member in a turn of `for any`
  abbrev pub after_choice : ℕ → ℕ → List ℕ → Name → Items → ℕ → Run → Ended
  after_choice size k us s b j r = and_then (do_all given b (in_focus s j (focus_on ps)) r) (for_any (size - (k + 1)) size (j ∷ us) (λ i t. do_all given b (in_focus s i (focus_on ps)) t))

  abbrev pub any_from : ℕ → ℕ → List ℕ → Name → Items → Run → Ended
  any_from n size us s b = for_any n size us (λ i t. do_all given b (in_focus s i (focus_on ps)) t)

  pub choice_stops : (size k : ℕ) (us : List ℕ) (s : Name) (b : Items) → k < size → (f : SeqFault) →
      Leads choices old now (any_from size size [] s b) (any_from (size - k) size us s b) →
      Stops choices now (λ r. choose size us r r.choices (after_choice size k us s b)) f → Stops choices old (any_from size size [] s b) f
  choice_stops size k us s b h f leads stops =
      stops_last choices old now (any_from size size [] s b) (λ r. choose size us r r.choices (after_choice size k us s b)) f
      (λ n m. let l = leads n m in (l.0, l.1, l.2 ∙ any_step size k h size us (λ i t. do_all given b (in_focus s i (focus_on ps)) t) (run_of choices l.0 now))) stops

  pub choice_goes : (size k : ℕ) (us : List ℕ) (s : Name) (b : Items) → k < size → (next : Running) (j : ℕ) →
      Leads choices old now (any_from size size [] s b) (any_from (size - k) size us s b) →
      Leads choices now next (λ r. choose size us r r.choices (after_choice size k us s b)) (after_choice size k us s b j) →
      Leads choices old next (any_from size size [] s b) (after_choice size k us s b j)
  choice_goes size k us s b h next j leads goes =
      leads_over choices old now next (any_from size size [] s b) (λ r. choose size us r r.choices (after_choice size k us s b)) (after_choice size k us s b j)
      (λ n m. let l = leads n m in (l.0, l.1, l.2 ∙ any_step size k h size us (λ i t. do_all given b (in_focus s i (focus_on ps)) t) (run_of choices l.0 now))) goes

  pub chosen_stops : (size k : ℕ) (us : List ℕ) (s : Name) (b : Items) (j : ℕ) (f : SeqFault) →
      Leads choices old now (any_from size size [] s b) (after_choice size k us s b j) →
      Stops choices now (do_all given b (in_focus s j (focus_on fs))) f → Stops choices old (any_from size size [] s b) f
  chosen_stops size k us s b j f leads stops =
      stops_on choices old now (any_from size size [] s b) (after_choice size k us s b j) (do_all given b (in_focus s j (focus_on ps))) (any_from (size - (k + 1)) size (j ∷ us) s b) f leads
      (subst (λ (xs : List Pid). Stops choices now (do_all given b (in_focus s j (focus_on xs))) f) same stops) (λ n. refl)

  pub chosen_goes : (next : Running) (size k : ℕ) (us : List ℕ) (s : Name) (b : Items) (j : ℕ) →
      Leads choices old now (any_from size size [] s b) (after_choice size k us s b j) →
      Goes choices now next (do_all given b (in_focus s j (focus_on fs))) → Leads choices old next (any_from size size [] s b) (any_from (size - (k + 1)) size (j ∷ us) s b)
  chosen_goes next size k us s b j leads goes =
      leads_on choices old now next (any_from size size [] s b) (after_choice size k us s b j) (do_all given b (in_focus s j (focus_on ps))) (any_from (size - (k + 1)) size (j ∷ us) s b) leads
      (subst (λ (xs : List Pid). Goes choices now next (do_all given b (in_focus s j (focus_on xs)))) same goes) (λ n. refl)

-- no member is marked
pub marks_none : (n : ℕ) → Marks (replicate n false) []
marks_none zero k = refl
marks_none (suc n) zero = refl
marks_none (suc n) (suc k) = marks_none n k

-- one more member is marked
pub marks_more : (marks : List Bool) (us : List ℕ) (j : ℕ) → j < length marks → Marks marks us → Marks (set marks j true) (j ∷ us)
marks_more marks us j h is k =
    elim (nat_eq k j) as (λ b. nat_eq k j ≡ b → get_or (set marks j true) k false ≡ (b || list_any (nat_eq k) us)) [
      | true ↦ λ e. ap (λ i. get_or (set marks j true) i false) (eqb-true k j e) ∙ get_or-set_same marks j true false h
      | false ↦ λ e. get_or-set_other marks j k true false (eqb-false k j e) ∙ is k
    ] refl
