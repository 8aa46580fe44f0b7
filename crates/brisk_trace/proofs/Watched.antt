-- A run that is watched: how the processes stand tells whether the next event overtakes.
use Rattle.std.proofs.Common.{◌≡◌, ◌≢◌, ℕ, true, false, List, [], ◌∷◌, ◌++◌, Some, inl, inr, refl, sym, ap, ◌∙◌, subst}
use Rattle.std.specs.Prelude.{option_map}
use Rattle.std.specs.List.{AllByRecursion, list_all}
use Rattle.std.proofs.lemmas.List.{append_assoc}
use Rattle.std.proofs.lemmas.Option.{same_Some}
use Rattle.brisk_values.specs.declared.value.Pid.{Pid}
use Rattle.brisk_values.specs.Functions.{changed}
use Rattle.brisk_values.specs.Names.{same_process}
use Rattle.brisk_values.proofs.Changes.{both_true, changed-other, changed-same, changed_cases, exact_process, process_laws}
use Rattle.brisk_syntax.specs.declared.program.Program.{Program}
use Rattle.brisk_syntax.specs.Declarations.{code_in}
use Rattle.brisk_syntax.specs.Instance.{Instance}
use Rattle.brisk_syntax.specs.Roles.{RoleText}
use Rattle.brisk_syntax.specs.Syntax.{Code}
use Rattle.brisk_syntax.specs.WellTyped.{all_unbegun, is_program_unbegun}
use Rattle.brisk_values.specs.declared.instance.Instance.{Instance as Given}
use Rattle.brisk_instance.specs.Given.{instance_of}
use Rattle.brisk_instance.specs.Ordered.{Pairwise}
use Rattle.brisk_async.specs.declared.event.Event.{Event}
use Rattle.brisk_async.specs.Machine.{Effect, State, after, effect_in, run, seen_by, start, step}
use Rattle.brisk_async.specs.PlainRuns.{Overtakes, at_receive, at_turn, code_after, plain_from, plain_instance, plain_order}
use Rattle.brisk_async.proofs.Members.{role_cases}
use Rattle.brisk_async.proofs.Runs.{mapped}
use Rattle.brisk_trace.specs.declared.standing.Standing.{Standing}
use Rattle.brisk_trace.specs.Plain.{IsCut, IsPlain}
use Rattle.brisk_trace.specs.Standings.{followed, takes_again}
use Rattle.brisk_trace.specs.Watches.{at_start}
use Rattle.brisk_trace.proofs.Follows.{Follows, IsTold, again_taken, follows_other, follows_own, taken_again}
use Rattle.brisk_trace.proofs.Histories.{Overtaken, code_at, last_apart, last_taken, not_overtaken, overtaken_last, overtaken_longer}
use Rattle.brisk_trace.proofs.Nexts.{run_more}
use Rattle.brisk_trace.proofs.Steady.{all_steady_of, deep_of, open_none}

module _ (s : State) where
  -- the events lead to the state, each process stands as it is told, and no event so far overtakes
  pub record Watched (es : List Event) (t : State) (standings : Pid → Standing) : Type 0 where
    pub runs : run s es ≡ Some t
    pub each : (p : Pid) → Follows s es p (t.code p) (standings p)
    pub none : Overtaken s es → ⊥

  -- at the start no turn is begun
  pub watched_start : ((p : Pid) → all_unbegun (s.code p) ≡ true) → Watched [] s (λ p. at_start)
  watched_start unbegun = record {
    runs = refl;
    each = λ p. record {
      steady = all_steady_of (s.code p) (unbegun p);
      stands = deep_of (s.code p) (unbegun p);
      taken = subst (λ gs. Pairwise (IsTold s [] p) gs []) (sym (open_none (s.code p) (unbegun p))) tt;
    };
    none = not_overtaken s;
  }

  module _ (es : List Event) (t u : State) (standings : Pid → Standing) (e : Event) (h : Watched es t standings) (next : step t e ≡ Some u) where
    does : (x : Effect) × (effect_in t e ≡ Some x) × (after t e.process x ≡ u)
    does = mapped (after t e.process) (effect_in t e) u next

    own_code : u.code e.process ≡ does.0.next
    own_code = ap (λ (z : State). z.code e.process) (sym does.2) ∙ changed-same process_laws t.code e.process does.0.next

    other_code : (q : Pid) → same_process e.process q ≡ false → u.code q ≡ t.code q
    other_code q apart = ap (λ (z : State). z.code q) (sym does.2) ∙ changed-other process_laws t.code e.process does.0.next q apart

    before : (q : Pid) → code_at s es q ≡ Some (t.code q)
    before q = ap (option_map (λ (z : State). z.code q)) h.runs

    pub runs_on : run s (es ++ e ∷ []) ≡ Some u
    runs_on = run_more s t u es e h.runs next

    behind : (q : Pid) → code_at s (es ++ e ∷ []) q ≡ Some (u.code q)
    behind q = ap (option_map (λ (z : State). z.code q)) runs_on

    own : Follows s (es ++ e ∷ []) e.process (u.code e.process) (followed t.sizes (t.code e.process) e.sender (standings e.process))
    own = follows_own s es e (t.code e.process) (u.code e.process) (before e.process) (behind e.process) (seen_by t e.process) does.0 (standings e.process) does.1 own_code (h.each e.process)

    others : (q : Pid) → same_process e.process q ≡ false → Follows s (es ++ e ∷ []) q (u.code q) (standings q)
    others q apart =
        subst (λ (c : Code). Follows s (es ++ e ∷ []) q c (standings q)) (sym (other_code q apart))
        (follows_other s es e q (t.code q) (standings q) (behind q ∙ ap Some (other_code q apart)) (λ same. unlike (ap (same_process e.process) same)) (h.each q))
      where
        unlike : same_process e.process e.process ≡ same_process e.process q → ⊥
        unlike same = let here = process_laws.refl e.process in cc

    -- the event doesn't overtake, and the watch goes on
    pub watched_next : takes_again e.sender (standings e.process) ≡ false → Watched (es ++ e ∷ []) u (changed same_process standings e.process (followed t.sizes (t.code e.process) e.sender (standings e.process)))
    watched_next first = record {
      runs = runs_on;
      each = λ q. changed_cases same_process standings e.process (followed t.sizes (t.code e.process) e.sender (standings e.process)) q (λ st. Follows s (es ++ e ∷ []) q (u.code q) st)
          (λ same. subst (λ (z : Pid). Follows s (es ++ e ∷ []) z (u.code z) (followed t.sizes (t.code e.process) e.sender (standings e.process))) (exact_process e.process q same) own)
          (others q);
      none = λ over. elim (overtaken_last s es e over) [
        | inl old ↦ h.none old
        | inr now ↦
            let at = same_Some (t.code e.process) (at_receive now.0 now.2.0) (sym (before e.process) ∙ now.2.1) in
            let again = taken_again s (seen_by t e.process) does.0 e.place es e.process (t.code e.process) (standings e.process) e.sender now.0 now.2.0 does.1 at now.1 (h.each e.process) in cc
      ];
    }

    -- the event overtakes
    pub overtakes_now : takes_again e.sender (standings e.process) ≡ true → Overtaken s (es ++ e ∷ [])
    overtakes_now again =
        let taken = again_taken s es e.process (t.code e.process) (standings e.process) e.sender again (h.each e.process) in
        last_taken s es e taken.0 taken.3 (taken.1, before e.process ∙ ap Some taken.2)

-- every process of a program whose loops are at turn 0 starts so
pub unbegun_start : (P : Program) (i : Instance) → is_program_unbegun P ≡ true → (p : Pid) → all_unbegun ((start P i).code p) ≡ true
unbegun_start P i unbegun p = role_cases i p (λ r. all_unbegun r.code ≡ true) (λ o. all_unbegun (code_in o) ≡ true) P.roles refl (each P.roles unbegun) (λ r h _ _. h)
  where
    each : (roles : List RoleText) → list_all (λ r. all_unbegun r.code) roles ≡ true → AllByRecursion (λ r. all_unbegun r.code ≡ true) roles
    each [] h = tt
    each (r ∷ rs) h = let e = both_true (all_unbegun r.code) (list_all (λ r. all_unbegun r.code) rs) h in (e.0, each rs e.1)

module _ (P : Program) (i : Instance) where
  -- the two ways to say that a schedule overtakes
  pub to_overtakes : (es : List Event) (t : State) → run (start P i) es ≡ Some t → Overtaken (start P i) es → Overtakes P i es
  to_overtakes es t runs h = record {
    end = t;
    runs = runs;
    gather = h.gather;
    first = h.taken.first;
    second = h.second;
    same_process = sym h.taken.process;
    same_sender = sym h.taken.sender;
    before = h.taken.before;
    between = h.taken.between;
    later = h.later;
    parts = h.parts ∙ ap (λ z. z ++ h.second ∷ h.later) h.taken.parts ∙ append_assoc h.taken.before (h.taken.first ∷ h.taken.between) (h.second ∷ h.later);
    stands = subst (λ (p : Pid). (k : ℕ) × (code_after P i h.taken.before p ≡ Some (at_receive h.gather k))) (sym h.taken.process) h.taken.stands;
    stands_again = subst (λ (p : Pid). (k : ℕ) × (code_after P i (h.taken.before ++ h.taken.first ∷ h.taken.between) p ≡ Some (at_receive h.gather k))) (sym h.taken.process)
        (subst (λ (z : List Event). (k : ℕ) × (code_after P i z h.second.process ≡ Some (at_receive h.gather k))) h.taken.parts h.stands);
    one_run = subst (λ (p : Pid). (xs ys : List Event) → h.taken.between ≡ xs ++ ys → code_after P i (h.taken.before ++ h.taken.first ∷ xs) p ≢ Some (at_turn h.gather 0)) (sym h.taken.process) h.taken.one_run;
  }

  pub from_overtakes : (es : List Event) → Overtakes P i es → Overtaken (start P i) es
  from_overtakes es h = record {
    so_far = h.before ++ h.first ∷ h.between;
    second = h.second;
    later = h.later;
    gather = h.gather;
    parts = h.parts ∙ sym (append_assoc h.before (h.first ∷ h.between) (h.second ∷ h.later));
    taken = record {
      before = h.before;
      first = h.first;
      between = h.between;
      parts = refl;
      process = sym h.same_process;
      sender = sym h.same_sender;
      stands = subst (λ (p : Pid). (k : ℕ) × (code_after P i h.before p ≡ Some (at_receive h.gather k))) (sym h.same_process) h.stands;
      one_run = subst (λ (p : Pid). (xs ys : List Event) → h.between ≡ xs ++ ys → code_after P i (h.before ++ h.first ∷ xs) p ≢ Some (at_turn h.gather 0)) (sym h.same_process) h.one_run;
    };
    stands = subst (λ (p : Pid). (k : ℕ) × (code_after P i (h.before ++ h.first ∷ h.between) p ≡ Some (at_receive h.gather k))) (sym h.same_process) h.stands_again;
  }

  -- the schedule that ends with the first event that overtakes
  pub is_cut : (whole es later : List Event) (e : Event) (t : State) → whole ≡ (es ++ e ∷ []) ++ later → run (start P i) (es ++ e ∷ []) ≡ Some t → (Overtaken (start P i) es → ⊥) → Overtaken (start P i) (es ++ e ∷ []) → IsCut P i whole (es ++ e ∷ [])
  is_cut whole es later e t parts runs none over = record {
    front = (later, parts);
    overtakes = to_overtakes (es ++ e ∷ []) t runs over;
    earliest = λ xs ys both early. elim (last_apart es xs ys e both) [
      | inl w ↦ w.0
      | inr w ↦ absurd (none (subst (Overtaken (start P i)) (sym w.1) (overtaken_longer (start P i) xs w.0 (from_overtakes xs early))))
    ];
  }

-- instances that start alike overtake alike
pub same_overtakes : (P : Program) (i j : Instance) → start P i ≡ start P j → (es : List Event) → Overtakes P i es → Overtakes P j es
same_overtakes P i j same es h = to_overtakes P j es h.end (ap (λ z. run z es) (sym same) ∙ h.runs) (subst (λ (z : State). Overtaken z es) same (from_overtakes P i es h))

-- a watch at the start of an instance
pub watched_from : (P : Program) (i : Instance) (es : List Event) (t : State) (standings : Pid → Standing) → is_program_unbegun P ≡ true → es ≡ [] → t ≡ start P i → standings ≡ (λ p. at_start) → Watched (start P i) es t standings
watched_from P i es t standings unbegun empty first fresh =
    subst (λ (z : List Event). Watched (start P i) z t standings) (sym empty)
    (subst (λ (z : State). Watched (start P i) [] z standings) (sym first)
    (subst (λ (z : Pid → Standing). Watched (start P i) [] (start P i) z) (sym fresh) (watched_start (start P i) (unbegun_start P i unbegun))))

module _ (P : Program) (k n : ℕ) (g : Given) (order : List Pid) (plain : IsPlain P k g) (ordered : order ≡ plain_order P k) where
  whole_is : plain_from n order (start P (instance_of g)) ≡ plain_from n (plain_order P k) (start P (plain_instance P k))
  whole_is = λ i. plain_from n (ordered i) (plain.starts i)

  -- the plain run doesn't overtake, where that of the instance that is made doesn't
  pub not_overtaking : ¬ Overtakes P (instance_of g) (plain_from n order (start P (instance_of g))) → ¬ Overtakes P (plain_instance P k) (plain_from n (plain_order P k) (start P (plain_instance P k)))
  not_overtaking none over =
      none (subst (Overtakes P (instance_of g)) (sym whole_is) (same_overtakes P (plain_instance P k) (instance_of g) (sym plain.starts) (plain_from n (plain_order P k) (start P (plain_instance P k))) over))

  -- what is cut from the run of the instance that is made is cut from the plain run
  pub cut_plain : (es : List Event) → IsCut P (instance_of g) (plain_from n order (start P (instance_of g))) es → IsCut P (instance_of g) (plain_from n (plain_order P k) (start P (plain_instance P k))) es
  cut_plain es cut = subst (λ (w : List Event). IsCut P (instance_of g) w es) whole_is cut
