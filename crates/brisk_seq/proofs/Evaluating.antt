-- Runs in code and the definition's runs.
use Rattle.std.proofs.Common.{◌≡◌, ℕ, List, [], ◌∷◌, ◌++◌, Result, Ok, Err, refl, sym, ap, subst, ◌∙◌}
use Rattle.std.specs.Prelude.{IfErr, IfOk, OnOk, if◌then◌else◌}
use Rattle.brisk_values.specs.declared.value.Pid.{Pid}
use Rattle.brisk_values.specs.Names.{Name, member, same_name, single}
use Rattle.brisk_seq.specs.declared.fault.SeqFault.{SeqFault}
use Rattle.brisk_seq.specs.declared.fault.SeqFault.TheVariants as fault
use Rattle.brisk_seq.specs.declared.evaluator.Running.{Running}
use Rattle.brisk_seq.specs.Running.{chosen_or, focus_on, run_of, Tells, Goes, Stops, Leads}
use Rattle.brisk_seq.specs.Sequential.{Ended, Run, Stop, and_then, in_focus}

chosen-append : (p : Pid) (ps : List Pid) (q : Pid) (n : Name) → chosen_or p (ps ++ q ∷ []) n ≡ (if same_name q.role n then q else chosen_or p ps n)
chosen-append p [] q n = refl
chosen-append p (r ∷ ps) q n = chosen-append (if same_name r.role n then r else p) ps q n

-- one more member is in focus
pub focus_more : (ps : List Pid) (s : Name) (k : ℕ) → focus_on (ps ++ member s k ∷ []) ≡ in_focus s k (focus_on ps)
focus_more ps s k = λ i n. chosen-append (single n) ps (member s k) n i

-- what stopped the run stops what would follow
pub tells_then : (e : Ended) (go : Run → Ended) (f : SeqFault) → Tells e f → Tells (and_then e go) f
tells_then e go fault.NoMemory t = t
tells_then e go (fault.BadChoice k) t = ap (λ d. and_then d go) t
tells_then e go fault.ChoicesLeft t = ap (λ d. and_then d go) t
tells_then e go fault.Turns t = ap (λ d. and_then d go) t
tells_then e go (fault.BadBox k) t = (t.0, t.1, ap (λ d. and_then d go) t.2)
tells_then e go fault.BadInstance t = absurd t
tells_then e go fault.TooLarge t = absurd t

pub tells_by : {X : Type 0} (d e : Result X Stop) (f : SeqFault) → d ≡ e → Tells e f → Tells d f
tells_by {X = X} d e f same t = subst (λ (x : Result X Stop). Tells x f) (sym same) t

module _ (choices : List ℕ) where
  pub leads_self : (a : Running) (action : Run → Ended) → Leads choices a a action action
  leads_self a action = λ n h. (n, h, refl)

  pub leads_by : (a b : Running) (action rest other : Run → Ended) → Leads choices a b action rest → ((n : ℕ) → rest (run_of choices n b) ≡ other (run_of choices n b)) → Leads choices a b action other
  leads_by a b action rest other leads same = λ n h. let l = leads n h in (l.0, l.1, l.2 ∙ same l.0)

  -- an action, and then the next
  pub leads_on : (a b c : Running) (action rest act other : Run → Ended) → Leads choices a b action rest → Goes choices b c act → ((n : ℕ) → rest (run_of choices n b) ≡ and_then (act (run_of choices n b)) other) → Leads choices a c action other
  leads_on a b c action rest act other leads goes same = λ n h.
      let l = leads n h in let g = goes l.0 l.1 in
      (g.0, g.1, l.2 ∙ same l.0 ∙ ap (λ e. and_then e other) g.2)

  -- from one run to the next, and from there on
  pub leads_over : (a b c : Running) (action rest other : Run → Ended) → Leads choices a b action rest → Leads choices b c rest other → Leads choices a c action other
  leads_over a b c action rest other first second = λ n h.
      let l = first n h in let g = second l.0 l.1 in (g.0, g.1, l.2 ∙ g.2)

  pub goes_end : (a b : Running) (action rest : Run → Ended) → Leads choices a b action rest → ((n : ℕ) → rest (run_of choices n b) ≡ Ok (run_of choices n b)) → Goes choices a b action
  goes_end a b action rest leads same = λ n h. let l = leads n h in (l.0, l.1, l.2 ∙ same l.0)

  pub goes_last : (a b c : Running) (action rest : Run → Ended) → Leads choices a b action rest → Goes choices b c rest → Goes choices a c action
  goes_last a b c action rest leads goes = λ n h.
      let l = leads n h in let g = goes l.0 l.1 in (g.0, g.1, l.2 ∙ g.2)

  pub goes_by : (a b : Running) (action other : Run → Ended) → ((n : ℕ) → action (run_of choices n a) ≡ other (run_of choices n a)) → Goes choices a b other → Goes choices a b action
  goes_by a b action other same goes = λ n h. let g = goes n h in (g.0, g.1, same n ∙ g.2)

  pub stops_by : (a : Running) (action other : Run → Ended) → ((n : ℕ) → action (run_of choices n a) ≡ other (run_of choices n a)) → (f : SeqFault) → Stops choices a other f → Stops choices a action f
  stops_by a action other same f stops = λ n h. tells_by _ _ f (same n) (stops n h)

  pub stops_last : (a b : Running) (action rest : Run → Ended) (f : SeqFault) → Leads choices a b action rest → Stops choices b rest f → Stops choices a action f
  stops_last a b action rest f leads stops = λ n h. let l = leads n h in tells_by _ _ f l.2 (stops l.0 l.1)

  pub stops_on : (a b : Running) (action rest act other : Run → Ended) (f : SeqFault) → Leads choices a b action rest → Stops choices b act f → ((n : ℕ) → rest (run_of choices n b) ≡ and_then (act (run_of choices n b)) other) → Stops choices a action f
  stops_on a b action rest act other f leads stops same = λ n h.
      let l = leads n h in
      tells_by _ _ f (l.2 ∙ same l.0) (tells_then (act (run_of choices l.0 b)) other f (stops l.0 l.1))

pub on_ok : {A E : Type 0} (r : Result A E) (P Q : Type 0) → (P → Q) → OnOk r P → OnOk r Q
on_ok (Ok x) P Q f h = f h
on_ok (Err e) P Q f h = h

pub if_err : {A E : Type 0} (r : Result A E) (P Q : E → Type 0) → ((e : E) → P e → Q e) → IfErr r P → IfErr r Q
if_err (Ok x) P Q f h = h
if_err (Err e) P Q f h = f e h

pub if_ok : {A E : Type 0} (r : Result A E) (P Q : A → Type 0) → ((x : A) → P x → Q x) → IfOk r P → IfOk r Q
if_ok (Ok x) P Q f h = f x h
if_ok (Err e) P Q f h = h
