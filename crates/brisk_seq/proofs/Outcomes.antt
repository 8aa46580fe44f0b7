-- From the runs in code to the outcome of a program.
use Rattle.std.proofs.Common.{◌≡◌, ℕ, zero, suc, ◌<◌, ◌≤◌, true, List, [], ◌∷◌, ◌++◌, length, drop, map, None, Ok, Err, refl, sym, ap, ◌∙◌, arith}
use Rattle.std.specs.Prelude.{not}
use Rattle.std.specs.FinMap as finite
use Rattle.std.specs.List.{AllByRecursion}
use Rattle.brisk_values.specs.declared.instance.Instance.{Instance}
use Rattle.brisk_values.specs.declared.value.Pid.{Pid}
use Rattle.brisk_values.specs.Names.{Name, single}
use Rattle.brisk_values.specs.Places.{Entries, value_in}
use Rattle.brisk_values.proofs.Changes.{both_true}
use Rattle.brisk_syntax.specs.Declarations.{decls_of, kind_in, role_named, variable_of}
use Rattle.brisk_syntax.specs.Instance.{start_store}
use Rattle.brisk_syntax.specs.Roles.{RoleText}
use Rattle.brisk_syntax.specs.Typing.{AreDeclsWellTyped, are_distinct, is_among}
use Rattle.brisk_syntax.specs.Value.{size_in}
use Rattle.brisk_instance.specs.declared.fault.StartFault.{StartFault}
use Rattle.brisk_instance.specs.declared.fault.StartFault.TheVariants as start
use Rattle.brisk_instance.specs.Starting.{IsCause}
use Rattle.brisk_instance.specs.Given.{AreApart, FitsAsGiven, instance_of}
use Rattle.brisk_instance.proofs.Started.{started_sizes}
use Rattle.brisk_seq.specs.declared.evaluator.Running.{Running}
use Rattle.brisk_seq.specs.declared.fault.SeqFault.{SeqFault}
use Rattle.brisk_seq.specs.declared.fault.SeqFault.TheVariants as fault
use Rattle.brisk_seq.specs.declared.tree.SeqProgram.{SeqProgram}
use Rattle.brisk_seq.specs.Answers.{CanStart, Causes, fault_of}
use Rattle.brisk_seq.specs.Cells.{Full, box_in, cell_cmp}
use Rattle.brisk_seq.specs.Items.{Items}
use Rattle.brisk_seq.specs.Running.{Goes, HasMade, Stops, Tells, outcome, run_of}
use Rattle.brisk_seq.specs.Sequential as spec
use Rattle.brisk_seq.specs.Sequential.{Ended, Given, Run, do_all, ended, halted_with, seq}
use Rattle.brisk_seq.specs.WellTyped.{IsSeqWellTyped, globals}
use Rattle.brisk_seq.proofs.Evaluating.{tells_by}
use Rattle.brisk_syntax.proofs.Codes.{distinct_later}

some_left : (r : Run) (xs : List ℕ) (n : ℕ) → n < length xs → halted_with r (drop n xs) ≡ Err spec.ChoicesLeft
some_left r [] n h = absurd (omega arith)
some_left r (x ∷ xs) zero h = refl
some_left r (x ∷ xs) (suc n) h = some_left r xs n (omega arith)

none_left : (r : Run) (xs : List ℕ) (n : ℕ) → length xs ≤ n → halted_with r (drop n xs) ≡ Ok r.store
none_left r [] zero h = refl
none_left r [] (suc n) h = refl
none_left r (x ∷ xs) zero h = absurd (omega arith)
none_left r (x ∷ xs) (suc n) h = none_left r xs n (omega arith)

tells_ended : (e : Ended) (f : SeqFault) → Tells e f → Tells (ended e) f
tells_ended e fault.NoMemory t = t
tells_ended e (fault.BadChoice k) t = ap ended t
tells_ended e fault.ChoicesLeft t = ap ended t
tells_ended e fault.Turns t = ap ended t
tells_ended e (fault.BadBox k) t = (t.0, t.1, ap ended t.2)
tells_ended e fault.BadInstance t = absurd t
tells_ended e fault.TooLarge t = absurd t

module _ (choices : List ℕ) (given : Given) (b : Items) (store : Entries) (boxes : Full) (turns : ℕ) (empty : boxes ≡ finite.empty) where
  abbrev first : Running
  first = record { store = store; boxes = boxes; asked = 0; turns = turns; moves = 0 }

  no_boxes : box_in boxes ≡ (λ n p q. None)
  no_boxes = ap box_in empty ∙ (λ i n p q. finite.get-empty cell_cmp (record { number = n; from = p; to = q }) i)

  from_start : outcome given b (value_in store) choices turns ≡ ended (do_all given b single (run_of choices 0 first))
  from_start = λ i. ended (do_all given b single (record { store = value_in store; box = sym no_boxes i; choices = choices; asked = 0; turns = turns; moves = 0 }))

  none_made : HasMade choices 0 first
  none_made = record { moves = refl; asked = omega arith }

  pub halts : (now : Running) → Goes choices first now (do_all given b single) → length choices ≤ now.asked → outcome given b (value_in store) choices turns ≡ Ok (value_in now.store)
  halts now goes h = let g = goes 0 none_made in from_start ∙ ap ended g.2 ∙ none_left (run_of choices g.0 now) choices now.asked h

  pub leaves : (now : Running) → Goes choices first now (do_all given b single) → now.asked < length choices → outcome given b (value_in store) choices turns ≡ Err spec.ChoicesLeft
  leaves now goes h = let g = goes 0 none_made in from_start ∙ ap ended g.2 ∙ some_left (run_of choices g.0 now) choices now.asked h

  pub stopped : (f : SeqFault) → Stops choices first (do_all given b single) f → Tells (outcome given b (value_in store) choices turns) f
  stopped f stops = tells_by _ _ f from_start (tells_ended (do_all given b single (run_of choices 0 first)) f (stops 0 none_made))

-- the roles of a well-typed sequential program are apart
pub seq_apart : (Q : SeqProgram) → IsSeqWellTyped Q → AreApart Q.roles
seq_apart Q typed = record {
  names = distinct_later (map (λ e. e.name) Q.enums ++ []) (map (λ r. r.name) Q.roles) typed.names;
  variables = each Q.roles typed.roles;
}
  where
    each : (roles : List RoleText) → AllByRecursion (λ r. AreDeclsWellTyped Q.enums (globals Q) r.decls) roles → AllByRecursion (λ r. are_distinct (map variable_of r.decls) ≡ true) roles
    each [] t = tt
    each (r ∷ rs) t = (t.0.apart, each rs t.1)

module _ (Q : SeqProgram) (g : Instance) (choices : List ℕ) (turns : ℕ) where
  -- the outcome from the store and the sizes of the instance is that of the program
  pub outcome_is_seq : IsSeqWellTyped Q → FitsAsGiven Q.enums Q.roles g → (store : Entries) → ((p : Pid) (x : Name) → value_in store p x ≡ start_store Q.roles (instance_of g) p x) →
      seq Q (instance_of g) choices turns ≡ outcome (record { sizes = size_in g.sizes; kind = λ n. kind_in (decls_of (role_named Q.roles n)) }) Q.body (value_in store) choices turns
  outcome_is_seq typed fits store h = λ i.
      outcome (record { sizes = λ s. sym (started_sizes (instance_of g) Q.roles g.sizes (seq_apart Q typed).names fits.sizes refl s) i; kind = λ n. kind_in (decls_of (role_named Q.roles n)) }) Q.body
      (λ p x. sym (h p x) i) choices turns

  pub causes_run : CanStart Q g → (f : SeqFault) → Tells (seq Q (instance_of g) choices turns) f → Causes Q g choices turns f
  causes_run can fault.NoMemory t = t
  causes_run can (fault.BadChoice k) t = (can, t)
  causes_run can fault.ChoicesLeft t = (can, t)
  causes_run can fault.Turns t = (can, t)
  causes_run can (fault.BadBox k) t = (can, t)
  causes_run can fault.BadInstance t = absurd t
  causes_run can fault.TooLarge t = absurd t

  pub causes_start : (f : StartFault) → IsCause Q.enums Q.roles g f → Causes Q g choices turns (fault_of f)
  causes_start start.BadInstance t = t
  causes_start start.TooLarge t = t
  causes_start start.NoMemory t = t
