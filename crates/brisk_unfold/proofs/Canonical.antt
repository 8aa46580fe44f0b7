-- From the unfolding in code to the canonical schedule.
use Rattle.std.proofs.Common.{◌≡◌, ℕ, Bool, zero, suc, ◌<◌, ◌≤◌, List, [], ◌∷◌, length, drop, map, None, Result, Ok, Err, refl, sym, ap, subst, ◌∙◌, arith}
use Rattle.std.specs.FinMap as finite
use Rattle.std.specs.List.{AllByRecursion}
use Rattle.brisk_values.specs.declared.instance.Instance.{Instance as Given}
use Rattle.brisk_values.specs.declared.value.Pid.{Pid}
use Rattle.brisk_values.specs.Names.{Name, single}
use Rattle.brisk_values.specs.Places.{Entries, process_cmp, value_in}
use Rattle.brisk_syntax.specs.declared.program.EnumDecl.{EnumDecl}
use Rattle.brisk_syntax.specs.declared.program.Program.{Program}
use Rattle.brisk_syntax.specs.Declarations.{decls_of, is_loose, kind_in, role_named}
use Rattle.brisk_syntax.specs.Instance.{Fits, Instance, RoleFits, start_store}
use Rattle.brisk_syntax.specs.Roles.{RoleText}
use Rattle.brisk_syntax.specs.Value.{size_in}
use Rattle.brisk_syntax.specs.WellTyped.{IsProgramWellTyped}
use Rattle.brisk_instance.specs.Given.{FitsAsGiven, instance_of}
use Rattle.brisk_instance.proofs.Started.{started_sizes}
use Rattle.brisk_seq.specs.declared.fault.SeqFault.{SeqFault}
use Rattle.brisk_seq.specs.declared.tree.SeqProgram.{SeqProgram}
use Rattle.brisk_seq.specs.Answers.{CanStart, Causes as SeqCauses}
use Rattle.brisk_seq.specs.Cells.{Full, box_in, cell_cmp}
use Rattle.brisk_seq.specs.Items.{Items}
use Rattle.brisk_seq.specs.Running.{HasMade, Tells}
use Rattle.brisk_seq.specs.Sequential as spec
use Rattle.brisk_seq.specs.Sequential.{Given as Setting, Stop, seq}
use Rattle.brisk_seq.specs.WellTyped.{IsSeqWellTyped}
use Rattle.brisk_seq.proofs.Evaluating.{tells_by}
use Rattle.brisk_seq.proofs.Outcomes.{causes_run, seq_apart}
use Rattle.brisk_async.specs.declared.event.Event.{Event}
use Rattle.brisk_basic.specs.Outcomes.{and_then}
use Rattle.brisk_derivation.specs.Steps.{Steps}
use Rattle.brisk_rules.specs.Derives.{Valid, without_code}
use Rattle.brisk_rules.specs.Unfolding.{unfold_all, unfolded, unfolded_with}
use Rattle.brisk_sound.proofs.ItemsTyped.{well_typed}
use Rattle.brisk_sound.proofs.Schedules.{reaches}
use Rattle.brisk_sound.proofs.Top.{valid_is}
use Rattle.brisk_unfold.specs.declared.progress.Progress.{Progress}
use Rattle.brisk_unfold.specs.Answers.{IsSchedule}
use Rattle.brisk_unfold.specs.Carried.{Carried, sender_in}
use Rattle.brisk_unfold.specs.Going.{Goes, Stops, unfolded_from, unfolding_of}
use Rattle.brisk_unfold.proofs.Leading.{tells_alike, tells_then}

some_left : (es : List Event) (xs : List ℕ) (n : ℕ) → n < length xs → unfolded_with (drop n xs) es ≡ Err spec.ChoicesLeft
some_left es [] n h = absurd (omega arith)
some_left es (x ∷ xs) zero h = refl
some_left es (x ∷ xs) (suc n) h = some_left es xs n (omega arith)

none_left : (es : List Event) (xs : List ℕ) (n : ℕ) → length xs ≤ n → unfolded_with (drop n xs) es ≡ Ok es
none_left es [] zero h = refl
none_left es [] (suc n) h = refl
none_left es (x ∷ xs) zero h = absurd (omega arith)
none_left es (x ∷ xs) (suc n) h = none_left es xs n (omega arith)

module _ (given : Setting) (loose : Name → Bool) (choices : List ℕ) (D : Steps) (X : Items) (store : Entries) (boxes : Full) (senders : Carried) (turns : ℕ) (empty : boxes ≡ finite.empty) (none : senders ≡ finite.empty) where
  abbrev first : Progress
  first = record { run = record { store = store; boxes = boxes; asked = 0; turns = turns; moves = 0 }; events = []; senders = senders }

  no_boxes : box_in boxes ≡ (λ n p q. None)
  no_boxes = ap box_in empty ∙ (λ i n p q. finite.get-empty cell_cmp (record { number = n; from = p; to = q }) i)

  no_senders : sender_in senders ≡ (λ p. None)
  no_senders = ap sender_in none ∙ (λ i p. finite.get-empty process_cmp p i)

  from_start : unfolded_from given loose choices D X (value_in store) turns ≡ and_then (unfold_all given loose D X single (unfolding_of choices 0 first)) (λ u. unfolded_with u.run.choices u.events)
  from_start = λ i.
      and_then (unfold_all given loose D X single (record { run = record { store = value_in store; box = sym no_boxes i; choices = choices; asked = 0; turns = turns; moves = 0 }; events = []; sender = sym no_senders i }))
      (λ u. unfolded_with u.run.choices u.events)

  none_made : HasMade choices 0 first.run
  none_made = record { moves = refl; asked = omega arith }

  pub halts : (now : Progress) → Goes choices first now (unfold_all given loose D X single) → length choices ≤ now.run.asked → unfolded_from given loose choices D X (value_in store) turns ≡ Ok now.events
  halts now goes h = let g = goes 0 none_made in from_start ∙ ap (λ o. and_then o (λ u. unfolded_with u.run.choices u.events)) g.2 ∙ none_left now.events choices now.run.asked h

  pub leaves : (now : Progress) → Goes choices first now (unfold_all given loose D X single) → now.run.asked < length choices → unfolded_from given loose choices D X (value_in store) turns ≡ Err spec.ChoicesLeft
  leaves now goes h = let g = goes 0 none_made in from_start ∙ ap (λ o. and_then o (λ u. unfolded_with u.run.choices u.events)) g.2 ∙ some_left now.events choices now.run.asked h

  pub stopped : (f : SeqFault) → Stops choices first (unfold_all given loose D X single) f → Tells (unfolded_from given loose choices D X (value_in store) turns) f
  stopped f stops = tells_by _ _ f from_start (tells_then (unfold_all given loose D X single (unfolding_of choices 0 first)) (λ u. unfolded_with u.run.choices u.events) f (stops 0 none_made))

module _ (P : Program) (D : Steps) (Q : SeqProgram) (g : Given) (typed : IsProgramWellTyped P) (valid : Valid P D Q) where
  pub typed_too : IsSeqWellTyped Q
  typed_too = well_typed P D Q typed valid

  each : (enums : List EnumDecl) (i : Instance) (roles : List RoleText) → AllByRecursion (RoleFits enums i) (map without_code roles) → AllByRecursion (RoleFits enums i) roles
  each enums i [] h = h
  each enums i (r ∷ rs) h = (h.0, each enums i rs h.1)

  fits_program : CanStart Q g → Fits P (instance_of g)
  fits_program can =
      let v = valid_is P D Q valid in
      let f : FitsAsGiven P.enums (map without_code P.roles) g = subst (λ (q : SeqProgram). FitsAsGiven q.enums q.roles g) (sym v.program) can.0 in
      each P.enums (instance_of g) P.roles f.fits

  module _ (choices : List ℕ) (turns : ℕ) (can : CanStart Q g) (store : Entries) (started : (p : Pid) (x : Name) → value_in store p x ≡ start_store Q.roles (instance_of g) p x) where
    abbrev answer : Result (List Event) Stop
    answer = unfolded_from (record { sizes = size_in g.sizes; kind = λ n. kind_in (decls_of (role_named Q.roles n)) }) (is_loose P.channels) choices D Q.body (value_in store) turns

    is_unfolded : unfolded P D Q (instance_of g) choices turns ≡ answer
    is_unfolded = λ i.
        unfolded_from (record { sizes = λ n. sym (started_sizes (instance_of g) Q.roles g.sizes (seq_apart Q typed_too).names can.0.sizes refl n) i; kind = λ n. kind_in (decls_of (role_named Q.roles n)) })
        (is_loose P.channels) choices D Q.body (λ p x. sym (started p x) i) turns

    pub is_schedule : (es : List Event) → answer ≡ Ok es → IsSchedule P D g choices turns Q es
    is_schedule es e = record {
      starts = can;
      events = is_unfolded ∙ e;
      halts = (reaches P D Q typed valid (instance_of g) (fits_program can) choices turns).0 es (is_unfolded ∙ e);
    }

    pub is_cause : (f : SeqFault) → Tells answer f → SeqCauses Q g choices turns f
    is_cause f t =
        causes_run Q g choices turns can f
        (tells_alike answer (seq Q (instance_of g) choices turns) (λ why e. ((reaches P D Q typed valid (instance_of g) (fits_program can) choices turns).1 why).0 (is_unfolded ∙ e)) f t)
