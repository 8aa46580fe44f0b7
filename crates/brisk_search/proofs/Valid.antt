-- What the search sequences has a valid derivation.
use Rattle.std.proofs.Common.{◌≡◌, ℕ, zero, suc, ◌+◌, Bool, true, false, [], Option, Some, None, refl, sym, ap, true≢false, arith}
use Rattle.std.specs.Prelude.{Ok, is_none, if◌then◌else◌}
use Rattle.std.proofs.lemmas.Bool.{lt-ltb}
use Rattle.brisk_values.specs.Names.{Name}
use Rattle.brisk_syntax.specs.declared.program.Program.{Program}
use Rattle.brisk_seq.specs.declared.tree.SeqProgram.{SeqProgram}
use Rattle.brisk_seq.specs.Items.{Items}
use Rattle.brisk_state.specs.Symbolic.{Symbolic, initial}
use Rattle.brisk_derivation.specs.declared.report.Report.{Report}
use Rattle.brisk_derivation.specs.Reports.{Tries}
use Rattle.brisk_derivation.specs.Steps.{Step, Steps}
use Rattle.brisk_rules.specs.Derives.{Derived, derive_all, Valid, unless_unfinished, first_unfinished, sequential}
use Rattle.brisk_rules.specs.Following.{Follow, nothing_follows}
use Rattle.brisk_search.specs.Turns.{RulesLeft, Turn, Goes, Stays, stay, ◌otherwise◌, first_of}
use Rattle.brisk_search.specs.Turns as turn
use Rattle.brisk_search.specs.Drives.{Drive, Way, Driven, Reached, Stuck, Driver, in_turn, top, side_of}
use Rattle.brisk_search.specs.Drives as drive
use Rattle.brisk_search.specs.Tries.{Rule}
use Rattle.brisk_search.specs.Advance.{Around}
use Rattle.brisk_search.specs.Passes.{Sides, driver, rounds, round, after_round, after_step, enough, here, first_pass, second_pass}
use Rattle.brisk_search.specs.Searched as found
use Rattle.brisk_search.specs.Searched.{Searched, Sequenced, is_simple, after_second, after_first, passes, answer, searched}
use Rattle.brisk_search.proofs.Heads.{IsRule, is_while, is_for, is_repeat, is_gather, is_pick, Holds, in_round}
use Rattle.brisk_search.proofs.Ways.{Leads, TurnLeads, AttemptLeads, DriveLeads, DriverLeads, staying, either, basic_leads}
use Rattle.brisk_search.proofs.Trying.{BelowLeads, DerivesBy, nine_lead, branch_leads}

-- each rule's step is derived by its entry, its premise and its close
step_by_step : (P : Program) (deep : ℕ) (F : Follow) (S : Symbolic) (rule : Rule) → IsRule P F S rule → DerivesBy P deep F S rule
step_by_step P deep F S rule (is_while t) drops premise line = refl
step_by_step P deep F S rule (is_for t s ts busy) drops premise line = refl
step_by_step P deep F S rule (is_repeat t) drops premise line = refl
step_by_step P deep F S rule (is_gather t) drops premise line = refl
step_by_step P deep F S rule (is_pick t) drops premise line = refl

module _ (deep : ℕ) (around : Around) (b : BelowLeads around.program deep around.below) where
  -- what attempts make leads as they say
  pub all_lead : Holds around (AttemptLeads around.program deep around.follows)
  all_lead = record {
    staying = staying around.program deep around.follows;
    either = either around.program deep around.follows;
    basic = basic_leads around.program deep around.follows;
    nine = λ S rule is. nine_lead around.program deep around.follows S rule (step_by_step around.program deep around.follows S rule is) around.below b;
    branch = λ S t d. branch_leads around.program deep around.follows S t d around.below b;
  }

  longer_leads : (d : Drive) (S next : Symbolic) (step : Step) (items : Items) → Leads around.program deep around.follows S step items next → (o : Driven) → DriveLeads around.program deep around.follows d next o →
      DriveLeads around.program deep around.follows d S (after_step step items o)
  longer_leads d S next step items h (Reached w left) (leads, goal) = (
    λ line.
        let (middle, e) = h line in
        let (end, g) = leads middle in
        (end, rw e (rw g refl)),
    goal,
  )
  longer_leads d S next step items h (Stuck w tries left) leads = λ line.
      let (middle, e) = h line in
      let (end, g) = leads middle in
      (end, rw e (rw g refl))
  longer_leads d S next step items h drive.Spent leads = tt

  after_leads : (d : Drive) (go : Symbolic → RulesLeft → Driven) → ((S : Symbolic) (left : RulesLeft) → DriveLeads around.program deep around.follows d S (go S left)) →
      (S : Symbolic) (t : Turn) → TurnLeads around.program deep around.follows S t → DriveLeads around.program deep around.follows d S (after_round go S t)
  after_leads d go h S (Goes step items next left) leads = longer_leads d S next step items leads (go next left) (h next left)
  after_leads d go h S (Stays failures left) leads = λ line. (line, refl)
  after_leads d go h S turn.Spent leads = tt

  one_round : (d : Drive) (go : Symbolic → RulesLeft → Driven) → ((S : Symbolic) (left : RulesLeft) → DriveLeads around.program deep around.follows d S (go S left)) →
      (S : Symbolic) (left : RulesLeft) (g : Bool) → d.goal S ≡ g → DriveLeads around.program deep around.follows d S (if g then Reached (here S) left else after_round go S (round around d S [] left))
  one_round d go h S left true e = (λ line. (line, refl), e)
  one_round d go h S left false e = after_leads d go h S (round around d S [] left) (in_round around (AttemptLeads around.program deep around.follows) all_lead d S [] left)

  pub rounds_lead : (d : Drive) (n : ℕ) (S : Symbolic) (left : RulesLeft) → DriveLeads around.program deep around.follows d S (rounds around d n S left)
  rounds_lead d zero S left = tt
  rounds_lead d (suc n) S left = one_round d (rounds around d n) (rounds_lead d n) S left (d.goal S) refl

-- what drives where n rules may be entered, inside so many others, leads
pub driver_leads : (P : Program) (sides : Sides) (n deep : ℕ) → n + deep ≡ 256 → DriverLeads P deep (driver P sides n)
driver_leads P sides zero deep e F d S left = rounds_lead deep record { program = P; below = None; side = sides d; follows = F } tt d (enough left S) S left
driver_leads P sides (suc n) deep e F d S left =
    rounds_lead deep record { program = P; below = Some (driver P sides n); side = sides d; follows = F }
    (lt-ltb deep 256 (omega (arith, e)), driver_leads P sides n (deep + 1) (omega (arith, e))) d (enough left S) S left

-- where the program is sequenced, it was by a way to where all code is at its end
abbrev AnswerLeads : Program → Driven → Type 0
AnswerLeads P o = DriveLeads P 0 nothing_follows top (initial P) o

second_leads : (P : Program) (w : Way) (ts : Tries) (o : Driven) → AnswerLeads P (Stuck w ts None) → AnswerLeads P o → AnswerLeads P (after_second w ts o)
second_leads P w ts (Reached v left) g h = h
second_leads P w ts (Stuck v others left) g h = g
second_leads P w ts drive.Spent g h = tt

first_leads : (P : Program) (o : Driven) → AnswerLeads P o → AnswerLeads P (after_first P o)
first_leads P (Reached w left) h = h
first_leads P (Stuck w ts left) h = second_leads P w ts (second_pass P left) h (driver_leads P (λ around t rest. around) 256 0 refl nothing_follows top (initial P) left)
first_leads P drive.Spent h = tt

passes_lead : (P : Program) (simple : Bool) (budget : ℕ) → AnswerLeads P (passes simple P budget)
passes_lead P true budget = driver_leads P (λ around t rest. side_of t rest) 256 0 refl nothing_follows top (initial P) None
passes_lead P false budget = first_leads P (first_pass P (Some budget)) (driver_leads P (λ around t rest. side_of t rest) 256 0 refl nothing_follows top (initial P) (Some budget))

finished : (P : Program) (Q : SeqProgram) (line : ℕ) (o : Option Name) → is_none o ≡ true → unless_unfinished line o Q ≡ Ok Q
finished P Q line None e = refl
finished P Q line (Some t) e = absurd (true≢false (sym e))

is_sequenced : Searched → Bool
is_sequenced (Sequenced D Q) = true
is_sequenced o = false

found_steps : Searched → Steps
found_steps (Sequenced D Q) = D
found_steps o = Steps.no_steps

found_program : SeqProgram → Searched → SeqProgram
found_program Q (Sequenced D R) = R
found_program Q o = Q

answered : (P : Program) (D : Steps) (Q : SeqProgram) (o : Driven) → AnswerLeads P o → answer P o ≡ Sequenced D Q → Valid P D Q
unfolding is_sequenced found_steps found_program
answered P D Q (Reached w left) (leads, goal) e =
    let (end, h) = leads 2 in
    let d : w.steps ≡ D = ap found_steps e in
    let q : sequential P w.items ≡ Q = ap (found_program Q) e in
    rw (sym d) (rw (sym q) (rw h (finished P (sequential P w.items) end (first_unfinished w.end.threads) goal)))
answered P D Q (Stuck w ts left) h e = absurd (true≢false (sym (ap is_sequenced e)))
answered P D Q drive.Spent h e = absurd (true≢false (sym (ap is_sequenced e)))

-- what is sequenced has a valid derivation
pub sequenced_is_valid : (P : Program) (budget : ℕ) (D : Steps) (Q : SeqProgram) → searched P budget ≡ Sequenced D Q → Valid P D Q
sequenced_is_valid P budget D Q e = answered P D Q (passes (is_simple P) P budget) (passes_lead P (is_simple P) budget) e

reported : Searched → Steps
reported (found.Stuck r) = r.steps
reported o = Steps.no_steps

is_stuck : Searched → Bool
is_stuck (found.Stuck r) = true
is_stuck o = false

led : (P : Program) (r : Report) (o : Driven) → AnswerLeads P o → answer P o ≡ found.Stuck r → (d : Derived) × (derive_all P 0 nothing_follows r.steps 2 (initial P) ≡ Ok d)
unfolding reported is_stuck
led P r (Reached w left) h e = absurd (true≢false (sym (ap is_stuck e)))
led P r (Stuck w ts left) h e = let g : w.steps ≡ r.steps = ap reported e in let (end, l) = h 2 in (record { items = w.items; state = w.end; line = end }, rw (sym g) l)
led P r drive.Spent h e = absurd (true≢false (sym (ap is_stuck e)))

-- the steps of a report are derived
pub report_leads : (P : Program) (budget : ℕ) (r : Report) → searched P budget ≡ found.Stuck r → (d : Derived) × (derive_all P 0 nothing_follows r.steps 2 (initial P) ≡ Ok d)
report_leads P budget r e = led P r (passes (is_simple P) P budget) (passes_lead P (is_simple P) budget) e
