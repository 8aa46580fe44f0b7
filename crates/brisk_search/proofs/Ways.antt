-- What turns and drives give, as parts of a derivation; and how attempts are put together.
use Rattle.std.proofs.Common.{◌≡◌, ℕ, zero, suc, ◌+◌, true, Some, None, refl}
use Rattle.std.specs.Prelude.{Ok, Err}
use Rattle.brisk_syntax.specs.declared.program.Program.{Program}
use Rattle.brisk_seq.specs.Items.{Items}
use Rattle.brisk_state.specs.Symbolic.{Symbolic}
use Rattle.brisk_basic.specs.Basic.{Applied}
use Rattle.brisk_derivation.specs.declared.steps.BasicStep.{BasicStep}
use Rattle.brisk_derivation.specs.Steps.{Step, Basic}
use Rattle.brisk_rules.specs.Derives.{rule_of, apply_quietly, derive, derive_all}
use Rattle.brisk_rules.specs.Following.{Follow}
use Rattle.brisk_rules.specs.Rules.{Outcome}
use Rattle.brisk_search.specs.Turns.{RulesLeft, Turn, Goes, Stays, Attempt, stay, where_it_stays, ◌otherwise◌, first_of, due}
use Rattle.brisk_search.specs.Turns as turn
use Rattle.brisk_search.specs.Drives.{Drive, Way, Driven, Reached, Stuck, Driver}
use Rattle.brisk_search.specs.Drives as drive
use Rattle.brisk_search.specs.Advance.{applied}

module _ (P : Program) (deep : ℕ) where
  -- a step derives these items and the next state
  abbrev pub Leads : Follow → Symbolic → Step → Items → Symbolic → Type 0
  Leads F S step items next = (line : ℕ) → (end : ℕ) × (derive P deep F step line S ≡ Ok record { items = items; state = next; line = end })

  -- so do the steps of a way
  abbrev pub LeadsAlong : Follow → Symbolic → Way → Type 0
  LeadsAlong F S w = (line : ℕ) → (end : ℕ) × (derive_all P deep F w.steps line S ≡ Ok record { items = w.items; state = w.end; line = end })

  abbrev pub TurnLeads : Follow → Symbolic → Turn → Type 0
  TurnLeads F S (Goes step items next left) = Leads F S step items next
  TurnLeads F S (Stays failures left) = Unit {0}
  TurnLeads F S turn.Spent = Unit {0}

  abbrev pub AttemptLeads : Follow → Symbolic → Attempt → Type 0
  AttemptLeads F S attempt = (failures : turn.Failures) (left : RulesLeft) → TurnLeads F S (attempt failures left)

  -- where a drive reaches an end, its goal holds there
  abbrev pub DriveLeads : Follow → Drive → Symbolic → Driven → Type 0
  DriveLeads F d S (Reached w left) = LeadsAlong F S w × (d.goal w.end ≡ true)
  DriveLeads F d S (Stuck w tries left) = LeadsAlong F S w
  DriveLeads F d S drive.Spent = Unit {0}

  abbrev pub DriverLeads : Driver → Type 0
  DriverLeads driver = (F : Follow) (d : Drive) (S : Symbolic) (left : RulesLeft) → DriveLeads F d S (driver F d S left)

  pub staying : (F : Follow) (S : Symbolic) → AttemptLeads F S stay
  staying F S failures left = tt

  where_it : (F : Follow) (S : Symbolic) (next : Attempt) → AttemptLeads F S next → (t : Turn) → TurnLeads F S t → TurnLeads F S (where_it_stays next t)
  where_it F S next h (Goes step items S' left) g = g
  where_it F S next h (Stays failures left) g = h failures left
  where_it F S next h turn.Spent g = tt

  pub either : (F : Follow) (S : Symbolic) (attempt next : Attempt) → AttemptLeads F S attempt → AttemptLeads F S next → AttemptLeads F S (attempt otherwise next)
  either F S attempt next g h failures left = where_it F S next h (attempt failures left) (g failures left)

  pub when_due : (F : Follow) (S : Symbolic) (step : Step) (items : Items) (next : Symbolic) → Leads F S step items next → (left : RulesLeft) → TurnLeads F S (due left (Goes step items next))
  when_due F S step items next h None = h
  when_due F S step items next h (Some zero) = tt
  when_due F S step items next h (Some (suc n)) = h

  when_applied : (F : Follow) (S : Symbolic) (b : BasicStep) (o : Outcome Applied) → apply_quietly P F S (rule_of b) ≡ o → AttemptLeads F S (applied b o)
  when_applied F S b (Ok r) e failures left = when_due F S (Basic b) _ r.next (λ line. (line + 1, rw e refl)) left
  when_applied F S b (Err why) e failures left = tt

  pub basic_leads : (F : Follow) (S : Symbolic) (b : BasicStep) → AttemptLeads F S (applied b (apply_quietly P F S (rule_of b)))
  basic_leads F S b = when_applied F S b (apply_quietly P F S (rule_of b)) refl
