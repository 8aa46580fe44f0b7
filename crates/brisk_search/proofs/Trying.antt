-- Tries of compound rules lead as they say, where what drives below them does.
use Rattle.std.proofs.Common.{◌≡◌, ℕ, zero, suc, ◌+◌, true, List, [], Option, Some, None, refl}
use Rattle.std.specs.Prelude.{Ok, Err, nat_lt}
use Rattle.brisk_values.specs.Names.{Name}
use Rattle.brisk_syntax.specs.declared.program.Program.{Program}
use Rattle.brisk_seq.specs.Items.{Items, nothing, ◌⨟◌}
use Rattle.brisk_state.specs.Symbolic.{Symbolic}
use Rattle.brisk_derivation.specs.declared.fault.SideFault.TheVariants.{TooDeep}
use Rattle.brisk_derivation.specs.declared.steps.Fact.{Fact}
use Rattle.brisk_derivation.specs.Steps.{Step, Branch, Steps}
use Rattle.brisk_rules.specs.declared.why.Why.{Why}
use Rattle.brisk_rules.specs.declared.why.Why.TheVariants.{Rule as BasicFault, Side}
use Rattle.brisk_rules.specs.Derives.{derive, derive_all, by_loop, by_branch, Premise}
use Rattle.brisk_rules.specs.Following.{Follow}
use Rattle.brisk_rules.specs.Rules.{Outcome, Entered, around, Parted, around_sides, close, enter_branch, join}
use Rattle.brisk_search.specs.Turns.{Failures, Attempt, stay}
use Rattle.brisk_search.specs.Drives.{Drive, Way, Driven, Reached, Stuck, Driver, premise_of}
use Rattle.brisk_search.specs.Drives as drive
use Rattle.brisk_search.specs.Tries.{Rule, entered, refused, closed, driven, once, tries, nine_tries, at_risk, with_lost, joined, second_driven, first_driven, branch}
use Rattle.brisk_search.proofs.Ways.{Leads, LeadsAlong, TurnLeads, AttemptLeads, DriveLeads, DriverLeads, staying, when_due}

-- a rule with one premise, step by step
looped : (deep line : ℕ) (entry : Outcome Entered) (premise : Entered → Premise) (r : Entered) (items : Items) (E S : Symbolic) (end : ℕ) →
    nat_lt deep 256 ≡ true → entry ≡ Ok r → premise r (line + 1) r.start ≡ Ok record { items = items; state = E; line = end } → close r E ≡ Ok S →
    by_loop deep line entry premise ≡ Ok record { items = around r.kind items ⨟ nothing; state = S; line = end + 1 }
looped deep line entry premise r items E S end fits e h c = rw e (rw fits (rw h (rw c refl)))

-- a branch, side by side
branched : (deep line : ℕ) (entry : Outcome Parted) (first second : Premise) (p : Parted) (X Y : Items) (E F S : Symbolic) (middle end : ℕ) →
    nat_lt deep 256 ≡ true → entry ≡ Ok p → first (line + 1) p.first ≡ Ok record { items = X; state = E; line = middle } →
    second (middle + 1) p.second ≡ Ok record { items = Y; state = F; line = end } → join E F ≡ Ok S →
    by_branch deep line entry first second ≡ Ok record { items = around_sides p X Y ⨟ nothing; state = S; line = end + 1 }
branched deep line entry first second p X Y E F S middle end fits e g h j = rw e (rw fits (rw g (rw h (rw j refl))))

module _ (P : Program) (deep : ℕ) where
  -- what drives the premises of rules at this depth leads, and rules may be entered
  abbrev pub BelowLeads : Option Driver → Type 0
  BelowLeads None = Unit {0}
  BelowLeads (Some driver) = (nat_lt deep 256 ≡ true) × DriverLeads P (deep + 1) driver

  -- the rule's step is derived by its entry, its premise and its close
  abbrev pub DerivesBy : Follow → Symbolic → Rule → Type 0
  DerivesBy F S rule =
      (drops : List Fact) (premise : Steps) (line : ℕ) →
      derive P deep F (rule.step drops premise) line S ≡ by_loop deep line (rule.enter drops) (λ r. derive_all P (deep + 1) (rule.follows r) premise)

  refusing : (F : Follow) (S : Symbolic) (t : Name) (step : Step) (why : Why) → AttemptLeads P deep F S (refused t step why)
  refusing F S t step (Side why) failures left = tt
  refusing F S t step (BasicFault why) failures left = tt

  closing : (F : Follow) (S : Symbolic) (again : Attempt) (step : Step) (items : Items) (o : Outcome Symbolic) → AttemptLeads P deep F S again →
      ((S' : Symbolic) → o ≡ Ok S' → Leads P deep F S step items S') → AttemptLeads P deep F S (closed again step items o)
  closing F S again step items (Ok S') h g failures left = when_due P deep F S step items S' (g S' refl) left
  closing F S again step items (Err why) h g failures left = h failures left

  driving : (F : Follow) (S : Symbolic) (rule : Rule) → DerivesBy F S rule → (again : Entered → Symbolic → Attempt) → ((r : Entered) (E : Symbolic) → AttemptLeads P deep F S (again r E)) →
      (drops : List Fact) (r : Entered) → nat_lt deep 256 ≡ true → rule.enter drops ≡ Ok r → (o : Driven) → DriveLeads P (deep + 1) (rule.follows r) (premise_of r) r.start o →
      (failures : Failures) → TurnLeads P deep F S (driven again rule drops r o failures)
  driving F S rule is again h drops r fits e (Reached w left) (leads, goal) failures =
      closing F S (again r w.end) (rule.step drops w.steps) (around r.kind w.items ⨟ nothing) (close r w.end) (h r w.end) (λ S' c line.
      let (end, d) = leads (line + 1) in
      (end + 1, rw (is drops w.steps line) (looped deep line (rule.enter drops) (λ r. derive_all P (deep + 1) (rule.follows r) w.steps) r w.items w.end S' end fits e d c))) failures left
  driving F S rule is again h drops r fits e (Stuck w tries left) leads failures = tt
  driving F S rule is again h drops r fits e drive.Spent leads failures = tt

  once_leads : (F : Follow) (S : Symbolic) (rule : Rule) → DerivesBy F S rule → (below : Option Driver) → BelowLeads below →
      (again : Entered → Symbolic → Attempt) → ((r : Entered) (E : Symbolic) → AttemptLeads P deep F S (again r E)) →
      (drops : List Fact) → AttemptLeads P deep F S (once below again rule drops)
  once_leads F S rule is None b again h drops failures left = refusing F S rule.at (rule.step drops Steps.no_steps) (Side TooDeep) failures left
  once_leads F S rule is (Some driver) (fits, leads) again h drops failures left = go (rule.enter drops) refl
    where
      go : (entry : Outcome Entered) → rule.enter drops ≡ entry →
          TurnLeads P deep F S (entered (Some driver) entry (λ why. refused rule.at (rule.step drops Steps.no_steps) why failures left) (λ below r. driven again rule drops r (below (rule.follows r) (premise_of r) r.start left) failures))
      go (Ok r) e = driving F S rule is again h drops r fits e (driver (rule.follows r) (premise_of r) r.start left) (leads (rule.follows r) (premise_of r) r.start left) failures
      go (Err why) e = refusing F S rule.at (rule.step drops Steps.no_steps) why failures left

  tries_lead : (F : Follow) (S : Symbolic) (rule : Rule) → DerivesBy F S rule → (below : Option Driver) → BelowLeads below → (n : ℕ) (drops : List Fact) → AttemptLeads P deep F S (tries P below S rule n drops)
  tries_lead F S rule is below b zero drops = once_leads F S rule is below b (λ r E. stay) (λ r E. staying P deep F S) (at_risk P S)
  tries_lead F S rule is below b (suc n) drops =
      once_leads F S rule is below b (λ r E. tries P below S rule n (with_lost P r E drops)) (λ r E. tries_lead F S rule is below b n (with_lost P r E drops)) drops

  pub nine_lead : (F : Follow) (S : Symbolic) (rule : Rule) → DerivesBy F S rule → (below : Option Driver) → BelowLeads below → AttemptLeads P deep F S (nine_tries P below S rule)
  nine_lead F S rule is below b = tries_lead F S rule is below b 8 []

  joining : (F : Follow) (S : Symbolic) (t : Name) (p : Parted) (a b : Way) → nat_lt deep 256 ≡ true → enter_branch S t ≡ Ok p → LeadsAlong P (deep + 1) F p.first a → LeadsAlong P (deep + 1) F p.second b →
      (o : Outcome Symbolic) → join a.end b.end ≡ o → AttemptLeads P deep F S (joined t p a b o)
  joining F S t p a b fits e g h (Ok S') j failures left =
      when_due P deep F S (Branch t a.steps b.steps) (around_sides p a.items b.items ⨟ nothing) S' (λ line.
      let (middle, x) = g (line + 1) in
      let (end, y) = h (middle + 1) in
      (end + 1, branched deep line (enter_branch S t) (derive_all P (deep + 1) F a.steps) (derive_all P (deep + 1) F b.steps) p a.items b.items a.end b.end S' middle end fits e x y j)) left
  joining F S t p a b fits e g h (Err why) j failures left = refusing F S t (Branch t a.steps b.steps) why failures left

  second_leads : (F : Follow) (S : Symbolic) (d : Drive) (t : Name) (p : Parted) (a : Way) → nat_lt deep 256 ≡ true → enter_branch S t ≡ Ok p → LeadsAlong P (deep + 1) F p.first a →
      (o : Driven) → DriveLeads P (deep + 1) F d p.second o → (failures : Failures) → TurnLeads P deep F S (second_driven t p a o failures)
  second_leads F S d t p a fits e g (Reached b left) (h, goal) failures = joining F S t p a b fits e g h (join a.end b.end) refl failures left
  second_leads F S d t p a fits e g (Stuck b tries left) h failures = tt
  second_leads F S d t p a fits e g drive.Spent h failures = tt

  first_leads : (F : Follow) (S : Symbolic) (driver : Driver) (d : Drive) (t : Name) (p : Parted) → nat_lt deep 256 ≡ true → DriverLeads P (deep + 1) driver → enter_branch S t ≡ Ok p →
      (o : Driven) → DriveLeads P (deep + 1) F d p.first o → (failures : Failures) → TurnLeads P deep F S (first_driven driver F d t p o failures)
  first_leads F S driver d t p fits leads e (Reached a left) (g, goal) failures = second_leads F S d t p a fits e g (driver F d p.second left) (leads F d p.second left) failures
  first_leads F S driver d t p fits leads e (Stuck a tries left) g failures = tt
  first_leads F S driver d t p fits leads e drive.Spent g failures = tt

  pub branch_leads : (F : Follow) (S : Symbolic) (t : Name) (d : Drive) (below : Option Driver) → BelowLeads below → AttemptLeads P deep F S (branch below F d S t)
  branch_leads F S t d None b failures left = refusing F S t (Branch t Steps.no_steps Steps.no_steps) (Side TooDeep) failures left
  branch_leads F S t d (Some driver) (fits, leads) failures left = go (enter_branch S t) refl
    where
      go : (entry : Outcome Parted) → enter_branch S t ≡ entry →
          TurnLeads P deep F S (entered (Some driver) entry (λ why. refused t (Branch t Steps.no_steps Steps.no_steps) why failures left) (λ below p. first_driven below F d t p (below F d p.first left) failures))
      go (Ok p) e = first_leads F S driver d t p fits leads e (driver F d p.first left) (leads F d p.first left) failures
      go (Err why) e = refusing F S t (Branch t Steps.no_steps Steps.no_steps) why failures left
