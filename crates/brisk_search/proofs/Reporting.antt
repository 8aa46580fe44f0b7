-- What the search reports holds.
use Rattle.std.proofs.Common.{◌≡◌, ℕ, zero, suc, ◌+◌, Bool, true, false, [], Option, Some, None, refl, sym, ap, ◌∙◌, subst, true≢false, arith}
use Rattle.std.specs.Prelude.{◌&&◌, not, nat_lt, if◌then◌else◌, is_some, is_none}
use Rattle.std.proofs.lemmas.Bool.{lt-ltb}
use Rattle.brisk_values.specs.Names.{Name}
use Rattle.brisk_syntax.specs.declared.program.Program.{Program}
use Rattle.brisk_syntax.specs.Syntax.{Code}
use Rattle.brisk_syntax.specs.Typing.{is_among}
use Rattle.brisk_seq.specs.Items.{Items}
use Rattle.brisk_state.specs.Symbolic.{Symbolic, initial}
use Rattle.brisk_derivation.specs.declared.report.Report.{Report}
use Rattle.brisk_derivation.specs.Reports.{Tries}
use Rattle.brisk_derivation.specs.Steps.{Step}
use Rattle.brisk_rules.specs.Derives.{first_unfinished}
use Rattle.brisk_rules.specs.Rules.{Entered}
use Rattle.brisk_rules.specs.Standing.{stands_at, is_movable, movable, thread_names}
use Rattle.brisk_rules.specs.Reports.{is_told, all_told, after_head, Reports}
use Rattle.brisk_rules.specs.Following.{Follow, nothing_follows}
use Rattle.brisk_search.specs.Turns.{RulesLeft, Failures, Turn, Goes, Stays, stay, ◌otherwise◌, first_of}
use Rattle.brisk_search.specs.Turns as turn
use Rattle.brisk_search.specs.Drives.{Drive, Way, Driven, Reached, Stuck, Driver, others, in_turn, premise_of, side_of, top}
use Rattle.brisk_search.specs.Drives as drive
use Rattle.brisk_search.specs.Tries.{Rule}
use Rattle.brisk_search.specs.Advance.{Around}
use Rattle.brisk_search.specs.Passes.{Sides, driver, rounds, round, after_round, after_step, enough, here, first_pass, second_pass}
use Rattle.brisk_search.specs.Searched as found
use Rattle.brisk_search.specs.Searched.{Searched, Sequenced, is_simple, after_second, after_first, passes, answer, searched}
use Rattle.brisk_search.proofs.Heads.{IsRule}
use Rattle.brisk_search.proofs.Heads as heads
use Rattle.brisk_search.proofs.Ways.{DriveLeads}
use Rattle.brisk_search.proofs.Trying.{BelowLeads}
use Rattle.brisk_search.proofs.Valid.{driver_leads}
use Rattle.brisk_search.proofs.Pushing.{WhereStays, PremiseTells, SideTells, LastCloses}
use Rattle.std.proofs.lemmas.Option.{same_Some}
use Rattle.brisk_search.specs.Tries.{at_risk}
use Rattle.brisk_search.proofs.Begins.{known_sorted}
use Rattle.brisk_search.proofs.Lost.{Fit, fit_code, fit_spared, last_closes}
use Rattle.brisk_search.proofs.Sparing.{TurnKeeps, AttemptKeeps, DriveKeeps, BelowKeeps, rule_begins, sides_keep, all_keep, drivers_keep}
use Rattle.brisk_search.proofs.Acted.{Ready, among_those}
use Rattle.brisk_search.proofs.Round.{Ended, in_round}
use Rattle.brisk_search.proofs.Told.{StuckTells, DriveTells, round_tells, premise_stuck, premise_ended, side_stuck, all_among, among_passed}

-- the sides of branches in pass one
abbrev pub one_side : Sides
one_side around t rest = side_of t rest

module _ (P : Program) where
  abbrev DriverTells : ℕ → Driver → Type 0
  DriverTells deep driver = (F : Follow) (d : Drive) (S : Symbolic) (left : RulesLeft) → Fit P S → DriveTells P deep F d (driver F d S left)

  abbrev BelowTell : ℕ → Option Driver → Type 0
  BelowTell deep None = nat_lt deep 256 ≡ false
  BelowTell deep (Some driver) = (nat_lt deep 256 ≡ true) × DriverTells (deep + 1) driver

  premise_tells : (deep : ℕ) (V F : Follow) (r : Entered) (o : Driven) → DriveLeads P (deep + 1) F (premise_of r) r.start o → DriveTells P (deep + 1) F (premise_of r) o → PremiseTells P deep V F r o
  premise_tells deep V F r (Reached w left) leads t = tt
  premise_tells deep V F r (Stuck w ts left) leads t = (leads, record { waits = t.waits; all = premise_stuck P (deep + 1) F w.end ts r t; some = premise_ended P (deep + 1) F w.end ts r t; hold = t.hold })
  premise_tells deep V F r drive.Spent leads t = tt

  side_tells : (deep : ℕ) (F : Follow) (t : Name) (rest : Code) (S : Symbolic) (o : Driven) → DriveLeads P (deep + 1) F (side_of t rest) S o → DriveTells P (deep + 1) F (side_of t rest) o → SideTells P deep F t rest S o
  side_tells deep F t rest S (Reached w left) (leads, goal) s = (leads, goal)
  side_tells deep F t rest S (Stuck w ts left) leads s = (leads, side_stuck P (deep + 1) F w.end ts t rest s, s.hold)
  side_tells deep F t rest S drive.Spent leads s = tt

  fits : (deep : ℕ) (below : Option Driver) → BelowTell deep below → nat_lt deep 256 ≡ is_some below
  fits deep None b = b
  fits deep (Some driver) b = b.0

  ready : (deep : ℕ) (F : Follow) (below : Option Driver) → BelowTell deep below → BelowLeads P deep below → (S : Symbolic) → Fit P S → ((rule : Rule) → IsRule P F S rule → LastCloses P deep F S rule below) → Ready P deep F below S
  ready deep F None b leads S fit last = record { premises = λ rule is drops r e. b; sides = λ t p e. (b, b); last = last }
  ready deep F (Some driver) (lt, tells) (lt', leads) S fit last = record {
    premises = λ rule is drops r e. (lt, λ left. premise_tells deep F (rule.follows r) r (driver (rule.follows r) (premise_of r) r.start left) (leads (rule.follows r) (premise_of r) r.start left) (tells (rule.follows r) (premise_of r) r.start left (let k = rule_begins P F S rule is drops r e in fit_code P S r.start fit k.code (k.sorted (known_sorted S drops r k fit.sorted)))));
    sides = λ t p e.
        let (k, l) = sides_keep P S t p e fit.sorted in
        let f = fit_spared P S p.first fit k.0 k.1 in
        let g = fit_spared P S p.second fit l.0 l.1 in
        let d = side_of t (after_head (stands_at S t)) in (
          (lt, λ left. side_tells deep F t (after_head (stands_at S t)) p.first (driver F d p.first left) (leads F d p.first left) (tells F d p.first left f)),
          (lt, λ left. side_tells deep F t (after_head (stands_at S t)) p.second (driver F d p.second left) (leads F d p.second left) (tells F d p.second left g)),
        );
    last = last;
  }

  module _ (deep : ℕ) (below : Option Driver) (b : BelowTell deep below) (leads : BelowLeads P deep below) (keeps : BelowKeeps P below) (F : Follow) (last : (S : Symbolic) (rule : Rule) → IsRule P F S rule → Fit P S → LastCloses P deep F S rule below) (d : Drive) where
    abbrev around : Around
    around = record { program = P; below = below; side = side_of; follows = F }

    longer_tells : (step : Step) (items : Items) (o : Driven) → DriveTells P deep F d o → DriveTells P deep F d (after_step step items o)
    longer_tells step items (Reached w left) t = tt
    longer_tells step items (Stuck w ts left) t = t
    longer_tells step items drive.Spent t = tt

    after_tells : (go : Symbolic → RulesLeft → Driven) → ((S : Symbolic) (left : RulesLeft) → Fit P S → DriveTells P deep F d (go S left)) → (S : Symbolic) (fit : Fit P S) → d.goal S ≡ false → (t : Turn) → TurnKeeps P S t →
        WhereStays (Ended P deep F below (fits deep below b) S (ready deep F below b leads S fit (λ rule is. last S rule is fit)) d) t → DriveTells P deep F d (after_round go S t)
    after_tells go h S fit e (Goes step items next left) l ended = longer_tells step items (go next left) (h next left (fit_spared P S next fit l.0 l.1))
    after_tells go h S fit e (Stays fs left) l ended = round_tells P deep F below (fits deep below b) S (ready deep F below b leads S fit (λ rule is. last S rule is fit)) d fs e ended
    after_tells go h S fit e turn.Spent l ended = tt

    one_round : (go : Symbolic → RulesLeft → Driven) → ((S : Symbolic) (left : RulesLeft) → Fit P S → DriveTells P deep F d (go S left)) → (S : Symbolic) (left : RulesLeft) → Fit P S → (g : Bool) → d.goal S ≡ g →
        DriveTells P deep F d (if g then Reached (here S) left else after_round go S (round around d S [] left))
    one_round go h S left fit true e = tt
    one_round go h S left fit false e =
        after_tells go h S fit e (round around d S [] left) (heads.in_round around (AttemptKeeps P) (all_keep P below keeps side_of F) d S fit [] left)
        (in_round P deep F below (fits deep below b) S (ready deep F below b leads S fit (λ rule is. last S rule is fit)) d left)

    rounds_tell : (n : ℕ) (S : Symbolic) (left : RulesLeft) → Fit P S → DriveTells P deep F d (rounds around d n S left)
    rounds_tell zero S left fit = tt
    rounds_tell (suc n) S left fit = one_round (rounds around d n) (rounds_tell n) S left fit (d.goal S) refl

  never_last : (deep : ℕ) (F : Follow) (S : Symbolic) (rule : Rule) → LastCloses P deep F S rule None
  never_last deep F S rule driver e = cc

  -- the last try of a rule is closed where its drive comes to its goal
  last_goes : (n deep : ℕ) → suc n + deep ≡ 256 → (F : Follow) (S : Symbolic) (rule : Rule) → IsRule P F S rule → Fit P S → LastCloses P deep F S rule (Some (driver P one_side n))
  last_goes n deep e F S rule is fit other same r entry left left' w d why c =
      let k = rule_begins P F S rule is (at_risk P S) r entry in
      let start = fit_code P S r.start fit k.code (k.sorted (known_sorted S (at_risk P S) r k fit.sorted)) in
      let comes : driver P one_side n (rule.follows r) (premise_of r) r.start left ≡ Reached w left' = ap (λ (z : Driver). z (rule.follows r) (premise_of r) r.start left) (same_Some (driver P one_side n) other same) ∙ d in
      let kept : DriveKeeps P r.start (Reached w left') = subst (DriveKeeps P r.start) comes (drivers_keep P one_side n (rule.follows r) (premise_of r) r.start left start) in
      let goal : DriveLeads P (deep + 1) (rule.follows r) (premise_of r) r.start (Reached w left') = subst (DriveLeads P (deep + 1) (rule.follows r) (premise_of r) r.start) comes (driver_leads P one_side n (deep + 1) (omega (arith, e)) (rule.follows r) (premise_of r) r.start left) in
      last_closes P S fit r k w.end kept.0 goal.1 why c

  -- what drives in pass one tells what holds
  drivers_tell : (n deep : ℕ) → n + deep ≡ 256 → DriverTells deep (driver P one_side n)
  drivers_tell zero deep e F d S left fit = rounds_tell deep None (let h : deep ≡ 256 = omega (arith, e) in subst (λ m. nat_lt m 256 ≡ false) (sym h) refl) tt tt F (λ S rule is fit. never_last deep F S rule) d (enough left S) S left fit
  drivers_tell (suc n) deep e F d S left fit =
      rounds_tell deep (Some (driver P one_side n)) (lt-ltb deep 256 (omega (arith, e)), drivers_tell n (deep + 1) (omega (arith, e)))
      (lt-ltb deep 256 (omega (arith, e)), driver_leads P one_side n (deep + 1) (omega (arith, e))) (drivers_keep P one_side n) F (last_goes n deep e F) d (enough left S) S left fit

  -- so what is stuck at the top is a report that holds
  abbrev AnswerTells : Driven → Type 0
  AnswerTells (Reached w left) = Unit {0}
  AnswerTells (Stuck w ts left) = Reports P record { steps = w.steps; tries = ts }
  AnswerTells drive.Spent = Unit {0}

  unfinished : (o : Option Name) → is_none o ≡ false → is_some o ≡ true
  unfinished None e = absurd (true≢false e)
  unfinished (Some t) e = refl

  told_at_top : (E : Symbolic) (ts : Tries) → StuckTells P 0 nothing_follows top E ts → all_told P nothing_follows true E ts ≡ true
  told_at_top E ts s = λ i. all_among (is_told P nothing_follows E ts) (movable E) (λ u m. s.told u (among_those (λ t. not (is_among [] t)) u (movable E) m refl) (among_passed (is_movable E) u (thread_names E) m).1) i && s.sets refl i

  answer_tells : (o : Driven) → DriveLeads P 0 nothing_follows top (initial P) o → DriveTells P 0 nothing_follows top o → AnswerTells o
  answer_tells (Reached w left) leads t = tt
  answer_tells (Stuck w ts left) leads s = let (end, l) = leads 2 in rw l (λ i. unfinished (first_unfinished w.end.threads) s.waits i && told_at_top w.end ts s i && s.hold i)
  answer_tells drive.Spent leads t = tt

  module _ (fit : Fit P (initial P)) where
    first_tells : (left : RulesLeft) → AnswerTells (first_pass P left)
    first_tells left = answer_tells (first_pass P left) (driver_leads P one_side 256 0 refl nothing_follows top (initial P) left) (drivers_tell 256 0 refl nothing_follows top (initial P) left fit)

    after_tell : (w : Way) (ts : Tries) (o : Driven) → AnswerTells (Stuck w ts None) → AnswerTells (after_second w ts o)
    after_tell w ts (Reached v left) h = tt
    after_tell w ts (Stuck v us left) h = h
    after_tell w ts drive.Spent h = tt

    second_tells : (o : Driven) → AnswerTells o → AnswerTells (after_first P o)
    second_tells (Reached w left) h = tt
    second_tells (Stuck w ts left) h = after_tell w ts (second_pass P left) h
    second_tells drive.Spent h = tt

    passes_tell : (simple : Bool) (budget : ℕ) → AnswerTells (passes simple P budget)
    passes_tell true budget = first_tells None
    passes_tell false budget = second_tells (first_pass P (Some budget)) (first_tells (Some budget))

  reported : Report → Searched → Report
  reported R (found.Stuck r) = r
  reported R o = R

  is_stuck : Searched → Bool
  is_stuck (found.Stuck r) = true
  is_stuck o = false

  reports : (R : Report) (o : Driven) → AnswerTells o → answer P o ≡ found.Stuck R → Reports P R
  unfolding reported is_stuck
  reports R (Reached w left) h e = absurd (true≢false (sym (ap is_stuck e)))
  reports R (Stuck w ts left) h e = subst (Reports P) (ap (reported R) e) h
  reports R drive.Spent h e = absurd (true≢false (sym (ap is_stuck e)))

  -- the report of a stuck search holds
  pub report_holds : (fit : Fit P (initial P)) (budget : ℕ) (R : Report) → searched P budget ≡ found.Stuck R → Reports P R
  report_holds fit budget R e = reports R (passes (is_simple P) P budget) (passes_tell fit (is_simple P) budget) e
