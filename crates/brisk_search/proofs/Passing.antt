-- A pass of the search, whose drive begins at the top, and what is answered for it.
use Rattle.std.proofs.Common.{◌≡◌, ℕ, true, false, Option, Some, None, sym, ap, ◌∙◌, subst}
use Rattle.std.specs.Prelude.{Ok}
use Rattle.brisk_values.specs.Names.{Name}
use Rattle.brisk_syntax.specs.declared.program.Program.{Program}
use Rattle.brisk_syntax.specs.WellTyped.{IsProgramWellTyped}
use Rattle.brisk_seq.specs.declared.tree.SeqProgram.{SeqProgram}
use Rattle.brisk_seq.specs.Items.{Items, ◌followed_by◌}
use Rattle.brisk_derivation.specs.declared.report.Report.{Report}
use Rattle.brisk_derivation.specs.Reports.{Tries}
use Rattle.brisk_derivation.specs.Steps.{Steps}
use Rattle.brisk_loops.specs.Walk.{Walked, finish, follows, line}
use Rattle.brisk_rules.specs.Derives.{first_unfinished, sequential, unless_unfinished}
use Rattle.brisk_rules.proofs.Fulfilled.{same_ok}
use Rattle.brisk_search.specs.declared.drive.Drive.TheVariants.{Top}
use Rattle.brisk_search.specs.declared.limits.Pass.{Pass}
use Rattle.brisk_search.specs.declared.limits.Pass.TheVariants.{First, Second}
use Rattle.brisk_search.specs.declared.outcome.Outcome.{Outcome}
use Rattle.brisk_search.specs.declared.outcome.Outcome.TheVariants as answers
use Rattle.brisk_search.specs.declared.turn.Driven.TheVariants as drive
use Rattle.brisk_search.specs.Drives as written
use Rattle.brisk_search.specs.Drives.{Driven, Way, top}
use Rattle.brisk_search.specs.Met.{AnswersAs, IsRewound, IsSearched, MeetsDrive, drive_at, way}
use Rattle.brisk_search.specs.Passes.{driver, first_pass, pass, second_pass}
use Rattle.brisk_search.specs.Searched.{Sequenced, Stuck, after_first, after_second, answer, is_simple, passes}
use Rattle.brisk_search.specs.Sound.{IsSound}
use Rattle.brisk_search.specs.Turns.{RulesLeft}
use Rattle.brisk_search.specs.Views.{left_of, sides_in}
use Rattle.brisk_search.proofs.Declared.{fit_first}
use Rattle.brisk_search.proofs.Reporting.{report_holds}
use Rattle.brisk_search.proofs.Valid.{sequenced_is_valid}

finished : (l : ℕ) (o : Option Name) (Q q : SeqProgram) → unless_unfinished l o Q ≡ Ok q → Q ≡ q
finished l None Q q e = same_ok Q q e
finished l (Some t) Q q e = absurd cc

module _ (budget : Option ℕ) (which : Pass) (w : Walked) (begins : IsRewound budget w) where
  -- the written pass
  abbrev written_pass : Driven
  written_pass = pass w.program (sides_in which) (left_of budget w.applied)

  pub pass_begins : drive_at budget which 256 Top w ≡ written_pass
  pass_begins = λ i. driver w.program (sides_in which) 256 (follows (begins.2 i)) top (begins.0 i) (left_of budget w.applied)

  module _ (v : Walked) (after : Driven → Driven) where
    -- it comes to the goal, and is finished
    pub answers_reached : ((r : Way) (l : RulesLeft) → after (written.Reached r l) ≡ written.Reached r l) → (D : Steps) (o : Outcome) → MeetsDrive budget (drive_at budget which 256 Top w) (drive.Reached D) w v →
        (q : SeqProgram) × (finish v ≡ Ok q) × (o ≡ answers.Sequenced D q) → AnswersAs w.program budget (after written_pass) o
    answers_reached same D o (X, adds, m) (q, ends, is) =
        let program : sequential w.program X ≡ q = (λ i. sequential (sym adds.0.0 i) ((sym (ap (λ (Z : Items). Z followed_by X) begins.1) ∙ sym adds.1) i)) ∙ finished (line v) (first_unfinished v.state.threads) (sequential v.program v.items) q ends in
        subst (AnswersAs w.program budget (after written_pass)) (sym is)
        (ap (λ d. answer w.program (after d)) (sym pass_begins ∙ m) ∙ ap (answer w.program) (same (way D X v.state) (left_of budget v.applied)) ∙ ap (λ Q. Sequenced D Q) program)

    -- the rules are spent
    pub answers_spent : after written.Spent ≡ written.Spent → MeetsDrive budget (drive_at budget which 256 Top w) drive.Spent w v → AnswersAs w.program budget (after written_pass) (answers.Budget v)
    answers_spent same m = (ap after (sym pass_begins ∙ m.1) ∙ same, m.0.0, m.0.1)

  module _ (v : Walked) (D : Steps) (tries : Tries) (m : MeetsDrive budget (drive_at budget which 256 Top w) (drive.Stuck D tries) w v) where
    pub stuck_so : written_pass ≡ written.Stuck (way D m.0 v.state) tries (left_of budget v.applied)
    stuck_so = sym pass_begins ∙ m.2

-- pass two goes on where pass one is stuck
pub goes_on_second : (budget : ℕ) (w v b : Walked) (begins : IsRewound (Some budget) w) (D : Steps) (tries : Tries) (o : Outcome) (m : MeetsDrive (Some budget) (drive_at (Some budget) First 256 Top w) (drive.Stuck D tries) w v) → b.program ≡ v.program → b.applied ≡ v.applied →
    AnswersAs b.program (Some budget) (after_second (way D m.0 v.state) tries (second_pass b.program (left_of (Some budget) b.applied))) o → AnswersAs w.program (Some budget) (after_first w.program (first_pass w.program (left_of (Some budget) w.applied))) o
goes_on_second budget w v b begins D tries o m program applied a =
    subst (λ d. AnswersAs w.program (Some budget) d o) (ap (after_first w.program) (sym (stuck_so (Some budget) First w begins v D tries m)))
    (subst (λ (z : Program × ℕ). AnswersAs z.0 (Some budget) (after_second (way D m.0 v.state) tries (second_pass z.0 (left_of (Some budget) z.1))) o) (λ i. ((program ∙ m.1.0.0) i, applied i)) a)

-- where both are stuck, the report is that of pass one
pub stuck_twice : (budget : ℕ) (w v : Walked) (begins : IsRewound (Some budget) w) (D : Steps) (tries : Tries) (r : Report) (first : Way) → first.steps ≡ r.steps → MeetsDrive (Some budget) (drive_at (Some budget) Second 256 Top w) (drive.Stuck D tries) w v →
    answer w.program (after_second first r.tries (second_pass w.program (left_of (Some budget) w.applied))) ≡ Stuck r
stuck_twice budget w v begins D tries r first same m =
    ap (λ d. answer w.program (after_second first r.tries d)) (stuck_so (Some budget) Second w begins v D tries m) ∙ (λ i. Stuck record { steps = same i; tries = r.tries })

-- ---- the answer

pub answers_simple : (P : Program) (budget : ℕ) (o : Outcome) → is_simple P ≡ true → AnswersAs P None (first_pass P None) o → IsSearched P budget o
answers_simple P budget (answers.Sequenced D Q) e a = ap (λ b. answer P (passes b P budget)) e ∙ a
answers_simple P budget (answers.Stuck r) e a = ap (λ b. answer P (passes b P budget)) e ∙ a
answers_simple P budget (answers.Budget v) e a = absurd a.2

pub answers_counted : (P : Program) (budget : ℕ) (o : Outcome) → is_simple P ≡ false → AnswersAs P (Some budget) (after_first P (first_pass P (Some budget))) o → IsSearched P budget o
answers_counted P budget (answers.Sequenced D Q) e a = ap (λ b. answer P (passes b P budget)) e ∙ a
answers_counted P budget (answers.Stuck r) e a = ap (λ b. answer P (passes b P budget)) e ∙ a
answers_counted P budget (answers.Budget v) e a = (ap (λ b. answer P (passes b P budget)) e ∙ ap (answer P) a.0, a.1, a.2)

pub answers_sound : (P : Program) (budget : ℕ) (o : Outcome) → IsProgramWellTyped P → IsSearched P budget o → IsSound P o
answers_sound P budget (answers.Sequenced D Q) typed a = sequenced_is_valid P budget D Q a
answers_sound P budget (answers.Stuck r) typed a = report_holds P (fit_first P typed) budget r a
answers_sound P budget (answers.Budget v) typed a = tt
