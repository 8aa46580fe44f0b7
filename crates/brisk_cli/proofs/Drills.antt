-- What is answered for the program that the text of a drill holds.
use Rattle.std.proofs.Common.{◌≡◌, ℕ, [], sym, subst}
use Rattle.brisk_syntax.specs.declared.program.Program.{Program}
use Rattle.brisk_derivation.specs.Steps.{Steps}
use Rattle.brisk_derivation.specs.declared.report.Report.{Report}
use Rattle.brisk_seq.specs.declared.tree.SeqProgram.{SeqProgram}
use Rattle.brisk_drill.specs.Drill.{drill}
use Rattle.brisk_search.specs.Searched.{Searched, Sequenced, Stuck, Spent}
use Rattle.brisk_cli.specs.declared.status.Status.{Status}
use Rattle.brisk_cli.specs.Answers.{IsDue}
use Rattle.brisk_cli.specs.Drills.{OfDrill, summary}
use Rattle.brisk_cli.specs.Files.{Text}
use Rattle.brisk_cli.specs.Languages.{Holds, sources}
use Rattle.brisk_cli.specs.Rewriting.{IsUnsequenced, OfSearched, search_of}
use Rattle.brisk_cli.proofs.Stages.{text_goes}

-- what follows for the program is answered for the drill whose text this is
pub drill_told : (n : ℕ) (P : Program) (bytes : Text) → bytes ≡ drill n → Holds sources bytes P → (s : Status) (t : Text) → OfSearched (λ D Q. summary n P D) P (search_of P) s t → OfDrill n s t
drill_told n P bytes is holds s t h =
    text_goes sources (λ P. OfSearched (λ D Q. summary n P D) P (search_of P)) s t (drill n) P (subst (λ (b : Text). Holds sources b P) is holds) h

-- such an answer is of success or a refusal
pub unsequenced_due : (P : Program) (misses misses' faults faults' : ℕ) (s : Status) (t : Text) → IsUnsequenced P s t → IsDue misses misses' faults faults' s
unsequenced_due P misses misses' faults faults' s t h = by (search_of P) (h (λ D Q. []))
  where
    by : (o : Searched) → OfSearched (λ D Q. []) P o s t → IsDue misses misses' faults faults' s
    by (Sequenced D Q) h = subst (IsDue misses misses' faults faults') (sym h.0) tt
    by (Stuck R) h = subst (IsDue misses misses' faults faults') (sym h.0) tt
    by Spent h = subst (IsDue misses misses' faults faults') (sym h.0) tt
