-- What is answered for the texts of a sequential program and of a derivation.
use Rattle.std.specs.Prelude.{◌≡◌, ◌⊎◌, codes, Some}
use Rattle.brisk_syntax.specs.declared.program.Program.{Program}
use Rattle.brisk_derivation.specs.Steps.{Steps}
use Rattle.brisk_derivtext.specs.declared.line.Format.{Format}
use Rattle.brisk_derivtext.specs.Reading.{IsRead}
use Rattle.brisk_loops.specs.WalkKept.{kept}
use Rattle.brisk_check.specs.declared.verdict.CheckFault.{CheckFault}
use Rattle.brisk_check.specs.Checking.{Verdict, Valid, Invalid, OtherProgram, verdict}
use Rattle.brisk_check.specs.Told.{Causes}
use Rattle.brisk_cli.specs.declared.status.Status.{Status}
use Rattle.brisk_cli.specs.declared.status.Status.TheVariants.{Done, Refused, BadInput}
use Rattle.brisk_cli.specs.Files.{Text}
use Rattle.brisk_cli.specs.Lines.{counted, derivation_line, invalid_line}

-- the bytes are no text of a derivation, and the line of their fault is answered
pub record IsNoDerivation (bytes : Text) (status : Status) (text : Text) : Type 0 where
  pub fault : CheckFault
  pub fails : Causes bytes fault
  pub line : derivation_line fault ≡ Some text
  pub bad : status ≡ BadInput

-- by the verdict on a derivation
abbrev pub OfVerdict : Verdict → Status → Text → Type 0
OfVerdict Valid status text = (status ≡ Done) × (text ≡ codes "valid\n")
OfVerdict (Invalid failure) status text = (status ≡ Refused) × (invalid_line (kept failure.line) failure.why ≡ Some text)
OfVerdict (OtherProgram k) status text = (status ≡ Refused) × (text ≡ counted (codes "other program") k)

-- the bytes are the text of a derivation, and the verdict on it and on the sequential text is answered
pub record IsJudged (P : Program) (sequential bytes : Text) (status : Status) (text : Text) : Type 0 where
  pub format : Format
  pub derivation : Steps
  pub is_text : IsRead format bytes derivation
  pub tells : OfVerdict (verdict P sequential derivation) status text

-- the answer for the bytes of a sequential text and of a derivation of a well-typed program
abbrev pub OfDerivation : Program → Text → Text → Status → Text → Type 0
OfDerivation P sequential bytes status text = IsNoDerivation bytes status text ⊎ IsJudged P sequential bytes status text
