-- What contracts say of verdicts, in which numbers stay at the greatest `u64` where they would pass it.
use Rattle.std.specs.Prelude.{◌≡◌}
use Rattle.brisk_text.specs.Values.{Text}
use Rattle.brisk_syntax.specs.declared.program.Program.{Program}
use Rattle.brisk_derivation.specs.Steps.{Steps}
use Rattle.brisk_loops.specs.WalkKept.{kept}
use Rattle.brisk_derivtext.specs.declared.fault.DerivFault.{DerivFault}
use Rattle.brisk_derivtext.specs.declared.fault.DerivFault.TheVariants as deriv
use Rattle.brisk_derivtext.specs.declared.line.Format.{Format}
use Rattle.brisk_derivtext.specs.Reading.{Fails, IsRead}
use Rattle.brisk_derivtext.specs.Reading as text
use Rattle.brisk_check.specs.declared.verdict.CheckFault.{CheckFault}
use Rattle.brisk_check.specs.declared.verdict.CheckFault.TheVariants as fault
use Rattle.brisk_check.specs.declared.verdict.Verdict as declared
use Rattle.brisk_check.specs.declared.verdict.Verdict.TheVariants as told_as
use Rattle.brisk_check.specs.Checking.{Verdict, Valid, Invalid, OtherProgram, verdict}

-- a verdict, as it is told
abbrev pub told : Verdict → declared.Verdict
told Valid = told_as.Valid
told (Invalid failure) = told_as.Invalid (kept failure.line) failure.why
told (OtherProgram k) = told_as.OtherProgram k

-- this is the verdict on the one derivation whose text this is
abbrev pub Judges : Program → Text → Text → declared.Verdict → Type 0
Judges P bytes seq v = (f : Format) × (D : Steps) × IsRead f bytes D × (v ≡ told (verdict P seq D))

-- why there are no steps, as the check tells it
abbrev pub fault_of : DerivFault → CheckFault
fault_of (deriv.Line k) = fault.Deriv k
fault_of (deriv.TooLarge k) = fault.TooLarge k
fault_of deriv.NoMemory = fault.NoMemory

-- the text fails so, or there is no memory
abbrev pub Causes : Text → CheckFault → Type 0
Causes bytes (fault.Deriv k) = Fails bytes (text.AtLine k)
Causes bytes (fault.TooLarge k) = Fails bytes (text.TooLarge k)
Causes bytes fault.NoMemory = Unit {0}
