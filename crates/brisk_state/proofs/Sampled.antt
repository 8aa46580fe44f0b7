-- The sample is well typed.
use Rattle.std.proofs.Common.{refl}
use Rattle.brisk_syntax.specs.WellTyped.{IsProgramWellTyped}
use Rattle.brisk_state.specs.Sample.{sample}

pub sample_typed : IsProgramWellTyped sample
sample_typed = record {
  names = refl;
  tags = tt;
  channels = tt;
  roles = (
    record { decls = record { each = ((refl, refl), (refl, tt)); apart = refl; no_global = (refl, (refl, tt)) }; code = tt },
    (record { decls = record { each = tt; apart = refl; no_global = tt }; code = tt }, tt),
  );
}
