-- The sample is well typed.
use Rattle.std.proofs.Common.{[], refl}
use Rattle.brisk_syntax.specs.WellTyped.{IsProgramWellTyped}
use Rattle.brisk_report.specs.Sample.{sample}

pub sample_typed : IsProgramWellTyped sample
sample_typed = record {
  names = refl;
  tags = tt;
  channels = (tt, tt);
  roles = (
    record { decls = record { each = tt; apart = refl; no_global = tt }; code = tt },
    (
      record { decls = record { each = tt; apart = refl; no_global = tt }; code = ((([], refl, tt), refl), ((([], refl, tt), refl), tt)) },
      tt,
    ),
  );
}
