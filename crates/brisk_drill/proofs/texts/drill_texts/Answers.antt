use Rattle.std.proofs.Common.{refl}
use Rattle.std.specs.Fmt.{digits}
use Rattle.brisk_drill.specs.Drill.{receiver, sender}
use Rattle.brisk_drill.specs.Examples.{DrillTexts}
use Rattle.brisk_drill.proofs.texts.drill_texts.Goals as goal

computed : DrillTexts
unfolding digits receiver sender
computed = record {
  one = refl;
  two = refl;
}

pub returns : goal.returns
returns c = computed
