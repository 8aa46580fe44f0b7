-- What holds of each answer of the search.
use Rattle.brisk_syntax.specs.declared.program.Program.{Program}
use Rattle.brisk_rules.specs.Derives.{Valid}
use Rattle.brisk_rules.specs.Reports.{Reports}
use Rattle.brisk_search.specs.declared.outcome.Outcome.{Outcome}
use Rattle.brisk_search.specs.declared.outcome.Outcome.TheVariants.{Sequenced, Stuck, Budget}

-- the derivation that is answered is valid, and has the sequential program that is answered; and the report holds
abbrev pub IsSound : Program → Outcome → Type 0
IsSound P (Sequenced D Q) = Valid P D Q
IsSound P (Stuck report) = Reports P report
IsSound P (Budget w) = Unit {0}
