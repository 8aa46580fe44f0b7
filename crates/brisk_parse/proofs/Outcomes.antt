-- Parsers that stop.
use Rattle.std.proofs.Common.{◌≡◌, sym, ap, subst}
use Rattle.brisk_parse.specs.declared.fault.Stop.{Stop}
use Rattle.brisk_parse.specs.declared.fault.Stop.TheVariants.{Syntax, TooDeep, TooMany, NoMemory}
use Rattle.brisk_parse.specs.Outcomes.{Outcome, Parser, and_then, Stops}

-- where the first of two parsers stops, both stop
pub stops_then : {A B : Type 0} (d : Stop) (r : Outcome A) (f : A → Parser B) → Stops d r → Stops d (and_then r f)
stops_then (Syntax k) r f h = ap (λ r. and_then r f) h
stops_then (TooDeep k) r f h = ap (λ r. and_then r f) h
stops_then (TooMany k) r f h = ap (λ r. and_then r f) h
stops_then NoMemory r f h = tt

-- equal outcomes stop alike
pub stops_alike : {A : Type 0} (d : Stop) (r s : Outcome A) → r ≡ s → Stops d s → Stops d r
stops_alike d r s e h = subst (λ (o : Outcome _). Stops d o) (sym e) h
