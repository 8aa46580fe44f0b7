-- How checkers are kept by proofs. A checker is plain data, so that it has a code.
use Rattle.std.specs.Prelude.{ℕ, refl}
use Rattle.std.specs.Coded.{Coded, code_by, coded×, coded_ℕ, coded_list, coded_result}
use Rattle.brisk_loops.specs.Walk.{Called}
use Rattle.brisk_loops.specs.WalkStored.{coded_walked}
use Rattle.brisk_rules.specs.contracts.why.Why as why
use Rattle.brisk_rules.specs.declared.why.Why.{Why}
use Rattle.brisk_rules.specs.Derives.{Failure}
use Rattle.brisk_text.specs.Values.{Text}
use Rattle.brisk_derivtext.specs.contracts.fault.DerivFault as fault
use Rattle.brisk_derivtext.specs.Lined.{Lined}
use Rattle.brisk_derivtext.specs.LinedStored.{coded_lined}
use Rattle.brisk_check.specs.Seen.{Checked, Going}

abbrev pub coded_failure : Coded Failure
coded_failure = code_by (ℕ × Why) (coded× coded_ℕ why.the_row.coded) (λ f. (f.line, f.why)) (λ p. record { line = p.0; why = p.1 }) (λ _. refl)

abbrev pub coded_going : Coded Going
coded_going = code_by (Text × (Lined × Called)) (coded× (coded_list coded_ℕ) (coded× coded_lined (coded_result coded_walked coded_failure))) (λ g. (g.rest, (g.lined, g.walk))) (λ p. record { rest = p.0; lined = p.1.0; walk = p.1.1 }) (λ _. refl)

abbrev pub coded_checked : Coded Checked
coded_checked = coded_result coded_going fault.the_row.coded
