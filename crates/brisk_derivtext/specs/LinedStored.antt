-- How readers of lines are kept by proofs. A reader is plain data, so that it has a code.
use Rattle.std.specs.Prelude.{ℕ, Bool, List, Option, refl}
use Rattle.std.specs.Coded.{Coded, code_by, coded×, coded_ℕ, coded_bool, coded_list, coded_option}
use Rattle.brisk_values.specs.Names.{Name}
use Rattle.brisk_values.specs.Places.{coded_name}
use Rattle.brisk_derivation.specs.Steps.{Steps}
use Rattle.brisk_derivation.specs.Stored.{coded_steps}
use Rattle.brisk_derivtext.specs.declared.line.Format.{Format}
use Rattle.brisk_derivtext.specs.contracts.line.Format as format
use Rattle.brisk_derivtext.specs.declared.open.Open.{Open}
use Rattle.brisk_derivtext.specs.contracts.open.Open as rule
use Rattle.brisk_derivtext.specs.Lined.{Lined}
use Rattle.brisk_derivtext.specs.Reading.{Body, Ended, Reading}

abbrev pub coded_ended : Coded Ended
coded_ended = code_by (Name × Steps) (coded× coded_name coded_steps) (λ p. (p.name, p.steps)) (λ p. record { name = p.0; steps = p.1 }) (λ _. refl)

abbrev pub coded_body : Coded Body
coded_body = code_by (List Open × Steps) (coded× (coded_list rule.the_row.coded) coded_steps) (λ b. (b.entered, b.steps)) (λ p. record { entered = p.0; steps = p.1 }) (λ _. refl)

abbrev pub coded_reading : Coded Reading
coded_reading = code_by (Option Format × (List Ended × (Option Name × (Bool × (Body × Bool)))))
    (coded× (coded_option format.the_row.coded) (coded× (coded_list coded_ended) (coded× (coded_option coded_name) (coded× coded_bool (coded× coded_body coded_bool)))))
    (λ r. (r.format, (r.parts, (r.part, (r.main, (r.body, r.ended)))))) (λ p. record { format = p.0; parts = p.1.0; part = p.1.1.0; main = p.1.1.1.0; body = p.1.1.1.1.0; ended = p.1.1.1.1.1 }) (λ _. refl)

abbrev pub coded_lined : Coded Lined
coded_lined = code_by (ℕ × Reading) (coded× coded_ℕ coded_reading) (λ v. (v.count, v.reading)) (λ p. record { count = p.0; reading = p.1 }) (λ _. refl)
