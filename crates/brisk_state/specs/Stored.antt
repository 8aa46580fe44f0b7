-- How symbolic states are kept.
use Rattle.std.specs.Prelude.{List, refl}
use Rattle.std.specs.Coded.{Coded, code_by, coded×, coded_list, coded_ℕ}
use Rattle.brisk_values.specs.Names.{Name}
use Rattle.brisk_values.specs.Places.{coded_name}
use Rattle.brisk_facts.specs.Facts.{Facts}
use Rattle.brisk_facts.specs.Stored.{coded_facts}
use Rattle.brisk_state.specs.Symbolic.{Key, Pending, Symbolic}
use Rattle.brisk_state.specs.declared.thread.Thread.{Thread}
use Rattle.brisk_state.specs.contracts.thread.Thread as thread

abbrev pub coded_key : Coded Key
coded_key = code_by (Name × (Name × Name)) (coded× coded_name (coded× coded_name coded_name)) (λ k. (k.from, (k.to, k.channel))) (λ p. record { from = p.0; to = p.1.0; channel = p.1.1 }) (λ _. refl)

abbrev pub coded_pending : Coded Pending
coded_pending = coded_list (coded× coded_key (coded_list coded_ℕ))

abbrev pub coded_symbolic : Coded Symbolic
coded_symbolic = code_by (List Thread × (Pending × Facts)) (coded× (coded_list thread.the_row.coded) (coded× coded_pending coded_facts))
    (λ s. (s.threads, (s.pending, s.facts))) (λ p. record { threads = p.0; pending = p.1.0; facts = p.1.1 }) (λ _. refl)
