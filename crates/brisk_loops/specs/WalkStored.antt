-- How walks are kept by proofs. A walk is plain data, so that it has a code.
use Rattle.std.specs.Prelude.{◌≡◌, ℕ, List, refl}
use Rattle.std.proofs.Common.{ap}
use Rattle.std.specs.Coded.{Coded, code_by, coded×, coded_list, coded_ℕ}
use base.Stored.{Gv, gnum, gcons}
use Rattle.brisk_values.specs.Names.{Name}
use Rattle.brisk_values.specs.Places.{coded_name}
use Rattle.brisk_syntax.specs.declared.program.Program.{Program}
use Rattle.brisk_syntax.specs.contracts.program.Program as program
use Rattle.brisk_syntax.specs.Syntax.{Code, Expression}
use Rattle.brisk_syntax.specs.Stored.{coded_code, coded_expression, first, second}
use Rattle.brisk_seq.specs.Items.{Items}
use Rattle.brisk_seq.specs.Stored.{coded_items}
use Rattle.brisk_facts.specs.Facts.{Facts}
use Rattle.brisk_facts.specs.Stored.{coded_facts}
use Rattle.brisk_state.specs.Symbolic.{Symbolic}
use Rattle.brisk_state.specs.Stored.{coded_symbolic}
use Rattle.brisk_derivation.specs.Steps.{Step}
use Rattle.brisk_derivation.specs.Stored.{step_stored, same_step}
use Rattle.brisk_rules.specs.Rules.{Owner, Kind, While, Repeat, For, Gather, Pick, Entered, Parted}
use Rattle.brisk_loops.specs.Walk.{Inside, Premise, First, Second, Open, Walked}

abbrev pub coded_step : Coded Step
coded_step = record { code = step_stored; inj = same_step }

abbrev pub coded_owner : Coded Owner
coded_owner = code_by (Name × Code) (coded× coded_name coded_code) (λ o. (o.name, o.rest)) (λ p. record { name = p.0; rest = p.1 }) (λ _. refl)

abbrev kind_stored : Kind → Gv
kind_stored (While t e) = gcons (gnum 0) (gcons (coded_name.code t) (coded_expression.code e))
kind_stored (Repeat s) = gcons (gnum 1) (coded_name.code s)
kind_stored (For s) = gcons (gnum 2) (coded_name.code s)
kind_stored (Gather t s c) = gcons (gnum 3) (gcons (coded_name.code t) (gcons (coded_name.code s) (coded_name.code c)))
kind_stored (Pick s) = gcons (gnum 4) (coded_name.code s)

pub same_kind : (a b : Kind) → kind_stored a ≡ kind_stored b → a ≡ b
same_kind (While t e) (While u f) p = λ i. While (coded_name.inj t u (ap (λ g. first (second g)) p) i) (coded_expression.inj e f (ap (λ g. second (second g)) p) i)
same_kind (Repeat s) (Repeat r) p = λ i. Repeat (coded_name.inj s r (ap second p) i)
same_kind (For s) (For r) p = λ i. For (coded_name.inj s r (ap second p) i)
same_kind (Gather t s c) (Gather u r d) p = λ i. Gather (coded_name.inj t u (ap (λ g. first (second g)) p) i) (coded_name.inj s r (ap (λ g. first (second (second g))) p) i) (coded_name.inj c d (ap (λ g. second (second (second g))) p) i)
same_kind (Pick s) (Pick r) p = λ i. Pick (coded_name.inj s r (ap second p) i)
same_kind a b p = cc

abbrev pub coded_kind : Coded Kind
coded_kind = record { code = kind_stored; inj = same_kind }

abbrev pub coded_entered : Coded Entered
coded_entered = code_by (Symbolic × (Facts × (List Owner × Kind))) (coded× coded_symbolic (coded× coded_facts (coded× (coded_list coded_owner) coded_kind)))
    (λ r. (r.start, (r.known, (r.owners, r.kind)))) (λ p. record { start = p.0; known = p.1.0; owners = p.1.1.0; kind = p.1.1.1 }) (λ _. refl)

abbrev pub coded_parted : Coded Parted
coded_parted = code_by (Symbolic × (Symbolic × (Name × Expression))) (coded× coded_symbolic (coded× coded_symbolic (coded× coded_name coded_expression)))
    (λ r. (r.first, (r.second, (r.owner, r.guard)))) (λ p. record { first = p.0; second = p.1.0; owner = p.1.1.0; guard = p.1.1.1 }) (λ _. refl)

abbrev inside_stored : Inside → Gv
inside_stored (Premise r) = gcons (gnum 0) (coded_entered.code r)
inside_stored (First r) = gcons (gnum 1) (coded_parted.code r)
inside_stored (Second r E X) = gcons (gnum 2) (gcons (coded_parted.code r) (gcons (coded_symbolic.code E) (coded_items.code X)))

pub same_inside : (a b : Inside) → inside_stored a ≡ inside_stored b → a ≡ b
same_inside (Premise r) (Premise q) p = λ i. Premise (coded_entered.inj r q (ap second p) i)
same_inside (First r) (First q) p = λ i. First (coded_parted.inj r q (ap second p) i)
same_inside (Second r E X) (Second q F Y) p = λ i. Second (coded_parted.inj r q (ap (λ g. first (second g)) p) i) (coded_symbolic.inj E F (ap (λ g. first (second (second g))) p) i) (coded_items.inj X Y (ap (λ g. second (second (second g))) p) i)
same_inside a b p = cc

abbrev pub coded_inside : Coded Inside
coded_inside = record { code = inside_stored; inj = same_inside }

abbrev pub coded_open : Coded Open
coded_open = code_by (Step × (Inside × (Symbolic × (Items × ℕ)))) (coded× coded_step (coded× coded_inside (coded× coded_symbolic (coded× coded_items coded_ℕ))))
    (λ o. (o.step, (o.inside, (o.state, (o.items, o.counted))))) (λ p. record { step = p.0; inside = p.1.0; state = p.1.1.0; items = p.1.1.1.0; counted = p.1.1.1.1 }) (λ _. refl)

abbrev pub coded_walked : Coded Walked
coded_walked = code_by (Program × (Symbolic × (Items × (List Open × (ℕ × ℕ)))))
    (coded× program.the_row.coded (coded× coded_symbolic (coded× coded_items (coded× (coded_list coded_open) (coded× coded_ℕ coded_ℕ)))))
    (λ w. (w.program, (w.state, (w.items, (w.entered, (w.applied, w.counted)))))) (λ p. record { program = p.0; state = p.1.0; items = p.1.1.0; entered = p.1.1.1.0; applied = p.1.1.1.1.0; counted = p.1.1.1.1.1 }) (λ _. refl)
