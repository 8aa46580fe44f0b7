-- How derivations are kept by proofs: as trees of numbers, of which each stands for one derivation.
use Rattle.std.specs.Prelude.{◌≡◌, List, refl}
use Rattle.std.proofs.Common.{ap}
use Rattle.std.specs.Coded.{Coded, coded_list}
use base.Stored.{Gv, gnil, gnum, gcons}
use Rattle.brisk_values.specs.Places.{coded_name}
use Rattle.brisk_syntax.specs.Stored.{coded_names, first, second}
use Rattle.brisk_derivation.specs.contracts.steps.BasicStep as basic
use Rattle.brisk_derivation.specs.contracts.steps.Fact as fact
use Rattle.brisk_derivation.specs.declared.steps.BasicStep.{BasicStep}
use Rattle.brisk_derivation.specs.declared.steps.Fact.{Fact}
use Rattle.brisk_derivation.specs.Steps.{Step, Basic, Branch, While, For, Repeat, Gather, Pick, Steps, no_steps, ◌▷◌}

abbrev pub coded_basic : Coded BasicStep
coded_basic = basic.the_row.coded

abbrev pub coded_drops : Coded (List Fact)
coded_drops = coded_list fact.the_row.coded

abbrev mutual
  pub step_stored : Step → Gv
  step_stored (Basic b) = gcons (gnum 0) (coded_basic.code b)
  step_stored (Branch t a b) = gcons (gnum 1) (gcons (coded_name.code t) (gcons (steps_stored a) (steps_stored b)))
  step_stored (While t drops a) = gcons (gnum 2) (gcons (coded_name.code t) (gcons (coded_drops.code drops) (steps_stored a)))
  step_stored (For s ts drops a) = gcons (gnum 3) (gcons (coded_name.code s) (gcons (coded_names.code ts) (gcons (coded_drops.code drops) (steps_stored a))))
  step_stored (Repeat t drops a) = gcons (gnum 4) (gcons (coded_name.code t) (gcons (coded_drops.code drops) (steps_stored a)))
  step_stored (Gather t drops a) = gcons (gnum 5) (gcons (coded_name.code t) (gcons (coded_drops.code drops) (steps_stored a)))
  step_stored (Pick t drops a) = gcons (gnum 6) (gcons (coded_name.code t) (gcons (coded_drops.code drops) (steps_stored a)))

  pub steps_stored : Steps → Gv
  steps_stored no_steps = gnil
  steps_stored (s ▷ rest) = gcons (step_stored s) (steps_stored rest)

abbrev at1 : Gv → Gv
at1 g = first (second g)

abbrev at2 : Gv → Gv
at2 g = first (second (second g))

abbrev at3 : Gv → Gv
at3 g = first (second (second (second g)))

abbrev from3 : Gv → Gv
from3 g = second (second (second g))

abbrev from4 : Gv → Gv
from4 g = second (second (second (second g)))

mutual
  pub same_step : (x y : Step) → step_stored x ≡ step_stored y → x ≡ y
  same_step (Basic b) (Basic c) p = ap Basic (coded_basic.inj b c (ap second p))
  same_step (Branch t a b) (Branch u c d) p = λ i. Branch (coded_name.inj t u (ap at1 p) i) (same_steps a c (ap at2 p) i) (same_steps b d (ap from3 p) i)
  same_step (While t f a) (While u g b) p = λ i. While (coded_name.inj t u (ap at1 p) i) (coded_drops.inj f g (ap at2 p) i) (same_steps a b (ap from3 p) i)
  same_step (For s ts f a) (For r us g b) p = λ i. For (coded_name.inj s r (ap at1 p) i) (coded_names.inj ts us (ap at2 p) i) (coded_drops.inj f g (ap at3 p) i) (same_steps a b (ap from4 p) i)
  same_step (Repeat t f a) (Repeat u g b) p = λ i. Repeat (coded_name.inj t u (ap at1 p) i) (coded_drops.inj f g (ap at2 p) i) (same_steps a b (ap from3 p) i)
  same_step (Gather t f a) (Gather u g b) p = λ i. Gather (coded_name.inj t u (ap at1 p) i) (coded_drops.inj f g (ap at2 p) i) (same_steps a b (ap from3 p) i)
  same_step (Pick t f a) (Pick u g b) p = λ i. Pick (coded_name.inj t u (ap at1 p) i) (coded_drops.inj f g (ap at2 p) i) (same_steps a b (ap from3 p) i)
  same_step x y p = cc

  pub same_steps : (x y : Steps) → steps_stored x ≡ steps_stored y → x ≡ y
  same_steps no_steps no_steps p = refl
  same_steps (s ▷ a) (r ▷ b) p = λ i. same_step s r (ap first p) i ▷ same_steps a b (ap second p) i
  same_steps x y p = cc

abbrev pub coded_steps : Coded Steps
coded_steps = record { code = steps_stored; inj = same_steps }
