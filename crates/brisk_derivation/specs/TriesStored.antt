-- How tries are kept by proofs: as trees of numbers, of which each stands for the tries of one report.
use Rattle.std.specs.Prelude.{◌≡◌, refl}
use Rattle.std.proofs.Common.{ap}
use Rattle.std.specs.Coded.{Coded}
use base.Stored.{Gv, gnil, gnum, gcons}
use Rattle.brisk_syntax.specs.Stored.{first, second}
use Rattle.brisk_derivation.specs.contracts.fault.SideFault as fault
use Rattle.brisk_derivation.specs.declared.fault.SideFault.{SideFault}
use Rattle.brisk_derivation.specs.Reports.{TryEnd, Fails, StuckFirst, StuckSecond, Try, Tried, Tries, no_tries, ◌▹◌}
use Rattle.brisk_derivation.specs.Stored.{step_stored, same_step}

abbrev pub coded_fault : Coded SideFault
coded_fault = fault.the_row.coded

abbrev mutual
  pub end_stored : TryEnd → Gv
  end_stored (Fails why) = gcons (gnum 0) (coded_fault.code why)
  end_stored (StuckFirst tries) = gcons (gnum 1) (tries_stored tries)
  end_stored (StuckSecond tries) = gcons (gnum 2) (tries_stored tries)

  pub try_stored : Try → Gv
  try_stored (Tried rule end) = gcons (step_stored rule) (end_stored end)

  pub tries_stored : Tries → Gv
  tries_stored no_tries = gnil
  tries_stored (t ▹ rest) = gcons (try_stored t) (tries_stored rest)

mutual
  pub same_end : (x y : TryEnd) → end_stored x ≡ end_stored y → x ≡ y
  same_end (Fails why) (Fails other) p = ap Fails (coded_fault.inj why other (ap second p))
  same_end (StuckFirst a) (StuckFirst b) p = ap StuckFirst (same_tries a b (ap second p))
  same_end (StuckSecond a) (StuckSecond b) p = ap StuckSecond (same_tries a b (ap second p))
  same_end x y p = cc

  pub same_try : (x y : Try) → try_stored x ≡ try_stored y → x ≡ y
  same_try (Tried r a) (Tried s b) p = λ i. Tried (same_step r s (ap first p) i) (same_end a b (ap second p) i)

  pub same_tries : (x y : Tries) → tries_stored x ≡ tries_stored y → x ≡ y
  same_tries no_tries no_tries p = refl
  same_tries (t ▹ a) (u ▹ b) p = λ i. same_try t u (ap first p) i ▹ same_tries a b (ap second p) i
  same_tries x y p = cc

abbrev pub coded_tries : Coded Tries
coded_tries = record { code = tries_stored; inj = same_tries }
