use Rattle.std.proofs.Common.{◌<◌, length, sym, ap, ◌∙◌, arith}
use Rattle.brisk_derivation.specs.Seen.{step_of}
use Rattle.brisk_derivtext.specs.declared.sharing.Met.{Met}
use Rattle.brisk_derivtext.specs.Alike.{same_step}
use Rattle.brisk_derivtext.proofs.Meeting.{met_here, one_there}
use Rattle.brisk_derivtext.proofs.sharing.meet.Goals as goal

pub returns-then-same_step : goal.returns-then-same_step
returns-then-same_step c =
    let within : c.loop-i.i < length c.loop-i.met.items = omega (arith, c.loop-i-test.true, c.len-i-end.ensures, ap length c.loop-i.invariant.0) in
    let one = one_there c.loop-i.met.items c.loop-i.i c.index_mut.result.now c.index.result.now within c.index_mut.ensures.value c.index.ensures in
    met_here c.loop-i.met.items c.loop-i.i c.index_mut.result.now (step_of c.args.step.now) _ within (sym c.index_mut.ensures.value) (ap (λ (m : Met). same_step (step_of m.step.now) (step_of c.args.step.now)) one ∙ sym c.same_step.ensures ∙ c.if-same_step.true) c.loop-i.invariant.1
