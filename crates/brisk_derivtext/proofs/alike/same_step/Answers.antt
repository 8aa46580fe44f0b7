use Rattle.brisk_derivation.specs.Seen.{step_of}
use Rattle.brisk_derivtext.proofs.Equals.{decided}
use Rattle.brisk_derivtext.proofs.alike.same_step.Goals as goal

pub returns : goal.returns
returns c = decided c.equal.result (step_of c.args.s.now) (step_of c.args.t.now) c.equal.ensures
