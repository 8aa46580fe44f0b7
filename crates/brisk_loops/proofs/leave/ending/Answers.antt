use Rattle.brisk_derivation.specs.Seen.{step_of}
use Rattle.brisk_loops.specs.Walk.{entry}
use Rattle.brisk_loops.proofs.Ending.{closes_as, entered_loop, refuses_as}
use Rattle.brisk_loops.proofs.leave.ending.Goals as goal

pub returns-in-Ok : goal.returns-in-Ok
returns-in-Ok c = record {
  ok = λ P h.
      let r = c.args.rule.now in let g = entered_loop P r.state r.step r.side c.in_default.not-Branch h in
      closes_as (entry P r.state (step_of r.step)) r.side r.state c.args.end.now g.0 c.in-Ok.closed g.1 (c.in-Ok.ensures.ok P g.0 g.1);
  cause = λ P h. tt;
}

pub returns-in-Err : goal.returns-in-Err
returns-in-Err c = record {
  ok = λ P h. tt;
  cause = λ P h.
      let r = c.args.rule.now in let g = entered_loop P r.state r.step r.side c.in_default.not-Branch h in
      refuses_as (entry P r.state (step_of r.step)) r.side r.state c.args.end.now g.0 c.in-Err.why g.1 (c.in-Err.ensures.cause P g.0 g.1);
}
