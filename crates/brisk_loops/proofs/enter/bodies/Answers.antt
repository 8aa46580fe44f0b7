use Rattle.std.proofs.Common.{sym, ◌∙◌, arith}
use Rattle.brisk_loops.proofs.Owners.{named_twice, one_more_loop}
use Rattle.brisk_loops.proofs.enter.bodies.Goals as goal

pub returns-then-is_among-clause-cause : goal.returns-then-is_among-clause-cause
returns-then-is_among-clause-cause c =
    named_twice c.args.state.now c.args.set c.args.owners.now c.loop-place.place c.index-owners-place.result c.index-owners-place.result (omega arith) c.index-owners-place.is
    c.loop-place.bodies.items c.in-Ok.body c.loop-place.invariant c.in-Ok.ensures.ok (sym c.if-is_among.true ∙ c.is_among.ensures)

pub loop-place-preserved : goal.loop-place-preserved
loop-place-preserved c =
    one_more_loop c.args.state.now c.args.set c.args.owners.now c.loop-place.place c.index-owners-place.result c.index-owners-place.result (omega arith) c.index-owners-place.is
    c.loop-place.bodies.items c.in-Ok.body c.add_code.new.codes.items c.loop-place.invariant c.in-Ok.ensures.ok (sym c.if-is_among.false ∙ c.is_among.ensures) c.in_ok-add_code.ensures
