use Rattle.std.proofs.Common.{◌≡◌, arith, ◌-◌, length, take, drop, length-drop}
use Rattle.std.proofs.Math.Seq.{take-add}
use Rattle.std.proofs.lemmas.List.{take_all}
use Rattle.brisk_cli.proofs.Pieces.{put_more}
use Rattle.brisk_cli.proofs.files.write_all.Goals as goal

pub loop-done-preserved : goal.loop-done-preserved
loop-done-preserved g c =
    let cut = take-add c.loop-done.done c.in-Ok.n c.args.bytes.now in
    let rest = drop c.loop-done.done c.args.bytes.now in
    let whole : take (length c.args.bytes.now - c.loop-done.done) rest ≡ rest = take_all (length c.args.bytes.now - c.loop-done.done) rest (omega (arith, length-drop c.loop-done.done c.args.bytes.now)) in
    record {
      within = omega (arith, c.in-Ok.ensures.cause.0, length-drop c.loop-done.done c.args.bytes.now, c.loop-done.invariant.within);
      faults = omega (arith, c.in-Ok.ensures.faults, c.loop-done.invariant.faults);
      put = rw cut (put_more (g.O.Sink.written c.args.out.now) (g.O.Sink.written c.loop-done.out) (g.O.Sink.written c.write.new.self) (take c.loop-done.done c.args.bytes.now) (drop c.loop-done.done c.args.bytes.now) c.in-Ok.n c.loop-done.invariant.put (rw whole at c.in-Ok.ensures.told));
    }
