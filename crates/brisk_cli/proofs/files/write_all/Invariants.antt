use Rattle.std.proofs.Common.{◌-◌, ◌≤◌, length, take}
use Rattle.brisk_cli.specs.Files.{Put}
use Rattle.brisk_cli.proofs.files.write_all.Given as goal

abbrev pub invariant-loop-done : goal.invariant-loop-done
invariant-loop-done g l = record {
  within : l.done ≤ length l.bytes;
  faults : g.O.Sink.faults l.fn.out ≤ g.O.Sink.faults l.out;
  put : Put (g.O.Sink.written l.fn.out) (g.O.Sink.written l.out) (take l.done l.bytes);
}

abbrev pub decreases-loop-done : goal.decreases-loop-done
decreases-loop-done g l = length l.bytes - l.done
