use Rattle.std.proofs.Common.{◌≡◌, drop, map}
use Rattle.brisk_seq.specs.Running.{focus_on}
use Rattle.brisk_seq.specs.Sequential.{Run}
use Rattle.brisk_rules.specs.Unfolding.{all_move}
use Rattle.brisk_unfold.specs.Going.{shown}
use Rattle.brisk_unfold.proofs.unfolder.Unfolder.step_each.Given as goal

abbrev pub invariant-loop-owner : goal.invariant-loop-owner
invariant-loop-owner l = record {
  run : l.progress.run ≡ l.fn.progress.run;
  differs : (r : Run) → all_move (map (focus_on l.focus) (drop l.owner-index l.owner-items)) (shown l.progress r) ≡ all_move (map (focus_on l.focus) l.owners) (shown l.fn.progress r);
}
