-- The standings of a watch as a function of the process.
use Rattle.std.proofs.Common.{◌≡◌, Bool, true, false, cond, Option, Some, None, refl, ap, ◌∙◌}
use Rattle.std.specs.Prelude.{if◌then◌else◌}
use Rattle.std.specs.FinMap.{get, insert, get-insert}
use Rattle.brisk_values.specs.declared.value.Pid.{Pid}
use Rattle.brisk_values.specs.Functions.{changed}
use Rattle.brisk_values.specs.Names.{same_process}
use Rattle.brisk_values.proofs.Entries.{process_total}
use Rattle.brisk_async.proofs.Maps.{same_pid}
use Rattle.brisk_trace.specs.declared.standing.Standing.{Standing}
use Rattle.brisk_trace.specs.Standings.{takes_again}
use Rattle.brisk_trace.specs.Watches.{Standings, at_start, or_start, standing_in}

-- to insert a standing is to change that of this process
pub one_standing : (m : Standings) (p : Pid) (st : Standing) → standing_in (insert m p st) ≡ changed same_process (standing_in m) p st
one_standing m p st = λ i q.
    (ap or_start (get-insert process_total m p st q ∙ ap (λ b. cond b (Some st) (get m q)) (same_pid p q))
    ∙ inside (same_process p q) (get m q)) i
  where
    inside : (b : Bool) (o : Option Standing) → or_start (cond b (Some st) o) ≡ (if b then st else or_start o)
    inside true o = refl
    inside false o = refl

-- what is taken out and put in again is put in
pub put_back : {X : Type 0} (b : Bool) (v : X) (o : Option X) → cond b (Some v) (cond b None o) ≡ cond b (Some v) o
put_back true v o = refl
put_back false v o = refl

-- at the start nothing is taken again
pub none_at_start : (from : Option Pid) → takes_again from at_start ≡ false
none_at_start None = refl
none_at_start (Some w) = refl
