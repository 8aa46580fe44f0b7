use Rattle.std.proofs.Common.{◌≡◌, ◌<◌, ℕ, false, get_or}
use Rattle.brisk_values.specs.Names.{same_name}
use Rattle.brisk_syntax.specs.declared.program.Role.{Role}
use Rattle.brisk_async.proofs.queue.role_place.Given as goal

abbrev pub invariant-loop-k : goal.invariant-loop-k
invariant-loop-k l = (j : ℕ) (d : Role) → j < l.k → same_name l.name (get_or l.role-items j d).name ≡ false
