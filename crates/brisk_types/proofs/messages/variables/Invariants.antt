use Rattle.std.proofs.Common.{◌≡◌, ◌+◌, ◌*◌, ◌-◌, ◌<◌, ◌^◌, [], drop, take, length}
use Rattle.brisk_types.specs.Failures.{note_all}
use Rattle.brisk_types.specs.Names.{meaning_of}
use Rattle.brisk_types.specs.Statements as spec
use Rattle.brisk_types.proofs.messages.variables.Given as goal

-- what is noted, and what is left
abbrev pub invariant-loop-k : goal.invariant-loop-k
invariant-loop-k l = record {
  noted : note_all l.first.failure (spec.variables (meaning_of l.names) (take l.k l.vars) l.at (drop l.k l.vars) l.kinds)
      ≡ note_all l.fn.first.failure (spec.variables (meaning_of l.names) [] l.fn.at l.vars l.fn.kinds);
  room : l.at + 2 * (length l.vars - l.k) < 2 ^ 32;
}
