use Rattle.std.proofs.Common.{◌≡◌, ◌++◌, drop}
use Rattle.brisk_derivtext.specs.Lines.{spaced}
use Rattle.brisk_derivtext.proofs.writing.put_names.Given as goal

-- what is written, and what is left to go
abbrev pub invariant-loop-name : goal.invariant-loop-name
invariant-loop-name l = l.out.items ++ spaced (drop l.name-index l.name-items) ≡ l.initial.out.items ++ spaced l.names
