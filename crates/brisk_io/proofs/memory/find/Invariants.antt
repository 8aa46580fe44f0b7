use Rattle.std.proofs.Common.{◌≡◌, drop}
use Rattle.brisk_io.specs.Files.{content}
use Rattle.brisk_io.proofs.memory.find.Given as goal

abbrev pub invariant-loop-file : goal.invariant-loop-file
invariant-loop-file l = content l.files l.name ≡ content (drop l.file-index l.files) l.name
