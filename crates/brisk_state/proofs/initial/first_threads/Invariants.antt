use Rattle.std.proofs.Common.{◌≡◌, map, take}
use Rattle.brisk_syntax.specs.Texts.{text_of}
use Rattle.brisk_state.specs.Symbolic.{first_thread}
use Rattle.brisk_state.proofs.initial.first_threads.Given as goal

abbrev pub invariant-loop-role : goal.invariant-loop-role
invariant-loop-role l = l.threads.items ≡ map first_thread (map text_of (take l.role-index l.role-items))
