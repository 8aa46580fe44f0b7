use Rattle.std.proofs.Common.{◌≡◌, length, map}
use Rattle.brisk_syntax.specs.Texts.{text_of}
use Rattle.brisk_state.proofs.First.{over}
use Rattle.brisk_state.proofs.initial.first_facts.Given as goal

abbrev pub invariant-loop-role : goal.invariant-loop-role
invariant-loop-role l = over (map text_of l.ahead) l.facts ≡ over (map text_of l.initial.ahead) l.initial.facts

abbrev pub decreases-loop-role : goal.decreases-loop-role
decreases-loop-role l = length l.ahead
