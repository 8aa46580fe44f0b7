use Rattle.std.proofs.Common.{◌≡◌, drop}
use Rattle.brisk_syntax.specs.Centres.{is_wanted}
use Rattle.brisk_syntax.specs.Classes.{every, talks_to}
use Rattle.brisk_syntax.specs.Statements.{code_of}
use Rattle.brisk_syntax.proofs.classes.all_talk.Given as goal

abbrev pub invariant-loop-s : goal.invariant-loop-s
invariant-loop-s l = every (talks_to (is_wanted l.wanted)) (code_of (drop l.s-index l.s-items)) ≡ every (talks_to (is_wanted l.wanted)) l.body
