use Rattle.std.proofs.Common.{◌≡◌, drop}
use Rattle.brisk_syntax.specs.Statements.{code_of}
use Rattle.brisk_quiet.specs.Left.{left_after}
use Rattle.brisk_quiet.specs.Quiet.{walk}
use Rattle.brisk_quiet.proofs.walk.+walk.Given as goal

-- what is left of the body, from what is left of the messages
abbrev pub invariant-in_block-loop-statement : goal.invariant-in_block-loop-statement
invariant-in_block-loop-statement l =
    walk l.receiver l.asked.channel (code_of (drop l.statement-index l.statement-items)) (left_after l.asked l.taken) ≡ walk l.receiver l.asked.channel l.body (left_after l.asked l.initial.taken)
