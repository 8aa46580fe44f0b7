use Rattle.std.proofs.Common.{◌≡◌, drop}
use Rattle.brisk_quiet.specs.Left.{left_after}
use Rattle.brisk_quiet.specs.Sender.{walk_pieces}
use Rattle.brisk_quiet.proofs.sender.in_pieces.Given as goal

-- what is left of the pieces, from what is left of the messages
abbrev pub invariant-loop-piece : goal.invariant-loop-piece
invariant-loop-piece l =
    walk_pieces l.receiver l.asked.receiver l.asked.channel (drop l.piece-index l.pieces) (left_after l.asked l.taken) ≡ walk_pieces l.receiver l.asked.receiver l.asked.channel l.pieces (left_after l.asked l.initial.taken)
