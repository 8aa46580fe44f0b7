use Rattle.std.proofs.Common.{◌≡◌, ◌++◌, drop, map}
use Rattle.brisk_print.specs.Layout.{behind_commas}
use Rattle.brisk_print.proofs.pieces.put_with_commas.Given as goal

-- what is written, and then what is left
abbrev pub invariant-loop-item : goal.invariant-loop-item
invariant-loop-item g l =
    l.out.items ++ behind_commas (map g.T.Piece.text (drop l.item-index l.others)) ≡ l.initial.out.items ++ behind_commas (map g.T.Piece.text l.others)
