use Rattle.std.proofs.Common.{◌≡◌, ◌++◌, drop, map}
use Rattle.brisk_print.specs.Layout.{joined}
use Rattle.brisk_print.proofs.pieces.put_all.Given as goal

-- what is written, and then what is left
abbrev pub invariant-loop-item : goal.invariant-loop-item
invariant-loop-item g l = l.out.items ++ joined (map g.T.Piece.text (drop l.item-index l.items)) ≡ l.fn.out.items ++ joined (map g.T.Piece.text l.items)
