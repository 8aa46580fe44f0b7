use Rattle.std.proofs.Common.{◌≡◌, ◌+◌, ◌-◌, ◌≤◌, length}
use Rattle.brisk_cli.proofs.Pieces.{IsFront}
use Rattle.brisk_cli.proofs.files.read_file.Given as goal

-- the files are as before, no count fell, and the bytes are the file's front
abbrev pub invariant-loop-piece : goal.invariant-loop-piece
invariant-loop-piece g l = record {
  files : g.F.Folder.files l.folder ≡ g.F.Folder.files l.fn.folder;
  misses : g.F.Folder.misses l.fn.folder ≤ g.F.Folder.misses l.folder;
  faults : g.F.Folder.faults l.fn.folder ≤ g.F.Folder.faults l.folder;
  room : length l.piece ≡ 4096;
  front : IsFront (g.F.Folder.files l.fn.folder) l.name l.bytes.items;
}

abbrev pub decreases-loop-piece : goal.decreases-loop-piece
decreases-loop-piece g l = l.limit + 1 - length l.bytes.items
