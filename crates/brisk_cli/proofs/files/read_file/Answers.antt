use Rattle.std.proofs.Common.{◌∙◌, arith}
use Rattle.brisk_cli.proofs.Pieces.{at_end, one_piece_more, too_long}
use Rattle.brisk_cli.proofs.files.read_file.Goals as goal

pub returns-in-Ok-eq0-clause-told : goal.returns-in-Ok-eq0-clause-told
returns-in-Ok-eq0-clause-told g c =
    at_end (g.F.Folder.files c.args.folder.now) (g.F.Folder.files c.loop-piece.folder) c.args.name.now c.loop-piece.bytes.items c.read_at.new.piece c.len-in-loop-piece.result c.in-Ok-eq0.field-0 c.loop-piece.invariant.files (omega (arith, c.len-in-loop-piece.ensures, c.loop-piece.bytes.ok.0)) c.in-Ok-eq0.field-0-test (omega (arith, c.read_at.auto.piece, c.loop-piece.invariant.room)) c.loop-piece.invariant.front c.in-Ok-eq0.ensures.told

pub loop-piece-preserved : goal.loop-piece-preserved
loop-piece-preserved g c = record {
  files = c.in-Ok.ensures.files ∙ c.loop-piece.invariant.files;
  misses = omega (arith, c.in-Ok.ensures.misses, c.loop-piece.invariant.misses);
  faults = omega (arith, c.in-Ok.ensures.faults, c.loop-piece.invariant.faults);
  room = omega (arith, c.read_at.auto.piece, c.loop-piece.invariant.room);
  front = rw c.in-Ok-extend_from_slice.ensures.items (one_piece_more (g.F.Folder.files c.args.folder.now) (g.F.Folder.files c.loop-piece.folder) c.args.name.now c.loop-piece.bytes.items c.read_at.new.piece c.len-in-loop-piece.result c.in-Ok.n c.loop-piece.invariant.files (omega (arith, c.len-in-loop-piece.ensures, c.loop-piece.bytes.ok.0)) (omega (arith, c.in-Ok.ensures.bound, c.read_at.auto.piece)) c.loop-piece.invariant.front c.in-Ok.ensures.told);
}

pub returns-clause-told : goal.returns-clause-told
returns-clause-told g c =
    too_long (g.F.Folder.files c.args.folder.now) c.args.name.now c.loop-piece.bytes.items c.args.limit c.loop-piece.invariant.front (omega (arith, c.len.ensures, c.loop-piece-test.false, c.loop-piece.bytes.ok.0))
