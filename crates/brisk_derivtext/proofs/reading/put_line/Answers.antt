use Rattle.std.proofs.lemmas.Result.{err_from_is_err_and}
use Rattle.brisk_derivtext.specs.Kept.{body_of, reading_of}
use Rattle.brisk_derivtext.specs.Reading.{put}
use Rattle.brisk_derivtext.proofs.Counted.{line_counts, refused}
use Rattle.brisk_derivtext.proofs.reading.put_line.Goals as goal

pub returns-in_err-body : goal.returns-in_err-body
returns-in_err-body c =
    let h = refused (reading_of c.args.reading) (put c.args.line (body_of c.args.reading.body)) c.in_err-body.field-0.0 c.in_err-body.ensures in
    let p = err_from_is_err_and c.from_residual.result c.from_residual.ensures.1 in
    rw (p.1, p.2) h

pub go_on-requires : goal.go_on-requires
go_on-requires c = line_counts c.args.line (body_of c.args.reading.body) (body_of c.in_ok-body.body) c.args.reading.bytes c.args.bytes c.requires.counted.counted c.requires.line c.in_ok-body.ensures
