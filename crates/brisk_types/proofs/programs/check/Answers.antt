use Rattle.brisk_syntax.specs.Tokens.{program_tokens}
use Rattle.brisk_types.specs.Declarations.{failures}
use Rattle.brisk_types.proofs.Bounding.{program_below}
use Rattle.brisk_types.proofs.Firsts.{checked, told_below}
use Rattle.brisk_types.proofs.programs.check.Goals as goal

pub returns-in-Ok : goal.returns-in-Ok
returns-in-Ok c =
    let P = c.args.program.now in
    let exact = checked (failures P) c.in-Ok.first.failure c.answer.result c.in-Ok.ensures c.answer.ensures in
    record { exact = exact; below = told_below (program_tokens P) (failures P) c.answer.result (program_below P) exact }
