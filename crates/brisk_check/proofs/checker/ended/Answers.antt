use Rattle.std.proofs.Common.{◌≡◌, sym, ◌∙◌, arith}
use Rattle.brisk_derivtext.specs.Lined.{number_behind}
use Rattle.brisk_check.specs.Working.{work_of}
use Rattle.brisk_check.proofs.Seeing.{ends_early}
use Rattle.brisk_check.proofs.checker.ended.Goals as goal

pub returns-then-not-is_done-clause-cause : goal.returns-then-not-is_done-clause-cause
returns-then-not-is_done-clause-cause c =
    let g = work_of c.args.work.now in
    let number : c.saturating_add-line.result ≡ number_behind c.args.work.now.lines.count = omega arith in
    ends_early g c.args.seq_text.now c.saturating_add-line.result (sym c.is_done.ensures ∙ c.if-not-is_done.true) number
