use Rattle.std.proofs.Common.{ap, sym, ◌∙◌, arith, length}
use Rattle.std.specs.Prelude.{is_some}
use Rattle.brisk_syntax.specs.Syntax.{Code}
use Rattle.brisk_trace.specs.Gathers.{gather_of}
use Rattle.brisk_trace.proofs.Steady.{long_none}
use Rattle.brisk_trace.proofs.standing.is_gather.Goals as goal

pub returns-in_default-3 : goal.returns-in_default-3
returns-in_default-3 c = λ rest.
    let s = c.args.turns.now.set in
    let same = c.behind-turns.view_is ∙ c.deref.ensures in
    ap (λ (b : Code). is_some (gather_of s b rest)) (sym same)
    ∙ long_none s c.behind-turns.inside.items.items rest (omega (arith, c.in_default.len_at_least, ap length c.as_slice.ensures.value))
