use Rattle.std.proofs.Common.{sym, ap, ◌∙◌}
use Rattle.std.specs.Option.{option_copied}
use Rattle.brisk_state.specs.Same.{same_code}
use Rattle.brisk_state.proofs.Threads.{code_told}
use Rattle.brisk_search.proofs.Candidates.{code_told_in}
use Rattle.brisk_search.proofs.drive.stands_before.Goals as goal

pub returns-in-Some : goal.returns-in-Some
returns-in-Some c =
    let code = c.in-Some.code.now in
    code_told code c.args.rest.now c.same_code.result c.same_code.ensures.0 c.same_code.ensures.1
    ∙ (λ i. same_code (code_told_in c.args.state.now c.args.name code (sym c.code_of.ensures ∙ ap option_copied c.in-Some.is) i) c.args.rest.now)
