use Rattle.std.proofs.Common.{sym, ap, ◌∙◌}
use Rattle.std.specs.Option.{option_copied}
use Rattle.brisk_state.specs.Same.{same_code}
use Rattle.brisk_state.proofs.Threads.{code_told}
use Rattle.brisk_search.proofs.Candidates.{code_told_in}
use Rattle.brisk_search.proofs.closing.is_where_it_was.Goals as goal

pub returns-in-Some-Some : goal.returns-in-Some-Some
returns-in-Some-Some c =
    let old = c.in-Some-Some.old.now in let new = c.in-Some-Some.new.now in
    code_told old new c.same_code.result c.same_code.ensures.0 c.same_code.ensures.1
    ∙ (λ i. same_code (code_told_in c.args.before.now c.args.name old (sym c.code_of.ensures ∙ ap option_copied c.in-Some-Some.is-0) i) (code_told_in c.args.state.now c.args.name new (sym c.code_of-2.ensures ∙ ap option_copied c.in-Some-Some.is-1) i))
