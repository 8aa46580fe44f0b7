use Rattle.std.proofs.Common.{sym, ap, ◌∙◌, subst}
use Rattle.brisk_search.specs.declared.outcome.Outcome.{Outcome}
use Rattle.brisk_search.specs.Met.{IsSearched}
use Rattle.brisk_search.specs.Searched.{Searched, searched}
use Rattle.brisk_cli.specs.Rewriting.{OfSearched}
use Rattle.brisk_cli.proofs.sequenced.sequenced.Goals as goal

pub returns-clause-told : goal.returns-clause-told
returns-clause-told c = λ done.
    let P = c.args.program.now in let a = c.in_ok-answer-in-Budget.answer in
    let spent = subst (λ (o : Outcome). IsSearched P c.budget.result o) c.in-Budget.is c.in_ok-steps.ensures.searched in
    subst (λ (o : Searched). OfSearched done P o a.status a.text.items) (sym (ap (searched P) (sym c.budget.ensures) ∙ spent.0)) c.in_ok-answer-in-Budget.ensures
