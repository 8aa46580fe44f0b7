use Rattle.std.proofs.Common.{Ok, None, ap, sym, ◌∙◌}
use Rattle.brisk_syntax.specs.Expressions.{expression_of}
use Rattle.brisk_syntax.specs.Syntax.{Code}
use Rattle.brisk_facts.specs.Learning.{folded}
use Rattle.brisk_state.specs.Symbolic.{Symbolic, with_code}
use Rattle.brisk_basic.specs.Basic.{at_thread, known}
use Rattle.brisk_basic.specs.Steps.{decided_by}
use Rattle.brisk_basic.proofs.Known.{known_gives}
use Rattle.brisk_basic.proofs.rules.known.Goals as goal

pub returns-clause-ok : goal.returns-clause-ok
returns-clause-ok c =
    let S = c.args.state.now in let t = c.args.t in let code = c.in-Some.code.now in let e = expression_of c.in-Some-guard.e.now in
    let behind : Code → Symbolic = λ d. record S { threads = with_code t d S.threads } in
    ap (λ o. at_thread o (known S t)) (sym c.in-Some.ensures)
    ∙ known_gives S t c.in-Some-fold.value code e c.in-Some-guard.ensures (c.in-Some-fold.ensures ∙ ap (λ f. folded f t e) c.facts.ensures)
    ∙ (λ i. Ok record {
      statement = None;
      next = (ap behind (ap (λ b. decided_by b code) (sym c.is_true.ensures) ∙ sym c.in_ok-next.ensures) ∙ sym c.put_code.ensures) i;
    })
