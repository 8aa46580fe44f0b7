use Rattle.std.proofs.Common.{ap, sym, ◌∙◌}
use Rattle.brisk_state.specs.Symbolic.{first_facts}
use Rattle.brisk_state.proofs.First.{first_last}
use Rattle.brisk_state.proofs.initial.add_declared.Goals as goal

pub loop-decl-preserved : goal.loop-decl-preserved
loop-decl-preserved c =
    let at = c.args.at in let before = c.in-Some.before.now in let facts = c.loop-decl.facts in
    ap (first_facts at before) c.in_ok-add_first.ensures
    ∙ sym (first_last at before c.in-Some.decl.now facts)
    ∙ ap (λ ds. first_facts at ds facts) (sym c.in-Some.ensures.cases.0)
    ∙ c.loop-decl.invariant
