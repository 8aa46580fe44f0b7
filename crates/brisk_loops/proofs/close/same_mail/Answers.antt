use Rattle.std.proofs.Common.{sym, ap, ◌∙◌}
use Rattle.brisk_state.specs.Symbolic.{pending_where, same_pending}
use Rattle.brisk_loops.specs.CloseSeen.{kind_of}
use Rattle.brisk_rules.specs.Rules.{looks, looks_at_key}
use Rattle.brisk_loops.proofs.Closes.{all_pending}
use Rattle.brisk_loops.proofs.close.same_mail.Goals as goal

pub returns-in-While : goal.returns-in-While
returns-in-While c =
    let p = c.args.before.now.pending in let q = c.args.end.now.pending in
    c.same_mail.ensures ∙ (λ i. same_pending (sym (all_pending p) i) (sym (all_pending q) i))
    ∙ ap (λ k. same_pending (pending_where (looks_at_key (looks (kind_of k))) p) (pending_where (looks_at_key (looks (kind_of k))) q)) (sym c.in-While.is)

pub returns-in-Repeat : goal.returns-in-Repeat
returns-in-Repeat c =
    let p = c.args.before.now.pending in let q = c.args.end.now.pending in
    c.same_mail-in-Repeat.ensures ∙ (λ i. same_pending (sym (all_pending p) i) (sym (all_pending q) i))
    ∙ ap (λ k. same_pending (pending_where (looks_at_key (looks (kind_of k))) p) (pending_where (looks_at_key (looks (kind_of k))) q)) (sym c.in-Repeat.is)
