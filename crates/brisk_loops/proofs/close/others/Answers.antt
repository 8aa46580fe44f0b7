use Rattle.std.proofs.Common.{sym, ap, ◌∙◌}
use Rattle.std.specs.Prelude.{not}
use Rattle.brisk_facts.specs.Facts.{facts_where}
use Rattle.brisk_loops.specs.CloseSeen.{kind_of}
use Rattle.brisk_rules.specs.Rules.{looks, looks_at}
use Rattle.brisk_loops.proofs.Closes.{no_facts}
use Rattle.brisk_loops.proofs.close.others.Goals as goal

pub returns-in-While : goal.returns-in-While
returns-in-While c = c.new.ensures ∙ sym (no_facts c.args.end.now.facts) ∙ ap (λ k. facts_where (λ q. not (looks_at (looks (kind_of k)) q.0)) c.args.end.now.facts) (sym c.in-While.is)

pub returns-in-Repeat : goal.returns-in-Repeat
returns-in-Repeat c = c.new-in-Repeat.ensures ∙ sym (no_facts c.args.end.now.facts) ∙ ap (λ k. facts_where (λ q. not (looks_at (looks (kind_of k)) q.0)) c.args.end.now.facts) (sym c.in-Repeat.is)
