use Rattle.std.proofs.Common.{sym, ap, ◌∙◌}
use Rattle.brisk_facts.specs.Facts.{facts_where}
use Rattle.brisk_loops.specs.CloseSeen.{kind_of}
use Rattle.brisk_rules.specs.Rules.{looks, looks_at}
use Rattle.brisk_loops.proofs.Closes.{all_facts}
use Rattle.brisk_loops.proofs.close.keep_looked_at.Goals as goal

pub returns-in-While : goal.returns-in-While
returns-in-While c = sym (all_facts c.args.facts.now) ∙ ap (λ k. facts_where (λ q. looks_at (looks (kind_of k)) q.0) c.args.facts.now) (sym c.in-While.is)

pub returns-in-Repeat : goal.returns-in-Repeat
returns-in-Repeat c = sym (all_facts c.args.facts.now) ∙ ap (λ k. facts_where (λ q. looks_at (looks (kind_of k)) q.0) c.args.facts.now) (sym c.in-Repeat.is)
