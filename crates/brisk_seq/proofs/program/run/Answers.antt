use Rattle.std.proofs.Common.{◌∙◌}
use Rattle.brisk_seq.specs.Answers.{Causes, HaltsWith}
use Rattle.brisk_seq.proofs.Evaluating.{if_err, if_ok, tells_by}
use Rattle.brisk_seq.proofs.Outcomes.{causes_run, outcome_is_seq, seq_apart}
use Rattle.brisk_seq.proofs.program.run.Goals as goal

pub start_store-requires : goal.start_store-requires
start_store-requires c = seq_apart c.args.program.now c.requires

pub returns-clause-ok : goal.returns-clause-ok
returns-clause-ok c =
    let Q = c.args.program.now in let g = c.args.instance.now in let cs = c.args.choices.now in
    let same = outcome_is_seq Q g cs c.args.turns c.requires c.in_ok-judge.ensures.ok.0 c.in_ok-store.store c.in_ok-store.ensures in
    if_ok c.evaluate.result _ (HaltsWith Q g cs c.args.turns) (λ s h. (c.in_ok-judge.ensures.ok, same ∙ h)) c.evaluate.ensures.halts

pub returns-clause-err : goal.returns-clause-err
returns-clause-err c =
    let Q = c.args.program.now in let g = c.args.instance.now in let cs = c.args.choices.now in
    let same = outcome_is_seq Q g cs c.args.turns c.requires c.in_ok-judge.ensures.ok.0 c.in_ok-store.store c.in_ok-store.ensures in
    if_err c.evaluate.result _ (Causes Q g cs c.args.turns) (λ f h. causes_run Q g cs c.args.turns c.in_ok-judge.ensures.ok f (tells_by _ _ f same h)) c.evaluate.ensures.stops
