use Rattle.std.proofs.Common.{◌≡◌, ◌+◌, length, Err, rules}
use Rattle.brisk_lex.specs.declared.fault.LexFault.TheVariants.{NotUtf8}
use Rattle.brisk_lex.specs.Seen.{Gives}
use Rattle.brisk_lex.specs.Tokens.{tokens}
use Rattle.brisk_lex.proofs.Steps.{whole_text}
use Rattle.brisk_lex.proofs.Broken.{answer_is_at, fault_is_at}
use Rattle.brisk_lex.proofs.Count.{answer_is_few}
use Rattle.brisk_lex.proofs.text.tokens.Goals as goal

pub returns-in-Ok-clause-reads : goal.returns-in-Ok-clause-reads
returns-in-Ok-clause-reads c = rw (whole_text c.args.text.now c.in-Ok.ensures.cases.1, ← c.in-Ok.ensures.cases.0) c.lexed.ensures

pub returns-in-Ok-clause-broken : goal.returns-in-Ok-clause-broken
returns-in-Ok-clause-broken c = answer_is_at (λ v. v.items) c.args.text.now c.lexed.result (returns-in-Ok-clause-reads c)

pub returns-in_err-_tokens-clause-broken : goal.returns-in_err-_tokens-clause-broken
unfolding tokens
returns-in_err-_tokens-clause-broken c =
    let reads : Gives (λ v. v.items) c.from_residual.result (tokens c.args.text.now) = search rules in
    answer_is_at (λ v. v.items) c.args.text.now c.from_residual.result reads

pub returns-clause-broken : goal.returns-clause-broken
unfolding tokens
returns-clause-broken c =
    let k = length c.split_at.result.0.now + c.begun.result in
    let reads : tokens c.args.text.now ≡ Err (NotUtf8 k) = search rules in
    fault_is_at c.args.text.now (NotUtf8 k) reads

pub returns-in-Ok-clause-few : goal.returns-in-Ok-clause-few
returns-in-Ok-clause-few c = answer_is_few (λ v. v.items) c.args.text.now c.lexed.result (returns-in-Ok-clause-reads c)
