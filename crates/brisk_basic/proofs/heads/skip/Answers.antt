use Rattle.std.proofs.Common.{◌≡◌, ap, ◌∙◌}
use Rattle.brisk_syntax.specs.Segments.{rest_of}
use Rattle.brisk_syntax.specs.Syntax.{Code}
use Rattle.brisk_state.specs.Focus.{code_of}
use Rattle.brisk_state.specs.Symbolic.{Symbolic, thread_named, with_code}
use Rattle.brisk_basic.proofs.Lent.{of_one, on_one}
use Rattle.brisk_basic.proofs.heads.skip.Goals as goal

pub returns-in-Some : goal.returns-in-Some
returns-in-Some c =
    let S = c.args.state.now in let n = c.args.name in
    let after : Code → Symbolic = λ d. record S { threads = with_code n d S.threads } in
    of_one (code_of (thread_named S.threads n)) c.in-Some.code.now
    (λ d. c.code_mut.follows.lender c.skip.new.self ≡ after (rest_of d))
    c.in-Some.ensures.code
    (on_one c.code_mut.result c.in-Some.code c.in-Some.is (c.code_mut.follows.holds c.skip.new.self) ∙ ap after c.skip.ensures)
