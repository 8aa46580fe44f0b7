use Rattle.std.proofs.Common.{ap, sym, ◌∙◌}
use Rattle.brisk_syntax.specs.Segments.{backwards, or_done}
use Rattle.brisk_syntax.specs.Syntax.{◌then◌}
use Rattle.brisk_syntax.proofs.Places.{backwards_push}
use Rattle.brisk_syntax.proofs.segments.put_first.Goals as goal

pub returns-in-Some-clause-code : goal.returns-in-Some-clause-code
returns-in-Some-clause-code c =
    ap backwards c.push_reserved.ensures.items ∙ backwards_push c.args.segments.now.items c.in-Some.front
    ∙ ap (λ o. or_done o then backwards c.args.segments.now.items) (sym c.in-Some.is)
