use Rattle.std.proofs.Common.{◌≡◌, drop, ap, ◌∙◌}
use Rattle.brisk_derivtext.specs.Parsing.{line_in}
use Rattle.brisk_check.specs.Checking.{feed}
use Rattle.brisk_check.proofs.feeding.feed_all.Goals as goal

pub loop-left-preserved : goal.loop-left-preserved
loop-left-preserved c =
    let left : drop c.in_ok-more.bytes c.loop-left.left.now ≡ c.split_at.result.1.now = (let k = c.split_at.ensures in cc) in
    λ d e.
    let i = c.loop-left.invariant d e in
    let n = c.in_ok-more.ensures.fed i.0 i.1 in
    (n.0, n.1, i.2 ∙ n.2 ∙ ap (feed line_in n.0) left)
