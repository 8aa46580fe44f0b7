use Rattle.std.proofs.Common.{◌∙◌, arith}
use Rattle.brisk_syntax.proofs.Places.{within_place}
use Rattle.brisk_syntax.proofs.segments.Segment.whole.Goals as goal

pub invariant_of-result : goal.invariant_of-result
invariant_of-result c = within_place c.behind-body.inside.items.items c.args.body.value 0 (c.behind-body.view_is ∙ c.deref.ensures) (omega arith)
