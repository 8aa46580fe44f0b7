use Rattle.std.proofs.Common.{◌-◌, ap, sym, ◌∙◌}
use Rattle.brisk_quiet.specs.Left.{came, left_after, number_in, taken_at}
use Rattle.brisk_quiet.specs.Quiet.{Counts, Ends, either as either_of}
use Rattle.brisk_quiet.proofs.Counted.{less_taken}
use Rattle.brisk_quiet.proofs.walk.either.Goals as goal

pub returns-in-Ends-Ends : goal.returns-in-Ends-Ends
returns-in-Ends-Ends c = λ q.
    let first = left_after q c.args.taken.now in let second = left_after q c.args.other in
    (λ i. Ends (λ d. (ap (λ (f : Counts). number_in q d - f d) c.keep_least.ensures ∙ less_taken (number_in q d) (taken_at c.args.taken.now d) (taken_at c.args.other d)) i))
    ∙ sym (λ i. either_of (came (c.in-Ends-Ends.is-0 i) first) (came (c.in-Ends-Ends.is-1 i) second))
