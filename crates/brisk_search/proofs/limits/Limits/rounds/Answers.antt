use Rattle.std.proofs.Common.{◌≤◌, None, sym, ap, subst, arith}
use Rattle.std.specs.Prelude.{sum_by}
use Rattle.brisk_syntax.specs.Counts.{statements}
use Rattle.brisk_state.specs.Symbolic.{Symbolic}
use Rattle.brisk_rules.specs.Standing.{stands_at, thread_names}
use Rattle.brisk_search.specs.Passes.{enough}
use Rattle.brisk_search.specs.Views.{left_of}
use Rattle.brisk_search.proofs.limits.Limits.rounds.Goals as goal

pub returns-in-None : goal.returns-in-None
returns-in-None c =
    let same = ap (λ (S : Symbolic). sum_by (λ t. statements (stands_at S t)) (thread_names S)) c.state.ensures in
    let least : c.saturating_add.result ≤ enough None c.args.walk.now.state = omega (arith, same, c.saturating_add.ensures, c.statements_left.ensures) in
    subst (λ b. c.saturating_add.result ≤ enough (left_of b c.args.walk.now.applied) c.args.walk.now.state) (sym c.in-None.is) least
