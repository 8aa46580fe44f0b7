-- When the close of a gather finds nothing left over.
use Rattle.std.specs.Prelude.{◌≡◌, ◌≢◌, ◌↔◌, ℕ, true, None}
use Rattle.brisk_values.specs.Names.{Name, same_name}
use Rattle.brisk_async.specs.Laws.{AnyReceive}
use Rattle.brisk_state.specs.Symbolic.{Symbolic, numbers_at}
use Rattle.brisk_rules.specs.Rules.{first_fault, gather_tests}
use Rattle.brisk_stars.specs.Serving.{settled}
use Rattle.brisk_stars.specs.Threads.{IsStarThreads, at_in, member_by}

-- The last two tests of a gather's close, that no message of the member is left and that it is quiet, hold exactly where the settled
-- member has no message on the gather's channel.
abbrev pub NothingIsLeftOver : Type 0
NothingIsLeftOver =
    (sizes : Name → ℕ) (M : Name) (S : Symbolic) (a : AnyReceive) → IsStarThreads sizes M S → same_name M a.set ≢ true →
    (first_fault (gather_tests M a.set a.channel S) ≡ None) ↔ ((settled (member_by M (at_in S) (numbers_at S.pending) a.set)).up a.channel ≡ 0)
