use Rattle.std.proofs.Common.{◌≡◌, ◌-◌, length, reverse, []}
use Rattle.brisk_search.specs.Advance.{actor}
use Rattle.brisk_search.specs.Views.{at_walk}
use Rattle.brisk_search.proofs.standing.actor.Given as goal

-- who acts for the thread now, with those that wait, acts in the first one's turn
abbrev pub invariant-loop-turn : goal.invariant-loop-turn
invariant-loop-turn l =
    actor (at_walk l.walk) (length l.walk.state.threads - l._turn) l.walk.state (reverse l.waiting.items) l.thread
    ≡ actor (at_walk l.walk) (length l.walk.state.threads) l.walk.state [] l.fn.name
