use Rattle.std.proofs.Common.{◌≡◌, ◌++◌, drop, map}
use Rattle.std.specs.Prelude.{◌&&◌, filter}
use Rattle.brisk_syntax.specs.Texts.{text_of}
use Rattle.brisk_syntax.specs.Typing.{is_among}
use Rattle.brisk_rules.specs.Standing.{stands_at}
use Rattle.brisk_search.specs.Tries.{is_known, places, touched_in}
use Rattle.brisk_search.proofs.loss.at_risk.Given as goal

-- the facts so far, and those of the roles that are left
abbrev pub invariant-loop-role : goal.invariant-loop-role
invariant-loop-role l =
    l.items.items ++ filter (λ q. is_known l.walk.state.facts q && is_among (touched_in (stands_at l.walk.state q.at)) q.variable) (places (map text_of (drop l.role-index l.role-items)))
    ≡ filter (λ q. is_known l.walk.state.facts q && is_among (touched_in (stands_at l.walk.state q.at)) q.variable) (places (map text_of l.role-items))
