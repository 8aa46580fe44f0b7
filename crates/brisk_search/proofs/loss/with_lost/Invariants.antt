use Rattle.std.proofs.Common.{◌≡◌, ◌++◌, drop, map}
use Rattle.std.specs.Prelude.{◌||◌, filter}
use Rattle.brisk_syntax.specs.Texts.{text_of}
use Rattle.brisk_loops.specs.LeaveSeen.{lost_by}
use Rattle.brisk_rules.specs.Rules.{Entered}
use Rattle.brisk_search.specs.Tries.{is_dropped, is_known, places}
use Rattle.brisk_search.specs.Views.{IsPremiseOf}
use Rattle.brisk_search.proofs.loss.with_lost.Given as goal

-- the facts so far, and those of the roles that are left
abbrev pub invariant-loop-role : goal.invariant-loop-role
invariant-loop-role l =
    (r : Entered) → IsPremiseOf r l.premise l.walk.entered →
    l.items.items ++ filter (λ q. is_dropped l.premise.drops q || is_known (lost_by r l.walk.state) q) (places (map text_of (drop l.role-index l.role-items)))
    ≡ filter (λ q. is_dropped l.premise.drops q || is_known (lost_by r l.walk.state) q) (places (map text_of l.role-items))
