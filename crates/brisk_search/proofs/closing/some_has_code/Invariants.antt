use Rattle.std.proofs.Common.{◌≡◌, drop}
use Rattle.std.specs.List.{list_any}
use Rattle.brisk_rules.specs.Standing.{has_code}
use Rattle.brisk_search.proofs.closing.some_has_code.Given as goal

abbrev pub invariant-loop-owner : goal.invariant-loop-owner
invariant-loop-owner l = list_any (λ o. has_code l.state o.name) l.owners ≡ list_any (λ o. has_code l.state o.name) (drop l.owner-index l.owners)
