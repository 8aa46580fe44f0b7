use Rattle.std.proofs.Common.{◌≡◌, ◌++◌, drop, map}
use Rattle.std.specs.Prelude.{◌&&◌, filter}
use Rattle.brisk_syntax.specs.Declarations.{variable_of}
use Rattle.brisk_syntax.specs.Typing.{is_among}
use Rattle.brisk_rules.specs.Standing.{stands_at}
use Rattle.brisk_search.specs.Tries.{is_known, touched_in}
use Rattle.brisk_search.proofs.loss.add_touched.Given as goal

-- the facts so far, and those of the variables that are left
abbrev pub invariant-loop-decl : goal.invariant-loop-decl
invariant-loop-decl l =
    l.items.items ++ filter (λ q. is_known l.state.facts q && is_among (touched_in (stands_at l.state q.at)) q.variable) (map (λ d. record { at = l.role.name; variable = variable_of d }) (drop l.decl-index l.decl-items))
    ≡ l.initial.items.items ++ filter (λ q. is_known l.state.facts q && is_among (touched_in (stands_at l.state q.at)) q.variable) (map (λ d. record { at = l.role.name; variable = variable_of d }) l.decl-items)
