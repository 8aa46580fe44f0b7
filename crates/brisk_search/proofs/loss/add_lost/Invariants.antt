use Rattle.std.proofs.Common.{◌≡◌, ◌++◌, drop, map}
use Rattle.std.specs.Prelude.{◌||◌, filter}
use Rattle.brisk_syntax.specs.Declarations.{variable_of}
use Rattle.brisk_search.specs.Tries.{is_dropped, is_known}
use Rattle.brisk_search.proofs.loss.add_lost.Given as goal

-- the facts so far, and those of the variables that are left
abbrev pub invariant-loop-decl : goal.invariant-loop-decl
invariant-loop-decl l =
    l.items.items ++ filter (λ q. is_dropped l.drops q || is_known l.lost q) (map (λ d. record { at = l.role.name; variable = variable_of d }) (drop l.decl-index l.decl-items))
    ≡ l.initial.items.items ++ filter (λ q. is_dropped l.drops q || is_known l.lost q) (map (λ d. record { at = l.role.name; variable = variable_of d }) l.decl-items)
