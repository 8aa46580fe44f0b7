use Rattle.std.proofs.Common.{◌≡◌, drop, map}
use Rattle.brisk_syntax.specs.Expressions.{expression_of}
use Rattle.brisk_facts.specs.Facts.{with_values}
use Rattle.brisk_facts.specs.Learning.{folded}
use Rattle.brisk_basic.proofs.values.passed.Given as goal

abbrev pub invariant-loop-i : goal.invariant-loop-i
invariant-loop-i l =
    with_values l.to (drop l.i l.vars) (map (folded l.facts l.from) (map expression_of (drop l.i l.exprs))) l.known
    ≡ with_values l.to l.vars (map (folded l.facts l.from) (map expression_of l.exprs)) l.facts
