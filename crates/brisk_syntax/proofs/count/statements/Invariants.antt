use Rattle.std.proofs.Common.{◌≡◌, ◌+◌, ◌-◌, ◌<◌, ◌^◌, min, drop, map}
use Rattle.std.specs.Prelude.{sum_by}
use Rattle.brisk_syntax.specs.Counts.{statements}
use Rattle.brisk_syntax.specs.Texts.{text_of}
use Rattle.brisk_syntax.proofs.count.statements.Given as goal

-- what is counted, and what is left
abbrev pub invariant-loop-role : goal.invariant-loop-role
invariant-loop-role l =
    (l.count < 2 ^ 64) × (min (l.count + sum_by (λ r. statements r.code) (map text_of (drop l.role-index l.role-items))) (2 ^ 64 - 1) ≡ min (sum_by (λ r. statements r.code) l.program.roles) (2 ^ 64 - 1))
