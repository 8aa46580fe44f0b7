use Rattle.std.proofs.Common.{◌≡◌, drop, true}
use Rattle.std.specs.List.{list_any}
use Rattle.brisk_values.specs.Names.{same_name}
use Rattle.brisk_syntax.specs.Typing.{each_has_tag}
use Rattle.brisk_async.specs.PlainRuns.{first_tag}
use Rattle.brisk_trace.proofs.instance.first_tag.Given as goal

-- the enumeration is one of those that are left
abbrev pub invariant-loop-e : goal.invariant-loop-e
invariant-loop-e l = let left = drop l.e-index l.e-items in
    (first_tag left l.name ≡ first_tag l.enums l.name) × (list_any (λ n. same_name l.name n.name) left ≡ true) × (each_has_tag left ≡ true)
