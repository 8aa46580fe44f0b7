use Rattle.std.proofs.Common.{◌^◌, arith, ap, ◌∙◌, to_z, w64, pos}
use Rattle.std.specs.Int.{int_wrap, int_rem_euclid, w128}
use Rattle.std.specs.Prelude.{unsigned_abs}
use Rattle.std.proofs.lemmas.Int.{ints, to_z-of_z}
use Rattle.brisk_values.proofs.operation.wrap.Goals as goal

pub returns : goal.returns
unfolding int_wrap
returns c =
    to_z-of_z w64 c.cast_signed.result (omega (arith, ints)) ∙ c.cast_signed.ensures
    ∙ ap (λ x. to_z w64 (unsigned_abs x)) (to_z-of_z w128 c.rem_euclid-low.result (omega (arith, ints)) ∙ c.rem_euclid-low.ensures.value ∙ ap (λ x. int_rem_euclid x (pos (2 ^ 64))) (to_z-of_z w128 c.args.n c.ranges.n))
