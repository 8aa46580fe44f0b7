use Rattle.std.proofs.Common.{◌+◌, ◌≤◌, length, reverse, ap, sym, subst, ◌∙◌, arith}
use Rattle.std.proofs.lemmas.List.{length-reverse}
use Rattle.brisk_derivation.specs.Depths.{steps_depth}
use Rattle.brisk_derivation.specs.Steps.{Steps}
use Rattle.brisk_derivtext.specs.Kept.{body_of, parts_of, reading_of, Counts}
use Rattle.brisk_derivtext.specs.Reading.{part_named}
use Rattle.brisk_derivtext.proofs.Counted.{part_counts, part_too_long}
use Rattle.brisk_derivtext.proofs.reading.use_part.Goals as goal

pub returns-then-part-reading : goal.returns-then-part-reading
returns-then-part-reading c =
    let e = length-reverse c.args.reading.body.entered.items in
    let few : length (body_of c.args.reading.body).entered + steps_depth c.in-Some.part.now.steps ≤ 1024 = omega (arith, e) in
    part_too_long (reading_of c.args.reading) (part_named c.args.name (parts_of c.args.reading.frame.parts.items)) c.in-Some.part.now.steps c.args.reading.bytes c.in-Some.part.now.bytes
    (ap (λ z. part_named c.args.name (parts_of z)) (sym c.deref.ensures.value) ∙ c.in-Some.ensures)
    few c.requires.counted c.in-Some.part.now.counted (omega arith)

pub go_on-requires : goal.go_on-requires
go_on-requires c =
    let h = part_counts (body_of c.args.reading.body) c.in-Some.part.now.steps c.args.reading.bytes c.in-Some.part.now.bytes c.requires.counted c.in-Some.part.now.counted in
    let P : Steps → Type 0 = λ z. Counts (c.args.reading.bytes + c.in-Some.part.now.bytes) (record { entered = reverse c.args.reading.body.entered.items; steps = z }) in
    subst P (sym c.in_ok-steps.ensures) h
