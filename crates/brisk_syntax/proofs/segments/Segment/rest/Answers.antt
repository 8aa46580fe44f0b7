use Rattle.std.proofs.Common.{◌≡◌, ◌+◌, ap, sym, ◌∙◌, arith}
use Rattle.brisk_syntax.specs.Segments.{code_length, rest_of}
use Rattle.brisk_syntax.specs.Statements.{code_of}
use Rattle.brisk_syntax.proofs.Places.{length_code, place_length, place_past, place_within, rest_place, within_place}
use Rattle.brisk_syntax.proofs.segments.Segment.rest.Goals as goal

pub overflow_add-place : goal.overflow_add-place
overflow_add-place c =
    let e : code_of c.behind-self.inside.items.items ≡ c.self.inside.body.value = c.behind-self.view_is ∙ c.deref.ensures in
    let within = place_within c.behind-self.inside.items.items c.self.inside.body.value c.self.inside.place e c.self.invariant in
    omega (arith, within)

pub invariant_of-result : goal.invariant_of-result
invariant_of-result c =
    within_place c.behind-self.inside.items.items c.self.inside.body.value (c.self.inside.place + 1) (c.behind-self.view_is ∙ c.deref.ensures) (omega arith)

pub returns-then-place-count-clause-rest : goal.returns-then-place-count-clause-rest
returns-then-place-count-clause-rest c = sym (rest_place c.self.inside.place c.self.inside.body.value) ∙ ap rest_of c.self.view_is

pub returns-then-place-count-clause-some : goal.returns-then-place-count-clause-some
returns-then-place-count-clause-some c =
    omega (arith, place_length c.self.inside.place c.self.inside.body.value, ap code_length c.self.view_is, c.self.invariant)

pub returns-else-place-count-clause-rest : goal.returns-else-place-count-clause-rest
returns-else-place-count-clause-rest c =
    let e : code_of c.behind-self.inside.items.items ≡ c.self.inside.body.value = c.behind-self.view_is ∙ c.deref.ensures in
    sym (place_past (c.self.inside.place + 1) c.self.inside.body.value (omega (arith, length_code c.behind-self.inside.items.items, ap code_length e)))
    ∙ sym (rest_place c.self.inside.place c.self.inside.body.value) ∙ ap rest_of c.self.view_is

pub returns-else-place-count-clause-some : goal.returns-else-place-count-clause-some
returns-else-place-count-clause-some c =
    omega (arith, place_length c.self.inside.place c.self.inside.body.value, ap code_length c.self.view_is, c.self.invariant)
