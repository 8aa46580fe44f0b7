use Rattle.std.proofs.Common.{◌≡◌, ◌<◌, rules, length, ap, sym, ◌∙◌, arith, length-drop}
use Rattle.std.proofs.lemmas.List.{take_rest}
use Rattle.brisk_syntax.specs.Segments.{code_from_place}
use Rattle.brisk_syntax.specs.Statements.{code_of}
use Rattle.brisk_syntax.proofs.Places.{place_code, place_within}
use Rattle.brisk_syntax.proofs.segments.Segment.statements.Goals as goal

pub offset_bounds-deref-self-inside : goal.offset_bounds-deref-self-inside
offset_bounds-deref-self-inside c =
    let e : code_of c.deref.result.now ≡ c.self.inside.body.value = ap code_of c.deref.ensures.value ∙ c.block.view_is ∙ c.deref-block.ensures in
    let within = place_within c.deref.result.now c.self.inside.body.value c.self.inside.place e c.self.invariant in
    omega (arith, within, c.deref.type_inv.1)

pub slice_bounds-result-count : goal.slice_bounds-result-count
slice_bounds-result-count c =
    let e : code_of c.deref.result.now ≡ c.self.inside.body.value = ap code_of c.deref.ensures.value ∙ c.block.view_is ∙ c.deref-block.ensures in
    let within = place_within c.deref.result.now c.self.inside.body.value c.self.inside.place e c.self.invariant in
    omega (arith, within)

pub slice_bounds-result-start : goal.slice_bounds-result-start
slice_bounds-result-start c =
    let e : code_of c.deref.result.now ≡ c.self.inside.body.value = ap code_of c.deref.ensures.value ∙ c.block.view_is ∙ c.deref-block.ensures in
    let within : c.self.inside.place < length c.deref.result.now = place_within c.deref.result.now c.self.inside.body.value c.self.inside.place e c.self.invariant in
    search (rules, within)

pub returns-clause-all : goal.returns-clause-all
returns-clause-all c =
    let e : code_of c.deref.result.now ≡ c.self.inside.body.value = ap code_of c.deref.ensures.value ∙ c.block.view_is ∙ c.deref-block.ensures in
    ap code_of (take_rest c.deref.result.now c.self.inside.place) ∙ sym (place_code c.self.inside.place c.deref.result.now)
    ∙ ap (code_from_place c.self.inside.place) e ∙ c.self.view_is

pub returns-clause-some : goal.returns-clause-some
returns-clause-some c =
    let e : code_of c.deref.result.now ≡ c.self.inside.body.value = ap code_of c.deref.ensures.value ∙ c.block.view_is ∙ c.deref-block.ensures in
    let within = place_within c.deref.result.now c.self.inside.body.value c.self.inside.place e c.self.invariant in
    omega (arith, within, length-drop c.self.inside.place c.deref.result.now, ap length (take_rest c.deref.result.now c.self.inside.place))
