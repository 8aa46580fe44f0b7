use Rattle.std.proofs.Common.{option_map, ap, sym, ◌∙◌}
use Rattle.brisk_syntax.specs.Segments.{backwards, head_of}
use Rattle.brisk_syntax.specs.Statements.{statement_of}
use Rattle.brisk_syntax.proofs.Places.{head_backwards, head_code, within_place}
use Rattle.brisk_syntax.proofs.segments.Code.first.Goals as goal

pub returns-in-Some : goal.returns-in-Some
returns-in-Some c =
    let some = within_place c.statements.result.now c.in-Some.segment.now 0 c.statements.ensures.all c.statements.ensures.some in
    ap (option_map statement_of) c.first.ensures.value ∙ head_code c.statements.result.now ∙ ap head_of c.statements.ensures.all
    ∙ sym (head_backwards c.in-Some.field-0-1.now c.in-Some.segment.now some)
    ∙ ap (λ xs. head_of (backwards xs)) (sym c.in-Some.ensures.cases.0 ∙ c.deref.ensures.value) ∙ ap head_of c.self.view_is
