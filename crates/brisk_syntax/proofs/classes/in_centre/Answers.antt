use Rattle.std.proofs.Common.{ap, sym, ◌∙◌}
use Rattle.brisk_syntax.specs.Classes.{in_centre}
use Rattle.brisk_syntax.specs.Statements.{code_of, statement_of}
use Rattle.brisk_syntax.specs.Syntax.{Repeat}
use Rattle.brisk_syntax.proofs.Classed.{no_gather_of_two}
use Rattle.brisk_syntax.proofs.classes.in_centre.Goals as goal

pub returns-in_default-as_slice-3 : goal.returns-in_default-as_slice-3
returns-in_default-as_slice-3 c =
    let turns = c.in-Repeat.turns in
    let body = ap code_of c.as_slice.ensures.value ∙ c.behind-turns.view_is ∙ c.deref-in-Repeat.ensures in
    no_gather_of_two turns.set turns.turn c.as_slice.result.now c.in_default-as_slice.len_at_least
    ∙ ap (λ b. in_centre (Repeat turns.set turns.turn b)) body ∙ ap (λ s. in_centre (statement_of s)) (sym c.in-Repeat.is)
