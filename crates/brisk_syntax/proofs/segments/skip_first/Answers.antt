use Rattle.std.proofs.Common.{ap, sym, ◌∙◌}
use Rattle.brisk_syntax.specs.Segments.{backwards, rest_of}
use Rattle.brisk_syntax.specs.Syntax.{◌then◌}
use Rattle.brisk_syntax.proofs.Places.{backwards_push, rest_backwards}
use Rattle.brisk_syntax.proofs.segments.skip_first.Goals as goal

pub returns-in-Some-rest-clause-rest : goal.returns-in-Some-rest-clause-rest
returns-in-Some-rest-clause-rest c =
    ap backwards c.push_reserved.ensures.items ∙ backwards_push c.pop.new.self.items c.in-Some-rest.rest
    ∙ ap (λ d. d then backwards c.pop.new.self.items) c.in-Some-rest.ensures.rest
    ∙ sym (rest_backwards c.pop.new.self.items c.in-Some.segment c.rest.ensures.some) ∙ ap (λ xs. rest_of (backwards xs)) (sym c.in-Some.ensures.items)

pub returns-in_default-rest-clause-rest : goal.returns-in_default-rest-clause-rest
returns-in_default-rest-clause-rest c =
    ap (λ d. d then backwards c.pop.new.self.items) c.in_default-rest.ensures.rest
    ∙ sym (rest_backwards c.pop.new.self.items c.in-Some.segment c.rest.ensures.some) ∙ ap (λ xs. rest_of (backwards xs)) (sym c.in-Some.ensures.items)
