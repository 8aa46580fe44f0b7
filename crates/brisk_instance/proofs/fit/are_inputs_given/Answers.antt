use Rattle.std.proofs.Common.{ap, sym, ◌∙◌, List, ◌∷◌, ◌+◌, map, drop, None, Some, arith}
use Rattle.std.proofs.lemmas.List.{at_drop_more}
use Rattle.brisk_syntax.specs.declared.program.Role.{Role}
use Rattle.brisk_syntax.specs.Texts.{text_of}
use Rattle.brisk_instance.specs.Given.{all_inputs, instance_with, place_of}
use Rattle.brisk_instance.specs.Walks.{is_whole, rest_after, same_input}
use Rattle.brisk_instance.proofs.Walks.{behind_one}
use Rattle.brisk_instance.proofs.fit.are_inputs_given.Goals as goal

pub returns-in-None : goal.returns-in-None
returns-in-None c =
    let i = instance_with c.args.sizes.now in
    let rest = map place_of c.loop-role.rest.now in
    let items = c.deref-role-items.result.now in
    let later = map text_of (drop (c.loop-role.role-index + 1) items) in
    sym (ap is_whole (sym c.loop-role.invariant
    ∙ at_drop_more (λ (xs : List Role). rest_after same_input (all_inputs i (map text_of xs)) rest) items c.loop-role.role-index c.role-item.result (omega (arith, c.loop-role-test.true))
    ∙ ap (λ (r : Role). rest_after same_input (all_inputs i (text_of r ∷ later)) rest) (sym c.role-item.is)
    ∙ behind_one i (text_of c.role-item.result) later rest None c.in-None.ensures))

pub loop-role-preserved : goal.loop-role-preserved
loop-role-preserved c =
    let i = instance_with c.args.sizes.now in
    let rest = map place_of c.loop-role.rest.now in
    let items = c.deref-role-items.result.now in
    let later = map text_of (drop (c.loop-role.role-index + 1) items) in
    sym (sym c.loop-role.invariant
    ∙ at_drop_more (λ (xs : List Role). rest_after same_input (all_inputs i (map text_of xs)) rest) items c.loop-role.role-index c.role-item.result (omega (arith, c.loop-role-test.true))
    ∙ ap (λ (r : Role). rest_after same_input (all_inputs i (text_of r ∷ later)) rest) (sym c.role-item.is)
    ∙ behind_one i (text_of c.role-item.result) later rest (Some (map place_of c.in-Some.behind.now)) c.in-Some.ensures)
