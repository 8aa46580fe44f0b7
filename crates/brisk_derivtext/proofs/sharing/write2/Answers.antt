use Rattle.std.proofs.Common.{◌++◌, sym, ap, ◌∙◌}
use Rattle.std.specs.Prelude.{codes, []}
use Rattle.brisk_derivtext.specs.Parts.{parts_lines, places_lines}
use Rattle.brisk_derivtext.specs.Shared.{shared, written}
use Rattle.brisk_derivtext.specs.SharedKept.{steps_at}
use Rattle.brisk_derivtext.specs.Texts.{text_of_lines}
use Rattle.brisk_derivtext.proofs.Shares.{second_written}
use Rattle.brisk_derivtext.proofs.sharing.write2.Goals as goal

pub returns : goal.returns
returns c =
    let D = c.args.steps.now in
    let one = ap steps_at c.deref.ensures.value in
    let two = ap steps_at c.deref-2.ensures.value in
    second_written D (steps_at c.in_ok-parts.parts.items) _ _ _ _ c.in_ok-parts.ensures
    (c.in_ok-put.ensures ∙ ap (λ z. z ++ codes "brisk derivation 2\n") c.new-out.ensures.items)
    (c.in_ok-put_parts.ensures ∙ ap (λ z. c.put.new.out.items ++ text_of_lines (parts_lines (written [] z))) one)
    (c.in_ok-put_shared.ensures ∙ ap (λ z. c.put_parts.new.out.items ++ text_of_lines (places_lines (shared z D))) two)
    c.in_ok-put-2.ensures
