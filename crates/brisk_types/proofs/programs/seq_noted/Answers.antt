use Rattle.std.proofs.Common.{◌≡◌, ◌+◌, [], None, map, sum_by, refl, ap, ◌∙◌, arith}
use Rattle.brisk_syntax.specs.Tokens.{role_tokens}
use Rattle.brisk_types.specs.Declarations.{program_of, placed, roles_at, meaning, apart}
use Rattle.brisk_types.specs.Failures.{note_all}
use Rattle.brisk_types.specs.Names.{global_meaning, named_meanings}
use Rattle.brisk_types.specs.Sequences.{outline, behind_role, outlines, items_at}
use Rattle.brisk_types.proofs.Whole.{meanings_are, whole_sequence}
use Rattle.brisk_types.proofs.programs.seq_noted.Goals as goal

pub returns : goal.returns
returns c =
    let Q = c.args.program.now in
    let globals = c.in_ok-globals.globals in
    let g = global_meaning globals in
    let at = c.in_ok-at.at in
    let known : g ≡ meaning (outline Q) = c.in_ok-globals.ensures ∙ ap (λ cs. meaning (program_of Q.enums cs Q.roles)) c.new.ensures.items in
    let a : at ≡ roles_at (outline Q) = omega (arith, c.in_ok-at.ensures.next) in
    let b : at + sum_by role_tokens Q.roles + 1 ≡ items_at Q = omega (arith, a) in
    whole_sequence Q g (named_meanings globals (map (behind_role g) Q.roles)) at (at + sum_by role_tokens Q.roles + 1) _ _ (note_all c.enumerations.new.first.failure (outlines g at Q.roles)) _
    known (meanings_are Q globals _ known refl) a b
    (c.in_ok-places.ensures.noted ∙ ap (λ ps. note_all None (apart [] ps)) (c.deref.ensures.value ∙ c.in_ok-names.ensures ∙ ap (λ cs. placed (program_of Q.enums cs Q.roles)) c.new.ensures.items))
    c.in_ok-at.ensures.noted refl c.in_ok-roles_and_body.ensures
