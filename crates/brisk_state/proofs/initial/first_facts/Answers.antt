use Rattle.std.proofs.Common.{◌≡◌, List, [], ◌∷◌, map, arith, ap, length, refl, sym, ◌∙◌}
use Rattle.std.proofs.lemmas.List.{map-append}
use Rattle.brisk_syntax.specs.declared.program.Role.{Role}
use Rattle.brisk_syntax.specs.Texts.{text_of}
use Rattle.brisk_state.proofs.First.{over, over_last, over_none}
use Rattle.brisk_state.proofs.initial.first_facts.Goals as goal

none_left : (rs : List Role) → length rs ≡ 0 → rs ≡ []
none_left [] e = refl
none_left (r ∷ rs) e = absurd (omega arith)

pub loop-role-preserved : goal.loop-role-preserved
loop-role-preserved c =
    let before = c.in-Some.before.now in let role = text_of c.in-Some.role.now in let facts = c.loop-role.facts in
    ap (over (map text_of before)) c.in_ok-add_role.ensures
    ∙ sym (over_last (map text_of before) role facts)
    ∙ ap (λ rs. over rs facts) (sym (map-append text_of before (c.in-Some.role.now ∷ [])) ∙ ap (map text_of) (sym c.in-Some.ensures.cases.0))
    ∙ c.loop-role.invariant

pub returns : goal.returns
returns c =
    ap (λ rs. over (map text_of rs) c.loop-role.facts) (sym (none_left c.loop-role.ahead.now c.in_default.ensures.cases))
    ∙ c.loop-role.invariant
    ∙ (λ i. over ((ap (map text_of) c.as_slice-ahead.ensures.value ∙ c.roles.view_is) i) (c.new-facts.ensures i))
    ∙ over_none c.args.roles.now
