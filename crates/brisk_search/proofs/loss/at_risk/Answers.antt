use Rattle.std.proofs.Common.{Bool, ◌++◌, ◌+◌, drop, map, sym, ap, ◌∙◌}
use Rattle.std.specs.Prelude.{◌&&◌, filter}
use Rattle.brisk_derivation.specs.declared.steps.Fact.{Fact}
use Rattle.brisk_syntax.specs.Texts.{text_of}
use Rattle.brisk_syntax.specs.Typing.{is_among}
use Rattle.brisk_state.specs.Symbolic.{Symbolic}
use Rattle.brisk_rules.specs.Standing.{stands_at}
use Rattle.brisk_search.specs.Tries.{is_known, places, places_of, touched_in}
use Rattle.brisk_search.proofs.Losing.{one_role}
use Rattle.brisk_search.proofs.Threads.{next_of}
use Rattle.brisk_search.proofs.loss.at_risk.Goals as goal

pub loop-role-preserved : goal.loop-role-preserved
loop-role-preserved c =
    let rs = c.deref-role-items.result.now in let i = c.loop-role.role-index in let r = c.role-item.result in let before = c.loop-role.items.items in
    let test : Symbolic → Fact → Bool = λ S q. is_known S.facts q && is_among (touched_in (stands_at S q.at)) q.variable in
    one_role (test c.args.walk.now.state) before c.add_touched.new.items.items (text_of r) (map text_of (drop (i + 1) rs))
    (c.in_ok-add_touched.ensures ∙ ap (λ S. before ++ filter (test S) (places_of (text_of r))) c.state.ensures)
    ∙ sym (next_of (λ xs. before ++ filter (test c.args.walk.now.state) (places (map text_of xs))) rs i r c.loop-role-test.true c.role-item.is) ∙ c.loop-role.invariant
