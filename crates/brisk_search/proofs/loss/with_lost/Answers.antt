use Rattle.std.proofs.Common.{Bool, List, ◌++◌, ◌+◌, drop, map, sym, ap, ◌∙◌, arith}
use Rattle.std.specs.Prelude.{◌||◌, filter}
use Rattle.std.proofs.lemmas.List.{append-nil, at_drop_all}
use Rattle.brisk_derivation.specs.declared.steps.Fact.{Fact}
use Rattle.brisk_facts.specs.Facts.{Facts}
use Rattle.brisk_syntax.specs.declared.program.Program.{Program}
use Rattle.brisk_syntax.specs.declared.program.Role.{Role}
use Rattle.brisk_syntax.specs.Texts.{text_of}
use Rattle.brisk_loops.specs.LeaveSeen.{lost_by}
use Rattle.brisk_search.specs.Tries.{is_dropped, is_known, places, places_of}
use Rattle.brisk_search.proofs.Losing.{one_role}
use Rattle.brisk_search.proofs.Premises.{premise_is}
use Rattle.brisk_search.proofs.Threads.{next_of}
use Rattle.brisk_search.proofs.loss.with_lost.Goals as goal

pub loop-role-preserved : goal.loop-role-preserved
loop-role-preserved c = λ entered there.
    let rs = c.deref-role-items.result.now in let i = c.loop-role.role-index in let r = c.role-item.result in let before = c.loop-role.items.items in
    let test : Facts → Fact → Bool = λ F q. is_dropped c.args.premise.now.drops q || is_known F q in
    let is = c.in_ok-lost.ensures entered (premise_is c.args.premise.now c.args.walk.now.entered entered there) there.3 in
    let F = lost_by entered c.args.walk.now.state in
    one_role (test F) before c.add_lost.new.items.items (text_of r) (map text_of (drop (i + 1) rs)) (c.in_ok-add_lost.ensures ∙ ap (λ G. before ++ filter (test G) (places_of (text_of r))) is)
    ∙ sym (next_of (λ xs. before ++ filter (test F) (places (map text_of xs))) rs i r c.loop-role-test.true c.role-item.is) ∙ c.loop-role.invariant entered there

pub returns : goal.returns
returns c = λ entered there.
    let rs = c.deref-role-items.result.now in let before = c.loop-role.items.items in
    let test : Fact → Bool = λ q. is_dropped c.args.premise.now.drops q || is_known (lost_by entered c.args.walk.now.state) q in
    sym (append-nil before) ∙ sym (at_drop_all (λ (xs : List Role). before ++ filter test (places (map text_of xs))) rs c.loop-role.role-index (omega arith)) ∙ c.loop-role.invariant entered there
    ∙ ap (λ ts. filter test (places ts)) (ap (map text_of) c.deref-role-items.ensures.value ∙ ap (λ (P : Program). P.roles) c.behind-walk.view_is ∙ ap (λ (P : Program). P.roles) c.program.ensures)
