use Rattle.std.proofs.Common.{◌≡◌, ◌<◌, List, true, length, map, get_or, arith, ap, sym, subst, ◌∙◌}
use Rattle.std.specs.List.{position_or_len}
use Rattle.std.proofs.lemmas.List.Sums.{position_or_len_is}
use Rattle.brisk_values.specs.Names.{Name, same_name}
use Rattle.brisk_syntax.specs.declared.program.Role.{Role}
use Rattle.brisk_syntax.specs.Roles.{RoleText}
use Rattle.brisk_syntax.specs.Texts.{text_of}
use Rattle.brisk_async.proofs.Places.{mapped_place, place_behind}
use Rattle.brisk_async.proofs.queue.role_place.Goals as goal

-- the place among the roles, and among their texts
among : (n : Name) (items kept : List Role) (texts : List RoleText) → items ≡ kept → map text_of kept ≡ texts →
    position_or_len (λ (r : Role). same_name n r.name) items ≡ position_or_len (λ (r : RoleText). same_name n r.name) texts
among n items kept texts is seen =
    sym (mapped_place text_of (λ (r : RoleText). same_name n r.name) items) ∙ ap (λ rs. position_or_len (λ (r : RoleText). same_name n r.name) (map text_of rs)) is
    ∙ ap (position_or_len (λ (r : RoleText). same_name n r.name)) seen

pub returns-then-eq : goal.returns-then-eq
returns-then-eq c =
    let d = c.role-item.result in let n = c.args.name.now in let items = c.deref-role-items.result.now in
    let here : same_name n (get_or items c.loop-k.k d).name ≡ true = ap (λ (r : Role). same_name n r.name) (sym c.role-item.is) ∙ sym c.eq.ensures ∙ c.if-eq.true in
    sym (position_or_len_is (λ (r : Role). same_name n r.name) items c.loop-k.k d c.loop-k.auto.k-end (λ j h. c.loop-k.invariant j d h) (λ _. here))
    ∙ among n items c.roles.inside.items.items c.args.roles.now c.deref-role-items.ensures.value c.roles.view_is

pub returns : goal.returns
returns c =
    let n = c.args.name.now in let items = c.deref-role-items.result.now in
    let all : c.loop-k.k ≡ length items = omega arith in
    let place = place_behind (λ (r : Role). same_name n r.name) items (λ j d h. c.loop-k.invariant j d (subst (λ k. j < k) (sym all) h)) in
    c.len.ensures ∙ sym c.deref-role-items.ensures.len ∙ sym place
    ∙ among n items c.roles.inside.items.items c.args.roles.now c.deref-role-items.ensures.value c.roles.view_is
