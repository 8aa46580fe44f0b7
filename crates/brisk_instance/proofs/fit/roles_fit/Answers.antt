use Rattle.std.proofs.Common.{List, ◌∷◌, ◌+◌, refl, arith, sym, ap, ◌∙◌, subst, map, drop}
use Rattle.std.specs.List.{AllByRecursion}
use Rattle.std.proofs.lemmas.List.{at_drop_more}
use Rattle.brisk_syntax.specs.declared.program.Role.{Role}
use Rattle.brisk_syntax.specs.Instance.{RoleFits}
use Rattle.brisk_syntax.specs.Texts.{text_of}
use Rattle.brisk_instance.specs.Walks.{instance_given}
use Rattle.brisk_instance.proofs.fit.roles_fit.Goals as goal

pub returns-then-not-role_fits : goal.returns-then-not-role_fits
returns-then-not-role_fits c =
    let items = c.deref-role-items.result.now in
    let opened = at_drop_more (λ (xs : List Role). xs) items c.loop-role.role-index c.role-item.result (omega (arith, c.loop-role-test.true)) ∙ ap (λ (r : Role). r ∷ drop (c.loop-role.role-index + 1) items) (sym c.role-item.is) in
    (λ h. cc, λ all. c.if-not-role_fits.ensures.1 (subst (λ (xs : List Role). AllByRecursion (RoleFits c.args.enums.now (instance_given c.args.sizes.now c.args.given.now)) (map text_of xs)) opened (c.loop-role.invariant.1 all)).0)

pub loop-role-preserved : goal.loop-role-preserved
loop-role-preserved c =
    let items = c.deref-role-items.result.now in
    let fit = λ (xs : List Role). AllByRecursion (RoleFits c.args.enums.now (instance_given c.args.sizes.now c.args.given.now)) (map text_of xs) in
    let opened = at_drop_more (λ (xs : List Role). xs) items c.loop-role.role-index c.role-item.result (omega (arith, c.loop-role-test.true)) ∙ ap (λ (r : Role). r ∷ drop (c.loop-role.role-index + 1) items) (sym c.role-item.is) in
    (λ later. c.loop-role.invariant.0 (subst fit (sym opened) (c.if-not-role_fits.ensures.0 refl, later)), λ all. (subst fit opened (c.loop-role.invariant.1 all)).1)
