use Rattle.std.proofs.Common.{◌&&◌, ap, sym, ◌+◌, ◌∙◌, drop, map}
use Rattle.std.specs.List.{list_all}
use Rattle.brisk_syntax.specs.Classes.{fits_star}
use Rattle.brisk_syntax.specs.Texts.{text_of}
use Rattle.brisk_syntax.proofs.Classed.{one_more}
use Rattle.brisk_syntax.proofs.classes.all_fit.Goals as goal

pub returns-then-not-fits : goal.returns-then-not-fits
returns-then-not-fits c =
    let fit = fits_star c.args.centre.now in
    let items = c.deref-role-items.result.now in
    let i = c.loop-role.role-index in
    let first = sym c.if-not-fits.true ∙ c.fits.ensures in
    ap (λ x. x && list_all fit (map text_of (drop (i + 1) items))) first
    ∙ sym (one_more fit items i c.role-item.result c.loop-role-test.true c.role-item.is) ∙ c.loop-role.invariant

pub loop-role-preserved : goal.loop-role-preserved
loop-role-preserved c =
    let fit = fits_star c.args.centre.now in
    let items = c.deref-role-items.result.now in
    let i = c.loop-role.role-index in
    let first = sym c.if-not-fits.false ∙ c.fits.ensures in
    ap (λ x. x && list_all fit (map text_of (drop (i + 1) items))) first
    ∙ sym (one_more fit items i c.role-item.result c.loop-role-test.true c.role-item.is) ∙ c.loop-role.invariant
