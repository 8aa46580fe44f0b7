use Rattle.std.proofs.Common.{length, ap, sym, ◌∙◌}
use Rattle.brisk_syntax.specs.Declarations.{decls_of, kind_in, role_named}
use Rattle.brisk_seq.proofs.Moving.{unequal_kinds}
use Rattle.brisk_seq.proofs.kinds.are_of_kinds.Goals as goal

pub returns-then-xs-vs : goal.returns-then-xs-vs
returns-then-xs-vs c =
    let kind = kind_in (decls_of (role_named c.args.roles.now c.args.role.now)) in
    sym (unequal_kinds kind c.args.vars.now c.args.values.now
    (λ e. c.if-xs-vs.true (ap length (c.as_slice-xs.ensures.value ∙ c.vars.view_is) ∙ e ∙ sym (ap length (c.as_slice-vs.ensures.value ∙ c.values.view_is)))))
