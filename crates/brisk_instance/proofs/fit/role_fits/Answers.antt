use Rattle.std.proofs.Common.{arith, ◌<◌, refl, sym, subst}
use Rattle.brisk_values.specs.Names.{member}
use Rattle.brisk_instance.specs.Walks.{instance_from, instance_given}
use Rattle.brisk_instance.proofs.Walks.{fits_by_inputs}
use Rattle.brisk_instance.proofs.fit.role_fits.Goals as goal

pub returns-then-least_members-members : goal.returns-then-least_members-members
returns-then-least_members-members c =
    let enums = c.args.enums.now in let ds = c.args.role.now.decls in let given = c.args.given.now in
    let whole = instance_given c.args.sizes.now given in let process = member c.args.role.now.name in (
      λ h. (omega (arith, c.least_members.ensures, c.members_of-members.ensures, c.if-least_members-members.true), λ k less. fits_by_inputs enums (instance_from given) whole (process k) ds refl (c.members_fit.ensures.0 h k (subst (λ m. k < m) (sym c.members_of-members.ensures) less))),
      λ f. c.members_fit.ensures.1 (λ k less. fits_by_inputs enums whole (instance_from given) (process k) ds refl (f.1 k (subst (λ m. k < m) c.members_of-members.ensures less))),
    )
