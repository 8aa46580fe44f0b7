use Rattle.std.proofs.Common.{refl, sym}
use Rattle.std.specs.List.{AllByRecursion}
use Rattle.brisk_values.specs.Names.{member}
use Rattle.brisk_syntax.specs.Instance.{InputFits}
use Rattle.brisk_instance.specs.Walks.{instance_from}
use Rattle.brisk_instance.proofs.Walks.{fits_without, below_or_last}
use Rattle.brisk_instance.proofs.fit.members_fit.Goals as goal

pub returns-then-not-has_input : goal.returns-then-not-has_input
returns-then-not-has_input c =
    (λ _ k _. fits_without c.args.enums.now (instance_from c.args.given.now) (member c.args.role.now.name k) c.args.role.now.decls (sym c.if-not-has_input.ensures), λ _. refl)

pub returns-then-not-process_fits : goal.returns-then-not-process_fits
returns-then-not-process_fits c = (λ h. cc, λ all. c.if-not-process_fits.ensures.1 (all c.loop-member.member c.loop-member-test.true))

pub loop-member-preserved : goal.loop-member-preserved
loop-member-preserved c =
    below_or_last (λ k. AllByRecursion (InputFits c.args.enums.now (instance_from c.args.given.now) (member c.args.role.now.name k)) c.args.role.now.decls) c.loop-member.member c.loop-member.invariant (c.if-not-process_fits.ensures.0 refl)
