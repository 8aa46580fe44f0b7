use Rattle.std.proofs.Common.{refl, sym, subst, arith, map}
use Rattle.std.specs.List.{AllByRecursion}
use Rattle.brisk_values.specs.Places.{Entries}
use Rattle.brisk_syntax.specs.Instance.{RoleFits}
use Rattle.brisk_instance.specs.Given.{place_of, set_names, all_inputs, instance_with}
use Rattle.brisk_instance.specs.Walks.{instance_given, size_name}
use Rattle.brisk_instance.proofs.Walks.{whole_inputs, whole_sizes}
use Rattle.brisk_instance.proofs.fit.judge.Goals as goal

pub returns-then-not-are_sizes_given-clause-err : goal.returns-then-not-are_sizes_given-clause-err
returns-then-not-are_sizes_given-clause-err c f =
    let w = (whole_sizes (set_names c.args.roles.now) (map size_name c.args.instance.now.sizes)).1 f.sizes in
    cc

pub returns-then-not-are_inputs_given-clause-err : goal.returns-then-not-are_inputs_given-clause-err
returns-then-not-are_inputs_given-clause-err c f =
    let w = (whole_inputs (all_inputs (instance_with c.args.instance.now.sizes) c.args.roles.now) (map place_of c.args.instance.now.inputs)).1 f.inputs in
    cc

pub returns-then-not-roles_fit-clause-err : goal.returns-then-not-roles_fit-clause-err
returns-then-not-roles_fit-clause-err c f =
    let fit = λ (m : Entries). AllByRecursion (RoleFits c.args.enums.now (instance_given c.args.instance.now.sizes m)) c.args.roles.now in
    let none = c.if-not-roles_fit.ensures.1 (subst fit (sym c.in_ok-given.ensures) f.fits) in
    cc

pub returns-then-weight-gt-MOST_WEIGHT-clause-err : goal.returns-then-weight-gt-MOST_WEIGHT-clause-err
returns-then-weight-gt-MOST_WEIGHT-clause-err c =
    let fit = λ (m : Entries). AllByRecursion (RoleFits c.args.enums.now (instance_given c.args.instance.now.sizes m)) c.args.roles.now in (
      record {
        sizes = (whole_sizes (set_names c.args.roles.now) (map size_name c.args.instance.now.sizes)).0 (sym c.if-not-are_sizes_given.ensures);
        inputs = (whole_inputs (all_inputs (instance_with c.args.instance.now.sizes) c.args.roles.now) (map place_of c.args.instance.now.inputs)).0 (sym c.if-not-are_inputs_given.ensures);
        fits = subst fit c.in_ok-given.ensures (c.if-not-roles_fit.ensures.0 refl);
      },
      omega (arith, c.weight.ensures, c.if-weight-gt-MOST_WEIGHT.true),
    )

pub returns-clause-ok : goal.returns-clause-ok
returns-clause-ok c =
    let fit = λ (m : Entries). AllByRecursion (RoleFits c.args.enums.now (instance_given c.args.instance.now.sizes m)) c.args.roles.now in (
      record {
        sizes = (whole_sizes (set_names c.args.roles.now) (map size_name c.args.instance.now.sizes)).0 (sym c.if-not-are_sizes_given.ensures);
        inputs = (whole_inputs (all_inputs (instance_with c.args.instance.now.sizes) c.args.roles.now) (map place_of c.args.instance.now.inputs)).0 (sym c.if-not-are_inputs_given.ensures);
        fits = subst fit c.in_ok-given.ensures (c.if-not-roles_fit.ensures.0 refl);
      },
      omega (arith, c.weight.ensures, c.if-weight-gt-MOST_WEIGHT.false),
    )
