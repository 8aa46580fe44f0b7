use Rattle.std.proofs.Common.{◌≡◌, [], None, ap, ◌∙◌, arith}
use Rattle.brisk_types.specs.Declarations.{channels_at, roles_at, apart}
use Rattle.brisk_types.specs.Failures.{note_all}
use Rattle.brisk_types.specs.Names.{global_meaning}
use Rattle.brisk_types.proofs.Whole.{whole}
use Rattle.brisk_types.proofs.programs.noted.Goals as goal

pub returns : goal.returns
returns c =
    let a : c.in_ok-at.at ≡ channels_at c.args.program.now = omega (arith, c.in_ok-at.ensures.next) in
    let b : c.channels-at.result ≡ roles_at c.args.program.now = omega (arith, a, c.channels-at.ensures.next) in
    whole c.args.program.now (global_meaning c.in_ok-globals.globals) c.in_ok-at.at c.channels-at.result _ _ _ _ c.in_ok-globals.ensures a b
    (c.in_ok-places.ensures.noted ∙ ap (λ ps. note_all None (apart [] ps)) (c.deref.ensures.value ∙ c.in_ok-names.ensures))
    c.in_ok-at.ensures.noted c.channels-at.ensures.noted c.in_ok-roles.ensures
