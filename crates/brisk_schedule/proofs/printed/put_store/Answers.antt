use Rattle.std.proofs.Common.{refl, map, arith}
use Rattle.brisk_syntax.specs.Texts.{text_of}
use Rattle.brisk_syntax.specs.Value.{size_in}
use Rattle.brisk_values.specs.Places.{value_in}
use Rattle.brisk_schedule.specs.Printing.{role_lines, store_text, variable_lines}
use Rattle.brisk_schedule.proofs.Members.{one_role_more}
use Rattle.brisk_schedule.proofs.printed.put_store.Goals as goal

pub loop-role-preserved : goal.loop-role-preserved
loop-role-preserved c =
    let sizes = size_in c.args.sizes.now in let store = value_in c.args.store.now in
    one_role_more (λ r. role_lines sizes (variable_lines store) (text_of r)) (λ rs. store_text sizes (map text_of rs) store) (λ r rs. refl)
    c.deref-role-items.result.now c.loop-role.role-index c.role-item.result c.loop-role.out.items c.put_role.new.out.items c.args.out.now.items (store_text sizes c.args.roles.now store)
    (omega (arith, c.loop-role-test.true)) c.role-item.is c.in_ok-put_role.ensures c.loop-role.invariant
