use Rattle.std.proofs.Common.{refl, map, arith}
use Rattle.brisk_syntax.specs.Texts.{text_of}
use Rattle.brisk_syntax.specs.Value.{size_in}
use Rattle.brisk_async.specs.Keys.{code_in_map}
use Rattle.brisk_schedule.specs.Printing.{left_lines, left_text, role_lines}
use Rattle.brisk_schedule.proofs.Members.{one_role_more}
use Rattle.brisk_schedule.proofs.printed.put_all_left.Goals as goal

pub loop-role-preserved : goal.loop-role-preserved
loop-role-preserved c =
    let sizes = size_in c.args.machine.now.sizes in let code = code_in_map c.args.machine.now.codes in
    one_role_more (λ r. role_lines sizes (left_lines code) (text_of r)) (λ rs. left_text sizes (map text_of rs) code) (λ r rs. refl)
    c.deref-role-items.result.now c.loop-role.role-index c.role-item.result c.loop-role.out.items c.put_left_role.new.out.items c.args.out.now.items (left_text sizes c.args.roles.now code)
    (omega (arith, c.loop-role-test.true)) c.role-item.is c.in_ok-put_left_role.ensures c.loop-role.invariant
