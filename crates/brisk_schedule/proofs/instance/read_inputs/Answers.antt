use Rattle.std.proofs.Common.{[], ◌+◌, List, drop, map}
use Rattle.brisk_syntax.specs.declared.program.Role.{Role}
use Rattle.brisk_syntax.specs.Texts.{text_of}
use Rattle.brisk_instance.specs.Given.{instance_with}
use Rattle.brisk_instance.specs.Ordered.{role_slots, slots}
use Rattle.brisk_schedule.specs.Reading.{TellsValue}
use Rattle.brisk_schedule.specs.Taking.{Lacks}
use Rattle.brisk_schedule.proofs.Goes.{InputsGo, inputs_end, inputs_more, inputs_wrong, next_left, none_left}
use Rattle.brisk_schedule.proofs.Takes.{passed_on}
use Rattle.brisk_schedule.proofs.instance.read_inputs.Goals as goal

pub loop-role-preserved : goal.loop-role-preserved
loop-role-preserved c =
    let i = instance_with c.args.sizes.now in
    let all = slots i c.args.roles.now in
    let items = c.deref-role-items.result.now in
    let r = c.role-item.result in
    inputs_more c.args.enums.now c.args.sizes.now all (role_slots i (text_of r)) (slots i (map text_of (drop (c.loop-role.role-index + 1) items)))
    c.args.lines.now c.loop-role.lines c.read_role.new.lines [] c.loop-role.items.items c.read_role.new.inputs.items
    (next_left (λ (xs : List Role). InputsGo c.args.enums.now c.args.sizes.now all (slots i (map text_of xs)) c.args.lines.now c.loop-role.lines [] c.loop-role.items.items) items c.loop-role.role-index r c.loop-role-test.true c.role-item.is c.loop-role.invariant)
    c.in_ok-read_role.ensures.ok

pub returns-in_err-read_role-clause-err : goal.returns-in_err-read_role-clause-err
returns-in_err-read_role-clause-err c =
    let i = instance_with c.args.sizes.now in
    let all = slots i c.args.roles.now in
    let items = c.deref-role-items.result.now in
    let r = c.role-item.result in
    passed_on (Lacks (TellsValue c.args.enums.now c.args.sizes.now) c.args.lines.now all) c.from_residual.result c.in_err-read_role.field-0.0 c.from_residual.ensures.1
    (inputs_wrong c.args.enums.now c.args.sizes.now all (role_slots i (text_of r)) (slots i (map text_of (drop (c.loop-role.role-index + 1) items)))
    c.args.lines.now c.loop-role.lines [] c.loop-role.items.items c.in_err-read_role.field-0.0
    (next_left (λ (xs : List Role). InputsGo c.args.enums.now c.args.sizes.now all (slots i (map text_of xs)) c.args.lines.now c.loop-role.lines [] c.loop-role.items.items) items c.loop-role.role-index r c.loop-role-test.true c.role-item.is c.loop-role.invariant)
    c.in_err-read_role.ensures.err)

pub returns-clause-ok : goal.returns-clause-ok
returns-clause-ok c =
    let i = instance_with c.args.sizes.now in
    let all = slots i c.args.roles.now in
    inputs_end c.args.enums.now c.args.sizes.now all c.args.lines.now c.loop-role.lines [] c.loop-role.items.items
    (none_left (λ (xs : List Role). InputsGo c.args.enums.now c.args.sizes.now all (slots i (map text_of xs)) c.args.lines.now c.loop-role.lines [] c.loop-role.items.items) c.deref-role-items.result.now c.loop-role.role-index c.loop-role-test.false c.loop-role.invariant)
