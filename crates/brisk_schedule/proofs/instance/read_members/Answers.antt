use Rattle.std.proofs.Common.{◌+◌, ◌-◌, List}
use Rattle.brisk_values.specs.Names.{member}
use Rattle.brisk_instance.specs.Ordered.{Slot, slots_at, slots_of}
use Rattle.brisk_schedule.specs.Reading.{TellsValue}
use Rattle.brisk_schedule.specs.Taking.{Lacks}
use Rattle.brisk_schedule.proofs.Goes.{InputsGo, inputs_end, inputs_more, inputs_wrong, member_left, no_member_left}
use Rattle.brisk_schedule.proofs.Takes.{passed_on}
use Rattle.brisk_schedule.proofs.instance.read_members.Goals as goal

pub loop-member-preserved : goal.loop-member-preserved
loop-member-preserved c =
    let r = c.args.role.now in
    let k = c.loop-member.member in
    inputs_more c.args.enums.now c.args.sizes.now (slots_of r.name r.decls 0 c.args.members) (slots_at (member r.name k) r.decls) (slots_of r.name r.decls (k + 1) (c.args.members - (k + 1)))
    c.args.lines.now c.loop-member.lines c.read_process.new.lines c.args.inputs.now.items c.loop-member.inputs.items c.read_process.new.inputs.items
    (member_left (λ (ss : List Slot). InputsGo c.args.enums.now c.args.sizes.now (slots_of r.name r.decls 0 c.args.members) ss c.args.lines.now c.loop-member.lines c.args.inputs.now.items c.loop-member.inputs.items) r.name r.decls k c.args.members c.loop-member-test.true c.loop-member.invariant)
    c.in_ok-read_process.ensures.ok

pub returns-in_err-read_process-clause-err : goal.returns-in_err-read_process-clause-err
returns-in_err-read_process-clause-err c =
    let r = c.args.role.now in
    let k = c.loop-member.member in
    passed_on (Lacks (TellsValue c.args.enums.now c.args.sizes.now) c.args.lines.now (slots_of r.name r.decls 0 c.args.members)) c.from_residual.result c.in_err-read_process.field-0.0 c.from_residual.ensures.1
    (inputs_wrong c.args.enums.now c.args.sizes.now (slots_of r.name r.decls 0 c.args.members) (slots_at (member r.name k) r.decls) (slots_of r.name r.decls (k + 1) (c.args.members - (k + 1)))
    c.args.lines.now c.loop-member.lines c.args.inputs.now.items c.loop-member.inputs.items c.in_err-read_process.field-0.0
    (member_left (λ (ss : List Slot). InputsGo c.args.enums.now c.args.sizes.now (slots_of r.name r.decls 0 c.args.members) ss c.args.lines.now c.loop-member.lines c.args.inputs.now.items c.loop-member.inputs.items) r.name r.decls k c.args.members c.loop-member-test.true c.loop-member.invariant)
    c.in_err-read_process.ensures.err)

pub returns-clause-ok : goal.returns-clause-ok
returns-clause-ok c =
    let r = c.args.role.now in
    inputs_end c.args.enums.now c.args.sizes.now (slots_of r.name r.decls 0 c.args.members) c.args.lines.now c.loop-member.lines c.args.inputs.now.items c.loop-member.inputs.items
    (no_member_left (λ (ss : List Slot). InputsGo c.args.enums.now c.args.sizes.now (slots_of r.name r.decls 0 c.args.members) ss c.args.lines.now c.loop-member.lines c.args.inputs.now.items c.loop-member.inputs.items) r.name r.decls c.loop-member.member c.args.members c.loop-member-test.false c.loop-member.invariant)
