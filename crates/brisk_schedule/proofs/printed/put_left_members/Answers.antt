use Rattle.std.proofs.Common.{arith, ◌++◌}
use Rattle.brisk_syntax.specs.Texts.{text_of}
use Rattle.brisk_async.specs.Keys.{code_in_map}
use Rattle.brisk_schedule.specs.Printing.{left_lines, member_lines}
use Rattle.brisk_schedule.proofs.Members.{one_member_more}
use Rattle.brisk_schedule.proofs.printed.put_left_members.Goals as goal

pub loop-member-preserved : goal.loop-member-preserved
loop-member-preserved c =
    let lines = left_lines (code_in_map c.args.machine.now.codes) in let r = text_of c.args.role.now in (
      omega (arith, c.loop-member-test.true),
      one_member_more lines r c.loop-member.member c.args.members c.loop-member.out.items c.put_left.new.out.items (c.args.out.now.items ++ member_lines lines r 0 c.args.members)
          c.loop-member-test.true c.in_ok-put_left.ensures c.loop-member.invariant.1,
    )
