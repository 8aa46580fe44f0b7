use Rattle.std.proofs.Common.{◌+◌, ◌-◌, ◌∷◌, [], map, ap}
use Rattle.std.specs.List.{range_with_len}
use Rattle.brisk_values.specs.Names.{member}
use Rattle.brisk_trace.proofs.Nexts.{one_part_more, range_step}
use Rattle.brisk_trace.proofs.plain.add_members.Goals as goal

pub loop-member-preserved : goal.loop-member-preserved
loop-member-preserved c =
    let k = c.loop-member.member in let n = c.args.size in let set = c.args.set.now in
    one_part_more c.loop-member.order.items c.push.new.self.items (member set k ∷ []) (map (member set) (range_with_len (k + 1) (n - (k + 1)))) (map (member set) (range_with_len k (n - k))) _
    c.in_ok-push.ensures.items (ap (map (member set)) (range_step k n c.loop-member-test.true)) c.loop-member.invariant
