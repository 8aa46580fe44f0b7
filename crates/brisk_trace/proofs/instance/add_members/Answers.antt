use Rattle.std.proofs.Common.{◌+◌, ◌-◌, ◌∙◌, map, flat_map, ap}
use Rattle.std.proofs.lemmas.List.{map-append}
use Rattle.brisk_values.specs.Names.{member}
use Rattle.brisk_instance.specs.Ordered.{slots_at, slots_of}
use Rattle.brisk_trace.specs.Plain.{plain_input}
use Rattle.brisk_trace.proofs.Nexts.{one_part_more, range_step}
use Rattle.brisk_trace.proofs.instance.add_members.Goals as goal

pub loop-member-preserved : goal.loop-member-preserved
loop-member-preserved c =
    let k = c.loop-member.member in let n = c.args.members in let r = c.args.role.now in
    let f = plain_input c.args.enums.now in
    let here = slots_at (member r.name k) r.decls in
    let later = slots_of r.name r.decls (k + 1) (n - (k + 1)) in
    one_part_more c.loop-member.inputs.items c.add_process.new.inputs.items (map f here) (map f later) (map f (slots_of r.name r.decls k (n - k))) _
    c.in_ok-add_process.ensures (ap (λ ks. map f (flat_map (λ p. slots_at p r.decls) (map (member r.name) ks))) (range_step k n c.loop-member-test.true) ∙ map-append f here later) c.loop-member.invariant
