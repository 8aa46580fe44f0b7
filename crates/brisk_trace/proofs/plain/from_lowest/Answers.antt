use Rattle.std.proofs.Common.{◌+◌, ◌-◌, ◌∙◌, Some, map, ap, sym}
use Rattle.std.specs.List.{range_with_len}
use Rattle.brisk_values.specs.Names.{member}
use Rattle.brisk_syntax.specs.Declarations.{is_loose}
use Rattle.brisk_syntax.specs.declared.program.Program.{Program}
use Rattle.brisk_async.specs.Machine.{step}
use Rattle.brisk_async.specs.PlainRuns.{first_enabled, plain_place}
use Rattle.brisk_async.specs.States.{state_of}
use Rattle.brisk_trace.specs.Plain.{any_event, event_in}
use Rattle.brisk_trace.proofs.Nexts.{not_first, not_there, range_step}
use Rattle.brisk_trace.proofs.plain.from_lowest.Goals as goal

pub loop-member-preserved : goal.loop-member-preserved
loop-member-preserved c =
    let s = state_of c.args.machine.now in let p = c.args.process.now in let any = c.args.any.now in
    let k = c.loop-member.member in let n = c.size_of_set-member-end.result in
    let f = any_event s p any.channel in
    let w = member any.set k in
    let place = c.place_on-place.ensures ∙ ap (λ (P : Program). plain_place (is_loose P.channels any.channel)) (sym c.requires) in
    let same = ap (λ o. record { process = p; sender = Some w; place = o }) place in
    let none = not_there c.enabled.result (step s record { process = p; sender = Some w; place = c.place_on-place.result }) c.enabled.ensures c.if-enabled.false in
    let later = map f (map (member any.set) (range_with_len (k + 1) (n - (k + 1)))) in
    ap event_in (sym (not_first s (f w) later (ap (step s) (sym same) ∙ none)))
    ∙ sym (ap (λ ks. event_in (first_enabled s (map f (map (member any.set) ks)))) (range_step k n c.loop-member-test.true))
    ∙ c.loop-member.invariant
