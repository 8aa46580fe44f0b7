use Rattle.std.proofs.Common.{◌≡◌, true, false, ap, sym, ◌∙◌}
use Rattle.std.specs.Prelude.{is_some}
use Rattle.std.proofs.lemmas.Result.{IfOk-weaker}
use Rattle.brisk_values.specs.Places.{value_in}
use Rattle.brisk_syntax.specs.Declarations.{is_loose}
use Rattle.brisk_syntax.specs.Segments.{rest_of}
use Rattle.brisk_syntax.specs.declared.tree.Who.TheVariants as who
use Rattle.brisk_syntax.specs.Substitution.{code_with}
use Rattle.brisk_syntax.specs.Syntax.{◌then◌}
use Rattle.brisk_syntax.specs.Value.{size_in}
use Rattle.brisk_async.specs.Effects.{looks, next_of}
use Rattle.brisk_async.specs.Keys.{mail_in}
use Rattle.brisk_async.specs.Machine.{effect, is_member, payload_at, queue, receives, seen_by}
use Rattle.brisk_async.specs.States.{Kept, state_of}
use Rattle.brisk_async.proofs.Heads.{any_effect, plain_effect, recv_effect}
use Rattle.brisk_async.proofs.machine.Machine.act.Goals as goal

pub returns-else-is_some : goal.returns-else-is_some
returns-else-is_some c =
    let m = c.args.self.now in let e = c.args.event.now in let code = c.args.code.now in
    let v = looks (size_in m.sizes) (is_loose m.program.channels) (value_in m.store e.process) (λ q. payload_at (mail_in m.mail q)) in
    let none : is_some e.sender ≡ false = cc in
    IfOk-weaker c.receive.result _ _ (λ a h.
    h code (size_in m.sizes) (value_in m.store e.process)
    ∙ ap (λ w. receives v (queue w e.process c.in-Recv.channel) c.in-Recv.vars (rest_of code) e.place) c.partner.ensures
    ∙ sym (recv_effect v e.process code c.in-Some.head.now c.in-Recv.channel c.in-Recv.vars c.in-Recv.from e.sender e.place c.in-Some.ensures c.in-Recv.is none)) c.receive.ensures

pub returns-in_ok-next-in-RecvAny : goal.returns-in_ok-next-in-RecvAny
returns-in_ok-next-in-RecvAny c =
    let m = c.args.self.now in let e = c.args.event.now in let code = c.args.code.now in
    let v = looks (size_in m.sizes) (is_loose m.program.channels) (value_in m.store e.process) (λ q. payload_at (mail_in m.mail q)) in
    let r = c.in-RecvAny.any in let w = c.in-Some-sender.sender in
    let inside : is_member (size_in m.sizes) r.set w ≡ true = ap (λ (k : Kept). is_member (size_in k.sizes) r.set w) (sym c.self.view_is) ∙ sym c.is_member.ensures ∙ c.if-not-is_member.false in
    let next : next_of c.in_ok-next-in-RecvAny.next code ≡ code_with r.binder (who.Pid w) r.body.value then rest_of code =
    c.in_ok-next-in-RecvAny.ensures
    ∙ ap (λ b. b then rest_of code) (c.in_ok-new-in-RecvAny.ensures.ok ∙ c.in_ok-body-in-RecvAny.ensures ∙ ap (code_with r.binder (who.Pid w)) c.deref.ensures) in
    IfOk-weaker c.receive-in-RecvAny.result _ _ (λ a h.
    h code (size_in m.sizes) (value_in m.store e.process)
    ∙ ap (λ n. receives v (queue w e.process r.channel) r.vars n e.place) next
    ∙ sym (any_effect v e.process code c.in-Some.head.now r e.sender w e.place c.in-Some.ensures c.in-RecvAny.is c.in-Some-sender.is inside)) c.receive-in-RecvAny.ensures

pub returns-else-is_some-3 : goal.returns-else-is_some-3
returns-else-is_some-3 c =
    let m = c.self.inside in let e = c.args.event.now in let code = c.args.code.now in
    let v = looks (size_in m.sizes) (is_loose m.program.channels) (value_in m.store e.process) (λ q. payload_at (mail_in m.mail q)) in
    let none : is_some e.sender ≡ false = cc in
    let nowhere : is_some e.place ≡ false = cc in
    IfOk-weaker c.plain.result _ _ (λ a h.
    h (is_loose m.program.channels) (λ q. payload_at (mail_in m.mail q))
    ∙ sym (plain_effect v e.process code c.in-Some.head.now e.sender e.place c.in-Some.ensures none nowhere)
    ∙ ap (λ k. effect (seen_by (state_of k) e.process) e.process code e.sender e.place) c.self.view_is) c.plain.ensures
