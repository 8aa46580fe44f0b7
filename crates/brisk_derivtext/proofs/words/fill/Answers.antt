use Rattle.std.proofs.Common.{sym, subst}
use Rattle.brisk_lex.specs.Spelled.{IsName}
use Rattle.brisk_lines.proofs.Cuts.{nothing_read}
use Rattle.brisk_derivtext.specs.Pieces.{fill_text, IsFill}
use Rattle.brisk_derivtext.proofs.Fronts.{fill_fourth, fill_third, fill_words, no_bytes}
use Rattle.brisk_derivtext.proofs.words.fill.Goals as goal

pub returns-in_err-channel : goal.returns-in_err-channel
returns-in_err-channel c = nothing_read fill_text IsFill c.args.bytes.now c.from_residual-in_err-channel.result c.from_residual-in_err-channel.ensures (λ f legal e.
    c.in_err-channel.ensures _ (fill_third c.in_ok-sender.ensures c.in_ok-receiver.ensures f legal e))

pub returns-in_err-number : goal.returns-in_err-number
returns-in_err-number c = nothing_read fill_text IsFill c.args.bytes.now c.from_residual-in_err-number.result c.from_residual-in_err-number.ensures (λ f legal e.
    c.in_err-number.ensures _ (fill_fourth c.in_ok-sender.ensures c.in_ok-receiver.ensures c.in_ok-channel.ensures f legal e))

pub returns-then-not-is_empty : goal.returns-then-not-is_empty
returns-then-not-is_empty c = λ f legal e. no_bytes c.in_ok-number.rest.now (sym c.if-not-is_empty.ensures) (fill_words c.in_ok-sender.ensures c.in_ok-receiver.ensures c.in_ok-channel.ensures c.in_ok-number.ensures f legal e).4

pub returns-in_err-sender-2 : goal.returns-in_err-sender-2
returns-in_err-sender-2 c = nothing_read fill_text IsFill c.args.bytes.now c.from_residual-in_err-sender-2.result c.from_residual-in_err-sender-2.ensures (λ f legal e.
    c.in_err-sender-2.ensures (subst IsName (sym (fill_words c.in_ok-sender.ensures c.in_ok-receiver.ensures c.in_ok-channel.ensures c.in_ok-number.ensures f legal e).0) legal.0))

pub returns-in_err-receiver-2 : goal.returns-in_err-receiver-2
returns-in_err-receiver-2 c = nothing_read fill_text IsFill c.args.bytes.now c.from_residual-in_err-receiver-2.result c.from_residual-in_err-receiver-2.ensures (λ f legal e.
    c.in_err-receiver-2.ensures (subst IsName (sym (fill_words c.in_ok-sender.ensures c.in_ok-receiver.ensures c.in_ok-channel.ensures c.in_ok-number.ensures f legal e).1) legal.1))

pub returns-in_err-channel-2 : goal.returns-in_err-channel-2
returns-in_err-channel-2 c = nothing_read fill_text IsFill c.args.bytes.now c.from_residual-in_err-channel-2.result c.from_residual-in_err-channel-2.ensures (λ f legal e.
    c.in_err-channel-2.ensures (subst IsName (sym (fill_words c.in_ok-sender.ensures c.in_ok-receiver.ensures c.in_ok-channel.ensures c.in_ok-number.ensures f legal e).2) legal.2))

pub returns-in_err-box_in : goal.returns-in_err-box_in
returns-in_err-box_in c = nothing_read fill_text IsFill c.args.bytes.now c.from_residual-in_err-box_in.result c.from_residual-in_err-box_in.ensures (λ f legal e.
    c.in_err-box_in.ensures f.3 (legal.3, legal.4) (fill_words c.in_ok-sender.ensures c.in_ok-receiver.ensures c.in_ok-channel.ensures c.in_ok-number.ensures f legal e).3)
