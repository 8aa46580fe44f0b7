use Rattle.std.proofs.Common.{sym, subst}
use Rattle.brisk_lex.specs.Spelled.{IsName}
use Rattle.brisk_lines.proofs.Cuts.{nothing_read}
use Rattle.brisk_derivtext.specs.Pieces.{message_text, IsMessage}
use Rattle.brisk_derivtext.proofs.Fronts.{message_words}
use Rattle.brisk_derivtext.proofs.words.message.Goals as goal

pub returns-in_err-channel : goal.returns-in_err-channel
returns-in_err-channel c = nothing_read message_text IsMessage c.args.bytes.now c.from_residual-in_err-channel.result c.from_residual-in_err-channel.ensures (λ x legal e.
    c.in_err-channel.ensures x.2 legal.2 (message_words c.in_ok-sender.ensures c.in_ok-receiver.ensures x legal e).2)

pub returns-in_err-name_in : goal.returns-in_err-name_in
returns-in_err-name_in c = nothing_read message_text IsMessage c.args.bytes.now c.from_residual-in_err-name_in.result c.from_residual-in_err-name_in.ensures (λ x legal e.
    c.in_err-name_in.ensures (subst IsName (sym (message_words c.in_ok-sender.ensures c.in_ok-receiver.ensures x legal e).0) legal.0))

pub returns-in_err-name_in-2 : goal.returns-in_err-name_in-2
returns-in_err-name_in-2 c = nothing_read message_text IsMessage c.args.bytes.now c.from_residual-in_err-name_in-2.result c.from_residual-in_err-name_in-2.ensures (λ x legal e.
    c.in_err-name_in-2.ensures (subst IsName (sym (message_words c.in_ok-sender.ensures c.in_ok-receiver.ensures x legal e).1) legal.1))
