use Rattle.std.proofs.Common.{subst}
use Rattle.std.specs.Prelude.{IsTrue, ◌↔◌}
use Rattle.brisk_async.specs.Machine.{IsTerminal}
use Rattle.brisk_async.specs.States.{Kept, state_of}
use Rattle.brisk_async.proofs.Events.{terminal_iff}
use Rattle.brisk_async.proofs.machine.Machine.is_terminal.Goals as goal

pub returns : goal.returns
returns c =
    let m = c.self.inside in
    let here : Kept = record { program = m.program; sizes = m.sizes; codes = m.codes; store = m.store; mail = m.mail } in
    let iff = terminal_iff (state_of here) in
    subst (λ (k : Kept). IsTrue c.are_blocked.result ↔ IsTerminal (state_of k)) c.self.view_is (λ t. iff.0 (c.are_blocked.ensures.0 t), λ h. c.are_blocked.ensures.1 (iff.1 h))
