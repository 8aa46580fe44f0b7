use Rattle.std.proofs.Common.{arith, ap, sym, ◌∙◌, []}
use Rattle.brisk_async.specs.Machine.{without}
use Rattle.brisk_async.proofs.Payloads.{without_past, without_removed}
use Rattle.brisk_async.proofs.mail.Waiting.take.Goals as goal
use Rattle.brisk_async.proofs.mail.Waiting.take.Goals.{in-Some-2, in-None-2}

pub returns-then-place-len : goal.returns-then-place-len
returns-then-place-len c =
    let e = c.remove-taken.ensures.succeeds [] (omega arith) in
    let items = rw e at c.remove-taken.ensures.items in
    let last = items ∙ without_removed c.self.inside.payloads.items c.args.place ∙ ap (λ ms. without ms c.args.place) c.self.view_is in
    elim c.match-taken.branch [ in-Some-2 w ↦ w.self-is ∙ last | in-None-2 w ↦ w.self-is ∙ last ]

pub returns-else-place-len : goal.returns-else-place-len
returns-else-place-len c = sym c.self.view_is ∙ without_past c.self.inside.payloads.items c.args.place (omega arith) ∙ ap (λ ms. without ms c.args.place) c.self.view_is
