use Rattle.std.proofs.Common.{sym, subst}
use Rattle.brisk_syntax.specs.Segments.{head_of}
use Rattle.brisk_syntax.specs.Value.{size_in}
use Rattle.brisk_async.specs.Blocked.{IsBlocked}
use Rattle.brisk_async.specs.Keys.{Processes, code_in_map, mail_in}
use Rattle.brisk_async.proofs.Events.{each_entry, entry_each}
use Rattle.brisk_async.proofs.codes.Codes.are_blocked.Goals as goal

pub returns : goal.returns
returns c =
    let m = c.self.inside.codes in let blocked = IsBlocked (size_in c.args.sizes.now) (mail_in c.args.mail.now) in (
      λ t p. subst (λ (k : Processes). blocked p (head_of (code_in_map k p))) c.self.view_is (each_entry blocked (λ q. tt) m.entries (c.all_blocked.ensures.blocked.0 t) p),
      λ h. c.all_blocked.ensures.blocked.1
          (entry_each blocked m c.all_blocked.ensures.found (λ p. subst (λ (k : Processes). blocked p (head_of (code_in_map k p))) (sym c.self.view_is) (h p))),
    )
