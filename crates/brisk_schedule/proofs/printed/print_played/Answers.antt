use Rattle.std.proofs.Common.{◌++◌, List, ℕ, ap, ◌∙◌, subst}
use Rattle.std.specs.Prelude.{flat_map}
use Rattle.brisk_values.specs.Names.{Name}
use Rattle.brisk_values.specs.Places.{Entries, value_in}
use Rattle.brisk_syntax.specs.declared.program.Program.{Program}
use Rattle.brisk_syntax.specs.Value.{size_in}
use Rattle.brisk_async.specs.InOrder.{AreQueues}
use Rattle.brisk_async.specs.Keys.{code_in_map, mail_in}
use Rattle.brisk_schedule.specs.Printing.{ended_text, left_text, queue_line, store_text}
use Rattle.brisk_schedule.proofs.printed.print_played.Goals as goal

pub returns : goal.returns
returns c =
    let m = c.args.played.now.machine in let roles = c.args.program.now.roles in let qs = c.in_ok-queues.queues.items in
    let left = left_text (size_in m.sizes) roles (code_in_map m.codes) in
    let first = c.put_ended.new.out.items in (
      qs,
      subst (λ (p : Program). AreQueues p (mail_in m.mail) qs) c.requires c.in_ok-queues.ensures,
      c.in_ok-put_queues.ensures
          ∙ ap (λ z. c.put_all_left.new.out.items ++ flat_map (queue_line roles) z) c.deref.ensures.value
          ∙ ap (λ z. z ++ flat_map (queue_line roles) qs) (c.in_ok-put_all_left.ensures
          ∙ ap (λ z. z ++ left) (c.in_ok-put_store.ensures
          ∙ ap (λ (z : List (Name × ℕ)). first ++ store_text (size_in z) roles (value_in c.store.result.now)) c.sizes.ensures
          ∙ ap (λ (z : Entries). first ++ store_text (size_in m.sizes) roles (value_in z)) c.store.ensures
          ∙ ap (λ z. z ++ store_text (size_in m.sizes) roles (value_in m.store)) (c.in_ok-put_ended.ensures ∙ ap (λ z. z ++ ended_text c.args.played.now.ended) c.new-out.ensures.items))),
    )
