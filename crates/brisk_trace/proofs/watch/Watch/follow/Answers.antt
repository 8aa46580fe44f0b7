use Rattle.std.proofs.Common.{◌≡◌, Some, cond, ap, sym, ◌∙◌}
use Rattle.std.specs.BTreeMap as tree
use Rattle.std.specs.FinMap as map
use Rattle.brisk_values.specs.Functions.{changed}
use Rattle.brisk_values.specs.Names.{same_process}
use Rattle.brisk_values.specs.Places.{process_cmp}
use Rattle.brisk_values.proofs.Entries.{exact_processes, process_total}
use Rattle.brisk_syntax.specs.Statements.{statement_of}
use Rattle.brisk_syntax.specs.Syntax.{◌⨾◌}
use Rattle.brisk_syntax.specs.Value.{size_in}
use Rattle.brisk_async.proofs.Maps.{get_listed, one_insert}
use Rattle.brisk_trace.specs.declared.standing.Standing.{Standing}
use Rattle.brisk_trace.specs.Standings.{followed}
use Rattle.brisk_trace.specs.Watches.{or_start, standing_in}
use Rattle.brisk_trace.proofs.Kept.{one_standing, put_back}
use Rattle.brisk_trace.proofs.watch.Watch.follow.Goals as goal
use Rattle.brisk_trace.proofs.watch.Watch.follow.Goals.{in-None, in-Some}

pub returns : goal.returns
returns c = λ rest.
    let p = c.args.event.now.process in let before = c.self.inside.standings in let v = c.follow.new.self in
    let found = sym (get_listed process_total before.entries p) ∙ ap (λ m. map.get m p) c.self.view_is in
    let there : c.match-remove.standing ≡ standing_in c.args.self.now p = elim c.match-remove.branch [
      | in-None w ↦ w.standing-is ∙ (λ i. record { at_receive = w.new-standing.ensures.receive i; runs = w.new-standing.ensures.runs i }) ∙ ap or_start (w.in-None.ensures.value ∙ found)
      | in-Some w ↦ w.standing-is ∙ ap or_start (w.in-Some.ensures.value ∙ found)
    ] in
    ap standing_in
    (one_insert process_total exact_processes before.entries c.insert.new.self.entries p v
    (λ q. c.in_ok-insert.ensures.updates.0 q ∙ ap (λ o. cond (tree.is_at (process_cmp p) q) (Some v) o) (c.remove.ensures.updates.0 q) ∙ put_back (tree.is_at (process_cmp p) q) v (tree.get process_cmp before q))
    ∙ ap (λ m. map.insert m p v) c.self.view_is)
    ∙ one_standing c.args.self.now p v
    ∙ ap (changed same_process (standing_in c.args.self.now) p) (c.in_ok-follow.ensures rest ∙ ap (λ (st : Standing). followed (size_in c.args.sizes.now) (statement_of c.args.head.now ⨾ rest) c.args.event.now.sender st) there)
