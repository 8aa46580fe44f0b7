use Rattle.std.proofs.Common.{◌≡◌, Some, None, refl, IsSome, ap, sym, ◌∙◌}
use Rattle.std.specs.BTreeMap as tree
use Rattle.std.specs.FinMap as map
use Rattle.brisk_values.specs.Places.{process_cmp}
use Rattle.brisk_values.proofs.Entries.{exact_processes, process_total}
use Rattle.brisk_syntax.specs.Segments.{or_done}
use Rattle.brisk_async.specs.Effects.{next_of}
use Rattle.brisk_async.proofs.Maps.{get_listed, one_insert}
use Rattle.brisk_async.proofs.codes.Codes.put.Goals as goal

pub put_next-requires : goal.put_next-requires
put_next-requires c =
    let there : Some c.in-Some.code.now ≡ map.get c.args.self.now c.args.process.now =
    c.in-Some.ensures.value ∙ sym (get_listed process_total c.self.inside.codes.entries c.args.process.now) ∙ ap (λ m. map.get m c.args.process.now) c.self.view_is in
    rw (← there) at c.requires

pub returns-in-Some : goal.returns-in-Some
returns-in-Some c =
    let p = c.args.process.now in let before = c.self.inside.codes in
    let there : Some c.in-Some.code.now ≡ map.get c.args.self.now p =
    c.in-Some.ensures.value ∙ sym (get_listed process_total before.entries p) ∙ ap (λ m. map.get m p) c.self.view_is in
    let some : IsSome (tree.get process_cmp before p) = rw (← c.in-Some.ensures.value) refl in
    one_insert process_total exact_processes before.entries (c.get_mut.follows.lender c.put_next.new.code).entries p c.put_next.new.code ((c.get_mut.follows.holds c.put_next.new.code).3 some).0
    ∙ ap (λ m. map.insert m p c.put_next.new.code) c.self.view_is
    ∙ ap (map.insert c.args.self.now p) (c.put_next.ensures ∙ ap (λ o. next_of c.args.next (or_done o)) there)

pub returns : goal.returns
returns c =
    let none : None ≡ map.get c.args.self.now c.args.process.now =
    c.in_default.ensures.value ∙ sym (get_listed process_total c.self.inside.codes.entries c.args.process.now) ∙ ap (λ m. map.get m c.args.process.now) c.self.view_is in
    let h = rw (← none) at c.requires in cc
