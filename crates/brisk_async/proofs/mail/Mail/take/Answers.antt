use Rattle.std.proofs.Common.{◌≡◌, None, Some, refl, IsSome, ap, sym, ◌∙◌}
use Rattle.std.specs.BTreeMap as tree
use Rattle.std.specs.FinMap as map
use Rattle.brisk_values.specs.Functions.{changed}
use Rattle.brisk_async.specs.Keys.{key_cmp, mail_in, or_nil, queue_of}
use Rattle.brisk_async.specs.Machine.{same_queue, without}
use Rattle.brisk_async.proofs.Maps.{exact_keys, get_listed, key_total, one_insert, one_queue}
use Rattle.brisk_async.proofs.Payloads.{change_none}
use Rattle.brisk_async.proofs.mail.Mail.take.Goals as goal

pub returns-in-Some : goal.returns-in-Some
returns-in-Some c =
    let k = c.args.key.now in let before = c.self.inside.queues in
    let there : Some c.in-Some.waiting.now ≡ map.get c.args.self.now k =
    c.in-Some.ensures.value ∙ sym (get_listed key_total before.entries k) ∙ ap (λ m. map.get m k) c.self.view_is in
    let some : IsSome (tree.get key_cmp before k) = rw (← c.in-Some.ensures.value) refl in
    ap mail_in
    (one_insert key_total exact_keys before.entries (c.get_mut.follows.lender c.take.new.self).entries k c.take.new.self ((c.get_mut.follows.holds c.take.new.self).3 some).0
    ∙ ap (λ m. map.insert m k c.take.new.self) c.self.view_is)
    ∙ one_queue c.args.self.now k c.take.new.self
    ∙ ap (changed same_queue (mail_in c.args.self.now) (queue_of k)) (c.take.ensures ∙ ap (λ o. without (or_nil o) c.args.place) there)

pub returns : goal.returns
returns c =
    let k = c.args.key.now in
    let none : None ≡ map.get c.args.self.now k =
    c.in_default.ensures.value ∙ sym (get_listed key_total c.self.inside.queues.entries k) ∙ ap (λ m. map.get m k) c.self.view_is in
    let q = queue_of k in
    let empty = ap or_nil (sym none) ∙ ap (λ o. without (or_nil o) c.args.place) none in
    ap (λ m. mail_in (map.from_entries m.entries)) c.get_mut.follows.holds-at-none ∙ ap mail_in c.self.view_is
    ∙ change_none (mail_in c.args.self.now) q (without (mail_in c.args.self.now q) c.args.place) empty
