use Rattle.std.proofs.Common.{◌≡◌, ◌++◌, ◌∷◌, [], None, Some, cond, refl, IsSome, ap, sym, ◌∙◌}
use Rattle.std.proofs.lemmas.Result.{err_from_is_err_and}
use Rattle.std.specs.BTreeMap as tree
use Rattle.std.specs.FinMap as map
use Rattle.brisk_values.specs.Functions.{changed}
use Rattle.brisk_async.specs.Keys.{key_cmp, mail_in, or_nil, queue_of}
use Rattle.brisk_async.specs.Machine.{same_queue}
use Rattle.brisk_async.proofs.Maps.{exact_keys, get_listed, insert_again, key_total, one_insert, one_queue}
use Rattle.brisk_async.proofs.mail.Mail.push.Goals as goal

pub returns-in_err-push-clause-err : goal.returns-in_err-push-clause-err
returns-in_err-push-clause-err c =
    let k = c.args.key.now in let before = c.self.inside.queues in
    let there : Some c.in-Some.waiting.now ≡ map.get c.args.self.now k =
    c.in-Some.ensures.value ∙ sym (get_listed key_total before.entries k) ∙ ap (λ m. map.get m k) c.self.view_is in
    let some : IsSome (tree.get key_cmp before k) = rw (← c.in-Some.ensures.value) refl in
    let p = err_from_is_err_and c.from_residual.result c.from_residual.ensures.1 in
    let whole = one_insert key_total exact_keys before.entries (c.get_mut.follows.lender c.push.new.self).entries k c.push.new.self ((c.get_mut.follows.holds c.push.new.self).3 some).0
    ∙ ap (λ m. map.insert m k c.push.new.self) c.self.view_is
    ∙ insert_again key_total exact_keys c.args.self.now k c.push.new.self (sym there ∙ ap Some (sym c.in_err-push.ensures.err)) in
    rw p.1 whole

pub returns-in-Some-clause-ok : goal.returns-in-Some-clause-ok
returns-in-Some-clause-ok c =
    let k = c.args.key.now in let before = c.self.inside.queues in
    let there : Some c.in-Some.waiting.now ≡ map.get c.args.self.now k =
    c.in-Some.ensures.value ∙ sym (get_listed key_total before.entries k) ∙ ap (λ m. map.get m k) c.self.view_is in
    let some : IsSome (tree.get key_cmp before k) = rw (← c.in-Some.ensures.value) refl in
    ap mail_in
    (one_insert key_total exact_keys before.entries (c.get_mut.follows.lender c.push.new.self).entries k c.push.new.self ((c.get_mut.follows.holds c.push.new.self).3 some).0
    ∙ ap (λ m. map.insert m k c.push.new.self) c.self.view_is)
    ∙ one_queue c.args.self.now k c.push.new.self
    ∙ ap (changed same_queue (mail_in c.args.self.now) (queue_of k)) (c.in_ok-push.ensures.ok ∙ ap (λ o. or_nil o ++ c.args.payload ∷ []) there)

pub returns-clause-ok : goal.returns-clause-ok
returns-clause-ok c =
    let k = c.args.key.now in let before = c.self.inside.queues in
    let none : None ≡ map.get c.args.self.now k =
    c.in_default.ensures.value ∙ sym (get_listed key_total before.entries k) ∙ ap (λ m. map.get m k) c.self.view_is in
    let one = c.in_ok-push_back.ensures.items ∙ ap (λ xs. xs ++ c.args.payload ∷ []) c.new-payloads.ensures.items in
    ap mail_in
    (one_insert key_total exact_keys before.entries c.insert.new.self.entries k c.push_back.new.self.items
    (λ q. c.in_ok-insert.ensures.updates.0 q ∙ ap (λ m. cond (tree.is_at (key_cmp k) q) (Some c.push_back.new.self.items) (tree.get key_cmp m q)) c.get_mut.follows.holds-at-none)
    ∙ ap (λ m. map.insert m k c.push_back.new.self.items) c.self.view_is)
    ∙ one_queue c.args.self.now k c.push_back.new.self.items
    ∙ ap (changed same_queue (mail_in c.args.self.now) (queue_of k)) (one ∙ ap (λ o. or_nil o ++ c.args.payload ∷ []) none)
