use Rattle.std.proofs.Common.{◌≡◌, ◌<◌, ◌∷◌, List, Some, cond, length, ap, sym, subst, ◌∙◌, arith}
use Rattle.std.specs.BTreeMap.{get, is_at}
use Rattle.std.specs.Map.Iter.{deref_pair}
use Rattle.std.proofs.lemmas.Map.Iter.{rest_all, rest_more}
use Rattle.std.proofs.lemmas.Map.Views.{All-turn}
use Rattle.brisk_async.specs.declared.mail.Key.{Key}
use Rattle.brisk_async.specs.InOrder.{rank_cmp}
use Rattle.brisk_async.specs.Keys.{Queues, key_cmp, mail_in, or_nil, queue_of}
use Rattle.brisk_async.specs.Machine.{Payload}
use Rattle.brisk_async.proofs.Maps.{get_listed, key_total}
use Rattle.brisk_async.proofs.Ranked.{Holds, all_held, begun, inserted, skipped}
use Rattle.brisk_async.proofs.mail.Mail.numbers.Goals as goal

pub loop-key-init : goal.loop-key-init
loop-key-init c =
    subst (λ (m : Queues). Holds c.args.program.now (mail_in m) c.into_iter-key-iterator.result c.new-numbers.result) c.self.view_is
    (begun c.args.program.now c.self.inside.queues.entries c.into_iter-key-iterator.result c.new-numbers.result c.new-numbers.ensures.empty c.into_iter-key-iterator.ensures.into_iter_gives.0)

pub loop-key-preserved-in_ok-insert : goal.loop-key-preserved-in_ok-insert
loop-key-preserved-in_ok-insert c =
    let k = c.in-Some.key.now in let ms = c.in-Some.waiting.now in let es = c.self.inside.queues.entries in
    let at : get key_cmp c.self.inside.queues k ≡ Some ms =
    All-turn deref_pair (λ (e : Key × List Payload). get key_cmp c.self.inside.queues e.0 ≡ Some e.1) _ _ _ _ _ _ _
    c.into_iter-key-iterator.ensures.into_iter_gives.6 c.into_iter-key-iterator.ensures.into_iter_gives.0 c.loop-key.yielded_by c.in-Some.is c.next.ensures.steps in
    let found : mail_in c.args.self.now (queue_of k) ≡ ms = ap (λ (m : Queues). mail_in m (queue_of k)) (sym c.self.view_is) ∙ ap or_nil (get_listed key_total es k ∙ at) in
    let more : c.loop-key.key-iterator ≡ (k, ms) ∷ c.next.new.self = rest_more deref_pair _ _ _ _ c.in-Some.is c.next.ensures.steps in
    let some : 0 < length ms = omega arith in
    inserted c.args.program.now (mail_in c.args.self.now) k ms c.loop-key.key-iterator c.next.new.self more found c.loop-key.numbers c.insert.new.self some
    (λ r. c.in_ok-insert.ensures.updates.0 r ∙ (λ i. cond (is_at (rank_cmp (c.rank_in.ensures i)) r) (Some (c.count-number.ensures i)) (get rank_cmp c.loop-key.numbers r))) c.loop-key.invariant

pub loop-key-preserved : goal.loop-key-preserved
loop-key-preserved c =
    let k = c.in-Some.key.now in let ms = c.in-Some.waiting.now in let es = c.self.inside.queues.entries in
    let at : get key_cmp c.self.inside.queues k ≡ Some ms =
    All-turn deref_pair (λ (e : Key × List Payload). get key_cmp c.self.inside.queues e.0 ≡ Some e.1) _ _ _ _ _ _ _
    c.into_iter-key-iterator.ensures.into_iter_gives.6 c.into_iter-key-iterator.ensures.into_iter_gives.0 c.loop-key.yielded_by c.in-Some.is c.next.ensures.steps in
    let found : mail_in c.args.self.now (queue_of k) ≡ ms = ap (λ (m : Queues). mail_in m (queue_of k)) (sym c.self.view_is) ∙ ap or_nil (get_listed key_total es k ∙ at) in
    let more : c.loop-key.key-iterator ≡ (k, ms) ∷ c.next.new.self = rest_more deref_pair _ _ _ _ c.in-Some.is c.next.ensures.steps in
    let none : length ms ≡ 0 = omega arith in
    skipped c.args.program.now (mail_in c.args.self.now) k ms c.loop-key.key-iterator c.next.new.self more found c.loop-key.numbers none c.loop-key.invariant

pub returns : goal.returns
returns c = all_held c.args.program.now (mail_in c.args.self.now) c.loop-key.key-iterator c.loop-key.numbers (rest_all deref_pair _ _ _ c.in-None.is c.next.ensures.steps) c.loop-key.invariant
