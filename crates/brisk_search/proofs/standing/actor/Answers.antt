use Rattle.std.proofs.Common.{◌+◌, ◌-◌, ◌<◌, [], ◌∷◌, length, sym, ap, ◌∙◌, arith}
use Rattle.std.specs.Prelude.{reverse}
use Rattle.std.proofs.lemmas.List.{reverse-append}
use Rattle.brisk_state.specs.Symbolic.{Symbolic}
use Rattle.brisk_syntax.specs.Typing.{is_among}
use Rattle.brisk_search.specs.Advance.{actor}
use Rattle.brisk_search.specs.Views.{at_walk}
use Rattle.brisk_search.proofs.Candidates.{any_reverse, one_actor, sender_acts, sender_waits}
use Rattle.brisk_search.proofs.standing.actor.Goals as goal

pub returns-in-Nobody : goal.returns-in-Nobody
returns-in-Nobody c =
    let w = c.args.walk.now in let ws = reverse c.loop-turn.waiting.items in let k = c.loop-turn._turn in
    let all = ap length c.threads-count.ensures.threads ∙ ap (λ (S : Symbolic). length S.threads) c.state.ensures in
    let less : k < length w.state.threads = omega (arith, all, c.loop-turn-test.true) in
    sym (sym c.loop-turn.invariant ∙ one_actor (at_walk w) (length w.state.threads) k w.state ws c.loop-turn.thread _ less (sym c.in_ok-next_to.ensures ∙ c.in-Nobody.is))

pub returns-in-Itself : goal.returns-in-Itself
returns-in-Itself c =
    let w = c.args.walk.now in let ws = reverse c.loop-turn.waiting.items in let k = c.loop-turn._turn in
    let all = ap length c.threads-count.ensures.threads ∙ ap (λ (S : Symbolic). length S.threads) c.state.ensures in
    let less : k < length w.state.threads = omega (arith, all, c.loop-turn-test.true) in
    sym (sym c.loop-turn.invariant ∙ one_actor (at_walk w) (length w.state.threads) k w.state ws c.loop-turn.thread _ less (sym c.in_ok-next_to.ensures ∙ c.in-Itself.is))

pub returns-then-has_name : goal.returns-then-has_name
returns-then-has_name c =
    let w = c.args.walk.now in let ws = reverse c.loop-turn.waiting.items in let k = c.loop-turn._turn in let u = c.in-Sender.sender in
    let all = ap length c.threads-count.ensures.threads ∙ ap (λ (S : Symbolic). length S.threads) c.state.ensures in
    let less : k < length w.state.threads = omega (arith, all, c.loop-turn-test.true) in
    let waits = any_reverse _ c.loop-turn.waiting.items ∙ ap (λ ns. is_among ns u) (sym c.deref.ensures.value) ∙ sym c.has_name.ensures ∙ c.if-has_name.true in
    sym (sym c.loop-turn.invariant ∙ one_actor (at_walk w) (length w.state.threads) k w.state ws c.loop-turn.thread _ less (sym c.in_ok-next_to.ensures ∙ c.in-Sender.is) ∙ sender_waits (at_walk w) (length w.state.threads - (k + 1)) w.state ws c.loop-turn.thread u waits)

pub loop-turn-preserved : goal.loop-turn-preserved
loop-turn-preserved c =
    let w = c.args.walk.now in let ws = reverse c.loop-turn.waiting.items in let k = c.loop-turn._turn in let u = c.in-Sender.sender in
    let all = ap length c.threads-count.ensures.threads ∙ ap (λ (S : Symbolic). length S.threads) c.state.ensures in
    let less : k < length w.state.threads = omega (arith, all, c.loop-turn-test.true) in
    let free = any_reverse _ c.loop-turn.waiting.items ∙ ap (λ ns. is_among ns u) (sym c.deref.ensures.value) ∙ sym c.has_name.ensures ∙ c.if-has_name.false in
    let longer = ap reverse c.in_ok-push-in-Sender.ensures.items ∙ reverse-append c.loop-turn.waiting.items (c.loop-turn.thread ∷ []) in
    ap (λ zs. actor (at_walk w) (length w.state.threads - (k + 1)) w.state zs u) longer ∙ sender_acts (at_walk w) (length w.state.threads - (k + 1)) w.state ws c.loop-turn.thread u free
    ∙ sym (one_actor (at_walk w) (length w.state.threads) k w.state ws c.loop-turn.thread _ less (sym c.in_ok-next_to.ensures ∙ c.in-Sender.is)) ∙ c.loop-turn.invariant
