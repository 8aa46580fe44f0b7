use Rattle.std.proofs.Common.{map, rules, sym, ap, ◌∙◌}
use Rattle.std.proofs.lemmas.Result.{err_from_is_err_and}
use Rattle.std.proofs.lemmas.List.{map-append}
use Rattle.brisk_parse.specs.Input.{head}
use Rattle.brisk_parse.proofs.Repetitions.{others_stop, others_more, others_fails, others_full, others_refused}
use Rattle.brisk_parse.proofs.lists.separated.Goals as goal

pub returns-then-not-sees_mark : goal.returns-then-not-sees_mark
returns-then-not-sees_mark g c =
    others_stop g.T.Item.is_first g.T.Item.one c.args.more c.loop-turn._turn (map g.T.Item.seen c.loop-turn.items.items) c.loop-turn.reader _ c.loop-turn.invariant (search rules)

pub returns-in_err-read-2 : goal.returns-in_err-read-2
returns-in_err-read-2 g c =
    let p = err_from_is_err_and c.from_residual-in_err-read-2.result c.from_residual-in_err-read-2.ensures.1 in
    rw (p.1, p.2) (others_fails g.T.Item.is_first g.T.Item.one c.args.more c.loop-turn._turn (map g.T.Item.seen c.loop-turn.items.items) c.loop-turn.reader _ c.loop-turn.invariant c.in_err-read-2.field-0.0 c.loop-turn-test.true (search rules) (rw (← c.advance.ensures) c.in_err-read-2.ensures))

pub loop-turn-preserved : goal.loop-turn-preserved
loop-turn-preserved g c =
    let one = others_more g.T.Item.is_first g.T.Item.one c.args.more c.loop-turn._turn (map g.T.Item.seen c.loop-turn.items.items) c.loop-turn.reader _ c.loop-turn.invariant (g.T.Item.seen c.in_ok-read-2.field-0) c.read-in-loop-turn.new.reader c.loop-turn-test.true (search rules) (rw (← c.advance.ensures) c.in_ok-read-2.ensures) in
    rw (c.in_ok-push-2.ensures.items, map-append) one

pub returns-then-not-sees_mark-2 : goal.returns-then-not-sees_mark-2
returns-then-not-sees_mark-2 g c =
    others_stop g.T.Item.is_first g.T.Item.one c.args.more c.loop-turn._turn (map g.T.Item.seen c.loop-turn.items.items) c.loop-turn.reader _ c.loop-turn.invariant (search rules)

pub returns-then-begins : goal.returns-then-begins
returns-then-begins g c =
    rw (c.left.ensures, c.advance-2.ensures) (others_full g.T.Item.is_first g.T.Item.one c.args.more c.loop-turn._turn (map g.T.Item.seen c.loop-turn.items.items) c.loop-turn.reader _ c.loop-turn.invariant c.loop-turn-test.false (search rules) (ap (λ z. g.T.Item.is_first (head z)) (sym c.advance-2.ensures) ∙ ap g.T.Item.is_first (sym c.peek.ensures) ∙ sym c.begins.ensures ∙ c.if-begins.true))

pub returns : goal.returns
returns g c =
    rw (c.left-2.ensures, c.advance-2.ensures) (others_refused g.T.Item.is_first g.T.Item.one c.args.more c.loop-turn._turn (map g.T.Item.seen c.loop-turn.items.items) c.loop-turn.reader _ c.loop-turn.invariant c.loop-turn-test.false (search rules) (ap (λ z. g.T.Item.is_first (head z)) (sym c.advance-2.ensures) ∙ ap g.T.Item.is_first (sym c.peek.ensures) ∙ sym c.begins.ensures ∙ c.if-begins.false))
