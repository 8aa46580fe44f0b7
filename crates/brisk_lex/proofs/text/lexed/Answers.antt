use Rattle.std.proofs.Common.{◌-◌, length, rules, arith}
use Rattle.std.specs.Str.{chars}
use Rattle.std.proofs.lemmas.Str.{IsUtf8-past_char}
use Rattle.brisk_lex.proofs.Steps.{step_blank, step_takes, step_fails, place_is, shorter, as_fault}
use Rattle.brisk_lex.proofs.text.lexed.Goals as goal

pub loop-c-preserved-in-Blank : goal.loop-c-preserved-in-Blank
loop-c-preserved-in-Blank c =
    let cuts = c.in-Blank.ensures in
    let step = step_blank (length c.args.text.now) cuts.0 c.in-Some.c (chars c.in-Some.after.now) (chars c.loop-c.rest.now) (chars c.in-Blank.next.now) c.loop-c.tokens.items _ c.in-Some.ensures.0 cuts.1 cuts.2 c.loop-c.invariant.2 in
    let less = shorter c.loop-c.rest.now c.in-Some.after.now c.in-Blank.next.now c.in-Some.c cuts.0 (IsUtf8-past_char c.loop-c.rest.now c.in-Some.after.now c.in-Some.c c.loop-c.invariant.0 c.in-Some.ensures.1) (search rules) c.in-Some.ensures.1 cuts.2 in
    (search rules, omega (arith, less, c.loop-c.invariant.1), step)

pub loop-c-preserved : goal.loop-c-preserved
loop-c-preserved c =
    let cuts = c.in-Takes.ensures in
    let there = place_is (length c.args.text.now) c.loop-c.rest.now c.loop-c.invariant.0 in
    let step = step_takes (length c.args.text.now) cuts.0 c.in-Some.c (length c.args.text.now - length c.loop-c.rest.now) c.in-Takes.token (chars c.in-Some.after.now) (chars c.loop-c.rest.now) (chars c.in-Takes.next.now) c.loop-c.tokens.items _ c.in-Some.ensures.0 cuts.1 cuts.2 there c.loop-c.invariant.2 in
    let less = shorter c.loop-c.rest.now c.in-Some.after.now c.in-Takes.next.now c.in-Some.c cuts.0 (IsUtf8-past_char c.loop-c.rest.now c.in-Some.after.now c.in-Some.c c.loop-c.invariant.0 c.in-Some.ensures.1) (search rules) c.in-Some.ensures.1 cuts.2 in
    (search rules, omega (arith, less, c.loop-c.invariant.1), rw c.in_ok-push-in-Takes.ensures.items step)

pub returns-in-Fails : goal.returns-in-Fails
returns-in-Fails c =
    let there = place_is (length c.args.text.now) c.loop-c.rest.now c.loop-c.invariant.0 in
    let step = step_fails (length c.args.text.now) c.in-Some.c (length c.args.text.now - length c.loop-c.rest.now) c.in-Fails.wrong (chars c.in-Some.after.now) (chars c.loop-c.rest.now) c.loop-c.tokens.items _ c.in-Some.ensures.0 c.in-Fails.ensures there c.loop-c.invariant.2 in
    rw c.at.ensures (as_fault c.in-Fails.wrong _ _ step)
