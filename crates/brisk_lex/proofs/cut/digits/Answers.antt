use Rattle.std.proofs.Common.{rules, ◌∙◌}
use Rattle.std.specs.Str.{chars}
use Rattle.std.specs.Char.{is_ascii_digit}
use Rattle.brisk_lex.proofs.Chars.{number_step, past_step}
use Rattle.brisk_lex.proofs.cut.digits.Goals as goal

pub loop-c-preserved : goal.loop-c-preserved
loop-c-preserved c =
    let step = number_step c.loop-c.value c.in-Some.c c.saturating_add-value.result (chars c.loop-c.rest.now) (chars c.in-Some.after.now) c.in-Some.ensures.0 (search rules) (search rules) in
    (search rules, search rules, past_step is_ascii_digit c.in-Some.c (chars c.loop-c.rest.now) (chars c.in-Some.after.now) c.in-Some.ensures.0 (search rules) ∙ c.loop-c.invariant.2, step ∙ c.loop-c.invariant.3)
