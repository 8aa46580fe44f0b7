use Rattle.std.proofs.Common.{sym, subst, ◌∙◌}
use Rattle.brisk_lex.specs.Spelled.{IsName}
use Rattle.brisk_derivtext.proofs.Fronts.{for_name, for_words, not_not, other_word}
use Rattle.brisk_derivtext.proofs.words.for_rule.Goals as goal

pub returns-in_default-name_in : goal.returns-in_default-name_in
returns-in_default-name_in c = λ p legal e. c.in_default-name_in.ensures (subst IsName (sym (for_name c.in-Some.ensures p legal e).0) legal.0)

pub returns-then-ne : goal.returns-then-ne
returns-then-ne c = λ p legal e. other_word c.in-Some-first_word.word.now c.as_slice.result.now (not_not _ c.if-ne.ensures) ((for_words c.in-Some.ensures c.in-Some-first_word.ensures p legal e).1 ∙ sym c.as_slice.ensures)

pub returns-in_default-2 : goal.returns-in_default-2
returns-in_default-2 c = λ p legal e. (rw c.in_default-2.is at c.in_ok-names.ensures) (p.1, p.2) (legal.1, legal.2) (for_words c.in-Some.ensures c.in-Some-first_word.ensures p legal e).2
