use Rattle.std.proofs.Common.{◌++◌, Some, ap, ◌∙◌}
use Rattle.std.specs.Prelude.{codes}
use Rattle.std.proofs.lemmas.Bool.Decides.{Decides-eqb}
use Rattle.std.proofs.lemmas.Slice.Eq.{strip_suffix_is}
use Rattle.brisk_lines.proofs.parts.member_in.Goals as goal

pub returns : goal.returns
returns c =
    let s = strip_suffix_is Decides-eqb c.in_ok-behind.field-0.now (codes "]") (Some c.in_ok-number.number) c.in_ok-number.ensures.cases in
    (c.in_ok-behind.ensures ∙ ap (λ l. codes "[" ++ l) (s ∙ ap (λ l. l ++ codes "]") c.in_ok-short_in.ensures.0), c.in_ok-short_in.ensures.1)
