use Rattle.std.proofs.Common.{[], ◌∷◌, ◌∙◌, sym}
use Rattle.brisk_cli.specs.Commands.{command_of, drill_of}
use Rattle.brisk_cli.proofs.Words.{due_as, no_file}
use Rattle.brisk_cli.proofs.serve.of_two.Goals as goal

pub returns-clause-due : goal.returns-clause-due
returns-clause-due g c =
    due_as (command_of (c.args.word.now ∷ c.args.first.now ∷ [])) (drill_of c.args.word.now c.args.first.now) (no_file c.args.word.now c.args.first.now (sym c.eq.ensures ∙ c.if-eq.false) (sym c.eq-2.ensures ∙ c.if-eq-2.false)) _ _ _ _ _ (c.drill.ensures.due _ _ _ _)
