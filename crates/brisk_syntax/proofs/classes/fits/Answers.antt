use Rattle.std.proofs.Common.{ap, ◌∙◌}
use Rattle.brisk_syntax.specs.Classes.{every, is_named, talks_to}
use Rattle.brisk_syntax.specs.Texts.{text_of}
use Rattle.brisk_syntax.proofs.Classed.{many_fits}
use Rattle.brisk_syntax.proofs.classes.fits.Goals as goal

pub returns-then-role : goal.returns-then-role
returns-then-role c =
    c.all_talk.ensures ∙ ap (every (talks_to (is_named c.args.centre.now))) c.deref.ensures ∙ many_fits c.args.centre.now (text_of c.args.role.now) c.if-role.true
