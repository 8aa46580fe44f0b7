use Rattle.std.proofs.Common.{ap, ◌∙◌}
use Rattle.brisk_syntax.specs.Segments.{rest_of}
use Rattle.brisk_syntax.specs.Substitution.{code_with}
use Rattle.brisk_syntax.specs.declared.tree.Who.TheVariants as who
use Rattle.brisk_loops.proofs.Owners.{stands_at_loop}
use Rattle.brisk_loops.proofs.enter.body_at.Goals as goal

pub returns-clause-ok : goal.returns-clause-ok
returns-clause-ok c =
    let l = c.in-Some-for_at.each.now in let s = c.args.set in (
      record { set = s; body = code_with l.binder (who.At s) l.body.value; rest = rest_of c.in-Some.code.now },
      stands_at_loop c.args.state.now s c.args.owner c.in-Some.code.now l.binder l.body.value c.in-Some.ensures c.in-Some-for_at.ensures,
      c.in_ok-code.ensures ∙ ap (code_with l.binder (who.At s)) c.deref.ensures,
    )
