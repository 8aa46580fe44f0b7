use Rattle.std.proofs.Common.{◌≡◌, drop}
use Rattle.brisk_syntax.specs.Statements.{code_of}
use Rattle.brisk_syntax.specs.Typing.{is_among}
use Rattle.brisk_search.specs.Tries.{touched_in}
use Rattle.brisk_search.proofs.loss.+touched.Given as goal

abbrev pub invariant-is_touched_in-loop-statement : goal.invariant-is_touched_in-loop-statement
invariant-is_touched_in-loop-statement l = is_among (touched_in l.body) l.variable ≡ is_among (touched_in (code_of (drop l.statement-index l.statement-items))) l.variable
