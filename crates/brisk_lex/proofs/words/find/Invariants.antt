use Rattle.std.proofs.Common.{◌≡◌, map, drop}
use Rattle.brisk_lex.specs.Vocabulary as spec
use Rattle.brisk_lex.proofs.words.find.Given as goal

abbrev pub invariant-loop-spelling : goal.invariant-loop-spelling
invariant-loop-spelling l = spec.find (map (λ e. (e.0.now, e.1)) (drop l.spelling-index l.table)) l.bytes ≡ spec.find (map (λ e. (e.0.now, e.1)) l.table) l.bytes
