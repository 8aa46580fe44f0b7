use Rattle.std.proofs.Common.{◌≡◌, map, drop}
use Rattle.brisk_derivtext.specs.Keywords.{word_in}
use Rattle.brisk_derivtext.proofs.keyword.find.Given as goal

abbrev pub invariant-loop-spelling : goal.invariant-loop-spelling
invariant-loop-spelling l = word_in (map (λ e. (e.0.now, e.1)) (drop l.spelling-index l.table)) l.word ≡ word_in (map (λ e. (e.0.now, e.1)) l.table) l.word
