use Rattle.std.proofs.Common.{◌≡◌, length, drop}
use denote.Text.{Utf8}
use denote.Shadow.{shadow}
use Rattle.std.specs.Str.{chars}
use Rattle.std.specs.List.{prefix_len}
use Rattle.brisk_lex.specs.Tokens.{not_newline}
use Rattle.brisk_lex.proofs.scan.past_line.Given as goal

abbrev pub decreases-loop-c : goal.decreases-loop-c
decreases-loop-c l = length (chars l.text)

abbrev pub invariant-loop-c : goal.invariant-loop-c
invariant-loop-c l = shadow (Utf8 l.text) × (drop (prefix_len not_newline (chars l.text)) (chars l.text) ≡ drop (prefix_len not_newline (chars l.fn.text)) (chars l.fn.text))
