use Rattle.std.proofs.Common.{◌≡◌, ◌<◌, ◌-◌, ◌^◌, min, length, drop}
use denote.Text.{Utf8}
use denote.Shadow.{shadow}
use Rattle.std.specs.Str.{chars}
use Rattle.std.specs.Char.{is_ascii_digit}
use Rattle.std.specs.List.{prefix_len}
use Rattle.brisk_lex.specs.Tokens.{number}
use Rattle.brisk_lex.proofs.cut.digits.Given as goal

abbrev pub decreases-loop-c : goal.decreases-loop-c
decreases-loop-c l = length (chars l.rest)

abbrev pub invariant-loop-c : goal.invariant-loop-c
invariant-loop-c l =
    shadow (Utf8 l.rest) × (l.value < 2 ^ 64) × (drop (prefix_len is_ascii_digit (chars l.rest)) (chars l.rest) ≡ drop (prefix_len is_ascii_digit (chars l.text)) (chars l.text))
    × (min (number l.value (chars l.rest)) (2 ^ 64 - 1) ≡ min (number l.fn.first (chars l.text)) (2 ^ 64 - 1))
