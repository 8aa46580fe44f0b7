use Rattle.std.proofs.Common.{◌≡◌, ◌≤◌, length}
use denote.Text.{Utf8}
use denote.Shadow.{shadow}
use Rattle.std.specs.Str.{chars}
use Rattle.brisk_lex.specs.Tokens as spec
use Rattle.brisk_lex.proofs.text.lexed.Given as goal

abbrev pub decreases-loop-c : goal.decreases-loop-c
decreases-loop-c l = length (chars l.rest)

abbrev pub invariant-loop-c : goal.invariant-loop-c
invariant-loop-c l =
    shadow (Utf8 l.rest) × (length l.rest ≤ length l.text)
    × (spec.with_front l.tokens.items (spec.lexed (length l.text) 0 (chars l.rest)) ≡ spec.lexed (length l.text) 0 (chars l.text))
