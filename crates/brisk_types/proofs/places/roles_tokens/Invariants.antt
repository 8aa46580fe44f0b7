use Rattle.std.proofs.Common.{◌≡◌, ◌+◌, drop, map, sum_by}
use Rattle.brisk_syntax.specs.Texts.{text_of}
use Rattle.brisk_syntax.specs.Tokens.{role_tokens}
use Rattle.brisk_types.proofs.places.roles_tokens.Given as goal

abbrev pub invariant-loop-role : goal.invariant-loop-role
invariant-loop-role l = l.tokens + sum_by role_tokens (map text_of (drop l.role-index l.role-items)) ≡ sum_by role_tokens l.roles
