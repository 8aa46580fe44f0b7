-- A star at size two, where something is left over of a gather's turn at size one.
use Rattle.std.specs.Prelude.{◌≡◌, ◌≢◌, List, [], ◌∷◌, ◌++◌}
use Rattle.brisk_values.specs.Names.{single}
use Rattle.brisk_syntax.specs.declared.program.Program.{Program}
use Rattle.brisk_syntax.specs.Roles.{RoleText}
use Rattle.brisk_stars.specs.Overtaking.{IsLeftOver, turn_words}
use Rattle.brisk_stars.specs.Runs.{members_in}
use Rattle.brisk_stars.specs.Serving.{serve}
use Rattle.brisk_stars.specs.Sources.{IsCentre, IsStarSource, plain_start}
use Rattle.brisk_stars.specs.Words.{words}

-- At size two the words before the gather and those of its first turn are said as well, and the first member still has a message on the
-- gather's channel.
abbrev pub LeftOverAtTwo : Type 0
LeftOverAtTwo =
    (P : Program) (r : RoleText) → IsStarSource P → IsCentre P r → (l : IsLeftOver P r) → let s = plain_start P 2 in
    let turn = serve (words s.sizes l.before ++ turn_words l.gather (single l.gather.set)) (members_in r.name s) in
    (turn.left ≡ []) × ((turn.members (single l.gather.set)).up l.gather.channel ≢ 0)
