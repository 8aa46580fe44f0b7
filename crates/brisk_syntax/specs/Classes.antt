-- The straight programs and the stars.
use Rattle.std.specs.Prelude.{Bool, false, true, ◌&&◌, not, List, [], ◌∷◌, filter, if◌then◌else◌}
use Rattle.std.specs.List.{list_any, list_all}
use Rattle.brisk_values.specs.Names.{Name, same_name}
use Rattle.brisk_syntax.specs.declared.program.Program.{Program}
use Rattle.brisk_syntax.specs.declared.tree.Who.{Who}
use Rattle.brisk_syntax.specs.declared.tree.Who.TheVariants as who
use Rattle.brisk_syntax.specs.Roles.{RoleText}
use Rattle.brisk_syntax.specs.Syntax.{Statement, Assign, Send, Recv, RecvAny, If, IfElse, For, Repeat, Code, done, ◌⨾◌}

-- each statement of the code passes the test
abbrev pub every : (Statement → Bool) → Code → Bool
every test done = true
every test (s ⨾ c) = test s && every test c

-- the statement is an assignment or a local choice, which is an `if` whose sides consist of such statements alone
abbrev mutual
  pub is_local : Statement → Bool
  is_local (Assign x e) = true
  is_local (If e a) = all_local a
  is_local (IfElse e a b) = all_local a && all_local b
  is_local s = false

  pub all_local : Code → Bool
  all_local done = true
  all_local (s ⨾ c) = is_local s && all_local c

-- the statement is local, or a send to or a receive from a partner that passes the test
abbrev pub talks_to : (Who → Bool) → Statement → Bool
talks_to test (Send c es u) = test u
talks_to test (Recv c xs u) = test u
talks_to test s = is_local s

-- the partner has this name
abbrev pub is_named : Name → Who → Bool
is_named n (who.Name m) = same_name n m
is_named n u = false

-- no channel is declared loose
abbrev pub has_no_loose : Program → Bool
has_no_loose P = not (list_any (λ c. c.loose) P.channels)

-- the program is straight: single roles alone, with assignments, local choices, sends and receives from a named sender
abbrev pub is_straight : Program → Bool
is_straight P = has_no_loose P && list_all (λ r. not r.many && every (talks_to (λ u. true)) r.code) P.roles

-- the statement is a gather: a repeat over a set whose only statement is a receive from any over the same set
abbrev pub is_gather : Statement → Bool
is_gather (Repeat s k (RecvAny c xs v t b ⨾ done)) = same_name s t
is_gather s = false

-- a statement of a star's centre: a local one, or a `for` or a gather that talks to its own member alone
abbrev pub in_centre : Statement → Bool
in_centre (For v s k b) = every (talks_to (is_named v)) b
in_centre (Repeat s k (RecvAny c xs v t b ⨾ done)) = same_name s t && every (talks_to (is_named v)) b
in_centre s = is_local s

-- the code of a star's role: the centre's, or that of a member, which talks to the centre alone
abbrev pub fits_star : Name → RoleText → Bool
fits_star centre r = every (if r.many then talks_to (is_named centre) else in_centre) r.code

-- the one role of the list is the centre of a star of these roles
abbrev pub is_star_round : List RoleText → List RoleText → Bool
is_star_round (centre ∷ []) roles = list_all (fits_star centre.name) roles
is_star_round _ roles = false

-- the program is a star: it has exactly one single role, the centre, and each set talks to the centre alone
abbrev pub is_star : Program → Bool
is_star P = has_no_loose P && is_star_round (filter (λ r. not r.many) P.roles) P.roles
