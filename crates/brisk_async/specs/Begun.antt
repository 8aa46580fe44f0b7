-- The codes with which a machine starts, process by process.
use Rattle.std.specs.Prelude.{ℕ, zero, suc, List, [], ◌∷◌}
use Rattle.std.specs.FinMap.{insert}
use Rattle.brisk_values.specs.Names.{Name, member}
use Rattle.brisk_syntax.specs.Roles.{RoleText}
use Rattle.brisk_syntax.specs.Syntax.{Code}
use Rattle.brisk_instance.specs.Begun.{members_of}
use Rattle.brisk_async.specs.Keys.{Processes}

-- the codes, with this code for the first members of a role
abbrev pub with_code : Name → Code → ℕ → Processes → Processes
with_code n c zero m = m
with_code n c (suc k) m = insert (with_code n c k m) (member n k) c

-- the codes, with those of all processes of these roles
abbrev pub with_codes : (Name → ℕ) → List RoleText → Processes → Processes
with_codes sizes [] m = m
with_codes sizes (r ∷ rs) m = with_codes sizes rs (with_code r.name r.code (members_of sizes r) m)
