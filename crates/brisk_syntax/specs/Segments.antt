-- Code taken apart: its first statement, what stands behind it, and the statement at a place.
use Rattle.std.specs.Prelude.{ℕ, zero, suc, ◌+◌, List, [], ◌∷◌, Option, Some, None}
use Rattle.brisk_syntax.specs.Syntax.{Statement, Code, done, ◌⨾◌, ◌then◌}

-- the first statement, where there is one
abbrev pub head_of : Code → Option Statement
head_of done = None
head_of (s ⨾ c) = Some s

-- the code behind the first statement
abbrev pub rest_of : Code → Code
rest_of done = done
rest_of (s ⨾ c) = c

-- the number of statements, bodies not counted
abbrev pub code_length : Code → ℕ
code_length done = 0
code_length (s ⨾ c) = code_length c + 1

-- the statement at a place, counted from 0
abbrev pub statement_at : Code → ℕ → Option Statement
statement_at done k = None
statement_at (s ⨾ c) zero = Some s
statement_at (s ⨾ c) (suc k) = statement_at c k

-- the code from a place on
abbrev pub code_from_place : ℕ → Code → Code
code_from_place zero c = c
code_from_place (suc k) done = done
code_from_place (suc k) (s ⨾ c) = code_from_place k c

-- the last code, then the one before it, and so on to the first
abbrev pub backwards : List Code → Code
backwards [] = done
backwards (c ∷ cs) = backwards cs then c

-- the code of an option, and the empty code of none
abbrev pub or_done : Option Code → Code
or_done None = done
or_done (Some c) = c
