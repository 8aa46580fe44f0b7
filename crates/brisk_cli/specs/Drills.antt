-- What is answered for a drill.
use Rattle.std.specs.Prelude.{ℕ, ◌++◌, ◌-◌, ◌^◌, codes, length, min}
use Rattle.std.specs.Fmt.{decimal}
use Rattle.brisk_derivation.specs.Counts.{steps_among}
use Rattle.brisk_derivation.specs.Steps.{Steps}
use Rattle.brisk_drill.specs.Drill.{drill}
use Rattle.brisk_syntax.specs.Counts.{program_statements}
use Rattle.brisk_syntax.specs.declared.program.Program.{Program}
use Rattle.brisk_cli.specs.declared.status.Status.{Status}
use Rattle.brisk_cli.specs.Files.{Text}
use Rattle.brisk_cli.specs.Languages.{OfText, sources}
use Rattle.brisk_cli.specs.Rewriting.{OfSearched, search_of}

-- the line of a drill, with the numbers of its roles, its statements, and the steps of its derivation
abbrev pub drill_line : (n roles statements steps : ℕ) → Text
drill_line n roles statements steps =
    codes "drill " ++ decimal n ++ codes ": " ++ decimal roles ++ codes " roles, " ++ decimal statements ++ codes " statements, " ++ decimal steps ++ codes " steps, valid\n"

-- a count as it is told, which stays at the greatest number of 64 bits
abbrev pub told : ℕ → ℕ
told n = min n (2 ^ 64 - 1)

-- the line of a drill whose derivation this is
abbrev pub summary : ℕ → Program → Steps → Text
summary n P D = drill_line n (length P.roles) (told (program_statements P)) (told (steps_among D))

-- the answer for the drill of a number: the text of that drill holds a program, and its line is told where the search comes
-- to a derivation; otherwise what `rewrite` answers for that text
abbrev pub OfDrill : ℕ → Status → Text → Type 0
OfDrill n status text = OfText sources (drill n) (λ P. OfSearched (λ D Q. summary n P D) P (search_of P)) status text
