use Rattle.std.proofs.Common.{◌≡◌, ◌++◌, drop}
use Rattle.std.specs.Prelude.{flat_map}
use Rattle.brisk_syntax.specs.Declarations.{variable_of}
use Rattle.brisk_syntax.specs.Texts.{text_of}
use Rattle.brisk_syntax.specs.Value.{or_false}
use Rattle.brisk_values.specs.Places.{value_in}
use Rattle.brisk_schedule.specs.Printing.{variable_line, variable_lines}
use Rattle.brisk_schedule.proofs.printed.put_variables.Given as goal

-- what is written, and what is left to write
abbrev pub invariant-loop-decl : goal.invariant-loop-decl
invariant-loop-decl l =
    l.out.items ++ flat_map (λ d. variable_line (text_of l.role) l.process (variable_of d) (or_false (value_in l.store l.process (variable_of d)))) (drop l.decl-index l.decl-items)
    ≡ l.initial.out.items ++ variable_lines (value_in l.store) (text_of l.role) l.process
