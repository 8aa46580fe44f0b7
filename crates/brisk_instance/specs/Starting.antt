-- When an instance is started, and why one isn't.
use Rattle.std.specs.Prelude.{ℕ, ◌<◌, ◌≤◌, List}
use Rattle.brisk_values.specs.declared.instance.Instance.{Instance as Given}
use Rattle.brisk_syntax.specs.declared.program.EnumDecl.{EnumDecl}
use Rattle.brisk_syntax.specs.Roles.{RoleText}
use Rattle.brisk_syntax.specs.Tokens.{weight}
use Rattle.brisk_instance.specs.declared.fault.StartFault.{StartFault}
use Rattle.brisk_instance.specs.declared.fault.StartFault.TheVariants.{BadInstance, TooLarge, NoMemory}
use Rattle.brisk_instance.specs.Given.{FitsAsGiven, instance_of}

-- the greatest weight of an instance that is started
abbrev pub most_weight : ℕ
most_weight = 2000000

-- the instance fits the roles, and isn't too heavy to be started
abbrev pub IsReady : List EnumDecl → List RoleText → Given → Type 0
IsReady enums roles g = FitsAsGiven enums roles g × (weight roles (instance_of g) ≤ most_weight)

-- what is so where the instance isn't started: it doesn't fit; it fits and is too heavy; for want of memory nothing is told
abbrev pub IsCause : List EnumDecl → List RoleText → Given → StartFault → Type 0
IsCause enums roles g BadInstance = ¬ FitsAsGiven enums roles g
IsCause enums roles g TooLarge = FitsAsGiven enums roles g × (most_weight < weight roles (instance_of g))
IsCause enums roles g NoMemory = Unit {0}
