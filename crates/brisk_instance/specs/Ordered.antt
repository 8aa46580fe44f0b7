-- What is given, entry by entry: which size each set has, and which value each input of each process.
use Rattle.std.specs.Prelude.{◌≡◌, ℕ, ◌≤◌, List, [], ◌∷◌, map, flat_map, if◌then◌else◌}
use Rattle.std.specs.List.{range_with_len}
use Rattle.brisk_values.specs.declared.instance.Input.{Input}
use Rattle.brisk_values.specs.declared.instance.Instance.{Instance as Given}
use Rattle.brisk_values.specs.declared.value.Kind.{Kind}
use Rattle.brisk_values.specs.declared.value.Pid.{Pid}
use Rattle.brisk_values.specs.Names.{Name, member}
use Rattle.brisk_syntax.specs.declared.program.Decl.{Decl}
use Rattle.brisk_syntax.specs.declared.program.Decl.TheVariants as decl
use Rattle.brisk_syntax.specs.declared.program.EnumDecl.{EnumDecl}
use Rattle.brisk_syntax.specs.Instance.{Instance, IsOfKind, least, processes}
use Rattle.brisk_syntax.specs.Roles.{RoleText}
use Rattle.brisk_instance.specs.Given.{AreApart, FitsAsGiven, instance_of}

-- the roles that are sets, in order of declaration
abbrev pub sets : List RoleText → List RoleText
sets [] = []
sets (r ∷ rs) = if r.many then r ∷ sets rs else sets rs

-- where an input is given, and of which kind
pub record Slot : Type 0 where
  pub process : Pid
  pub variable : Name
  pub kind : Kind

-- the inputs of a process, in order of declaration
abbrev pub slots_at : Pid → List Decl → List Slot
slots_at p [] = []
slots_at p (decl.Var x k c ∷ ds) = slots_at p ds
slots_at p (decl.Input x k ∷ ds) = record { process = p; variable = x; kind = k } ∷ slots_at p ds

-- the inputs of so many members of a role, from one on
abbrev pub slots_of : Name → List Decl → ℕ → ℕ → List Slot
slots_of n ds from count = flat_map (λ p. slots_at p ds) (map (member n) (range_with_len from count))

-- the inputs of all processes of a role
abbrev pub role_slots : Instance → RoleText → List Slot
role_slots i r = slots_of r.name r.decls 0 (processes i r)

-- the inputs of all processes, in order of role, member and declaration
abbrev pub slots : Instance → List RoleText → List Slot
slots i roles = flat_map (role_slots i) roles

-- the size is that of the set, and at least its least
abbrev pub IsSizeOf : RoleText → Name × ℕ → Type 0
IsSizeOf r e = (e.0 ≡ r.name) × (least r ≤ e.1)

-- the input is given there, with a value of its kind
pub record IsInputAt (enums : List EnumDecl) (s : Slot) (e : Input) : Type 0 where
  pub process : e.process ≡ s.process
  pub variable : e.variable ≡ s.variable
  pub kind : IsOfKind enums s.kind e.value

-- the lists are as long as each other, and what stands at a place of the one goes with what stands there in the other
abbrev pub Pairwise : {A B : Type 0} → (A → B → Type 0) → List A → List B → Type 0
Pairwise R [] [] = Unit {0}
Pairwise R (x ∷ xs) (y ∷ ys) = R x y × Pairwise R xs ys
Pairwise R xs ys = ⊥

-- each set has a size, and each input of each process a value, in order
pub record IsOrdered (enums : List EnumDecl) (roles : List RoleText) (g : Given) : Type 0 where
  pub sizes : Pairwise IsSizeOf (sets roles) g.sizes
  pub inputs : Pairwise (IsInputAt enums) (slots (instance_of g) roles) g.inputs

-- what is ordered fits as given
abbrev pub OrderedFits : Type 0
OrderedFits = (enums : List EnumDecl) (roles : List RoleText) (g : Given) → AreApart roles → IsOrdered enums roles g → FitsAsGiven enums roles g

-- what fits as given is ordered
abbrev pub FittingIsOrdered : Type 0
FittingIsOrdered = (enums : List EnumDecl) (roles : List RoleText) (g : Given) → AreApart roles → FitsAsGiven enums roles g → IsOrdered enums roles g
