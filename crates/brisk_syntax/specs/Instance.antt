-- Instances of a program: sizes for its sets and values for its inputs.
use Rattle.std.specs.Prelude.{◌≡◌, ℕ, ◌≤◌, ◌<◌, ◌^◌, pos, neg_ℤ, ◌≤ℤ◌, ◌<ℤ◌, true, List, [], ◌∷◌, Option, Some, None, if◌then◌else◌, nat_lt}
use Rattle.std.specs.List.{AllByRecursion}
use Rattle.brisk_values.specs.declared.value.Kind.{Kind}
use Rattle.brisk_values.specs.declared.value.Kind.TheVariants as kind
use Rattle.brisk_values.specs.declared.value.Pid.{Pid}
use Rattle.brisk_values.specs.declared.value.Value.{Value}
use Rattle.brisk_values.specs.declared.value.Value.TheVariants as value
use Rattle.brisk_values.specs.Names.{Name, same_name, member}
use Rattle.brisk_syntax.specs.declared.program.Decl.{Decl}
use Rattle.brisk_syntax.specs.declared.program.Decl.TheVariants.{Var, Input}
use Rattle.brisk_syntax.specs.declared.program.EnumDecl.{EnumDecl}
use Rattle.brisk_syntax.specs.declared.program.Program.{Program}
use Rattle.brisk_syntax.specs.Declarations.{constant_value, is_tag, role_named, decls_of}
use Rattle.brisk_syntax.specs.Roles.{RoleText}

-- an instance: a size for each set, a natural number without bound, and a value for each input of each process
pub record Instance : Type 0 where
  pub size : Name → ℕ
  pub input : Pid → Name → Value

-- the number of a role's processes
abbrev pub processes : Instance → RoleText → ℕ
processes i r = if r.many then i.size r.name else 1

-- the role, if it has a member with this number
abbrev pub with_member : Instance → ℕ → Option RoleText → Option RoleText
with_member i k None = None
with_member i k (Some r) = if nat_lt k (processes i r) then Some r else None

-- the role of a process, where it is in the instance: its member number is below its role's size
abbrev pub role_of : List RoleText → Instance → Pid → Option RoleText
role_of roles i p = with_member i p.member (role_named roles p.role)

-- the size of a role if it is a set, and 0 otherwise
abbrev pub set_size : Instance → Option RoleText → ℕ
set_size i None = 0
set_size i (Some r) = if r.many then i.size r.name else 0

-- the size of each set, and 0 for every other name
abbrev pub set_sizes : List RoleText → Instance → Name → ℕ
set_sizes roles i s = set_size i (role_named roles s)

-- the value is of the kind; a whole number lies from -2^63 to 2^63 - 1, and a tag is one of its enumeration's
abbrev pub IsOfKind : List EnumDecl → Kind → Value → Type 0
IsOfKind enums kind.Int (value.Int n) = (neg_ℤ (pos (2 ^ 63)) ≤ℤ n) × (n <ℤ pos (2 ^ 63))
IsOfKind enums kind.Bool (value.Bool b) = Unit {0}
IsOfKind enums (kind.Enum e) (value.Tag f t) = (e ≡ f) × (is_tag enums e t ≡ true)
IsOfKind enums k v = ⊥

-- the least number of a role's processes
abbrev pub least : RoleText → ℕ
least r = if r.nonempty then 1 else 0

-- the process has a value of its kind for this input
abbrev pub InputFits : List EnumDecl → Instance → Pid → Decl → Type 0
InputFits enums i p (Var x k c) = Unit {0}
InputFits enums i p (Input x k) = IsOfKind enums k (i.input p x)

-- the role's size is at least the declared least, and each input of each of its processes has a value of its kind
abbrev pub RoleFits : List EnumDecl → Instance → RoleText → Type 0
RoleFits enums i r =
    (least r ≤ processes i r) × ((k : ℕ) → k < processes i r → AllByRecursion (InputFits enums i (member r.name k)) r.decls)

-- the instance fits: each role's size and inputs do
abbrev pub Fits : Program → Instance → Type 0
Fits P i = AllByRecursion (RoleFits P.enums i) P.roles

-- the value with which a variable of a process starts: the declared or the given one
abbrev pub first_value : Instance → Pid → List Decl → Name → Option Value
first_value i p [] x = None
first_value i p (Var y k c ∷ ds) x = if same_name x y then Some (constant_value c) else first_value i p ds x
first_value i p (Input y k ∷ ds) x = if same_name x y then Some (i.input p y) else first_value i p ds x

-- the store in which an instance starts
abbrev pub start_store : List RoleText → Instance → Pid → Name → Option Value
start_store roles i p = first_value i p (decls_of (role_of roles i p))
