-- What a program declares, looked up by name.
use Rattle.std.specs.Prelude.{pos, neg_ℤ, Bool, false, true, ◌&&◌, List, [], ◌∷◌, Option, Some, None, option_map, if◌then◌else◌}
use Rattle.std.specs.List.{list_any}
use Rattle.brisk_values.specs.declared.value.Kind.{Kind}
use Rattle.brisk_values.specs.declared.value.Value.{Value}
use Rattle.brisk_values.specs.declared.value.Value.TheVariants as value
use Rattle.brisk_values.specs.Names.{Name, same_name}
use Rattle.brisk_values.specs.Values.{wrapped}
use Rattle.brisk_syntax.specs.declared.program.Channel.{Channel}
use Rattle.brisk_syntax.specs.declared.program.Const.{Const}
use Rattle.brisk_syntax.specs.declared.program.Const.TheVariants as constant
use Rattle.brisk_syntax.specs.declared.program.Decl.{Decl}
use Rattle.brisk_syntax.specs.declared.program.Decl.TheVariants.{Var, Input}
use Rattle.brisk_syntax.specs.declared.program.EnumDecl.{EnumDecl}
use Rattle.brisk_syntax.specs.Roles.{RoleText}
use Rattle.brisk_syntax.specs.Syntax.{Code, done}

-- the value of a constant; a number is wrapped
abbrev pub constant_value : Const → Value
constant_value (constant.Num true n) = value.Int (wrapped (neg_ℤ (pos n)))
constant_value (constant.Num false n) = value.Int (wrapped (pos n))
constant_value (constant.Bool b) = value.Bool b
constant_value (constant.Tag e t) = value.Tag e t

-- the variable that is declared
abbrev pub variable_of : Decl → Name
variable_of (Var x k c) = x
variable_of (Input x k) = x

-- the kind of a variable, where it is declared
abbrev pub kind_in : List Decl → Name → Option Kind
kind_in [] x = None
kind_in (Var y k c ∷ ds) x = if same_name x y then Some k else kind_in ds x
kind_in (Input y k ∷ ds) x = if same_name x y then Some k else kind_in ds x

-- the tag is one of the enumeration's
abbrev pub is_tag : List EnumDecl → Name → Name → Bool
is_tag enums e t = list_any (λ n. same_name e n.name && list_any (same_name t) n.tags) enums

-- the channel of this name, where it is declared
abbrev pub channel_named : List Channel → Name → Option Channel
channel_named [] c = None
channel_named (d ∷ ds) c = if same_name c d.name then Some d else channel_named ds c

-- the kinds of the values in a message on a channel
abbrev pub kinds_on : List Channel → Name → Option (List Kind)
kinds_on channels c = option_map (λ d. d.kinds) (channel_named channels c)

-- the channel is declared loose
abbrev pub is_loose : List Channel → Name → Bool
is_loose channels c = list_any (λ d. same_name c d.name && d.loose) channels

-- the role of this name, where it is declared
abbrev pub role_named : List RoleText → Name → Option RoleText
role_named [] n = None
role_named (r ∷ rs) n = if same_name n r.name then Some r else role_named rs n

-- the declarations of a role, and none where there is no role
abbrev pub decls_of : Option RoleText → List Decl
decls_of None = []
decls_of (Some r) = r.decls

-- the code of a role, and none where there is no role
abbrev pub code_in : Option RoleText → Code
code_in None = done
code_in (Some r) = r.code
