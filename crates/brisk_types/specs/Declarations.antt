-- The typing rules of declarations, roles and programs, each with the token at which it fails.
use Rattle.std.specs.Prelude.{ℕ, cond, ◌+◌, Bool, ◌&&◌, not, if◌then◌else◌, List, [], ◌∷◌, ◌++◌, sum_by, Option, None, Some}
use Rattle.std.specs.List.{list_any}
use Rattle.std.specs.Option.{is_some, option_or}
use Rattle.brisk_values.specs.declared.value.Kind.{Kind}
use Rattle.brisk_values.specs.declared.value.Kind.TheVariants as kind
use Rattle.brisk_values.specs.Names.{Name, same_name}
use Rattle.brisk_syntax.specs.declared.program.Channel.{Channel}
use Rattle.brisk_syntax.specs.declared.program.Const.{Const}
use Rattle.brisk_syntax.specs.declared.program.Const.TheVariants as constant
use Rattle.brisk_syntax.specs.declared.program.Decl.{Decl}
use Rattle.brisk_syntax.specs.declared.program.Decl.TheVariants as decl
use Rattle.brisk_syntax.specs.declared.program.EnumDecl.{EnumDecl}
use Rattle.brisk_syntax.specs.declared.program.Program.{Program}
use Rattle.brisk_syntax.specs.Declarations as declared
use Rattle.brisk_syntax.specs.Roles.{RoleText}
use Rattle.brisk_syntax.specs.Tokens.{enum_tokens, channel_tokens, role_tokens, decl_tokens}
use Rattle.brisk_syntax.specs.Typing.{is_among, is_set, is_single}
use Rattle.brisk_types.specs.declared.places.Placed.{Placed}
use Rattle.brisk_types.specs.declared.fault.Rule.TheVariants.{Unknown, Twice}
use Rattle.brisk_types.specs.Expressions.{Meaning, tag_kind, tag, wrong}
use Rattle.brisk_types.specs.Failures.{Failures, none, ◌also◌, when}
use Rattle.brisk_types.specs.Statements.{binder, code}

-- the token at which the name is first declared
abbrev pub place_of : List Placed → Name → Option ℕ
place_of [] n = None
place_of (p ∷ ps) n = if same_name n p.name then Some p.at else place_of ps n

-- the enumerations that begin at the token i
abbrev pub placed_enums : ℕ → List EnumDecl → List Placed
placed_enums i [] = []
placed_enums i (e ∷ es) = record { name = e.name; at = i + 1 } ∷ placed_enums (i + enum_tokens e) es

-- the channels that begin at the token i
abbrev pub placed_channels : ℕ → List Channel → List Placed
placed_channels i [] = []
placed_channels i (c ∷ cs) = record { name = c.name; at = i + 1 } ∷ placed_channels (i + channel_tokens c) cs

-- the roles that begin at the token i
abbrev pub placed_roles : ℕ → List RoleText → List Placed
placed_roles i [] = []
placed_roles i (r ∷ rs) = record { name = r.name; at = i + 1 } ∷ placed_roles (i + role_tokens r) rs

-- the program that declares these
abbrev pub program_of : List EnumDecl → List Channel → List RoleText → Program
program_of enums channels roles = record { enums = enums; channels = channels; roles = roles }

-- the token of a program's first channel, and of its first role
abbrev pub channels_at : Program → ℕ
channels_at P = sum_by enum_tokens P.enums

abbrev pub roles_at : Program → ℕ
roles_at P = channels_at P + sum_by channel_tokens P.channels

-- the names of a program that are known everywhere
abbrev pub placed : Program → List Placed
placed P = placed_enums 0 P.enums ++ placed_channels (channels_at P) P.channels ++ placed_roles (roles_at P) P.roles

-- each name differs from those before it
abbrev pub apart : List Placed → List Placed → Failures
apart before [] = none
apart before (p ∷ ps) = when (is_some (place_of before p.name)) Twice p.at also apart (before ++ p ∷ []) ps

-- an enumeration has the name
abbrev pub is_enum_of : List EnumDecl → Name → Bool
is_enum_of enums e = list_any (λ n. same_name e n.name) enums

-- what names mean in the text of a role before its declarations
abbrev pub meaning : Program → Name → Meaning
meaning P own = record {
  is_enum = is_enum_of P.enums;
  is_tag = declared.is_tag P.enums;
  kinds_on = declared.kinds_on P.channels;
  is_set = is_set P.roles;
  is_single = is_single P.roles;
  place = place_of (placed P);
  own = own;
  kind_of_variable = λ x. None;
}

-- tags that begin at the token i differ from those before them
abbrev pub tags : List Name → ℕ → List Name → Failures
tags before i [] = none
tags before i (t ∷ ts) = when (is_among before t) Twice i also tags (before ++ t ∷ []) (i + 2) ts

-- the enumerations that begin at the token i
abbrev pub enumerations : ℕ → List EnumDecl → Failures
enumerations i [] = none
enumerations i (e ∷ es) = tags [] (i + 3) e.tags also enumerations (i + enum_tokens e) es

-- an enumeration that a kind names is declared
abbrev pub kind_at : (Name → Bool) → ℕ → Kind → Failures
kind_at is_enum i kind.Int = none
kind_at is_enum i kind.Bool = none
kind_at is_enum i (kind.Enum e) = when (not (is_enum e)) Unknown i

abbrev pub kinds : (Name → Bool) → ℕ → List Kind → Failures
kinds is_enum i [] = none
kinds is_enum i (k ∷ ks) = kind_at is_enum i k also kinds is_enum (i + 2) ks

-- the channels that begin at the token i
abbrev pub channels : (Name → Bool) → ℕ → List Channel → Failures
channels is_enum i [] = none
channels is_enum i (c ∷ cs) = kinds is_enum (i + 3) c.kinds also channels is_enum (i + channel_tokens c) cs

-- the kind of a constant, where it has one
abbrev pub constant_kind : Meaning → Const → Option Kind
constant_kind m (constant.Num negative n) = Some kind.Int
constant_kind m (constant.Bool b) = Some kind.Bool
constant_kind m (constant.Tag e t) = tag_kind m e t

-- a constant's tag is declared
abbrev pub constant_at : Meaning → ℕ → Const → Failures
constant_at m i (constant.Num negative n) = none
constant_at m i (constant.Bool b) = none
constant_at m i (constant.Tag e t) = tag m i e t

-- a declaration that begins at the token i, where the variables before it are known
abbrev pub declaration : Meaning → ℕ → Decl → Failures
declaration m i (decl.Var x k c) =
    binder m [] (i + 1) x also kind_at m.is_enum (i + 3) k also wrong (Some k) (constant_kind m c) (i + 5) also constant_at m (i + 5) c
declaration m i (decl.Input x k) = binder m [] (i + 1) x also kind_at m.is_enum (i + 3) k

-- the kind with which a variable is declared
abbrev pub declared_kind : Decl → Kind
declared_kind (decl.Var x k c) = k
declared_kind (decl.Input x k) = k

-- what names mean behind a declaration
abbrev pub behind : Meaning → Decl → Meaning
behind m d = record m { kind_of_variable = λ x. option_or (m.kind_of_variable x) (cond (same_name x (declared.variable_of d)) (Some (declared_kind d)) None) }

-- declarations that begin at the token i
abbrev pub declarations : Meaning → ℕ → List Decl → Failures
declarations m i [] = none
declarations m i (d ∷ ds) = declaration m i d also declarations (behind m d) (i + decl_tokens d) ds

-- what names mean behind declarations
abbrev pub behind_all : Meaning → List Decl → Meaning
behind_all m [] = m
behind_all m (d ∷ ds) = behind_all (behind m d) ds

-- the tokens of a role before its declarations
abbrev pub heading_tokens : RoleText → ℕ
heading_tokens r = 3 + (if r.many && r.nonempty then 1 else 0)

-- a role that begins at the token i
abbrev pub role : Meaning → ℕ → RoleText → Failures
role m i r =
    declarations m (i + heading_tokens r) r.decls
    also code (behind_all m r.decls) [] (i + heading_tokens r + sum_by decl_tokens r.decls) r.code

-- roles that begin at the token i, of which each has its own meaning of names
abbrev pub roles : (Name → Meaning) → ℕ → List RoleText → Failures
roles meaning i [] = none
roles meaning i (r ∷ rs) = role (meaning r.name) i r also roles meaning (i + role_tokens r) rs

-- the failures of a program
abbrev pub failures : Program → Failures
failures P =
    apart [] (placed P)
    also enumerations 0 P.enums
    also channels (is_enum_of P.enums) (channels_at P) P.channels
    also roles (meaning P) (roles_at P) P.roles
