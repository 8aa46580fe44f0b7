-- Small programs by which the definitions are shown to compute.
use Rattle.std.specs.Prelude.{codes, false, true, List, [], ◌∷◌}
use Rattle.brisk_values.specs.declared.operation.Op2.TheVariants as op
use Rattle.brisk_values.specs.declared.value.Kind.{Kind}
use Rattle.brisk_values.specs.declared.value.Kind.TheVariants as kind
use Rattle.brisk_values.specs.Names.{Name}
use Rattle.brisk_syntax.specs.declared.program.Channel.{Channel}
use Rattle.brisk_syntax.specs.declared.program.Const.TheVariants as constant
use Rattle.brisk_syntax.specs.declared.program.Decl.{Decl}
use Rattle.brisk_syntax.specs.declared.program.Decl.TheVariants as decl
use Rattle.brisk_syntax.specs.declared.program.Program.{Program}
use Rattle.brisk_syntax.specs.declared.tree.Who.TheVariants as who
use Rattle.brisk_syntax.specs.Roles.{RoleText}
use Rattle.brisk_syntax.specs.Syntax.{Num, Truth, Var, Bin, Assign, Send, Recv, RecvAny, While, Repeat, Code, done, ◌⨾◌}
use Rattle.brisk_seq.specs.declared.tree.SeqProgram.{SeqProgram}
use Rattle.brisk_seq.specs.Items.{Pass, For, ForAny, nothing, ◌⨟◌}

-- the names of roles, channels and variables
abbrev pub A : Name
A = codes "A"

abbrev pub B : Name
B = codes "B"

abbrev pub M : Name
M = codes "M"

abbrev pub Ws : Name
Ws = codes "Ws"

abbrev pub T : Name
T = codes "T"

abbrev pub Ping : Name
Ping = codes "Ping"

abbrev pub Pong : Name
Pong = codes "Pong"

abbrev pub n : Name
n = codes "n"

abbrev pub r : Name
r = codes "r"

abbrev pub v : Name
v = codes "v"

abbrev pub w : Name
w = codes "w"

abbrev pub x : Name
x = codes "x"

abbrev pub y : Name
y = codes "y"

abbrev pub k : Name
k = codes "k"

abbrev pub last : Name
last = codes "last"

abbrev pub Ready : Name
Ready = codes "Ready"

abbrev pub Task : Name
Task = codes "Task"

abbrev pub go : Name
go = codes "go"

abbrev pub t : Name
t = codes "t"

-- a single role
abbrev pub one : Name → List Decl → Code → RoleText
one name decls code = record { name = name; many = false; nonempty = false; decls = decls; code = code }

-- a set, which may be empty
abbrev pub many : Name → List Decl → Code → RoleText
many name decls code = record { name = name; many = true; nonempty = false; decls = decls; code = code }

-- a strict channel
abbrev pub strict : Name → List Kind → Channel
strict name kinds = record { name = name; kinds = kinds; loose = false }

-- a loose channel
abbrev pub loose : Name → List Kind → Channel
loose name kinds = record { name = name; kinds = kinds; loose = true }

-- a program without enumerations
abbrev pub program : List Channel → List RoleText → Program
program channels roles = record { enums = []; channels = channels; roles = roles }

-- a whole number that is given
abbrev pub input : Name → Decl
input x = decl.Input x kind.Int

-- a variable that starts at 0
abbrev pub zero_at : Name → Decl
zero_at x = decl.Var x kind.Int (constant.Num false 0)

-- A sends n to B, and B sends n + 1 back
abbrev pub ping_pong : Program
ping_pong =
    program (strict Ping (kind.Int ∷ []) ∷ strict Pong (kind.Int ∷ []) ∷ []) (
    one A (input n ∷ zero_at r ∷ []) (Send Ping (Var n ∷ []) (who.Name B) ⨾ Recv Pong (r ∷ []) (who.Name B) ⨾ done)
    ∷ one B (zero_at x ∷ []) (Recv Ping (x ∷ []) (who.Name A) ⨾ Send Pong (Bin op.Add (Var x) (Num 1) ∷ []) (who.Name A) ⨾ done)
    ∷ []
    )

-- the same in order
abbrev pub ping_pong_in_order : SeqProgram
ping_pong_in_order = record {
  enums = [];
  roles = one A (input n ∷ zero_at r ∷ []) done ∷ one B (zero_at x ∷ []) done ∷ [];
  body = Pass B (x ∷ []) A (Var n ∷ []) ⨟ Pass A (r ∷ []) B (Bin op.Add (Var x) (Num 1) ∷ []) ⨟ nothing;
}

-- A sends 1 and then 2 on a channel, and B receives twice
abbrev pub two_on : Channel → Program
two_on channel =
    program (channel ∷ []) (
    one A [] (Send T (Num 1 ∷ []) (who.Name B) ⨾ Send T (Num 2 ∷ []) (who.Name B) ⨾ done)
    ∷ one B (zero_at x ∷ zero_at y ∷ []) (Recv T (x ∷ []) (who.Name A) ⨾ Recv T (y ∷ []) (who.Name A) ⨾ done)
    ∷ []
    )

-- on a strict channel
abbrev pub two_messages : Program
two_messages = two_on (strict T (kind.Int ∷ []))

-- on a loose channel
abbrev pub two_messages_loose : Program
two_messages_loose = two_on (loose T (kind.Int ∷ []))

-- each of two waits for the other
abbrev pub crossed : Program
crossed =
    program (strict Ping (kind.Int ∷ []) ∷ strict Pong (kind.Int ∷ []) ∷ []) (
    one A (zero_at x ∷ []) (Recv Ping (x ∷ []) (who.Name B) ⨾ Send Pong (Num 1 ∷ []) (who.Name B) ⨾ done)
    ∷ one B (zero_at y ∷ []) (Recv Pong (y ∷ []) (who.Name A) ⨾ Send Ping (Num 1 ∷ []) (who.Name A) ⨾ done)
    ∷ []
    )

-- M receives once from each member, in any order, and keeps the last
abbrev pub collect : Program
collect =
    program (strict T (kind.Int ∷ []) ∷ []) (
    one M (zero_at x ∷ zero_at last ∷ []) (Repeat Ws 0 (RecvAny T (x ∷ []) w Ws (Assign last (Var x) ⨾ done) ⨾ done) ⨾ done)
    ∷ many Ws (input v ∷ []) (Send T (Var v ∷ []) (who.Name M) ⨾ done)
    ∷ []
    )

-- the same in order, with the members in any order
abbrev pub collect_in_order : SeqProgram
collect_in_order = record {
  enums = [];
  roles = one M (zero_at x ∷ zero_at last ∷ []) done ∷ many Ws (input v ∷ []) done ∷ [];
  body = ForAny Ws (Pass M (x ∷ []) Ws (Var v ∷ []) ⨟ Pass M (last ∷ []) M (Var x ∷ []) ⨟ nothing) ⨟ nothing;
}

-- the same with the members by their numbers
abbrev pub collect_by_number : SeqProgram
collect_by_number = record collect_in_order {
  body = For Ws (Pass M (x ∷ []) Ws (Var v ∷ []) ⨟ Pass M (last ∷ []) M (Var x ∷ []) ⨟ nothing) ⨟ nothing;
}

-- M hands out n tasks to members that ask, and then tells each member to stop; the set may be empty
abbrev pub maybe_empty_server : Program
maybe_empty_server =
    program (strict Ready [] ∷ strict Task (kind.Bool ∷ kind.Int ∷ []) ∷ []) (
    one M (input n ∷ zero_at k ∷ []) (
    While (Bin op.Lt (Var k) (Var n)) (
    RecvAny Ready [] w Ws (Send Task (Truth true ∷ Var k ∷ []) (who.Name w) ⨾ Assign k (Bin op.Add (Var k) (Num 1)) ⨾ done) ⨾ done
    )
    ⨾ Repeat Ws 0 (RecvAny Ready [] w Ws (Send Task (Truth false ∷ Num 0 ∷ []) (who.Name w) ⨾ done) ⨾ done)
    ⨾ done
    )
    ∷ many Ws (decl.Var go kind.Bool (constant.Bool true) ∷ zero_at t ∷ [])
    (While (Var go) (Send Ready [] (who.Name M) ⨾ Recv Task (go ∷ t ∷ []) (who.Name M) ⨾ done) ⨾ done)
    ∷ []
    )
