-- Further small programs.
use Rattle.std.specs.Prelude.{codes, false, true, List, [], ◌∷◌}
use Rattle.brisk_values.specs.declared.operation.Op2.TheVariants as op
use Rattle.brisk_values.specs.declared.value.Kind.TheVariants as kind
use Rattle.brisk_values.specs.Names.{Name}
use Rattle.brisk_syntax.specs.declared.program.Const.TheVariants as constant
use Rattle.brisk_syntax.specs.declared.program.Decl.{Decl}
use Rattle.brisk_syntax.specs.declared.program.Decl.TheVariants as decl
use Rattle.brisk_syntax.specs.declared.program.EnumDecl.{EnumDecl}
use Rattle.brisk_syntax.specs.declared.program.Program.{Program}
use Rattle.brisk_syntax.specs.declared.tree.Who.TheVariants as who
use Rattle.brisk_syntax.specs.Roles.{RoleText}
use Rattle.brisk_syntax.specs.Syntax.{Num, Truth, Var, Tag, Bin, Assign, Send, Recv, RecvAny, If, IfElse, While, For, Repeat, Code, done, ◌⨾◌}
use Rattle.brisk_sound.specs.Samples.{A, B, M, Ws, Ready, Task, n, v, w, k, t, go, one, many, strict, program, input, zero_at}
use Rattle.brisk_sound.specs.Protocols.{b, u, z}

-- further names
abbrev pub C : Name
C = codes "C"

abbrev pub Ps : Name
Ps = codes "Ps"

abbrev pub Go : Name
Go = codes "Go"

abbrev pub More : Name
More = codes "More"

abbrev pub Vote : Name
Vote = codes "Vote"

abbrev pub Decision : Name
Decision = codes "Decision"

abbrev pub Commit : Name
Commit = codes "Commit"

abbrev pub Abort : Name
Abort = codes "Abort"

abbrev pub Prepare : Name
Prepare = codes "Prepare"

abbrev pub Cast : Name
Cast = codes "Cast"

abbrev pub Decide : Name
Decide = codes "Decide"

abbrev pub Ack : Name
Ack = codes "Ack"

abbrev pub ok : Name
ok = codes "ok"

abbrev pub d : Name
d = codes "d"

abbrev pub got : Name
got = codes "got"

abbrev pub vote : Name
vote = codes "vote"

abbrev pub is_done : Name
is_done = codes "done"

abbrev pub Yes : Name
Yes = codes "Yes"

abbrev pub No : Name
No = codes "No"

abbrev pub p : Name
p = codes "p"

abbrev pub g : Name
g = codes "g"

-- the set may not be empty
abbrev pub several : Name → List Decl → Code → RoleText
several name decls code = record { name = name; many = true; nonempty = true; decls = decls; code = code }

-- M hands out n tasks to members that ask, and then tells each member to stop
abbrev pub task_server : Program
task_server =
    program (strict Ready [] ∷ strict Task (kind.Bool ∷ kind.Int ∷ []) ∷ []) (
    one M (input n ∷ zero_at k ∷ []) (
    While (Bin op.Lt (Var k) (Var n)) (
    RecvAny Ready [] w Ws (Send Task (Truth true ∷ Var k ∷ []) (who.Name w) ⨾ Assign k (Bin op.Add (Var k) (Num 1)) ⨾ done) ⨾ done
    )
    ⨾ Repeat Ws 0 (RecvAny Ready [] w Ws (Send Task (Truth false ∷ Num 0 ∷ []) (who.Name w) ⨾ done) ⨾ done)
    ⨾ done
    )
    ∷ several Ws (decl.Var go kind.Bool (constant.Bool true) ∷ zero_at t ∷ [])
    (While (Var go) (Send Ready [] (who.Name M) ⨾ Recv Task (go ∷ t ∷ []) (who.Name M) ⨾ done) ⨾ done)
    ∷ []
    )

-- an enumeration of these tags
abbrev enumeration : Name → List Name → EnumDecl
enumeration name tags = record { name = name; tags = tags }

-- C asks each member for its vote, and tells all what was decided
abbrev pub two_phase_commit : Program
two_phase_commit = record {
  enums = enumeration Vote (Yes ∷ No ∷ []) ∷ enumeration Decision (Commit ∷ Abort ∷ []) ∷ [];
  channels = strict Prepare [] ∷ strict Cast (kind.Enum Vote ∷ []) ∷ strict Decide (kind.Enum Decision ∷ []) ∷ strict Ack [] ∷ [];
  roles = one C (decl.Var v (kind.Enum Vote) (constant.Tag Vote Yes) ∷ decl.Var ok kind.Bool (constant.Bool true) ∷ decl.Var d (kind.Enum Decision) (constant.Tag Decision Abort) ∷ []) (
      For p Ps 0 (Send Prepare [] (who.Name p) ⨾ done)
      ⨾ Repeat Ps 0 (RecvAny Cast (v ∷ []) p Ps (If (Bin op.Eq (Var v) (Tag Vote No)) (Assign ok (Truth false) ⨾ done) ⨾ done) ⨾ done)
      ⨾ If (Var ok) (Assign d (Tag Decision Commit) ⨾ done)
      ⨾ For p Ps 0 (Send Decide (Var d ∷ []) (who.Name p) ⨾ done)
      ⨾ Repeat Ps 0 (RecvAny Ack [] p Ps done ⨾ done)
      ⨾ done
      )
      ∷ many Ps (decl.Input vote (kind.Enum Vote) ∷ decl.Var got (kind.Enum Decision) (constant.Tag Decision Abort) ∷ decl.Var is_done kind.Bool (constant.Bool false) ∷ []) (
      Recv Prepare [] (who.Name C)
      ⨾ Send Cast (Var vote ∷ []) (who.Name C)
      ⨾ Recv Decide (got ∷ []) (who.Name C)
      ⨾ If (Bin op.Eq (Var got) (Tag Decision Commit)) (Assign is_done (Truth true) ⨾ done)
      ⨾ Send Ack [] (who.Name C)
      ⨾ done
      )
      ∷ [];
}

-- where A's input is true it sends two messages, and otherwise one; the first tells B
abbrev pub correlated : Program
correlated =
    program (strict Go (kind.Bool ∷ []) ∷ strict More [] ∷ []) (
    one A (decl.Input b kind.Bool ∷ []) (
    IfElse (Var b) (Send Go (Truth true ∷ []) (who.Name B) ⨾ Send More [] (who.Name B) ⨾ done) (Send Go (Truth false ∷ []) (who.Name B) ⨾ done) ⨾ done
    )
    ∷ one B (decl.Var g kind.Bool (constant.Bool false) ∷ []) (Recv Go (g ∷ []) (who.Name A) ⨾ If (Var g) (Recv More [] (who.Name A) ⨾ done) ⨾ done)
    ∷ []
    )

-- the variables of a chain, each of which gets the next one's value in a turn
abbrev pub links : List Name
links = codes "b" ∷ codes "c" ∷ codes "d" ∷ codes "e" ∷ codes "f" ∷ codes "g" ∷ codes "h" ∷ codes "i" ∷ []

abbrev shifts : List Name → Code → Code
shifts [] rest = rest
shifts (y ∷ []) rest = Assign y (Var n) ⨾ rest
shifts (y ∷ y' ∷ ys) rest = Assign y (Var y') ⨾ shifts (y' ∷ ys) rest

abbrev zeros : List Name → List Decl
zeros [] = zero_at z ∷ zero_at u ∷ []
zeros (y ∷ ys) = zero_at y ∷ zeros ys

-- each try of the while loses one fact more
abbrev pub chain : Program
chain =
    program [] (
    one A (input n ∷ zeros links) (
    While (Bin op.Lt (Var u) (Var n)) (shifts links (Assign u (Bin op.Add (Var u) (Num 1)) ⨾ done))
    ⨾ If (Bin op.Eq (Var z) (Num 0)) (Assign z (Num 1) ⨾ done)
    ⨾ done
    )
    ∷ []
    )
