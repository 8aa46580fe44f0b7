-- Small programs with sequential forms and derivations.
use Rattle.std.specs.Prelude.{codes, ℕ, zero, suc, false, true, List, [], ◌∷◌}
use Rattle.brisk_values.specs.declared.operation.Op2.TheVariants as op
use Rattle.brisk_values.specs.declared.value.Kind.TheVariants as kind
use Rattle.brisk_values.specs.Names.{Name}
use Rattle.brisk_syntax.specs.declared.program.Channel.{Channel}
use Rattle.brisk_syntax.specs.declared.program.Const.TheVariants as constant
use Rattle.brisk_syntax.specs.declared.program.Decl.{Decl}
use Rattle.brisk_syntax.specs.declared.program.Decl.TheVariants as decl
use Rattle.brisk_syntax.specs.declared.program.Program.{Program}
use Rattle.brisk_syntax.specs.declared.tree.Who.TheVariants as who
use Rattle.brisk_syntax.specs.Syntax.{Num, Truth, Var, Bin, Assign, Send, Recv, RecvAny, If, IfElse, While, For, Repeat, Code, done, ◌⨾◌}
use Rattle.brisk_seq.specs.Items.{Items, Pass, Fill, Take, For as ForItem, ForAny, nothing, ◌⨟◌}
use Rattle.brisk_sound.specs.Samples.{A, B, M, Ws, T, n, v, w, x, one, many, strict, loose, program, input, zero_at}

-- further names of roles, channels and variables
abbrev pub G : Name
G = codes "G"

abbrev pub H : Name
H = codes "H"

abbrev pub Ask : Name
Ask = codes "Ask"

abbrev pub Reply : Name
Reply = codes "Reply"

abbrev pub b : Name
b = codes "b"

abbrev pub q : Name
q = codes "q"

abbrev pub s : Name
s = codes "s"

abbrev pub u : Name
u = codes "u"

abbrev pub z : Name
z = codes "z"

abbrev pub Us : Name
Us = codes "Us"

-- A's first message is received after its second
abbrev pub late_box : Program
late_box =
    program (strict T (kind.Int ∷ []) ∷ strict G [] ∷ []) (
    one A (input n ∷ []) (Send T (Var n ∷ []) (who.Name B) ⨾ Assign n (Num 5) ⨾ Send G [] (who.Name B) ⨾ done)
    ∷ one B (zero_at x ∷ []) (Recv G [] (who.Name A) ⨾ Recv T (x ∷ []) (who.Name A) ⨾ done)
    ∷ []
    )

-- the same in order
abbrev pub late_box_items : Items
late_box_items = Fill 1 A B (Var n ∷ []) ⨟ Pass A (n ∷ []) A (Num 5 ∷ []) ⨟ Pass B [] A [] ⨟ Take B (x ∷ []) 1 A ⨟ nothing

-- H asks each member, and adds up the replies, on these channels
abbrev pub ask_all_on : List Channel → Program
ask_all_on channels =
    program channels (
    one H (zero_at s ∷ zero_at x ∷ []) (
    For w Ws 0 (Send Ask (Num 1 ∷ []) (who.Name w) ⨾ done)
    ⨾ Repeat Ws 0 (RecvAny Reply (x ∷ []) w Ws (Assign s (Bin op.Add (Var s) (Var x)) ⨾ done) ⨾ done)
    ⨾ done
    )
    ∷ many Ws (zero_at q ∷ []) (Recv Ask (q ∷ []) (who.Name H) ⨾ Send Reply (Bin op.Add (Var q) (Num 1) ∷ []) (who.Name H) ⨾ done)
    ∷ []
    )

-- on strict channels, and on loose ones
abbrev pub ask_all : Program
ask_all = ask_all_on (strict Ask (kind.Int ∷ []) ∷ strict Reply (kind.Int ∷ []) ∷ [])

abbrev pub ask_all_loose : Program
ask_all_loose = ask_all_on (loose Ask (kind.Int ∷ []) ∷ loose Reply (kind.Int ∷ []) ∷ [])

-- A sends to B once for each member, on a channel that is loose
abbrev pub sends_again : Program
sends_again =
    program (loose T (kind.Int ∷ []) ∷ []) (
    one A [] (Repeat Ws 0 (Send T (Num 1 ∷ []) (who.Name B) ⨾ done) ⨾ done)
    ∷ one B (zero_at x ∷ []) (Repeat Ws 0 (Recv T (x ∷ []) (who.Name A) ⨾ done) ⨾ done)
    ∷ many Ws [] done
    ∷ []
    )

-- M sends to each member of Us once for each of Ws, after that member's word, on a loose channel
abbrev pub sends_to_each : Program
sends_to_each =
    program (loose T (kind.Int ∷ []) ∷ strict G [] ∷ []) (
    one M [] (For u Us 0 (For w Ws 0 (Recv G [] (who.Name u) ⨾ Send T (Num 1 ∷ []) (who.Name u) ⨾ done) ⨾ done) ⨾ done)
    ∷ many Us (zero_at x ∷ []) (For w Ws 0 (Send G [] (who.Name M) ⨾ Recv T (x ∷ []) (who.Name M) ⨾ done) ⨾ done)
    ∷ many Ws [] done
    ∷ []
    )

-- the same in order
abbrev pub sends_to_each_items : Items
sends_to_each_items = ForItem Us (ForItem Ws (Pass M [] Us [] ⨟ Pass Us (x ∷ []) M (Num 1 ∷ []) ⨟ nothing) ⨟ nothing) ⨟ nothing

-- the same in order
abbrev pub ask_all_items : Items
ask_all_items =
    ForItem Ws (Pass Ws (q ∷ []) H (Num 1 ∷ []) ⨟ nothing)
    ⨟ ForAny Ws (Pass H (x ∷ []) Ws (Bin op.Add (Var q) (Num 1) ∷ []) ⨟ Pass H (s ∷ []) H (Bin op.Add (Var s) (Var x) ∷ []) ⨟ nothing)
    ⨟ nothing

-- M gathers twice, and each member sends twice, so that the first gather may take both messages of one member
abbrev pub overtaking : Program
overtaking =
    program (strict T (kind.Int ∷ []) ∷ []) (
    one M (zero_at x ∷ []) (
    Repeat Ws 0 (RecvAny T (x ∷ []) w Ws done ⨾ done) ⨾ Repeat Ws 0 (RecvAny T (x ∷ []) w Ws done ⨾ done) ⨾ done
    )
    ∷ many Ws (input v ∷ []) (Send T (Var v ∷ []) (who.Name M) ⨾ Send T (Var v ∷ []) (who.Name M) ⨾ done)
    ∷ []
    )

-- a message that nobody receives
abbrev pub unread : Program
unread = program (strict T (kind.Int ∷ []) ∷ []) (one A [] (Send T (Num 1 ∷ []) (who.Name B) ⨾ done) ∷ one B [] done ∷ [])

-- A sends without end
abbrev pub endless_sender : Program
endless_sender =
    program (strict T (kind.Int ∷ []) ∷ []) (
    one A [] (While (Truth true) (Send T (Num 1 ∷ []) (who.Name B) ⨾ done) ⨾ done) ∷ one B [] done ∷ []
    )

-- one loop over the members in another
abbrev pub nested_for : Program
nested_for =
    program (strict T (kind.Int ∷ []) ∷ []) (
    one M [] (For u Ws 0 (For v Ws 0 (Send T (Num 1 ∷ []) (who.Name v) ⨾ done) ⨾ done) ⨾ done) ∷ many Ws [] done ∷ []
    )

-- A sends on one side of an if alone
abbrev pub one_sided : Program
one_sided =
    program (strict T (kind.Int ∷ []) ∷ []) (
    one A (decl.Input b kind.Bool ∷ []) (If (Var b) (Send T (Num 1 ∷ []) (who.Name B) ⨾ done) ⨾ done) ∷ one B [] done ∷ []
    )

-- the variable starts at 2
abbrev two_at : Name → Decl
two_at y = decl.Var y kind.Int (constant.Num false 2)

-- the guard tells x in its second part from what it tells z in its first
abbrev pub learnt_again : Program
learnt_again =
    program [] (
    one A (two_at x ∷ two_at z ∷ []) (
    While (Bin op.And (Bin op.Eq (Var x) (Var z)) (Bin op.Eq (Var z) (Var x))) (
    IfElse (Bin op.Eq (Var z) (Num 2)) (Assign x (Num 5) ⨾ Assign z (Num 5) ⨾ done) (Assign x (Num 6) ⨾ done) ⨾ done
    )
    ⨾ done
    )
    ∷ []
    )

-- so many ifs one after another
abbrev pub ifs : ℕ → Code
ifs zero = done
ifs (suc m) = If (Var b) done ⨾ ifs m

-- 257 ifs
abbrev pub deep : Program
deep = program [] (one A (decl.Input b kind.Bool ∷ []) (ifs 257) ∷ [])
