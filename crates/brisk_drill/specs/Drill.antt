-- The text of the drill, whose size goes by a number n: a chain of roles C0 to Cn that pass a number on, and a role H
-- that asks the members of the set Ws n times.
use Rattle.std.specs.Prelude.{ℕ, zero, suc, ◌+◌, ◌-◌, ◌++◌, codes}
use Rattle.std.specs.Fmt.{decimal}
use Rattle.brisk_text.specs.Values.{Text}

-- a role of the chain by its number
abbrev pub link : ℕ → Text
link i = codes "C" ++ decimal i

-- the role behind Ci, up to its receive from there
unfoldable pub receiver : ℕ → Text
receiver i = codes "one " ++ link (i + 1) ++ codes " {\n  var v : int = 0;\n  recv Step(v) from " ++ link i ++ codes ";\n"

-- its end, where it sends one more to Ci
unfoldable pub sender : ℕ → Text
sender i = codes "  send Step(v + 1) to " ++ link i ++ codes ";\n}\n"

-- the channels, C0 with its input, and so many roles behind it
abbrev pub chain : ℕ → Text
chain zero = codes "channel Step(int);\nchannel Ask(int);\nchannel Reply(int);\none C0 {\n  input v : int;\n  send Step(v) to C1;\n}\n"
chain (suc i) = chain i ++ receiver i ++ sender (i + 2)

-- H with so many rounds, in each of which it asks all members and adds up their replies as they come
abbrev pub asker : ℕ → Text
asker zero = codes "one H {\n  var s : int = 0;\n  var x : int = 0;\n"
asker (suc r) = asker r ++ codes "  for w in Ws {\n    send Ask(" ++ decimal (r + 1) ++ codes ") to w;\n  }\n  repeat Ws {\n    recv Reply(x) from any w in Ws {\n      s := s + x;\n    }\n  }\n"

-- Ws with so many rounds
abbrev pub members : ℕ → Text
members zero = codes "many Ws {\n  var q : int = 0;\n"
members (suc r) = members r ++ codes "  recv Ask(q) from H;\n  send Reply(q + 1) to H;\n"

-- the drill of a number from 1 on
abbrev pub drill : ℕ → Text
drill n = chain (n - 1) ++ receiver (n - 1) ++ codes "}\n" ++ asker n ++ codes "}\n" ++ members n ++ codes "}\n"
