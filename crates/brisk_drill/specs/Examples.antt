-- The drills of 1 and 2.
use Rattle.std.specs.Prelude.{◌≡◌, codes}
use Rattle.brisk_drill.specs.Drill.{drill}

pub record DrillTexts : Type 0 where
  pub one : drill 1 ≡ codes "channel Step(int);\nchannel Ask(int);\nchannel Reply(int);\none C0 {\n  input v : int;\n  send Step(v) to C1;\n}\none C1 {\n  var v : int = 0;\n  recv Step(v) from C0;\n}\none H {\n  var s : int = 0;\n  var x : int = 0;\n  for w in Ws {\n    send Ask(1) to w;\n  }\n  repeat Ws {\n    recv Reply(x) from any w in Ws {\n      s := s + x;\n    }\n  }\n}\nmany Ws {\n  var q : int = 0;\n  recv Ask(q) from H;\n  send Reply(q + 1) to H;\n}\n"
  pub two : drill 2 ≡ codes "channel Step(int);\nchannel Ask(int);\nchannel Reply(int);\none C0 {\n  input v : int;\n  send Step(v) to C1;\n}\none C1 {\n  var v : int = 0;\n  recv Step(v) from C0;\n  send Step(v + 1) to C2;\n}\none C2 {\n  var v : int = 0;\n  recv Step(v) from C1;\n}\none H {\n  var s : int = 0;\n  var x : int = 0;\n  for w in Ws {\n    send Ask(1) to w;\n  }\n  repeat Ws {\n    recv Reply(x) from any w in Ws {\n      s := s + x;\n    }\n  }\n  for w in Ws {\n    send Ask(2) to w;\n  }\n  repeat Ws {\n    recv Reply(x) from any w in Ws {\n      s := s + x;\n    }\n  }\n}\nmany Ws {\n  var q : int = 0;\n  recv Ask(q) from H;\n  send Reply(q + 1) to H;\n  recv Ask(q) from H;\n  send Reply(q + 1) to H;\n}\n"
