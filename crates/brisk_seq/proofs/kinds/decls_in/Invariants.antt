use Rattle.std.proofs.Common.{◌≡◌, drop, map}
use Rattle.brisk_syntax.specs.Declarations.{decls_of, role_named}
use Rattle.brisk_syntax.specs.Texts.{text_of}
use Rattle.brisk_seq.proofs.kinds.decls_in.Given as goal

abbrev pub invariant-loop-r : goal.invariant-loop-r
invariant-loop-r l = decls_of (role_named (map text_of (drop l.r-index l.r-items)) l.role) ≡ decls_of (role_named l.roles l.role)
