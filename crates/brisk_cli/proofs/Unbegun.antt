-- A program that a source holds has begun no loop, and each of its enumerations has a tag.
use Rattle.std.proofs.Common.{◌≡◌, ℕ, true, List, [], ◌∷◌, length, refl, ap, arith}
use Rattle.std.specs.Prelude.{nat_eq, nat_lt}
use Rattle.std.proofs.lemmas.Bool.{lt-ltb}
use Rattle.std.specs.List.{AllByRecursion, list_all}
use Rattle.brisk_values.specs.Names.{Name}
use Rattle.brisk_syntax.specs.declared.program.EnumDecl.{EnumDecl}
use Rattle.brisk_syntax.specs.declared.program.Program.{Program}
use Rattle.brisk_syntax.specs.Roles.{RoleText}
use Rattle.brisk_syntax.specs.Syntax.{Statement, Assign, Send, Recv, RecvAny, If, IfElse, While, For, Repeat, Code, done, ◌⨾◌}
use Rattle.brisk_syntax.specs.Typing.{each_has_tag}
use Rattle.brisk_syntax.specs.WellTyped.{is_unbegun, all_unbegun, is_program_unbegun}
use Rattle.brisk_parse.specs.Levelled.{LevelledStatement, LevelledCode, HasTags, LevelledRole, LevelledProgram}
use Rattle.brisk_values.proofs.Changes.{both_hold}

at_zero : (k : ℕ) → k ≡ 0 → nat_eq k 0 ≡ true
at_zero k h = ap (λ n. nat_eq n 0) h

mutual
  statement_unbegun : (s : Statement) → LevelledStatement s → is_unbegun s ≡ true
  statement_unbegun (Assign x e) h = refl
  statement_unbegun (Send c es u) h = refl
  statement_unbegun (Recv c xs u) h = refl
  statement_unbegun (RecvAny c xs v s b) h = code_unbegun b h
  statement_unbegun (If e a) h = code_unbegun a h.1
  statement_unbegun (IfElse e a b) h = both_hold (all_unbegun a) (all_unbegun b) (code_unbegun a h.1) (code_unbegun b h.2)
  statement_unbegun (While e b) h = code_unbegun b h.1
  statement_unbegun (For v s k b) h = both_hold (nat_eq k 0) (all_unbegun b) (at_zero k h.0) (code_unbegun b h.1)
  statement_unbegun (Repeat s k b) h = both_hold (nat_eq k 0) (all_unbegun b) (at_zero k h.0) (code_unbegun b h.1)

  code_unbegun : (c : Code) → LevelledCode c → all_unbegun c ≡ true
  code_unbegun done h = refl
  code_unbegun (s ⨾ c) h = both_hold (is_unbegun s) (all_unbegun c) (statement_unbegun s h.0) (code_unbegun c h.1)

roles_unbegun : (roles : List RoleText) → AllByRecursion LevelledRole roles → list_all (λ r. all_unbegun r.code) roles ≡ true
roles_unbegun [] h = refl
roles_unbegun (r ∷ rs) h = both_hold (all_unbegun r.code) (list_all (λ q. all_unbegun q.code) rs) (code_unbegun r.code h.0.1) (roles_unbegun rs h.1)

pub unbegun : (P : Program) → LevelledProgram P → is_program_unbegun P ≡ true
unbegun P h = roles_unbegun P.roles h.roles

some_tag : (tags : List Name) → (tags ≡ [] → ⊥) → nat_lt 0 (length tags) ≡ true
some_tag [] h = absurd (h refl)
some_tag (t ∷ ts) h = lt-ltb 0 (length (t ∷ ts)) (omega arith)

enums_tagged : (enums : List EnumDecl) → AllByRecursion HasTags enums → each_has_tag enums ≡ true
enums_tagged [] h = refl
enums_tagged (e ∷ es) h = both_hold (nat_lt 0 (length e.tags)) (each_has_tag es) (some_tag e.tags h.0) (enums_tagged es h.1)

pub tagged : (P : Program) → LevelledProgram P → each_has_tag P.enums ≡ true
tagged P h = enums_tagged P.enums h.enums
