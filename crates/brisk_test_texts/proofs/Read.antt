-- In what is read each loop is at turn 0, and each enumeration has a tag.
use Rattle.std.proofs.Common.{◌≡◌, ℕ, ◌<◌, Bool, true, List, [], ◌∷◌, length, nat_eq, refl, ap, ◌∙◌, arith}
use Rattle.std.specs.Prelude.{◌&&◌, nat_lt}
use Rattle.std.specs.List.{AllByRecursion, list_all}
use Rattle.brisk_syntax.specs.declared.program.EnumDecl.{EnumDecl}
use Rattle.brisk_syntax.specs.declared.program.Program.{Program}
use Rattle.brisk_syntax.specs.Roles.{RoleText}
use Rattle.brisk_syntax.specs.Syntax.{Statement, Assign, Send, Recv, RecvAny, If, IfElse, While, For, Repeat, Code, done, ◌⨾◌}
use Rattle.brisk_syntax.specs.Typing.{each_has_tag}
use Rattle.brisk_syntax.specs.WellTyped.{all_unbegun, is_program_unbegun, is_unbegun}
use Rattle.brisk_parse.specs.Levelled.{HasTags, LevelledCode, LevelledProgram, LevelledRole, LevelledStatement}
use Rattle.brisk_values.proofs.Changes.{both_hold}

zero_is : (k : ℕ) → k ≡ 0 → nat_eq k 0 ≡ true
zero_is k p = ap (λ n. nat_eq n 0) p

mutual
  unbegun : (s : Statement) → LevelledStatement s → is_unbegun s ≡ true
  unbegun (Assign x e) h = refl
  unbegun (Send c es u) h = refl
  unbegun (Recv c xs u) h = refl
  unbegun (RecvAny c xs v s b) h = code_unbegun b h
  unbegun (If e a) h = code_unbegun a h.1
  unbegun (IfElse e a b) h = both_hold (all_unbegun a) (all_unbegun b) (code_unbegun a h.1) (code_unbegun b h.2)
  unbegun (While e b) h = code_unbegun b h.1
  unbegun (For v s k b) h = both_hold (nat_eq k 0) (all_unbegun b) (zero_is k h.0) (code_unbegun b h.1)
  unbegun (Repeat s k b) h = both_hold (nat_eq k 0) (all_unbegun b) (zero_is k h.0) (code_unbegun b h.1)

  code_unbegun : (c : Code) → LevelledCode c → all_unbegun c ≡ true
  code_unbegun done h = refl
  code_unbegun (s ⨾ c) h = both_hold (is_unbegun s) (all_unbegun c) (unbegun s h.0) (code_unbegun c h.1)

roles_unbegun : (rs : List RoleText) → AllByRecursion LevelledRole rs → list_all (λ r. all_unbegun r.code) rs ≡ true
roles_unbegun [] h = refl
roles_unbegun (r ∷ rs) h = both_hold (all_unbegun r.code) (list_all (λ r. all_unbegun r.code) rs) (code_unbegun r.code h.0.1) (roles_unbegun rs h.1)

pub program_unbegun : (P : Program) → LevelledProgram P → is_program_unbegun P ≡ true
program_unbegun P h = roles_unbegun P.roles h.roles

has_tag : (e : EnumDecl) → HasTags e → nat_lt 0 (length e.tags) ≡ true
has_tag e h = tags e.tags h where
  tags : (ts : List (List ℕ)) → (ts ≡ [] → ⊥) → nat_lt 0 (length ts) ≡ true
  tags [] h = absurd (h refl)
  tags (t ∷ ts) h = grind arith

pub tagged : (es : List EnumDecl) → AllByRecursion HasTags es → each_has_tag es ≡ true
tagged [] h = refl
tagged (e ∷ es) h = both_hold (nat_lt 0 (length e.tags)) (each_has_tag es) (has_tag e h.0) (tagged es h.1)
