-- What the parts of the tests of straight programs and stars come to.
use Rattle.std.proofs.Common.{◌≡◌, Bool, true, false, ◌&&◌, ℕ, ◌+◌, ◌<◌, ◌≤◌, List, [], ◌∷◌, None, Some, length, drop, map, get_or, refl, ap, sym, ◌∙◌, arith}
use Rattle.std.specs.List.{list_all}
use Rattle.std.proofs.lemmas.List.{at_drop_more}
use Rattle.brisk_values.specs.Names.{Name}
use Rattle.brisk_syntax.specs.Classes.{every, fits_star, in_centre, is_named, talks_to}
use Rattle.brisk_syntax.specs.Roles.{RoleText}
use Rattle.brisk_syntax.specs.Statements.{code_of}
use Rattle.brisk_syntax.specs.Syntax.{Repeat}
use Rattle.brisk_syntax.specs.Texts.{text_of}
use Rattle.brisk_syntax.specs.declared.program.Role.{Role}
use Rattle.brisk_syntax.specs.declared.tree.Stmt.{Stmt}
use Rattle.brisk_syntax.specs.declared.tree.Stmt.TheVariants as stmt

-- a set's code talks to the centre
pub many_fits : (n : Name) (r : RoleText) → r.many ≡ true → every (talks_to (is_named n)) r.code ≡ fits_star n r
many_fits n r e = rw e refl

-- one role more, whatever is asked of it
pub one_more : (p : RoleText → Bool) (rs : List Role) (i : ℕ) (r : Role) → i < length rs → r ≡ get_or rs i r →
    list_all p (map text_of (drop i rs)) ≡ p (text_of r) && list_all p (map text_of (drop (i + 1) rs))
one_more p rs i r h e =
    at_drop_more (λ xs. list_all p (map text_of xs)) rs i r h ∙ ap (λ x. p (text_of x) && list_all p (map text_of (drop (i + 1) rs))) (sym e)

-- two statements are no gather
pub no_gather_of_two : (s : Name) (k : ℕ) (ss : List Stmt) → 2 ≤ length ss → false ≡ in_centre (Repeat s k (code_of ss))
no_gather_of_two s k [] h = absurd (omega arith)
no_gather_of_two s k (a ∷ []) h = absurd (omega arith)
no_gather_of_two s k (stmt.If e a None ∷ b ∷ ss) h = refl
no_gather_of_two s k (stmt.If e a (Some o) ∷ b ∷ ss) h = refl
no_gather_of_two s k (a ∷ b ∷ ss) h = refl
