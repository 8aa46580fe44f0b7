-- Lists of statements, one after another, and of names that differ.
use Rattle.std.proofs.Common.{◌≡◌, true, ℕ, suc, ◌+◌, ◌<◌, List, [], ◌∷◌, ◌++◌, length, drop, get_or, refl, sym, ap, ◌∙◌}
use Rattle.std.specs.Prelude.{◌&&◌, not}
use Rattle.std.proofs.lemmas.List.{at_drop_more}
use Rattle.brisk_values.specs.Names.{Name}
use Rattle.brisk_values.proofs.Changes.{both_true}
use Rattle.brisk_syntax.specs.Syntax.{Statement, Code, done, ◌⨾◌}
use Rattle.brisk_syntax.specs.Syntax.{◌then◌}
use Rattle.brisk_syntax.specs.Statements.{code_of, statement_of}
use Rattle.brisk_syntax.specs.Typing.{are_distinct, is_among}
use Rattle.brisk_syntax.specs.declared.tree.Stmt.{Stmt}

pub then-done : (c : Code) → c then done ≡ c
then-done done = refl
then-done (s ⨾ c) = ap (λ d. s ⨾ d) (then-done c)

pub then_assoc : (c d e : Code) → (c then d) then e ≡ c then (d then e)
then_assoc done d e = refl
then_assoc (s ⨾ c) d e = ap (λ x. s ⨾ x) (then_assoc c d e)

pub code_of-append : (xs ys : List Stmt) → code_of (xs ++ ys) ≡ code_of xs then code_of ys
code_of-append [] ys = refl
code_of-append (s ∷ xs) ys = ap (λ c. statement_of s ⨾ c) (code_of-append xs ys)

-- One more statement of a list that is made statement by statement.
pub one_more_statement : (f : Statement → Statement) (F : Code → Code) → ((s : Statement) (c : Code) → F (s ⨾ c) ≡ f s ⨾ F c) → (out : List Stmt) (r : Stmt) (xs : List Stmt) (i : ℕ) (d : Stmt) → i < length xs → statement_of r ≡ f (statement_of (get_or xs i d)) → code_of (out ++ r ∷ []) then F (code_of (drop (i + 1) xs)) ≡ code_of out then F (code_of (drop i xs))
one_more_statement f F h out r xs i d lt e =
    let rest = F (code_of (drop (i + 1) xs)) in
    ap (λ c. c then rest) (code_of-append out (r ∷ []))
    ∙ then_assoc (code_of out) (statement_of r ⨾ done) rest
    ∙ ap (λ c. code_of out then c) (ap (λ s. s ⨾ rest) e ∙ sym (h (statement_of (get_or xs i d)) (code_of (drop (i + 1) xs))) ∙ sym (at_drop_more (λ ys. F (code_of ys)) xs i d lt))

pub same_length : (xs ys : List Stmt) → code_of xs ≡ code_of ys → length xs ≡ length ys
same_length [] [] e = refl
same_length [] (t ∷ ys) e = cc
same_length (s ∷ xs) [] e = cc
same_length (s ∷ xs) (t ∷ ys) e = let f : code_of xs ≡ code_of ys = cc in ap suc (same_length xs ys f)

-- of names that differ, the later ones do
pub distinct_later : (xs ys : List Name) → are_distinct (xs ++ ys) ≡ true → are_distinct ys ≡ true
distinct_later [] ys e = e
distinct_later (x ∷ xs) ys e = distinct_later xs ys (both_true (not (is_among (xs ++ ys) x)) (are_distinct (xs ++ ys)) e).1
