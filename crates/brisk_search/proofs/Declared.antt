-- In a well-typed program what codes touch is declared.
use Rattle.std.proofs.Common.{◌≡◌, Bool, true, false, List, [], ◌∷◌, ◌++◌, map, Some, refl, sym, ◌∙◌, subst, true≢false}
use Rattle.std.specs.Prelude.{◌&&◌, ◌||◌, if◌then◌else◌}
use Rattle.std.specs.List.{AllByRecursion, list_any}
use Rattle.brisk_values.specs.declared.value.Kind.{Kind}
use Rattle.brisk_values.specs.declared.operation.Op1.TheVariants.{Not, Neg}
use Rattle.brisk_values.specs.declared.operation.Op2.TheVariants.{Add, Sub, Mul, Eq, Ne, Lt, Le, Gt, Ge, And, Or}
use Rattle.brisk_values.specs.Names.{Name, same_name}
use Rattle.brisk_values.proofs.Changes.{name_laws, exact_name}
use Rattle.brisk_syntax.specs.declared.program.Decl.{Decl}
use Rattle.brisk_syntax.specs.declared.program.Decl.TheVariants as decl
use Rattle.brisk_syntax.specs.declared.program.Program.{Program}
use Rattle.brisk_syntax.specs.Declarations.{kind_in, variable_of}
use Rattle.brisk_syntax.specs.Roles.{RoleText}
use Rattle.brisk_syntax.specs.Syntax.{Expression, Num, Truth, Var, Tag, Size, Paren, Un, Bin, Statement, Assign, Send, Recv, RecvAny, If, IfElse, While, For, Repeat, Code, done, ◌⨾◌}
use Rattle.brisk_syntax.specs.Typing.{is_among, Scope, HasKind, AreDeclared}
use Rattle.brisk_syntax.specs.WellTyped.{scope_in, IsWellTyped, IsCodeWellTyped, IsRoleWellTyped, IsProgramWellTyped}
use Rattle.brisk_facts.specs.Facts.{Facts}
use Rattle.brisk_state.specs.Symbolic.{thread_named, first_thread, first_facts, all_first_facts, initial}
use Rattle.brisk_derivation.specs.declared.steps.Fact.{Fact}
use Rattle.brisk_rules.specs.Rules.{code_in}
use Rattle.brisk_search.specs.Tries.{variables_of, touched_by, touched_in, places}
use Rattle.brisk_search.proofs.Lost.{Fit}
use Rattle.brisk_search.proofs.Sorted.{Sorted, sorted_with}

-- each of these is a variable that is declared
abbrev AllDeclared : List Decl → List Name → Type 0
AllDeclared ds ts = (x : Name) → is_among ts x ≡ true → is_among (map variable_of ds) x ≡ true

none_declared : (ds : List Decl) → AllDeclared ds []
none_declared ds x e = absurd (true≢false (sym e))

joined_declared : (ds : List Decl) (ts us : List Name) → AllDeclared ds ts → AllDeclared ds us → AllDeclared ds (ts ++ us)
joined_declared ds [] us g h x e = h x e
joined_declared ds (t ∷ ts) us g h x e = go (same_name x t) refl e (joined_declared ds ts us (λ y f. g y (later y (same_name y t) f)) h x)
  where
    later : (y : Name) (b : Bool) → is_among ts y ≡ true → (b || is_among ts y) ≡ true
    later y true f = refl
    later y false f = f

    go : (b : Bool) → same_name x t ≡ b → (b || is_among (ts ++ us) x) ≡ true → (is_among (ts ++ us) x ≡ true → is_among (map variable_of ds) x ≡ true) → is_among (map variable_of ds) x ≡ true
    go true q e more = g x (λ i. q i || is_among ts x)
    go false q e more = more e

-- a variable with a kind
has_kind : (ds : List Decl) (x : Name) (k : Kind) → kind_in ds x ≡ Some k → is_among (map variable_of ds) x ≡ true
has_kind [] x k e = cc
has_kind (decl.Var y j c ∷ ds) x k e = go (same_name x y) e (has_kind ds x k)
  where
    go : (b : Bool) → (if b then Some j else kind_in ds x) ≡ Some k → (kind_in ds x ≡ Some k → is_among (map variable_of ds) x ≡ true) → (b || is_among (map variable_of ds) x) ≡ true
    go true e more = refl
    go false e more = more e
has_kind (decl.Input y j ∷ ds) x k e = go (same_name x y) e (has_kind ds x k)
  where
    go : (b : Bool) → (if b then Some j else kind_in ds x) ≡ Some k → (kind_in ds x ≡ Some k → is_among (map variable_of ds) x ≡ true) → (b || is_among (map variable_of ds) x) ≡ true
    go true e more = refl
    go false e more = more e

one_declared : (ds : List Decl) (x : Name) (k : Kind) → kind_in ds x ≡ Some k → AllDeclared ds (x ∷ [])
one_declared ds x k h y e = go (same_name y x) refl e
  where
    go : (b : Bool) → same_name y x ≡ b → (b || false) ≡ true → is_among (map variable_of ds) y ≡ true
    go true q e = subst (λ z. is_among (map variable_of ds) z ≡ true) (sym (exact_name y x q)) (has_kind ds x k h)
    go false q e = absurd (true≢false (sym e))

variables_declared : (ds : List Decl) (xs : List Name) (ks : List Kind) → AreDeclared ds xs ks → AllDeclared ds xs
variables_declared ds [] ks h = none_declared ds
variables_declared ds (x ∷ xs) [] h = absurd h
variables_declared ds (x ∷ xs) (k ∷ ks) (e, h) = joined_declared ds (x ∷ []) xs (one_declared ds x k e) (variables_declared ds xs ks h)

expression_declared : (names : Scope) (e : Expression) (k : Kind) → HasKind names e k → AllDeclared names.decls (variables_of e)
expression_declared names (Num n) k h = none_declared names.decls
expression_declared names (Truth b) k h = none_declared names.decls
expression_declared names (Var x) k h = one_declared names.decls x k h
expression_declared names (Tag e t) k h = none_declared names.decls
expression_declared names (Size s) k h = none_declared names.decls
expression_declared names (Paren e) k h = expression_declared names e k h
expression_declared names (Un Neg e) k (p, h) = expression_declared names e _ h
expression_declared names (Un Not e) k (p, h) = expression_declared names e _ h
expression_declared names (Bin Add e f) k (p, g, h) = joined_declared names.decls (variables_of e) (variables_of f) (expression_declared names e _ g) (expression_declared names f _ h)
expression_declared names (Bin Sub e f) k (p, g, h) = joined_declared names.decls (variables_of e) (variables_of f) (expression_declared names e _ g) (expression_declared names f _ h)
expression_declared names (Bin Mul e f) k (p, g, h) = joined_declared names.decls (variables_of e) (variables_of f) (expression_declared names e _ g) (expression_declared names f _ h)
expression_declared names (Bin And e f) k (p, g, h) = joined_declared names.decls (variables_of e) (variables_of f) (expression_declared names e _ g) (expression_declared names f _ h)
expression_declared names (Bin Or e f) k (p, g, h) = joined_declared names.decls (variables_of e) (variables_of f) (expression_declared names e _ g) (expression_declared names f _ h)
expression_declared names (Bin Eq e f) k (p, j, g, h) = joined_declared names.decls (variables_of e) (variables_of f) (expression_declared names e j g) (expression_declared names f j h)
expression_declared names (Bin Ne e f) k (p, j, g, h) = joined_declared names.decls (variables_of e) (variables_of f) (expression_declared names e j g) (expression_declared names f j h)
expression_declared names (Bin Lt e f) k (p, g, h) = joined_declared names.decls (variables_of e) (variables_of f) (expression_declared names e _ g) (expression_declared names f _ h)
expression_declared names (Bin Le e f) k (p, g, h) = joined_declared names.decls (variables_of e) (variables_of f) (expression_declared names e _ g) (expression_declared names f _ h)
expression_declared names (Bin Gt e f) k (p, g, h) = joined_declared names.decls (variables_of e) (variables_of f) (expression_declared names e _ g) (expression_declared names f _ h)
expression_declared names (Bin Ge e f) k (p, g, h) = joined_declared names.decls (variables_of e) (variables_of f) (expression_declared names e _ g) (expression_declared names f _ h)

module _ (P : Program) (r : RoleText) where
  mutual
    statement_declared : (binders : List Name) (s : Statement) → IsWellTyped P r binders s → AllDeclared r.decls (touched_by s)
    statement_declared binders (Assign x e) (k, h, g) = one_declared r.decls x k h
    statement_declared binders (Send c es u) h = none_declared r.decls
    statement_declared binders (Recv c xs u) ((ks, on, h, apart), p) = variables_declared r.decls xs ks h
    statement_declared binders (RecvAny c xs v s b) ((ks, on, h, apart), set, fresh, g) = joined_declared r.decls xs (touched_in b) (variables_declared r.decls xs ks h) (code_declared (v ∷ binders) b g)
    statement_declared binders (If e a) (h, g) = joined_declared r.decls (variables_of e) (touched_in a) (expression_declared (scope_in P r) e _ h) (code_declared binders a g)
    statement_declared binders (IfElse e a b) (h, g, f) =
        joined_declared r.decls (variables_of e ++ touched_in a) (touched_in b) (joined_declared r.decls (variables_of e) (touched_in a) (expression_declared (scope_in P r) e _ h) (code_declared binders a g)) (code_declared binders b f)
    statement_declared binders (While e b) (h, g) = joined_declared r.decls (variables_of e) (touched_in b) (expression_declared (scope_in P r) e _ h) (code_declared binders b g)
    statement_declared binders (For v s k b) (set, fresh, g) = code_declared (v ∷ binders) b g
    statement_declared binders (Repeat s k b) (set, g) = code_declared binders b g

    code_declared : (binders : List Name) (c : Code) → IsCodeWellTyped P r binders c → AllDeclared r.decls (touched_in c)
    code_declared binders done h = none_declared r.decls
    code_declared binders (s ⨾ c) (g, h) = joined_declared r.decls (touched_by s) (touched_in c) (statement_declared binders s g) (code_declared binders c h)

abbrev meant : Name → Name → Fact → Bool
meant u x q = same_name q.at u && same_name q.variable x

any_left : (test : Fact → Bool) (ps qs : List Fact) → list_any test ps ≡ true → list_any test (ps ++ qs) ≡ true
any_left test [] qs e = absurd (true≢false (sym e))
any_left test (p ∷ ps) qs e = go (test p) e (any_left test ps qs)
  where
    go : (b : Bool) → (b || list_any test ps) ≡ true → (list_any test ps ≡ true → list_any test (ps ++ qs) ≡ true) → (b || list_any test (ps ++ qs)) ≡ true
    go true e more = refl
    go false e more = more e

any_right : (test : Fact → Bool) (ps qs : List Fact) → list_any test qs ≡ true → list_any test (ps ++ qs) ≡ true
any_right test [] qs e = e
any_right test (p ∷ ps) qs e = go (test p) (any_right test ps qs e)
  where
    go : (b : Bool) → list_any test (ps ++ qs) ≡ true → (b || list_any test (ps ++ qs)) ≡ true
    go true h = refl
    go false h = h

placed : (n u x : Name) → same_name n u ≡ true → (ds : List Decl) → is_among (map variable_of ds) x ≡ true → list_any (meant u x) (map (λ d. record { at = n; variable = variable_of d }) ds) ≡ true
placed n u x same [] e = absurd (true≢false (sym e))
placed n u x same (d ∷ ds) e = go (same_name x (variable_of d)) refl e (placed n u x same ds)
  where
    later : (b : Bool) (c : Bool) → c ≡ true → (b || c) ≡ true
    later true c e = refl
    later false c e = e

    go : (b : Bool) → same_name x (variable_of d) ≡ b → (b || is_among (map variable_of ds) x) ≡ true → (is_among (map variable_of ds) x ≡ true → list_any (meant u x) (map (λ d. record { at = n; variable = variable_of d }) ds) ≡ true) →
        ((same_name n u && same_name (variable_of d) x) || list_any (meant u x) (map (λ d. record { at = n; variable = variable_of d }) ds)) ≡ true
    go true q e more = λ i. same i && (name_laws.symm (variable_of d) x ∙ q) i || list_any (meant u x) (map (λ d. record { at = n; variable = variable_of d }) ds)
    go false q e more = later (same_name n u && same_name (variable_of d) x) _ (more e)

roles_declared : (P : Program) (rs : List RoleText) → AllByRecursion (IsRoleWellTyped P) rs → (u x : Name) → is_among (touched_in (code_in (thread_named (map first_thread rs) u))) x ≡ true → list_any (meant u x) (places rs) ≡ true
roles_declared P [] h u x e = absurd (true≢false (sym e))
roles_declared P (r ∷ rs) (h, more) u x e = go (same_name u r.name) refl e (roles_declared P rs more u x)
  where
    go : (b : Bool) → same_name u r.name ≡ b → is_among (touched_in (code_in (if b then Some (first_thread r) else thread_named (map first_thread rs) u))) x ≡ true →
        (is_among (touched_in (code_in (thread_named (map first_thread rs) u))) x ≡ true → list_any (meant u x) (places rs) ≡ true) → list_any (meant u x) (places (r ∷ rs)) ≡ true
    go true q e rest =
        any_left (meant u x) (map (λ d. record { at = r.name; variable = variable_of d }) r.decls) (places rs)
        (placed r.name u x (name_laws.symm r.name u ∙ q) r.decls (code_declared P r [] r.code h.code x e))
    go false q e rest = any_right (meant u x) (map (λ d. record { at = r.name; variable = variable_of d }) r.decls) (places rs) (rest e)

first_sorted : (at : Name) (ds : List Decl) (F : Facts) → Sorted F → Sorted (first_facts at ds F)
first_sorted at [] F h = h
first_sorted at (decl.Var x k c ∷ ds) F h = sorted_with at x _ (first_facts at ds F) (first_sorted at ds F h)
first_sorted at (decl.Input x k ∷ ds) F h = first_sorted at ds F h

all_sorted : (rs : List RoleText) → Sorted (all_first_facts rs)
all_sorted [] = tt
all_sorted (r ∷ rs) = first_sorted r.name r.decls (all_first_facts rs) (all_sorted rs)

-- so the start is fit
pub fit_first : (P : Program) → IsProgramWellTyped P → Fit P (initial P)
fit_first P h = record { declared = roles_declared P P.roles h.roles; sorted = all_sorted P.roles }
