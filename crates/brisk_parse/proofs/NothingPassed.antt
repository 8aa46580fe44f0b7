-- A program within the limits passes none.
use Rattle.std.proofs.Common.{◌≡◌, ℕ, zero, suc, ◌+◌, ◌-◌, ◌≤◌, List, [], ◌∷◌, length, sum_by, refl, ap, ◌∙◌, arith}
use Rattle.std.specs.List.{AllByRecursion}
use Rattle.std.proofs.lemmas.Bool.{le-leb}
use Rattle.std.proofs.lemmas.List.Sums.{sum_by-cons}
use Rattle.brisk_values.specs.Names.{Name}
use Rattle.brisk_lex.specs.declared.token.Mark.TheVariants as m
use Rattle.brisk_lex.specs.declared.token.Token.{Token}
use Rattle.brisk_syntax.specs.declared.program.EnumDecl.{EnumDecl}
use Rattle.brisk_syntax.specs.declared.program.Channel.{Channel}
use Rattle.brisk_syntax.specs.declared.program.Program.{Program}
use Rattle.brisk_syntax.specs.Counts.{statements_in, statements}
use Rattle.brisk_syntax.specs.Depths.{statement_depth, code_depth}
use Rattle.brisk_syntax.specs.Roles.{RoleText}
use Rattle.brisk_syntax.specs.Syntax.{Expression, Statement, Assign, Send, Recv, RecvAny, If, IfElse, While, For, Repeat, Code, done, ◌⨾◌}
use Rattle.brisk_parse.specs.Limits.{Limits}
use Rattle.brisk_parse.specs.Passing.{Passing, Nowhere, behind, or_behind}
use Rattle.brisk_parse.specs.Passing as passing
use Rattle.brisk_parse.specs.Spelling as spell
use Rattle.brisk_parse.specs.Within.{Short, StatementWithin, CodeWithin, EnumWithin, ChannelWithin, RoleWithin, Within}
use Rattle.brisk_parse.proofs.FoundStatements.{none_used}
use Rattle.brisk_parse.proofs.StatementParts.{all_any, counted}

pub not_behind : {p : Passing} (ts : List Token) → p ≡ Nowhere → behind ts p ≡ Nowhere
not_behind ts h = ap (behind ts) h

pub neither : {p q : Passing} (ts : List Token) → p ≡ Nowhere → q ≡ Nowhere → or_behind p ts q ≡ Nowhere
neither ts h g = rw (h, g) refl

-- ---- lists

module _ {A : Type 0} (passes : A → Passing) (spelled : A → List Token) where
  commas_free : (n : ℕ) (xs : List A) → AllByRecursion (λ x. passes x ≡ Nowhere) xs → length xs ≤ n → passing.behind_commas passes spelled n xs ≡ Nowhere
  commas_free n [] free le = refl
  commas_free zero (x ∷ xs) free le = absurd (omega (arith, le))
  commas_free (suc n) (x ∷ xs) free le = not_behind (spell.mark m.Comma) (neither (spelled x) free.0 (commas_free n xs free.1 (omega (arith, le))))

  pub separated_free : (n : ℕ) (xs : List A) → AllByRecursion (λ x. passes x ≡ Nowhere) xs → length xs ≤ 1 + n → passing.separated passes spelled n xs ≡ Nowhere
  separated_free n [] free le = refl
  separated_free n (x ∷ xs) free le = neither (spelled x) free.0 (commas_free n xs free.1 (omega (arith, le)))

module _ {A : Type 0} (passes : ℕ → A → Passing) (used : A → ℕ) (spelled : A → List Token) (Good : A → Type 0) (free : (n : ℕ) (x : A) → Good x → used x ≤ n → passes n x ≡ Nowhere) where
  pub all_free : (m n : ℕ) (xs : List A) → AllByRecursion Good xs → length xs ≤ m → sum_by used xs ≤ n → passing.all_of passes used spelled m n xs ≡ Nowhere
  all_free m n [] good le few = refl
  all_free zero n (x ∷ xs) good le few = absurd (omega (arith, le))
  all_free (suc m) n (x ∷ xs) good le few =
      let sum = sum_by-cons used x xs in
      neither (spelled x) (free n x good.0 (omega (arith, few, sum))) (all_free m (n - used x) xs good.1 (omega (arith, le)) (omega (arith, few, sum)))

-- what holds of each holds of each
pub each_free : {A : Type 0} (P Q : A → Type 0) → ((x : A) → P x → Q x) → (xs : List A) → AllByRecursion P xs → AllByRecursion Q xs
each_free P Q f [] h = tt
each_free P Q f (x ∷ xs) h = (f x h.0, each_free P Q f xs h.1)

-- ---- statements

pub block_free : (d : ℕ) (inside : ℕ → Passing) → 1 ≤ d → inside (d - 1) ≡ Nowhere → passing.block d (inside (d - 1)) ≡ Nowhere
block_free zero inside le h = absurd (omega (arith, le))
block_free (suc d) inside le h = not_behind (spell.mark m.LBrace) h

pub counted_free : (n : ℕ) (inside : ℕ → Passing) → 1 ≤ n → inside (n - 1) ≡ Nowhere → passing.counted n inside ≡ Nowhere
counted_free zero inside le h = absurd (omega (arith, le))
counted_free (suc n) inside le h = let same : n ≡ suc n - 1 = omega arith in ap inside same ∙ h

module _ (l : Limits) where
  pub expression_free : (e : Expression) → Short l e → passing.expression l e ≡ Nowhere
  expression_free e h = rw (le-leb (length (spell.expression e)) l.tokens h) refl

  pub expressions_free : (es : List Expression) → length es ≤ 1 + l.places → AllByRecursion (Short l) es → passing.expressions l es ≡ Nowhere
  expressions_free es le h = separated_free (passing.expression l) spell.expression l.places es (each_free (Short l) (λ e. passing.expression l e ≡ Nowhere) expression_free es h) le

  pub variables_free : (xs : List Name) → length xs ≤ 1 + l.places → passing.variables l xs ≡ Nowhere
  variables_free xs le = separated_free (λ _. Nowhere) spell.name l.places xs (each_free (λ _. Unit {0}) (λ _. Nowhere ≡ Nowhere) (λ x h. refl) xs (all_any xs)) le

  abbrev body : ℕ → Code → ℕ → Passing
  body n c d = passing.code l d n c

  mutual
    statement_free : (d n : ℕ) (s : Statement) → StatementWithin l s → statement_depth s ≤ d → statements_in s ≤ 1 + n → passing.statement l d n s ≡ Nowhere
    statement_free d n (Assign x e) h depth few = rw (expression_free e h) refl
    statement_free d n (Send c es u) h depth few = rw (expressions_free es h.0 h.1) refl
    statement_free d n (Recv c xs u) h depth few = rw (variables_free xs h) refl
    statement_free d n (RecvAny c xs v s b) h depth few = rw (variables_free xs h.0, block_free d (body n b) (omega (arith, depth)) (code_free (d - 1) n b h.1 (omega (arith, depth)) (omega (arith, few)))) refl
    statement_free d n (If e a) h depth few = rw (expression_free e h.0, block_free d (body n a) (omega (arith, depth)) (code_free (d - 1) n a h.1 (omega (arith, depth)) (omega (arith, few)))) refl
    statement_free d n (IfElse e a b) h depth few =
        let one = block_free d (body n a) (omega (arith, depth)) (code_free (d - 1) n a h.1 (omega (arith, depth)) (omega (arith, few))) in
        let two = block_free d (body (n - statements a) b) (omega (arith, depth)) (code_free (d - 1) (n - statements a) b h.2 (omega (arith, depth)) (omega (arith, few))) in
        rw (expression_free e h.0, one, two) refl
    statement_free d n (While e b) h depth few = rw (expression_free e h.0, block_free d (body n b) (omega (arith, depth)) (code_free (d - 1) n b h.1 (omega (arith, depth)) (omega (arith, few)))) refl
    statement_free d n (For v s k b) h depth few = rw (block_free d (body n b) (omega (arith, depth)) (code_free (d - 1) n b h (omega (arith, depth)) (omega (arith, few)))) refl
    statement_free d n (Repeat s k b) h depth few = rw (block_free d (body n b) (omega (arith, depth)) (code_free (d - 1) n b h (omega (arith, depth)) (omega (arith, few)))) refl

    code_free : (d n : ℕ) (c : Code) → CodeWithin l c → code_depth c ≤ d → statements c ≤ n → passing.code l d n c ≡ Nowhere
    code_free d n done h depth few = refl
    code_free d n (s ⨾ c) h depth few =
        neither (spell.statement s) (counted_free n (λ n. passing.statement l d n s) (omega (arith, few, counted s)) (statement_free d (n - 1) s h.0 (omega (arith, depth)) (omega (arith, few, counted s))))
        (code_free d (n - statements_in s) c h.1 (omega (arith, depth)) (omega (arith, few)))

  -- ---- programs

  enumeration_free : (e : EnumDecl) → EnumWithin l e → passing.enumeration l e ≡ Nowhere
  enumeration_free e h = rw (separated_free (λ _. Nowhere) spell.name l.tags e.tags (each_free (λ _. Unit {0}) (λ _. Nowhere ≡ Nowhere) (λ x h. refl) e.tags (all_any e.tags)) h) refl

  pub enumerations_free : (es : List EnumDecl) → AllByRecursion (EnumWithin l) es → length es ≤ l.enums → passing.all_of (λ _ e. passing.enumeration l e) (λ _. 0) spell.enumeration l.enums 0 es ≡ Nowhere
  enumerations_free es h le = all_free (λ _ e. passing.enumeration l e) (λ _. 0) spell.enumeration (EnumWithin l) (λ n e h few. enumeration_free e h) l.enums 0 es h le (omega (arith, none_used es))

  channel_free : (c : Channel) → ChannelWithin l c → passing.channel l c ≡ Nowhere
  channel_free c h = rw (separated_free (λ _. Nowhere) spell.kind l.kinds c.kinds (each_free (λ _. Unit {0}) (λ _. Nowhere ≡ Nowhere) (λ x h. refl) c.kinds (all_any c.kinds)) h) refl

  pub declarations_free : (r : RoleText) → length r.decls ≤ l.declarations → passing.declarations l r ≡ Nowhere
  declarations_free r h = all_free (λ _ _. Nowhere) (λ _. 0) spell.declaration (λ _. Unit {0}) (λ n d h few. refl) l.declarations 0 r.decls (all_any r.decls) h (omega (arith, none_used r.decls))

  role_free : (n : ℕ) (r : RoleText) → RoleWithin l r → statements r.code ≤ n → passing.role l n r ≡ Nowhere
  role_free n r h few = rw (declarations_free r h.0, code_free l.nesting n r.code h.2 h.1 few) refl

  pub program_free : (P : Program) → Within l P → passing.program l P ≡ Nowhere
  program_free P h =
      neither (spell.all_of spell.enumeration P.enums) (enumerations_free P.enums h.each_enum h.enums)
      (neither (spell.all_of spell.channel P.channels) (all_free (λ _ c. passing.channel l c) (λ _. 0) spell.channel (ChannelWithin l) (λ n c h few. channel_free c h) l.channels 0 P.channels h.each_channel h.channels (omega (arith, none_used P.channels)))
      (all_free (passing.role l) (λ r. statements r.code) spell.role (RoleWithin l) (λ n r h few. role_free n r h few) l.roles l.statements P.roles h.each_role h.roles h.statements))
