-- Single tokens, and lists.
use Rattle.std.specs.Prelude.{ℕ, zero, suc, ◌-◌, nat_eq, Bool, true, false, if◌then◌else◌, List, [], ◌∷◌, Option, Some, Ok}
use Rattle.brisk_values.specs.Names.{Name}
use Rattle.brisk_lex.specs.declared.token.Mark.TheVariants as m
use Rattle.brisk_lex.specs.declared.token.Token.{Token}
use Rattle.brisk_lex.specs.declared.token.Token.TheVariants as t
use Rattle.brisk_parse.specs.Input.{head, after, sees}
use Rattle.brisk_parse.specs.Outcomes.{Parser, pure, refuse, pass_limit, ◌>>=◌}

-- the token k
unfoldable pub expect : Token → Parser (Unit {0})
expect k = λ i. if sees k i then Ok (tt, after i) else refuse i

abbrev pub name_by : Option Token → Parser Name
name_by (Some (t.Name x)) = λ i. Ok (x, after i)
name_by _ = refuse

-- a name
unfoldable pub name : Parser Name
name = λ i. name_by (head i) i

abbrev pub number_by : Option Token → Parser ℕ
number_by (Some (t.Num n)) = λ i. Ok (n, after i)
number_by _ = refuse

-- a number
unfoldable pub number : Parser ℕ
number = λ i. number_by (head i) i

-- the next token, which belongs to an expression
unfoldable pub spend : Parser (Unit {0})
spend = λ i. if nat_eq i.room 0 then pass_limit i else Ok (tt, record (after i) { room = i.room - 1 })

-- one statement more
unfoldable pub count : Parser (Unit {0})
count = λ i. if nat_eq i.statements 0 then pass_limit i else Ok (tt, record i { statements = i.statements - 1 })

-- ---- lists

-- items behind commas, at most n
unfoldable pub others : {A : Type 0} → (Option Token → Bool) → Parser A → ℕ → Parser (List A)
others begins one zero = λ i. if sees (t.Mark m.Comma) i then (if begins (head (after i)) then pass_limit (after i) else refuse (after i)) else Ok ([], i)
others begins one (suc n) = λ i.
    if sees (t.Mark m.Comma) i
    then (do x ← one; xs ← others begins one n; pure (x ∷ xs)) (after i)
    else Ok ([], i)

-- an item, and at most n others behind commas
unfoldable pub separated : {A : Type 0} → (Option Token → Bool) → Parser A → ℕ → Parser (List A)
separated begins one n = do
  x ← one
  xs ← others begins one n
  pure (x ∷ xs)

-- no item where none begins
unfoldable pub listed : {A : Type 0} → (Option Token → Bool) → Parser A → ℕ → Parser (List A)
listed begins one n = λ i. if begins (head i) then separated begins one n i else Ok ([], i)

-- items as long as one begins, at most n, put together by an end and a joint
unfoldable pub many : {A B : Type 0} → (Option Token → Bool) → Parser A → B → (A → B → B) → ℕ → Parser B
many begins one end joint zero = λ i. if begins (head i) then pass_limit i else Ok (end, i)
many begins one end joint (suc n) = λ i.
    if begins (head i)
    then (do x ← one; xs ← many begins one end joint n; pure (joint x xs)) i
    else Ok (end, i)

-- items as long as one begins, at most n
abbrev pub list_of : {A : Type 0} → (Option Token → Bool) → Parser A → ℕ → Parser (List A)
list_of begins one n = many begins one [] (λ x xs. x ∷ xs) n

-- a name begins
abbrev pub begins_name : Option Token → Bool
begins_name (Some (t.Name x)) = true
begins_name _ = false
