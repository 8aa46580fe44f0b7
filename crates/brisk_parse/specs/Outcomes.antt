-- Parsers: what they read, or where they stop.
use Rattle.std.specs.Prelude.{◌≡◌, length, Result, Ok, Err}
use Rattle.brisk_parse.specs.Input.{Input}
use Rattle.brisk_parse.specs.declared.fault.Stop.{Stop}
use Rattle.brisk_parse.specs.declared.fault.Stop.TheVariants.{Syntax, TooDeep, TooMany, NoMemory}

-- what is read and what is left, or why reading stops
abbrev pub Outcome : Type 0 → Type 0
Outcome A = Result (A × Input) Stop

abbrev pub Parser : Type 0 → Type 0
Parser A = Input → Outcome A

abbrev pub and_then : {A B : Type 0} → Outcome A → (A → Parser B) → Outcome B
and_then (Ok p) f = f p.0 p.1
and_then (Err e) f = Err e

infixl 10 ◌>>=◌
-- one parser, and then the one that its value gives
abbrev pub ◌>>=◌ : {A B : Type 0} → Parser A → (A → Parser B) → Parser B
p >>= f = λ i. and_then (p i) f

infixl 10 ◌>>◌
-- one parser after another
abbrev pub ◌>>◌ : {A B : Type 0} → Parser A → Parser B → Parser B
p >> q = p >>= (λ _. q)

-- reads nothing, and gives a
abbrev pub pure : {A : Type 0} → A → Parser A
pure a = λ i. Ok (a, i)

-- nothing goes on with the next token
abbrev pub refuse : {A : Type 0} → Parser A
refuse = λ i. Err (Syntax (length i.rest))

-- a limit is passed at the next token
abbrev pub pass_limit : {A : Type 0} → Parser A
pass_limit = λ i. Err (TooMany (length i.rest))

-- the parser stops so, unless memory ran out
abbrev pub Stops : {Y : Type 0} → Stop → Outcome Y → Type 0
Stops NoMemory read = Unit {0}
Stops (Syntax k) read = read ≡ Err (Syntax k)
Stops (TooMany k) read = read ≡ Err (TooMany k)
Stops (TooDeep k) read = read ≡ Err (TooDeep k)

-- what a reader answers, and where it then stands, is the parser's outcome, with the answer seen by view
abbrev pub Reads : {X Y : Type 0} → (X → Y) → Result X Stop → Input → Outcome Y → Type 0
Reads view (Ok x) now read = read ≡ Ok (view x, now)
Reads view (Err e) now read = Stops e read
