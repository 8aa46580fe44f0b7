-- What the code cuts off, seen as what the definition does.
use Rattle.std.specs.Prelude.{◌≡◌, ℕ, drop, Result, Ok, Err}
use Rattle.std.specs.Str.{chars}
use Rattle.brisk_lex.specs.declared.cut.Cut as kinds
use Rattle.brisk_lex.specs.declared.cut.Cut.TheVariants as code
use Rattle.brisk_lex.specs.declared.fault.LexFault.{LexFault}
use Rattle.brisk_lex.specs.declared.fault.LexFault.TheVariants.{NotUtf8, BadChar, NumberTooLarge, NameTooLong, NoMemory}
use Rattle.brisk_lex.specs.Tokens.{Text, Cut, Blank, Takes, Fails}

-- s is what is cut off before the characters cs
abbrev pub Cuts : Cut → Text → kinds.Cut → Type 0
Cuts s cs (code.Blank next) = (k : ℕ) × (s ≡ Blank k) × (chars next.now ≡ drop k cs)
Cuts s cs (code.Takes t next) = (k : ℕ) × (s ≡ Takes t k) × (chars next.now ≡ drop k cs)
Cuts s cs (code.Fails w) = s ≡ Fails w

-- the fault that is read; want of memory says nothing of what is read
abbrev pub IsFault : {Y : Type 0} → LexFault → Result Y LexFault → Type 0
IsFault NoMemory read = Unit {0}
IsFault (NotUtf8 n) read = read ≡ Err (NotUtf8 n)
IsFault (BadChar n) read = read ≡ Err (BadChar n)
IsFault (NumberTooLarge n) read = read ≡ Err (NumberTooLarge n)
IsFault (NameTooLong n) read = read ≡ Err (NameTooLong n)

-- a call answers what is read, where a list of tokens is seen by view
abbrev pub Gives : {X Y : Type 0} → (X → Y) → Result X LexFault → Result Y LexFault → Type 0
Gives view (Ok x) read = read ≡ Ok (view x)
Gives view (Err e) read = IsFault e read
