-- What is answered at the end of reading.
use Rattle.std.specs.Prelude.{◌≡◌, ℕ, ◌-◌, List, Result, Ok, Err}
use Rattle.brisk_lex.specs.declared.token.Placed.{Placed}
use Rattle.brisk_syntax.specs.declared.program.Program.{Program}
use Rattle.brisk_seq.specs.declared.tree.SeqProgram.{SeqProgram}
use Rattle.brisk_parse.specs.Faults.{programs, sequences, IsFault}
use Rattle.brisk_parse.specs.Input.{tokens_of}
use Rattle.brisk_parse.specs.SequenceSpelling.{DenotesSequence}
use Rattle.brisk_parse.specs.Within.{Denotes}
use Rattle.brisk_parse.specs.declared.fault.Stop.{Stop}
use Rattle.brisk_parse.specs.declared.fault.Stop.TheVariants as stop
use Rattle.brisk_parse.specs.declared.fault.ParseFault.{ParseFault}
use Rattle.brisk_parse.specs.declared.fault.ParseFault.TheVariants.{SyntaxFault, TooDeep, TooMany, NoMemory}

abbrev pub AnswersStop : {Y : Type 0} → Stop → Result Y Stop → Type 0
AnswersStop stop.NoMemory read = Unit {0}
AnswersStop (stop.Syntax k) read = read ≡ Err (stop.Syntax k)
AnswersStop (stop.TooDeep k) read = read ≡ Err (stop.TooDeep k)
AnswersStop (stop.TooMany k) read = read ≡ Err (stop.TooMany k)

-- the answer is what is read, seen by view, unless memory ran out
abbrev pub Answers : {X Y : Type 0} → (X → Y) → Result X Stop → Result Y Stop → Type 0
Answers view (Ok x) read = read ≡ Ok (view x)
Answers view (Err e) read = AnswersStop e read

-- the fault at the token where so many of so many are left
abbrev pub fault_at : ℕ → Stop → ParseFault
fault_at total (stop.Syntax left) = SyntaxFault (total - left)
fault_at total (stop.TooDeep left) = TooDeep (total - left)
fault_at total (stop.TooMany left) = TooMany (total - left)
fault_at total stop.NoMemory = NoMemory

abbrev pub faulted : {A : Type 0} → ℕ → Result A Stop → Result A ParseFault
faulted total (Ok x) = Ok x
faulted total (Err stop) = Err (fault_at total stop)

-- the answer is what is read of so many tokens, or want of memory
abbrev pub Read : {A : Type 0} → ℕ → Result A Stop → Result A ParseFault → Type 0
Read total read (Err NoMemory) = Unit {0}
Read total read result = result ≡ faulted total read

-- Ok with the program that the tokens denote; where they denote none, the first token at fault; or want of memory
abbrev pub IsAnswer : List Placed → Result Program ParseFault → Type 0
IsAnswer tokens (Ok P) = Denotes tokens P
IsAnswer tokens (Err NoMemory) = Unit {0}
IsAnswer tokens (Err fault) = IsFault programs (tokens_of tokens) fault × ((P : Program) → Denotes tokens P → ⊥)

-- Ok with the sequential program that the tokens denote; where they denote none, the first token at fault; or want of memory
abbrev pub IsSequence : List Placed → Result SeqProgram ParseFault → Type 0
IsSequence tokens (Ok P) = DenotesSequence tokens P
IsSequence tokens (Err NoMemory) = Unit {0}
IsSequence tokens (Err fault) = IsFault sequences (tokens_of tokens) fault × ((P : SeqProgram) → DenotesSequence tokens P → ⊥)
