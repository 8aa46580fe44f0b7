-- What the two calls answer: the program that is denoted, or the first token at fault.
use Rattle.std.proofs.lemmas.List.{length-map}
use Rattle.std.proofs.Common.{◌≡◌, List, ◌++◌, length, Result, Ok, Err, sym, subst, ◌∙◌, [], ap, ◌-◌, refl, arith}
use Rattle.brisk_lex.specs.declared.token.Placed.{Placed}
use Rattle.brisk_syntax.specs.declared.program.Program.{Program}
use Rattle.brisk_syntax.specs.Counts.{program_statements}
use Rattle.brisk_parse.specs.declared.fault.Stop.{Stop}
use Rattle.brisk_parse.specs.declared.fault.Stop.TheVariants.{Syntax, TooDeep, TooMany, NoMemory}
use Rattle.brisk_parse.specs.Answers.{AnswersStop, fault_at, IsAnswer, IsSequence}
use Rattle.brisk_parse.specs.Declarations as read
use Rattle.brisk_parse.specs.Declarations.{program}
use Rattle.brisk_parse.specs.Faults.{programs, sequences, IsFault}
use Rattle.brisk_parse.specs.Input.{Input, at, tokens_of}
use Rattle.brisk_parse.specs.Levelled.{LevelledProgram}
use Rattle.brisk_seq.specs.declared.tree.SeqProgram.{SeqProgram}
use Rattle.brisk_parse.specs.Limits.{Limits, source, sequence}
use Rattle.brisk_parse.specs.Laws.{ProgramsPassNone, SequencesPassNone}
use Rattle.brisk_parse.specs.Passing as passing
use Rattle.brisk_parse.specs.SequencePassing as sequence_passing
use Rattle.brisk_parse.specs.Sequences as read_sequence
use Rattle.brisk_parse.specs.Sequences.{sequential}
use Rattle.brisk_parse.specs.SequenceSpelling.{sequence_spelling, LevelledSequence, count_items, SequenceWithin, DenotesSequence}
use Rattle.brisk_parse.specs.Spelling.{spelling}
use Rattle.brisk_parse.specs.Within.{Within, Denotes}
use Rattle.brisk_parse.proofs.Enough.{program_enough}
use Rattle.brisk_parse.proofs.EnoughItems.{sequence_enough}
use Rattle.brisk_parse.proofs.Faulty.{stops_at}
use Rattle.brisk_parse.proofs.FoundPrograms as programs_found
use Rattle.brisk_parse.proofs.FoundSequences as sequences_found
use Rattle.brisk_parse.proofs.Judged.{judged}
use Rattle.brisk_parse.proofs.JudgedPrograms as programs_judged
use Rattle.brisk_parse.proofs.JudgedSequences as sequences_judged
use Rattle.brisk_parse.proofs.NothingPassed.{program_free}
use Rattle.brisk_parse.proofs.NothingPassedItems.{sequence_free}
use Rattle.brisk_parse.proofs.PredictPrograms as programs_predict
use Rattle.brisk_parse.proofs.PredictSequences as sequences_predict

same_ok : {A E : Type 0} (x y : A) → (let r : Result A E = Ok x in r ≡ Ok y) → x ≡ y
same_ok x y h = cc

not_both : {A E : Type 0} (r : Result A E) (x : A) (d : E) → r ≡ Ok x → r ≡ Err d → ⊥
not_both r x d h g = cc

-- ---- programs

-- what is spelled as a levelled program within the limits is read
program_read : (l : Limits) (P : Program) → LevelledProgram P → Within l P → read.whole l (at (spelling P) 0 l.statements) ≡ Ok (P, at [] 0 (l.statements - program_statements P))
program_read l P levelled within =
    programs_judged.whole_judged l P 0 levelled ∙ ap (λ p. judged p (spelling P) (Ok (P, at [] 0 (l.statements - program_statements P)))) (program_free l P within)

-- what a source's tokens denote is what is read
program_only : (tokens : List Placed) (P : Program) → Denotes tokens P → program source tokens ≡ Ok P
unfolding program
program_only tokens P h = rw (h.spelled, program_read source P h.levelled h.within) refl

-- the tokens denote at most one program
pub denotes_one : (tokens : List Placed) (P Q : Program) → Denotes tokens P → Denotes tokens Q → P ≡ Q
denotes_one tokens P Q p q = same_ok P Q (sym (program_only tokens P p) ∙ program_only tokens Q q)

program_found : (l : Limits) (i : Input) (P : Program) (j : Input) → read.whole l i ≡ Ok (P, j) → (i.rest ≡ spelling P ++ j.rest) × LevelledProgram P
program_found l i P j h = let f = (programs_found.whole_found l i).holds P j h in (f.spelled, f.good.levelled)

program_stops : (tokens : List Placed) (d : Stop) → program source tokens ≡ Err d → IsFault programs (tokens_of tokens) (fault_at (length (tokens_of tokens)) d)
unfolding program
program_stops tokens d h = stops_at Program spelling LevelledProgram Within program_statements read.whole program_enough program_read program_found programs_predict.whole_rule passing.program (λ l P. programs_judged.whole_judged l P 0) source (tokens_of tokens) d h

-- what is told where reading stops, which isn't for want of memory
told : (tokens : List Placed) (d : Stop) → program source tokens ≡ Err d → IsFault programs (tokens_of tokens) (fault_at (length tokens) d) × ((P : Program) → Denotes tokens P → ⊥)
told tokens d h = (subst (λ n. IsFault programs (tokens_of tokens) (fault_at n d)) (length-map tokens (λ (p : Placed). p.token)) (program_stops tokens d h), λ P p. not_both (program source tokens) P d (program_only tokens P p) h)

pub stopped : (tokens : List Placed) (d : Stop) → AnswersStop d (program source tokens) → IsAnswer tokens (Err (fault_at (length tokens) d))
stopped tokens (Syntax k) h = told tokens (Syntax k) h
stopped tokens (TooDeep k) h = told tokens (TooDeep k) h
stopped tokens (TooMany k) h = told tokens (TooMany k) h
stopped tokens NoMemory h = tt

-- ---- sequential programs

-- what is spelled as a levelled sequential program within the limits is read
sequence_read : (l : Limits) (P : SeqProgram) → LevelledSequence P → SequenceWithin l P → read_sequence.whole l (at (sequence_spelling P) 0 l.statements) ≡ Ok (P, at [] 0 (l.statements - count_items P.body))
sequence_read l P levelled within =
    sequences_judged.whole_judged l P 0 levelled ∙ ap (λ p. judged p (sequence_spelling P) (Ok (P, at [] 0 (l.statements - count_items P.body)))) (sequence_free l P within)

-- what a sequential text's tokens denote is what is read
sequential_only : (tokens : List Placed) (P : SeqProgram) → DenotesSequence tokens P → sequential sequence tokens ≡ Ok P
unfolding sequential
sequential_only tokens P h = rw (h.spelled, sequence_read sequence P h.levelled h.within) refl

-- the tokens denote at most one sequential program
pub denotes_one_sequence : (tokens : List Placed) (P Q : SeqProgram) → DenotesSequence tokens P → DenotesSequence tokens Q → P ≡ Q
denotes_one_sequence tokens P Q p q = same_ok P Q (sym (sequential_only tokens P p) ∙ sequential_only tokens Q q)

sequence_found : (l : Limits) (i : Input) (P : SeqProgram) (j : Input) → read_sequence.whole l i ≡ Ok (P, j) → (i.rest ≡ sequence_spelling P ++ j.rest) × LevelledSequence P
sequence_found l i P j h = let f = (sequences_found.whole_found l i).holds P j h in (f.spelled, f.good.levelled)

sequence_stops : (tokens : List Placed) (d : Stop) → sequential sequence tokens ≡ Err d → IsFault sequences (tokens_of tokens) (fault_at (length (tokens_of tokens)) d)
unfolding sequential
sequence_stops tokens d h = stops_at SeqProgram sequence_spelling LevelledSequence SequenceWithin (λ P. count_items P.body) read_sequence.whole sequence_enough sequence_read sequence_found sequences_predict.whole_rule sequence_passing.sequence (λ l P. sequences_judged.whole_judged l P 0) sequence (tokens_of tokens) d h

sequence_told : (tokens : List Placed) (d : Stop) → sequential sequence tokens ≡ Err d → IsFault sequences (tokens_of tokens) (fault_at (length tokens) d) × ((P : SeqProgram) → DenotesSequence tokens P → ⊥)
sequence_told tokens d h = (subst (λ n. IsFault sequences (tokens_of tokens) (fault_at n d)) (length-map tokens (λ (p : Placed). p.token)) (sequence_stops tokens d h), λ P p. not_both (sequential sequence tokens) P d (sequential_only tokens P p) h)

pub sequence_stopped : (tokens : List Placed) (d : Stop) → AnswersStop d (sequential sequence tokens) → IsSequence tokens (Err (fault_at (length tokens) d))
sequence_stopped tokens (Syntax k) h = sequence_told tokens (Syntax k) h
sequence_stopped tokens (TooDeep k) h = sequence_told tokens (TooDeep k) h
sequence_stopped tokens (TooMany k) h = sequence_told tokens (TooMany k) h
sequence_stopped tokens NoMemory h = tt

-- ---- limits

pub programs_pass_none : ProgramsPassNone
programs_pass_none P levelled =
    let last = at [] 0 (source.statements - program_statements P) in
    let i = at (spelling P) 0 source.statements in (
      λ within. program_free source P within,
      λ free. programs_found.whole_within source i P last (omega arith) (programs_judged.whole_judged source P 0 levelled ∙ ap (λ p. judged p (spelling P) (Ok (P, last))) free),
    )

pub sequences_pass_none : SequencesPassNone
sequences_pass_none P levelled =
    let last = at [] 0 (sequence.statements - count_items P.body) in
    let i = at (sequence_spelling P) 0 sequence.statements in (
      λ within. sequence_free sequence P within,
      λ free. sequences_found.whole_within sequence i P last (omega arith) (sequences_judged.whole_judged sequence P 0 levelled ∙ ap (λ p. judged p (sequence_spelling P) (Ok (P, last))) free),
    )
